use Rattle.std.proofs.Common.{◌≡◌, ◌+◌, ℕ, ap, ◌∙◌, sym, subst, arith}
use Rattle.phaser_core.specs.declared.view.ReporterView.{ReporterView}
use Rattle.phaser_core.specs.Views.{left_of}
use Rattle.phaser_words.specs.WordSeats.{reading, writing, numbers}
use Rattle.recorder_core.proofs.Joining.{OneMore, one_more}
use Rattle.recorder_core.proofs.places.Recorder.join_writer.Goals as goal

pub overflow_add-into-2 : goal.overflow_add-into-2
overflow_add-into-2 c =
    let into = c.args.into.now in let sized = c.args.self.now.words.sized in
    let more : OneMore (reading c.join.new.into) (into.joined + 1) (into.made + (left_of (writing c.args.gone.words)).made) =
    one_more (numbers c.args.self.now.words) (reading c.join.new.into) _ _ _ _ (ap (λ (r : ReporterView). r.joined) c.join.ensures.taken) into.joined_are into.made_are c.recall.ensures.knows.counts sized.2 in
    let made = c.made-made.ensures in let low = more.low in omega arith

pub invariant_of-into : goal.invariant_of-into
invariant_of-into c =
    let into = c.args.into.now in let sized = c.args.self.now.words.sized in
    let more : OneMore (reading c.join.new.into) (into.joined + 1) (into.made + (left_of (writing c.args.gone.words)).made) =
    one_more (numbers c.args.self.now.words) (reading c.join.new.into) _ _ _ _ (ap (λ (r : ReporterView). r.joined) c.join.ensures.taken) into.joined_are into.made_are c.recall.ensures.knows.counts sized.2 in
    let made : into.made + (left_of (writing c.args.gone.words)).made ≡ into.made + c.made-made.result = ap (λ (m : ℕ). into.made + m) (sym c.made-made.ensures) in
    let now : OneMore (reading c.recall.new.seat) (into.joined + 1) (into.made + c.made-made.result) =
    subst (λ (z : ReporterView × ℕ). OneMore z.0 (into.joined + 1) z.1) (λ i. (sym c.recall.ensures.same i, made i)) more in
    record {
      idle = ap (λ (r : ReporterView). r.closing) (c.recall.ensures.same ∙ c.join.ensures.taken) ∙ into.idle;
      joined_are = now.joined;
      made_are = now.made;
      order = now.order;
    }
