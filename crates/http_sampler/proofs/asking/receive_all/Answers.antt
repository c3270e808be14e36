use Rattle.std.proofs.Common.{◌++◌, List, ℕ, [], take, None, Err, refl, ap, subst, ◌∙◌, arith}
use Rattle.edge_io.proofs.EdgeLaws.{Keeps-refl, Keeps-trans, Appends-nil, Appends-append, Consumes-append}
use Rattle.http_text.specs.ResponseGrammar
use Rattle.http_text.specs.ResponseGrammar.{Response, Open}
use Rattle.http_sampler.proofs.Moving.{Appends-from_Keeps, Consumes-from_Keeps}
use Rattle.http_sampler.proofs.Outcomes.{settled_reply, settled_refusal}
use Rattle.http_sampler.proofs.asking.receive_all.Goals as goal

pub loop-init : goal.loop-init
loop-init g c = record {
  got = [];
  sent = Keeps-refl (g.S.Stream.sent c.args.stream.now);
  gave = Appends-nil (g.S.Stream.given c.args.stream.now);
  came = Consumes-from_Keeps _ _ (Keeps-refl (g.S.Stream.left c.args.stream.now));
  faults = refl;
  same = refl;
  read = c.requires;
  unsettled = (None, ResponseGrammar.open_head refl (omega arith));
}

pub loop-preserved : goal.loop-preserved
loop-preserved g c =
    let answer = rw c.in-Ok-More.field-0-is at c.in-Ok-More.ensures.answer c.loop.invariant.got c.loop.invariant.read in
    let same = c.in-Ok-More.ensures.head_only ∙ c.loop.invariant.same in
    let piece : List ℕ = take c.in-Ok.count c.receive.new.into in
    record {
      got = c.loop.invariant.got ++ piece;
      sent = Keeps-trans _ _ _ c.loop.invariant.sent c.in-Ok.ensures.sent;
      gave = Appends-append _ _ _ c.loop.invariant.got piece c.loop.invariant.gave c.in-Ok.ensures.given;
      came = Consumes-append _ _ _ c.loop.invariant.got piece c.loop.invariant.came c.in-Ok.ensures.bytes;
      faults = c.in-Ok.ensures.ok ∙ c.loop.invariant.faults;
      same = same;
      read = answer.2;
      unsettled = (answer.0, subst (λ h. Response h (c.loop.invariant.got ++ piece) (Open answer.0)) same answer.1);
    }

pub returns-in-Ok-Done-clause-received : goal.returns-in-Ok-Done-clause-received
returns-in-Ok-Done-clause-received g c =
    let answer = rw c.in-Ok-Done.field-0-is at c.in-Ok-Done.ensures.answer c.loop.invariant.got c.loop.invariant.read in
    let same = c.in-Ok-Done.ensures.head_only ∙ c.loop.invariant.same in
    let piece : List ℕ = take c.in-Ok.count c.receive.new.into in (
      c.loop.invariant.got ++ piece,
      record {
        went = Appends-from_Keeps _ _ (Keeps-trans _ _ _ c.loop.invariant.sent c.in-Ok.ensures.sent);
        gave = Appends-append _ _ _ c.loop.invariant.got piece c.loop.invariant.gave c.in-Ok.ensures.given;
        came = Consumes-append _ _ _ c.loop.invariant.got piece c.loop.invariant.came c.in-Ok.ensures.bytes;
      },
      c.in-Ok.ensures.ok ∙ c.loop.invariant.faults,
      settled_reply _ _ (c.loop.invariant.got ++ piece) _ c.feed.new.self same answer.1 answer.3,
    )

pub returns-in-Err-Wire-clause-received : goal.returns-in-Err-Wire-clause-received
returns-in-Err-Wire-clause-received g c =
    let answer = rw c.in-Err-Wire.field-0-is at c.in-Err-Wire.ensures.answer c.loop.invariant.got c.loop.invariant.read in
    let same = c.in-Err-Wire.ensures.head_only ∙ c.loop.invariant.same in
    let piece : List ℕ = take c.in-Ok.count c.receive.new.into in (
      c.loop.invariant.got ++ piece,
      record {
        went = Appends-from_Keeps _ _ (Keeps-trans _ _ _ c.loop.invariant.sent c.in-Ok.ensures.sent);
        gave = Appends-append _ _ _ c.loop.invariant.got piece c.loop.invariant.gave c.in-Ok.ensures.given;
        came = Consumes-append _ _ _ c.loop.invariant.got piece c.loop.invariant.came c.in-Ok.ensures.bytes;
      },
      c.in-Ok.ensures.ok ∙ c.loop.invariant.faults,
      settled_refusal _ _ (c.loop.invariant.got ++ piece) c.in-Err-Wire.field-0-0 c.feed.new.self same answer.0
          (c.in-Err-Wire.ensures.over _ (ap Err c.in-Err-Wire.field-0-is)),
    )

pub returns-in-Err-NoMemory-clause-memory : goal.returns-in-Err-NoMemory-clause-memory
returns-in-Err-NoMemory-clause-memory g c =
    let piece : List ℕ = take c.in-Ok.count c.receive.new.into in
    record {
      got = c.loop.invariant.got ++ piece;
      moved = record {
        went = Appends-from_Keeps _ _ (Keeps-trans _ _ _ c.loop.invariant.sent c.in-Ok.ensures.sent);
        gave = Appends-append _ _ _ c.loop.invariant.got piece c.loop.invariant.gave c.in-Ok.ensures.given;
        came = Consumes-append _ _ _ c.loop.invariant.got piece c.loop.invariant.came c.in-Ok.ensures.bytes;
      };
      kept = c.in-Ok.ensures.ok ∙ c.loop.invariant.faults;
    }
