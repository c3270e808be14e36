use Rattle.std.proofs.Common.{◌≡◌, ℕ, List, [], ◌++◌, length, take, sym, ap, ◌∙◌, subst}
use Rattle.std.proofs.lemmas.Result.{err_from_is_err_and}
use Rattle.std.proofs.lemmas.List.Elements.{All-drop}
use Rattle.std.specs.Prelude.{All}
use Rattle.element_tree.specs.Tree.{Tree}
use Rattle.element_tree.specs.Names.{labels_of}
use Rattle.output_lines.specs.Bulk.{LinesOf}
use Rattle.thread_machine.specs.declared.trace.TraceItem.{TraceItem}
use Rattle.thread_machine.specs.Bare.{IsLabelled}
use Rattle.trace_output.specs.Texts.{trace_text}
use Rattle.trace_output.proofs.PrintingLaws.{put_more, next_left, next_short}
use Rattle.trace_output.proofs.results.put_trace.Goals as goal

-- a text that was empty has the lines of the items alone
own_text : (plan : Tree) (thread : ℕ) (lines : LinesOf) → lines ≡ record { plan = plan; thread = thread } → (items : List TraceItem) (old new text : List ℕ)
    → text ≡ new → new ≡ old ++ trace_text lines.plan lines.thread items → old ≡ [] → text ≡ trace_text plan thread items
own_text plan thread lines whose items old new text is added empty =
    is ∙ added ∙ ap (λ o. o ++ trace_text lines.plan lines.thread items) empty ∙ ap (λ (l : LinesOf). trace_text l.plan l.thread items) whose

pub returns-in_err-put_lines : goal.returns-in_err-put_lines
returns-in_err-put_lines g c =
    let p = err_from_is_err_and c.from_residual.result c.from_residual.ensures.1 in
    let left = c.texts.rest.now in
    let count = c.in-Ok-result_lines.count in
    let text = c.deref.result.now in
    let own : text ≡ trace_text c.args.plan.now c.args.thread (take count left) =
    own_text c.args.plan.now c.args.thread c.texts.lines c.texts.invariant.whose (take count left) c.clear.new.self.items c.result_lines.new.out.items text c.deref.ensures.value c.in-Ok-result_lines.ensures.ok.text c.clear.ensures.items in
    let so_far = c.texts.invariant.put in
    rw (p.1, p.2) (next_short c.args.plan.now c.args.thread c.args.trace.now left count text own so_far.0 so_far.2 _ _ _ so_far.1 _ c.in_err-put_lines.ensures.put)

pub texts-preserved : goal.texts-preserved
texts-preserved g c =
    let left = c.texts.rest.now in
    let count = c.in-Ok-result_lines.count in
    let text = c.deref.result.now in
    let own : text ≡ trace_text c.args.plan.now c.args.thread (take count left) =
    own_text c.args.plan.now c.args.thread c.texts.lines c.texts.invariant.whose (take count left) c.clear.new.self.items c.result_lines.new.out.items text c.deref.ensures.value c.in-Ok-result_lines.ensures.ok.text c.clear.ensures.items in
    let so_far = c.texts.invariant.put in
    let labelled = IsLabelled (length (labels_of c.args.plan.now.elements)) in
    record {
      whose = c.in-Ok-result_lines.ensures.same ∙ c.texts.invariant.whose;
      labels = subst (All labelled) (sym c.split_at.ensures.back) (All-drop labelled count left c.texts.invariant.labels);
      put = (
        so_far.0 ++ text,
        put_more so_far.0 text _ _ _ so_far.1 c.in_ok-put_lines.ensures.put,
        subst (λ rest. (so_far.0 ++ text) ++ trace_text c.args.plan.now c.args.thread rest ≡ trace_text c.args.plan.now c.args.thread c.args.trace.now) (sym c.split_at.ensures.back)
            (next_left c.args.plan.now c.args.thread c.args.trace.now left count text own so_far.0 so_far.2),
      );
    }
