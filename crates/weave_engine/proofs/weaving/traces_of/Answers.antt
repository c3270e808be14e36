use Rattle.std.proofs.Common.{rules, arith, ◌≡◌, ◌++◌, ◌∙◌, ◌∷◌, [], List, zero, suc, length, refl, sym, ap, subst, append_assoc}
use Rattle.std.specs.Prelude.{All, None, slice_get}
use Rattle.std.specs.Vec.Iter.{into_iter_items}
use Rattle.std.proofs.lemmas.List.{append-nil}
use Rattle.std.proofs.lemmas.List.Elements.{All-append}
use Rattle.element_tree.specs.Names.{labels_of}
use Rattle.thread_machine.specs.declared.trace.TraceItem.{TraceItem}
use Rattle.thread_machine.specs.Bare.{IsLabelled}
use Rattle.thread_machine.specs.SectionOrder.{LeavesAll}
use Rattle.weave_engine.specs.declared.seat.Seat.{Seat}
use Rattle.weave_engine.specs.Seats.{AllOf, AllClosed, traces_in}
use Rattle.weave_engine.proofs.weaving.traces_of.Goals as goal

all_one : {A : Type 0} (P : A → Type 0) (x : A) → P x → All P (x ∷ [])
all_one P x h zero d low = h
all_one P x h (suc i) d low = absurd (omega (arith, low))

none_left : {A : Type 0} (xs : List A) → length xs ≡ 0 → xs ≡ []
none_left [] none = refl
none_left (x ∷ xs) none = absurd (omega (arith, none))

pub seats-init : goal.seats-init
seats-init c =
    let items : into_iter_items c.into_iter-seat-iterator.result ≡ c.args.seats.items = search rules in
    let none : c.in_ok-traces.traces.items ≡ [] = search rules in
    record {
      all = ap (λ (ts : List (List TraceItem)). ts ++ traces_in (into_iter_items c.into_iter-seat-iterator.result)) none ∙ ap traces_in items;
      plans = subst (AllOf c.args.plan.now) (sym items) c.requires.plans;
      closed = subst AllClosed (sym items) c.requires.closed;
      labelled = subst (All (All (IsLabelled (length (labels_of c.args.plan.now.elements))))) (sym none) (λ i d low. absurd (omega (arith, low)));
      sections = subst (All LeavesAll) (sym none) (λ i d low. absurd (omega (arith, low)));
    }

pub trace_of-requires-clause-plan : goal.trace_of-requires-clause-plan
trace_of-requires-clause-plan c = c.seats.invariant.plans 0 c.in-Some.seat (ap (λ (xs : List Seat). slice_get xs 0) c.in-Some.ensures.steps.0)

pub trace_of-requires-clause-closed : goal.trace_of-requires-clause-closed
trace_of-requires-clause-closed c = c.seats.invariant.closed 0 c.in-Some.seat (ap (λ (xs : List Seat). slice_get xs 0) c.in-Some.ensures.steps.0)

pub seats-preserved : goal.seats-preserved
seats-preserved c =
    let inv = c.seats.invariant in
    let step = c.in-Some.ensures.steps.0 in
    let rest = into_iter_items c.next.new.self in
    let before = c.seats.traces.items in
    let trace = c.trace_of.result in
    let grown : c.push.new.self.items ≡ before ++ trace ∷ [] = c.in_ok-push.ensures.items in
    record {
      all = ap (λ (ts : List (List TraceItem)). ts ++ traces_in rest) grown
          ∙ append_assoc before (trace ∷ []) (traces_in rest)
          ∙ ap (λ (t : List TraceItem). before ++ t ∷ traces_in rest) c.trace_of.ensures.trace
          ∙ ap (λ (xs : List Seat). before ++ traces_in xs) (sym step)
          ∙ inv.all;
      plans = λ k x at. inv.plans (suc k) x (ap (λ (xs : List Seat). slice_get xs (suc k)) step ∙ at);
      closed = λ k x at. inv.closed (suc k) x (ap (λ (xs : List Seat). slice_get xs (suc k)) step ∙ at);
      labelled = subst (All (All (IsLabelled (length (labels_of c.args.plan.now.elements))))) (sym grown)
          (All-append (All (IsLabelled (length (labels_of c.args.plan.now.elements)))) before (trace ∷ []) inv.labelled
          (all_one (All (IsLabelled (length (labels_of c.args.plan.now.elements)))) trace c.trace_of.ensures.labelled));
      sections = subst (All LeavesAll) (sym grown)
          (All-append LeavesAll before (trace ∷ []) inv.sections (all_one LeavesAll trace c.trace_of.ensures.sections));
    }

pub returns-clause-traces : goal.returns-clause-traces
returns-clause-traces c =
    let zero_left : length (into_iter_items c.seats.seat-iterator) ≡ 0 = search rules in
    let none : into_iter_items c.seats.seat-iterator ≡ [] = none_left (into_iter_items c.seats.seat-iterator) zero_left in
    c.of.ensures ∙ sym (append-nil c.seats.traces.items) ∙ ap (λ (xs : List Seat). c.seats.traces.items ++ traces_in xs) (sym none) ∙ c.seats.invariant.all

pub returns-clause-labelled : goal.returns-clause-labelled
returns-clause-labelled c = subst (All (All (IsLabelled (length (labels_of c.args.plan.now.elements))))) (sym c.of.ensures) c.seats.invariant.labelled

pub returns-clause-sections : goal.returns-clause-sections
returns-clause-sections c = subst (All LeavesAll) (sym c.of.ensures) c.seats.invariant.sections
