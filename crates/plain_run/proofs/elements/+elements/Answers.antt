use Rattle.std.proofs.Common.{ℕ, ◌+◌, ◌-◌, ◌<◌, List, length, drop, refl, sym, ap, ◌∙◌, arith}
use Rattle.std.specs.Prelude.{slice_get}
use Rattle.std.proofs.Math.ListN.{get_or}
use Rattle.std.proofs.lemmas.Option.{slice_get_within}
use Rattle.element_tree.specs.declared.kinds.Element.{Element}
use Rattle.jm_meaning.specs.State.{on_normal}
use Rattle.jm_meaning.specs.Children.{Below, children_of, in_order, one_of}
use Rattle.jm_meaning.specs.Meaning.{Here, meaning}
use Rattle.plain_run.specs.Plays.{state_in, here_of}
use Rattle.plain_run.specs.Levels.{at_level}
use Rattle.plain_run.proofs.Ways.{way-start, way-then, way-stop}
use Rattle.plain_run.proofs.UnderWay.{at-start, on-way-in, runs-cut}
use Rattle.plain_run.proofs.StepLaws.{refused-runs}
use Rattle.plain_run.proofs.ElementLaws.{plays-nothing, element-runs, meaning-none, meaning-flat, next-child, children-over}
use Rattle.plain_run.proofs.CursorWays.{turning-start, turns-over, turn-taken, turn-not-taken, turn-cut, turn-done, turn-last, turn-past, turn-out, nothing-entered, sampler-entered, controller-entered, enter-past, enter-out, round-lighter}
use Rattle.plain_run.proofs.TransactionWays.{transaction-cut, transaction-of-kind, transaction-runs}
use Rattle.plain_run.proofs.SectionWays.{no-unit-for-section, section-cut, section-unleft, section-plays, section-runs}
use Rattle.plain_run.proofs.elements.+elements.Goals as goal

pub run_children-loop-child-init : goal.run_children-loop-child-init
run_children-loop-child-init g t c = way-start _ _ _

pub run_children-loop-child-preserved : goal.run_children-loop-child-preserved
run_children-loop-child-preserved g t c =
    let below : Below = at_level c.args.level in
    let i : ℕ = c.loop-child.child-index in
    let cs : List ℕ = c.args.children.now in
    let within : i < length cs = omega arith in
    way-then (below (get_or cs i 0) c.args.round) (in_order below c.args.round (drop (i + 1) cs)) c.loop-child.invariant (next-child below c.args.round cs i (state_in c.loop-child.progress) within)
    c.in_ok-other.ensures c.in-Normal.is

pub run_children-returns-in_err-other : goal.run_children-returns-in_err-other
run_children-returns-in_err-other g t c =
    let below : Below = at_level c.args.level in
    let i : ℕ = c.loop-child.child-index in
    let cs : List ℕ = c.args.children.now in
    let within : i < length cs = omega arith in
    runs-cut c.args.progress.now c.run_element.new.progress (in_order below c.args.round cs) _ c.from_residual.result c.from_residual.ensures.1
    (on-way-in (below (get_or cs i 0) c.args.round (state_in c.loop-child.progress)) (on_normal (in_order below c.args.round (drop (i + 1) cs))) c.loop-child.invariant
    (next-child below c.args.round cs i (state_in c.loop-child.progress) within) c.in_err-other.ensures)

pub run_children-returns-in_default : goal.run_children-returns-in_default
run_children-returns-in_default g t c =
    let below : Below = at_level c.args.level in
    let i : ℕ = c.loop-child.child-index in
    let cs : List ℕ = c.args.children.now in
    let within : i < length cs = omega arith in
    way-stop (below (get_or cs i 0) c.args.round) (in_order below c.args.round (drop (i + 1) cs)) c.loop-child.invariant (next-child below c.args.round cs i (state_in c.loop-child.progress) within)
    c.in_ok-other.ensures c.in_default.not-Normal

pub run_children-returns : goal.run_children-returns
run_children-returns g t c =
    children-over (at_level c.args.level) c.args.round c.args.children.now c.loop-child.child-index c.loop-child.invariant (omega (arith, c.loop-child-test.false))

pub run_element-returns-in_default : goal.run_element-returns-in_default
run_element-returns-in_default g t c = plays-nothing _ _ _ (ap (λ o. one_of (at_level c.args.level) c.args.round o (state_in c.args.progress.now)) c.in_default.is)

pub run_element-returns-then-level-eq0 : goal.run_element-returns-then-level-eq0
run_element-returns-then-level-eq0 g t c = plays-nothing _ _ _
    (ap (λ o. one_of (at_level c.args.level) c.args.round o (state_in c.args.progress.now)) c.in-Some.is ∙ meaning-flat (here_of c.args.level.plan.now c.args.level.at_failure) c.args.level.depth c.in-Some.number c.args.round (state_in c.args.progress.now) c.if-level-eq0.true)

pub run_element-returns-in_default-element : goal.run_element-returns-in_default-element
run_element-returns-in_default-element g t c = plays-nothing _ _ _
    (ap (λ o. one_of (at_level c.args.level) c.args.round o (state_in c.args.progress.now)) c.in-Some.is ∙ meaning-none (here_of c.args.level.plan.now c.args.level.at_failure) c.args.level.depth c.in-Some.number c.args.round (state_in c.args.progress.now) (sym c.in_default-element.ensures))

pub run_element-label_of-requires : goal.run_element-label_of-requires
run_element-label_of-requires g t c = slice_get_within c.args.level.plan.now.elements c.in-Some.number c.in-Some-element.element.now (sym {b = slice_get c.args.level.plan.now.elements c.in-Some.number} c.in-Some-element.ensures)

pub run_element-lock_of-requires : goal.run_element-lock_of-requires
run_element-lock_of-requires g t c = slice_get_within c.args.level.plan.now.elements c.in-Some.number c.in-Some-element.element.now (sym {b = slice_get c.args.level.plan.now.elements c.in-Some.number} c.in-Some-element.ensures)

pub run_element-returns-in_err-children : goal.run_element-returns-in_err-children
run_element-returns-in_err-children g t c = runs-cut _ _ _ _ c.from_residual.result c.from_residual.ensures.1 (at-start _ _)

pub run_element-returns-in-Transaction : goal.run_element-returns-in-Transaction
run_element-returns-in-Transaction g t c =
    let here : Here = here_of c.args.level.plan.now c.args.level.at_failure in
    let below : Below = meaning here (c.args.level.depth - 1) in
    let e : Element = c.in-Some-element.element.now in
    element-runs _ _ c.args.progress.now _ c.run_transaction.result here c.args.level.depth c.in-Some.number c.args.round c.args.number e c.in-Some.is c.if-level-eq0.false c.in-Some-element.ensures
    (transaction-of-kind _ _ _ _ here below c.in-Some.number e c.args.round c.label_of.result
    c.as_slice-children.result.now c.run_transaction.result (sym {b = slice_get c.args.level.plan.now.elements c.in-Some.number} c.in-Some-element.ensures) c.in-Transaction.is c.label_of.ensures (◌∙◌ {c = children_of c.args.level.plan.now.elements c.in-Some-element.element.now} c.as_slice-children.ensures.value c.in_ok-children.ensures) c.run_transaction.ensures)

pub run_element-returns-in-CriticalSection : goal.run_element-returns-in-CriticalSection
run_element-returns-in-CriticalSection g t c =
    let here : Here = here_of c.args.level.plan.now c.args.level.at_failure in
    let below : Below = meaning here (c.args.level.depth - 1) in
    let e : Element = c.in-Some-element.element.now in
    element-runs _ _ c.args.progress.now _ c.run_section.result here c.args.level.depth c.in-Some.number c.args.round c.args.number e c.in-Some.is c.if-level-eq0.false c.in-Some-element.ensures
    (section-runs _ _ _ _ here below c.in-Some.number e c.args.round c.in-CriticalSection.lock c.lock_of.result
    c.as_slice-children.result.now c.run_section.result (sym {b = slice_get c.args.level.plan.now.elements c.in-Some.number} c.in-Some-element.ensures) c.in-CriticalSection.is c.lock_of.ensures (◌∙◌ {c = children_of c.args.level.plan.now.elements c.in-Some-element.element.now} c.as_slice-children.ensures.value c.in_ok-children.ensures) c.run_section.ensures)

pub run_element-returns : goal.run_element-returns
run_element-returns g t c =
    let here : Here = here_of c.args.level.plan.now c.args.level.at_failure in
    let e : Element = c.in-Some-element.element.now in
    element-runs _ _ c.args.progress.now _ c.run_entered.result here c.args.level.depth c.in-Some.number c.args.round c.args.number e c.in-Some.is c.if-level-eq0.false c.in-Some-element.ensures
    c.run_entered.ensures

pub run_transaction-returns-in_err-signal : goal.run_transaction-returns-in_err-signal
run_transaction-returns-in_err-signal g t c = runs-cut _ _ _ _ c.from_residual.result c.from_residual.ensures.1
    (transaction-cut c.args.label (in_order (at_level c.args.level) c.args.round c.args.children.now) c.args.progress.now c.in_err-signal.ensures)

pub run_transaction-returns : goal.run_transaction-returns
run_transaction-returns g t c =
    transaction-runs c.args.progress.now c.args.label (in_order (at_level c.args.level) c.args.round c.args.children.now) c.none-progress.result c.none-progress.ensures c.in_ok-signal.ensures
    c.joined-progress.result c.joined-progress.ensures c.give_sum.new.progress c.give_sum.result c.give_sum.ensures

pub run_section-returns-then-progress-eq0 : goal.run_section-returns-then-progress-eq0
run_section-returns-then-progress-eq0 g t c =
    no-unit-for-section (g.O.Outside.account c.args.outside.now) c.args.progress.now c.args.lock (in_order (at_level c.args.level) c.args.round c.args.children.now) c.if-progress-eq0.true

pub run_section-returns-in_err-push : goal.run_section-returns-in_err-push
run_section-returns-in_err-push g t c = runs-cut _ _ _ _ c.from_residual.result c.from_residual.ensures.1 (at-start _ _)

pub run_section-returns-in_err-signal : goal.run_section-returns-in_err-signal
run_section-returns-in_err-signal g t c = runs-cut _ _ _ _ c.from_residual-in_err-signal.result c.from_residual-in_err-signal.ensures.1
    (section-cut (g.O.Outside.account c.args.outside.now) c.args.progress.now c.args.lock (in_order (at_level c.args.level) c.args.round c.args.children.now)
    c.if-progress-eq0.false (record c.args.progress.now { units = c.args.progress.now.units - 1; items = c.push.new.self }) refl c.in_ok-push.ensures.items refl refl c.in_err-signal.ensures)

pub run_section-returns-in_err-push-2 : goal.run_section-returns-in_err-push-2
run_section-returns-in_err-push-2 g t c = runs-cut _ _ _ _ c.from_residual-in_err-push-2.result c.from_residual-in_err-push-2.ensures.1
    (section-unleft (g.O.Outside.account c.args.outside.now) c.args.progress.now c.args.lock (in_order (at_level c.args.level) c.args.round c.args.children.now)
    c.if-progress-eq0.false _ refl c.in_ok-push.ensures.items refl refl c.in_ok-signal.signal c.in_ok-signal.ensures)

pub run_section-returns : goal.run_section-returns
run_section-returns g t c =
    section-plays (g.O.Outside.account c.args.outside.now) c.args.progress.now c.args.lock (in_order (at_level c.args.level) c.args.round c.args.children.now)
    c.if-progress-eq0.false _ refl c.in_ok-push.ensures.items refl refl c.in_ok-signal.signal c.in_ok-signal.ensures _ refl c.in_ok-push-2.ensures.items refl refl

pub run_entered-returns-in-Ok-Nothing : goal.run_entered-returns-in-Ok-Nothing
run_entered-returns-in-Ok-Nothing g t c =
    nothing-entered _ _ c.args.progress.now c.args.level.plan.now c.args.level.at_failure (at_level c.args.level) c.args.number c.args.round c.args.element.now _ _ c.requires.there
    c.in-Ok-Nothing.field-0 c.in-Ok-Nothing.ensures.has_entered c.in-Ok-Nothing.field-0-is

pub run_entered-returns-in-Ok-Sampler : goal.run_entered-returns-in-Ok-Sampler
run_entered-returns-in-Ok-Sampler g t c =
    sampler-entered _ _ c.args.progress.now c.args.level.plan.now c.args.level.at_failure (at_level c.args.level) c.args.number c.args.round c.args.element.now _ _ c.requires.there
    _ c.sample.new.self c.sample.result (rw c.in-Ok-Sampler.field-0-is at c.in-Ok-Sampler.ensures.has_entered) c.sample.ensures

pub run_entered-returns-in-Ok-Open : goal.run_entered-returns-in-Ok-Open
run_entered-returns-in-Ok-Open g t c =
    controller-entered _ _ c.args.progress.now c.args.level.plan.now c.args.level.at_failure (at_level c.args.level) c.args.number c.args.round c.args.element.now _ _ c.requires.there
    _ c.run_turns.new.progress c.run_turns.result c.in-Ok-Open.cursor (rw c.in-Ok-Open.field-0-is at c.in-Ok-Open.ensures.has_entered) c.requires.transaction c.requires.section c.run_turns.ensures

pub run_entered-returns-in-Err : goal.run_entered-returns-in-Err
run_entered-returns-in-Err g t c =
    refused-runs c.refused.result c.in-Err.error c.refused.ensures
    (enter-past _ _ c.args.progress.now c.args.level.plan.now c.args.level.at_failure (at_level c.args.level) c.args.number c.args.round c.args.element.now _ _ c.requires.there
    c.in-Err.error c.in-Err.ensures.has_entered)
    (enter-out _ _ c.args.progress.now c.args.level.plan.now c.args.level.at_failure (at_level c.args.level) c.args.number c.args.round c.args.element.now _ _ c.requires.there
    c.in-Err.error c.in-Err.ensures.has_entered)

pub run_turns-turns-init : goal.run_turns-turns-init
run_turns-turns-init g t c = turning-start _ _ _ _ _ _ _ _ c.requires.fits c.requires.begun c.requires.rounds

pub run_turns-returns-in-Ok-Over : goal.run_turns-returns-in-Ok-Over
run_turns-returns-in-Ok-Over g t c =
    turns-over _ _ _ c.args.progress.now c.turns.progress c.args.level.plan.now (at_level c.args.level) c.args.round c.args.number c.args.element.now c.args.cursor.now c.turns.cursor c.next.new.self c.next.new.state
    c.requires.there c.turns.invariant c.in-Ok-Over.field-0 c.in-Ok-Over.ensures.answers c.in-Ok-Over.field-0-is

pub run_turns-turns-smaller-in-Normal : goal.run_turns-turns-smaller-in-Normal
run_turns-turns-smaller-in-Normal g t c =
    round-lighter c.args.level.plan.now.elements c.args.number c.args.element.now c.args.children.now c.turns.cursor c.next.new.self c.turns.progress.rounds c.take_round.new.self.rounds c.requires.children
    (c.in-Ok-Round.ensures.answers.fits c.args.element.now c.args.number c.requires.there c.turns.invariant.fits) (c.take_round.ensures.taken c.in-Normal.is)

pub run_turns-turns-preserved-in-Normal : goal.run_turns-turns-preserved-in-Normal
run_turns-turns-preserved-in-Normal g t c =
    turn-taken _ _ _ c.args.progress.now c.turns.progress c.args.level.plan.now (at_level c.args.level) c.args.round c.args.number c.args.element.now c.args.cursor.now c.turns.cursor c.next.new.self c.next.new.state
    c.requires.there c.turns.invariant c.in-Ok-Round.field-0 c.in-Ok-Round.ensures.answers c.in-Ok-Round.field-0-is c.take_round.new.self c.take_round.result (c.take_round.ensures.plays _) c.in-Normal.is (c.take_round.ensures.taken c.in-Normal.is)

pub run_turns-returns-in_default : goal.run_turns-returns-in_default
run_turns-returns-in_default g t c =
    turn-not-taken _ _ _ c.args.progress.now c.turns.progress c.args.level.plan.now (at_level c.args.level) c.args.round c.args.number c.args.element.now c.args.cursor.now c.turns.cursor c.next.new.self c.next.new.state
    c.requires.there c.turns.invariant c.in-Ok-Round.field-0 c.in-Ok-Round.ensures.answers c.in-Ok-Round.field-0-is c.take_round.new.self c.take_round.result (c.take_round.ensures.plays _) c.in_default.not-Normal

pub run_turns-returns-in_err-other-in-Ok-Child : goal.run_turns-returns-in_err-other-in-Ok-Child
run_turns-returns-in_err-other-in-Ok-Child g t c =
    runs-cut _ _ _ _ c.from_residual.result c.from_residual.ensures.1
    (turn-cut _ _ _ c.args.progress.now c.turns.progress c.args.level.plan.now (at_level c.args.level) c.args.round c.args.number c.args.element.now c.args.cursor.now c.turns.cursor c.next.new.self c.next.new.state
    c.requires.there c.turns.invariant c.in-Ok-Child.field-0 c.in-Ok-Child.ensures.answers c.in-Ok-Child.place c.round.result c.args.children.now c.in-Ok-Child.field-0-is c.round.ensures c.requires.children _
    (rw c.child_at.ensures at c.in_err-other-in-Ok-Child.ensures))

pub run_turns-turns-preserved : goal.run_turns-turns-preserved
run_turns-turns-preserved g t c =
    turn-done _ _ _ c.args.progress.now c.turns.progress c.args.level.plan.now (at_level c.args.level) c.args.round c.args.number c.args.element.now c.args.cursor.now c.turns.cursor c.next.new.self c.next.new.state
    c.requires.there c.turns.invariant c.in-Ok-Child.field-0 c.in-Ok-Child.ensures.answers c.in-Ok-Child.place c.round.result c.args.children.now c.in-Ok-Child.field-0-is c.round.ensures c.requires.children _
    c.run_element.new.progress c.in_ok-other-in-Ok-Child.other (rw c.child_at.ensures at c.in_ok-other-in-Ok-Child.ensures) c.in-Normal-2.is

pub run_turns-returns-in_default-2 : goal.run_turns-returns-in_default-2
run_turns-returns-in_default-2 g t c =
    turn-last _ _ _ c.args.progress.now c.turns.progress c.args.level.plan.now (at_level c.args.level) c.args.round c.args.number c.args.element.now c.args.cursor.now c.turns.cursor c.next.new.self c.next.new.state
    c.requires.there c.turns.invariant c.in-Ok-Child.field-0 c.in-Ok-Child.ensures.answers c.in-Ok-Child.place c.round.result c.args.children.now c.in-Ok-Child.field-0-is c.round.ensures c.requires.children _
    c.run_element.new.progress c.in_ok-other-in-Ok-Child.other (rw c.child_at.ensures at c.in_ok-other-in-Ok-Child.ensures) c.in_default-2.not-Normal

pub run_turns-returns-in-Err : goal.run_turns-returns-in-Err
run_turns-returns-in-Err g t c =
    refused-runs c.refused.result c.in-Err.error c.refused.ensures
    (turn-past _ _ _ c.args.progress.now c.turns.progress c.args.level.plan.now (at_level c.args.level) c.args.round c.args.number c.args.element.now c.args.cursor.now c.turns.cursor c.next.new.self c.next.new.state
    c.requires.there c.turns.invariant c.in-Err.error c.in-Err.ensures.answers)
    (turn-out _ _ _ c.args.progress.now c.turns.progress c.args.level.plan.now (at_level c.args.level) c.args.round c.args.number c.args.element.now c.args.cursor.now c.turns.cursor c.next.new.self c.next.new.state
    c.requires.there c.turns.invariant c.in-Err.error c.in-Err.ensures.answers)
