use Rattle.std.proofs.Common.{Ok, sym, refl, ◌∙◌}
use Rattle.std.specs.Prelude.{slice_get}
use Rattle.jm_base.specs.declared.types.End.TheVariants.{ValueLimit as PastValueLimit}
use Rattle.jm_meaning.specs.State.{Own}
use Rattle.jm_meaning.specs.Beginning.{max_rounds, set_first}
use Rattle.jm_meaning.specs.Rounds.{rounds, group_turns, round_of_group, round_start}
use Rattle.jm_meaning.specs.Children.{in_order}
use Rattle.jm_meaning.specs.Meaning.{meaning, group_part, here_at}
use Rattle.jm_meaning.specs.declared.signal.Signal.TheVariants.{Normal, Stop}
use Rattle.plain_run.specs.Plays.{state_in, here_of}
use Rattle.plain_run.proofs.ElementLaws.{plays-nothing}
use Rattle.plain_run.proofs.StepLaws.{silent-plays, at-limit, at-memory, refused-runs}
use Rattle.plain_run.proofs.ThreadWays.{thread-goes, thread-stops, group-is, no-group, nothing-there}
use Rattle.plain_run.proofs.UnderWay.{in-bind, at-start, runs-as, runs-cut}
use Rattle.plain_run.proofs.group.run_thread.Goals as goal

pub returns-in-Err : goal.returns-in-Err
returns-in-Err g c =
    let p = c.args.progress.now in
    let own : Own = record { units = p.units; rounds = p.rounds; places = p.places; config = p.config.places } in
    refused-runs c.refused.result c.in-Err.error c.refused.ensures
    (λ is. thread-stops c.args.plan.now c.args.group (silent-plays (set_first c.args.plan.now.elements) p c.set_first.new.state (Stop PastValueLimit) (at-limit (c.in-Err.ensures.came own) is)) (λ same. absurd (cc)))
    (λ is. in-bind _ (at-memory (c.in-Err.ensures.came own) is))

pub returns-in_default : goal.returns-in_default
returns-in_default g c =
    let p = c.args.progress.now in
    let own : Own = record { units = p.units; rounds = p.rounds; places = p.places; config = p.config.places } in
    let q = record p { user = c.set_first.new.state } in
    thread-goes c.args.plan.now c.args.group _ q (Ok Normal) (silent-plays (set_first c.args.plan.now.elements) p c.set_first.new.state Normal (c.in-Ok.ensures.came own)) refl
    (plays-nothing _ _ _ (nothing-there c.args.plan.now c.args.group (state_in q) (sym c.in_default.ensures)))

pub returns-in_default-kind : goal.returns-in_default-kind
returns-in_default-kind g c =
    let p = c.args.progress.now in
    let own : Own = record { units = p.units; rounds = p.rounds; places = p.places; config = p.config.places } in
    let q = record p { user = c.set_first.new.state } in
    thread-goes c.args.plan.now c.args.group _ q (Ok Normal) (silent-plays (set_first c.args.plan.now.elements) p c.set_first.new.state Normal (c.in-Ok.ensures.came own)) refl
    (plays-nothing _ _ _ (no-group c.args.plan.now c.args.group c.in-Some.element.now (state_in q) (sym c.in-Some.ensures) c.in_default-kind.not-ThreadGroup))

pub returns-in_err-children : goal.returns-in_err-children
returns-in_err-children g c =
    let p = c.args.progress.now in
    let own : Own = record { units = p.units; rounds = p.rounds; places = p.places; config = p.config.places } in
    let q = record p { user = c.set_first.new.state } in
    thread-goes c.args.plan.now c.args.group _ q c.from_residual.result (silent-plays (set_first c.args.plan.now.elements) p c.set_first.new.state Normal (c.in-Ok.ensures.came own)) refl
    (runs-cut _ _ _ _ c.from_residual.result c.from_residual.ensures.1 (at-start _ _))

pub returns : goal.returns
returns g c =
    let p = c.args.progress.now in
    let own : Own = record { units = p.units; rounds = p.rounds; places = p.places; config = p.config.places } in
    let q = record p { user = c.set_first.new.state } in
    thread-goes c.args.plan.now c.args.group _ c.run_rounds.new.progress c.run_rounds.result (silent-plays (set_first c.args.plan.now.elements) p c.set_first.new.state Normal (c.in-Ok.ensures.came own)) refl
    (runs-as _ _ _ _ _ (group_part (here_at c.args.plan.now c.args.group) c.args.group (slice_get c.args.plan.now.elements c.args.group))
    (rounds max_rounds (group_turns c.in-ThreadGroup.loops (round_start c.args.plan.now.elements c.args.group)) (λ i s. round_of_group (in_order (meaning (here_of c.args.plan.now c.signal_of.result) 30) i c.as_slice.result.now s)) 0)
    c.run_rounds.ensures
    (group-is c.args.plan.now c.args.group c.in-Some.element.now c.in-ThreadGroup.loops c.in-ThreadGroup.on_error c.in-ThreadGroup.ramp_ms c.in-ThreadGroup.threads c.as_slice.result.now c.signal_of.result
    (state_in q) (sym c.in-Some.ensures) c.in-ThreadGroup.is (c.as_slice.ensures.value ∙ c.in_ok-children.ensures) c.signal_of.ensures))
