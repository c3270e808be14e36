use Rattle.std.proofs.Common.{ℕ, refl, sym, ◌∙◌}
use Rattle.jm_meaning.specs.State.{Part}
use Rattle.jm_base.specs.Run.{over}
use Rattle.jm_meaning.specs.Rounds.{Turns, group_turns, caught, round_of_group, round_start}
use Rattle.jm_meaning.specs.Children.{Below, in_order}
use Rattle.plain_run.specs.Levels.{at_level}
use Rattle.plain_run.proofs.RoundWays.{rounds-start, no-round, cut-opening, cut-round, not-opened, last-round, round-done}
use Rattle.plain_run.proofs.UnderWay.{in-bind, runs-cut}
use Rattle.plain_run.proofs.TurnLaws.{loop-begins, loop-over}
use Rattle.plain_run.proofs.ThreadWays.{plays-caught}
use Rattle.plain_run.proofs.group.run_rounds.Goals as goal

pub rounds-init : goal.rounds-init
rounds-init g c = rounds-start _ c.args.progress.now (group_turns c.args.loops (round_start c.args.level.plan.now.elements c.args.group)) (λ i s. round_of_group (in_order (at_level c.args.level) i c.args.children.now s)) c.requires.rounds

pub returns-in_err-other : goal.returns-in_err-other
returns-in_err-other g c =
    let below : Below = at_level c.args.level in
    let body : ℕ → Part = λ i s. round_of_group (in_order below i c.args.children.now s) in
    let turns : Turns (Unit {0}) = group_turns c.args.loops (round_start c.args.level.plan.now.elements c.args.group) in
    runs-cut _ _ _ _ c.from_residual.result c.from_residual.ensures.1
    (cut-opening (g.O.Outside.account c.args.outside.now) (g.O.Outside.account c.rounds.outside) (g.O.Outside.account c.rounds.outside) c.args.progress.now c.rounds.progress c.rounds.progress turns body c.rounds.round c.rounds.invariant refl
    tt (loop-begins (g.O.Outside.account c.rounds.outside) c.args.loops c.rounds.round c.rounds.progress.user (sym c.round_begins.ensures ∙ c.rounds-test.true)) (g.O.Outside.account c.open_group_round.new.outside)
    (c.in_err-other.ensures.plays c.args.group (c.rounds.invariant.way.feeds ∙ c.requires.feeds)))

pub returns-in_err-run_children : goal.returns-in_err-run_children
returns-in_err-run_children g c =
    let below : Below = at_level c.args.level in
    let body : ℕ → Part = λ i s. round_of_group (in_order below i c.args.children.now s) in
    let turns : Turns (Unit {0}) = group_turns c.args.loops (round_start c.args.level.plan.now.elements c.args.group) in
    runs-cut _ _ _ _ c.from_residual-in_err-run_children.result c.from_residual-in_err-run_children.ensures.1
    (cut-round (g.O.Outside.account c.args.outside.now) (g.O.Outside.account c.rounds.outside) (g.O.Outside.account c.rounds.outside) c.args.progress.now c.rounds.progress c.rounds.progress turns body c.rounds.round c.rounds.invariant refl
    tt (loop-begins (g.O.Outside.account c.rounds.outside) c.args.loops c.rounds.round c.rounds.progress.user (sym c.round_begins.ensures ∙ c.rounds-test.true)) (g.O.Outside.account c.open_group_round.new.outside) (g.O.Outside.account c.run_children.new.outside) c.open_group_round.new.self c.in_ok-other.other
    (c.in_ok-other.ensures.plays c.args.group (c.rounds.invariant.way.feeds ∙ c.requires.feeds)) c.in-Normal.is (in-bind (λ e. over (caught e)) (rw c.from.ensures at c.in_err-run_children.ensures)))

pub returns : goal.returns
returns g c =
    let below : Below = at_level c.args.level in
    let body : ℕ → Part = λ i s. round_of_group (in_order below i c.args.children.now s) in
    let turns : Turns (Unit {0}) = group_turns c.args.loops (round_start c.args.level.plan.now.elements c.args.group) in
    no-round (g.O.Outside.account c.args.outside.now) (g.O.Outside.account c.rounds.outside) (g.O.Outside.account c.rounds.outside) c.args.progress.now c.rounds.progress c.rounds.progress turns body c.rounds.round c.rounds.invariant refl
    (loop-over (g.O.Outside.account c.rounds.outside) c.args.loops c.rounds.round c.rounds.progress.user (sym c.round_begins.ensures ∙ c.rounds-test.false))

pub returns-in_default : goal.returns-in_default
returns-in_default g c =
    let below : Below = at_level c.args.level in
    let body : ℕ → Part = λ i s. round_of_group (in_order below i c.args.children.now s) in
    let turns : Turns (Unit {0}) = group_turns c.args.loops (round_start c.args.level.plan.now.elements c.args.group) in
    not-opened (g.O.Outside.account c.args.outside.now) (g.O.Outside.account c.rounds.outside) (g.O.Outside.account c.rounds.outside) c.args.progress.now c.rounds.progress c.rounds.progress turns body c.rounds.round c.rounds.invariant refl
    tt (loop-begins (g.O.Outside.account c.rounds.outside) c.args.loops c.rounds.round c.rounds.progress.user (sym c.round_begins.ensures ∙ c.rounds-test.true)) (g.O.Outside.account c.open_group_round.new.outside) c.open_group_round.new.self c.in_ok-other.other (c.in_ok-other.ensures.plays c.args.group (c.rounds.invariant.way.feeds ∙ c.requires.feeds)) c.in_default.not-Normal

pub returns-in_default-caught : goal.returns-in_default-caught
returns-in_default-caught g c =
    let below : Below = at_level c.args.level in
    let body : ℕ → Part = λ i s. round_of_group (in_order below i c.args.children.now s) in
    let turns : Turns (Unit {0}) = group_turns c.args.loops (round_start c.args.level.plan.now.elements c.args.group) in
    last-round (g.O.Outside.account c.args.outside.now) (g.O.Outside.account c.rounds.outside) (g.O.Outside.account c.rounds.outside) c.args.progress.now c.rounds.progress c.rounds.progress turns body c.rounds.round c.rounds.invariant refl
    tt (loop-begins (g.O.Outside.account c.rounds.outside) c.args.loops c.rounds.round c.rounds.progress.user (sym c.round_begins.ensures ∙ c.rounds-test.true)) (g.O.Outside.account c.open_group_round.new.outside) (g.O.Outside.account c.run_children.new.outside) c.open_group_round.new.self c.run_children.new.progress c.in_ok-other.other c.caught.result
    (c.in_ok-other.ensures.plays c.args.group (c.rounds.invariant.way.feeds ∙ c.requires.feeds)) c.in-Normal.is (plays-caught (in_order below c.rounds.round c.args.children.now) (rw c.from.ensures at c.in_ok-run_children.ensures) c.caught.result c.caught.ensures) c.in_default-caught.not-Normal

pub rounds-preserved : goal.rounds-preserved
rounds-preserved g c =
    let below : Below = at_level c.args.level in
    let body : ℕ → Part = λ i s. round_of_group (in_order below i c.args.children.now s) in
    let turns : Turns (Unit {0}) = group_turns c.args.loops (round_start c.args.level.plan.now.elements c.args.group) in
    round-done (g.O.Outside.account c.args.outside.now) (g.O.Outside.account c.rounds.outside) (g.O.Outside.account c.rounds.outside) c.args.progress.now c.rounds.progress c.rounds.progress turns body c.rounds.round c.rounds.invariant refl
    tt (loop-begins (g.O.Outside.account c.rounds.outside) c.args.loops c.rounds.round c.rounds.progress.user (sym c.round_begins.ensures ∙ c.rounds-test.true)) (g.O.Outside.account c.open_group_round.new.outside) (g.O.Outside.account c.run_children.new.outside) c.open_group_round.new.self c.run_children.new.progress c.in_ok-other.other c.caught.result
    (c.in_ok-other.ensures.plays c.args.group (c.rounds.invariant.way.feeds ∙ c.requires.feeds)) c.in-Normal.is (plays-caught (in_order below c.rounds.round c.args.children.now) (rw c.from.ensures at c.in_ok-run_children.ensures) c.caught.result c.caught.ensures) (c.in_ok-other.ensures.taken c.in-Normal.is) c.in-Normal-caught.is
