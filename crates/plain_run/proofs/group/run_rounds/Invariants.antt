use Rattle.jm_meaning.specs.Rounds.{group_turns, round_of_group, round_start}
use Rattle.jm_meaning.specs.Children.{in_order}
use Rattle.plain_run.specs.Levels.{at_level}
use Rattle.plain_run.proofs.RoundWays.{Rounding}
use Rattle.plain_run.proofs.group.run_rounds.Given as goal

abbrev pub invariant-rounds : goal.invariant-rounds
invariant-rounds g l =
    Rounding (g.O.Outside.account l.fn.outside) l.fn.progress (group_turns l.loops (round_start l.level.plan.now.elements l.group))
    (λ i s. round_of_group (in_order (at_level l.level) i l.children s)) l.round l.progress (g.O.Outside.account l.outside)

abbrev pub decreases-rounds : goal.decreases-rounds
decreases-rounds g l = l.progress.rounds
