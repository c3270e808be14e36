use Rattle.std.proofs.Common.{◌≡◌}
use Rattle.line_cases.proofs.printed.many_lines.Given as goal

-- the lines are of this plan
abbrev pub invariant-loop : goal.invariant-loop
invariant-loop l = l.lines.plan ≡ l.plan
