use Rattle.std.proofs.Common.{suc, ◌-◌}
use Rattle.std.specs.Prelude.{map}
use Rattle.std.specs.List.{range_with_len}
use Rattle.var_changes.proofs.ChangeLaws.{Standing}
use Rattle.extractors.specs.Extraction.{removes_group, removes_groups}
use Rattle.extractors.proofs.removed.remove_groups.Given as goal

abbrev pub invariant-groups : goal.invariant-groups
invariant-groups l = Standing (removes_groups l.fn.name l.fn.groups) l.fn.vars (map (removes_group l.fn.name) (range_with_len l.number (suc (l.last - l.number)))) l.vars
