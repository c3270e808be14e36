use Rattle.std.proofs.Common.{◌+◌, ◌-◌}
use Rattle.std.specs.List.{flat_map, range_with_len}
use Rattle.var_changes.proofs.ChangeLaws.{Standing}
use Rattle.extractors.specs.Extraction.{removes_match, removes_matches}
use Rattle.extractors.proofs.removed.remove_matches.Given as goal

abbrev pub invariant-matches : goal.invariant-matches
invariant-matches l =
    Standing (removes_matches l.fn.name l.fn.groups l.fn.count) l.fn.vars (flat_map (removes_match l.fn.name l.fn.groups) (range_with_len (l.place + 1) (l.place-end - l.place))) l.vars
