use Rattle.std.proofs.Common.{drop}
use Rattle.std.specs.Prelude.{map}
use Rattle.var_changes.proofs.ChangeLaws.{Standing}
use Rattle.extractors.specs.Matches.{text_at}
use Rattle.extractors.specs.Extraction.{sets_groups}
use Rattle.extractors.proofs.set.put_groups.Given as goal

abbrev pub invariant-groups : goal.invariant-groups
invariant-groups l =
    Standing (sets_groups l.fn.name 0 (map (text_at l.fn.text) l.fn.spans)) l.fn.vars (sets_groups l.fn.name l.number (map (text_at l.fn.text) (drop l.number l.fn.spans))) l.vars
