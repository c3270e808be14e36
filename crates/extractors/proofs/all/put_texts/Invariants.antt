use Rattle.std.proofs.Common.{◌+◌, drop}
use Rattle.std.specs.Prelude.{map}
use Rattle.var_changes.proofs.ChangeLaws.{Standing}
use Rattle.extractors.specs.Matches.{plain}
use Rattle.extractors.specs.Extraction.{sets_matches}
use Rattle.extractors.proofs.all.put_texts.Given as goal

abbrev pub invariant-texts : goal.invariant-texts
invariant-texts l = Standing (sets_matches l.fn.name 1 (map plain l.fn.texts)) l.fn.vars (sets_matches l.fn.name (l.place + 1) (map plain (drop l.place l.fn.texts))) l.vars
