use Rattle.std.proofs.Common.{◌≡◌, ◌+◌, length}
use Rattle.std.specs.Prelude.{map}
use Rattle.reply_search.specs.Found.{matches_of, matches_left}
use Rattle.var_changes.proofs.ChangeLaws.{Standing}
use Rattle.extractors.specs.Matches.{match_by}
use Rattle.extractors.specs.Extraction.{sets_matches}
use Rattle.extractors.proofs.all.put_found.Given as goal

abbrev pub invariant-matches : goal.invariant-matches
invariant-matches l = record {
  left : l.place + length (matches_left l.fn.pattern l.fn.text l.after) ≡ l.fn.count;
  standing : Standing (sets_matches l.fn.name 1 (map (match_by l.fn.template l.fn.text) (matches_of l.fn.pattern l.fn.text))) l.fn.vars
      (sets_matches l.fn.name (l.place + 1) (map (match_by l.fn.template l.fn.text) (matches_left l.fn.pattern l.fn.text l.after))) l.vars;
}
