use Rattle.std.proofs.Common.{◌≡◌, ◌+◌, [], ◌∷◌, ◌∙◌, length, sym, ap, ap₂, subst, arith}
use Rattle.std.specs.Prelude.{map}
use Rattle.std.proofs.lemmas.Result.{err_from_is_err_and}
use Rattle.reply_search.specs.Found.{matches_of, matches_left}
use Rattle.reply_search.proofs.Kept.{all_left}
use Rattle.var_changes.proofs.ChangeLaws.{Standing, standing-first, standing-more, standing-stopped}
use Rattle.extractors.specs.Extraction.{sets_match, sets_matches}
use Rattle.extractors.specs.Matches.{match_by}
use Rattle.extractors.proofs.SetLaws.{found-next, found-over}
use Rattle.extractors.proofs.all.put_found.Goals as goal

pub matches-init : goal.matches-init
matches-init c =
    let all = all_left c.args.pattern.now c.args.text.now in
    let as_many : length (matches_left c.args.pattern.now c.args.text.now 0) ≡ length (matches_of c.args.pattern.now c.args.text.now) = ap length all in
    record {
      left = omega (arith, as_many, c.requires);
      standing = subst (λ ms. Standing (sets_matches c.args.name.now 1 (map (match_by c.args.template.now c.args.text.now) (matches_of c.args.pattern.now c.args.text.now))) c.args.vars.now (sets_matches c.args.name.now 1 (map (match_by c.args.template.now c.args.text.now) ms)) c.args.vars.now) (sym all)
          (standing-first (sets_matches c.args.name.now 1 (map (match_by c.args.template.now c.args.text.now) (matches_of c.args.pattern.now c.args.text.now))) c.args.vars.now);
    }

pub returns : goal.returns
returns c =
    let none : length (matches_left c.args.pattern.now c.args.text.now c.matches.after) ≡ 0 = omega (arith, c.matches-test.false, c.matches.invariant.left) in
    record {
      exact = found-over (match_by c.args.template.now c.args.text.now) _ c.args.name.now (matches_left c.args.pattern.now c.args.text.now c.matches.after) (c.matches.place + 1) _ c.matches.vars none c.matches.invariant.standing;
    }

pub returns-in_default : goal.returns-in_default
returns-in_default c =
    let none : matches_left c.args.pattern.now c.args.text.now c.matches.after ≡ [] = rw c.in_default.is at c.in_ok-next.ensures in
    record {
      exact = found-over (match_by c.args.template.now c.args.text.now) _ c.args.name.now (matches_left c.args.pattern.now c.args.text.now c.matches.after) (c.matches.place + 1) _ c.matches.vars (ap length none) c.matches.invariant.standing;
    }

pub returns-in_err-put_match : goal.returns-in_err-put_match
returns-in_err-put_match c =
    let left = matches_left c.args.pattern.now c.args.text.now in
    let spans = c.in-Some.found.spans.items in
    let first : matches_left c.args.pattern.now c.args.text.now c.matches.after ≡ c.in-Some.found.spans.items ∷ matches_left c.args.pattern.now c.args.text.now c.in-Some.found.after = rw c.in-Some.is at c.in_ok-next.ensures in
    let p = err_from_is_err_and c.from_residual-in_err-put_match.result c.from_residual-in_err-put_match.ensures.1 in
    rw (p.1, p.2) (record {
      exact = standing-stopped _ (sets_match c.bytes.result.now (match_by c.args.template.now c.as_bytes.result.now c.as_slice.result.now))
          (sets_matches c.args.name.now (c.matches.place + 1 + 1) (map (match_by c.args.template.now c.args.text.now) (left c.in-Some.found.after)))
          _ c.matches.vars c.put_match.new.vars c.in_err-put_match.field-0.0
          (found-next (match_by c.args.template.now c.args.text.now) _ c.args.name.now (left c.matches.after) spans (left c.in-Some.found.after) (c.matches.place + 1)
          c.bytes.result.now (match_by c.args.template.now c.as_bytes.result.now c.as_slice.result.now) _ c.matches.vars first (c.bytes.ensures ∙ c.in_ok-own.ensures)
          (ap₂ (match_by c.args.template.now) c.as_bytes.ensures.value c.as_slice.ensures.value) c.matches.invariant.standing)
          c.in_err-put_match.ensures.exact;
    })

pub matches-preserved : goal.matches-preserved
matches-preserved c =
    let left = matches_left c.args.pattern.now c.args.text.now in
    let spans = c.in-Some.found.spans.items in
    let first : matches_left c.args.pattern.now c.args.text.now c.matches.after ≡ c.in-Some.found.spans.items ∷ matches_left c.args.pattern.now c.args.text.now c.in-Some.found.after = rw c.in-Some.is at c.in_ok-next.ensures in
    let one_less : length (matches_left c.args.pattern.now c.args.text.now c.matches.after) ≡ length (matches_left c.args.pattern.now c.args.text.now c.in-Some.found.after) + 1 = ap length first ∙ omega arith in
    record {
      left = omega (arith, one_less, c.matches.invariant.left);
      standing = standing-more _ (sets_match c.bytes.result.now (match_by c.args.template.now c.as_bytes.result.now c.as_slice.result.now))
          (sets_matches c.args.name.now (c.matches.place + 1 + 1) (map (match_by c.args.template.now c.args.text.now) (left c.in-Some.found.after)))
          _ c.matches.vars c.put_match.new.vars
          (found-next (match_by c.args.template.now c.args.text.now) _ c.args.name.now (left c.matches.after) spans (left c.in-Some.found.after) (c.matches.place + 1)
          c.bytes.result.now (match_by c.args.template.now c.as_bytes.result.now c.as_slice.result.now) _ c.matches.vars first (c.bytes.ensures ∙ c.in_ok-own.ensures)
          (ap₂ (match_by c.args.template.now) c.as_bytes.ensures.value c.as_slice.ensures.value) c.matches.invariant.standing)
          c.in_ok-put_match.ensures.exact;
    }
