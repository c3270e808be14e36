-- What a kept pattern finds is what its text says.
use Rattle.std.proofs.Common.{◌≡◌, ℕ, zero, suc, ◌+◌, ◌-◌, ◌*◌, ◌<◌, ◌≤◌, List, [], ◌∷◌, Option, Some, None, map, length, is_some, true, refl, sym, ap, ap₂, ◌∙◌, arith, get_or}
use Rattle.std.specs.Prelude.{option_and_then, IsSomeAnd, IfSome, IfOk, MatchOption, Result, Ok, Err, slice_get}
use Rattle.std.specs.List.{range_with_len}
use Rattle.std.specs.Option.{option_map, option_map_or}
use Rattle.std.proofs.lemmas.Bool.{cond-true, le-leb}
use Rattle.std.proofs.lemmas.List.{length-map}
use Rattle.std.proofs.lemmas.Option.{slice_get-map}
use Rattle.std.proofs.lemmas.Simd.{map-map}
use Rattle.regex.specs.Patterns.{Re, Match, span, find_str, find_all_str, SameCaptures, Reads}
use Rattle.regex.specs.Search.{Answers, next_match, matches_after}
use Rattle.regex.specs.Writes.{both, group_of}
use Rattle.regex.specs.Locations.{location, location_count, AreLocationsOf}
use Rattle.regex.specs.declared.locations.CaptureLocations.{CaptureLocations}
use Rattle.regex.specs.Strings.{regex_source, regex_pattern, regex_names}
use Rattle.regex.specs.declared.string.regex.Regex.{Regex}
use Rattle.regex.proofs.ForCallers.{spans, find_all_alike, is_match_alike}
use Rattle.regex.proofs.SearchLemmas.{matches_after_text, matches_after_none, matches_after_some}
use Rattle.regex_syntax.specs.Brackets.{Nested}
use Rattle.regex_syntax.specs.Grammar.{Names, group_count}
use Rattle.memchr.specs.Find.{FindsNeedle}
use Rattle.element_props.specs.Patterns.{within_limit, reading_of, IsKept}
use Rattle.jm_base.specs.declared.errors.NoMemory.{NoMemory}
use Rattle.reply_search.specs.declared.searches.NextMatch.{NextMatch}
use Rattle.reply_search.specs.Found.{spans_of, matches_of, matches_left, is_found, groups_of}
use Rattle.reply_search.proofs.AlikeLaws.{left_alike}

-- equal at each place of a range
pub same_along : {X : Type 0} (f g : ℕ → X) (a n : ℕ) → ((k : ℕ) → a ≤ k → k < a + n → f k ≡ g k)
    → map f (range_with_len a n) ≡ map g (range_with_len a n)
same_along f g a zero h = refl
same_along f g a (suc n) h =
    ap₂ ◌∷◌ (h a (omega arith) (omega arith)) (same_along f g (a + 1) n (λ k low high. h k (omega arith) (omega arith)))

-- a tree that reads as a pattern, and what the pattern's text stands for
pub record ReadsAs (tree : Re) (names : Names) (found : Option (Re × Names)) : Type 0 where
  pub re : Re
  pub is : found ≡ Some (re, names)
  pub same : SameCaptures tree re

from_read : (o : Option (Nested Re × Names)) (tree : Re) (names : Names)
    → IsSomeAnd o (λ (re, found). (re.depth ≤ 250) × SameCaptures tree re.value × (names ≡ found) × (group_count tree ≤ length names))
    → ReadsAs tree names (option_and_then within_limit o)
from_read None tree names h = absurd h
from_read (Some p) tree names h = record {
  re = p.0.value;
  is = cond-true _ _ _ (le-leb p.0.depth 250 h.0) ∙ ap (λ n. Some (p.0.value, n)) (sym h.2);
  same = h.1;
}

-- what the text of a kept pattern stands for
pub kept_reading : (r : Regex) → IsKept r → ReadsAs (regex_pattern r) (regex_names r) (reading_of (regex_source r))
unfolding reading_of Reads
kept_reading r kept = from_read _ _ _ (rw kept.0 at kept.1)

-- how many groups a kept pattern has
pub kept_groups : (r : Regex) → IsKept r → length (regex_names r) - 1 ≡ groups_of (regex_source r)
kept_groups r kept = sym (ap (λ (o : Option (Re × Names)). option_map_or (λ p. length p.1 - 1) o 0) (kept_reading r kept).is)

-- what is seen of a match
seen : ℕ → ℕ × ℕ × (ℕ → Option ℕ) → List (Option (ℕ × ℕ))
seen count s = Some (s.0, s.1) ∷ map (λ n. both (s.2 (2 * n)) (s.2 (2 * n + 1))) (range_with_len 1 (count - 1))

groups_seen : (count : ℕ) (ms : List Match) → map (spans_of count) ms ≡ map (seen count) (map spans ms)
unfolding seen
groups_seen count ms = sym (map-map (seen count) spans ms)

module _ (r : Regex) (kept : IsKept r) (hay : List ℕ) (bytes : (k : ℕ) → get_or hay k 0 < 256) where
  pub kept_matches : map (spans_of (length (regex_names r))) (find_all_str (regex_pattern r) hay) ≡ matches_of (regex_source r) hay
  kept_matches =
      let reads = kept_reading r kept in
      let count = length (regex_names r) in
      rw reads.is (groups_seen count _ ∙ ap (map (seen count)) (find_all_alike reads.same hay bytes true) ∙ sym (groups_seen count _))

  pub kept_left : (after : ℕ) → map (spans_of (length (regex_names r))) (matches_after true (regex_pattern r) hay after) ≡ matches_left (regex_source r) hay after
  kept_left after =
      let reads = kept_reading r kept in
      let count = length (regex_names r) in
      rw reads.is (groups_seen count _ ∙ ap (map (seen count)) (left_alike reads.same hay bytes after) ∙ sym (groups_seen count _))

  pub kept_count : length (find_all_str (regex_pattern r) hay) ≡ length (matches_of (regex_source r) hay)
  kept_count = sym (length-map (find_all_str (regex_pattern r) hay) (spans_of (length (regex_names r)))) ∙ ap length kept_matches

  pub kept_found : is_some (find_str (regex_pattern r) hay 0) ≡ is_found (regex_source r) hay
  kept_found = let reads = kept_reading r kept in rw reads.is (is_match_alike reads.same hay bytes true 0)

-- the row that is read from the locations of a match
pub row_of_match : (l : CaptureLocations) (m : Match) (n : ℕ) (whole : ℕ × ℕ) (row : List (Option (ℕ × ℕ)))
    → row ≡ Some whole ∷ map (location l) (range_with_len 1 (location_count l - 1)) → whole ≡ span m → location_count l ≡ n
    → AreLocationsOf m l → row ≡ spans_of n m
row_of_match l m n whole row e same count places =
    e ∙ ap₂ (λ (w : ℕ × ℕ) (t : List (Option (ℕ × ℕ))). Some w ∷ t) same
    (same_along (location l) (group_of m) 1 (location_count l - 1) (λ k low high. places.1 k low (omega arith))
    ∙ ap (λ (k : ℕ). map (group_of m) (range_with_len 1 (k - 1))) count)

all_left_by : (o : Option (Re × Names)) (hay : List ℕ)
    → option_map_or (λ p. map (spans_of (length p.1)) (matches_after true p.0 hay 0)) o [] ≡ option_map_or (λ p. map (spans_of (length p.1)) (find_all_str p.0 hay)) o []
all_left_by None hay = refl
all_left_by (Some p) hay = ap (map (spans_of (length p.1))) (matches_after_text p.0 hay)

-- before the first all are left
pub all_left : (pattern hay : List ℕ) → matches_left pattern hay 0 ≡ matches_of pattern hay
all_left pattern hay = all_left_by (reading_of pattern) hay

-- the row at a place of all matches
pub row_at : (l : CaptureLocations) (n : ℕ) (ms : List Match) (place : ℕ) (whole : Option (ℕ × ℕ)) → location_count l ≡ n
    → Answers whole (slice_get ms place) (λ m at. (at ≡ span m) × AreLocationsOf m l)
    → option_map (λ (at : ℕ × ℕ). Some at ∷ map (location l) (range_with_len 1 (location_count l - 1))) whole ≡ slice_get (map (spans_of n) ms) place
row_at l n ms place None count none = sym (slice_get-map (spans_of n) ms place ∙ ap (option_map (spans_of n)) none)
row_at l n ms place (Some at) count found =
    ap Some (row_of_match l found.0 n at _ refl found.2.0 count found.2.1)
    ∙ sym (slice_get-map (spans_of n) ms place ∙ ap (option_map (spans_of n)) found.1)

-- what follows of a value follows of an answer
pub if_ok : {A : Type 0} (r : Result A NoMemory) (P Q : A → Type 0) → ((a : A) → P a → Q a) → IfOk r P → IfOk r Q
if_ok (Ok a) P Q f h = f a h
if_ok (Err e) P Q f h = tt

-- the match that comes next is the first of those that are left
pub next_row : (l : CaptureLocations) (n : ℕ) (re : Re) (hay : List ℕ) (after : ℕ) (left : ℕ → List (List (Option (ℕ × ℕ)))) (whole : Option (ℕ × ℕ)) → location_count l ≡ n
    → ((k : ℕ) → map (spans_of n) (matches_after true re hay k) ≡ left k)
    → Answers whole (next_match true re hay after) (λ m at. (at ≡ span m) × AreLocationsOf m l)
    → (next : Option NextMatch) → MatchOption next (whole ≡ None) (λ m. IsSomeAnd whole (λ at. (m.after ≡ at.1 + 1)
    × (m.spans.items ≡ Some at ∷ map (location l) (range_with_len 1 (location_count l - 1)))))
    → MatchOption next (left after ≡ []) (λ m. left after ≡ m.spans.items ∷ left m.after)
next_row l n re hay after left None count same none None over = sym (same after) ∙ ap (map (spans_of n)) (matches_after_none re hay true after none)
next_row l n re hay after left None count same none (Some m) over = absurd over
next_row l n re hay after left (Some at) count same found None over = absurd (cc)
next_row l n re hay after left (Some at) count same found (Some m) row =
    let ends : found.0.trace.end + 1 ≡ m.after = ap (λ (s : ℕ × ℕ). s.1 + 1) (sym found.2.0) ∙ sym row.0 in
    sym (same after) ∙ ap (map (spans_of n)) (matches_after_some re hay true after found.0 found.1)
    ∙ ap₂ ◌∷◌ (sym (row_of_match l found.0 n at m.spans.items row.1 found.2.0 count found.2.1))
    (same (found.0.trace.end + 1) ∙ ap left ends)

-- a text that was found lies within the other
pub needle_fits : (hay needle : List ℕ) (r : Option ℕ) → FindsNeedle hay needle 0 r → IfSome r (λ k. k + length needle ≤ length hay)
needle_fits hay needle None h = tt
needle_fits hay needle (Some k) h = h.1.fits
