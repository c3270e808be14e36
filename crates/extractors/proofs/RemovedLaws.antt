-- Variables from before that are removed, one after another.
use Rattle.std.proofs.Common.{◌≡◌, ℕ, suc, ◌+◌, ◌-◌, ◌<◌, ◌≤◌, List, [], ◌∷◌, ◌++◌, map, Option, Some, sym, ap, ◌∙◌, subst, arith}
use Rattle.std.specs.List.{flat_map, range_with_len}
use Rattle.thread_vars.specs.Vars.{Variables, without_var}
use Rattle.var_changes.specs.Changes.{Change, Removes, changed}
use Rattle.var_changes.proofs.ChangeLaws.{Standing, all_made, standing-first, standing-removed, standing-over}
use Rattle.extractors.specs.Extraction.{match_name, groups_name, group_name, removes_group, removes_groups, removes_match, removes_matches}

-- the groups from this number to the last
abbrev pub from_group : List ℕ → ℕ → ℕ → List Change
from_group name n last = map (removes_group name) (range_with_len n (suc (last - n)))

-- how many groups there are has been removed
pub groups-first : (name : List ℕ) (groups : Option ℕ) (last : ℕ) (old new : Variables) → groups ≡ Some last → new ≡ without_var (groups_name name) old
    → Standing (removes_groups name groups) old (from_group name 0 last) new
groups-first name groups last old new is gone =
    let all : suc (last - 0) ≡ last + 1 = omega arith in
    subst (λ g. Standing (removes_groups name g) old (from_group name 0 last) new) (sym is)
    (subst (λ k. Standing (removes_groups name (Some last)) old (map (removes_group name) (range_with_len 0 k)) new) (sym all)
    (standing-removed (removes_groups name (Some last)) (map (removes_group name) (range_with_len 0 (last + 1))) old old new (groups_name name) (standing-first (removes_groups name (Some last)) old) gone))

-- one more group
pub groups-more : (all : List Change) (name : List ℕ) (n last : ℕ) (old mid new : Variables) → n < last → Standing all old (from_group name n last) mid → new ≡ without_var (group_name name n) mid
    → Standing all old (from_group name (n + 1) last) new
groups-more all name n last old mid new within s gone =
    let more : suc (last - n) ≡ suc (suc (last - (n + 1))) = omega arith in
    standing-removed all (from_group name (n + 1) last) old mid new (group_name name n)
    (subst (λ k. Standing all old (map (removes_group name) (range_with_len n k)) mid) more s) gone

-- the last one
pub groups-over : (all : List Change) (name : List ℕ) (n last : ℕ) (old mid new : Variables) → n ≡ last → Standing all old (from_group name n last) mid → new ≡ without_var (group_name name last) mid
    → changed all old ≡ all_made new
groups-over all name n last old mid new is s gone =
    let one : suc (last - n) ≡ 1 = omega arith in
    standing-over all old new
    (standing-removed all [] old mid new (group_name name n) (subst (λ k. Standing all old (map (removes_group name) (range_with_len n k)) mid) one s) (gone ∙ ap (λ k. without_var (group_name name k) mid) (sym is)))

-- the matches from this place on
abbrev pub from_match : List ℕ → Option ℕ → ℕ → ℕ → List Change
from_match name groups n count = flat_map (removes_match name groups) (range_with_len (n + 1) (count - n))

pub matches-first : (name : List ℕ) (groups : Option ℕ) (count : ℕ) (old : Variables) → Standing (removes_matches name groups count) old (from_match name groups 0 count) old
matches-first name groups count old =
    let all : count - 0 ≡ count = omega arith in
    rw all (standing-first (removes_matches name groups count) old)

-- the match of the next place is removed, and its groups are still there
pub matches-next : (all : List Change) (name : List ℕ) (groups : Option ℕ) (n count : ℕ) (own : List ℕ) (old mid new : Variables) → n < count → own ≡ match_name name (n + 1) → Standing all old (from_match name groups n count) mid
    → new ≡ without_var own mid → Standing all old (removes_groups own groups ++ from_match name groups (n + 1) count) new
matches-next all name groups n count own old mid new within is s gone =
    let more : count - n ≡ suc (count - (n + 1)) = omega arith in
    standing-removed all (removes_groups own groups ++ from_match name groups (n + 1) count) old mid new own
    (subst (λ own. Standing all old (Removes own ∷ (removes_groups own groups ++ from_match name groups (n + 1) count)) mid) (sym is)
    (subst (λ k. Standing all old (flat_map (removes_match name groups) (range_with_len (n + 1) k)) mid) more s)) gone

pub matches-over : (all : List Change) (name : List ℕ) (groups : Option ℕ) (n count : ℕ) (old now : Variables) → count ≤ n → Standing all old (from_match name groups n count) now → changed all old ≡ all_made now
matches-over all name groups n count old now past s =
    let over : count - n ≡ 0 = omega arith in
    standing-over all old now (subst (λ k. Standing all old (flat_map (removes_match name groups) (range_with_len (n + 1) k)) now) over s)
