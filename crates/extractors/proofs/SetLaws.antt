-- Matches and groups that are set, one after another. Names and values are as a call has them.
use Rattle.std.proofs.Common.{◌≡◌, ℕ, ◌+◌, ◌-◌, ◌<◌, ◌≤◌, List, [], ◌∷◌, ◌++◌, length, drop, map, decimal, Some, sym, ap, ◌∙◌, subst, arith, add-one}
use Rattle.std.specs.Prelude.{false, nat_eq}
use Rattle.std.proofs.lemmas.Bool.{false≢true}
use Rattle.std.proofs.Math.ListN.{get_or}
use Rattle.std.proofs.Math.Seq.{drop-cons}
use Rattle.std.proofs.lemmas.List.{drop_all, length-map}
use Rattle.thread_vars.specs.Vars.{Variables, put_var}
use Rattle.var_changes.specs.Changes.{Change, Sets, changed}
use Rattle.var_changes.proofs.ChangeLaws.{Standing, all_made, standing-first, standing-put, standing-over}
use Rattle.extractors.specs.Extraction.{Match, match_name, groups_name, group_name, sets_groups, sets_all_groups, sets_match, sets_matches}

item-first : {X : Type 0} (xs : List X) (i : ℕ) (d : X) → i < length xs → drop i xs ≡ get_or xs i d ∷ drop (i + 1) xs
item-first xs i d within = rw (add-one i) (drop-cons xs i d within)

-- the next group
pub groups-next : {X : Type 0} (f : X → List ℕ) (all : List Change) (name : List ℕ) (xs : List X) (i : ℕ) (d : X) (own value : List ℕ) (old mid : Variables) → i < length xs → own ≡ group_name name i → value ≡ f (get_or xs i d)
    → Standing all old (sets_groups name i (map f (drop i xs))) mid → Standing all old (Sets own value ∷ sets_groups name (i + 1) (map f (drop (i + 1) xs))) mid
groups-next f all name xs i d own value old mid within own_is value_is s =
    subst (λ own. Standing all old (Sets own value ∷ sets_groups name (i + 1) (map f (drop (i + 1) xs))) mid) (sym own_is)
    (subst (λ value. Standing all old (Sets (group_name name i) value ∷ sets_groups name (i + 1) (map f (drop (i + 1) xs))) mid) (sym value_is)
    (subst (λ ys. Standing all old (sets_groups name i (map f ys)) mid) (item-first xs i d within) s))

pub groups-over : {X : Type 0} (f : X → List ℕ) (all : List Change) (name : List ℕ) (xs : List X) (i : ℕ) (old now : Variables) → length xs ≤ i
    → Standing all old (sets_groups name i (map f (drop i xs))) now → changed all old ≡ all_made now
groups-over f all name xs i old now past s = standing-over all old now (subst (λ ys. Standing all old (sets_groups name i (map f ys)) now) (drop_all i xs past) s)

groups-counted : {X : Type 0} (f : X → List ℕ) (name : List ℕ) (xs : List X) → nat_eq (length xs) 0 ≡ false → sets_all_groups name (map f xs) ≡ Sets (groups_name name) (decimal (length xs - 1)) ∷ sets_groups name 0 (map f xs)
groups-counted f name [] some = absurd (false≢true (sym some))
groups-counted f name (x ∷ xs) some =
    let count : length (map f xs) ≡ length (x ∷ xs) - 1 = omega (arith, length-map xs f) in
    ap (λ n. Sets (groups_name name) (decimal n) ∷ sets_groups name 0 (map f (x ∷ xs))) count

-- how many groups there are has been set
pub groups-begun : {X : Type 0} (f : X → List ℕ) (name : List ℕ) (xs : List X) (own : List ℕ) (old mid : Variables) → nat_eq (length xs) 0 ≡ false → own ≡ groups_name name → put_var own (decimal (length xs - 1)) old ≡ Some mid
    → Standing (sets_all_groups name (map f xs)) old (sets_groups name 0 (map f xs)) mid
groups-begun f name xs own old mid some own_is put =
    standing-put (sets_all_groups name (map f xs)) (sets_groups name 0 (map f xs)) old old mid own (decimal (length xs - 1))
    (subst (λ own. Standing (sets_all_groups name (map f xs)) old (Sets own (decimal (length xs - 1)) ∷ sets_groups name 0 (map f xs)) old) (sym own_is)
    (subst (λ cs. Standing (sets_all_groups name (map f xs)) old cs old) (groups-counted f name xs some) (standing-first (sets_all_groups name (map f xs)) old))) put

-- the value of a match has been set
pub match-begun : (name own value : List ℕ) (m : Match) (old mid : Variables) → own ≡ name → value ≡ m.value → put_var own value old ≡ Some mid → Standing (sets_match name m) old (sets_all_groups name m.groups) mid
match-begun name own value m old mid own_is value_is put =
    standing-put (sets_match name m) (sets_all_groups name m.groups) old old mid own value
    (subst (λ own. Standing (sets_match name m) old (Sets own value ∷ sets_all_groups name m.groups) old) (sym own_is)
    (subst (λ value. Standing (sets_match name m) old (Sets name value ∷ sets_all_groups name m.groups) old) (sym value_is) (standing-first (sets_match name m) old))) put

-- the next match
pub matches-next : {X : Type 0} (f : X → Match) (all : List Change) (name : List ℕ) (xs : List X) (i : ℕ) (x : X) (own : List ℕ) (m : Match) (old mid : Variables) → i < length xs → x ≡ get_or xs i x → own ≡ match_name name (i + 1) → m ≡ f x
    → Standing all old (sets_matches name (i + 1) (map f (drop i xs))) mid → Standing all old (sets_match own m ++ sets_matches name (i + 1 + 1) (map f (drop (i + 1) xs))) mid
matches-next f all name xs i x own m old mid within is own_is m_is s =
    subst (λ own. Standing all old (sets_match own m ++ sets_matches name (i + 1 + 1) (map f (drop (i + 1) xs))) mid) (sym own_is)
    (subst (λ m. Standing all old (sets_match (match_name name (i + 1)) m ++ sets_matches name (i + 1 + 1) (map f (drop (i + 1) xs))) mid) (sym m_is)
    (subst (λ ys. Standing all old (sets_matches name (i + 1) (map f ys)) mid) (item-first xs i x within ∙ ap (λ y. y ∷ drop (i + 1) xs) (sym is)) s))

pub matches-over : {X : Type 0} (f : X → Match) (all : List Change) (name : List ℕ) (xs : List X) (i : ℕ) (old now : Variables) → length xs ≤ i
    → Standing all old (sets_matches name (i + 1) (map f (drop i xs))) now → changed all old ≡ all_made now
matches-over f all name xs i old now past s = standing-over all old now (subst (λ ys. Standing all old (sets_matches name (i + 1) (map f ys)) now) (drop_all i xs past) s)

-- the same where the matches that are left are known by the first of them and those after it
pub found-next : {X : Type 0} (f : X → Match) (all : List Change) (name : List ℕ) (were : List X) (x : X) (left : List X) (n : ℕ) (own : List ℕ) (m : Match) (old mid : Variables) → were ≡ x ∷ left → own ≡ match_name name n → m ≡ f x
    → Standing all old (sets_matches name n (map f were)) mid → Standing all old (sets_match own m ++ sets_matches name (n + 1) (map f left)) mid
found-next f all name were x left n own m old mid first own_is m_is s =
    subst (λ own. Standing all old (sets_match own m ++ sets_matches name (n + 1) (map f left)) mid) (sym own_is)
    (subst (λ m. Standing all old (sets_match (match_name name n) m ++ sets_matches name (n + 1) (map f left)) mid) (sym m_is)
    (subst (λ ms. Standing all old (sets_matches name n (map f ms)) mid) first s))

-- none is left
pub found-over : {X : Type 0} (f : X → Match) (all : List Change) (name : List ℕ) (left : List X) (n : ℕ) (old now : Variables) → length left ≡ 0
    → Standing all old (sets_matches name n (map f left)) now → changed all old ≡ all_made now
found-over f all name [] n old now none s = standing-over all old now s
found-over f all name (x ∷ xs) n old now none s = absurd (omega (arith, none))
