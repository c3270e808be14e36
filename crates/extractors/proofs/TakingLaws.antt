-- What is taken of all matches.
use Rattle.std.proofs.Common.{◌≡◌, ℕ, ◌%◌, List, [], ◌∷◌, ◌++◌, length, map, decimal, Option, Some, None, refl, sym, ap, ◌∙◌, subst}
use Rattle.std.specs.Prelude.{slice_get}
use Rattle.std.specs.Option.{option_map}
use Rattle.std.proofs.lemmas.List.{length-map}
use Rattle.std.proofs.lemmas.Option.{slice_get-map}
use Rattle.thread_vars.specs.Vars.{Variables}
use Rattle.std.specs.Prelude.{Result, Err}
use Rattle.thread_vars.specs.declared.error.VarError.{VarError}
use Rattle.var_changes.specs.Changes.{Sets, changed, Changes}
use Rattle.var_changes.proofs.ChangeLaws.{Standing, all_made, standing-first, standing-more, standing-stopped, standing-last}
use Rattle.extractors.specs.declared.which.Which.{Which}
use Rattle.extractors.specs.declared.which.Which.TheVariants.{All, AtRandom, One}
use Rattle.extractors.specs.Extraction.{Match, count_name, old_count, taken, removes_groups, removes_matches, sets_one, sets_matches, sets_default, begins_all, takes_all, takes_one}

taken-map : {A B : Type 0} (f : A → B) (which : Which) (pick : ℕ) (xs : List A) → taken which pick (map f xs) ≡ option_map f (taken which pick xs)
taken-map f All pick xs = refl
taken-map f AtRandom pick xs = ap (λ n. slice_get (map f xs) (pick % n)) (length-map xs f) ∙ slice_get-map f xs (pick % length xs)
taken-map f (One place) pick xs = slice_get-map f xs place

-- before one match is taken
pub one-first : {X : Type 0} (f : X → Match) (name : List ℕ) (default : Option (List ℕ)) (groups : Option ℕ) (which : Which) (pick : ℕ) (xs : List X) (m : Option X) (old : Variables) → m ≡ taken which pick xs
    → Standing (takes_one name default groups (taken which pick (map f xs))) old (removes_groups name groups ++ sets_one name default (option_map f m)) old
one-first f name default groups which pick xs m old is =
    subst (λ t. Standing (takes_one name default groups (taken which pick (map f xs))) old (removes_groups name groups ++ sets_one name default t) old) (taken-map f which pick xs ∙ ap (option_map f) (sym is))
    (standing-first (takes_one name default groups (taken which pick (map f xs))) old)

kept-map : {X R : Type 0} (f : R → Match) (kept : X → R) (o : Option X) → option_map (λ x. f (kept x)) o ≡ option_map f (option_map kept o)
kept-map f kept None = refl
kept-map f kept (Some x) = refl

-- the match that is taken, by what is kept of it
pub row-taken : {X R : Type 0} (f : R → Match) (kept : X → R) (row : Option X) (which : Which) (pick : ℕ) (rows : List R) → option_map kept row ≡ taken which pick rows
    → option_map (λ x. f (kept x)) row ≡ taken which pick (map f rows)
row-taken f kept row which pick rows is = kept-map f kept row ∙ ap (option_map f) is ∙ sym (taken-map f which pick rows)

-- the same of names that are equal
one-renamed : (n name : List ℕ) (g groups : Option ℕ) (default : Option (List ℕ)) (t m : Option Match) (old new : Variables) (res : Result (Unit {0}) VarError) → n ≡ name → g ≡ groups → t ≡ m
    → Changes (takes_one n default g t) old new res → Changes (takes_one name default groups m) old new res
one-renamed n name g groups default t m old new res n_is g_is t_is is =
    subst (λ n. Changes (takes_one n default groups m) old new res) n_is
    (subst (λ g. Changes (takes_one n default g m) old new res) g_is (subst (λ t. Changes (takes_one n default g t) old new res) t_is is))

-- the groups from before were to be removed
pub one-unbegun : (n name : List ℕ) (g groups : Option ℕ) (default : Option (List ℕ)) (m : Option Match) (old new : Variables) (error : VarError) → n ≡ name → g ≡ groups
    → Changes (removes_groups n g) old new (Err error) → Changes (takes_one name default groups m) old new (Err error)
one-unbegun n name g groups default m old new error n_is g_is is =
    one-renamed n name g groups default m m old new (Err error) n_is g_is refl
    (standing-stopped (takes_one n default g m) (removes_groups n g) (sets_one n default m) old old new error (standing-first (takes_one n default g m) old) is)

-- they are removed, and the match or the default is set
pub one-set : (n name : List ℕ) (g groups : Option ℕ) (default : Option (List ℕ)) (t m : Option Match) (old mid new : Variables) (res : Result (Unit {0}) VarError) → n ≡ name → g ≡ groups → t ≡ m
    → changed (removes_groups n g) old ≡ all_made mid → Changes (sets_one n default t) mid new res → Changes (takes_one name default groups m) old new res
one-set n name g groups default t m old mid new res n_is g_is t_is gone is =
    one-renamed n name g groups default t m old new res n_is g_is t_is
    (standing-last (takes_one n default g t) (sets_one n default t) old mid new res
    (standing-more (takes_one n default g t) (removes_groups n g) (sets_one n default t) old old mid (standing-first (takes_one n default g t) old) gone) is)

-- before all are taken
all-first : {X : Type 0} (f : X → Match) (name : List ℕ) (default : Option (List ℕ)) (groups : Option ℕ) (xs : List X) (old : Variables)
    → Standing (takes_all name default groups (map f xs) old) old (begins_all name groups (length xs) old ++ (sets_matches name 1 (map f xs) ++ sets_default name default)) old
all-first f name default groups xs old =
    subst (λ n. Standing (takes_all name default groups (map f xs) old) old (begins_all name groups n old ++ (sets_matches name 1 (map f xs) ++ sets_default name default)) old) (length-map xs f)
    (standing-first (takes_all name default groups (map f xs) old) old)

pub all-unbegun : {X : Type 0} (f : X → Match) (name : List ℕ) (default : Option (List ℕ)) (groups : Option ℕ) (xs : List X) (old new : Variables) (error : VarError) → Changes (begins_all name groups (length xs) old) old new (Err error)
    → Changes (takes_all name default groups (map f xs) old) old new (Err error)
all-unbegun f name default groups xs old new error is =
    standing-stopped (takes_all name default groups (map f xs) old) (begins_all name groups (length xs) old) (sets_matches name 1 (map f xs) ++ sets_default name default) old old new error (all-first f name default groups xs old) is

-- the matches are still to be set
pub all-begun : {X : Type 0} (f : X → Match) (name : List ℕ) (default : Option (List ℕ)) (groups : Option ℕ) (xs : List X) (old mid : Variables) → changed (begins_all name groups (length xs) old) old ≡ all_made mid
    → Standing (takes_all name default groups (map f xs) old) old (sets_matches name 1 (map f xs) ++ sets_default name default) mid
all-begun f name default groups xs old mid is =
    standing-more (takes_all name default groups (map f xs) old) (begins_all name groups (length xs) old) (sets_matches name 1 (map f xs) ++ sets_default name default) old old mid (all-first f name default groups xs old) is

-- the default is still to be set
pub all-set : {X : Type 0} (f : X → Match) (name : List ℕ) (default : Option (List ℕ)) (groups : Option ℕ) (xs : List X) (old mid last new : Variables) (res : Result (Unit {0}) VarError) → changed (begins_all name groups (length xs) old) old ≡ all_made mid
    → changed (sets_matches name 1 (map f xs)) mid ≡ all_made last → Changes (sets_default name default) last new res → Changes (takes_all name default groups (map f xs) old) old new res
all-set f name default groups xs old mid last new res begun set is =
    standing-last (takes_all name default groups (map f xs) old) (sets_default name default) old last new res
    (standing-more (takes_all name default groups (map f xs) old) (sets_matches name 1 (map f xs)) (sets_default name default) old mid last (all-begun f name default groups xs old mid begun) set) is

-- what comes before all matches, of names and counts that are equal
pub begins-renamed : (n name : List ℕ) (g groups : Option ℕ) (k count : ℕ) (old new : Variables) (res : Result (Unit {0}) VarError) → n ≡ name → g ≡ groups → k ≡ count
    → Changes (begins_all n g k old) old new res → Changes (begins_all name groups count old) old new res
begins-renamed n name g groups k count old new res n_is g_is k_is is =
    subst (λ n. Changes (begins_all n groups count old) old new res) n_is
    (subst (λ g. Changes (begins_all n g count old) old new res) g_is (subst (λ k. Changes (begins_all n g k old) old new res) k_is is))

-- before those from before are removed
begins-first : (name : List ℕ) (groups : Option ℕ) (count n : ℕ) (old : Variables) → n ≡ old_count name old
    → Standing (begins_all name groups count old) old (removes_groups name groups ++ (removes_matches name groups n ++ Sets (count_name name) (decimal count) ∷ [])) old
begins-first name groups count n old is =
    subst (λ n. Standing (begins_all name groups count old) old (removes_groups name groups ++ (removes_matches name groups n ++ Sets (count_name name) (decimal count) ∷ [])) old) (sym is)
    (standing-first (begins_all name groups count old) old)

pub begins-unremoved : (name : List ℕ) (groups : Option ℕ) (count n : ℕ) (old new : Variables) (error : VarError) → n ≡ old_count name old → Changes (removes_groups name groups) old new (Err error)
    → Changes (begins_all name groups count old) old new (Err error)
begins-unremoved name groups count n old new error n_is is =
    standing-stopped (begins_all name groups count old) (removes_groups name groups) (removes_matches name groups n ++ Sets (count_name name) (decimal count) ∷ []) old old new error (begins-first name groups count n old n_is) is

-- the matches are still there
pub begins-second : (name : List ℕ) (groups : Option ℕ) (count n : ℕ) (old mid : Variables) → n ≡ old_count name old → changed (removes_groups name groups) old ≡ all_made mid
    → Standing (begins_all name groups count old) old (removes_matches name groups n ++ Sets (count_name name) (decimal count) ∷ []) mid
begins-second name groups count n old mid n_is is =
    standing-more (begins_all name groups count old) (removes_groups name groups) (removes_matches name groups n ++ Sets (count_name name) (decimal count) ∷ []) old old mid (begins-first name groups count n old n_is) is

-- the count is still to be set
pub begins-third : (name : List ℕ) (groups : Option ℕ) (count n : ℕ) (own : List ℕ) (old mid last : Variables) → n ≡ old_count name old → own ≡ count_name name → changed (removes_groups name groups) old ≡ all_made mid → changed (removes_matches name groups n) mid ≡ all_made last
    → Standing (begins_all name groups count old) old (Sets own (decimal count) ∷ []) last
begins-third name groups count n own old mid last n_is own_is groups_gone matches_gone =
    subst (λ own. Standing (begins_all name groups count old) old (Sets own (decimal count) ∷ []) last) (sym own_is)
    (standing-more (begins_all name groups count old) (removes_matches name groups n) (Sets (count_name name) (decimal count) ∷ []) old mid last (begins-second name groups count n old mid n_is groups_gone) matches_gone)
