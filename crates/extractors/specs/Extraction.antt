-- What an extractor makes of the variables: changes that are a function of the list of all its matches.
use Rattle.std.specs.Prelude.{ℕ, zero, suc, ◌+◌, ◌%◌, ℤ, pos, negsuc, nat_le, List, [], ◌∷◌, ◌++◌, length, map, Option, Some, None, slice_get, unwrap_or, option_and_then, codes, decimal, if◌then◌else◌}
use Rattle.std.specs.List.{flat_map, range_with_len}
use Rattle.thread_vars.specs.Vars.{Variables, value_of}
use Rattle.cursor_steps.specs.Numeral.{decimal_number}
use Rattle.var_changes.specs.Changes.{Change, Removes, Sets}
use Rattle.extractors.specs.declared.which.Which.{Which}
use Rattle.extractors.specs.declared.which.Which.TheVariants.{All, AtRandom, One}

-- a match: its value, and what the groups of a regular expression have in it, the whole match first; other matches have none
pub record Match : Type 0 where
  pub value : List ℕ
  pub groups : List (List ℕ)

-- ---- names

-- a name, an underscore and an ending
abbrev pub ending_in : List ℕ → List ℕ → List ℕ
ending_in name ending = name ++ 95 ∷ ending

-- the variable of the match of this number, from 1
abbrev pub match_name : List ℕ → ℕ → List ℕ
match_name name n = ending_in name (decimal n)

-- the variable of how many matches there are
abbrev pub count_name : List ℕ → List ℕ
count_name name = ending_in name (codes "matchNr")

-- the variable of how many groups a match has, and that of each
abbrev pub groups_name : List ℕ → List ℕ
groups_name name = ending_in name (codes "g")

abbrev pub group_name : List ℕ → ℕ → List ℕ
group_name name n = ending_in name (codes "g" ++ decimal n)

-- ---- what is set

-- the groups from this number on
abbrev pub sets_groups : List ℕ → ℕ → List (List ℕ) → List Change
sets_groups name n [] = []
sets_groups name n (text ∷ texts) = Sets (group_name name n) text ∷ sets_groups name (n + 1) texts

-- how many groups there are beside the whole match, and each of them
abbrev pub sets_all_groups : List ℕ → List (List ℕ) → List Change
sets_all_groups name [] = []
sets_all_groups name (whole ∷ groups) = Sets (groups_name name) (decimal (length groups)) ∷ sets_groups name 0 (whole ∷ groups)

-- a match: its value, and its groups
abbrev pub sets_match : List ℕ → Match → List Change
sets_match name m = Sets name m.value ∷ sets_all_groups name m.groups

-- the matches from this number on
abbrev pub sets_matches : List ℕ → ℕ → List Match → List Change
sets_matches name n [] = []
sets_matches name n (m ∷ ms) = sets_match (match_name name n) m ++ sets_matches name (n + 1) ms

-- the default, if there is one
abbrev pub sets_default : List ℕ → Option (List ℕ) → List Change
sets_default name None = []
sets_default name (Some default) = Sets name default ∷ []

-- ---- what is removed before

abbrev pub removes_group : List ℕ → ℕ → Change
removes_group name n = Removes (group_name name n)

-- the groups that a match of a pattern with that many groups may have had; other extractors have none
abbrev pub removes_groups : List ℕ → Option ℕ → List Change
removes_groups name None = []
removes_groups name (Some groups) = Removes (groups_name name) ∷ map (removes_group name) (range_with_len 0 (groups + 1))

abbrev pub removes_match : List ℕ → Option ℕ → ℕ → List Change
removes_match name groups n = Removes (match_name name n) ∷ removes_groups (match_name name n) groups

-- that many matches from before
abbrev pub removes_matches : List ℕ → Option ℕ → ℕ → List Change
removes_matches name groups count = flat_map (removes_match name groups) (range_with_len 1 count)

-- how many matches were set before, by the variable that counts them; none where it is not decimal or past 65,536
abbrev pub small : ℕ → Option ℕ
small n = if nat_le n 65536 then Some n else None

abbrev pub old_count : List ℕ → Variables → ℕ
old_count name vars = unwrap_or (option_and_then small (option_and_then decimal_number (value_of (count_name name) vars))) 0

-- ---- which match is taken

-- a match number: that match, from 1; one at random; or all of them
abbrev pub which_of : ℤ → Which
which_of (negsuc n) = All
which_of (pos zero) = AtRandom
which_of (pos (suc n)) = One n

-- the one match that is taken, where it is there
abbrev pub taken : {M : Type 0} → Which → ℕ → List M → Option M
taken All pick ms = None
taken AtRandom pick ms = slice_get ms (pick % length ms)
taken (One place) pick ms = slice_get ms place

-- that match, or else the default
abbrev pub sets_one : List ℕ → Option (List ℕ) → Option Match → List Change
sets_one name default None = sets_default name default
sets_one name default (Some m) = sets_match name m

-- ---- the whole

-- One match: its groups from before are removed, and it is set, or where nothing matches the default.
abbrev pub takes_one : List ℕ → Option (List ℕ) → Option ℕ → Option Match → List Change
takes_one name default groups m = removes_groups name groups ++ sets_one name default m

-- what comes before all matches: those from before are removed, and how many there are is set
abbrev pub begins_all : List ℕ → Option ℕ → ℕ → Variables → List Change
begins_all name groups count vars =
    removes_groups name groups ++ (removes_matches name groups (old_count name vars) ++ Sets (count_name name) (decimal count) ∷ [])

-- All matches: those from before are removed; then their count, each of them, and the default are set.
abbrev pub takes_all : List ℕ → Option (List ℕ) → Option ℕ → List Match → Variables → List Change
takes_all name default groups ms vars = begins_all name groups (length ms) vars ++ (sets_matches name 1 ms ++ sets_default name default)

-- what an extractor with these matches makes of the variables
abbrev pub extracted : List ℕ → Which → Option (List ℕ) → Option ℕ → List Match → ℕ → Variables → List Change
extracted name All default groups ms pick vars = takes_all name default groups ms vars
extracted name AtRandom default groups ms pick vars = takes_one name default groups (taken AtRandom pick ms)
extracted name (One place) default groups ms pick vars = takes_one name default groups (taken (One place) pick ms)
