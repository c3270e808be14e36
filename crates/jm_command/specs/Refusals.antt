-- Why a plan is refused, and the line that says so.
use Rattle.std.specs.Prelude.{◌≡◌, ◌⊎◌, ℕ, ◌+◌, ◌*◌, nat_le, List, [], ◌∷◌, ◌++◌, length, slice_get, unwrap_or, position, Option, Some, None, Ok, Err, codes, if◌then◌else◌}
use Rattle.std.specs.Option.{option_map}
use Rattle.plan_json.specs.Place.{Place, at, path_text}
use Rattle.plan_json.specs.Shape.{Raw, raw, Raws, no_raws, raw_then, reading_of}
use Rattle.plan_json.specs.declared.error.TreeError.{TreeError}
use Rattle.plan_json.specs.declared.error.TreeError.TheVariants as trees
use Rattle.element_props.specs.declared.error.BuildError.{BuildError}
use Rattle.element_props.specs.declared.error.BuildError.TheVariants as builds
use Rattle.element_props.specs.declared.error.What.{What}
use Rattle.element_props.specs.declared.error.What.TheVariants as whats
use Rattle.element_props.specs.Patterns.{Asked}
use Rattle.element_props.specs.Reads.{over, Goes, Stops, RunsOut}
use Rattle.element_tree.specs.Tree.{Tree, threads_of, asks_a_server}
use Rattle.element_tree.specs.Walk.{is_enabled, reading}
use Rattle.command_words.specs.declared.command.Command.{Command}
use Rattle.command_words.specs.declared.command.Command.TheVariants.{Check, Make, Solo, Weave, Run}
use Rattle.command_words.specs.declared.command.Solo.{Solo as SoloOf}
use Rattle.command_words.specs.declared.command.Weave.{Weave as WeaveOf}
use Rattle.jm_command.specs.declared.refusal.Refusal.{Refusal}
use Rattle.jm_command.specs.declared.refusal.Refusal.TheVariants as refusals

-- ---- where elements stand

-- the steps from the root to each enabled element that no disabled one is above, in tree order
unfoldable mutual
  pub places_of : List ℕ → Raw → List (List ℕ)
  places_of here (raw kind name enabled ms below) = here ∷ places_below here 0 below

  -- the same below an element, from the child at this place on
  pub places_below : List ℕ → ℕ → Raws → List (List ℕ)
  places_below here place no_raws = []
  places_below here place (raw_then r rs) =
      (if is_enabled r then places_of (here ++ place ∷ []) r else []) ++ places_below here (place + 1) rs

-- where the element of this number stands in the tree
abbrev pub place_at : Raw → ℕ → Place
place_at tree n = at (unwrap_or (slice_get (places_of [] tree) n) [])

-- ---- what a command asks of a plan

-- `make` makes its plan, and the others read theirs
abbrev pub ReadsPlan : Command → Type 0
ReadsPlan Check = Unit {0}
ReadsPlan (Make m) = ⊥
ReadsPlan (Solo s) = Unit {0}
ReadsPlan (Weave w) = Unit {0}
ReadsPlan (Run r) = Unit {0}

-- a sample budget that all threads can have
abbrev pub samples_fault : Tree → ℕ → Option BuildError
samples_fault plan samples = if nat_le (length (threads_of plan) * samples) 4194304 then None else Some (builds.TooMany (at []) whats.Samples)

-- the first HTTP sampler in tree order without replies of its own, which only a server can answer
abbrev pub replies_fault : Raw → Tree → Option BuildError
replies_fault tree plan = option_map (λ n. builds.NoReplies (place_at tree n)) (position asks_a_server plan.elements)

-- a thread that the plan has, and a sample budget that all its threads can have
abbrev pub thread_fault : Tree → SoloOf → Option BuildError
thread_fault plan s =
    if nat_le (length (threads_of plan)) s.thread then Some builds.NoThread
    else samples_fault plan s.samples

-- the first of two faults, if there is any
abbrev pub first_fault : Option BuildError → Option BuildError → Option BuildError
first_fault None fault = fault
first_fault (Some e) fault = Some e

-- one thread is run without a server
abbrev pub solo_fault : Raw → Tree → SoloOf → Option BuildError
solo_fault tree plan s = first_fault (replies_fault tree plan) (thread_fault plan s)

-- all threads are run by a schedule, without a server
abbrev pub weave_fault : Raw → Tree → WeaveOf → Option BuildError
weave_fault tree plan w = first_fault (replies_fault tree plan) (samples_fault plan w.samples)

-- the first of the command's own conditions that the plan does not meet, if there is one
abbrev pub fault_for : Command → Raw → Tree → Option BuildError
fault_for Check tree plan = None
fault_for (Make m) tree plan = None
fault_for (Solo s) tree plan = solo_fault tree plan s
fault_for (Weave w) tree plan = weave_fault tree plan w
fault_for (Run r) tree plan = samples_fault plan r.samples

-- ---- acceptance and refusal

-- between two moments of the maker of patterns the bytes were read as this tree, and the tree as this plan
pub record IsPlanOf (bytes : List ℕ) (before after : Asked) (tree : Raw) (plan : Tree) : Type 0 where
  pub shape : reading_of bytes ≡ Ok tree
  pub built : Goes before (reading tree) (over plan) after

-- the plan meets the command's own conditions
pub record IsAccepted (command : Command) (bytes : List ℕ) (before after : Asked) (plan : Tree) : Type 0 where
  pub tree : Raw
  pub is_plan : IsPlanOf bytes before after tree plan
  pub fit : fault_for command tree plan ≡ None

-- it does not meet this one
pub record IsUnfit (command : Command) (bytes : List ℕ) (before after : Asked) (e : BuildError) : Type 0 where
  pub tree : Raw
  pub plan : Tree
  pub is_plan : IsPlanOf bytes before after tree plan
  pub unfit : fault_for command tree plan ≡ Some e

-- Why the bytes of a plan are refused to a command. The tree's shape is judged first, then the tree is built, and last come
-- the command's own conditions.
abbrev pub IsRefused : Command → List ℕ → Asked → Asked → Refusal → Type 0
IsRefused command bytes before after refusals.TooLong = ⊥
IsRefused command bytes before after (refusals.Shape e) = (reading_of bytes ≡ Err e) × (after ≡ before)
IsRefused command bytes before after (refusals.Build e) = (tree : Raw) × (reading_of bytes ≡ Ok tree) × Stops before (reading tree) e after
IsRefused command bytes before after (refusals.Unfit e) = IsUnfit command bytes before after e

-- The bytes were read as this tree, and the maker of patterns was given a prefix of the texts that the tree's reading asks for.
pub record AsksSome (bytes : List ℕ) (before after : Asked) : Type 0 where
  pub tree : Raw
  pub shape : reading_of bytes ≡ Ok tree
  pub asks : RunsOut before (reading tree) after

-- it was given nothing, or such a prefix
abbrev pub MayAsk : List ℕ → Asked → Asked → Type 0
MayAsk bytes before after = (after ≡ before) ⊎ AsksSome bytes before after

-- ---- the line

abbrev pub tree_title : TreeError → List ℕ
tree_title trees.NotUtf8 = codes "1 NotUtf8 "
tree_title trees.NotJson = codes "2 NotJson "
tree_title (trees.NotElement path) = codes "3 NotElement "
tree_title (trees.UnknownKey path) = codes "4 UnknownKey "
tree_title trees.NoMemory = []

abbrev pub build_title : BuildError → List ℕ
build_title (builds.UnknownType path) = codes "5 UnknownType "
build_title (builds.MissingProp path) = codes "6 MissingProp "
build_title (builds.BadProp path) = codes "7 BadProp "
build_title (builds.TooMany path what) = codes "8 TooMany "
build_title (builds.TooDeep path) = codes "9 TooDeep "
build_title (builds.WrongPlace path) = codes "10 WrongPlace "
build_title (builds.BadPattern path why) = codes "11 BadPattern "
build_title (builds.BadCond path place) = codes "12 BadCond "
build_title (builds.NoReplies path) = codes "13 NoReplies "
build_title builds.NoThread = codes "14 NoThread "
build_title builds.NoMemory = []

-- the number and the name of a refusal
abbrev pub title_of : Refusal → List ℕ
title_of refusals.TooLong = codes "8 TooMany "
title_of (refusals.Shape e) = tree_title e
title_of (refusals.Build e) = build_title e
title_of (refusals.Unfit e) = build_title e

abbrev pub tree_path : TreeError → Option Place
tree_path trees.NotUtf8 = None
tree_path trees.NotJson = None
tree_path (trees.NotElement path) = Some path
tree_path (trees.UnknownKey path) = Some path
tree_path trees.NoMemory = None

abbrev pub build_path : BuildError → Option Place
build_path (builds.UnknownType path) = Some path
build_path (builds.MissingProp path) = Some path
build_path (builds.BadProp path) = Some path
build_path (builds.TooMany path what) = Some path
build_path (builds.TooDeep path) = Some path
build_path (builds.WrongPlace path) = Some path
build_path (builds.BadPattern path why) = Some path
build_path (builds.BadCond path place) = Some path
build_path (builds.NoReplies path) = Some path
build_path builds.NoThread = None
build_path builds.NoMemory = None

-- where the fault stands, or `-`
abbrev pub where_text : Option Place → List ℕ
where_text None = codes "-"
where_text (Some path) = path_text path

abbrev pub where_of : Refusal → List ℕ
where_of refusals.TooLong = codes "/"
where_of (refusals.Shape e) = where_text (tree_path e)
where_of (refusals.Build e) = where_text (build_path e)
where_of (refusals.Unfit e) = where_text (build_path e)

abbrev pub what_text : What → List ℕ
what_text whats.Bytes = codes " bytes"
what_text whats.Elements = codes " elements"
what_text whats.Threads = codes " threads"
what_text whats.Labels = codes " labels"
what_text whats.Locks = codes " locks"
what_text whats.Samples = codes " samples"
what_text whats.Text = codes " text"

abbrev pub build_what : BuildError → List ℕ
build_what (builds.TooMany path what) = what_text what
build_what e = []

-- what there is too much of
abbrev pub what_of : Refusal → List ℕ
what_of refusals.TooLong = what_text whats.Bytes
what_of (refusals.Shape e) = []
what_of (refusals.Build e) = build_what e
what_of (refusals.Unfit e) = build_what e

-- `refused`, the number, the name, the path or `-`, and what there is too much of
unfoldable pub refusal_line : Refusal → List ℕ
refusal_line r = codes "refused " ++ title_of r ++ where_of r ++ what_of r ++ codes "\n"
