-- The start of a round: Counters and data sets advance.
use Rattle.std.specs.Prelude.{◌≡◌, ℕ, ◌+◌, Bool, true, false, ◌&&◌, ◌||◌, nat_eq, nat_lt, List, [], ◌∷◌, ◌++◌, length, map, Option, Some, None, slice_get, slice_set, slice_index_or, unwrap_or, codes, decimal, All, Result, Ok, Err, if◌then◌else◌}
use Rattle.std.specs.List.{filter, list_any, range_with_len}
use Rattle.std.specs.Option.{option_map}
use Rattle.jm_base.specs.Run.{Run, over, ◌>>=◌}
use Rattle.element_props.specs.Tables.{rows_of}
use Rattle.element_tree.specs.declared.kinds.Element.{Element}
use Rattle.element_props.specs.declared.choices.AtEnd.{AtEnd}
use Rattle.element_props.specs.declared.choices.AtEnd.TheVariants.{Recycle, Stop, Eof}
use Rattle.element_tree.specs.declared.kinds.Kind.{Kind}
use Rattle.element_tree.specs.declared.kinds.Kind.TheVariants.{Counter, DataSet}
use Rattle.scope_resolver.specs.Scoping.{parent_in, line_to}
use Rattle.var_functions.specs.declared.state.UserState.{UserState}
use Rattle.var_changes.specs.declared.put.Variable.{Variable}
use Rattle.var_changes.specs.Changes.{Changed, changed, setting}
use Rattle.cursor_steps.specs.CursorStep.{Step, answers, past_limit}
use Rattle.thread_vars.specs.declared.error.VarError.{VarError}
use Rattle.thread_vars.specs.declared.error.VarError.TheVariants.{ValueLimit, NoMemory}
use Rattle.config_elements.specs.declared.rounds.Advance.{Advance}
use Rattle.config_elements.specs.declared.state.Feed.{Feed}
use Rattle.config_elements.specs.declared.state.Sort.{Sort}
use Rattle.config_elements.specs.declared.state.Sort.TheVariants.{Counters, DataSets}

-- ---- which elements advance in the rounds of a group

-- an element stands directly under the plan, or at any depth below the group
abbrev pub is_in_scope : List Element → ℕ → ℕ → Bool
is_in_scope elements group number = nat_eq (parent_in elements number) 0 || list_any (nat_eq group) (line_to elements number)

abbrev pub is_of : Sort → Kind → Bool
is_of Counters (Counter increment maximum start var) = true
is_of DataSets (DataSet at_end names share text) = true
is_of sort kind = false

abbrev pub is_at : Sort → List Element → ℕ → Bool
is_at sort elements number = unwrap_or (option_map (λ e. is_of sort e.kind) (slice_get elements number)) false

abbrev pub is_advancing : Sort → List Element → ℕ → ℕ → Bool
is_advancing sort elements group number = is_at sort elements number && is_in_scope elements group number

-- those of a sort, in tree order
abbrev pub advancing_of : Sort → List Element → ℕ → List ℕ
advancing_of sort elements group = filter (is_advancing sort elements group) (range_with_len 0 (length elements))

-- Counters, and then data sets
abbrev pub advancing : List Element → ℕ → List ℕ
advancing elements group = advancing_of Counters elements group ++ advancing_of DataSets elements group

-- ---- what each of them keeps from round to round: a place, at its element's number

-- before the first round: the Counter's value in that round, and the data set's first row
abbrev pub first_in : Kind → ℕ
first_in (Counter increment maximum start var) = start
first_in kind = 0

abbrev pub first_config : List Element → List ℕ
first_config elements = map (λ e. first_in e.kind) elements

-- ---- one of them at the start of a round

abbrev pub variable : List ℕ → List ℕ → Variable
variable name value = record { name = name; value = value }

-- a Counter sets its variable to its place, and goes on by its increment; past its maximum it begins again
abbrev pub counter_advance : ℕ → ℕ → ℕ → List ℕ → ℕ → Advance
counter_advance increment maximum start var place = record {
  sets = Some (variable var (decimal place) ∷ []);
  place = if nat_lt maximum (place + increment) then start else place + increment;
}

-- each name with its field
abbrev pub with_fields : List (List ℕ) → List (List ℕ) → List Variable
with_fields [] fields = []
with_fields (name ∷ names) [] = []
with_fields (name ∷ names) (field ∷ fields) = variable name field ∷ with_fields names fields

-- the row after this one; with recycling the first one after the last
abbrev pub next_row : AtEnd → ℕ → ℕ → ℕ
next_row Recycle count place = if nat_lt (place + 1) count then place + 1 else 0
next_row Stop count place = place + 1
next_row Eof count place = place + 1

-- after the last row
abbrev pub at_the_end : AtEnd → List (List ℕ) → Option (List Variable)
at_the_end Recycle names = Some []
at_the_end Stop names = None
at_the_end Eof names = Some (map (λ name. variable name (codes "<EOF>")) names)

abbrev pub row_advance : AtEnd → List (List ℕ) → ℕ → ℕ → Option (List (List ℕ)) → Advance
row_advance at_end names count place None = record { sets = at_the_end at_end names; place = place }
row_advance at_end names count place (Some fields) = record { sets = Some (with_fields names fields); place = next_row at_end count place }

abbrev pub set_advance : AtEnd → List (List ℕ) → List (List (List ℕ)) → ℕ → Advance
set_advance at_end names rows place = row_advance at_end names (length rows) place (slice_get rows place)

-- what the element of this kind gives at its place
abbrev pub advance : Kind → ℕ → Run Advance
advance (Counter increment maximum start var) place = over (counter_advance increment maximum start var place)
advance (DataSet at_end names share text) place = over (set_advance at_end names (rows_of text) place)
advance kind place = over (record { sets = Some []; place = place })

abbrev pub advance_at : Option Element → ℕ → Run Advance
advance_at None place = over (record { sets = Some []; place = place })
advance_at (Some e) place = advance e.kind place

-- ---- all of them

-- its variables are set, and the next ones come; where no row is left the thread is to stop
abbrev pub on_changed : List ℕ → UserState → (UserState → Run (Step Bool (List ℕ))) → Changed → Run (Step Bool (List ℕ))
on_changed places user next c =
    if c.whole then next (record { vars = c.vars; fns = user.fns }) else past_limit places (record { vars = c.vars; fns = user.fns })

abbrev pub on_sets : List ℕ → UserState → (UserState → Run (Step Bool (List ℕ))) → Option (List Variable) → Run (Step Bool (List ℕ))
on_sets places user next None = answers false places user
on_sets places user next (Some variables) = on_changed places user next (changed (map setting variables) user.vars)

abbrev pub begin_each : List Element → List ℕ → List ℕ → UserState → Run (Step Bool (List ℕ))
begin_each elements [] places user = answers true places user
begin_each elements (n ∷ ns) places user =
    advance_at (slice_get elements n) (slice_index_or places n 0) >>= λ a.
    on_sets places user (begin_each elements ns (slice_set places n a.place)) a.sets

-- the start of a round of a group's thread: true, or false where the thread is to stop
abbrev pub begin_round : List Element → ℕ → List ℕ → UserState → Run (Step Bool (List ℕ))
begin_round elements group places user = begin_each elements (advancing elements group) places user

-- ---- what a thread keeps of them

abbrev pub rows_in : Kind → List (List (List ℕ))
rows_in (DataSet at_end names share text) = rows_of text
rows_in kind = []

abbrev pub rows_at : List Element → ℕ → List (List (List ℕ))
rows_at elements number = unwrap_or (option_map (λ e. rows_in e.kind) (slice_get elements number)) []

-- the element of this number, and the rows of a data set
abbrev pub feed_of : List Element → ℕ → Feed
feed_of elements number = record { number = number; rows = rows_at elements number }

-- what was made for the threads of this group
abbrev pub feeds_of : List Element → ℕ → List Feed
feeds_of elements group = map (feed_of elements) (advancing elements group)

-- what contracts see of it, with the place of each element
pub record Config : Type 0 where
  pub feeds : List Feed
  pub places : List ℕ

-- each has the rows of its element
abbrev pub AreFed : List Element → List Feed → Type 0
AreFed elements feeds = All (λ f. f.rows ≡ rows_at elements f.number) feeds

-- what a call that was to feed one of them has done, whatever comes after it
abbrev pub FeedsOne : List Element → ℕ → List ℕ → UserState → List ℕ → UserState → Result Bool VarError → Type 0
FeedsOne elements n old before new after (Ok true) = (ns : List ℕ) → begin_each elements (n ∷ ns) old before ≡ begin_each elements ns new after
FeedsOne elements n old before new after (Ok false) = (ns : List ℕ) → begin_each elements (n ∷ ns) old before ≡ answers false new after
FeedsOne elements n old before new after (Err ValueLimit) = (ns : List ℕ) → begin_each elements (n ∷ ns) old before ≡ past_limit new after
FeedsOne elements n old before new after (Err NoMemory) = Unit {0}
