-- What a thread carries through its run, and how a part of the run ends.
use Rattle.std.specs.Prelude.{ℕ, zero, suc, List, Option, Some, None, slice_index_or, slice_set}
use Rattle.jm_base.specs.declared.types.End.{End}
use Rattle.jm_base.specs.declared.types.End.TheVariants.{SampleLimit, RoundLimit, ValueLimit}
use Rattle.jm_base.specs.Run.{Run, over, ◌>>=◌}
use Rattle.var_functions.specs.declared.state.UserState.{UserState}
use Rattle.var_functions.specs.FunctionState.{Functions}
use Rattle.thread_vars.specs.Vars.{Variables, put_var}
pub use Rattle.trials.specs.Tried.{Tried, Try, fine, past_limit, on_tried, text, text_of}
use Rattle.jm_meaning.specs.declared.signal.Signal.{Signal}
use Rattle.jm_meaning.specs.declared.signal.Signal.TheVariants.{Normal, NextLoop, Stop}

-- what templates don't see: the units left of the sample budget, the rounds left, the places of the Interleave Controllers
-- and those of Counters and data sets, each at the number of its element
pub record Own : Type 0 where
  pub units : ℕ
  pub rounds : ℕ
  pub places : List ℕ
  pub config : List ℕ

-- the variables and what functions keep, and the rest
pub record State : Type 0 where
  pub user : UserState
  pub own : Own

abbrev pub state_of : UserState → Own → State
state_of user own = record { user = user; own = own }

-- the state after a part of the run, and the signal
pub record Ending : Type 0 where
  pub state : State
  pub signal : Signal

-- a part of a run, from a state on
abbrev pub Part : Type 0
Part = State → Run Ending

abbrev pub normal : State → Ending
normal s = record { state = s; signal = Normal }

abbrev pub stopped : End → State → Ending
stopped end s = record { state = s; signal = Stop end }

-- goes on where the signal is Normal, and otherwise has ended so
abbrev pub on_normal : Part → Ending → Run Ending
on_normal next e = elim e.signal [ Normal ↦ next e.state | NextLoop ↦ over e | Stop end ↦ over e ]

-- one part and, where its signal is Normal, the next
abbrev pub and_then : Run Ending → Part → Run Ending
and_then run next = run >>= on_normal next

-- with that many units, or rounds, left
abbrev pub at_units : Own → ℕ → Own
at_units own n = record { units = n; rounds = own.rounds; places = own.places; config = own.config }

abbrev pub at_rounds : Own → ℕ → Own
at_rounds own n = record { units = own.units; rounds = n; places = own.places; config = own.config }

-- with these places
abbrev pub at_places : Own → List ℕ → Own
at_places own places = record { units = own.units; rounds = own.rounds; places = places; config = own.config }

abbrev pub at_config : Own → List ℕ → Own
at_config own config = record { units = own.units; rounds = own.rounds; places = own.places; config = config }

-- the place of the element of this number
abbrev pub place_of : List ℕ → ℕ → ℕ
place_of places number = slice_index_or places number 0

-- with the element of this number at this place
abbrev pub with_place : List ℕ → ℕ → ℕ → List ℕ
with_place places number place = slice_set places number place

-- where functions keep this
abbrev pub with_fns : State → Functions → State
with_fns s fns = state_of (record { vars = s.user.vars; fns = fns }) s.own

-- a unit is used, or none is left
abbrev pub taking_unit : ℕ → State → Part → Run Ending
taking_unit zero s next = over (stopped SampleLimit s)
taking_unit (suc n) s next = next (state_of s.user (at_units s.own n))

abbrev pub with_unit : State → Part → Run Ending
with_unit s next = taking_unit s.own.units s next

-- a round is used, or none is left
abbrev pub taking_round : ℕ → State → Part → Run Ending
taking_round zero s next = over (stopped RoundLimit s)
taking_round (suc n) s next = next (state_of s.user (at_rounds s.own n))

abbrev pub with_round : State → Part → Run Ending
with_round s next = taking_round s.own.rounds s next

-- ---- what may be past a limit

-- goes on with the value; past a limit the thread stops
abbrev pub on_came : {A : Type 0} → Own → (A → Part) → Tried A → Run Ending
on_came own next t = elim t.came [ None ↦ over (stopped ValueLimit (state_of t.user own)) | Some x ↦ next x (state_of t.user own) ]

abbrev pub tried : {A : Type 0} → Try A → State → (A → Part) → Run Ending
tried attempt s next = attempt s.user >>= on_came s.own next

-- these variables, where they are within their limits
abbrev pub with_vars : Option Variables → Part
with_vars None s = over (stopped ValueLimit s)
with_vars (Some vars) s = over (normal (state_of (record { vars = vars; fns = s.user.fns }) s.own))

-- a variable is set
abbrev pub put : List ℕ → List ℕ → Part
put name value s = with_vars (put_var name value s.user.vars) s
