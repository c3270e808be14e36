-- The ForEach Controller runs its children once for each variable of a numbered row.
use Rattle.std.specs.Prelude.{◌≡◌, ◌⊎◌, ℕ, ◌+◌, nat_le, Bool, List, [], ◌++◌, Option, Some, None, codes, decimal, if◌then◌else◌}
use Rattle.jm_base.specs.Run.{Run}
use Rattle.var_functions.specs.declared.state.UserState.{UserState}
use Rattle.thread_vars.specs.Vars.{Variables, value_of, put_var}
use Rattle.element_tree.specs.declared.kinds.Kind.{Kind}
use Rattle.element_tree.specs.declared.kinds.Kind.TheVariants.{ForEach}
use Rattle.element_tree.specs.declared.package.Turn.{Turn}
use Rattle.element_tree.specs.declared.package.Turn.TheVariants.{Child, Round, Over}
use Rattle.logic_controllers.specs.declared.each_cursor.EachCursor.{EachCursor}
use Rattle.cursor_steps.specs.CursorStep.{Step, answers, past_limit, with_vars}
use Rattle.cursor_steps.specs.RunningChildren.{is_left, after_child}
use Rattle.logic_controllers.specs.ControllerRounds.{before_rounds, round_begun, opened_vars, opened}

-- the variables that it reads: the first part of their names, whether `_` stands after it, the number before the first
-- one and the number of the last one
pub record Row : Type 0 where
  pub input : List ℕ
  pub separator : Bool
  pub start : ℕ
  pub end : ℕ

abbrev pub kind_of : Row → List ℕ → Kind
kind_of row output = ForEach row.end row.input output row.separator row.start

-- the name of the variable of this number
abbrev pub input_name : List ℕ → Bool → ℕ → List ℕ
input_name input separator number = input ++ (if separator then codes "_" else []) ++ decimal number

-- The value of the round of this index, from 0: that of the variable `start + 1 + index`. There is none past `end`, and
-- where the variable is missing.
abbrev pub value_at : Row → ℕ → Variables → Option (List ℕ)
value_at row index vars =
    if nat_le (row.start + 1 + index) row.end then value_of (input_name row.input row.separator (row.start + 1 + index)) vars else None

abbrev pub each_enters : ℕ → EachCursor → UserState → Run (Step (Unit {0}) EachCursor)
each_enters children c state = answers tt (record c { rounds = before_rounds children; value = None }) state

-- a round begins where it has a value, which is kept until the round is opened
abbrev pub each_decides : Option (List ℕ) → EachCursor → UserState → Run (Step Turn EachCursor)
each_decides None c state = answers Over c state
each_decides (Some value) c state = answers Round (record c { rounds = round_begun c.rounds; value = Some value }) state

-- in a round the next child; after the last one the next value is read
abbrev pub each_goes : Row → EachCursor → UserState → Run (Step Turn EachCursor)
each_goes row c state =
    if is_left c.rounds.pass then answers (Child c.rounds.pass.next) (record c { rounds = record c.rounds { pass = after_child c.rounds.pass } }) state
    else each_decides (value_at row c.rounds.begun state.vars) c state

-- the variables where the kept value goes to the output
abbrev pub output_vars : List ℕ → Option (List ℕ) → Variables → Option Variables
output_vars output None vars = Some vars
output_vars output (Some value) vars = put_var output value vars

-- A round that began is opened first: its index variable is set, and then the output.
abbrev pub each_opens : List ℕ → List ℕ → EachCursor → UserState → (UserState → Run (Step Turn EachCursor)) → Run (Step Turn EachCursor)
each_opens name output c state next =
    with_vars (opened_vars name c.rounds state.vars) c state (λ state.
    with_vars (output_vars output c.value state.vars) (record c { rounds = opened c.rounds; value = None }) state next)

abbrev pub each_next : List ℕ → Row → List ℕ → EachCursor → UserState → Run (Step Turn EachCursor)
each_next name row output c state = each_opens name output c state (each_goes row (record c { rounds = opened c.rounds; value = None }))

-- at an element of this kind and name
abbrev pub each_next_at : Kind → List ℕ → EachCursor → UserState → Run (Step Turn EachCursor)
each_next_at (ForEach end input output separator start) name c state =
    each_next name (record { input = input; separator = separator; start = start; end = end }) output c state
each_next_at kind name c state = past_limit c state

-- both variables of the round were set
abbrev pub AllSet : List ℕ → List ℕ → EachCursor → Variables → Variables → Type 0
AllSet name output c vars new-vars =
    (between : Variables) × (opened_vars name c.rounds vars ≡ Some between) × (output_vars output c.value between ≡ Some new-vars)

-- How a refusal leaves the cursor and the variables: as they were, or with the round open and its index variable set, and
-- after it the output or not.
abbrev pub EachKept : List ℕ → List ℕ → EachCursor → Variables → EachCursor → Variables → Type 0
EachKept name output c vars new-c new-vars =
    ((new-c ≡ c) × (new-vars ≡ vars))
    ⊎ ((new-c ≡ record c { rounds = opened c.rounds; value = None })
    × ((opened_vars name c.rounds vars ≡ Some new-vars) ⊎ AllSet name output c vars new-vars))
