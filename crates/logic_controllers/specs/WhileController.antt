-- The While Controller runs its children for as long as its condition says.
use Rattle.std.specs.Prelude.{◌≡◌, ◌⊎◌, ℕ, nat_eq, Bool, false, not, ◌||◌, ◌==◌, List, Option, Some, None, codes, if◌then◌else◌}
use Rattle.std.specs.List.{list_all}
use Rattle.std.specs.Str.{str_eq_ignore_ascii_case}
use lib.Pointwise.{pointwise}
use Rattle.jm_base.specs.Run.{Run}
use Rattle.template_text.specs.Pieces.{Pieces}
use Rattle.var_functions.specs.declared.state.UserState.{UserState}
use Rattle.thread_vars.specs.Vars.{Variables, value_of, last_sample_ok}
use Rattle.element_tree.specs.declared.kinds.Kind.{Kind}
use Rattle.element_tree.specs.declared.kinds.Kind.TheVariants as kinds
use Rattle.element_tree.specs.declared.package.Turn.{Turn}
use Rattle.element_tree.specs.declared.package.Turn.TheVariants.{Child, Round, Over}
use Rattle.logic_controllers.specs.declared.while_cursor.WhileCursor.{WhileCursor}
use Rattle.cursor_steps.specs.CursorStep.{Step, answers, past_limit, expanding, with_vars}
use Rattle.cursor_steps.specs.RunningChildren.{is_left, after_child}
use Rattle.logic_controllers.specs.ControllerRounds.{before_rounds, round_begun, opened_vars, opened}

-- spaces only
abbrev pub is_blank : List ℕ → Bool
is_blank text = list_all (λ b. b == 32) text

abbrev pub is_word_true : Option (List ℕ) → Bool
is_word_true None = false
is_word_true (Some value) = pointwise nat_eq value (codes "true")

-- the last sample succeeded where the variable `JMeterThread.last_sample_ok` has the value `true`
abbrev pub last_ok : Variables → Bool
last_ok vars = is_word_true (value_of last_sample_ok vars)

-- Whether a round of this index begins, from 0. Where the condition's text is blank, the first one does, and a later one
-- where the last sample succeeded; where it is `LAST`, each where the last sample succeeded; otherwise each unless the
-- text is `false`, in capitals or not.
abbrev pub goes_on : List ℕ → ℕ → Bool → Bool
goes_on text index ok =
    if is_blank text then index == 0 || ok
    else if pointwise nat_eq text (codes "LAST") then ok
    else not (str_eq_ignore_ascii_case text (codes "false"))

-- on entry nothing is evaluated
abbrev pub while_enters : ℕ → WhileCursor → UserState → Run (Step (Unit {0}) WhileCursor)
while_enters children c state = answers tt (record c { rounds = before_rounds children }) state

-- the condition is expanded before each round, the first too
abbrev pub while_decides : Pieces → WhileCursor → UserState → Run (Step Turn WhileCursor)
while_decides condition c state =
    expanding condition c state (λ text state. if goes_on text c.rounds.begun (last_ok state.vars)
    then answers Round (record c { rounds = round_begun c.rounds }) state else answers Over c state)

-- in a round the next child; after the last one it is decided whether a further round begins
abbrev pub while_goes : Pieces → WhileCursor → UserState → Run (Step Turn WhileCursor)
while_goes condition c state =
    if is_left c.rounds.pass then answers (Child c.rounds.pass.next) (record c { rounds = record c.rounds { pass = after_child c.rounds.pass } }) state
    else while_decides condition c state

-- a round that began is opened first
abbrev pub while_next : List ℕ → Pieces → WhileCursor → UserState → Run (Step Turn WhileCursor)
while_next name condition c state =
    with_vars (opened_vars name c.rounds state.vars) c state (while_goes condition (record c { rounds = opened c.rounds }))

-- at an element of this kind and name
abbrev pub while_next_at : Kind → List ℕ → WhileCursor → UserState → Run (Step Turn WhileCursor)
while_next_at (kinds.While condition) name c state = while_next name condition c state
while_next_at kind name c state = past_limit c state

-- how a refusal leaves the cursor and the variables: as they were, or with the round open
abbrev pub WhileKept : List ℕ → WhileCursor → Variables → WhileCursor → Variables → Type 0
WhileKept name c vars new-c new-vars =
    ((new-c ≡ c) × (new-vars ≡ vars)) ⊎ ((new-c ≡ record c { rounds = opened c.rounds }) × (opened_vars name c.rounds vars ≡ Some new-vars))
