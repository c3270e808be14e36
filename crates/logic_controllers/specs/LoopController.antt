-- The Loop Controller runs its children for a number of rounds.
use Rattle.std.specs.Prelude.{ℕ, ◌-◌, ◌^◌, min, nat_eq, nat_lt, Bool, true, List, codes, if◌then◌else◌}
use Rattle.std.specs.Str.Parse.{digits_value}
use lib.Pointwise.{pointwise}
use Rattle.jm_base.specs.Run.{Run}
use Rattle.template_text.specs.Pieces.{Pieces}
use Rattle.var_functions.specs.declared.state.UserState.{UserState}
use Rattle.element_tree.specs.declared.kinds.Kind.{Kind}
use Rattle.element_tree.specs.declared.kinds.Kind.TheVariants as kinds
use Rattle.element_tree.specs.declared.kinds.Loops.{Loops}
use Rattle.element_tree.specs.declared.kinds.Loops.TheVariants.{Forever, Times}
use Rattle.element_tree.specs.declared.package.Turn.{Turn}
use Rattle.element_tree.specs.declared.package.Turn.TheVariants.{Child, Round, Over}
use Rattle.logic_controllers.specs.declared.loop_cursor.LoopCursor.{LoopCursor}
use Rattle.cursor_steps.specs.CursorStep.{Step, answers, past_limit, expanding, with_vars}
use Rattle.cursor_steps.specs.RunningChildren.{is_left, after_child}
use Rattle.cursor_steps.specs.Numeral.{is_decimal}
use Rattle.logic_controllers.specs.ControllerRounds.{before_rounds, round_begun, opened_vars, opened}

-- The rounds that a text asks for: `-1` for ever, a decimal number that many, any other text none. No thread comes to
-- more than 16,777,216 rounds, so that a number past 32 bits asks for as many as the greatest of 32 bits.
abbrev pub loops_of : List ℕ → Loops
loops_of text =
    if pointwise nat_eq text (codes "-1") then Forever
    else if is_decimal text then Times (min (digits_value 10 text) (2 ^ 32 - 1)) else Times 0

-- whether a round of this index begins, from 0
abbrev pub round_begins : Loops → ℕ → Bool
round_begins Forever index = true
round_begins (Times n) index = nat_lt index n

-- on entry the text of `loops` is expanded
abbrev pub loop_enters : Pieces → ℕ → LoopCursor → UserState → Run (Step (Unit {0}) LoopCursor)
loop_enters loops children c state =
    expanding loops c state (λ text state. answers tt (record c { loops = loops_of text; rounds = before_rounds children }) state)

-- at an element of its kind
abbrev pub loop_enters_at : Kind → ℕ → LoopCursor → UserState → Run (Step (Unit {0}) LoopCursor)
loop_enters_at (kinds.Loop loops) children c state = loop_enters loops children c state
loop_enters_at kind children c state = past_limit c state

-- in a round the next child; after the last one the next round, where one is left
abbrev pub loop_goes : LoopCursor → UserState → Run (Step Turn LoopCursor)
loop_goes c state =
    if is_left c.rounds.pass then answers (Child c.rounds.pass.next) (record c { rounds = record c.rounds { pass = after_child c.rounds.pass } }) state
    else if round_begins c.loops c.rounds.begun then answers Round (record c { rounds = round_begun c.rounds }) state
    else answers Over c state

-- a round that began is opened first
abbrev pub loop_next : List ℕ → LoopCursor → UserState → Run (Step Turn LoopCursor)
loop_next name c state = with_vars (opened_vars name c.rounds state.vars) c state (loop_goes (record c { rounds = opened c.rounds }))
