-- Joins of rounds: the Loop, While and ForEach Controllers and the thread group.
use Rattle.std.specs.Prelude.{ℕ, zero, suc, ◌+◌, List, Option, Some, None, Bool, true, false, decimal, if◌then◌else◌}
use Rattle.std.specs.Option.{option_map}
use Rattle.jm_base.specs.declared.types.End.TheVariants.{RoundLimit, StopThread, ValueLimit}
use Rattle.jm_base.specs.Run.{Run, over, ◌>>=◌}
use Rattle.template_text.specs.Pieces.{Pieces}
use Rattle.thread_vars.specs.Vars.{index_name}
use Rattle.element_tree.specs.declared.kinds.Element.{Element}
use Rattle.element_tree.specs.declared.kinds.Loops.{Loops}
use Rattle.cursor_steps.specs.CursorStep.{Step}
use Rattle.config_elements.specs.RoundStart.{begin_round}
use Rattle.logic_controllers.specs.LoopController.{round_begins}
use Rattle.logic_controllers.specs.WhileController.{last_ok, goes_on}
use Rattle.logic_controllers.specs.ForEachController.{Row, value_at}
use Rattle.jm_meaning.specs.declared.signal.Signal.TheVariants.{Normal, NextLoop, Stop}
use Rattle.jm_meaning.specs.State.{Own, Ending, Part, state_of, at_config, normal, stopped, and_then, with_round, Tried, Try, fine, tried, text, put}

-- what a looping element decides before a round of this index: whether it begins, and with what; and what it does once
-- the round has begun
pub record Turns (X : Type 0) : Type 0 where
  pub begins : ℕ → Try (Option X)
  pub opens : X → ℕ → Part

-- the rounds are over, or one begins
abbrev pub where_begun : {X : Type 0} → (X → Part) → Option X → Part
where_begun next None s = over (normal s)
where_begun next (Some x) s = next x s

-- Rounds from one of this index on: whether it begins is decided first, then it is taken from the rounds left.
-- There are at most that many, since each takes one of the rounds left.
unfoldable pub rounds : {X : Type 0} → ℕ → Turns X → (ℕ → Part) → ℕ → Part
rounds zero turns body i s = tried (turns.begins i) s (where_begun (λ x s. over (stopped RoundLimit s)))
rounds (suc n) turns body i s = tried (turns.begins i) s (where_begun (λ x s.
    with_round s (λ s. and_then (turns.opens x i s) (λ s. and_then (body i s) (rounds n turns body (i + 1))))))

-- nothing comes with a round but that it begins
abbrev pub where_so : Bool → Option (Unit {0})
where_so b = if b then Some tt else None

-- the index variable of a looping element
abbrev pub set_index : List ℕ → ℕ → Part
set_index name i = put (index_name name) (decimal i)

-- that many rounds
abbrev pub loop_turns : List ℕ → Loops → Turns (Unit {0})
loop_turns name loops = record {
  begins = λ i user. over (fine (where_so (round_begins loops i)) user);
  opens = λ x. set_index name;
}

-- whether a While goes on by its text, before a round of this index
abbrev pub while_goes : ℕ → Tried (List ℕ) → Tried (Option (Unit {0}))
while_goes i t = record { came = option_map (λ x. where_so (goes_on x i (last_ok t.user.vars))) t.came; user = t.user }

-- the condition is expanded before each round, the first too
abbrev pub while_turns : List ℕ → Pieces → Turns (Unit {0})
while_turns name condition = record {
  begins = λ i user. text condition user >>= λ t. over (while_goes i t);
  opens = λ x. set_index name;
}

-- A round begins where it has a value. The index variable is set, and then the value goes to the output.
abbrev pub each_turns : List ℕ → Row → List ℕ → Turns (List ℕ)
each_turns name row output = record {
  begins = λ i user. over (fine (value_at row i user.vars) user);
  opens = λ value i s. and_then (set_index name i s) (put output value);
}

-- the rounds of a thread group, which has no index variable; at the start of each comes this part
abbrev pub group_turns : Loops → Part → Turns (Unit {0})
group_turns loops start = record {
  begins = λ i user. over (fine (where_so (round_begins loops i)) user);
  opens = λ x i. start;
}

-- after the start of a round: the round goes on, or the thread stops
abbrev pub where_fed : Bool → Part
where_fed true s = over (normal s)
where_fed false s = over (stopped StopThread s)

abbrev pub on_fed : Own → Step Bool (List ℕ) → Run Ending
on_fed own step = elim step.answer [
  | None ↦ over (stopped ValueLimit (state_of step.state (at_config own step.cursor)))
  | Some fed ↦ where_fed fed (state_of step.state (at_config own step.cursor))
]

-- the start of a round of a group: Counters and data sets advance; where no row is left the thread stops
abbrev pub round_start : List Element → ℕ → Part
round_start elements group s = begin_round elements group s.own.config s.user >>= on_fed s.own

-- in the group NextLoop ends the round alone
abbrev pub caught : Ending → Ending
caught e = elim e.signal [ Normal ↦ e | NextLoop ↦ normal e.state | Stop end ↦ e ]

abbrev pub round_of_group : Run Ending → Run Ending
round_of_group run = run >>= λ e. over (caught e)
