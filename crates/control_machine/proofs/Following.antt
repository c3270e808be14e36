-- What the innermost open element answered is followed, and the group after it.
use Rattle.std.proofs.Common.{◌≡◌, ℕ, suc, ◌-◌, ◌+◌, ◌≤◌, Bool, true, false, List, [], length, Option, Some, None, refl, sym, ap, ◌∙◌, arith}
use Rattle.std.specs.Prelude.{slice_get}
use Rattle.jm_base.specs.declared.types.End.TheVariants.{Completed, RoundLimit}
use mathlib.Core.Path.{fun_ext}
use Rattle.jm_base.specs.Run.{Run, over, ◌>>=◌}
use Rattle.jm_base.proofs.RunLaws.{bind-assoc}
use Rattle.element_tree.specs.declared.kinds.Element.{Element}
use Rattle.element_tree.specs.Tree.{Tree}
use Rattle.cursor_steps.specs.CursorStep.{Step}
use Rattle.config_elements.specs.RoundStart.{begin_round}
use Rattle.cursor_steps.specs.RunningChildren.{is_left, pass_over}
use Rattle.logic_controllers.specs.LoopController.{round_begins}
use Rattle.var_functions.specs.declared.state.UserState.{UserState}
use Rattle.jm_meaning.specs.declared.signal.Signal.TheVariants.{Normal}
use Rattle.jm_meaning.specs.State.{State, Own, Part, state_of, at_rounds, normal, stopped, and_then, on_normal}
use Rattle.jm_meaning.specs.Rounds.{Turns, rounds, group_turns, where_begun, where_so, caught, round_of_group, on_fed, round_start}
use Rattle.jm_meaning.specs.Children.{in_order}
use Rattle.jm_meaning.specs.Beginning.{max_rounds}
use Rattle.jm_meaning.specs.Meaning.{Here, meaning, group_rounds}
use Rattle.jm_meaning.proofs.PartLaws.{next-round, round_at, no-rounds, one-round}
use Rattle.open_elements.proofs.PassLaws.{prefix, none-left, all-left}
use Rattle.control_machine.specs.declared.stack.Frame.{Frame}
use Rattle.control_machine.specs.declared.position.Group.{Group}
use Rattle.control_machine.specs.declared.position.Position.{Position}
use Rattle.control_machine.specs.Left.{left_in, rest_of, left_of, here_in, children_at, ended}

-- what is left in a machine whose signal is Normal
pub left_normal : (plan : Tree) (m : Position) (s : State) → m.signal ≡ Normal → left_of plan m s ≡ left_in (here_in plan m) m.group m.stack.frames (over (normal s))
left_normal plan m s is = rw is refl

-- and in a later one of the same thread
pub left_later : (plan : Tree) (m n : Position) (group : Group) (frames : List Frame) (s : State) → n.group ≡ group → n.at_failure ≡ m.at_failure → n.signal ≡ Normal → n.stack.frames ≡ frames
    → left_of plan n s ≡ left_in (here_in plan m) group frames (over (normal s))
left_later plan m n group frames s g f is fs = rw (is, g, f, fs) refl

pub own_same : (own : Own) (n : ℕ) → n ≡ own.rounds → at_rounds own n ≡ own
own_same own n is = ap (at_rounds own) is

-- ---- the group

abbrev turns_of : Here → Group → Turns (Unit {0})
turns_of here g = group_turns g.loops (round_start here.plan.elements g.element)

-- a round, after its start
abbrev round_of : Here → Group → ℕ → Part
round_of here g i s = round_of_group (in_order (meaning here 30) i (children_at here.plan.elements g.element) s)

-- the rounds after the next one
abbrev later_rounds : Here → Group → Part
later_rounds here g = rounds (max_rounds - (g.begun + 1)) (turns_of here g) (round_of here g) (g.begun + 1)

-- the next round, which was taken, and those after it
abbrev next_rounds : Here → Group → Part
next_rounds here g s = and_then (round_start here.plan.elements g.element s) (λ s. and_then (round_of here g g.begun s) (later_rounds here g))

module _ (here : Here) (g : Group) (user : UserState) (own : Own) where
  -- after the last child of a round the next one is decided on
  at_end : is_left g.pass ≡ false → left_in here g [] (over (normal (state_of user own)))
      ≡ group_rounds (max_rounds - g.begun) (round_start here.plan.elements g.element) (meaning here 30) g.loops (children_at here.plan.elements g.element) g.begun (state_of user own)
  unfolding left_in rest_of
  at_end is = rw (none-left g.pass (children_at here.plan.elements g.element) is) refl

  decided : is_left g.pass ≡ false → g.begun + own.rounds ≤ max_rounds → (x : Bool) → round_begins g.loops g.begun ≡ x
      → left_in here g [] (over (normal (state_of user own))) ≡ where_begun (round_at max_rounds (turns_of here g) (round_of here g) g.begun) (where_so x) (state_of user own)
  decided is bound x begins =
      at_end is
      ∙ next-round max_rounds (turns_of here g) (round_of here g) g.begun (state_of user own) bound
      ∙ ap (λ x. where_begun (round_at max_rounds (turns_of here g) (round_of here g) g.begun) (where_so x) (state_of user own)) begins

  -- the rounds are over
  pub rounds_over : is_left g.pass ≡ false → g.begun + own.rounds ≤ max_rounds → round_begins g.loops g.begun ≡ false → (n : ℕ) → n ≡ own.rounds
      → left_in here g [] (over (normal (state_of user own))) ≡ over (ended Completed (state_of user (at_rounds own n)))
  rounds_over is bound begins n same = decided is bound false begins ∙ ap (λ o. over (normal (state_of user o))) (sym (own_same own n same))

  -- no round is left
  pub rounds_stop : is_left g.pass ≡ false → g.begun + own.rounds ≤ max_rounds → round_begins g.loops g.begun ≡ true → own.rounds ≡ 0 → (n : ℕ) → n ≡ own.rounds
      → left_in here g [] (over (normal (state_of user own))) ≡ over (ended RoundLimit (state_of user (at_rounds own n)))
  rounds_stop is bound begins none n same =
      decided is bound true begins
      ∙ no-rounds (state_of user own) (next_rounds here g) none
      ∙ ap (λ o. over (stopped RoundLimit (state_of user o))) (sym (own_same own n same))

-- the group in its next round
abbrev pub next_group : Group → Group
next_group g = record { element = g.element; loops = g.loops; begun = g.begun + 1; pass = pass_over g.pass.children }

one_less : (n : ℕ) → n + 1 - 1 ≡ n
one_less n = omega arith

-- ---- the start of a round

-- it is no way out to the next round, so that it is the same inside of what catches one and before it
start_caught : (own : Own) (f g : Part) (places : List ℕ) (user : UserState) (answer : Option Bool)
    → (on_fed own (record { answer = answer; cursor = places; state = user }) >>= on_normal (λ s. and_then (round_of_group (f s)) g))
    ≡ (((on_fed own (record { answer = answer; cursor = places; state = user }) >>= on_normal f) >>= λ e. over (caught e)) >>= on_normal g)
start_caught own f g places user None = refl
start_caught own f g places user (Some true) = refl
start_caught own f g places user (Some false) = refl

start_through : (elements : List Element) (group : ℕ) (f g : Part) (t : State)
    → and_then (round_start elements group t) (λ s. and_then (round_of_group (f s)) g)
    ≡ and_then (round_of_group (and_then (round_start elements group t) f)) g
start_through elements group f g t =
    let start : Run (Step Bool (List ℕ)) = begin_round elements group t.own.config t.user in
    bind-assoc start (on_fed t.own) (on_normal (λ s. and_then (round_of_group (f s)) g))
    ∙ ap (λ h. start >>= h) (fun_ext λ step. start_caught t.own f g step.cursor step.state step.answer)
    ∙ sym (bind-assoc start (λ step. (on_fed t.own step >>= on_normal f) >>= λ e. over (caught e)) (on_normal g))
    ∙ ap (λ r. r >>= on_normal g) (sym (bind-assoc start (λ step. on_fed t.own step >>= on_normal f) (λ e. over (caught e))))
    ∙ ap (λ r. (r >>= λ e. over (caught e)) >>= on_normal g) (sym (bind-assoc start (on_fed t.own) (on_normal f)))

-- what is left of the group where a round has begun
first_left : (here : Here) (g : Group) (t : State) → g.pass.children ≡ length (children_at here.plan.elements g.element)
    → next_rounds here g t ≡ left_in here (next_group g) [] (round_start here.plan.elements g.element t)
unfolding left_in rest_of
first_left here g t all =
    start_through here.plan.elements g.element (in_order (meaning here 30) g.begun (children_at here.plan.elements g.element)) (later_rounds here g) t
    ∙ rw (one_less g.begun, all-left (pass_over g.pass.children) (children_at here.plan.elements g.element) refl all) refl

-- a round of the group begins
pub round_begun : (here : Here) (g : Group) (user : UserState) (own : Own) (n : ℕ) → is_left g.pass ≡ false → g.begun + own.rounds ≤ max_rounds → round_begins g.loops g.begun ≡ true
    → g.pass.children ≡ length (children_at here.plan.elements g.element) → own.rounds ≡ suc n
    → left_in here g [] (over (normal (state_of user own))) ≡ left_in here (next_group g) [] (round_start here.plan.elements g.element (state_of user (at_rounds own n)))
round_begun here g user own n is bound begins all some =
    decided here g user own is bound true begins
    ∙ one-round (state_of user own) (next_rounds here g) n some
    ∙ first_left here g (state_of user (at_rounds own n)) all

-- a child of the group is taken
pub group_child : (here : Here) (g h : Group) (s : State) (child : ℕ) → is_left g.pass ≡ true → g.pass.children ≡ length (children_at here.plan.elements g.element)
    → slice_get (children_at here.plan.elements g.element) g.pass.next ≡ Some child
    → h ≡ record { element = g.element; loops = g.loops; begun = g.begun; pass = record { children = g.pass.children; next = g.pass.next + 1 } }
    → left_in here g [] (over (normal s)) ≡ left_in here h [] (meaning here 30 child (g.begun - 1) s)
unfolding left_in rest_of
group_child here g h s child is all there new =
    let f = prefix g.pass (children_at here.plan.elements g.element) is (omega (arith, all)) in
    let same : f.child ≡ child = (let i : Some f.child ≡ Some child = sym f.there ∙ there in cc) in
    rw (new, f.is, same) refl
