-- What the answer of an open element, and of the group, comes to.
use Rattle.std.proofs.Common.{◌≡◌, ℕ, suc, ◌+◌, ◌-◌, true, false, [], ◌∷◌, length, Some, None, refl, sym, ap, ◌∙◌, subst, arith}
use Rattle.std.specs.Prelude.{slice_get, Result}
use Rattle.jm_base.specs.declared.types.End.TheVariants.{RoundLimit, StopThread, StopTest}
use Rattle.jm_base.specs.declared.types.End.{End}
use Rattle.jm_base.specs.Run.{Run, over}
use Rattle.jm_base.specs.Outside.{Account}
use Rattle.element_tree.specs.declared.kinds.Element.{Element}
use Rattle.element_tree.specs.declared.package.Turn.{Turn}
use Rattle.element_tree.specs.declared.package.Turn.TheVariants.{Child, Round, Over}
use Rattle.element_tree.specs.Tree.{Tree}
use Rattle.cursor_steps.specs.RunningChildren.{is_left}
use Rattle.thread_vars.specs.declared.error.VarError.{VarError}
use Rattle.var_functions.specs.declared.state.UserState.{UserState}
use Rattle.var_functions.specs.Came.{CameTo}
use Rattle.jm_meaning.specs.declared.signal.Signal.{Signal}
use Rattle.jm_meaning.specs.declared.signal.Signal.TheVariants.{Normal, NextLoop, Stop}
use Rattle.jm_meaning.specs.State.{State, Own, Ending, state_of, at_rounds, normal, stopped, and_then}
use Rattle.jm_meaning.specs.Children.{children_of, one_of}
use Rattle.jm_meaning.specs.Meaning.{Here, meaning}
use Rattle.jm_meaning.proofs.PartLaws.{no-rounds, one-round}
use Rattle.open_elements.specs.Moves.{turned}
use Rattle.open_elements.specs.Cursors.{shut_of, round_in}
use Rattle.open_elements.specs.Closing.{closing}
use Rattle.open_elements.proofs.PassLaws.{none-left}
use Rattle.control_machine.specs.declared.stack.Frame.{Frame}
use Rattle.control_machine.specs.declared.position.Group.{Group}
use Rattle.control_machine.specs.declared.position.Position.{Position}
use Rattle.control_machine.specs.Left.{here_in, left_in, left_of, left_after, label_at, closed, children_at, ended, IsOut, rest_of}
use Rattle.control_machine.specs.Turns.{went, closing_of}
use Rattle.control_machine.proofs.StackLaws.{left_by, innermost, inside_top, out_of_top, closed_out}
use Rattle.control_machine.proofs.Following.{left_normal, left_later, group_child}
use Rattle.control_machine.proofs.Turning.{IsLike, at_own}

-- a run that is another one has come to where that one has come
pub came_as : {B : Type 0} (a b : Account) (run x : Run Ending) (on : B → Run Ending) (limit : Run Ending) (res : Result B VarError) → run ≡ x → CameTo a x b on limit res → CameTo a run b on limit res
came_as a b run x on limit res is came = subst (λ r. CameTo a r b on limit res) (sym is) came

-- what is left after the answer of an element that was taken out of the open ones
abbrev pub answered : Tree → Position → Frame → Element → State → Turn → Run Ending
answered plan m f e s turn =
    left_after plan m (closed (here_in plan m) f (turned (meaning (here_in plan m) f.depth) (round_in f.round f.cursor) (children_of plan.elements e) (left_by (here_in plan m) f e) s turn))

module _ (plan : Tree) (m : Position) (f : Frame) (e : Element) (user : UserState) (own : Own) (there : slice_get plan.elements f.element ≡ Some e) where
  -- the element is left
  pub is_over : (turn : Turn) → turn ≡ Over → m.signal ≡ Normal → (k : ℕ) → k ≡ own.rounds
      → answered plan m f e (state_of user own) turn ≡ went plan m (state_of user (at_rounds own k)) (closing_of m.signal f)
  is_over turn is signal k same =
      ap (answered plan m f e (state_of user own)) is
      ∙ ap (λ x. left_after plan m (closed (here_in plan m) f (over (record { state = state_of user own; signal = x })))) (sym signal)
      ∙ closed_out plan m f.element (shut_of f.cursor) (state_of user own)
      ∙ ap (λ s. went plan m s (closing_of m.signal f)) (at_own user own k same)

  -- no round is left for it: the thread goes out by this limit
  abbrev out_of_rounds : Position
  out_of_rounds = record m { signal = Stop RoundLimit }

  pub no_round_left : (turn : Turn) → turn ≡ Round → own.rounds ≡ 0 → (k : ℕ) → k ≡ own.rounds
      → answered plan m f e (state_of user own) turn ≡ went plan (record m { signal = Stop RoundLimit }) (state_of user (at_rounds own k)) (closing_of (Stop RoundLimit) f)
  no_round_left turn is none k same =
      ap (answered plan m f e (state_of user own)) is
      ∙ ap (λ r. left_after plan m (closed (here_in plan m) f r)) (no-rounds (state_of user own) (left_by (here_in plan m) f e) none)
      ∙ closed_out plan out_of_rounds f.element (shut_of f.cursor) (state_of user own)
      ∙ ap (λ s. went plan out_of_rounds s (closing_of (Stop RoundLimit) f)) (at_own user own k same)

  -- a round is taken
  pub round_taken : (turn : Turn) → turn ≡ Round → (m' : Position) → IsLike m m' → m'.stack.frames ≡ f ∷ m.stack.frames → (n : ℕ) → own.rounds ≡ suc n
      → answered plan m f e (state_of user own) turn ≡ left_of plan m' (state_of user (at_rounds own n))
  round_taken turn is m' like frames n some =
      ap (answered plan m f e (state_of user own)) is
      ∙ ap (λ r. left_after plan m (closed (here_in plan m) f r)) (one-round (state_of user own) (left_by (here_in plan m) f e) n some)
      ∙ sym (innermost (here_in plan m) m.group f m.stack.frames e (state_of user (at_rounds own n)) there)
      ∙ sym (left_later plan m m' m.group (f ∷ m.stack.frames) (state_of user (at_rounds own n)) like.group like.failure like.signal frames)

  -- the open elements with this one among them
  same_place : (m' : Position) → IsLike m m' → m'.stack.frames ≡ f ∷ m.stack.frames → (x : Here → Run Ending)
      → left_after plan m' (x (here_in plan m')) ≡ left_in (here_in plan m) m.group (f ∷ m.stack.frames) (x (here_in plan m))
  same_place m' like frames x =
      ap (λ failure. left_in (record { plan = plan; at_failure = failure }) m'.group m'.stack.frames (x (record { plan = plan; at_failure = failure }))) like.failure
      ∙ ap (λ g. left_in (here_in plan m) g m'.stack.frames (x (here_in plan m))) like.group
      ∙ ap (λ fs. left_in (here_in plan m) m.group fs (x (here_in plan m))) frames

  -- a child comes next
  pub child_next : (turn : Turn) (place child r : ℕ) → turn ≡ Child place → slice_get (children_of plan.elements e) place ≡ Some child → r ≡ round_in f.round f.cursor
      → (m' : Position) → IsLike m m' → m'.stack.frames ≡ f ∷ m.stack.frames
      → answered plan m f e (state_of user own) turn ≡ left_after plan m' (meaning (here_in plan m') f.depth child r (state_of user own))
  child_next turn place child r is found round m' like frames =
      ap (answered plan m f e (state_of user own)) is
      ∙ ap (λ o. left_after plan m (closed (here_in plan m) f (and_then (one_of (meaning (here_in plan m) f.depth) (round_in f.round f.cursor) o (state_of user own)) (left_by (here_in plan m) f e)))) found
      ∙ sym (inside_top (here_in plan m) m.group f m.stack.frames e (meaning (here_in plan m) f.depth child (round_in f.round f.cursor) (state_of user own)) there)
      ∙ ap (λ r. left_in (here_in plan m) m.group (f ∷ m.stack.frames) (meaning (here_in plan m) f.depth child r (state_of user own))) (sym round)
      ∙ sym (same_place m' like frames (λ here. meaning here f.depth child r (state_of user own)))

  -- there is no such child
  pub no_child : (turn : Turn) (place : ℕ) → turn ≡ Child place → slice_get (children_of plan.elements e) place ≡ None → (m' : Position) → IsLike m m' → m'.stack.frames ≡ f ∷ m.stack.frames
      → (k : ℕ) → k ≡ own.rounds → answered plan m f e (state_of user own) turn ≡ left_of plan m' (state_of user (at_rounds own k))
  no_child turn place is found m' like frames k same =
      ap (answered plan m f e (state_of user own)) is
      ∙ ap (λ o. left_after plan m (closed (here_in plan m) f (and_then (one_of (meaning (here_in plan m) f.depth) (round_in f.round f.cursor) o (state_of user own)) (left_by (here_in plan m) f e)))) found
      ∙ sym (innermost (here_in plan m) m.group f m.stack.frames e (state_of user own) there)
      ∙ sym (left_later plan m m' m.group (f ∷ m.stack.frames) (state_of user own) like.group like.failure like.signal frames)
      ∙ ap (left_of plan m') (at_own user own k same)

-- ---- the group's child

pub group_child_next : (plan : Tree) (m m' : Position) (user : UserState) (own : Own) (place child r : ℕ) → m.signal ≡ Normal → m.stack.frames ≡ []
    → is_left m.group.pass ≡ true → m.group.pass.children ≡ length (children_at plan.elements m.group.element) → place ≡ m.group.pass.next
    → slice_get (children_at plan.elements m.group.element) place ≡ Some child → r ≡ m.group.begun - 1
    → m'.group ≡ record { element = m.group.element; loops = m.group.loops; begun = m.group.begun; pass = record { children = m.group.pass.children; next = m.group.pass.next + 1 } }
    → m'.at_failure ≡ m.at_failure → m'.stack.frames ≡ []
    → left_of plan m (state_of user own) ≡ left_after plan m' (meaning (here_in plan m') 30 child r (state_of user own))
group_child_next plan m m' user own place child r signal empty is all at found round group failure still =
    left_normal plan m (state_of user own) signal
    ∙ ap (λ fs. left_in (here_in plan m) m.group fs (over (normal (state_of user own)))) empty
    ∙ group_child (here_in plan m) m.group m'.group (state_of user own) child is all (ap (slice_get (children_at plan.elements m.group.element)) (sym at) ∙ found) group
    ∙ ap (λ r. left_in (here_in plan m) m'.group [] (meaning (here_in plan m) 30 child r (state_of user own))) (sym round)
    ∙ ap (λ failure. left_in (record { plan = plan; at_failure = failure }) m'.group [] (meaning (record { plan = plan; at_failure = failure }) 30 child r (state_of user own))) (sym failure)
    ∙ ap (λ fs. left_in (here_in plan m') m'.group fs (meaning (here_in plan m') 30 child r (state_of user own))) (sym still)

-- ---- ways out

abbrev pub out : State → Signal → Run Ending
out s signal = over (record { state = s; signal = signal })

-- one more open element is left
pub out_of_one : (plan : Tree) (m m' : Position) (f : Frame) (user : UserState) (own : Own) → (m.signal ≡ Normal → ⊥) → m.stack.frames ≡ f ∷ m'.stack.frames
    → m'.group ≡ m.group → m'.at_failure ≡ m.at_failure → m'.signal ≡ m.signal → (k : ℕ) → k ≡ own.rounds
    → left_of plan m (state_of user own) ≡ went plan m' (state_of user (at_rounds own k)) (closing_of m'.signal f)
out_of_one plan m m' f user own away frames group failure signal k same =
    ap (λ fs. left_in (here_in plan m) m.group fs (out (state_of user own) m.signal)) frames
    ∙ out_of_top (here_in plan m) m.group f m'.stack.frames (state_of user own) m.signal away
    ∙ ap (λ g. left_in (here_in plan m) g m'.stack.frames (at_top (out (state_of user own) m.signal))) (sym group)
    ∙ ap (λ x. left_in (record { plan = plan; at_failure = x }) m'.group m'.stack.frames (at_top (out (state_of user own) m.signal))) (sym failure)
    ∙ ap (λ x. left_in (here_in plan m') m'.group m'.stack.frames (at_top (out (state_of user own) x))) (sym signal)
    ∙ closed_out plan m' f.element (shut_of f.cursor) (state_of user own)
    ∙ ap (λ s. went plan m' s (closing_of m'.signal f)) (at_own user own k same) where
      at_top : Run Ending → Run Ending
      at_top inner = closing (label_at plan.elements f.element) (shut_of f.cursor) inner

-- an end of a way out
pub end_out : (end : End) (s : State) → IsOut (Stop end) → stopped end s ≡ ended end s
end_out StopThread s h = refl
end_out StopTest s h = refl
end_out RoundLimit s h = refl
end_out end s h = absurd h

-- where no element is open an end is the end
stop_at_group : (here : Here) (g : Group) (end : End) (s : State) → left_in here g [] (over (stopped end s)) ≡ over (stopped end s)
unfolding left_in rest_of
stop_at_group here g end s = refl

pub all_out : (plan : Tree) (m : Position) (end : End) (user : UserState) (own : Own) → m.stack.frames ≡ [] → m.signal ≡ Stop end → IsOut m.signal → (k : ℕ) → k ≡ own.rounds
    → left_of plan m (state_of user own) ≡ over (ended end (state_of user (at_rounds own k)))
all_out plan m end user own empty signal is_out k same =
    ap (λ x. left_after plan m (out (state_of user own) x)) signal
    ∙ ap (λ fs. left_in (here_in plan m) m.group fs (over (stopped end (state_of user own)))) empty
    ∙ stop_at_group (here_in plan m) m.group end (state_of user own)
    ∙ ap over (end_out end (state_of user own) (subst IsOut signal is_out))
    ∙ ap (λ s. over (ended end s)) (at_own user own k same)

-- the group with no child left in its round
abbrev pub round_over : Group → Group
round_over g = record { element = g.element; loops = g.loops; begun = g.begun; pass = record { children = g.pass.children; next = g.pass.children } }

not_less : (n : ℕ) → is_left (record { children = n; next = n }) ≡ false
not_less n = grind arith

-- a way out to the next round is over where no element is open
pub next_loop : (here : Here) (g : Group) (s : State) → left_in here g [] (out s NextLoop) ≡ left_in here (round_over g) [] (over (normal s))
unfolding left_in rest_of
next_loop here g s = rw (none-left (record { children = g.pass.children; next = g.pass.children }) (children_at here.plan.elements g.element) (not_less g.pass.children)) refl
