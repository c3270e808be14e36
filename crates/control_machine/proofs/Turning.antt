-- What a turn comes to, by what was opened.
use Rattle.std.proofs.Common.{◌≡◌, ℕ, zero, suc, ◌-◌, ◌≤◌, [], ◌∷◌, Some, None, refl, sym, ap, ◌∙◌, subst}
use Rattle.std.specs.Prelude.{slice_get, Result, Ok, Err, MatchResult}
use Rattle.jm_base.specs.declared.types.End.TheVariants.{SampleLimit}
use Rattle.jm_base.specs.Run.{Run, over, give, Entered}
use Rattle.jm_base.specs.Outside.{Account, Goes}
use Rattle.element_tree.specs.declared.kinds.Element.{Element}
use Rattle.element_tree.specs.Tree.{Tree}
use Rattle.thread_vars.specs.declared.error.VarError.{VarError}
use Rattle.thread_vars.specs.declared.error.VarError.TheVariants.{NoMemory}
use Rattle.var_functions.specs.declared.state.UserState.{UserState}
use Rattle.var_functions.specs.Came.{CameTo, Refused, by_memory}
use Rattle.jm_meaning.specs.declared.signal.Signal.TheVariants.{Normal}
use Rattle.jm_meaning.specs.State.{State, Own, Ending, Part, state_of, at_units, at_rounds, normal, stopped, taking_unit}
use Rattle.jm_meaning.specs.Sections.{leaving_open}
use Rattle.jm_meaning.specs.Meaning.{Here, children_in, meaning, kind_meaning}
use Rattle.open_elements.specs.declared.cursor.Cursor.{Cursor}
use Rattle.open_elements.specs.Moves.{past}
use Rattle.open_elements.specs.Cursors.{cursor_left, Shut, Plain, Summing, Leaving, shut_of}
use Rattle.open_elements.specs.Closing.{closing}
use Rattle.open_elements.specs.Entering.{kind_part, opening}
use Rattle.control_machine.specs.declared.stack.Frame.{Frame}
use Rattle.control_machine.specs.declared.position.Position.{Position}
use Rattle.control_machine.specs.declared.position.Went.{Went}
use Rattle.control_machine.specs.declared.position.Went.TheVariants.{On, To}
use Rattle.control_machine.specs.declared.moves.Move.TheVariants.{RunSampler}
use Rattle.control_machine.specs.Left.{Beside, here_in, left_in, left_of, left_after, label_at, own_at, open_lock, IsAlone, AreApart}
use Rattle.control_machine.specs.Turns.{went, opening_move}
use Rattle.control_machine.proofs.StackLaws.{goes_left, left_gives, stop_through, refused_left, innermost}
use Rattle.control_machine.proofs.Opening.{meant}
use Rattle.control_machine.proofs.Following.{left_normal, left_later, own_same}

-- the rest of a run by another name
rest_is : {a b : Account} (run x y : Run Ending) → x ≡ y → Goes a run [] x b → Goes a run [] y b
rest_is {a} {b} run x y is goes = subst (λ r. Goes a run [] r b) is goes

-- the moment after the turn, where no round was taken
pub at_own : (user : UserState) (own : Own) (k : ℕ) → k ≡ own.rounds → state_of user own ≡ state_of user (at_rounds own k)
at_own user own k is = ap (state_of user) (sym (own_same own k is))

-- another machine of the same thread, with the same group and on no way out
pub record IsLike (m n : Position) : Type 0 where
  pub group : n.group ≡ m.group
  pub failure : n.at_failure ≡ m.at_failure
  pub signal : n.signal ≡ Normal

-- what is left where an element was opened: a section takes a unit and is entered
module _ (plan : Tree) (m m' : Position) (part : Part) (apart : AreApart plan.elements m.stack.frames) (same : (s : State) → left_after plan m (part s) ≡ left_of plan m' s) where
  by_units : (lock : ℕ) (s : State) → open_lock m.stack.frames ≡ None → (k : ℕ)
      → left_after plan m (taking_unit k s (λ s. give (Entered lock) (part s))) ≡ taking_unit k s (λ s. give (Entered lock) (left_of plan m' s))
  by_units lock s alone zero =
      stop_through (here_in plan m) m.group m.stack.frames SampleLimit s refl apart ∙ ap (λ o. leaving_open o (over (stopped SampleLimit s))) alone
  by_units lock s alone (suc k) =
      let t : State = state_of s.user (at_units s.own k) in
      left_gives (here_in plan m) m.group m.stack.frames (Entered lock) (part t) (λ t. refl) ∙ ap (give (Entered lock)) (same t)

  pub opened_is : (o : Shut) → IsAlone o (open_lock m.stack.frames) → (s : State) → left_after plan m (opening o part s) ≡ went plan m' s (opening_move o)
  opened_is Plain alone s = same s
  opened_is (Summing tally) alone s = same s
  opened_is (Leaving lock) alone s = by_units lock s alone s.own.units

module _ (plan : Tree) (m : Position) (n round depth : ℕ) (e : Element) (user user' : UserState) (own own' : Own) (a b : Account)
    (some : 1 ≤ depth) (there : slice_get plan.elements n ≡ Some e) where
  abbrev here : Here
  here = here_in plan m

  abbrev run : Run Ending
  run = left_after plan m (meaning (here_in plan m) depth n round (state_of user own))

  inside : (x : Run Ending) → Goes a (kind_meaning (here_in plan m) (meaning (here_in plan m) (depth - 1)) n e e.kind round (state_of user own)) [] x b
      → Goes a (left_after plan m (meaning (here_in plan m) depth n round (state_of user own))) [] (left_in (here_in plan m) m.group m.stack.frames x) b
  inside x goes =
      subst (λ r. Goes a (left_in (here_in plan m) m.group m.stack.frames r) [] (left_in (here_in plan m) m.group m.stack.frames x) b)
      (sym (meant (here_in plan m) depth n round (state_of user own) e some there)) (goes_left (here_in plan m) m.group m.stack.frames goes)

  -- nothing that runs
  pub open_nothing : m.signal ≡ Normal
      → Goes a (kind_meaning (here_in plan m) (meaning (here_in plan m) (depth - 1)) n e e.kind round (state_of user own)) [] (over (normal (state_of user' own'))) b
      → Goes a (left_after plan m (meaning (here_in plan m) depth n round (state_of user own))) [] (went plan m (state_of user' own') On) b
  open_nothing normal_ goes = rest_is _ _ _ (sym (left_normal plan m (state_of user' own') normal_)) (inside (over (normal (state_of user' own'))) goes)

  -- a sampler
  pub open_sampler :
      Goes a (kind_meaning (here_in plan m) (meaning (here_in plan m) (depth - 1)) n e e.kind round (state_of user own)) [] (kind_part (here_in plan m) n e e.kind (state_of user' own')) b
      → Goes a (left_after plan m (meaning (here_in plan m) depth n round (state_of user own))) [] (went plan m (state_of user' own') (To (RunSampler n))) b
  open_sampler goes = rw there (inside (kind_part (here_in plan m) n e e.kind (state_of user' own')) goes)

  -- a controller
  pub open_frame : (m' : Position) (c : Cursor) (limit : Run Ending) (res : Result Went VarError) → IsLike m m' → (o : Own) → o ≡ own' → AreApart plan.elements m.stack.frames
      → IsAlone (shut_of c) (open_lock m.stack.frames)
      → MatchResult res (λ w. (w ≡ opening_move (shut_of c)) × (m'.stack.frames ≡ record { element = n; round = round; depth = depth - 1; cursor = c } ∷ m.stack.frames)) (λ e. e ≡ NoMemory)
      → Goes a (kind_meaning (here_in plan m) (meaning (here_in plan m) (depth - 1)) n e e.kind round (state_of user own)) []
      (opening (shut_of c) (λ s. closing (label_at plan.elements n) (shut_of c) (cursor_left (meaning (here_in plan m) (depth - 1)) round (children_in (here_in plan m) e) e c s)) (state_of user' own')) b
      → CameTo a (left_after plan m (meaning (here_in plan m) depth n round (state_of user own))) b (went plan m' (state_of user' o)) limit res
  open_frame m' c limit (Ok w) like o is apart alone pushed goes =
      let f : Frame = record { element = n; round = round; depth = depth - 1; cursor = c } in
      let part : Part = λ s. closing (label_at plan.elements n) (shut_of c) (cursor_left (meaning (here_in plan m) (depth - 1)) round (children_in (here_in plan m) e) e c s) in
      rw pushed.0 (rest_is _ _ _
      (opened_is plan m m' part apart
      (λ s. sym (innermost (here_in plan m) m.group f m.stack.frames e s there) ∙ sym (left_later plan m m' m.group (f ∷ m.stack.frames) s like.group like.failure like.signal pushed.1))
      (shut_of c) alone (state_of user' own')
      ∙ ap (λ o. went plan m' (state_of user' o) (opening_move (shut_of c))) (sym is))
      (inside (opening (shut_of c) part (state_of user' own')) goes))
  open_frame m' c limit (Err error) like o is apart alone wanting goes = rw wanting (by_memory (_, inside _ goes))

  -- a refusal
  pub open_refused : (error : VarError) → AreApart plan.elements m.stack.frames
      → Refused a (kind_meaning (here_in plan m) (meaning (here_in plan m) (depth - 1)) n e e.kind round (state_of user own)) b (past (state_of user' own')) error
      → Refused a (left_after plan m (meaning (here_in plan m) depth n round (state_of user own))) b (leaving_open (open_lock m.stack.frames) (past (state_of user' own'))) error
  open_refused error apart refused =
      subst (λ r. Refused a (left_in (here_in plan m) m.group m.stack.frames r) b (leaving_open (open_lock m.stack.frames) (past (state_of user' own'))) error)
      (sym (meant (here_in plan m) depth n round (state_of user own) e some there)) (refused_left (here_in plan m) m.group m.stack.frames apart refused)

-- the same, in a machine that keeps the same rounds and places
pub own_is : (m n : Position) (beside : Beside) → n.rounds ≡ m.rounds → n.places ≡ m.places → own_at n beside ≡ own_at m beside
own_is m n beside rounds places = rw (rounds, places) refl
