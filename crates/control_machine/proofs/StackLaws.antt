-- What goes on inside the open elements goes on in the whole.
use Rattle.std.proofs.Common.{◌≡◌, ℕ, Bool, true, false, List, [], ◌∷◌, Option, Some, None, refl, sym, ap, ◌∙◌, subst}
use Rattle.std.specs.Prelude.{◌&&◌, nat_lt, if◌then◌else◌, slice_get}
use Rattle.jm_base.specs.declared.types.End.{End}
use Rattle.jm_base.specs.declared.types.End.TheVariants.{ValueLimit}
use Rattle.jm_base.specs.declared.types.Sample.{Sample}
use Rattle.jm_base.specs.Run.{Run, over, give, Event, Left, Sampled, Sampler}
use Rattle.jm_base.specs.Outside.{Account, Goes}
use Rattle.jm_base.proofs.RunLaws.{goes-bind}
use Rattle.element_tree.specs.declared.kinds.Element.{Element}
use Rattle.element_tree.specs.Tree.{Tree}
use Rattle.thread_vars.specs.declared.error.VarError.{VarError}
use Rattle.var_functions.specs.Came.{Refused, by_limit, by_memory}
use Rattle.jm_meaning.specs.declared.signal.Signal.{Signal}
use Rattle.jm_meaning.specs.declared.signal.Signal.TheVariants.{Normal, NextLoop, Stop}
use Rattle.jm_meaning.specs.declared.transaction.Tally.{Tally}
use Rattle.jm_meaning.specs.State.{State, Ending, Part, normal, stopped, and_then}
use Rattle.jm_meaning.specs.Meaning.{Here, children_in, meaning}
use Rattle.jm_meaning.specs.Transactions.{gives_sample, counting, summed, with_own_sample}
use Rattle.jm_meaning.specs.Sections.{leaving_open}
use Rattle.open_elements.specs.declared.cursor.Cursor.{Cursor}
use Rattle.open_elements.specs.declared.cursor.Cursor.TheVariants.{Transaction}
use Rattle.open_elements.specs.Moves.{past}
use Rattle.open_elements.specs.Cursors.{cursor_left, Shut, Plain, Summing, Leaving, shut_of, lock_in}
use Rattle.open_elements.specs.Closing.{closing}
use Rattle.open_elements.specs.Hearing.{hearing}
use Rattle.open_elements.proofs.ClosingLaws.{goes_closing, closing_gives, closing_hears, ends_so, left_there, stop_closing}
use Rattle.control_machine.specs.declared.stack.Frame.{Frame}
use Rattle.control_machine.specs.declared.position.Group.{Group}
use Rattle.control_machine.specs.declared.position.Position.{Position}
use Rattle.control_machine.specs.declared.position.Went.TheVariants.{On, To}
use Rattle.control_machine.specs.declared.moves.Move.TheVariants.{TransactionSample}
use Rattle.control_machine.specs.Left.{label_at, frame_left, closed, rest_of, group_around, left_in, left_after, here_in, open_lock, IsAlone, AreApart}
use Rattle.control_machine.specs.Hearing.{frame_hearing, all_hearing}
use Rattle.control_machine.specs.Turns.{went, closing_move}

-- what an open element's cursor leaves
abbrev pub left_by : Here → Frame → Element → Part
left_by here f e = cursor_left (meaning here f.depth) f.round (children_in here e) e f.cursor

-- what the element of an open frame gives after the child that is open, by its place
abbrev next_in : Here → Frame → Part
next_in here f = frame_left here f (slice_get here.plan.elements f.element)

module _ (here : Here) where
  goes_inside : (fs : List Frame) {a b : Account} {x y : Run Ending} → Goes a x [] y b → Goes a (rest_of here fs x) [] (rest_of here fs y) b
  unfolding rest_of
  goes_inside [] g = g
  goes_inside (f ∷ fs) g = goes_inside fs (goes_closing (label_at here.plan.elements f.element) (shut_of f.cursor) (goes-bind _ g))

  pub goes_left : (g : Group) (fs : List Frame) {a b : Account} {x y : Run Ending} → Goes a x [] y b
      → Goes a (left_in here g fs x) [] (left_in here g fs y) b
  unfolding left_in
  goes_left g fs go = goes-bind _ (goes-bind _ (goes-bind _ (goes_inside fs go)))

  -- ---- an event is given in the whole

  rest_gives : (fs : List Frame) (e : Event) (x : Run Ending) → ((t : Tally) → counting t e ≡ t) → rest_of here fs (give e x) ≡ give e (rest_of here fs x)
  unfolding rest_of
  rest_gives [] e x none = refl
  rest_gives (f ∷ fs) e x none =
      ap (rest_of here fs) (closing_gives (label_at here.plan.elements f.element) (shut_of f.cursor) e (and_then x (next_in here f)) none)
      ∙ rest_gives fs e (closed here f (and_then x (next_in here f))) none

  -- one that no transaction counts
  pub left_gives : (g : Group) (fs : List Frame) (e : Event) (x : Run Ending) → ((t : Tally) → counting t e ≡ t) → left_in here g fs (give e x) ≡ give e (left_in here g fs x)
  unfolding left_in
  left_gives g fs e x none = ap (group_around here g) (rest_gives fs e x none)

  -- ---- an end by a limit

  leaves_there : (fs : List Frame) (end : End) (s : State) (o : Shut) → IsAlone o (open_lock fs)
      → rest_of here fs (over (stopped end s)) ≡ leaving_open (open_lock fs) (over (stopped end s))
      → rest_of here fs (left_there o (over (stopped end s))) ≡ leaving_open (lock_in o (open_lock fs)) (over (stopped end s))
  leaves_there fs end s Plain alone so = so
  leaves_there fs end s (Summing tally) alone so = so
  leaves_there fs end s (Leaving lock) alone so =
      rest_gives fs (Left lock) (over (stopped end s)) (λ t. refl)
      ∙ ap (give (Left lock)) (so ∙ ap (λ o. leaving_open o (over (stopped end s))) alone)

  stop_inside : (fs : List Frame) (end : End) (s : State) → gives_sample (Stop end) ≡ false → AreApart here.plan.elements fs
      → rest_of here fs (over (stopped end s)) ≡ leaving_open (open_lock fs) (over (stopped end s))
  unfolding rest_of
  stop_inside [] end s limit apart = refl
  stop_inside (f ∷ fs) end s limit apart =
      ap (rest_of here fs) (stop_closing (label_at here.plan.elements f.element) (shut_of f.cursor) end s limit)
      ∙ leaves_there fs end s (shut_of f.cursor) apart.0.alone (stop_inside fs end s limit apart.1)

  group_stops : (g : Group) (end : End) (s : State) (o : Option ℕ) → group_around here g (leaving_open o (over (stopped end s))) ≡ leaving_open o (over (stopped end s))
  group_stops g end s None = refl
  group_stops g end s (Some lock) = refl

  -- the open section is left, and nothing else is given
  pub stop_through : (g : Group) (fs : List Frame) (end : End) (s : State) → gives_sample (Stop end) ≡ false → AreApart here.plan.elements fs
      → left_in here g fs (over (stopped end s)) ≡ leaving_open (open_lock fs) (over (stopped end s))
  unfolding left_in
  stop_through g fs end s limit apart = ap (group_around here g) (stop_inside fs end s limit apart) ∙ group_stops g end s (open_lock fs)

  -- a refusal inside the open elements
  pub refused_left : (g : Group) (fs : List Frame) {a b : Account} {x : Run Ending} {s : State} {e : VarError} → AreApart here.plan.elements fs → Refused a x b (past s) e
      → Refused a (left_in here g fs x) b (leaving_open (open_lock fs) (past s)) e
  refused_left g fs {a = a} {b = b} {x = x} {s = s} apart (by_limit h) =
      by_limit (subst (λ r. Goes a (left_in here g fs x) [] r b) (stop_through g fs _ s refl apart) (goes_left g fs h))
  refused_left g fs apart (by_memory h) = by_memory (_, goes_left g fs h.1)

  -- ---- the innermost open element

  -- it comes next
  pub innermost : (g : Group) (f : Frame) (fs : List Frame) (e : Element) (s : State) → slice_get here.plan.elements f.element ≡ Some e
      → left_in here g (f ∷ fs) (over (normal s)) ≡ left_in here g fs (closed here f (left_by here f e s))
  unfolding left_in rest_of
  innermost g f fs e s h = rw h refl

  -- a run inside it
  pub inside_top : (g : Group) (f : Frame) (fs : List Frame) (e : Element) (x : Run Ending) → slice_get here.plan.elements f.element ≡ Some e
      → left_in here g (f ∷ fs) x ≡ left_in here g fs (closed here f (and_then x (left_by here f e)))
  unfolding left_in rest_of
  inside_top g f fs e x h = rw h refl

  -- a way out leaves it
  pub out_of_top : (g : Group) (f : Frame) (fs : List Frame) (s : State) (signal : Signal) → (signal ≡ Normal → ⊥)
      → left_in here g (f ∷ fs) (over (record { state = s; signal = signal })) ≡ left_in here g fs (closed here f (over (record { state = s; signal = signal })))
  unfolding left_in rest_of
  out_of_top g f fs s Normal away = absurd (away refl)
  out_of_top g f fs s NextLoop away = refl
  out_of_top g f fs s (Stop end) away = refl

  -- an end leaves it
  stop_of_top : (g : Group) (f : Frame) (fs : List Frame) (end : End) (s : State)
      → left_in here g (f ∷ fs) (over (stopped end s)) ≡ left_in here g fs (closed here f (over (stopped end s)))
  unfolding left_in rest_of
  stop_of_top g f fs end s = refl

-- ---- a sampler's sample

frame_left_hearing : (sample : Sample) (here : Here) (f : Frame) (o : Option Element) → frame_left here (frame_hearing sample f) o ≡ frame_left here f o
frame_left_hearing sample here f None = refl
frame_left_hearing sample here f (Some e) = left_hearing f.cursor where
  left_hearing : (c : Cursor) → cursor_left (meaning here f.depth) f.round (children_in here e) e (hearing sample c) ≡ cursor_left (meaning here f.depth) f.round (children_in here e) e c
  left_hearing (Transaction c) = refl
  left_hearing c = refl

module _ (here : Here) (sample : Sample) where
  rest_hears : (fs : List Frame) (x : Run Ending) → rest_of here fs (give (Sampled Sampler sample) x) ≡ give (Sampled Sampler sample) (rest_of here (all_hearing sample fs) x)
  unfolding rest_of
  rest_hears [] x = refl
  rest_hears (f ∷ fs) x =
      let label : ℕ = label_at here.plan.elements f.element in
      let heard : Shut = shut_of (hearing sample f.cursor) in
      ap (rest_of here fs) (closing_hears label sample f.cursor (and_then x (next_in here f)))
      ∙ rest_hears fs (closing label heard (and_then x (next_in here f)))
      ∙ ap (λ next. give (Sampled Sampler sample) (rest_of here (all_hearing sample fs) (closing label heard (and_then x next))))
      (sym (frame_left_hearing sample here f (slice_get here.plan.elements f.element)))

  -- the open transactions count it
  pub left_hears : (g : Group) (fs : List Frame) (x : Run Ending)
      → left_in here g fs (give (Sampled Sampler sample) x) ≡ give (Sampled Sampler sample) (left_in here g (all_hearing sample fs) x)
  unfolding left_in
  left_hears g fs x = ap (group_around here g) (rest_hears fs x)

-- ---- an element is left

-- The sample of a transaction is the next move, where it gives one, or that a section is left.
pub closed_out : (plan : Tree) (m : Position) (element : ℕ) (o : Shut) (s : State)
    → left_after plan m (closing (label_at plan.elements element) o (over (record { state = s; signal = m.signal }))) ≡ went plan m s (closing_move element o (gives_sample m.signal))
closed_out plan m element Plain s = refl
closed_out plan m element (Leaving lock) s =
    left_gives (here_in plan m) m.group m.stack.frames (Left lock) (over (record { state = s; signal = m.signal })) (λ t. refl)
closed_out plan m element (Summing tally) s =
    ap (left_after plan m) (ends_so (label_at plan.elements element) tally e) ∙ by_case (gives_sample m.signal && nat_lt 0 tally.samples) refl where
      e : Ending
      e = record { state = s; signal = m.signal }

      by_case : (b : Bool) → (gives_sample m.signal && nat_lt 0 tally.samples) ≡ b
          → left_after plan m (summed (label_at plan.elements element) tally e) ≡ went plan m s (closing_move element (Summing tally) (gives_sample m.signal))
      by_case true is =
          ap (λ b. left_after plan m (if b then with_own_sample (label_at plan.elements element) tally e else over e)) is
          ∙ sym (ap (λ b. went plan m s (if b then To (TransactionSample element tally) else On)) is)
      by_case false is =
          ap (λ b. left_after plan m (if b then with_own_sample (label_at plan.elements element) tally e else over e)) is
          ∙ sym (ap (λ b. went plan m s (if b then To (TransactionSample element tally) else On)) is)

-- ---- what the innermost open element has come to, in the whole

pub framed_goes : (here : Here) (g : Group) (fs : List Frame) (f : Frame) (e : Element) (s : State) (a m : Account) (x : Run Ending)
    → slice_get here.plan.elements f.element ≡ Some e → Goes a (left_by here f e s) [] x m
    → Goes a (left_in here g (f ∷ fs) (over (normal s))) [] (left_in here g fs (closed here f x)) m
framed_goes here g fs f e s a m x there go =
    subst (λ r. Goes a r [] (left_in here g fs (closed here f x)) m) (sym (innermost here g f fs e s there))
    (goes_left here g fs (goes_closing (label_at here.plan.elements f.element) (shut_of f.cursor) go))

refused_framed : (here : Here) (g : Group) (fs : List Frame) (f : Frame) (e : Element) (s t : State) (a b : Account) {error : VarError}
    → slice_get here.plan.elements f.element ≡ Some e → AreApart here.plan.elements (f ∷ fs)
    → Refused a (left_by here f e s) b (past t) error → Refused a (left_in here g (f ∷ fs) (over (normal s))) b (leaving_open (open_lock (f ∷ fs)) (past t)) error
refused_framed here g fs f e s t a b there apart (by_limit h) =
    by_limit (subst (λ r. Goes a (left_in here g (f ∷ fs) (over (normal s))) [] r b) (sym (stop_of_top here g f fs ValueLimit t) ∙ stop_through here g (f ∷ fs) ValueLimit t refl apart)
    (framed_goes here g fs f e s a b (past t) there h))
refused_framed here g fs f e s t a b there apart (by_memory h) = by_memory (_, framed_goes here g fs f e s a b h.0 there h.1)

pub framed_refused : (here : Here) (g : Group) (fs : List Frame) (f : Frame) (e : Element) (s t : State) (a b : Account) (error : VarError)
    → slice_get here.plan.elements f.element ≡ Some e → AreApart here.plan.elements (f ∷ fs)
    → Refused a (left_by here f e s) b (past t) error → Refused a (left_in here g (f ∷ fs) (over (normal s))) b (leaving_open (open_lock (f ∷ fs)) (past t)) error
framed_refused here g fs f e s t a b error there apart h = refused_framed here g fs f e s t a b there apart h
