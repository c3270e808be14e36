-- What the controllers that choose are goes on as their cursors' entries and steps say.
use Rattle.std.proofs.Common.{◌≡◌, ℕ, zero, suc, ◌+◌, Bool, true, false, List, [], ◌∷◌, length, drop, Option, Some, None, refl, sym, ap, ◌∙◌, subst, add-one}
use mathlib.Core.Path.{fun_ext}
use Rattle.std.specs.Prelude.{slice_get, ◌==◌}
use Rattle.std.proofs.Math.Seq.{drop-cons}
use Rattle.std.proofs.lemmas.List.{set-get_or}
use Rattle.std.proofs.lemmas.Option.{slice_get_within, get_or_from_slice_get}
use Rattle.jm_base.specs.Run.{Run, over, give, read, wait, ask, ◌>>=◌}
use Rattle.template_text.specs.Pieces.{Pieces}
use Rattle.element_tree.specs.declared.kinds.Kind.{Kind}
use Rattle.element_tree.specs.declared.kinds.Kind.TheVariants as kinds
use Rattle.var_functions.specs.declared.state.UserState.{UserState}
use Rattle.cursor_steps.specs.CursorStep.{answers}
use Rattle.choice_controllers.specs.declared.interleave_cursor.InterleaveCursor.{InterleaveCursor}
use Rattle.choice_controllers.specs.declared.random_cursor.RandomCursor.{RandomCursor}
use Rattle.choice_controllers.specs.declared.order_cursor.OrderCursor.{OrderCursor}
use Rattle.choice_controllers.specs.declared.switch_cursor.SwitchCursor.{SwitchCursor}
use Rattle.choice_controllers.specs.InterleaveController.{interleaved, interleave_enters, interleave_next}
use Rattle.choice_controllers.specs.RandomController.{random_enters, random_next}
use Rattle.choice_controllers.specs.RandomOrderController.{order_of, order_enters, order_next}
use Rattle.choice_controllers.specs.SwitchController.{picks, switch_enters, switch_enters_at, switch_next}
use Rattle.jm_meaning.specs.declared.signal.Signal.{Signal}
use Rattle.jm_meaning.specs.declared.signal.Signal.TheVariants.{Normal, NextLoop, Stop}
use Rattle.jm_meaning.specs.State.{State, Own, Ending, state_of, normal, on_normal, and_then, text, at_places, place_of, with_place, with_fns}
use Rattle.jm_meaning.specs.Children.{Below, one_of}
use Rattle.jm_meaning.specs.Choices.{chosen, interleave, random, shuffled_all, random_order as random_part, switch}
use Rattle.open_elements.specs.Moves.{stepped, begun}
use Rattle.open_elements.specs.Cursors.{interleave_left, random_left, switch_left, each_of, order_left}
use Rattle.open_elements.proofs.StepLaws.{text-law}
use Rattle.open_elements.proofs.ShuffleLaws.{order-of-children, each-there}

-- ---- the child that was chosen

ends-so : (s : State) (signal : Signal) → on_normal (λ s. over (normal s)) (record { state = s; signal = signal }) ≡ over (record { state = s; signal = signal })
ends-so s Normal = refl
ends-so s NextLoop = refl
ends-so s (Stop end) = refl

-- a part after which nothing is left
pub then-nothing : (r : Run Ending) → and_then r (λ s. over (normal s)) ≡ r
then-nothing (over e) = ends-so e.state e.signal
then-nothing (give e r) = ap (give e) (then-nothing r)
then-nothing (read k) = ap read (fun_ext λ t. then-nothing (k t))
then-nothing (wait ms r) = ap (wait ms) (then-nothing r)
then-nothing (ask n q k) = ap (ask n q) (fun_ext λ o. then-nothing (k o))

pub interleave-law : (below : Below) (round : ℕ) (children : List ℕ) (c : InterleaveCursor) (s : State)
    → interleave_left below round children c s ≡ (interleave_next c s.user >>= stepped below (λ d. round) children (interleave_left below round children) s.own)
interleave-law below round children c s = by_choice c.chosen refl where
  by_choice : (o : Option ℕ) → c.chosen ≡ o
      → interleave_left below round children c s ≡ (interleave_next c s.user >>= stepped below (λ d. round) children (interleave_left below round children) s.own)
  by_choice None is = rw is refl
  by_choice (Some place) is = rw is (sym (then-nothing (one_of below round (slice_get children place) s)))

pub random-law : (below : Below) (round : ℕ) (children : List ℕ) (c : RandomCursor) (s : State)
    → random_left below round children c s ≡ (random_next c s.user >>= stepped below (λ d. round) children (random_left below round children) s.own)
random-law below round children c s = by_choice c.chosen refl where
  by_choice : (o : Option ℕ) → c.chosen ≡ o
      → random_left below round children c s ≡ (random_next c s.user >>= stepped below (λ d. round) children (random_left below round children) s.own)
  by_choice None is = rw is refl
  by_choice (Some place) is = rw is (sym (then-nothing (one_of below round (slice_get children place) s)))

pub switch-law : (below : Below) (round : ℕ) (children : List ℕ) (c : SwitchCursor) (s : State)
    → switch_left below round children c s ≡ (switch_next c s.user >>= stepped below (λ d. round) children (switch_left below round children) s.own)
switch-law below round children c s = by_choice c.chosen refl where
  by_choice : (o : Option ℕ) → c.chosen ≡ o
      → switch_left below round children c s ≡ (switch_next c s.user >>= stepped below (λ d. round) children (switch_left below round children) s.own)
  by_choice None is = rw is refl
  by_choice (Some place) is = rw is (sym (then-nothing (one_of below round (slice_get children place) s)))

-- ---- the order

front-at : (xs : List ℕ) (i x : ℕ) → slice_get xs i ≡ Some x → drop i xs ≡ x ∷ drop (i + 1) xs
front-at xs i x is =
    rw (add-one i) (drop-cons xs i 0 (slice_get_within xs i x is) ∙ ap (λ y. y ∷ drop (suc i) xs) (get_or_from_slice_get xs i x 0 is))

none-behind : (xs : List ℕ) (i : ℕ) → slice_get xs i ≡ None → drop i xs ≡ []
none-behind [] zero is = refl
none-behind [] (suc i) is = refl
none-behind (x ∷ xs) zero is = absurd (none is) where
  none : slice_get (x ∷ xs) 0 ≡ None → ⊥
  none h = cc
none-behind (x ∷ xs) (suc i) is = none-behind xs i is

pub order-law : (below : Below) (round : ℕ) (children : List ℕ) (c : OrderCursor) (s : State)
    → order_left below round children c s ≡ (order_next c s.user >>= stepped below (λ d. round) children (order_left below round children) s.own)
order-law below round children c s = by_place (slice_get (order_of c) c.next) refl where
  by_place : (o : Option ℕ) → slice_get (order_of c) c.next ≡ o
      → order_left below round children c s ≡ (order_next c s.user >>= stepped below (λ d. round) children (order_left below round children) s.own)
  by_place None is = rw (is, none-behind (order_of c) c.next is) refl
  by_place (Some place) is = rw (is, front-at (order_of c) c.next place is) refl

-- ---- entry

pub interleave-enter : (below : Below) (round number : ℕ) (children : List ℕ) (n : ℕ) (c : InterleaveCursor) (s : State) → n ≡ length children → c.place ≡ place_of s.own.places number
    → interleave below round number children s
    ≡ (interleave_enters n c s.user >>= begun (interleave_left below round children) (at_places s.own (with_place s.own.places number (interleaved n c).place)))
interleave-enter below round number children n c s all at = by_count (length children == 0) refl where
  by_count : (x : Bool) → (length children == 0) ≡ x
      → interleave below round number children s
      ≡ (interleave_enters n c s.user >>= begun (interleave_left below round children) (at_places s.own (with_place s.own.places number (interleaved n c).place)))
  by_count true is = rw (all, is, at) (ap (λ ps. over (normal (state_of s.user (at_places s.own ps)))) (sym (set-get_or s.own.places number 0)))
  by_count false is = rw (all, is, at) refl

-- the same, where the cursor stands and the places are as they are now
pub interleave-entered : (below : Below) (round number : ℕ) (children : List ℕ) (n : ℕ) (c d : InterleaveCursor) (user : UserState) (own : Own) (places : List ℕ)
    → n ≡ length children → c.place ≡ place_of own.places number → d ≡ interleaved n c → places ≡ with_place own.places number d.place
    → interleave below round number children (state_of user own) ≡ (interleave_enters n c user >>= begun (interleave_left below round children) (at_places own places))
interleave-entered below round number children n c d user own places all at moved set =
    interleave-enter below round number children n c (state_of user own) all at
    ∙ ap (λ ps. interleave_enters n c user >>= begun (interleave_left below round children) (at_places own ps)) (sym (set ∙ ap (λ d. with_place own.places number d.place) moved))

pub random-enter : (below : Below) (round : ℕ) (children : List ℕ) (n : ℕ) (c : RandomCursor) (s : State) → n ≡ length children
    → random below round children s ≡ (random_enters n c s.user >>= begun (random_left below round children) s.own)
random-enter below round children n c s all = rw all refl

pub order-enter : (below : Below) (round : ℕ) (children : List ℕ) (n : ℕ) (c : OrderCursor) (s : State) → n ≡ length children
    → random_part below round children s ≡ (order_enters n c s.user >>= begun (order_left below round children) s.own)
order-enter below round children n c s all =
    sym (each-there below round (shuffled_all children s.user.fns).0 (with_fns s (shuffled_all children s.user.fns).1))
    ∙ ap (λ m. each_of below round m.0 (with_fns s m.1)) (sym (order-of-children children s.user.fns))
    ∙ ap (λ k. order_enters k c s.user >>= begun (order_left below round children) s.own) (sym all)

pub switch-enter : (names : List (List ℕ)) (value : Pieces) (below : Below) (round : ℕ) (children : List ℕ) (c : SwitchCursor) (s : State)
    → switch below round names children (text value) s ≡ (switch_enters value names c s.user >>= begun (switch_left below round children) s.own)
switch-enter names value below round children c s =
    text-law value c s (λ t u. answers tt (record { element = c.element; chosen = picks t names }) u) (begun (switch_left below round children) s.own)
    (λ x. chosen below round children (picks x names)) (λ u. refl) (λ t u. refl)

pub switch-enter-in : (k : Kind) (names : List (List ℕ)) (value : Pieces) (below : Below) (round : ℕ) (children : List ℕ) (c : SwitchCursor) (s : State) → k ≡ kinds.Switch value
    → switch below round names children (text value) s ≡ (switch_enters_at k names c s.user >>= begun (switch_left below round children) s.own)
switch-enter-in k names value below round children c s is =
    subst (λ k. switch below round names children (text value) s ≡ (switch_enters_at k names c s.user >>= begun (switch_left below round children) s.own)) (sym is)
    (switch-enter names value below round children c s)
