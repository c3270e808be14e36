-- A machine stands in its plan after each turn.
use Rattle.std.proofs.Common.{◌≡◌, ◌∙◌, inr, ℕ, zero, suc, ◌+◌, ◌-◌, ◌≤◌, ◌<◌, Bool, true, false, List, [], ◌∷◌, length, take, Option, Some, None, refl, sym, subst, arith}
use Rattle.std.specs.Prelude.{◌||◌, ◌&&◌, not, is_some, if◌then◌else◌, slice_get, Result, Ok, Err, MatchResult, IfOk}
use Rattle.std.specs.List.{AllByRecursion, filter}
use Rattle.std.proofs.lemmas.Option.{slice_get_within}
use Rattle.element_tree.specs.declared.kinds.Element.{Element}
use Rattle.element_tree.specs.declared.package.Turn.{Turn}
use Rattle.element_tree.specs.declared.package.Turn.TheVariants.{Child, Round, Over}
use Rattle.element_tree.specs.Types.{is_section}
use Rattle.element_tree.specs.Tree.{Tree, Nests, Apart}
use Rattle.cursor_steps.specs.RunningChildren.{begun_after}
use Rattle.jm_meaning.specs.Children.{children_of}
use Rattle.jm_meaning.specs.Beginning.{max_rounds}
use Rattle.open_elements.specs.declared.cursor.Cursor.{Cursor}
use Rattle.open_elements.specs.Cursors.{Shut, Plain, Summing, Leaving, shut_of, lock_in, FitsKind, begun_of}
use Rattle.open_elements.specs.ChildrenLeft.{children_left}
use Rattle.open_elements.specs.Closing.{KeepsLock}
use Rattle.open_elements.proofs.CursorCases.{few_in_pass, section_is}
use Rattle.control_machine.specs.declared.stack.Frame.{Frame}
use Rattle.control_machine.specs.declared.position.Group.{Group}
use Rattle.control_machine.specs.declared.position.Position.{Position}
use Rattle.control_machine.specs.declared.position.Went.{Went}
use Rattle.control_machine.specs.declared.position.Went.TheVariants.{On, To}
use Rattle.control_machine.specs.declared.moves.Move.TheVariants.{EnterSection}
use Rattle.thread_vars.specs.declared.error.VarError.{VarError}
use Rattle.thread_vars.specs.declared.error.VarError.TheVariants.{NoMemory}
use Rattle.cursor_steps.specs.RunningChildren.{is_run_at, runs_of}
use Rattle.control_machine.specs.Load.{children_count}
use Rattle.control_machine.specs.Left.{open_lock, IsAlone, IsApart, AreApart, IsOpen, AreOpen, depth_in, DepthsFall, GroupIsOpen, IsOut, StandsIn}
use Rattle.control_machine.specs.Turns.{IsWent, IsOpened, IsRoundless, IsRoundIn, IsNormalOn, MovesLockOn, TakesTurn, SameRest, opening_move}
use Rattle.control_machine.proofs.LoadLaws.{few_runs}

-- with fewer rounds left
pub fewer_open : (elements : List Element) (m n : ℕ) (fs : List Frame) → m ≤ n → AreOpen elements n fs → AreOpen elements m fs
fewer_open elements m n [] le h = tt
fewer_open elements m n (f ∷ fs) le h =
    (record { element = h.0.element; there = h.0.there; fits = h.0.fits; below = h.0.below; depth = h.0.depth; bound = omega (arith, h.0.bound, le); lock = h.0.lock }, fewer_open elements m n fs le h.1)

pub fewer_group : (elements : List Element) (m n : ℕ) (g h : Group) → h ≡ g → m ≤ n → GroupIsOpen elements n g → GroupIsOpen elements m h
fewer_group elements m n g h is le o =
    subst (GroupIsOpen elements m) (sym is) (record { element = o.element; there = o.there; below = o.below; apart = o.apart; pass = o.pass; bound = omega (arith, o.bound, le) })

-- an element that has answered Round is open in it
pub round_open : (elements : List Element) (left k : ℕ) (f : Frame) (turn : Turn) → turn ≡ Round → (left ≡ 0 → ⊥) → k ≡ left - 1 → IsOpen elements (begun_after max_rounds turn) left f → IsOpen elements max_rounds k f
round_open elements left k f turn is some less o =
    let b : begun_of f.cursor + left ≤ max_rounds + 1 = subst (λ t. begun_of f.cursor + left ≤ begun_after max_rounds t) is o.bound in
    record { element = o.element; there = o.there; fits = o.fits; below = o.below; depth = o.depth; bound = omega (arith, b, some, less); lock = o.lock }

pub child_open : (elements : List Element) (left place : ℕ) (f : Frame) (turn : Turn) → turn ≡ Child place → IsOpen elements (begun_after max_rounds turn) left f → IsOpen elements max_rounds left f
child_open elements left place f turn is o = subst (λ t. IsOpen elements (begun_after max_rounds t) left f) is o

-- an element after its answer
pub answered_open : (elements : List Element) (left : ℕ) (f : Frame) (c : Cursor) (turn : Turn) (o : IsOpen elements max_rounds left f)
    → FitsKind f.element (length (children_of elements o.element)) o.element.kind c → begun_of c ≤ begun_after (begun_of f.cursor) turn
    → shut_of c ≡ shut_of f.cursor → IsOpen elements (begun_after max_rounds turn) left (record { element = f.element; round = f.round; depth = f.depth; cursor = c })
answered_open elements left f c turn o fits begun shut =
    record { element = o.element; there = o.there; fits = fits; below = o.below; depth = o.depth; bound = by_turn turn begun; lock = subst (KeepsLock elements o.element.kind) (sym shut) o.lock } where
      by_turn : (turn : Turn) → begun_of c ≤ begun_after (begun_of f.cursor) turn → begun_of c + left ≤ begun_after max_rounds turn
      by_turn (Child place) h = let b = o.bound in omega (arith, h, b)
      by_turn Round h = let b = o.bound in omega (arith, h, b)
      by_turn Over h = let b = o.bound in omega (arith, h, b)

pub all_at : (P : ℕ → Type 0) (xs : List ℕ) (i x : ℕ) → AllByRecursion P xs → slice_get xs i ≡ Some x → P x
all_at P [] i x all h = absurd (none h) where
  none : slice_get {X = ℕ} [] i ≡ Some x → ⊥
  none h = let w : i < 0 = slice_get_within [] i x h in omega arith
all_at P (y ∷ xs) zero x all h = subst P (same h) all.0 where
  same : slice_get (y ∷ xs) 0 ≡ Some x → y ≡ x
  same h = cc
all_at P (y ∷ xs) (suc i) x all h = all_at P xs i x all.1 h

-- an open element has no more children left than all elements have children
pub few_left : (elements : List Element) (limit left : ℕ) (f : Frame) → IsOpen elements limit left f → children_left f.cursor ≤ children_count elements
few_left elements limit left f o =
    let p = few_in_pass f.element (length (children_of elements o.element)) o.element.kind f.cursor o.fits in
    let r = few_runs elements f.element o.element o.there in
    omega (arith, p, r)

-- ---- how many are open

-- each open element takes one of 30 levels
pub within_30 : (fs : List Frame) → DepthsFall fs → length fs + depth_in fs ≤ 30
within_30 [] h = omega arith
within_30 (f ∷ fs) h = let rest = within_30 fs h.1 in omega (arith, h.0, rest)

pub few_open : (fs : List Frame) → DepthsFall fs → length fs ≤ 30
few_open fs h = let within = within_30 fs h in omega (arith, within)

-- ---- the children that run are among the children

all_filter : (P : ℕ → Type 0) (p : ℕ → Bool) (xs : List ℕ) → AllByRecursion P xs → AllByRecursion P (filter p xs)
all_filter P p [] all = tt
all_filter P p (x ∷ xs) all = by_test (p x) (all_filter P p xs all.1) where
  by_test : (b : Bool) → AllByRecursion P (filter p xs) → AllByRecursion P (if b then x ∷ filter p xs else filter p xs)
  by_test true rest = (all.0, rest)
  by_test false rest = rest

all_take : (P : ℕ → Type 0) (n : ℕ) (xs : List ℕ) → AllByRecursion P xs → AllByRecursion P (take n xs)
all_take P zero xs all = tt
all_take P (suc n) [] all = tt
all_take P (suc n) (x ∷ xs) all = (all.0, all_take P n xs all.1)

child_has : (P : ℕ → Type 0) (elements : List Element) (place child : ℕ) (e : Element) → AllByRecursion P e.children → slice_get (children_of elements e) place ≡ Some child → P child
child_has P elements place child e below found =
    all_at P (children_of elements e) place child (all_take P 65535 (runs_of elements e) (all_filter P (is_run_at elements) e.children below)) found

pub child_nests : (elements : List Element) (depth place child : ℕ) (e : Element) → AllByRecursion (Nests depth elements) e.children → slice_get (children_of elements e) place ≡ Some child → Nests depth elements child
child_nests elements depth place child e below found = child_has (Nests depth elements) elements place child e below found

pub child_apart : (elements : List Element) (depth place child : ℕ) (inside : Bool) (e : Element) → AllByRecursion (Apart depth inside elements) e.children → slice_get (children_of elements e) place ≡ Some child
    → Apart depth inside elements child
child_apart elements depth place child inside e below found = child_has (Apart depth inside elements) elements place child e below found

-- ---- sections stand in none

-- an element whose cursor has moved on
pub apart_on : (elements : List Element) (fs : List Frame) (f : Frame) (c : Cursor) → shut_of c ≡ shut_of f.cursor → IsApart elements fs f
    → IsApart elements fs (record { element = f.element; round = f.round; depth = f.depth; cursor = c })
apart_on elements fs f c shut h = record {
  element = h.element;
  there = h.there;
  below = subst (λ o. AllByRecursion (Apart f.depth (is_some (lock_in o (open_lock fs))) elements) h.element.children) (sym shut) h.below;
  alone = subst (λ o. IsAlone o (open_lock fs)) (sym shut) h.alone;
}

within : (o : Shut) (outer : Option ℕ) (b : Bool) → is_some (lock_in o None) ≡ b → is_some (lock_in o outer) ≡ (is_some outer || b)
within o None b is = is
within Plain (Some lock) b is = refl
within (Summing tally) (Some lock) b is = refl
within (Leaving inner) (Some lock) b is = refl

not_both : not (true && true) ≡ true → ⊥
not_both h = let i : false ≡ true = h in cc

alone_by : (o : Shut) (outer : Option ℕ) (b : Bool) → is_some (lock_in o None) ≡ b → not (is_some outer && b) ≡ true → IsAlone o outer
alone_by Plain outer b is free = tt
alone_by (Summing tally) outer b is free = tt
alone_by (Leaving lock) None b is free = refl
alone_by (Leaving lock) (Some other) b is free = absurd (not_both (subst (λ b. not (true && b) ≡ true) (sym is) free))

-- an element that is opened inside these
pub opened_apart : (elements : List Element) (fs : List Frame) (n round depth : ℕ) (c : Cursor) (e : Element) → slice_get elements n ≡ Some e → FitsKind n (length (children_of elements e)) e.kind c
    → not (is_some (open_lock fs) && is_section e.kind) ≡ true → AllByRecursion (Apart (depth - 1) (is_some (open_lock fs) || is_section e.kind) elements) e.children
    → IsApart elements fs (record { element = n; round = round; depth = depth - 1; cursor = c })
opened_apart elements fs n round depth c e there fits free below =
    let is : is_some (lock_in (shut_of c) None) ≡ is_section e.kind = section_is n (length (children_of elements e)) e.kind c fits in
    record {
      element = e;
      there = there;
      below = subst (λ b. AllByRecursion (Apart (depth - 1) b elements) e.children) (sym (within (shut_of c) (open_lock fs) (is_section e.kind) is)) below;
      alone = alone_by (shut_of c) (open_lock fs) (is_section e.kind) is free;
    }

-- ---- where a cursor was pushed

abbrev pub Pushed : Position → Position → Frame → Result Went VarError → Type 0
Pushed m m' f res = MatchResult res (λ w. (w ≡ opening_move (shut_of f.cursor)) × (m'.stack.frames ≡ f ∷ m.stack.frames)) (λ e. e ≡ NoMemory)

-- what holds of going on and of a section that is entered holds of an element that is opened
by_opening : (P : Went → Type 0) (o : Shut) → P On → ((lock : ℕ) → o ≡ Leaving lock → P (To (EnterSection lock))) → P (opening_move o)
by_opening P Plain on enters = on
by_opening P (Summing tally) on enters = on
by_opening P (Leaving lock) on enters = enters lock refl

opening_given : (elements : List Element) (n : ℕ) (e : Element) (o : Shut) → slice_get elements n ≡ Some e → KeepsLock elements e.kind o → IsWent elements (opening_move o)
opening_given elements n e Plain there keeps = tt
opening_given elements n e (Summing tally) there keeps = tt
opening_given elements n e (Leaving lock) there keeps = record { number = n; element = e; there = there; name = keeps.0; kind = keeps.1; lock_is = keeps.2 }

-- a section that is entered is the one that is open then
opening_lock : (o : Shut) (outer : Option ℕ) → IsAlone o outer → MovesLockOn (opening_move o) outer (lock_in o outer)
opening_lock Plain outer alone = refl
opening_lock (Summing tally) outer alone = refl
opening_lock (Leaving lock) outer alone = (alone, refl)

pub pushed_turn : (plan : Tree) (m m' : Position) (f : Frame) (res : Result Went VarError) → Pushed m m' f res → SameRest m m' → IsOpen plan.elements max_rounds m.rounds f
    → IsApart plan.elements m.stack.frames f → f.depth < depth_in m.stack.frames → StandsIn plan m → IfOk res (TakesTurn plan m.rounds (open_lock m.stack.frames) m')
pushed_turn plan m m' f (Ok w) pushed rest open' apart deeper stands = rw pushed.0 (record {
  given = opening_given plan.elements f.element open'.element (shut_of f.cursor) open'.there open'.lock;
  stands = record {
    group = fewer_group plan.elements m'.rounds m.rounds m.group m'.group rest.group (omega (arith, rest.rounds)) stands.group;
    open_ = subst (λ fs. AreOpen plan.elements m'.rounds fs) (sym pushed.1) (subst (λ n. AreOpen plan.elements n (f ∷ m.stack.frames)) (sym rest.rounds) (open', stands.open_));
    apart = subst (AreApart plan.elements) (sym pushed.1) (apart, stands.apart);
    falls = subst DepthsFall (sym pushed.1) (deeper, stands.falls);
    failure = subst IsOut (sym rest.failure) stands.failure;
    signal = subst IsOut (sym rest.signal) stands.signal;
    links = rest.links ∙ stands.links;
  };
  normal = by_opening (λ w. IsNormalOn w m'.signal) (shut_of f.cursor) tt (λ lock is. tt);
  lock = rw pushed.1 (opening_lock (shut_of f.cursor) (open_lock m.stack.frames) apart.alone);
  rounds = by_opening (λ w. IsRoundless w m.rounds m'.rounds) (shut_of f.cursor) (omega (arith, rest.rounds)) (λ lock is. omega (arith, rest.rounds));
  index = by_opening (λ w. IsRoundIn w m'.group) (shut_of f.cursor) tt (λ lock is. tt);
})
pushed_turn plan m m' f (Err e) pushed rest open' apart deeper stands = tt

pub pushed_opens : (plan : Tree) (m m' : Position) (n round depth : ℕ) (c : Cursor) (e : Element) → slice_get plan.elements n ≡ Some e → FitsKind n (length (children_of plan.elements e)) e.kind c → (res : Result Went VarError)
    → Pushed m m' (record { element = n; round = round; depth = depth - 1; cursor = c }) res → IfOk res (λ w. IsOpened plan.elements depth m.stack.frames m'.stack.frames)
pushed_opens plan m m' n round depth c e there fits (Ok w) pushed =
    let p = few_in_pass n (length (children_of plan.elements e)) e.kind c fits in
    let r = few_runs plan.elements n e there in
    inr (record { element = n; round = round; depth = depth - 1; cursor = c }, pushed.1, refl, omega (arith, p, r))
pushed_opens plan m m' n round depth c e there fits (Err error) pushed = tt
