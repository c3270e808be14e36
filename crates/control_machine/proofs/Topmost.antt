-- The innermost open element, which answers in its place.
use Rattle.std.proofs.Common.{◌≡◌, ℕ, ◌-◌, ◌≤◌, List, [], ◌∷◌, ◌++◌, length, get_or, set, Some, sym, ap, ◌∙◌, subst, arith}
use Rattle.std.specs.Prelude.{slice_get, reverse}
use Rattle.std.proofs.lemmas.List.{reverse-append, reverse-reverse, length-append, get_or_at, set_at}
use Rattle.element_tree.specs.declared.kinds.Element.{Element}
use Rattle.element_tree.specs.declared.package.Turn.{Turn}
use Rattle.element_tree.specs.declared.package.Turn.TheVariants.{Child}
use Rattle.element_tree.specs.Tree.{Tree}
use Rattle.cursor_steps.specs.RunningChildren.{begun_after}
use Rattle.jm_meaning.specs.Children.{children_of}
use Rattle.jm_meaning.specs.Beginning.{max_rounds}
use Rattle.open_elements.specs.declared.cursor.Cursor.{Cursor}
use Rattle.open_elements.specs.Cursors.{shut_of, begun_of, FitsKind}
use Rattle.open_elements.specs.Answers.{StandsAt}
use Rattle.control_machine.specs.Opened.{Opened}
use Rattle.control_machine.specs.declared.stack.Frame.{Frame}
use Rattle.control_machine.specs.declared.position.Position.{Position}
use Rattle.control_machine.specs.Left.{StandsIn, IsOpen}
use Rattle.control_machine.specs.Answers.{HasAnswered}
use Rattle.control_machine.proofs.Standing.{answered_open, apart_on}

-- an open element whose cursor has moved on
abbrev pub moved_on : Frame → Cursor → Frame
moved_on f c = record { element = f.element; round = f.round; depth = f.depth; cursor = c }

-- the innermost of two lists that are one
pub top_is : (f g : Frame) (fs gs : List Frame) → f ∷ fs ≡ g ∷ gs → f ≡ g
top_is f g fs gs same = cc

pub stands_at : {plan : Tree} (left : ℕ) (f : Frame) → IsOpen plan.elements max_rounds left f → StandsAt plan f.element f.cursor
stands_at {plan} left f o = record { element = o.element; there = o.there; fits = o.fits; begun = omega (arith, o.bound) }

module _ (plan : Tree) (m : Position) (new : Opened) (f : Frame) (rest : List Frame) (c : Cursor) (turn : Turn) (top : m.stack.frames ≡ f ∷ rest) (stands : StandsIn plan m) where
  -- the machine in which the innermost open element has answered
  pub has_answered : new.frames ≡ moved_on f c ∷ rest → begun_of c ≤ begun_after (begun_of f.cursor) turn → shut_of c ≡ shut_of f.cursor
      → ((e : Element) (n : ℕ) → slice_get plan.elements n ≡ Some e → FitsKind n (length (children_of plan.elements e)) e.kind f.cursor → FitsKind n (length (children_of plan.elements e)) e.kind c)
      → HasAnswered plan (record m { stack = new }) turn (moved_on f c) rest
  has_answered stays begun shut fits =
      let open_ = rw top at stands.open_ in
      let apart = rw top at stands.apart in
      let falls = rw top at stands.falls in
      record {
        top = stays;
        stands = record { group = stands.group; open_ = open_.1; apart = apart.1; falls = falls.1; failure = stands.failure; signal = stands.signal; links = stands.links };
        open_ = answered_open plan.elements m.rounds f c turn open_.0 (fits open_.0.element f.element open_.0.there open_.0.fits) begun shut;
        apart = apart_on plan.elements rest f c shut apart.0;
        falls = falls.0;
      }

-- the machine, where a child comes next
pub stands_on : {plan : Tree} {m : Position} {turn : Turn} {f : Frame} {rest : List Frame} (place : ℕ) → turn ≡ Child place → HasAnswered plan m turn f rest → StandsIn plan m
stands_on place is h = record {
  group = h.stands.group;
  open_ = rw h.top (rw is at h.open_, h.stands.open_);
  apart = rw h.top (h.apart, h.stands.apart);
  falls = rw h.top (h.falls, h.stands.falls);
  failure = h.stands.failure;
  signal = h.stands.signal;
  links = h.stands.links;
}

rest_is : (f g : Frame) (fs gs : List Frame) → f ∷ fs ≡ g ∷ gs → fs ≡ gs
rest_is f g fs gs same = cc

-- what was said of one is said of it by another name
pub answered_by : {plan : Tree} {m : Position} {turn : Turn} {f : Frame} {rest : List Frame} (g : Frame) (gs : List Frame) → m.stack.frames ≡ g ∷ gs → HasAnswered plan m turn f rest → HasAnswered plan m turn g gs
answered_by {plan} {m} {turn} {f} {rest} g gs top h =
    subst (λ x. HasAnswered plan m turn x gs) (top_is f g rest gs (sym h.top ∙ top)) (subst (HasAnswered plan m turn f) (rest_is f g rest gs (sym h.top ∙ top)) h)

-- ---- where it stands among the items

module _ (items : List Frame) (f : Frame) (rest : List Frame) (n : ℕ) (is : reverse items ≡ f ∷ rest) (long : n ≡ length items) where
  backwards : items ≡ reverse rest ++ f ∷ []
  backwards = sym (reverse-reverse items) ∙ ap reverse is ∙ reverse-append (f ∷ []) rest

  at_end : length (reverse rest) ≡ n - 1
  at_end = let l = ap length backwards in let a = length-append (reverse rest) (f ∷ []) in omega (arith, long, l, a)

  -- it is the last of them
  pub last_is : (d : Frame) → get_or items (n - 1) d ≡ f
  last_is d = ap (λ xs. get_or xs (n - 1) d) backwards ∙ get_or_at (reverse rest) f [] d (n - 1) at_end

  -- another one in its place
  pub over_last : (w : Frame) → reverse (set items (n - 1) w) ≡ w ∷ rest
  over_last w =
      ap (λ xs. reverse (set xs (n - 1) w)) backwards
      ∙ ap reverse (set_at (reverse rest) f [] w (n - 1) at_end)
      ∙ reverse-append (reverse rest) (w ∷ [])
      ∙ ap (λ xs. w ∷ xs) (reverse-reverse rest)
