-- An element that is left: what its move is.
use Rattle.std.proofs.Common.{◌≡◌, ℕ, ◌<◌, Bool, true, false, List, ◌∷◌, length, Option, refl, subst, arith}
use Rattle.std.specs.Prelude.{◌&&◌, nat_lt, if◌then◌else◌}
use Rattle.element_tree.specs.declared.kinds.Element.{Element}
use Rattle.element_tree.specs.declared.kinds.Kind.{Kind}
use Rattle.element_tree.specs.declared.kinds.Kind.TheVariants as kinds
use Rattle.element_tree.specs.Tree.{Tree}
use Rattle.jm_meaning.specs.declared.signal.Signal.{Signal}
use Rattle.jm_meaning.specs.declared.transaction.Tally.{Tally}
use Rattle.jm_meaning.specs.Children.{children_of}
use Rattle.jm_meaning.specs.Transactions.{gives_sample}
use Rattle.open_elements.specs.declared.cursor.Cursor.{Cursor}
use Rattle.open_elements.specs.declared.cursor.Cursor.TheVariants.{Transaction}
use Rattle.open_elements.specs.Cursors.{Shut, Plain, Summing, Leaving, shut_of, lock_in, FitsKind}
use Rattle.open_elements.specs.Closing.{KeepsLock}
use Rattle.control_machine.specs.declared.stack.Frame.{Frame}
use Rattle.control_machine.specs.declared.position.Group.{Group}
use Rattle.control_machine.specs.declared.position.Position.{Position}
use Rattle.control_machine.specs.declared.position.Went.{Went}
use Rattle.control_machine.specs.declared.position.Went.TheVariants.{On, To}
use Rattle.control_machine.specs.declared.moves.Move.TheVariants.{LeaveSection, TransactionSample}
use Rattle.control_machine.specs.Left.{IsAlone, IsOpen, StandsIn, open_lock}
use Rattle.control_machine.specs.Turns.{IsWent, Lightens, IsNormalOn, IsRoundless, IsRoundIn, MovesLockOn, TakesTurn, closing_move, closing_of}

-- what holds of going on, of a transaction's sample and of a section that is left holds of an element that is left
by_closing : (P : Went → Type 0) (element : ℕ) (o : Shut) (gives : Bool) → P On → ((tally : Tally) → o ≡ Summing tally → P (To (TransactionSample element tally)))
    → ((lock : ℕ) → o ≡ Leaving lock → P (To (LeaveSection lock))) → P (closing_move element o gives)
by_closing P element Plain gives on sums leaves = on
by_closing P element (Summing tally) gives on sums leaves = by_test (gives && nat_lt 0 tally.samples) where
  by_test : (b : Bool) → P (if b then To (TransactionSample element tally) else On)
  by_test true = sums tally refl
  by_test false = on
by_closing P element (Leaving lock) gives on sums leaves = leaves lock refl

-- a transaction alone has counted samples
counts : (n count : ℕ) (k : Kind) (c : Cursor) (tally : Tally) → shut_of c ≡ Summing tally → FitsKind n count k c → k ≡ kinds.Transaction
counts n count k (Transaction c) tally is fits = fits.1
counts n count k c tally is fits = absurd (cc)

pub closed_given : (elements : List Element) (limit left : ℕ) (signal : Signal) (f : Frame) → IsOpen elements limit left f → IsWent elements (closing_of signal f)
closed_given elements limit left signal f o =
    by_closing (IsWent elements) f.element (shut_of f.cursor) (gives_sample signal) tt
    (λ tally is. record {
      element = o.element;
      there = o.there;
      kind = counts f.element (length (children_of elements o.element)) o.element.kind f.cursor tally is o.fits;
    })
    (λ lock is.
    let k : KeepsLock elements o.element.kind (Leaving lock) = subst (KeepsLock elements o.element.kind) is o.lock in
    record { number = f.element; element = o.element; there = o.there; name = k.0; kind = k.1; lock_is = k.2 })

pub closed_lightens : (signal : Signal) (f : Frame) (old new : ℕ) → new < old → Lightens (closing_of signal f) old new
closed_lightens signal f old new less =
    by_closing (λ w. Lightens w old new) f.element (shut_of f.cursor) (gives_sample signal) less (λ tally is. tt) (λ lock is. tt)

pub closed_normal : (signal : Signal) (f : Frame) (after : Signal) → IsNormalOn (closing_of signal f) after
closed_normal signal f after =
    by_closing (λ w. IsNormalOn w after) f.element (shut_of f.cursor) (gives_sample signal) tt (λ tally is. tt) (λ lock is. tt)

pub closed_rounds : (signal : Signal) (f : Frame) (rounds : ℕ) → IsRoundless (closing_of signal f) rounds rounds
closed_rounds signal f rounds =
    by_closing (λ w. IsRoundless w rounds rounds) f.element (shut_of f.cursor) (gives_sample signal) (omega arith) (λ tally is. omega arith) (λ lock is. omega arith)

pub closed_index : (signal : Signal) (f : Frame) (g : Group) → IsRoundIn (closing_of signal f) g
closed_index signal f g =
    by_closing (λ w. IsRoundIn w g) f.element (shut_of f.cursor) (gives_sample signal) tt (λ tally is. tt) (λ lock is. tt)

lock_after : (element : ℕ) (o : Shut) (gives : Bool) (outer : Option ℕ) → IsAlone o outer → MovesLockOn (closing_move element o gives) (lock_in o outer) outer
lock_after element Plain gives outer alone = refl
lock_after element (Summing tally) gives outer alone = by_test (gives && nat_lt 0 tally.samples) where
  by_test : (b : Bool) → MovesLockOn (if b then To (TransactionSample element tally) else On) outer outer
  by_test true = refl
  by_test false = refl
lock_after element (Leaving lock) gives outer alone = (refl, alone)

-- the section that is open, where the element is left inside this
pub closed_lock : (signal : Signal) (f : Frame) (outer : Option ℕ) → IsAlone (shut_of f.cursor) outer → MovesLockOn (closing_of signal f) (lock_in (shut_of f.cursor) outer) outer
closed_lock signal f outer alone = lock_after f.element (shut_of f.cursor) (gives_sample signal) outer alone

-- a machine out of whose open elements one was taken, after that is left
pub closed_turn : (plan : Tree) (limit : ℕ) (m : Position) (f : Frame) → IsOpen plan.elements limit m.rounds f → IsAlone (shut_of f.cursor) (open_lock m.stack.frames) → StandsIn plan m
    → TakesTurn plan m.rounds (open_lock (f ∷ m.stack.frames)) m (closing_of m.signal f)
closed_turn plan limit m f o alone stands = record {
  given = closed_given plan.elements limit m.rounds m.signal f o;
  stands = stands;
  normal = closed_normal m.signal f m.signal;
  lock = closed_lock m.signal f (open_lock m.stack.frames) alone;
  rounds = closed_rounds m.signal f m.rounds;
  index = closed_index m.signal f m.group;
}
