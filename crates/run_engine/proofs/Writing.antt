-- The writer of a worker that runs.
use Rattle.std.proofs.Common.{◌≡◌, ◌∙◌, ℕ, ◌+◌, ◌<◌, ◌≤◌, Bool, true, false, [], ◌∷◌, ◌++◌, length, refl, sym, ap, subst, arith, length-append}
use Rattle.jm_base.specs.declared.types.Entry.{Entry}
use Rattle.thread_machine.specs.Standing.{Standing}
use Rattle.phaser_core.specs.declared.view.WriterView.{WriterView}
use Rattle.phaser_core.specs.declared.view.Stage.TheVariants.{Out}
use Rattle.phaser_core.specs.Views.{at_stage}
use Rattle.phaser_core.specs.CoreMoves.{marked, or}
use Rattle.phaser_core.specs.Shares.{AllInRange}
use Rattle.phaser_core.specs.Invariant.{AllSmall}
use Rattle.recorder_core.specs.declared.places.Recorder.{Recorder}
use Rattle.recorder_core.specs.declared.places.WriterSeat.{WriterSeat}
use Rattle.recorder_core.specs.RecorderSeats.{writes, numbers_of, IsWriter}
use Rattle.phaser_core.specs.Keeps.{KeepsTo}
use Rattle.run_engine.specs.Marks.{SameWriter}
use Rattle.thread_machine.specs.Paired.{pairs}
use Rattle.run_engine.proofs.Bounding.{in_range_snoc, small_snoc}

-- it has recorded just the samples of the worker's trace, has room for as many as the worker may still make, and has not seen stop
pub record Writing (r : Recorder) (first : WriterView) (seat : WriterSeat) (w : Standing) : Type 0 where
  pub seat_of : IsWriter r seat
  pub listed : (writes seat).list ≡ pairs w.trace
  pub same : SameWriter first (writes seat)
  pub unseen : (writes seat).saw ≡ false
  pub room : length (writes seat).list + w.units ≤ (numbers_of r).budget
  pub in_range : AllInRange (numbers_of r).labels (writes seat).list
  pub small : AllSmall (writes seat).list

or_false : (b : Bool) → or b false ≡ b
or_false true = refl
or_false false = refl

or_true : (b : Bool) → or b true ≡ true
or_true true = refl
or_true false = refl

-- a look that does not find stop raised leaves the writer as it was
unmarked : (w v : WriterView) (found : Bool) → v ≡ marked w w.raised (or w.saw found) → found ≡ false → v ≡ w
unmarked w v found is none = is ∙ ap (λ saw. marked w w.raised saw) (ap (or w.saw) none ∙ or_false w.saw)

pub looked : (r : Recorder) (first : WriterView) (seat after : WriterSeat) (w : Standing) (found : Bool) → Writing r first seat w → IsWriter r after
    → writes after ≡ marked (writes seat) (writes seat).raised (or (writes seat).saw found) → found ≡ false → Writing r first after w
looked r first seat after w found h seat_of is none =
    let v : writes after ≡ writes seat = unmarked (writes seat) (writes after) found is none in
    record {
      seat_of = seat_of;
      listed = ap (λ u. u.list) v ∙ h.listed;
      same = subst (SameWriter first) (sym v) h.same;
      unseen = ap (λ u. u.saw) v ∙ h.unseen;
      room = subst (λ (u : WriterView). length u.list + w.units ≤ (numbers_of r).budget) (sym v) h.room;
      in_range = subst (λ (u : WriterView). AllInRange (numbers_of r).labels u.list) (sym v) h.in_range;
      small = subst (λ (u : WriterView). AllSmall u.list) (sym v) h.small;
    }

-- one that does marks it
pub same_marked : (first w v : WriterView) (found : Bool) → v ≡ marked w w.raised (or w.saw found) → SameWriter first w → SameWriter first v
same_marked first w v found is h = (ap (λ u. u.number) is ∙ h.0, ap (λ u. u.made) is ∙ h.1, ap (λ u. u.raised) is ∙ h.2)

pub seen : (w v : WriterView) (found : Bool) → v ≡ marked w w.raised (or w.saw found) → found ≡ true → v.saw ≡ true
seen w v found is some = ap (λ u. u.saw) is ∙ ap (or w.saw) some ∙ or_true w.saw

-- a step that gives no sample
pub writing_same : (r : Recorder) (first : WriterView) (seat : WriterSeat) (old new : Standing) → Writing r first seat old → pairs new.trace ≡ pairs old.trace → new.units ≤ old.units → Writing r first seat new
writing_same r first seat old new h same fewer = record {
  seat_of = h.seat_of;
  listed = h.listed ∙ sym same;
  same = h.same;
  unseen = h.unseen;
  room = (let room = h.room in omega (arith, room, fewer));
  in_range = h.in_range;
  small = h.small;
}

-- a sample that is recorded and noted
pub writing_more : (r : Recorder) (first : WriterView) (seat after : WriterSeat) (old new : Standing) (k : ℕ) (entry : Entry) → Writing r first seat old → IsWriter r after
    → writes after ≡ at_stage (writes seat) Out ((writes seat).list ++ (k, entry) ∷ []) → pairs new.trace ≡ pairs old.trace ++ (k, entry) ∷ [] → new.units + 1 ≡ old.units
    → entry.label < (numbers_of r).labels → entry.elapsed < 4294967296 → entry.bytes < 4294967296 → Writing r first after new
writing_more r first seat after old new k entry h seat_of is grown used label elapsed bytes =
    let list : (writes after).list ≡ (writes seat).list ++ (k, entry) ∷ [] = ap (λ w. w.list) is in
    let more : length (writes after).list ≡ length (writes seat).list + 1 = ap length list ∙ length-append (writes seat).list ((k, entry) ∷ []) in
    record {
      seat_of = seat_of;
      listed = list ∙ ap (λ l. l ++ (k, entry) ∷ []) h.listed ∙ sym grown;
      same = (ap (λ w. w.number) is ∙ h.same.0, ap (λ w. w.made) is ∙ h.same.1, ap (λ w. w.raised) is ∙ h.same.2);
      unseen = ap (λ w. w.saw) is ∙ h.unseen;
      room = (let room = h.room in omega (arith, room, more, used));
      in_range = subst (AllInRange (numbers_of r).labels) (sym list) (in_range_snoc (numbers_of r).labels (writes seat).list (k, entry) h.in_range label);
      small = subst AllSmall (sym list) (small_snoc (writes seat).list (k, entry) h.small elapsed bytes);
    }

-- before the first step
pub writing_first : (r : Recorder) (seat : WriterSeat) (w : Standing) → IsWriter r seat → (writes seat).list ≡ [] → (writes seat).list ≡ pairs w.trace → (writes seat).saw ≡ false → w.units ≤ (numbers_of r).budget
    → Writing r (writes seat) seat w
writing_first r seat w seat_of none listed unseen budget = record {
  seat_of = seat_of;
  listed = listed;
  same = (refl, refl, refl);
  unseen = unseen;
  room = (let zero : length (writes seat).list ≡ 0 = ap length none in omega (arith, zero, budget));
  in_range = subst (AllInRange (numbers_of r).labels) (sym none) tt;
  small = subst AllSmall (sym none) tt;
}

-- no more than it had room for
pub keeps_to : (r : Recorder) (first : WriterView) (seat : WriterSeat) (w : Standing) → Writing r first seat w → KeepsTo (numbers_of r).labels (numbers_of r).budget (writes seat).list
keeps_to r first seat w h = record { few = (let room = h.room in omega (arith, room)); in_range = h.in_range; small = h.small }
