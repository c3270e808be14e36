-- What a step of a worker leaves of its samples and of its outside.
use Rattle.std.proofs.Common.{◌≡◌, ◌∙◌, ℕ, ◌+◌, ◌-◌, ◌<◌, ◌≤◌, false, true, List, [], ◌∷◌, ◌++◌, length, None, Some, refl, sym, ap, subst, inl, inr, arith, append_assoc}
use Rattle.std.specs.Option.{option_map}
use Rattle.jm_base.specs.declared.types.Entry.{Entry}
use Rattle.jm_base.specs.declared.types.End.{End}
use Rattle.jm_base.specs.declared.types.End.TheVariants.{Stopped, NoMemory}
use Rattle.jm_base.specs.Run.{Run, Event}
use Rattle.jm_base.specs.Outside.{Account, Goes}
use Rattle.element_tree.specs.Tree.{Tree}
use Rattle.element_tree.specs.Names.{labels_of}
use Rattle.thread_machine.specs.declared.step.Step.{Step}
use Rattle.thread_machine.specs.declared.step.Step.TheVariants.{Sampled, Null, Enter, Leave, Ended}
use Rattle.thread_machine.specs.declared.trace.TraceItem.TheVariants.{Sampled as SampledItem, Entered as EnteredItem, Ended as EndedItem}
use Rattle.thread_machine.specs.SectionOrder.{left_traced}
use Rattle.thread_machine.specs.Standing.{Standing, rest}
use Rattle.thread_machine.specs.Stepped.{Begins, Gives, Steps, Ends, IsOver}
use Rattle.thread_machine.proofs.Appended.{after_end, no_more}
use Rattle.thread_machine.proofs.Pairs.{pairs_snoc, pairs_step, same_pairs}
use Rattle.thread_machine.proofs.Ends.{begun_on}
use Rattle.thread_machine.proofs.Labels.{label_within}
use Rattle.run_engine.specs.Followed.{EndsWith}
use Rattle.run_engine.specs.Marks.{is_stopped}
use Rattle.thread_machine.specs.Paired.{pairs_in, pairs}
use Rattle.run_engine.specs.JobsRan.{SameOutside}

-- ---- the outside

pub same_outside : (a : Account) → SameOutside a a
same_outside a = record { origin = refl; tells = λ heard is. (heard, is) }

pub same_then : (a b c : Account) → SameOutside a b → SameOutside b c → SameOutside a c
same_then a b c h k = record { origin = k.origin ∙ h.origin; tells = λ heard is. k.tells (h.tells heard is).0 (h.tells heard is).1 }

same_goes : {A : Type 0} (a b : Account) (run left : Run A) (events : List Event) → Goes a run events left b → SameOutside a b
same_goes a b run left events g = record { origin = g.hears.origin; tells = λ heard is. (heard ++ g.heard, g.hears.told ∙ ap (option_map (λ t. t ++ g.heard)) is) }

same_begins : (a b : Account) (old new : Standing) → Begins a b old new → SameOutside a b
same_begins a b old new h = elim h [
  | inl p ↦ same_goes a b _ _ _ p.goes
  | inr s ↦ subst (SameOutside a) (sym s.account) (same_outside a)
]

module _ (a b : Account) (run : Run (Unit {0})) (old new : Standing) where
  same_ends : (end : End) → Ends a b run old new end → SameOutside a b
  same_ends Stopped o = absurd o
  same_ends end o = same_goes a b _ _ _ o.goes

  same_gives : (step : Step) → Gives a b run old new step → SameOutside a b
  same_gives (Sampled entry) g = same_goes a b _ _ _ g.goes
  same_gives Null g = same_goes a b _ _ _ g.goes
  same_gives (Enter lock) g = same_goes a b _ _ _ g.heard
  same_gives (Leave lock) g = same_goes a b _ _ _ g.heard
  same_gives (Ended end) g = same_ends end g

pub same_steps : (a b : Account) (old new : Standing) (step : Step) → Steps a b old new step → SameOutside a b
same_steps a b old new step s = same_then a s.begun b (same_begins a s.begun old s.between s.begins) (same_gives s.begun b (rest s.between) s.between new step s.gives)

-- ---- the samples

module _ (a b : Account) (run : Run (Unit {0})) (old new : Standing) where
  over_traced : (end : End) → IsOver a b run old new end → EndsWith new.trace end
  over_traced end o = record { before = old.trace; last = ap (λ s. s.trace) o.new_is }

  ends_traced : (end : End) → Ends a b run old new end → EndsWith new.trace end
  ends_traced Stopped o = absurd o
  ends_traced NoMemory o = record { before = old.trace ++ left_traced old.section; last = ap (λ s. s.trace) o.new_is ∙ sym (append_assoc old.trace (left_traced old.section) (EndedItem NoMemory ∷ [])) }
  ends_traced end o = over_traced end o

module _ (a b : Account) (old new : Standing) where
  -- the trace has its end
  pub ends_with : (end : End) → Steps a b old new (Ended end) → EndsWith new.trace end
  ends_with end s = ends_traced s.begun b (rest s.between) s.between new end s.gives

  -- no step is that of a thread that is stopped
  pub not_stopped : (end : End) → Steps a b old new (Ended end) → is_stopped end ≡ false
  not_stopped Stopped s = absurd s.gives
  not_stopped end s = refl

  -- a section that was entered
  pub pairs_entered : (lock place : ℕ) (s : Steps a b old new (Enter lock)) (last : Standing) → last ≡ record new { entering = None; section = Some lock; trace = new.trace ++ EnteredItem lock place ∷ [] } → pairs last.trace ≡ pairs old.trace
  pairs_entered lock place s last is = ap (λ w. pairs w.trace) is ∙ no_more pairs pairs_in pairs_snoc new.trace (EnteredItem lock place) refl ∙ pairs_step a b old new (Enter lock) s

  -- a sample that is noted is one pair more
  pub pairs_noted : (entry : Entry) (s : Steps a b old new (Sampled entry)) (noted : Standing) (k : ℕ)
      → noted ≡ record new { owed = None; trace = new.trace ++ SampledItem s.gives.sample k ∷ [] } → pairs noted.trace ≡ pairs old.trace ++ (k, entry) ∷ []
  pairs_noted entry s noted k is =
      ap (λ w. pairs w.trace) is ∙ pairs_snoc new.trace (SampledItem s.gives.sample k)
      ∙ ap (λ e. pairs new.trace ++ (k, e) ∷ []) (sym s.gives.entry_is)
      ∙ ap (λ l. l ++ (k, entry) ∷ []) (pairs_step a b old new (Sampled entry) s)

  -- its label is one of the plan's
  pub label_low : (entry : Entry) → Steps a b old new (Sampled entry) → entry.label < length (labels_of old.plan.elements)
  label_low entry s =
      let by = s.gives.given_by in
      let low = label_within s.between.plan.elements s.gives.number by.element s.gives.giver by.there by.kind_is in
      let is = ap (λ (e : Entry). e.label) s.gives.entry_is ∙ by.label_is in
      let here : entry.label < length (labels_of s.between.plan.elements) = rw is low in
      subst (λ (p : Tree). entry.label < length (labels_of p.elements)) (begun_on a s.begun old s.between s.begins).plan here

  -- it has used a unit
  pub units_left : (entry : Entry) → Steps a b old new (Sampled entry) → new.units + 1 ≡ old.units
  units_left entry s =
      let begun : s.between.units ≡ old.units = (begun_on a s.begun old s.between s.begins).units in
      let used : new.units ≡ s.between.units - 1 = ap (λ w. w.units) s.gives.new_is in
      let some = s.gives.unit in omega arith

  pub units_null : Steps a b old new Null → new.units ≤ old.units
  units_null s =
      let begun : s.between.units ≡ old.units = (begun_on a s.begun old s.between s.begins).units in
      let used : new.units ≡ s.between.units - 1 = ap (λ w. w.units) s.gives.new_is in
      let some = s.gives.unit in omega arith

-- a section uses a unit
pub units_entered : (a b : Account) (old new : Standing) (lock : ℕ) → Steps a b old new (Enter lock) → new.units ≤ old.units
units_entered a b old new lock s =
    let begun : s.between.units ≡ old.units = (begun_on a s.begun old s.between s.begins).units in
    let used : new.units ≡ s.between.units - 1 = ap (λ w. w.units) s.gives.new_is in omega arith

pub units_leave : (a b : Account) (old new : Standing) (lock : ℕ) → Steps a b old new (Leave lock) → new.units ≤ old.units
units_leave a b old new lock s =
    let begun : s.between.units ≡ old.units = (begun_on a s.begun old s.between s.begins).units in
    let fewer = s.gives.fewer in omega arith

pub label_fits : (plan first : Tree) (label labels : ℕ) → plan ≡ first → label < length (labels_of plan.elements) → length (labels_of first.elements) ≤ labels → label < labels
label_fits plan first label labels is low few =
    let here : label < length (labels_of first.elements) = subst (λ (p : Tree). label < length (labels_of p.elements)) is low in omega arith

-- ---- a worker that was stopped

abbrev pub stopped_as : Standing → Standing
stopped_as w = record w { section = None; ended = true; trace = w.trace ++ (left_traced w.section ++ EndedItem Stopped ∷ []) }

module _ (old new : Standing) (is : new ≡ stopped_as old) where
  pub pairs_stopped : pairs new.trace ≡ pairs old.trace
  pairs_stopped = ap (λ w. pairs w.trace) is ∙ after_end same_pairs old.trace old.section Stopped

  pub ends_stopped : EndsWith new.trace Stopped
  ends_stopped = record { before = old.trace ++ left_traced old.section; last = ap (λ w. w.trace) is ∙ sym (append_assoc old.trace (left_traced old.section) (EndedItem Stopped ∷ [])) }
