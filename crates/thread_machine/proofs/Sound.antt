-- What holds of every worker holds after a step.
use Rattle.std.proofs.Common.{◌≡◌, ℕ, ◌+◌, ◌≤◌, zero, suc, ◌<◌, Bool, true, false, List, [], ◌∷◌, ◌++◌, length, Option, Some, None, refl, sym, ap, ◌∙◌, subst, append_assoc, inl, inr, arith}
use Rattle.std.specs.Prelude.{All, IfSome}
use Rattle.std.proofs.lemmas.List.Elements.{All-push}
use Rattle.jm_base.specs.declared.types.End.{End}
use Rattle.jm_base.specs.declared.types.End.TheVariants.{Stopped, NoMemory}
use Rattle.jm_base.specs.declared.types.Sample.{Sample}
use Rattle.jm_base.specs.Run.{Run, Giver}
use Rattle.jm_base.specs.Outside.{Account}
use Rattle.element_tree.specs.Tree.{Tree}
use Rattle.element_tree.specs.Names.{labels_of}
use Rattle.control_machine.specs.Left.{IsLock}
use Rattle.thread_machine.specs.declared.trace.TraceItem.{TraceItem}
use Rattle.thread_machine.specs.declared.trace.TraceItem.TheVariants.{Paused as PausedItem, Sampled as SampledItem, Null as NullItem, Entered as EnteredItem, Left as LeftItem, Ended as EndedItem}
use Rattle.thread_machine.specs.declared.runner.Runner.{Runner}
use Rattle.thread_machine.specs.declared.step.Step.{Step}
use Rattle.thread_machine.specs.declared.step.Step.TheVariants.{Sampled, Null, Enter, Leave, Ended}
use Rattle.thread_machine.specs.Bare.{IsLabelled}
use Rattle.thread_machine.specs.SectionOrder.{SectionsFrom, left_traced, IsNoEnd}
use Rattle.thread_machine.specs.Standing.{Standing, rest}
use Rattle.thread_machine.specs.Stepped.{trace_paused, IsGiver, Begins, IsOver, Ends, Gives, Steps}
use Rattle.thread_machine.specs.Recorded.{Recorded}
use Rattle.thread_machine.specs.Inside.{standing_of, owed_count, held, IsOwedLabelled, IsLimit, MovesOn, GoesOn, HasSettled, IsSound}
use Rattle.thread_machine.specs.Ran.{is_end, IsCutAfter, GoesOnAfter}
use Rattle.thread_machine.proofs.Labels.{label_within}
use Rattle.thread_machine.proofs.SectionLaws.{sections-append, open-bare, left-ended}
use Rattle.thread_machine.proofs.Ends.{HasNoEnd, begun_on}

-- what a trace says of labels, of sections and of the end, while the thread goes on
pub record IsTraceOf (labels : ℕ) (items : List TraceItem) (section : Option ℕ) : Type 0 where
  pub labelled : All (IsLabelled labels) items
  pub sections : SectionsFrom None items section
  pub no_end : All IsNoEnd items

abbrev labels_in : Tree → ℕ
labels_in plan = length (labels_of plan.elements)

one_more : (labels : ℕ) (items : List TraceItem) (section after : Option ℕ) (item : TraceItem) → IsTraceOf labels items section → IsLabelled labels item → SectionsFrom section (item ∷ []) after → IsNoEnd item
    → IsTraceOf labels (items ++ item ∷ []) after
one_more labels items section after item t labelled sections no_end = record {
  labelled = All-push (IsLabelled labels) items item t.labelled labelled;
  sections = sections-append None section after items (item ∷ []) t.sections sections;
  no_end = All-push IsNoEnd items item t.no_end no_end;
}

paused_trace : (labels : ℕ) (items : List TraceItem) (section : Option ℕ) (ms : ℕ) → IsTraceOf labels items section → IsTraceOf labels (trace_paused items ms) section
paused_trace labels items section zero t = t
paused_trace labels items section (suc ms) t = one_more labels items section section (PausedItem (suc ms)) t (tt {0}) refl (tt {0})

-- what a going worker's trace says
pub trace_of : (w : Runner) → IsSound w false → IsTraceOf (labels_in w.plan.now) w.trace.items w.section
trace_of w sound = record { labelled = sound.labels; sections = sound.sections; no_end = sound.no_end refl }

kept_trace : (plan : Tree) (items : List TraceItem) (section : Option ℕ) (new : Runner) → new.plan.now ≡ plan → new.trace.items ≡ items → new.section ≡ section → IsTraceOf (labels_in plan) items section
    → IsTraceOf (labels_in new.plan.now) new.trace.items new.section
kept_trace plan items section new plan_is items_are section_is t = rw (plan_is, items_are, section_is) t

owed_within : (giver : Giver) (plan : Tree) (number label : ℕ) → IsGiver giver plan number label → label < length (labels_of plan.elements)
owed_within giver plan number label s = rw s.label_is (label_within plan.elements number s.element giver s.there s.kind_is)

-- ---- a thread that goes on, and one that has ended

owes_none : (labels : ℕ) (o : Option Sample) → o ≡ None → IsOwedLabelled labels o
owes_none labels o none = subst (IsOwedLabelled labels) (sym none) tt

sound_going : (new : Runner) → IsTraceOf (labels_in new.plan.now) new.trace.items new.section → GoesOn new → IsOwedLabelled (labels_in new.plan.now) new.owed → IsSound new false
sound_going new t on owed = record {
  going = λ h. on;
  settled = λ h. absurd (cc);
  labels = t.labelled;
  owed_label = owed;
  sections = t.sections;
  no_end = λ h. t.no_end;
}

-- that the open section was left, and the end
ended_labels : (labels : ℕ) (items : List TraceItem) (section : Option ℕ) (end : End) → All (IsLabelled labels) items → All (IsLabelled labels) (items ++ (left_traced section ++ EndedItem end ∷ []))
ended_labels labels items None end all = All-push (IsLabelled labels) items (EndedItem end) all (tt {0})
ended_labels labels items (Some lock) end all =
    subst (All (IsLabelled labels)) (append_assoc items (LeftItem lock ∷ []) (EndedItem end ∷ []))
    (All-push (IsLabelled labels) (items ++ LeftItem lock ∷ []) (EndedItem end) (All-push (IsLabelled labels) items (LeftItem lock) all (tt {0})) (tt {0}))

sound_ended : (plan : Tree) (items : List TraceItem) (section : Option ℕ) (end : End) (new : Runner) → IsTraceOf (labels_in plan) items section → new.plan.now ≡ plan
    → new.trace.items ≡ items ++ (left_traced section ++ EndedItem end ∷ []) → HasSettled new → IsSound new true
sound_ended plan items section end new t plan_is items_are settled = record {
  going = λ h. absurd (cc);
  settled = λ h. settled;
  labels = rw (plan_is, items_are) (ended_labels (labels_in plan) items section end t.labelled);
  owed_label = owes_none (labels_in new.plan.now) new.owed settled.owed;
  sections = rw (items_are, settled.section) (sections-append None section None items (left_traced section ++ EndedItem end ∷ []) t.sections (left-ended section end));
  no_end = λ h. absurd (cc);
}

-- a thread that was cut off at once: its open section was left, and it has ended
pub sound_off : (w : Runner) (t : Recorded) (end : End) → IsTraceOf (labels_in w.plan.now) w.trace.items w.section → w.owed ≡ None → w.entering ≡ None
    → t.items ≡ w.trace.items ++ (left_traced w.section ++ EndedItem end ∷ []) → IsSound (record w { section = None; trace = t }) true
sound_off w t end trace owed entering items =
    sound_ended w.plan.now w.trace.items w.section end (record w { section = None; trace = t }) trace refl items (record { owed = owed; entering = entering; section = refl })

-- ---- a step

module _ (a b : Account) (run : Run (Unit {0})) (s : Standing) (new : Runner) (none : s.owed ≡ None) (t : IsTraceOf (labels_in s.plan) s.trace s.section) where
  over_sound : (end : End) → IsOver a b run s (standing_of new true) end → HasSettled new → IsSound new true
  over_sound end over settled =
      let same : left_traced s.section ++ EndedItem end ∷ [] ≡ EndedItem end ∷ [] = ap (λ o. left_traced o ++ EndedItem end ∷ []) over.settled in
      sound_ended s.plan s.trace s.section end new t (ap (λ s. s.plan) over.new_is) (ap (λ s. s.trace) over.new_is ∙ ap (λ xs. s.trace ++ xs) (sym same)) settled

  by_end : (end : End) → Ends a b run s (standing_of new true) end → HasSettled new → IsSound new true
  by_end Stopped over settled = absurd over
  by_end NoMemory cut settled = sound_ended s.plan s.trace s.section NoMemory new t (ap (λ s. s.plan) cut.new_is) (ap (λ s. s.trace) cut.new_is) settled
  by_end end over settled = over_sound end over settled

  gives_sound : (step : Step) → Gives a b run s (standing_of new (is_end step)) step → GoesOnAfter new step → IsSound new (is_end step)
  gives_sound (Sampled entry) g on =
      sound_going new
      (kept_trace s.plan (trace_paused s.trace g.paused) s.section new (ap (λ s. s.plan) g.new_is) (ap (λ s. s.trace) g.new_is) (ap (λ s. s.section) g.new_is) (paused_trace (labels_in s.plan) s.trace s.section g.paused t))
      on (rw (ap (λ s. s.plan) g.new_is, ap (λ s. s.owed) g.new_is) (owed_within g.giver s.plan g.number g.sample.label g.given_by))
  gives_sound Null g on =
      sound_going new
      (kept_trace s.plan (trace_paused s.trace g.paused ++ NullItem g.number ∷ []) s.section new (ap (λ s. s.plan) g.new_is) (ap (λ s. s.trace) g.new_is) (ap (λ s. s.section) g.new_is)
      (one_more (labels_in s.plan) (trace_paused s.trace g.paused) s.section s.section (NullItem g.number) (paused_trace (labels_in s.plan) s.trace s.section g.paused t) (tt {0}) refl (tt {0})))
      on (owes_none (labels_in new.plan.now) new.owed (ap (λ s. s.owed) g.new_is ∙ none))
  gives_sound (Enter lock) g on =
      sound_going new (kept_trace s.plan s.trace s.section new (ap (λ s. s.plan) g.new_is) (ap (λ s. s.trace) g.new_is) (ap (λ s. s.section) g.new_is) t)
      on (owes_none (labels_in new.plan.now) new.owed (ap (λ s. s.owed) g.new_is ∙ none))
  gives_sound (Leave lock) g on =
      sound_going new
      (kept_trace s.plan (s.trace ++ LeftItem lock ∷ []) None new (ap (λ s. s.plan) g.new_is) (ap (λ s. s.trace) g.new_is) (ap (λ s. s.section) g.new_is)
      (one_more (labels_in s.plan) s.trace s.section None (LeftItem lock) t (tt {0}) (g.open_, refl) (tt {0})))
      on (owes_none (labels_in new.plan.now) new.owed (ap (λ s. s.owed) g.new_is ∙ none))
  gives_sound (Ended end) g on = by_end end g on

-- the pause in a trace
begun_trace : (a b : Account) (old new : Standing) → Begins a b old new → IsTraceOf (labels_in old.plan) old.trace old.section → IsTraceOf (labels_in new.plan) new.trace new.section
begun_trace a b old new h t = elim h [
  | inl p ↦ rw p.new_is (one_more (labels_in old.plan) old.trace old.section old.section (PausedItem old.pause) t (tt {0}) refl (tt {0}))
  | inr s ↦ rw s.standing t
]

-- a going worker's trace has no end, and its open section is the one that the trace has open
pub going_trace : (w : Runner) → IsSound w false → HasNoEnd (standing_of w false)
going_trace w sound = record { no_end = sound.no_end refl; held = open-bare None w.section w.trace.items sound.sections }

-- and so it is after the pause
pub begun_going : (a b : Account) (w : Runner) (old between : Standing) → IsSound w false → standing_of w false ≡ old → Begins a b old between → HasNoEnd between
begun_going a b w old between sound is begins =
    let t = begun_trace a b (standing_of w false) between (subst (λ o. Begins a b o between) (sym is) begins) (trace_of w sound) in
    record { no_end = t.no_end; held = open-bare None between.section between.trace t.sections }

pub sound_behind : (a b : Account) (w new : Runner) → IsSound w false → w.owed ≡ None → (step : Step) → Steps a b (standing_of w false) (standing_of new (is_end step)) step
    → GoesOnAfter new step → IsSound new (is_end step)
sound_behind a b w new sound none step s on =
    gives_sound s.begun b (rest s.between) s.between new ((begun_on a s.begun (standing_of w false) s.between s.begins).owed ∙ none)
    (begun_trace a s.begun (standing_of w false) s.between s.begins (trace_of w sound)) step s.gives on

-- a thread that was cut, out of memory
pub sound_cut : (a b : Account) (w new : Runner) (t : Recorded) → IsSound w false → w.owed ≡ None → w.entering ≡ None → IsCutAfter a b w new
    → t.items ≡ new.trace.items ++ (left_traced new.section ++ EndedItem NoMemory ∷ []) → IsSound (record new { section = None; trace = t }) true
sound_cut a b w new t sound none free cut items =
    let on = begun_on a cut.begun (standing_of w false) (standing_of cut.between false) cut.begins in
    sound_off new t NoMemory
    (kept_trace cut.between.plan.now cut.between.trace.items cut.between.section new cut.cut.same.plan cut.cut.items cut.cut.same.section
    (begun_trace a cut.begun (standing_of w false) (standing_of cut.between false) cut.begins (trace_of w sound)))
    (cut.cut.same.owed ∙ on.owed ∙ none) (cut.cut.same.entering ∙ on.entering ∙ free) items

-- ---- what was owed is in the trace

abbrev no_sample : Option Sample
no_sample = None

-- where a sample is owed no section is to be entered
enters_noted : (w : Runner) (sample : Sample) → w.owed ≡ Some sample → IfSome w.entering (λ lock. (w.begun ≡ true) × (w.last ≡ None) × (w.section ≡ None) × (w.owed ≡ None) × IsLock w.plan.now.elements lock)
    → IfSome w.entering (λ lock. (w.begun ≡ true) × (w.last ≡ None) × (w.section ≡ None) × (no_sample ≡ None) × IsLock w.plan.now.elements lock)
enters_noted w sample owed h = by_entering w.entering h where
  by_entering : (o : Option ℕ) → IfSome o (λ lock. (w.begun ≡ true) × (w.last ≡ None) × (w.section ≡ None) × (w.owed ≡ None) × IsLock w.plan.now.elements lock)
      → IfSome o (λ lock. (w.begun ≡ true) × (w.last ≡ None) × (w.section ≡ None) × (no_sample ≡ None) × IsLock w.plan.now.elements lock)
  by_entering None h = tt
  by_entering (Some lock) h = (h.0, h.1, h.2, refl, h.4)

-- a sample
pub sound_noted : (w : Runner) (t : Recorded) (sample : Sample) (interval : ℕ) → IsSound w false → w.owed ≡ Some sample → t.items ≡ w.trace.items ++ SampledItem sample interval ∷ [] → w.trace.room ≤ t.room + 1
    → IsSound (record w { owed = None; trace = t }) false
sound_noted w t sample interval sound owed items room =
    let on : GoesOn w = sound.going refl in
    let labelled : sample.label < labels_in w.plan.now = subst (IsOwedLabelled (labels_in w.plan.now)) owed sound.owed_label in
    sound_going (record w { owed = None; trace = t })
    (rw items (one_more (labels_in w.plan.now) w.trace.items w.section w.section (SampledItem sample interval) (trace_of w sound) labelled refl (tt {0})))
    (record {
      room = (let one = ap owed_count owed in let r = on.room in omega (arith, one, r, room));
      moves = λ h. (let m : MovesOn w = on.moves h in record { stands = m.stands; lock = m.lock; first = m.first; feeds = m.feeds; table = m.table });
      limit = on.limit;
      known = on.known;
      enters = enters_noted w sample owed on.enters;
    }) tt

begun_not : (begun : Bool) → begun ≡ true → begun ≡ false → ⊥
begun_not begun right wrong = let i : true ≡ false = sym right ∙ wrong in cc

-- that a section was entered
pub sound_entered : (w : Runner) (t : Recorded) (lock place : ℕ) → IsSound w false → w.entering ≡ Some lock → t.items ≡ w.trace.items ++ EnteredItem lock place ∷ [] → w.trace.room ≤ t.room + 1
    → IsSound (record w { entering = None; section = Some lock; trace = t }) false
sound_entered w t lock place sound entering items room =
    let on : GoesOn w = sound.going refl in
    let e : (w.begun ≡ true) × (w.last ≡ None) × (w.section ≡ None) × (w.owed ≡ None) × IsLock w.plan.now.elements lock =
    subst (λ o. IfSome o (λ lock. (w.begun ≡ true) × (w.last ≡ None) × (w.section ≡ None) × (w.owed ≡ None) × IsLock w.plan.now.elements lock)) entering on.enters in
    sound_going (record w { entering = None; section = Some lock; trace = t })
    (rw items (one_more (labels_in w.plan.now) w.trace.items w.section (Some lock) (EnteredItem lock place) (trace_of w sound) (tt {0}) (e.2, refl) (tt {0})))
    (record {
      room = (let one = ap owed_count entering in let r = on.room in omega (arith, one, r, room));
      moves = λ h. (let m : MovesOn w = on.moves h in record { stands = m.stands; lock = sym (ap (λ o. held o w.section) entering) ∙ m.lock; first = λ unbegun. absurd (begun_not w.begun e.0 unbegun); feeds = m.feeds; table = m.table });
      limit = subst (λ o. IfSome o (λ end. IsLimit end × (Some lock ≡ None))) (sym e.1) tt;
      known = e.4;
      enters = tt;
    }) sound.owed_label

-- a thread that still owes something has not ended
pub owing_goes : (w : Runner) (ended : Bool) (sample : Sample) → IsSound w ended → w.owed ≡ Some sample → ended ≡ false
owing_goes w true sample sound is = absurd (let i : Some sample ≡ None = sym is ∙ (sound.settled refl).owed in cc)
owing_goes w false sample sound is = refl

pub entering_goes : (w : Runner) (ended : Bool) (lock : ℕ) → IsSound w ended → w.entering ≡ Some lock → ended ≡ false
entering_goes w true lock sound is = absurd (let i : Some lock ≡ None = sym is ∙ (sound.settled refl).entering in cc)
entering_goes w false lock sound is = refl
