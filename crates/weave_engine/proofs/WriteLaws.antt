-- What steps, stops and records of a thread leave of its writer.
use Rattle.std.proofs.Common.{◌≡◌, ℕ, ◌+◌, ◌-◌, ◌<◌, ◌≤◌, true, false, [], ◌∷◌, ◌++◌, None, Some, length, append-nil, refl, sym, ap, ◌∙◌, subst, arith}
use Rattle.std.specs.Prelude.{IfSome, Result, Ok, Err, OnOk}
use Rattle.std.proofs.lemmas.List.{length-append}
use Rattle.jm_base.specs.declared.types.End.{End}
use Rattle.jm_base.specs.declared.types.End.TheVariants.{Completed, StopThread, StopTest, Stopped, SampleLimit, RoundLimit, ValueLimit, NoMemory}
use Rattle.jm_base.specs.declared.types.Entry.{Entry}
use Rattle.jm_base.specs.Run.{Giver}
use Rattle.jm_base.specs.Outside.{Account}
use Rattle.element_tree.specs.Tree.{Tree}
use Rattle.element_tree.specs.Names.{labels_of}
use Rattle.phaser_core.specs.declared.view.Numbers.{Numbers}
use Rattle.phaser_core.specs.declared.view.Stage.{Stage}
use Rattle.phaser_core.specs.declared.view.Stage.TheVariants.{Out}
use Rattle.thread_machine.specs.declared.trace.TraceItem.TheVariants.{Sampled as SampledItem, Entered as EnteredItem, Ended as EndedItem}
use Rattle.thread_machine.specs.declared.step.Step.TheVariants.{Sampled as SampledStep, Null as NullStep, Enter as EnterStep, Leave as LeaveStep, Ended as EndedStep}
use Rattle.thread_machine.specs.SectionOrder.{left_traced}
use Rattle.thread_machine.specs.Stepped.{IsGiver, Steps}
use Rattle.thread_machine.proofs.Appended.{after_end, no_more}
use Rattle.thread_machine.proofs.Pairs.{pairs_snoc, pairs_step, same_pairs}
use Rattle.thread_machine.proofs.Ends.{begun_on, thread_same}
use Rattle.thread_machine.proofs.Labels.{label_within}
use Rattle.weave_engine.specs.declared.seat.Owed.TheVariants as by
use Rattle.weave_engine.specs.declared.seat.Seat.{Seat}
use Rattle.weave_engine.specs.Steps.{Thread}
use Rattle.weave_engine.specs.Seats.{SeatIs, HasRoom, StageOf, LabelIn, pending_of, units_in, owed_after, StepsOut, RecordsOn}
use Rattle.thread_machine.specs.Paired.{pairs_in, pairs}
use Rattle.weave_engine.proofs.SeatLaws.{record_of, worker_entered}

label_in : (giver : Giver) (plan : Tree) (number label : ℕ) → IsGiver giver plan number label → label < length (labels_of plan.elements)
label_in giver plan number label s = subst (λ k. k < length (labels_of plan.elements)) (sym s.label_is) (label_within plan.elements number s.element giver s.there s.kind_is)

-- room is kept where the plan is, and what is used is no more
room_kept : (n : Numbers) (old new : Seat) → HasRoom n old → new.worker.plan ≡ old.worker.plan
    → length (pairs new.worker.trace) + pending_of new.owed + units_in new.ended new.worker.units ≤ length (pairs old.worker.trace) + pending_of old.owed + units_in old.ended old.worker.units
    → LabelIn (length (labels_of new.worker.plan.elements)) new.owed → HasRoom n new
room_kept n old new h plan less label =
    let labels : n.labels ≡ length (labels_of new.worker.plan.elements) = h.labels ∙ ap (λ p. length (labels_of p.elements)) (sym plan) in
    let was = h.room in
    record {
      room = omega (arith, was, less);
      labels = labels;
      label = subst (λ l. LabelIn l new.owed) (sym labels) label;
    }

end_owes : (end : End) (labels : ℕ) → LabelIn labels (owed_after end)
end_owes Completed labels = tt
end_owes StopThread labels = tt
end_owes StopTest labels = tt
end_owes Stopped labels = tt
end_owes SampleLimit labels = tt
end_owes RoundLimit labels = tt
end_owes ValueLimit labels = tt
end_owes NoMemory labels = tt

end_pends : (end : End) → pending_of (owed_after end) ≡ 0
end_pends Completed = refl
end_pends StopThread = refl
end_pends StopTest = refl
end_pends Stopped = refl
end_pends SampleLimit = refl
end_pends RoundLimit = refl
end_pends ValueLimit = refl
end_pends NoMemory = refl

end_out : (end : End) (stage : Stage) → stage ≡ Out → StageOf (owed_after end) stage
end_out Completed stage h = h
end_out StopThread stage h = h
end_out StopTest stage h = h
end_out Stopped stage h = h
end_out SampleLimit stage h = h
end_out RoundLimit stage h = h
end_out ValueLimit stage h = h
end_out NoMemory stage h = h

module _ (seat new : Seat) (going : seat.ended ≡ false) (free : seat.owed ≡ by.Nothing) where
  left_before : units_in seat.ended seat.worker.units ≡ seat.worker.units
  left_before = ap (λ b. units_in b seat.worker.units) going

  pends : pending_of seat.owed ≡ 0
  pends = ap pending_of free

  pub sample_out : (a b : Account) (entry : Entry) → Steps a b seat.worker new.worker (SampledStep entry) → new.ended ≡ seat.ended → new.owed ≡ by.Record entry 0 0 → StepsOut seat new
  sample_out a b entry s ended owed =
      let before = left_before in
      let after : units_in new.ended new.worker.units ≡ new.worker.units = ap (λ b. units_in b new.worker.units) (ended ∙ going) in
      let on = begun_on a s.begun seat.worker s.between s.begins in
      let plan : new.worker.plan ≡ seat.worker.plan = (thread_same a b seat.worker new.worker (SampledStep entry) s).plan in
      let list : pairs new.worker.trace ≡ pairs seat.worker.trace = pairs_step a b seat.worker new.worker (SampledStep entry) s in
      let lists : length (pairs new.worker.trace) ≡ length (pairs seat.worker.trace) = ap length list in
      let units : new.worker.units ≡ s.between.units - 1 = ap (λ w. w.units) s.gives.new_is in
      let begun : s.between.units ≡ seat.worker.units = on.units in
      let used = s.gives.unit in
      let was = pends in
      let now : pending_of new.owed ≡ 1 = ap pending_of owed in
      let inside : s.gives.sample.label < length (labels_of s.between.plan.elements) = label_in s.gives.giver s.between.plan s.gives.number s.gives.sample.label s.gives.given_by in
      let within : entry.label < length (labels_of new.worker.plan.elements) =
      subst (λ (p : Tree). entry.label < length (labels_of p.elements)) (sym (ap (λ w. w.plan) s.gives.new_is))
      (subst (λ (e : Entry). e.label < length (labels_of s.between.plan.elements)) (sym s.gives.entry_is) inside) in
      record {
        room = λ n h. room_kept n seat new h plan (omega (arith, lists, units, begun, used, was, now, before, after)) (subst (LabelIn (length (labels_of new.worker.plan.elements))) (sym owed) within);
        out = λ stage h. subst (λ o. StageOf o stage) (sym owed) h;
        list = list;
      }

  pub null_out : (a b : Account) → Steps a b seat.worker new.worker NullStep → new.ended ≡ seat.ended → new.owed ≡ seat.owed → StepsOut seat new
  null_out a b s ended owed =
      let before = left_before in
      let after : units_in new.ended new.worker.units ≡ new.worker.units = ap (λ b. units_in b new.worker.units) (ended ∙ going) in
      let on = begun_on a s.begun seat.worker s.between s.begins in
      let plan : new.worker.plan ≡ seat.worker.plan = (thread_same a b seat.worker new.worker NullStep s).plan in
      let list : pairs new.worker.trace ≡ pairs seat.worker.trace = pairs_step a b seat.worker new.worker NullStep s in
      let lists : length (pairs new.worker.trace) ≡ length (pairs seat.worker.trace) = ap length list in
      let units : new.worker.units ≡ s.between.units - 1 = ap (λ w. w.units) s.gives.new_is in
      let begun : s.between.units ≡ seat.worker.units = on.units in
      let now : pending_of new.owed ≡ pending_of seat.owed = ap pending_of owed in
      record {
        room = λ n h. room_kept n seat new h plan (omega (arith, lists, units, begun, now, before, after)) (subst (LabelIn (length (labels_of new.worker.plan.elements))) (sym (owed ∙ free)) tt);
        out = λ stage h. subst (λ o. StageOf o stage) (sym (owed ∙ free)) h;
        list = list;
      }

  pub enter_out : (a b : Account) (lock : ℕ) → Steps a b seat.worker new.worker (EnterStep lock) → new.ended ≡ seat.ended → new.owed ≡ by.Enter lock → StepsOut seat new
  enter_out a b lock s ended owed =
      let before = left_before in
      let after : units_in new.ended new.worker.units ≡ new.worker.units = ap (λ b. units_in b new.worker.units) (ended ∙ going) in
      let on = begun_on a s.begun seat.worker s.between s.begins in
      let plan : new.worker.plan ≡ seat.worker.plan = (thread_same a b seat.worker new.worker (EnterStep lock) s).plan in
      let list : pairs new.worker.trace ≡ pairs seat.worker.trace = pairs_step a b seat.worker new.worker (EnterStep lock) s in
      let lists : length (pairs new.worker.trace) ≡ length (pairs seat.worker.trace) = ap length list in
      let units : new.worker.units ≡ s.between.units - 1 = ap (λ w. w.units) s.gives.new_is in
      let begun : s.between.units ≡ seat.worker.units = on.units in
      let was = pends in
      let now : pending_of new.owed ≡ 0 = ap pending_of owed in
      record {
        room = λ n h. room_kept n seat new h plan (omega (arith, lists, units, begun, was, now, before, after)) (subst (LabelIn (length (labels_of new.worker.plan.elements))) (sym owed) tt);
        out = λ stage h. subst (λ o. StageOf o stage) (sym owed) h;
        list = list;
      }

  pub leave_out : (a b : Account) (lock : ℕ) → Steps a b seat.worker new.worker (LeaveStep lock) → new.ended ≡ seat.ended → new.owed ≡ seat.owed → StepsOut seat new
  leave_out a b lock s ended owed =
      let before = left_before in
      let after : units_in new.ended new.worker.units ≡ new.worker.units = ap (λ b. units_in b new.worker.units) (ended ∙ going) in
      let on = begun_on a s.begun seat.worker s.between s.begins in
      let plan : new.worker.plan ≡ seat.worker.plan = (thread_same a b seat.worker new.worker (LeaveStep lock) s).plan in
      let list : pairs new.worker.trace ≡ pairs seat.worker.trace = pairs_step a b seat.worker new.worker (LeaveStep lock) s in
      let lists : length (pairs new.worker.trace) ≡ length (pairs seat.worker.trace) = ap length list in
      let units : new.worker.units ≤ s.between.units = s.gives.fewer in
      let begun : s.between.units ≡ seat.worker.units = on.units in
      let now : pending_of new.owed ≡ pending_of seat.owed = ap pending_of owed in
      record {
        room = λ n h. room_kept n seat new h plan (omega (arith, lists, units, begun, now, before, after)) (subst (LabelIn (length (labels_of new.worker.plan.elements))) (sym (owed ∙ free)) tt);
        out = λ stage h. subst (λ o. StageOf o stage) (sym (owed ∙ free)) h;
        list = list;
      }

  pub stop_out : new.worker ≡ record seat.worker { section = None; ended = true; trace = seat.worker.trace ++ (left_traced seat.worker.section ++ EndedItem Stopped ∷ []) } → new.ended ≡ true → new.owed ≡ by.Nothing → StepsOut seat new
  stop_out worker ended owed =
      let after : units_in new.ended new.worker.units ≡ 0 = ap (λ b. units_in b new.worker.units) ended in
      let list : pairs new.worker.trace ≡ pairs seat.worker.trace = ap (λ w. pairs w.trace) worker ∙ after_end same_pairs seat.worker.trace seat.worker.section Stopped in
      let lists : length (pairs new.worker.trace) ≡ length (pairs seat.worker.trace) = ap length list in
      let now : pending_of new.owed ≡ 0 = ap pending_of owed in
      record {
        room = λ n h. room_kept n seat new h (ap (λ w. w.plan) worker) (omega (arith, lists, now, after)) (subst (LabelIn (length (labels_of new.worker.plan.elements))) (sym owed) tt);
        out = λ stage h. subst (λ o. StageOf o stage) (sym owed) h;
        list = list;
      }

  end_out_by : (a b : Account) (end : End) → Steps a b seat.worker new.worker (EndedStep end) → new.ended ≡ true → new.owed ≡ owed_after end → StepsOut seat new
  end_out_by a b end s ended owed =
      let plan : new.worker.plan ≡ seat.worker.plan = (thread_same a b seat.worker new.worker (EndedStep end) s).plan in
      let list : pairs new.worker.trace ≡ pairs seat.worker.trace = pairs_step a b seat.worker new.worker (EndedStep end) s in
      let lists : length (pairs new.worker.trace) ≡ length (pairs seat.worker.trace) = ap length list in
      let after : units_in new.ended new.worker.units ≡ 0 = ap (λ b. units_in b new.worker.units) ended in
      let now : pending_of new.owed ≡ 0 = ap pending_of owed ∙ end_pends end in
      record {
        room = λ n h. room_kept n seat new h plan (omega (arith, lists, after, now))
            (subst (LabelIn (length (labels_of new.worker.plan.elements))) (sym owed) (end_owes end (length (labels_of new.worker.plan.elements))));
        out = λ stage h. subst (λ o. StageOf o stage) (sym owed) (end_out end stage h);
        list = list;
      }

  pub ended_out : {X E : Type 0} (r : Result X E) (a b : Account) (end : End) → Steps a b seat.worker new.worker (EndedStep end) → OnOk r ((new.owed ≡ owed_after end) × (new.ended ≡ true)) → OnOk r (StepsOut seat new)
  ended_out (Ok x) a b end s owed = end_out_by a b end s owed.1 owed.0
  ended_out (Err e) a b end s owed = tt

-- a section that is entered
pub entered_out : (seat new : Seat) (lock place : ℕ) → ((t : Thread) × SeatIs seat t) → seat.owed ≡ by.Enter lock
    → IfSome seat.worker.entering (λ l. new.worker ≡ record seat.worker { entering = None; section = Some l; trace = seat.worker.trace ++ EnteredItem l place ∷ [] })
    → new.ended ≡ seat.ended → new.owed ≡ by.Nothing → StepsOut seat new
entered_out seat new lock place is owed_is entered ended owed =
    let worker = worker_entered seat new.worker lock place is owed_is entered in
    let list : pairs new.worker.trace ≡ pairs seat.worker.trace = ap (λ w. pairs w.trace) worker ∙ no_more pairs pairs_in pairs_snoc seat.worker.trace (EnteredItem lock place) refl in
    let lists : length (pairs new.worker.trace) ≡ length (pairs seat.worker.trace) = ap length list in
    let units : units_in new.ended new.worker.units ≡ units_in seat.ended seat.worker.units = ap (λ w. units_in new.ended w.units) worker ∙ ap (λ b. units_in b seat.worker.units) ended in
    let now : pending_of new.owed ≡ 0 = ap pending_of owed in
    record {
      room = λ n h. room_kept n seat new h (ap (λ w. w.plan) worker) (omega (arith, lists, now, units)) (subst (LabelIn (length (labels_of new.worker.plan.elements))) (sym owed) tt);
      out = λ stage h. subst (λ o. StageOf o stage) (sym owed) h;
      list = list;
    }

-- A record

module _ (seat new : Seat) (entry : Entry) (done old interval : ℕ) (is : (t : Thread) × SeatIs seat t) (owed_is : seat.owed ≡ by.Record entry done old) where
  pends_one : pending_of seat.owed ≡ 1
  pends_one = ap pending_of owed_is

  label_there : (n : Numbers) → HasRoom n seat → entry.label < n.labels
  label_there n h = subst (LabelIn n.labels) owed_is h.label

  pub more_on : new.worker ≡ seat.worker → new.ended ≡ seat.ended → new.owed ≡ by.Record entry (done + 1) interval → RecordsOn false entry (done + 1) interval seat new
  more_on worker ended owed =
      let lists : length (pairs new.worker.trace) ≡ length (pairs seat.worker.trace) = ap (λ w. length (pairs w.trace)) worker in
      let units : units_in new.ended new.worker.units ≡ units_in seat.ended seat.worker.units = ap (λ w. units_in new.ended w.units) worker ∙ ap (λ b. units_in b seat.worker.units) ended in
      let now : pending_of new.owed ≡ 1 = ap pending_of owed in
      let was = pends_one in
      record {
        room = λ n h. (let room = h.room in record {
          room = omega (arith, lists, units, now, was, room);
          labels = h.labels ∙ ap (λ w. length (labels_of w.plan.elements)) (sym worker);
          label = subst (LabelIn n.labels) (sym owed) (label_there n h);
        });
        owed = owed;
        list = ap (λ w. pairs w.trace) worker ∙ sym (append-nil (pairs seat.worker.trace));
      }

  pub last_on : IfSome seat.worker.owed (λ s. new.worker ≡ record seat.worker { owed = None; trace = seat.worker.trace ++ SampledItem s interval ∷ [] }) → new.ended ≡ seat.ended → new.owed ≡ by.Nothing
      → RecordsOn true entry (done + 1) interval seat new
  last_on noted ended owed =
      let r = record_of seat.owed entry done old seat.worker (is.0).owed owed_is (is.1).owed in
      let worker : new.worker ≡ record seat.worker { owed = None; trace = seat.worker.trace ++ SampledItem r.sample interval ∷ [] } =
      subst (λ o. IfSome o (λ s. new.worker ≡ record seat.worker { owed = None; trace = seat.worker.trace ++ SampledItem s interval ∷ [] })) r.there noted in
      let list : pairs new.worker.trace ≡ pairs seat.worker.trace ++ (interval, entry) ∷ [] =
      ap (λ w. pairs w.trace) worker ∙ pairs_snoc seat.worker.trace (SampledItem r.sample interval) ∙ ap (λ (e : Entry). pairs seat.worker.trace ++ (interval, e) ∷ []) (sym r.entry_is) in
      let lists : length (pairs new.worker.trace) ≡ length (pairs seat.worker.trace) + 1 = ap length list ∙ length-append (pairs seat.worker.trace) ((interval, entry) ∷ []) in
      let units : units_in new.ended new.worker.units ≡ units_in seat.ended seat.worker.units = ap (λ w. units_in new.ended w.units) worker ∙ ap (λ b. units_in b seat.worker.units) ended in
      let now : pending_of new.owed ≡ 0 = ap pending_of owed in
      let was = pends_one in
      record {
        room = λ n h. (let room = h.room in record {
          room = omega (arith, lists, units, now, was, room);
          labels = h.labels ∙ ap (λ w. length (labels_of w.plan.elements)) (sym worker);
          label = subst (LabelIn n.labels) (sym owed) tt;
        });
        owed = owed;
        list = list;
      }
