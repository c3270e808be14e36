-- What a step appends to the trace of a thread: a pause, that a sampler gave no sample, that the open section was left, and the end. That a
-- sample was counted, and that a section was entered, is appended by calls of their own.
use Rattle.std.proofs.Common.{◌≡◌, ℕ, zero, suc, List, [], ◌∷◌, ◌++◌, Option, Some, None, refl, sym, ap, ◌∙◌, subst, append_assoc, inl, inr}
use Rattle.std.proofs.lemmas.List.{append-nil}
use Rattle.jm_base.specs.declared.types.End.{End}
use Rattle.jm_base.specs.declared.types.End.TheVariants.{Stopped, NoMemory}
use Rattle.jm_base.specs.Run.{Run}
use Rattle.jm_base.specs.Outside.{Account}
use Rattle.thread_machine.specs.declared.trace.TraceItem.{TraceItem}
use Rattle.thread_machine.specs.declared.trace.TraceItem.TheVariants.{Paused as PausedItem, Null as NullItem, Left as LeftItem, Ended as EndedItem}
use Rattle.thread_machine.specs.declared.step.Step.{Step}
use Rattle.thread_machine.specs.declared.step.Step.TheVariants.{Sampled, Null, Enter, Leave, Ended}
use Rattle.thread_machine.specs.SectionOrder.{left_traced}
use Rattle.thread_machine.specs.Standing.{Standing, rest}
use Rattle.thread_machine.specs.Stepped.{trace_paused, Begins, IsOver, Ends, Gives, Steps}

-- it holds between a trace and itself, from one trace to the next, and between a trace and the same with one such item more
pub record HoldsOn (R : List TraceItem → List TraceItem → Type 0) : Type 0 where
  pub same : (t : List TraceItem) → R t t
  pub further : (s t u : List TraceItem) → R s t → R t u → R s u
  pub paused : (t : List TraceItem) (ms : ℕ) → R t (t ++ PausedItem ms ∷ [])
  pub none : (t : List TraceItem) (number : ℕ) → R t (t ++ NullItem number ∷ [])
  pub left : (t : List TraceItem) (lock : ℕ) → R t (t ++ LeftItem lock ∷ [])
  pub ended : (t : List TraceItem) (end : End) → R t (t ++ EndedItem end ∷ [])

-- so it holds between the traces before and after a step
module _ {R : List TraceItem → List TraceItem → Type 0} (holds : HoldsOn R) where
  after_pause : (t : List TraceItem) (ms : ℕ) → R t (trace_paused t ms)
  after_pause t zero = holds.same t
  after_pause t (suc ms) = holds.paused t (suc ms)

  -- that the open section was left, and the end
  pub after_end : (t : List TraceItem) (o : Option ℕ) (end : End) → R t (t ++ (left_traced o ++ EndedItem end ∷ []))
  after_end t None end = holds.ended t end
  after_end t (Some lock) end =
      subst (R t) (append_assoc t (LeftItem lock ∷ []) (EndedItem end ∷ []))
      (holds.further t (t ++ LeftItem lock ∷ []) ((t ++ LeftItem lock ∷ []) ++ EndedItem end ∷ []) (holds.left t lock) (holds.ended (t ++ LeftItem lock ∷ []) end))

  module _ (a b : Account) (old new : Standing) where
    seen : (t : List TraceItem) → new.trace ≡ t → R old.trace t → R old.trace new.trace
    seen t is r = subst (R old.trace) (sym is) r

    after_begins : Begins a b old new → R old.trace new.trace
    after_begins h = elim h [
      | inl p ↦ seen (old.trace ++ PausedItem old.pause ∷ []) (ap (λ s. s.trace) p.new_is) (holds.paused old.trace old.pause)
      | inr s ↦ seen old.trace (ap (λ w. w.trace) s.standing) (holds.same old.trace)
    ]

    module _ (run : Run (Unit {0})) where
      after_over : (end : End) → IsOver a b run old new end → R old.trace new.trace
      after_over end o = seen (old.trace ++ EndedItem end ∷ []) (ap (λ s. s.trace) o.new_is) (holds.ended old.trace end)

      after_ends : (end : End) → Ends a b run old new end → R old.trace new.trace
      after_ends Stopped o = absurd o
      after_ends NoMemory o = seen (old.trace ++ (left_traced old.section ++ EndedItem NoMemory ∷ [])) (ap (λ s. s.trace) o.new_is) (after_end old.trace old.section NoMemory)
      after_ends end o = after_over end o

      after_gives : (step : Step) → Gives a b run old new step → R old.trace new.trace
      after_gives (Sampled entry) g = seen (trace_paused old.trace g.paused) (ap (λ s. s.trace) g.new_is) (after_pause old.trace g.paused)
      after_gives Null g =
          let before = trace_paused old.trace g.paused in
          let all = before ++ NullItem g.number ∷ [] in
          seen all (ap (λ s. s.trace) g.new_is) (holds.further old.trace before all (after_pause old.trace g.paused) (holds.none before g.number))
      after_gives (Enter lock) g = seen old.trace (ap (λ s. s.trace) g.new_is) (holds.same old.trace)
      after_gives (Leave lock) g = seen (old.trace ++ LeftItem lock ∷ []) (ap (λ s. s.trace) g.new_is) (holds.left old.trace lock)
      after_gives (Ended end) g = after_ends end g

  -- whatever the step answers
  pub after_step : (a b : Account) (old new : Standing) (step : Step) → Steps a b old new step → R old.trace new.trace
  after_step a b old new step s =
      holds.further old.trace s.between.trace new.trace (after_begins a s.begun old s.between s.begins) (after_gives s.begun b s.between new (rest s.between) step s.gives)

-- a list that is gathered item by item
module _ {X : Type 0} (all : List TraceItem → List X) (one : TraceItem → List X) (push : (t : List TraceItem) (item : TraceItem) → all (t ++ item ∷ []) ≡ all t ++ one item) where
  pub no_more : (t : List TraceItem) (item : TraceItem) → one item ≡ [] → all (t ++ item ∷ []) ≡ all t
  no_more t item nothing = push t item ∙ ap (λ l. all t ++ l) nothing ∙ append-nil (all t)

  pub gathered : ((ms : ℕ) → one (PausedItem ms) ≡ []) → ((number : ℕ) → one (NullItem number) ≡ []) → ((lock : ℕ) → one (LeftItem lock) ≡ []) → ((end : End) → one (EndedItem end) ≡ [])
      → HoldsOn (λ s t. all t ≡ all s)
  gathered paused none left ended = record {
    same = λ t. refl;
    further = λ s t u first then_. then_ ∙ first;
    paused = λ t ms. no_more t (PausedItem ms) (paused ms);
    none = λ t number. no_more t (NullItem number) (none number);
    left = λ t lock. no_more t (LeftItem lock) (left lock);
    ended = λ t end. no_more t (EndedItem end) (ended end);
  }
