-- Why threads were stopped, by the marks of their writers.
use Rattle.std.proofs.Common.{◌≡◌, ◌∙◌, ◌⊎◌, ℕ, ◌+◌, ◌<◌, Bool, true, false, List, [], ◌∷◌, ◌++◌, Option, Some, None, Result, Ok, Err, refl, sym, ap, subst, inl, inr, arith}
use Rattle.std.specs.Prelude.{IfOk, OnOk}
use Rattle.jm_base.specs.declared.types.End.{End}
use Rattle.jm_base.specs.declared.types.End.TheVariants.{StopTest, Stopped}
use Rattle.jm_base.specs.SumTotals.{total, one_if}
use Rattle.phaser_core.specs.declared.view.Joined.{Joined}
use Rattle.phaser_core.specs.declared.view.ReporterView.{ReporterView}
use Rattle.phaser_words.specs.RecorderKinds.{StopWasRaised}
use Rattle.thread_machine.specs.declared.trace.TraceItem.{TraceItem}
use Rattle.thread_machine.specs.declared.trace.TraceItem.TheVariants.{Ended}
use Rattle.reporter_loop.specs.Reported.{any_over}
use Rattle.reporter_loop.specs.declared.error.RunError.{RunError}
use Rattle.recorder_core.specs.RecorderSeats.{books_of}
use Rattle.run_engine.specs.declared.books.RunBooks.{RunBooks}
use Rattle.run_engine.specs.Followed.{EndsWith}
use Rattle.run_engine.specs.Marks.{is_stop_test, is_stopped, IsMarked, AllMarked}
use Rattle.run_engine.specs.Stops.{SomeEnds, StopHasCause}

-- ---- a trace has one end

last_of : Option TraceItem → List TraceItem → Option TraceItem
last_of before [] = before
last_of before (item ∷ items) = last_of (Some item) items

last_is : (before : Option TraceItem) (items : List TraceItem) (item : TraceItem) → last_of before (items ++ item ∷ []) ≡ Some item
unfolding last_of
last_is before [] item = refl
last_is before (x ∷ items) item = last_is (Some x) items item

is_stopped_item : Option TraceItem → Bool
is_stopped_item (Some (Ended end)) = is_stopped end
is_stopped_item item = false

ends_by : (trace : List TraceItem) (end : End) → EndsWith trace end → is_stopped_item (last_of None trace) ≡ is_stopped end
unfolding is_stopped_item
ends_by trace end e = ap (λ t. is_stopped_item (last_of None t)) e.last ∙ ap is_stopped_item (last_is None e.before (Ended end))

-- the writer of a stopped thread saw stop
stopped_saw : (raised saw : Bool) (trace : List TraceItem) → IsMarked raised saw trace → EndsWith trace Stopped → saw ≡ true
stopped_saw raised saw trace m e = m.saw_is ∙ sym (ends_by trace m.end m.ends) ∙ ends_by trace Stopped e

-- the thread of a writer that raised it has ended the test
test_ended : (trace : List TraceItem) (end : End) → EndsWith trace end → is_stop_test end ≡ true → EndsWith trace StopTest
test_ended trace StopTest e is = e
test_ended trace end e is = cc

-- ---- all of them

some_saw : (js : List Joined) (traces : List (List TraceItem)) → AllMarked js traces → SomeEnds Stopped traces → 0 < total (λ (j : Joined). one_if j.saw) js
some_saw [] [] marked s = absurd s
some_saw [] (trace ∷ traces) marked s = absurd marked
some_saw (j ∷ js) [] marked s = absurd marked
some_saw (j ∷ js) (trace ∷ traces) marked s = elim s [
  | inl e ↦ let here : one_if j.saw ≡ 1 = ap one_if (stopped_saw j.raised j.saw trace marked.0 e) in omega (arith, here)
  | inr more ↦ let rest : 0 < total (λ (j : Joined). one_if j.saw) js = some_saw js traces marked.1 more in omega (arith, rest)
]

some_raised : (js : List Joined) (traces : List (List TraceItem)) → AllMarked js traces → 0 < total (λ (j : Joined). one_if j.raised) js → SomeEnds StopTest traces
some_raised [] traces marked some = absurd (omega (arith, some))
some_raised (j ∷ js) [] marked some = absurd marked
some_raised (j ∷ js) (trace ∷ traces) marked some = by_mark j.raised refl (some_raised js traces marked.1) where
  by_mark : (b : Bool) → j.raised ≡ b → (0 < total (λ (j : Joined). one_if j.raised) js → SomeEnds StopTest traces) → SomeEnds StopTest (trace ∷ traces)
  by_mark true is later = inl (test_ended trace marked.0.end marked.0.ends (sym marked.0.raised_is ∙ is))
  by_mark false is later = inr (later (let none : one_if j.raised ≡ 0 = ap one_if is in omega (arith, some, none)))

-- a stopped thread's writer saw stop, so somebody raised it: a thread that ended the test, or the reporter
pub stopped_for : (limit : ℕ) (r : ReporterView) (traces : List (List TraceItem)) → AllMarked r.joined traces → StopWasRaised r → r.raised ≡ any_over limit r.closed → StopHasCause limit traces r.closed
stopped_for limit r traces marked stop raised s =
    let most : 0 < one_if r.raised + total (λ (j : Joined). one_if j.raised) r.joined = stop (some_saw r.joined traces marked s) in
    by_mark r.raised refl most where
      by_mark : (b : Bool) → r.raised ≡ b → 0 < one_if r.raised + total (λ (j : Joined). one_if j.raised) r.joined → SomeEnds StopTest traces ⊎ (any_over limit r.closed ≡ true)
      by_mark true is most = inr (sym raised ∙ is)
      by_mark false is most = inl (some_raised r.joined traces marked (let none : one_if r.raised ≡ 0 = ap one_if is in omega (arith, most, none)))

-- the same of the books
pub stopped_books : (limit : ℕ) (r : ReporterView) (traces : List (List TraceItem)) → AllMarked r.joined traces → r.raised ≡ any_over limit r.closed → (result : Result RunBooks RunError)
    → IfOk result (λ b. b.traces ≡ traces) → IfOk result (λ b. books_of b.books ≡ r) → OnOk result (StopWasRaised r) → IfOk result (λ b. StopHasCause limit b.traces (books_of b.books).closed)
stopped_books limit r traces marked raised (Ok b) same is stop =
    subst (λ (ts : List (List TraceItem)). StopHasCause limit ts (books_of b.books).closed) (sym same)
    (subst (λ (q : ReporterView). StopHasCause limit traces q.closed) (sym is) (stopped_for limit r traces marked stop raised))
stopped_books limit r traces marked raised (Err e) same is stop = tt
