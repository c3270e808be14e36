-- Each event applied to a core is the step of every state that the core may stand for.
use Rattle.std.proofs.Common.{Result, Ok, Err, IfOk, OnOk, ◌≡◌, ℕ, List, [], ◌∷◌, ◌⊎◌, inl, inr, sym, refl, ap, ◌∙◌, subst, get_or}
use Rattle.jm_base.specs.declared.types.Entry.{Entry}
use Rattle.phaser_core.specs.declared.view.Numbers.{Numbers}
use Rattle.phaser_core.specs.declared.view.ReporterView.{ReporterView}
use Rattle.phaser_core.specs.declared.view.View.{View}
use Rattle.phaser_core.specs.declared.view.View.TheVariants as view
use Rattle.phaser_core.specs.declared.view.Event.{Event}
use Rattle.phaser_core.specs.declared.view.Event.TheVariants as event
use Rattle.phaser_core.specs.declared.applied.Applied.{Applied}
use Rattle.phaser_core.specs.Cells.{is_odd, end_at}
use Rattle.phaser_core.specs.Step.{core_step}
use Rattle.phaser_core.specs.Plain.{writer_step, writer_at, step_answer, words_after, writers_after, closing_step, closing_if, with_closing, look_result, look_parts, take_result, take_words, take_parts, split_result, split_writers, join_result, join_writers}
use Rattle.phaser_core.specs.CoreShape.{Shape, ShowsViews, found_of, Answered, Applies}
use Rattle.phaser_core.proofs.Simulates.{shape_of, shape_is, writer_answers, swap_answers, clear_answers, flip_answers, stop_answers, look_answers, take_answers, split_answers, join_answers}

-- from what is answered on the shape of a state to any shape that shows it
shown_applies : (s : Shape) (e : Event) (F : Shape → Applied × Shape) (a : Applied) (t : Shape) (r : ReporterView) (os : List View) → ShowsViews s r os
    → Answered (shape_of s.numbers s.words r os) e (found_of s.numbers s.words (view.Reporter r ∷ os) e) (core_step s.numbers s.words (view.Reporter r ∷ os) e) (F (shape_of s.numbers s.words r os)).0 (F (shape_of s.numbers s.words r os)).1
    → a ≡ (F s).0 → t ≡ (F s).1 → Answered s e (found_of s.numbers s.words (view.Reporter r ∷ os) e) (core_step s.numbers s.words (view.Reporter r ∷ os) e) a t
shown_applies s e F a t r os sh h ea et =
    let on_s : Answered s e (found_of s.numbers s.words (view.Reporter r ∷ os) e) (core_step s.numbers s.words (view.Reporter r ∷ os) e) (F s).0 (F s).1 =
    subst (λ (z : Shape). Answered z e (found_of z.numbers z.words (view.Reporter r ∷ os) e) (core_step z.numbers z.words (view.Reporter r ∷ os) e) (F z).0 (F z).1) (shape_is s r os sh) h in
    subst (λ (z : Applied × Shape). Answered s e (found_of s.numbers s.words (view.Reporter r ∷ os) e) (core_step s.numbers s.words (view.Reporter r ∷ os) e) z.0 z.1) (λ i. (sym ea i, sym et i)) on_s

to_applies : (s : Shape) (e : Event) (F : Shape → Applied × Shape)
    → ((n : Numbers) (ws : List ℕ) (r : ReporterView) (os : List View) → r.labels ≡ n.labels → Answered (shape_of n ws r os) e (found_of n ws (view.Reporter r ∷ os) e) (core_step n ws (view.Reporter r ∷ os) e) (F (shape_of n ws r os)).0 (F (shape_of n ws r os)).1)
    → (a : Applied) (t : Shape) → a ≡ (F s).0 → t ≡ (F s).1 → Applies s e a t
to_applies s e F h a t ea et [] sh = absurd sh
to_applies s e F h a t ea et (view.Reporter r ∷ os) sh = shown_applies s e F a t r os sh (h s.numbers s.words r os sh.labels) ea et
to_applies s e F h a t ea et (view.Writer w ∷ os) sh = absurd sh
to_applies s e F h a t ea et (view.Gone ∷ os) sh = absurd sh

-- A writer's event

abbrev pub writer_shape : Event → ℕ → Shape → Shape
writer_shape e i s = record { numbers = s.numbers; words = words_after (writer_step s.numbers e (writer_at s.writers i)) s.words; writers = writers_after (writer_step s.numbers e (writer_at s.writers i)) e i s.words s.writers; reporter = s.reporter }

abbrev by_writer : Event → ℕ → Shape → Applied × Shape
by_writer e i s = (step_answer (writer_step s.numbers e (writer_at s.writers i)) s.words, writer_shape e i s)

abbrev pub OfWriter : Event → ℕ → Type 0
OfWriter e i = (e ≡ event.Enter i) ⊎ ((x : Entry) × (e ≡ event.Load i x)) ⊎ (e ≡ event.Add i) ⊎ (e ≡ event.Lower i) ⊎ (e ≡ event.Raise i) ⊎ (e ≡ event.Exit i) ⊎ (e ≡ event.LookStop i) ⊎ (e ≡ event.RaiseStop i)

abbrev WriterApplies : Shape → ℕ → Event → Type 0
WriterApplies s i e = (a : Applied) (t : Shape) → a ≡ (by_writer e i s).0 → t ≡ writer_shape e i s → Applies s e a t

enter_applies : (s : Shape) (i : ℕ) → WriterApplies s i (event.Enter i)
enter_applies s i = to_applies s (event.Enter i) (by_writer (event.Enter i) i) (λ n ws r os named. writer_answers n ws r os named (event.Enter i) i (λ q. refl) (λ f. refl))

load_applies : (s : Shape) (i : ℕ) (x : Entry) → WriterApplies s i (event.Load i x)
load_applies s i x = to_applies s (event.Load i x) (by_writer (event.Load i x) i) (λ n ws r os named. writer_answers n ws r os named (event.Load i x) i (λ q. refl) (λ f. refl))

add_applies : (s : Shape) (i : ℕ) → WriterApplies s i (event.Add i)
add_applies s i = to_applies s (event.Add i) (by_writer (event.Add i) i) (λ n ws r os named. writer_answers n ws r os named (event.Add i) i (λ q. refl) (λ f. refl))

lower_applies : (s : Shape) (i : ℕ) → WriterApplies s i (event.Lower i)
lower_applies s i = to_applies s (event.Lower i) (by_writer (event.Lower i) i) (λ n ws r os named. writer_answers n ws r os named (event.Lower i) i (λ q. refl) (λ f. refl))

raise_applies : (s : Shape) (i : ℕ) → WriterApplies s i (event.Raise i)
raise_applies s i = to_applies s (event.Raise i) (by_writer (event.Raise i) i) (λ n ws r os named. writer_answers n ws r os named (event.Raise i) i (λ q. refl) (λ f. refl))

exit_applies : (s : Shape) (i : ℕ) → WriterApplies s i (event.Exit i)
exit_applies s i = to_applies s (event.Exit i) (by_writer (event.Exit i) i) (λ n ws r os named. writer_answers n ws r os named (event.Exit i) i (λ q. refl) (λ f. refl))

look_stop_applies : (s : Shape) (i : ℕ) → WriterApplies s i (event.LookStop i)
look_stop_applies s i = to_applies s (event.LookStop i) (by_writer (event.LookStop i) i) (λ n ws r os named. writer_answers n ws r os named (event.LookStop i) i (λ q. refl) (λ f. refl))

raise_stop_applies : (s : Shape) (i : ℕ) → WriterApplies s i (event.RaiseStop i)
raise_stop_applies s i = to_applies s (event.RaiseStop i) (by_writer (event.RaiseStop i) i) (λ n ws r os named. writer_answers n ws r os named (event.RaiseStop i) i (λ q. refl) (λ f. refl))

pub writer_applies : (s : Shape) (e : Event) (i : ℕ) → OfWriter e i → WriterApplies s i e
writer_applies s e i (inl h) = subst (WriterApplies s i) (sym h) (enter_applies s i)
writer_applies s e i (inr (inl h)) = subst (WriterApplies s i) (sym h.1) (load_applies s i h.0)
writer_applies s e i (inr (inr (inl h))) = subst (WriterApplies s i) (sym h) (add_applies s i)
writer_applies s e i (inr (inr (inr (inl h)))) = subst (WriterApplies s i) (sym h) (lower_applies s i)
writer_applies s e i (inr (inr (inr (inr (inl h))))) = subst (WriterApplies s i) (sym h) (raise_applies s i)
writer_applies s e i (inr (inr (inr (inr (inr (inl h)))))) = subst (WriterApplies s i) (sym h) (exit_applies s i)
writer_applies s e i (inr (inr (inr (inr (inr (inr (inl h))))))) = subst (WriterApplies s i) (sym h) (look_stop_applies s i)
writer_applies s e i (inr (inr (inr (inr (inr (inr (inr h))))))) = subst (WriterApplies s i) (sym h) (raise_stop_applies s i)

-- An event of the reporter

abbrev pub reporter_shape : Event → Shape → Shape
reporter_shape e s = record { numbers = s.numbers; words = words_after (closing_step s.reporter.interval e s.reporter.closing) s.words; writers = s.writers; reporter = with_closing s.reporter (closing_if (closing_step s.reporter.interval e s.reporter.closing) e s.words s.reporter.closing) }

abbrev by_reporter : Event → Shape → Applied × Shape
by_reporter e s = (step_answer (closing_step s.reporter.interval e s.reporter.closing) s.words, reporter_shape e s)

abbrev pub OfReporter : Event → Type 0
OfReporter e = (e ≡ event.SwapActive) ⊎ (e ≡ event.ClearEnd) ⊎ (e ≡ event.Flip) ⊎ (e ≡ event.ReporterStop)

abbrev ReporterApplies : Shape → Event → Type 0
ReporterApplies s e = (a : Applied) (t : Shape) → a ≡ (by_reporter e s).0 → t ≡ reporter_shape e s → Applies s e a t

pub reporter_applies : (s : Shape) (e : Event) → OfReporter e → ReporterApplies s e
reporter_applies s e (inl h) = subst (ReporterApplies s) (sym h) (to_applies s event.SwapActive (by_reporter event.SwapActive) (λ n ws r os named. swap_answers n ws r os named r.closing refl))
reporter_applies s e (inr (inl h)) = subst (ReporterApplies s) (sym h) (to_applies s event.ClearEnd (by_reporter event.ClearEnd) (λ n ws r os named. clear_answers n ws r os named r.closing refl))
reporter_applies s e (inr (inr (inl h))) = subst (ReporterApplies s) (sym h) (to_applies s event.Flip (by_reporter event.Flip) (λ n ws r os named. flip_answers n ws r os named r.closing refl))
reporter_applies s e (inr (inr (inr h))) = subst (ReporterApplies s) (sym h) (to_applies s event.ReporterStop (by_reporter event.ReporterStop) (λ n ws r os named. stop_answers n ws r os named r.closing refl))

-- Look, Take, Split, Join

abbrev pub look_shape : Shape → Shape
look_shape s = record { numbers = s.numbers; words = s.words; writers = s.writers; reporter = look_parts s.reporter.closing (get_or s.words (end_at (is_odd s.reporter.interval)) 0) s.numbers.labels s.reporter }

pub look_applies : (s : Shape) (e : Event) → e ≡ event.Look → (a : Applied) (t : Shape) → a ≡ look_result s.reporter.closing (get_or s.words (end_at (is_odd s.reporter.interval)) 0) → t ≡ look_shape s → Applies s e a t
look_applies s e is a t ea et = subst (λ (x : Event). Applies s x a t) (sym is) (to_applies s event.Look (λ z. (look_result z.reporter.closing (get_or z.words (end_at (is_odd z.reporter.interval)) 0), look_shape z)) (λ n ws r os named. look_answers n ws r os named r.closing refl) a t ea et)

abbrev pub take_shape : Shape → Shape
take_shape s = record { numbers = s.numbers; words = take_words s.reporter.closing s.numbers.labels s.words s.reporter; writers = s.writers; reporter = take_parts s.reporter.closing s.numbers.labels s.words s.reporter }

pub take_applies : (s : Shape) (e : Event) → e ≡ event.Take → (a : Applied) (t : Shape) → a ≡ take_result s.reporter.closing s.numbers.labels s.words s.reporter → t ≡ take_shape s → Applies s e a t
take_applies s e is a t ea et = subst (λ (x : Event). Applies s x a t) (sym is) (to_applies s event.Take (λ z. (take_result z.reporter.closing z.numbers.labels z.words z.reporter, take_shape z)) (λ n ws r os named. take_answers n ws r os named r.closing refl) a t ea et)

abbrev pub split_shape : Shape → Shape
split_shape s = record { numbers = s.numbers; words = s.words; writers = split_writers s.numbers (writer_at s.writers 0) s.writers; reporter = s.reporter }

pub split_applies : (s : Shape) (e : Event) → e ≡ event.Split → (a : Applied) (t : Shape) → a ≡ split_result s.numbers (writer_at s.writers 0) s.words → t ≡ split_shape s → Applies s e a t
split_applies s e is a t ea et = subst (λ (x : Event). Applies s x a t) (sym is) (to_applies s event.Split (λ z. (split_result z.numbers (writer_at z.writers 0) z.words, split_shape z)) split_answers a t ea et)

abbrev pub join_shape : ℕ → Shape → Shape
join_shape i s = record { numbers = s.numbers; words = s.words; writers = join_writers s.reporter.closing (writer_at s.writers i) i s.writers; reporter = s.reporter }

pub join_applies : (s : Shape) (e : Event) (i : ℕ) → e ≡ event.Join i → (a : Applied) (t : Shape) → a ≡ join_result s.reporter.closing (writer_at s.writers i) s.words → t ≡ join_shape i s → Applies s e a t
join_applies s e i is a t ea et = subst (λ (x : Event). Applies s x a t) (sym is) (to_applies s (event.Join i) (λ z. (join_result z.reporter.closing (writer_at z.writers i) z.words, join_shape i z)) (λ n ws r os named. join_answers n ws r os named i) a t ea et)

-- As the calls of the core give them

pub writer_applied : (s : Shape) (e e' : Event) (i : ℕ) → e' ≡ e → OfWriter e i → (a : Applied) (t : Shape) → a ≡ step_answer (writer_step s.numbers e' (writer_at s.writers i)) s.words → t ≡ writer_shape e' i s → Applies s e a t
writer_applied s e e' i same of a t ea et = writer_applies s e i of a t
    (ea ∙ ap (λ (x : Event). step_answer (writer_step s.numbers x (writer_at s.writers i)) s.words) same) (et ∙ ap (λ (x : Event). writer_shape x i s) same)

pub ok_applies : {E : Type 0} (r : Result Applied E) (s : Shape) (e : Event) (t : Shape) (x : Applied) (y : Shape) → ((a : Applied) (u : Shape) → a ≡ x → u ≡ y → Applies s e a u) → IfOk r (λ a. a ≡ x) → OnOk r (t ≡ y) → IfOk r (λ a. Applies s e a t)
ok_applies (Ok a) s e t x y f h k = f a t h k
ok_applies (Err n) s e t x y f h k = tt
