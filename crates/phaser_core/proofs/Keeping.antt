-- An event that is applied to a core keeps the recorder invariant.
use Rattle.std.proofs.Common.{Result, Ok, Err, IfOk, OnOk, ◌≡◌, ℕ, List, [], ◌∷◌, Option, Some, None, refl, sym, subst, unwrap_or}
use Rattle.phaser_core.specs.declared.view.View.{View}
use Rattle.phaser_core.specs.declared.view.Event.{Event}
use Rattle.phaser_core.specs.declared.applied.Applied.{Applied}
use Rattle.phaser_core.specs.Invariant.{RecorderInvariant}
use Rattle.phaser_core.specs.Step.{CoreState, core_step, next_state}
use Rattle.phaser_core.specs.CoreShape.{Shape, Shows, found_of, Answered, Applies, KeepsInvariant}
use Rattle.phaser_core.proofs.Every.{events_keep}

-- what the core shows after an event, whether it was enabled or not
shown_after : (before after : Shape) (e : Event) (a : Applied) (views : List View) (found : ℕ) (o : Option CoreState) → Shows before views → Answered before e found o a after
    → (after.numbers ≡ before.numbers) × ((unwrap_or o (before.words, views)).0 ≡ after.words) × Shows after (unwrap_or o (before.words, views)).1
shown_after before after e a views found None shows h = rw h.1 (refl, refl, shows)
shown_after before after e a views found (Some s) shows h = (h.1, sym h.2, h.3)

applies_keeps : (before after : Shape) (e : Event) (a : Applied) → Applies before e a after → KeepsInvariant before e after
applies_keeps before after e a applies = λ views holds fits.
    let later : CoreState = next_state before.numbers (before.words, views) e in
    let (numbers, words, shows) =
    shown_after before after e a views (found_of before.numbers before.words views e) (core_step before.numbers before.words views e) holds.0 (applies views holds.0) in
    let kept : RecorderInvariant before.numbers later.0 later.1 = events_keep before.numbers (before.words, views) (e ∷ []) holds.1 (fits, tt) in
    (shows, subst (λ m. RecorderInvariant m after.words later.1) (sym numbers) (subst (λ ws. RecorderInvariant before.numbers ws later.1) words kept))

pub ok_keeps : {E : Type 0} (r : Result Applied E) (before after : Shape) (e : Event) → IfOk r (λ a. Applies before e a after) → OnOk r (KeepsInvariant before e after)
ok_keeps (Ok a) before after e applies = applies_keeps before after e a applies
ok_keeps (Err x) before after e applies = tt
