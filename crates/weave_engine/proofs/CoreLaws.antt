-- An event that is applied to a core is a step of the state that it stands for.
use Rattle.std.proofs.Common.{◌≡◌, ℕ, List, Option, Some, None, refl, sym, ap, ◌∙◌, subst}
use Rattle.std.specs.Prelude.{unwrap_or, Result, Ok, Err, OnOk, IfOk}
use Rattle.phaser_core.specs.declared.applied.Applied.{Applied}
use Rattle.phaser_core.specs.declared.view.Event.{Event}
use Rattle.phaser_core.specs.declared.view.Numbers.{Numbers}
use Rattle.phaser_core.specs.declared.view.View.{View}
use Rattle.phaser_core.specs.CoreShape.{Shape, Shows, Answered, Applies, KeepsInvariant, found_of}
use Rattle.phaser_core.specs.Invariant.{RecorderInvariant}
use Rattle.phaser_core.specs.Step.{CoreState, core_step, next_state, FitsEvent}
use Rattle.weave_engine.specs.Seats.{CoreIs}

module _ (before after : Shape) (e : Event) (a : Applied) (views : List View) (shows : Shows before views) where
  by_step : (o : Option CoreState) (found : ℕ) → Answered before e found o a after
      → (after.numbers ≡ before.numbers) × ((unwrap_or o (before.words, views)).0 ≡ after.words) × Shows after (unwrap_or o (before.words, views)).1
  by_step None found h = rw h.1 (refl, refl, shows)
  by_step (Some s) found h = (h.1, sym h.2, h.3)

pub core_applied : (n : Numbers) (before after : Shape) (e : Event) (a : Applied) (state : CoreState) → CoreIs before n state → FitsEvent e → Applies before e a after → KeepsInvariant before e after
    → CoreIs after n (next_state n state e)
core_applied n before after e a state is fits applies keeps =
    let (numbers, words, shows) = by_step before after e a state.1 is.shows (core_step before.numbers before.words state.1 e) (found_of before.numbers before.words state.1 e) (applies state.1 is.shows) in
    let same : next_state n state e ≡ unwrap_or (core_step before.numbers before.words state.1 e) (before.words, state.1) =
    ap (λ m. unwrap_or (core_step m state.0 state.1 e) state) (sym is.numbers) ∙ ap (λ ws. unwrap_or (core_step before.numbers ws state.1 e) (ws, state.1)) is.words in
    let held : RecorderInvariant before.numbers before.words state.1 =
    subst (λ m. RecorderInvariant m before.words state.1) (sym is.numbers) (subst (λ ws. RecorderInvariant n ws state.1) is.words is.invariant) in
    let kept : RecorderInvariant after.numbers after.words (unwrap_or (core_step before.numbers before.words state.1 e) (before.words, state.1)).1 = (keeps state.1 (is.shows, held) fits).1 in
    record {
      numbers = numbers ∙ is.numbers;
      words = ap (λ s. s.0) same ∙ words;
      shows = subst (λ s. Shows after s.1) (sym same) shows;
      invariant = subst (λ s. RecorderInvariant n s.0 s.1) (sym same)
          (subst (λ ws. RecorderInvariant n ws (unwrap_or (core_step before.numbers before.words state.1 e) (before.words, state.1)).1) (sym words)
          (subst (λ m. RecorderInvariant m after.words (unwrap_or (core_step before.numbers before.words state.1 e) (before.words, state.1)).1) (numbers ∙ is.numbers) kept));
    }

pub applied_ok : {E : Type 0} (r : Result Applied E) (before after : Shape) (e : Event) → FitsEvent e → IfOk r (λ a. Applies before e a after) → OnOk r (KeepsInvariant before e after)
    → OnOk r ((n : Numbers) (state : CoreState) → CoreIs before n state → CoreIs after n (next_state n state e))
applied_ok (Ok a) before after e fits h keeps = λ n state is. core_applied n before after e a state is fits h keeps
applied_ok (Err x) before after e fits h keeps = tt
