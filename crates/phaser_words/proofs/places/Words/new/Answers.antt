use Rattle.std.proofs.Common.{rules, ℕ, List, length, ap, ◌∙◌, sym, refl, subst, []}
use Rattle.atomic_table.specs.Table.{opening, Me}
use Rattle.phaser_core.specs.declared.view.Numbers.{Numbers}
use Rattle.phaser_core.specs.declared.view.View.{View}
use Rattle.phaser_core.specs.Views.{first_reading}
use Rattle.phaser_core.proofs.Members.{first_wide}
use Rattle.phaser_words.specs.Spacing.{slot_count}
use Rattle.phaser_words.specs.RecorderKinds.{holds_of, first_view}
use Rattle.phaser_words.proofs.Allowed.{makes_first}
use Rattle.phaser_words.proofs.Spaced.{begins, split_on_slots}
use Rattle.phaser_words.proofs.places.Words.new.Goals as goal

pub spread-requires-clause-words : goal.spread-requires-clause-words
spread-requires-clause-words c =
    let n : Numbers = record { labels = c.args.labels; writers = c.args.writers; budget = c.args.budget } in
    ap (λ (x : List ℕ). length x) (c.as_slice.ensures.value ∙ c.in_ok-words.ensures) ∙ first_wide n

pub of_words-requires : goal.of_words-requires
of_words-requires c =
    let n : Numbers = record { labels = c.args.labels; writers = c.args.writers; budget = c.args.budget } in
    let are = c.in_ok-slots.ensures.words ∙ c.as_slice.ensures.value ∙ c.in_ok-words.ensures in
    subst (λ (ws : List ℕ). holds_of n (opening ws [] (first_view n))) (sym c.as_slice-2.ensures.value) (begins n _ c.requires c.in_ok-slots.ensures.count are)

pub split_seat-first-requires : goal.split_seat-first-requires
split_seat-first-requires c =
    (search rules, search rules, split_on_slots _ _ _ _ _ (makes_first _ _ _ (first_reading c.args.labels) (ap (λ (m : Me (Unit {0}) View). m.0) c.in_ok-table.ensures.4) refl))

pub invariant_of-result-clause-wide : goal.invariant_of-result-clause-wide
invariant_of-result-clause-wide c =
    let key = ap (λ (m : Numbers). m.labels) c.in_ok-table.ensures.5 in
    c.in_ok-table.ensures.0 ∙ ap (λ (x : List ℕ). length x) c.as_slice-2.ensures.value ∙ c.in_ok-slots.ensures.count ∙ ap slot_count (sym key)
