-- How what is shown goes on.
use Rattle.std.proofs.Common.{◌≡◌, ℕ, zero, suc, List, [], ◌∷◌, ◌++◌, refl, sym, ap, ◌∙◌, append_assoc}
use Rattle.std.specs.Prelude.{map}
use Rattle.std.proofs.lemmas.List.{map-append, append-nil}
use Rattle.jm_base.specs.Run.{Run, over, give, wait, ◌>>=◌, Event, Waited}
use Rattle.jm_base.specs.Outside.{Account, Goes}
use Rattle.jm_base.proofs.RunLaws.{goes-append, goes-bind, goes-give, goes-nothing}
use Rattle.jm_meaning.specs.declared.item.Item.{Item}
use Rattle.jm_meaning.specs.declared.item.Item.TheVariants.{Paused}
use Rattle.jm_meaning.specs.Meaning.{after_pause}
use Rattle.jm_meaning.specs.TraceShown.{shown, Shows}

unfoldable pub shows-append : {A : Type 0} {a b c : Account} {xs ys zs : List Item} {r s t : Run A} → Shows a xs r s ys b → Shows b ys s t zs c → Shows a xs r t zs c
shows-append {xs = xs} g h = record {
  events = g.events ++ h.events;
  goes = goes-append g.goes h.goes;
  items = h.items ∙ ap (λ l. l ++ map shown h.events) g.items ∙ append_assoc xs (map shown g.events) (map shown h.events)
      ∙ ap (λ l. xs ++ l) (sym (map-append shown g.events h.events));
}

unfoldable pub shows-bind : {A B : Type 0} {a b : Account} {xs ys : List Item} {r s : Run A} (f : A → Run B) → Shows a xs r s ys b → Shows a xs (r >>= f) (s >>= f) ys b
shows-bind f g = record { events = g.events; goes = goes-bind f g.goes; items = g.items }

unfoldable pub shows-nothing : {A : Type 0} (a : Account) (xs : List Item) (r : Run A) → Shows a xs r r xs a
shows-nothing a xs r = record { events = []; goes = goes-nothing a r; items = sym (append-nil xs) }

unfoldable pub shows-quiet : {A : Type 0} {a b : Account} (xs : List Item) {r s : Run A} → Goes a r [] s b → Shows a xs r s xs b
shows-quiet xs g = record { events = []; goes = g; items = sym (append-nil xs) }

unfoldable pub shows-give : {A : Type 0} (a : Account) (xs : List Item) (e : Event) (r : Run A) → Shows a xs (give e r) r (xs ++ shown e ∷ []) a
shows-give a xs e r = record { events = e ∷ []; goes = goes-give a e r; items = refl }

-- a pause, and then the run
pub paused_shows : (a b : Account) (xs ys : List Item) (ms : ℕ) → (ms ≡ 0 → ⊥) → Goes {A = Unit {0}} a (wait ms (over tt)) [] (over tt) b → ys ≡ xs ++ Paused ms ∷ []
    → (run : Run (Unit {0})) → Shows a xs (after_pause ms run) run ys b
paused_shows a b xs ys zero some g items run = absurd (some refl)
paused_shows a b xs ys (suc ms) some g items run =
    rw items (shows-append (shows-quiet xs (goes-bind (λ u. give (Waited (suc ms)) run) g)) (shows-give b xs (Waited (suc ms)) run))

pub no_pause : (a : Account) (xs : List Item) (ms : ℕ) → ms ≡ 0 → (run : Run (Unit {0})) → Shows a xs (after_pause ms run) run xs a
no_pause a xs ms none run = rw none (shows-nothing a xs run)
