-- What is shown, and what is counted of it.
use Rattle.std.proofs.Common.{◌≡◌, List, [], ◌∷◌, ◌++◌, refl, sym, ap, ◌∙◌}
use Rattle.jm_base.specs.Run.{Run, give, ◌>>=◌, Event}
use Rattle.jm_base.specs.Outside.{Account, Goes}
use Rattle.jm_meaning.specs.declared.item.Item.{Item}
use Rattle.jm_meaning.specs.declared.transaction.Tally.{Tally}
use Rattle.jm_meaning.specs.TraceShown.{shown}
use Rattle.jm_meaning.specs.Transactions.{counting, counted}
use Rattle.plain_run.specs.Plays.{Tells}
use Rattle.plain_run.proofs.ShowsLaws.{shows-append, shows-bind, shows-nothing, shows-quiet, shows-give}

counted-append : (t : Tally) (d e : List Event) → counted t (d ++ e) ≡ counted (counted t d) e
unfolding counted
counted-append t [] e = refl
counted-append t (x ∷ d) e = counted-append (counting t x) d e

pub tells-append : {A : Type 0} {a b c : Account} {xs ys zs : List Item} {t u v : Tally} {r s z : Run A} → Tells a xs t r s ys u b → Tells b ys u s z zs v c → Tells a xs t r z zs v c
unfolding shows-append
tells-append {t = t} g h = record {
  shows = shows-append g.shows h.shows;
  counts = h.counts ∙ ap (λ x. counted x h.shows.events) g.counts ∙ sym (counted-append t g.shows.events h.shows.events);
}

pub tells-bind : {A B : Type 0} {a b : Account} {xs ys : List Item} {t u : Tally} {r s : Run A} (f : A → Run B) → Tells a xs t r s ys u b → Tells a xs t (r >>= f) (s >>= f) ys u b
unfolding shows-bind
tells-bind f g = record { shows = shows-bind f g.shows; counts = g.counts }

pub tells-nothing : {A : Type 0} (a : Account) (xs : List Item) (t : Tally) (r : Run A) → Tells a xs t r r xs t a
unfolding shows-nothing counted
tells-nothing a xs t r = record { shows = shows-nothing a xs r; counts = refl }

pub tells-quiet : {A : Type 0} {a b : Account} (xs : List Item) (t : Tally) {r s : Run A} → Goes a r [] s b → Tells a xs t r s xs t b
unfolding shows-quiet counted
tells-quiet xs t g = record { shows = shows-quiet xs g; counts = refl }

pub tells-give : {A : Type 0} (a : Account) (xs : List Item) (t : Tally) (e : Event) (r : Run A) → Tells a xs t (give e r) r (xs ++ shown e ∷ []) (counting t e) a
unfolding shows-give counted
tells-give a xs t e r = record { shows = shows-give a xs e r; counts = refl }
