use Rattle.std.proofs.Common.{◌≡◌, ◌∙◌, List, ℕ, Bool, true, false, Option, Some, None, refl, sym}
use Rattle.std.specs.Prelude.{IfSome}
use Rattle.std.specs.Bool.{Decides}
use Rattle.std.proofs.lemmas.Bool.Decides.{Decides-eqb}
use Rattle.std.proofs.lemmas.Slice.Eq.{slice_eq-Decides}
use Rattle.name_map.proofs.NameLaws.{same_from_is}
use Rattle.thread_vars.specs.Vars.{is_same, last_sample_ok}
use Rattle.thread_vars.proofs.table.known_after.Goals as goal

apart : (a b : List ℕ) → (s : Bool) → is_same a b ≡ s → Decides false (b ≡ a) → s ≡ false
apart a b true is d = let equal : false ≡ true = d.1 (sym (same_from_is a b is)) in cc
apart a b false is d = refl

stays : (known : Option Bool) (name : List ℕ) → is_same last_sample_ok name ≡ false → IfSome known (λ ok. (known ≡ Some ok) × (is_same last_sample_ok name ≡ false))
stays None name h = tt
stays (Some ok) name h = (refl, h)

pub returns-else-eq : goal.returns-else-eq
returns-else-eq c =
    let differs : Decides false (c.args.name.now ≡ last_sample_ok) = slice_eq-Decides Decides-eqb c.args.name.now last_sample_ok false (sym c.if-eq.false ∙ c.eq.ensures) in
    stays c.args.known c.args.name.now (apart last_sample_ok c.args.name.now (is_same last_sample_ok c.args.name.now) refl differs)
