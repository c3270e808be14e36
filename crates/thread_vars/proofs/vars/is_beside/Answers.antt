use Rattle.std.proofs.Common.{◌≡◌, ℕ, List, Bool, true, false, refl}
use Rattle.std.specs.Prelude.{MatchBool}
use Rattle.std.specs.Bool.{Decides}
use Rattle.std.proofs.lemmas.Bool.Decides.{Decides-eqb}
use Rattle.std.proofs.lemmas.Slice.Eq.{slice_eq-Decides}
use Rattle.thread_vars.specs.Vars.{is_same}
use Rattle.name_map.proofs.NameLaws.{same_from_is}
use Rattle.thread_vars.proofs.vars.is_beside.Goals as goal

decided : (r beside : Bool) (asked name : List ℕ) → beside ≡ true → Decides r (asked ≡ name) → MatchBool r ((beside ≡ true) × (asked ≡ name)) (beside ≡ true → is_same asked name ≡ false)
decided true beside asked name b d = (b, d.0 refl)
decided false beside asked name b d = λ _. apart (is_same asked name) refl
  where
    apart : (s : Bool) → is_same asked name ≡ s → s ≡ false
    apart true is = let equal : false ≡ true = d.1 (same_from_is asked name is) in cc
    apart false is = refl

pub returns-then-beside : goal.returns-then-beside
returns-then-beside c = decided c.eq.result c.args.beside c.args.asked.now c.args.name.now c.if-beside.true (slice_eq-Decides Decides-eqb c.args.asked.now c.args.name.now c.eq.result c.eq.ensures)
