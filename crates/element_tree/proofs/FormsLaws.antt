-- The properties of each element that was read have their forms, and its regular expressions are those of its patterns.
use Rattle.std.proofs.Common.{◌≡◌, ℕ, zero, suc, ◌+◌, ◌≤◌, Bool, true, ◌||◌, List, [], ◌∷◌, ◌++◌, length, Option, Some, None, refl, sym, ◌∙◌, subst, true≢false, arith, length-append, nat_le, is_some}
use Rattle.std.specs.List.{AllByRecursion, list_any}
use Rattle.std.proofs.lemmas.Bool.Decides.{nat_tests}
use Rattle.serde_json.specs.Data.{Members}
use Rattle.element_tree.specs.declared.kinds.Kind.{Kind}
use Rattle.element_tree.specs.declared.kinds.Kind.TheVariants as kinds
use Rattle.element_tree.specs.declared.kinds.Element.{Element}
use Rattle.element_tree.specs.declared.threads.Thread.{Thread}
use Rattle.element_tree.specs.Types.{type_of}
use Rattle.element_tree.specs.FormedPlan.{HasForms}
use Rattle.element_tree.specs.KeptPatterns.{HasPatterns}
use Rattle.element_tree.specs.Threads.{group_size, group_threads, threads_with, threads_from, is_group_element}
use Rattle.element_tree.specs.Walk.{Spot, own}
use Rattle.element_tree.proofs.Grown.{Grown, grown, Growns, none_grown, then_grown, size, flat, flats, Stand, spot_at, stand_below, WereRead, AllRead}
use Rattle.element_tree.proofs.Outcomes.{both}
use Rattle.element_tree.proofs.OwnLaws.{OwnValues, own_values}
use Rattle.element_tree.proofs.PatternLaws.{has_patterns}

-- the properties of an element have their forms, and its regular expressions are those of its patterns
pub record IsFormed (kind : Kind) : Type 0 where
  pub forms : HasForms kind
  pub patterns : HasPatterns kind

abbrev pub AreFormed : List Element → Type 0
AreFormed es = AllByRecursion (λ (e : Element). IsFormed e.kind) es

formed_append : (xs ys : List Element) → AreFormed xs → AreFormed ys → AreFormed (xs ++ ys)
formed_append [] ys h k = k
formed_append (x ∷ xs) ys h k = (h.0, formed_append xs ys h.1 k)

own_formed : (s : Spot) (ms : Members) (kind : Kind) → OwnValues s ms (type_of kind) kind → IsFormed kind
own_formed s ms kind own = record { forms = (s.version, own.values.fits); patterns = has_patterns s.version s.places ms kind own.values.fits own.values.read }

mutual
  unfolding WereRead

  pub formed_one : (g : Grown) (s : Stand) (parent n : ℕ) → WereRead s g → AreFormed (flat parent n g)
  formed_one (grown name kind gs) s parent n r =
      let w = r.0 in
      let spot = spot_at s w.parent w.places in
      (own_formed spot w.members kind (own_values spot w.number w.written name w.enabled w.members w.below (type_of kind) kind w.own_ok), formed_all gs (stand_below s kind) n (n + 1) r.1)

  formed_all : (gs : Growns) (s : Stand) (parent m : ℕ) → AllRead s gs → AreFormed (flats parent m gs)
  formed_all none_grown s parent m r = tt
  formed_all (then_grown g gs) s parent m r = formed_append (flat parent m g) (flats parent (m + size g) gs) (formed_one g s parent m r.0) (formed_all gs s parent (m + size g) r.1)

-- ---- a group has a thread

group_has : (kind : Kind) → HasForms kind → (n : ℕ) → group_size kind ≡ Some n → 1 ≤ n
group_has (kinds.ThreadGroup loops on_error ramp_ms threads) f n h =
    let same : threads ≡ n = cc in
    let low = both (nat_le 1 threads) (nat_le threads 64) f.1.2.2.2.1 in
    let k : 1 ≤ threads = at_least threads low.0 in
    let P : ℕ → Type 0 = λ m. 1 ≤ m in subst P same k where
      at_least : (m : ℕ) → nat_le 1 m ≡ true → 1 ≤ m
      at_least m h = grind (arith, nat_tests)
group_has kind f n h = cc

threads_count : (element group n : ℕ) → length (group_threads element group n) ≡ n
threads_count element group zero = refl
threads_count element group (suc n) = length-append (group_threads element group n) _ ∙ (let e = threads_count element group n in omega (arith, e))

one_group : (base g : ℕ) (o : Option ℕ) (later : ℕ → List Thread) (rest : Bool) → (is_some o || rest) ≡ true → ((n : ℕ) → o ≡ Some n → 1 ≤ n) → ((h : ℕ) → rest ≡ true → 1 ≤ length (later h)) → 1 ≤ length (threads_with base g o later)
one_group base g None later rest some here more = more g some
one_group base g (Some n) later rest some here more = let k = here n refl in let m = threads_count base g n in omega (arith, k, m, length-append (group_threads base g n) (later (g + 1)))

pub has_thread : (es : List Element) (base g : ℕ) → AreFormed es → list_any is_group_element es ≡ true → 1 ≤ length (threads_from base g es)
has_thread [] base g f h = absurd (true≢false (sym h))
has_thread (e ∷ es) base g f h = one_group base g (group_size e.kind) _ (list_any is_group_element es) (any_step e es h) (group_has e.kind f.0.forms) (λ k rest. has_thread es (base + 1) k f.1 rest) where
  any_step : (e : Element) (es : List Element) → list_any is_group_element (e ∷ es) ≡ true → (is_group_element e || list_any is_group_element es) ≡ true
  any_step e es h = h
