-- How a walk over a tree collects where its elements stand.
use Rattle.std.proofs.Common.{◌≡◌, ℕ, suc, ◌+◌, ◌<◌, ◌≤◌, true, false, List, [], ◌∷◌, ◌++◌, length, get_or, drop, map, sym, ap, ◌∙◌, subst, append_assoc, add-one, drop-cons, rules}
use Rattle.std.specs.Prelude.{if◌then◌else◌}
use Rattle.std.proofs.lemmas.List.{append-nil, drop_all}
use Rattle.serde_json.specs.View.{view}
use Rattle.plan_json.specs.Shape.{raw, raw_then, members_in}
use Rattle.plan_json.specs.TreeSeen.{raw_view, raws_of}
use Rattle.plan_json.specs.declared.raw.RawElement.{RawElement, out-RawElement, the_lemmas}
use Rattle.element_tree.specs.Walk.{is_enabled}
use Rattle.jm_command.specs.Refusals.{places_of, places_below}

-- an element is its fields
raw_seen : (r : RawElement) → raw_view r ≡ raw (out-RawElement r).kind (out-RawElement r).name (out-RawElement r).enabled (members_in (view (out-RawElement r).props)) (raws_of (map raw_view (out-RawElement r).children.items))
raw_seen r = search (rules, the_lemmas)

raws_step : (cs : List RawElement) (i : ℕ) (v : RawElement) → i < length cs → v ≡ get_or cs i v → raws_of (map raw_view (drop i cs)) ≡ raw_then (raw_view v) (raws_of (map raw_view (drop (i + 1) cs)))
raws_step cs i v h is = rw add-one (ap (λ (vs : List RawElement). raws_of (map raw_view vs)) (drop-cons cs i v h) ∙ ap (λ w. raw_then (raw_view w) (raws_of (map raw_view (drop (suc i) cs)))) (sym is))

is_enabled_seen : (r : RawElement) → is_enabled (raw_view r) ≡ (out-RawElement r).enabled
is_enabled_seen r = ap is_enabled (raw_seen r)

-- the first is the element itself
pub first_place : (here : List ℕ) (v : RawElement) (old now : List (List ℕ)) (item : List ℕ) → now ≡ old ++ item ∷ [] → item ≡ here
    → now ++ places_below here 0 (raws_of (map raw_view (out-RawElement v).children.items)) ≡ old ++ places_of here (raw_view v)
unfolding places_of
first_place here v old now item is item_is =
    rw (is, item_is, raw_seen v) (append_assoc old (here ∷ []) (places_below here 0 (raws_of (map raw_view (out-RawElement v).children.items))))

module _ (here : List ℕ) (cs : List RawElement) (i : ℕ) (v : RawElement) (h : i < length cs) (is : v ≡ get_or cs i v) (done all : List (List ℕ))
    (kept : done ++ places_below here i (raws_of (map raw_view (drop i cs))) ≡ all) where
  abbrev left : List (List ℕ)
  left = places_below here (i + 1) (raws_of (map raw_view (drop (i + 1) cs)))

  opened : done ++ ((if is_enabled (raw_view v) then places_of (here ++ i ∷ []) (raw_view v) else []) ++ left) ≡ all
  unfolding places_of
  opened = subst (λ rs. done ++ places_below here i rs ≡ all) (raws_step cs i v h is) kept

  -- a disabled child is passed over
  pub skipped : (out-RawElement v).enabled ≡ false → done ++ left ≡ all
  skipped off = subst (λ b. done ++ ((if b then places_of (here ++ i ∷ []) (raw_view v) else []) ++ left) ≡ all) (is_enabled_seen v ∙ off) opened

  -- an enabled child comes with those below it
  pub added : (more : List (List ℕ)) (now : List ℕ) → (out-RawElement v).enabled ≡ true → now ≡ here ++ i ∷ [] → more ≡ done ++ places_of now (raw_view v) → more ++ left ≡ all
  added more now on at_now is_more =
      let o : done ++ (places_of (here ++ i ∷ []) (raw_view v) ++ left) ≡ all =
      subst (λ b. done ++ ((if b then places_of (here ++ i ∷ []) (raw_view v) else []) ++ left) ≡ all) (is_enabled_seen v ∙ on) opened in
      rw (is_more, at_now) (append_assoc done (places_of (here ++ i ∷ []) (raw_view v)) left ∙ o)

-- after the last child
pub all_placed : (here : List ℕ) (cs : List RawElement) (i : ℕ) (done all : List (List ℕ)) → length cs ≤ i → done ++ places_below here i (raws_of (map raw_view (drop i cs))) ≡ all → done ≡ all
unfolding places_of
all_placed here cs i done all h kept =
    sym (append-nil done) ∙ subst (λ (vs : List RawElement). done ++ places_below here i (raws_of (map raw_view vs)) ≡ all) (drop_all i cs h) kept
