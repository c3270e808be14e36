-- A plan that is written is built again as the same plan.
use Rattle.std.proofs.Common.{◌≡◌, ℕ, ◌+◌, ◌≤◌, max, Bool, true, false, not, ◌&&◌, List, [], ◌∷◌, ◌++◌, length, Option, Some, None, Ok, refl, sym, subst, true≢false, arith, nat_lt, nat_le, if◌then◌else◌, unwrap_or, option_and_then, codes}
use Rattle.std.specs.List.{list_any}
use Rattle.std.proofs.lemmas.List.{append-nil}
use Rattle.std.proofs.lemmas.Bool.Decides.{nat_tests}
use Rattle.serde_json.specs.Data.{Members}
use Rattle.serde_json.specs.Find.{get_member, as_number, as_u64}
use Rattle.plan_json.specs.Place.{at}
use Rattle.plan_json.specs.Shape.{Raw, raw, Raws, no_raws, raw_then, shape, shapes}
use Rattle.element_props.specs.declared.error.BuildError.{BuildError}
use Rattle.element_props.specs.declared.error.BuildError.TheVariants.{UnknownType, BadProp, TooMany, TooDeep, WrongPlace}
use Rattle.element_props.specs.declared.error.What.TheVariants as what
use Rattle.element_props.specs.NamedProps.{NamedValue}
use Rattle.element_props.specs.Again.{HoldJson, ReadsAgain}
use Rattle.element_props.specs.Props.{own_properties}
use Rattle.element_props.specs.Reads.{over, ◌>>=◌, refuse_if, or_refuse, outcome}
use Rattle.element_props.specs.FormRows.{Row}
use Rattle.element_props.specs.PropertiesWritten.{written}
use Rattle.element_tree.specs.declared.kinds.Kind.{Kind}
use Rattle.element_tree.specs.declared.kinds.Element.{Element}
use Rattle.element_tree.specs.declared.types.ElementType.{ElementType}
use Rattle.element_tree.specs.declared.types.Class.{Class}
use Rattle.element_tree.specs.Types.{type_of, class_of_type, may_stand, is_leaf, is_section_type}
use Rattle.element_tree.specs.Table.{rows, type_name, type_of_name}
use Rattle.element_tree.specs.Kinds.{kind_of}
use Rattle.element_tree.specs.Values.{values_of}
use Rattle.element_tree.specs.Names.{labels_of, locks_of}
use Rattle.element_tree.specs.Threads.{threads_in, is_group_element}
use Rattle.element_tree.specs.Tree.{Tree}
use Rattle.element_tree.specs.Walk.{Spot, placed, own, is_right, child_spot, at_place, elements, below, is_enabled, has_enabled, root_spot, known_version, version_of, props_of, tree_of, counted, walked, reading}
use Rattle.element_tree.specs.PlanWritten.{data_of, items_of, written_props, plan_tree, written_tree}
use Rattle.element_tree.proofs.OfJson.{IsJsonTree}
use Rattle.element_tree.proofs.Outcomes.{bind_ok, bind_again, over_ok, both, at_most}
use Rattle.element_tree.proofs.OwnLaws.{own_values}
use Rattle.element_tree.proofs.StandLaws.{Placed, own_placed}
use Rattle.element_tree.proofs.TableLaws.{name_again, rows_same, rows_stand}
use Rattle.element_tree.proofs.RebuiltLaws.{OwnAgain, spot, height, heights, elements_again}

-- What is written of properties that were read is read again as these properties, wherever the element stands.
abbrev pub PropsAgain : Type 0
PropsAgain = (version : ℕ) (t : ElementType) (ms : Members) (ps : List NamedValue) (places places' : List ℕ) → HoldJson ms
    → outcome (own_properties places ms (rows version t)) ≡ Ok ps → outcome (own_properties places' (written (rows version t) ps) (rows version t)) ≡ Ok ps

pub props_again : ReadsAgain → PropsAgain
props_again again version t ms ps places places' json h = again (rows version t) ms ps places places' (rows_stand version t) json h

-- ---- the value of a tree has the shape of that tree

mutual
  unfolding shape

  pub shape_again : (here : List ℕ) (r : Raw) → shape here (data_of r) ≡ Ok r
  shape_again here (raw kind name enabled props cs) = rw (shapes_again here 0 cs) refl

  shapes_again : (here : List ℕ) (n : ℕ) (rs : Raws) → shapes here n (items_of rs) ≡ Ok rs
  shapes_again here n no_raws = refl
  shapes_again here n (raw_then r rs) = rw (shape_again (here ++ n ∷ []) r, shapes_again here (n + 1) rs) refl

-- ---- one element

and_true : (a b : Bool) → a ≡ true → b ≡ true → (a && b) ≡ true
and_true a b h k = rw (h, k) refl

leaf_again : (a b c : Bool) → not (a && b) ≡ true → (b ≡ false → c ≡ false) → not (a && c) ≡ true
leaf_again false b c h k = refl
leaf_again true false c h k = rw (k refl) refl
leaf_again true true c h k = absurd (true≢false (sym h))

checks_again : (a c e : Bool) (d : ElementType → Bool) (o : Option ElementType) (t : ElementType) (elements_fault type_fault deep_fault place_fault name_fault : BuildError)
    → a ≡ false → o ≡ Some t → c ≡ false → d t ≡ true → e ≡ false
    → outcome (refuse_if a elements_fault >>= (λ _. or_refuse o type_fault >>= (λ u. refuse_if c deep_fault >>= (λ _. refuse_if (not (d u)) place_fault >>= (λ _. refuse_if e name_fault >>= (λ _. over u)))))) ≡ Ok t
checks_again a c e d o t e0 e1 e2 e3 e4 few named deep right short = rw (few, named, deep, right, short) refl

placed_again : (above : Option Class) (depth : ℕ) (inside : Bool) (parent version : ℕ) (places places' : List ℕ) (n : ℕ) (kind name : List ℕ) (enabled : Bool) (cs cs' : Raws) (t : ElementType)
    → Placed (spot above depth inside parent places version) n kind name enabled cs t → (has_enabled cs ≡ false → has_enabled cs' ≡ false)
    → outcome (placed (spot above depth inside parent places' version) n (type_name t) name true cs') ≡ Ok t
placed_again above depth inside parent version places places' n kind name enabled cs cs' t p none =
    let a = both enabled _ p.right in
    let b = both (may_stand above (class_of_type t)) _ a.1 in
    let c = both (not (inside && is_section_type t)) _ b.1 in
    let leaf = leaf_again (is_leaf (class_of_type t)) (has_enabled cs) (has_enabled cs') c.1 none in
    checks_again (nat_le 4096 n) (nat_lt 32 depth) (nat_lt 256 (length name)) (λ u. is_right (spot above depth inside parent places' version) true cs' u) (type_of_name (type_name t)) t
    (TooMany (at places') what.Elements) (UnknownType (at places')) (TooDeep (at places')) (WrongPlace (at places')) (TooMany (at places') what.Text) p.few (name_again t) p.deep
    (and_true (may_stand above (class_of_type t)) _ b.0 (and_true (not (inside && is_section_type t)) _ c.0 leaf)) p.short

or_again : (o : Option Kind) (e : BuildError) (k : Kind) → o ≡ Some k → outcome (or_refuse o e) ≡ Ok k
or_again o e k h = rw h refl

own_same : PropsAgain → (above : Option Class) (depth : ℕ) (inside : Bool) (parent version w : ℕ) (places places' : List ℕ) (n : ℕ) (kind name : List ℕ) (enabled : Bool) (ms : Members) (cs cs' : Raws) (made : Kind)
    → HoldJson ms → outcome (own (spot above depth inside parent places version) n kind name enabled ms cs) ≡ Ok (type_of made, made) → (has_enabled cs ≡ false → has_enabled cs' ≡ false)
    → outcome (own (spot above depth inside parent places' version) n (type_name (type_of made)) name true (written_props w made) cs') ≡ Ok (type_of made, made)
unfolding own
own_same again above depth inside parent version w places places' n kind name enabled ms cs cs' made json h none =
    let s = spot above depth inside parent places version in
    let s' = spot above depth inside parent places' version in
    let t = type_of made in
    let p = own_placed s n kind name enabled ms cs t made h in
    let v = (own_values s n kind name enabled ms cs t made h).values in
    let props = again version t ms (values_of made) places places' json v.read in
    let P : List Row → Type 0 = λ rs. outcome (own_properties places' (written rs (values_of made)) (rows version t)) ≡ Ok (values_of made) in
    let read : outcome (own_properties places' (written_props w made) (rows version t)) ≡ Ok (values_of made) = subst P (rows_same version w t) props in
    let fault = BadProp (at places') in
    let values = values_of made in
    let props_of_it = written_props w made in
    let made_of = λ (u : ElementType) (ps : List NamedValue). or_refuse (kind_of u ps) fault >>= (λ k. over (u, k)) in
    let read_of = λ (u : ElementType). own_properties places' props_of_it (rows version u) >>= made_of u in
    bind_again (placed s' n (type_name t) name true cs') read_of t (t, made) (placed_again above depth inside parent version places places' n kind name enabled cs cs' t p none)
    (bind_again (own_properties places' props_of_it (rows version t)) (made_of t) values (t, made) read
    (bind_again (or_refuse (kind_of t values) fault) (λ k. over (t, k)) made (t, made) (or_again (kind_of t values) fault made v.again) refl))

pub own_again : PropsAgain → OwnAgain
own_again again above depth inside parent version w places places' n kind name enabled ms cs cs' t made json h none =
    let s = spot above depth inside parent places version in
    let s' = spot above depth inside parent places' version in
    let same = (own_values s n kind name enabled ms cs t made h).of_type in
    let P : ElementType → Type 0 = λ u. outcome (own s n kind name enabled ms cs) ≡ Ok (u, made) in
    let Q : ElementType → Type 0 = λ u. outcome (own s' n (type_name (type_of made)) name true (written_props w made) cs') ≡ Ok (u, made) in
    subst Q same (own_same again above depth inside parent version w places places' n kind name enabled ms cs cs' made json (subst P (sym same) h) none)

-- ---- how deep

nests_step : (s : Spot) (i n : ℕ) (r : Raw) (rs : Raws) (b : List ℕ × List Element)
    → ((xs : List Element) → outcome (elements (at_place s i) n r) ≡ Ok xs → s.depth + height r ≤ 33)
    → ((m : ℕ) (c : List ℕ × List Element) → outcome (below s (i + 1) m rs) ≡ Ok c → s.depth + heights rs ≤ 33)
    → (t : Bool) → is_enabled r ≡ t → outcome (below s i n (raw_then r rs)) ≡ Ok b → s.depth + (if t then max (height r) (heights rs) else heights rs) ≤ 33
unfolding elements
nests_step s i n r rs b one rest false is h = rest n b (rw is at h)
nests_step s i n r rs b one rest true is h =
    let opened = rw is at h in
    let x = bind_ok (elements (at_place s i) n r) _ b opened in
    let c = bind_ok (below s (i + 1) (n + length x.0) rs) _ b x.2 in
    let first = one x.0 x.1 in
    let later = rest (n + length x.0) c.0 c.1 in
    omega (arith, first, later)

mutual
  unfolding elements

  nests_one : (r : Raw) (s : Spot) (n : ℕ) (xs : List Element) → outcome (elements s n r) ≡ Ok xs → s.depth + height r ≤ 33
  nests_one (raw kind name enabled ms cs) s n xs h =
      let o = bind_ok (own s n kind name enabled ms cs) _ xs h in
      let b = bind_ok (below (child_spot s o.0.0 n) 0 (n + 1) cs) _ xs o.2 in
      let p = own_placed s n kind name enabled ms cs o.0.0 o.0.1 o.1 in
      let deep = at_most 32 s.depth p.deep in
      let under = nests_below cs (child_spot s o.0.0 n) 0 (n + 1) b.0 (omega arith) b.1 in
      omega (arith, under)

  nests_below : (rs : Raws) (s : Spot) (i n : ℕ) (b : List ℕ × List Element) → s.depth ≤ 33 → outcome (below s i n rs) ≡ Ok b → s.depth + heights rs ≤ 33
  nests_below no_raws s i n b deep h = omega arith
  nests_below (raw_then r rs) s i n b deep h =
      nests_step s i n r rs b (λ xs k. nests_one r (at_place s i) n xs k) (λ m c k. nests_below rs s (i + 1) m c deep k) (is_enabled r) refl h

-- ---- the plan

one_only : (n : ℕ) → nat_le 1 n ≡ true → nat_le n 1 ≡ true → n ≡ 1
one_only n low high = grind (arith, nat_tests)

known_one : (n : ℕ) (b : Bool) → (nat_le 1 n && nat_le n 1) ≡ b → unwrap_or (if b then Some n else None) 1 ≡ 1
known_one n false h = refl
known_one n true h = let k = both (nat_le 1 n) (nat_le n 1) h in one_only n k.0 k.1

unwrap_one : (o : Option ℕ) → unwrap_or (option_and_then known_version o) 1 ≡ 1
unwrap_one None = refl
unwrap_one (Some n) = known_one n (nat_le 1 n && nat_le n 1) refl

version_one : (ms : Members) → version_of ms ≡ 1
version_one ms = unwrap_one (option_and_then as_u64 (option_and_then as_number (get_member (codes "version") ms)))

counted_ok : (es : List Element) (plan : Tree) → outcome (counted es) ≡ Ok plan → tree_of es ≡ plan
unfolding counted
counted_ok es plan h =
    let a = bind_ok (refuse_if (not (list_any is_group_element es)) _) _ plan h in
    let b = bind_ok (refuse_if (nat_lt 64 (length (threads_in es))) _) _ plan a.2 in
    let c = bind_ok (refuse_if (nat_lt 256 (length (labels_of es))) _) _ plan b.2 in
    let d = bind_ok (refuse_if (nat_lt 256 (length (locks_of es))) _) _ plan c.2 in
    over_ok (tree_of es) plan d.2

walked_again : PropsAgain → (tree : Raw) (es : List Element) → IsJsonTree tree → outcome (walked tree) ≡ Ok es → outcome (walked (plan_tree (tree_of es))) ≡ Ok es
unfolding walked
walked_again again tree es json h =
    let V : ℕ → Type 0 = λ v. outcome (elements (root_spot v) 0 tree) ≡ Ok es in
    let W : ℕ → Type 0 = λ v. outcome (elements (root_spot v) 0 (plan_tree (tree_of es))) ≡ Ok es in
    let first : outcome (elements (root_spot 1) 0 tree) ≡ Ok es = subst V (version_one (props_of tree)) h in
    let nests = nests_one tree (root_spot 1) 0 es first in
    let again_ = elements_again (own_again again) tree None 1 false 0 1 (tree_of es).version [] [] 0 es 32 [] [] json first refl (omega (arith, nests)) in
    let E : List Element → Type 0 = λ xs. outcome (elements (root_spot 1) 0 (written_tree 32 (record { version = (tree_of es).version; elements = xs }) 0)) ≡ Ok es in
    let whole : outcome (elements (root_spot 1) 0 (plan_tree (tree_of es))) ≡ Ok es = subst E (append-nil es) again_ in
    subst W (sym (version_one (props_of (plan_tree (tree_of es))))) whole

pub built_again : PropsAgain → (tree : Raw) (plan : Tree) → IsJsonTree tree → outcome (reading tree) ≡ Ok plan → outcome (reading (plan_tree plan)) ≡ Ok plan
unfolding reading
built_again again tree plan json h =
    let w = bind_ok (walked tree) counted plan h in
    let same = counted_ok w.0 plan w.2 in
    let P : Tree → Type 0 = λ p. outcome (reading (plan_tree p)) ≡ Ok plan in
    subst P same (bind_again (walked (plan_tree (tree_of w.0))) counted w.0 plan (walked_again again tree w.0 json w.1) w.2)
