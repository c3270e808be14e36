-- The tree that a text is read as is one of JSON.
use Rattle.std.proofs.Common.{◌≡◌, ℕ, ◌+◌, Bool, true, false, not, List, [], ◌∷◌, ◌++◌, Option, Some, None, Result, Ok, Err, option_and_then, unwrap_or, if◌then◌else◌, bytes_eq, refl, subst, IsUtf8, Ordering, Less, Equal, Greater}
use Rattle.std.specs.Ordering.{nat_cmp, match_ordering}
use Rattle.std.specs.Str.{is_utf8}
use Rattle.std.specs.Cmp.Lexicographic.{slice_cmp}
use Rattle.std.proofs.lemmas.Str.{IsUtf8-nil, IsUtf8-from_is_utf8}
use Rattle.serde_json.specs.Data.{Data, null, boolean, number, string, array, object, Items, no_items, item, Members, no_members, member}
use Rattle.serde_json.specs.Find.{get_member, as_str, as_object}
use Rattle.serde_json.specs.Read.{read}
use Rattle.plan_json.specs.declared.error.TreeError.{TreeError}
use Rattle.plan_json.specs.declared.error.TreeError.TheVariants as errors
use Rattle.plan_json.specs.Place.{at}
use Rattle.plan_json.specs.Shape.{Raw, Raws, no_raws, raw_then, ◌>>=◌, type_key, name_key, props_key, children_key, at_key, is_element, has_other_key, element_of, shape, shape_below, shapes, shape_of_json, reading_of}
use Rattle.element_props.specs.Again.{IsJson, AreJson, HoldJson}
use Rattle.element_tree.proofs.OfJson.{IsJsonTree, AreJsonTrees}
use Rattle.element_tree.proofs.JsonValues.{read_json}

-- ---- what stands at a key

found_json : (o : Ordering) (e d : Data) (later : Option Data) → IsJson e → (later ≡ Some d → IsJson d) → match_ordering o later (Some e) later ≡ Some d → IsJson d
found_json Less e d later h more g = more g
found_json Equal e d later h more g = let same : e ≡ d = cc in subst IsJson same h
found_json Greater e d later h more g = more g

member_json : (k : List ℕ) (ms : Members) (d : Data) → HoldJson ms → get_member k ms ≡ Some d → IsJson d
member_json k no_members d h g = absurd (cc)
member_json k (member l e ms) d h g = found_json (slice_cmp nat_cmp k l) e d (get_member k ms) h.0 (λ more. member_json k ms d h.1 more) g

text_in : (o : Option Data) (other : List ℕ) → ((d : Data) → o ≡ Some d → IsJson d) → IsUtf8 other → IsUtf8 (unwrap_or (option_and_then as_str o) other)
text_in None other h u = u
text_in (Some null) other h u = u
text_in (Some (boolean b)) other h u = u
text_in (Some (number n)) other h u = u
text_in (Some (string s)) other h u = h (string s) refl
text_in (Some (array ds)) other h u = u
text_in (Some (object ms)) other h u = u

members_in : (o : Option Data) → ((d : Data) → o ≡ Some d → IsJson d) → HoldJson (unwrap_or (option_and_then as_object o) no_members)
members_in None h = tt
members_in (Some null) h = tt
members_in (Some (boolean b)) h = tt
members_in (Some (number n)) h = tt
members_in (Some (string s)) h = tt
members_in (Some (array ds)) h = tt
members_in (Some (object ms)) h = h (object ms) refl

-- ---- the tree

opened : (a b : Bool) (e f : TreeError) (children : Result Raws TreeError) (make : Raws → Raw) (r : Raw)
    → (if a then Err e else (if b then Err f else (children >>= (λ cs. Ok (make cs))))) ≡ Ok r → (cs : Raws) × (children ≡ Ok cs) × (make cs ≡ r)
opened true b e f children make r h = absurd (cc)
opened false true e f children make r h = absurd (cc)
opened false false e f (Err g) make r h = absurd (cc)
opened false false e f (Ok cs) make r h = (cs, refl, cc)

then_ok : {A B : Type 0} (r : Result A TreeError) (f : A → Result B TreeError) (b : B) → (r >>= f) ≡ Ok b → (a : A) × (r ≡ Ok a) × (f a ≡ Ok b)
then_ok (Err e) f b h = absurd (cc)
then_ok (Ok a) f b h = (a, refl, h)

same_ok : {A : Type 0} (a b : A) → ◌≡◌ {A = Result A TreeError} (Ok a) (Ok b) → a ≡ b
same_ok a b h = cc

either : (b : Bool) (x y : Result Raws TreeError) (rs : Raws) → (x ≡ Ok rs → AreJsonTrees rs) → (y ≡ Ok rs → AreJsonTrees rs) → (if b then x else y) ≡ Ok rs → AreJsonTrees rs
either true x y rs one other h = one h
either false x y rs one other h = other h

mutual
  unfolding shape

  tree_json : (here : List ℕ) (d : Data) (r : Raw) → IsJson d → shape here d ≡ Ok r → IsJsonTree r
  tree_json here null r j h = absurd (cc)
  tree_json here (boolean b) r j h = absurd (cc)
  tree_json here (number n) r j h = absurd (cc)
  tree_json here (string s) r j h = absurd (cc)
  tree_json here (array ds) r j h = absurd (cc)
  tree_json here (object ms) r j h =
      let o = opened (not (is_element ms)) (has_other_key ms) (errors.NotElement (at here)) (errors.UnknownKey (at here)) (shape_below here ms) (element_of ms) r h in
      let kind = text_in (get_member type_key ms) [] (λ d g. member_json type_key ms d j g) IsUtf8-nil in
      subst IsJsonTree o.2 (
        text_in (get_member name_key ms) (at_key type_key as_str [] ms) (λ d g. member_json name_key ms d j g) kind,
        members_in (get_member props_key ms) (λ d g. member_json props_key ms d j g),
        below_json here ms o.0 j o.1,
      )

  below_json : (here : List ℕ) (ms : Members) (rs : Raws) → HoldJson ms → shape_below here ms ≡ Ok rs → AreJsonTrees rs
  below_json here no_members rs j h = subst AreJsonTrees (same_ok no_raws rs h) tt
  below_json here (member k (array ds) ms) rs j h =
      either (bytes_eq children_key k) (shapes here 0 ds) (shape_below here ms) rs (λ g. list_json here 0 ds rs j.0 g) (λ g. below_json here ms rs j.1 g) h
  below_json here (member k null ms) rs j h = below_json here ms rs j.1 h
  below_json here (member k (boolean b) ms) rs j h = below_json here ms rs j.1 h
  below_json here (member k (number n) ms) rs j h = below_json here ms rs j.1 h
  below_json here (member k (string s) ms) rs j h = below_json here ms rs j.1 h
  below_json here (member k (object os) ms) rs j h = below_json here ms rs j.1 h

  list_json : (here : List ℕ) (n : ℕ) (ds : Items) (rs : Raws) → AreJson ds → shapes here n ds ≡ Ok rs → AreJsonTrees rs
  list_json here n no_items rs j h = subst AreJsonTrees (same_ok no_raws rs h) tt
  list_json here n (item d ds) rs j h =
      let x = then_ok (shape (here ++ n ∷ []) d) (λ x. shapes here (n + 1) ds >>= (λ xs. Ok (raw_then x xs))) rs h in
      let xs = then_ok (shapes here (n + 1) ds) (λ xs. Ok (raw_then x.0 xs)) rs x.2 in
      subst AreJsonTrees (same_ok (raw_then x.0 xs.0) rs xs.2) (tree_json (here ++ n ∷ []) d x.0 j.0 x.1, list_json here (n + 1) ds xs.0 j.1 xs.1)

shaped_json : (o : Option Data) (tree : Raw) → ((d : Data) → o ≡ Some d → IsJson d) → shape_of_json o ≡ Ok tree → IsJsonTree tree
shaped_json None tree h g = absurd (cc)
shaped_json (Some d) tree h g = tree_json [] d tree (h d refl) g

decoded_json : (b : Bool) (text : List ℕ) (tree : Raw) → is_utf8 text ≡ b → (if b then shape_of_json (read text) else Err errors.NotUtf8) ≡ Ok tree → IsJsonTree tree
decoded_json true text tree is h = shaped_json (read text) tree (λ d g. read_json text d (IsUtf8-from_is_utf8 text is) g) h
decoded_json false text tree is h = absurd (cc)

pub reading_json : (text : List ℕ) (tree : Raw) → reading_of text ≡ Ok tree → IsJsonTree tree
unfolding reading_of
reading_json text tree h = decoded_json (is_utf8 text) text tree refl h
