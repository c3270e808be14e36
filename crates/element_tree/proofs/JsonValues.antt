-- The value of a text in UTF-8 is one of JSON.
use Rattle.std.proofs.Common.{◌≡◌, ℕ, zero, suc, ◌^◌, ◌<◌, ◌≤◌, Bool, true, false, ◌&&◌, ◌==◌, nat_lt, nat_le, List, [], ◌∷◌, length, drop, slice_index, Option, Some, None, option_map, option_and_then, if◌then◌else◌, refl, sym, subst, true≢false, arith, IsUtf8, Ordering, Less, Equal, Greater, FitsSigned}
use Rattle.std.specs.Float.{binary64, float_is_finite}
use Rattle.std.specs.Int.{w64}
use Rattle.std.specs.Ordering.{nat_cmp, match_ordering}
use Rattle.std.specs.Cmp.Lexicographic.{slice_cmp}
use Rattle.std.proofs.lemmas.Bool.Decides.{nat_tests}
use Rattle.fast_float.specs.Text.{Parts, minus, scan, digits_of, nearest, with_sign}
use Rattle.json.specs.Token.{Token}
use Rattle.json.specs.Lex as lexer
use Rattle.json.specs.Json as json
use Rattle.json.specs.Json.{Parse, parse_map, after_end_array, read_key, items_step, members_step, value_with, if_last}
use Rattle.serde_json.specs.Data.{Num, unsigned, negative, float, Data, null, boolean, number, string, array, object, Items, no_items, item, Members, no_members, member, put}
use Rattle.serde_json.specs.Read.{is_integer, float_of, number_from, number_of, of_json, of_items, of_members, max_depth, read}
use Rattle.element_props.specs.Again.{HasWidth, IsJson, AreJson, HoldJson}
use Rattle.element_tree.proofs.JsonTokens.{HaveTexts, tokens_texts}

-- ---- the grammar

abbrev mutual
  Texts : json.Json → Type 0
  Texts json.null = Unit {0}
  Texts (json.boolean b) = Unit {0}
  Texts (json.number s) = Unit {0}
  Texts (json.string s) = IsUtf8 s
  Texts (json.array js) = ItemTexts js
  Texts (json.object ms) = MemberTexts ms

  ItemTexts : json.Items → Type 0
  ItemTexts json.no_items = Unit {0}
  ItemTexts (json.item j js) = Texts j × ItemTexts js

  MemberTexts : json.Members → Type 0
  MemberTexts json.no_members = Unit {0}
  MemberTexts (json.member k j ms) = Texts j × MemberTexts ms

-- what is parsed of tokens with texts in UTF-8 has this, and so has what is left
abbrev Parses : {A : Type 0} → (A → Type 0) → Parse A → Type 0
Parses {A} P parse = (ts : List Token) → HaveTexts ts → (r : A × List Token) → parse ts ≡ Some r → P r.0 × HaveTexts r.1

some_of : {A B : Type 0} (f : A → Option B) (o : Option A) (b : B) → option_and_then f o ≡ Some b → (a : A) × (o ≡ Some a) × (f a ≡ Some b)
some_of f None b h = absurd (cc)
some_of f (Some a) b h = (a, refl, h)

mapped : {A B : Type 0} (f : A → B) (o : Option A) (b : B) → option_map f o ≡ Some b → (a : A) × (o ≡ Some a) × (f a ≡ b)
mapped f None b h = absurd (cc)
mapped f (Some a) b h = (a, refl, cc)

same_some : {A : Type 0} (a b : A) → ◌≡◌ {A = Option A} (Some a) (Some b) → a ≡ b
same_some a b h = cc

end_texts : (ts rest : List Token) → HaveTexts ts → after_end_array ts ≡ Some rest → HaveTexts rest
end_texts [] rest all h = absurd (cc)
end_texts (Token.begin_object ∷ ts) rest all h = absurd (cc)
end_texts (Token.end_object ∷ ts) rest all h = absurd (cc)
end_texts (Token.begin_array ∷ ts) rest all h = absurd (cc)
end_texts (Token.end_array ∷ ts) rest all h = subst HaveTexts (same_some ts rest h) all.1
end_texts (Token.key s ∷ ts) rest all h = absurd (cc)
end_texts (Token.string s ∷ ts) rest all h = absurd (cc)
end_texts (Token.number s ∷ ts) rest all h = absurd (cc)
end_texts (Token.boolean b ∷ ts) rest all h = absurd (cc)
end_texts (Token.null ∷ ts) rest all h = absurd (cc)
end_texts (Token.bad ∷ ts) rest all h = absurd (cc)

abbrev AnyKey : Option (List ℕ) → Type 0
AnyKey k = Unit {0}

key_texts : Parses AnyKey read_key
key_texts [] all r h = absurd (cc)
key_texts (Token.begin_object ∷ ts) all r h = absurd (cc)
key_texts (Token.end_object ∷ ts) all r h = let e = same_some (None, ts) r h in (tt, subst (λ (q : Option (List ℕ) × List Token). HaveTexts q.1) e all.1)
key_texts (Token.begin_array ∷ ts) all r h = absurd (cc)
key_texts (Token.end_array ∷ ts) all r h = absurd (cc)
key_texts (Token.key s ∷ ts) all r h = let e = same_some (Some s, ts) r h in (tt, subst (λ (q : Option (List ℕ) × List Token). HaveTexts q.1) e all.1)
key_texts (Token.string s ∷ ts) all r h = absurd (cc)
key_texts (Token.number s ∷ ts) all r h = absurd (cc)
key_texts (Token.boolean b ∷ ts) all r h = absurd (cc)
key_texts (Token.null ∷ ts) all r h = absurd (cc)
key_texts (Token.bad ∷ ts) all r h = absurd (cc)

map_texts : {A B : Type 0} (P : A → Type 0) (Q : B → Type 0) (f : A → B) → ((a : A) → P a → Q (f a)) → (o : Option (A × List Token)) (r : B × List Token)
    → ((p : A × List Token) → o ≡ Some p → P p.0 × HaveTexts p.1) → parse_map f o ≡ Some r → Q r.0 × HaveTexts r.1
map_texts {A} {B} P Q f keeps None r all h = absurd (cc)
map_texts {A} {B} P Q f keeps (Some p) r all h =
    let e : (f p.0, p.1) ≡ r = same_some (f p.0, p.1) r h in
    let a = all p refl in
    subst (λ (q : B × List Token). Q q.0 × HaveTexts q.1) e (keeps p.0 a.0, a.1)

item_texts : (value : Parse json.Json) (more : Parse json.Items) → Parses Texts value → Parses ItemTexts more → (ts : List Token) → HaveTexts ts → (o : Option (List Token)) → after_end_array ts ≡ o
    → (r : json.Items × List Token) → items_step value more ts o ≡ Some r → ItemTexts r.0 × HaveTexts r.1
item_texts value more first later ts all (Some rest) is r h =
    let e = same_some (json.no_items, rest) r h in
    subst (λ (q : json.Items × List Token). ItemTexts q.0 × HaveTexts q.1) e (tt, end_texts ts rest all is)
item_texts value more first later ts all None is r h =
    let p = some_of (λ p. parse_map (json.item p.0) (more p.1)) (value ts) r h in
    let one = first ts all p.0 p.1 in
    map_texts ItemTexts ItemTexts (json.item p.0.0) (λ js k. (one.0, k)) (more p.0.1) r (λ q k. later p.0.1 one.1 q k) p.2

items_texts : (value : Parse json.Json) → Parses Texts value → (n : ℕ) → Parses ItemTexts (json.items value n)
unfolding json.items
items_texts value first zero ts all r h = absurd (cc)
items_texts value first (suc n) ts all r h = item_texts value (json.items value n) first (items_texts value first n) ts all (after_end_array ts) refl r h

member_texts : (value : Parse json.Json) (more : Parse json.Members) → Parses Texts value → Parses MemberTexts more → (k : Option (List ℕ)) → Parses MemberTexts (members_step value more k)
member_texts value more first later None ts all r h =
    let e = same_some (json.no_members, ts) r h in
    subst (λ (q : json.Members × List Token). MemberTexts q.0 × HaveTexts q.1) e (tt, all)
member_texts value more first later (Some k) ts all r h =
    let p = some_of (λ p. parse_map (json.member k p.0) (more p.1)) (value ts) r h in
    let one = first ts all p.0 p.1 in
    map_texts MemberTexts MemberTexts (json.member k p.0.0) (λ ms g. (one.0, g)) (more p.0.1) r (λ q g. later p.0.1 one.1 q g) p.2

members_texts : (value : Parse json.Json) → Parses Texts value → (n : ℕ) → Parses MemberTexts (json.members value n)
unfolding json.members
members_texts value first zero ts all r h = absurd (cc)
members_texts value first (suc n) ts all r h =
    let p = some_of (λ p. members_step value (json.members value n) p.0 p.1) (read_key ts) r h in
    let k = key_texts ts all p.0 p.1 in
    member_texts value (json.members value n) first (members_texts value first n) p.0.0 p.0.1 k.1 r p.2

leaf_texts : (j : json.Json) (ts : List Token) (r : json.Json × List Token) → Texts j → HaveTexts ts → ◌≡◌ {A = Option (json.Json × List Token)} (Some (j, ts)) (Some r) → Texts r.0 × HaveTexts r.1
leaf_texts j ts r t all h = subst (λ (q : json.Json × List Token). Texts q.0 × HaveTexts q.1) (same_some (j, ts) r h) (t, all)

with_texts : (a : Parse json.Items) (o : Parse json.Members) → Parses ItemTexts a → Parses MemberTexts o → Parses Texts (value_with a o)
with_texts a o is ms [] all r h = absurd (cc)
with_texts a o is ms (Token.begin_object ∷ ts) all r h = map_texts MemberTexts Texts json.object (λ x k. k) (o ts) r (λ p k. ms ts all.1 p k) h
with_texts a o is ms (Token.end_object ∷ ts) all r h = absurd (cc)
with_texts a o is ms (Token.begin_array ∷ ts) all r h = map_texts ItemTexts Texts json.array (λ x k. k) (a ts) r (λ p k. is ts all.1 p k) h
with_texts a o is ms (Token.end_array ∷ ts) all r h = absurd (cc)
with_texts a o is ms (Token.key s ∷ ts) all r h = absurd (cc)
with_texts a o is ms (Token.string s ∷ ts) all r h = leaf_texts (json.string s) ts r all.0 all.1 h
with_texts a o is ms (Token.number s ∷ ts) all r h = leaf_texts (json.number s) ts r tt all.1 h
with_texts a o is ms (Token.boolean b ∷ ts) all r h = leaf_texts (json.boolean b) ts r tt all.1 h
with_texts a o is ms (Token.null ∷ ts) all r h = leaf_texts json.null ts r tt all.1 h
with_texts a o is ms (Token.bad ∷ ts) all r h = absurd (cc)

none_parses : {A : Type 0} (P : A → Type 0) → Parses P (λ ts. None)
none_parses P ts all r h = absurd (cc)

value_texts : (depth : ℕ) → Parses Texts (json.value depth)
unfolding json.value
value_texts zero ts all r h = with_texts (λ ts. None) (λ ts. None) (none_parses ItemTexts) (none_parses MemberTexts) ts all r h
value_texts (suc depth) ts all r h =
    with_texts (λ ts. json.items (json.value depth) (length ts) ts) (λ ts. json.members (json.value depth) (length ts) ts)
    (λ us more q k. items_texts (json.value depth) (value_texts depth) (length us) us more q k)
    (λ us more q k. members_texts (json.value depth) (value_texts depth) (length us) us more q k) ts all r h

last_texts : (j : json.Json) (ts : List Token) (k : json.Json) → Texts j → if_last j ts ≡ Some k → Texts k
last_texts j [] k t h = subst Texts (same_some j k h) t
last_texts j (u ∷ us) k t h = absurd (cc)

-- ---- the value

float_width : (b : Bool) (m n : Num) → HasWidth m → (if b then Some m else None) ≡ Some n → HasWidth n
float_width true m n w h = subst HasWidth (same_some m n h) w
float_width false m n w h = absurd (cc)

of_float : (sign : Bool) (p : Parts) (n : Num) → float_of sign p ≡ Some n → HasWidth n
of_float sign p n h = float_width (float_is_finite (nearest binary64 sign p)) (float (nearest binary64 sign p)) n tt h

either_width : (b : Bool) (m n : Num) (o : Option Num) → (b ≡ true → HasWidth m) → ((k : Num) → o ≡ Some k → HasWidth k) → (if b then Some m else o) ≡ Some n → HasWidth n
either_width true m n o w others h = subst HasWidth (same_some m n h) (w refl)
either_width false m n o w others h = others n h

both_true : (a b : Bool) → (a && b) ≡ true → (a ≡ true) × (b ≡ true)
both_true true true h = (refl, refl)
both_true true false h = absurd (true≢false (sym h))
both_true false b h = absurd (true≢false (sym h))

below_64 : (n : ℕ) → nat_lt n (2 ^ 64) ≡ true → n < 2 ^ 64
below_64 n h = grind (arith, nat_tests)

at_most : (n : ℕ) → nat_le n (2 ^ 63) ≡ true → n ≤ 2 ^ 63
at_most n h = grind (arith, nat_tests)

minus_fits : (n : ℕ) → nat_lt 0 n ≡ true → nat_le n (2 ^ 63) ≡ true → FitsSigned w64 (with_sign true n)
minus_fits zero low high = absurd (true≢false (sym low))
minus_fits (suc m) low high = let within = at_most (suc m) high in record { sfits = omega arith }

from_width : (sign : Bool) (p : Parts) (n : Num) → number_from sign p ≡ Some n → HasWidth n
from_width false p n h =
    either_width (is_integer p && nat_lt (digits_of p) (2 ^ 64)) (unsigned (digits_of p)) n (float_of false p)
    (λ on. below_64 (digits_of p) (both_true (is_integer p) (nat_lt (digits_of p) (2 ^ 64)) on).1) (of_float false p) h
from_width true p n h =
    either_width (is_integer p && nat_lt 0 (digits_of p) && nat_le (digits_of p) (2 ^ 63)) (negative (with_sign true (digits_of p))) n (float_of true p)
    (λ on. let a = both_true (is_integer p && nat_lt 0 (digits_of p)) (nat_le (digits_of p) (2 ^ 63)) on in
    minus_fits (digits_of p) (both_true (is_integer p) (nat_lt 0 (digits_of p)) a.0).1 a.1) (of_float true p) h

signed_width : (b : Bool) (p q : Parts) (n : Num) → (if b then number_from true p else number_from false q) ≡ Some n → HasWidth n
signed_width true p q n h = from_width true p n h
signed_width false p q n h = from_width false q n h

number_width : (s : List ℕ) (n : Num) → number_of s ≡ Some n → HasWidth n
unfolding number_of
number_width s n h = signed_width (slice_index s 0 == minus) (scan (drop 1 s)) (scan s) n h

put_json : (k : List ℕ) (d : Data) (ms : Members) → IsJson d → HoldJson ms → HoldJson (put k d ms)
put_json k d no_members h g = (h, tt)
put_json k d (member l e ms) h g = at (slice_cmp nat_cmp k l) (put_json k d ms h g.1)
  where
    at : (o : Ordering) → HoldJson (put k d ms) → HoldJson (match_ordering o (member k d (member l e ms)) (member l d ms) (member l e (put k d ms)))
    at Less later = (h, g)
    at Equal later = (h, g.1)
    at Greater later = (g.0, later)

mutual
  data_json : (j : json.Json) (d : Data) → Texts j → of_json j ≡ Some d → IsJson d
  data_json json.null d t h = subst IsJson (same_some null d h) tt
  data_json (json.boolean b) d t h = subst IsJson (same_some (boolean b) d h) tt
  data_json (json.number s) d t h = let n = mapped number (number_of s) d h in subst IsJson n.2 (number_width s n.0 n.1)
  data_json (json.string s) d t h = subst IsJson (same_some (string s) d h) t
  data_json (json.array js) d t h = let ds = mapped array (of_items js) d h in subst IsJson ds.2 (items_json js ds.0 t ds.1)
  data_json (json.object ms) d t h = let ds = mapped object (of_members ms no_members) d h in subst IsJson ds.2 (members_json ms no_members ds.0 t tt ds.1)

  items_json : (js : json.Items) (ds : Items) → ItemTexts js → of_items js ≡ Some ds → AreJson ds
  items_json json.no_items ds t h = subst AreJson (same_some no_items ds h) tt
  items_json (json.item j js) ds t h =
      let d = some_of (λ d. option_map (item d) (of_items js)) (of_json j) ds h in
      let es = mapped (item d.0) (of_items js) ds d.2 in
      subst AreJson es.2 (data_json j d.0 t.0 d.1, items_json js es.0 t.1 es.1)

  members_json : (ms : json.Members) (found out : Members) → MemberTexts ms → HoldJson found → of_members ms found ≡ Some out → HoldJson out
  members_json json.no_members found out t so_far h = subst HoldJson (same_some found out h) so_far
  members_json (json.member k j ms) found out t so_far h =
      let d = some_of (λ d. of_members ms (put k d found)) (of_json j) out h in
      members_json ms (put k d.0 found) out t.1 (put_json k d.0 found (data_json j d.0 t.0 d.1) so_far) d.2

pub read_json : (text : List ℕ) (d : Data) → IsUtf8 text → read text ≡ Some d → IsJson d
read_json text d u h =
    let j = some_of of_json (option_and_then (λ p. if_last p.0 p.1) (json.value max_depth (lexer.tokens text))) d h in
    let p = some_of (λ p. if_last p.0 p.1) (json.value max_depth (lexer.tokens text)) j.0 j.1 in
    let v = value_texts max_depth (lexer.tokens text) (tokens_texts text u) p.0 p.1 in
    data_json j.0 d (last_texts p.0.0 p.0.1 j.0 v.0 p.2) j.2
