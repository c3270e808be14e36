-- What a head that was parsed says.
use Rattle.std.proofs.Common.{◌≡◌, ℕ, ◌≤◌, Bool, List, [], length, map, take, Option, Some, None, sym, ap, subst, ◌∙◌, arith}
use Rattle.std.specs.Prelude.{unwrap_or}
use Rattle.std.proofs.lemmas.List.{length-map, length-take-le, drop_all}
use Rattle.httparse.proofs.GrammarLemmas.{request_unique}
use Rattle.httparse.specs.declared.spans.HeaderSpan.{HeaderSpan}
use Rattle.httparse.specs.declared.spans.RequestSpans.{RequestSpans}
use Rattle.httparse.specs.Grammar.{ReadsRequest, RequestHead}
use Rattle.httparse.specs.Spans.{IsRequestAt, header_bytes, name_and_value}
use Rattle.http_lines.specs.HeaderFields.{length_after}
use Rattle.mirror_server.specs.RequestGrammar.{Says, has_coding}

pub says-from : (text : List ℕ) (headers : List HeaderSpan) (spans : RequestSpans) (h : RequestHead) (known : Option ℕ) (size : ℕ) (coded : Bool)
    → IsRequestAt text headers spans h → spans.len ≡ length text → spans.headers ≤ length headers → length headers ≡ 128
    → Some known ≡ length_after None (map (header_bytes text) (take spans.headers headers)) → size ≡ unwrap_or known 0
    → coded ≡ has_coding (map (header_bytes text) (take spans.headers headers))
    → Says text size coded
says-from text headers spans h known size coded at whole count room known_is size_is coded_is = record {
  head = h;
  is_head = (
    subst (λ rest. ReadsRequest text h rest) (drop_all spans.len text (omega (arith, whole))) at.reads,
    (let e : spans.headers ≡ length h.fields = sym (length-take-le spans.headers headers count) ∙ sym (length-map (take spans.headers headers) (header_bytes text)) ∙ ap length at.fields ∙ length-map h.fields name_and_value in
        omega (arith, e, count, room)),
  );
  known = known;
  known_is = sym (known_is ∙ ap (length_after None) at.fields);
  size_is = size_is;
  coded_is = coded_is ∙ ap has_coding at.fields;
}

same-known : (o : Option (Option ℕ)) (a b : Option ℕ) → o ≡ Some a → o ≡ Some b → a ≡ b
same-known o a b x y = cc

-- a head says one thing
pub says-size : (text : List ℕ) (m n : ℕ) (a b : Bool) → Says text m a → Says text n b → m ≡ n
says-size text m n a b x y =
    let same = request_unique text x.head y.head [] [] x.is_head.0 y.is_head.0 in
    let known = same-known (length_after None (map name_and_value y.head.fields)) x.known y.known
    (sym (ap (λ h. length_after None (map name_and_value h.fields)) same.0) ∙ x.known_is) y.known_is in
    x.size_is ∙ ap (λ k. unwrap_or k 0) known ∙ sym y.size_is

pub says-coded : (text : List ℕ) (m n : ℕ) (a b : Bool) → Says text m a → Says text n b → a ≡ b
says-coded text m n a b x y =
    let same = request_unique text x.head y.head [] [] x.is_head.0 y.is_head.0 in
    x.coded_is ∙ ap (λ h. has_coding (map name_and_value h.fields)) same.0 ∙ sym y.coded_is
