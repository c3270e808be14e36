-- What a head that was parsed says.
use Rattle.std.proofs.Common.{◌≡◌, ℕ, ◌<◌, ◌≤◌, List, [], ◌∷◌, length, map, take, drop, Some, refl, sym, ap, subst, ◌∙◌, arith}
use Rattle.std.proofs.lemmas.List.{length-map, length-take-le, drop_all}
use Rattle.httparse.specs.declared.spans.HeaderSpan.{HeaderSpan}
use Rattle.httparse.specs.declared.spans.ResponseSpans.{ResponseSpans}
use Rattle.httparse.specs.Grammar.{ReadsResponse, ResponseHead, status_code, reason_phrase}
use Rattle.httparse.specs.Spans.{IsResponseAt, span_bytes, header_bytes, name_and_value}
use Rattle.jm_base.specs.declared.types.Reply.{Reply}
use Rattle.http_text.specs.declared.fields.Framing.{Framing}
use Rattle.http_lines.specs.declared.scan.Line.TheVariants.{Fresh}
use Rattle.http_text.specs.ResponseHeads.{Says, framing_in, framing_of, after_first_line, without_last}

pub says-from : (text : List ℕ) (headers : List HeaderSpan) (spans : ResponseSpans) (h : ResponseHead) (framing : Framing) (message lines body : List ℕ)
    → IsResponseAt text headers spans h → spans.len ≡ length text → spans.headers ≤ length headers → length headers ≡ 128 → 100 ≤ spans.code
    → message ≡ span_bytes text spans.reason → lines ≡ without_last (after_first_line Fresh text) → body ≡ []
    → Some framing ≡ framing_in (map (header_bytes text) (take spans.headers headers))
    → Says text (record { code = spans.code; message = message; headers = lines; body = body }) framing
says-from text headers spans h framing message lines body at whole count room low message_is lines_are empty framing_is = record {
  head = h;
  is_head = (
    subst (λ rest. ReadsResponse text h rest) (drop_all spans.len text (omega (arith, whole))) at.reads,
    (let e : spans.headers ≡ length h.fields = sym (length-take-le spans.headers headers count) ∙ sym (length-map (take spans.headers headers) (header_bytes text)) ∙ ap length at.fields ∙ length-map h.fields name_and_value in
        omega (arith, e, count, room)),
  );
  code = subst (λ n. 100 ≤ n) at.code low;
  reply_is = rw (message_is, lines_are, empty, at.code, at.reason) refl;
  framing_is = sym (framing_is ∙ ap framing_in at.fields);
}
