-- Readings that lead on.
use Rattle.std.proofs.Common.{◌≡◌, Bool, ℕ, ◌+◌, ◌-◌, ◌<◌, ◌≤◌, List, [], ◌∷◌, ◌++◌, length, take, drop, Option, Some, None, Result, Ok, Err, refl, sym, ap, subst, ◌∙◌, arith, append_assoc}
use Rattle.std.proofs.lemmas.List.{append-nil, take_all, take-append-drop, length-drop}
use Rattle.std.proofs.Math.Seq.{take-add}
use Rattle.httparse.specs.Grammar.{HasNoChunkLine, MayBecomeChunkLine}
use Rattle.jm_base.specs.declared.types.Reply.{Reply}
use Rattle.jm_base.specs.declared.types.Wire.{Wire}
use Rattle.jm_base.specs.declared.types.Wire.TheVariants.{EndEarly}
use Rattle.http_text.specs.declared.state.Phase.{Phase}
use Rattle.http_text.specs.declared.state.Phase.TheVariants as phase
use Rattle.http_text.specs.declared.answers.Fed.TheVariants as fed
use Rattle.http_text.specs.declared.error.WireError.TheVariants as error
use Rattle.http_lines.specs.SectionEnds.{section_end, before_head, before_trailer}
use Rattle.http_text.specs.ResponseGrammar as grammar
use Rattle.http_text.specs.ResponseGrammar.{Answer, Whole, Refused, Open, Heads, Gives, Response, ended, with_body}
use Rattle.http_text.specs.ResponseReading.{Reading, Continues, Stands, Read, Advances, IsReading, IsDone, HasAnswered, HasFinished, answer_of, finish_of}
use Rattle.http_text.proofs.Moves.{reading}

pub advances-nothing : (r : Reading) → Stands r → Advances r [] r
advances-nothing r stands = record { same = refl; leads = λ more answer k. k; stands = stands }

pub advances-more : (a b c : Reading) (xs ys : List ℕ) → Advances a xs b → Advances b ys c → Advances a (xs ++ ys) c
advances-more a b c xs ys f g = record {
  same = g.same ∙ f.same;
  leads = λ more answer k. subst (λ bytes. Continues a bytes answer) (sym (append_assoc xs ys more)) (f.leads (ys ++ more) answer (g.leads more answer k));
  stands = g.stands;
}

-- what was read, and then a piece
pub read-more : (old new : Reading) (bytes piece : List ℕ) → Read old bytes → Advances old piece new → Read new (bytes ++ piece)
read-more old new bytes piece read f = record {
  leads = λ more answer k.
      subst (λ h. Response h ((bytes ++ piece) ++ more) answer) (sym f.same)
      (subst (λ x. Response old.head_only x answer) (sym (append_assoc bytes piece more)) (read.leads (piece ++ more) answer (f.leads more answer k)));
  stands = f.stands;
}

-- nothing was read yet
pub read-nothing : (h : Bool) (reply : Reply) → reply.body ≡ [] → Read (reading h (phase.Head 0 before_head) [] reply) []
read-nothing h reply c = record { leads = λ more answer k. k; stands = (refl, refl, omega arith, c) }

abbrev NowOpen : Reading → Type 0
NowOpen r = (at_end : Option Reply) × Continues r [] (Open at_end)

-- what is not whole is open where no byte follows
now-open : (h : Bool) (p : Phase) (part : List ℕ) (reply : Reply) → IsReading p → Stands (reading h p part reply) → NowOpen (reading h p part reply)
now-open h (phase.Head passed scan) part reply _ stands = (None, subst (λ x. Gives h (Heads passed) x (Open None)) (sym (append-nil part)) (grammar.open_head stands.1 stands.2))
now-open h (phase.Sized left) part reply _ stands = (None, grammar.open_body stands.0 (omega arith))
now-open h phase.Rest part reply _ stands = (Some (with_body reply []), grammar.open_rest (omega arith))
now-open h (phase.SizeLine scan) part reply _ stands = (None, subst (λ x. Gives h (grammar.SizeLine reply) x (Open None)) (sym (append-nil part)) (grammar.open_line stands.0 stands.1 stands.2))
now-open h (phase.Chunk left) part reply _ stands = (None, grammar.open_chunk stands.0 (omega arith))
now-open h phase.ChunkReturn part reply _ stands = (None, grammar.no_end)
now-open h phase.ChunkFeed part reply _ stands = (None, grammar.half_end)
now-open h (phase.Trailer scan) part reply _ stands = (None, subst (λ x. Gives h (grammar.Trailer reply) x (Open None)) (sym (append-nil part)) (grammar.open_trailer stands.1 stands.2))
now-open h phase.Done part reply reads _ = absurd reads
now-open h (phase.Refused wire) part reply reads _ = absurd reads
now-open h phase.OutOfMemory part reply reads _ = absurd reads

-- all of a piece was taken, and more is to come
open-answer : (h : Bool) (p : Phase) (part : List ℕ) (reply : Reply) (bytes piece : List ℕ) (at : ℕ) → IsReading p → Read (reading h p part reply) (bytes ++ take at piece) → length piece ≤ at
    → HasAnswered (reading h p part reply) bytes piece (Ok fed.More)
open-answer h p part reply bytes piece at reads read all =
    let whole : take at piece ≡ piece = take_all at piece all in
    let read' = subst (λ x. Read (reading h p part reply) (bytes ++ x)) whole read in
    let now = now-open h p part reply reads read'.stands in
    (now.0, subst (λ x. Response h x (Open now.0)) (append-nil (bytes ++ piece)) (read'.leads [] (Open now.0) now.1), read')

pub answered : (h : Bool) (p : Phase) (part : List ℕ) (reply : Reply) (bytes piece : List ℕ) (at : ℕ) → Read (reading h p part reply) (bytes ++ take at piece) → at ≤ length piece
    → (IsReading p → length piece ≤ at) → HasAnswered (reading h p part reply) bytes piece (answer_of p at)
answered h (phase.Head passed scan) part reply bytes piece at read w all = open-answer h (phase.Head passed scan) part reply bytes piece at tt read (all tt)
answered h (phase.Sized left) part reply bytes piece at read w all = open-answer h (phase.Sized left) part reply bytes piece at tt read (all tt)
answered h phase.Rest part reply bytes piece at read w all = open-answer h phase.Rest part reply bytes piece at tt read (all tt)
answered h (phase.SizeLine scan) part reply bytes piece at read w all = open-answer h (phase.SizeLine scan) part reply bytes piece at tt read (all tt)
answered h (phase.Chunk left) part reply bytes piece at read w all = open-answer h (phase.Chunk left) part reply bytes piece at tt read (all tt)
answered h phase.ChunkReturn part reply bytes piece at read w all = open-answer h phase.ChunkReturn part reply bytes piece at tt read (all tt)
answered h phase.ChunkFeed part reply bytes piece at read w all = open-answer h phase.ChunkFeed part reply bytes piece at tt read (all tt)
answered h (phase.Trailer scan) part reply bytes piece at read w all = open-answer h (phase.Trailer scan) part reply bytes piece at tt read (all tt)
answered h phase.Done part reply bytes piece at read w all = (
  w,
  subst (λ x. Response h x (Whole reply (drop at piece))) (append_assoc bytes (take at piece) (drop at piece) ∙ ap (λ x. bytes ++ x) (take-append-drop at piece)) (read.leads (drop at piece) (Whole reply (drop at piece)) refl),
  read,
  refl,
)
answered h (phase.Refused wire) part reply bytes piece at read w all =
    let whole : (bytes ++ take at piece) ++ drop at piece ≡ bytes ++ piece = append_assoc bytes (take at piece) (drop at piece) ∙ ap (λ x. bytes ++ x) (take-append-drop at piece) in (
      subst (λ x. Response h x (Refused wire)) whole (read.leads (drop at piece) (Refused wire) refl),
      record {
        leads = λ more answer k. subst (λ x. Response h (x ++ more) answer) whole
            (subst (λ x. Response h x answer) (sym (append_assoc (bytes ++ take at piece) (drop at piece) more)) (read.leads (drop at piece ++ more) answer k));
        stands = tt;
      },
    )
answered h phase.OutOfMemory part reply bytes piece at read w all = tt

end-early : (h : Bool) (p : Phase) (part : List ℕ) (reply : Reply) (bytes : List ℕ) → Read (reading h p part reply) bytes → Continues (reading h p part reply) [] (Open None)
    → HasFinished h bytes (Err (error.Wire EndEarly))
end-early h p part reply bytes read now = (Open None, subst (λ x. Response h x (Open None)) (append-nil bytes) (read.leads [] (Open None) now), refl)

pub finished : (h : Bool) (p : Phase) (part : List ℕ) (reply : Reply) (bytes : List ℕ) → Read (reading h p part reply) bytes → HasFinished h bytes (finish_of p reply)
unfolding now-open
finished h (phase.Head passed scan) part reply bytes read = end-early h (phase.Head passed scan) part reply bytes read (now-open h (phase.Head passed scan) part reply tt read.stands).1
finished h (phase.Sized left) part reply bytes read = end-early h (phase.Sized left) part reply bytes read (now-open h (phase.Sized left) part reply tt read.stands).1
finished h phase.Rest part reply bytes read =
    let same : with_body reply [] ≡ reply = ap (λ b. record reply { body = b }) (append-nil reply.body) in (
      Open (Some (with_body reply [])),
      subst (λ x. Response h x (Open (Some (with_body reply [])))) (append-nil bytes) (read.leads [] (Open (Some (with_body reply []))) (grammar.open_rest (omega arith))),
      ap (λ r. Whole r []) same,
    )
finished h (phase.SizeLine scan) part reply bytes read = end-early h (phase.SizeLine scan) part reply bytes read (now-open h (phase.SizeLine scan) part reply tt read.stands).1
finished h (phase.Chunk left) part reply bytes read = end-early h (phase.Chunk left) part reply bytes read (now-open h (phase.Chunk left) part reply tt read.stands).1
finished h phase.ChunkReturn part reply bytes read = end-early h phase.ChunkReturn part reply bytes read (now-open h phase.ChunkReturn part reply tt read.stands).1
finished h phase.ChunkFeed part reply bytes read = end-early h phase.ChunkFeed part reply bytes read (now-open h phase.ChunkFeed part reply tt read.stands).1
finished h (phase.Trailer scan) part reply bytes read = end-early h (phase.Trailer scan) part reply bytes read (now-open h (phase.Trailer scan) part reply tt read.stands).1
finished h phase.Done part reply bytes read = (Whole reply [], subst (λ x. Response h x (Whole reply [])) (append-nil bytes) (read.leads [] (Whole reply []) refl), refl)
finished h (phase.Refused wire) part reply bytes read = (Refused wire, subst (λ x. Response h x (Refused wire)) (append-nil bytes) (read.leads [] (Refused wire) refl), refl)
finished h phase.OutOfMemory part reply bytes read = tt

-- a loop that takes a piece in parts
pub advances-on : (a b c : Reading) (piece : List ℕ) (at n : ℕ) → at ≤ length piece → Advances a (take at piece) b → Advances b (take n (take (length piece - at) (drop at piece))) c
    → Advances a (take (at + n) piece) c
advances-on a b c piece at n w f g =
    let rest : take (length piece - at) (drop at piece) ≡ drop at piece = take_all (length piece - at) (drop at piece) (omega (arith, length-drop at piece)) in
    let g' = subst (λ x. Advances b (take n x) c) rest g in
    subst (λ x. Advances a x c) (sym (take-add at n piece)) (advances-more a b c (take at piece) (take n (drop at piece)) f g')
