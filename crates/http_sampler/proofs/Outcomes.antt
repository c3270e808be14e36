-- What an exchange comes to.
use Rattle.std.proofs.Common.{◌≡◌, Bool, List, ℕ, [], take, Option, Result, Ok, Err, IfOk, OnErr, sym, subst}
use Rattle.std.specs.Io.KnownBytes.{IsAtEnd, Keeps}
use Rattle.edge_io.specs.Edges.{AppendsProperPrefix}
use Rattle.jm_base.specs.FaultCounts.{Rose}
use Rattle.jm_base.specs.declared.errors.NoMemory.{NoMemory}
use Rattle.jm_base.specs.declared.types.Wire.{Wire}
use Rattle.jm_base.specs.declared.types.Outcome.{Outcome}
use Rattle.jm_base.specs.declared.types.Outcome.TheVariants.{Reply, Null, Fault, Broken}
use Rattle.http_text.specs.declared.error.WireError.TheVariants as error
use Rattle.http_text.specs.ResponseGrammar.{Whole, Refused, Response}
use Rattle.http_text.specs.ResponseReading.{Reading, IsDone, IsOver}
use Rattle.http_sampler.specs.Streams.{Standing}
use Rattle.http_sampler.specs.Exchanges.{Moves, Settles, by_reply, by_refusal, ComesTo, settled, at_end, in_sending, IsOutcome, EndsAs}
use Rattle.http_sampler.proofs.Moving.{standing, moves_out}

pub settled_reply : (h h' : Bool) (bytes rest : List ℕ) (r : Reading) → h' ≡ h → Response h' bytes (Whole r.reply rest) → IsDone r → Settles h bytes r
settled_reply h h' bytes rest r same reads done = by_reply (subst (λ x. Response x bytes (Whole r.reply rest)) same reads) done

pub settled_refusal : (h h' : Bool) (bytes : List ℕ) (wire : Wire) (r : Reading) → h' ≡ h → Response h' bytes (Refused wire) → IsOver r (error.Wire wire) → Settles h bytes r
settled_refusal h h' bytes wire r same reads over = by_refusal (subst (λ x. Response x bytes (Refused wire)) same reads) over

pub if_ok : {A E : Type 0} (r : Result A E) (P Q : A → Type 0) → ((a : A) → P a → Q a) → IfOk r P → IfOk r Q
if_ok (Ok a) P Q f p = f a p
if_ok (Err e) P Q f p = tt

pub on_err : {A E : Type 0} (r : Result A E) (P Q : Type 0) → (P → Q) → OnErr r P → OnErr r Q
on_err (Ok a) P Q f p = tt
on_err (Err e) P Q f p = f p

pub on_err_always : {A E : Type 0} (r : Result A E) (Q : Type 0) → Q → OnErr r Q
on_err_always (Ok a) Q q = tt
on_err_always (Err e) Q q = q

-- a send failed
pub unsent_outcome : (s s' g g' l l' : Option (List ℕ)) (f f' : ℕ) (request : List ℕ) (h : Bool) → AppendsProperPrefix s s' request → Keeps g g' → Keeps l l' → Rose f f'
    → IsOutcome (standing s g l f) (standing s' g' l' f') request h Fault
unsent_outcome s s' g g' l l' f f' request h prefix given left rose =
    (rose, in_sending prefix.1 (moves_out s s' g g' l l' f f' (take prefix.0 request) prefix.2 given left))

-- the outcome that the bytes settle
pub settled_outcome : (old new : Standing) (request got : List ℕ) (h : Bool) (r : Reading) (result : Result Outcome NoMemory)
    → Moves old new request got → new.faults ≡ old.faults → Settles h got r
    → (IsDone r → IfOk result (λ o. o ≡ Reply r.reply)) → ((wire : Wire) → IsOver r (error.Wire wire) → IfOk result (λ o. o ≡ Broken wire))
    → IfOk result (λ o. IsOutcome old new request h o)
settled_outcome old new request got h r result moved kept (by_reply {rest = rest} reads done) whole refused =
    if_ok result (λ o. o ≡ Reply r.reply) (λ o. IsOutcome old new request h o)
    (λ o is. subst (λ o. IsOutcome old new request h o) (sym is) (got, moved, kept, (rest, settled reads))) (whole done)
settled_outcome old new request got h r result moved kept (by_refusal {wire = wire} reads over) whole refused =
    if_ok result (λ o. o ≡ Broken wire) (λ o. IsOutcome old new request h o)
    (λ o is. subst (λ o. IsOutcome old new request h o) (sym is) (got, moved, kept, settled reads)) (refused wire over)

-- the outcome where the stream is at its end
ends_outcome : (old new : Standing) (request got : List ℕ) (h : Bool) (o : Outcome) → Moves old new request got → new.faults ≡ old.faults → IsAtEnd new.left → EndsAs h got o
    → IsOutcome old new request h o
ends_outcome old new request got h (Reply reply) moved kept end ends = (got, moved, kept, ([], subst (ComesTo h got new.left) ends.2 (at_end end ends.1)))
ends_outcome old new request got h (Broken wire) moved kept end ends = (got, moved, kept, subst (ComesTo h got new.left) ends.2 (at_end end ends.1))
ends_outcome old new request got h Fault moved kept end ends = absurd ends
ends_outcome old new request got h Null moved kept end ends = absurd ends

pub ended_outcome : (old new : Standing) (request got : List ℕ) (h h' : Bool) (result : Result Outcome NoMemory)
    → Moves old new request got → new.faults ≡ old.faults → IsAtEnd new.left → h' ≡ h → IfOk result (λ o. EndsAs h' got o)
    → IfOk result (λ o. IsOutcome old new request h o)
ended_outcome old new request got h h' result moved kept end same ends =
    if_ok result (λ o. EndsAs h got o) (λ o. IsOutcome old new request h o) (λ o k. ends_outcome old new request got h o moved kept end k)
    (subst (λ x. IfOk result (λ o. EndsAs x got o)) same ends)

-- the same of an equal request
pub outcome_as : (old new : Standing) (p q : List ℕ) (h : Bool) (result : Result Outcome NoMemory) → p ≡ q
    → IfOk result (λ o. IsOutcome old new p h o) → IfOk result (λ o. IsOutcome old new q h o)
outcome_as old new p q h result same ok = subst (λ r. IfOk result (λ o. IsOutcome old new r h o)) same ok
