-- What was received of a stream, and what went out.
use Rattle.std.proofs.Common.{◌≡◌, ◌≢◌, ℕ, List, [], ◌++◌, length, take, Option, Some, None, refl, sym, subst, ◌∙◌}
use Rattle.std.proofs.lemmas.List.{append-nil}
use Rattle.std.specs.Io.KnownBytes.{Appends, Consumes, Keeps}
use Rattle.edge_io.specs.Edges.{AppendsProperPrefix}
use Rattle.edge_io.proofs.EdgeLaws.{Keeps-Appends, Keeps-Consumes, Appends-Keeps, Consumes-Keeps, Appends-nil, Appends-append, Consumes-append}
use Rattle.jm_base.specs.FaultCounts.{Rose}
use Rattle.http_sampler.specs.Streams.{Standing}
use Rattle.mirror_server.specs.declared.error.MirrorError.{MirrorError}
use Rattle.mirror_server.specs.declared.error.MirrorError.TheVariants.{BadHead, TooLong, EndEarly, StreamFault, NoMemory}
use Rattle.mirror_server.specs.RequestGrammar as grammar
use Rattle.mirror_server.specs.RequestGrammar.{Answer, Whole, Refused, Open, Asks}
use Rattle.mirror_server.specs.Mirroring.{answer_text, Receives, Comes, Requests, Mirrors, Fails, in_sending, TakesPiece, StopsPiece, Stops}

Consumes-nil : (a : Option (List ℕ)) → Consumes a a []
Consumes-nil None = tt
Consumes-nil (Some xs) = refl

pub receives-none : (s : Standing) → Receives s s []
receives-none s = record { gave = Appends-nil s.given; came = Consumes-nil s.left }

pub receives-kept : (old new : Standing) → Keeps old.given new.given → Keeps old.left new.left → Receives old new []
receives-kept old new given left = record {
  gave = Keeps-Appends old.given new.given new.given [] given (Appends-nil new.given);
  came = Keeps-Consumes old.left new.left new.left [] left (Consumes-nil new.left);
}

pub receives-more : (old mid new : Standing) (xs ys : List ℕ) → Receives old mid xs → Receives mid new ys → Receives old new (xs ++ ys)
receives-more old mid new xs ys a b = record {
  gave = Appends-append old.given mid.given new.given xs ys a.gave b.gave;
  came = Consumes-append old.left mid.left new.left xs ys a.came b.came;
}

receives-no-more : (old mid new : Standing) (xs : List ℕ) → Receives old mid xs → Receives mid new [] → Receives old new xs
receives-no-more old mid new xs a b = subst (Receives old new) (append-nil xs) (receives-more old mid new xs [] a b)

-- a piece after bytes that were received
pub receives-piece : (old mid new : Standing) (before got : List ℕ) → Receives old mid before → TakesPiece mid new before got → Receives old new got
receives-piece old mid new before got r t = subst (Receives old new) (sym t.joined) (receives-more old mid new before t.piece r t.received)

-- what was received is open
open-comes : (old new : Standing) (got : List ℕ) → Receives old new got → Asks got Open → Comes old new Open
open-comes old new got r is_open = record {
  got = got;
  received = r;
  no_further = record { before = got; last = []; joined = sym (append-nil got); unsettled = is_open };
  comes = is_open;
}

-- a piece after open bytes settles them
pub piece-comes : (old mid new : Standing) (before got : List ℕ) (answer : Answer) → Receives old mid before → Asks before Open → TakesPiece mid new before got
    → Asks got answer → Comes old new answer
piece-comes old mid new before got answer r is_open t asks = record {
  got = got;
  received = receives-piece old mid new before got r t;
  no_further = record { before = before; last = t.piece; joined = t.joined; unsettled = is_open };
  comes = asks;
}

-- no piece was received after open bytes
pub piece-stops : (old mid new : Standing) (before : List ℕ) (error : MirrorError) → Receives old mid before → Asks before Open → mid.faults ≡ old.faults
    → StopsPiece mid new error → Stops old new error
piece-stops old mid new before BadHead r is_open kept stops = absurd stops
piece-stops old mid new before TooLong r is_open kept stops = absurd stops
piece-stops old mid new before EndEarly r is_open kept stops =
    (open-comes old new before (receives-no-more old mid new before r stops.0) is_open, stops.1, stops.2 ∙ kept)
piece-stops old mid new before StreamFault r is_open kept stops =
    (open-comes old new before (receives-no-more old mid new before r stops.0) is_open, subst (λ n. Rose n new.faults) kept stops.1)
piece-stops old mid new before NoMemory r is_open kept stops = (
  record {
    got = before ++ stops.0;
    received = receives-more old mid new before stops.0 r stops.1;
    no_further = record { before = before; last = stops.0; joined = refl; unsettled = is_open };
  },
  stops.2 ∙ kept,
)

-- a refusal by the bytes is one of two
IsRefusal : Answer → Type 0
IsRefusal (Whole request rest) = Unit {0}
IsRefusal Open = Unit {0}
IsRefusal (Refused BadHead) = Unit {0}
IsRefusal (Refused TooLong) = Unit {0}
IsRefusal (Refused EndEarly) = ⊥
IsRefusal (Refused StreamFault) = ⊥
IsRefusal (Refused NoMemory) = ⊥

asks-refusal : (bytes : List ℕ) (answer : Answer) → Asks bytes answer → IsRefusal answer
unfolding IsRefusal
asks-refusal bytes _ (grammar.open_head none few) = tt
asks-refusal bytes _ (grammar.long_head many past) = tt
asks-refusal bytes _ (grammar.bad_head ends fits bad) = tt
asks-refusal bytes _ (grammar.long_request ends fits says past) = tt
asks-refusal bytes _ (grammar.coded_body ends fits says short) = tt
asks-refusal bytes _ (grammar.open_body ends fits says short few) = tt
asks-refusal bytes _ (grammar.whole ends fits says short all) = tt

pub refused-stops : (old new : Standing) (error : MirrorError) → Comes old new (Refused error) → new.faults ≡ old.faults → Stops old new error
unfolding IsRefusal
refused-stops old new BadHead comes kept = (comes, kept)
refused-stops old new TooLong comes kept = (comes, kept)
refused-stops old new EndEarly comes kept = absurd (asks-refusal comes.got (Refused EndEarly) comes.comes)
refused-stops old new StreamFault comes kept = absurd (asks-refusal comes.got (Refused StreamFault) comes.comes)
refused-stops old new NoMemory comes kept = absurd (asks-refusal comes.got (Refused NoMemory) comes.comes)

-- without a failed call the count stays
pub stops-kept : (old new : Standing) (error : MirrorError) → Stops old new error → error ≢ StreamFault → new.faults ≡ old.faults
stops-kept old new BadHead stops other = stops.1
stops-kept old new TooLong stops other = stops.1
stops-kept old new EndEarly stops other = stops.2
stops-kept old new StreamFault stops other = absurd (other refl)
stops-kept old new NoMemory stops other = stops.1

-- the request stays what was received while its answer is sent
pub requests-kept : (old mid new : Standing) (request : List ℕ) → Requests old mid request → Keeps mid.given new.given → Keeps mid.left new.left
    → Requests old new request
requests-kept old mid new request r given left = (
  r.0,
  record {
    got = r.1.got;
    received = record {
      gave = Appends-Keeps old.given mid.given new.given r.1.got r.1.received.gave given;
      came = Consumes-Keeps old.left mid.left new.left r.1.got r.1.received.came left;
    };
    no_further = r.1.no_further;
    comes = r.1.comes;
  },
)

-- the answer was sent
pub mirrors-from : (old mid new : Standing) (request answer : List ℕ) (n : ℕ) → Requests old mid request → Keeps old.sent mid.sent
    → answer ≡ answer_text request → Appends mid.sent new.sent answer → Keeps mid.given new.given → Keeps mid.left new.left → n ≡ length request
    → Mirrors old new n
mirrors-from old mid new request answer n r kept is sent given left count = (
  request,
  requests-kept old mid new request r given left,
  count,
  Keeps-Appends old.sent mid.sent new.sent (answer_text request) kept (subst (Appends mid.sent new.sent) is sent),
)

-- a part of the answer was sent
pub fails-from : (old mid new : Standing) (request answer : List ℕ) → Requests old mid request → Keeps old.sent mid.sent
    → answer ≡ answer_text request → AppendsProperPrefix mid.sent new.sent answer → Keeps mid.given new.given → Keeps mid.left new.left → Fails old new
fails-from old mid new request answer r kept is sent given left =
    let sent' : AppendsProperPrefix mid.sent new.sent (answer_text request) = subst (AppendsProperPrefix mid.sent new.sent) is sent in
    in_sending {request = request} (requests-kept old mid new request r given left)
    (sent'.0, sent'.1, Keeps-Appends old.sent mid.sent new.sent (take sent'.0 (answer_text request)) kept sent'.2)
