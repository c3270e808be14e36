-- One request between two readings makes its run.
use Rattle.std.proofs.Common.{◌≡◌, ℕ, ◌-◌, [], Some, refl}
use Rattle.std.specs.Prelude.{Result, Ok, Err, OnErr, codes}
use Rattle.jm_base.specs.declared.types.Request.{Request}
use Rattle.jm_base.specs.declared.types.Outcome.{Outcome}
use Rattle.jm_base.specs.Run.{over, ◌>>=◌, reading, outcome_of}
use Rattle.jm_base.specs.Outside.{Account, Goes, TellsNothing}
use Rattle.jm_base.proofs.RunLaws.{goes-append, goes-bind, goes-nothing, goes-tells_nothing}
use Rattle.var_functions.specs.Came.{LeftOf}
use Rattle.sampler_pipeline.specs.declared.exchange.Exchange.{Exchange}
use Rattle.sampler_pipeline.specs.Exchanges.{capped, reply_of, fault_reply, answered, exchange, unasked}

abbrev pub exchanged : ℕ → ℕ → Outcome → Exchange
exchanged first second outcome = record { stamp = first; answer = answered (capped (second - first)) (reply_of outcome) }

module _ {a b c d : Account} (n t u : ℕ) (q : Request) (o : Outcome)
    (first : Goes a reading [] (over t) b)
    (asked : Goes b (outcome_of n q) [] (over o) c)
    (second : Goes c reading [] (over u) d) where
  pub exchange_goes : (x : Exchange) → x ≡ exchanged t u o → Goes a (exchange n q) [] (over x) d
  unfolding exchange
  exchange_goes x is =
      let third : Goes c (reading >>= λ second. over (exchanged t second o)) [] (over (exchanged t u o)) d = goes-bind _ second in
      let on : Goes b (outcome_of n q >>= λ o. reading >>= λ second. over (exchanged t second o)) [] (over (exchanged t u o)) d = goes-append (goes-bind _ asked) third in
      let all : Goes a (exchange n q) [] (over (exchanged t u o)) d = goes-append (goes-bind _ first) on in
      rw is all

pub on_err : {X E : Type 0} (r : Result X E) (P : Type 0) → P → OnErr r P
on_err (Ok x) P p = tt
on_err (Err e) P p = p

pub not_begun : (a b : Account) (n : ℕ) (q : Request) → TellsNothing a b → LeftOf a (exchange n q) b
not_begun a b n q still = (exchange n q, goes-tells_nothing (goes-nothing a (exchange n q)) still)

at_account : (a b c : Account) (n : ℕ) (q : Request) → TellsNothing b c → LeftOf a (exchange n q) b → LeftOf a (exchange n q) c
at_account a b c n q still left = (left.0, goes-tells_nothing left.1 still)

pub after_first : (a b c : Account) (n t : ℕ) (q : Request) → Goes a reading [] (over t) b → TellsNothing b c → LeftOf a (exchange n q) c
unfolding exchange
after_first a b c n t q first same =
    at_account a b c n q same (_, goes-bind (λ first. outcome_of n q >>= λ o. reading >>= λ second. over (exchanged first second o)) first)

pub after_outcome : (a b c d : Account) (n t : ℕ) (q : Request) (o : Outcome) → Goes a reading [] (over t) b → Goes b (outcome_of n q) [] (over o) c → TellsNothing c d
    → LeftOf a (exchange n q) d
unfolding exchange
after_outcome a b c d n t q o first asked same =
    let one : Goes a (exchange n q) [] (outcome_of n q >>= λ o. reading >>= λ second. over (exchanged t second o)) b =
    goes-bind (λ first. outcome_of n q >>= λ o. reading >>= λ second. over (exchanged first second o)) first in
    let two : Goes b (outcome_of n q >>= λ o. reading >>= λ second. over (exchanged t second o)) [] (reading >>= λ second. over (exchanged t second o)) c =
    goes-bind (λ o. reading >>= λ second. over (exchanged t second o)) asked in
    at_account a c d n q same (_, goes-append one two)

-- out of memory, after the second reading
pub after_second : (a b c d : Account) (n t u : ℕ) (q : Request) (o : Outcome) → Goes a reading [] (over t) b → Goes b (outcome_of n q) [] (over o) c → Goes c reading [] (over u) d
    → LeftOf a (exchange n q) d
after_second a b c d n t u q o first asked second = (_, exchange_goes n t u q o first asked second (exchanged t u o) refl)

-- ---- two readings alone

abbrev pub left_unasked : ℕ → ℕ → Exchange
left_unasked first second = record { stamp = first; answer = answered (capped (second - first)) (Some (fault_reply (codes "bad target"))) }

pub unasked_goes : {a b c : Account} (t u : ℕ) → Goes a reading [] (over t) b → Goes b reading [] (over u) c → (x : Exchange) → x ≡ left_unasked t u → Goes a unasked [] (over x) c
unfolding unasked
unasked_goes {a} {b} {c} t u first second x is =
    let on : Goes b (reading >>= λ second. over (left_unasked t second)) [] (over (left_unasked t u)) c = goes-bind _ second in
    let all : Goes a unasked [] (over (left_unasked t u)) c = goes-append (goes-bind _ first) on in
    rw is all

pub none_read : (a b : Account) → TellsNothing a b → LeftOf a unasked b
none_read a b still = (unasked, goes-tells_nothing (goes-nothing a unasked) still)

pub one_read : (a b c : Account) (t : ℕ) → Goes a reading [] (over t) b → TellsNothing b c → LeftOf a unasked c
unfolding unasked
one_read a b c t first still = (_, goes-tells_nothing (goes-bind (λ first. reading >>= λ second. over (left_unasked first second)) first) still)

pub both_read : (a b c : Account) (t u : ℕ) → Goes a reading [] (over t) b → Goes b reading [] (over u) c → LeftOf a unasked c
both_read a b c t u first second = (_, unasked_goes t u first second (left_unasked t u) refl)
