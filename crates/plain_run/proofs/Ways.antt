-- How a thread comes through a part of its plan, step by step.
use Rattle.std.proofs.Common.{◌≡◌, ◌≤◌, [], ◌∷◌, ◌++◌, refl, sym, ap, ◌∙◌, subst, arith}
use Rattle.jm_base.specs.declared.types.End.TheVariants.{ValueLimit as PastValueLimit}
use Rattle.jm_base.specs.Run.{Run, over, give, Event, ◌>>=◌}
use Rattle.jm_base.specs.Outside.{Account, Goes}
use Rattle.jm_base.proofs.RunLaws.{goes-bind, goes-nothing}
use Rattle.jm_meaning.specs.declared.signal.Signal.{Signal}
use Rattle.jm_meaning.specs.declared.signal.Signal.TheVariants.{Normal, NextLoop, Stop}
use Rattle.jm_meaning.specs.State.{State, Ending, Part, state_of, on_normal, and_then, Try, fine, past_limit, tried, on_came, stopped}
use Rattle.jm_meaning.specs.TraceShown.{shown}
use Rattle.jm_meaning.specs.Transactions.{counting}
use Rattle.plain_run.specs.declared.progress.Progress.{Progress}
use Rattle.plain_run.specs.Plays.{state_in, ended, Tells, Plays}
use Rattle.plain_run.proofs.TellsLaws.{tells-append, tells-bind, tells-nothing, tells-quiet, tells-give}

-- Between two moments of its outside the thread has come from the whole part to the rest of it.
pub record OnWay (a : Account) (p0 : Progress) (whole rest : Part) (p : Progress) (b : Account) : Type 0 where
  pub tells : Tells a p0.items.items p0.tally (whole (state_in p0)) (rest (state_in p)) p.items.items p.tally b
  pub fewer : p.rounds ≤ p0.rounds
  pub feeds : p.config.feeds ≡ p0.config.feeds

pub way-start : (a : Account) (p : Progress) (part : Part) → OnWay a p part part p a
way-start a p part = record { tells = tells-nothing a p.items.items p.tally (part (state_in p)); fewer = omega arith; feeds = refl }

-- the rest in another form
pub way-as : {a b : Account} {p0 p : Progress} {whole rest : Part} (rest' : Part) → OnWay a p0 whole rest p b → rest (state_in p) ≡ rest' (state_in p) → OnWay a p0 whole rest' p b
way-as {a} {b} {p0} {p} {whole} {rest} rest' way e =
    record { tells = subst (λ r. Tells a p0.items.items p0.tally (whole (state_in p0)) r p.items.items p.tally b) e way.tells; fewer = way.fewer; feeds = way.feeds }

-- a step that shows nothing
pub way-silent : {a b c : Account} {p0 p : Progress} {whole rest : Part} (rest' : Part) (q : Progress) → OnWay a p0 whole rest p b
    → Goes b (rest (state_in p)) [] (rest' (state_in q)) c → q.items.items ≡ p.items.items → q.tally ≡ p.tally → q.rounds ≤ p.rounds → q.config.feeds ≡ p.config.feeds → OnWay a p0 whole rest' q c
way-silent {a} {b} {c} {p0} {p} {whole} {rest} rest' q way goes items tally fewer feeds = record {
  tells = subst (λ l. Tells a p0.items.items p0.tally (whole (state_in p0)) (rest' (state_in q)) l q.tally c) (sym items)
      (subst (λ t. Tells a p0.items.items p0.tally (whole (state_in p0)) (rest' (state_in q)) p.items.items t c) (sym tally)
      (tells-append way.tells (tells-quiet p.items.items p.tally goes)));
  fewer = omega (arith, way.fewer);
  feeds = feeds ∙ way.feeds;
}

-- a step that only computes
pub way-move : {a b : Account} {p0 p : Progress} {whole rest : Part} (rest' : Part) (q : Progress) → OnWay a p0 whole rest p b
    → rest (state_in p) ≡ rest' (state_in q) → q.items.items ≡ p.items.items → q.tally ≡ p.tally → q.rounds ≤ p.rounds → q.config.feeds ≡ p.config.feeds → OnWay a p0 whole rest' q b
way-move {a} {b} {p0} {p} {whole} {rest} rest' q way is items tally fewer feeds =
    way-silent rest' q way (subst (λ r. Goes b r [] (rest' (state_in q)) b) (sym is) (goes-nothing b (rest' (state_in q)))) items tally fewer feeds

-- a step that shows an event
pub way-give : {a b : Account} {p0 p : Progress} {whole rest : Part} (rest' : Part) (q : Progress) (e : Event) → OnWay a p0 whole rest p b
    → rest (state_in p) ≡ give e (rest' (state_in q)) → q.items.items ≡ p.items.items ++ shown e ∷ [] → q.tally ≡ counting p.tally e → q.rounds ≤ p.rounds → q.config.feeds ≡ p.config.feeds
    → OnWay a p0 whole rest' q b
way-give {a} {b} {p0} {p} {whole} {rest} rest' q e way is items tally fewer feeds = record {
  tells = subst (λ l. Tells a p0.items.items p0.tally (whole (state_in p0)) (rest' (state_in q)) l q.tally b) (sym items)
      (subst (λ t. Tells a p0.items.items p0.tally (whole (state_in p0)) (rest' (state_in q)) (p.items.items ++ shown e ∷ []) t b) (sym tally)
      (tells-append way.tells
      (subst (λ r. Tells b p.items.items p.tally r (rest' (state_in q)) (p.items.items ++ shown e ∷ []) (counting p.tally e) b) (sym is)
      (tells-give b p.items.items p.tally e (rest' (state_in q))))));
  fewer = omega (arith, way.fewer);
  feeds = feeds ∙ way.feeds;
}

-- the rest is run
pub way-end : {a b c : Account} {p0 p q : Progress} {whole rest : Part} {signal : Signal} → OnWay a p0 whole rest p b → Plays b p rest signal q c → Plays a p0 whole signal q c
way-end way plays = record { tells = tells-append way.tells plays.tells; fewer = omega (arith, way.fewer, plays.fewer); feeds = plays.feeds ∙ way.feeds }

-- nothing is left
pub way-over : {a b : Account} {p0 p : Progress} {whole rest : Part} (signal : Signal) → OnWay a p0 whole rest p b → rest (state_in p) ≡ over (ended p signal) → Plays a p0 whole signal p b
way-over {a} {b} {p0} {p} {whole} {rest} signal way e =
    record { tells = subst (λ r. Tells a p0.items.items p0.tally (whole (state_in p0)) r p.items.items p.tally b) e way.tells; fewer = way.fewer; feeds = way.feeds }

-- a part has ended, and what comes after it is left
pub way-after : {a b c : Account} {p0 p q : Progress} {whole rest : Part} {signal : Signal} (f : Part) (next : Ending → Run Ending) → OnWay a p0 whole rest p b → rest (state_in p) ≡ (f (state_in p) >>= next)
    → Plays b p f signal q c → OnWay a p0 whole (λ s. next (record { state = s; signal = signal })) q c
way-after {a} {b} {c} {p0} {p} {q} {whole} {rest} {signal} f next way is plays = record {
  tells = tells-append way.tells
      (subst (λ r. Tells b p.items.items p.tally r (next (ended q signal)) q.items.items q.tally c) (sym is) (tells-bind next plays.tells));
  fewer = omega (arith, way.fewer, plays.fewer);
  feeds = plays.feeds ∙ way.feeds;
}

-- an ending that isn't Normal is passed on
passed_on : (next : Part) (s : State) (signal : Signal) → (signal ≡ Normal → ⊥) → on_normal next (record { state = s; signal = signal }) ≡ over (record { state = s; signal = signal })
passed_on next s Normal h = absurd (h refl)
passed_on next s NextLoop h = refl
passed_on next s (Stop end) h = refl

-- one part has been run, and the next is left
pub way-then : {a b c : Account} {p0 p q : Progress} {whole rest : Part} {signal : Signal} (f g : Part) → OnWay a p0 whole rest p b → rest (state_in p) ≡ and_then (f (state_in p)) g
    → Plays b p f signal q c → signal ≡ Normal → OnWay a p0 whole g q c
way-then {a} {b} {c} {p0} {p} {q} {whole} {rest} {signal} f g way is plays normal = record {
  tells = tells-append way.tells
      (subst (λ r. Tells b p.items.items p.tally r (g (state_in q)) q.items.items q.tally c) (sym is)
      (subst (λ x. Tells b p.items.items p.tally (and_then (f (state_in p)) g) (on_normal g (ended q x)) q.items.items q.tally c) normal
      (tells-bind (on_normal g) plays.tells)));
  fewer = omega (arith, way.fewer, plays.fewer);
  feeds = plays.feeds ∙ way.feeds;
}

pub way-stop : {a b c : Account} {p0 p q : Progress} {whole rest : Part} {signal : Signal} (f g : Part) → OnWay a p0 whole rest p b → rest (state_in p) ≡ and_then (f (state_in p)) g
    → Plays b p f signal q c → (signal ≡ Normal → ⊥) → Plays a p0 whole signal q c
way-stop {a} {b} {c} {p0} {p} {q} {whole} {rest} {signal} f g way is plays other = record {
  tells = tells-append way.tells
      (subst (λ r. Tells b p.items.items p.tally r (over (ended q signal)) q.items.items q.tally c) (sym is)
      (subst (λ r. Tells b p.items.items p.tally (and_then (f (state_in p)) g) r q.items.items q.tally c) (passed_on g (state_in q) signal other)
      (tells-bind (on_normal g) plays.tells)));
  fewer = omega (arith, way.fewer, plays.fewer);
  feeds = plays.feeds ∙ way.feeds;
}

-- what a change of variables and functions alone leaves
own-same : (p q : Progress) → q ≡ record p { user = q.user } → state_of q.user (record { units = p.units; rounds = p.rounds; places = p.places; config = p.config.places }) ≡ state_in q
own-same p q same = ap (λ r. state_of q.user (record { units = r.units; rounds = r.rounds; places = r.places; config = r.config.places })) (sym same)

pub items-same : (p q : Progress) → q ≡ record p { user = q.user } → q.items.items ≡ p.items.items
items-same p q same = ap (λ r. r.items.items) same

pub tally-same : (p q : Progress) → q ≡ record p { user = q.user } → q.tally ≡ p.tally
tally-same p q same = ap (λ r. r.tally) same

pub rounds-same : (p q : Progress) → q ≡ record p { user = q.user } → q.rounds ≡ p.rounds
rounds-same p q same = ap (λ r. r.rounds) same

pub fewer-same : (p q : Progress) → q ≡ record p { user = q.user } → q.rounds ≤ p.rounds
fewer-same p q same = omega (arith, rounds-same p q same)

pub feeds-same : (p q : Progress) → q ≡ record p { user = q.user } → q.config.feeds ≡ p.config.feeds
feeds-same p q same = ap (λ r. r.config.feeds) same

-- a value came, or would be past its limit
pub way-tried : {X : Type 0} {a b c : Account} {p0 p : Progress} {whole rest : Part} (q : Progress) (attempt : Try X) (next : X → Part) (x : X) → OnWay a p0 whole rest p b
    → rest (state_in p) ≡ tried attempt (state_in p) next → Goes b (attempt p.user) [] (over (fine x q.user)) c → q ≡ record p { user = q.user } → OnWay a p0 whole (next x) q c
way-tried {X} {a} {b} {c} {p0} {p} {whole} {rest} q attempt next x way is goes same =
    way-silent (next x) q (way-as (λ s. tried attempt s next) way is)
    (subst (λ s. Goes b (tried attempt (state_in p) next) [] (next x s) c) (own-same p q same) (goes-bind (on_came (record { units = p.units; rounds = p.rounds; places = p.places; config = p.config.places }) next) goes))
    (items-same p q same) (tally-same p q same) (fewer-same p q same) (feeds-same p q same)

pub way-past : {X : Type 0} {a b c : Account} {p0 p : Progress} {whole rest : Part} (q : Progress) (attempt : Try X) (next : X → Part) → OnWay a p0 whole rest p b
    → rest (state_in p) ≡ tried attempt (state_in p) next → Goes b (attempt p.user) [] (over (past_limit q.user)) c → q ≡ record p { user = q.user } → Plays a p0 whole (Stop PastValueLimit) q c
way-past {X} {a} {b} {c} {p0} {p} {whole} {rest} q attempt next way is goes same =
    way-over (Stop PastValueLimit)
    (way-silent (λ s. over (stopped PastValueLimit s)) q (way-as (λ s. tried attempt s next) way is)
    (subst (λ s. Goes b (tried attempt (state_in p) next) [] (over (stopped PastValueLimit s)) c) (own-same p q same) (goes-bind (on_came (record { units = p.units; rounds = p.rounds; places = p.places; config = p.config.places }) next) goes))
    (items-same p q same) (tally-same p q same) (fewer-same p q same) (feeds-same p q same))
    refl
