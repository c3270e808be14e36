-- How a thread comes through a transaction.
use Rattle.std.proofs.Common.{◌≡◌, ℕ, suc, ◌-◌, true, false, List, [], ◌∷◌, ◌++◌, Some, Result, refl, sym, ap, ◌∙◌, subst, arith}
use Rattle.std.specs.Prelude.{IfOk, IfSome, slice_get, ◌&&◌, nat_lt, if◌then◌else◌}
use Rattle.jm_base.specs.declared.errors.NoMemory.{NoMemory}
use Rattle.jm_base.specs.declared.types.End.TheVariants.{SampleLimit}
use Rattle.jm_base.specs.declared.types.Sample.{Sample}
use Rattle.jm_base.specs.Run.{over, give, Event, Sampled, Transaction}
use Rattle.jm_base.specs.Outside.{Account, Goes}
use Rattle.element_tree.specs.Names.{label_of}
use Rattle.element_tree.specs.declared.kinds.Element.{Element}
use Rattle.element_tree.specs.declared.kinds.Kind.TheVariants.{Transaction as TransactionKind}
use Rattle.jm_meaning.specs.declared.item.Item.TheVariants.{Sampled as SampledItem}
use Rattle.jm_meaning.specs.declared.signal.Signal.{Signal}
use Rattle.jm_meaning.specs.declared.signal.Signal.TheVariants.{Stop}
use Rattle.jm_meaning.specs.declared.transaction.Tally.{Tally}
use Rattle.jm_meaning.specs.State.{Ending, Part, state_of, with_unit}
use Rattle.jm_meaning.specs.Children.{Below, in_order}
use Rattle.jm_meaning.specs.Meaning.{Here, kind_meaning, children_in}
use Rattle.jm_meaning.specs.Transactions.{gives_sample, sample_by, summed, with_own_sample, transaction, tally_of, tallied, transaction_from, counted}
use Rattle.jm_meaning.proofs.PartLaws.{no-units, one-unit}
use Rattle.jm_meaning.proofs.TransactionLaws.{by-tally, goes-inside}
use Rattle.plain_run.specs.declared.progress.Progress.{Progress}
use Rattle.plain_run.specs.Plays.{state_in, ended, Plays, IsUnderWay, Runs}
use Rattle.plain_run.proofs.Ways.{OnWay, way-start, way-move, way-give, way-over}
use Rattle.plain_run.proofs.UnderWay.{way-shows}

-- what is left of a transaction after its children, by what it has counted and the signal
abbrev pub sum_behind : ℕ → Tally → Signal → Part
sum_behind label tally signal s = summed label tally (record { state = s; signal = signal })

-- a transaction has nothing left but its sample
summed-so : (label : ℕ) (tally : Tally) (e : Ending) → transaction_from label tally (over e) ≡ summed label tally e
unfolding tallied
summed-so label tally e = refl

-- ---- the children

-- out of memory in them
pub transaction-cut : {a b : Account} (label : ℕ) (part : Part) (p : Progress) → IsUnderWay a (part (state_in p)) b → IsUnderWay a (transaction label part (state_in p)) b
transaction-cut {a} {b} label part p at = (
  at.0,
  transaction_from label (counted (tally_of []) at.0) at.1,
  subst (λ r. Goes a r at.0 (transaction_from label (counted (tally_of []) at.0) at.1) b) (sym (by-tally label part (state_in p))) (goes-inside label (tally_of []) at.2),
)

module _ {a b : Account} (p : Progress) {q : Progress} {signal : Signal} (label : ℕ) (part : Part) (none : Tally) (empty : none ≡ tally_of [])
    (inside : Plays a (record p { tally = none }) part signal q b) where
  counts-so : q.tally ≡ counted (tally_of []) inside.tells.shows.events
  counts-so = inside.tells.counts ∙ ap (λ t. counted t inside.tells.shows.events) empty

  inside-goes : Goes a (transaction label part (state_in p)) inside.tells.shows.events (sum_behind label q.tally signal (state_in q)) b
  inside-goes =
      subst (λ r. Goes a r inside.tells.shows.events (sum_behind label q.tally signal (state_in q)) b) (sym (by-tally label part (state_in p)))
      (subst (λ r. Goes a (transaction_from label (tally_of []) (part (state_in p))) inside.tells.shows.events r b)
      (summed-so label q.tally (ended q signal))
      (subst (λ t. Goes a (transaction_from label (tally_of []) (part (state_in p))) inside.tells.shows.events (transaction_from label t (over (ended q signal))) b)
      (sym counts-so) (goes-inside label (tally_of []) inside.tells.shows.goes)))

  -- The children were run from no tally on, and the one before is joined with theirs: what is left is the sample.
  pub transaction-runs : (joined : Tally) → ((events : List Event) → q.tally ≡ counted (tally_of []) events → joined ≡ counted p.tally events)
      → (r : Progress) (result : Result Signal NoMemory) → IfOk result (λ last. (c : Account) → Plays c (record q { tally = joined }) (sum_behind label q.tally signal) last r c)
      → Runs a p (transaction label part) result r b
  transaction-runs joined joins r result sums = way-shows r result way sums where
    way : OnWay a p (transaction label part) (sum_behind label q.tally signal) (record q { tally = joined }) b
    way = record {
      tells = record {
        shows = record { events = inside.tells.shows.events; goes = inside-goes; items = inside.tells.shows.items };
        counts = joins inside.tells.shows.events counts-so;
      };
      fewer = inside.fewer;
      feeds = inside.feeds;
    }

-- ---- the sample

module _ (a : Account) (p : Progress) (label : ℕ) (tally : Tally) (signal : Signal) where
  pub no-sum : (gives_sample signal && nat_lt 0 tally.samples) ≡ false → Plays a p (sum_behind label tally signal) signal p a
  no-sum none =
      way-over signal (way-start a p (sum_behind label tally signal))
      (ap (λ b. if b then with_own_sample label tally (ended p signal) else over (ended p signal)) none)

  -- the sample is given with a unit
  abbrev sum_given : Part
  sum_given s = give (Sampled Transaction (sample_by label tally)) (over (record { state = s; signal = signal }))

  module _ (some : (gives_sample signal && nat_lt 0 tally.samples) ≡ true) where
    in_sum : OnWay a p (sum_behind label tally signal) (λ s. with_unit s sum_given) p a
    in_sum = way-move (λ s. with_unit s sum_given) p (way-start a p (sum_behind label tally signal))
        (ap (λ b. if b then with_own_sample label tally (ended p signal) else over (ended p signal)) some) refl refl (omega arith) refl

    pub no-unit-for-sum : p.units ≡ 0 → Plays a p (sum_behind label tally signal) (Stop SampleLimit) p a
    no-unit-for-sum none = way-over (Stop SampleLimit) in_sum (no-units (state_in p) sum_given none)

    pub sum-given : (q : Progress) (x : Sample) → x ≡ sample_by label tally → (p.units ≡ 0 → ⊥) → state_in q ≡ state_of p.user (record { units = p.units - 1; rounds = p.rounds; places = p.places; config = p.config.places })
        → q.items.items ≡ p.items.items ++ SampledItem x ∷ [] → q.tally ≡ p.tally → q.config.feeds ≡ p.config.feeds → Plays a p (sum_behind label tally signal) signal q a
    sum-given q x so left is items tallies feeds =
        let unit : p.units ≡ suc (p.units - 1) = omega arith in
        way-over signal (way-give (λ s. over (record { state = s; signal = signal })) q (Sampled Transaction (sample_by label tally))
        (way-move sum_given (record p { units = p.units - 1 }) in_sum (one-unit (state_in p) sum_given (p.units - 1) unit) refl refl (omega arith) refl)
        (ap (λ s. sum_given s) (sym is)) (items ∙ ap (λ y. p.items.items ++ SampledItem y ∷ []) so) tallies (omega (arith, ap (λ s. s.own.rounds) is)) feeds) refl

-- an element of this kind
pub transaction-of-kind : (a b : Account) (p q : Progress) (here : Here) (below : Below) (number : ℕ) (e : Element) (round n : ℕ) (cs : List ℕ) (result : Result Signal NoMemory) → slice_get here.plan.elements number ≡ Some e
    → e.kind ≡ TransactionKind → IfSome (slice_get here.plan.elements number) (λ e. n ≡ label_of here.plan.elements e.name) → cs ≡ children_in here e
    → Runs a p (transaction n (in_order below round cs)) result q b → Runs a p (kind_meaning here below number e e.kind round) result q b
transaction-of-kind a b p q here below number e round n cs result there is at cs_are runs =
    let named : n ≡ label_of here.plan.elements e.name = subst (λ o. IfSome o (λ e. n ≡ label_of here.plan.elements e.name)) there at in
    subst (λ k. Runs a p (kind_meaning here below number e k round) result q b) (sym is)
    (subst (λ m. Runs a p (transaction m (in_order below round (children_in here e))) result q b) named
    (subst (λ l. Runs a p (transaction n (in_order below round l)) result q b) cs_are runs))
