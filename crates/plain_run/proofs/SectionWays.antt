-- How a thread comes through a critical section.
use Rattle.std.proofs.Common.{◌≡◌, ℕ, suc, ◌-◌, List, [], ◌∷◌, ◌++◌, Some, Result, refl, sym, ap, subst, arith}
use Rattle.std.specs.Prelude.{slice_get, IfSome}
use Rattle.jm_base.specs.declared.errors.NoMemory.{NoMemory}
use Rattle.jm_base.specs.declared.types.End.TheVariants.{SampleLimit}
use Rattle.jm_base.specs.Run.{over, give, Entered, Left}
use Rattle.jm_base.specs.Outside.{Account}
use Rattle.element_tree.specs.Names.{lock_of_kind, lock_name, lock_of}
use Rattle.element_tree.specs.declared.kinds.Element.{Element}
use Rattle.element_tree.specs.declared.kinds.Kind.TheVariants.{CriticalSection}
use Rattle.jm_meaning.specs.declared.item.Item.TheVariants.{Entered as EnteredItem, Left as LeftItem}
use Rattle.jm_meaning.specs.declared.signal.Signal.{Signal}
use Rattle.jm_meaning.specs.declared.signal.Signal.TheVariants.{Stop}
use Rattle.jm_meaning.specs.State.{Part, state_of}
use Rattle.jm_meaning.specs.Children.{Below, in_order}
use Rattle.jm_meaning.specs.Sections.{leaving, section}
use Rattle.jm_meaning.specs.Meaning.{Here, kind_meaning, children_in}
use Rattle.jm_meaning.proofs.PartLaws.{no-units, one-unit}
use Rattle.plain_run.specs.declared.progress.Progress.{Progress}
use Rattle.plain_run.specs.Plays.{state_in, Plays, IsUnderWay, Runs}
use Rattle.plain_run.proofs.Ways.{OnWay, way-start, way-move, way-give, way-after, way-over}
use Rattle.plain_run.proofs.UnderWay.{on-way, on-way-in}

module _ (a : Account) (p : Progress) (lock : ℕ) (part : Part) where
  abbrev with_one : Part
  with_one s = give (Entered lock) (leaving lock (part s))

  pub no-unit-for-section : p.units ≡ 0 → Plays a p (section lock part) (Stop SampleLimit) p a
  no-unit-for-section none = way-over (Stop SampleLimit) (way-start a p (section lock part)) (no-units (state_in p) with_one none)

  -- it was entered with a unit
  module _ (some : p.units ≡ 0 → ⊥) (e : Progress) (in_state : state_in e ≡ state_of p.user (record { units = p.units - 1; rounds = p.rounds; places = p.places; config = p.config.places }))
      (in_items : e.items.items ≡ p.items.items ++ EnteredItem lock ∷ []) (in_tally : e.tally ≡ p.tally) (in_feeds : e.config.feeds ≡ p.config.feeds) where
    entered : OnWay a p (section lock part) (λ s. leaving lock (part s)) e a
    entered =
        let unit : p.units ≡ suc (p.units - 1) = omega arith in
        way-give (λ s. leaving lock (part s)) e (Entered lock)
        (way-move with_one (record p { units = p.units - 1 }) (way-start a p (section lock part)) (one-unit (state_in p) with_one (p.units - 1) unit) refl refl (omega arith) refl)
        (ap with_one (sym in_state)) in_items in_tally (omega (arith, ap (λ s. s.own.rounds) in_state)) in_feeds

    -- out of memory in its children
    pub section-cut : {b : Account} → IsUnderWay a (part (state_in e)) b → IsUnderWay a (section lock part (state_in p)) b
    section-cut at = on-way-in (part (state_in e)) (λ e. give (Left lock) (over e)) entered refl at

    -- its children ran
    module _ {b : Account} {q : Progress} (signal : Signal) (plays : Plays a e part signal q b) where
      ran : OnWay a p (section lock part) (λ s. give (Left lock) (over (record { state = s; signal = signal }))) q b
      ran = way-after part (λ e. give (Left lock) (over e)) entered refl plays

      -- out of memory before it is left
      pub section-unleft : IsUnderWay a (section lock part (state_in p)) b
      section-unleft = on-way ran

      -- it was left
      pub section-plays : (r : Progress) → state_in r ≡ state_in q → r.items.items ≡ q.items.items ++ LeftItem lock ∷ [] → r.tally ≡ q.tally → r.config.feeds ≡ q.config.feeds
          → Plays a p (section lock part) signal r b
      section-plays r out_state out_items out_tally out_feeds =
          way-over signal
          (way-give (λ s. over (record { state = s; signal = signal })) r (Left lock) ran (ap (λ s. give (Left lock) (over (record { state = s; signal = signal }))) (sym out_state)) out_items out_tally
          (omega (arith, ap (λ s. s.own.rounds) out_state)) out_feeds) refl

-- the lock of a section, and its children
section-lock : (elements : List Element) (number n : ℕ) (e : Element) (lock : List ℕ) → slice_get elements number ≡ Some e → e.kind ≡ CriticalSection lock
    → IfSome (slice_get elements number) (λ e. IfSome (lock_name e) (λ lock. n ≡ lock_of elements lock)) → n ≡ lock_of elements lock
section-lock elements number n e lock there is h =
    let at : IfSome (lock_of_kind e.kind) (λ lock. n ≡ lock_of elements lock) = subst (λ o. IfSome o (λ e. IfSome (lock_name e) (λ lock. n ≡ lock_of elements lock))) there h in
    subst (λ k. IfSome (lock_of_kind k) (λ lock. n ≡ lock_of elements lock)) is at

pub section-runs : (a b : Account) (p q : Progress) (here : Here) (below : Below) (number : ℕ) (e : Element) (round : ℕ) (lock : List ℕ) (n : ℕ) (cs : List ℕ) (result : Result Signal NoMemory) → slice_get here.plan.elements number ≡ Some e
    → e.kind ≡ CriticalSection lock → IfSome (slice_get here.plan.elements number) (λ e. IfSome (lock_name e) (λ lock. n ≡ lock_of here.plan.elements lock)) → cs ≡ children_in here e
    → Runs a p (section n (in_order below round cs)) result q b → Runs a p (kind_meaning here below number e e.kind round) result q b
section-runs a b p q here below number e round lock n cs result there is at cs_are runs =
    subst (λ k. Runs a p (kind_meaning here below number e k round) result q b) (sym is)
    (subst (λ m. Runs a p (section m (in_order below round (children_in here e))) result q b) (section-lock here.plan.elements number n e lock there is at)
    (subst (λ l. Runs a p (section n (in_order below round l)) result q b) cs_are runs))
