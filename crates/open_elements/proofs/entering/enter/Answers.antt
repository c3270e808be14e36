use Rattle.std.proofs.Common.{rules, sym, ap, ◌∙◌, subst, ◌≡◌}
use Rattle.std.specs.Prelude.{Some, slice_get}
use Rattle.std.proofs.lemmas.Option.{slice_get_within}
use Rattle.jm_base.specs.Run.{over}
use Rattle.element_tree.specs.declared.kinds.Element.{Element}
use Rattle.element_tree.specs.declared.kinds.Kind.TheVariants as kinds
use Rattle.logic_controllers.specs.ForEachController.{Row}
use Rattle.jm_meaning.specs.State.{state_of, at_places, normal}
use Rattle.jm_meaning.specs.Meaning.{kind_meaning}
use Rattle.jm_meaning.proofs.CutLaws.{stands_same}
use Rattle.open_elements.specs.Entering.{here_with, IsSamplerKind}
use Rattle.open_elements.proofs.CursorCalls.{same_element}
use Rattle.open_elements.proofs.OpenLaws.{kind_is, other_kind, sampler_means, goes_as}
use Rattle.open_elements.proofs.entering.enter.Goals as goal

pub enter_as-requires-in-ForEach : goal.enter_as-requires-in-ForEach
enter_as-requires-in-ForEach g c =
    let row : Row = record { input = c.in-ForEach.input; separator = c.in-ForEach.separator; start = c.in-ForEach.start; end = c.in-ForEach.end } in
    record { there = (c.in-Some.element.now, sym c.in-Some.ensures, (row, c.in-ForEach.output, c.in-ForEach.is)); counted = c.requires.counted }

pub returns-in-Script : goal.returns-in-Script
returns-in-Script g c = record {
  has_entered = record {
    came = λ e failure below round own there.
        let k = kinds.Script c.in-Script.replies c.in-Script.request in
        goes_as _ _ _ (sampler_means (here_with c.args.plan.now failure) below c.args.child e e.kind k round (state_of c.args.state.now (at_places own c.args.places.now))
        (kind_is c.args.plan.now.elements c.args.child c.in-Some.element.now e k c.in-Some.ensures there c.in-Script.is) tt);
    fits = λ e there.
        let k = kinds.Script c.in-Script.replies c.in-Script.request in
        subst IsSamplerKind (sym (kind_is c.args.plan.now.elements c.args.child c.in-Some.element.now e k c.in-Some.ensures there c.in-Script.is)) tt;
    lock = λ e there. tt;
    stands = stands_same c.args.state.now;
    places = tt;
  };
}

pub returns-in-Http : goal.returns-in-Http
returns-in-Http g c =
    let h = c.in-Http in
    let k = kinds.Http h.body h.host h.method h.params h.path h.port h.replies in
    record {
      has_entered = record {
        came = λ e failure below round own there.
            goes_as _ _ _ (sampler_means (here_with c.args.plan.now failure) below c.args.child e e.kind k round (state_of c.args.state.now (at_places own c.args.places.now))
            (kind_is c.args.plan.now.elements c.args.child c.in-Some.element.now e k c.in-Some.ensures there h.is) tt);
        fits = λ e there. subst IsSamplerKind (sym (kind_is c.args.plan.now.elements c.args.child c.in-Some.element.now e k c.in-Some.ensures there h.is)) tt;
        lock = λ e there. tt;
        stands = stands_same c.args.state.now;
        places = tt;
      };
    }

pub returns-in-Simple : goal.returns-in-Simple
returns-in-Simple g c = record { has_entered = c.enter_as.ensures c.args.places.now }

pub returns-in-OnceOnly : goal.returns-in-OnceOnly
returns-in-OnceOnly g c = record { has_entered = c.enter_as-in-OnceOnly.ensures c.args.places.now }

pub returns-in-Loop : goal.returns-in-Loop
returns-in-Loop g c = record { has_entered = c.enter_as-in-Loop.ensures c.args.places.now }

pub returns-in-If : goal.returns-in-If
returns-in-If g c = record { has_entered = c.enter_as-in-If.ensures c.args.places.now }

pub returns-in-While : goal.returns-in-While
returns-in-While g c = record { has_entered = c.enter_as-in-While.ensures c.args.places.now }

pub returns-in-ForEach : goal.returns-in-ForEach
returns-in-ForEach g c = record { has_entered = c.enter_as-in-ForEach.ensures c.args.places.now }

pub returns-in-Random : goal.returns-in-Random
returns-in-Random g c = record { has_entered = c.enter_as-in-Random.ensures c.args.places.now }

pub returns-in-RandomOrder : goal.returns-in-RandomOrder
returns-in-RandomOrder g c = record { has_entered = c.enter_as-in-RandomOrder.ensures c.args.places.now }

pub returns-in-Switch : goal.returns-in-Switch
returns-in-Switch g c = record { has_entered = c.enter_as-in-Switch.ensures c.args.places.now }

pub returns-in-Transaction : goal.returns-in-Transaction
returns-in-Transaction g c =
    let kind = λ (e : Element) (there : slice_get c.args.plan.now.elements c.args.child ≡ Some e).
    kind_is c.args.plan.now.elements c.args.child c.in-Some.element.now e (kinds.Transaction) c.in-Some.ensures there c.in-Transaction.is in
    record {
      has_entered = record {
        came = λ e failure below round own there.
            goes_as _ _ _ (ap (λ x. kind_meaning (here_with c.args.plan.now failure) below c.args.child e x round (state_of c.args.state.now (at_places own c.args.places.now))) (kind e there)
            ∙ c.enter_transaction.ensures.came c.args.plan.now e failure below round (state_of c.args.state.now (at_places own c.args.places.now)) (record { there = there; of_kind = kind e there }) (c.requires.counted e there));
        fits = λ e there. c.enter_transaction.ensures.fits c.args.plan.now.elements e (record { there = there; of_kind = kind e there }) (c.requires.counted e there);
        lock = λ e there. c.enter_transaction.ensures.lock c.args.plan.now.elements e.kind;
        stands = stands_same c.args.state.now;
        places = tt;
      };
    }

pub returns-in_default-kind : goal.returns-in_default-kind
returns-in_default-kind g c =
    let d = c.in_default-kind in
    record {
      has_entered = record {
        came = λ e failure below round own there.
            goes_as _ _ _ (subst (λ x. kind_meaning (here_with c.args.plan.now failure) below c.args.child e x.kind round (state_of c.args.state.now (at_places own c.args.places.now)) ≡ over (normal (state_of c.args.state.now (at_places own c.args.places.now))))
            (same_element c.args.plan.now.elements c.args.child c.in-Some.element.now e (sym c.in-Some.ensures) there)
            (other_kind (here_with c.args.plan.now failure) below c.args.child e c.in-Some.element.now.kind round (state_of c.args.state.now (at_places own c.args.places.now))
            d.not-Script d.not-Http d.not-Simple d.not-OnceOnly d.not-Loop d.not-If d.not-While d.not-ForEach d.not-Interleave d.not-Random d.not-RandomOrder d.not-Switch d.not-Transaction d.not-CriticalSection));
        fits = λ e there. tt;
        lock = λ e there. tt;
        stands = stands_same c.args.state.now;
        places = tt;
      };
    }

pub enter_as-requires : goal.enter_as-requires
enter_as-requires g c = record { there = (c.in-Some.element.now, sym c.in-Some.ensures, c.in-Simple.is); counted = c.requires.counted }

pub enter_as-requires-in-OnceOnly : goal.enter_as-requires-in-OnceOnly
enter_as-requires-in-OnceOnly g c = record { there = (c.in-Some.element.now, sym c.in-Some.ensures, c.in-OnceOnly.is); counted = c.requires.counted }

pub enter_as-requires-in-Loop : goal.enter_as-requires-in-Loop
enter_as-requires-in-Loop g c = record { there = (c.in-Some.element.now, sym c.in-Some.ensures, (c.in-Loop.loops, c.in-Loop.is)); counted = c.requires.counted }

pub enter_as-requires-in-If : goal.enter_as-requires-in-If
enter_as-requires-in-If g c = record { there = (c.in-Some.element.now, sym c.in-Some.ensures, (c.in-If.all, c.in-If.condition, c.in-If.is)); counted = c.requires.counted }

pub enter_as-requires-in-While : goal.enter_as-requires-in-While
enter_as-requires-in-While g c = record { there = (c.in-Some.element.now, sym c.in-Some.ensures, (c.in-While.condition, c.in-While.is)); counted = c.requires.counted }

pub enter_as-requires-in-Random : goal.enter_as-requires-in-Random
enter_as-requires-in-Random g c = record { there = (c.in-Some.element.now, sym c.in-Some.ensures, c.in-Random.is); counted = c.requires.counted }

pub enter_as-requires-in-RandomOrder : goal.enter_as-requires-in-RandomOrder
enter_as-requires-in-RandomOrder g c = record { there = (c.in-Some.element.now, sym c.in-Some.ensures, c.in-RandomOrder.is); counted = c.requires.counted }

pub enter_as-requires-in-Switch : goal.enter_as-requires-in-Switch
enter_as-requires-in-Switch g c = record { there = (c.in-Some.element.now, sym c.in-Some.ensures, (c.in-Switch.value, c.in-Switch.is)); counted = c.requires.counted }

pub enter_interleave-requires : goal.enter_interleave-requires
enter_interleave-requires g c = record { there = (c.in-Some.element.now, record { there = sym c.in-Some.ensures; of_kind = c.in-Interleave.is }); counted = c.requires.counted }

pub returns-in-Interleave : goal.returns-in-Interleave
returns-in-Interleave g c = record { has_entered = c.enter_interleave.ensures }

pub enter_section-requires : goal.enter_section-requires
enter_section-requires g c = record {
  within = slice_get_within c.args.plan.now.elements c.args.child c.in-Some.element.now (sym c.in-Some.ensures);
  counted = c.requires.counted;
}

pub returns-in-CriticalSection : goal.returns-in-CriticalSection
returns-in-CriticalSection g c =
    let kind = λ (e : Element) (there : slice_get c.args.plan.now.elements c.args.child ≡ Some e).
    kind_is c.args.plan.now.elements c.args.child c.in-Some.element.now e (kinds.CriticalSection c.in-CriticalSection.lock) c.in-Some.ensures there c.in-CriticalSection.is in
    record {
      has_entered = record {
        came = λ e failure below round own there.
            goes_as _ _ _ (c.enter_section.ensures.came e c.in-CriticalSection.lock failure below round (state_of c.args.state.now (at_places own c.args.places.now)) (record { there = there; of_kind = kind e there }));
        fits = λ e there. c.enter_section.ensures.fits e c.in-CriticalSection.lock (record { there = there; of_kind = kind e there });
        lock = λ e there. c.enter_section.ensures.lock e c.in-CriticalSection.lock (record { there = there; of_kind = kind e there });
        stands = stands_same c.args.state.now;
        places = tt;
      };
    }

pub returns-in_default : goal.returns-in_default
returns-in_default g c = record {
  has_entered = record {
    came = search rules;
    fits = λ e there. tt;
    lock = λ e there. tt;
    stands = stands_same c.args.state.now;
    places = tt;
  };
}
