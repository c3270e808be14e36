use Rattle.std.proofs.Common.{rules, length, ap, refl, ◌-◌, arith}
use Rattle.std.proofs.lemmas.Option.{slice_get_within}
use Rattle.std.proofs.lemmas.List.FromFn.{length-map-range_with_len}
use Rattle.node_table.specs.ElementLinks.{link_of}
use Rattle.jm_meaning.specs.Meaning.{meaning}
use Rattle.jm_meaning.specs.Sections.{leaving_open}
use Rattle.open_elements.specs.Moves.{past}
use Rattle.control_machine.specs.Left.{here_in, own_at, state_at, open_lock, IsSampler}
use Rattle.std.specs.Prelude.{is_some, Ok, Err}
use Rattle.thread_vars.specs.declared.error.VarError.TheVariants.{NoMemory}
use Rattle.control_machine.specs.declared.position.Position.{Position}
use Rattle.control_machine.proofs.Opening.{nests_at, apart_at}
use Rattle.control_machine.proofs.Turning.{open_nothing, open_sampler, open_frame, open_refused}
use Rattle.control_machine.proofs.Standing.{opened_apart, pushed_opens, pushed_turn, within_30}
use Rattle.control_machine.specs.MachineCut.{before_element}
use Rattle.control_machine.proofs.Coming.{turns_at}
use Rattle.control_machine.proofs.position.Position.open.Goals as goal

pub count-children-requires : goal.count-children-requires
count-children-requires g c =
    let n = nests_at c.args.plan.now.elements c.args.depth c.args.child c.requires.nests in
    let within = slice_get_within c.args.plan.now.elements c.args.child n.element n.there in
    omega (arith, within, ap length c.requires.stands.links, length-map-range_with_len (link_of c.args.plan.now.elements) 0 (length c.args.plan.now.elements))

pub enter-requires : goal.enter-requires
enter-requires g c = record { counted = λ e there. c.count-children.ensures c.args.plan.now.elements e c.requires.stands.links there }

pub overflow_sub-frame : goal.overflow_sub-frame
overflow_sub-frame g c = (nests_at c.args.plan.now.elements c.args.depth c.args.child c.requires.nests).some

pub returns-in-Ok-Nothing-clause-turns : goal.returns-in-Ok-Nothing-clause-turns
returns-in-Ok-Nothing-clause-turns g c =
    let n = nests_at c.args.plan.now.elements c.args.depth c.args.child c.requires.nests in
    record {
      cut = tt;
      came = λ beside. open_nothing c.args.plan.now c.args.self.now c.args.child c.args.round c.args.depth n.element c.args.state.now c.enter.new.state (own_at c.args.self.now beside) (own_at (record c.args.self.now { places = c.enter.new.places }) beside) _ _ n.some n.there c.requires.normal
          (rw c.in-Ok-Nothing.field-0-is at (c.in-Ok-Nothing.ensures.has_entered.came n.element c.args.self.now.at_failure (meaning (here_in c.args.plan.now c.args.self.now) (c.args.depth - 1)) c.args.round (own_at c.args.self.now beside) n.there));
    }

pub returns-in-Ok-Sampler-clause-turns : goal.returns-in-Ok-Sampler-clause-turns
returns-in-Ok-Sampler-clause-turns g c =
    let n = nests_at c.args.plan.now.elements c.args.depth c.args.child c.requires.nests in
    record {
      cut = tt;
      came = λ beside. open_sampler c.args.plan.now c.args.self.now c.args.child c.args.round c.args.depth n.element c.args.state.now c.enter.new.state (own_at c.args.self.now beside) (own_at (record c.args.self.now { places = c.enter.new.places }) beside) _ _ n.some n.there
          (rw c.in-Ok-Sampler.field-0-is at (c.in-Ok-Sampler.ensures.has_entered.came n.element c.args.self.now.at_failure (meaning (here_in c.args.plan.now c.args.self.now) (c.args.depth - 1)) c.args.round (own_at c.args.self.now beside) n.there));
    }

pub returns-in-Ok-Sampler-clause-goes : goal.returns-in-Ok-Sampler-clause-goes
returns-in-Ok-Sampler-clause-goes g c =
    let n = nests_at c.args.plan.now.elements c.args.depth c.args.child c.requires.nests in
    let given : IsSampler c.args.plan.now.elements c.args.child = record { element = n.element; there = n.there; of_kind = rw c.in-Ok-Sampler.field-0-is at (c.in-Ok-Sampler.ensures.has_entered.fits n.element n.there) } in
    search rules

pub returns-in-Ok-clause-turns : goal.returns-in-Ok-clause-turns
returns-in-Ok-clause-turns g c =
    let n = nests_at c.args.plan.now.elements c.args.depth c.args.child c.requires.nests in
    let a = apart_at c.args.plan.now.elements c.args.depth c.args.child (is_some (open_lock c.args.self.now.stack.frames)) c.requires.apart in
    let new : Position = record c.args.self.now { places = c.enter.new.places; stack = c.push.new.self } in
    turns_at c.args.self.now (before_element c.args.depth c.args.child c.args.round) c.args.state.now (λ beside.
    open_frame c.args.plan.now c.args.self.now c.args.child c.args.round c.args.depth n.element c.args.state.now c.enter.new.state (own_at c.args.self.now beside) (own_at new beside) (g.O.Outside.account c.args.outside.now) (g.O.Outside.account c.enter.new.outside) n.some n.there
    new c.in-Ok-Open.cursor (leaving_open (open_lock c.args.self.now.stack.frames) (past (state_at new beside c.enter.new.state))) (Ok c.opening_move-went.result) (record { group = refl; failure = refl; signal = c.requires.normal }) (own_at new beside) refl c.requires.stands.apart
    (opened_apart c.args.plan.now.elements c.args.self.now.stack.frames c.args.child c.args.round c.args.depth c.in-Ok-Open.cursor a.element a.there (rw c.in-Ok-Open.field-0-is at (c.in-Ok-Open.ensures.has_entered.fits a.element a.there)).0 a.free a.below).alone (c.opening_move-went.ensures, c.in-Ok.ensures.ok)
    (rw c.in-Ok-Open.field-0-is at (c.in-Ok-Open.ensures.has_entered.came n.element c.args.self.now.at_failure (meaning (here_in c.args.plan.now c.args.self.now) (c.args.depth - 1)) c.args.round (own_at c.args.self.now beside) n.there)))
    c.in-Ok-Open.ensures.has_entered.stands

pub returns-in-Ok-clause-goes : goal.returns-in-Ok-clause-goes
returns-in-Ok-clause-goes g c =
    let n = nests_at c.args.plan.now.elements c.args.depth c.args.child c.requires.nests in
    let f = rw c.in-Ok-Open.field-0-is at (c.in-Ok-Open.ensures.has_entered.fits n.element n.there) in
    let a = apart_at c.args.plan.now.elements c.args.depth c.args.child (is_some (open_lock c.args.self.now.stack.frames)) c.requires.apart in
    let within = within_30 c.args.self.now.stack.frames c.requires.stands.falls in
    pushed_turn c.args.plan.now c.args.self.now (record c.args.self.now { places = c.enter.new.places; stack = c.push.new.self }) _ (Ok c.opening_move-went.result) (c.opening_move-went.ensures, c.in-Ok.ensures.ok)
    (record { group = refl; rounds = refl; failure = refl; signal = refl; links = refl })
    (record { element = n.element; there = n.there; fits = f.0; below = n.below; depth = omega (arith, c.requires.depth, within); bound = omega (arith, f.1, c.requires.stands.group.bound); lock = rw c.in-Ok-Open.field-0-is at (c.in-Ok-Open.ensures.has_entered.lock n.element n.there) })
    (opened_apart c.args.plan.now.elements c.args.self.now.stack.frames c.args.child c.args.round c.args.depth c.in-Ok-Open.cursor a.element a.there (rw c.in-Ok-Open.field-0-is at (c.in-Ok-Open.ensures.has_entered.fits a.element a.there)).0 a.free a.below) (omega (arith, n.some, c.requires.depth)) c.requires.stands

pub returns-in-Ok-clause-load : goal.returns-in-Ok-clause-load
returns-in-Ok-clause-load g c =
    let n = nests_at c.args.plan.now.elements c.args.depth c.args.child c.requires.nests in
    let f = rw c.in-Ok-Open.field-0-is at (c.in-Ok-Open.ensures.has_entered.fits n.element n.there) in
    pushed_opens c.args.plan.now c.args.self.now (record c.args.self.now { places = c.enter.new.places; stack = c.push.new.self }) c.args.child c.args.round c.args.depth c.in-Ok-Open.cursor n.element n.there f.0 (Ok c.opening_move-went.result) (c.opening_move-went.ensures, c.in-Ok.ensures.ok)

pub returns-in-Err-push-clause-turns : goal.returns-in-Err-push-clause-turns
returns-in-Err-push-clause-turns g c =
    let n = nests_at c.args.plan.now.elements c.args.depth c.args.child c.requires.nests in
    let a = apart_at c.args.plan.now.elements c.args.depth c.args.child (is_some (open_lock c.args.self.now.stack.frames)) c.requires.apart in
    let new : Position = record c.args.self.now { places = c.enter.new.places; stack = c.push.new.self } in
    turns_at c.args.self.now (before_element c.args.depth c.args.child c.args.round) c.args.state.now (λ beside.
    open_frame c.args.plan.now c.args.self.now c.args.child c.args.round c.args.depth n.element c.args.state.now c.enter.new.state (own_at c.args.self.now beside) (own_at new beside) (g.O.Outside.account c.args.outside.now) (g.O.Outside.account c.enter.new.outside) n.some n.there
    new c.in-Ok-Open.cursor (leaving_open (open_lock c.args.self.now.stack.frames) (past (state_at new beside c.enter.new.state))) (Err NoMemory) (record { group = refl; failure = refl; signal = c.requires.normal }) (own_at new beside) refl c.requires.stands.apart
    (opened_apart c.args.plan.now.elements c.args.self.now.stack.frames c.args.child c.args.round c.args.depth c.in-Ok-Open.cursor a.element a.there (rw c.in-Ok-Open.field-0-is at (c.in-Ok-Open.ensures.has_entered.fits a.element a.there)).0 a.free a.below).alone refl
    (rw c.in-Ok-Open.field-0-is at (c.in-Ok-Open.ensures.has_entered.came n.element c.args.self.now.at_failure (meaning (here_in c.args.plan.now c.args.self.now) (c.args.depth - 1)) c.args.round (own_at c.args.self.now beside) n.there)))
    c.in-Ok-Open.ensures.has_entered.stands

pub returns-in-Err-clause-turns : goal.returns-in-Err-clause-turns
returns-in-Err-clause-turns g c =
    let n = nests_at c.args.plan.now.elements c.args.depth c.args.child c.requires.nests in
    turns_at c.args.self.now (before_element c.args.depth c.args.child c.args.round) c.args.state.now (λ beside.
    open_refused c.args.plan.now c.args.self.now c.args.child c.args.round c.args.depth n.element c.args.state.now c.enter.new.state (own_at c.args.self.now beside) (own_at (record c.args.self.now { places = c.enter.new.places }) beside) _ _ n.some n.there c.in-Err.error c.requires.stands.apart
    (c.in-Err.ensures.has_entered.came n.element c.args.self.now.at_failure (meaning (here_in c.args.plan.now c.args.self.now) (c.args.depth - 1)) c.args.round (own_at c.args.self.now beside) n.there))
    c.in-Err.ensures.has_entered.stands
