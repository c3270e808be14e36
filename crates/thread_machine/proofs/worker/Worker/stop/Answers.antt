use Rattle.std.proofs.Common.{◌≡◌, None, false, true, refl, ap, sym, ◌∙◌, subst, arith}
use Rattle.jm_base.specs.declared.types.End.TheVariants.{Stopped}
use Rattle.thread_machine.specs.Inside.{standing_of, IsSound}
use Rattle.thread_machine.proofs.Ends.{was_stopped}
use Rattle.thread_machine.proofs.Sound.{going_trace, sound_off, trace_of}
use Rattle.thread_machine.proofs.worker.Worker.stop.Goals as goal

pub cut-requires : goal.cut-requires
cut-requires c =
    let going : c.self.inside.ended ≡ false = ap (λ s. s.ended) c.self.view_is ∙ c.requires.going in
    let room = ((rw going at c.self.invariant).going refl).room in
    omega (arith, room)

pub invariant_of-self : goal.invariant_of-self
invariant_of-self c =
    let going : c.self.inside.ended ≡ false = ap (λ s. s.ended) c.self.view_is ∙ c.requires.going in
    let owed = ap (λ s. s.owed) c.self.view_is ∙ c.requires.owed in
    let entering = ap (λ s. s.entering) c.self.view_is ∙ c.requires.entering in
    subst (λ r. IsSound r true) (sym c.cut.ensures.kept)
    (sound_off c.self.inside.runner c.cut.new.self.trace Stopped (trace_of c.self.inside.runner (rw going at c.self.invariant)) owed entering c.cut.ensures.items)

pub returns-clause-stopped : goal.returns-clause-stopped
returns-clause-stopped c = rw (← c.self.view_is)
    (ap (λ r. standing_of r true) c.cut.ensures.kept
    ∙ ap (λ xs. record (standing_of c.self.inside.runner true) { section = None; trace = xs }) c.cut.ensures.items)

pub returns-clause-follows : goal.returns-clause-follows
returns-clause-follows c =
    let going : c.self.inside.ended ≡ false = ap (λ s. s.ended) c.self.view_is ∙ c.requires.going in
    let owed = ap (λ s. s.owed) c.self.view_is ∙ c.requires.owed in
    let entering = ap (λ s. s.entering) c.self.view_is ∙ c.requires.entering in
    rw (← c.self.view_is, going)
    (λ start now options stands. was_stopped start now options (standing_of c.self.inside.runner false) c.cut.new.self.trace.items owed entering
    (going_trace c.self.inside.runner (rw going at c.self.invariant)) c.cut.ensures.items stands)
