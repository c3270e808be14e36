use Rattle.std.proofs.Common.{◌∙◌, ap, ◌∷◌, [], ◌++◌, append_assoc}
use Rattle.thread_machine.specs.declared.trace.TraceItem.TheVariants.{Left, Ended}
use Rattle.thread_machine.proofs.runner.Runner.cut.Goals as goal

pub returns-in-Some-clause-items : goal.returns-in-Some-clause-items
returns-in-Some-clause-items c = rw c.in-Some.is
    (c.put.ensures.items ∙ ap (λ xs. xs ++ Ended c.args.end ∷ []) c.leave-left.ensures.items ∙ append_assoc c.args.self.now.trace.items (Left c.in-Some.lock ∷ []) (Ended c.args.end ∷ []))
