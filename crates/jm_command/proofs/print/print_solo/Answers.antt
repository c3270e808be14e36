use Rattle.std.proofs.Common.{◌++◌, Err, rules}
use Rattle.output_lines.specs.Lines.{header_text}
use Rattle.trace_output.specs.Texts.{trace_text}
use Rattle.trace_output.specs.declared.error.PrintError.TheVariants.{WriteFault, NoMemory}
use Rattle.jm_command.proofs.TextLaws.{results_failed, results_cut, solo_says, printed_as}
use Rattle.jm_command.proofs.print.print_solo.Goals as goal

pub returns-in-Ok-print_results : goal.returns-in-Ok-print_results
returns-in-Ok-print_results g c =
    solo_says c.args.plan.now c.args.solo.now c.in-Ok.ran.trace.items c.in-Ok.ran.end c.in-Ok.ensures.shown c.in-Ok.ensures.intervals _ _ _ _
    (rw c.deref.ensures.value at c.in-Ok-print_results.ensures) _ _ _ _ c.report_ran.result c.report_ran.ensures

pub returns-in-Err-WriteFault : goal.returns-in-Err-WriteFault
returns-in-Err-WriteFault g c =
    results_failed c.args.plan.now c.args.solo.now c.in-Ok.ran.trace.items c.in-Ok.ran.end c.in-Ok.ensures.shown c.in-Ok.ensures.intervals _ _ _ _
    (printed_as (λ items. header_text ++ trace_text c.args.plan.now c.args.solo.now.thread items) _ _ (g.O.Sink.written c.args.results.now) (g.O.Sink.written c.print_results.new.results) (g.O.Sink.faults c.args.results.now) (g.O.Sink.faults c.print_results.new.results) (Err c.in-Err-WriteFault.field-0) (Err WriteFault)
    c.deref.ensures.value c.in-Err-WriteFault.ensures (search rules)) _ _

pub returns : goal.returns
returns g c =
    results_cut c.args.plan.now c.args.solo.now c.in-Ok.ran.trace.items c.in-Ok.ran.end c.in-Ok.ensures.shown c.in-Ok.ensures.intervals _ _ _ _
    (printed_as (λ items. header_text ++ trace_text c.args.plan.now c.args.solo.now.thread items) _ _ (g.O.Sink.written c.args.results.now) (g.O.Sink.written c.print_results.new.results) (g.O.Sink.faults c.args.results.now) (g.O.Sink.faults c.print_results.new.results) (Err c.in-Err-NoMemory.field-0) (Err NoMemory)
    c.deref.ensures.value c.in-Err-NoMemory.ensures (search rules)) _ _
