use Rattle.std.proofs.Common.{ℕ, ◌*◌, ◌≤◌, ◌++◌, List, Err, length, take, ap, sym, subst, ◌∙◌, rules}
use Rattle.std.specs.Prelude.{All}
use Rattle.element_tree.specs.Names.{labels_of}
use Rattle.interval_tables.specs.declared.report.Report.{Report}
use Rattle.interval_tables.specs.Rows.{IsInBounds}
use Rattle.phaser_core.specs.Shares.{rows_of_all}
use Rattle.trace_output.specs.declared.error.PrintError.TheVariants.{WriteFault, NoMemory}
use Rattle.output_lines.specs.Lines.{header_text}
use Rattle.trace_output.specs.Texts.{CanPrint, traces_text}
use Rattle.interval_tables.proofs.Sums.{length-sum_of}
use Rattle.jm_command.proofs.TextLaws.{printed_as}
use Rattle.jm_command.proofs.WeaveLaws.{can_print, firsts_low, all_counted, weave_failed, weave_cut, weave_says}
use Rattle.jm_command.proofs.weaving.print_weave.Goals as goal

pub total_of-requires-clause-each : goal.total_of-requires-clause-each
total_of-requires-clause-each g c =
    subst (All (CanPrint c.args.plan.now)) (sym c.as_slice.ensures)
    (can_print c.args.plan.now c.args.ask.now.samples c.in-Ok.books.traces c.in-Ok.books.reports c.in-Ok.ensures.keep
    (subst (λ n. n * c.args.ask.now.samples ≤ 4194304) (sym c.in-Ok.ensures.threads) c.requires.samples) c.in-Ok.ensures.partition)

pub total_of-requires-clause-fits : goal.total_of-requires-clause-fits
total_of-requires-clause-fits g c =
    subst (λ (rs : List Report). (n : ℕ) → n ≤ length rs → IsInBounds (rows_of_all (length (labels_of c.args.plan.now.elements)) (take n rs))) (sym c.as_slice.ensures)
    (firsts_low c.args.plan.now c.args.ask.now.samples c.in-Ok.books.traces c.in-Ok.books.reports c.in-Ok.ensures.keep
    (subst (λ n. n * c.args.ask.now.samples ≤ 4194304) (sym c.in-Ok.ensures.threads) c.requires.samples) c.in-Ok.ensures.partition)

pub print_reports-requires-clause-each : goal.print_reports-requires-clause-each
print_reports-requires-clause-each g c =
    can_print c.args.plan.now c.args.ask.now.samples c.in-Ok.books.traces c.in-Ok.books.reports c.in-Ok.ensures.keep
    (subst (λ n. n * c.args.ask.now.samples ≤ 4194304) (sym c.in-Ok.ensures.threads) c.requires.samples) c.in-Ok.ensures.partition

pub print_reports-requires-clause-rows : goal.print_reports-requires-clause-rows
print_reports-requires-clause-rows g c = ap length (all_counted (length (labels_of c.args.plan.now.elements)) c.in-Ok.books.traces c.in-Ok.books.reports c.as_slice.result.now c.in-Ok-total_of.total.rows c.in-Ok.ensures.partition c.as_slice.ensures c.in-Ok-total_of.ensures.rows) ∙ length-sum_of _ _

pub returns-in-Ok-print_all_results : goal.returns-in-Ok-print_all_results
returns-in-Ok-print_all_results g c =
    weave_says c.args.ask.now c.args.plan.now c.in-Ok.books.traces c.in-Ok.books.reports c.in-Ok-total_of.total (record {
      woven = c.in-Ok.ensures.woven;
      follows = c.in-Ok.ensures.follows;
      sections = c.in-Ok.ensures.sections;
      parted = c.in-Ok.ensures.partition;
      total_is = all_counted (length (labels_of c.args.plan.now.elements)) c.in-Ok.books.traces c.in-Ok.books.reports c.as_slice.result.now c.in-Ok-total_of.total.rows c.in-Ok.ensures.partition c.as_slice.ensures c.in-Ok-total_of.ensures.rows;
    })
    _ _ _ _ (rw c.as_slice-2.ensures at c.in-Ok-print_all_results.ensures) _ _ _ _ c.print_reports.result c.print_reports.ensures

pub returns-in-Err-WriteFault : goal.returns-in-Err-WriteFault
returns-in-Err-WriteFault g c =
    weave_failed c.args.ask.now c.args.plan.now c.in-Ok.books.traces c.in-Ok.books.reports c.in-Ok-total_of.total (record {
      woven = c.in-Ok.ensures.woven;
      follows = c.in-Ok.ensures.follows;
      sections = c.in-Ok.ensures.sections;
      parted = c.in-Ok.ensures.partition;
      total_is = all_counted (length (labels_of c.args.plan.now.elements)) c.in-Ok.books.traces c.in-Ok.books.reports c.as_slice.result.now c.in-Ok-total_of.total.rows c.in-Ok.ensures.partition c.as_slice.ensures c.in-Ok-total_of.ensures.rows;
    })
    _ _ _ _ (printed_as (λ traces. header_text ++ traces_text c.args.plan.now traces) _ _ (g.O.Sink.written c.args.results.now) (g.O.Sink.written c.print_all_results.new.results) (g.O.Sink.faults c.args.results.now) (g.O.Sink.faults c.print_all_results.new.results) (Err c.in-Err-WriteFault.field-0) (Err WriteFault)
    c.as_slice-2.ensures c.in-Err-WriteFault.ensures (search rules)) _ _

pub returns : goal.returns
returns g c =
    weave_cut c.args.ask.now c.args.plan.now c.in-Ok.books.traces c.in-Ok.books.reports c.in-Ok-total_of.total (record {
      woven = c.in-Ok.ensures.woven;
      follows = c.in-Ok.ensures.follows;
      sections = c.in-Ok.ensures.sections;
      parted = c.in-Ok.ensures.partition;
      total_is = all_counted (length (labels_of c.args.plan.now.elements)) c.in-Ok.books.traces c.in-Ok.books.reports c.as_slice.result.now c.in-Ok-total_of.total.rows c.in-Ok.ensures.partition c.as_slice.ensures c.in-Ok-total_of.ensures.rows;
    })
    _ _ _ _ (printed_as (λ traces. header_text ++ traces_text c.args.plan.now traces) _ _ (g.O.Sink.written c.args.results.now) (g.O.Sink.written c.print_all_results.new.results) (g.O.Sink.faults c.args.results.now) (g.O.Sink.faults c.print_all_results.new.results) (Err c.in-Err-NoMemory.field-0) (Err NoMemory)
    c.as_slice-2.ensures c.in-Err-NoMemory.ensures (search rules)) _ _
