use Rattle.std.proofs.Common.{arith, ◌∙◌, ℕ, sym, subst, refl, inl}
use Rattle.output_lines.specs.Reports.{report_text}
use Rattle.recorder_core.specs.RecorderSeats.{reports, numbers_of}
use Rattle.reporter_loop.specs.Ticked.{TickedSoFar}
use Rattle.reporter_loop.proofs.Counting.{counts_none}
use Rattle.reporter_loop.proofs.Judging.{reported_none}
use Rattle.reporter_loop.proofs.Outcomes.{at_err, at_ok}
use Rattle.reporter_loop.proofs.Ticking.{tick_more_so_far}
use Rattle.reporter_loop.proofs.turns.report_until.Goals as goal

pub loop-init : goal.loop-init
loop-init g c =
    let first = c.requires.first in record {
      iterator = (tt, tt);
      seat = c.requires.seat;
      few = omega (arith, first.1);
      rows = c.requires.rows;
      counted = counts_none (numbers_of c.args.recorder.now).labels (reports c.args.seat) c.args.counts.now.total first.0 c.requires.none;
      reported = reported_none (report_text c.args.rules.now.plan.now) c.args.rules.now.limit (reports c.args.seat) (g.K.Sink.written c.args.sink.now) first.0 first.1 first.2;
      joined = refl;
      faults = refl;
      ticked = inl (first.1, refl);
    }

pub returns-in-Err-clause-prefix : goal.returns-in-Err-clause-prefix
returns-in-Err-clause-prefix g c =
    at_err c.one_turn-next.result.1 c.in-Err.error c.in-Err.is c.one_turn-next.ensures.prefix (g.K.Sink.written c.args.sink.now) c.loop.invariant.reported

pub returns-in-Err-clause-unjudged : goal.returns-in-Err-clause-unjudged
returns-in-Err-clause-unjudged g c =
    at_err c.one_turn-next.result.1 c.in-Err.error c.in-Err.is c.one_turn-next.ensures.unjudged (g.K.Sink.written c.args.sink.now) c.loop.invariant.reported

pub returns-then-interval-eq-MOST_INTERVALS-clause-reported : goal.returns-then-interval-eq-MOST_INTERVALS-clause-reported
returns-then-interval-eq-MOST_INTERVALS-clause-reported g c =
    at_ok c.one_turn-next.result.1 c.in_default.not-Err c.one_turn-next.ensures.reported (g.K.Sink.written c.args.sink.now) c.loop.invariant.reported

pub loop-preserved : goal.loop-preserved
loop-preserved g c =
    let inv = c.loop.invariant in let turn = c.one_turn-next.ensures in
    let r = c.one_turn-next.result.1 in
    let a = g.T.Ticker.ticks c.args.ticker.now in let b = g.T.Ticker.ticks c.one_turn-next.new.ticker in
    record {
      iterator = (tt, tt);
      seat = turn.seat;
      few = omega (arith, turn.few, c.interval.ensures, c.if-interval-eq-MOST_INTERVALS.false);
      rows = turn.rows;
      counted = turn.counted;
      reported = at_ok r c.in_default.not-Err turn.reported (g.K.Sink.written c.args.sink.now) inv.reported;
      joined = turn.joined ∙ inv.joined;
      faults = at_ok r c.in_default.not-Err turn.ok ∙ inv.faults;
      ticked = subst (λ (n : ℕ). TickedSoFar n a b) (sym turn.ticked.1) (tick_more_so_far (reports c.loop.seat).interval turn.ticked.0 a (g.T.Ticker.ticks c.loop.ticker) b inv.ticked turn.ticked.2);
    }
