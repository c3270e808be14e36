use Rattle.std.proofs.Common.{refl, sym, ◌∙◌, subst}
use Rattle.weave_engine.specs.Turns.{thread_turn, reporter_turn, ends_reporters_row}
use Rattle.weave_engine.proofs.RowLaws.{words_stay}
use Rattle.weave_engine.specs.Woven.{Runs as RunsAs}
use Rattle.weave_engine.proofs.SeatLaws.{on_both}
use Rattle.weave_engine.proofs.rows.token_turns.Goals as goal

pub returns-in-Turn-clause-runs : goal.returns-in-Turn-clause-runs
returns-in-Turn-clause-runs c = on_both c.thread_turn.result c.thread_turn.ensures.turned c.thread_turn.ensures.turned (λ turned same. λ n s runs.
    let t = thread_turn n c.in-Turn.thread s in (t, subst (λ k. RunsAs n k s t) (sym c.in-Turn.is) refl, turned n s runs))

pub returns-in-Turns-clause-runs : goal.returns-in-Turns-clause-runs
returns-in-Turns-clause-runs c = on_both c.thread_row.result c.thread_row.ensures.runs c.thread_row.ensures.runs (λ row same. λ n s runs.
    let r = row n s runs in (r.0, subst (λ k. RunsAs n k s r.0) (sym c.in-Turns.is) r.1, r.2))

pub returns-in-Reporter-clause-runs : goal.returns-in-Reporter-clause-runs
returns-in-Reporter-clause-runs c = on_both c.reporter_turn.result c.reporter_turn.ensures c.reporter_turn.ensures (λ turned same. λ n s runs.
    let t = reporter_turn n s in (t, subst (λ k. RunsAs n k s t) (sym c.in-Reporter.is) refl, record { runs = turned n c.args.seats.now.items s runs.runs; words = runs.words }))

pub returns-in-Reporters-clause-runs : goal.returns-in-Reporters-clause-runs
returns-in-Reporters-clause-runs c = on_both c.reporter_row.result c.reporter_row.ensures c.reporter_row.ensures (λ row same. λ n s runs.
    let r = row n c.args.seats.now.items s runs.runs in
    (r.0, subst (λ k. RunsAs n k s r.0) (sym c.in-Reporters.is) r.1, record { runs = r.2; words = words_stay n (ends_reporters_row n) s r.0 r.1 ∙ runs.words }))

pub returns-in-Reporter-clause-locked : goal.returns-in-Reporter-clause-locked
returns-in-Reporter-clause-locked c = on_both c.reporter_turn.result c.reporter_turn.ensures c.reporter_turn.ensures (λ turned same. c.requires.locked)

pub returns-in-Reporters-clause-locked : goal.returns-in-Reporters-clause-locked
returns-in-Reporters-clause-locked c = on_both c.reporter_row.result c.reporter_row.ensures c.reporter_row.ensures (λ row same. c.requires.locked)

pub returns-in-Turn-clause-keeps : goal.returns-in-Turn-clause-keeps
returns-in-Turn-clause-keeps c = c.thread_turn.ensures.keeps

pub returns-in-Turns-clause-keeps : goal.returns-in-Turns-clause-keeps
returns-in-Turns-clause-keeps c = c.thread_row.ensures.keeps

pub returns-in-Reporter-clause-keeps : goal.returns-in-Reporter-clause-keeps
returns-in-Reporter-clause-keeps c = on_both c.reporter_turn.result c.reporter_turn.ensures c.reporter_turn.ensures (λ row same. λ plan start options h. h)

pub returns-in-Reporters-clause-keeps : goal.returns-in-Reporters-clause-keeps
returns-in-Reporters-clause-keeps c = on_both c.reporter_row.result c.reporter_row.ensures c.reporter_row.ensures (λ row same. λ plan start options h. h)
