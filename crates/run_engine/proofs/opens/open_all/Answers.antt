use Rattle.std.proofs.Common.{subst, sym, ap, ◌∙◌, ℕ, length, refl}
use Rattle.reporter_loop.proofs.Outcomes.{if_err}
use Rattle.run_engine.specs.Asked.{options_of}
use Rattle.run_engine.specs.Made.{AllOpened}
use Rattle.run_engine.specs.SectionsRun.{IsFirstSeat}
use Rattle.run_engine.proofs.Opening.{opened_fresh, untold_fresh, none_contained, none_served}
use Rattle.run_engine.proofs.Seqs.{range_length}
use Rattle.run_engine.proofs.opens.open_all.Goals as goal

pub close_all-requires-clause-opened : goal.close_all-requires-clause-opened
close_all-requires-clause-opened g c κs within =
    let made = c.make_jobs.ensures in
    let account = g.W.Out.Outside.account in
    subst (λ (k : ℕ). AllOpened account k c.make_jobs.new.jobs.items) (sym made.same.0)
    (opened_fresh account c.args.recorder.now c.args.ask.now.plan.now (options_of c.args.ask.now) (g.W.World.identity c.args.world.now) (g.W.World.tells c.args.world.now) c.args.count c.make_jobs.new.jobs.items made.each)

pub returns-in_err-jobs-clause-refused : goal.returns-in_err-jobs-clause-refused
returns-in_err-jobs-clause-refused g c = if_err c.from_residual.result (none_served _ _ _ c.requires.opened)

pub returns-in_err-jobs-clause-untold : goal.returns-in_err-jobs-clause-untold
returns-in_err-jobs-clause-untold g c = if_err c.from_residual.result (λ i has. absurd (none_contained _ i c.requires.opened has))

pub returns-in_err-jobs-clause-split : goal.returns-in_err-jobs-clause-split
returns-in_err-jobs-clause-split g c =
    if_err c.from_residual.result (subst (λ (n : ℕ). IsFirstSeat c.args.sections.now n c.args.first.now) (sym (ap length c.requires.opened)) c.requires.first)

pub returns-in_err-jobs-clause-kept : goal.returns-in_err-jobs-clause-kept
returns-in_err-jobs-clause-kept g c = if_err c.from_residual.result (refl, refl)

pub returns-in-Err-clause-untold : goal.returns-in-Err-clause-untold
returns-in-Err-clause-untold g c =
    let made = c.make_jobs.ensures in
    untold_fresh g.W.Out.Outside.account c.args.recorder.now c.args.ask.now.plan.now (options_of c.args.ask.now) (g.W.World.identity c.args.world.now) (g.W.World.tells c.args.world.now) c.args.count
    c.make_jobs.new.jobs.items made.each (g.W.World.opened c.close_all.new.world) (g.W.World.told c.close_all.new.world) (c.close_all.ensures.same ∙ made.opened) c.close_all.ensures.told

pub returns-in-Err-clause-split : goal.returns-in-Err-clause-split
returns-in-Err-clause-split g c =
    let made = c.make_jobs.ensures in
    subst (λ (n : ℕ). IsFirstSeat c.args.sections.now n c.make_jobs.new.first) (sym (ap length (c.close_all.ensures.same ∙ made.opened) ∙ range_length 0 (length c.make_jobs.new.jobs.items))) made.split
