use Rattle.std.proofs.lemmas.Int.{to_z-of_z}
use mir.Syntax.{w32}
use Rattle.jm_base.specs.Run.{over}
use Rattle.trials.specs.Tried.{fine, past_limit}
use Rattle.trials.specs.Pairs.{changing}
use Rattle.trials.proofs.TrialLaws.{then-came, change-came}
use Rattle.reply_search.specs.Seen.{field_of}
use Rattle.extractors.specs.Matches.{extracted_regex}
use Rattle.sampler_pipeline.specs.SamplerPipeline.{picking}
use Rattle.std.proofs.Common.{refl}
use Rattle.trials.proofs.CutLaws.{changes_cut}
use Rattle.sampler_pipeline.proofs.post.take_regex.Goals as goal

pub returns-clause-came : goal.returns-clause-came
returns-clause-came c = λ a.
    then-came a a a (picking c.args.x.now.match_) (λ pick. changing (extracted_regex c.args.x.now (field_of c.args.x.now.field c.args.reply.now) pick)) c.args.state.now c.pick-pick.new.state c.pick-pick.result
    (λ u. over (fine u (record { vars = c.extract_regex_with.new.vars; fns = c.pick-pick.new.state.fns }))) (over (past_limit (record { vars = c.extract_regex_with.new.vars; fns = c.pick-pick.new.state.fns }))) c.extract_regex_with.result
    (rw (to_z-of_z w32 c.number_of_regex.result (record { sfits = c.number_of_regex.type_inv }), c.number_of_regex.ensures) at c.pick-pick.ensures.came a)
    (change-came a (extracted_regex c.args.x.now (field_of c.args.x.now.field c.args.reply.now) c.pick-pick.result) c.pick-pick.new.state c.extract_regex_with.new.vars c.extract_regex_with.result (rw c.field_of.ensures at c.extract_regex_with.ensures.exact))

pub returns-clause-cut : goal.returns-clause-cut
returns-clause-cut c = λ a none. record {
  came = c.pick-pick.result;
  between = c.pick-pick.new.state;
  moment = a;
  whole = rw (to_z-of_z w32 c.number_of_regex.result (record { sfits = c.number_of_regex.type_inv }), c.number_of_regex.ensures) at c.pick-pick.ensures.came a;
  next = record {
    outside = refl;
    fns = refl;
    vars = changes_cut (extracted_regex c.args.x.now (field_of c.args.x.now.field c.args.reply.now) c.pick-pick.result c.pick-pick.new.state.vars) c.pick-pick.new.state.vars c.extract_regex_with.new.vars c.extract_regex_with.result (rw c.field_of.ensures at c.extract_regex_with.ensures.exact) none;
  };
}
