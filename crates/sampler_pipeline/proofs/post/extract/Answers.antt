use Rattle.jm_base.proofs.RunLaws.{goes-nothing}
use Rattle.sampler_pipeline.proofs.StageLaws.{no-extraction}
use Rattle.var_functions.proofs.LaterLaws.{later_same}
use Rattle.sampler_pipeline.proofs.post.extract.Goals as goal

pub returns-in-RegexExtractor-clause-came : goal.returns-in-RegexExtractor-clause-came
returns-in-RegexExtractor-clause-came c = λ a. rw c.in-RegexExtractor.is (c.take_regex.ensures.came a)

pub take_json-requires : goal.take_json-requires
take_json-requires c = record { forms = rw c.in-JsonExtractor.is at c.requires.forms }

pub returns-in-JsonExtractor-clause-came : goal.returns-in-JsonExtractor-clause-came
returns-in-JsonExtractor-clause-came c = λ a. rw c.in-JsonExtractor.is (c.take_json.ensures.came a)

pub returns-in-BoundaryExtractor-clause-came : goal.returns-in-BoundaryExtractor-clause-came
returns-in-BoundaryExtractor-clause-came c = λ a. rw c.in-BoundaryExtractor.is (c.take_bounds.ensures.came a)

pub returns-in_default-clause-came : goal.returns-in_default-clause-came
returns-in_default-clause-came c = λ a. rw (no-extraction c.args.reply.now c.args.kind.now c.in_default.not-RegexExtractor c.in_default.not-JsonExtractor c.in_default.not-BoundaryExtractor) (goes-nothing a _)

pub returns-in_default-clause-later : goal.returns-in_default-clause-later
returns-in_default-clause-later c = later_same _

pub returns-in-RegexExtractor-clause-cut : goal.returns-in-RegexExtractor-clause-cut
returns-in-RegexExtractor-clause-cut c = λ a none. rw c.in-RegexExtractor.is (c.take_regex.ensures.cut a none)

pub returns-in-JsonExtractor-clause-cut : goal.returns-in-JsonExtractor-clause-cut
returns-in-JsonExtractor-clause-cut c = λ a none. rw c.in-JsonExtractor.is (c.take_json.ensures.cut a none)

pub returns-in-BoundaryExtractor-clause-cut : goal.returns-in-BoundaryExtractor-clause-cut
returns-in-BoundaryExtractor-clause-cut c = λ a none. rw c.in-BoundaryExtractor.is (c.take_bounds.ensures.cut a none)
