-- A job may go to another thread: what it holds by parts, each by its own search.
use mathlib.Core.List.{[], ◌∷◌}
use mir.Syntax.{Sym}
use denote.RattleType.{RattleType}
use denote.Struct.Tuple.{TupleAt, type_at}
use denote.Ref.{NamedLft}
use denote.Param.Send.{IsSend, view_send, sendable, shr_send}
use denote.Param.SendFields.{as_row_send, declared_send}
use denote.Struct.Field.{row_field}
use Rattle.std.proofs.Crossing.{crosses, Vec-send, Box-send}
use Rattle.jm_base.proofs.types.Sample.TheSendSync as sample
use Rattle.var_functions.proofs.state.UserState.TheSendSync as user
use Rattle.control_machine.proofs.machine.Machine.TheSendSync as machine
use Rattle.config_elements.proofs.state.ConfigState.TheSendSync as config
use Rattle.node_table.proofs.kept_packages.NodeTable.TheSendSync as table
use Rattle.thread_machine.proofs.trace.Trace.TheSendSync as trace
use Rattle.regex.proofs.locations.CaptureLocations.TheSendSync as locations
use Rattle.reply_search.specs.contracts.search.Search as Search
use Rattle.reply_search.specs.contracts.search.Search.TheInside as SearchInside
use Rattle.reply_search.specs.contracts.searches.Searches as Searches
use Rattle.reply_search.specs.contracts.searches.Searches.TheInside as SearchesInside
use Rattle.sampler_pipeline.specs.contracts.pipeline.Pipeline as Pipeline
use Rattle.sampler_pipeline.specs.contracts.pipeline.Pipeline.TheInside as PipelineInside
use Rattle.recorder_core.proofs.places.WriterSeat.TheSendSync as writer
use Rattle.critical_section.proofs.places.Sections.TheSendSync as places
use Rattle.critical_section.proofs.places.SectionSeat.TheSendSync as place
use Rattle.thread_machine.specs.contracts.runner.Runner as Runner
use Rattle.thread_machine.specs.contracts.worker.Worker as Worker
use Rattle.thread_machine.specs.contracts.worker.Worker.TheInside as WorkerInside
use Rattle.run_engine.specs.contracts.job.Job as Job
use Rattle.plan_shares.proofs.PlanShares.{plan}
use Rattle.plan_shares.proofs.RegexCrosses.{regex_sync}
use Rattle.plan_shares.proofs.MatcherCrosses.{matcher_send}

pub search_send : (a : NamedLft) → IsSend (Search.the_row a)
search_send a = view_send (SearchInside.the_row a) _ _ _ _ (declared_send (SearchInside.the_type a) (search (regex_sync, crosses, sendable) depth 20, (matcher_send a, (search (locations.the_field_send, sendable) depth 30, tt))))

pub searches_send : (a : NamedLft) → IsSend (Searches.the_row a)
searches_send a = view_send (SearchesInside.the_row a) _ _ _ _ (declared_send (SearchesInside.the_type a) (search (search_send, Box-send, Vec-send, crosses, sendable) depth 60, tt))

pub pipeline_send : (a : NamedLft) → IsSend (Pipeline.the_row a)
pipeline_send a = view_send (PipelineInside.the_row a) _ _ _ _ (declared_send (PipelineInside.the_type a) (search (crosses, sendable) depth 20, (searches_send a, tt)))

pub runner : (a : NamedLft) → IsSend (Runner.the_row a)
runner a = declared_send (Runner.the_type a) (shr_send _ _ _ plan, (search sendable depth 20, (search sendable depth 20, (search sendable depth 20, (search (user.the_field_send, sendable) depth 20, (config.the_send, (table.the_send, (machine.the_send, (search sendable depth 20, (search (sample.the_send, crosses, sendable) depth 20, (search (crosses, sendable) depth 20, (search (crosses, sendable) depth 20, (search (crosses, sendable) depth 20, (trace.the_send, (search sendable depth 20, tt)))))))))))))))

pub worker : (a : NamedLft) → IsSend (Worker.the_row a)
worker a = view_send (WorkerInside.the_row a) _ _ _ _ (declared_send (WorkerInside.the_type a) (runner a, (pipeline_send a, (search sendable depth 20, tt))))

pub job : (a b : NamedLft) (O : RattleType) → IsSend O → IsSend (Job.the_row a b O)
job a b O s = declared_send (Job.the_type a b O) (search sendable depth 20, (writer.the_send, (place.the_send, (shr_send _ _ _ places.the_sync, (worker a, (as_row_send (row_field O) s, tt))))))

-- what a closure holds
pub closure : (ν : Sym) (A B C D : RattleType) → IsSend A → IsSend B → IsSend C → IsSend D → IsSend (TupleAt ν (A ∷ B ∷ C ∷ D ∷ []))
closure ν A B C D a b c d = declared_send (type_at ν (A ∷ B ∷ C ∷ D ∷ [])) (as_row_send (row_field A) a, (as_row_send (row_field B) b, (as_row_send (row_field C) c, (as_row_send (row_field D) d, tt))))
