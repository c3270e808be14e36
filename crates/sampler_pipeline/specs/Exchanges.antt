-- One request between two readings of the clock, and the sample of its reply.
use Rattle.std.specs.Prelude.{ℕ, ◌-◌, Bool, ◌&&◌, nat_le, List, [], length, take, Option, Some, None, codes}
use Rattle.jm_base.specs.declared.types.Sample.{Sample}
use Rattle.jm_base.specs.declared.types.Reply.{Reply}
use Rattle.jm_base.specs.declared.types.Wire.{Wire}
use Rattle.jm_base.specs.declared.types.Wire.TheVariants.{BadHead, BadChunk, TooLong, EndEarly}
use Rattle.jm_base.specs.declared.types.Request.{Request}
use Rattle.jm_base.specs.declared.types.Outcome.{Outcome}
use Rattle.jm_base.specs.declared.types.Outcome.TheVariants.{Reply as Replied, Null, Fault, Broken}
use Rattle.jm_base.specs.Run.{Run, over, ◌>>=◌, reading, outcome_of}
use Rattle.assertions.specs.declared.judging.Answer.{Answer}
pub use Rattle.config_elements.specs.TimerDelay.{capped}
use Rattle.sampler_pipeline.specs.declared.exchange.Exchange.{Exchange}
use Rattle.sampler_pipeline.specs.declared.verdict.Verdict.{Verdict}

abbrev pub is_success : ℕ → Bool
is_success code = nat_le 200 code && nat_le code 399

abbrev pub fault_text : Wire → List ℕ
fault_text BadHead = codes "bad head"
fault_text BadChunk = codes "bad chunk"
fault_text TooLong = codes "too long"
fault_text EndEarly = codes "end early"

-- the reply that stands for a fault
abbrev pub fault_reply : List ℕ → Reply
fault_reply message = record { code = 0; message = message; headers = []; body = [] }

-- a reply that stands for what came, where something did
abbrev pub reply_of : Outcome → Option Reply
reply_of (Replied r) = Some r
reply_of Null = None
reply_of Fault = Some (fault_reply (codes "fault"))
reply_of (Broken w) = Some (fault_reply (fault_text w))

abbrev pub answered : ℕ → Option Reply → Option Answer
answered elapsed None = None
answered elapsed (Some reply) = Some (record { elapsed = elapsed; reply = reply })

-- a reading, the request for the sampler of this number, and a second reading
unfoldable pub exchange : ℕ → Request → Run Exchange
exchange number request = do
  first ← reading
  outcome ← outcome_of number request
  second ← reading
  over (record { stamp = first; answer = answered (capped (second - first)) (reply_of outcome) })

-- two readings, between which nothing is asked, since the request has no target
unfoldable pub unasked : Run Exchange
unasked = do
  first ← reading
  second ← reading
  over (record { stamp = first; answer = answered (capped (second - first)) (Some (fault_reply (codes "bad target"))) })

-- what comes of a request, if there is any
abbrev pub exchange_if : ℕ → Option Request → Run Exchange
exchange_if number None = unasked
exchange_if number (Some request) = exchange number request

-- the sample of an answer, under this label
abbrev pub sample_of : ℕ → ℕ → Answer → Verdict → ℕ → Sample
sample_of label stamp answer verdict listeners = record {
  stamp = stamp;
  elapsed = answer.elapsed;
  label = label;
  code = answer.reply.code;
  message = take 256 answer.reply.message;
  ok = verdict.ok;
  failure = verdict.failure;
  bytes = capped (length answer.reply.body);
  listeners = listeners;
}
