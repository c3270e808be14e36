-- What an outside was told, from what it kept of its calls.
use Rattle.std.specs.Prelude.{◌≡◌, ℕ, Bool, List, [], map, Option, Some, None, unwrap_or, slice_get}
use Rattle.jm_base.specs.declared.types.ScriptReply.{ScriptReply}
use Rattle.jm_base.specs.declared.types.Request.{Request}
use Rattle.jm_base.specs.declared.types.Outcome.{Outcome}
use Rattle.jm_base.specs.declared.types.Outcome.TheVariants.{Null}
use Rattle.jm_base.specs.declared.types.Heard.{Heard}
use Rattle.jm_base.specs.declared.types.Heard.TheVariants as Told
use Rattle.jm_base.specs.Outside.{outcome_of_reply}
use Rattle.outside_world.specs.Scripted.{told_when, told_after}
use Rattle.outside_world.specs.declared.kept.Kept.{Kept}
use Rattle.outside_world.specs.declared.kept.Kept.TheVariants.{Reading, Paused, Asked}

-- what is answered by a reply, or by none
abbrev pub reply_outcome : Request → Option ScriptReply → Outcome
reply_outcome q None = Null
reply_outcome q (Some r) = outcome_of_reply q r

-- what the reply at a sampler's place answers to a request
abbrev pub outcome_at : List (List ScriptReply) → ℕ → ℕ → Request → Outcome
outcome_at replies s place q = reply_outcome q (slice_get (unwrap_or (slice_get replies s) []) place)

-- what a kept call told
abbrev pub heard_of : List (List ScriptReply) → Kept → Heard
heard_of replies (Reading t) = Told.Reading t
heard_of replies (Paused ms) = Told.Paused ms
heard_of replies (Asked s place q) = Told.Asked s q.value (outcome_at replies s place q.value)

abbrev pub told_of : List (List ScriptReply) → List Kept → List Heard
told_of replies calls = map (heard_of replies) calls

-- where the calls are kept, one more is told, over whatever replies; else none
abbrev pub TellsOneMore : Bool → List Kept → List Kept → (List (List ScriptReply) → Heard) → Type 0
TellsOneMore keep old new item = (replies : List (List ScriptReply)) → told_when keep (told_of replies new) ≡ told_after (told_when keep (told_of replies old)) (item replies)
