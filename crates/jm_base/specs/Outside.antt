-- What an outside gives: over a list of what was heard, and over the replies of a plan's samplers.
use Rattle.std.specs.Prelude.{◌≡◌, ℕ, ◌+◌, ◌-◌, ◌%◌, ◌^◌, Bool, true, false, ◌&&◌, nat_eq, List, [], ◌∷◌, ◌++◌, length, Option, Some, None, MatchOption, if◌then◌else◌, unwrap_or, min, slice_get, slice_set, slice_index}
use Rattle.std.specs.Option.{option_map}
use Rattle.jm_base.specs.declared.types.ScriptReply.{ScriptReply}
use Rattle.jm_base.specs.declared.types.Request.{Request}
use Rattle.jm_base.specs.declared.types.Request.TheVariants.{Script, Http}
use Rattle.jm_base.specs.declared.types.Outcome.{Outcome}
use Rattle.jm_base.specs.declared.types.Outcome.TheVariants.{Reply as Replied, Null, Fault, Broken}
use Rattle.jm_base.specs.declared.types.Heard.{Heard}
use Rattle.jm_base.specs.declared.types.Heard.TheVariants.{Reading, Paused, Asked}
use Rattle.jm_base.specs.Run.{Answers, Event, Run, over, give, read, wait, ask, over_value}

-- the same bytes, place by place
abbrev pub same_bytes : List ℕ → List ℕ → Bool
same_bytes [] [] = true
same_bytes (x ∷ xs) (y ∷ ys) = nat_eq x y && same_bytes xs ys
same_bytes [] (y ∷ ys) = false
same_bytes (x ∷ xs) [] = false

abbrev pub same_request : Request → Request → Bool
same_request (Script a) (Script b) = same_bytes a b
same_request (Http h p b) (Http h' p' b') = same_bytes h h' && (nat_eq p p' && same_bytes b b')
same_request (Script a) (Http h p b) = false
same_request (Http h p b) (Script a) = false

-- The list form: each call takes the next item, where it is one of that call with what it was given.
abbrev pub next_reading : List Heard → Option (ℕ × List Heard)
next_reading (Reading t ∷ heard) = Some (t, heard)
next_reading (Paused ms ∷ heard) = None
next_reading (Asked s q o ∷ heard) = None
next_reading [] = None

abbrev pub next_pause : ℕ → List Heard → Option (List Heard)
next_pause ms (Paused ms' ∷ heard) = if nat_eq ms ms' then Some heard else None
next_pause ms (Reading t ∷ heard) = None
next_pause ms (Asked s q o ∷ heard) = None
next_pause ms [] = None

abbrev pub next_outcome : ℕ → Request → List Heard → Option (Outcome × List Heard)
next_outcome s q (Asked s' q' o ∷ heard) = if nat_eq s s' && same_request q q' then Some (o, heard) else None
next_outcome s q (Reading t ∷ heard) = None
next_outcome s q (Paused ms ∷ heard) = None
next_outcome s q [] = None

abbrev pub list_form : Answers (List Heard)
list_form = record { now = next_reading; pause = next_pause; ask = next_outcome }

-- The script form: the replies of each element, the clock, and the place of each element in its replies.
pub record Scripts : Type 0 where
  pub replies : List (List ScriptReply)
  pub clock : ℕ
  pub places : List ℕ

-- a virtual clock stands still at the end of 64 bits
abbrev pub later : ℕ → ℕ → ℕ
later clock ms = min (clock + ms) (2 ^ 64 - 1)

-- the text of a request: for HTTP its bytes
abbrev pub request_text : Request → List ℕ
request_text (Script text) = text
request_text (Http host port bytes) = bytes

-- what a reply answers to a request: `null` comes before `fault`, and with `echo` the body is the request's text
abbrev pub outcome_of_reply : Request → ScriptReply → Outcome
outcome_of_reply q r =
    if r.null then Null else if r.fault then Fault
    else Replied (record { code = r.code; message = r.message; headers = r.headers; body = if r.echo then request_text q else r.body })

abbrev pub replies_of : Scripts → ℕ → List ScriptReply
replies_of v s = unwrap_or (slice_get v.replies s) []

-- the reply of a sampler at its place, and the next place, the first again after the last
abbrev pub scripted : Option ScriptReply → ℕ → Request → Scripts → Outcome × Scripts
scripted None s q v = (Null, v)
scripted (Some r) s q v =
    (outcome_of_reply q r, record v { clock = later v.clock r.ms; places = slice_set v.places s ((slice_index v.places s + 1) % length (replies_of v s)) })

-- what is answered for a sampler, and how the value stands then
abbrev pub scripted_ask : ℕ → Request → Scripts → Outcome × Scripts
scripted_ask s q v = scripted (slice_get (replies_of v s) (slice_index v.places s)) s q v

abbrev pub script_form : Answers Scripts
script_form = record {
  now = λ v. Some (v.clock, v);
  pause = λ ms v. Some (record v { clock = later v.clock ms });
  ask = λ s q v. Some (scripted_ask s q v);
}

-- Called with this and answering this, call after call, the outside's value goes from v to w.
pub data Replays {V : Type 0} (o : Answers V) : V → List Heard → V → Type 0 where
  at_end : {v : V} → Replays o v [] v
  by_reading : {v w u : V} {t : ℕ} {heard : List Heard} → o.now v ≡ Some (t, w) → Replays o w heard u → Replays o v (Reading t ∷ heard) u
  by_pause : {v w u : V} {ms : ℕ} {heard : List Heard} → o.pause ms v ≡ Some w → Replays o w heard u → Replays o v (Paused ms ∷ heard) u
  by_asking : {v w u : V} {s : ℕ} {q : Request} {a : Outcome} {heard : List Heard} → o.ask s q v ≡ Some (a, w) → Replays o w heard u → Replays o v (Asked s q a ∷ heard) u

-- an outcome `Fault` is counted, and no other; the count stands still at the end of 64 bits
abbrev pub fault_count : ℕ → Outcome → ℕ
fault_count faults (Replied reply) = faults
fault_count faults Null = faults
fault_count faults Fault = min (faults + 1) (2 ^ 64 - 1)
fault_count faults (Broken wire) = faults

-- the count of faults after these calls: no reading and no pause is one
abbrev pub faults_after : List Heard → ℕ → ℕ
faults_after [] faults = faults
faults_after (Reading t ∷ heard) faults = faults_after heard faults
faults_after (Paused ms ∷ heard) faults = faults_after heard faults
faults_after (Asked s q o ∷ heard) faults = faults_after heard (fault_count faults o)

-- what is known of an outside: which world opened it for which number, its value and what it was told, where it has them, and its faults
pub record Account : Type 0 where
  pub origin : Option (ℕ × ℕ)
  pub value : Option Scripts
  pub told : Option (List Heard)
  pub faults : ℕ

-- between two moments the outside was called with this and answered this
pub record Hears (before : Account) (heard : List Heard) (after : Account) : Type 0 where
  pub origin : after.origin ≡ before.origin
  pub told : after.told ≡ option_map (λ t. t ++ heard) before.told
  pub value : MatchOption before.value (after.value ≡ None) (λ v. (w : Scripts) × (after.value ≡ Some w) × Replays script_form v heard w)
  pub faults : after.faults ≡ faults_after heard before.faults

-- Hearing this, the run gives these events and goes on as the rest.
pub data Path {A : Type 0} : Run A → List Heard → List Event → Run A → Type 0 where
  here : {r : Run A} → Path r [] [] r
  giving : {e : Event} {r s : Run A} {heard : List Heard} {events : List Event} → Path r heard events s → Path (give e r) heard (e ∷ events) s
  reads : {k : ℕ → Run A} {s : Run A} {t : ℕ} {heard : List Heard} {events : List Event} → Path (k t) heard events s → Path (read k) (Reading t ∷ heard) events s
  waits : {ms : ℕ} {r s : Run A} {heard : List Heard} {events : List Event} → Path r heard events s → Path (wait ms r) (Paused ms ∷ heard) events s
  asks : {n : ℕ} {q : Request} {k : Outcome → Run A} {s : Run A} {a : Outcome} {heard : List Heard} {events : List Event} → Path (k a) heard events s → Path (ask n q k) (Asked n q a ∷ heard) events s

-- Between two moments of its outside the run has given these events, and what is left of it is the rest.
pub record Goes {A : Type 0} (before : Account) (run : Run A) (events : List Event) (rest : Run A) (after : Account) : Type 0 where
  pub heard : List Heard
  pub hears : Hears before heard after
  pub path : Path run heard events rest

-- A call that failed told nothing, changed no value and counted no fault.
pub record TellsNothing (before after : Account) : Type 0 where
  pub origin : after.origin ≡ before.origin
  pub told : after.told ≡ before.told
  pub value : after.value ≡ before.value
  pub faults : after.faults ≡ before.faults

-- The run gives nothing more over this value: it is over, or waits for an answer that does not come.
pub data Stays {V A : Type 0} (o : Answers V) : Run A → V → Type 0 where
  done : {x : A} {v : V} → Stays o (over x) v
  no_reading : {k : ℕ → Run A} {v : V} → o.now v ≡ None → Stays o (read k) v
  no_pause : {ms : ℕ} {r : Run A} {v : V} → o.pause ms v ≡ None → Stays o (wait ms r) v
  no_outcome : {s : ℕ} {q : Request} {k : Outcome → Run A} {v : V} → o.ask s q v ≡ None → Stays o (ask s q k) v

-- what an outside with a value tells of a run: its calls, the events up to where the run stays, and how it stands there
pub record ToldBy (run : Run (Unit {0})) (v : Scripts) (heard : List Heard) : Type 0 where
  pub events : List Event
  pub rest : Run (Unit {0})
  pub after : Scripts
  pub path : Path run heard events rest
  pub replays : Replays script_form v heard after
  pub stays : Stays script_form rest after
  pub same : (over_value script_form run v).events ≡ (over_value list_form run heard).events

-- Each run over the replies of a plan tells a list, over which it gives the same events.
abbrev pub SameEvents : Type 0
SameEvents = (run : Run (Unit {0})) (v : Scripts) → (heard : List Heard) × ToldBy run v heard
