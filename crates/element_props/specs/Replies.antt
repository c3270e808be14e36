-- What a JSON value says of a reply.
use Rattle.std.specs.Prelude.{ℕ, Bool, true, false, ◌&&◌, List, [], ◌∷◌, Option, Some, None, if◌then◌else◌, nat_le, codes, bytes_eq}
use Rattle.std.specs.List.{list_any}
use Rattle.std.specs.Option.{option_map_or}
use Rattle.jm_base.specs.declared.types.ScriptReply.{ScriptReply}
use Rattle.serde_json.specs.Data.{Data, Members, no_members, member}
use Rattle.serde_json.specs.Find.{get_member, as_str, as_bool, as_object, as_number, as_u64}

-- the next step, where this one gave something
infixl 10 ◌>>=◌
abbrev pub ◌>>=◌ : {A B : Type 0} → Option A → (A → Option B) → Option B
None >>= f = None
(Some x) >>= f = f x

-- each key is one of these
abbrev pub has_only : List (List ℕ) → Members → Bool
has_only keys no_members = true
has_only keys (member k d ms) = list_any (bytes_eq k) keys && has_only keys ms

-- the members of an object that has no keys but these
abbrev pub object_of : List (List ℕ) → Data → Option Members
object_of keys d = do
  ms ← as_object d
  if has_only keys ms then Some ms else None

-- what this reads from the value at a key; where the key is absent, the default
abbrev pub at_key : {A : Type 0} → List ℕ → (Data → Option A) → A → Members → Option A
at_key key form default ms = option_map_or form (get_member key ms) (Some default)

-- a whole number from 0 to the limit
abbrev pub natural_within : ℕ → Data → Option ℕ
natural_within limit d = do
  number ← as_number d
  n ← as_u64 number
  if nat_le n limit then Some n else None

abbrev pub reply_keys : List (List ℕ)
reply_keys =
    codes "body" ∷ codes "code" ∷ codes "echo" ∷ codes "fault" ∷ codes "headers" ∷ codes "message" ∷ codes "ms" ∷ codes "null" ∷ []

-- a reply is an object with any of these keys
abbrev pub reply_in : Data → Option ScriptReply
reply_in d = do
  given ← object_of reply_keys d
  body ← at_key (codes "body") as_str [] given
  code ← at_key (codes "code") (natural_within 999) 200 given
  echo ← at_key (codes "echo") as_bool false given
  fault ← at_key (codes "fault") as_bool false given
  headers ← at_key (codes "headers") as_str [] given
  message ← at_key (codes "message") as_str (codes "OK") given
  ms ← at_key (codes "ms") (natural_within 4294967295) 0 given
  null ← at_key (codes "null") as_bool false given
  Some (record { code = code; message = message; headers = headers; body = body; ms = ms; null = null; fault = fault; echo = echo })
