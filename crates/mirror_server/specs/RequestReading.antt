-- How far a request was received.
use Rattle.std.specs.Prelude.{◌≡◌, ℕ, ◌+◌, ◌<◌, ◌≤◌, false, List, length, take, Some, None}
use Rattle.http_lines.specs.SectionEnds.{section_end, scanned, before_head}
use Rattle.mirror_server.specs.declared.look.Progress.{Progress}
use Rattle.mirror_server.specs.declared.look.Progress.TheVariants as progress
use Rattle.mirror_server.specs.declared.look.Seen.{Seen}
use Rattle.mirror_server.specs.declared.look.Seen.TheVariants as seen
use Rattle.mirror_server.specs.RequestGrammar.{Asks, Refused, Says, head_limit, request_limit}

-- the bytes begin with the head of a request that has this many bytes in all
pub record Begins (bytes : List ℕ) (total : ℕ) : Type 0 where
  pub head : ℕ
  pub size : ℕ
  pub ends : section_end before_head bytes ≡ Some head
  pub fits : head ≤ head_limit
  pub says : Says (take head bytes) size false
  pub total_is : total ≡ head + size
  pub short : total ≤ request_limit

-- the bytes are neither a request nor refused, and this is how far they go
abbrev pub Stands : Progress → List ℕ → Type 0
Stands (progress.Head scan) bytes = (scan ≡ scanned before_head bytes) × (section_end before_head bytes ≡ None) × (length bytes < head_limit)
Stands (progress.Body total) bytes = Begins bytes total × (length bytes < total)

-- the bytes come to what is seen
abbrev pub Sees : List ℕ → Seen → Type 0
Sees bytes (seen.Open progress) = Stands progress bytes
Sees bytes (seen.Whole total) = Begins bytes total × (total ≤ length bytes)
Sees bytes (seen.Refused error) = Asks bytes (Refused error)
