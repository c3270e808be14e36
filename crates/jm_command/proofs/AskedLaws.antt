-- A reading that came to its value or to a refusal has asked for a prefix of what it asks for.
use Rattle.std.proofs.Common.{ℕ, List, [], subst, sym}
use Rattle.std.proofs.lemmas.List.{append-nil}
use Rattle.element_props.specs.declared.error.BuildError.{BuildError}
use Rattle.element_props.specs.Patterns.{Asked, Asks}
use Rattle.element_props.specs.Reads.{Reads, Goes, Ends, refused, unread, too_large, Stops, Next, nothing, asking, RunsOut}

pub goes_some : {A : Type 0} {before after : Asked} {reading rest : Reads A} → Goes before reading rest after → RunsOut before reading after
goes_some {before = before} {after = after} {rest = rest} g = record {
  texts = g.texts;
  last = [];
  rest = rest;
  asks = subst (λ (texts : List (List ℕ)). Asks before texts after) (sym (append-nil g.texts)) g.asks;
  path = g.path;
  next = nothing;
}

next_asked : {A : Type 0} {m n : ℕ} {e : BuildError} {r : Reads A} {last : List (List ℕ)} → Ends m n e r last → Next r last
next_asked refused = nothing
next_asked (unread none) = asking
next_asked (too_large rose) = asking

pub stops_some : {A : Type 0} {before after : Asked} {reading : Reads A} {e : BuildError} → Stops before reading e after → RunsOut before reading after
stops_some s = record { texts = s.texts; last = s.last; rest = s.rest; asks = s.asks; path = s.path; next = next_asked s.ends }
