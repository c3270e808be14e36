-- How an outside that answers from a plan's replies stands.
use Rattle.std.specs.Prelude.{ℕ, Bool, true, false, List, [], ◌∷◌, ◌++◌, map, length, replicate, Option, Some, None}
use Rattle.std.specs.Option.{option_map}
use Rattle.jm_base.specs.declared.types.ScriptReply.{ScriptReply}
use Rattle.jm_base.specs.declared.types.Heard.{Heard}
use Rattle.jm_base.specs.Outside.{Account, Scripts}
use Rattle.element_tree.specs.Tree.{Tree, replies_of_element}

abbrev pub scripts : List (List ScriptReply) → ℕ → List ℕ → Scripts
scripts replies clock places = record { replies = replies; clock = clock; places = places }

-- the value before the first call: each element's replies, the clock at 0, and each element at its first reply
abbrev pub scripts_of : Tree → Scripts
scripts_of plan = scripts (map replies_of_element plan.elements) 0 (replicate (length plan.elements) 0)

-- what was told, where it is kept
abbrev pub told_when : Bool → List Heard → Option (List Heard)
told_when true heard = Some heard
told_when false heard = None

abbrev pub told_after : Option (List Heard) → Heard → Option (List Heard)
told_after told item = option_map (λ t. t ++ item ∷ []) told

abbrev pub account_of : Option (ℕ × ℕ) → List (List ScriptReply) → ℕ → List ℕ → Bool → List Heard → ℕ → Account
account_of origin replies clock places keep heard faults =
    record { origin = origin; value = Some (scripts replies clock places); told = told_when keep heard; faults = faults }

-- an outside of no world before its first call, with this value, which tells where it is to keep its list
abbrev pub scripted_account : Scripts → Bool → Account
scripted_account v keep = record { origin = None; value = Some v; told = told_when keep []; faults = 0 }

-- an outside that a world opened for a number, before its first call, with this value: it tells
abbrev pub opened_account : ℕ → ℕ → Scripts → Account
opened_account identity number v = record (scripted_account v true) { origin = Some (identity, number) }
