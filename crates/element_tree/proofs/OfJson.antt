-- Trees of elements that a JSON text holds.
use Rattle.std.proofs.Common.{IsUtf8}
use Rattle.plan_json.specs.Shape.{Raw, raw, Raws, no_raws, raw_then}
use Rattle.element_props.specs.Again.{HoldJson}

-- each name is UTF-8, and so is each text in the properties, where each whole number has at most 64 bits
abbrev mutual
  pub IsJsonTree : Raw → Type 0
  IsJsonTree (raw kind name enabled props below) = IsUtf8 name × HoldJson props × AreJsonTrees below

  pub AreJsonTrees : Raws → Type 0
  AreJsonTrees no_raws = Unit {0}
  AreJsonTrees (raw_then r rs) = IsJsonTree r × AreJsonTrees rs
