-- Properties by their names.
use Rattle.std.specs.Prelude.{ℕ, List, [], ◌∷◌, bytes_eq, if◌then◌else◌}
use Rattle.element_props.specs.declared.prop.Prop.{Prop}
use Rattle.element_props.specs.declared.prop.Prop.TheVariants.{Absent}

-- a property: its name and its value
pub record NamedValue : Type 0 where
  pub name : List ℕ
  pub value : Prop

infix 5 ◌holds◌
abbrev pub ◌holds◌ : List ℕ → Prop → NamedValue
name holds value = record { name = name; value = value }

-- the value of a property, where it has this name
abbrev pub value_as : List ℕ → NamedValue → Prop
value_as name p = if bytes_eq p.name name then p.value else Absent

-- the value of the next property, where it has this name
abbrev pub value_named : List ℕ → List NamedValue → Prop
value_named name [] = Absent
value_named name (p ∷ ps) = value_as name p

abbrev pub rest : List NamedValue → List NamedValue
rest [] = []
rest (p ∷ ps) = ps
