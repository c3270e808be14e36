-- The properties of an element of a plan have the forms that its type's rows say.
use Rattle.std.specs.Prelude.{ℕ}
use Rattle.element_tree.specs.declared.kinds.Kind.{Kind}
use Rattle.element_tree.specs.Types.{type_of}
use Rattle.element_tree.specs.Table.{rows}
use Rattle.element_tree.specs.Values.{values_of}
use Rattle.element_tree.specs.Fits.{FitsAll}

-- under the rows of some version of the plan's format
abbrev pub HasForms : Kind → Type 0
HasForms kind = (version : ℕ) × FitsAll (rows version (type_of kind)) (values_of kind)
