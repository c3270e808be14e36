-- What contracts see of a type by its name.
use Rattle.std.specs.Prelude.{ℕ, List}
use Rattle.element_tree.specs.declared.table.Named.{Named}
use Rattle.element_tree.specs.declared.types.ElementType.{ElementType}

abbrev pub named_seen : Named → List ℕ × ElementType
named_seen n = (n.name.now, n.kind)
