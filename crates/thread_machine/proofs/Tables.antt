-- A table of a plan has the package of each sampler.
use Rattle.std.proofs.Common.{◌≡◌, ℕ, List, Option, true, false, refl, ap, ◌∙◌}
use Rattle.std.specs.Prelude.{is_some, unwrap_or, IsSome}
use Rattle.std.specs.Option.{option_map}
use Rattle.element_tree.specs.declared.kinds.Element.{Element}
use Rattle.element_tree.specs.declared.kinds.Kind.{Kind}
use Rattle.element_tree.specs.declared.kinds.Kind.TheVariants.{Script, Http}
use Rattle.element_tree.specs.declared.types.Class.TheVariants as classes
use Rattle.element_tree.specs.Scope.{Scope}
use Rattle.element_tree.specs.Types.{class_of}
use Rattle.scope_resolver.specs.Scoping.{same_class, is_of_class}
use Rattle.node_table.specs.KeptPackages.{packages_of, package_at}
use Rattle.node_table.proofs.PackageLaws.{sampler_kept}
use Rattle.open_elements.specs.Entering.{IsSamplerKind}
use Rattle.control_machine.specs.Left.{IsSampler}

sampler_kind : (k : Kind) → IsSamplerKind k → same_class classes.Sampler (class_of k) ≡ true
sampler_kind (Script replies request) is = refl
sampler_kind (Http body host method params path port replies) is = refl
sampler_kind k is = absurd is

pub table_has : (elements : List Element) (table : List (Option Scope)) (number : ℕ) → table ≡ packages_of elements → IsSampler elements number → IsSome (package_at table number)
table_has elements table number is s =
    let sampler : is_of_class elements classes.Sampler number ≡ true =
    ap (λ (o : Option Element). unwrap_or (option_map (same_class classes.Sampler) (option_map (λ (e : Element). class_of e.kind) o)) false) s.there ∙ sampler_kind s.element.kind s.of_kind in
    ap is_some (sampler_kept elements table number is sampler)
