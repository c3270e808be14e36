-- An element's own kind, and the values that it was read from.
use Rattle.std.proofs.Common.{◌≡◌, ℕ, Bool, List, Option, Some, Ok, sym, ap, ◌∙◌, subst}
use Rattle.serde_json.specs.Data.{Members}
use Rattle.plan_json.specs.Shape.{Raws}
use Rattle.element_props.specs.NamedProps.{NamedValue}
use Rattle.element_props.specs.Props.{own_properties}
use Rattle.element_props.specs.Reads.{or_refuse, outcome}
use Rattle.element_tree.specs.declared.kinds.Kind.{Kind}
use Rattle.element_tree.specs.declared.types.ElementType.{ElementType}
use Rattle.element_tree.specs.Types.{type_of}
use Rattle.element_tree.specs.Table.{rows}
use Rattle.element_tree.specs.Kinds.{kind_of}
use Rattle.element_tree.specs.Values.{values_of}
use Rattle.element_tree.specs.Fits.{FitsAll}
use Rattle.element_tree.specs.Walk.{Spot, placed, own}
use Rattle.element_tree.proofs.Outcomes.{bind_ok, over_ok, or_ok}
use Rattle.element_tree.proofs.FitsLaws.{own_fit}
use Rattle.element_tree.proofs.MadeLaws.{kind_made}
use Rattle.element_tree.proofs.TableLaws.{defaults_fit}

same_kind : (o : Option Kind) (x y : Kind) → o ≡ Some x → o ≡ Some y → x ≡ y
same_kind o x y h k = let e : ◌≡◌ {A = Option Kind} (Some x) (Some y) = sym h ∙ k in cc

-- these values were read as the properties of an element of this type, and make this kind
pub record OwnRead (s : Spot) (ms : Members) (t : ElementType) (made : Kind) (ps : List NamedValue) : Type 0 where
  pub fits : FitsAll (rows s.version t) ps
  pub read : outcome (own_properties s.places ms (rows s.version t)) ≡ Ok ps
  pub again : kind_of t ps ≡ Some made

-- an element's kind is of the element's type, and was made of the values that it has
pub record OwnValues (s : Spot) (ms : Members) (t : ElementType) (made : Kind) : Type 0 where
  pub of_type : type_of made ≡ t
  pub values : OwnRead s ms t made (values_of made)

pub own_values : (s : Spot) (n : ℕ) (kind name : List ℕ) (enabled : Bool) (ms : Members) (cs : Raws) (t : ElementType) (made : Kind)
    → outcome (own s n kind name enabled ms cs) ≡ Ok (t, made) → OwnValues s ms t made
unfolding own
own_values s n kind name enabled ms cs t made h =
    let a = bind_ok (placed s n kind name enabled cs) _ (t, made) h in
    let b = bind_ok (own_properties s.places ms (rows s.version a.0)) _ (t, made) a.2 in
    let c = bind_ok (or_refuse (kind_of a.0 b.0) _) _ (t, made) b.2 in
    let o = over_ok (a.0, c.0) (t, made) c.2 in
    let same_type : a.0 ≡ t = ap (λ (o : ElementType × Kind). o.0) o in
    let found = or_ok (kind_of a.0 b.0) _ c.0 c.1 in
    let fits = own_fit s.places ms (rows s.version a.0) b.0 (defaults_fit s.version a.0) b.1 in
    let m = kind_made s.version a.0 b.0 fits in
    let same : m.kind ≡ made = same_kind (kind_of a.0 b.0) m.kind c.0 m.made found ∙ ap (λ (o : ElementType × Kind). o.1) o in
    let values : b.0 ≡ values_of made = sym m.values ∙ ap values_of same in
    let P : List NamedValue → Type 0 = λ ps. OwnRead s ms a.0 made ps in
    let Q : ElementType → Type 0 = λ u. OwnRead s ms u made (values_of made) in
    record {
      of_type = sym (ap type_of same) ∙ m.of_type ∙ same_type;
      values = subst Q same_type (subst P values (record { fits = fits; read = b.1; again = found ∙ ap (λ (o : ElementType × Kind). Some o.1) o }));
    }
