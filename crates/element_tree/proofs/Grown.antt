-- The tree of the elements that were read, and what each element was read from.
use Rattle.std.proofs.Common.{◌≡◌, ℕ, suc, ◌+◌, Bool, false, ◌||◌, List, [], ◌∷◌, ◌++◌, Option, Some, Ok}
use Rattle.serde_json.specs.Data.{Members}
use Rattle.plan_json.specs.Shape.{Raws}
use Rattle.element_props.specs.Reads.{outcome}
use Rattle.element_tree.specs.declared.kinds.Kind.{Kind}
use Rattle.element_tree.specs.declared.kinds.Element.{Element}
use Rattle.element_tree.specs.declared.types.Class.{Class}
use Rattle.element_tree.specs.Types.{type_of, class_of, is_section}
use Rattle.element_tree.specs.Walk.{Spot, own, node, has_enabled}

mutual
  -- an element's name and kind, and those below it
  pub data Grown : Type 0 where
    grown : List ℕ → Kind → Growns → Grown

  pub data Growns : Type 0 where
    none_grown : Growns
    then_grown : Grown → Growns → Growns

abbrev mutual
  -- how many elements there are
  pub size : Grown → ℕ
  size (grown name kind gs) = suc (sizes gs)

  pub sizes : Growns → ℕ
  sizes none_grown = 0
  sizes (then_grown g gs) = size g + sizes gs

-- the numbers of elements one after another, of which the first has this one
abbrev pub numbers : ℕ → Growns → List ℕ
numbers n none_grown = []
numbers n (then_grown g gs) = n ∷ numbers (n + size g) gs

abbrev mutual
  -- the elements in tree order, where the first has this parent and number
  pub flat : ℕ → ℕ → Grown → List Element
  flat parent n (grown name kind gs) = node name kind parent (numbers (n + 1) gs) ∷ flats n (n + 1) gs

  pub flats : ℕ → ℕ → Growns → List Element
  flats parent n none_grown = []
  flats parent n (then_grown g gs) = flat parent n g ++ flats parent (n + size g) gs

-- where an element stands, but for its path and parent
pub record Stand : Type 0 where
  pub above : Option Class
  pub depth : ℕ
  pub inside : Bool
  pub version : ℕ

abbrev pub spot_at : Stand → ℕ → List ℕ → Spot
spot_at s parent places = record { above = s.above; depth = s.depth; inside = s.inside; parent = parent; places = places; version = s.version }

abbrev pub stand_of : Spot → Stand
stand_of s = record { above = s.above; depth = s.depth; inside = s.inside; version = s.version }

abbrev pub stand_below : Stand → Kind → Stand
stand_below s kind = record { above = Some (class_of kind); depth = s.depth + 1; inside = s.inside || is_section kind; version = s.version }

-- the element was read there
pub record WasRead (s : Stand) (name : List ℕ) (kind : Kind) (gs : Growns) : Type 0 where
  pub parent : ℕ
  pub places : List ℕ
  pub number : ℕ
  pub written : List ℕ
  pub enabled : Bool
  pub members : Members
  pub below : Raws
  pub own_ok : outcome (own (spot_at s parent places) number written name enabled members below) ≡ Ok (type_of kind, kind)
  pub empty : has_enabled below ≡ false → gs ≡ none_grown

unfoldable mutual
  -- each element was read
  pub WereRead : Stand → Grown → Type 0
  WereRead s (grown name kind gs) = WasRead s name kind gs × AllRead (stand_below s kind) gs

  pub AllRead : Stand → Growns → Type 0
  AllRead s none_grown = Unit {0}
  AllRead s (then_grown g gs) = WereRead s g × AllRead s gs
