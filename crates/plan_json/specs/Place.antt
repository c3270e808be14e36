-- Where in a plan something is, and how that is printed.
use Rattle.std.specs.Prelude.{ℕ, List, [], ◌∷◌, ◌++◌, Option, Some, None, codes}
use Rattle.std.specs.Fmt.{decimal}

-- the steps down from the root, each the place of a child among its parent's children as they are written, and then a property
pub record Place : Type 0 where
  pub places : List ℕ
  pub prop : Option (List ℕ)

-- the place of an element
abbrev pub at : List ℕ → Place
at places = record { places = places; prop = None }

-- `/children/I` for each step
abbrev pub steps_text : List ℕ → List ℕ
steps_text [] = []
steps_text (place ∷ places) = (codes "/children/" ++ decimal place) ++ steps_text places

-- `/props/NAME` for a property
abbrev pub prop_text : Option (List ℕ) → List ℕ
prop_text None = []
prop_text (Some name) = codes "/props/" ++ name

abbrev pub place_text : List ℕ → Option (List ℕ) → List ℕ
place_text [] None = codes "/"
place_text [] (Some name) = prop_text (Some name)
place_text (place ∷ places) prop = steps_text (place ∷ places) ++ prop_text prop

-- the steps and then the property; the root itself is `/`
abbrev pub path_text : Place → List ℕ
path_text path = place_text path.places path.prop
