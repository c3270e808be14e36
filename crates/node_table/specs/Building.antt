-- What the steps of building a table come to.
use Rattle.std.specs.Prelude.{◌≡◌, ℕ, ◌<◌, Bool, List, [], ◌∷◌, ◌++◌, length, Option, None, slice_get, slice_index_or, nat_eq, if◌then◌else◌}
use Rattle.std.specs.List.{find, filter}
use Rattle.std.specs.Option.{option_and_then}
use Rattle.element_tree.specs.declared.kinds.Element.{Element}
use Rattle.element_tree.specs.declared.types.Class.{Class}
use Rattle.element_tree.specs.declared.types.Class.TheVariants as classes
use Rattle.element_tree.specs.Scope.{Scope}
use Rattle.scope_resolver.specs.Scoping.{is_of_class, hanging_on}
use Rattle.node_table.specs.declared.element_links.Link.{Link}
use Rattle.node_table.specs.declared.hanging.Hanging.{Hanging}
use Rattle.node_table.specs.ElementLinks.{after_of}

-- ---- links

-- which of these numbers is run after n, or what was known before where n is none of them
abbrev pub after_or : (ℕ → Bool) → List ℕ → ℕ → Option ℕ → Option ℕ
after_or run [] n before = before
after_or run (m ∷ ms) n before = if nat_eq m n then find run ms else after_or run ms n before

-- for each element the next one that runs after it
pub record AreAfters (elements : List Element) (afters : List (Option ℕ)) : Type 0 where
  pub count : length afters ≡ length elements
  pub each : (n : ℕ) → n < length elements → slice_index_or afters n None ≡ after_of elements n

-- what the links of this number say of the elements above it
abbrev pub above_at : List Link → ℕ → Option ℕ
above_at links n = option_and_then (λ link. link.above) (slice_get links n)

-- ---- packages

-- the elements of a class that hang directly on this one, in tree order
abbrev pub hanging_of : List Element → Class → ℕ → List ℕ
hanging_of elements class n = filter (is_of_class elements class) (hanging_on elements n)

-- for each element those of a class that hang directly on it
pub record AreHanging (elements : List Element) (class : Class) (lists : List (List ℕ)) : Type 0 where
  pub count : length lists ≡ length elements
  pub each : (n : ℕ) → n < length elements → slice_index_or lists n [] ≡ hanging_of elements class n

-- that of each class
pub record IsHanging (elements : List Element) (hanging : Hanging) : Type 0 where
  pub config : AreHanging elements classes.Config hanging.config
  pub pre : AreHanging elements classes.PreProcessor hanging.pre
  pub timers : AreHanging elements classes.Timer hanging.timers
  pub post : AreHanging elements classes.PostProcessor hanging.post
  pub assertions : AreHanging elements classes.Assertion hanging.assertions
  pub listeners : AreHanging elements classes.Listener hanging.listeners

abbrev pub no_scope : Scope
no_scope = record { config = []; pre = []; timers = []; post = []; assertions = []; listeners = [] }

-- the package above an element, and then what hangs on the element
abbrev pub with_hanging : Scope → Hanging → ℕ → Scope
with_hanging above hanging n = record {
  config = above.config ++ slice_index_or hanging.config n [];
  pre = above.pre ++ slice_index_or hanging.pre n [];
  timers = above.timers ++ slice_index_or hanging.timers n [];
  post = above.post ++ slice_index_or hanging.post n [];
  assertions = above.assertions ++ slice_index_or hanging.assertions n [];
  listeners = above.listeners ++ slice_index_or hanging.listeners n [];
}
