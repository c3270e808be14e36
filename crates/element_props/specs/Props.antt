-- The properties of an element, under the rows of its type.
use Rattle.std.specs.Prelude.{ℕ, Bool, true, false, ◌||◌, List, [], ◌∷◌, Option, Some, None, if◌then◌else◌, bytes_eq, is_some}
use Rattle.serde_json.specs.Data.{Data, Members, no_members, member}
use Rattle.serde_json.specs.Find.{get_member}
use Rattle.plan_json.specs.Place.{Place}
use Rattle.element_props.specs.declared.error.BuildError.{BuildError}
use Rattle.element_props.specs.declared.error.BuildError.TheVariants.{BadProp, MissingProp}
use Rattle.element_props.specs.declared.prop.Prop.{Prop}
use Rattle.element_props.specs.declared.prop.Prop.TheVariants as props
use Rattle.element_props.specs.FormRows.{Form, template, Presence, required, optional, text_default, number_default, truth_default, first_choice, no_pairs, Row, first_word}
use Rattle.element_props.specs.NamedProps.{NamedValue, ◌holds◌}
use Rattle.template_text.specs.Scan.{reading}
use Rattle.element_props.specs.Reads.{Reads, over, refuse, ◌>>=◌}
use Rattle.element_props.specs.Forms.{given}

abbrev pub prop_at : List ℕ → List ℕ → Place
prop_at places name = record { places = places; prop = Some name }

abbrev pub is_template : Form → Bool
is_template template = true
is_template form = false

-- what stands for a property that is absent
abbrev pub absent_value : Form → Presence → Prop
absent_value form required = props.Absent
absent_value form optional = props.Absent
absent_value form (text_default s) = if is_template form then props.Template (reading s) else props.Text s
absent_value form (number_default n) = props.Number n
absent_value form (truth_default b) = props.Truth b
absent_value form first_choice = props.Word (first_word form)
absent_value form no_pairs = props.Pairs []

abbrev pub property_of : List ℕ → Members → Row → Option Data → Reads Prop
property_of places ms row None = over (absent_value row.form row.presence)
property_of places ms row (Some d) = given row.form ms (prop_at places row.name) d

unfoldable pub property : List ℕ → Members → Row → Reads Prop
property places ms row = property_of places ms row (get_member row.name ms)

-- the properties of these rows, in their order, each by the name of its row
unfoldable pub properties : List ℕ → Members → List Row → Reads (List NamedValue)
properties places ms [] = over []
properties places ms (row ∷ rows) = property places ms row >>= (λ p. properties places ms rows >>= (λ ps. over ((row.name holds p) ∷ ps)))

abbrev pub has_row : List ℕ → List Row → Bool
has_row name [] = false
has_row name (row ∷ rows) = bytes_eq name row.name || has_row name rows

-- the first property, in byte order, that is in no row
abbrev pub unknown : List Row → Members → Option (List ℕ)
unknown rows no_members = None
unknown rows (member k d ms) = if has_row k rows then unknown rows ms else Some k

abbrev pub is_required : Presence → Bool
is_required required = true
is_required presence = false

-- the first required property, in byte order, that is absent
abbrev pub missing : Members → List Row → Option (List ℕ)
missing ms [] = None
missing ms (row ∷ rows) = if is_required row.presence then (if is_some (get_member row.name ms) then missing ms rows else Some row.name) else missing ms rows

abbrev pub no_name : (Place → BuildError) → List ℕ → Option (List ℕ) → Reads (Unit {0})
no_name fault places None = over tt
no_name fault places (Some name) = refuse (fault (prop_at places name))

-- the properties of an element: none that the type doesn't have, then none missing, then each in byte order
unfoldable pub own_properties : List ℕ → Members → List Row → Reads (List NamedValue)
own_properties places ms rows =
    no_name BadProp places (unknown rows ms)
    >>= (λ _. no_name MissingProp places (missing ms rows)
    >>= (λ _. properties places ms rows))
