-- The settings of an HTTP sampler: what it has itself, and what HTTP Request Defaults and HTTP Header Managers give it.
use Rattle.std.specs.Prelude.{ℕ, Bool, true, false, List, [], ◌∷◌, ◌++◌, map, Option, Some, None, slice_get, unwrap_or, if◌then◌else◌, Vec}
use Rattle.std.specs.Borrow.{Bor}
use Rattle.std.specs.declared.alloc.Global.{Global}
use Rattle.std.specs.BTreeMap.{insert_entry}
use Rattle.std.specs.List.{filter, flat_map, last_or}
use Rattle.std.specs.Option.{option_map, option_and_then}
use Rattle.std.specs.Str.{str_to_ascii_lowercase}
use Rattle.jm_base.specs.declared.types.Method.{Method}
use Rattle.jm_base.specs.declared.types.Method.TheVariants.{Get}
use Rattle.template_text.specs.Pieces.{Pieces, no_more, text as plain, reference}
use Rattle.element_props.specs.declared.prop.Pair.{Pair}
use Rattle.element_tree.specs.declared.kinds.Element.{Element}
use Rattle.element_tree.specs.declared.kinds.Kind.{Kind}
use Rattle.element_tree.specs.declared.kinds.Kind.TheVariants.{Http, HttpDefaults, HeaderManager}
use Rattle.http_text.specs.declared.request.NamedText.{NamedText}
use Rattle.http_text.specs.declared.request.HttpSettings.{HttpSettings}
use Rattle.thread_vars.specs.Vars.{by_bytes}
use Rattle.trials.specs.Tried.{Try, giving, ◌>=>◌, text}
use Rattle.http_settings.specs.declared.defaults.Property.{Property}
use Rattle.http_settings.specs.declared.defaults.Property.TheVariants.{Host, Port, Path, Body}
use Rattle.http_settings.specs.declared.request.Address.{Address}
use Rattle.http_settings.specs.declared.request.Content.{Content}

-- what is made of the element of this number; nothing where it isn't there
abbrev pub of_kind : {A : Type 0} → A → (Kind → A) → List Element → ℕ → A
of_kind nothing part elements number = unwrap_or (option_map (λ e. part e.kind) (slice_get elements number)) nothing

-- ---- host, port, path and body

abbrev pub by_property : {A : Type 0} → Property → A → A → A → A → A
by_property Host host port path body = host
by_property Port host port path body = port
by_property Path host port path body = path
by_property Body host port path body = body

-- the template that an element has for a property
abbrev pub template_in : Property → Kind → Option Pieces
template_in property (Http body host method params path port replies) = by_property property (Some host) (Some port) (Some path) (Some body)
template_in property (HttpDefaults host path port) = by_property property (Some host) (Some port) (Some path) None
template_in property kind = None

abbrev pub template_at : Property → List Element → ℕ → Option Pieces
template_at property elements number = of_kind None (template_in property) elements number

-- a template that is not the empty text
abbrev pub is_given : Pieces → Bool
is_given no_more = false
is_given (plain t more) = true
is_given (reference r more) = true

abbrev pub gives : Property → List Element → ℕ → Bool
gives property elements number = unwrap_or (option_map is_given (template_at property elements number)) false

-- The element that gives a property to a sampler: the sampler itself, or else the innermost of its configuration elements that
-- gives it, and of two on one level the later.
abbrev pub giver : Property → List Element → List ℕ → ℕ → Option ℕ
giver property elements config number =
    if gives property elements number then Some number else last_or None (filter (gives property elements) config)

abbrev pub template_for : Property → List Element → List ℕ → ℕ → Option Pieces
template_for property elements config number = option_and_then (template_at property elements) (giver property elements config number)

-- the text of a template; without one it is empty
abbrev pub text_or_empty : Option Pieces → Try (List ℕ)
text_or_empty None = giving []
text_or_empty (Some template) = text template

abbrev pub property_text : Property → List Element → List ℕ → ℕ → Try (List ℕ)
property_text property elements config number = text_or_empty (template_for property elements config number)

-- ---- header fields

abbrev pub headers_in : Kind → List Pair
headers_in (HeaderManager headers) = headers
headers_in kind = []

abbrev pub headers_at : List Element → ℕ → List Pair
headers_at elements number = of_kind [] headers_in elements number

-- header fields with their names in lower case, in the order of these names' bytes
abbrev pub Fields : Type 0
Fields = List (List ℕ × Pair)

-- a field takes the place of one of its name, whatever the case of its letters
abbrev pub set_field : Fields → Pair → Fields
set_field fields p = insert_entry by_bytes fields (str_to_ascii_lowercase p.name) p

abbrev pub set_fields : Fields → List Pair → Fields
set_fields fields [] = fields
set_fields fields (p ∷ ps) = set_fields (set_field fields p) ps

-- Those of these elements, each name once: of two fields of one name the later stays.
abbrev pub merged : List Element → List ℕ → Fields
merged elements config = set_fields [] (flat_map (headers_at elements) config)

abbrev pub merged_headers : List Element → List ℕ → List Pair
merged_headers elements config = map (λ f. f.1) (merged elements config)

-- ---- names with the texts of their templates

abbrev pub named : Pair → List ℕ → NamedText
named p value = record { name = p.name; value = value }

-- each template is expanded when its turn comes, after these that are done
abbrev pub texts_after : List NamedText → List Pair → Try (List NamedText)
texts_after done [] = giving done
texts_after done (p ∷ ps) = text p.value >=> λ value. texts_after (done ++ named p value ∷ []) ps

abbrev pub texts_of : List Pair → Try (List NamedText)
texts_of pairs = texts_after [] pairs

-- ---- all of them

abbrev pub params_in : Kind → List Pair
params_in (Http body host method params path port replies) = params
params_in kind = []

abbrev pub params_at : List Element → ℕ → List Pair
params_at elements number = of_kind [] params_in elements number

abbrev pub method_in : Kind → Method
method_in (Http body host method params path port replies) = method
method_in kind = Get

abbrev pub method_at : List Element → ℕ → Method
method_at elements number = of_kind Get method_in elements number

-- the host, the port and the path, in this order
abbrev pub address : List Element → List ℕ → ℕ → Try Address
address elements config number =
    property_text Host elements config number >=> λ host.
    property_text Port elements config number >=> λ port.
    property_text Path elements config number >=> λ path.
    giving (record { host = host; port = port; path = path })

-- the parameters, and then the body
abbrev pub content : List Element → List ℕ → ℕ → Try Content
content elements config number =
    texts_of (params_at elements number) >=> λ params.
    property_text Body elements config number >=> λ body.
    giving (record { params = params; body = body })

abbrev pub settings_of : Method → Address → Content → List NamedText → HttpSettings
settings_of method a c headers = record {
  host = a.host;
  port = a.port;
  path = a.path;
  method = method;
  params = c.params;
  body = c.body;
  headers = headers;
}

-- The settings of a sampler with these configuration elements. Templates are expanded in this order: host, port, path,
-- parameters, body, and header fields in the order of their names in lower case.
unfoldable pub settings : List Element → List ℕ → ℕ → Try HttpSettings
settings elements config number =
    address elements config number >=> λ a.
    content elements config number >=> λ c.
    texts_of (merged_headers elements config) >=> λ headers.
    giving (settings_of (method_at elements number) a c headers)

-- ---- what references to fields show, and a map of them

abbrev pub pairs_seen : List (Bor Pair) → List Pair
pairs_seen rs = map (λ r. r.now) rs

abbrev pub fields_seen : List (Vec ℕ Global × Bor Pair) → Fields
fields_seen es = map (λ e. (e.0.items, e.1.now)) es
