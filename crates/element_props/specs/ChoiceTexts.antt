-- Values that stand in a plan as texts: the text of each, and the values in order, the first of which stands for an absent property.
use Rattle.std.specs.Prelude.{ℕ, List, [], ◌∷◌, Option, Some, None, bytes_eq, codes, if◌then◌else◌}
use Rattle.std.specs.List.{list_any}
use Rattle.jm_base.specs.declared.types.Method.{Method}
use Rattle.jm_base.specs.declared.types.Method.TheVariants as method
use Rattle.element_props.specs.declared.choices.OnError.{OnError}
use Rattle.element_props.specs.declared.choices.OnError.TheVariants as on_error
use Rattle.element_props.specs.declared.choices.Field.{Field}
use Rattle.element_props.specs.declared.choices.Field.TheVariants as field
use Rattle.element_props.specs.declared.choices.Comparison.{Comparison}
use Rattle.element_props.specs.declared.choices.Comparison.TheVariants as comparison
use Rattle.element_props.specs.declared.choices.AtEnd.{AtEnd}
use Rattle.element_props.specs.declared.choices.AtEnd.TheVariants as at_end
use Rattle.element_props.specs.declared.choices.Share.{Share}
use Rattle.element_props.specs.declared.choices.Share.TheVariants as share
use Rattle.element_props.specs.declared.choices.TestKind.{TestKind}
use Rattle.element_props.specs.declared.choices.TestKind.TheVariants as test

-- the first of these values that has this text
abbrev pub named : {C : Type 0} → (C → List ℕ) → List C → List ℕ → Option C
named word [] text = None
named word (x ∷ xs) text = if bytes_eq (word x) text then Some x else named word xs text

-- a text that is one of these
abbrev pub word_in : List (List ℕ) → List ℕ → Option (List ℕ)
word_in words text = if list_any (λ w. bytes_eq w text) words then Some text else None

-- ---- each choice

abbrev pub on_error_word : OnError → List ℕ
on_error_word on_error.Continue = codes "continue"
on_error_word on_error.NextLoop = codes "nextLoop"
on_error_word on_error.StopThread = codes "stopThread"
on_error_word on_error.StopTest = codes "stopTest"

abbrev pub on_errors : List OnError
on_errors = on_error.Continue ∷ on_error.NextLoop ∷ on_error.StopThread ∷ on_error.StopTest ∷ []

abbrev pub field_word : Field → List ℕ
field_word field.Body = codes "body"
field_word field.Headers = codes "headers"
field_word field.Code = codes "code"
field_word field.Message = codes "message"

abbrev pub fields : List Field
fields = field.Body ∷ field.Headers ∷ field.Code ∷ field.Message ∷ []

abbrev pub comparison_word : Comparison → List ℕ
comparison_word comparison.Equal = codes "="
comparison_word comparison.NotEqual = codes "!="
comparison_word comparison.Above = codes ">"
comparison_word comparison.Below = codes "<"
comparison_word comparison.AtLeast = codes ">="
comparison_word comparison.AtMost = codes "<="

abbrev pub comparisons : List Comparison
comparisons = comparison.Equal ∷ comparison.NotEqual ∷ comparison.Above ∷ comparison.Below ∷ comparison.AtLeast ∷ comparison.AtMost ∷ []

abbrev pub at_end_word : AtEnd → List ℕ
at_end_word at_end.Recycle = codes "recycle"
at_end_word at_end.Stop = codes "stop"
at_end_word at_end.Eof = codes "eof"

abbrev pub at_ends : List AtEnd
at_ends = at_end.Recycle ∷ at_end.Stop ∷ at_end.Eof ∷ []

abbrev pub share_word : Share → List ℕ
share_word share.Thread = codes "thread"

abbrev pub shares : List Share
shares = share.Thread ∷ []

abbrev pub test_word : TestKind → List ℕ
test_word test.Contains = codes "contains"
test_word test.Matches = codes "matches"
test_word test.Equals = codes "equals"
test_word test.Substring = codes "substring"

abbrev pub tests : List TestKind
tests = test.Contains ∷ test.Matches ∷ test.Equals ∷ test.Substring ∷ []

abbrev pub method_word : Method → List ℕ
method_word method.Get = codes "GET"
method_word method.Post = codes "POST"
method_word method.Put = codes "PUT"
method_word method.Delete = codes "DELETE"
method_word method.Head = codes "HEAD"

abbrev pub methods : List Method
methods = method.Get ∷ method.Post ∷ method.Put ∷ method.Delete ∷ method.Head ∷ []
