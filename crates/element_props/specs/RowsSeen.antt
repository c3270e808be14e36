-- What contracts see of a row of the code's rows.
use Rattle.std.specs.Prelude.{ℕ, List, map}
use Rattle.element_props.specs.declared.rows.Row.{Row}
use Rattle.element_props.specs.declared.rows.Form.{Form}
use Rattle.element_props.specs.declared.rows.Form.TheVariants as forms
use Rattle.element_props.specs.declared.rows.Presence.{Presence}
use Rattle.element_props.specs.declared.rows.Presence.TheVariants as presences
use Rattle.element_props.specs.declared.rows.Words.{Words}
use Rattle.element_props.specs.declared.rows.Words.TheVariants as words
use Rattle.element_props.specs.ChoiceTexts.{on_error_word, on_errors, method_word, methods, at_end_word, at_ends, share_word, shares, field_word, fields, test_word, tests, comparison_word, comparisons}
use Rattle.element_props.specs.FormRows as rows

abbrev pub words_seen : Words → List (List ℕ)
words_seen words.OnError = map on_error_word on_errors
words_seen words.Method = map method_word methods
words_seen words.AtEnd = map at_end_word at_ends
words_seen words.Share = map share_word shares
words_seen words.Field = map field_word fields
words_seen words.Test = map test_word tests
words_seen words.Comparison = map comparison_word comparisons

abbrev pub form_seen : Form → rows.Form
form_seen forms.Template = rows.template
form_seen forms.Plain = rows.plain
form_seen forms.Filled = rows.filled
form_seen forms.Lock = rows.lock
form_seen (forms.Whole low high) = rows.whole low high
form_seen (forms.UpTo name) = rows.up_to name.now
form_seen forms.Flag = rows.flag
form_seen (forms.Choice w) = rows.choice (words_seen w)
form_seen forms.Pattern = rows.pattern
form_seen forms.TestPatterns = rows.test_patterns
form_seen forms.Pairs = rows.pairs
form_seen forms.Replies = rows.replies
form_seen forms.Texts = rows.texts
form_seen (forms.Csv names) = rows.csv names.now
form_seen forms.JsonPath = rows.json_path

abbrev pub presence_seen : Presence → rows.Presence
presence_seen presences.Required = rows.required
presence_seen presences.Optional = rows.optional
presence_seen (presences.Text text) = rows.text_default text.now
presence_seen (presences.Number n) = rows.number_default n
presence_seen (presences.Truth b) = rows.truth_default b
presence_seen presences.First = rows.first_choice
presence_seen presences.NoPairs = rows.no_pairs

abbrev pub row_seen : Row → rows.Row
row_seen r = record { name = r.name.now; form = form_seen r.form; presence = presence_seen r.presence }
