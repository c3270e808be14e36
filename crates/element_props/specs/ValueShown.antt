-- What contracts see of a value that is to be written.
use Rattle.element_props.specs.declared.prop.Prop.{Prop}
use Rattle.element_props.specs.declared.prop.Prop.TheVariants as props
use Rattle.element_props.specs.NamedProps.{NamedValue, ◌holds◌}
use Rattle.element_props.specs.declared.written.NamedShown.{NamedShown}
use Rattle.element_props.specs.declared.written.Shown.{Shown}
use Rattle.element_props.specs.declared.written.Shown.TheVariants as shown

abbrev pub shown_seen : Shown → Prop
shown_seen shown.Absent = props.Absent
shown_seen (shown.Template t) = props.Template t.now
shown_seen (shown.Text t) = props.Text t.now
shown_seen (shown.Number n) = props.Number n
shown_seen (shown.Truth b) = props.Truth b
shown_seen (shown.Word w) = props.Word w.now
shown_seen (shown.Pattern p) = props.Pattern p.now
shown_seen (shown.Pairs ps) = props.Pairs ps.now
shown_seen (shown.Replies rs) = props.Replies rs.now
shown_seen (shown.Texts ss) = props.Texts ss.now
shown_seen (shown.Patterns texts regexes whole) = props.Patterns texts.now regexes.now whole.now

abbrev pub named_shown_seen : NamedShown → NamedValue
named_shown_seen n = n.name.now holds shown_seen n.value
