-- A plan holds no cell, so threads may share one: each part by its own search, since one search over a whole kind ends at its bounds.
use denote.Param.Send.{IsSync, recorded_sync, enum_sync, view_sync, sendable}
use denote.Param.SendFields.{declared_sync}
use denote.Enum.Declared.{shape}
use Rattle.std.proofs.Crossing.{crosses}
use Rattle.template_text.proofs.template.Template.TheLaws.TheKnot as template
use Rattle.jm_base.specs.contracts.text.Text as Text
use Rattle.element_props.specs.contracts.patterns.Pattern as Pattern
use Rattle.element_props.specs.contracts.patterns.Pattern.TheInside as PatternInside
use Rattle.element_tree.specs.contracts.kinds.RegexExtractor as RegexExtractor
use Rattle.element_tree.specs.contracts.kinds.Assertion as Assertion
use Rattle.element_tree.specs.contracts.kinds.Kind as Kind
use Rattle.element_tree.specs.contracts.kinds.Element as Element
use Rattle.element_tree.specs.contracts.plan.Plan as Plan
use Rattle.plan_shares.proofs.RegexCrosses.{regex_sync}

pub text : IsSync Text.the_row
text = search (crosses, sendable) depth 20

pub pattern : IsSync Pattern.the_row
pattern = view_sync PatternInside.the_row _ _ _ _ (declared_sync PatternInside.the_type (text, (regex_sync, tt)))

pub extractor_field : IsSync RegexExtractor.the_field.row
extractor_field = search (pattern, crosses, sendable) depth 60

pub assertion_field : IsSync Assertion.the_field.row
assertion_field = search (pattern, crosses, sendable) depth 60

pub ruleset parts = (extractor_field, assertion_field, pattern, crosses, template.crosses, sendable)

-- one search for each kind of element, in their order
pub kind_field : IsSync Kind.the_field.row
kind_field = enum_sync (shape Kind.the_type) (search parts depth 60, (search parts depth 60, (search parts depth 60, (search parts depth 60, (search parts depth 60, (search parts depth 60, (search parts depth 60, (search parts depth 60, (search parts depth 60, (search parts depth 60, (search parts depth 60, (search parts depth 60, (search parts depth 60, (search parts depth 60, (search parts depth 60, (search parts depth 60, (search parts depth 60, (search parts depth 60, (search parts depth 60, (search parts depth 60, (search parts depth 60, (search parts depth 60, (search parts depth 60, (search parts depth 60, (search parts depth 60, (search parts depth 60, (search parts depth 60, (search parts depth 60, (search parts depth 60, (search parts depth 60, (search parts depth 60, tt)))))))))))))))))))))))))))))))

pub kind : IsSync Kind.the_row
kind = recorded_sync Kind.the_field.row _ _ Kind.the_type.to_one kind_field

pub element : IsSync Element.the_row
element = search (kind_field, crosses, sendable) depth 60

pub plan : IsSync Plan.the_row
plan = search (element, crosses, sendable) depth 60
