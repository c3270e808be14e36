use Rattle.std.proofs.Common.{sym, ◌∙◌}
use Rattle.element_props.proofs.PropsLoop.{property_absent, property_given, get_in}
use Rattle.serde_json.specs.View.{view}
use Rattle.element_props.proofs.props.property.Goals as goal

pub returns-in_ok-prop-in-None : goal.returns-in_ok-prop-in-None
returns-in_ok-prop-in-None g c = property_absent _ _ _ _ _ (get_in c.args.row.now.name.now (view c.args.props.now) ∙ sym c.in-None.ensures) c.in_ok-prop-in-None.ensures

pub returns-in-Some : goal.returns-in-Some
returns-in-Some g c = property_given (λ p. p) _ _ _ _ _ _ _ (get_in c.args.row.now.name.now (view c.args.props.now) ∙ sym c.in-Some.ensures) c.given.ensures
