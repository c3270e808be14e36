use Rattle.std.proofs.Common.{sym}
use Rattle.element_props.proofs.PropsLoop.{unknown_fails, missing_fails, own_gives}
use Rattle.element_props.proofs.props.read_own.Goals as goal

pub returns : goal.returns
returns g c = own_gives _ _ _ _ _ _ _ (sym c.in_default.ensures) (sym c.in_default-missing.ensures) c.properties.ensures

pub returns-in-Some : goal.returns-in-Some
returns-in-Some g c = rw (c.in_ok-prop_path.ensures) (unknown_fails _ _ _ _ _ (sym c.in-Some.ensures))

pub returns-in-Some-missing : goal.returns-in-Some-missing
returns-in-Some-missing g c = rw (c.in_ok-prop_path-2.ensures) (missing_fails _ _ _ _ _ (sym c.in_default.ensures) (sym c.in-Some-missing.ensures))
