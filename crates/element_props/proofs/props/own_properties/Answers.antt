use Rattle.std.proofs.Common.{ap}
use Rattle.element_props.specs.Reads.{outcome}
use Rattle.element_props.proofs.OwnLaws.{gives_judged, gives_refused, gives_size, gives_refusal, own_all, unknown_refused, missing_refused}
use Rattle.element_props.proofs.props.own_properties.Goals as goal

pub returns-clause-read : goal.returns-clause-read
returns-clause-read g c = gives_judged (λ v. v.items) _ _ _ _ c.read_own.ensures

pub returns-clause-refused : goal.returns-clause-refused
returns-clause-refused g c = λ e is h. gives_refused (λ v. v.items) _ _ _ _ e c.read_own.ensures is h

pub returns-clause-without_row : goal.returns-clause-without_row
returns-clause-without_row g c = λ name h. gives_refusal (λ v. v.items) _ _ _ _ _ c.read_own.ensures (ap outcome (unknown_refused _ _ _ name h)) (unknown_refused _ _ _ name h)

pub returns-clause-absent : goal.returns-clause-absent
returns-clause-absent g c = λ name h k. gives_refusal (λ v. v.items) _ _ _ _ _ c.read_own.ensures (ap outcome (missing_refused _ _ _ name h k)) (missing_refused _ _ _ name h k)

pub returns-clause-size : goal.returns-clause-size
returns-clause-size g c = λ p is. gives_size (λ v. v.items) _ _ _ _ p (own_all _ _ _) c.read_own.ensures is
