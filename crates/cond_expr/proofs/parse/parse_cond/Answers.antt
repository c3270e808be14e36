use Rattle.cond_expr.proofs.ReadLaws.{gives_reading, gives_one, gives_refused, gives_place}
use Rattle.cond_expr.proofs.parse.parse_cond.Goals as goal

pub returns-clause-reading : goal.returns-clause-reading
returns-clause-reading c = gives_reading c.args.text.now c.read.result c.read.ensures

pub returns-clause-one_reading : goal.returns-clause-one_reading
returns-clause-one_reading c = gives_one c.args.text.now c.read.result c.read.ensures

pub returns-clause-refused : goal.returns-clause-refused
returns-clause-refused c = λ at e. gives_refused c.args.text.now c.read.result at c.read.ensures e

pub returns-clause-place : goal.returns-clause-place
returns-clause-place c = λ at e. gives_place c.args.text.now c.read.result at c.read.ensures e
