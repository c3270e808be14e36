use Rattle.http_text.specs.declared.error.WireError.TheVariants as error
use Rattle.http_sampler.proofs.asking.outcome_of.Goals as goal

pub returns-in-Ok-clause-refused : goal.returns-in-Ok-clause-refused
returns-in-Ok-clause-refused c = λ wire over. let e = c.in-Ok.ensures.again (error.Wire wire) over in cc

pub returns-in-Err-Wire-clause-refused : goal.returns-in-Err-Wire-clause-refused
returns-in-Err-Wire-clause-refused c = λ wire over. let e = c.in-Err-Wire.ensures.again (error.Wire wire) over in let f = c.in-Err-Wire.field-0-is in cc

pub returns-in-Err-Wire-clause-ended : goal.returns-in-Err-Wire-clause-ended
returns-in-Err-Wire-clause-ended c = rw c.in-Err-Wire.field-0-is at c.in-Err-Wire.ensures.answer
