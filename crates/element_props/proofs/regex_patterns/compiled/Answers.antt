use Rattle.element_props.proofs.RefusedLaws.{refused_reading, pattern_has_reading, kept_has_reading}
use Rattle.element_props.proofs.regex_patterns.compiled.Goals as goal

pub returns-in-Err-Syntax-clause-syntax : goal.returns-in-Err-Syntax-clause-syntax
returns-in-Err-Syntax-clause-syntax c = λ _.
    let e = c.in-Err-Syntax.field-0-0 in
    refused_reading c.args.text.now e.kind
    (c.in-Err-Syntax.ensures.by_grammar e c.in-Err-Syntax.field-0-is)
    (rw c.in-Err-Syntax.field-0-is at c.in-Err-Syntax.ensures.kind)

pub returns-in-Ok-clause-read : goal.returns-in-Ok-clause-read
returns-in-Ok-clause-read c =
    let made = c.in-Ok.ensures in
    rw made.source at (kept_has_reading c.in-Ok.regex (made.config, made.read))

pub returns-in-Err-CompiledTooBig-clause-size : goal.returns-in-Err-CompiledTooBig-clause-size
returns-in-Err-CompiledTooBig-clause-size c = λ _. pattern_has_reading c.args.text.now (rw c.in-Err-CompiledTooBig.field-0-is at c.in-Err-CompiledTooBig.ensures.kind)
