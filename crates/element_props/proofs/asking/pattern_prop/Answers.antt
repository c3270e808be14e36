use Rattle.element_props.proofs.ReadsLaws.{pattern_kept, pattern_fails}
use Rattle.element_props.proofs.asking.pattern_prop.Goals as goal

pub returns-in-Ok : goal.returns-in-Ok
returns-in-Ok g c = pattern_kept _ _ _ _ _ _ c.in-Ok.ensures.gives

pub returns-in-Err : goal.returns-in-Err
returns-in-Err g c = pattern_fails _ _ _ _ _ _ c.in-Err.ensures.gives
