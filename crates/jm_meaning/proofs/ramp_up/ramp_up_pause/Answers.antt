use Rattle.std.proofs.Common.{◌∙◌, sym}
use Rattle.jm_meaning.proofs.ThreadLaws.{number_first, number_last, pause_is}
use Rattle.jm_meaning.proofs.ramp_up.ramp_up_pause.Goals as goal

pub ramp_up-requires-clause-first : goal.ramp_up-requires-clause-first
ramp_up-requires-clause-first c =
    let k = c.in-ThreadGroup in
    number_first c.args.plan.now.elements c.args.thread c.thread-found.result c.thread-found.ensures.thread c.in-Some.element.now (sym c.in-Some.ensures) k.loops k.on_error k.ramp_ms k.threads k.is

pub ramp_up-requires-clause-last : goal.ramp_up-requires-clause-last
ramp_up-requires-clause-last c =
    let k = c.in-ThreadGroup in
    number_last c.args.plan.now.elements c.args.thread c.thread-found.result c.thread-found.ensures.thread c.in-Some.element.now (sym c.in-Some.ensures) k.loops k.on_error k.ramp_ms k.threads k.is

pub returns : goal.returns
returns c =
    let k = c.in-ThreadGroup in
    c.ramp_up.ensures ∙ pause_is c.args.plan.now c.args.thread c.thread-found.result c.thread-found.ensures.thread c.in-Some.element.now (sym c.in-Some.ensures) k.loops k.on_error k.ramp_ms k.threads k.is
