-- Behind the `(` of a call stand its arguments.
use Rattle.std.proofs.Common.{◌≡◌, ◌≢◌, ◌<◌, length, option_map, sym, ◌∙◌, ap, arith}
use Rattle.std.proofs.lemmas.Bool.{eqb-false}
use Rattle.template_text.specs.Scan.{shape, call_of, arguments_at}
use Rattle.template_text.proofs.Table.{found_drop, found_length-same}
use Rattle.template_text.proofs.Firsts.{named_at_call}
use Rattle.template_text.proofs.scan.ended.Goals as goal

pub after-requires-in-40 : goal.after-requires-in-40
after-requires-in-40 c =
    let e : length c.args.found.now ≡ length c.args.text.now = found_length-same c.args.text.now c.args.found.now c.requires.places in
    let some : length c.args.text.now ≢ 0 = eqb-false (length c.args.text.now) 0 (sym c.if-is_empty.ensures) in
    omega arith

pub call-requires-clause-places : goal.call-requires-clause-places
call-requires-clause-places c = rw (c.after.ensures, c.after-in-40.ensures) (found_drop 1 c.args.text.now c.args.found.now c.requires.places)

pub returns-in-40 : goal.returns-in-40
returns-in-40 c =
    let some : length c.args.text.now ≢ 0 = eqb-false (length c.args.text.now) 0 (sym c.if-is_empty.ensures) in
    let here : 0 < length c.args.text.now = omega arith in
    c.call.ensures ∙ (ap (λ w. option_map shape (call_of c.args.name.now (arguments_at w 0))) c.after.ensures
    ∙ ap (option_map shape) (sym (named_at_call c.args.name.now c.args.text.now here c.in-40.is)))
