use Rattle.std.proofs.Common.{◌+◌, ◌-◌, ◌*◌, ◌^◌, min, sym, ◌∙◌, refl, arith, ap}
use Rattle.json_path.specs.declared.parse.Parser.{Parser}
use Rattle.json_path.proofs.ParserLaws.{digit_taken, byte_other}
use Rattle.json_path.proofs.parse.Parser.continue_index.Goals as goal

pub returns : goal.returns
returns c =
    let new : Parser = record { place = c.args.self.now.place; steps = c.args.self.now.steps; name = c.args.self.now.name; index = c.saturating_add-self.result; digits = c.args.self.now.digits + 1 } in
    digit_taken c.args.self.now new c.args.byte (byte_other c.args.byte 93 c.if-byte-eq93.false) (sym c.is_ascii_digit.ensures.value ∙ c.if-not-is_ascii_digit.false) (omega arith) refl refl refl
    (c.saturating_add-self.ensures ∙ ap (λ x. min (x + c.from.result) (2 ^ 32 - 1)) c.saturating_mul.ensures ∙ ap (λ x. min (min (c.args.self.now.index * 10) (2 ^ 32 - 1) + x) (2 ^ 32 - 1)) c.from.ensures) refl
