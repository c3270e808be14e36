use Rattle.std.proofs.Common.{rules, ◌≡◌, [], ◌∷◌, Some, false, arith, sym, ap, ◌∙◌}
use Rattle.std.specs.Prelude.{is_some}
use Rattle.template_text.specs.declared.template.Piece.TheVariants.{Text, Var}
use Rattle.template_text.specs.View.{pieces_of}
use Rattle.thread_vars.specs.Vars.{value_of}
use Rattle.var_functions.specs.Expansion.{function_of_name, limited, after_pieces}
use Rattle.var_functions.proofs.Expanding.{one_of, one_text, one_variable, lent}
use Rattle.var_functions.proofs.expansion.lent_text.Goals as goal

pub returns-in-Text-clause-text : goal.returns-in-Text-clause-text
returns-in-Text-clause-text c =
    let all : pieces_of c.as_slice.result.now ≡ c.args.template.now = ap pieces_of c.as_slice.ensures.value ∙ c.template.view_is in
    let single = one_of c.as_slice.result.now c.piece-item.result (omega (arith, c.in-len1.len_at_least)) (omega (arith, c.in-len1.len_below)) c.piece-item.is in
    let one : c.args.template.now ≡ pieces_of (Text c.in-Text.text ∷ []) = sym all ∙ ap pieces_of single ∙ ap (λ p. pieces_of (p ∷ [])) c.in-Text.is in
    lent (λ t. t.now) (after_pieces c.args.template.now c.args.vars.now []) c.in-Text.text c.limited.result (c.limited.ensures ∙ ap limited c.bytes.ensures)
    (λ fns. ap (λ ps. after_pieces ps c.args.vars.now [] fns) one ∙ one_text c.in-Text.text c.args.vars.now fns)

pub returns-in_ok-get-in-Var-clause-text : goal.returns-in_ok-get-in-Var-clause-text
returns-in_ok-get-in-Var-clause-text c =
    let all : pieces_of c.as_slice.result.now ≡ c.args.template.now = ap pieces_of c.as_slice.ensures.value ∙ c.template.view_is in
    let single = one_of c.as_slice.result.now c.piece-item.result (omega (arith, c.in-len1.len_at_least)) (omega (arith, c.in-len1.len_below)) c.piece-item.is in
    let one : c.args.template.now ≡ pieces_of (Var c.in-Var.name ∷ []) = sym all ∙ ap pieces_of single ∙ ap (λ p. pieces_of (p ∷ [])) c.in-Var.is in
    let none : is_some (function_of_name c.in-Var.name) ≡ false = search rules in
    let found : value_of c.in-Var.name c.args.vars.now ≡ Some c.in_ok-get-in-Var.field-0.now = search rules in
    lent (λ t. t.now) (after_pieces c.args.template.now c.args.vars.now []) c.in_ok-get-in-Var.field-0.now c.limited-in-Var.result (c.limited-in-Var.ensures ∙ ap limited c.bytes-in-Var-2.ensures)
    (λ fns. ap (λ ps. after_pieces ps c.args.vars.now [] fns) one ∙ one_variable c.in-Var.name c.in_ok-get-in-Var.field-0.now c.args.vars.now fns none found)
