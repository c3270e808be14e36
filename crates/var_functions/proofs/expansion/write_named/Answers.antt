use Rattle.std.proofs.Common.{◌≡◌, ◌++◌, true, false, [], Some, None, sym, ap, ◌∙◌, subst, inl, inr}
use Rattle.std.specs.Prelude.{is_some, not, unwrap_or}
use Rattle.std.specs.Option.{option_and_then}
use Rattle.jm_base.proofs.RunLaws.{goes-nothing}
use Rattle.template_text.specs.Pieces.{variable, reference_spelling}
use Rattle.thread_vars.specs.Vars.{value_of}
use Rattle.var_functions.specs.Texts.{value_bytes}
use Rattle.var_functions.specs.Expansion.{function_of_name, taking, Grows}
use Rattle.var_functions.proofs.Expanding.{text_came, referred_variable, referred_function, no_texts, called_none, called_value, called_cut}
use Rattle.var_functions.proofs.LaterLaws.{later_same}
use Rattle.var_functions.proofs.StopLaws.{out_of_memory, reference_stops, named_stops}
use Rattle.var_functions.proofs.expansion.write_named.Goals as goal

pub returns-in-Some-clause-came : goal.returns-in-Some-clause-came
returns-in-Some-clause-came g c =
    let named : c.function_of_name-named.result ≡ function_of_name c.args.name.now = c.function_of_name-named.ensures ∙ ap function_of_name c.bytes.ensures in
    let none : is_some (function_of_name c.args.name.now) ≡ false = ap is_some (sym named) ∙ c.is_none.ensures ∙ ap not c.if-is_none.true in
    let found : value_of c.args.name.now c.args.vars.now ≡ Some c.in-Some.value.now = ap (λ n. value_of n c.args.vars.now) (sym c.bytes-then-is_none.ensures) ∙ sym c.in-Some.ensures in
    let text : c.bytes-in-Some.result.now ≡ unwrap_or (value_of c.args.name.now c.args.vars.now) (reference_spelling (variable c.args.name.now)) = c.bytes-in-Some.ensures ∙ ap (λ o. unwrap_or o (reference_spelling (variable c.args.name.now))) (sym found) in
    text_came _ _ _ c.args.out.now.items c.append.new.out.items c.args.fns.now c.append.result (referred_variable c.args.name.now c.args.vars.now c.args.fns.now none)
    (subst (λ t. Grows (c.args.out.now.items ++ t) c.append.new.out.items c.append.result) text c.append.ensures.grown)

pub returns-in-None-clause-came : goal.returns-in-None-clause-came
returns-in-None-clause-came g c =
    let named : c.function_of_name-named.result ≡ function_of_name c.args.name.now = c.function_of_name-named.ensures ∙ ap function_of_name c.bytes.ensures in
    let none : is_some (function_of_name c.args.name.now) ≡ false = ap is_some (sym named) ∙ c.is_none.ensures ∙ ap not c.if-is_none.true in
    let found : value_of c.args.name.now c.args.vars.now ≡ None = ap (λ n. value_of n c.args.vars.now) (sym c.bytes-then-is_none.ensures) ∙ sym c.in-None.ensures in
    let text : reference_spelling (variable c.args.name.now) ≡ unwrap_or (value_of c.args.name.now c.args.vars.now) (reference_spelling (variable c.args.name.now)) = ap (λ o. unwrap_or o (reference_spelling (variable c.args.name.now))) (sym found) in
    text_came _ _ _ c.args.out.now.items c.append_variable.new.out.items c.args.fns.now c.append_variable.result (referred_variable c.args.name.now c.args.vars.now c.args.fns.now none)
    (subst (λ t. Grows (c.args.out.now.items ++ t) c.append_variable.new.out.items c.append_variable.result) text c.append_variable.ensures.grown)

pub returns-in-Ok-Some-clause-came : goal.returns-in-Ok-Some-clause-came
returns-in-Ok-Some-clause-came g c =
    let named : c.function_of_name-named.result ≡ function_of_name c.args.name.now = c.function_of_name-named.ensures ∙ ap function_of_name c.bytes.ensures in
    let some : is_some (function_of_name c.args.name.now) ≡ true = ap is_some (sym named) ∙ c.is_none.ensures ∙ ap not c.if-is_none.false in
    let which : option_and_then (taking 0) (function_of_name c.args.name.now) ≡ Some c.in-Some-taking.function = ap (option_and_then (taking 0)) (sym named) ∙ sym c.taking.ensures ∙ c.in-Some-taking.is in
    called_value _ no_texts (reference_spelling (variable c.args.name.now)) c.args.out.now.items c.args.vars.now c.args.fns.now _ (referred_function c.args.name.now c.args.vars.now c.args.fns.now some) _ _ c.in-Some-taking.function [] c.args.fns.now which (goes-nothing _ _)
    _ (Some (value_bytes c.in-Ok-Some.value)) c.value.new.fns c.append_value.new.out.items c.append_value.result (rw c.in-Ok-Some.field-0-is at c.in-Ok-Some.ensures.ok) c.append_value.ensures.grown

pub returns-in-Ok-None-clause-came : goal.returns-in-Ok-None-clause-came
returns-in-Ok-None-clause-came g c =
    let named : c.function_of_name-named.result ≡ function_of_name c.args.name.now = c.function_of_name-named.ensures ∙ ap function_of_name c.bytes.ensures in
    let some : is_some (function_of_name c.args.name.now) ≡ true = ap is_some (sym named) ∙ c.is_none.ensures ∙ ap not c.if-is_none.false in
    let which : option_and_then (taking 0) (function_of_name c.args.name.now) ≡ Some c.in-Some-taking.function = ap (option_and_then (taking 0)) (sym named) ∙ sym c.taking.ensures ∙ c.in-Some-taking.is in
    called_value _ no_texts (reference_spelling (variable c.args.name.now)) c.args.out.now.items c.args.vars.now c.args.fns.now _ (referred_function c.args.name.now c.args.vars.now c.args.fns.now some) _ _ c.in-Some-taking.function [] c.args.fns.now which (goes-nothing _ _)
    _ None c.value.new.fns c.append_variable-in-Ok-None.new.out.items c.append_variable-in-Ok-None.result (rw c.in-Ok-None.field-0-is at c.in-Ok-None.ensures.ok) c.append_variable-in-Ok-None.ensures.grown

pub returns-in-Err-clause-came : goal.returns-in-Err-clause-came
returns-in-Err-clause-came g c =
    let named : c.function_of_name-named.result ≡ function_of_name c.args.name.now = c.function_of_name-named.ensures ∙ ap function_of_name c.bytes.ensures in
    let some : is_some (function_of_name c.args.name.now) ≡ true = ap is_some (sym named) ∙ c.is_none.ensures ∙ ap not c.if-is_none.false in
    let which : option_and_then (taking 0) (function_of_name c.args.name.now) ≡ Some c.in-Some-taking.function = ap (option_and_then (taking 0)) (sym named) ∙ sym c.taking.ensures ∙ c.in-Some-taking.is in
    called_cut _ no_texts (reference_spelling (variable c.args.name.now)) c.args.out.now.items c.args.vars.now c.args.fns.now _ (referred_function c.args.name.now c.args.vars.now c.args.fns.now some) _ _ c.in-Some-taking.function [] c.args.fns.now which (goes-nothing _ _)
    _ _ c.in-Err.ensures.cut

pub returns-in-None-taking-clause-came : goal.returns-in-None-taking-clause-came
returns-in-None-taking-clause-came g c =
    let named : c.function_of_name-named.result ≡ function_of_name c.args.name.now = c.function_of_name-named.ensures ∙ ap function_of_name c.bytes.ensures in
    let some : is_some (function_of_name c.args.name.now) ≡ true = ap is_some (sym named) ∙ c.is_none.ensures ∙ ap not c.if-is_none.false in
    let which : option_and_then (taking 0) (function_of_name c.args.name.now) ≡ None = ap (option_and_then (taking 0)) (sym named) ∙ sym c.taking.ensures ∙ c.in-None-taking.is in
    called_none _ no_texts (reference_spelling (variable c.args.name.now)) c.args.out.now.items c.args.vars.now c.args.fns.now _ (referred_function c.args.name.now c.args.vars.now c.args.fns.now some) _ c.append_variable-in-None-taking.new.out.items c.append_variable-in-None-taking.result which c.append_variable-in-None-taking.ensures.grown

pub returns-in-Some-clause-later : goal.returns-in-Some-clause-later
returns-in-Some-clause-later g c = later_same _

pub returns-in-None-clause-later : goal.returns-in-None-clause-later
returns-in-None-clause-later g c = later_same _

pub returns-in-None-taking-clause-later : goal.returns-in-None-taking-clause-later
returns-in-None-taking-clause-later g c = later_same _

pub returns-in-Some-clause-stops : goal.returns-in-Some-clause-stops
returns-in-Some-clause-stops g c = reference_stops _ _ _ _

pub returns-in-None-clause-stops : goal.returns-in-None-clause-stops
returns-in-None-clause-stops g c = reference_stops _ _ _ _

pub returns-in-Ok-Some-clause-stops : goal.returns-in-Ok-Some-clause-stops
returns-in-Ok-Some-clause-stops g c =
    let named : c.function_of_name-named.result ≡ function_of_name c.args.name.now = c.function_of_name-named.ensures ∙ ap function_of_name c.bytes.ensures in
    let which : option_and_then (taking 0) (function_of_name c.args.name.now) ≡ Some c.in-Some-taking.function = ap (option_and_then (taking 0)) (sym named) ∙ sym c.taking.ensures ∙ c.in-Some-taking.is in
    out_of_memory _ (named_stops c.args.name.now c.args.vars.now _ _ c.in-Some-taking.function which (inr (Some (value_bytes c.in-Ok-Some.value), rw c.in-Ok-Some.field-0-is at c.in-Ok-Some.ensures.ok)))

pub returns-in-Ok-None-clause-stops : goal.returns-in-Ok-None-clause-stops
returns-in-Ok-None-clause-stops g c =
    let named : c.function_of_name-named.result ≡ function_of_name c.args.name.now = c.function_of_name-named.ensures ∙ ap function_of_name c.bytes.ensures in
    let which : option_and_then (taking 0) (function_of_name c.args.name.now) ≡ Some c.in-Some-taking.function = ap (option_and_then (taking 0)) (sym named) ∙ sym c.taking.ensures ∙ c.in-Some-taking.is in
    out_of_memory _ (named_stops c.args.name.now c.args.vars.now _ _ c.in-Some-taking.function which (inr (None, rw c.in-Ok-None.field-0-is at c.in-Ok-None.ensures.ok)))

pub returns-in-Err-clause-stops : goal.returns-in-Err-clause-stops
returns-in-Err-clause-stops g c =
    let named : c.function_of_name-named.result ≡ function_of_name c.args.name.now = c.function_of_name-named.ensures ∙ ap function_of_name c.bytes.ensures in
    let which : option_and_then (taking 0) (function_of_name c.args.name.now) ≡ Some c.in-Some-taking.function = ap (option_and_then (taking 0)) (sym named) ∙ sym c.taking.ensures ∙ c.in-Some-taking.is in
    named_stops c.args.name.now c.args.vars.now _ _ c.in-Some-taking.function which (inl (c.in-Err.ensures.left, c.in-Err.ensures.cut))

pub returns-in-None-taking-clause-stops : goal.returns-in-None-taking-clause-stops
returns-in-None-taking-clause-stops g c = reference_stops _ _ _ _
