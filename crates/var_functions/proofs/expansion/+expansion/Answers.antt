-- What stands in a template weighs less than it, and what a piece or an argument has come to.
use Rattle.std.proofs.Common.{◌≡◌, ◌≤◌, ◌++◌, [], ◌∷◌, length, get_or, drop, Some, None, Err, Ok, sym, ap, ◌∙◌, subst, arith, inl, inr}
use Rattle.std.specs.Option.{option_and_then}
use Rattle.std.proofs.lemmas.List.{drop_all}
use Rattle.std.proofs.lemmas.List.Elements.{All-push}
use Rattle.jm_base.proofs.RunLaws.{goes-nothing}
use Rattle.template_text.specs.Pieces.{call, reference_spelling}
use Rattle.template_text.specs.View.{pieces_of, arguments_of, weight, arguments_weight}
use Rattle.template_text.proofs.Written.{argument_weight}
use Rattle.thread_vars.specs.Vars.{most_text}
use Rattle.var_functions.specs.Functions.{function_named}
use Rattle.var_functions.specs.Came.{by_memory}
use Rattle.var_functions.specs.Texts.{value_bytes}
use Rattle.var_functions.specs.Expansion.{taking, count, after_texts, Grows}
use Rattle.var_functions.proofs.LaterLaws.{later_same, later_then}
use Rattle.var_functions.proofs.Expanding.{grows-came, one_piece, no_piece, one_argument, no_argument, names_function, referred_call, called_none, called_refused, called_value, called_cut, piece_weight, weight-positive}
use Rattle.var_functions.proofs.StopLaws.{out_of_memory, lifted, reference_stops, stops_in_piece, stops_past_piece, texts_before, stops_in_argument, stops_past_argument, arguments_stop, call_stops}
use Rattle.var_functions.proofs.expansion.+expansion.Goals as goal

pub argument_texts-loop-argument-init : goal.argument_texts-loop-argument-init
argument_texts-loop-argument-init g t c = record {
  short = rw c.new-texts.ensures.items (λ k d h. absurd (omega (arith, h)));
  goes = rw c.new-texts.ensures.items (goes-nothing _ _);
  later = later_same _;
  stops = λ to h. h;
}

pub argument_texts-argument_text-requires : goal.argument_texts-argument_text-requires
argument_texts-argument_text-requires g t c =
    let below : weight (get_or c.args.args.now c.loop-argument.argument-index c.argument-item.result) ≤ arguments_weight (arguments_of c.args.args.now) =
    argument_weight c.args.args.now c.loop-argument.argument-index c.argument-item.result c.loop-argument-test.true in
    let same : weight c.argument-item.result ≡ weight (get_or c.args.args.now c.loop-argument.argument-index c.argument-item.result) = ap weight c.argument-item.is in
    λ κs h. (omega (arith, below, same, c.decreases), λ a m. h a m)

pub argument_texts-returns-in-Err-clause-came : goal.argument_texts-returns-in-Err-clause-came
argument_texts-returns-in-Err-clause-came g t c =
    one_argument _ _ _ _ c.loop-argument.texts.items c.args.vars.now c.args.args.now c.loop-argument.fns c.argument_text.new.fns c.loop-argument.argument-index c.argument-item.result (Err c.in-Err.error)
    c.loop-argument-test.true c.argument-item.is c.loop-argument.invariant.goes c.in-Err.ensures.came

pub argument_texts-returns-in_default-clause-came : goal.argument_texts-returns-in_default-clause-came
argument_texts-returns-in_default-clause-came g t c =
    by_memory (
      _,
      one_argument _ _ _ _ c.loop-argument.texts.items c.args.vars.now c.args.args.now c.loop-argument.fns c.argument_text.new.fns c.loop-argument.argument-index c.argument-item.result (Ok c.in-Ok.text)
          c.loop-argument-test.true c.argument-item.is c.loop-argument.invariant.goes c.in-Ok.ensures.came,
    )

pub argument_texts-loop-argument-preserved : goal.argument_texts-loop-argument-preserved
argument_texts-loop-argument-preserved g t c =
    let items : c.push.new.self.items ≡ c.loop-argument.texts.items ++ c.in-Ok.text ∷ [] = c.in-Ok-push.ensures.ok in
    record {
      short = rw items (All-push (λ t. length t ≤ most_text) c.loop-argument.texts.items c.in-Ok.text c.loop-argument.invariant.short c.in-Ok.ensures.short);
      goes = rw items (one_argument _ _ _ _ c.loop-argument.texts.items c.args.vars.now c.args.args.now c.loop-argument.fns c.argument_text.new.fns c.loop-argument.argument-index c.argument-item.result (Ok c.in-Ok.text)
          c.loop-argument-test.true c.argument-item.is c.loop-argument.invariant.goes c.in-Ok.ensures.came);
      later = later_then _ _ _ c.loop-argument.invariant.later c.argument_text.ensures.later;
      stops = λ to h. c.loop-argument.invariant.stops to (stops_past_argument c.args.vars.now c.args.args.now c.loop-argument.argument-index c.argument-item.result c.loop-argument-test.true c.argument-item.is
          c.in-Ok.text _ _ to c.in-Ok.ensures.came h);
    }

pub argument_texts-returns-clause-came : goal.argument_texts-returns-clause-came
argument_texts-returns-clause-came g t c =
    no_argument _ _ _ c.loop-argument.texts.items c.args.vars.now (drop c.loop-argument.argument-index c.args.args.now) c.loop-argument.fns (drop_all c.loop-argument.argument-index c.args.args.now c.loop-argument-test.false) c.loop-argument.invariant.goes

pub write_called-returns-in_default-clause-came : goal.write_called-returns-in_default-clause-came
write_called-returns-in_default-clause-came g t c =
    let which : option_and_then (taking (count (arguments_of c.args.args.now))) (function_named c.args.name.now) ≡ c.taking.result =
    names_function c.args.name.now _ c.args.args.now _ _ c.bytes.ensures c.function_named.ensures c.taking.ensures in
    called_none _ (after_texts (arguments_of c.args.args.now) c.args.vars.now []) (reference_spelling (call c.args.name.now (arguments_of c.args.args.now))) c.args.out.now.items c.args.vars.now c.args.fns.now _
    (referred_call c.args.name.now (arguments_of c.args.args.now) c.args.vars.now c.args.fns.now) _ c.append_call.new.out.items c.append_call.result (which ∙ c.in_default.is) c.append_call.ensures.grown

pub write_called-returns-in-Ok-Some-clause-came : goal.write_called-returns-in-Ok-Some-clause-came
write_called-returns-in-Ok-Some-clause-came g t c =
    let which : option_and_then (taking (count (arguments_of c.args.args.now))) (function_named c.args.name.now) ≡ c.taking.result =
    names_function c.args.name.now _ c.args.args.now _ _ c.bytes.ensures c.function_named.ensures c.taking.ensures in
    called_value _ (after_texts (arguments_of c.args.args.now) c.args.vars.now []) (reference_spelling (call c.args.name.now (arguments_of c.args.args.now))) c.args.out.now.items c.args.vars.now c.args.fns.now _
    (referred_call c.args.name.now (arguments_of c.args.args.now) c.args.vars.now c.args.fns.now) _ _ c.in-Some.function c.in-Ok.texts.items c.argument_texts.new.fns (which ∙ c.in-Some.is) c.in-Ok.ensures.came
    _ (Some (value_bytes c.in-Ok-Some.value)) c.value.new.fns c.append_value.new.out.items c.append_value.result (rw (c.as_slice.ensures, c.in-Ok-Some.field-0-is) at c.in-Ok-Some.ensures.ok) c.append_value.ensures.grown

pub write_called-returns-in-Ok-None-clause-came : goal.write_called-returns-in-Ok-None-clause-came
write_called-returns-in-Ok-None-clause-came g t c =
    let which : option_and_then (taking (count (arguments_of c.args.args.now))) (function_named c.args.name.now) ≡ c.taking.result =
    names_function c.args.name.now _ c.args.args.now _ _ c.bytes.ensures c.function_named.ensures c.taking.ensures in
    called_value _ (after_texts (arguments_of c.args.args.now) c.args.vars.now []) (reference_spelling (call c.args.name.now (arguments_of c.args.args.now))) c.args.out.now.items c.args.vars.now c.args.fns.now _
    (referred_call c.args.name.now (arguments_of c.args.args.now) c.args.vars.now c.args.fns.now) _ _ c.in-Some.function c.in-Ok.texts.items c.argument_texts.new.fns (which ∙ c.in-Some.is) c.in-Ok.ensures.came
    _ None c.value.new.fns c.append_call-in-Ok-None.new.out.items c.append_call-in-Ok-None.result (rw (c.as_slice.ensures, c.in-Ok-None.field-0-is) at c.in-Ok-None.ensures.ok) c.append_call-in-Ok-None.ensures.grown

pub write_called-returns-in-Ok-clause-came : goal.write_called-returns-in-Ok-clause-came
write_called-returns-in-Ok-clause-came g t c =
    let which : option_and_then (taking (count (arguments_of c.args.args.now))) (function_named c.args.name.now) ≡ c.taking.result =
    names_function c.args.name.now _ c.args.args.now _ _ c.bytes.ensures c.function_named.ensures c.taking.ensures in
    called_cut _ (after_texts (arguments_of c.args.args.now) c.args.vars.now []) (reference_spelling (call c.args.name.now (arguments_of c.args.args.now))) c.args.out.now.items c.args.vars.now c.args.fns.now _
    (referred_call c.args.name.now (arguments_of c.args.args.now) c.args.vars.now c.args.fns.now) _ _ c.in-Some.function c.in-Ok.texts.items c.argument_texts.new.fns (which ∙ c.in-Some.is) c.in-Ok.ensures.came
    _ _ (rw c.as_slice.ensures at c.in-Err-value.ensures.cut)

pub write_called-returns-clause-came : goal.write_called-returns-clause-came
write_called-returns-clause-came g t c =
    let which : option_and_then (taking (count (arguments_of c.args.args.now))) (function_named c.args.name.now) ≡ c.taking.result =
    names_function c.args.name.now _ c.args.args.now _ _ c.bytes.ensures c.function_named.ensures c.taking.ensures in
    called_refused _ (after_texts (arguments_of c.args.args.now) c.args.vars.now []) (reference_spelling (call c.args.name.now (arguments_of c.args.args.now))) c.args.out.now.items c.args.vars.now c.args.fns.now _
    (referred_call c.args.name.now (arguments_of c.args.args.now) c.args.vars.now c.args.fns.now) _ _ c.in-Some.function c.argument_texts.new.fns c.in-Err.error (which ∙ c.in-Some.is) c.in-Err.ensures.came

pub write_piece-returns-in-Text-clause-came : goal.write_piece-returns-in-Text-clause-came
write_piece-returns-in-Text-clause-came g t c =
    rw c.in-Text.is (grows-came _ (c.args.out.now.items ++ c.in-Text.text) c.append.new.out.items c.args.fns.now c.append.result
    (subst (λ t. Grows (c.args.out.now.items ++ t) c.append.new.out.items c.append.result) c.bytes.ensures c.append.ensures.grown))

pub write_pieces-loop-piece-init : goal.write_pieces-loop-piece-init
write_pieces-loop-piece-init g t c =
    let all : pieces_of c.deref-piece-items.result.now ≡ c.args.template.now = ap pieces_of c.deref-piece-items.ensures.value ∙ c.template.view_is in
    record {
      all = all;
      short = c.requires;
      goes = rw all (goes-nothing _ _);
      later = later_same _;
      stops = rw all (λ to h. h);
    }

pub write_pieces-write_piece-requires : goal.write_pieces-write_piece-requires
write_pieces-write_piece-requires g t c =
    let below : weight (pieces_of (c.piece-item.result ∷ [])) ≤ weight (pieces_of c.deref-piece-items.result.now) =
    piece_weight c.deref-piece-items.result.now c.loop-piece.piece-index c.piece-item.result c.loop-piece-test.true (sym c.piece-item.is) in
    let same : weight (pieces_of c.deref-piece-items.result.now) ≡ weight c.args.template.now = ap weight c.loop-piece.invariant.all in
    λ κs h. (omega (arith, below, same, c.decreases, weight-positive (c.piece-item.result ∷ [])), λ a m. h a m)

pub write_pieces-returns-in-Err-clause-came : goal.write_pieces-returns-in-Err-clause-came
write_pieces-returns-in-Err-clause-came g t c =
    one_piece _ _ _ _ c.loop-piece.out.items c.write_piece.new.out.items c.args.vars.now c.deref-piece-items.result.now c.loop-piece.fns c.write_piece.new.fns c.loop-piece.piece-index c.piece-item.result (Err c.in-Err.error)
    c.loop-piece-test.true c.piece-item.is c.loop-piece.invariant.goes c.in-Err.ensures.came

pub write_pieces-loop-piece-preserved : goal.write_pieces-loop-piece-preserved
write_pieces-loop-piece-preserved g t c = record {
  all = c.loop-piece.invariant.all;
  short = c.in_default.ensures.short;
  goes = one_piece _ _ _ _ c.loop-piece.out.items c.write_piece.new.out.items c.args.vars.now c.deref-piece-items.result.now c.loop-piece.fns c.write_piece.new.fns c.loop-piece.piece-index c.piece-item.result (Ok tt)
      c.loop-piece-test.true c.piece-item.is c.loop-piece.invariant.goes c.in_default.ensures.came;
  later = later_then _ _ _ c.loop-piece.invariant.later c.write_piece.ensures.later;
  stops = λ to h. c.loop-piece.invariant.stops to (stops_past_piece c.args.vars.now c.loop-piece.out.items c.deref-piece-items.result.now c.loop-piece.piece-index c.piece-item.result c.loop-piece-test.true c.piece-item.is
      c.write_piece.new.out.items _ _ to c.in_default.ensures.came h);
}

pub write_pieces-returns-clause-came : goal.write_pieces-returns-clause-came
write_pieces-returns-clause-came g t c =
    no_piece _ _ _ c.loop-piece.out.items c.args.vars.now (drop c.loop-piece.piece-index c.deref-piece-items.result.now) c.loop-piece.fns (drop_all c.loop-piece.piece-index c.deref-piece-items.result.now c.loop-piece-test.false) c.loop-piece.invariant.goes

pub argument_texts-returns-in-Err-clause-later : goal.argument_texts-returns-in-Err-clause-later
argument_texts-returns-in-Err-clause-later g t c =
    later_then _ _ _ c.loop-argument.invariant.later c.argument_text.ensures.later

pub argument_texts-returns-in_default-clause-later : goal.argument_texts-returns-in_default-clause-later
argument_texts-returns-in_default-clause-later g t c =
    later_then _ _ _ c.loop-argument.invariant.later c.argument_text.ensures.later

pub argument_text-returns-in-Some-clause-came : goal.argument_text-returns-in-Some-clause-came
argument_text-returns-in-Some-clause-came g t c = rw (c.lent.ensures, c.in-Some.ensures.text c.args.fns.now) (goes-nothing _ _)

pub argument_text-returns-in-Some-clause-later : goal.argument_text-returns-in-Some-clause-later
argument_text-returns-in-Some-clause-later g t c = later_same _

pub argument_text-write_pieces-requires : goal.argument_text-write_pieces-requires
argument_text-write_pieces-requires g t c =
    λ κs h. (omega (arith, c.decreases), (λ a m. h a m, rw c.text_for-text.ensures (omega arith)))

pub write_called-returns-in_default-clause-later : goal.write_called-returns-in_default-clause-later
write_called-returns-in_default-clause-later g t c = later_same _

pub write_called-returns-in-Ok-Some-clause-later : goal.write_called-returns-in-Ok-Some-clause-later
write_called-returns-in-Ok-Some-clause-later g t c =
    later_then _ _ _ c.argument_texts.ensures.later c.value.ensures.later

pub write_called-returns-in-Ok-None-clause-later : goal.write_called-returns-in-Ok-None-clause-later
write_called-returns-in-Ok-None-clause-later g t c =
    later_then _ _ _ c.argument_texts.ensures.later c.value.ensures.later

pub write_called-returns-in-Ok-clause-later : goal.write_called-returns-in-Ok-clause-later
write_called-returns-in-Ok-clause-later g t c =
    later_then _ _ _ c.argument_texts.ensures.later c.value.ensures.later

pub write_piece-returns-in-Text-clause-later : goal.write_piece-returns-in-Text-clause-later
write_piece-returns-in-Text-clause-later g t c = later_same _

pub write_pieces-returns-in-Err-clause-later : goal.write_pieces-returns-in-Err-clause-later
write_pieces-returns-in-Err-clause-later g t c =
    later_then _ _ _ c.loop-piece.invariant.later c.write_piece.ensures.later

pub argument_texts-returns-in-Err-clause-stops : goal.argument_texts-returns-in-Err-clause-stops
argument_texts-returns-in-Err-clause-stops g t c =
    lifted c.in-Err.error (λ h. c.loop-argument.invariant.stops _ (stops_in_argument c.args.vars.now c.args.args.now c.loop-argument.argument-index c.argument-item.result c.loop-argument-test.true c.argument-item.is _ _ h))
    c.in-Err.ensures.stops

pub argument_texts-returns-in_default-clause-stops : goal.argument_texts-returns-in_default-clause-stops
argument_texts-returns-in_default-clause-stops g t c =
    c.loop-argument.invariant.stops _ (stops_past_argument c.args.vars.now c.args.args.now c.loop-argument.argument-index c.argument-item.result c.loop-argument-test.true c.argument-item.is
    c.in-Ok.text _ _ _ c.in-Ok.ensures.came (texts_before _ _ _))

pub write_called-returns-in_default-clause-stops : goal.write_called-returns-in_default-clause-stops
write_called-returns-in_default-clause-stops g t c = reference_stops _ _ _ _

pub write_called-returns-in-Ok-Some-clause-stops : goal.write_called-returns-in-Ok-Some-clause-stops
write_called-returns-in-Ok-Some-clause-stops g t c =
    let which : option_and_then (taking (count (arguments_of c.args.args.now))) (function_named c.args.name.now) ≡ c.taking.result =
    names_function c.args.name.now _ c.args.args.now _ _ c.bytes.ensures c.function_named.ensures c.taking.ensures in
    out_of_memory _ (call_stops c.args.name.now (arguments_of c.args.args.now) c.args.vars.now _ _ c.in-Some.function (which ∙ c.in-Some.is) c.in-Ok.texts.items _ c.in-Ok.ensures.came
    (inr (Some (value_bytes c.in-Ok-Some.value), rw (c.as_slice.ensures, c.in-Ok-Some.field-0-is) at c.in-Ok-Some.ensures.ok)))

pub write_called-returns-in-Ok-None-clause-stops : goal.write_called-returns-in-Ok-None-clause-stops
write_called-returns-in-Ok-None-clause-stops g t c =
    let which : option_and_then (taking (count (arguments_of c.args.args.now))) (function_named c.args.name.now) ≡ c.taking.result =
    names_function c.args.name.now _ c.args.args.now _ _ c.bytes.ensures c.function_named.ensures c.taking.ensures in
    out_of_memory _ (call_stops c.args.name.now (arguments_of c.args.args.now) c.args.vars.now _ _ c.in-Some.function (which ∙ c.in-Some.is) c.in-Ok.texts.items _ c.in-Ok.ensures.came
    (inr (None, rw (c.as_slice.ensures, c.in-Ok-None.field-0-is) at c.in-Ok-None.ensures.ok)))

pub write_called-returns-in-Ok-clause-stops : goal.write_called-returns-in-Ok-clause-stops
write_called-returns-in-Ok-clause-stops g t c =
    let which : option_and_then (taking (count (arguments_of c.args.args.now))) (function_named c.args.name.now) ≡ c.taking.result =
    names_function c.args.name.now _ c.args.args.now _ _ c.bytes.ensures c.function_named.ensures c.taking.ensures in
    call_stops c.args.name.now (arguments_of c.args.args.now) c.args.vars.now _ _ c.in-Some.function (which ∙ c.in-Some.is) c.in-Ok.texts.items _ c.in-Ok.ensures.came
    (inl (c.in-Err-value.ensures.left, rw c.as_slice.ensures at c.in-Err-value.ensures.cut))

pub write_called-returns-clause-stops : goal.write_called-returns-clause-stops
write_called-returns-clause-stops g t c =
    let which : option_and_then (taking (count (arguments_of c.args.args.now))) (function_named c.args.name.now) ≡ c.taking.result =
    names_function c.args.name.now _ c.args.args.now _ _ c.bytes.ensures c.function_named.ensures c.taking.ensures in
    lifted c.in-Err.error (arguments_stop c.args.name.now (arguments_of c.args.args.now) c.args.vars.now _ _ c.in-Some.function (which ∙ c.in-Some.is)) c.in-Err.ensures.stops

pub write_pieces-returns-in-Err-clause-stops : goal.write_pieces-returns-in-Err-clause-stops
write_pieces-returns-in-Err-clause-stops g t c =
    lifted c.in-Err.error (λ h. c.loop-piece.invariant.stops _ (stops_in_piece c.args.vars.now c.loop-piece.out.items c.deref-piece-items.result.now c.loop-piece.piece-index c.piece-item.result c.loop-piece-test.true c.piece-item.is _ _ h))
    c.in-Err.ensures.stops
