-- The builders are given what stands in the text.
use Rattle.std.proofs.Common.{◌≡◌, ◌<◌, ◌+◌, ◌-◌, ℕ, List, length, take, drop, option_map, Some, IsSome, sym, ◌∙◌, ap, subst, arith, length-drop}
use Rattle.template_text.specs.Pieces.{Reference, variable, call, no_more, Arguments, no_arguments, argument}
use Rattle.template_text.specs.Scan.{AreFound, shape, normal, first_at, arguments_at, token_of, put}
use Rattle.template_text.specs.View.{arguments_of}
use Rattle.template_text.specs.Builders.{joined_arguments}
use Rattle.template_text.proofs.Table.{found_here, found_drop, found_length-same, nothing_here, something_here}
use Rattle.template_text.proofs.Building.{build_start, build_token, put_reference, put_token, some_inside, some_left, if_ok, build_finished, close_normal, other_normal, VariableThere, variable_there, CallThere, call_there}
use Rattle.template_text.proofs.build.+build.Goals as goal
use Rattle.template_text.proofs.build.+build.Goals.{arguments-in-None+in_ok-token-in-None, arguments-in-Some+in_ok-reference-in-Some+in_ok-reference-in-Some-2}

pub arguments-loop-by-init : goal.arguments-loop-by-init
arguments-loop-by-init t c = (omega arith, omega arith, build_start c.args.text.now c.new-arguments.result c.new-arguments.ensures)

pub arguments-after-requires-in-loop-by : goal.arguments-after-requires-in-loop-by
arguments-after-requires-in-loop-by t c = omega (arith, found_length-same c.args.text.now c.args.found.now c.requires.places)

pub arguments-next_step-requires-clause-some : goal.arguments-next_step-requires-clause-some
arguments-next_step-requires-clause-some t c =
    some_inside c.after.result.now c.loop-by.unclosed (some_left c.args.text.now c.after.result.now c.loop-by.at c.loop-by.unclosed c.loop-by.arguments c.after.ensures c.requires.some c.loop-by.invariant.2)

pub arguments-next_step-requires-clause-places : goal.arguments-next_step-requires-clause-places
arguments-next_step-requires-clause-places t c = rw (c.after.ensures, c.after-in-loop-by.ensures) (found_drop c.loop-by.at c.args.text.now c.args.found.now c.requires.places)

pub arguments-after-places-requires : goal.arguments-after-places-requires
arguments-after-places-requires t c = omega (arith, found_length-same c.args.text.now c.args.found.now c.requires.places)

pub arguments-first_found-requires : goal.arguments-first_found-requires
arguments-first_found-requires t c =
    let some : 0 < length c.after.result.now = some_inside c.after.result.now c.loop-by.unclosed (some_left c.args.text.now c.after.result.now c.loop-by.at c.loop-by.unclosed c.loop-by.arguments c.after.ensures c.requires.some c.loop-by.invariant.2) in
    let same : length c.args.found.now ≡ length c.args.text.now = found_length-same c.args.text.now c.args.found.now c.requires.places in
    omega (arith, some, same, ap length c.after.ensures, ap length c.after-places.ensures, length-drop c.loop-by.at c.args.text.now, length-drop c.loop-by.at c.args.found.now)

pub arguments-piece-requires : goal.arguments-piece-requires
arguments-piece-requires t c =
    let rest : c.after-rest.result.now ≡ c.after.result.now = c.after-rest.ensures ∙ sym c.after.ensures in
    let some : 0 < length c.after-rest.result.now = subst (λ w. 0 < length w) (sym rest)
    (some_inside c.after.result.now c.loop-by.unclosed (some_left c.args.text.now c.after.result.now c.loop-by.at c.loop-by.unclosed c.loop-by.arguments c.after.ensures c.requires.some c.loop-by.invariant.2)) in
    let places : AreFound c.after-rest.result.now c.after-places.result.now = rw (c.after-rest.ensures, c.after-places.ensures) (found_drop c.loop-by.at c.args.text.now c.args.found.now c.requires.places) in (
      omega (arith, ap length c.after-rest.ensures, length-drop c.loop-by.at c.args.text.now, c.decreases),
      (places, found_here c.after-rest.result.now c.after-places.result.now _ places some (sym c.first_found.ensures ∙ c.in-Some.is)),
    )

pub arguments-loop-by-preserved : goal.arguments-loop-by-preserved
arguments-loop-by-preserved t c =
    let text : List ℕ = c.args.text.now in
    let rest : c.after-rest.result.now ≡ c.after.result.now = c.after-rest.ensures ∙ sym c.after.ensures in
    let some : 0 < length c.after.result.now =
    some_inside c.after.result.now c.loop-by.unclosed (some_left text c.after.result.now c.loop-by.at c.loop-by.unclosed c.loop-by.arguments c.after.ensures c.requires.some c.loop-by.invariant.2) in
    let places : AreFound c.after.result.now c.after-places.result.now = rw (c.after.ensures, c.after-places.ensures) (found_drop c.loop-by.at text c.args.found.now c.requires.places) in
    let here : option_map shape (first_at c.after.result.now) ≡ c.first_found.result = found_here c.after.result.now c.after-places.result.now _ places some (sym c.first_found.ensures) in
    let long : length c.after.result.now ≡ length text - c.loop-by.at = ap length c.after.ensures ∙ length-drop c.loop-by.at text in
    let same : (args : Arguments) → joined_arguments c.match-first_found.arguments args ≡ joined_arguments c.loop-by.arguments (put (token_of c.after.result.now) (first_at c.after.result.now) args) =
    elim c.match-first_found.branch [
      | arguments-in-None+in_ok-token-in-None w ↦ λ args.
          ap (λ b. joined_arguments b args) w.arguments-is
          ∙ (w.in_ok-token-in-None.ensures args
          ∙ ap (joined_arguments c.loop-by.arguments)
          (put_token c.after.result.now w.first_token.result args (w.first_token.ensures ∙ ap token_of rest) (nothing_here _ (here ∙ w.in-None.is))))
      | arguments-in-Some+in_ok-reference-in-Some+in_ok-reference-in-Some-2 w ↦ λ args.
          let p : (r : Reference) × ((first_at c.after.result.now ≡ Some r) × (shape r ≡ w.in-Some.first)) = something_here _ _ (here ∙ w.in-Some.is) in
          ap (λ b. joined_arguments b args) w.arguments-is
          ∙ (w.in_ok-reference-in-Some-2.ensures p.0 args (w.in_ok-reference-in-Some.ensures ∙ (ap first_at rest ∙ p.1.0))
          ∙ ap (joined_arguments c.loop-by.arguments) (put_reference c.after.result.now p.0 args p.1.0))
    ] in (
      omega (arith, long, c.in-Goes.ensures.on.1),
      omega (arith, c.in-Goes.ensures.on.2),
      build_token text c.after.result.now c.loop-by.arguments c.match-first_found.arguments c.loop-by.at c.loop-by.unclosed c.in-Goes.by c.in-Goes.then _
          c.after.ensures c.loop-by.invariant.2 some c.in-Goes.ensures.step c.in-Goes.ensures.on.0 same,
    )

pub arguments-returns : goal.arguments-returns
arguments-returns t c =
    let all : arguments_at c.args.text.now 0 ≡ Some (joined_arguments c.loop-by.arguments (argument no_more no_arguments)) =
    build_finished c.args.text.now c.after.result.now c.loop-by.at c.loop-by.unclosed c.loop-by.arguments c.next_step.result c.after.ensures c.requires.some c.loop-by.invariant.2 c.next_step.ensures.step c.in_default.not-Goes in
    if_ok _ _ c.finish.result (λ v h. all ∙ ap Some (sym h)) c.finish.ensures

pub piece-after-requires : goal.piece-after-requires
piece-after-requires t c = let v : VariableThere c.args.text.now c.in-Variable.length = variable_there c.args.text.now c.in-Variable.length (c.requires.here ∙ ap Some c.in-Variable.is) in omega (arith, v.long, v.within)

pub piece-split_at-requires : goal.piece-split_at-requires
piece-split_at-requires t c =
    let v : VariableThere c.args.text.now c.in-Variable.length = variable_there c.args.text.now c.in-Variable.length (c.requires.here ∙ ap Some c.in-Variable.is) in
    omega (arith, v.long, v.within, ap length c.after.ensures, length-drop 2 c.args.text.now)

pub piece-returns-in_ok-new-in-Variable : goal.piece-returns-in_ok-new-in-Variable
piece-returns-in_ok-new-in-Variable t c =
    let v : VariableThere c.args.text.now c.in-Variable.length = variable_there c.args.text.now c.in-Variable.length (c.requires.here ∙ ap Some c.in-Variable.is) in
    ap (λ n. Some (variable n)) (c.in_ok-new-in-Variable.ensures ∙ (c.split_at.ensures.front ∙ (ap (take (c.in-Variable.length - 3)) c.after.ensures ∙ v.there))) ∙ sym v.first

pub piece-after-requires-in-Call : goal.piece-after-requires-in-Call
piece-after-requires-in-Call t c =
    let v : CallThere c.args.text.now c.in-Call.length = call_there c.args.text.now c.in-Call.length c.in-Call.length' c.in-Call.depth (c.requires.here ∙ ap Some c.in-Call.is) in omega (arith, v.within)

pub piece-split_at-requires-in-Call : goal.piece-split_at-requires-in-Call
piece-split_at-requires-in-Call t c =
    let v : CallThere c.args.text.now c.in-Call.length = call_there c.args.text.now c.in-Call.length c.in-Call.length' c.in-Call.depth (c.requires.here ∙ ap Some c.in-Call.is) in
    omega (arith, v.within, ap length c.after-in-Call.ensures, length-drop 4 c.args.text.now)

pub piece-after-requires-in-Call-2 : goal.piece-after-requires-in-Call-2
piece-after-requires-in-Call-2 t c =
    let v : CallThere c.args.text.now c.in-Call.length = call_there c.args.text.now c.in-Call.length c.in-Call.length' c.in-Call.depth (c.requires.here ∙ ap Some c.in-Call.is) in v.within

pub piece-after-requires-in-Call-3 : goal.piece-after-requires-in-Call-3
piece-after-requires-in-Call-3 t c =
    let v : CallThere c.args.text.now c.in-Call.length = call_there c.args.text.now c.in-Call.length c.in-Call.length' c.in-Call.depth (c.requires.here ∙ ap Some c.in-Call.is) in
    omega (arith, v.within, found_length-same c.args.text.now c.args.found.now c.requires.places)

pub piece-call_arguments-requires : goal.piece-call_arguments-requires
piece-call_arguments-requires t c =
    let v : CallThere c.args.text.now c.in-Call.length = call_there c.args.text.now c.in-Call.length c.in-Call.length' c.in-Call.depth (c.requires.here ∙ ap Some c.in-Call.is) in
    let after : drop (c.in-Call.length + 5) c.args.text.now ≡ c.after-in-Call-2.result.now = sym c.after-in-Call-2.ensures in
    let places : drop (c.in-Call.length + 5) c.args.found.now ≡ c.after-in-Call-3.result.now = sym c.after-in-Call-3.ensures in (
      omega (arith, v.within, ap length after, length-drop (c.in-Call.length + 5) c.args.text.now, c.decreases),
      (
        subst (λ w. AreFound w c.after-in-Call-3.result.now) after (subst (λ w. AreFound (drop (c.in-Call.length + 5) c.args.text.now) w) places (found_drop (c.in-Call.length + 5) c.args.text.now c.args.found.now c.requires.places)),
        subst (λ w. IsSome (arguments_at w 0)) after v.some,
      ),
    )

pub piece-returns-in_ok-args-in-Call : goal.piece-returns-in_ok-args-in-Call
piece-returns-in_ok-args-in-Call t c =
    let v : CallThere c.args.text.now c.in-Call.length = call_there c.args.text.now c.in-Call.length c.in-Call.length' c.in-Call.depth (c.requires.here ∙ ap Some c.in-Call.is) in
    let name : c.in_ok-name-in-Call.name ≡ v.name = c.in_ok-name-in-Call.ensures ∙ (c.split_at-in-Call.ensures.front ∙ (ap (take c.in-Call.length) c.after-in-Call.ensures ∙ v.there)) in
    let args : Some (arguments_of c.in_ok-args-in-Call.args.items) ≡ Some v.args = sym c.in_ok-args-in-Call.ensures ∙ (ap (λ w. option_map normal (arguments_at w 0)) c.after-in-Call-2.ensures ∙ v.same) in
    ap (λ n. Some (call n (arguments_of c.in_ok-args-in-Call.args.items))) name ∙ (ap (λ o. option_map (call v.name) o) args ∙ sym v.first)

pub call_arguments-returns-in-Close : goal.call_arguments-returns-in-Close
call_arguments-returns-in-Close t c =
    close_normal c.args.text.now c.in-Close.ensures c.requires.some ∙ ap (λ w. Some (arguments_of w)) (sym c.new.ensures.items)

pub call_arguments-first_token-requires : goal.call_arguments-first_token-requires
call_arguments-first_token-requires t c = some_inside c.args.text.now 0 c.requires.some

pub call_arguments-returns-in_default : goal.call_arguments-returns-in_default
call_arguments-returns-in_default t c =
    if_ok _ _ c.arguments.result (λ v h. other_normal c.args.text.now (arguments_of v.items) (λ e. c.in_default.not-Close (c.first_token.ensures ∙ sym e)) h) c.arguments.ensures
