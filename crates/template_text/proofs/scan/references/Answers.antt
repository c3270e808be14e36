-- Each round finds what begins one place further to the left.
use Rattle.std.proofs.Common.{◌≡◌, ◌+◌, ◌-◌, ℕ, suc, length, drop, option_map, sym, ◌∙◌, ap, subst, arith}
use Rattle.std.proofs.lemmas.List.{drop-drop}
use Rattle.std.proofs.Math.ListN.{length-set}
use Rattle.template_text.specs.Scan.{AreFound, shape, first_at}
use Rattle.template_text.proofs.Firsts.{place_more, place_none}
use Rattle.template_text.proofs.scan.references.Goals as goal

pub loop-at-init : goal.loop-at-init
loop-at-init c =
    let long : length c.in_ok-found.found.items ≡ length c.args.text.now = omega (arith, c.in_ok-found.ensures.len, c.in_ok-found.found.ok) in
    (omega arith, long, place_none c.args.text.now c.in_ok-found.found.items long)

pub first-reference-requires : goal.first-reference-requires
first-reference-requires c =
    let at : ℕ = c.loop-at.at in
    let text : drop at c.args.text.now ≡ drop 1 c.after.result.now =
    ap (λ m. drop m c.args.text.now) (omega arith) ∙ (sym (drop-drop 1 (at - 1) c.args.text.now) ∙ ap (drop 1) (sym c.after.ensures)) in
    let found : drop at c.loop-at.found.items ≡ c.after-in-loop-at.result.now =
    ap (λ m. drop m c.loop-at.found.items) (omega arith) ∙ (ap (drop (at - 1 + 1)) (sym c.deref.ensures.value) ∙ sym c.after-in-loop-at.ensures) in
    subst (λ w. AreFound w c.after-in-loop-at.result.now) text (subst (λ w. AreFound (drop at c.args.text.now) w) found c.loop-at.invariant.2)

pub loop-at-preserved : goal.loop-at-preserved
loop-at-preserved c =
    let at : ℕ = c.loop-at.at in
    let next : suc (at - 1) ≡ at = omega arith in
    let here : AreFound (drop (suc (at - 1)) c.args.text.now) (drop (suc (at - 1)) c.loop-at.found.items) =
    subst (λ m. AreFound (drop m c.args.text.now) (drop m c.loop-at.found.items)) (sym next) c.loop-at.invariant.2 in
    let result : c.first-reference.result ≡ option_map shape (first_at (drop (at - 1) c.args.text.now)) =
    c.first-reference.ensures ∙ ap (λ w. option_map shape (first_at w)) c.after.ensures in (
      omega arith,
      length-set c.loop-at.found.items (at - 1) c.first-reference.result ∙ c.loop-at.invariant.1,
      place_more c.args.text.now c.loop-at.found.items (at - 1) c.first-reference.result (omega arith) c.loop-at.invariant.1 here result,
    )
