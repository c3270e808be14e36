-- What follows `${` is a name and what ends it.
use Rattle.std.proofs.Common.{◌≡◌, ◌+◌, ◌-◌, ℕ, List, length, take, drop, option_map, sym, ◌∙◌, ap, arith, subst, length-drop}
use Rattle.std.proofs.lemmas.List.{drop-drop}
use Rattle.template_text.specs.Scan.{shape, AreFound, named, table, name_length}
use Rattle.template_text.proofs.Table.{found_drop, found_length-same}
use Rattle.template_text.proofs.Firsts.{first_not_opens, first_opened, opens_length}
use Rattle.template_text.proofs.scan.first.Goals as goal

pub returns-then-not-opens : goal.returns-then-not-opens
returns-then-not-opens c = ap (option_map shape) (sym (first_not_opens c.args.text.now (sym c.if-not-opens.ensures)))

pub after-requires : goal.after-requires
after-requires c =
    let places : length c.args.found.now ≡ length (drop 1 c.args.text.now) = found_length-same (drop 1 c.args.text.now) c.args.found.now c.requires in
    let long : length c.after-inside.result.now ≡ length c.args.text.now - 2 = ap length c.after-inside.ensures ∙ length-drop 2 c.args.text.now in
    omega (arith, length-drop 1 c.args.text.now, opens_length c.args.text.now (sym c.if-not-opens.ensures), c.split_at.ensures.front_len, c.name_length.ensures.within)

pub ended-requires-clause-places : goal.ended-requires-clause-places
ended-requires-clause-places c =
    let inside : List ℕ = c.after-inside.result.now in
    let n : ℕ = c.name_length.result in
    let k : length c.split_at.result.0.now + 1 ≡ n + 1 = omega (arith, c.split_at.ensures.front_len) in
    let text : drop (n + 1) (drop 1 c.args.text.now) ≡ c.split_at.result.1.now =
    drop-drop (n + 1) 1 c.args.text.now ∙ (ap (λ m. drop m c.args.text.now) (omega arith)
    ∙ (sym (drop-drop n 2 c.args.text.now) ∙ (ap (drop n) (sym c.after-inside.ensures) ∙ sym c.split_at.ensures.back))) in
    let found : drop (n + 1) c.args.found.now ≡ c.after.result.now = ap (λ m. drop m c.args.found.now) (sym k) ∙ sym c.after.ensures in
    subst (λ w. AreFound w c.after.result.now) text (subst (λ w. AreFound (drop (n + 1) (drop 1 c.args.text.now)) w) found (found_drop (n + 1) (drop 1 c.args.text.now) c.args.found.now c.requires))

pub returns : goal.returns
returns c =
    let inside : List ℕ = c.after-inside.result.now in
    let n : ℕ = c.name_length.result in
    let name : c.split_at.result.0.now ≡ take (name_length inside) inside = c.split_at.ensures.front ∙ ap (λ m. take m inside) c.name_length.ensures.length in
    let rest : c.split_at.result.1.now ≡ drop (name_length inside) inside = c.split_at.ensures.back ∙ ap (λ m. drop m inside) c.name_length.ensures.length in
    c.ended.ensures ∙ ap (option_map shape) (ap (λ w. named w c.split_at.result.1.now (table c.split_at.result.1.now)) name
    ∙ (ap (λ w. named (take (name_length inside) inside) w (table w)) rest
    ∙ (ap (λ w. named (take (name_length w) w) (drop (name_length w) w) (table (drop (name_length w) w))) c.after-inside.ensures
    ∙ sym (first_opened c.args.text.now (sym c.if-not-opens.ensures)))))
