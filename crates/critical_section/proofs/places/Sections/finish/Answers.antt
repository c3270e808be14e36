use Rattle.std.proofs.Common.{rules, ◌≡◌, ◌<◌, sym, ap, ◌∙◌, ◌/◌, get_or, subst, arith}
use Rattle.std.specs.Slots.{slots_items, slots_len}
use Rattle.critical_section.specs.declared.rule.SeatView.{SeatView}
use Rattle.critical_section.specs.Book.{telling, IsNumbered}
use Rattle.critical_section.proofs.Steps.{tells, book_placed}
use Rattle.critical_section.proofs.places.Sections.finish.Goals as goal

pub split_seat-lists-requires : goal.split_seat-lists-requires
split_seat-lists-requires c = (search rules, search rules, tells _ _ _)

pub invariant_of-result-clause-numbered : goal.invariant_of-result-clause-numbered
invariant_of-result-clause-numbered c =
    let v : SeatView = c.args.seat.seat.me.0 in let w : SeatView = c.split_seat-lists.new.seat.me.0 in let made = c.split_seat-lists.ensures in let end = c.close_with-closed.ensures in
    let same : w ≡ v = ap (λ m. m.0) made.2 in
    let remembered = ap (λ m. m.0) made.4 in
    λ lock inr place. book_placed c.args.self.table.shared.key c.split_seat-lists.new.seat.id w c.split_seat-lists.result.me.0 (slots_items c.close_with-closed.result.words) (slots_items c.close_with-closed.result.slots)
    end.values.2 (remembered ∙ ap telling (sym same)) (subst (λ (u : SeatView). 0 < u.made) (sym same) c.requires.first) (subst (λ (u : SeatView). u.made ≡ u.seats) (sym same) c.requires.joined) (ap (λ (u : SeatView). u.inside) same ∙ c.requires.none_open)
    lock (let a = end.counts in let b = c.args.self.words in omega arith) place

pub returns-clause-numbered : goal.returns-clause-numbered
returns-clause-numbered c =
    let words = c.close_with-closed.result.words in
    let numbered : IsNumbered (slots_len words) (slots_items words) c.split_seat-lists.result.me.0.remembered = assumption in
    λ lock inr. (
      get_or (slots_items words) lock 0 / 2,
      numbered lock (let a = c.close_with-closed.ensures.counts in let b = c.args.self.words in omega arith),
    )
