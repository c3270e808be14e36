use Rattle.std.proofs.Common.{rules, ◌≢◌, ◌<◌, length, sym, ap, ◌∙◌, subst, arith}
use Rattle.critical_section.specs.declared.rule.SeatView.{SeatView}
use Rattle.critical_section.specs.declared.rule.TheConstants.{MOST_SECTIONS}
use Rattle.critical_section.specs.Book.{Knows}
use Rattle.critical_section.proofs.Steps.{loads_allowed, exchanges_allowed, known_once}
use Rattle.critical_section.proofs.places.Sections.try_enter.Goals as goal

pub load-seen-requires : goal.load-seen-requires
load-seen-requires c = (search rules, search rules, loads_allowed _ _ _ _ _ c.requires.lock c.args.seat.now.live)

pub compare_exchange-found-requires : goal.compare_exchange-found-requires
compare_exchange-found-requires c =
    let same = ap (λ m. m.0) c.load-seen.ensures.2.0 in (
      search rules,
      search rules,
      exchanges_allowed _ _ _ _ _ _ c.requires.lock (ap (λ (v : SeatView). v.inside) same ∙ c.requires.none_open) (subst (λ (v : SeatView). length v.own < MOST_SECTIONS) (sym same) c.requires.few)
          (subst (λ (v : SeatView). v.seats ≢ 0) (sym same) c.args.seat.now.live) (omega arith),
    )

pub returns-else-found-seen-clause-alone : goal.returns-else-found-seen-clause-alone
returns-else-found-seen-clause-alone c =
    let same = ap (λ m. m.0) c.load-seen.ensures.2.0 in
    let v : SeatView = c.args.seat.now.seat.me.0 in
    let after : Knows c.args.lock v c.compare_exchange-found.result = subst (λ (u : SeatView). Knows c.args.lock u c.compare_exchange-found.result) same c.compare_exchange-found.ensures.2.3 in
    λ alone. c.if-found-seen.false (known_once c.args.lock v c.compare_exchange-found.result c.load-seen.result after c.load-seen.ensures.2.1 alone)
