use Rattle.std.proofs.Common.{ℕ, ◌/◌, ap, ◌∙◌, ltb}
use Rattle.std.specs.Slots.{slots_items}
use Rattle.jm_base.specs.SumTotals.{one_if}
use Rattle.critical_section.proofs.Steps.{read_at}
use Rattle.critical_section.proofs.places.SectionBook.sections.Goals as goal

pub returns : goal.returns
returns c = λ place. c.args.self.now.numbered c.args.lock c.requires place ∙ ap (λ (x : ℕ). one_if (ltb place (x / 2))) (read_at (slots_items c.args.self.now.closed.words) c.args.lock c.word.result c.word.ensures)
