-- Sums over a list.
pub use Rattle.jm_base.specs.SumTotals.{total, one_if}
