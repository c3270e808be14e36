use Rattle.std.proofs.Common.{refl, sym, subst, arith, None, []}
use Rattle.std.specs.List.Sorted.{IsStrictlySortedBy}
use Rattle.thread_vars.specs.Vars.{IsKept}
use Rattle.thread_vars.specs.Beside.{IsKnown}
use Rattle.thread_vars.proofs.table.Table.new.Goals as goal

nothing : IsKept 0 []
unfolding IsStrictlySortedBy
nothing = record { sum = refl; limit = omega arith; ordered = tt }

pub invariant_of-result : goal.invariant_of-result
invariant_of-result c = subst (λ vars. IsKept 0 vars × IsKnown None vars) (sym c.new.ensures) (nothing, tt)
