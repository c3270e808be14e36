use Rattle.std.proofs.Common.{◌≡◌, ◌≤◌, ◌<◌, ◌+◌, ◌-◌, subst, arith}
use Rattle.std.specs.Prelude.{nat_le, MatchBool}
use Rattle.thread_vars.specs.Vars.{IsKept, bytes_of, bytes_at, most_bytes}
use Rattle.thread_vars.proofs.VarLaws.{bytes_at-le, within, at_once}
use Rattle.thread_vars.proofs.table.Table.has_room.Goals as goal

pub overflow_sub-result : goal.overflow_sub-result
overflow_sub-result c =
    let kept : IsKept c.self.inside.bytes c.args.self.now = subst (IsKept c.self.inside.bytes) c.self.view_is c.self.invariant.0 in
    omega (arith, kept.sum, c.bytes_at.ensures, bytes_at-le c.args.name.now c.args.self.now)

pub returns-then-most-le-MOST_BYTES : goal.returns-then-most-le-MOST_BYTES
returns-then-most-le-MOST_BYTES c =
    let kept : IsKept c.self.inside.bytes c.args.self.now = subst (IsKept c.self.inside.bytes) c.self.view_is c.self.invariant.0 in
    at_once (c.self.inside.bytes + c.args.added) 4194304 _ _ c.if-most-le-MOST_BYTES.true (omega (arith, kept.sum, c.if-most-le-MOST_BYTES.true))

pub returns-else-most-le-MOST_BYTES : goal.returns-else-most-le-MOST_BYTES
returns-else-most-le-MOST_BYTES c =
    let kept : IsKept c.self.inside.bytes c.args.self.now = subst (IsKept c.self.inside.bytes) c.self.view_is c.self.invariant.0 in
    let same : c.self.inside.bytes + c.args.added - c.bytes_at.result ≡ bytes_of c.args.self.now - bytes_at c.args.name.now c.args.self.now + c.args.added =
    omega (arith, kept.sum, c.bytes_at.ensures, bytes_at-le c.args.name.now c.args.self.now) in
    subst (λ n. MatchBool (nat_le (c.self.inside.bytes + c.args.added - c.bytes_at.result) most_bytes) (n ≤ most_bytes) (most_bytes < n)) same (within (c.self.inside.bytes + c.args.added - c.bytes_at.result) most_bytes)
