-- Whether a child is left in a pass.
use Rattle.std.proofs.Common.{◌≡◌, ℕ, ◌<◌, ◌≤◌, true, false, arith}
use Rattle.std.specs.Prelude.{nat_lt}
use Rattle.std.proofs.lemmas.Bool.Decides.{nat_tests}
use Rattle.cursor_steps.specs.declared.pass.Pass.{Pass}
use Rattle.cursor_steps.specs.RunningChildren.{is_left}

below : (m n : ℕ) → m < n → nat_lt m n ≡ true
below m n h = grind (arith, nat_tests)

above : (m n : ℕ) → n ≤ m → nat_lt m n ≡ false
above m n h = grind (arith, nat_tests)

-- a child is left, or none
pub some-left : (p : Pass) → p.next < p.children → is_left p ≡ true
some-left p h = below p.next p.children h

pub none-left : (p : Pass) → p.children ≤ p.next → is_left p ≡ false
none-left p h = above p.next p.children h
