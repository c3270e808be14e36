-- What is known where a reading came to a value.
use Rattle.std.proofs.Common.{◌≡◌, ℕ, ◌≤◌, Bool, true, false, not, ◌&&◌, Option, Some, None, Ok, refl, sym, true≢false, arith, nat_lt}
use Rattle.std.proofs.lemmas.Bool.Decides.{nat_tests}
use Rattle.element_props.specs.declared.error.BuildError.{BuildError}
use Rattle.element_props.specs.Reads.{Reads, over, refuse, ask, ◌>>=◌, refuse_if, or_refuse, outcome}

pub bind_ok : {A B : Type 0} (r : Reads A) (f : A → Reads B) (y : B) → outcome (r >>= f) ≡ Ok y → (x : A) × (outcome r ≡ Ok x) × (outcome (f x) ≡ Ok y)
bind_ok (over x) f y h = (x, refl, h)
bind_ok (refuse e) f y h = cc
bind_ok (ask p t r) f y h = bind_ok r f y h

pub bind_again : {A B : Type 0} (r : Reads A) (f : A → Reads B) (x : A) (y : B) → outcome r ≡ Ok x → outcome (f x) ≡ Ok y → outcome (r >>= f) ≡ Ok y
bind_again (over z) f x y h k = let e : z ≡ x = cc in rw e k
bind_again (refuse e) f x y h k = cc
bind_again (ask p t r) f x y h k = bind_again r f x y h k

pub over_ok : {A : Type 0} (x y : A) → outcome (over x) ≡ Ok y → x ≡ y
over_ok x y h = cc

pub or_ok : {A : Type 0} (o : Option A) (e : BuildError) (x : A) → outcome (or_refuse o e) ≡ Ok x → o ≡ Some x
or_ok None e x h = cc
or_ok (Some y) e x h = cc

pub refuse_ok : (test : Bool) (e : BuildError) (u : Unit {0}) → outcome (refuse_if test e) ≡ Ok u → test ≡ false
refuse_ok true e u h = cc
refuse_ok false e u h = refl

-- ---- tests

pub not_false : (b : Bool) → not b ≡ false → b ≡ true
not_false true h = refl
not_false false h = absurd (true≢false h)

pub both : (a b : Bool) → (a && b) ≡ true → (a ≡ true) × (b ≡ true)
both true b h = (refl, h)
both false b h = absurd (true≢false (sym h))

pub at_most : (m n : ℕ) → nat_lt m n ≡ false → n ≤ m
at_most m n h = grind (arith, nat_tests)
