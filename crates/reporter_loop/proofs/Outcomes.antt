-- What a call says of one of its two outcomes.
use Rattle.std.proofs.Common.{◌≡◌, Result, Ok, Err, refl}
use Rattle.std.specs.Prelude.{IfOk, OnOk, OnErr}

module _ {X E P Q : Type 0} where
  pub ok_and : {R : Type 0} (r : Result X E) → OnOk r P → OnOk r Q → (P → Q → R) → OnOk r R
  ok_and (Ok x) p q f = f p q
  ok_and (Err e) p q f = tt

  pub err_then : (r : Result X E) → OnErr r P → (P → Q) → OnErr r Q
  err_then (Ok x) p f = tt
  err_then (Err e) p f = f p

module _ {X E P : Type 0} where
  -- the call failed
  pub at_err : (r : Result X E) (e : E) → r ≡ Err e → OnErr r P → P
  at_err (Ok x) e is h = cc
  at_err (Err f) e is h = h

  -- it was done
  pub on_ok : {x : X} (r : Result X E) → r ≡ Ok x → OnOk r P → P
  on_ok (Ok y) is h = h
  on_ok (Err e) is h = cc

  -- what holds anyhow
  pub if_err : (r : Result X E) → P → OnErr r P
  if_err (Ok x) p = tt
  if_err (Err e) p = p

  -- it did not fail
  pub at_ok : (r : Result X E) → ((e : E) → r ≡ Err e → ⊥) → OnOk r P → P
  at_ok (Ok x) not_err h = h
  at_ok (Err e) not_err h = absurd (not_err e refl)

module _ {X E : Type 0} {P Q : X → Type 0} where
  pub if_ok_then : (r : Result X E) → IfOk r P → ((x : X) → P x → Q x) → IfOk r Q
  if_ok_then (Ok x) p f = f x p
  if_ok_then (Err e) p f = tt

module _ {X E : Type 0} {P Q R : X → Type 0} where
  pub if_ok_and : (r : Result X E) → IfOk r P → IfOk r Q → ((x : X) → P x → Q x → R x) → IfOk r R
  if_ok_and (Ok x) p q f = f x p q
  if_ok_and (Err e) p q f = tt
