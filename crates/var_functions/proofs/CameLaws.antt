-- How what a call came to goes on.
use Rattle.std.proofs.Common.{[]}
use Rattle.std.specs.Prelude.{Result, Ok, Err}
use Rattle.jm_base.specs.Run.{Run, ◌>>=◌}
use Rattle.jm_base.specs.Outside.{Account, Goes}
use Rattle.jm_base.proofs.RunLaws.{goes-append, goes-bind}
use Rattle.thread_vars.specs.declared.error.VarError.{VarError}
use Rattle.var_functions.specs.Came.{CameTo, Refused, by_limit, by_memory}

-- a refusal after what was heard before, and with what comes after the run
pub refused-first : {A : Type 0} {a m b : Account} {r s : Run A} {limit : Run A} {e : VarError} → Goes a r [] s m → Refused m s b limit e → Refused a r b limit e
refused-first g (by_limit h) = by_limit (goes-append g h)
refused-first g (by_memory h) = by_memory (h.0, goes-append g h.1)

pub refused-bind : {A C : Type 0} {a b : Account} {r : Run A} {limit : Run A} {e : VarError} (f : A → Run C) → Refused a r b limit e → Refused a (r >>= f) b (limit >>= f) e
refused-bind f (by_limit h) = by_limit (goes-bind f h)
refused-bind f (by_memory h) = by_memory (h.0 >>= f, goes-bind f h.1)

-- an answer with what comes after the run
pub came-bind : {A B C : Type 0} (a b : Account) (r : Run A) (on : B → Run A) (limit : Run A) (res : Result B VarError) (f : A → Run C)
    → CameTo a r b on limit res → CameTo a (r >>= f) b (λ x. on x >>= f) (limit >>= f) res
came-bind a b r on limit (Ok x) f h = goes-bind f h
came-bind a b r on limit (Err e) f h = refused-bind f h

-- an answer after what was heard before
pub came-first : {A B : Type 0} (a m b : Account) (r s : Run A) (on : B → Run A) (limit : Run A) (res : Result B VarError)
    → Goes a r [] s m → CameTo m s b on limit res → CameTo a r b on limit res
came-first a m b r s on limit (Ok x) g h = goes-append g h
came-first a m b r s on limit (Err e) g h = refused-first g h
