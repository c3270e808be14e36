-- How far a thread has come that runs out of memory.
use Rattle.std.proofs.Common.{◌≡◌, ℕ, zero, suc, [], ◌++◌, refl, sym, subst}
use Rattle.std.specs.Prelude.{Result, Ok, Err, IfOk, OnErr, IsErrAnd}
use Rattle.jm_base.specs.declared.errors.NoMemory.{NoMemory}
use Rattle.jm_base.specs.Run.{Run, over, give, wait, Waited, ◌>>=◌}
use Rattle.jm_base.specs.Outside.{Account, Goes, TellsNothing}
use Rattle.jm_base.proofs.RunLaws.{goes-append, goes-bind, goes-nothing, goes-tells_nothing}
use Rattle.var_functions.specs.Came.{LeftOf}
use Rattle.jm_meaning.specs.declared.signal.Signal.{Signal}
use Rattle.jm_meaning.specs.State.{Ending, Part, Try, on_came, tried}
use Rattle.jm_meaning.specs.Meaning.{after_pause}
use Rattle.plain_run.specs.declared.progress.Progress.{Progress}
use Rattle.plain_run.specs.Plays.{state_in, Plays, IsUnderWay, Runs}
use Rattle.plain_run.proofs.Ways.{OnWay, way-start, way-as, way-end}

-- ---- a run

pub at-start : {A : Type 0} (a : Account) (run : Run A) → IsUnderWay a run a
at-start a run = ([], run, goes-nothing a run)

pub where-left : {A : Type 0} {a b : Account} {run : Run A} → LeftOf a run b → IsUnderWay a run b
where-left left = ([], left.0, left.1)

pub after-nothing : {A : Type 0} {a b : Account} (run : Run A) → TellsNothing a b → IsUnderWay a run b
after-nothing {a = a} run told = ([], run, goes-tells_nothing (goes-nothing a run) told)

pub in-bind : {A B : Type 0} {a b : Account} {run : Run A} (next : A → Run B) → IsUnderWay a run b → IsUnderWay a (run >>= next) b
in-bind next at = (at.0, at.1 >>= next, goes-bind next at.2)

-- a pause was made, and is not shown yet
pub after-pausing : {a b : Account} (ms : ℕ) → (ms ≡ 0 → ⊥) → Goes {A = Unit {0}} a (wait ms (over tt)) [] (over tt) b → (run : Run (Unit {0})) → IsUnderWay a (after_pause ms run) b
after-pausing zero some goes run = absurd (some refl)
after-pausing (suc ms) some goes run = ([], give (Waited (suc ms)) run, goes-bind (λ u. give (Waited (suc ms)) run) goes)

-- ---- a part

-- a thread that has come so far
pub on-way : {a b : Account} {p0 p : Progress} {whole rest : Part} → OnWay a p0 whole rest p b → IsUnderWay a (whole (state_in p0)) b
on-way {p = p} {rest = rest} way = (way.tells.shows.events, rest (state_in p), way.tells.shows.goes)

-- and then on, in what comes first of the rest
pub on-way-in : {X : Type 0} {a b c : Account} {p0 p : Progress} {whole rest : Part} (run : Run X) (next : X → Run Ending) → OnWay a p0 whole rest p b → rest (state_in p) ≡ (run >>= next)
    → IsUnderWay b run c → IsUnderWay a (whole (state_in p0)) c
on-way-in {b = b} {c = c} run next way is at =
    (way.tells.shows.events ++ at.0, at.1 >>= next, goes-append way.tells.shows.goes (subst (λ r. Goes b r at.0 (at.1 >>= next) c) (sym is) (goes-bind next at.2)))

-- and then on, in a value that it tries for
pub on-way-tried : {X : Type 0} {a b c : Account} {p0 p : Progress} {whole rest : Part} (attempt : Try X) (next : X → Part) → OnWay a p0 whole rest p b
    → rest (state_in p) ≡ tried attempt (state_in p) next → IsUnderWay b (attempt p.user) c → IsUnderWay a (whole (state_in p0)) c
on-way-tried {p = p} attempt next way is at = on-way-in (attempt p.user) (on_came (state_in p).own next) way is at

-- and then on, in the rest
pub on-way-then : {a b c : Account} {p0 p : Progress} {whole rest : Part} → OnWay a p0 whole rest p b → IsUnderWay b (rest (state_in p)) c → IsUnderWay a (whole (state_in p0)) c
on-way-then way at = (way.tells.shows.events ++ at.0, at.1, goes-append way.tells.shows.goes at.2)

-- ---- what becomes of a part

pub runs-cut : {a b : Account} (p q : Progress) (part : Part) (Q : NoMemory → Type 0) (result : Result Signal NoMemory) → IsErrAnd result Q → IsUnderWay a (part (state_in p)) b
    → Runs a p part result q b
runs-cut p q part Q (Ok signal) failed at = absurd failed
runs-cut p q part Q (Err e) failed at = at

-- the rest is run, or cut
pub way-runs : {a b : Account} {p0 p : Progress} {whole rest : Part} (c : Account) (q : Progress) (result : Result Signal NoMemory) → OnWay a p0 whole rest p b → Runs b p rest result q c
    → Runs a p0 whole result q c
way-runs c q (Ok signal) way runs = way-end way runs
way-runs c q (Err e) way at = on-way-then way at

-- the rest asks nothing more of the outside
pub way-shows : {a b : Account} {p0 p : Progress} {whole rest : Part} (q : Progress) (result : Result Signal NoMemory) → OnWay a p0 whole rest p b
    → IfOk result (λ signal. (c : Account) → Plays c p rest signal q c) → Runs a p0 whole result q b
way-shows {b = b} q (Ok signal) way shows = way-end way (shows b)
way-shows q (Err e) way shows = on-way way

-- a part that is another one where the thread stands
pub runs-as : (a b : Account) (p q : Progress) (result : Result Signal NoMemory) (part part' : Part) → Runs a p part' result q b → part (state_in p) ≡ part' (state_in p) → Runs a p part result q b
runs-as a b p q result part part' runs is = way-runs b q result (way-as part' (way-start a p part) is) runs

pub cut-always : {T E X : Type 0} (result : Result T E) → X → OnErr result X
cut-always (Ok x) h = tt
cut-always (Err e) h = h
