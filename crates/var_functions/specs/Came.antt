-- What a call that may be refused has made of a run.
use Rattle.std.specs.Prelude.{[], Result, Ok, Err}
use Rattle.jm_base.specs.Run.{Run}
use Rattle.jm_base.specs.Outside.{Account, Goes}
use Rattle.thread_vars.specs.declared.error.VarError.{VarError}
use Rattle.thread_vars.specs.declared.error.VarError.TheVariants.{ValueLimit, NoMemory}

-- some rest of the run is left
abbrev pub LeftOf : {A : Type 0} → Account → Run A → Account → Type 0
LeftOf {A} a run b = (rest : Run A) × Goes a run [] rest b

-- A call refused where the run was: past a limit, or somewhere on its way, out of memory.
pub data Refused {A : Type 0} (a : Account) (run : Run A) (b : Account) (limit : Run A) : VarError → Type 0 where
  by_limit : Goes a run [] limit b → Refused a run b limit ValueLimit
  by_memory : LeftOf a run b → Refused a run b limit NoMemory

-- Between two moments of the outside the run has come to what the answer says: on from a value, or a refusal.
abbrev pub CameTo : {A B : Type 0} → Account → Run A → Account → (B → Run A) → Run A → Result B VarError → Type 0
CameTo a run b on limit (Ok x) = Goes a run [] (on x) b
CameTo a run b on limit (Err e) = Refused a run b limit e
