-- What stands where trials, one after another, were refused on their way.
use Rattle.std.specs.Prelude.{◌≡◌, ◌⊎◌, List, [], ◌∷◌, ◌++◌}
use Rattle.jm_base.specs.Run.{over}
use Rattle.jm_base.specs.Outside.{Account, Goes}
use Rattle.var_functions.specs.declared.state.UserState.{UserState}
use Rattle.var_functions.specs.FunctionState.{IsLater}
use Rattle.thread_vars.specs.Vars.{Variables}
use Rattle.var_functions.specs.Came.{LeftOf}
use Rattle.var_changes.specs.Changes.{Change, ChangedInPart}
use Rattle.trials.specs.Tried.{Try, fine, each_of}

-- the variables are as they were, and functions stand at a later moment
pub record StandsLater (old new : UserState) : Type 0 where
  pub vars : new.vars ≡ old.vars
  pub fns : IsLater old.fns new.fns

-- A prefix of these trials is done, each when its turn came. Since then the variables are as they were, functions stand at
-- a later moment, and the outside has been asked for what is left of the trials alone.
pub record DoesPrefix {X : Type 0} (trial : X → Try (Unit {0})) (before : Account) (xs : List X) (old : UserState) (after : Account) (new : UserState) : Type 0 where
  pub done : List X
  pub left : List X
  pub order : xs ≡ done ++ left
  pub between : UserState
  pub moment : Account
  pub does : Goes before (each_of trial done old) [] (over (fine tt between)) moment
  pub stands : StandsLater between new
  pub rest : LeftOf moment (each_of trial left between) after

-- ---- where a trial out of others was cut

-- what stands where a call was cut, out of memory: its outside and the thread's state, before and after
abbrev pub Cut : Type 1
Cut = Account → UserState → Account → UserState → Type 0

-- nothing has changed
pub record StandsStill (before : Account) (old : UserState) (after : Account) (new : UserState) : Type 0 where
  pub outside : after ≡ before
  pub state : new ≡ old

-- The trial was cut on its way: the variables are as they were, and functions stand at a later moment.
pub record CutOnWay {A : Type 0} (trial : Try A) (before : Account) (old : UserState) (after : Account) (new : UserState) : Type 0 where
  pub stands : StandsLater old new
  pub rest : LeftOf before (trial old) after

-- A prefix of these changes was made, and nothing else.
pub record CutChanging (changes : Variables → List Change) (before : Account) (old : UserState) (after : Account) (new : UserState) : Type 0 where
  pub outside : after ≡ before
  pub fns : new.fns ≡ old.fns
  pub vars : ChangedInPart (changes old.vars) old.vars new.vars

-- The first trial came whole, and what follows from its value was cut.
pub record CutAfter {A : Type 0} (first : Try A) (cut : A → Cut) (before : Account) (old : UserState) (after : Account) (new : UserState) : Type 0 where
  pub came : A
  pub between : UserState
  pub moment : Account
  pub whole : Goes before (first old) [] (over (fine came between)) moment
  pub next : cut came moment between after new

-- The first trial was cut, or it came whole and the next one was cut.
abbrev pub cut_in : {A : Type 0} → Try A → Cut → (A → Cut) → Cut
cut_in first at_first at_next before old after new = at_first before old after new ⊎ CutAfter first at_next before old after new

-- the same where the first trial changes no variable
abbrev pub cut_on_way : {A : Type 0} → Try A → (A → Cut) → Cut
cut_on_way first at_next = cut_in first (CutOnWay first) at_next

-- Of these trials some came whole, each when its turn came, and the next one was cut.
pub record CutAmong {X : Type 0} (trial : X → Try (Unit {0})) (cut : X → Cut) (xs : List X) (before : Account) (old : UserState) (after : Account) (new : UserState) : Type 0 where
  pub done : List X
  pub one : X
  pub left : List X
  pub order : xs ≡ done ++ one ∷ left
  pub between : UserState
  pub moment : Account
  pub whole : Goes before (each_of trial done old) [] (over (fine tt between)) moment
  pub next : cut one moment between after new
