-- Whether a round begins.
use Rattle.std.proofs.Common.{◌≡◌, ℕ, true, false, [], Some, None, sym, ap, subst}
use Rattle.jm_base.specs.Run.{Run, over}
use Rattle.jm_base.specs.Outside.{Account, Goes}
use Rattle.jm_base.proofs.RunLaws.{goes-nothing}
use Rattle.element_tree.specs.declared.kinds.Loops.{Loops}
use Rattle.var_functions.specs.declared.state.UserState.{UserState}
use Rattle.logic_controllers.specs.LoopController.{round_begins}
use Rattle.jm_meaning.specs.State.{fine}
use Rattle.jm_meaning.specs.Rounds.{where_so}

-- a run that is another
goes-to : {A : Type 0} (a : Account) (run rest : Run A) → run ≡ rest → Goes a run [] rest a
goes-to a run rest is = subst (λ r. Goes a r [] rest a) (sym is) (goes-nothing a rest)

pub loop-begins : (a : Account) (loops : Loops) (i : ℕ) (user : UserState) → round_begins loops i ≡ true
    → Goes a (over (fine (where_so (round_begins loops i)) user)) [] (over (fine (Some tt) user)) a
loop-begins a loops i user is = goes-to a _ _ (ap (λ b. over (fine (where_so b) user)) is)

pub loop-over : (a : Account) (loops : Loops) (i : ℕ) (user : UserState) → round_begins loops i ≡ false
    → Goes a (over (fine (where_so (round_begins loops i)) user)) [] (over (fine None user)) a
loop-over a loops i user is = goes-to a _ _ (ap (λ b. over (fine (where_so b) user)) is)
