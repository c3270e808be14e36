-- Where a turn has come to.
use Rattle.std.proofs.Common.{◌≡◌, ℕ, [], Option, Some, sym, subst}
use Rattle.std.specs.Prelude.{Result, Ok, Err, slice_get}
use Rattle.std.proofs.lemmas.Result.{on_err_weaker}
use Rattle.jm_base.specs.Run.{Run, over}
use Rattle.jm_base.specs.Outside.{Account, Goes}
use Rattle.element_tree.specs.declared.kinds.Element.{Element}
use Rattle.element_tree.specs.Tree.{Tree}
use Rattle.thread_vars.specs.declared.error.VarError.{VarError}
use Rattle.var_functions.specs.declared.state.UserState.{UserState}
use Rattle.var_functions.specs.Came.{CameTo, Refused}
use Rattle.var_functions.proofs.CameLaws.{came-first}
use Rattle.jm_meaning.specs.declared.signal.Signal.TheVariants.{Normal}
use Rattle.jm_meaning.specs.State.{Ending, normal}
use Rattle.jm_meaning.specs.Sections.{leaving_open}
use Rattle.jm_meaning.specs.Cut.{StandsLater}
use Rattle.open_elements.specs.Moves.{past}
use Rattle.open_elements.specs.ElementCut.{IsCutIn}
use Rattle.open_elements.proofs.OpenLaws.{goes_as}
use Rattle.control_machine.specs.declared.stack.Frame.{Frame}
use Rattle.control_machine.specs.declared.position.Position.{Position}
use Rattle.control_machine.specs.declared.position.Went.{Went}
use Rattle.control_machine.specs.Left.{Beside, state_at}
use Rattle.control_machine.specs.MachineCut.{Place, left_at}
use Rattle.control_machine.specs.Turns.{went, left_from, Turns}
use Rattle.control_machine.proofs.Answered.{came_as}
use Rattle.control_machine.proofs.CutLaws.{cut_as, cut_behind, cut_here, cut_inside}

-- the run is what is left after the turn
pub turns_still : {plan : Tree} {a : Account} {run : Beside → Run Ending} {section : Option ℕ} {m : Position} {user : UserState} {w : Went}
    → ((beside : Beside) → run beside ≡ went plan m (state_at m beside user) w) → Turns plan a run section a m user (Ok w)
turns_still {plan} {a} {run} {section} {m} {user} {w} is = record {
  came = λ beside. goes_as a (run beside) (went plan m (state_at m beside user) w) (is beside);
  cut = tt;
}

-- the run is the one that the turn began with, and the section that was open then
pub turns_as : {plan : Tree} {a b : Account} {run next : Beside → Run Ending} {section outer : Option ℕ} {m : Position} {user : UserState} {res : Result Went VarError}
    → ((beside : Beside) → run beside ≡ next beside) → section ≡ outer → Turns plan a next outer b m user res → Turns plan a run section b m user res
turns_as {plan} {a} {b} {run} {next} {section} {outer} {m} {user} {res} is same turns = record {
  came = λ beside.
      subst (λ o. CameTo a (run beside) b (went plan m (state_at m beside user)) (leaving_open o (past (state_at m beside user))) res) (sym same)
      (came_as a b (run beside) (next beside) (went plan m (state_at m beside user)) (leaving_open outer (past (state_at m beside user))) res (is beside) (turns.came beside));
  cut = on_err_weaker res (λ cut. cut_as plan run next user is cut) turns.cut;
}

-- the run had come to the one that the turn began with
pub turns_behind : {plan : Tree} {a between b : Account} {run next : Beside → Run Ending} {section : Option ℕ} {m : Position} {user : UserState} {res : Result Went VarError}
    → ((beside : Beside) → Goes a (run beside) [] (next beside) between) → Turns plan between next section b m user res → Turns plan a run section b m user res
turns_behind {plan} {a} {between} {b} {run} {next} {section} {m} {user} {res} goes turns = record {
  came = λ beside.
      came-first a between b (run beside) (next beside) (went plan m (state_at m beside user)) (leaving_open section (past (state_at m beside user))) res (goes beside) (turns.came beside);
  cut = on_err_weaker res (λ cut. cut_behind plan run next user goes cut) turns.cut;
}

-- the turn began at a place, and the variables have been left as they were there
pub turns_at : {plan : Tree} {a b : Account} {section : Option ℕ} {new : Position} {user : UserState} {res : Result Went VarError} (m : Position) (place : Place) (old : UserState)
    → ((beside : Beside) → CameTo a (left_at plan m place (state_at m beside old)) b (went plan new (state_at new beside user)) (leaving_open section (past (state_at new beside user))) res)
    → StandsLater old user → Turns plan a (λ beside. left_at plan m place (state_at m beside old)) section b new user res
turns_at {plan} {a} {b} {section} {new} {user} {res} m place old came stands = record {
  came = came;
  cut = cut_here a b plan m place old user (λ beside. went plan new (state_at new beside user)) (λ beside. leaving_open section (past (state_at new beside user))) res came stands;
}

-- an open element was refused on its way
pub turns_inside : {plan : Tree} {a b : Account} {section : Option ℕ} {new : UserState} {error : VarError} (m : Position) (f : Frame) (e : Element) (old : UserState) → slice_get plan.elements f.element ≡ Some e
    → m.signal ≡ Normal → IsCutIn e f.cursor old new
    → ((beside : Beside) → Refused a (left_from plan m f (over (normal (state_at m beside old)))) b (leaving_open section (past (state_at m beside new))) error)
    → Turns plan a (λ beside. left_from plan m f (over (normal (state_at m beside old)))) section b m new (Err error)
turns_inside {plan} {a} {b} {section} {new} {error} m f e old there signal cut refused = record {
  came = refused;
  cut = cut_inside plan m f e old new (λ beside. leaving_open section (past (state_at m beside new))) error there signal cut refused;
}
