-- What the parts of a step make of a thread.
use Rattle.std.proofs.Common.{◌≡◌, inl, inr, ℕ, zero, suc, ◌-◌, ◌≤◌, Bool, true, false, List, [], ◌∷◌, ◌++◌, Option, Some, None, refl, sym, ap, ◌∙◌, subst, arith}
use Rattle.std.specs.Prelude.{slice_get, Result, Ok, Err, OnErr, IfSome, if◌then◌else◌}
use Rattle.jm_base.specs.declared.types.End.{End}
use Rattle.jm_base.specs.declared.types.End.TheVariants.{Completed, StopThread, StopTest, Stopped, SampleLimit, RoundLimit, ValueLimit as PastValueLimit, NoMemory as EndNoMemory}
use Rattle.jm_base.specs.Run.{Run, over, give, wait, Waited, Entered, Left, Ended}
use Rattle.jm_base.specs.Outside.{Account, Goes, TellsNothing}
use Rattle.jm_base.proofs.RunLaws.{goes-append, goes-bind, goes-give, goes-nothing, goes-tells_nothing}
use Rattle.thread_vars.specs.declared.error.VarError.{VarError}
use Rattle.thread_vars.specs.declared.error.VarError.TheVariants.{ValueLimit, NoMemory}
use Rattle.var_functions.specs.declared.state.UserState.{UserState}
use Rattle.var_functions.specs.Came.{CameTo, Refused, by_limit, by_memory}
use Rattle.var_functions.proofs.CameLaws.{came-bind, refused-first}
use Rattle.element_tree.specs.declared.kinds.Element.{Element}
use Rattle.element_tree.specs.Tree.{Tree, group_of}
use Rattle.jm_meaning.specs.State.{State, Own, Ending, Part, state_of, normal, stopped, on_normal, and_then}
use Rattle.jm_meaning.specs.Sections.{leaving_open}
use Rattle.jm_meaning.proofs.PartLaws.{no-units, one-unit}
use Rattle.config_elements.specs.RoundStart.{Config, first_config, begin_round}
use Rattle.jm_meaning.specs.Beginning.{Options, max_rounds, first_places, first_user, first_of, set_first}
use Rattle.jm_meaning.specs.RampUp.{pause_of}
use Rattle.jm_meaning.specs.Meaning.{and_end, after_pause, end_of, events, thread_part, group_part, here_at}
use Rattle.open_elements.specs.Moves.{past}
use Rattle.control_machine.specs.declared.position.Position.{Position}
use Rattle.control_machine.specs.declared.moves.Move.{Move}
use Rattle.control_machine.specs.declared.moves.Move.TheVariants.{Iteration, RunSampler, EnterSection, LeaveSection, TransactionSample, Finished}
use Rattle.cursor_steps.specs.CursorStep.{answers, past_limit as step_past_limit}
use Rattle.jm_meaning.specs.declared.signal.Signal.TheVariants.{Normal, Stop}
use Rattle.jm_meaning.specs.Rounds.{where_fed, on_fed, round_start}
use Rattle.control_machine.specs.Left.{here_in, left_of, left_after, own_at, state_at, moved, ended, open_lock, AreApart, IsLock, IsMove, IsFinish}
use Rattle.control_machine.proofs.Following.{left_normal}
use Rattle.thread_machine.proofs.StackLaws.{came_left}
use Rattle.thread_machine.specs.declared.trace.TraceItem.TheVariants.{Paused as PausedItem, Left as LeftItem, Ended as EndedItem}
use Rattle.thread_machine.specs.declared.runner.Runner.{Runner}
use Rattle.thread_machine.specs.declared.step.Step.{Step}
use Rattle.thread_machine.specs.declared.step.Step.TheVariants.{Sampled as SampledStep, Null as NullStep, Enter, Leave, Ended as EndedStep}
use Rattle.thread_machine.specs.Recorded.{Recorded}
use Rattle.thread_machine.specs.Standing.{Standing, state_in, before_end, rest, IsAtStart}
use Rattle.thread_machine.specs.SectionOrder.{left_traced}
use Rattle.thread_machine.specs.Stepped.{HasPaused, Begins, EntersSection, LeavesSection, IsOver, Ends, Gives, Steps}
use Rattle.thread_machine.specs.Inside.{standing_of, IsLimit}
use Rattle.thread_machine.specs.Ran.{is_end, left_to, IsTaken, IsSameThread, IsRefusedAt, IsBegun, IsCutAt, IsCutAfter, EndsBy}
use Rattle.thread_machine.proofs.FirstLaws.{first_alike}

-- the end by a limit does not come next
pub rest_before : (w : Runner) → w.last ≡ None → rest (standing_of w false) ≡ after_pause w.pause (and_end (left_to w))
rest_before w last = ap (λ o. before_end o (after_pause w.pause (and_end (left_to w)))) last

-- after the pause, and after the first variables
pub rest_on : (w : Runner) → w.pause ≡ 0 → w.last ≡ None → rest (standing_of w false) ≡ and_end (left_to w)
rest_on w paused last = rest_before w last ∙ ap (λ n. after_pause n (and_end (left_to w))) paused

pub left_on : (w : Runner) → w.begun ≡ true → left_to w ≡ left_of w.plan.now w.machine (state_in (standing_of w false))
left_on w begun =
    let later : Run Ending = left_of w.plan.now w.machine (state_in (standing_of w false)) in
    let sooner : Run Ending = and_then (set_first w.plan.now.elements (state_in (standing_of w false))) (left_of w.plan.now w.machine) in
    ap (λ b. if b then later else sooner) begun

left_first : (w : Runner) → w.begun ≡ false → left_to w ≡ and_then (set_first w.plan.now.elements (state_in (standing_of w false))) (left_of w.plan.now w.machine)
left_first w begun =
    let later : Run Ending = left_of w.plan.now w.machine (state_in (standing_of w false)) in
    let sooner : Run Ending = and_then (set_first w.plan.now.elements (state_in (standing_of w false))) (left_of w.plan.now w.machine) in
    ap (λ b. if b then later else sooner) begun

-- ---- from move to move

-- the start of a round comes after its move
pub round_goes : (a b : Account) (plan : Tree) (m : Position) (s : State) (run : Run Ending) (move : Move) (index : ℕ) → move ≡ Iteration index
    → Goes a run [] (moved plan m s move) b → Goes a run [] (left_after plan m (round_start plan.elements m.group.element s)) b
round_goes a b plan m s run move index is g = subst (λ k. Goes a run [] (moved plan m s k) b) is g

-- Counters and data sets have advanced, or were refused
pub fed_came : (a b : Account) (plan : Tree) (m : Position) (units : ℕ) (before after : List ℕ) (old new : UserState) (res : Result Bool VarError) → AreApart plan.elements m.stack.frames
    → CameTo a (begin_round plan.elements m.group.element before old) b (λ ok. answers ok after new) (step_past_limit after new) res
    → CameTo a (left_after plan m (round_start plan.elements m.group.element (state_at m (record { units = units; config = before }) old))) b
    (λ ok. left_after plan m (where_fed ok (state_at m (record { units = units; config = after }) new))) (leaving_open (open_lock m.stack.frames) (past (state_at m (record { units = units; config = after }) new))) res
fed_came a b plan m units before after old new res apart came =
    came_left (here_in plan m) m.group m.stack.frames a b (round_start plan.elements m.group.element (state_at m (record { units = units; config = before }) old))
    (λ ok. where_fed ok (state_at m (record { units = units; config = after }) new)) (state_at m (record { units = units; config = after }) new) res apart
    (came-bind a b (begin_round plan.elements m.group.element before old) (λ ok. answers ok after new) (step_past_limit after new) res
    (on_fed (own_at m (record { units = units; config = before }))) came)

-- the round goes on
pub fed_on : (a b : Account) (plan : Tree) (m : Position) (s : State) (run : Run Ending) → m.signal ≡ Normal
    → Goes a run [] (left_after plan m (where_fed true s)) b → Goes a run [] (left_of plan m s) b
fed_on a b plan m s run calm goes = subst (λ r. Goes a run [] r b) (sym (left_normal plan m s calm)) goes

-- or the thread stops
pub fed_out : (a b : Account) (plan : Tree) (m n : Position) (units : ℕ) (after : List ℕ) (user : UserState) (run : Run Ending) → n ≡ record m { signal = Stop StopThread }
    → Goes a run [] (left_after plan m (where_fed false (state_at m (record { units = units; config = after }) user))) b
    → Goes a run [] (left_of plan n (state_at n (record { units = units; config = after }) user)) b
fed_out a b plan m n units after user run is goes = rw is goes

-- another move is one that ends a step
pub taken : (elements : List Element) (move : Move) → IsMove elements move → ((index : ℕ) → move ≡ Iteration index → ⊥) → IsTaken elements move
taken elements (Iteration index) is other = absurd (other index refl)
taken elements (RunSampler number) is other = is
taken elements (EnterSection lock) is other = is
taken elements (LeaveSection lock) is other = is
taken elements (TransactionSample element tally) is other = is
taken elements (Finished end) is other = is

-- ---- the first variables

pub set_already : (a : Account) (w : Runner) → w.begun ≡ true → Goes a (left_to w) [] (left_of w.plan.now w.machine (state_in (standing_of w false))) a
set_already a w begun = subst (λ r. Goes a (left_to w) [] r a) (left_on w begun) (goes-nothing a (left_to w))

-- they are set now
pub set_now : (a b : Account) (w : Runner) (user : UserState) (res : Result (Unit {0}) VarError) → w.begun ≡ false → w.section ≡ None
    → ((own : Own) → CameTo a (set_first w.plan.now.elements (state_of w.user own)) b (λ (u : Unit {0}). over (normal (state_of user own))) (over (stopped PastValueLimit (state_of user own))) res)
    → CameTo a (left_to w) b (λ (u : Unit {0}). left_of w.plan.now w.machine (state_of user (record { units = w.units; rounds = w.machine.rounds; places = w.machine.places; config = w.config.places })))
    (leaving_open w.section (past (state_of user (record { units = w.units; rounds = w.machine.rounds; places = w.machine.places; config = w.config.places })))) res
set_now a b w user res begun closed came =
    let own : Own = record { units = w.units; rounds = w.machine.rounds; places = w.machine.places; config = w.config.places } in
    subst (λ o. CameTo a (left_to w) b (λ (u : Unit {0}). left_of w.plan.now w.machine (state_of user own)) (leaving_open o (past (state_of user own))) res) (sym closed)
    (subst (λ r. CameTo a r b (λ (u : Unit {0}). left_of w.plan.now w.machine (state_of user own)) (past (state_of user own)) res) (sym (left_first w begun))
    (came-bind a b (set_first w.plan.now.elements (state_of w.user own)) (λ (u : Unit {0}). over (normal (state_of user own))) (over (stopped PastValueLimit (state_of user own))) res
    (on_normal (left_of w.plan.now w.machine)) (came own)))

-- ---- the end of a thread

-- an end is given
pub end_goes : (a b : Account) (run : Run Ending) (s : State) (end : End) → Goes a run [] (over (stopped end s)) b → Goes a (and_end run) (Ended end ∷ []) (over tt) b
end_goes a b run s end g = goes-append (goes-bind (λ e. give (Ended (end_of e.signal)) (over tt)) g) (goes-give b (Ended end) (over tt))

finish_goes : (a b : Account) (run : Run Ending) (s : State) (end : End) → IsFinish end → Goes a run [] (over (ended end s)) b → Goes a (and_end run) (Ended end ∷ []) (over tt) b
finish_goes a b run s Completed is g = goes-append (goes-bind (λ e. give (Ended (end_of e.signal)) (over tt)) g) (goes-give b (Ended Completed) (over tt))
finish_goes a b run s StopThread is g = end_goes a b run s StopThread g
finish_goes a b run s StopTest is g = end_goes a b run s StopTest g
finish_goes a b run s Stopped is g = absurd is
finish_goes a b run s SampleLimit is g = absurd is
finish_goes a b run s RoundLimit is g = end_goes a b run s RoundLimit g
finish_goes a b run s PastValueLimit is g = absurd is
finish_goes a b run s EndNoMemory is g = absurd is

-- an end that a machine finishes with is neither out of memory nor a stop
ends : (a b : Account) (run : Run (Unit {0})) (old new : Standing) (end : End) → IsFinish end → IsOver a b run old new end → Ends a b run old new end
ends a b run old new Completed is h = h
ends a b run old new StopThread is h = h
ends a b run old new StopTest is h = h
ends a b run old new Stopped is h = absurd is
ends a b run old new SampleLimit is h = absurd is
ends a b run old new RoundLimit is h = h
ends a b run old new PastValueLimit is h = absurd is
ends a b run old new EndNoMemory is h = absurd is

pub same_fewer : (m n : ℕ) → m ≡ n → m ≤ n
same_fewer m n is = omega (arith, is)

-- what a thread's end keeps
pub same_kept : (w new : Runner) → new ≡ record w { trace = new.trace } → IsSameThread w new
same_kept w new kept = record {
  plan = ap (λ r. r.plan.now) kept;
  thread = ap (λ r. r.thread) kept;
  pause = ap (λ r. r.pause) kept;
  owed = ap (λ r. r.owed) kept;
  entering = ap (λ r. r.entering) kept;
  section = ap (λ r. r.section) kept;
  last = ap (λ r. r.last) kept;
  fewer = same_fewer new.units w.units (ap (λ r. r.units) kept);
}

-- what a section that is left for a limit keeps
same_left : (w new : Runner) (end : End) → new ≡ record w { section = None; last = Some end; trace = new.trace } → IsSameThread w (record new { section = w.section; last = w.last })
same_left w new end kept = record {
  plan = ap (λ r. r.plan.now) kept;
  thread = ap (λ r. r.thread) kept;
  pause = ap (λ r. r.pause) kept;
  owed = ap (λ r. r.owed) kept;
  entering = ap (λ r. r.entering) kept;
  section = refl;
  last = refl;
  fewer = same_fewer new.units w.units (ap (λ r. r.units) kept);
}

-- the same from one to the next
pub same_then : (u v w : Runner) → IsSameThread u v → IsSameThread v w → IsSameThread u w
same_then u v w h k = record {
  plan = k.plan ∙ h.plan;
  thread = k.thread ∙ h.thread;
  pause = k.pause ∙ h.pause;
  owed = k.owed ∙ h.owed;
  entering = k.entering ∙ h.entering;
  section = k.section ∙ h.section;
  last = k.last ∙ h.last;
  fewer = let a = h.fewer in let b = k.fewer in omega (arith, a, b);
}

pub same_self : (w : Runner) → IsSameThread w w
same_self w = record { plan = refl; thread = refl; pause = refl; owed = refl; entering = refl; section = refl; last = refl; fewer = omega arith }

-- the steps from move to move
pub same_moved : (w mid : Runner) → mid ≡ record w { begun = mid.begun; user = mid.user; config = mid.config; machine = mid.machine } → IsSameThread w mid
same_moved w mid is = record {
  plan = ap (λ r. r.plan.now) is;
  thread = ap (λ r. r.thread) is;
  pause = ap (λ r. r.pause) is;
  owed = ap (λ r. r.owed) is;
  entering = ap (λ r. r.entering) is;
  section = ap (λ r. r.section) is;
  last = ap (λ r. r.last) is;
  fewer = same_fewer mid.units w.units (ap (λ r. r.units) is);
}

-- the run is over, and the trace says so
pub over_at : (a b : Account) (run : Run (Unit {0})) (w new : Runner) (end : End) → w.section ≡ None → Goes a run (Ended end ∷ []) (over tt) b → IsSameThread w new
    → new.trace.items ≡ w.trace.items ++ EndedItem end ∷ [] → IsOver a b run (standing_of w false) (standing_of new true) end
over_at a b run w new end closed goes same items = record {
  goes = goes;
  settled = closed;
  fewer = same.fewer;
  new_is = rw (same.plan, same.thread, same.pause, same.owed, same.entering, same.section, same.last, items) refl;
}

-- the thread's rounds are over
pub finished : (a b : Account) (w mid new : Runner) (s : State) (end : End) (move : Move) (step : Step) → move ≡ Finished end → IsFinish end → w.section ≡ None
    → Goes a (left_to w) [] (moved mid.plan.now mid.machine s move) b
    → mid ≡ record w { begun = mid.begun; user = mid.user; config = mid.config; machine = mid.machine } → new ≡ record mid { trace = new.trace } → new.trace.items ≡ mid.trace.items ++ EndedItem end ∷ []
    → step ≡ EndedStep end → Gives a b (and_end (left_to w)) (standing_of w false) (standing_of new (is_end step)) step
finished a b w mid new s end move step move_is is closed goes mid_is new_is items step_is =
    let same : IsSameThread mid new = same_kept mid new new_is in
    let at_end : Goes a (left_to w) [] (over (ended end s)) b = subst (λ k. Goes a (left_to w) [] (moved mid.plan.now mid.machine s k) b) move_is goes in
    let done : IsOver a b (and_end (left_to w)) (standing_of w false) (standing_of new true) end =
    over_at a b (and_end (left_to w)) w new end closed (finish_goes a b (left_to w) s end is at_end) (same_then w mid new (same_moved w mid mid_is) same)
    (items ∙ ap (λ r. r.trace.items ++ EndedItem end ∷ []) mid_is) in
    subst (λ k. Gives a b (and_end (left_to w)) (standing_of w false) (standing_of new (is_end k)) k) (sym step_is)
    (ends a b (and_end (left_to w)) (standing_of w false) (standing_of new true) end is done)

-- ---- a step after what came before it

ends_behind : (a m b : Account) (run run' : Run (Unit {0})) (w : Standing) (begun : Bool) (user : UserState) (config : Config) (machine : Position) (new : Standing) (end : End) → Goes a run [] run' m
    → Ends m b run' (record w { begun = begun; user = user; config = config; machine = machine }) new end → Ends a b run w new end
ends_behind a m b run run' w begun user config machine new Stopped go g = g
ends_behind a m b run run' w begun user config machine new EndNoMemory go g = record { left = g.left; goes = goes-append go g.goes; fewer = g.fewer; new_is = g.new_is }
ends_behind a m b run run' w begun user config machine new end go g = record { goes = goes-append go g.goes; settled = g.settled; fewer = g.fewer; new_is = g.new_is }

step_behind : (a m b : Account) (run run' : Run (Unit {0})) (w : Standing) (begun : Bool) (user : UserState) (config : Config) (machine : Position) (new : Standing) (step : Step) → Goes a run [] run' m
    → Gives m b run' (record w { begun = begun; user = user; config = config; machine = machine }) new step → Gives a b run w new step
step_behind a m b run run' w begun user config machine new (SampledStep entry) go g = record {
  giver = g.giver;
  sample = g.sample;
  number = g.number;
  given_by = g.given_by;
  paused = g.paused;
  goes = goes-append go g.goes;
  heard = goes-append go g.heard;
  entry_is = g.entry_is;
  unit = g.unit;
  new_is = g.new_is;
}
step_behind a m b run run' w begun user config machine new NullStep go g = record {
  number = g.number;
  label = g.label;
  sampler = g.sampler;
  paused = g.paused;
  goes = goes-append go g.goes;
  heard = goes-append go g.heard;
  unit = g.unit;
  new_is = g.new_is;
}
step_behind a m b run run' w begun user config machine new (Enter lock) go g =
    record { lock_is = g.lock_is; none_open = g.none_open; heard = goes-append go g.heard; unit = g.unit; new_is = g.new_is }
step_behind a m b run run' w begun user config machine new (Leave lock) go g =
    record { lock_is = g.lock_is; open_ = g.open_; heard = goes-append go g.heard; fewer = g.fewer; new_is = g.new_is }
step_behind a m b run run' w begun user config machine new (EndedStep end) go g = ends_behind a m b run run' w begun user config machine new end go g

-- what the move names
pub gives_behind : (a m b : Account) (w mid new : Runner) (s : State) (move next : Move) (step : Step) → move ≡ next
    → Goes a (left_to w) [] (moved mid.plan.now mid.machine s move) m → mid ≡ record w { begun = mid.begun; user = mid.user; config = mid.config; machine = mid.machine }
    → Gives m b (and_end (moved mid.plan.now mid.machine s next)) (standing_of mid false) (standing_of new (is_end step)) step
    → Gives a b (and_end (left_to w)) (standing_of w false) (standing_of new (is_end step)) step
gives_behind a m b w mid new s move next step move_is goes mid_is g =
    let run' : Run Ending = moved mid.plan.now mid.machine s next in
    let at_next : Goes a (left_to w) [] run' m = subst (λ k. Goes a (left_to w) [] (moved mid.plan.now mid.machine s k) m) move_is goes in
    step_behind a m b (and_end (left_to w)) (and_end run') (standing_of w false) mid.begun mid.user mid.config mid.machine (standing_of new (is_end step)) step
    (goes-bind (λ e. give (Ended (end_of e.signal)) (over tt)) at_next)
    (subst (λ v. Gives m b (and_end run') v (standing_of new (is_end step)) step) (ap (λ r. standing_of r false) mid_is) g)

pub refused_behind : (a m b : Account) (w mid new : Runner) (s : State) (move next : Move) (error : VarError) → move ≡ next
    → Goes a (left_to w) [] (moved mid.plan.now mid.machine s move) m → mid ≡ record w { begun = mid.begun; user = mid.user; config = mid.config; machine = mid.machine }
    → IsRefusedAt m (moved mid.plan.now mid.machine s next) b mid new error → IsRefusedAt a (left_to w) b w new error
refused_behind a m b w mid new s move next error move_is goes mid_is r = record {
  state = r.state;
  refused = subst (λ o. Refused a (left_to w) b (leaving_open o (past r.state)) error) (ap (λ r. r.section) mid_is)
      (refused-first (subst (λ k. Goes a (left_to w) [] (moved mid.plan.now mid.machine s k) m) move_is goes) r.refused);
  same = same_then w mid new (same_moved w mid mid_is) r.same;
  trace = r.trace ∙ ap (λ r. r.trace) mid_is;
}

-- ---- a refusal

limit_of : {A : Type 0} (a b : Account) (run limit : Run A) (error : VarError) → error ≡ ValueLimit → Refused a run b limit error → Goes a run [] limit b
limit_of a b run limit error is (by_limit g) = g
limit_of a b run limit error is (by_memory h) = absurd (cc)

memory_of : {A : Type 0} (a b : Account) (run limit : Run A) (error : VarError) → error ≡ NoMemory → Refused a run b limit error → (left : Run A) × Goes a run [] left b
memory_of a b run limit error is (by_limit g) = absurd (cc)
memory_of a b run limit error is (by_memory h) = h

-- ---- an end by a limit

-- it leaves the open section, and then comes the end
pub limit_ends : (o : Option ℕ) (end : End) (s : State) → and_end (leaving_open o (over (stopped end s))) ≡ leaving_open o (give (Ended end) (over tt))
limit_ends None end s = refl
limit_ends (Some lock) end s = refl

ends_limit : (a b : Account) (run : Run (Unit {0})) (old new : Standing) (end : End) → IsLimit end → IsOver a b run old new end → Ends a b run old new end
ends_limit a b run old new SampleLimit is h = h
ends_limit a b run old new PastValueLimit is h = h
ends_limit a b run old new end is h = absurd is

-- a thread is ended by a limit
module _ (a b : Account) (run : Run (Unit {0})) (w mid new : Runner) (end : End) (step : Step) (limit : IsLimit end) (known : IfSome w.section (IsLock w.plan.now.elements)) (same : IsSameThread w mid)
    (items : mid.trace.items ≡ w.trace.items) where
  over_so : w.section ≡ None → Goes a run [] (give (Ended end) (over tt)) b → EndsBy None mid new end step → Gives a b run (standing_of w false) (standing_of new (is_end step)) step
  over_so closed goes e =
      let done : IsOver a b run (standing_of w false) (standing_of new true) end =
      over_at a b run w new end closed (goes-append goes (goes-give b (Ended end) (over tt))) (same_then w mid new same (same_kept mid new e.2)) (e.1 ∙ ap (λ xs. xs ++ EndedItem end ∷ []) items) in
      subst (λ k. Gives a b run (standing_of w false) (standing_of new (is_end k)) k) (sym e.0) (ends_limit a b run (standing_of w false) (standing_of new true) end limit done)

  left_so : (lock : ℕ) → w.section ≡ Some lock → Goes a run [] (give (Left lock) (give (Ended end) (over tt))) b → EndsBy (Some lock) mid new end step
      → Gives a b run (standing_of w false) (standing_of new (is_end step)) step
  left_so lock is goes e =
      let next : IsSameThread mid (record new { section = mid.section; last = mid.last }) = same_left mid new end e.2 in
      let left : rest (standing_of new false) ≡ give (Ended end) (over tt) =
      ap (λ o. before_end o (after_pause new.pause (and_end (left_to new)))) (ap (λ r. r.last) e.2) in
      let g : LeavesSection a b run (standing_of w false) (standing_of new false) lock = record {
        lock_is = subst (λ o. IfSome o (IsLock w.plan.now.elements)) is known;
        open_ = is;
        heard = subst (λ k. Goes a run [] (give (Left lock) k) b) (sym left) goes;
        fewer = let x = same.fewer in let y = next.fewer in omega (arith, x, y);
        new_is = rw (next.plan ∙ same.plan, next.thread ∙ same.thread, next.pause ∙ same.pause, next.owed ∙ same.owed, next.entering ∙ same.entering, ap (λ r. r.section) e.2, e.1 ∙ ap (λ xs. xs ++ LeftItem lock ∷ []) items) refl;
      } in
      subst (λ k. Gives a b run (standing_of w false) (standing_of new (is_end k)) k) (sym e.0) g

  by_section : (o : Option ℕ) → w.section ≡ o → Goes a run [] (leaving_open o (give (Ended end) (over tt))) b → EndsBy o mid new end step
      → Gives a b run (standing_of w false) (standing_of new (is_end step)) step
  by_section None is goes e = over_so is goes e
  by_section (Some lock) is goes e = left_so lock is goes e

  pub limit_gives : Goes a run [] (leaving_open w.section (give (Ended end) (over tt))) b → EndsBy mid.section mid new end step
      → Gives a b run (standing_of w false) (standing_of new (is_end step)) step
  limit_gives goes e = by_section w.section refl goes (subst (λ o. EndsBy o mid new end step) same.section e)

-- past a limit the open section is left, and the thread ends
pub past_the_limit : (a b : Account) (w mid new : Runner) (error : VarError) (step : Step) → w.pause ≡ 0 → w.last ≡ None → IfSome w.section (IsLock w.plan.now.elements) → error ≡ ValueLimit
    → IsRefusedAt a (left_to w) b w mid error → EndsBy mid.section mid new PastValueLimit step
    → Gives a b (rest (standing_of w false)) (standing_of w false) (standing_of new (is_end step)) step
past_the_limit a b w mid new error step paused last known is r ends =
    let stop : Goes a (left_to w) [] (leaving_open w.section (past r.state)) b = limit_of a b (left_to w) (leaving_open w.section (past r.state)) error is r.refused in
    let goes : Goes a (rest (standing_of w false)) [] (leaving_open w.section (give (Ended PastValueLimit) (over tt))) b =
    subst (λ k. Goes a k [] (leaving_open w.section (give (Ended PastValueLimit) (over tt))) b) (sym (rest_on w paused last))
    (subst (λ k. Goes a (and_end (left_to w)) [] k b) (limit_ends w.section PastValueLimit r.state) (goes-bind (λ e. give (Ended (end_of e.signal)) (over tt)) stop)) in
    limit_gives a b (rest (standing_of w false)) w mid new PastValueLimit step tt known r.same (ap (λ t. t.items) r.trace) goes ends

-- out of memory, it is cut
pub cut_there : (a b : Account) (w mid : Runner) (error : VarError) → w.pause ≡ 0 → w.last ≡ None → error ≡ NoMemory → IsRefusedAt a (left_to w) b w mid error → IsCutAt a b w mid
cut_there a b w mid error paused last is r =
    let h : (left : Run Ending) × Goes a (left_to w) [] left b = memory_of a b (left_to w) (leaving_open w.section (past r.state)) error is r.refused in
    record {
      left = and_end h.0;
      goes = subst (λ k. Goes a k [] (and_end h.0) b) (sym (rest_on w paused last)) (goes-bind (λ e. give (Ended (end_of e.signal)) (over tt)) h.1);
      same = r.same;
      items = ap (λ t. t.items) r.trace;
    }

-- ---- the pause before the first variables

pause_goes : (a b : Account) (run : Run (Unit {0})) (ms : ℕ) → (ms ≡ 0 → ⊥) → Goes {A = Unit {0}} a (wait ms (over tt)) [] (over tt) b
    → Goes a (after_pause ms run) (Waited ms ∷ []) run b
pause_goes a b run zero some g = absurd (some refl)
pause_goes a b run (suc ms) some g = goes-append (goes-bind (λ u. give (Waited (suc ms)) run) g) (goes-give b (Waited (suc ms)) run)

pause_heard : (a b : Account) (run : Run (Unit {0})) (ms : ℕ) → (ms ≡ 0 → ⊥) → Goes {A = Unit {0}} a (wait ms (over tt)) [] (over tt) b
    → Goes a (after_pause ms run) [] (give (Waited ms) run) b
pause_heard a b run zero some g = absurd (some refl)
pause_heard a b run (suc ms) some g = goes-bind (λ u. give (Waited (suc ms)) run) g

pub has_begun : (a b : Account) (w new : Runner) → w.last ≡ None → (w.pause ≡ 0 → ⊥) → Goes {A = Unit {0}} a (wait w.pause (over tt)) [] (over tt) b
    → new ≡ record w { pause = 0; trace = new.trace } → new.trace.items ≡ w.trace.items ++ PausedItem w.pause ∷ [] → IsBegun a b w new
has_begun a b w new last some g kept items = record {
  begins = inl (subst (λ n. HasPaused a b (standing_of w false) (standing_of n false)) (sym kept) paused);
  kept = kept;
} where
  run : Run (Unit {0})
  run = and_end (left_to w)

  after : Runner
  after = record w { pause = 0; trace = new.trace }

  paused : HasPaused a b (standing_of w false) (standing_of after false)
  paused = record {
    goes = subst (λ k. Goes a k (Waited w.pause ∷ []) (rest (standing_of after false)) b) (sym (rest_before w last))
        (subst (λ k. Goes a (after_pause w.pause run) (Waited w.pause ∷ []) k b) (sym (rest_before after last)) (pause_goes a b run w.pause some g));
    heard = subst (λ k. Goes a k [] (give (Waited w.pause) (rest (standing_of after false))) b) (sym (rest_before w last))
        (subst (λ k. Goes a (after_pause w.pause run) [] (give (Waited w.pause) k) b) (sym (rest_before after last)) (pause_heard a b run w.pause some g));
    new_is = rw items refl;
  }

pub cut_before : (a b : Account) (w new : Runner) → TellsNothing a b → IsSameThread w new → new.trace.items ≡ w.trace.items → IsCutAfter a b w new
cut_before a b w new still same items = record {
  begun = a;
  between = w;
  begins = inr (record { account = refl; standing = refl });
  cut = record { left = rest (standing_of w false); goes = goes-tells_nothing (goes-nothing a (rest (standing_of w false))) still; same = same; items = items };
}

pub cut_at_once : (a : Account) (w new : Runner) → IsSameThread w new → new.trace.items ≡ w.trace.items → IsCutAfter a a w new
cut_at_once a w new same items = record {
  begun = a;
  between = w;
  begins = inr (record { account = refl; standing = refl });
  cut = record { left = rest (standing_of w false); goes = goes-nothing a (rest (standing_of w false)); same = same; items = items };
}

-- after room was taken and the pause was made: what begins there
module _ (a m b : Account) (w : Runner) (t : Recorded) (mid new : Runner) where
  begins_before : t.items ≡ w.trace.items → IsBegun a m (record w { trace = t }) mid → Begins a m (standing_of w false) (standing_of mid false)
  begins_before same begun = subst (λ xs. Begins a m (record (standing_of w false) { trace = xs }) (standing_of mid false)) same begun.begins

  -- a thread that has made its next move
  pub begun_steps : (step : Step) → t.items ≡ w.trace.items → IsBegun a m (record w { trace = t }) mid → Gives m b (rest (standing_of mid false)) (standing_of mid false) (standing_of new (is_end step)) step
      → Steps a b (standing_of w false) (standing_of new (is_end step)) step
  begun_steps step same begun gives = record { begun = m; between = standing_of mid false; begins = begins_before same begun; gives = gives }

  -- one that was cut
  pub cut_later : t.items ≡ w.trace.items → IsBegun a m (record w { trace = t }) mid → IsCutAt m b mid new → IsCutAfter a b w new
  cut_later same begun cut = record { begun = m; between = mid; begins = begins_before same begun; cut = cut }

-- a thread that was cut has ended out of memory, and its open section was left
pub cut_ended : (a b : Account) (w new : Runner) (t : Recorded) → IsCutAfter a b w new → t.items ≡ new.trace.items ++ (left_traced new.section ++ EndedItem EndNoMemory ∷ [])
    → Steps a b (standing_of w false) (standing_of (record new { section = None; trace = t }) true) (EndedStep EndNoMemory)
cut_ended a b w new t h items = record {
  begun = h.begun;
  between = standing_of h.between false;
  begins = h.begins;
  gives = record {
    left = h.cut.left;
    goes = h.cut.goes;
    fewer = h.cut.same.fewer;
    new_is = rw (h.cut.same.plan, h.cut.same.thread, h.cut.same.pause, h.cut.same.owed, h.cut.same.entering, h.cut.same.last, items, h.cut.items, h.cut.same.section) refl;
  };
}

-- ---- a thread before its first step

pub first_is : (plan : Tree) (thread : ℕ) (options : Options) (user : UserState) (rounds : ℕ) (places config : List ℕ) → user ≡ first_user plan thread options.seed options.props → rounds ≡ max_rounds
    → places ≡ first_places plan.elements → config ≡ first_config plan.elements
    → state_of user (record { units = options.budget; rounds = rounds; places = places; config = config }) ≡ first_of plan thread options
first_is plan thread options user rounds places config u r p c = rw (u, r, p, c) refl

module _ (w : Runner) (options : Options) (pause : w.pause ≡ pause_of w.plan.now w.thread) (begun : w.begun ≡ false)
    (first : state_in (standing_of w false) ≡ first_of w.plan.now w.thread options)
    (whole : (user : UserState) (own : Own) → own.rounds ≡ max_rounds
    → left_of w.plan.now w.machine (state_of user own)
    ≡ group_part (here_at w.plan.now (group_of w.plan.now w.thread)) (group_of w.plan.now w.thread) (slice_get w.plan.now.elements (group_of w.plan.now w.thread)) (state_of user own)) where
  abbrev group : ℕ
  group = group_of w.plan.now w.thread

  part_is : left_to w ≡ thread_part w.plan.now group (first_of w.plan.now w.thread options)
  part_is =
      left_first w begun
      ∙ ap (λ s. and_then (set_first w.plan.now.elements s) (left_of w.plan.now w.machine)) first
      ∙ first_alike (record { units = options.budget; rounds = max_rounds; places = first_places w.plan.now.elements; config = first_config w.plan.now.elements }) w.plan.now.elements (left_of w.plan.now w.machine)
      (group_part (here_at w.plan.now group) group (slice_get w.plan.now.elements group))
      (λ user. whole user (record { units = options.budget; rounds = max_rounds; places = first_places w.plan.now.elements; config = first_config w.plan.now.elements }) refl) (first_of w.plan.now w.thread options).user

  whole_is : after_pause w.pause (and_end (left_to w)) ≡ events w.plan.now w.thread options
  unfolding events
  whole_is = ap (λ n. after_pause n (and_end (left_to w))) pause ∙ ap (λ r. after_pause (pause_of w.plan.now w.thread) (and_end r)) part_is

  pub starts : w.owed ≡ None → w.entering ≡ None → w.section ≡ None → w.last ≡ None → w.trace.items ≡ [] → IsAtStart w.plan.now w.thread options (standing_of w false)
  starts owed entering section last items = record {
    plan_is = refl;
    thread_is = refl;
    units_are = ap (λ s. s.own.units) first;
    left = rest_before w last ∙ whole_is;
    owes_nothing = owed;
    enters_none = entering;
    none_open = section;
    no_items = items;
    goes_on = refl;
  }

pub on_err : {X E : Type 0} (r : Result X E) (P : Type 0) → P → OnErr r P
on_err (Ok x) P p = tt
on_err (Err e) P p = p

-- ---- sections

-- the end by a limit comes after the section was left
pub ends_last : (a : Account) (w new : Runner) (end : End) (step : Step) → w.last ≡ Some end → IfSome w.last (λ end. IsLimit end × (w.section ≡ None)) → step ≡ EndedStep end
    → new ≡ record w { trace = new.trace } → new.trace.items ≡ w.trace.items ++ EndedItem end ∷ [] → Steps a a (standing_of w false) (standing_of new (is_end step)) step
ends_last a w new end step last limit step_is kept items =
    let l : IsLimit end × (w.section ≡ None) = subst (λ o. IfSome o (λ end. IsLimit end × (w.section ≡ None))) last limit in
    let left : rest (standing_of w false) ≡ give (Ended end) (over tt) = ap (λ o. before_end o (after_pause w.pause (and_end (left_to w)))) last in
    let goes : Goes a (rest (standing_of w false)) (Ended end ∷ []) (over tt) a = subst (λ k. Goes a k (Ended end ∷ []) (over tt) a) (sym left) (goes-give a (Ended end) (over tt)) in
    let done : IsOver a a (rest (standing_of w false)) (standing_of w false) (standing_of new true) end = over_at a a (rest (standing_of w false)) w new end l.1 goes (same_kept w new kept) items in
    record {
      begun = a;
      between = standing_of w false;
      begins = inr (record { account = refl; standing = refl });
      gives = subst (λ k. Gives a a (rest (standing_of w false)) (standing_of w false) (standing_of new (is_end k)) k) (sym step_is)
          (ends_limit a a (rest (standing_of w false)) (standing_of w false) (standing_of new true) end l.0 done);
    }

-- a section is left where the thread comes out of its element
pub left_section : (a b : Account) (w mid new : Runner) (lock : ℕ) (move : Move) (step : Step) → move ≡ LeaveSection lock → IsLock w.plan.now.elements lock → w.section ≡ Some lock → w.pause ≡ 0 → w.last ≡ None
    → Goes a (left_to w) [] (moved mid.plan.now mid.machine (state_in (standing_of mid false)) move) b
    → mid ≡ record w { begun = mid.begun; user = mid.user; config = mid.config; machine = mid.machine } → mid.begun ≡ true
    → new ≡ record mid { section = None; trace = new.trace } → new.trace.items ≡ mid.trace.items ++ LeftItem lock ∷ [] → step ≡ Leave lock
    → Gives a b (and_end (left_to w)) (standing_of w false) (standing_of new (is_end step)) step
left_section a b w mid new lock move step move_is there is paused last goes mid_is begun new_is items step_is =
    let n : Runner = record mid { section = None; trace = new.trace } in
    let same : IsSameThread w mid = same_moved w mid mid_is in
    let left : rest (standing_of n false) ≡ and_end (left_of mid.plan.now mid.machine (state_in (standing_of mid false))) =
    rest_on n (same.pause ∙ paused) (same.last ∙ last) ∙ ap and_end (left_on n begun) in
    let at_left : Goes a (left_to w) [] (give (Left lock) (left_of mid.plan.now mid.machine (state_in (standing_of mid false)))) b =
    subst (λ k. Goes a (left_to w) [] (moved mid.plan.now mid.machine (state_in (standing_of mid false)) k) b) move_is goes in
    let g : LeavesSection a b (and_end (left_to w)) (standing_of w false) (standing_of n false) lock = record {
      lock_is = there;
      open_ = is;
      heard = subst (λ k. Goes a (and_end (left_to w)) [] (give (Left lock) k) b) (sym left) (goes-bind (λ e. give (Ended (end_of e.signal)) (over tt)) at_left);
      fewer = same.fewer;
      new_is = rw (same.plan, same.thread, same.pause, same.owed, same.entering, items, ap (λ r. r.trace.items) mid_is) refl;
    } in
    subst (λ k. Gives a b (and_end (left_to w)) (standing_of w false) (standing_of new (is_end k)) k) (sym step_is)
    (subst (λ k. LeavesSection a b (and_end (left_to w)) (standing_of w false) (standing_of k false) lock) (sym new_is) g)

-- a section is to be entered
module _ (w : Runner) (lock : ℕ) (a : Account) (there : IsLock w.plan.now.elements lock) (closed : w.section ≡ None) where
  abbrev entering_run : Run Ending
  entering_run = moved w.plan.now w.machine (state_in (standing_of w false)) (EnterSection lock)

  abbrev next : Part
  next s = give (Entered lock) (left_of w.plan.now w.machine s)

  -- no unit is left
  pub enters_none : (new : Runner) (step : Step) → w.units ≡ 0 → new ≡ record w { trace = new.trace } → new.trace.items ≡ w.trace.items ++ EndedItem SampleLimit ∷ [] → step ≡ EndedStep SampleLimit
      → Gives a a (and_end entering_run) (standing_of w false) (standing_of new (is_end step)) step
  enters_none new step none new_is items step_is =
      let s : State = state_in (standing_of w false) in
      let goes : Goes a entering_run [] (over (stopped SampleLimit s)) a =
      subst (λ k. Goes a entering_run [] k a) (no-units s next none) (goes-nothing a entering_run) in
      subst (λ k. Gives a a (and_end entering_run) (standing_of w false) (standing_of new (is_end k)) k) (sym step_is)
      (over_at a a (and_end entering_run) w new SampleLimit closed (end_goes a a entering_run s SampleLimit goes) (same_kept w new new_is) items)

  -- a unit is used
  pub enters_one : (w.units ≡ 0 → ⊥) → w.pause ≡ 0 → w.last ≡ None → w.begun ≡ true
      → EntersSection a a (and_end entering_run) (standing_of w false) (standing_of (record w { units = w.units - 1; entering = Some lock }) false) lock
  enters_one some paused last begun =
      let s : State = state_in (standing_of w false) in
      let n : Runner = record w { units = w.units - 1; entering = Some lock } in
      let own : Own = record { units = w.units - 1; rounds = w.machine.rounds; places = w.machine.places; config = w.config.places } in
      let some_units : w.units ≡ suc (w.units - 1) = omega arith in
      let is : entering_run ≡ give (Entered lock) (left_of w.plan.now w.machine (state_of w.user own)) = one-unit s next (w.units - 1) some_units in
      let left : rest (standing_of n false) ≡ and_end (left_of w.plan.now w.machine (state_of w.user own)) = rest_on n paused last ∙ ap and_end (left_on n begun) in
      let goes : Goes a (and_end entering_run) [] (give (Entered lock) (and_end (left_of w.plan.now w.machine (state_of w.user own)))) a =
      subst (λ k. Goes a (and_end entering_run) [] k a) (ap and_end is) (goes-nothing a (and_end entering_run)) in
      record {
        lock_is = there;
        none_open = closed;
        heard = subst (λ k. Goes a (and_end entering_run) [] (give (Entered lock) k) a) (sym left) goes;
        unit = omega (arith, some_units);
        new_is = ap (λ k. record (standing_of n false) { begun = k }) begun;
      }
