-- A thread that goes on after a part of a step.
use Rattle.std.proofs.Common.{◌≡◌, ℕ, ◌+◌, ◌-◌, ◌≤◌, true, false, Option, Some, None, refl, sym, ap, ◌∙◌, subst, arith}
use Rattle.std.specs.Prelude.{IfSome}
use Rattle.jm_base.specs.declared.types.End.{End}
use Rattle.jm_base.specs.declared.types.Entry.{Entry}
use Rattle.jm_base.specs.declared.types.Sample.{Sample}
use Rattle.element_tree.specs.Tree.{Tree}
use Rattle.var_functions.specs.declared.state.UserState.{UserState}
use Rattle.config_elements.specs.RoundStart.{feeds_of}
use Rattle.node_table.specs.KeptPackages.{packages_of}
use Rattle.control_machine.specs.Hearing.{told}
use Rattle.control_machine.specs.Left.{StandsIn, IsLock, open_lock}
use Rattle.thread_machine.specs.declared.runner.Runner.{Runner}
use Rattle.thread_machine.specs.declared.step.Step.{Step}
use Rattle.thread_machine.specs.declared.step.Step.TheVariants.{Sampled, Leave, Ended}
use Rattle.thread_machine.specs.Recorded.{Recorded}
use Rattle.thread_machine.specs.Inside.{owed_count, held, IsLimit, MovesOn, GoesOn, IsMoving, IsEntering}
use Rattle.thread_machine.specs.Ran.{GoesOnAfter, EndsBy}

-- ---- more moves

-- what the thread has open is what its machine has
pub lock_open : (w : Runner) → MovesOn w → w.entering ≡ None → w.section ≡ open_lock w.machine.stack.frames
lock_open w m none = sym (ap (λ o. held o w.section) none) ∙ m.lock

-- another moment of the same thread, of which nothing is owed
pub record IsNext (w n : Runner) : Type 0 where
  pub plan : n.plan.now ≡ w.plan.now
  pub section : n.section ≡ w.section
  pub entering : n.entering ≡ w.entering
  pub last : n.last ≡ w.last
  pub feeds : n.config.feeds ≡ w.config.feeds
  pub group : n.machine.group.element ≡ w.machine.group.element
  pub lock : open_lock n.machine.stack.frames ≡ open_lock w.machine.stack.frames

pub feeds_on : (w n : Runner) → n.plan.now ≡ w.plan.now → n.config.feeds ≡ w.config.feeds → n.machine.group.element ≡ w.machine.group.element
    → w.config.feeds ≡ feeds_of w.plan.now.elements w.machine.group.element → n.config.feeds ≡ feeds_of n.plan.now.elements n.machine.group.element
feeds_on w n plan feeds group is =
    feeds ∙ is ∙ ap (λ (p : Tree). feeds_of p.elements w.machine.group.element) (sym plan) ∙ ap (feeds_of n.plan.now.elements) (sym group)

pub known_on : (w n : Runner) → n.plan.now ≡ w.plan.now → n.section ≡ w.section → IfSome w.section (IsLock w.plan.now.elements) → IfSome n.section (IsLock n.plan.now.elements)
known_on w n plan section known = rw (plan, section) known

not_begun : (w : Runner) → w.begun ≡ true → w.begun ≡ false → w.section ≡ None
not_begun w begun unbegun = absurd (let i : true ≡ false = sym begun ∙ unbegun in cc)

pub moves_next : (w n : Runner) → IsNext w n → w.entering ≡ None → n.begun ≡ true → MovesOn w → StandsIn n.plan.now n.machine → n.table ≡ packages_of n.plan.now.elements → MovesOn n
moves_next w n s none begun m stands table = record {
  stands = stands;
  lock = ap (λ o. held o n.section) (s.entering ∙ none) ∙ s.section ∙ lock_open w m none ∙ sym s.lock;
  first = λ unbegun. not_begun n begun unbegun;
  feeds = feeds_on w n s.plan s.feeds s.group m.feeds;
  table = table;
}

-- after the moves up to the next that ends a step
pub moves_on_next : (w mid : Runner) → MovesOn w → w.entering ≡ None → mid ≡ record w { begun = mid.begun; user = mid.user; config = mid.config; machine = mid.machine } → mid.begun ≡ true
    → StandsIn mid.plan.now mid.machine → mid.config.feeds ≡ feeds_of mid.plan.now.elements mid.machine.group.element → open_lock mid.machine.stack.frames ≡ w.section → MovesOn mid
moves_on_next w mid m none is begun stands feeds lock = record {
  stands = stands;
  lock = ap (λ r. held r.entering r.section) is ∙ ap (λ o. held o w.section) none ∙ sym lock;
  first = λ unbegun. not_begun mid begun unbegun;
  feeds = feeds;
  table = subst (λ (r : Runner). r.table ≡ packages_of r.plan.now.elements) (sym is) m.table;
}

-- ---- a thread that goes on

limit_none : (o : Option End) (P : Option End → End → Type 0) → o ≡ None → IfSome o (P o)
limit_none o P none = subst (λ o. IfSome o (P o)) (sym none) tt

enters_none : (n : Runner) → n.entering ≡ None → IfSome n.entering (λ lock. (n.begun ≡ true) × (n.last ≡ None) × (n.section ≡ None) × (n.owed ≡ None) × IsLock n.plan.now.elements lock)
enters_none n none = subst (λ o. IfSome o (λ lock. (n.begun ≡ true) × (n.last ≡ None) × (n.section ≡ None) × (n.owed ≡ None) × IsLock n.plan.now.elements lock)) (sym none) tt

pub goes_on : (n : Runner) → n.last ≡ None → n.entering ≡ None → 2 + owed_count n.owed ≤ n.trace.room → MovesOn n → IfSome n.section (IsLock n.plan.now.elements) → GoesOn n
goes_on n last entering room moves known = record {
  room = (let none = ap owed_count entering in omega (arith, room, none));
  moves = λ h. moves;
  limit = limit_none n.last (λ o end. IsLimit end × (n.section ≡ None)) last;
  known = known;
  enters = enters_none n entering;
}

-- no end comes next
pub none_last : (o : Option End) → ((end : End) → o ≡ Some end → ⊥) → o ≡ None
none_last None h = refl
none_last (Some end) h = absurd (h end refl)

no_last : (end : End) (o : Option End) → o ≡ Some end → o ≡ None → ⊥
no_last end o some none = let i : Some end ≡ None = sym some ∙ none in cc

-- a section was left for a limit, and the end comes next
pub goes_last : (n : Runner) (end : End) → IsLimit end → n.last ≡ Some end → n.section ≡ None → n.entering ≡ None → 2 + owed_count n.owed ≤ n.trace.room → GoesOn n
goes_last n end limit last closed entering room = record {
  room = (let none = ap owed_count entering in omega (arith, room, none));
  moves = λ h. absurd (no_last end n.last last h);
  limit = subst (λ o. IfSome o (λ end. IsLimit end × (n.section ≡ None))) (sym last) (limit, closed);
  known = subst (λ o. IfSome o (IsLock n.plan.now.elements)) (sym closed) tt;
  enters = enters_none n entering;
}

-- a thread that a limit ends
ends_so : (w n : Runner) (end : End) (o : Option ℕ) (step : Step) → IsLimit end → w.section ≡ o → w.owed ≡ None → w.entering ≡ None → 3 ≤ w.trace.room → w.trace.room ≤ n.trace.room + 1
    → EndsBy o w n end step → GoesOnAfter n step
ends_so w n end None step limit is owed entering room left e =
    subst (GoesOnAfter n) (sym e.0) (record { owed = ap (λ r. r.owed) e.2 ∙ owed; entering = ap (λ r. r.entering) e.2 ∙ entering; section = ap (λ r. r.section) e.2 ∙ is })
ends_so w n end (Some lock) step limit is owed entering room left e =
    let none : owed_count n.owed ≡ 0 = ap owed_count (ap (λ r. r.owed) e.2 ∙ owed) in
    subst (GoesOnAfter n) (sym e.0) (goes_last n end limit (ap (λ r. r.last) e.2) (ap (λ r. r.section) e.2) (ap (λ r. r.entering) e.2 ∙ entering) (omega (arith, none, room, left)))

pub ends_on : (w n : Runner) (end : End) (step : Step) → IsLimit end → w.owed ≡ None → w.entering ≡ None → 3 ≤ w.trace.room → w.trace.room ≤ n.trace.room + 1 → EndsBy w.section w n end step → GoesOnAfter n step
ends_on w n end step limit owed entering room left e = ends_so w n end w.section step limit refl owed entering room left e

-- a thread that has ended
pub has_settled : (w n : Runner) (step : Step) (end : End) → step ≡ Ended end → n.owed ≡ w.owed → n.entering ≡ w.entering → n.section ≡ w.section → w.owed ≡ None → w.entering ≡ None → w.section ≡ None → GoesOnAfter n step
has_settled w n step end is owed entering section no_owed no_entering no_section =
    subst (GoesOnAfter n) (sym is) (record { owed = owed ∙ no_owed; entering = entering ∙ no_entering; section = section ∙ no_section })

-- a section is left where the thread comes out of its element
pub left_goes : (w mid n : Runner) (lock : ℕ) (step : Step) → step ≡ Leave lock → IsMoving w
    → mid ≡ record w { begun = mid.begun; user = mid.user; config = mid.config; machine = mid.machine } → mid.begun ≡ true → n ≡ record mid { section = None; trace = n.trace } → mid.trace.room ≤ n.trace.room + 1
    → StandsIn mid.plan.now mid.machine → mid.config.feeds ≡ feeds_of mid.plan.now.elements mid.machine.group.element → open_lock mid.machine.stack.frames ≡ None → GoesOnAfter n step
left_goes w mid n lock step is m mid_is begun new_is left stands feeds none =
    let k : Runner = record mid { section = None; trace = n.trace } in
    let room_is : mid.trace.room ≡ w.trace.room = ap (λ r. r.trace.room) mid_is in
    let no_owed : owed_count mid.owed ≡ 0 = ap owed_count (ap (λ r. r.owed) mid_is ∙ m.owed) in
    let no_entering : mid.entering ≡ None = ap (λ r. r.entering) mid_is ∙ m.entering in
    let moves : MovesOn k = record {
      stands = stands;
      lock = ap (λ o. held o None) no_entering ∙ sym none;
      first = λ unbegun. absurd (let i : true ≡ false = sym begun ∙ unbegun in cc);
      feeds = feeds;
      table = subst (λ (r : Runner). r.table ≡ packages_of r.plan.now.elements) (sym mid_is) m.moves.table;
    } in
    let g : GoesOn k = goes_on k (ap (λ r. r.last) mid_is ∙ m.last) no_entering (omega (arith, m.room, room_is, no_owed, left)) moves tt in
    subst (GoesOnAfter n) (sym is) (subst GoesOn (sym new_is) g)

-- a section is to be entered
pub enters_goes : (w : Runner) (lock units : ℕ) → IsEntering w lock → GoesOn (record w { units = units; entering = Some lock })
enters_goes w lock units e = record {
  room = (let none = ap owed_count e.owed in omega (arith, e.room, none));
  moves = λ h. record { stands = e.stands; lock = sym e.held; first = λ unbegun. e.none_open; feeds = e.feeds; table = e.table };
  limit = limit_none w.last (λ o end. IsLimit end × (w.section ≡ None)) e.last;
  known = subst (λ o. IfSome o (IsLock w.plan.now.elements)) (sym e.none_open) tt;
  enters = (e.begun, e.last, e.none_open, e.owed, e.there);
}

-- after the pause before the first variables
pub goes_paused : (w n : Runner) → n ≡ record w { pause = 0; trace = n.trace } → GoesOn w → w.owed ≡ None → w.entering ≡ None → 4 ≤ n.trace.room → GoesOn n
goes_paused w n is on owed entering room =
    let k : Runner = record w { pause = 0; trace = n.trace } in
    let no_owed : owed_count w.owed ≡ 0 = ap owed_count owed in
    let no_entering : owed_count w.entering ≡ 0 = ap owed_count entering in
    let g : GoesOn k = record {
      room = omega (arith, room, no_owed, no_entering);
      moves = λ h. (let m : MovesOn w = on.moves h in record { stands = m.stands; lock = m.lock; first = m.first; feeds = m.feeds; table = m.table });
      limit = on.limit;
      known = on.known;
      enters = on.enters;
    } in
    subst GoesOn (sym is) g

-- ---- a thread that is at its moves

pub moving_first : (w n : Runner) → n ≡ record w { pause = 0; trace = n.trace } → GoesOn w → w.owed ≡ None → w.entering ≡ None → w.last ≡ None → 4 ≤ n.trace.room → IsMoving n
moving_first w n is on owed entering last room =
    let none : n.last ≡ None = ap (λ r. r.last) is ∙ last in
    let g : GoesOn n = goes_paused w n is on owed entering room in
    record {
      owed = ap (λ r. r.owed) is ∙ owed;
      entering = ap (λ r. r.entering) is ∙ entering;
      last = none;
      pause = ap (λ r. r.pause) is;
      moves = g.moves none;
      known = g.known;
      room = room;
    }

module _ (w mid : Runner) (m : IsMoving w) (is : mid ≡ record w { begun = mid.begun; user = mid.user; config = mid.config; machine = mid.machine }) (begun : mid.begun ≡ true)
    (stands : StandsIn mid.plan.now mid.machine) (feeds : mid.config.feeds ≡ feeds_of mid.plan.now.elements mid.machine.group.element) where
  room_same : 4 ≤ mid.trace.room
  room_same = subst (λ (r : Runner). 4 ≤ r.trace.room) (sym is) m.room

  -- after a move that neither enters nor leaves a section
  pub moving_next : open_lock mid.machine.stack.frames ≡ w.section → IsMoving mid
  moving_next lock = record {
    owed = ap (λ r. r.owed) is ∙ m.owed;
    entering = ap (λ r. r.entering) is ∙ m.entering;
    last = ap (λ r. r.last) is ∙ m.last;
    pause = ap (λ r. r.pause) is ∙ m.pause;
    moves = moves_on_next w mid m.moves m.entering is begun stands feeds lock;
    known = known_on w mid (ap (λ r. r.plan.now) is) (ap (λ r. r.section) is) m.known;
    room = room_same;
  }

  -- after a move that comes to a section
  pub entering_next : (lock : ℕ) → (w.section ≡ None) × (open_lock mid.machine.stack.frames ≡ Some lock) → IsLock mid.plan.now.elements lock → IsEntering mid lock
  entering_next lock opens there = record {
    owed = ap (λ r. r.owed) is ∙ m.owed;
    entering = ap (λ r. r.entering) is ∙ m.entering;
    last = ap (λ r. r.last) is ∙ m.last;
    pause = ap (λ r. r.pause) is ∙ m.pause;
    begun = begun;
    none_open = ap (λ r. r.section) is ∙ opens.0;
    held = opens.1;
    stands = stands;
    feeds = feeds;
    table = subst (λ (r : Runner). r.table ≡ packages_of r.plan.now.elements) (sym is) m.moves.table;
    room = room_same;
    there = there;
  }

-- ---- after a sampler and a transaction's sample

module _ (w : Runner) (moving : IsMoving w) (begun : w.begun ≡ true) where
  module _ (user : UserState) (t : Recorded) (less : w.trace.room ≤ t.room + 1) where
    -- the sampler has run, and its pause is in the trace
    abbrev mid : Runner
    mid = record w { user = user; units = w.units - 1; trace = t }

    room_left : 3 ≤ t.room
    room_left = omega (arith, moving.room, less)

    -- a sample is owed
    pub sampled_goes : (new : Runner) (sample : Sample) (entry : Entry) (step : Step) → step ≡ Sampled entry → new ≡ record mid { owed = Some sample; machine = told sample w.machine }
        → (StandsIn w.plan.now w.machine → StandsIn w.plan.now new.machine) → open_lock new.machine.stack.frames ≡ open_lock w.machine.stack.frames → GoesOnAfter new step
    sampled_goes new sample entry step step_is is stands lock =
        let next : IsNext w new = record {
          plan = ap (λ r. r.plan.now) is;
          section = ap (λ r. r.section) is;
          entering = ap (λ r. r.entering) is;
          last = ap (λ r. r.last) is;
          feeds = ap (λ r. r.config.feeds) is;
          group = ap (λ r. r.machine.group.element) is;
          lock = lock;
        } in
        let one : owed_count new.owed ≡ 1 = ap (λ r. owed_count r.owed) is in
        let left : new.trace.room ≡ t.room = ap (λ r. r.trace.room) is in
        let three : 3 ≤ t.room = room_left in
        subst (GoesOnAfter new) (sym step_is) (goes_on new (next.last ∙ moving.last) (next.entering ∙ moving.entering) (omega (arith, one, left, three))
        (moves_next w new next moving.entering (ap (λ r. r.begun) is ∙ begun) moving.moves (subst (λ (p : Tree). StandsIn p new.machine) (sym next.plan) (stands moving.moves.stands))
        (subst (λ (r : Runner). r.table ≡ packages_of r.plan.now.elements) (sym is) moving.moves.table))
        (known_on w new next.plan next.section moving.known))

    -- none is
    pub null_goes : (noted : Recorded) → t.room ≤ noted.room + 1 → GoesOn (record mid { trace = noted })
    null_goes noted less_yet =
        let n : Runner = record mid { trace = noted } in
        let next : IsNext w n = record { plan = refl; section = refl; entering = refl; last = refl; feeds = refl; group = refl; lock = refl } in
        let none : owed_count w.owed ≡ 0 = ap owed_count moving.owed in
        let three : 3 ≤ t.room = room_left in
        goes_on n moving.last moving.entering (omega (arith, none, less_yet, three)) (moves_next w n next moving.entering begun moving.moves moving.moves.stands moving.moves.table)
        (known_on w n refl refl moving.known)

  -- a transaction's sample is owed
  pub summed_goes : (new : Runner) (sample : Sample) (entry : Entry) (step : Step) → step ≡ Sampled entry → new ≡ record w { units = w.units - 1; owed = Some sample } → GoesOnAfter new step
  summed_goes new sample entry step step_is is =
      let next : IsNext w new = record {
        plan = ap (λ r. r.plan.now) is;
        section = ap (λ r. r.section) is;
        entering = ap (λ r. r.entering) is;
        last = ap (λ r. r.last) is;
        feeds = ap (λ r. r.config.feeds) is;
        group = ap (λ r. r.machine.group.element) is;
        lock = ap (λ r. open_lock r.machine.stack.frames) is;
      } in
      let one : owed_count new.owed ≡ 1 = ap (λ r. owed_count r.owed) is in
      let left : new.trace.room ≡ w.trace.room = ap (λ r. r.trace.room) is in
      subst (GoesOnAfter new) (sym step_is) (goes_on new (next.last ∙ moving.last) (next.entering ∙ moving.entering) (omega (arith, one, left, moving.room))
      (moves_next w new next moving.entering (ap (λ r. r.begun) is ∙ begun) moving.moves (subst (λ (r : Runner). StandsIn r.plan.now r.machine) (sym is) moving.moves.stands)
      (subst (λ (r : Runner). r.table ≡ packages_of r.plan.now.elements) (sym is) moving.moves.table))
      (known_on w new next.plan next.section moving.known))
