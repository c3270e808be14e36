-- How a thread comes through its group, and to its end.
use Rattle.std.proofs.Common.{◌≡◌, ℕ, List, [], ◌∷◌, ◌++◌, Some, None, refl, sym, ap, ◌∙◌, subst}
use Rattle.std.specs.Prelude.{slice_get, Result}
use Rattle.jm_base.specs.declared.errors.NoMemory.{NoMemory}
use Rattle.jm_base.specs.declared.types.End.{End}
use Rattle.jm_base.specs.Run.{Run, over, give, Ended}
use Rattle.jm_base.specs.Outside.{Account}
use Rattle.jm_base.proofs.RunLaws.{goes-append}
use Rattle.element_tree.specs.Tree.{Tree, group_of}
use Rattle.element_tree.specs.declared.kinds.Element.{Element}
use Rattle.element_tree.specs.declared.kinds.Kind.{Kind}
use Rattle.element_tree.specs.declared.kinds.Kind.TheVariants.{ThreadGroup}
use Rattle.element_tree.specs.declared.kinds.Loops.{Loops}
use Rattle.element_props.specs.declared.choices.OnError.{OnError}
use Rattle.jm_meaning.specs.declared.item.Item.{Item}
use Rattle.jm_meaning.specs.declared.item.Item.TheVariants.{Ended as EndedItem}
use Rattle.jm_meaning.specs.declared.signal.Signal.{Signal}
use Rattle.jm_meaning.specs.declared.signal.Signal.TheVariants.{Normal, NextLoop, Stop}
use Rattle.var_functions.specs.declared.state.UserState.{UserState}
use Rattle.config_elements.specs.RoundStart.{first_config}
use Rattle.jm_meaning.specs.State.{State, Part, state_of, normal}
use Rattle.jm_meaning.specs.Beginning.{Options, max_rounds, first_places, first_of, set_first}
use Rattle.jm_meaning.specs.Rounds.{rounds, group_turns, caught, round_of_group, round_start}
use Rattle.jm_meaning.specs.Children.{in_order, children_of}
use Rattle.jm_meaning.specs.Meaning.{meaning, group_part, group_meaning, here_at, failure_in, failure_of, signal_of, thread_part, events, end_of, and_end, after_pause}
use Rattle.jm_meaning.specs.RampUp.{pause_of}
use Rattle.jm_meaning.specs.TraceShown.{Shows}
use Rattle.plain_run.specs.declared.progress.Progress.{Progress}
use Rattle.plain_run.specs.Plays.{state_in, ended, Tells, Plays, IsUnderWay, Runs, here_of, caught_signal}
use Rattle.plain_run.proofs.ShowsLaws.{shows-append, shows-bind, shows-give}
use Rattle.plain_run.proofs.TellsLaws.{tells-bind}
use Rattle.plain_run.proofs.Ways.{way-start, way-then, way-stop}
use Rattle.plain_run.proofs.UnderWay.{in-bind, way-runs}

-- ---- a round of the group

caught-is : (p : Progress) (signal : Signal) → caught (ended p signal) ≡ ended p (caught_signal signal)
caught-is p Normal = refl
caught-is p NextLoop = refl
caught-is p (Stop end) = refl

pub plays-caught : {a b : Account} {p q : Progress} {signal : Signal} (part : Part) → Plays a p part signal q b → (so : Signal) → so ≡ caught_signal signal
    → Plays a p (λ s. round_of_group (part s)) so q b
plays-caught {a} {b} {p} {q} {signal} part plays so is = record {
  tells = subst (λ x. Tells a p.items.items p.tally (round_of_group (part (state_in p))) (over (ended q x)) q.items.items q.tally b) (sym is)
      (subst (λ x. Tells a p.items.items p.tally (round_of_group (part (state_in p))) (over x) q.items.items q.tally b) (caught-is q signal)
      (tells-bind (λ e. over (caught e)) plays.tells));
  fewer = plays.fewer;
  feeds = plays.feeds;
}

-- ---- the group

pub group-is : (plan : Tree) (group : ℕ) (e : Element) (loops : Loops) (on_error : OnError) (ramp threads : ℕ) (children : List ℕ) (failure : Signal) (s : State)
    → slice_get plan.elements group ≡ Some e → e.kind ≡ ThreadGroup loops on_error ramp threads → children ≡ children_of plan.elements e → failure ≡ signal_of on_error
    → group_part (here_at plan group) group (slice_get plan.elements group) s
    ≡ rounds max_rounds (group_turns loops (round_start plan.elements group)) (λ i s. round_of_group (in_order (meaning (here_of plan failure) 30) i children s)) 0 s
group-is plan group e loops on_error ramp threads children failure s there kind of_element leads =
    ap (λ o. group_part (here_of plan (failure_of o)) group o s) there
    ∙ ap (λ k. group_meaning (here_of plan (failure_in k)) group e k s) kind
    ∙ ap (λ f. rounds max_rounds (group_turns loops (round_start plan.elements group)) (λ i s. round_of_group (in_order (meaning (here_of plan f) 30) i (children_of plan.elements e) s)) 0 s) (sym leads)
    ∙ ap (λ cs. rounds max_rounds (group_turns loops (round_start plan.elements group)) (λ i s. round_of_group (in_order (meaning (here_of plan failure) 30) i cs s)) 0 s) (sym of_element)

other-kind : (plan : Tree) (failure : Signal) (group : ℕ) (e : Element) (s : State) (k : Kind) → ((l : Loops) (o : OnError) (r t : ℕ) → k ≡ ThreadGroup l o r t → ⊥)
    → group_meaning (here_of plan failure) group e k s ≡ over (normal s)
other-kind plan failure group e s (ThreadGroup l o r t) other = absurd (other l o r t refl)
other-kind plan failure group e s k other = refl

pub no-group : (plan : Tree) (group : ℕ) (e : Element) (s : State) → slice_get plan.elements group ≡ Some e → ((l : Loops) (o : OnError) (r t : ℕ) → e.kind ≡ ThreadGroup l o r t → ⊥)
    → group_part (here_at plan group) group (slice_get plan.elements group) s ≡ over (normal s)
no-group plan group e s there other =
    ap (λ o. group_part (here_of plan (failure_of o)) group o s) there ∙ other-kind plan (failure_in e.kind) group e s e.kind other

pub nothing-there : (plan : Tree) (group : ℕ) (s : State) → slice_get plan.elements group ≡ None → group_part (here_at plan group) group (slice_get plan.elements group) s ≡ over (normal s)
nothing-there plan group s none = ap (λ o. group_part (here_of plan (failure_of o)) group o s) none

-- ---- the thread

-- its first variables, and then the rounds of its group
pub thread-goes : {a b : Account} {p q : Progress} {first : Signal} (plan : Tree) (group : ℕ) (c : Account) (r : Progress) (result : Result Signal NoMemory) → Plays a p (set_first plan.elements) first q b → first ≡ Normal
    → Runs b q (group_part (here_at plan group) group (slice_get plan.elements group)) result r c → Runs a p (thread_part plan group) result r c
thread-goes {a} {p = p} plan group c r result plays normal runs =
    way-runs c r result (way-then (set_first plan.elements) (group_part (here_at plan group) group (slice_get plan.elements group)) (way-start a p (thread_part plan group)) refl plays normal) runs

pub thread-stops : {a b : Account} {p q : Progress} {signal : Signal} (plan : Tree) (group : ℕ) → Plays a p (set_first plan.elements) signal q b → (signal ≡ Normal → ⊥)
    → Plays a p (thread_part plan group) signal q b
thread-stops {a} {p = p} plan group plays other =
    way-stop (set_first plan.elements) (group_part (here_at plan group) group (slice_get plan.elements group)) (way-start a p (thread_part plan group)) refl plays other

-- the state that it begins with
pub first-state : (plan : Tree) (thread : ℕ) (options : Options) (user : UserState) (places config : List ℕ) → user ≡ (first_of plan thread options).user → places ≡ first_places plan.elements
    → config ≡ first_config plan.elements → state_of user (record { units = options.budget; rounds = max_rounds; places = places; config = config }) ≡ first_of plan thread options
first-state plan thread options user places config u p c = rw (u, p, c) refl

-- out of memory in its pause
pub pause-cut : (plan : Tree) (thread ms : ℕ) (options : Options) (a b : Account) → ms ≡ pause_of plan thread → ((run : Run (Unit {0})) → IsUnderWay a (after_pause ms run) b)
    → IsUnderWay a (events plan thread options) b
unfolding events
pause-cut plan thread ms options a b pause cut =
    let run : Run (Unit {0}) = and_end (thread_part plan (group_of plan thread) (first_of plan thread options)) in
    subst (λ m. IsUnderWay a (after_pause m run) b) pause (cut run)

-- the thread has made its pause
module _ (plan : Tree) (thread group ms : ℕ) (options : Options) (a b d : Account) (xs : List Item) (p : Progress) (none : xs ≡ []) (is : group ≡ group_of plan thread) (pause : ms ≡ pause_of plan thread)
    (begun : state_in p ≡ first_of plan thread options) (waited : (run : Run (Unit {0})) → Shows a xs (after_pause ms run) run p.items.items b) where
  paused : (run : Run (Unit {0})) → Shows a [] (after_pause (pause_of plan thread) run) run p.items.items b
  paused run = subst (λ m. Shows a [] (after_pause m run) run p.items.items b) pause (subst (λ l. Shows a l (after_pause ms run) run p.items.items b) none (waited run))

  part-is : thread_part plan group (state_in p) ≡ thread_part plan (group_of plan thread) (first_of plan thread options)
  part-is = ap (λ s. thread_part plan group s) begun ∙ ap (λ g. thread_part plan g (first_of plan thread options)) is

  -- out of memory after it
  pub rest-cut : IsUnderWay b (thread_part plan group (state_in p)) d → IsUnderWay a (events plan thread options) d
  unfolding events
  rest-cut at =
      let run : Run (Unit {0}) = and_end (thread_part plan (group_of plan thread) (first_of plan thread options)) in
      let there : IsUnderWay b run d = in-bind (λ e. give (Ended (end_of e.signal)) (over tt)) (subst (λ r. IsUnderWay b r d) part-is at) in
      ((paused run).events ++ there.0, there.1, goes-append (paused run).goes there.2)

  -- after its first variables and the rounds of its group the thread ends
  module _ (q : Progress) (signal : Signal) (plays : Plays b p (thread_part plan group) signal q d) where
    pub end-cut : IsUnderWay a (events plan thread options) d
    end-cut = rest-cut (plays.tells.shows.events, over (ended q signal), plays.tells.shows.goes)

    pub thread-shows : (end : End) → end ≡ end_of signal → Shows a [] (events plan thread options) (over tt) (q.items.items ++ EndedItem end ∷ []) d
    unfolding events
    thread-shows end ends =
        let run : Run (Unit {0}) = and_end (thread_part plan (group_of plan thread) (first_of plan thread options)) in
        let there : Shows b p.items.items (thread_part plan (group_of plan thread) (first_of plan thread options)) (over (ended q signal)) q.items.items d =
        subst (λ r. Shows b p.items.items r (over (ended q signal)) q.items.items d) part-is plays.tells.shows in
        subst (λ x. Shows a [] (after_pause (pause_of plan thread) run) (over tt) (q.items.items ++ EndedItem x ∷ []) d) (sym ends)
        (shows-append (paused run) (shows-append (shows-bind (λ e. give (Ended (end_of e.signal)) (over tt)) there) (shows-give d q.items.items (Ended (end_of signal)) (over tt))))
