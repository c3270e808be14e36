-- A machine before its first round.
use Rattle.std.proofs.Common.{◌≡◌, ℕ, false, List, [], Some, refl, sym, ap, ◌∙◌, subst, arith}
use Rattle.std.specs.Prelude.{slice_get, unwrap_or}
use Rattle.std.specs.Option.{option_map}
use Rattle.jm_base.specs.Run.{over}
use Rattle.element_tree.specs.declared.kinds.Element.{Element}
use Rattle.element_tree.specs.declared.kinds.Kind.TheVariants.{ThreadGroup}
use Rattle.element_tree.specs.declared.kinds.Loops.{Loops}
use Rattle.element_props.specs.declared.choices.OnError.{OnError}
use Rattle.element_props.specs.declared.choices.OnError.TheVariants as on_errors
use Rattle.element_tree.specs.Tree.{Tree, IsGroup, group_of}
use Rattle.cursor_steps.specs.RunningChildren.{run_count, is_left}
use Rattle.var_functions.specs.declared.state.UserState.{UserState}
use Rattle.jm_meaning.specs.declared.signal.Signal.{Signal}
use Rattle.jm_meaning.specs.declared.signal.Signal.TheVariants.{Normal}
use Rattle.jm_meaning.specs.State.{State, Own, state_of, normal}
use Rattle.jm_meaning.specs.Rounds.{round_start}
use Rattle.jm_meaning.specs.Children.{children_of}
use Rattle.jm_meaning.specs.Meaning.{Here, here_at, meaning, signal_of, failure_in, failure_of, group_rounds, group_meaning, group_part}
use Rattle.node_table.specs.declared.element_links.Link.{Link}
use Rattle.node_table.specs.ElementLinks.{links_of}
use Rattle.open_elements.proofs.PassLaws.{none-left, count-is}
use Rattle.open_elements.proofs.CursorCalls.{same_element}
use Rattle.control_machine.specs.Opened.{Opened}
use Rattle.control_machine.specs.declared.position.Position.{Position}
use Rattle.control_machine.specs.Left.{left_in, rest_of, left_of, children_at, AreOpen, AreApart, DepthsFall, IsOut, StandsIn}

-- the machine of this group
abbrev pub first_of : ℕ → Loops → ℕ → Opened → List ℕ → Signal → List Link → Position
first_of number loops children stack places failure links = record {
  group = record { element = number; loops = loops; begun = 0; pass = record { children = children; next = children } };
  stack = stack;
  rounds = 16777216;
  places = places;
  at_failure = failure;
  signal = Normal;
  links = links;
}

action_out : (on_error : OnError) → IsOut (signal_of on_error)
action_out on_errors.Continue = tt
action_out on_errors.NextLoop = tt
action_out on_errors.StopThread = tt
action_out on_errors.StopTest = tt

pub new_stands : (plan : Tree) (number : ℕ) (e : Element) (loops : Loops) (on_error : OnError) (children : ℕ) (stack : Opened) (places : List ℕ) (failure : Signal) (links : List Link)
    → IsGroup plan.elements number → Some e ≡ slice_get plan.elements number → children ≡ run_count plan.elements e → stack.frames ≡ [] → failure ≡ signal_of on_error → links ≡ links_of plan.elements
    → StandsIn plan (first_of number loops children stack places failure links)
new_stands plan number e loops on_error children stack places failure links group there count empty action linked =
    let d = same_element plan.elements number group.element e group.there (sym there) in
    record {
      group = record {
        element = group.element;
        there = group.there;
        below = group.nests;
        apart = group.apart;
        pass = count ∙ ap (run_count plan.elements) (sym d) ∙ sym (count-is plan.elements group.element);
        bound = omega arith;
      };
      open_ = subst (AreOpen plan.elements 16777216) (sym empty) tt;
      apart = subst (AreApart plan.elements) (sym empty) tt;
      falls = subst DepthsFall (sym empty) tt;
      failure = subst IsOut (sym action) (action_out on_error);
      signal = tt;
      links = linked;
    }

not_less : (n : ℕ) → is_left (record { children = n; next = n }) ≡ false
not_less n = grind arith

-- nothing is left of the round before the first
first_rounds : (here : Here) (number children : ℕ) (loops : Loops) (s : State)
    → left_in here (record { element = number; loops = loops; begun = 0; pass = record { children = children; next = children } }) [] (over (normal s))
    ≡ group_rounds 16777216 (round_start here.plan.elements number) (meaning here 30) loops (children_at here.plan.elements number) 0 s
unfolding left_in rest_of
first_rounds here number children loops s = rw (none-left (record { children = children; next = children }) (children_at here.plan.elements number) (not_less children)) refl

pub new_whole : (plan : Tree) (thread number : ℕ) (e : Element) (loops : Loops) (on_error : OnError) (ramp_ms threads children : ℕ) (stack : Opened) (places : List ℕ) (failure : Signal) (links : List Link) (user : UserState) (own : Own)
    → number ≡ group_of plan thread → Some e ≡ slice_get plan.elements number → e.kind ≡ ThreadGroup loops on_error ramp_ms threads → children ≡ run_count plan.elements e → stack.frames ≡ [] → failure ≡ signal_of on_error
    → left_of plan (first_of number loops children stack places failure links) (state_of user own)
    ≡ group_part (here_at plan (group_of plan thread)) (group_of plan thread) (slice_get plan.elements (group_of plan thread)) (state_of user own)
new_whole plan thread number e loops on_error ramp_ms threads children stack places failure links user own is there kind count empty action =
    ap (λ fs. left_in here m.group fs (over (normal s))) empty
    ∙ first_rounds here number children loops s
    ∙ ap (λ o. group_rounds 16777216 (round_start plan.elements number) (meaning here 30) loops (unwrap_or (option_map (children_of plan.elements) o) []) 0 s) (sym there)
    ∙ ap (λ k. group_meaning here number e k s) (sym kind)
    ∙ ap (λ o. group_part here number o s) there
    ∙ ap (λ f. group_part (record { plan = plan; at_failure = f }) number (slice_get plan.elements number) s) (action ∙ ap failure_in (sym kind) ∙ ap failure_of there)
    ∙ ap (λ n. group_part (here_at plan n) n (slice_get plan.elements n) s) is where
      m : Position
      m = first_of number loops children stack places failure links

      here : Here
      here = record { plan = plan; at_failure = failure }

      s : State
      s = state_of user own

pub failure_is : (plan : Tree) (thread number : ℕ) (e : Element) (loops : Loops) (on_error : OnError) (ramp_ms threads : ℕ) (failure : Signal)
    → number ≡ group_of plan thread → Some e ≡ slice_get plan.elements number → e.kind ≡ ThreadGroup loops on_error ramp_ms threads → failure ≡ signal_of on_error
    → failure ≡ failure_of (slice_get plan.elements (group_of plan thread))
failure_is plan thread number e loops on_error ramp_ms threads failure is there kind action =
    action ∙ ap failure_in (sym kind) ∙ ap failure_of there ∙ ap (λ n. failure_of (slice_get plan.elements n)) is
