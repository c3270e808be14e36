-- The group after the last child of a round, and the rounds that moves take.
use Rattle.std.proofs.Common.{◌≡◌, ℕ, ◌+◌, ◌-◌, ◌≤◌, true, false, List, [], length, Some, sym, ap, ◌∙◌, arith}
use Rattle.std.specs.Prelude.{slice_get, unwrap_or}
use Rattle.std.specs.Option.{option_map}
use Rattle.jm_base.specs.declared.types.End.TheVariants.{Completed, RoundLimit}
use Rattle.jm_base.specs.Run.{over}
use Rattle.element_tree.specs.declared.kinds.Element.{Element}
use Rattle.element_tree.specs.Tree.{Tree}
use Rattle.cursor_steps.specs.RunningChildren.{is_left}
use Rattle.cursor_steps.specs.declared.pass.Pass.{Pass}
use Rattle.logic_controllers.specs.LoopController.{round_begins}
use Rattle.var_functions.specs.declared.state.UserState.{UserState}
use Rattle.jm_meaning.specs.declared.signal.Signal.TheVariants.{Normal}
use Rattle.jm_meaning.specs.State.{Own, state_of, at_rounds, normal}
use Rattle.jm_meaning.specs.Rounds.{round_start}
use Rattle.jm_meaning.specs.Children.{children_of}
use Rattle.control_machine.specs.declared.position.Position.{Position}
use Rattle.control_machine.specs.declared.moves.Move.{Move}
use Rattle.control_machine.specs.declared.moves.Move.TheVariants.{Iteration, RunSampler, EnterSection, LeaveSection, TransactionSample, Finished}
use Rattle.control_machine.specs.Left.{here_in, left_in, left_of, left_after, children_at, ended, GroupIsOpen, StandsIn}
use Rattle.control_machine.specs.Turns.{TakesRound}
use Rattle.control_machine.proofs.Following.{left_normal, rounds_over, rounds_stop, round_begun, next_group}

none_means : (p : Pass) → p.children ≤ p.next → is_left p ≡ false
none_means p h = grind (arith, h)

-- the children of the group
pub all_of : (elements : List Element) (n : ℕ) (e : Element) (count : ℕ) → slice_get elements n ≡ Some e → count ≡ length (children_of elements e) → count ≡ length (children_at elements n)
all_of elements n e count there is = is ∙ ap (λ o. length (unwrap_or (option_map (children_of elements) o) [])) (sym there)

module _ (plan : Tree) (m : Position) (user : UserState) (own : Own) (open' : GroupIsOpen plan.elements m.rounds m.group) (empty : m.stack.frames ≡ []) (signal : m.signal ≡ Normal)
    (past_all : m.group.pass.children ≤ m.group.pass.next) (same : own.rounds ≡ m.rounds) where
  at_group : left_of plan m (state_of user own) ≡ left_in (here_in plan m) m.group [] (over (normal (state_of user own)))
  at_group = left_normal plan m (state_of user own) signal ∙ ap (λ fs. left_in (here_in plan m) m.group fs (over (normal (state_of user own)))) empty

  within : m.group.begun + own.rounds ≤ 16777216
  within = omega (arith, open'.bound, same)

  pub rounds_are_over : round_begins m.group.loops m.group.begun ≡ false → left_of plan m (state_of user own) ≡ over (ended Completed (state_of user (at_rounds own m.rounds)))
  rounds_are_over begins = at_group ∙ rounds_over (here_in plan m) m.group user own (none_means m.group.pass past_all) within begins m.rounds (sym same)

  pub rounds_are_spent : round_begins m.group.loops m.group.begun ≡ true → m.rounds ≡ 0 → left_of plan m (state_of user own) ≡ over (ended RoundLimit (state_of user (at_rounds own m.rounds)))
  rounds_are_spent begins none = at_group ∙ rounds_stop (here_in plan m) m.group user own (none_means m.group.pass past_all) within begins (same ∙ none) m.rounds (sym same)

  pub round_has_begun : round_begins m.group.loops m.group.begun ≡ true → (m.rounds ≡ 0 → ⊥)
      → left_of plan m (state_of user own)
      ≡ left_after plan (record { group = next_group m.group; stack = m.stack; rounds = m.rounds - 1; places = m.places; at_failure = m.at_failure; signal = m.signal; links = m.links })
      (round_start plan.elements m.group.element (state_of user (at_rounds own (m.rounds - 1))))
  round_has_begun begins some =
      at_group
      ∙ round_begun (here_in plan m) m.group user own (m.rounds - 1) (none_means m.group.pass past_all) within begins
      (all_of plan.elements m.group.element open'.element m.group.pass.children open'.there open'.pass) (omega (arith, same, some))
      ∙ ap (λ fs. left_in (here_in plan m) (next_group m.group) fs (round_start plan.elements m.group.element (state_of user (at_rounds own (m.rounds - 1))))) (sym empty)

-- the machine in which a round of the group has begun
pub round_stands : (plan : Tree) (m : Position) → StandsIn plan m → m.stack.frames ≡ [] → (m.rounds ≡ 0 → ⊥)
    → StandsIn plan (record { group = next_group m.group; stack = m.stack; rounds = m.rounds - 1; places = m.places; at_failure = m.at_failure; signal = m.signal; links = m.links })
round_stands plan m stands empty some = let o = stands.group in record {
  group = record { element = o.element; there = o.there; below = o.below; apart = o.apart; pass = o.pass; bound = omega (arith, o.bound, some) };
  open_ = rw empty tt;
  apart = rw empty tt;
  falls = rw empty tt;
  failure = stands.failure;
  signal = stands.signal;
  links = stands.links;
}

-- no move gives a round back
pub later_rounds : (move : Move) (a b c : ℕ) → b ≤ a → TakesRound move b c → TakesRound move a c
later_rounds (Iteration index) a b c h k = omega (arith, h, k)
later_rounds (RunSampler number) a b c h k = omega (arith, h, k)
later_rounds (EnterSection lock) a b c h k = omega (arith, h, k)
later_rounds (LeaveSection lock) a b c h k = omega (arith, h, k)
later_rounds (TransactionSample element tally) a b c h k = omega (arith, h, k)
later_rounds (Finished end) a b c h k = omega (arith, h, k)
