-- Ways out: an open element is left, or the way out is over.
use Rattle.std.proofs.Common.{◌≡◌, ◌⊎◌, inl, inr, ℕ, [], ◌∷◌, refl, sym, ap, ◌∙◌}
use Rattle.jm_base.specs.declared.types.End.{End}
use Rattle.jm_base.specs.declared.types.End.TheVariants.{RoundLimit, StopThread, StopTest}
use Rattle.jm_base.specs.Run.{over}
use Rattle.element_tree.specs.Tree.{Tree}
use Rattle.var_functions.specs.declared.state.UserState.{UserState}
use Rattle.jm_meaning.specs.declared.signal.Signal.{Signal}
use Rattle.jm_meaning.specs.declared.signal.Signal.TheVariants.{Normal, NextLoop, Stop}
use Rattle.jm_meaning.specs.State.{Own, state_of, at_rounds, normal}
use Rattle.control_machine.specs.declared.stack.Frame.{Frame}
use Rattle.control_machine.specs.declared.position.Position.{Position}
use Rattle.control_machine.specs.Left.{here_in, left_in, left_of, ended, IsOut, IsFinish, StandsIn}
use Rattle.control_machine.specs.Turns.{went, closing_of}
use Rattle.control_machine.proofs.Answered.{out, out_of_one, all_out, next_loop, round_over}

pub stop_same : (plan : Tree) (m : Position) (end : End) (user : UserState) (own : Own) → m.stack.frames ≡ [] → m.signal ≡ Stop end → StandsIn plan m → own.rounds ≡ m.rounds
    → left_of plan m (state_of user own) ≡ over (ended end (state_of user (at_rounds own m.rounds)))
stop_same plan m end user own empty is stands same = all_out plan m end user own empty is stands.signal m.rounds (sym same)

-- the ends of a way out are those that a machine finishes with
pub finishes : (end : End) → IsOut (Stop end) → IsFinish end
finishes StopThread h = tt
finishes StopTest h = tt
finishes RoundLimit h = tt
finishes end h = absurd h

-- a signal that is neither Normal nor a Stop
next_is : (signal : Signal) → (signal ≡ Normal → ⊥) → ((end : End) → signal ≡ Stop end → ⊥) → signal ≡ NextLoop
next_is Normal away other = absurd (away refl)
next_is NextLoop away other = refl
next_is (Stop end) away other = absurd (other end refl)

-- a way out to the next round is over: the group goes on where its round is over
pub loop_same : (plan : Tree) (m : Position) (user : UserState) (own : Own) → m.stack.frames ≡ [] → (m.signal ≡ Normal → ⊥) → ((end : End) → m.signal ≡ Stop end → ⊥)
    → left_of plan m (state_of user own) ≡ left_of plan (record { group = round_over m.group; stack = m.stack; rounds = m.rounds; places = m.places; at_failure = m.at_failure; signal = Normal; links = m.links }) (state_of user own)
loop_same plan m user own empty away other =
    ap (λ x. left_in (here_in plan m) m.group m.stack.frames (out (state_of user own) x)) (next_is m.signal away other)
    ∙ ap (λ fs. left_in (here_in plan m) m.group fs (out (state_of user own) NextLoop)) empty
    ∙ next_loop (here_in plan m) m.group (state_of user own)
    ∙ ap (λ fs. left_in (here_in plan m) (round_over m.group) fs (over (normal (state_of user own)))) (sym empty)

-- the machine in which the group's round is over
pub loop_stands : (plan : Tree) (m : Position) → StandsIn plan m → StandsIn plan (record m { signal = Normal; group = round_over m.group })
loop_stands plan m stands = let o = stands.group in record {
  group = record { element = o.element; there = o.there; below = o.below; apart = o.apart; pass = o.pass; bound = o.bound };
  open_ = stands.open_;
  apart = stands.apart;
  falls = stands.falls;
  failure = stands.failure;
  signal = tt;
  links = stands.links;
}

-- an element that was taken out of the open ones, on a way out
pub popped_same : (plan : Tree) (m m' : Position) (f : Frame) (user : UserState) (own : Own) → m.stack.frames ≡ f ∷ m'.stack.frames → (m.signal ≡ Normal → ⊥)
    → m'.group ≡ m.group → m'.at_failure ≡ m.at_failure → m'.signal ≡ m.signal → (k : ℕ) → k ≡ own.rounds
    → left_of plan m (state_of user own) ≡ went plan m' (state_of user (at_rounds own k)) (closing_of m'.signal f)
popped_same plan m m' f user own frames away group failure signal k same =
    out_of_one plan m m' f user own away frames group failure signal k same

pub not_normal : (signal : Signal) → (signal ≡ NextLoop) ⊎ ((end : End) × (signal ≡ Stop end)) → signal ≡ Normal → ⊥
not_normal signal (inl is) h = let i : NextLoop ≡ Normal = sym is ∙ h in cc
not_normal signal (inr s) h = let i : Stop s.0 ≡ Normal = sym s.1 ∙ h in cc
