-- What the number of a status says.
use Rattle.std.proofs.Common.{◌≡◌, ℕ, Option, refl, sym, subst, ◌∙◌, inl, inr, arith}
use Rattle.outside_world.specs.Tickers.{Ticks}
use Rattle.command_words.specs.declared.command.Command.{Command}
use Rattle.jm_command.specs.declared.status.Status.{Status}
use Rattle.jm_command.specs.declared.status.Status.TheVariants.{Done, Usage, Refused, ReadFault, WriteFault, Memory}
use Rattle.jm_command.specs.Command.{Edges, Says, IsStatus, PlainEnds, number_of}
use Rattle.jm_command.specs.Started.{Around, StartSays, StartEnds}
use Rattle.jm_command.proofs.ExactLaws.{exactly}
use Rattle.jm_command.proofs.StartLaws.{start_exactly}

has_status : (status : Status) → IsStatus (number_of status)
has_status Done = inl refl
has_status Usage = inr (inl refl)
has_status Refused = inr (inr (inl refl))
has_status ReadFault = inr (inr (inr (inl refl)))
has_status WriteFault = inr (inr (inr (inr (inl refl))))
has_status Memory = inr (inr (inr (inr (inr refl))))

same_status : (s t : Status) → number_of s ≡ number_of t → s ≡ t
same_status Done Done h = refl
same_status Usage Usage h = refl
same_status Refused Refused h = refl
same_status ReadFault ReadFault h = refl
same_status WriteFault WriteFault h = refl
same_status Memory Memory h = refl
same_status s t h = absurd (omega (arith, h))

-- what a status says is said by its number
module _ (words : Option Command) (old new : Edges) (status : Status) (number : ℕ) (is : number ≡ number_of status) where
  of_number : (t : Status) → number ≡ number_of t → status ≡ t
  of_number t h = same_status status t (sym is ∙ h)

  pub plain_ends : Says words old new status → PlainEnds words old new number
  plain_ends says = record {
    status = subst IsStatus (sym is) (has_status status);
    done = λ h. subst (Says words old new) (of_number Done h) says;
    usage = λ h. subst (Says words old new) (of_number Usage h) says;
    refused = λ h. subst (Says words old new) (of_number Refused h) says;
    unread = λ h. subst (Says words old new) (of_number ReadFault h) says;
    unwritten = λ h. subst (Says words old new) (of_number WriteFault h) says;
    cut_short = λ h. subst (Says words old new) (of_number Memory h) says;
    exact = λ bytes told calm. rw is (exactly old new bytes told calm words status says);
  }

  pub start_ends : (ticks : Option Ticks) (after : Around) → StartSays words ticks after old new status → StartEnds words ticks after old new number
  start_ends ticks after says = record {
    status = subst IsStatus (sym is) (has_status status);
    done = λ h. subst (StartSays words ticks after old new) (of_number Done h) says;
    usage = λ h. subst (StartSays words ticks after old new) (of_number Usage h) says;
    refused = λ h. subst (StartSays words ticks after old new) (of_number Refused h) says;
    unread = λ h. subst (StartSays words ticks after old new) (of_number ReadFault h) says;
    unwritten = λ h. subst (StartSays words ticks after old new) (of_number WriteFault h) says;
    cut_short = λ h. subst (StartSays words ticks after old new) (of_number Memory h) says;
    exact = λ bytes told calm. rw is (start_exactly old new bytes told calm ticks after words status says);
  }
