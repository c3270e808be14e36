use Rattle.std.proofs.Common.{◌≡◌, false, None}
use Rattle.control_cases.proofs.threads.steps.Given as goal

abbrev pub invariant-steps : goal.invariant-steps
invariant-steps l = record {
  owed : l.worker.owed ≡ None;
  entering : l.worker.entering ≡ None;
  going : l.worker.ended ≡ false;
}

abbrev pub decreases-steps : goal.decreases-steps
decreases-steps l = l.left
