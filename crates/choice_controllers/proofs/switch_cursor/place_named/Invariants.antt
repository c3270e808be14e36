use Rattle.std.proofs.Common.{◌≡◌, ◌≤◌, drop}
use Rattle.choice_controllers.specs.SwitchController.{is_name}
use Rattle.cursor_steps.specs.RunningChildren.{is_run_at}
use Rattle.choice_controllers.specs.SwitchController.{name_at, place_named, run_names}
use Rattle.choice_controllers.proofs.NameLaws.{found}
use Rattle.choice_controllers.proofs.switch_cursor.place_named.Given as goal

-- it is found among the children that are left
abbrev pub invariant-loop-child : goal.invariant-loop-child
invariant-loop-child l = record {
  same : found (is_name l.any_case l.wanted) (is_run_at l.plan.elements) (name_at l.plan.elements) l.place (drop l.child-index l.element.children)
      ≡ place_named l.any_case l.wanted (run_names l.plan.elements l.element);
  room : l.place ≤ 65535;
}
