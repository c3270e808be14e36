-- What open elements hear of a sampler's sample.
use Rattle.std.specs.Prelude.{List, map}
use Rattle.jm_base.specs.declared.types.Sample.{Sample}
use Rattle.jm_meaning.specs.Sampling.{after_sample}
use Rattle.open_elements.specs.Hearing.{hearing}
use Rattle.control_machine.specs.declared.stack.Frame.{Frame}
use Rattle.control_machine.specs.declared.position.Position.{Position}

abbrev pub frame_hearing : Sample → Frame → Frame
frame_hearing sample f = record { element = f.element; round = f.round; depth = f.depth; cursor = hearing sample f.cursor }

abbrev pub all_hearing : Sample → List Frame → List Frame
all_hearing sample frames = map (frame_hearing sample) frames

-- A machine that was told of a sample: the open transactions count it, and where it failed the group's action follows.
abbrev pub told : Sample → Position → Position
told sample m = record {
  group = m.group;
  stack = record { frames = all_hearing sample m.stack.frames };
  rounds = m.rounds;
  places = m.places;
  at_failure = m.at_failure;
  signal = after_sample sample.ok m.at_failure;
  links = m.links;
}
