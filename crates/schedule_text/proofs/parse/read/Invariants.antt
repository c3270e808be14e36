use Rattle.std.proofs.Common.{length, ◌-◌, ◌≡◌, ◌≤◌, drop}
use Rattle.schedule_text.specs.Reading.{IsLow, reading_of, after_given, run}
use Rattle.schedule_text.proofs.parse.read.Given as goal

abbrev pub invariant-loop-at : goal.invariant-loop-at
invariant-loop-at l = record {
  within : l.at ≤ length l.text;
  low : IsLow l.place;
  reads : reading_of l.text ≡ after_given l.tokens.items (run l.place l.at (drop l.at l.text));
}

abbrev pub decreases-loop-at : goal.decreases-loop-at
decreases-loop-at l = length l.text - l.at
