use Rattle.std.proofs.Common.{◌≡◌, ◌≤◌, ◌-◌, length, take}
use Rattle.http_text.specs.ResponseReading.{reading_of, Advances, Stands, IsReading}
use Rattle.http_text.proofs.reader.ResponseReader.feed.Given as goal

abbrev pub invariant-loop-at : goal.invariant-loop-at
invariant-loop-at l = record {
  within : l.at ≤ length l.piece;
  same : l.self-inside.state.head_only ≡ l.fn.self.head_only;
  read : Stands l.fn.self → Advances l.fn.self (take l.at l.piece) (reading_of l.self-inside.state);
  over : (IsReading l.fn.self.phase → ⊥) → reading_of l.self-inside.state ≡ l.fn.self;
  still : (IsReading l.fn.self.phase → ⊥) → l.at ≡ 0;
}

abbrev pub decreases-loop-at : goal.decreases-loop-at
decreases-loop-at l = length l.piece - l.at
