use Rattle.std.proofs.Common.{◌≡◌, List, ℕ}
use Rattle.std.specs.Io.KnownBytes.{Appends, Consumes, Keeps}
use Rattle.http_text.specs.ResponseReading.{Read}
use Rattle.http_sampler.specs.Exchanges.{IsOpen}
use Rattle.http_sampler.proofs.asking.receive_all.Given as goal

abbrev pub invariant-loop : goal.invariant-loop
invariant-loop g l = record {
  got : List ℕ;
  sent : Keeps (g.S.Stream.sent l.fn.stream) (g.S.Stream.sent l.stream);
  gave : Appends (g.S.Stream.given l.fn.stream) (g.S.Stream.given l.stream) got;
  came : Consumes (g.S.Stream.left l.fn.stream) (g.S.Stream.left l.stream) got;
  faults : g.S.Stream.faults l.stream ≡ g.S.Stream.faults l.fn.stream;
  same : l.reader.head_only ≡ l.fn.reader.head_only;
  read : Read l.reader got;
  unsettled : IsOpen l.fn.reader.head_only got;
}
