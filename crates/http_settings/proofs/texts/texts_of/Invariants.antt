use Rattle.std.proofs.Common.{[], drop}
use Rattle.jm_base.specs.Outside.{Goes}
use Rattle.trials.specs.CutShort.{StandsLater}
use Rattle.http_settings.specs.RequestSettings.{texts_after, texts_of, pairs_seen}
use Rattle.http_settings.proofs.texts.texts_of.Given as goal

abbrev pub invariant-pairs : goal.invariant-pairs
invariant-pairs g l = record {
  goes : Goes (g.O.Outside.account l.fn.outside) (texts_of (pairs_seen l.fn.pairs) l.fn.state) []
      (texts_after l.texts.items (pairs_seen (drop l.pair-index l.fn.pairs)) l.state) (g.O.Outside.account l.outside);
  stands : StandsLater l.fn.state l.state;
}
