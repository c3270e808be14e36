use Rattle.std.specs.Prelude.{map}
use Rattle.extractors.specs.Matches.{text_at}
use Rattle.extractors.proofs.FilledLaws.{skip_one}
use Rattle.extractors.proofs.templates.filled.Goals as goal

pub bytes-preserved-then-skip-gt0 : goal.bytes-preserved-then-skip-gt0
bytes-preserved-then-skip-gt0 c = skip_one (map (text_at c.args.text.now) c.args.spans.now) c.args.template.now c.bytes.value.items c.bytes.place c.bytes.skip _ c.bytes-test.true c.if-skip-gt0.true c.bytes.invariant
