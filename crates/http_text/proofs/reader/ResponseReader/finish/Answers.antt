use Rattle.std.proofs.Common.{◌≡◌}
use Rattle.http_text.specs.ResponseReading.{reading_of}
use Rattle.http_text.proofs.ReadingLaws.{finished}
use Rattle.http_text.proofs.reader.ResponseReader.finish.Goals as goal

pub returns-clause-answer : goal.returns-clause-answer
returns-clause-answer c =
    let r = reading_of c.self.inside.state in
    rw (← c.self.view_is, c.finish.ensures) (λ bytes read. finished r.head_only r.phase r.part r.reply bytes read)
