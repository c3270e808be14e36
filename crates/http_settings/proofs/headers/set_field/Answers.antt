use Rattle.std.proofs.Common.{ap, ◌∙◌}
use Rattle.std.specs.Str.{str_to_ascii_lowercase}
use Rattle.http_settings.proofs.FieldLaws.{field-set}
use Rattle.http_settings.proofs.headers.set_field.Goals as goal

pub returns : goal.returns
returns c = field-set c.in_ok-name.name c.args.pair c.args.fields.now.entries c.insert.new.self.entries (c.in_ok-name.ensures.ok ∙ ap str_to_ascii_lowercase c.bytes.ensures) c.in_ok-insert.ensures.entries
