use Rattle.mirror_server.proofs.ReadingLaws.{begins-later}
use Rattle.mirror_server.proofs.look.look.Goals as goal

pub look_at_body-requires : goal.look_at_body-requires
look_at_body-requires c =
    let stands = rw c.in-Body.is at c.requires.stands in
    begins-later c.args.bytes.now c.args.before c.in-Body.total stands.0
