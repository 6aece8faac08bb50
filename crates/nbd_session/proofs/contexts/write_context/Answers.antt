use Rattle.std.proofs.Common.{◌≡◌, ◌++◌}
use Rattle.nbd_model.specs.Numbers.{be32}
use Rattle.nbd_session.proofs.Growing.{replied}
use Rattle.nbd_session.proofs.contexts.write_context.Goals as goal

pub returns-clause-sent : goal.returns-clause-sent
returns-clause-sent c =
    let is : c.deref-2.result.now ≡ be32 c.args.id ++ c.args.name.now = cc (c.deref-2.ensures.value, c.in_ok-content.ensures.bytes, c.deref.ensures.value, c.name.view_is) in
    replied _ _ _ _ _ c.args.option 4 c.write_option_reply.ensures.written is
