use Rattle.std.proofs.Common.{◌≡◌, ap, ◌∙◌, rules}
use Rattle.nbd_model.specs.Options.{counted_text}
use Rattle.nbd_session.proofs.Growing.{replied}
use Rattle.nbd_session.proofs.negotiating.write_server.Goals as goal

pub returns-clause-sent : goal.returns-clause-sent
returns-clause-sent c =
    let is : c.as_slice.result.now ≡ c.args.export.now.name = search rules in
    replied _ _ _ _ _ c.args.option 2 c.write_option_reply.ensures.written (c.deref.ensures.value ∙ c.in_ok-content.ensures.bytes ∙ ap counted_text is)
