use Rattle.std.proofs.Common.{rules}
use Rattle.nbd_codec.specs.Contents.{plain_meta}
use Rattle.nbd_model.specs.Options.{meta_of}
use Rattle.nbd_model.specs.Sessions.{meta_option}
use Rattle.nbd_session.specs.Negotiating.{told}
use Rattle.nbd_session.specs.Parts.{plain_agreed}
use Rattle.nbd_session.proofs.Dealing.{dealt_as, told_is}
use Rattle.nbd_session.proofs.agreed.Agreed.answer_meta.Goals as goal

pub returns-in-Ok-clause-dealt : goal.returns-in-Ok-clause-dealt
returns-in-Ok-clause-dealt c =
    let s = plain_agreed c.args.self.now in
    let content = c.args.content.now in
    let exports = c.args.exports.now in
    dealt_as _ (λ used. told used c.args.option c.in-Ok.ask.queries c.in-Some.export.now s) (λ used. meta_option used c.args.option exports (meta_of content) s) _ _ _
    (λ used. told_is used c.args.option content exports s (plain_meta c.in-Ok.ask) c.in-Some.export.now (search rules) (search rules) (search rules) (search rules)) (search rules)
