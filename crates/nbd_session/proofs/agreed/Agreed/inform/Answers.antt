use Rattle.std.proofs.Common.{rules}
use Rattle.nbd_codec.specs.Contents.{plain_info}
use Rattle.nbd_session.specs.Parts.{plain_agreed}
use Rattle.nbd_session.proofs.Dealing.{informs}
use Rattle.nbd_session.proofs.agreed.Agreed.inform.Goals as goal

pub returns-clause-dealt : goal.returns-clause-dealt
returns-clause-dealt c = λ used.
    informs used c.args.option c.args.content.now c.args.exports.now (plain_agreed c.args.self.now) _ (plain_info c.in-Ok.ask) c.in-Some.export.now _ _ (search rules) (search rules) (search rules) (search rules)
