use Rattle.std.proofs.Common.{[]}
use Rattle.nbd_session.proofs.Answering.{given_of, kept_by}
use Rattle.nbd_session.proofs.session.Session.next_request.Goals as goal

pub returns-in-Left-clause-given : goal.returns-in-Left-clause-given
returns-in-Left-clause-given c =
    given_of c.args.exports.now c.args.self.now c.ask_left.new.self c.args.out.now.items.items c.args.out.now.items.items c.ask_left.result (c.ask_left.ensures c.args.exports.now c.args.out.now.items.items)

pub returns-in-Left-clause-kept : goal.returns-in-Left-clause-kept
returns-in-Left-clause-kept c = kept_by [] c.args.self.now c.ask_left.new.self [] [] c.ask_left.result (c.ask_left.ensures [] [])
