use Rattle.std.proofs.Common.{rules}
use Rattle.nbd_session.proofs.Steps.{takes_bytes}
use Rattle.nbd_session.proofs.session.Session.take_bytes.Goals as goal

pub returns : goal.returns
returns c = λ exports.
    takes_bytes exports c.args.self.now c.ask.new.self c.args.head _ _ _ _ c.requires.turn c.requires.reading c.behind-size.ensures (search rules) c.ask.ensures
