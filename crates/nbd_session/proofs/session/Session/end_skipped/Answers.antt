use Rattle.std.proofs.Common.{◌≡◌, ap, ◌∙◌, rules, arith}
use Rattle.nbd_session.specs.declared.session.Reading.TheVariants.{Skipped}
use Rattle.nbd_session.proofs.Steps.{takes_skipped}
use Rattle.nbd_session.proofs.session.Session.end_skipped.Goals as goal

pub returns : goal.returns
returns c = λ exports.
    let zero : c.args.left ≡ 0 = omega arith in
    takes_skipped exports c.args.self.now c.ask.new.self c.args.head _ _ _ c.requires.turn (c.requires.reading ∙ ap (Skipped c.args.head) zero) (search rules) c.ask.ensures
