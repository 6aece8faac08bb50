use Rattle.std.proofs.Common.{◌≡◌, ap, ◌∙◌, refl, arith}
use Rattle.nbd_session.specs.declared.session.Reading.TheVariants.{LongOption}
use Rattle.nbd_session.proofs.Answering.{ends_option}
use Rattle.nbd_session.proofs.session.Session.end_option.Goals as goal

pub returns : goal.returns
returns c = λ exports.
    let zero : c.args.left ≡ 0 = omega arith in
    ends_option exports c.args.self.now _ c.args.number _ _ c.requires.turn (c.requires.reading ∙ ap (LongOption c.args.number) zero) refl refl c.requires.turn c.in_ok-skip_option.ensures.next c.in_ok-skip_option.ensures.sent
