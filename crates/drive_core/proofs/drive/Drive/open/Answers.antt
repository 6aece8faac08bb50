use Rattle.std.proofs.Common.{refl, arith}
use Rattle.drive_core.proofs.Laws.{named_on}
use Rattle.drive_core.proofs.Opening.{opens_within, was_opened}
use Rattle.drive_core.proofs.drive.Drive.open.Goals as goal

pub returns-in_err-image-clause-within : goal.returns-in_err-image-clause-within
returns-in_err-image-clause-within g c = λ d allows id h disks told history ready holds.
    opens_within c.args.file.0 d id h (g.D.Outside.world c.args.depot.now) (g.D.Outside.world c.open.new.depot) history ready (c.open.ensures.since id d _ told) (c.open.ensures.seen id d _ told)

pub returns-clause-within : goal.returns-clause-within
returns-clause-within g c = λ d allows id h disks told history ready holds.
    opens_within c.args.file.0 d id h (g.D.Outside.world c.args.depot.now) (g.D.Outside.world c.open.new.depot) history ready (c.open.ensures.since id d _ told) (c.open.ensures.seen id d _ told)

pub returns-clause-opened : goal.returns-clause-opened
returns-clause-opened g c =
    let begins = c.in_ok-image.ensures.begins in
    let run = c.open.ensures.run in
    was_opened _ _ _ c.args.file.0 (g.D.Outside.world c.args.depot.now) (g.D.Outside.world c.open.new.depot) begins.0 refl begins.2 refl (let below = c.requires.given in let more = run.goes.given in omega (arith, below, more)) run.goes.tells
    (λ named. named_on c.args.file.0 run (λ none. none) named) c.requires.given c.requires.suits c.in_ok-image.ensures.faultless c.in_ok-image.ensures.opened
