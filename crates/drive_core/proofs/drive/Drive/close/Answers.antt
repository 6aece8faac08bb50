use Rattle.std.proofs.Common.{rules}
use Rattle.drive_core.proofs.Closing.{on_ok_both, if_err, closes, closed_well, refused}
use Rattle.drive_core.proofs.drive.Drive.close.Goals as goal

pub returns : goal.returns
returns g c =
    let old = g.D.Outside.world c.args.depot.now in
    let new = g.D.Outside.world c.close.new.depot in
    let did = c.close.ensures in
    let bare = g.met.I.Image.bare c.args.self.image in
    record {
      closes = λ s told keeps. closes _ _ _ old new bare told did.run.goes.tells did.run.goes.later did.since did.seen s keeps;
      closed = on_ok_both c.close.result (λ done whole s told keeps. closed_well _ _ _ old new bare told did.run.goes.tells did.run.goes.later did.since did.seen _ c.clear.ensures.items whole done s keeps) did.done did.whole;
      refused = if_err c.close.result (λ why is s told keeps. refused _ _ _ old new bare told did.run.goes.tells did.run.goes.later did.since did.seen why is s keeps) did.cause;
      cause = search rules;
      whole = did.whole;
      run = did.run;
    }
