use Rattle.std.proofs.Common.{true, refl}
use Rattle.drive_core.proofs.Settled.{unasked}
use Rattle.drive_core.proofs.drive.Drive.settle.Goals as goal

pub returns-then-not-fua-clause-settles : goal.returns-then-not-fua-clause-settles
returns-then-not-fua-clause-settles g c = (true, refl, unasked c.args.fua c.if-not-fua.true (λ disk mixed k. (g.met.I.Image.in_order c.args.self.now.image (g.D.Outside.world c.args.depot.now) disk mixed k).each))
