use Rattle.std.proofs.Common.{replicate, sym}
use Rattle.std.proofs.lemmas.Result.{on_ok_weaker}
use Rattle.std.proofs.lemmas.List.{length-replicate}
use Rattle.qc_layout.specs.FirstForm.{disk_of}
use Rattle.qback_top.specs.Orders.{Write, invalid_line}
use Rattle.qback_top.specs.Open.{IsOpen}
use Rattle.qback_top.proofs.Answering.{Tells, write_refused, answered_said, begun_said, write_no_sync}
use Rattle.qback_top.proofs.drive.zero.Given.{Over}
use Rattle.qback_top.proofs.drive.zero.Goals.{After-say}
use Rattle.qback_top.proofs.drive.zero.Goals as goal

-- outside of the disk
refused : (g : Over) (c : After-say g) → IsOpen c.args.image.now ((g.D.Outside.world c.args.depot.now).seen c.args.image.now.file.0)
    → Tells (disk_of ((g.D.Outside.world c.args.depot.now).seen c.args.image.now.file.0)) (Write c.args.at (replicate c.args.length 0)) invalid_line (disk_of ((g.D.Outside.world c.args.depot.now).seen c.args.image.now.file.0))
refused g c opened = write_refused c.args.at c.args.length (replicate c.args.length 0) (sym (length-replicate c.args.length 0)) opened c.fits.ensures c.if-not-fits.true

pub returns-then-not-fits-clause-answered : goal.returns-then-not-fits-clause-answered
returns-then-not-fits-clause-answered g c =
    let at = (goal.at.returns-then-not-fits-clause-answered g c).After-say in
    on_ok_weaker c.say.result (λ printed told opened. answered_said (refused g at opened) c.say.ensures.run opened write_no_sync printed) c.say.ensures.printed

pub returns-then-not-fits-clause-begun : goal.returns-then-not-fits-clause-begun
returns-then-not-fits-clause-begun g c =
    let at = (goal.at.returns-then-not-fits-clause-begun g c).After-say in
    λ told opened. begun_said (refused g at opened) c.say.ensures.run c.say.ensures.part
