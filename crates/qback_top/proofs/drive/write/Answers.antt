use Rattle.std.proofs.Common.{◌+◌, ◌≤◌, length, refl}
use Rattle.std.proofs.lemmas.Result.{on_ok_weaker}
use Rattle.disk_model.specs.Files.{overlay}
use Rattle.qc_layout.specs.FirstForm.{disk_of, disk_size}
use Rattle.qback_top.specs.Orders.{Write, invalid_line}
use Rattle.plain_model.specs.Console.{ok_line}
use Rattle.qback_top.specs.Open.{IsOpen}
use Rattle.qback_top.proofs.Answering.{Tells, Did, did, begun_part, write_refused, write_done, answered, begun, answered_said, begun_said, write_no_sync}
use Rattle.qback_top.proofs.drive.write.Given.{Over}
use Rattle.qback_top.proofs.drive.write.Goals.{After-say, After-say-2}
use Rattle.qback_top.proofs.drive.write.Goals as goal

-- ---- outside of the disk

refused : (g : Over) (c : After-say g) → IsOpen c.args.image.now ((g.D.Outside.world c.args.depot.now).seen c.args.image.now.file.0)
    → Tells (disk_of ((g.D.Outside.world c.args.depot.now).seen c.args.image.now.file.0)) (Write c.args.at c.args.bytes.now) invalid_line (disk_of ((g.D.Outside.world c.args.depot.now).seen c.args.image.now.file.0))
refused g c opened = write_refused c.args.at (length c.args.bytes.now) c.args.bytes.now refl opened c.fits.ensures c.if-not-fits.true

pub returns-then-not-fits-clause-answered : goal.returns-then-not-fits-clause-answered
returns-then-not-fits-clause-answered g c =
    let at = (goal.at.returns-then-not-fits-clause-answered g c).After-say in
    on_ok_weaker c.say.result (λ printed told opened. answered_said (refused g at opened) c.say.ensures.run opened write_no_sync printed) c.say.ensures.printed

pub returns-then-not-fits-clause-begun : goal.returns-then-not-fits-clause-begun
returns-then-not-fits-clause-begun g c =
    let at = (goal.at.returns-then-not-fits-clause-begun g c).After-say in
    λ told opened. begun_said (refused g at opened) c.say.ensures.run c.say.ensures.part

-- ---- within it

pub returns-in_err-write-clause-begun : goal.returns-in_err-write-clause-begun
returns-in_err-write-clause-begun g c = λ told opened.
    let w = write_done c.args.at (length c.args.bytes.now) c.args.bytes.now refl opened c.fits.ensures c.if-not-fits.false in
    begun_part w.1 c.write.ensures.run (c.write.ensures.spares told opened w.0) (c.write.ensures.between told opened w.0)

module _ (g : Over) (c : After-say-2 g) (opened : IsOpen c.args.image.now ((g.D.Outside.world c.args.depot.now).seen c.args.image.now.file.0)) where
  -- the bytes lie in the disk, and the order writes them
  written : (c.args.at + length c.args.bytes.now ≤ disk_size ((g.D.Outside.world c.args.depot.now).seen c.args.image.now.file.0))
      × Tells (disk_of ((g.D.Outside.world c.args.depot.now).seen c.args.image.now.file.0)) (Write c.args.at c.args.bytes.now) ok_line (overlay (disk_of ((g.D.Outside.world c.args.depot.now).seen c.args.image.now.file.0)) c.args.at c.args.bytes.now)
  written = write_done c.args.at (length c.args.bytes.now) c.args.bytes.now refl opened c.fits.ensures c.if-not-fits.false

  -- they were written
  was_written : Did (g.D.Outside.world c.args.depot.now) (g.D.Outside.world c.write.new.depot) (g.D.Outside.world c.say-2.new.depot) c.args.image.now.file.0 (Write c.args.at c.args.bytes.now) ok_line (overlay (disk_of ((g.D.Outside.world c.args.depot.now).seen c.args.image.now.file.0)) c.args.at c.args.bytes.now)
  was_written = did written.1 c.write.ensures.run c.say-2.ensures.run

pub returns-clause-answered : goal.returns-clause-answered
returns-clause-answered g c =
    let at = (goal.at.returns-clause-answered g c).After-say-2 in
    on_ok_weaker c.say-2.result (λ printed told opened. answered (was_written g at opened) (c.in_ok-write.ensures.written told opened (written g at opened).0) (λ is. absurd (write_no_sync is)) printed) c.say-2.ensures.printed

pub returns-clause-begun : goal.returns-clause-begun
returns-clause-begun g c = λ told opened.
    let at = (goal.at.returns-clause-begun g c).After-say-2 in
    let inside = (written g at opened).0 in
    begun (was_written g at opened) (c.write.ensures.spares told opened inside) (c.in_ok-write.ensures.written told opened inside).1 c.say-2.ensures.part
