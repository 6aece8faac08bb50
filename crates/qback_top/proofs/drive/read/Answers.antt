use Rattle.std.proofs.Common.{IsTrue, ◌∙◌, rules}
use Rattle.std.proofs.lemmas.Result.{on_ok_weaker}
use Rattle.qc_layout.specs.FirstForm.{disk_of}
use Rattle.qback_top.specs.Orders.{Read, invalid_line}
use Rattle.qback_top.specs.Open.{IsOpen}
use Rattle.qback_top.specs.Stops.{Needs}
use Rattle.qback_top.proofs.Growing.{file_read, read_same}
use Rattle.qback_top.proofs.Answering.{Tells, Did, did, read_refused, read_done, answered_same, begun_same, answered_said, begun_said, read_no_sync}
use Rattle.qback_top.proofs.drive.read.Given.{Over}
use Rattle.qback_top.proofs.drive.read.Goals.{After-say, After-say-2}
use Rattle.qback_top.proofs.drive.read.Goals as goal

-- ---- outside of the disk

refused : (g : Over) (c : After-say g) → IsOpen c.args.image.now ((g.D.Outside.world c.args.depot.now).seen c.args.image.now.file.0)
    → Tells (disk_of ((g.D.Outside.world c.args.depot.now).seen c.args.image.now.file.0)) (Read c.args.at c.args.length) invalid_line (disk_of ((g.D.Outside.world c.args.depot.now).seen c.args.image.now.file.0))
refused g c opened = read_refused c.args.at c.args.length opened c.fits.ensures c.if-not-fits.true

pub returns-then-not-fits-clause-answered : goal.returns-then-not-fits-clause-answered
returns-then-not-fits-clause-answered g c =
    let at = (goal.at.returns-then-not-fits-clause-answered g c).After-say in
    on_ok_weaker c.say.result (λ printed told opened. answered_said (refused g at opened) c.say.ensures.run opened read_no_sync printed) c.say.ensures.printed

pub returns-then-not-fits-clause-begun : goal.returns-then-not-fits-clause-begun
returns-then-not-fits-clause-begun g c =
    let at = (goal.at.returns-then-not-fits-clause-begun g c).After-say in
    λ told opened. begun_said (refused g at opened) c.say.ensures.run c.say.ensures.part

-- ---- within it

pub returns-in_err-text-clause-cause : goal.returns-in_err-text-clause-cause
returns-in_err-text-clause-cause g c =
    let old = g.D.Outside.world c.args.depot.now in
    let new = g.D.Outside.world c.read_disk.new.depot in
    let cause : Needs old new c.in_err-text.field-0.0 = c.in_err-text.ensures.cause old new in
    search rules

-- the bytes were read and said
was_read : (g : Over) (c : After-say-2 g) → IsTrue (g.D.Outside.world c.args.depot.now).tells → IsOpen c.args.image.now ((g.D.Outside.world c.args.depot.now).seen c.args.image.now.file.0)
    → Did (g.D.Outside.world c.args.depot.now) (g.D.Outside.world c.read_disk.new.depot) (g.D.Outside.world c.say-2.new.depot) c.args.image.now.file.0 (Read c.args.at c.args.length) c.deref-2.result.now (disk_of ((g.D.Outside.world c.args.depot.now).seen c.args.image.now.file.0))
was_read g c told opened = did (read_done c.args.at c.args.length c.deref.result.now c.deref-2.result.now opened c.fits.ensures c.if-not-fits.false
    (λ inside. c.deref.ensures.value ∙ c.in_ok-bytes.ensures.bytes told opened inside) (c.deref-2.ensures.value ∙ c.in_ok-text.ensures.text)) (file_read c.read_disk.ensures.run) c.say-2.ensures.run

pub returns-clause-answered : goal.returns-clause-answered
returns-clause-answered g c =
    let at = (goal.at.returns-clause-answered g c).After-say-2 in
    on_ok_weaker c.say-2.result (λ printed told opened. answered_same (was_read g at told opened) (read_same c.args.image.now.file.0 c.read_disk.ensures.run) opened (λ is. absurd (read_no_sync is)) printed) c.say-2.ensures.printed

pub returns-clause-begun : goal.returns-clause-begun
returns-clause-begun g c = λ told opened.
    let at = (goal.at.returns-clause-begun g c).After-say-2 in
    begun_same (was_read g at told opened) (read_same c.args.image.now.file.0 c.read_disk.ensures.run) c.say-2.ensures.part
