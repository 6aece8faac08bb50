use Rattle.std.proofs.Common.{◌≡◌, ap}
use Rattle.qc_layout.specs.FirstForm.{disk_of}
use Rattle.qback_top.specs.Orders.{Say, drive_order, invalid_line}
use Rattle.qback_top.proofs.Answering.{say_tells, begun_said}
use Rattle.qback_top.proofs.drive.answer_drive.Goals as goal

pub returns-in-Status-clause-begun : goal.returns-in-Status-clause-begun
returns-in-Status-clause-begun g c = λ told opened.
    let r = c.args.request.now in
    let is : drive_order r.work r.offset r.length r.bytes.items.items ≡ Say invalid_line = ap (λ w. drive_order w r.offset r.length r.bytes.items.items) c.in-Status.is in
    begun_said (say_tells (disk_of ((g.D.Outside.world c.args.depot.now).seen c.args.image.now.file.0)) is) c.say.ensures.run c.say.ensures.part
