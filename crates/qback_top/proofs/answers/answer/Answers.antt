use Rattle.std.proofs.Common.{◌≡◌, ap}
use Rattle.qc_layout.specs.FirstForm.{disk_of}
use Rattle.script_codec.specs.Views.{plain_line}
use Rattle.qback_top.specs.Orders.{Say, order_of, unbuilt_line}
use Rattle.qback_top.proofs.Answering.{say_tells, begun_said}
use Rattle.qback_top.proofs.answers.answer.Goals as goal

pub returns-in-Qmp-clause-begun : goal.returns-in-Qmp-clause-begun
returns-in-Qmp-clause-begun g c = λ told opened.
    let is : order_of (plain_line c.args.line.now) ≡ Say unbuilt_line = ap (λ l. order_of (plain_line l)) c.in-Qmp.is in
    begun_said (say_tells (disk_of ((g.D.Outside.world c.args.depot.now).seen c.args.image.now.file.0)) is) c.say.ensures.run c.say.ensures.part
