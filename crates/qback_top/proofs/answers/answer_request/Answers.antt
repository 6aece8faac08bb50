use Rattle.std.proofs.Common.{◌≡◌, ap, rules}
use Rattle.std.proofs.lemmas.Result.{on_ok_weaker}
use Rattle.qc_layout.specs.FirstForm.{disk_of}
use Rattle.qback_top.specs.Orders.{Say, request_order, invalid_line}
use Rattle.qback_top.proofs.Answering.{say_tells, say_no_sync, answered_said, begun_said}
use Rattle.qback_top.proofs.answers.answer_request.Goals as goal

pub returns-else-eq-clause-begun : goal.returns-else-eq-clause-begun
returns-else-eq-clause-begun g c = λ told opened.
    let r = c.args.request.now in
    let is : request_order r.way r.work r.offset r.length r.bytes.items.items ≡ Say invalid_line = search rules in
    begun_said (say_tells (disk_of ((g.D.Outside.world c.args.depot.now).seen c.args.image.now.file.0)) is) c.say.ensures.run c.say.ensures.part

pub returns-in-Export-clause-answered : goal.returns-in-Export-clause-answered
returns-in-Export-clause-answered g c =
    let r = c.args.request.now in
    let is : request_order r.way r.work r.offset r.length r.bytes.items.items ≡ Say invalid_line = ap (λ way. request_order way r.work r.offset r.length r.bytes.items.items) c.in-Export.is in
    let said = say_tells (disk_of ((g.D.Outside.world c.args.depot.now).seen c.args.image.now.file.0)) is in
    on_ok_weaker c.say-in-Export.result (λ printed told opened. answered_said said c.say-in-Export.ensures.run opened (say_no_sync is) printed) c.say-in-Export.ensures.printed

pub returns-in-Export-clause-begun : goal.returns-in-Export-clause-begun
returns-in-Export-clause-begun g c = λ told opened.
    let r = c.args.request.now in
    let is : request_order r.way r.work r.offset r.length r.bytes.items.items ≡ Say invalid_line = ap (λ way. request_order way r.work r.offset r.length r.bytes.items.items) c.in-Export.is in
    begun_said (say_tells (disk_of ((g.D.Outside.world c.args.depot.now).seen c.args.image.now.file.0)) is) c.say-in-Export.ensures.run c.say-in-Export.ensures.part
