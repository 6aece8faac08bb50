use Rattle.std.proofs.Common.{◌≡◌, true, Option, Some, None, rules}
use Rattle.std.specs.Prelude.{codes}
use Rattle.serde_json.specs.Data.{Data}
use Rattle.monitor_model.specs.Commands as model
use Rattle.qmp_command.specs.Views.{members, told_fault}
use Rattle.qmp_command.proofs.Commanding.{nowhere}
use Rattle.qmp_command.proofs.Whole.{fault_refuses, unknown_refused, arguments_refused}
use Rattle.qmp_command.proofs.reading.asked.Goals as goal

pub returns-in-Some : goal.returns-in-Some
returns-in-Some c =
    let n = c.args.negotiated in
    let name = c.args.name.now in
    let ms = members c.args.object in
    let fault = model.UnknownMember c.in-Some.unknown.now in
    let due = λ (id : Option Data). model.order_of_members n id name ms in
    let unknown : model.unknown_in model.top_table ms ≡ Some fault = search rules in
    let is : c.from.result ≡ nowhere (told_fault fault) = search rules in
    fault_refuses fault c.from.result due is (λ id. unknown_refused n id name ms fault unknown)

pub returns-then-is_wrong : goal.returns-then-is_wrong
returns-then-is_wrong c =
    let n = c.args.negotiated in
    let name = c.args.name.now in
    let ms = members c.args.object in
    let fault = model.WrongType (codes "arguments") in
    let due = λ (id : Option Data). model.order_of_members n id name ms in
    let known : model.unknown_in model.top_table ms ≡ None = search rules in
    let wrong : model.is_wrong model.Object (model.get (codes "arguments") ms) ≡ true = search rules in
    let is : c.from-then-is_wrong.result ≡ nowhere (told_fault fault) = search rules in
    fault_refuses fault c.from-then-is_wrong.result due is (λ id. arguments_refused n id name ms known wrong)
