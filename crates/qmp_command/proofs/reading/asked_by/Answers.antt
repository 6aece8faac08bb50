use Rattle.std.proofs.Common.{◌≡◌, true, false, bytes_eq, Option, Result, Err, sym, subst, rules}
use Rattle.std.specs.Prelude.{codes}
use Rattle.serde_json.specs.Data.{Data}
use Rattle.core_events.specs.declared.commands.Command.{Command}
use Rattle.monitor_model.specs.Commands as model
use Rattle.qmp_command.specs.Views.{members, told_fault, GivesAsked}
use Rattle.qmp_command.specs.declared.orders.Refused.{Refused}
use Rattle.qmp_command.proofs.Commanding.{nowhere}
use Rattle.qmp_command.proofs.Whole.{command_refuses, fault_refuses, test_refuses, order_by-negotiated, capabilities_refused, not_negotiated}
use Rattle.qmp_command.proofs.reading.asked_by.Goals as goal

pub returns-in_err-command_of : goal.returns-in_err-command_of
returns-in_err-command_of c =
    let n = c.args.negotiated in
    let name = c.args.name.now in
    let ms = members c.args.arguments in
    let e = c.in_err-command_of.field-0.0 in
    let due = λ (id : Option Data). model.order_by n id name ms in
    let given : c.from_residual.result ≡ Err e = search rules in
    subst (λ (r : Result (Option Command) Refused). GivesAsked r due) (sym given)
    (command_refuses (model.command_of name ms) e due c.in_err-command_of.ensures (λ id. order_by-negotiated n id name ms c.if-negotiated.true))

pub returns-in_err-check : goal.returns-in_err-check
returns-in_err-check c =
    let n = c.args.negotiated in
    let name = c.args.name.now in
    let ms = members c.args.arguments in
    let e = c.in_err-check.field-0.0 in
    let due = λ (id : Option Data). model.order_by n id name ms in
    let named : bytes_eq name (codes "qmp_capabilities") ≡ true = search rules in
    let given : c.from_residual-in_err-check.result ≡ Err (nowhere e) = search rules in
    subst (λ (r : Result (Option Command) Refused). GivesAsked r due) (sym given)
    (test_refuses (model.object_fault model.capabilities_table ms) e due c.in_err-check.ensures (λ fault test id. capabilities_refused n id name ms fault c.if-negotiated.false named test))

pub returns : goal.returns
returns c =
    let n = c.args.negotiated in
    let name = c.args.name.now in
    let ms = members c.args.arguments in
    let due = λ (id : Option Data). model.order_by n id name ms in
    let named : bytes_eq name (codes "qmp_capabilities") ≡ false = search rules in
    let is : c.from.result ≡ nowhere (told_fault (model.NotNegotiated name)) = search rules in
    fault_refuses (model.NotNegotiated name) c.from.result due is (λ id. not_negotiated n id name ms c.if-negotiated.false named)
