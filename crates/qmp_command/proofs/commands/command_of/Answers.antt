use Rattle.std.proofs.Common.{◌≡◌, Some, None, unwrap_or, Result, Ok, Err, sym, subst, rules}
use Rattle.core_events.specs.declared.commands.Command.{Command}
use Rattle.monitor_model.specs.Commands as model
use Rattle.qmp_command.specs.Views.{members, MeetsPlain, GivesAt}
use Rattle.qmp_command.specs.declared.orders.Refused.{Refused}
use Rattle.qmp_command.proofs.Commanding.{nowhere, acted_ok, acted_err, other_err}
use Rattle.qmp_command.proofs.commands.command_of.Goals as goal

pub returns-in_err-action : goal.returns-in_err-action
returns-in_err-action c =
    let name = c.args.name.now in
    let ms = members c.args.object in
    let e = c.in_err-action.field-0.0 in
    let last : Result Command model.At = Err (record { fault = model.UnknownCommand name; action = None }) in
    let is : c.in-Some.action ≡ Err e = search rules in
    let given : c.from_residual.result ≡ Err (nowhere e) = search rules in
    subst (λ (r : Result Command Refused). GivesAt r (model.command_of name ms)) (sym given)
    (acted_err c.in-Some.action (model.action_of name ms) (unwrap_or (model.plain_command name ms) last) e c.in-Some.ensures is)

pub returns-in-Some : goal.returns-in-Some
returns-in-Some c =
    let name = c.args.name.now in
    let ms = members c.args.object in
    let last : Result Command model.At = Err (record { fault = model.UnknownCommand name; action = None }) in
    let is : c.in-Some.action ≡ Ok c.in_ok-action.field-0 = search rules in
    acted_ok c.in-Some.action (model.action_of name ms) (unwrap_or (model.plain_command name ms) last) c.in_ok-action.field-0 c.in-Some.ensures is

pub returns-in_err-command-in-Some-other_command : goal.returns-in_err-command-in-Some-other_command
returns-in_err-command-in-Some-other_command c =
    let name = c.args.name.now in
    let ms = members c.args.object in
    let e = c.in_err-command-in-Some-other_command.field-0.0 in
    let last : Result Command model.At = Err (record { fault = model.UnknownCommand name; action = None }) in
    let none : model.action_of name ms ≡ None = search rules in
    let met : MeetsPlain (Some c.in-Some-other_command.command) (model.plain_command name ms) = c.in-Some-other_command.ensures (search rules) in
    let is : c.in-Some-other_command.command ≡ Err e = search rules in
    let given : c.from_residual-in_err-command-in-Some-other_command.result ≡ Err (nowhere e) = search rules in
    subst (λ (r : Result Command Refused). GivesAt r (model.command_of name ms)) (sym given)
    (other_err c.in-Some-other_command.command (model.action_of name ms) (model.plain_command name ms) last e none met is)
