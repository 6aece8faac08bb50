use Rattle.std.proofs.Common.{◌≡◌, [], Bool, false, cond, bytes_eq, unwrap_or, Err, sym, subst, rules}
use Rattle.std.specs.Prelude.{codes}
use Rattle.core_events.specs.declared.commands.Action.TheVariants.{Abort}
use Rattle.monitor_model.specs.Commands as model
use Rattle.qmp_command.specs.Views.{members, Gives}
use Rattle.qmp_command.proofs.Giving.{met}
use Rattle.qmp_command.proofs.transactions.by_kind.Goals as goal

pub returns-in-Some : goal.returns-in-Some
returns-in-Some c =
    let kind = c.args.kind.now in
    let ms = members c.args.object in
    let other : bytes_eq kind (codes "abort") ≡ false = search rules in
    subst (λ (b : Bool). Gives c.in-Some.action (cond b (model.checked (model.object_fault [] ms) Abort) (unwrap_or (model.action_of kind ms) (Err (model.UnknownAction kind)))))
    (sym other) (met c.in-Some.action (model.action_of kind ms) (Err (model.UnknownAction kind)) c.in-Some.ensures)
