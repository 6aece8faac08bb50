use Rattle.std.proofs.Common.{subst, rules}
use Rattle.monitor_model.specs.Commands as model
use Rattle.qmp_command.specs.Views.{members, Tells}
use Rattle.qmp_command.proofs.Giving.{handed}
use Rattle.qmp_command.proofs.actions.backup.Goals as goal

pub returns-in_err-check : goal.returns-in_err-check
returns-in_err-check c =
    let ms = members c.args.object in
    let told = subst (λ table. Tells (model.object_fault table ms) c.in_err-check.field-0.0) c.backup_table.ensures c.in_err-check.ensures in
    handed c.from_residual.result c.in_err-check.field-0.0 (model.object_fault (model.backup_table (model.asks_mode ms)) ms) (model.backup_of ms) (search rules) told
