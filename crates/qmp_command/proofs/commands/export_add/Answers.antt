use Rattle.std.proofs.Common.{rules}
use Rattle.monitor_model.specs.Commands as model
use Rattle.qmp_command.specs.Views.{members}
use Rattle.qmp_command.proofs.Giving.{handed}
use Rattle.qmp_command.proofs.commands.export_add.Goals as goal

pub returns-in_err-check : goal.returns-in_err-check
returns-in_err-check c =
    let ms = members c.args.object in
    handed c.from_residual.result c.in_err-check.field-0.0 (model.object_fault model.export_table ms) (model.export_of ms) (search rules) c.in_err-check.ensures
