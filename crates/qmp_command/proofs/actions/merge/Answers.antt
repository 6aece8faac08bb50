use Rattle.std.proofs.Common.{map, rules}
use Rattle.std.specs.Prelude.{codes}
use Rattle.monitor_model.specs.Commands as model
use Rattle.qmp_command.specs.Views.{members}
use Rattle.qmp_command.proofs.Giving.{handed, first_told}
use Rattle.qmp_command.proofs.actions.merge.Goals as goal

pub returns-in_err-check : goal.returns-in_err-check
returns-in_err-check c =
    let ms = members c.args.object in
    let e = c.in_err-check.field-0.0 in
    let sources = map model.source_fault (model.items_in (model.get (codes "bitmaps") ms)) in
    handed c.from_residual.result e (model.merge_fault ms) (model.merge_of ms) (search rules) (first_told (model.object_fault model.merge_table ms) sources e c.in_err-check.ensures)
