use Rattle.std.proofs.Common.{◌≡◌, drop}
use Rattle.monitor_model.specs.Commands as model
use Rattle.qmp_command.specs.Views.{plain_table}
use Rattle.qmp_command.proofs.members.is_in_table.Given as goal

abbrev pub invariant-loop-member : goal.invariant-loop-member
invariant-loop-member l = model.is_in_table (plain_table l.table) l.name ≡ model.is_in_table (plain_table (drop l.member-index l.table)) l.name
