use Rattle.std.proofs.Common.{◌≡◌, drop}
use Rattle.monitor_model.specs.Commands.{missing_in}
use Rattle.qmp_command.specs.Views.{members, plain_table}
use Rattle.qmp_command.proofs.members.missing_in.Given as goal

abbrev pub invariant-loop-wanted : goal.invariant-loop-wanted
invariant-loop-wanted l = missing_in (plain_table l.table) (members l.object) ≡ missing_in (plain_table (drop l.wanted-index l.table)) (members l.object)
