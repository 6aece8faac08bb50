use Rattle.std.proofs.Common.{◌≡◌, drop}
use Rattle.monitor_model.specs.Commands.{wrong_in}
use Rattle.qmp_command.specs.Views.{members, plain_table}
use Rattle.qmp_command.proofs.members.wrong_in.Given as goal

abbrev pub invariant-loop-wanted : goal.invariant-loop-wanted
invariant-loop-wanted l = wrong_in (plain_table l.table) (members l.object) ≡ wrong_in (plain_table (drop l.wanted-index l.table)) (members l.object)
