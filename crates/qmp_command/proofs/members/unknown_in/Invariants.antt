use Rattle.std.proofs.Common.{◌≡◌}
use Rattle.serde_json.specs.View.{members_view}
use Rattle.monitor_model.specs.Commands.{unknown_in}
use Rattle.qmp_command.specs.Views.{members, plain_table}
use Rattle.qmp_command.proofs.members.unknown_in.Given as goal

abbrev pub invariant-loop-name : goal.invariant-loop-name
invariant-loop-name l = unknown_in (plain_table l.table) (members l.fn.object) ≡ unknown_in (plain_table l.table) (members_view l.name-iterator)
