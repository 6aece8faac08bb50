use Rattle.std.proofs.Common.{◌≡◌, map, drop}
use Rattle.serde_json.specs.View.{view}
use Rattle.monitor_model.specs.Commands.{actions_from}
use Rattle.qmp_command.proofs.Acting.{after}
use Rattle.qmp_command.proofs.transactions.actions_of.Given as goal

abbrev pub invariant-loop-number : goal.invariant-loop-number
invariant-loop-number l = actions_from 0 (map view l.items) ≡ after l.actions.items (actions_from l.number (map view (drop l.number l.items)))
