use Rattle.std.proofs.Common.{◌≡◌, map, drop}
use Rattle.serde_json.specs.View.{view}
use Rattle.monitor_model.specs.Commands.{first_of, source_fault}
use Rattle.qmp_command.proofs.actions.check_sources.Given as goal

abbrev pub invariant-loop-item : goal.invariant-loop-item
invariant-loop-item l = first_of (map source_fault (map view l.items)) ≡ first_of (map source_fault (map view (drop l.item-index l.items)))
