use Rattle.std.proofs.Common.{◌≡◌, map, take}
use Rattle.serde_json.specs.View.{view}
use Rattle.monitor_model.specs.Commands.{source_of}
use Rattle.qmp_command.proofs.actions.sources_of.Given as goal

abbrev pub invariant-loop-item : goal.invariant-loop-item
invariant-loop-item l = l.sources.items ≡ map source_of (map view (take l.item-index l.items))
