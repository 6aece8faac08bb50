use Rattle.std.proofs.Common.{◌≡◌, map, take}
use Rattle.serde_json.specs.View.{view}
use Rattle.monitor_model.specs.Commands.{export_source}
use Rattle.qmp_command.proofs.commands.bitmaps_of.Given as goal

abbrev pub invariant-loop-item : goal.invariant-loop-item
invariant-loop-item l = l.bitmaps.items ≡ map export_source (map view (take l.item-index l.items))
