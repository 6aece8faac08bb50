use Rattle.std.proofs.Common.{◌≡◌, ◌-◌, ◌*◌, ◌/◌, ◌^◌, ◌≤◌, min, length}
use Rattle.qc_map.specs.Mapping.{mapping}
use Rattle.qc_map.proofs.Rowwise.{Progress}
use Rattle.qc_map.proofs.layout.Layout.write_row.Given as goal

abbrev pub invariant-loop-index : goal.invariant-loop-index
invariant-loop-index g l = record {
  progress : Progress (mapping l.self) l.spot l.from l.row l.bytes l.initial.clusters l.clusters (g.D.Outside.world l.initial.depot) (g.D.Outside.world l.depot) l.index l.done;
  inside : l.index ≤ length l.row / 8;
  written : l.done ≡ min (l.index * 2 ^ l.self.cluster_bits - l.from) (length l.bytes);
}

abbrev pub decreases-loop-index : goal.decreases-loop-index
decreases-loop-index g l = length l.row / 8 - l.index
