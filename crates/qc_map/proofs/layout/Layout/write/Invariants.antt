use Rattle.std.proofs.Common.{◌-◌, ◌≤◌, length, None}
use Rattle.qc_map.specs.Altering.{IsSameImage, KnowsOn, Always}
use Rattle.qc_map.specs.Failures.{Went}
use Rattle.qc_map.specs.Mapping.{mapping, shape_by}
use Rattle.qc_map.proofs.Going.{IsStop}
use Rattle.qc_map.proofs.Reaching.{Reached, HasUsed}
use Rattle.qc_map.proofs.Requests.{writing}
use Rattle.qc_map.proofs.layout.Layout.write.Given as goal

abbrev pub invariant-loop-done : goal.invariant-loop-done
invariant-loop-done g l = record {
  order : l.done ≤ length l.bytes;
  stop : IsStop (shape_by (mapping l.self)) l.at (length l.bytes) l.done;
  reached : Reached (mapping l.self) l.at l.done l.bytes (writing l.at) l.initial.clusters l.clusters (g.D.Outside.world l.initial.depot) (g.D.Outside.world l.depot);
  used : HasUsed (mapping l.self) l.at l.done l.initial.clusters l.clusters (g.D.Outside.world l.initial.depot) (g.D.Outside.world l.depot);
  known : KnowsOn (mapping l.self) Always l.initial.clusters l.clusters (g.D.Outside.world l.initial.depot) (g.D.Outside.world l.depot);
  image : IsSameImage l.initial.clusters l.clusters;
  went : Went l.self.file.0 (g.D.Outside.world l.initial.depot) (g.D.Outside.world l.depot) None;
}

abbrev pub decreases-loop-done : goal.decreases-loop-done
decreases-loop-done g l = length l.bytes - l.done
