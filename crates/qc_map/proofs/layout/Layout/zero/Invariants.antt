use Rattle.std.proofs.Common.{◌-◌, ◌≤◌, None, replicate}
use Rattle.qc_alloc.specs.Allocator.{DiffersInUse}
use Rattle.qc_map.specs.Altering.{KnowsOn, Always}
use Rattle.qc_map.specs.Failures.{Went}
use Rattle.qc_map.specs.Mapping.{mapping, shape_by}
use Rattle.qc_map.specs.Zeroing.{SameRoom}
use Rattle.qc_map.proofs.Going.{IsStop}
use Rattle.qc_map.proofs.Reaching.{Reached}
use Rattle.qc_map.proofs.Requests.{zeroing}
use Rattle.qc_map.proofs.layout.Layout.zero.Given as goal

abbrev pub invariant-loop-done : goal.invariant-loop-done
invariant-loop-done g l = record {
  order : l.done ≤ l.bytes;
  stop : IsStop (shape_by (mapping l.self)) l.at l.bytes l.done;
  reached : Reached (mapping l.self) l.at l.done (replicate l.bytes 0) (zeroing l.self.size l.at) l.initial.clusters l.clusters (g.D.Outside.world l.initial.depot) (g.D.Outside.world l.depot);
  room : SameRoom (mapping l.self) l.initial.clusters l.clusters (g.D.Outside.world l.initial.depot);
  known : KnowsOn (mapping l.self) Always l.initial.clusters l.clusters (g.D.Outside.world l.initial.depot) (g.D.Outside.world l.depot);
  differs : DiffersInUse l.initial.clusters l.clusters;
  went : Went l.self.file.0 (g.D.Outside.world l.initial.depot) (g.D.Outside.world l.depot) None;
}

abbrev pub decreases-loop-done : goal.decreases-loop-done
decreases-loop-done g l = l.bytes - l.done
