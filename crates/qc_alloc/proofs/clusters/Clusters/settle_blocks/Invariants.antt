use Rattle.std.proofs.Common.{◌≡◌, ◌*◌, Ok}
use Rattle.disk_model.specs.declared.depot.Failed.{Failed}
use Rattle.file_device.specs.Calls.{Puts}
use Rattle.cluster_pool.specs.Pool.{each}
use Rattle.qc_alloc.specs.Settling.{SettlesOn, SettlesAll}
use Rattle.qc_alloc.proofs.clusters.Clusters.settle_blocks.Given as goal

abbrev pub invariant-loop-index : goal.invariant-loop-index
invariant-loop-index g l = record {
  same : l.self ≡ l.fn.self;
  goes : SettlesOn l.fn.self (g.D.Outside.world l.fn.depot) (g.D.Outside.world l.depot);
  counts : SettlesAll l.fn.self 0 (each l.fn.self.pool * l.index) (g.D.Outside.world l.fn.depot) (g.D.Outside.world l.depot);
  puts : Puts {T = Unit {0}} {E = Failed} l.fn.self.file (g.D.Outside.world l.fn.depot) (g.D.Outside.world l.depot) (Ok tt);
}
