use Rattle.std.proofs.Common.{◌-◌, ◌≡◌, ◌*◌, ◌≤◌, Ok}
use Rattle.disk_model.specs.declared.depot.Failed.{Failed}
use Rattle.file_device.specs.Calls.{Puts}
use Rattle.cluster_pool.specs.Pool.{each}
use Rattle.qc_alloc.specs.Settling.{SettlesOn, SettlesAll}
use Rattle.qc_alloc.proofs.clusters.Clusters.settle_block.Given as goal

abbrev pub invariant-loop-slot : goal.invariant-loop-slot
invariant-loop-slot g l = record {
  same : l.self ≡ l.fn.self;
  goes : SettlesOn l.fn.self (g.D.Outside.world l.fn.depot) (g.D.Outside.world l.depot);
  counts : SettlesAll l.fn.self (each l.fn.self.pool * l.index) l.slot (g.D.Outside.world l.fn.depot) (g.D.Outside.world l.depot);
  puts : Puts {T = Unit {0}} {E = Failed} l.fn.self.file (g.D.Outside.world l.fn.depot) (g.D.Outside.world l.depot) (Ok tt);
  within : l.slot ≤ l.each;
}

abbrev pub decreases-loop-slot : goal.decreases-loop-slot
decreases-loop-slot g l = l.each - l.slot
