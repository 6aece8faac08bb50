use Rattle.std.proofs.Common.{◌+◌, ◌-◌, ◌/◌, ◌≤◌, max, length, Ok}
use Rattle.disk_model.specs.declared.depot.WriteRefusal.{WriteRefusal}
use Rattle.file_device.specs.Calls.{Puts}
use Rattle.cluster_pool.specs.Pool.{reach, fresh}
use Rattle.qc_alloc.specs.Growing.{at_once, Raises, Grows, MendsBlocks}
use Rattle.qc_alloc.proofs.clusters.Clusters.top_up.Given as goal

abbrev pub invariant-loop-self : goal.invariant-loop-self
invariant-loop-self g l = record {
  raises : Raises l.fn.self.pool l.self.pool;
  grows : Grows l.fn.self l.self (g.D.Outside.world l.fn.depot) (g.D.Outside.world l.depot);
  puts : Puts {T = Unit {0}} {E = WriteRefusal} l.fn.self.file (g.D.Outside.world l.fn.depot) (g.D.Outside.world l.depot) (Ok tt);
  words : MendsBlocks l.fn.self l.self (g.D.Outside.world l.fn.depot) (g.D.Outside.world l.depot);
  bound : l.self.pool.prepared ≤ max l.fn.self.pool.prepared (l.self.pool.next + (l.want - length l.fn.self.pool.ready) + fresh l.fn.self.pool / 16);
  whole : l.self.pool.prepared ≤ max l.fn.self.pool.prepared (l.self.pool.next + max l.want (at_once l.fn.self.pool.bits));
  most : length l.self.pool.ready ≤ max l.want (length l.fn.self.pool.ready);
}

abbrev pub decreases-loop-self : goal.decreases-loop-self
decreases-loop-self g l = (reach l.self.pool - l.self.pool.next) + (reach l.self.pool - l.self.pool.prepared)
