use Rattle.std.proofs.Common.{◌≡◌, ◌+◌, ◌-◌, ◌≤◌, max, Ok}
use Rattle.disk_model.specs.declared.depot.WriteRefusal.{WriteRefusal}
use Rattle.file_device.specs.Calls.{Puts}
use Rattle.qc_alloc.specs.Growing.{Raises, Grows, MendsBlocks}
use Rattle.qc_alloc.proofs.clusters.Clusters.take_run.Given as goal

abbrev pub invariant-loop-self : goal.invariant-loop-self
invariant-loop-self g l = record {
  raises : Raises l.fn.self.pool l.self.pool;
  grows : Grows l.fn.self l.self (g.D.Outside.world l.fn.depot) (g.D.Outside.world l.depot);
  puts : Puts {T = Unit {0}} {E = WriteRefusal} l.fn.self.file (g.D.Outside.world l.fn.depot) (g.D.Outside.world l.depot) (Ok tt);
  words : MendsBlocks l.fn.self l.self (g.D.Outside.world l.fn.depot) (g.D.Outside.world l.depot);
  bound : l.self.pool.prepared ≤ max l.fn.self.pool.prepared (l.first + l.count);
  ready : l.self.pool.ready ≡ l.fn.self.pool.ready;
  next : l.self.pool.next ≡ l.fn.self.pool.next;
}

abbrev pub decreases-loop-self : goal.decreases-loop-self
decreases-loop-self g l = l.first + l.count - l.self.pool.prepared
