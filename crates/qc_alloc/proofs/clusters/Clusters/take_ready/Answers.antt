use Rattle.qc_alloc.proofs.Pooled.{inside_taken}
use Rattle.qc_alloc.proofs.clusters.Clusters.take_ready.Goals as goal

pub invariant_of-self : goal.invariant_of-self
invariant_of-self c = inside_taken c.self.inside c.take_ready.new.self c.take_ready.result c.self.invariant c.take_ready.ensures.taken c.take_ready.ensures.ready c.take_ready.ensures.pool
