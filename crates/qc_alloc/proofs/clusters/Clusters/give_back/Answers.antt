use Rattle.qc_alloc.proofs.Pooled.{inside_given}
use Rattle.qc_alloc.proofs.clusters.Clusters.give_back.Goals as goal

pub invariant_of-self : goal.invariant_of-self
invariant_of-self c = inside_given c.self.inside c.give_back.new.self c.args.index c.self.invariant c.give_back.ensures.given
