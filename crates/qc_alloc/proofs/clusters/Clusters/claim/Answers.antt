use Rattle.std.proofs.Common.{sym, subst}
use Rattle.qc_alloc.specs.Allocator.{HandsOut}
use Rattle.qc_alloc.specs.Inside.{allocator_view}
use Rattle.qc_alloc.proofs.Pooled.{inside_claimed, hands_claimed}
use Rattle.qc_alloc.proofs.clusters.Clusters.claim.Goals as goal

pub invariant_of-self : goal.invariant_of-self
invariant_of-self c = inside_claimed c.self.inside c.claim.new.pool c.args.index c.claim.result c.self.invariant c.claim.ensures.claimed c.claim.ensures.kept

pub returns-clause-hands : goal.returns-clause-hands
returns-clause-hands c first is = hands_claimed first c.args.index (allocator_view c.self.inside) _ c.claim.result c.claim.ensures.claimed c.claim.ensures.kept (subst (HandsOut first) (sym c.self.view_is) is)
