use Rattle.std.proofs.Common.{◌≡◌, Some, sym, ◌∙◌}
use Rattle.qc_alloc.specs.Opening.{rule_of}
use Rattle.cluster_pool.specs.Pool.{claim_refusal}
use Rattle.qc_alloc.proofs.Claiming.{ok_none, refusal_is_claim}
use Rattle.qc_alloc.proofs.clusters.claim.Goals as goal

pub returns-in-Ok-clause-claimed : goal.returns-in-Ok-clause-claimed
returns-in-Ok-clause-claimed c = (ok_none c.claim.result _ (claim_refusal c.args.pool.now c.args.index) c.in-Ok.is c.claim.ensures.refused, c.in-Ok.ensures.claimed)

pub returns-in-Err-clause-refused : goal.returns-in-Err-clause-refused
returns-in-Err-clause-refused c =
    let refusal : claim_refusal c.args.pool.now c.args.index ≡ Some c.in-Err.fault = (c.claim.ensures.refused c.in-Err.fault).0 c.in-Err.is in
    let rule : rule_of c.refusal_of.result ≡ Some c.in-Err.fault = c.refusal_of.ensures (refusal_is_claim c.args.pool.now c.args.index c.in-Err.fault refusal) in
    ((λ none. absurd (cc)), rule ∙ sym refusal)
