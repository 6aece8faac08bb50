use Rattle.map_opening.proofs.Claiming.{claim_taken, claim_refused, claim_below}
use Rattle.map_opening.proofs.claims.claim_cluster.Goals as goal

pub returns-in-Ok-clause-claims : goal.returns-in-Ok-clause-claims
returns-in-Ok-clause-claims c = claim_taken c.args.clusters.now c.claim.new.self c.args.index tt c.claims_are_exact.ensures c.holds.ensures c.in-Ok.ensures.claimed

pub returns-in-Ok-clause-near : goal.returns-in-Ok-clause-near
returns-in-Ok-clause-near c = claim_below c.args.clusters.now.pool c.args.index c.in-Ok.ensures.claimed.0

pub returns-in-Err-clause-claims : goal.returns-in-Err-clause-claims
returns-in-Err-clause-claims c =
    let e = c.in-Err.ensures in
    claim_refused c.args.clusters.now c.claim.new.self c.args.index c.in-Err.why c.refused_claim.result c.claims_are_exact.ensures c.holds.ensures e.refused c.refused_claim.ensures e.kept
