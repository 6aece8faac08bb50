use Rattle.std.proofs.Common.{◌/◌, ◌^◌, ◌<◌, sym, arith, rules}
use Rattle.std.proofs.lemmas.Result.{on_ok_weaker}
use Rattle.qc_alloc.proofs.Claiming.{place_near}
use Rattle.map_opening.proofs.Claiming.{offset_near}
use Rattle.map_opening.proofs.claims.FirstLevel.claim_at.Goals as goal

pub claim_cluster-requires : goal.claim_cluster-requires
claim_cluster-requires c =
    let level = c.requires.level in
    let small = c.ranges.offset in
    place_near c.args.clusters.now.pool.bits c.args.self.cluster_bits c.args.offset (omega (arith, level.low, c.requires.bits)) (sym c.requires.bits) (search rules)

pub returns-clause-near : goal.returns-clause-near
returns-clause-near c =
    let level = c.requires.level in
    on_ok_weaker c.claim_cluster.result (λ (below : c.args.offset / 2 ^ c.args.self.cluster_bits < 2 ^ 30). offset_near c.args.self.cluster_bits c.args.offset level.low level.high below) c.claim_cluster.ensures.near
