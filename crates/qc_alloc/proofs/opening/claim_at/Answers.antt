use Rattle.std.proofs.Common.{◌≡◌, ◌≢◌, None, ℕ, ◌/◌, ◌^◌, ◌<◌, [], ◌∷◌, OnOk, ap, subst, rules}
use Rattle.std.proofs.lemmas.Result.{IfErr-weaker}
use Rattle.qc_layout.specs.Opening.Check.{Claim}
use Rattle.qc_alloc.specs.declared.refusals.ClusterRefusal.{ClusterRefusal}
use Rattle.qc_alloc.specs.Opening.{rule_of}
use Rattle.cluster_pool.specs.Pool.{claim_refusal}
use Rattle.qc_alloc.specs.Tables.{Went}
use Rattle.qc_alloc.proofs.Claiming.{claim_kept, claim_below, claim_went, place_near}
use Rattle.qc_alloc.proofs.opening.claim_at.Goals as goal

pub claim-requires : goal.claim-requires
claim-requires c =
    let small = c.ranges.offset in
    place_near c.args.pool.now.bits c.cluster_bits.result c.args.offset c.cluster_bits.ensures.pool.low c.cluster_bits.ensures.bits (search rules)

pub returns-clause-kept : goal.returns-clause-kept
returns-clause-kept c = claim_kept c.args.pool.now c.claim.new.pool (c.args.offset / 2 ^ c.cluster_bits.result) c.claim.result c.cluster_bits.ensures.pool c.claim.ensures.claimed c.claim.ensures.kept

pub returns-clause-below : goal.returns-clause-below
returns-clause-below c =
    let same = ap (λ (b : ℕ). c.args.offset / 2 ^ b) c.cluster_bits.ensures.bits in
    let P : ℕ → Type 0 = λ k. OnOk c.claim.result (k < c.args.pool.now.prepared) in
    subst P same (claim_below c.args.pool.now c.claim.new.pool (c.args.offset / 2 ^ c.cluster_bits.result) c.claim.result c.cluster_bits.ensures.pool c.claim.ensures.claimed)

pub returns-clause-checks : goal.returns-clause-checks
returns-clause-checks c file before owner knows =
    let same = ap (λ (b : ℕ). c.args.offset / 2 ^ b) c.cluster_bits.ensures.bits in
    let P : ℕ → Type 0 = λ k. Went file before (Claim owner k ∷ []) c.claim.new.pool c.claim.result in
    subst P same (claim_went c.args.pool.now c.claim.new.pool (c.args.offset / 2 ^ c.cluster_bits.result) c.claim.result c.claims_are_exact.ensures c.cluster_bits.ensures.pool
    c.claim.ensures.refused c.claim.ensures.claimed file before owner knows)

pub returns-clause-rule : goal.returns-clause-rule
returns-clause-rule c =
    let P : ClusterRefusal → Type 0 = λ why. (rule_of why ≢ None) × (rule_of why ≡ claim_refusal c.args.pool.now (c.args.offset / 2 ^ c.cluster_bits.result)) in
    let Q : ClusterRefusal → Type 0 = λ why. rule_of why ≢ None in
    IfErr-weaker c.claim.result P Q (λ why is. is.0) c.claim.ensures.refused
