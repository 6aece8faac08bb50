use Rattle.std.proofs.Common.{◌≡◌, ℕ, ◌+◌, ◌/◌, ◌^◌, ◌<◌, List, [], ◌∷◌, sym, subst, ◌∙◌, arith, rules}
use Rattle.qc_layout.specs.Disks.{place_of}
use Rattle.qc_layout.specs.Opening.{Check}
use Rattle.qc_layout.specs.Opening.Check.{Claim}
use Rattle.qc_layout.specs.Owners.Who.{Tables}
use Rattle.map_opening.specs.Opening.{first_claims}
use Rattle.map_opening.proofs.Through.{claims_bits, through_same, through_step, through_end}
use Rattle.map_opening.proofs.Claiming.{cluster_near, offset_near}
use Rattle.map_opening.proofs.Level.{first_all, first_some}
use Rattle.map_opening.proofs.claims.FirstLevel.claim_first.Goals as goal

pub claim_cluster-requires : goal.claim_cluster-requires
claim_cluster-requires c =
    let l = c.args.self in
    let bits : c.loop-index.clusters.pool.bits ≡ l.cluster_bits = claims_bits c.loop-index.invariant.0 ∙ c.requires.bits in
    let P : ℕ → Type 0 = λ b. place_of b (l.place / 2 ^ l.cluster_bits + c.loop-index.index) < 2 ^ 64 in
    subst P (sym bits) (cluster_near l.cluster_bits l.place c.loop-index.index c.requires.level.high (search rules) c.loop-index.invariant.1)

pub loop-index-preserved : goal.loop-index-preserved
loop-index-preserved c =
    let l = c.args.self in
    let n = c.loop-index.index in
    let e = c.in_ok-claim_cluster.ensures in
    let near : l.place / 2 ^ l.cluster_bits + n < 2 ^ 30 = e.near in
    let G : List ℕ → ℕ → List Check = λ seen k. Claim Tables (l.place / 2 ^ l.cluster_bits + k) ∷ [] in
    (λ f w. through_step G n (c.loop-index.invariant.0 f w) (e.claims Tables f w), λ some. omega (arith, near))

pub returns-in_err-claim_cluster-clause-claims : goal.returns-in_err-claim_cluster-clause-claims
returns-in_err-claim_cluster-clause-claims c f w =
    let l = c.args.self in
    let n = c.loop-index.index in
    let all = c.div_ceil-index-end.result in
    let below : n < all = omega arith in
    let G : List ℕ → ℕ → List Check = λ seen k. Claim Tables (l.place / 2 ^ l.cluster_bits + k) ∷ [] in
    through_same (λ seen. first_claims l) (λ seen. first_all l all c.requires.level c.div_ceil-index-end.ensures)
    (through_end G n all c.from_residual.result below c.from_residual.ensures.1 (c.loop-index.invariant.0 f w) (c.in_err-claim_cluster.ensures.claims Tables f w))

pub returns-clause-claims : goal.returns-clause-claims
returns-clause-claims c f w =
    let l = c.args.self in
    let all : c.loop-index.index ≡ c.div_ceil-index-end.result = omega arith in
    through_same (λ seen. first_claims l) (λ seen. first_all l c.loop-index.index c.requires.level (all ∙ c.div_ceil-index-end.ensures)) (c.loop-index.invariant.0 f w)

pub returns-clause-near : goal.returns-clause-near
returns-clause-near c some =
    let l = c.args.self in
    let level = c.requires.level in
    let all : c.loop-index.index ≡ c.div_ceil-index-end.result = omega arith in
    let one = first_some l c.loop-index.index level (all ∙ c.div_ceil-index-end.ensures) some in
    let near = c.loop-index.invariant.1 one in
    offset_near l.cluster_bits l.place level.low level.high (omega (arith, near, one))
