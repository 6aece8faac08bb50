use Rattle.std.proofs.Common.{◌≡◌, ◌≢◌, ℕ, ◌/◌, ◌^◌, ◌<◌, refl, sym, subst, ◌∙◌}
use Rattle.std.proofs.lemmas.Result.{on_ok_weaker}
use Rattle.qc_layout.specs.Owners.Who.{Block}
use Rattle.cluster_pool.specs.Pool.{block_at}
use Rattle.qc_alloc.specs.Tables.{Names}
use Rattle.qc_alloc.proofs.Claiming.{kept_same, gone_none, gone_as, went_as, claims_none, claims_some}
use Rattle.qc_alloc.proofs.opening.claim_block.Goals as goal

pub returns-then-block-eq0-clause-kept : goal.returns-then-block-eq0-clause-kept
returns-then-block-eq0-clause-kept c = kept_same c.args.pool.now c.args.pool.now refl

pub returns-then-block-eq0-clause-checks : goal.returns-then-block-eq0-clause-checks
returns-then-block-eq0-clause-checks c file before knows names =
    let none : block_at c.args.pool.now c.args.index ≡ 0 = sym c.block-block.ensures ∙ c.if-block-eq0.true in
    gone_as c.args.pool.now file before _ _ (claims_none file c.args.index (block_at c.args.pool.now c.args.index) names none) (gone_none c.args.pool.now file before knows)

pub returns-clause-below : goal.returns-clause-below
returns-clause-below c =
    let p = c.args.pool.now in
    let is : c.block-block.result ≡ block_at p c.args.index = c.block-block.ensures in
    on_ok_weaker c.claim_at.result (λ (below : c.block-block.result / 2 ^ p.bits < p.prepared) (some : block_at p c.args.index ≢ 0).
    let P : ℕ → Type 0 = λ b. b / 2 ^ p.bits < p.prepared in subst P is below) c.claim_at.ensures.below

pub returns-clause-checks : goal.returns-clause-checks
returns-clause-checks c file before knows names =
    let is : c.block-block.result ≡ block_at c.args.pool.now c.args.index = c.block-block.ensures in
    let named : Names file c.args.index c.block-block.result = subst (Names file c.args.index) (sym is) names in
    went_as c.claim_at.new.pool file before _ _ c.claim_at.result (claims_some c.args.pool.now file before c.args.index c.block-block.result knows named c.if-block-eq0.false)
    (c.claim_at.ensures.checks file before (Block c.args.index) knows)
