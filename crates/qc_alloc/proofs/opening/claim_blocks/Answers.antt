use Rattle.std.proofs.Common.{◌≡◌, ℕ, ◌<◌, List, length, ap, subst, arith}
use Rattle.qc_layout.specs.Opening.{each_below}
use Rattle.qc_alloc.specs.Tables.{Gone}
use Rattle.qc_alloc.proofs.Claiming.{claims_of, claimed_none, claimed_more, claimed_stop, same_blocks, kept_on}
use Rattle.qc_alloc.proofs.Reading.{rule_handed}
use Rattle.qc_alloc.proofs.opening.claim_blocks.Goals as goal

pub loop-index-init : goal.loop-index-init
loop-index-init c = claimed_none c.args.pool.now

pub claim_block-requires : goal.claim_block-requires
claim_block-requires c =
    let same = ap (λ (bs : List ℕ). length bs) (same_blocks c.args.pool.now c.loop-index.pool c.loop-index.invariant.kept) in
    omega (arith, same)

pub loop-index-preserved : goal.loop-index-preserved
loop-index-preserved c =
    let e = c.in_ok-claim_block.ensures in
    let inside : c.loop-index.index < length c.args.pool.now.blocks = omega arith in
    claimed_more c.args.pool.now c.loop-index.pool c.claim_block.new.pool c.loop-index.index inside c.loop-index.invariant e.kept e.below e.checks

pub returns-in_err-claim_block-clause-kept : goal.returns-in_err-claim_block-clause-kept
returns-in_err-claim_block-clause-kept c = kept_on c.args.pool.now c.loop-index.pool c.claim_block.new.pool c.loop-index.invariant.kept c.in_err-claim_block.ensures.kept

pub returns-in_err-claim_block-clause-checks : goal.returns-in_err-claim_block-clause-checks
returns-in_err-claim_block-clause-checks c =
    let inside : c.loop-index.index < length c.args.pool.now.blocks = omega arith in
    claimed_stop (Unit {0}) c.args.pool.now c.loop-index.pool c.claim_block.new.pool c.loop-index.index c.in_err-claim_block.field-0.0 c.from_residual.result inside
    c.loop-index.invariant c.from_residual.ensures.1 c.in_err-claim_block.ensures.checks

pub returns-clause-below : goal.returns-clause-below
returns-clause-below c i low some =
    let all : c.loop-index.index ≡ length c.args.pool.now.blocks = omega arith in
    c.loop-index.invariant.below i (omega (arith, all, low)) some

pub returns-clause-checks : goal.returns-clause-checks
returns-clause-checks c file before knows names =
    let all : c.loop-index.index ≡ length c.args.pool.now.blocks = omega arith in
    let P : ℕ → Type 0 = λ n. Gone file before (each_below n (claims_of file)) c.loop-index.pool in
    subst P all (c.loop-index.invariant.gone file before knows names)

pub returns-in_err-claim_block-clause-rule : goal.returns-in_err-claim_block-clause-rule
returns-in_err-claim_block-clause-rule c = rule_handed c.in_err-claim_block.field-0.0 c.from_residual.result c.from_residual.ensures.1 c.in_err-claim_block.ensures.rule
