use Rattle.std.proofs.Common.{[], ◌∷◌, ◌++◌, map, Ok, Err, ap, ◌∙◌}
use Rattle.qc_layout.specs.Disks.{blocks_in}
use Rattle.qc_layout.specs.Opening.{each_below, count_clusters}
use Rattle.qc_layout.specs.Opening.Check.{Claim}
use Rattle.qc_layout.specs.Owners.Who.{Head, Counts}
use Rattle.cluster_pool.specs.Pool.{Pool}
use Rattle.qc_alloc.specs.Tables.{Went, Gone}
use Rattle.qc_alloc.proofs.Claiming.{claims_of, kept_on, went_on, stopped, head_zero, blocks_below, names_kept, blocks_went, table_went}
use Rattle.qc_alloc.proofs.Reading.{rule_handed}
use Rattle.qc_alloc.proofs.opening.claim_all.Goals as goal

pub returns-in_err-claim_table-clause-kept : goal.returns-in_err-claim_table-clause-kept
returns-in_err-claim_table-clause-kept c = kept_on c.args.pool.now c.claim_at.new.pool c.claim_table.new.pool c.in_ok-claim_at.ensures.kept c.in_err-claim_table.ensures.kept

pub claim_table-requires-clause-bits : goal.claim_table-requires-clause-bits
claim_table-requires-clause-bits c = ap (λ (x : Pool). x.bits) c.in_ok-claim_at.ensures.kept.is ∙ c.requires.bits

pub returns-clause-kept : goal.returns-clause-kept
returns-clause-kept c =
    kept_on c.args.pool.now c.claim_at.new.pool c.claim_blocks.new.pool c.in_ok-claim_at.ensures.kept
    (kept_on c.claim_at.new.pool c.claim_table.new.pool c.claim_blocks.new.pool c.in_ok-claim_table.ensures.kept c.claim_blocks.ensures.kept)

pub returns-clause-below : goal.returns-clause-below
returns-clause-below c =
    let kept = kept_on c.args.pool.now c.claim_at.new.pool c.claim_table.new.pool c.in_ok-claim_at.ensures.kept c.in_ok-claim_table.ensures.kept in
    blocks_below c.args.pool.now c.claim_table.new.pool c.claim_blocks.result kept c.claim_blocks.ensures.below

pub returns-in_err-claim_at-clause-checks : goal.returns-in_err-claim_at-clause-checks
returns-in_err-claim_at-clause-checks c file of knows names =
    let why = c.in_err-claim_at.field-0.0 in
    let r = c.claim_at.new.pool in
    stopped (Unit {0}) r file [] (Claim Head 0 ∷ []) (map (Claim Counts) (count_clusters file) ++ each_below (blocks_in file) (claims_of file)) why c.from_residual.result c.from_residual.ensures.1
    (head_zero {T = Unit {0}} c.args.layout c.args.pool.now r file (Err why) c.requires.layout c.requires.bits (c.in_err-claim_at.ensures.checks file [] Head knows))

pub returns-in_err-claim_table-clause-checks : goal.returns-in_err-claim_table-clause-checks
returns-in_err-claim_table-clause-checks c file of knows names =
    let l = c.args.layout in
    let why = c.in_err-claim_table.field-0.0 in
    let q = c.claim_at.new.pool in
    let r = c.claim_table.new.pool in
    let one : Gone file [] (Claim Head 0 ∷ []) q = head_zero {T = Unit {0}} l c.args.pool.now q file (Ok c.in_ok-claim_at.field-0) c.requires.layout c.requires.bits (c.in_ok-claim_at.ensures.checks file [] Head knows) in
    let two : Went {T = Unit {0}} file (0 ∷ []) (map (Claim Counts) (count_clusters file)) r (Err why) =
    table_went {T = Unit {0}} l r file (0 ∷ []) (Err why) c.requires.layout of (c.in_err-claim_table.ensures.checks file (0 ∷ []) one.knows) in
    stopped (Unit {0}) r file [] (Claim Head 0 ∷ map (Claim Counts) (count_clusters file)) (each_below (blocks_in file) (claims_of file)) why c.from_residual-in_err-claim_table.result
    c.from_residual-in_err-claim_table.ensures.1 (went_on {T = Unit {0}} q r file [] (Claim Head 0 ∷ []) (map (Claim Counts) (count_clusters file)) (Err why) one two)

pub returns-clause-checks : goal.returns-clause-checks
returns-clause-checks c file of knows names =
    let l = c.args.layout in
    let p = c.args.pool.now in
    let q = c.claim_at.new.pool in
    let r = c.claim_table.new.pool in
    let s = c.claim_blocks.new.pool in
    let kept = kept_on p q r c.in_ok-claim_at.ensures.kept c.in_ok-claim_table.ensures.kept in
    let one : Gone file [] (Claim Head 0 ∷ []) q = head_zero {T = Unit {0}} l p q file (Ok c.in_ok-claim_at.field-0) c.requires.layout c.requires.bits (c.in_ok-claim_at.ensures.checks file [] Head knows) in
    let two : Gone file (0 ∷ []) (map (Claim Counts) (count_clusters file)) r =
    table_went {T = Unit {0}} l r file (0 ∷ []) (Ok c.in_ok-claim_table.field-0) c.requires.layout of (c.in_ok-claim_table.ensures.checks file (0 ∷ []) one.knows) in
    let both : Gone file [] (Claim Head 0 ∷ map (Claim Counts) (count_clusters file)) r = went_on {T = Unit {0}} q r file [] (Claim Head 0 ∷ []) (map (Claim Counts) (count_clusters file)) (Ok c.in_ok-claim_table.field-0) one two in
    went_on r s file [] (Claim Head 0 ∷ map (Claim Counts) (count_clusters file)) (each_below (blocks_in file) (claims_of file)) c.claim_blocks.result both
    (blocks_went r s file _ c.claim_blocks.result both.knows (c.claim_blocks.ensures.checks file _ both.knows (names_kept p r file kept both.knows names)))

pub returns-in_err-claim_at-clause-rule : goal.returns-in_err-claim_at-clause-rule
returns-in_err-claim_at-clause-rule c = rule_handed c.in_err-claim_at.field-0.0 c.from_residual.result c.from_residual.ensures.1 c.in_err-claim_at.ensures.rule

pub returns-in_err-claim_table-clause-rule : goal.returns-in_err-claim_table-clause-rule
returns-in_err-claim_table-clause-rule c = rule_handed c.in_err-claim_table.field-0.0 c.from_residual-in_err-claim_table.result c.from_residual-in_err-claim_table.ensures.1 c.in_err-claim_table.ensures.rule
