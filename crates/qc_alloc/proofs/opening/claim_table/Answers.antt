use Rattle.std.proofs.Common.{◌≡◌, ℕ, ◌+◌, ◌*◌, ◌/◌, ◌^◌, ◌<◌, ◌≤◌, [], ◌∷◌, map, Err, ap, subst, ◌∙◌, arith}
use Rattle.std.proofs.Math.Nat.{mul-le-mul_right}
use Rattle.std.specs.List.{range_with_len}
use Rattle.qc_layout.specs.Opening.Check.{Claim}
use Rattle.qc_layout.specs.Owners.Who.{Counts}
use Rattle.qc_alloc.specs.Tables.{Gone, Went}
use Rattle.qc_alloc.proofs.Claiming.{tabled_none, tabled_more, tabled_stop, kept_on, table_cluster}
use Rattle.qc_alloc.proofs.Layouts.{table_ends}
use Rattle.qc_alloc.proofs.Reading.{rule_handed}
use Rattle.qc_alloc.proofs.opening.claim_table.Goals as goal

pub loop-index-init : goal.loop-index-init
loop-index-init c = tabled_none c.args.pool.now (c.args.layout.table / c.args.layout.cluster)

pub loop-index-preserved : goal.loop-index-preserved
loop-index-preserved c =
    let l = c.args.layout in
    let q = c.loop-index.pool in
    let r = c.claim_at.new.pool in
    let n = c.loop-index.index in
    let had = c.loop-index.invariant in
    let bits : q.bits ≡ l.cluster_bits = ap (λ x. x.bits) had.kept.is ∙ c.requires.bits in
    let at : (l.table + n * l.cluster) / 2 ^ q.bits ≡ l.table / l.cluster + n = ap (λ (b : ℕ). (l.table + n * l.cluster) / 2 ^ b) bits ∙ table_cluster l n c.requires.layout in
    tabled_more c.args.pool.now q r (l.table / l.cluster) n had c.in_ok-claim_at.ensures.kept
    (λ file before knows. let P : ℕ → Type 0 = λ k. Gone file before (Claim Counts k ∷ []) r in subst P at (c.in_ok-claim_at.ensures.checks file before Counts knows))

pub returns-in_err-claim_at-clause-kept : goal.returns-in_err-claim_at-clause-kept
returns-in_err-claim_at-clause-kept c = kept_on c.args.pool.now c.loop-index.pool c.claim_at.new.pool c.loop-index.invariant.kept c.in_err-claim_at.ensures.kept

pub returns-in_err-claim_at-clause-checks : goal.returns-in_err-claim_at-clause-checks
returns-in_err-claim_at-clause-checks c =
    let l = c.args.layout in
    let q = c.loop-index.pool in
    let r = c.claim_at.new.pool in
    let n = c.loop-index.index in
    let had = c.loop-index.invariant in
    let why = c.in_err-claim_at.field-0.0 in
    let bits : q.bits ≡ l.cluster_bits = ap (λ x. x.bits) had.kept.is ∙ c.requires.bits in
    let at : (l.table + n * l.cluster) / 2 ^ q.bits ≡ l.table / l.cluster + n = ap (λ (b : ℕ). (l.table + n * l.cluster) / 2 ^ b) bits ∙ table_cluster l n c.requires.layout in
    let below : n < l.clusters = omega arith in
    tabled_stop (Unit {0}) c.args.pool.now q r (l.table / l.cluster) n l.clusters why c.from_residual.result below had c.from_residual.ensures.1
    (λ file before knows. let P : ℕ → Type 0 = λ k. Went {T = Unit {0}} file before (Claim Counts k ∷ []) r (Err why) in subst P at (c.in_err-claim_at.ensures.checks file before Counts knows))

pub returns-clause-checks : goal.returns-clause-checks
returns-clause-checks c file before knows =
    let l = c.args.layout in
    let all : c.loop-index.index ≡ l.clusters = omega arith in
    let had = c.loop-index.invariant in
    let P : ℕ → Type 0 = λ n. Gone file before (map (Claim Counts) (range_with_len (l.table / l.cluster) n)) c.loop-index.pool in
    subst P all (had.gone file before knows)

pub overflow_mul-index : goal.overflow_mul-index
overflow_mul-index c =
    let l = c.args.layout in
    let ends = table_ends l c.requires.layout c.requires.table in
    let m : c.loop-index.index * l.cluster ≤ l.clusters * l.cluster = mul-le-mul_right l.cluster (omega arith) in
    omega (arith, ends, m)

pub returns-in_err-claim_at-clause-rule : goal.returns-in_err-claim_at-clause-rule
returns-in_err-claim_at-clause-rule c = rule_handed c.in_err-claim_at.field-0.0 c.from_residual.result c.from_residual.ensures.1 c.in_err-claim_at.ensures.rule
