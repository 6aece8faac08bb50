use Rattle.std.proofs.Common.{◌≡◌, ℕ, ◌+◌, ◌*◌, ◌/◌, ◌<◌, List, length, Ok, Err, ap, arith}
use Rattle.disk_model.specs.Files.{u64_at}
use Rattle.qc_layout.specs.Opening.{Check, each_below}
use Rattle.map_opening.specs.Opening.{level_checks}
use Rattle.map_opening.proofs.Through.{through_same, through_step, through_end}
use Rattle.map_opening.proofs.claims.FirstLevel.claim_entries.Goals as goal

pub loop-index-preserved : goal.loop-index-preserved
loop-index-preserved g c =
    let l = c.args.self in
    let k = c.loop-index.index in
    let G : List ℕ → ℕ → List Check = λ seen k. level_checks l seen (c.args.first + k) (u64_at c.args.entries.now (8 * k)) in
    through_step G k c.loop-index.invariant (through_same (λ seen. G seen k) {result = Ok c.in_ok-claim_entry.field-0} (λ seen. ap (λ (word : ℕ). level_checks l seen (c.args.first + k) word) c.word_at-entry.ensures) c.in_ok-claim_entry.ensures)

pub returns-in_err-claim_entry : goal.returns-in_err-claim_entry
returns-in_err-claim_entry g c =
    let l = c.args.self in
    let k = c.loop-index.index in
    let below : k < length c.args.entries.now / 8 = omega arith in
    let G : List ℕ → ℕ → List Check = λ seen k. level_checks l seen (c.args.first + k) (u64_at c.args.entries.now (8 * k)) in
    through_end G k (length c.args.entries.now / 8) c.from_residual.result below c.from_residual.ensures.1 c.loop-index.invariant
    (through_same (λ seen. G seen k) {result = Err c.in_err-claim_entry.field-0.0} (λ seen. ap (λ (word : ℕ). level_checks l seen (c.args.first + k) word) c.word_at-entry.ensures) c.in_err-claim_entry.ensures)

pub returns : goal.returns
returns g c =
    let all : c.loop-index.index ≡ length c.args.entries.now / 8 = omega arith in
    let G : List ℕ → ℕ → List Check = λ seen k. level_checks c.args.self seen (c.args.first + k) (u64_at c.args.entries.now (8 * k)) in
    through_same (λ seen. each_below (length c.args.entries.now / 8) (G seen)) (λ seen. ap (λ (n : ℕ). each_below n (G seen)) all) c.loop-index.invariant
