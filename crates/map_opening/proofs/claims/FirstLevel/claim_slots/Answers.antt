use Rattle.std.proofs.Common.{◌≡◌, ℕ, ◌*◌, ◌/◌, ◌<◌, List, length, ap, ◌∙◌, arith}
use Rattle.disk_model.specs.Files.{u64_at}
use Rattle.qc_layout.specs.Opening.{Check, each_below}
use Rattle.qc_layout.specs.Owners.Who.{Guest}
use Rattle.map_opening.specs.Opening.{word_checks}
use Rattle.map_opening.proofs.Through.{claims_bits, through_same, through_step, through_end}
use Rattle.map_opening.proofs.claims.FirstLevel.claim_slots.Goals as goal

pub claim_slot-requires-clause-bits : goal.claim_slot-requires-clause-bits
claim_slot-requires-clause-bits c = claims_bits (c.loop-index.invariant 0) ∙ c.requires.bits

pub loop-index-preserved : goal.loop-index-preserved
loop-index-preserved c i f w =
    let bits = c.args.self.cluster_bits in
    let j = c.loop-index.index in
    let G : List ℕ → ℕ → List Check = λ seen j. word_checks bits i c.args.table j (u64_at c.args.words.now (8 * j)) in
    through_step G j (c.loop-index.invariant i f w)
    (through_same (λ seen. G seen j) (λ seen. ap (λ (word : ℕ). word_checks bits i c.args.table j word) c.word_at.ensures) (c.in_ok-claim_slot.ensures (Guest i j) f w))

pub returns-in_err-claim_slot : goal.returns-in_err-claim_slot
returns-in_err-claim_slot c i f w =
    let bits = c.args.self.cluster_bits in
    let j = c.loop-index.index in
    let below : j < length c.args.words.now / 8 = omega arith in
    let G : List ℕ → ℕ → List Check = λ seen j. word_checks bits i c.args.table j (u64_at c.args.words.now (8 * j)) in
    through_end G j (length c.args.words.now / 8) c.from_residual.result below c.from_residual.ensures.1 (c.loop-index.invariant i f w)
    (through_same (λ seen. G seen j) (λ seen. ap (λ (word : ℕ). word_checks bits i c.args.table j word) c.word_at.ensures) (c.in_err-claim_slot.ensures (Guest i j) f w))

pub returns : goal.returns
returns c i f w =
    let all : c.loop-index.index ≡ length c.args.words.now / 8 = omega arith in
    let G : List ℕ → ℕ → List Check = λ seen j. word_checks c.args.self.cluster_bits i c.args.table j (u64_at c.args.words.now (8 * j)) in
    through_same (λ seen. each_below (length c.args.words.now / 8) (G seen)) (λ seen. ap (λ (n : ℕ). each_below n (G seen)) all) (c.loop-index.invariant i f w)
