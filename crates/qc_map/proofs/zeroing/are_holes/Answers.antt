use Rattle.std.proofs.Common.{◌≡◌, inl, inr, ℕ, ◌*◌, ◌<◌, sym, ◌∙◌, ap, arith}
use Rattle.std.proofs.lemmas.Bool.{cases_lt}
use Rattle.disk_model.specs.Files.{u64_at}
use Rattle.image_model.specs.Clusters.{offset}
use Rattle.qc_map.proofs.zeroing.are_holes.Goals as goal

pub loop-index-init : goal.loop-index-init
loop-index-init c = λ m less. absurd (omega (arith, less))

pub loop-index-preserved : goal.loop-index-preserved
loop-index-preserved c = λ m less. elim (cases_lt m c.loop-index.index) [
  | inl before ↦ c.loop-index.invariant m before
  | inr last ↦
      let same : m ≡ c.loop-index.index = omega (arith, less, last) in
      ap (λ (k : ℕ). offset (u64_at c.args.row.now (8 * k))) same ∙ sym c.offset_at.ensures.offset ∙ c.if-offset_at-ne0.false
]

pub returns : goal.returns
returns c = record { holes = λ is m less. c.loop-index.invariant m (omega (arith, less, c.loop-index-test.false)) }
