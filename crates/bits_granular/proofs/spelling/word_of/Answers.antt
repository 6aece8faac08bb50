use Rattle.std.proofs.Common.{◌+◌, ◌*◌, ap, ◌∙◌, ℕ, arith}
use Rattle.bits_granular.specs.Words.{has}
use Rattle.bits_granular.proofs.Octets.{word_with_byte, word_without_byte}
use Rattle.bits_granular.proofs.spelling.word_of.Goals.{then-at-bytes, else-at-bytes}
use Rattle.bits_granular.proofs.spelling.word_of.Goals as goal

pub loop-place-preserved : goal.loop-place-preserved
loop-place-preserved c i inside = elim c.if-at-bytes.branch [
  | then-at-bytes w ↦ ap (λ (x : ℕ). has x i) w.word-is
      ∙ word_with_byte c.args.bytes.now c.args.number c.loop-place.place c.loop-place.word i c.loop-place-test.true inside
      (omega (arith, c.type_inv.bytes (c.args.number * 8 + c.loop-place.place))) (c.loop-place.invariant i inside)
  | else-at-bytes w ↦ ap (λ (x : ℕ). has x i) w.word-is
      ∙ word_without_byte c.args.bytes.now c.args.number c.loop-place.place c.loop-place.word i w.if-at-bytes.false (c.loop-place.invariant i inside)
]
