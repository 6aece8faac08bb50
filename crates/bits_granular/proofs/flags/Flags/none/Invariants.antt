use Rattle.std.proofs.Common.{◌≡◌}
use Rattle.std.specs.Prelude.{nat_lt}
use Rattle.bitmap_model.specs.Granules.{set_of}
use Rattle.bits_granular.specs.Words.{bits_of, words_for}
use Rattle.bits_granular.proofs.flags.Flags.none.Given as goal

abbrev pub invariant-loop-number : goal.invariant-loop-number
invariant-loop-number l = bits_of l.gaps ≡ set_of (words_for l.count) (λ k. nat_lt k l.number)
