use Rattle.std.proofs.Common.{arith}
use Rattle.bits_granular.proofs.OneWord.{has-part, has-part_past}
use Rattle.bits_granular.proofs.words.part_of.Goals as goal

pub returns-clause-inside : goal.returns-clause-inside
returns-clause-inside c i inside =
    rw (c.below-ends.ensures, c.min.ensures, c.below-begins.ensures, c.min-2.ensures, c.saturating_sub.ensures) (has-part c.args.first c.args.past c.args.word i inside)

pub returns-clause-small : goal.returns-clause-small
returns-clause-small c i past = rw c.below-ends.ensures (has-part_past c.min.result _ i (omega (arith, c.min.ensures)) past)
