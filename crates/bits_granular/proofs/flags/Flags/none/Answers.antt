use Rattle.std.proofs.Common.{ℕ, Bool, List, false, true, replicate, set, length, ap, sym, subst, ◌∙◌, arith}
use Rattle.std.specs.Prelude.{nat_lt}
use Rattle.std.proofs.lemmas.List.{length-replicate}
use Rattle.bitmap_model.proofs.Sets.{length-set_of}
use Rattle.bits_granular.specs.Words.{BitRow, bits_of, words_for, IsCounted}
use Rattle.bits_granular.proofs.Parts.{gaps_none, gaps_more, counted-zeros}
use Rattle.bits_granular.proofs.flags.Flags.none.Goals as goal

pub loop-number-init : goal.loop-number-init
loop-number-init c = c.in_ok-gaps.ensures.bits ∙ (ap (λ (n : ℕ). replicate n false) c.div_ceil.ensures ∙ gaps_none (words_for c.args.count))

pub put-requires : goal.put-requires
put-requires c =
    omega (arith, ap length c.loop-number.invariant, length-set_of (words_for c.args.count) (λ k. nat_lt k c.loop-number.number), c.loop-number-test.true, c.div_ceil-number-end.ensures)

pub loop-number-preserved : goal.loop-number-preserved
loop-number-preserved c =
    c.put.ensures
    ∙ (ap (λ (bits : List Bool). set bits c.loop-number.number true) c.loop-number.invariant
    ∙ gaps_more (words_for c.args.count) c.loop-number.number (omega (arith, c.loop-number-test.true, c.div_ceil-number-end.ensures)))

pub invariant_of-result : goal.invariant_of-result
invariant_of-result c =
    subst (λ (r : BitRow). IsCounted r (bits_of c.loop-number.gaps) 0) (sym c.in_ok-dirty.ensures.words)
    (counted-zeros c.args.count c.loop-number.number (bits_of c.loop-number.gaps) c.requires (omega (arith, c.loop-number-test.false, c.div_ceil-number-end.ensures)) c.loop-number.invariant)

pub returns-clause-count : goal.returns-clause-count
returns-clause-count c = ap length c.in_ok-dirty.ensures.bits ∙ length-replicate c.args.count false
