use Rattle.std.proofs.Common.{◌&&◌, ℕ, Bool, ◌∙◌, arith}
use Rattle.std.specs.Prelude.{nat_lt, nat_le, bit_or}
use Rattle.bits_granular.proofs.Parts.{union_fits, union_bits, union_more, past_false}
use Rattle.bits_granular.proofs.flags.Flags.fill.Goals as goal

pub put_word-requires-clause-fits : goal.put_word-requires-clause-fits
put_word-requires-clause-fits c =
    union_fits c.loop-number.self c.loop-number.number c.word.result c.part_of.result (λ k. nat_le c.args.first k && nat_lt k c.args.past) c.word.ensures c.part_of.ensures.inside
    (λ k past. past_false c.args.first c.args.past k (omega (arith, past, c.loop-number.invariant.count, c.requires.inside)))

pub loop-number-preserved : goal.loop-number-preserved
loop-number-preserved c =
    let test : ℕ → Bool = λ k. nat_le c.args.first k && nat_lt k c.args.past in
    record {
      count = c.put_word.ensures.count ∙ c.loop-number.invariant.count;
      bits = λ k. union_more c.args.self.now c.loop-number.self c.put_word.new.self c.loop-number.number c.loop-number.number (bit_or c.word.result c.part_of.result) k test c.put_word.ensures
          (omega arith) (λ j past below. absurd (omega arith)) (union_bits c.loop-number.self c.loop-number.number c.word.result c.part_of.result test c.word.ensures c.part_of.ensures.inside)
          (c.loop-number.invariant.bits k);
    }
