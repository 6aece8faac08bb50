use Rattle.std.proofs.Common.{◌+◌, ◌<◌, ◌^◌, false, ◌∙◌, arith, rules}
use Rattle.std.specs.Prelude.{bit_or}
use Rattle.std.proofs.lemmas.List.{get_or_past}
use Rattle.bitmap_model.specs.Granules.{is_in}
use Rattle.bits_granular.proofs.Parts.{union_fits, union_bits, union_more}
use Rattle.bits_granular.proofs.flags.Flags.join.Goals as goal

pub put_word-requires-clause-fits : goal.put_word-requires-clause-fits
put_word-requires-clause-fits c =
    union_fits c.loop-number.self c.in-Some.number c.word.result c.word-in-Some.result (is_in c.args.other.now) c.word.ensures c.word-in-Some.ensures
    (λ k past. get_or_past c.args.other.now k false (omega (arith, past, c.loop-number.invariant.count, c.requires)))

pub overflow_add-from : goal.overflow_add-from
overflow_add-from c =
    let fits : c.in-Some.number + 1 < 2 ^ 64 = omega (arith, c.in-Some.ensures.found.inside, c.next_word.ensures.few) in
    search rules

pub loop-number-preserved : goal.loop-number-preserved
loop-number-preserved c = record {
  count = c.put_word.ensures.count ∙ c.loop-number.invariant.count;
  bits = λ k. union_more c.args.self.now c.loop-number.self c.put_word.new.self c.loop-number.from c.in-Some.number (bit_or c.word.result c.word-in-Some.result) k (is_in c.args.other.now)
      c.put_word.ensures c.in-Some.ensures.found.not_below c.in-Some.ensures.found.first
      (union_bits c.loop-number.self c.in-Some.number c.word.result c.word-in-Some.result (is_in c.args.other.now) c.word.ensures c.word-in-Some.ensures) (c.loop-number.invariant.bits k);
  within = omega (arith, c.in-Some.ensures.found.inside, c.requires);
}
