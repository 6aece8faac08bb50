use Rattle.std.proofs.Common.{◌∙◌, arith}
use Rattle.bits_granular.specs.Bytes.{bit_of}
use Rattle.bits_granular.proofs.Parts.{answers_more, read_all}
use Rattle.bits_granular.proofs.spelling.read_bits.Goals as goal

pub loop-number-preserved : goal.loop-number-preserved
loop-number-preserved c = record {
  count = c.put_word.ensures.count ∙ c.loop-number.invariant.count;
  bits = λ k. answers_more c.loop-number.flags c.put_word.new.self c.loop-number.number c.word_of.result k (bit_of c.args.bytes.now) c.put_word.ensures c.word_of.ensures (c.loop-number.invariant.bits k);
}

pub returns-clause-count : goal.returns-clause-count
returns-clause-count c = c.loop-number.invariant.count

pub returns-clause-flags : goal.returns-clause-flags
returns-clause-flags c =
    read_all c.loop-number.flags c.args.count c.loop-number.number (bit_of c.args.bytes.now) c.loop-number.invariant.count (omega (arith, c.loop-number-test.false, c.div_ceil-number-end.ensures))
    c.loop-number.invariant.bits
