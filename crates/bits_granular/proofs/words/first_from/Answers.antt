use Rattle.std.proofs.Common.{◌+◌, ◌/◌, ◌^◌, arith}
use Rattle.std.specs.Int.{w64, trailing_zeros}
use Rattle.bits_granular.specs.Words.{has}
use Rattle.bits_granular.proofs.OneWord.{none_from, first_from_place}
use Rattle.bits_granular.proofs.Finding.{none_is, some_is}
use Rattle.bits_granular.proofs.words.first_from.Goals as goal

pub returns-then-rest-eq0-clause-none : goal.returns-then-rest-eq0-clause-none
returns-then-rest-eq0-clause-none c = none_is (has c.args.word) c.args.from (none_from c.args.word c.args.from c.if-rest-eq0.true)

pub returns-else-rest-eq0-clause-found : goal.returns-else-rest-eq0-clause-found
returns-else-rest-eq0-clause-found c = (first_from_place c.args.word c.args.from (omega arith) c.requires (omega (arith, c.if-rest-eq0.false))).1

pub returns-else-rest-eq0-clause-within : goal.returns-else-rest-eq0-clause-within
returns-else-rest-eq0-clause-within c = (first_from_place c.args.word c.args.from (omega arith) c.requires (omega (arith, c.if-rest-eq0.false))).0

pub returns-else-rest-eq0-clause-none : goal.returns-else-rest-eq0-clause-none
returns-else-rest-eq0-clause-none c =
    some_is (has c.args.word) c.args.from (c.args.from + trailing_zeros w64 (c.args.word / 2 ^ c.args.from))
    (first_from_place c.args.word c.args.from (omega arith) c.requires (omega (arith, c.if-rest-eq0.false))).1
