use Rattle.std.proofs.Common.{length, ap, arith}
use Rattle.bits_granular.proofs.Rows.{length-bits}
use Rattle.bits_granular.proofs.FlagRows.{next_word_found, next_word_none}
use Rattle.bits_granular.proofs.flags.Flags.next_word.Goals as goal

pub returns-clause-found : goal.returns-clause-found
returns-clause-found c = next_word_found c.self.inside.dirty c.args.self.now c.args.from c.next_word.result c.self.invariant.row c.self.view_is c.next_word.ensures.found

pub returns-clause-none : goal.returns-clause-none
returns-clause-none c = next_word_none c.self.inside.dirty c.args.self.now c.args.from c.next_word.result c.self.invariant.row c.self.view_is c.next_word.ensures.none

pub returns-clause-few : goal.returns-clause-few
returns-clause-few c = omega (arith, c.self.invariant.row.few, length-bits c.self.inside.dirty, ap length c.self.view_is)
