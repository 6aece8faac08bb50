use Rattle.std.proofs.Common.{length, ap, sym, ◌∙◌, arith}
use Rattle.bits_granular.proofs.Rows.{length-bits}
use Rattle.bits_granular.proofs.flags.Flags.len.Goals as goal

pub returns-clause-value : goal.returns-clause-value
returns-clause-value c = c.count.ensures.count ∙ (sym (length-bits c.self.inside.dirty) ∙ ap length c.self.view_is)

pub returns-clause-few : goal.returns-clause-few
returns-clause-few c = omega (arith, c.self.invariant.row.few, length-bits c.self.inside.dirty, ap length c.self.view_is)
