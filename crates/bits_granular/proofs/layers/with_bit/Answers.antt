use Rattle.std.proofs.Common.{sym, ◌∙◌}
use Rattle.bits_granular.proofs.OneWord.{has-set_same, has-set_other, has-clear_same, has-clear_other}
use Rattle.bits_granular.proofs.layers.with_bit.Goals as goal

pub returns-then-value-clause-same : goal.returns-then-value-clause-same
returns-then-value-clause-same c = has-set_same c.args.word c.args.place c.requires ∙ sym c.if-value.true

pub returns-then-value-clause-others : goal.returns-then-value-clause-others
returns-then-value-clause-others c i inside other = has-set_other c.args.word c.args.place i c.requires other

pub returns-else-value-clause-same : goal.returns-else-value-clause-same
returns-else-value-clause-same c = has-clear_same c.args.word c.args.place c.requires ∙ sym c.if-value.false

pub returns-else-value-clause-others : goal.returns-else-value-clause-others
returns-else-value-clause-others c i inside other = has-clear_other c.args.word c.args.place i c.requires inside other
