use Rattle.bits_granular.specs.Words.{bits_of}
use Rattle.bits_granular.proofs.FlagRows.{count-flags}
use Rattle.bits_granular.proofs.flags.Flags.count.Goals as goal

pub returns : goal.returns
returns c = count-flags c.self.inside.dirty (bits_of c.self.inside.gaps) c.args.self.now c.self.inside.ones c.self.invariant c.self.view_is
