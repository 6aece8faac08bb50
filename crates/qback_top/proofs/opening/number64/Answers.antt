use Rattle.std.proofs.Common.{◌∙◌}
use Rattle.qback_top.proofs.Opened.{slice_u64}
use Rattle.qback_top.proofs.opening.number64.Goals as goal

pub returns : goal.returns
returns c = c.from_be_bytes.ensures ∙ slice_u64 c.args.bytes.now c.args.at c.requires
