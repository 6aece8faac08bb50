use Rattle.std.proofs.Common.{◌∙◌}
use Rattle.qback_top.proofs.Opened.{slice_u32}
use Rattle.qback_top.proofs.opening.number32.Goals as goal

pub returns : goal.returns
returns c = c.from_be_bytes.ensures ∙ slice_u32 c.args.bytes.now c.args.at c.requires
