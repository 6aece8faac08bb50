use Rattle.bitmap_model.proofs.TrueSpans.{base_is_covered}
use Rattle.bitmap_model.proofs.laws.base_is_covered.Goals as goal

pub returns : goal.returns
returns c h p a b rising t builds = base_is_covered h p a b rising t builds
