use Rattle.bitmap_model.proofs.TrueSpans.{abdicated_is_true}
use Rattle.bitmap_model.proofs.laws.abdicating_makes_true.Goals as goal

pub returns : goal.returns
returns c h p b there all = abdicated_is_true h p b there all
