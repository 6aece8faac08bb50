use Rattle.bitmap_model.proofs.TrueSpans.{written_keeps_true}
use Rattle.bitmap_model.proofs.laws.write_is_marked.Goals as goal

pub returns : goal.returns
returns c h e size b shaped inside recorded t = written_keeps_true h e size b shaped inside recorded t
