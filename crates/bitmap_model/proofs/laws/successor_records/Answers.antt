use Rattle.bitmap_model.proofs.TrueSpans.{successor_covers}
use Rattle.bitmap_model.proofs.laws.successor_records.Goals as goal

pub returns : goal.returns
returns c size e b shaped inside records busy = successor_covers size e b shaped inside records busy
