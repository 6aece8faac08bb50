use Rattle.plain_model.proofs.ClosingLaws.{closing_stores}
use Rattle.plain_model.proofs.laws.closing_stores_lasting.Goals as goal

pub returns : goal.returns
returns c = closing_stores
