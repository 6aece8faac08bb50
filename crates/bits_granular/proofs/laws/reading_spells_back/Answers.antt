use Rattle.bits_granular.proofs.Spellings.{spells_back}
use Rattle.bits_granular.proofs.laws.reading_spells_back.Goals as goal

pub returns : goal.returns
returns c n bytes count none = spells_back n bytes count none
