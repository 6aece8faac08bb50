use Rattle.core_layers.proofs.Exports.{found_opens}
use Rattle.core_layers.proofs.laws.found_opens.Goals as goal

pub returns : goal.returns
returns c id d h f old new history was since seen kept = found_opens f old new history was since seen kept
