use Rattle.qc_layout.proofs.Loading.{load_cause}
use Rattle.qc_layout.proofs.laws.loads_have_causes.Goals as goal

pub returns : goal.returns
returns c = load_cause
