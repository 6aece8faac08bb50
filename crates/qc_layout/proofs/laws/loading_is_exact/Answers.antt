use Rattle.qc_layout.proofs.Loading.{loading_is_exact}
use Rattle.qc_layout.proofs.laws.loading_is_exact.Goals as goal

pub returns : goal.returns
returns c = loading_is_exact
