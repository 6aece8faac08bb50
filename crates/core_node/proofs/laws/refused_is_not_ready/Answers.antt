use Rattle.qc_layout.proofs.Loading.{loading_is_exact}
use Rattle.core_node.proofs.Sources.{refused_is_not_ready}
use Rattle.core_node.proofs.laws.refused_is_not_ready.Goals as goal

pub returns : goal.returns
returns c = refused_is_not_ready loading_is_exact
