use Rattle.qc_layout.proofs.Opening.{tables_pass, none_refused}
use Rattle.qc_layout.proofs.laws.opening_is_exact.Goals as goal

pub returns : goal.returns
returns c part file numbers = (tables_pass part file numbers, none_refused part file numbers)
