use Rattle.qc_layout.specs.Spelling.{word32, word64}
use Rattle.qc_layout.proofs.Puts.{puts_as}
use Rattle.qc_layout.proofs.writing.put_word.Goals as goal

pub returns-in-Four-clause-puts : goal.returns-in-Four-clause-puts
unfolding word32
returns-in-Four-clause-puts c = rw c.in-Four.is (puts_as c.to_be_bytes.ensures c.put.ensures)

pub returns-in-Eight-clause-puts : goal.returns-in-Eight-clause-puts
unfolding word64
returns-in-Eight-clause-puts c = rw c.in-Eight.is (puts_as c.to_be_bytes-in-Eight.ensures c.put-in-Eight.ensures)
