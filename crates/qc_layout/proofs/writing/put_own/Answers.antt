use Rattle.qc_layout.specs.Spelling.{own_bytes}
use Rattle.qc_layout.proofs.Puts.{puts_on}
use Rattle.qc_layout.proofs.writing.put_own.Goals as goal

pub returns-in-Source-clause-puts : goal.returns-in-Source-clause-puts
unfolding own_bytes
returns-in-Source-clause-puts c = rw c.in-Source.is (puts_on c.put_head-content.ensures (puts_on c.put-numbers.ensures c.put_words.ensures.puts))
