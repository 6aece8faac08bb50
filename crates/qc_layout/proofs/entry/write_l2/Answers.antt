use Rattle.qc_layout.specs.Entries.{IsOffset}
use Rattle.qc_layout.proofs.EntryLaws.{stored_place, zero_place, stored_reads, zero_reads, zero_sum}
use Rattle.qc_layout.proofs.entry.write_l2.Goals as goal

pub returns-in-Zero-clause-word : goal.returns-in-Zero-clause-word
returns-in-Zero-clause-word c writable = let is : IsOffset c.in-Zero.offset = rw c.in-Zero.is at writable in rw c.in-Zero.is (zero_sum c.in-Zero.offset is.whole is.small)

pub returns-in-Zero-clause-reads_back : goal.returns-in-Zero-clause-reads_back
returns-in-Zero-clause-reads_back c bits word low high said = rw c.in-Zero.is (zero_reads bits c.in-Zero.offset (zero_place bits word c.in-Zero.offset (rw c.in-Zero.is at said)))

pub returns-in-Stored-clause-reads_back : goal.returns-in-Stored-clause-reads_back
returns-in-Stored-clause-reads_back c bits word low high said = rw c.in-Stored.is (stored_reads bits c.in-Stored.offset (stored_place bits word c.in-Stored.offset (rw c.in-Stored.is at said)))
