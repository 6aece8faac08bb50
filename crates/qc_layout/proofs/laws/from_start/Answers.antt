use Rattle.qc_layout.proofs.Starts.{header_from_start, fault_from_start, read_as_from_start}
use Rattle.qc_layout.proofs.laws.from_start.Goals as goal

pub returns : goal.returns
returns c part n a b alike = (λ h is. header_from_start part a b h alike is, λ fault is. fault_from_start part a b fault alike is, λ is. read_as_from_start part a b alike is)
