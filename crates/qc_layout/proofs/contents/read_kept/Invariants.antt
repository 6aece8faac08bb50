use Rattle.std.proofs.Common.{◌≡◌, ◌++◌, drop}
use Rattle.qc_layout.specs.Extensions.{tail_of, kept_bytes}
use Rattle.qc_layout.proofs.contents.read_kept.Given as goal

abbrev pub invariant-loop-e : goal.invariant-loop-e
invariant-loop-e l = l.kept.items ++ kept_bytes l.bytes (drop l.e-index l.extensions) ≡ tail_of l.bytes l.header_length ++ kept_bytes l.bytes l.extensions
