use Rattle.std.proofs.Common.{◌≡◌, ℕ, ◌+◌, ◌*◌, ◌<◌, slice_index}
use Rattle.qc_alloc.proofs.tables.neighbours.Given as goal

abbrev pub invariant-loop-count : goal.invariant-loop-count
invariant-loop-count l = (j : ℕ) → j < l.count → slice_index l.blocks (l.first + j) ≡ slice_index l.blocks l.first + j * l.cluster
