use Rattle.std.proofs.Common.{◌≡◌, ◌+◌, ◌<◌, ℕ, length, get_or}
use Rattle.qc_layout.proofs.numbers.array_at.Given as goal

abbrev pub invariant-loop-i : goal.invariant-loop-i
invariant-loop-i g l = record { long : length l.out ≡ g.row.N; same : (k : ℕ) → k < l.i → get_or l.out k 0 ≡ get_or l.bytes (l.at + k) 0 }
