use Rattle.std.proofs.Common.{◌≡◌, ℕ, ◌+◌, ◌*◌, ◌/◌, ◌<◌, length}
use Rattle.disk_model.specs.Files.{u16_at}
use Rattle.qc_alloc.specs.Tables.{Notes}
use Rattle.qc_alloc.proofs.tables.note_counts.Given as goal

abbrev pub invariant-loop-index : goal.invariant-loop-index
invariant-loop-index l =
    (l.counted.limit ≡ l.initial.counted.limit)
    × (l.counted.limit ≡ length l.counted.set)
    × ((counts : ℕ → ℕ) → ((i : ℕ) → i < length l.bytes / 2 → counts (l.from + i) ≡ u16_at l.bytes (2 * i))
    → Notes counts l.from l.initial.counted.set l.initial.counted.past → Notes counts (l.from + l.index) l.counted.set l.counted.past)
