use Rattle.std.proofs.Common.{◌≡◌, ℕ, ◌+◌, ◌*◌, List, length}
use Rattle.std.specs.Vec.{vec_capacity}
use Rattle.disk_model.specs.Files.{reading}
use Rattle.qc_alloc.specs.Tables.{AreBlocks, AreWords}
use Rattle.qc_alloc.proofs.tables.Layout.test_entries.Given as goal

abbrev pub invariant-loop-index : goal.invariant-loop-index
invariant-loop-index l =
    (length l.blocks.items ≡ length l.initial.blocks.items + l.index)
    × (vec_capacity l.blocks ≡ vec_capacity l.initial.blocks)
    × (AreBlocks l.self l.initial.blocks.items → AreBlocks l.self l.blocks.items)
    × ((file : List ℕ) → l.bytes ≡ reading file (l.self.table + 8 * length l.initial.blocks.items) (length l.bytes) → AreWords l.self file l.initial.blocks.items → AreWords l.self file l.blocks.items)
