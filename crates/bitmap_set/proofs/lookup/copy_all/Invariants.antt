use Rattle.std.proofs.Common.{◌≡◌, ◌≤◌, take}
use Rattle.std.specs.Prelude.{vec_capacity}
use Rattle.bitmap_set.proofs.lookup.copy_all.Given as goal

abbrev pub invariant-loop-bitmap : goal.invariant-loop-bitmap
invariant-loop-bitmap l = (l.copies.items ≡ take l.bitmap-index l.bitmaps) × (64 ≤ vec_capacity l.copies)
