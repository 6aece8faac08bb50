use Rattle.std.proofs.Common.{◌≡◌, ◌++◌, take, drop}
use Rattle.std.specs.Prelude.{map}
use Rattle.bitmap_model.specs.Bitmap.{when_written}
use Rattle.bitmap_set.proofs.lookup.write_all.Given as goal

abbrev pub invariant-loop-bitmap : goal.invariant-loop-bitmap
invariant-loop-bitmap l =
    l.bitmaps ≡ map (when_written (record { at = l.at; size = l.length })) (take l.bitmap-index l.initial.bitmaps) ++ drop l.bitmap-index l.initial.bitmaps
