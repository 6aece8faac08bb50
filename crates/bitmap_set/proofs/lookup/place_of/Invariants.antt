use Rattle.std.proofs.Common.{◌≡◌, drop}
use Rattle.bitmap_model.specs.Bitmaps.{named}
use Rattle.bitmap_set.proofs.lookup.place_of.Given as goal

abbrev pub invariant-loop-place : goal.invariant-loop-place
invariant-loop-place l = named l.name l.bitmaps ≡ named l.name (drop l.place l.bitmaps)
