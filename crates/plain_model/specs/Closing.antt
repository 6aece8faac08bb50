-- What a closing stores of the bitmaps.
use Rattle.std.specs.Prelude.{List, map, filter}
use Rattle.bitmap_model.specs.Bitmap.{BitmapState, StoredBitmap, stored}
use Rattle.plain_model.specs.Machine.{Machine}
use Rattle.plain_model.specs.Ending.{closed}

-- once all jobs have ended, the persistent bitmaps, in their order
abbrev pub lasting : Machine → List BitmapState
lasting m = filter (λ (b : BitmapState). b.persistent) (closed m).machine.bitmaps

abbrev pub stored_by : Machine → List StoredBitmap
stored_by m = map stored (lasting m)
