-- Each change of a bitmap leaves a span up to now to bitmaps that are recording alone.
use Rattle.std.proofs.Common.{rules, ℕ, Bool, List}
use Rattle.span_algebra.specs.declared.points.Point.{Point}
use Rattle.span_algebra.specs.Timelines.{Extent}
use Rattle.bitmap_model.specs.Bitmap.{BitmapState, new_bitmap, when_written, when_cleared, when_enabled, when_disabled, when_merged, when_frozen, when_abdicated, when_reclaimed}
use Rattle.bitmap_model.specs.BitmapLaws.{IsRecordedToNow}

-- ---- bitmaps

pub added_keeps_recorded : (p : Point) (size : ℕ) (name : List ℕ) (granularity : ℕ) (recording persistent : Bool)
    → IsRecordedToNow (new_bitmap size name granularity recording persistent p)
added_keeps_recorded p size name granularity recording persistent = search rules

pub written_keeps_recorded : (e : Extent) (b : BitmapState) → IsRecordedToNow b → IsRecordedToNow (when_written e b)
unfolding when_written
written_keeps_recorded e b recorded = search rules

pub cleared_keeps_recorded : (p : Point) (b : BitmapState) → IsRecordedToNow (when_cleared p b)
cleared_keeps_recorded p b = search rules

pub enabled_keeps_recorded : (p : Point) (b : BitmapState) → IsRecordedToNow b → IsRecordedToNow (when_enabled p b)
enabled_keeps_recorded p b recorded = search rules

pub disabled_keeps_recorded : (p : Point) (b : BitmapState) → IsRecordedToNow b → IsRecordedToNow (when_disabled p b)
disabled_keeps_recorded p b recorded = search rules

pub merged_keeps_recorded : (p : Point) (source b : BitmapState) → IsRecordedToNow b → IsRecordedToNow (when_merged source p b)
merged_keeps_recorded p source b recorded now = search rules

pub frozen_keeps_recorded : (b : BitmapState) → IsRecordedToNow b → IsRecordedToNow (when_frozen b)
frozen_keeps_recorded b recorded = recorded

pub abdicated_keeps_recorded : (p : Point) (b : BitmapState) → IsRecordedToNow (when_abdicated p b)
abdicated_keeps_recorded p b = search rules

pub reclaimed_keeps_recorded : (b : BitmapState) → IsRecordedToNow b → IsRecordedToNow (when_reclaimed b)
reclaimed_keeps_recorded b recorded = recorded
