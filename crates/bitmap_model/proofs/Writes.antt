-- What a write makes of a bitmap, and what it leaves.
use Rattle.std.proofs.Common.{rules, ◌≡◌, true, false}
use Rattle.span_algebra.specs.Timelines.{Extent}
use Rattle.bitmap_model.specs.Granules.{marked}
use Rattle.bitmap_model.specs.Bitmap.{BitmapState, is_busy, marked_successor, when_written}

pub when_written-off : (e : Extent) (b : BitmapState) → b.recording ≡ false → when_written e b ≡ b
unfolding when_written
when_written-off e b off = search rules

-- what is so of a bitmap as it stands, with a marked successor and with marked granules is so after a write
pub written_cases : (e : Extent) (b : BitmapState) (P : BitmapState → Type 0) → (b.recording ≡ false → P b)
    → (b.recording ≡ true → is_busy b ≡ true → P (record b { successor = marked_successor e b.successor }))
    → (b.recording ≡ true → is_busy b ≡ false → P (record b { bits = marked b.bits e })) → P (when_written e b)
unfolding when_written
written_cases e b P off busy idle = search rules

-- ---- what stays

pub written_name : (e : Extent) (b : BitmapState) → (when_written e b).name ≡ b.name
unfolding when_written
written_name e b = search rules

pub written_span : (e : Extent) (b : BitmapState) → (when_written e b).span ≡ b.span
unfolding when_written
written_span e b = search rules

pub written_recording : (e : Extent) (b : BitmapState) → (when_written e b).recording ≡ b.recording
unfolding when_written
written_recording e b = search rules

pub written_persistent : (e : Extent) (b : BitmapState) → (when_written e b).persistent ≡ b.persistent
unfolding when_written
written_persistent e b = search rules

pub written_inconsistent : (e : Extent) (b : BitmapState) → (when_written e b).inconsistent ≡ b.inconsistent
unfolding when_written
written_inconsistent e b = search rules

pub written_is_busy : (e : Extent) (b : BitmapState) → is_busy (when_written e b) ≡ is_busy b
unfolding when_written
written_is_busy e b = search rules
