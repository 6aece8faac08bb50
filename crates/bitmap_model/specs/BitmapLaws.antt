-- The laws of bitmaps, as statements: what each change does to a true span.
use Rattle.std.specs.Prelude.{◌≡◌, ℕ, ◌+◌, ◌≤◌, List, Bool, false, None, IsTrue}
use Rattle.span_algebra.specs.declared.points.Point.{Point}
use Rattle.span_algebra.specs.declared.points.End.TheVariants.{Now, At}
use Rattle.span_algebra.specs.declared.spans.Span.TheVariants.{Unknown}
use Rattle.span_algebra.specs.declared.spans.Base.TheVariants.{Since}
use Rattle.span_algebra.specs.Timelines.{Extent, Timeline, with_write, with_point, IsRising, stands}
use Rattle.span_algebra.specs.Spans.{that_pass, AllBytes, AllTouched, SpanHolds, ends_now}
use Rattle.bitmap_model.specs.Granules.{IsShaped, IsAllowed, cleared}
use Rattle.bitmap_model.specs.Bitmap.{BitmapState, StoredBitmap, IsTrueBitmap, IsShapedBitmap, is_busy, covers, successor_has, new_bitmap, when_written, when_cleared, when_enabled, when_disabled, when_merged, when_frozen, when_abdicated, when_reclaimed, base_at, restored, stored}

-- a change at the last point of what happened keeps a bitmap's span true, or makes it so; none of them is made while a job uses the bitmap
pub record ChangesKeepTrue (h : Timeline) (p : Point) : Type 0 where
  pub added : (size : ℕ) (name : List ℕ) (granularity : ℕ) (recording persistent : Bool)
      → IsTrueBitmap (with_point h p) (new_bitmap size name granularity recording persistent p)
  pub cleared : (b : BitmapState) → is_busy b ≡ false → IsTrueBitmap (with_point h p) (when_cleared p b)
  pub enabled : (b : BitmapState) → IsTrueBitmap (with_point h p) b → IsTrueBitmap (with_point h p) (when_enabled p b)
  pub disabled : (b : BitmapState) → IsTrueBitmap (with_point h p) b → IsTrueBitmap (with_point h p) (when_disabled p b)
  pub merged : (size : ℕ) (source b : BitmapState) → IsShapedBitmap size source → IsShapedBitmap size b → is_busy source ≡ false
      → IsTrueBitmap (with_point h p) source → IsTrueBitmap (with_point h p) b → IsTrueBitmap (with_point h p) (when_merged source p b)

abbrev pub ChangesAtLastPoint : Type 0
ChangesAtLastPoint = (h : Timeline) (p : Point) → IsRising (with_point h p) → ChangesKeepTrue h p

-- where a backup at the last point p builds on a, the bitmap has each byte that was written from a to p
abbrev pub BaseIsCovered : Type 0
BaseIsCovered = (h : Timeline) (p a : Point) (b : BitmapState) → IsRising (with_point h p) → IsTrueBitmap (with_point h p) b → base_at p b ≡ Since a
    → SpanHolds (with_point h p) a (At p) (that_pass (covers b))

-- a span up to now belongs to a bitmap that is recording
abbrev pub IsRecordedToNow : BitmapState → Type 0
IsRecordedToNow b = IsTrue (ends_now b.span) → IsTrue b.recording

-- a write on the disk keeps a span true, where a span up to now belongs to a bitmap that is recording
abbrev pub WriteIsMarked : Type 0
WriteIsMarked = (h : Timeline) (e : Extent) (size : ℕ) (b : BitmapState) → IsShapedBitmap size b → e.at + e.size ≤ size → IsRecordedToNow b
    → IsTrueBitmap h b → IsTrueBitmap (with_write h e) (when_written e b)

-- while a job uses a bitmap that is recording, a write is marked in the successor alone, and the successor goes on to cover what it covered
pub record SuccessorCovers (size : ℕ) (e : Extent) (b : BitmapState) : Type 0 where
  pub written : AllBytes (that_pass (successor_has (when_written e b).successor)) e
  pub before : (x : ℕ) → IsTrue (successor_has b.successor x) → IsTrue (successor_has (when_written e b).successor x)

abbrev pub SuccessorRecords : Type 0
SuccessorRecords = (size : ℕ) (e : Extent) (b : BitmapState) → IsShapedBitmap size b → e.at + e.size ≤ size → IsTrue b.recording → IsTrue (is_busy b) → SuccessorCovers size e b

-- a further point, and being taken into use by a job, keep a span true
abbrev pub PointKeepsBitmapTrue : Type 0
PointKeepsBitmapTrue = (h : Timeline) (q : Point) (b : BitmapState) → IsTrueBitmap h b → IsTrueBitmap (with_point h q) b

abbrev pub FreezingKeepsTrue : Type 0
FreezingKeepsTrue = (h : Timeline) (b : BitmapState) → is_busy b ≡ false → IsTrueBitmap h b → IsTrueBitmap h (when_frozen b)

-- reclaim keeps a span true at any moment
abbrev pub ReclaimingKeepsTrue : Type 0
ReclaimingKeepsTrue = (h : Timeline) (size : ℕ) (b : BitmapState) → IsShapedBitmap size b → IsTrueBitmap h b → IsTrueBitmap h (when_reclaimed b)

-- At any moment after a job's point p, abdication makes a span true where the successor alone covers what was written since p. Of a
-- bitmap that isn't recording nothing is asked.
abbrev pub AbdicatingMakesTrue : Type 0
AbdicatingMakesTrue = (h : Timeline) (p : Point) (b : BitmapState) → IsTrue (stands p h)
    → (IsTrue b.recording → AllTouched (that_pass (successor_has b.successor)) h p Now) → IsTrueBitmap h (when_abdicated p b)

-- each change keeps the sets in shape
pub record ChangesKeepShape (size : ℕ) : Type 0 where
  pub added : (name : List ℕ) (granularity : ℕ) (recording persistent : Bool) (p : Point) → IsAllowed size granularity
      → IsShapedBitmap size (new_bitmap size name granularity recording persistent p)
  pub written : (e : Extent) (b : BitmapState) → IsShapedBitmap size b → IsShapedBitmap size (when_written e b)
  pub emptied : (p : Point) (b : BitmapState) → IsShapedBitmap size b → IsShapedBitmap size (when_cleared p b)
  pub enabled : (p : Point) (b : BitmapState) → IsShapedBitmap size b → IsShapedBitmap size (when_enabled p b)
  pub disabled : (p : Point) (b : BitmapState) → IsShapedBitmap size b → IsShapedBitmap size (when_disabled p b)
  pub joined : (source : BitmapState) (p : Point) (b : BitmapState) → IsShapedBitmap size b → IsShapedBitmap size (when_merged source p b)
  pub frozen : (b : BitmapState) → IsShapedBitmap size b → IsShapedBitmap size (when_frozen b)
  pub abdicated : (p : Point) (b : BitmapState) → IsShapedBitmap size b → IsShapedBitmap size (when_abdicated p b)
  pub reclaimed : (b : BitmapState) → IsShapedBitmap size b → IsShapedBitmap size (when_reclaimed b)
  pub restored_from : (e : StoredBitmap) → IsShaped e.bits → e.bits.size ≡ size → IsShapedBitmap size (restored e)

abbrev pub ShapeIsKept : Type 0
ShapeIsKept = (size : ℕ) → ChangesKeepShape size

-- each change leaves a span up to now to bitmaps that are recording alone
pub record ChangesKeepRecorded (p : Point) : Type 0 where
  pub added : (size : ℕ) (name : List ℕ) (granularity : ℕ) (recording persistent : Bool) → IsRecordedToNow (new_bitmap size name granularity recording persistent p)
  pub written : (e : Extent) (b : BitmapState) → IsRecordedToNow b → IsRecordedToNow (when_written e b)
  pub emptied : (b : BitmapState) → IsRecordedToNow (when_cleared p b)
  pub enabled : (b : BitmapState) → IsRecordedToNow b → IsRecordedToNow (when_enabled p b)
  pub disabled : (b : BitmapState) → IsRecordedToNow b → IsRecordedToNow (when_disabled p b)
  pub joined : (source b : BitmapState) → IsRecordedToNow b → IsRecordedToNow (when_merged source p b)
  pub abdicated : (b : BitmapState) → IsRecordedToNow (when_abdicated p b)
  pub reclaimed : (b : BitmapState) → IsRecordedToNow b → IsRecordedToNow (when_reclaimed b)

abbrev pub RecordedIsKept : Type 0
RecordedIsKept = (p : Point) → ChangesKeepRecorded p

-- An inconsistent bitmap has a name and a granularity alone.
pub record IsBlank (b : BitmapState) : Type 0 where
  pub span : b.span ≡ Unknown
  pub empty : b.bits ≡ cleared b.bits
  pub recording : b.recording ≡ false
  pub free : b.successor ≡ None

-- what is stored of a persistent bitmap that no job uses is restored as that bitmap
abbrev pub StoredIsRestored : Type 0
StoredIsRestored = (b : BitmapState) → IsTrue b.persistent → b.successor ≡ None → (IsTrue b.inconsistent → IsBlank b) → restored (stored b) ≡ b
