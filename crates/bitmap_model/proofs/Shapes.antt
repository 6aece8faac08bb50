-- Each change of a bitmap keeps its sets in shape.
use Rattle.std.proofs.lemmas.Grind.{common_steps}
use Rattle.std.proofs.Common.{rules, arith, ◌≡◌, ℕ, Bool, List, refl}
use Rattle.std.specs.Prelude.{Option, Some, None}
use Rattle.span_algebra.specs.declared.points.Point.{Point}
use Rattle.span_algebra.specs.Timelines.{Extent}
use Rattle.bitmap_model.specs.Granules.{GranuleSet, IsAllowed, IsShaped, none_of, marked}
use Rattle.bitmap_model.specs.Bitmap.{BitmapState, StoredBitmap, IsShapedSuccessor, IsShapedBitmap, marked_successor, new_bitmap, when_written, when_cleared, when_enabled, when_disabled, when_merged, when_frozen, when_abdicated, when_reclaimed, restored}
use Rattle.bitmap_model.proofs.Covering.{length-widened, length-united}
use Rattle.bitmap_model.proofs.Writes.{written_cases}

-- ---- sets

pub none_of_is_shaped : (size granularity : ℕ) → IsAllowed size granularity → IsShaped (none_of size granularity)
none_of_is_shaped size granularity allowed = grind (arith, common_steps)

pub marked_is_shaped : (s : GranuleSet) (e : Extent) → IsShaped s → IsShaped (marked s e)
marked_is_shaped s e shaped = grind (arith, common_steps, length-widened)

-- ---- successors

-- a successor that fits a set fits one of the same size and granularity
pub successor_fits : (bits other : GranuleSet) (successor : Option GranuleSet) → bits.size ≡ other.size → bits.granularity ≡ other.granularity
    → IsShapedSuccessor bits successor → IsShapedSuccessor other successor
successor_fits bits other None sized grained shape = tt
successor_fits bits other (Some s) sized grained shape = search rules

marked_successor_is_shaped : (e : Extent) (bits : GranuleSet) (successor : Option GranuleSet) → IsShapedSuccessor bits successor
    → IsShapedSuccessor bits (marked_successor e successor)
marked_successor_is_shaped e bits None shape = tt
marked_successor_is_shaped e bits (Some s) shape = grind (arith, common_steps, marked_is_shaped)

-- ---- bitmaps

pub added_keeps_shape : (size : ℕ) (name : List ℕ) (granularity : ℕ) (recording persistent : Bool) (p : Point) → IsAllowed size granularity
    → IsShapedBitmap size (new_bitmap size name granularity recording persistent p)
added_keeps_shape size name granularity recording persistent p allowed = grind (arith, common_steps)

pub written_keeps_shape : (size : ℕ) (e : Extent) (b : BitmapState) → IsShapedBitmap size b → IsShapedBitmap size (when_written e b)
written_keeps_shape size e b shaped =
    written_cases e b (IsShapedBitmap size) (λ off. shaped)
    (λ on busy. record { bits = shaped.bits; sized = shaped.sized; successor = marked_successor_is_shaped e b.bits b.successor shaped.successor })
    (λ on idle. record {
      bits = marked_is_shaped b.bits e shaped.bits;
      sized = shaped.sized;
      successor = successor_fits b.bits (marked b.bits e) b.successor refl refl shaped.successor;
    })

pub cleared_keeps_shape : (size : ℕ) (p : Point) (b : BitmapState) → IsShapedBitmap size b → IsShapedBitmap size (when_cleared p b)
cleared_keeps_shape size p b shaped = grind (arith, common_steps)

pub enabled_keeps_shape : (size : ℕ) (p : Point) (b : BitmapState) → IsShapedBitmap size b → IsShapedBitmap size (when_enabled p b)
enabled_keeps_shape size p b shaped = search rules

pub disabled_keeps_shape : (size : ℕ) (p : Point) (b : BitmapState) → IsShapedBitmap size b → IsShapedBitmap size (when_disabled p b)
disabled_keeps_shape size p b shaped = search rules

pub merged_keeps_shape : (size : ℕ) (source : BitmapState) (p : Point) (b : BitmapState) → IsShapedBitmap size b → IsShapedBitmap size (when_merged source p b)
merged_keeps_shape size source p b shaped = grind (arith, common_steps, successor_fits, length-united)

pub frozen_keeps_shape : (size : ℕ) (b : BitmapState) → IsShapedBitmap size b → IsShapedBitmap size (when_frozen b)
frozen_keeps_shape size b shaped = grind (arith, common_steps)

pub abdicated_keeps_shape : (size : ℕ) (p : Point) (b : BitmapState) → IsShapedBitmap size b → IsShapedBitmap size (when_abdicated p b)
abdicated_keeps_shape size p b shaped = search rules

pub reclaimed_keeps_shape : (size : ℕ) (b : BitmapState) → IsShapedBitmap size b → IsShapedBitmap size (when_reclaimed b)
reclaimed_keeps_shape size b shaped = grind (arith, common_steps, length-united)

pub restored_is_shaped : (size : ℕ) (e : StoredBitmap) → IsShaped e.bits → e.bits.size ≡ size → IsShapedBitmap size (restored e)
restored_is_shaped size e shaped sized = grind (arith, common_steps)
