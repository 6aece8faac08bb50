-- A write is marked in a sound set.
use Rattle.std.proofs.lemmas.List.Elements.{All-map, All-weaker}
use Rattle.std.proofs.Common.{◌≡◌, ℕ, ◌+◌, ◌≤◌, List, sym, subst, ◌∙◌}
use Rattle.std.specs.Prelude.{All, IsTrue}
use Rattle.span_algebra.specs.Timelines.{Extent}
use Rattle.bitmap_model.specs.Bitmap.{BitmapState, IsShapedBitmap, when_written}
use Rattle.bitmap_model.specs.BitmapLaws.{IsBlank}
use Rattle.bitmap_model.specs.Bitmaps.{is_name, after_write, most_bitmaps}
use Rattle.bitmap_model.proofs.Writes.{when_written-off, written_name, written_inconsistent}
use Rattle.bitmap_model.proofs.Shapes.{written_keeps_shape}
use Rattle.bitmap_model.proofs.Lists.{after_write_length, after_write_apart}
use Rattle.bitmap_set.specs.Sets.{SetState, IsSoundBitmap, IsSoundSet}
use Rattle.bitmap_set.specs.Places.{AreShapedFor}

-- its bitmaps are in shape for the disk
pub shaped_for : (s : SetState) (was : List BitmapState) (e : Extent) → was ≡ s.bitmaps → IsSoundSet s → e.at + e.size ≤ s.size → AreShapedFor e was
shaped_for s was e same sound inside = (
  s.size,
  inside,
  subst (All (IsShapedBitmap s.size)) (sym same) (All-weaker (IsSoundBitmap s.size) (IsShapedBitmap s.size) (λ b one. one.shape) s.bitmaps
      sound.sound),
)

written_is_sound : (size : ℕ) (e : Extent) (b : BitmapState) → IsSoundBitmap size b → IsSoundBitmap size (when_written e b)
written_is_sound size e b one = record {
  shape = written_keeps_shape size e b one.shape;
  lawful = subst (λ (n : List ℕ). IsTrue (is_name n)) (sym (written_name e b)) one.lawful;
  blank = λ h.
      let blank = one.blank (sym (written_inconsistent e b) ∙ h) in
      subst IsBlank (sym (when_written-off e b blank.recording)) blank;
}

pub write_is_sound : (s : SetState) (e : Extent) → IsSoundSet s → IsSoundSet (record s { bitmaps = after_write e s.bitmaps })
write_is_sound s e sound = record {
  sound = All-map (IsSoundBitmap s.size) (when_written e) s.bitmaps (All-weaker (IsSoundBitmap s.size) (λ b. IsSoundBitmap s.size (when_written e b))
      (written_is_sound s.size e) s.bitmaps sound.sound);
  apart = after_write_apart e s.bitmaps sound.apart;
  few = subst (λ (n : ℕ). n ≤ most_bitmaps) (sym (after_write_length e s.bitmaps)) sound.few;
}
