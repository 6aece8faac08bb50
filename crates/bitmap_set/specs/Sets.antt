-- What contracts see of a set of bitmaps.
use Rattle.std.specs.Prelude.{ℕ, ◌≤◌, List, length, All, IsTrue}
use Rattle.bitmap_model.specs.Bitmap.{BitmapState, IsShapedBitmap}
use Rattle.bitmap_model.specs.BitmapLaws.{IsBlank}
use Rattle.bitmap_model.specs.Bitmaps.{is_name, AreApart, most_bitmaps}

-- the disk's size, the granularity of a bitmap that is added without one, and the bitmaps in order of adding
pub record SetState : Type 0 where
  pub size : ℕ
  pub granularity : ℕ
  pub bitmaps : List BitmapState

-- a bitmap is in shape for a disk of this size, has a lawful name, and has no more than that and its granularity where it is inconsistent
pub record IsSoundBitmap (size : ℕ) (b : BitmapState) : Type 0 where
  pub shape : IsShapedBitmap size b
  pub lawful : IsTrue (is_name b.name)
  pub blank : IsTrue b.inconsistent → IsBlank b

-- each bitmap is sound, their names differ, and there aren't too many
pub record IsSoundSet (s : SetState) : Type 0 where
  pub sound : All (IsSoundBitmap s.size) s.bitmaps
  pub apart : AreApart s.bitmaps
  pub few : length s.bitmaps ≤ most_bitmaps
