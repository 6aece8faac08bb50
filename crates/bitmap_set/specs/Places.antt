-- Where a bitmap stands among others, and why none can be added.
use Rattle.std.specs.Prelude.{◌≡◌, ℕ, ◌+◌, ◌^◌, ◌<◌, ◌≤◌, List, length, not, nat_lt, nat_le, if◌then◌else◌, Option, Some, None, IsSomeAnd, All}
use Rattle.std.specs.List.{slice_get, list_any}
use Rattle.span_algebra.specs.Timelines.{Extent}
use Rattle.bitmap_model.specs.Granules.{is_granularity, granules_in}
use Rattle.bitmap_model.specs.Bitmap.{BitmapState, IsShapedBitmap}
use Rattle.bitmap_model.specs.Bitmaps.{BitmapFault, is_name, is_named, named, most_bitmaps}
use Rattle.bitmap_model.specs.Bitmaps.BitmapFault.{BadName, NameTaken, TooMany, BadGranularity, TooFine}
use Rattle.bitmap_set.specs.declared.refusals.BitmapRefusal.{BitmapRefusal}
use Rattle.bitmap_set.specs.Answers.{fault_said}

-- the first bitmap of this name stands at this place
pub record IsPlace (name : List ℕ) (bitmaps : List BitmapState) (at : ℕ) : Type 0 where
  pub inside : at < length bitmaps
  pub there : named name bitmaps ≡ slice_get bitmaps at

-- a fault is due, and the refusal says it
abbrev pub IsRefusal : Option BitmapFault → BitmapRefusal → Type 0
IsRefusal due refusal = IsSomeAnd (fault_said refusal) (λ fault. due ≡ Some fault)

-- the bitmaps are in shape for a disk of some size, on which the range lies
abbrev pub AreShapedFor : Extent → List BitmapState → Type 0
AreShapedFor e bitmaps = (size : ℕ) × (e.at + e.size ≤ size) × All (IsShapedBitmap size) bitmaps

-- why no bitmap of this name can be added, whatever its granules
abbrev pub name_fault : List ℕ → List BitmapState → Option BitmapFault
name_fault name bitmaps =
    if not (is_name name) then Some BadName
    else if list_any (is_named name) bitmaps then Some NameTaken
    else if nat_le most_bitmaps (length bitmaps) then Some TooMany
    else None

-- why there is no set of granules of this granularity
abbrev pub bits_fault : ℕ → ℕ → Option BitmapFault
bits_fault size granularity =
    if not (is_granularity granularity) then Some BadGranularity
    else if nat_lt (2 ^ 27) (granules_in size granularity) then Some TooFine
    else None
