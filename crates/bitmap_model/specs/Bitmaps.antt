-- The bitmaps of a disk, in order of adding, and the refusals of each call in their order.
use Rattle.std.specs.Prelude.{◌≡◌, ℕ, ◌^◌, List, [], ◌∷◌, ◌++◌, length, map, filter, Bool, false, not, ◌&&◌, nat_lt, nat_le, ◌==◌, Option, Some, None, Result, Ok, Err, if◌then◌else◌, bytes_eq, min, max, find, ◌≤◌, All, IsTrue}
use Rattle.std.specs.List.{list_any, list_all}
use Rattle.std.specs.Str.{is_utf8}
use Rattle.span_algebra.specs.declared.points.Point.{Point}
use Rattle.span_algebra.specs.Timelines.{Extent}
use Rattle.bitmap_model.specs.Granules.{IsShaped, is_granularity, granules_in}
use Rattle.bitmap_model.specs.Bitmap.{BitmapState, StoredBitmap, is_busy, new_bitmap, restored, when_merged, when_written}

pub data BitmapFault : Type 0 where
  BadName : BitmapFault
  NameTaken : BitmapFault
  TooMany : BitmapFault
  BadGranularity : BitmapFault
  TooFine : BitmapFault
  NoSuchBitmap : BitmapFault
  Busy : BitmapFault
  Inconsistent : BitmapFault

abbrev pub is_named : List ℕ → BitmapState → Bool
is_named name b = bytes_eq name b.name

abbrev pub named : List ℕ → List BitmapState → Option BitmapState
named name bitmaps = find (is_named name) bitmaps

-- names differ pairwise
abbrev pub AreApart : List BitmapState → Type 0
AreApart [] = Unit {0}
AreApart (b ∷ bitmaps) = (list_any (is_named b.name) bitmaps ≡ false) × AreApart bitmaps

-- the bitmap of that name is changed, and no other
abbrev pub changed : (BitmapState → BitmapState) → List ℕ → List BitmapState → List BitmapState
changed change name bitmaps = map (λ b. if is_named name b then change b else b) bitmaps

-- ---- adding

-- 1 to 1,023 bytes of UTF-8 without control characters
abbrev pub is_name : List ℕ → Bool
is_name name = nat_lt 0 (length name) && (nat_le (length name) 1023 && (is_utf8 name && list_all (λ b. nat_le 32 b && not (b == 127)) name))

-- how many bitmaps a disk may have
abbrev pub most_bitmaps : ℕ
most_bitmaps = 64

-- a stored bitmap is in shape, for a disk of this size
pub record IsShapedEntry (size : ℕ) (e : StoredBitmap) : Type 0 where
  pub name_is : IsTrue (is_name e.name)
  pub shape : IsShaped e.bits
  pub sized : e.bits.size ≡ size

-- those of an image are, their names differ, and there aren't too many
pub record AreShapedEntries (size : ℕ) (entries : List StoredBitmap) : Type 0 where
  pub shapes : All (IsShapedEntry size) entries
  pub apart : AreApart (map restored entries)
  pub few : length entries ≤ most_bitmaps

-- where none is given: the image's cluster size, but at least 4,096 and at most 65,536
abbrev pub default_granularity : ℕ → ℕ
default_granularity cluster = min 65536 (max 4096 cluster)

unfoldable pub add_fault : ℕ → List ℕ → ℕ → List BitmapState → Option BitmapFault
add_fault size name granularity bitmaps =
    if not (is_name name) then Some BadName
    else if list_any (is_named name) bitmaps then Some NameTaken
    else if nat_le most_bitmaps (length bitmaps) then Some TooMany
    else if not (is_granularity granularity) then Some BadGranularity
    else if nat_lt (2 ^ 27) (granules_in size granularity) then Some TooFine
    else None

-- a fault, or else a value
abbrev pub unless : {A F : Type 0} → Option F → A → Result A F
unless None a = Ok a
unless (Some fault) a = Err fault

abbrev pub after_add : ℕ → List ℕ → ℕ → Bool → Bool → Point → List BitmapState → Result (List BitmapState) BitmapFault
after_add size name granularity recording persistent p bitmaps =
    unless (add_fault size name granularity bitmaps) (bitmaps ++ new_bitmap size name granularity recording persistent p ∷ [])

-- an entry of an image is added by the same rules
abbrev pub after_restore : StoredBitmap → List BitmapState → Result (List BitmapState) BitmapFault
after_restore e bitmaps = unless (add_fault e.bits.size e.name e.bits.granularity bitmaps) (bitmaps ++ restored e ∷ [])

-- ---- changes of one bitmap

-- it is there, no job uses it, and it is consistent
abbrev pub use_fault : Option BitmapState → Option BitmapFault
use_fault None = Some NoSuchBitmap
use_fault (Some b) = if is_busy b then Some Busy else if b.inconsistent then Some Inconsistent else None

-- an inconsistent one can be removed
abbrev pub remove_fault : Option BitmapState → Option BitmapFault
remove_fault None = Some NoSuchBitmap
remove_fault (Some b) = if is_busy b then Some Busy else None

abbrev pub after_remove : List ℕ → List BitmapState → Result (List BitmapState) BitmapFault
after_remove name bitmaps = unless (remove_fault (named name bitmaps)) (filter (λ b. not (is_named name b)) bitmaps)

-- clearing, enabling, disabling and freezing
abbrev pub after_change : (BitmapState → BitmapState) → List ℕ → List BitmapState → Result (List BitmapState) BitmapFault
after_change change name bitmaps = unless (use_fault (named name bitmaps)) (changed change name bitmaps)

-- the target is tested first, then the source
abbrev pub merge_fault : List ℕ → List ℕ → List BitmapState → Option BitmapFault
merge_fault target source bitmaps = elim (use_fault (named target bitmaps)) [ Some fault ↦ Some fault | None ↦ use_fault (named source bitmaps) ]

abbrev pub merged_if_there : Option BitmapState → Point → List ℕ → List BitmapState → List BitmapState
merged_if_there None p target bitmaps = bitmaps
merged_if_there (Some source) p target bitmaps = changed (when_merged source p) target bitmaps

abbrev pub after_merging : List ℕ → List ℕ → Point → List BitmapState → Result (List BitmapState) BitmapFault
after_merging target source p bitmaps = unless (merge_fault target source bitmaps) (merged_if_there (named source bitmaps) p target bitmaps)

-- a write marks each bitmap that records
abbrev pub after_write : Extent → List BitmapState → List BitmapState
after_write e bitmaps = map (when_written e) bitmaps
