-- What is known where a call on bitmaps isn't refused.
use Rattle.std.proofs.Common.{rules, ◌≡◌, ℕ, ◌<◌, List, [], ◌∷◌, ◌++◌, length, Bool, true, false, not, sym}
use Rattle.std.specs.Prelude.{Option, Some, None, Ok, filter}
use Rattle.std.specs.List.{list_any}
use Rattle.std.proofs.lemmas.Option.{none-some}
use Rattle.span_algebra.specs.declared.points.Point.{Point}
use Rattle.bitmap_model.specs.Granules.{IsAllowed}
use Rattle.bitmap_model.specs.Bitmap.{BitmapState, is_busy, new_bitmap, when_merged}
use Rattle.bitmap_model.specs.Bitmaps.{NoSuchBitmap, is_named, named, is_name, most_bitmaps, add_fault, use_fault, changed, after_add, after_remove, after_change, after_merging}

-- a bitmap that is there, that no job uses, and that is consistent
pub record IsUsable (found : Option BitmapState) (b : BitmapState) : Type 0 where
  pub there : found ≡ Some b
  pub idle : is_busy b ≡ false
  pub sound : b.inconsistent ≡ false

pub use_none : (found : Option BitmapState) → use_fault found ≡ None → (b : BitmapState) × IsUsable found b
use_none None h = absurd (none-some NoSuchBitmap (sym h))
use_none (Some b) h = search rules

-- a bitmap of this name and granularity may be added
pub record IsAddable (size : ℕ) (name : List ℕ) (granularity : ℕ) (bs : List BitmapState) : Type 0 where
  pub lawful : is_name name ≡ true
  pub free : list_any (is_named name) bs ≡ false
  pub few : length bs < most_bitmaps
  pub allowed : IsAllowed size granularity

-- ---- what a call that isn't refused leaves

pub added_ok : (size : ℕ) (name : List ℕ) (granularity : ℕ) (recording persistent : Bool) (p : Point) (bs cs : List BitmapState)
    → after_add size name granularity recording persistent p bs ≡ Ok cs
    → IsAddable size name granularity bs × (cs ≡ bs ++ new_bitmap size name granularity recording persistent p ∷ [])
unfolding add_fault
added_ok size name granularity recording persistent p bs cs h = search rules

pub removed_ok : (name : List ℕ) (bs cs : List BitmapState) → after_remove name bs ≡ Ok cs
    → ((b : BitmapState) × (named name bs ≡ Some b) × (is_busy b ≡ false)) × (cs ≡ filter (λ b. not (is_named name b)) bs)
removed_ok name bs cs h = search rules

pub changed_ok : (change : BitmapState → BitmapState) (name : List ℕ) (bs cs : List BitmapState) → after_change change name bs ≡ Ok cs
    → ((b : BitmapState) × IsUsable (named name bs) b) × (cs ≡ changed change name bs)
changed_ok change name bs cs h = search rules

pub merging_ok : (target source : List ℕ) (p : Point) (bs cs : List BitmapState) → after_merging target source p bs ≡ Ok cs
    → ((b : BitmapState) × IsUsable (named target bs) b) × ((s : BitmapState) × IsUsable (named source bs) s × (cs ≡ changed (when_merged s p) target bs))
merging_ok target source p bs cs h = search rules
