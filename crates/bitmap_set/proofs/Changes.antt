-- What a change of one bitmap makes of a sound set.
use Rattle.std.proofs.lemmas.Grind.{common_steps}
use Rattle.std.proofs.lemmas.Option.{slice_get-get_or}
use Rattle.std.proofs.Common.{rules, arith, ◌≡◌, ℕ, ◌<◌, ◌≤◌, List, length, get_or, true, false, inl, inr, sym, ap, subst, ◌∙◌, refl}
use Rattle.std.specs.Prelude.{Option, Some, None, Ok, IsTrue, slice_set}
use Rattle.std.specs.List.{slice_get}
use Rattle.std.proofs.lemmas.Bool.{cases_Bool}
use Rattle.span_algebra.specs.declared.points.Point.{Point}
use Rattle.bitmap_model.specs.Bitmap.{BitmapState, IsShapedBitmap, is_busy, when_cleared, when_enabled, when_disabled, when_merged, when_frozen, when_abdicated, when_reclaimed}
use Rattle.bitmap_model.specs.Bitmaps.{is_name, named, changed, use_fault, after_change, most_bitmaps}
use Rattle.bitmap_model.proofs.Lists.{named_is, named_all, changed_all_at, changed_apart, changed_length, enabled_name, disabled_name}
use Rattle.bitmap_model.proofs.Shapes.{cleared_keeps_shape, enabled_keeps_shape, disabled_keeps_shape, merged_keeps_shape, frozen_keeps_shape, abdicated_keeps_shape, reclaimed_keeps_shape}
use Rattle.bitmap_set.specs.Sets.{SetState, IsSoundBitmap, IsSoundSet}
use Rattle.bitmap_set.specs.Answers.{IsBusyIn}
use Rattle.bitmap_set.specs.Places.{IsPlace}
use Rattle.bitmap_set.proofs.Places.{changed_at}

-- a change of bitmaps leaves their names, their shape, and whether they are consistent
pub record Keeps (size : ℕ) (f : BitmapState → BitmapState) : Type 0 where
  pub names : (b : BitmapState) → (f b).name ≡ b.name
  pub shapes : (b : BitmapState) → IsShapedBitmap size b → IsShapedBitmap size (f b)
  pub trust : (b : BitmapState) → (f b).inconsistent ≡ b.inconsistent

pub clearing_keeps : (size : ℕ) (p : Point) → Keeps size (when_cleared p)
clearing_keeps size p = record { names = λ b. refl; shapes = cleared_keeps_shape size p; trust = λ b. refl }

pub enabling_keeps : (size : ℕ) (p : Point) → Keeps size (when_enabled p)
enabling_keeps size p = record { names = enabled_name p; shapes = enabled_keeps_shape size p; trust = λ b. search rules }

pub disabling_keeps : (size : ℕ) (p : Point) → Keeps size (when_disabled p)
disabling_keeps size p = record { names = disabled_name p; shapes = disabled_keeps_shape size p; trust = λ b. search rules }

pub merging_keeps : (size : ℕ) (source : BitmapState) (p : Point) → Keeps size (when_merged source p)
merging_keeps size source p = record { names = λ b. refl; shapes = merged_keeps_shape size source p; trust = λ b. refl }

pub freezing_keeps : (size : ℕ) → Keeps size when_frozen
freezing_keeps size = record { names = λ b. refl; shapes = frozen_keeps_shape size; trust = λ b. refl }

pub abdicating_keeps : (size : ℕ) (p : Point) → Keeps size (when_abdicated p)
abdicating_keeps size p = record { names = λ b. refl; shapes = abdicated_keeps_shape size p; trust = λ b. refl }

pub reclaiming_keeps : (size : ℕ) → Keeps size when_reclaimed
reclaiming_keeps size = record { names = λ b. refl; shapes = reclaimed_keeps_shape size; trust = λ b. refl }

-- ---- a bitmap that is there and consistent

pub record IsThere (s : SetState) (name : List ℕ) (at : ℕ) (b : BitmapState) : Type 0 where
  pub there : slice_get s.bitmaps at ≡ Some b
  pub found : named name s.bitmaps ≡ Some b
  pub consistent : b.inconsistent ≡ false

-- one that may be used is
pub usable_is : (o : Option BitmapState) (b : BitmapState) → use_fault o ≡ None → o ≡ Some b → b.inconsistent ≡ false
usable_is o b none is = grind (arith, common_steps, cases_Bool)

pub usable_there : (s : SetState) (was : List BitmapState) (name : List ℕ) (at : ℕ) (b : BitmapState) → was ≡ s.bitmaps → IsPlace name was at
    → use_fault (named name was) ≡ None → slice_get s.bitmaps at ≡ Some b → IsThere s name at b
usable_there s was name at b same place usable there =
    let found : named name s.bitmaps ≡ Some b = ap (named name) (sym same) ∙ place.there ∙ ap (λ (l : List BitmapState). slice_get l at) same ∙ there in
    record { there = there; found = found; consistent = usable_is (named name was) b usable (ap (named name) same ∙ found) }

-- so is one that a job uses
pub busy_there : (s : SetState) (was : List BitmapState) (name : List ℕ) (at : ℕ) (b : BitmapState) → was ≡ s.bitmaps → IsPlace name was at
    → IsSoundSet s → IsBusyIn s.bitmaps name → slice_get s.bitmaps at ≡ Some b → IsThere s name at b
busy_there s was name at b same place sound busy there =
    let found : named name s.bitmaps ≡ Some b = ap (named name) (sym same) ∙ place.there ∙ ap (λ (l : List BitmapState). slice_get l at) same ∙ there in
    let one : IsSoundBitmap s.size b = named_all (IsSoundBitmap s.size) name s.bitmaps b sound.sound found in
    let used = rw found at busy in
    record {
      there = there;
      found = found;
      consistent = elim (cases_Bool b.inconsistent) [ inl blank ↦ let free = (one.blank blank).free in search rules | inr fine ↦ fine ];
    }

-- the bitmap at a place within the list
pub stands_at : (s : SetState) (was : List BitmapState) (name : List ℕ) (at : ℕ) (b : BitmapState) → was ≡ s.bitmaps → IsPlace name was at
    → b ≡ get_or s.bitmaps at b
    → slice_get s.bitmaps at ≡ Some b
stands_at s was name at b same place is =
    slice_get-get_or s.bitmaps at b (subst (λ (l : List BitmapState). at < length l) same place.inside) ∙ ap (λ (c : BitmapState). Some c) (sym is)

-- ---- the set after it

pub record Changed (s : SetState) (name : List ℕ) (at : ℕ) (f : BitmapState → BitmapState) (new : BitmapState) : Type 0 where
  pub is : slice_set s.bitmaps at new ≡ changed f name s.bitmaps
  pub sound : IsSoundSet (record { size = s.size; granularity = s.granularity; bitmaps = slice_set s.bitmaps at new })

changed_is_sound : (s : SetState) (name : List ℕ) (at : ℕ) (b : BitmapState) (f : BitmapState → BitmapState) → Keeps s.size f → IsSoundSet s
    → IsThere s name at b
    → IsSoundSet (record { size = s.size; granularity = s.granularity; bitmaps = changed f name s.bitmaps })
changed_is_sound s name at b f keeps sound is =
    let was : IsSoundBitmap s.size b = named_all (IsSoundBitmap s.size) name s.bitmaps b sound.sound is.found in
    let fine : (f b).inconsistent ≡ false = keeps.trust b ∙ is.consistent in
    let now : IsSoundBitmap s.size (f b) = record {
      shape = keeps.shapes b was.shape;
      lawful = subst (λ (n : List ℕ). IsTrue (is_name n)) (sym (keeps.names b)) was.lawful;
      blank = λ h. absurd (cc);
    } in
    record {
      sound = changed_all_at (IsSoundBitmap s.size) f name s.bitmaps b sound.apart is.found now sound.sound;
      apart = changed_apart f name s.bitmaps keeps.names sound.apart;
      few = subst (λ (n : ℕ). n ≤ most_bitmaps) (sym (changed_length f name s.bitmaps)) sound.few;
    }

pub change_there : (s : SetState) (name : List ℕ) (at : ℕ) (b new : BitmapState) (f : BitmapState → BitmapState) → Keeps s.size f → IsSoundSet s
    → IsThere s name at b
    → new ≡ f b → Changed s name at f new
change_there s name at b new f keeps sound is gives =
    let same : slice_set s.bitmaps at new ≡ changed f name s.bitmaps =
    ap (slice_set s.bitmaps at) gives ∙ changed_at f name s.bitmaps at b sound.apart is.there (named_is name s.bitmaps b is.found) in
    record {
      is = same;
      sound = subst (λ (l : List BitmapState). IsSoundSet (record { size = s.size; granularity = s.granularity; bitmaps = l })) (sym same)
          (changed_is_sound s name at b f keeps sound is);
    }

-- ---- what a call then says

pub record Stepped (s old : SetState) (name : List ℕ) (f : BitmapState → BitmapState) (new : List BitmapState) : Type 0 where
  pub sound : IsSoundSet (record { size = s.size; granularity = s.granularity; bitmaps = new })
  pub step : (after_change f name old.bitmaps ≡ Ok new) × (record s { bitmaps = new } ≡ record old { bitmaps = new })

pub change_usable : (s old : SetState) (was : List BitmapState) (name : List ℕ) (at : ℕ) (b new : BitmapState) (f : BitmapState → BitmapState) → Keeps s.size f
    → IsSoundSet s → s ≡ old → was ≡ s.bitmaps → IsPlace name was at → use_fault (named name was) ≡ None → b ≡ get_or s.bitmaps at b → new ≡ f b
    → Stepped s old name f (slice_set s.bitmaps at new)
change_usable s old was name at b new f keeps sound same at_was place usable is gives =
    let change = change_there s name at b new f keeps sound (usable_there s was name at b at_was place usable (stands_at s was name at b at_was place is)) gives
    in
    let none : use_fault (named name old.bitmaps) ≡ None = ap (λ (l : List BitmapState). use_fault (named name l)) (sym
    (at_was ∙ ap (λ (t : SetState). t.bitmaps) same)) ∙ usable in
    let due : changed f name old.bitmaps ≡ slice_set s.bitmaps at new = ap (λ (t : SetState). changed f name t.bitmaps) (sym same) ∙ sym change.is in
    record {
      sound = change.sound;
      step = (rw none (ap (λ (l : List BitmapState). Ok l) due), ap (λ (t : SetState). record t { bitmaps = slice_set s.bitmaps at new }) same);
    }

-- the same of a bitmap that a job uses, where no fault is due
pub change_busy : (s old : SetState) (was : List BitmapState) (name : List ℕ) (at : ℕ) (b new : BitmapState) (f : BitmapState → BitmapState) → Keeps s.size f
    → IsSoundSet s → s ≡ old → was ≡ s.bitmaps → IsPlace name was at → IsBusyIn old.bitmaps name → b ≡ get_or s.bitmaps at b → new ≡ f b
    → IsSoundSet (record s { bitmaps = slice_set s.bitmaps at new }) × (record s { bitmaps = slice_set s.bitmaps at new } ≡ record old
    { bitmaps = changed f name old.bitmaps })
change_busy s old was name at b new f keeps sound same at_was place busy is gives =
    let used : IsBusyIn s.bitmaps name = subst (λ (t : SetState). IsBusyIn t.bitmaps name) (sym same) busy in
    let change = change_there s name at b new f keeps sound (busy_there s was name at b at_was place sound used (stands_at s was name at b at_was place is))
    gives in (
      change.sound,
      ap (λ (l : List BitmapState). record s { bitmaps = l }) change.is
          ∙ ap (λ (t : SetState). record t { bitmaps = changed f name t.bitmaps }) same,
    )

-- a bitmap that was found by its name is the one that a job uses
pub busy_in : (bs : List BitmapState) (name : List ℕ) (at : ℕ) (b : BitmapState) → IsPlace name bs at → b ≡ get_or bs at b → is_busy b ≡ true → IsBusyIn bs name
busy_in bs name at b place is busy =
    rw (place.there, slice_get-get_or bs at b place.inside, sym is) busy
