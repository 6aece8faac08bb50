-- A bitmap is taken out of a sound set.
use Rattle.std.proofs.Common.{◌≡◌, ℕ, List, sym, ap, subst, ◌∙◌, refl, arith}
use Rattle.std.specs.Prelude.{Option, Some, None, Ok, filter, remove, not}
use Rattle.std.specs.List.{slice_get}
use Rattle.std.proofs.lemmas.List.Filters.{length-filter_both}
use Rattle.bitmap_model.specs.Bitmap.{BitmapState}
use Rattle.bitmap_model.specs.Bitmaps.{is_named, named, remove_fault, after_remove}
use Rattle.bitmap_model.proofs.Lists.{removed_all, removed_apart, named_is}
use Rattle.bitmap_set.specs.Sets.{SetState, IsSoundBitmap, IsSoundSet}
use Rattle.bitmap_set.specs.Places.{IsPlace}
use Rattle.bitmap_set.proofs.Places.{removed_at}

-- what may be removed is there
removable_some : (o : Option BitmapState) → remove_fault o ≡ None → (b : BitmapState) × (o ≡ Some b)
removable_some None none = absurd (cc)
removable_some (Some b) none = (b, refl)

removed_is_sound : (s : SetState) (name : List ℕ) → IsSoundSet s → IsSoundSet (record s { bitmaps = filter (λ b. not (is_named name b)) s.bitmaps })
removed_is_sound s name sound = record {
  sound = removed_all (IsSoundBitmap s.size) name s.bitmaps sound.sound;
  apart = removed_apart name s.bitmaps sound.apart;
  few = omega (arith, sound.few, length-filter_both (is_named name) (λ b. not (is_named name b)) (λ _. refl) s.bitmaps);
}

pub record Removed (s old : SetState) (name : List ℕ) (new : List BitmapState) : Type 0 where
  pub sound : IsSoundSet (record { size = s.size; granularity = s.granularity; bitmaps = new })
  pub step : (after_remove name old.bitmaps ≡ Ok new) × (record s { bitmaps = new } ≡ record old { bitmaps = new })

pub remove_free : (s old : SetState) (was : List BitmapState) (name : List ℕ) (at : ℕ) (new : List BitmapState) → IsSoundSet s → s ≡ old → was ≡ s.bitmaps
    → IsPlace name was at → remove_fault (named name was) ≡ None → new ≡ remove s.bitmaps at → Removed s old name new
remove_free s old was name at new sound same at_was place free is =
    let some = removable_some (named name was) free in
    let there : slice_get s.bitmaps at ≡ Some some.0 = ap (λ (l : List BitmapState). slice_get l at) (sym at_was) ∙ sym place.there ∙ some.1 in
    let gone : new ≡ filter (λ b. not (is_named name b)) s.bitmaps = is
    ∙ removed_at name s.bitmaps at some.0 sound.apart there (named_is name was some.0 some.1) in
    let none : remove_fault (named name old.bitmaps) ≡ None = ap (λ (l : List BitmapState). remove_fault (named name l)) (sym
    (at_was ∙ ap (λ (t : SetState). t.bitmaps) same)) ∙ free in
    let due : filter (λ b. not (is_named name b)) old.bitmaps ≡ new = ap (λ (t : SetState). filter (λ b. not (is_named name b)) t.bitmaps) (sym same)
    ∙ sym gone in
    record {
      sound = subst (λ (l : List BitmapState). IsSoundSet (record { size = s.size; granularity = s.granularity; bitmaps = l })) (sym gone) (removed_is_sound s
          name sound);
      step = (rw none (ap (λ (l : List BitmapState). Ok l) due), ap (λ (t : SetState). record t { bitmaps = new }) same);
    }
