-- One bitmap of a sound set joins another.
use Rattle.std.proofs.lemmas.Grind.{common_steps}
use Rattle.std.proofs.Common.{arith, ◌≡◌, ℕ, List, sym, ap, subst, ◌∙◌, refl}
use Rattle.std.specs.Prelude.{Option, Some, None, Ok, slice_set}
use Rattle.std.specs.List.{slice_get}
use Rattle.span_algebra.specs.declared.points.Point.{Point}
use Rattle.bitmap_model.specs.Bitmap.{BitmapState, when_merged}
use Rattle.bitmap_model.specs.Bitmaps.{named, changed, use_fault, after_merging}
use Rattle.bitmap_set.specs.Sets.{SetState, IsSoundSet}
use Rattle.bitmap_set.specs.Places.{IsPlace}
use Rattle.bitmap_set.proofs.Changes.{IsThere, usable_there, merging_keeps, change_there}

-- what may be used is there
usable_some : (o : Option BitmapState) → use_fault o ≡ None → (b : BitmapState) × (o ≡ Some b)
usable_some None none = absurd (cc)
usable_some (Some b) none = (b, refl)

-- a bitmap that was found by its name and may be used
pub record IsUsable (s : SetState) (was : List BitmapState) (name : List ℕ) (at : ℕ) : Type 0 where
  pub same : was ≡ s.bitmaps
  pub place : IsPlace name was at
  pub usable : use_fault (named name was) ≡ None

usable_of : (s : SetState) (was : List BitmapState) (name : List ℕ) (at : ℕ) → IsUsable s was name at → (b : BitmapState) × IsThere s name at b
usable_of s was name at u =
    let some = usable_some (named name was) u.usable in
    let there : slice_get s.bitmaps at ≡ Some some.0 = ap (λ (l : List BitmapState). slice_get l at) (sym u.same) ∙ sym u.place.there ∙ some.1 in
    (some.0, usable_there s was name at some.0 u.same u.place u.usable there)

-- what joining does at these places
abbrev pub Joins : List BitmapState → ℕ → ℕ → Point → List BitmapState → Type 0
Joins bs to from p new = (target source : BitmapState) → slice_get bs to ≡ Some target → slice_get bs from ≡ Some source
    → new ≡ slice_set bs to (when_merged source p target)

pub record Merged (s old : SetState) (target source : List ℕ) (p : Point) (new : List BitmapState) : Type 0 where
  pub sound : IsSoundSet (record { size = s.size; granularity = s.granularity; bitmaps = new })
  pub step : (after_merging target source p old.bitmaps ≡ Ok new) × (record s { bitmaps = new } ≡ record old { bitmaps = new })

no_fault : (s : SetState) (was : List BitmapState) (name : List ℕ) (at : ℕ) → IsUsable s was name at → use_fault (named name s.bitmaps) ≡ None
no_fault s was name at u = subst (λ (l : List BitmapState). use_fault (named name l) ≡ None) u.same u.usable

merges : (bs : List BitmapState) (target source : List ℕ) (p : Point) (b : BitmapState) → use_fault (named target bs) ≡ None
    → use_fault (named source bs) ≡ None
    → named source bs ≡ Some b → after_merging target source p bs ≡ Ok (changed (when_merged b p) target bs)
merges bs target source p b no_target no_source is = grind (arith, common_steps)

pub merge_usable : (s old : SetState) (one two : List BitmapState) (target source : List ℕ) (to from : ℕ) (p : Point) (new : List BitmapState) → IsSoundSet s
    → s ≡ old
    → IsUsable s one target to → IsUsable s two source from → Joins s.bitmaps to from p new → Merged s old target source p new
merge_usable s old one two target source to from p new sound same u v joins =
    let t = usable_of s one target to u in
    let o = usable_of s two source from v in
    let is : new ≡ slice_set s.bitmaps to (when_merged o.0 p t.0) = joins t.0 o.0 t.1.there o.1.there in
    let change = change_there s target to t.0 (when_merged o.0 p t.0) (when_merged o.0 p) (merging_keeps s.size o.0 p) sound t.1 refl in
    let due : after_merging target source p s.bitmaps ≡ Ok new =
    merges s.bitmaps target source p o.0 (no_fault s one target to u) (no_fault s two source from v) o.1.found
    ∙ ap (λ (l : List BitmapState). Ok l) (sym (is ∙ change.is)) in
    record {
      sound = subst (λ (l : List BitmapState). IsSoundSet (record { size = s.size; granularity = s.granularity; bitmaps = l })) (sym is) change.sound;
      step = (ap (λ (x : SetState). after_merging target source p x.bitmaps) (sym same) ∙ due, ap (λ (x : SetState). record x { bitmaps = new }) same);
    }
