-- A bitmap is added to a sound set.
use Rattle.std.proofs.lemmas.Grind.{common_steps}
use Rattle.std.proofs.lemmas.List.Elements.{All-push}
use Rattle.std.proofs.lemmas.List.{length_push, length-replicate}
use Rattle.std.proofs.lemmas.Bool.{cases_Bool}
use Rattle.std.proofs.Common.{rules, arith, ◌≡◌, ℕ, ◌+◌, ◌≤◌, List, [], ◌∷◌, ◌++◌, length, Bool, false, sym, ap, subst, ◌∙◌, refl, inl, inr}
use Rattle.std.specs.Prelude.{Some, None, Ok, IfSome, IsTrue, replicate}
use Rattle.std.specs.List.{list_any}
use Rattle.span_algebra.specs.declared.points.Point.{Point}
use Rattle.bitmap_model.specs.Granules.{GranuleSet, IsShaped, IsAllowed, cleared}
use Rattle.bitmap_model.specs.Bitmap.{BitmapState, StoredBitmap, new_bitmap, restored}
use Rattle.bitmap_model.specs.BitmapLaws.{IsBlank}
use Rattle.bitmap_model.proofs.Stored.{restored-trusted, restored-untrusted}
use Rattle.bitmap_model.specs.Bitmaps.{BitmapFault, is_name, is_named, add_fault, unless, most_bitmaps}
use Rattle.bitmap_model.proofs.Lists.{added_apart}
use Rattle.bitmap_model.proofs.Shapes.{added_keeps_shape, restored_is_shaped}
use Rattle.bitmap_set.specs.declared.refusals.BitmapRefusal.{BitmapRefusal}
use Rattle.bitmap_set.specs.Sets.{SetState, IsSoundBitmap, IsSoundSet}
use Rattle.bitmap_set.specs.Answers.{fault_said, Says}
use Rattle.bitmap_set.specs.Places.{IsRefusal, name_fault, bits_fault}

-- ---- faults: first those of the name, and then those of the granules

name_fault_first : (size : ℕ) (name : List ℕ) (granularity : ℕ) (bs : List BitmapState) (fault : BitmapFault) → name_fault name bs ≡ Some fault
    → add_fault size name granularity bs ≡ Some fault
unfolding add_fault
name_fault_first size name granularity bs fault h = search rules

bits_fault_then : (size : ℕ) (name : List ℕ) (granularity : ℕ) (bs : List BitmapState) → name_fault name bs ≡ None
    → add_fault size name granularity bs ≡ bits_fault size granularity
unfolding add_fault
bits_fault_then size name granularity bs h = search rules

pub name_refused : {A : Type 0} (size : ℕ) (name : List ℕ) (granularity : ℕ) (bs was : List BitmapState) (added : A) (e : BitmapRefusal) → was ≡ bs
    → IsRefusal (name_fault name was) e → Says e (unless (add_fault size name granularity bs) added)
name_refused size name granularity bs was added e same refused = grind (arith, common_steps, name_fault_first)

pub bits_refused : {A : Type 0} (size : ℕ) (name : List ℕ) (granularity : ℕ) (bs was : List BitmapState) (added : A) (e : BitmapRefusal) → was ≡ bs
    → name_fault name was ≡ None → IfSome (fault_said e) (λ fault. bits_fault size granularity ≡ Some fault)
    → Says e (unless (add_fault size name granularity bs) added)
bits_refused size name granularity bs was added e same free refused = grind (arith, common_steps, bits_fault_then)

pub none_refused : {A : Type 0} (size : ℕ) (name : List ℕ) (granularity : ℕ) (bs was : List BitmapState) (added : A) → was ≡ bs
    → name_fault name was ≡ None → bits_fault size granularity ≡ None → unless (add_fault size name granularity bs) added ≡ Ok added
none_refused size name granularity bs was added same free lawful = grind (arith, common_steps, bits_fault_then)

-- ---- bitmaps that are added

-- where a name has no fault
record IsFree (name : List ℕ) (bs : List BitmapState) : Type 0 where
  lawful : IsTrue (is_name name)
  fresh : list_any (is_named name) bs ≡ false
  room : length bs + 1 ≤ most_bitmaps

name_is_free : (name : List ℕ) (bs : List BitmapState) → name_fault name bs ≡ None → IsFree name bs
name_is_free name bs free = grind (arith, common_steps)

bits_are_allowed : (size granularity : ℕ) → bits_fault size granularity ≡ None → IsAllowed size granularity
bits_are_allowed size granularity lawful = grind (arith, common_steps)

pub shaped_are_lawful : (s : GranuleSet) → IsShaped s → bits_fault s.size s.granularity ≡ None
shaped_are_lawful s shaped = grind (arith, common_steps)

restored_name : (e : StoredBitmap) → (restored e).name ≡ e.name
restored_name e = search rules

new_is_sound : (size : ℕ) (name : List ℕ) (granularity : ℕ) (recording persistent : Bool) (p : Point) → IsTrue (is_name name)
    → bits_fault size granularity ≡ None
    → IsSoundBitmap size (new_bitmap size name granularity recording persistent p)
new_is_sound size name granularity recording persistent p named lawful = record {
  shape = added_keeps_shape size name granularity recording persistent p (bits_are_allowed size granularity lawful);
  lawful = named;
  blank = λ h. absurd (cc);
}

cleared_twice : (s : GranuleSet) → cleared s ≡ cleared (cleared s)
cleared_twice s = ap (λ (n : ℕ). record s { set = replicate n false }) (sym (length-replicate (length s.set) false))

restored_is_blank : (e : StoredBitmap) → IsTrue (restored e).inconsistent → IsBlank (restored e)
restored_is_blank e h =
    elim (cases_Bool e.trusted) [
      | inl sound ↦ absurd (cc (restored-trusted e sound))
      | inr doubted ↦ subst IsBlank (sym (restored-untrusted e doubted)) (record { span = refl; empty = cleared_twice e.bits; recording = refl; free = refl })
    ]

restored_is_sound : (size : ℕ) (e : StoredBitmap) → IsTrue (is_name e.name) → IsShaped e.bits → e.bits.size ≡ size → IsSoundBitmap size (restored e)
restored_is_sound size e named shaped sized = record {
  shape = restored_is_shaped size e shaped sized;
  lawful = subst (λ (n : List ℕ). IsTrue (is_name n)) (sym (restored_name e)) named;
  blank = restored_is_blank e;
}

added_is_sound : (s : SetState) (b : BitmapState) → IsSoundSet s → IsFree b.name s.bitmaps → IsSoundBitmap s.size b
    → IsSoundSet (record s { bitmaps = s.bitmaps ++ b ∷ [] })
added_is_sound s b sound free one = record {
  sound = All-push (IsSoundBitmap s.size) s.bitmaps b sound.sound one;
  apart = added_apart s.bitmaps b free.fresh sound.apart;
  few = subst (λ (n : ℕ). n ≤ most_bitmaps) (sym (length_push s.bitmaps b)) free.room;
}

pub add_is_sound : (s : SetState) (was new : List BitmapState) (name : List ℕ) (granularity : ℕ) (recording persistent : Bool) (p : Point) → IsSoundSet s
    → was ≡ s.bitmaps
    → name_fault name was ≡ None → bits_fault s.size granularity ≡ None → new ≡ s.bitmaps ++ new_bitmap s.size name granularity recording persistent p ∷ []
    → IsSoundSet (record { size = s.size; granularity = s.granularity; bitmaps = new })
add_is_sound s was new name granularity recording persistent p sound same free lawful is =
    let fine : IsFree name s.bitmaps = name_is_free name s.bitmaps (ap (name_fault name) (sym same) ∙ free) in
    subst (λ (l : List BitmapState). IsSoundSet (record { size = s.size; granularity = s.granularity; bitmaps = l })) (sym is)
    (added_is_sound s (new_bitmap s.size name granularity recording persistent p) sound fine (new_is_sound s.size name granularity recording persistent p
    fine.lawful lawful))

pub restore_is_sound : (s : SetState) (was new : List BitmapState) (e : StoredBitmap) → IsSoundSet s → was ≡ s.bitmaps → name_fault e.name was ≡ None
    → IsShaped e.bits
    → e.bits.size ≡ s.size → new ≡ s.bitmaps ++ restored e ∷ [] → IsSoundSet (record { size = s.size; granularity = s.granularity; bitmaps = new })
restore_is_sound s was new e sound same free shaped sized is =
    let fine : IsFree e.name s.bitmaps = name_is_free e.name s.bitmaps (ap (name_fault e.name) (sym same) ∙ free) in
    subst (λ (l : List BitmapState). IsSoundSet (record { size = s.size; granularity = s.granularity; bitmaps = l })) (sym is)
    (added_is_sound s (restored e) sound (subst (λ (n : List ℕ). IsFree n s.bitmaps) (sym (restored_name e)) fine) (restored_is_sound s.size e fine.lawful
    shaped sized))
