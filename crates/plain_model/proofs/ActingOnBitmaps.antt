-- Actions on bitmaps at the last point keep a state sound.
use Rattle.std.proofs.Common.{arith}
use Rattle.std.proofs.lemmas.Grind.{common_steps}
use Rattle.std.proofs.Common.{rules}
use Rattle.std.proofs.Common.{◌≡◌, ℕ, List, [], ◌∷◌, ◌++◌, Bool, false, not, refl, sym, ap, subst, ◌∙◌}
use Rattle.std.specs.Prelude.{Option, Some, None, Result, Ok, Err, filter}
use Rattle.span_algebra.specs.declared.points.Point.{Point}
use Rattle.span_algebra.specs.Timelines.{Timeline, with_point, IsRising}
use Rattle.bitmap_model.specs.Granules.{IsAllowed}
use Rattle.bitmap_model.specs.Bitmap.{BitmapState, is_busy, new_bitmap, when_merged}
use Rattle.bitmap_model.specs.Bitmaps.{BitmapFault, named, is_named, changed, after_add, after_remove, after_change, after_merging}
use Rattle.bitmap_model.proofs.Lists.{named_all}
use Rattle.bitmap_model.proofs.Faults.{IsUsable, IsAddable, added_ok, removed_ok, changed_ok, merging_ok}
use Rattle.core_events.specs.declared.commands.SourceName.{SourceName}
use Rattle.core_events.specs.declared.refusals.Refusal.{Refusal}
use Rattle.plain_model.specs.History.{History, timeline_of}
use Rattle.plain_model.specs.Machine.{Machine, size_of}
use Rattle.plain_model.specs.Actions.{bitmap_refusal, with_bitmaps, on_drive, source_refusal, merge_sources}
use Rattle.plain_model.specs.Sound.{IsSoundBitmap, IsSoundFor}
use Rattle.plain_model.proofs.ChangedBitmaps.{KeepsSound, AreKept, added_sound, merged_sound, change_kept, removal_kept, addition_kept}

-- ---- what isn't refused

pub drive_ok : (node : List ℕ) (r : Result Machine Refusal) (next : Machine) → on_drive node r ≡ Ok next → r ≡ Ok next
drive_ok node r next h = search rules

-- the machine has other bitmaps, and else all as it was
abbrev pub with_set : Machine → List BitmapState → Machine
with_set m bs = record m { bitmaps = bs }

pub bitmaps_ok : (m : Machine) (name : List ℕ) (g : ℕ) (r : Result (List BitmapState) BitmapFault) (next : Machine) → with_bitmaps m name g r ≡ Ok next
    → (bs : List BitmapState) × (r ≡ Ok bs) × (next ≡ with_set m bs)
bitmaps_ok m name g o next h = grind (arith, common_steps)

-- where nothing refuses, the rest is the answer
pub unrefused : {A : Type 0} (o : Option Refusal) (r : Result A Refusal) (next : A)
    → (elim o as (λ (x : Option Refusal). Result A Refusal) [ Some refusal ↦ Err refusal | None ↦ r ]) ≡ Ok next → (o ≡ None) × (r ≡ Ok next)
unrefused o r next h = grind (arith, common_steps)

-- one source is merged, and then the others
merged_then : (target name : List ℕ) (p : Point) (sources : List SourceName) (m next : Machine) (r : Result (List BitmapState) BitmapFault)
    → (elim r as (λ (x : Result (List BitmapState) BitmapFault). Result Machine Refusal) [ Ok bs ↦ merge_sources target p sources (with_set m bs) | Err fault ↦ Err (bitmap_refusal name 0 fault) ]) ≡ Ok next
    → (bs : List BitmapState) × (r ≡ Ok bs) × (merge_sources target p sources (with_set m bs) ≡ Ok next)
merged_then target name p sources m next o h = grind (arith, common_steps)

-- ---- a state with other bitmaps

pub bitmaps_of : (h : History) (m : Machine) → IsSoundFor h m → AreKept h m.jobs m.bitmaps
bitmaps_of h m s = record { sound = s.bitmaps_are; users = s.users }

pub with_kept : (h : History) (m : Machine) (bs : List BitmapState) → IsSoundFor h m → AreKept h m.jobs bs → IsSoundFor h (with_set m bs)
with_kept h m bs s k = search rules

-- the next machine has other bitmaps alone, and is sound
pub record IsBitmapAct (h : History) (m next : Machine) : Type 0 where
  pub bitmaps : List BitmapState
  pub only : next ≡ with_set m bitmaps
  pub sound : IsSoundFor h next

pub act_from : (h : History) (m next : Machine) (bs : List BitmapState) → IsSoundFor h m → next ≡ with_set m bs → AreKept h m.jobs bs → IsBitmapAct h m next
act_from h m next bs s e k = record { bitmaps = bs; only = e; sound = subst (IsSoundFor h) (sym e) (with_kept h m bs s k) }

-- ---- the actions, at a history that ends by the point

module _ (h : History) (t : Timeline) (p : Point) (is : timeline_of h ≡ with_point t p) (rising : IsRising (with_point t p)) where
  here : (b : BitmapState) → IsSoundBitmap (timeline_of h) b → IsSoundBitmap (with_point t p) b
  here b s = subst (λ (x : Timeline). IsSoundBitmap x b) is s

  there : (change : BitmapState → BitmapState) (b : BitmapState) → KeepsSound (with_point t p) change b → KeepsSound (timeline_of h) change b
  there change b k = subst (λ (x : Timeline). KeepsSound x change b) (sym is) k

  pub add_keeps : (name : List ℕ) (g : ℕ) (recording persistent : Bool) (m next : Machine) → IsSoundFor h m
      → with_bitmaps m name g (after_add (size_of m) name g recording persistent p m.bitmaps) ≡ Ok next → IsBitmapAct h m next
  add_keeps name g recording persistent m next s e =
      let made : Result (List BitmapState) BitmapFault = after_add (size_of m) name g recording persistent p m.bitmaps in
      let set : (bs : List BitmapState) × (made ≡ Ok bs) × (next ≡ with_set m bs) = bitmaps_ok m name g made next e in
      let new : BitmapState = new_bitmap (size_of m) name g recording persistent p in
      let ok : IsAddable (size_of m) name g m.bitmaps × (set.0 ≡ m.bitmaps ++ new ∷ []) = added_ok (size_of m) name g recording persistent p m.bitmaps set.0 set.1 in
      let size : t.start ≡ size_of m = sym (ap (λ (x : Timeline). x.start) is) ∙ s.sized in
      let allowed : IsAllowed t.start g = subst (λ (n : ℕ). IsAllowed n g) (sym size) ok.0.allowed in
      let sound : IsSoundBitmap (with_point t p) new =
      subst (λ (n : ℕ). IsSoundBitmap (with_point t p) (new_bitmap n name g recording persistent p)) size (added_sound t p rising name g recording persistent ok.0.lawful allowed) in
      let back : IsSoundBitmap (timeline_of h) new = subst (λ (x : Timeline). IsSoundBitmap x new) (sym is) sound in
      act_from h m next set.0 s set.2 (subst (AreKept h m.jobs) (sym ok.1) (addition_kept h m.jobs m.bitmaps new ok.0.free ok.0.few refl back (bitmaps_of h m s)))

  pub remove_keeps : (name : List ℕ) (m next : Machine) → IsSoundFor h m → with_bitmaps m name 0 (after_remove name m.bitmaps) ≡ Ok next → IsBitmapAct h m next
  remove_keeps name m next s e =
      let set : (bs : List BitmapState) × (after_remove name m.bitmaps ≡ Ok bs) × (next ≡ with_set m bs) = bitmaps_ok m name 0 (after_remove name m.bitmaps) next e in
      let left : List BitmapState = filter (λ b. not (is_named name b)) m.bitmaps in
      let ok : ((b : BitmapState) × (named name m.bitmaps ≡ Some b) × (is_busy b ≡ false)) × (set.0 ≡ left) = removed_ok name m.bitmaps set.0 set.1 in
      act_from h m next set.0 s set.2 (subst (AreKept h m.jobs) (sym ok.1) (removal_kept h m.jobs name m.bitmaps ok.0.0 ok.0.1 ok.0.2 (bitmaps_of h m s)))

  -- a change of an idle bitmap
  pub change_keeps : (change : BitmapState → BitmapState) (name : List ℕ) (m next : Machine) → ((b : BitmapState) → (change b).name ≡ b.name)
      → ((b : BitmapState) → is_busy b ≡ false → b.inconsistent ≡ false → IsSoundBitmap (with_point t p) b → KeepsSound (with_point t p) change b)
      → IsSoundFor h m → with_bitmaps m name 0 (after_change change name m.bitmaps) ≡ Ok next → IsBitmapAct h m next
  change_keeps change name m next keeps changes s e =
      let set : (bs : List BitmapState) × (after_change change name m.bitmaps ≡ Ok bs) × (next ≡ with_set m bs) =
      bitmaps_ok m name 0 (after_change change name m.bitmaps) next e in
      let ok : ((b : BitmapState) × IsUsable (named name m.bitmaps) b) × (set.0 ≡ changed change name m.bitmaps) = changed_ok change name m.bitmaps set.0 set.1 in
      let b : BitmapState = ok.0.0 in
      let usable : IsUsable (named name m.bitmaps) b = ok.0.1 in
      let sound : IsSoundBitmap (timeline_of h) b = named_all (IsSoundBitmap (timeline_of h)) name m.bitmaps b s.bitmaps_are.each usable.there in
      act_from h m next set.0 s set.2
      (subst (AreKept h m.jobs) (sym ok.1)
      (change_kept h m.jobs change name m.bitmaps b keeps usable.there usable.idle (there change b (changes b usable.idle usable.sound (here b sound))) (bitmaps_of h m s)))

  -- one source of a merge
  merge_one : (target name : List ℕ) (m : Machine) (bs : List BitmapState) → IsSoundFor h m → after_merging target name p m.bitmaps ≡ Ok bs → IsSoundFor h (with_set m bs)
  merge_one target name m bs s e =
      let ok : ((b : BitmapState) × IsUsable (named target m.bitmaps) b) × ((c : BitmapState) × IsUsable (named name m.bitmaps) c × (bs ≡ changed (when_merged c p) target m.bitmaps)) =
      merging_ok target name p m.bitmaps bs e in
      let b : BitmapState = ok.0.0 in
      let c : BitmapState = ok.1.0 in
      let to : IsUsable (named target m.bitmaps) b = ok.0.1 in
      let from : IsUsable (named name m.bitmaps) c = ok.1.1 in
      let source : IsSoundBitmap (with_point t p) c = here c (named_all (IsSoundBitmap (timeline_of h)) name m.bitmaps c s.bitmaps_are.each from.there) in
      let goal : IsSoundBitmap (with_point t p) b = here b (named_all (IsSoundBitmap (timeline_of h)) target m.bitmaps b s.bitmaps_are.each to.there) in
      with_kept h m bs s
      (subst (AreKept h m.jobs) (sym ok.1.2)
      (change_kept h m.jobs (when_merged c p) target m.bitmaps b (λ d. refl) to.there to.idle
      (there (when_merged c p) b (merged_sound t p rising c b from.idle source to.idle to.sound goal)) (bitmaps_of h m s)))

  pub merge_keeps : (target : List ℕ) (sources : List SourceName) (m next : Machine) → IsSoundFor h m → merge_sources target p sources m ≡ Ok next → IsBitmapAct h m next
  merge_keeps target [] m next s e =
      let same : m ≡ next = cc in
      record { bitmaps = m.bitmaps; only = sym same; sound = subst (IsSoundFor h) same s }
  merge_keeps target (source ∷ sources) m next s e =
      let made : Result (List BitmapState) BitmapFault = after_merging target source.name p m.bitmaps in
      let rest : Result Machine Refusal =
      elim made as (λ (x : Result (List BitmapState) BitmapFault). Result Machine Refusal) [
        | Ok bs ↦ merge_sources target p sources (with_set m bs)
        | Err fault ↦ Err (bitmap_refusal source.name 0 fault)
      ] in
      let fine : (source_refusal source m ≡ None) × (rest ≡ Ok next) = unrefused (source_refusal source m) rest next e in
      let one : (bs : List BitmapState) × (made ≡ Ok bs) × (merge_sources target p sources (with_set m bs) ≡ Ok next) = merged_then target source.name p sources m next made fine.1 in
      let more : IsBitmapAct h (with_set m one.0) next = merge_keeps target sources (with_set m one.0) next (merge_one target source.name m one.0 s one.1) one.2 in
      record { bitmaps = more.bitmaps; only = more.only; sound = more.sound }
