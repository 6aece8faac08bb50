-- A job that starts takes its bitmap into use.
use Rattle.std.proofs.lemmas.Grind.{common_steps}
use Rattle.std.proofs.Common.{◌≡◌, ℕ, ◌+◌, ◌≤◌, List, [], ◌∷◌, ◌++◌, true, false, refl, sym, ap, subst, ◌∙◌, arith}
use Rattle.std.specs.Prelude.{Option, Some, count_by, if◌then◌else◌, bytes_eq}
use Rattle.std.proofs.lemmas.List.Elements.{All-map, All-push, All-weaker}
use Rattle.std.proofs.lemmas.Bool.{both_ways, cond_both, cond-false, cond-true}
use Rattle.span_algebra.specs.declared.points.Point.{Point}
use Rattle.span_algebra.specs.declared.points.End.TheVariants.{Now}
use Rattle.span_algebra.specs.Timelines.{Timeline, with_point, IsRising}
use Rattle.span_algebra.specs.Spans.{that_pass, AllTouched}
use Rattle.span_algebra.proofs.LastPoint.{holds_from}
use Rattle.bitmap_model.specs.Bitmap.{BitmapState, is_busy, when_frozen, successor_has}
use Rattle.bitmap_model.specs.Bitmaps.{is_named, named, changed, most_bitmaps}
use Rattle.bitmap_model.proofs.Lists.{same_bytes, same_bytes-itself, same_bytes-back, named_all, changed_all_at, changed_apart, changed_length, changed_named, changed_other}
use Rattle.bitmap_model.proofs.Shapes.{frozen_keeps_shape}
use Rattle.bitmap_model.proofs.TrueSpans.{frozen_keeps_true}
use Rattle.bitmap_model.proofs.Recorded.{frozen_keeps_recorded}
use Rattle.plain_model.specs.History.{History, timeline_of}
use Rattle.plain_model.specs.Jobs.{Job}
use Rattle.plain_model.specs.Sound.{IsSoundBitmap, uses, is_own, IsUsedOnce, SuccessorHolds, HasItsBitmap}
use Rattle.plain_model.proofs.Counting.{one_if, count-push}
use Rattle.plain_model.proofs.Users.{others_kept, idle_unused}
use Rattle.plain_model.proofs.ChangedBitmaps.{AreKept}

pub frozen_sound : (t : Timeline) (b : BitmapState) → is_busy b ≡ false → b.inconsistent ≡ false → IsSoundBitmap t b → IsSoundBitmap t (when_frozen b)
frozen_sound t b idle consistent s = grind (arith, common_steps, frozen_keeps_shape, frozen_keeps_true, frozen_keeps_recorded, both_ways)

-- ---- a job without a bitmap

-- ---- a job with a bitmap

-- the bitmap that it takes is used once, and others as before
frozen_once : (jobs : List Job) (j : Job) (name : List ℕ) (b : BitmapState) → j.bitmap ≡ Some name → count_by (uses name) jobs ≡ 0 → IsUsedOnce jobs b
    → IsUsedOnce (jobs ++ j ∷ []) (if is_named name b then when_frozen b else b)
frozen_once jobs j name b own unused once =
    let count : count_by (uses b.name) (jobs ++ j ∷ []) ≡ count_by (uses b.name) jobs + one_if (bytes_eq b.name name) =
    count-push (uses b.name) jobs j ∙ ap (λ (o : Option (List ℕ)). count_by (uses b.name) jobs + one_if (is_own b.name o)) own in
    cond_both (is_named name b) (when_frozen b) b (IsUsedOnce (jobs ++ j ∷ []))
    (λ here.
    let same : name ≡ b.name = same_bytes name b.name here in
    let none : count_by (uses b.name) jobs ≡ 0 = ap (λ (n : List ℕ). count_by (uses n) jobs) (sym same) ∙ unused in
    let one : one_if (bytes_eq b.name name) ≡ 1 = cond-true (bytes_eq b.name name) 1 0 (subst (λ (n : List ℕ). bytes_eq b.name n ≡ true) (sym same) (same_bytes-itself b.name)) in
    omega (arith, count, none, one))
    (λ other.
    let none : one_if (bytes_eq b.name name) ≡ 0 = cond-false (bytes_eq b.name name) 1 0 (same_bytes-back name b.name other) in
    let still : count_by (uses b.name) (jobs ++ j ∷ []) ≡ count_by (uses b.name) jobs = omega (arith, count, none) in
    still ∙ once)

module _ (h : History) (t : Timeline) (p : Point) (is : timeline_of h ≡ with_point t p) (rising : IsRising (with_point t p)) where
  -- since the last point nothing was written
  nothing_since : (set : ℕ → Type 0) → AllTouched set (timeline_of h) p Now
  nothing_since set = subst (λ (x : Timeline). AllTouched set x p Now) (sym is) (holds_from t p set rising).covered

  pub frozen_kept : (jobs : List Job) (j : Job) (name : List ℕ) (bs : List BitmapState) (b : BitmapState) → j.bitmap ≡ Some name → j.point ≡ p → named name bs ≡ Some b
      → is_busy b ≡ false → b.inconsistent ≡ false → AreKept h jobs bs → AreKept h (jobs ++ j ∷ []) (changed when_frozen name bs)
  frozen_kept jobs j name bs b own at found idle consistent s =
      let cs : List BitmapState = changed when_frozen name bs in
      let unused : count_by (uses name) jobs ≡ 0 = idle_unused h jobs name bs b s.users found idle in
      let sound : IsSoundBitmap (timeline_of h) b = named_all (IsSoundBitmap (timeline_of h)) name bs b s.sound.each found in
      let successor : SuccessorHolds h p (named name cs) =
      subst (SuccessorHolds h p) (sym (changed_named when_frozen name bs b refl found)) (λ on. nothing_since (that_pass (successor_has (when_frozen b).successor))) in
      let new : HasItsBitmap h cs j j.bitmap =
      subst (HasItsBitmap h cs j) (sym own) (subst (λ (q : Point). SuccessorHolds h q (named name cs)) (sym at) successor) in
      record {
        sound = record {
          each = changed_all_at (IsSoundBitmap (timeline_of h)) when_frozen name bs b s.sound.apart found (frozen_sound (timeline_of h) b idle consistent sound) s.sound.each;
          apart = changed_apart when_frozen name bs (λ c. refl) s.sound.apart;
          few = subst (λ (n : ℕ). n ≤ most_bitmaps) (sym (changed_length when_frozen name bs)) s.sound.few;
        };
        users = record {
          once = All-map (IsUsedOnce (jobs ++ j ∷ [])) (λ c. if is_named name c then when_frozen c else c) bs
              (All-weaker (IsUsedOnce jobs) (λ c. IsUsedOnce (jobs ++ j ∷ []) (if is_named name c then when_frozen c else c)) (λ c once. frozen_once jobs j name c own unused once) bs s.users.once);
          there = All-push (λ (i : Job). HasItsBitmap h cs i i.bitmap) jobs j
              (others_kept h jobs name bs cs (λ n apart. changed_other when_frozen name n bs apart (λ c. refl)) unused s.users.there) new;
        };
      }
