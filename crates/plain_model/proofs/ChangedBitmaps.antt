-- Changes of one bitmap at the last point keep the bitmaps sound.
use Rattle.std.proofs.lemmas.Grind.{common_steps}
use Rattle.std.proofs.Common.{rules}
use Rattle.std.proofs.Common.{◌≡◌, ℕ, ◌<◌, ◌≤◌, List, [], ◌∷◌, ◌++◌, length, Bool, true, false, not, refl, sym, ap, subst, ◌∙◌, arith}
use Rattle.std.specs.Prelude.{Some, filter, count_by}
use Rattle.std.specs.List.{list_any}
use Rattle.std.proofs.lemmas.List.Elements.{All-push}
use Rattle.std.proofs.lemmas.List.Sums.{length-filter, count_by-le-length}
use Rattle.std.proofs.lemmas.Bool.{cond_both, both_ways}
use Rattle.span_algebra.specs.declared.points.Point.{Point}
use Rattle.span_algebra.specs.Timelines.{Timeline, with_point, IsRising}
use Rattle.bitmap_model.specs.Granules.{IsAllowed}
use Rattle.bitmap_model.specs.Bitmap.{BitmapState, is_busy, new_bitmap, when_cleared, when_enabled, when_disabled, when_merged}
use Rattle.bitmap_model.specs.Bitmaps.{named, is_named, is_name, changed, most_bitmaps}
use Rattle.bitmap_model.proofs.Lists.{named_name, untaken_named, changed_all_at, changed_apart, changed_length, changed_other, removed_all, removed_apart, removed_other, added_apart, added_other, enabled_name, disabled_name}
use Rattle.bitmap_model.proofs.Shapes.{added_keeps_shape, cleared_keeps_shape, enabled_keeps_shape, disabled_keeps_shape, merged_keeps_shape}
use Rattle.bitmap_model.proofs.TrueSpans.{added_is_true, cleared_is_true, enabled_keeps_true, disabled_keeps_true, merged_keeps_true}
use Rattle.bitmap_model.proofs.Recorded.{added_keeps_recorded, cleared_keeps_recorded, enabled_keeps_recorded, disabled_keeps_recorded, merged_keeps_recorded}
use Rattle.plain_model.specs.History.{History, timeline_of}
use Rattle.plain_model.specs.Jobs.{Job}
use Rattle.plain_model.specs.Sound.{IsSoundBitmap, AreSoundBitmaps, uses, IsUsedOnce, AreUsers}
use Rattle.plain_model.proofs.Counting.{one_if}
use Rattle.plain_model.proofs.Users.{others_kept, free_unused, idle_unused}

-- ---- one bitmap that is changed at the last point

-- the change leaves a sound bitmap idle and sound, with its name
pub record KeepsSound (t : Timeline) (change : BitmapState → BitmapState) (b : BitmapState) : Type 0 where
  pub sound : IsSoundBitmap t (change b)
  pub idle : is_busy (change b) ≡ false
  pub same_name : (change b).name ≡ b.name

module _ (t : Timeline) (p : Point) (rising : IsRising (with_point t p)) where
  pub added_sound : (name : List ℕ) (granularity : ℕ) (recording persistent : Bool) → is_name name ≡ true → IsAllowed t.start granularity
      → IsSoundBitmap (with_point t p) (new_bitmap t.start name granularity recording persistent p)
  added_sound name granularity recording persistent lawful allowed = record {
    name_is = lawful;
    shape = added_keeps_shape t.start name granularity recording persistent p allowed;
    span_is = added_is_true t p t.start name granularity recording persistent rising;
    recorded = added_keeps_recorded p t.start name granularity recording persistent;
    blank = λ wrong. absurd (both_ways false refl wrong);
    kept = λ wrong. absurd (both_ways false refl wrong);
  }

  pub cleared_sound : (b : BitmapState) → is_busy b ≡ false → b.inconsistent ≡ false → IsSoundBitmap (with_point t p) b → KeepsSound (with_point t p) (when_cleared p) b
  cleared_sound b idle consistent s = search (rules, cleared_keeps_shape t.start p b s.shape, cleared_is_true t p b rising, cleared_keeps_recorded p b)

  pub merged_sound : (source b : BitmapState) → is_busy source ≡ false → IsSoundBitmap (with_point t p) source
      → is_busy b ≡ false → b.inconsistent ≡ false → IsSoundBitmap (with_point t p) b → KeepsSound (with_point t p) (when_merged source p) b
  merged_sound source b free from idle consistent s = search (
    rules,
    merged_keeps_shape t.start source p b s.shape,
    merged_keeps_true t p t.start source b rising from.shape s.shape free from.span_is s.span_is,
    merged_keeps_recorded p source b s.recorded,
  )

  pub enabled_sound : (b : BitmapState) → is_busy b ≡ false → b.inconsistent ≡ false → IsSoundBitmap (with_point t p) b → KeepsSound (with_point t p) (when_enabled p) b
  enabled_sound b idle consistent s = search (rules, cond_both, enabled_name, enabled_keeps_shape, enabled_keeps_true, enabled_keeps_recorded, both_ways)

  pub disabled_sound : (b : BitmapState) → is_busy b ≡ false → b.inconsistent ≡ false → IsSoundBitmap (with_point t p) b → KeepsSound (with_point t p) (when_disabled p) b
  disabled_sound b idle consistent s = search (rules, cond_both, disabled_name, disabled_keeps_shape, disabled_keeps_true, disabled_keeps_recorded, both_ways)

-- ---- the bitmaps of a state

-- the bitmaps are sound, and the jobs have theirs
pub record AreKept (h : History) (jobs : List Job) (bs : List BitmapState) : Type 0 where
  pub sound : AreSoundBitmaps (timeline_of h) bs
  pub users : AreUsers h jobs bs

-- one idle bitmap is changed
pub change_kept : (h : History) (jobs : List Job) (change : BitmapState → BitmapState) (name : List ℕ) (bs : List BitmapState) (b : BitmapState)
    → ((c : BitmapState) → (change c).name ≡ c.name) → named name bs ≡ Some b → is_busy b ≡ false → KeepsSound (timeline_of h) change b → AreKept h jobs bs
    → AreKept h jobs (changed change name bs)
change_kept h jobs change name bs b keeps found idle changes s =
    let unused : count_by (uses name) jobs ≡ 0 = idle_unused h jobs name bs b s.users found idle in
    let once : IsUsedOnce jobs (change b) =
    ap (λ (n : List ℕ). count_by (uses n) jobs) (changes.same_name ∙ named_name name bs b found) ∙ unused ∙ sym (ap one_if changes.idle) in
    search (
      rules,
      changed_all_at (IsSoundBitmap (timeline_of h)) change name bs b s.sound.apart found changes.sound s.sound.each,
      changed_apart change name bs keeps s.sound.apart,
      subst (λ (n : ℕ). n ≤ most_bitmaps) (sym (changed_length change name bs)) s.sound.few,
      changed_all_at (IsUsedOnce jobs) change name bs b s.sound.apart found once s.users.once,
      others_kept h jobs name bs (changed change name bs) (λ n apart. changed_other change name n bs apart keeps) unused s.users.there,
    )

pub removal_kept : (h : History) (jobs : List Job) (name : List ℕ) (bs : List BitmapState) (b : BitmapState) → named name bs ≡ Some b → is_busy b ≡ false → AreKept h jobs bs
    → AreKept h jobs (filter (λ c. not (is_named name c)) bs)
removal_kept h jobs name bs b found idle s = record {
  sound = record {
    each = removed_all (IsSoundBitmap (timeline_of h)) name bs s.sound.each;
    apart = removed_apart name bs s.sound.apart;
    few = omega (arith, s.sound.few, length-filter (λ c. not (is_named name c)) bs, count_by-le-length (λ c. not (is_named name c)) bs);
  };
  users = record {
    once = removed_all (IsUsedOnce jobs) name bs s.users.once;
    there = others_kept h jobs name bs (filter (λ c. not (is_named name c)) bs) (λ n apart. removed_other name n bs apart) (idle_unused h jobs name bs b s.users found idle) s.users.there;
  };
}

pub addition_kept : (h : History) (jobs : List Job) (bs : List BitmapState) (b : BitmapState) → list_any (is_named b.name) bs ≡ false → length bs < most_bitmaps → is_busy b ≡ false
    → IsSoundBitmap (timeline_of h) b → AreKept h jobs bs → AreKept h jobs (bs ++ b ∷ [])
addition_kept h jobs bs b free few idle new s =
    let unused : count_by (uses b.name) jobs ≡ 0 = free_unused h jobs b.name bs (untaken_named b.name bs free) s.users.there in
    grind (
      arith,
      common_steps,
      All-push (IsSoundBitmap (timeline_of h)) bs b s.sound.each new,
      added_apart bs b free s.sound.apart,
      All-push (IsUsedOnce jobs) bs b s.users.once (unused ∙ sym (ap one_if idle)),
      others_kept h jobs b.name bs (bs ++ b ∷ []) (λ n apart. added_other n bs b apart) unused s.users.there,
    )
