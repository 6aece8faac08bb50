-- What becomes of the bitmaps of jobs that leave.
use Rattle.std.proofs.Common.{rules}
use Rattle.std.proofs.lemmas.Grind.{common_steps}
use Rattle.std.proofs.Common.{◌≡◌, List, [], ◌∷◌, ◌++◌, Bool, true, false, not, Option, Some, None, IsTrue, All, filter, count_by, get_or, bytes_eq, refl, sym, ap, subst, ◌∙◌, arith, ℕ}
use Rattle.std.proofs.lemmas.Bool.{both_ways, cond-false, cond_both}
use Rattle.std.proofs.lemmas.List.Elements.{All-head, All-tail, All-map, All-weaker, All-append, All-filter}
use Rattle.span_algebra.specs.declared.points.Point.{Point}
use Rattle.span_algebra.specs.Timelines.{stands}
use Rattle.bitmap_model.specs.Bitmap.{BitmapState, is_busy, when_abdicated, when_reclaimed}
use Rattle.bitmap_model.specs.BitmapLaws.{IsBlank}
use Rattle.bitmap_model.specs.Bitmaps.{named, changed}
use Rattle.bitmap_model.proofs.Lists.{same_bytes, same_bytes-itself, same_bytes-back, named_name, named_all, changed_all_at, changed_apart, changed_length, changed_other, change_if}
use Rattle.bitmap_model.proofs.Recorded.{abdicated_keeps_recorded, reclaimed_keeps_recorded}
use Rattle.bitmap_model.proofs.Shapes.{abdicated_keeps_shape, reclaimed_keeps_shape}
use Rattle.bitmap_model.proofs.TrueSpans.{abdicated_is_true, reclaimed_keeps_true}
use Rattle.core_events.specs.declared.commands.Mode.{Mode}
use Rattle.core_events.specs.declared.commands.Mode.TheVariants.{OnSuccess, Never}
use Rattle.plain_model.specs.History.{History, timeline_of}
use Rattle.plain_model.specs.Jobs.{Job}
use Rattle.plain_model.specs.Ending.{given_back, by_mode, completed, change_own, change_bitmaps}
use Rattle.plain_model.specs.Sound.{IsSoundBitmap, AreSoundBitmaps, is_own, uses, IsUsedOnce, SuccessorHolds, HasItsBitmap, AreUsers}
use Rattle.plain_model.proofs.Counting.{none_counted}
use Rattle.plain_model.proofs.Filters.{count_parted}

-- ---- what a change at the end of a job has to keep

-- the change keeps a bitmap sound of which the successor has what was written since the job's point, and sets it free
pub record IsEnding (h : History) (change : Job → BitmapState → BitmapState) : Type 0 where
  pub name : (j : Job) (b : BitmapState) → (change j b).name ≡ b.name
  pub free : (j : Job) (b : BitmapState) → is_busy (change j b) ≡ false
  pub sound : (j : Job) (b : BitmapState) → IsTrue (stands j.point (timeline_of h)) → SuccessorHolds h j.point (Some b) → b.inconsistent ≡ false
      → IsSoundBitmap (timeline_of h) b → IsSoundBitmap (timeline_of h) (change j b)

pub reclaimed_is_sound : (h : History) (b : BitmapState) → b.inconsistent ≡ false → IsSoundBitmap (timeline_of h) b
    → IsSoundBitmap (timeline_of h) (when_reclaimed b)
reclaimed_is_sound h b consistent s = grind (arith, common_steps, reclaimed_keeps_shape, reclaimed_keeps_true, reclaimed_keeps_recorded, both_ways)

pub abdicated_is_sound : (h : History) (p : Point) (b : BitmapState) → IsTrue (stands p (timeline_of h)) → SuccessorHolds h p (Some b) → b.inconsistent ≡ false
    → IsSoundBitmap (timeline_of h) b → IsSoundBitmap (timeline_of h) (when_abdicated p b)
abdicated_is_sound h p b drawn holds consistent s = record {
  name_is = s.name_is;
  shape = abdicated_keeps_shape (timeline_of h).start p b s.shape;
  span_is = abdicated_is_true (timeline_of h) p b drawn holds;
  recorded = abdicated_keeps_recorded p b;
  blank = λ inconsistent. absurd (both_ways b.inconsistent consistent inconsistent);
  kept = s.kept;
}

pub given_back_is_ending : (h : History) → IsEnding h given_back
given_back_is_ending h = record {
  name = λ j b. refl;
  free = λ j b. refl;
  sound = λ j b drawn holds consistent s. reclaimed_is_sound h b consistent s;
}

mode_name : (mode : Mode) (j : Job) (b : BitmapState) → (by_mode mode j b).name ≡ b.name
mode_name o j b = grind (arith, common_steps)

mode_free : (mode : Mode) (j : Job) (b : BitmapState) → is_busy (by_mode mode j b) ≡ false
mode_free o j b = grind (arith, common_steps)

mode_sound : (h : History) (mode : Mode) (j : Job) (b : BitmapState) → IsTrue (stands j.point (timeline_of h)) → SuccessorHolds h j.point (Some b)
    → b.inconsistent ≡ false → IsSoundBitmap (timeline_of h) b → IsSoundBitmap (timeline_of h) (by_mode mode j b)
mode_sound h OnSuccess j b drawn holds consistent s = abdicated_is_sound h j.point b drawn holds consistent s
mode_sound h Never j b drawn holds consistent s = reclaimed_is_sound h b consistent s

pub completed_is_ending : (h : History) → IsEnding h completed
completed_is_ending h = record {
  name = λ j b. mode_name j.mode j b;
  free = λ j b. mode_free j.mode j b;
  sound = λ j b drawn holds consistent s. mode_sound h j.mode j b drawn holds consistent s;
}

-- ---- one job leaves

-- the job that uses a bitmap finds it
pub found_bitmap : (h : History) (p : Point) (found : Option BitmapState) → SuccessorHolds h p found
    → (b : BitmapState) × (found ≡ Some b) × SuccessorHolds h p (Some b)
found_bitmap h p o holds = grind (arith, common_steps)

-- a bitmap that is used is busy, and consistent
pub busy_is_consistent : (b : BitmapState) → is_busy b ≡ true → (IsTrue b.inconsistent → IsBlank b) → b.inconsistent ≡ false
busy_is_consistent b busy blank = search rules

-- where one more job uses a bitmap, it is busy, and no other job uses it
pub used_by_first : (j : Job) (jobs : List Job) (b : BitmapState) → uses b.name j ≡ true → IsUsedOnce (j ∷ jobs) b
    → (is_busy b ≡ true) × (count_by (uses b.name) jobs ≡ 0)
used_by_first j jobs b own once = grind (arith, common_steps)

pub used_by_others : (j : Job) (jobs : List Job) (b : BitmapState) → uses b.name j ≡ false → IsUsedOnce (j ∷ jobs) b → IsUsedOnce jobs b
used_by_others j jobs b other once = search rules

-- the bitmaps are sound, and used by these jobs
pub record AreLeft (h : History) (jobs : List Job) (bs : List BitmapState) : Type 0 where
  pub sound : AreSoundBitmaps (timeline_of h) bs
  pub users : AreUsers h jobs bs

module _ (h : History) (change : Job → BitmapState → BitmapState) (ending : IsEnding h change) (j : Job) (jobs : List Job) (name : List ℕ) (is : j.bitmap ≡ Some name) where
  own_uses : (c : BitmapState) → uses c.name j ≡ bytes_eq c.name name
  own_uses c = ap (is_own c.name) is

  own_once : (c : BitmapState) → IsUsedOnce (j ∷ jobs) c → IsUsedOnce jobs (change_if (change j) name c)
  own_once c once = grind (arith, common_steps, cond_both, own_uses, bytes_eq, same_bytes, same_bytes-itself, used_by_first, cond-false, used_by_others, same_bytes-back)

  other_there : (bs : List BitmapState) (i : Job) (own : Option (List ℕ)) → is_own name own ≡ false → HasItsBitmap h bs i own
      → HasItsBitmap h (changed (change j) name bs) i own
  other_there bs i o unused holds = grind (arith, common_steps, changed_other, both_ways, bytes_eq, same_bytes-itself)

  own_changed : (bs : List BitmapState) → IsTrue (stands j.point (timeline_of h)) → AreSoundBitmaps (timeline_of h) bs → AreUsers h (j ∷ jobs) bs
      → AreLeft h jobs (changed (change j) name bs)
  own_changed bs drawn sound users =
      let there : All (λ (i : Job). HasItsBitmap h bs i i.bitmap) (j ∷ jobs) = users.there in
      let here : HasItsBitmap h bs j j.bitmap = All-head (λ (i : Job). HasItsBitmap h bs i i.bitmap) j jobs there in
      let found : (b : BitmapState) × (named name bs ≡ Some b) × SuccessorHolds h j.point (Some b) =
      found_bitmap h j.point (named name bs) (subst (HasItsBitmap h bs j) is here) in
      let b : BitmapState = found.0 in
      let called : b.name ≡ name = named_name name bs b found.1 in
      let own : uses b.name j ≡ true = own_uses b ∙ ap (λ (n : List ℕ). bytes_eq n name) called ∙ same_bytes-itself name in
      let once : (is_busy b ≡ true) × (count_by (uses b.name) jobs ≡ 0) =
      used_by_first j jobs b own (named_all (IsUsedOnce (j ∷ jobs)) name bs b users.once found.1) in
      let s : IsSoundBitmap (timeline_of h) b = named_all (IsSoundBitmap (timeline_of h)) name bs b sound.each found.1 in
      let unused : All (λ (i : Job). uses name i ≡ false) jobs =
      none_counted (uses name) jobs (ap (λ (n : List ℕ). count_by (uses n) jobs) (sym called) ∙ once.1) in
      record {
        sound = record {
          each = changed_all_at (IsSoundBitmap (timeline_of h)) (change j) name bs b sound.apart found.1
              (ending.sound j b drawn found.2 (busy_is_consistent b once.0 s.blank) s) sound.each;
          apart = changed_apart (change j) name bs (ending.name j) sound.apart;
          few = omega (arith, sound.few, changed_length (change j) name bs);
        };
        users = record {
          once = All-map (IsUsedOnce jobs) (change_if (change j) name) bs
              (All-weaker (IsUsedOnce (j ∷ jobs)) (λ (c : BitmapState). IsUsedOnce jobs (change_if (change j) name c)) own_once bs users.once);
          there = λ k d below. other_there bs (get_or jobs k d) (get_or jobs k d).bitmap (unused k d below)
              (All-tail (λ (i : Job). HasItsBitmap h bs i i.bitmap) j jobs there k d below);
        };
      }

-- one job leaves that may use a bitmap
one_left : (h : History) (change : Job → BitmapState → BitmapState) → IsEnding h change → (j : Job) (jobs : List Job) (own : Option (List ℕ)) → j.bitmap ≡ own
    → (bs : List BitmapState) → IsTrue (stands j.point (timeline_of h)) → AreSoundBitmaps (timeline_of h) bs → AreUsers h (j ∷ jobs) bs
    → AreLeft h jobs (change_own change j own bs)
one_left h change ending j jobs None is bs drawn sound users = record {
  sound = sound;
  users = record {
    once = All-weaker (IsUsedOnce (j ∷ jobs)) (IsUsedOnce jobs) (λ c once. used_by_others j jobs c (ap (is_own c.name) is) once) bs users.once;
    there = All-tail (λ (i : Job). HasItsBitmap h bs i i.bitmap) j jobs users.there;
  };
}
one_left h change ending j jobs (Some name) is bs drawn sound users = own_changed h change ending j jobs name is bs drawn sound users

-- ---- all that leave

pub all_given : (h : History) (change : Job → BitmapState → BitmapState) → IsEnding h change → (leaving rest : List Job) (bs : List BitmapState)
    → All (λ (j : Job). IsTrue (stands j.point (timeline_of h))) leaving → AreSoundBitmaps (timeline_of h) bs → AreUsers h (leaving ++ rest) bs
    → AreLeft h rest (change_bitmaps change leaving bs)
all_given h change ending [] rest bs drawn sound users = record { sound = sound; users = users }
all_given h change ending (j ∷ leaving) rest bs drawn sound users =
    let one : AreLeft h (leaving ++ rest) (change_own change j j.bitmap bs) =
    one_left h change ending j (leaving ++ rest) j.bitmap refl bs (All-head (λ (i : Job). IsTrue (stands i.point (timeline_of h))) j leaving drawn) sound users in
    all_given h change ending leaving rest (change_own change j j.bitmap bs) (All-tail (λ (i : Job). IsTrue (stands i.point (timeline_of h))) j leaving drawn)
    one.sound one.users

-- first those that leave, and then those that stay
pub parted_users : (h : History) (leaves : Job → Bool) (jobs : List Job) (bs : List BitmapState) → AreUsers h jobs bs
    → AreUsers h (filter leaves jobs ++ filter (λ (j : Job). not (leaves j)) jobs) bs
parted_users h leaves jobs bs users =
    let stays : Job → Bool = λ j. not (leaves j) in
    let There : Job → Type 0 = λ j. HasItsBitmap h bs j j.bitmap in
    record {
      once = All-weaker (IsUsedOnce jobs) (IsUsedOnce (filter leaves jobs ++ filter stays jobs)) (λ b once. count_parted (uses b.name) leaves jobs ∙ once) bs users.once;
      there = All-append There (filter leaves jobs) (filter stays jobs) (All-filter leaves There jobs users.there) (All-filter stays There jobs users.there);
    }
