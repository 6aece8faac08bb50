-- The jobs' bitmaps where another bitmap changes.
use Rattle.std.proofs.Common.{rules}
use Rattle.std.proofs.Common.{◌≡◌, ℕ, List, false, refl, sym, ap, ◌∙◌}
use Rattle.std.specs.Prelude.{All, Option, Some, None, count_by}
use Rattle.bitmap_model.specs.Bitmap.{BitmapState, is_busy}
use Rattle.bitmap_model.specs.Bitmaps.{named}
use Rattle.bitmap_model.proofs.Lists.{named_name, named_all}
use Rattle.plain_model.specs.History.{History}
use Rattle.plain_model.specs.Jobs.{Job}
use Rattle.plain_model.specs.Sound.{is_own, uses, IsUsedOnce, HasItsBitmap, AreUsers}
use Rattle.plain_model.proofs.Counting.{all_both, one_if, counted_none, none_counted}

-- ---- users of other bitmaps

-- a bitmap of another name is found as before
own_kept : (h : History) (name : List ℕ) (bs cs : List BitmapState) (j : Job) (own : Option (List ℕ)) → ((n : List ℕ) → (n ≡ name → ⊥) → named n cs ≡ named n bs)
    → is_own name own ≡ false → HasItsBitmap h bs j own → HasItsBitmap h cs j own
own_kept h name bs cs j None others other s = tt
own_kept h name bs cs j (Some n) others other s = search rules

pub others_kept : (h : History) (jobs : List Job) (name : List ℕ) (bs cs : List BitmapState) → ((n : List ℕ) → (n ≡ name → ⊥) → named n cs ≡ named n bs)
    → count_by (uses name) jobs ≡ 0 → All (λ (j : Job). HasItsBitmap h bs j j.bitmap) jobs → All (λ (j : Job). HasItsBitmap h cs j j.bitmap) jobs
others_kept h jobs name bs cs others none there = search (rules, all_both, own_kept, none_counted, there)

-- a name that is free is used by no job
own_other : (h : History) (name : List ℕ) (bs : List BitmapState) (j : Job) (own : Option (List ℕ)) → named name bs ≡ None → HasItsBitmap h bs j own → is_own name own ≡ false
own_other h name bs j None free s = refl
own_other h name bs j (Some n) free s = search rules

pub free_unused : (h : History) (jobs : List Job) (name : List ℕ) (bs : List BitmapState) → named name bs ≡ None
    → All (λ (j : Job). HasItsBitmap h bs j j.bitmap) jobs → count_by (uses name) jobs ≡ 0
free_unused h jobs name bs free there = search (rules, counted_none, own_other, there)

-- one that is idle is used by no job
pub idle_unused : (h : History) (jobs : List Job) (name : List ℕ) (bs : List BitmapState) (b : BitmapState) → AreUsers h jobs bs → named name bs ≡ Some b
    → is_busy b ≡ false → count_by (uses name) jobs ≡ 0
idle_unused h jobs name bs b users found idle =
    ap (λ (n : List ℕ). count_by (uses n) jobs) (sym (named_name name bs b found)) ∙ named_all (IsUsedOnce jobs) name bs b users.once found ∙ ap one_if idle
