-- What a closing stores is what the next opening restores, and it is true.
use Rattle.std.proofs.lemmas.Grind.{common_steps}
use Rattle.std.proofs.Common.{rules}
use Rattle.std.proofs.Common.{◌≡◌, List, [], ◌∷◌, map, true, false, refl, ap, subst, ◌∙◌, arith}
use Rattle.std.specs.Prelude.{All, IsTrue, Option, None, is_some, filter, not}
use Rattle.std.proofs.lemmas.List.Elements.{All-map, All-filter, All-weaker, filter_passes}
use Rattle.std.proofs.lemmas.List.Folds.{map_fixed}
use Rattle.bitmap_model.specs.Bitmap.{BitmapState, stored, restored}
use Rattle.plain_model.specs.History.{History, timeline_of}
use Rattle.plain_model.specs.Jobs.{Job}
use Rattle.plain_model.specs.Machine.{Machine}
use Rattle.plain_model.specs.Ending.{leave, closed}
use Rattle.plain_model.specs.Closing.{lasting}
use Rattle.plain_model.specs.Lawful.{IsTrueEntry}
use Rattle.plain_model.specs.Laws.{StoresLasting}
use Rattle.plain_model.specs.Sound.{IsSoundBitmap, IsUsedOnce, IsSound}
use Rattle.plain_model.proofs.Leaving.{closed_is_sound}

-- ---- one bitmap

none_from : {A : Type 0} (o : Option A) → is_some o ≡ false → o ≡ None
none_from o h = grind (arith, common_steps)

-- it is restored as it was, and what it says is true
pub record IsLasting (h : History) (b : BitmapState) : Type 0 where
  pub same : restored (stored b) ≡ b
  pub truth : IsTrueEntry h (stored b)

lasts : (h : History) (b : BitmapState) → IsTrue b.persistent → IsSoundBitmap (timeline_of h) b → IsUsedOnce [] b → IsLasting h b
lasts h b kept s once = search rules

-- ---- a closing

-- it leaves no jobs
no_jobs : (jobs : List Job) → filter (λ (j : Job). not (true)) jobs ≡ []
no_jobs [] = refl
no_jobs (j ∷ jobs) = no_jobs jobs

closed_jobs : (m : Machine) → (closed m).machine.jobs ≡ []
unfolding closed leave
closed_jobs m = no_jobs m.jobs

closed_history : (m : Machine) → (closed m).machine.history ≡ m.history
unfolding closed leave
closed_history m = refl

all_last : (m : Machine) → IsSound (closed m).machine → All (IsLasting m.history) (lasting m)
all_last m s =
    let bs : List BitmapState = (closed m).machine.bitmaps in
    let kept : All (λ (b : BitmapState). b.persistent ≡ true) (lasting m) = filter_passes (λ (b : BitmapState). b.persistent) bs in
    let sound : All (IsSoundBitmap (timeline_of m.history)) (lasting m) =
    subst (λ (h : History). All (IsSoundBitmap (timeline_of h)) (lasting m)) (closed_history m)
    (All-filter (λ (b : BitmapState). b.persistent) (IsSoundBitmap (timeline_of (closed m).machine.history)) bs s.state.bitmaps_are.each) in
    let unused : All (IsUsedOnce []) (lasting m) =
    subst (λ (js : List Job). All (IsUsedOnce js) (lasting m)) (closed_jobs m)
    (All-filter (λ (b : BitmapState). b.persistent) (IsUsedOnce (closed m).machine.jobs) bs s.state.users.once) in
    λ k d below. lasts m.history _ (kept k d below) (sound k d below) (unused k d below)

map_twice : (bs : List BitmapState) → map restored (map stored bs) ≡ map (λ (b : BitmapState). restored (stored b)) bs
map_twice [] = refl
map_twice (b ∷ bs) = ap (λ (cs : List BitmapState). restored (stored b) ∷ cs) (map_twice bs)

pub closing_stores : (m : Machine) → IsSound m → StoresLasting m
closing_stores m s =
    let last : All (IsLasting m.history) (lasting m) = all_last m (closed_is_sound m s) in
    record {
      same = map_twice (lasting m)
          ∙ map_fixed (λ (b : BitmapState). restored (stored b)) (lasting m)
          (All-weaker (IsLasting m.history) (λ (b : BitmapState). restored (stored b) ≡ b) (λ b l. l.same) (lasting m) last);
      truths = All-map (IsTrueEntry m.history) stored (lasting m)
          (All-weaker (IsLasting m.history) (λ (b : BitmapState). IsTrueEntry m.history (stored b)) (λ b l. l.truth) (lasting m) last);
    }
