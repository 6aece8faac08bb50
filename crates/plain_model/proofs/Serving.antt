-- A state in which jobs and views have copied more.
use Rattle.std.proofs.lemmas.Grind.{common_steps}
use Rattle.std.proofs.Common.{rules}
use Rattle.std.proofs.Common.{◌≡◌, ℕ, List, [], ◌∷◌, ◌++◌, All, map, length, bytes_eq, refl, sym, ap, subst, ◌∙◌, arith}
use Rattle.std.specs.List.{list_any}
use Rattle.std.proofs.lemmas.List.{map-append, length-map}
use Rattle.std.proofs.lemmas.List.Elements.{All-map, All-weaker, filter_agree}
use Rattle.bitmap_model.specs.Bitmap.{BitmapState}
use Rattle.plain_model.specs.History.{History}
use Rattle.plain_model.specs.Jobs.{Job}
use Rattle.plain_model.specs.Machine.{Machine}
use Rattle.plain_model.specs.Sound.{IsSoundJob, IsViewJob, have_one_id, have_one_target, is_on_drive, AreSoundJobs, AreInOrder, uses, IsUsedOnce, HasItsBitmap, AreUsers, IsSoundFor}
use Rattle.plain_model.proofs.Filters.{count_by-map}
use Rattle.plain_model.proofs.Differing.{list_any-map, map_differs}
use Rattle.plain_model.proofs.Grown.{with_copies}

-- nothing of a job changes but what is copied, and its target's store
pub record IsCopying (h : History) (f : Job → Job) : Type 0 where
  pub same : (j : Job) → f j ≡ with_copies (f j).copied (f j).store j
  pub sound : (j : Job) → IsSoundJob h j → IsSoundJob h (f j)

pub map-map : {X Y Z : Type 0} (f : Y → Z) (g : X → Y) (k : X → Z) → ((x : X) → f (g x) ≡ k x) → (xs : List X) → map f (map g xs) ≡ map k xs
map-map f g k so [] = refl
map-map {X} {Y} {Z} f g k so (x ∷ xs) = ap (λ (z : Z). z ∷ map f (map g xs)) (so x) ∙ ap (λ (zs : List Z). k x ∷ zs) (map-map f g k so xs)

module _ (h : History) (f : Job → Job) (is : IsCopying h f) where
  id_same : (j : Job) → (f j).id ≡ j.id
  id_same j = ap (λ (i : Job). i.id) (is.same j)

  same_ids : (i j : Job) → have_one_id (f i) (f j) ≡ have_one_id i j
  same_ids i j = ap (λ (id : List ℕ). bytes_eq id (f j).id) (id_same i) ∙ ap (bytes_eq i.id) (id_same j)

  same_targets : (i j : Job) → have_one_target (f i) (f j) ≡ have_one_target i j
  same_targets i j = search rules

  still_view : (j : Job) → IsViewJob j → IsViewJob (f j)
  still_view j view = search rules

  served_jobs : (jobs views : List Job) → AreSoundJobs h jobs views → AreSoundJobs h (map f jobs) (map f views)
  served_jobs jobs views s =
      let e : map f jobs ++ map f views ≡ map f (jobs ++ views) = sym (map-append f jobs views) in
      record {
        each = subst (All (IsSoundJob h)) (sym e)
            (All-map (IsSoundJob h) f (jobs ++ views) (All-weaker (IsSoundJob h) (λ (j : Job). IsSoundJob h (f j)) is.sound (jobs ++ views) s.each));
        are_views = All-map IsViewJob f views (All-weaker IsViewJob (λ (j : Job). IsViewJob (f j)) still_view views s.are_views);
        ids = rw e (map_differs have_one_id f same_ids (jobs ++ views) s.ids);
        targets = rw e (map_differs have_one_target f same_targets (jobs ++ views) s.targets);
        off_drive = ap (list_any is_on_drive) e ∙ list_any-map is_on_drive is_on_drive f (λ j. ap (λ (i : Job). is_on_drive i) (is.same j)) (jobs ++ views) ∙ s.off_drive;
        few = omega (arith, s.few, ap length e, length-map (jobs ++ views) f);
      }

  served_order : (jobs views : List Job) (created : List (List ℕ)) → AreInOrder jobs views created → AreInOrder (map f jobs) (map f views) created
  served_order jobs views created s = search (rules, map-map, id_same, map-append, filter_agree, list_any-map, bytes_eq)

  served_users : (jobs : List Job) (bs : List BitmapState) → AreUsers h jobs bs → AreUsers h (map f jobs) bs
  served_users jobs bs s =
      let There : Job → Type 0 = λ j. HasItsBitmap h bs j j.bitmap in
      record {
        once = All-weaker (IsUsedOnce jobs) (IsUsedOnce (map f jobs))
            (λ b once. count_by-map (uses b.name) (uses b.name) f (λ j. ap (λ (i : Job). uses b.name i) (is.same j)) jobs ∙ once) bs s.once;
        there = All-map There f jobs (All-weaker There (λ (j : Job). There (f j)) (λ j there. subst There (sym (is.same j)) there) jobs s.there);
      }

  pub serving_keeps : (m : Machine) → IsSoundFor h m → IsSoundFor h (record m { jobs = map f m.jobs; views = map f m.views })
  serving_keeps m s = grind (arith, common_steps, served_jobs m.jobs m.views s.jobs_are, served_order m.jobs m.views m.created s.order, served_users m.jobs m.bitmaps s.users)
