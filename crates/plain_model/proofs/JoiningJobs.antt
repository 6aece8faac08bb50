-- A job or a view joins those of a state.
use Rattle.std.proofs.Common.{rules}
use Rattle.std.proofs.lemmas.Grind.{common_steps}
use Rattle.std.proofs.Common.{◌≡◌, ℕ, ◌<◌, ◌≤◌, List, [], ◌∷◌, ◌++◌, length, map, Bool, true, false, sym, ap, subst, ◌∙◌, arith}
use Rattle.std.specs.Prelude.{All, IsPermutation, filter, bytes_eq, ◌||◌}
use Rattle.std.specs.List.{list_any}
use Rattle.std.proofs.lemmas.List.{append_assoc, append-nil, length-append, map-append}
use Rattle.std.proofs.lemmas.List.Elements.{All-push, All-map, All-weaker, filter-append}
use Rattle.std.proofs.lemmas.List.Folds.{list_any-append}
use Rattle.std.proofs.lemmas.List.Sorted.{IsPermutation-refl, IsPermutation-trans, IsPermutation-map, IsPermutation-append_left, All-permutation}
use Rattle.std.proofs.lemmas.Bool.{cond-true, cond-false, or_parts, or_left, or_right}
use Rattle.bitmap_model.proofs.Lists.{same_bytes-itself, same_bytes-back}
use Rattle.script_model.specs.Recording.{is_drive}
use Rattle.plain_model.specs.History.{History}
use Rattle.plain_model.specs.Jobs.{Job, has_id}
use Rattle.plain_model.specs.Machine.{has_target}
use Rattle.plain_model.specs.Actions.{most_jobs}
use Rattle.plain_model.specs.Sound.{IsSoundJob, IsViewJob, have_one_id, have_one_target, is_on_drive, Differ, AreSoundJobs, AreInOrder}
use Rattle.plain_model.proofs.Counting.{none_passes}
use Rattle.plain_model.proofs.Inserting.{all_insert, none_insert, differ_insert, permutes_insert, none_push, differ_push, filter_same}

-- the job has an id and a target that none has, and there is room for it
pub record IsNewAmong (j : Job) (others : List Job) : Type 0 where
  pub id : list_any (has_id j.id) others ≡ false
  pub target : list_any (has_target j.target) others ≡ false
  pub off_drive : is_drive j.target ≡ false
  pub few : length others < most_jobs

flip_id : (i j : Job) → have_one_id i j ≡ false → have_one_id j i ≡ false
flip_id i j h = same_bytes-back i.id j.id h

flip_target : (i j : Job) → have_one_target i j ≡ false → have_one_target j i ≡ false
flip_target i j h = same_bytes-back i.target j.target h

-- ---- soundness

pub job_joins : (h : History) (jobs views : List Job) (j : Job) → AreSoundJobs h jobs views → IsSoundJob h j → IsNewAmong j (jobs ++ views) → AreSoundJobs h (jobs ++ j ∷ []) views
job_joins h jobs views j s sound new = record {
  each = all_insert (IsSoundJob h) jobs views j s.each sound;
  are_views = s.are_views;
  ids = differ_insert have_one_id jobs views j flip_id new.id s.ids;
  targets = differ_insert have_one_target jobs views j flip_target new.target s.targets;
  off_drive = none_insert is_on_drive jobs views j s.off_drive new.off_drive;
  few = omega (arith, new.few, length-append (jobs ++ j ∷ []) views, length-append jobs (j ∷ []), length-append jobs views);
}

pub view_joins : (h : History) (jobs views : List Job) (j : Job) → AreSoundJobs h jobs views → IsSoundJob h j → IsViewJob j → IsNewAmong j (jobs ++ views) → AreSoundJobs h jobs (views ++ j ∷ [])
view_joins h jobs views j s sound view new =
    let assoc : (jobs ++ views) ++ j ∷ [] ≡ jobs ++ (views ++ j ∷ []) = append_assoc jobs views (j ∷ []) in
    record {
      each = subst (All (IsSoundJob h)) assoc (All-push (IsSoundJob h) (jobs ++ views) j s.each sound);
      are_views = All-push IsViewJob views j s.are_views view;
      ids = subst (Differ have_one_id) assoc (differ_push have_one_id (jobs ++ views) j flip_id new.id s.ids);
      targets = subst (Differ have_one_target) assoc (differ_push have_one_target (jobs ++ views) j flip_target new.target s.targets);
      off_drive = subst (λ (js : List Job). list_any is_on_drive js ≡ false) assoc (none_push is_on_drive (jobs ++ views) j s.off_drive new.off_drive);
      few = subst (λ (js : List Job). length js ≤ most_jobs) assoc (omega (arith, new.few, length-append (jobs ++ views) (j ∷ [])));
    }

-- ---- the order of creation

abbrev ids_of : List Job → List (List ℕ)
ids_of jobs = map (λ (i : Job). i.id) jobs

ids_push : (jobs all : List Job) (j : Job) (created : List (List ℕ)) → IsPermutation all (jobs ++ j ∷ []) → IsPermutation (ids_of jobs) created
    → IsPermutation (ids_of all) (created ++ j.id ∷ [])
ids_push jobs all j created moved old =
    IsPermutation-trans (ids_of all) (ids_of jobs ++ j.id ∷ []) (created ++ j.id ∷ [])
    (subst (IsPermutation (ids_of all)) (map-append (λ (i : Job). i.id) jobs (j ∷ [])) (IsPermutation-map (λ (i : Job). i.id) all (jobs ++ j ∷ []) moved))
    (IsPermutation-append_left (j.id ∷ []) (ids_of jobs) created old)

-- an id that is no view's
not_view : (jobs views : List Job) (id : List ℕ) → list_any (has_id id) (jobs ++ views) ≡ false → list_any (has_id id) views ≡ false
not_view jobs views id none = (or_parts (list_any (has_id id) jobs) (list_any (has_id id) views) (sym (list_any-append (has_id id) jobs views) ∙ none)).1

pub order_with_job : (jobs views : List Job) (created : List (List ℕ)) (j : Job) → AreInOrder jobs views created → list_any (has_id j.id) (jobs ++ views) ≡ false
    → AreInOrder (jobs ++ j ∷ []) views (created ++ j.id ∷ [])
order_with_job jobs views created j s free = search (rules, ids_push, permutes_insert, filter-append, cond-false, not_view, append-nil)

or_nothing : (b c : Bool) → c ≡ false → (b || (c || false)) ≡ b
or_nothing o c h = grind (arith, common_steps)

-- for another id one more view changes no test
other_id : (views : List Job) (j : Job) (id : List ℕ) → bytes_eq j.id id ≡ false → list_any (has_id id) (views ++ j ∷ []) ≡ list_any (has_id id) views
other_id views j id other = search (rules, list_any-append, or_nothing, same_bytes-back)

pub order_with_view : (jobs views : List Job) (created : List (List ℕ)) (j : Job) → AreInOrder jobs views created → list_any (has_id j.id) (jobs ++ views) ≡ false
    → AreInOrder jobs (views ++ j ∷ []) (created ++ j.id ∷ [])
order_with_view jobs views created j s free =
    let is_view : List ℕ → Bool = λ (id : List ℕ). list_any (has_id id) views in
    let is_view_now : List ℕ → Bool = λ (id : List ℕ). list_any (has_id id) (views ++ j ∷ []) in
    let others : All (λ id. bytes_eq j.id id ≡ false) created =
    All-permutation (λ id. bytes_eq j.id id ≡ false) (ids_of (jobs ++ views)) created s.all
    (All-map (λ id. bytes_eq j.id id ≡ false) (λ (i : Job). i.id) (jobs ++ views) (none_passes (has_id j.id) (jobs ++ views) free)) in
    let agree : All (λ id. is_view_now id ≡ is_view id) created =
    All-weaker (λ id. bytes_eq j.id id ≡ false) (λ id. is_view_now id ≡ is_view id) (λ id other. other_id views j id other) created others in
    let own : is_view_now j.id ≡ true =
    list_any-append (has_id j.id) views (j ∷ [])
    ∙ or_right (list_any (has_id j.id) views) (bytes_eq j.id j.id || false) (or_left (bytes_eq j.id j.id) false (same_bytes-itself j.id)) in
    let moved : IsPermutation (jobs ++ (views ++ j ∷ [])) ((jobs ++ views) ++ j ∷ []) =
    subst (λ (js : List Job). IsPermutation js ((jobs ++ views) ++ j ∷ [])) (append_assoc jobs views (j ∷ [])) (IsPermutation-refl ((jobs ++ views) ++ j ∷ [])) in
    record {
      all = ids_push (jobs ++ views) (jobs ++ (views ++ j ∷ [])) j created moved s.all;
      in_order = filter-append is_view_now created (j.id ∷ [])
          ∙ ap (λ (ids : List (List ℕ)). ids ++ filter is_view_now (j.id ∷ [])) (filter_same is_view_now is_view created agree)
          ∙ ap (λ (ids : List (List ℕ)). filter is_view created ++ ids) (cond-true (is_view_now j.id) (j.id ∷ []) [] own)
          ∙ ap (λ (ids : List (List ℕ)). ids ++ j.id ∷ []) s.in_order
          ∙ sym (map-append (λ (i : Job). i.id) views (j ∷ []));
    }
