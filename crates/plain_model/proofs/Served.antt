-- A tick keeps a state sound.
use Rattle.std.proofs.lemmas.Grind.{common_steps}
use Rattle.std.proofs.Common.{rules}
use Rattle.std.proofs.Common.{◌≡◌, ℕ, List, [], ◌∷◌, ◌++◌, append_assoc, length-append, Bool, true, Option, Some, None, is_some, IsTrue, All, IsPermutation, map, count_by, bytes_eq, refl, sym, ap, subst, ◌∙◌, arith}
use Rattle.std.specs.Prelude.{if◌then◌else◌}
use Rattle.std.specs.List.{list_any}
use Rattle.std.proofs.lemmas.Bool.{cond_both}
use Rattle.std.proofs.lemmas.List.Elements.{All-nil, All-cons, All-head, All-tail, All-append, All-push, All-weaker}
use Rattle.std.proofs.lemmas.List.Sorted.{IsPermutation-map, IsPermutation-middle, IsPermutation-trans}
use Rattle.bitmap_model.specs.Bitmap.{BitmapState}
use Rattle.bitmap_model.specs.Granules.{is_in}
use Rattle.bitmap_model.proofs.Copies.{least_missing, missing_parts}
use Rattle.core_events.specs.declared.answers.JobFault.{JobFault}
use Rattle.core_events.specs.declared.answers.JobFault.TheVariants.{Failed}
use Rattle.core_events.specs.Answers.{Done}
use Rattle.plain_model.specs.History.{History}
use Rattle.image_model.specs.Space.{Store}
use Rattle.plain_model.specs.Jobs.{Job, Tried, next_unit, copies, completion}
use Rattle.plain_model.specs.Machine.{Machine, size_of}
use Rattle.plain_model.specs.Ending.{given_back, completed, leave}
use Rattle.plain_model.specs.Outcome.{Trouble, Outcome, answered, with_reply, is_this, after_try, after_seal, tick_of, tick}
use Rattle.plain_model.specs.Sound.{IsSoundJob, have_one_id, have_one_target, is_on_drive, AreSoundJobs, AreInOrder, uses, IsUsedOnce, HasItsBitmap, AreUsers, IsSoundFor, IsSound}
use Rattle.plain_model.proofs.Counting.{count-cons, count-push}
use Rattle.plain_model.proofs.Differing.{moved_differs, moved_none}
use Rattle.plain_model.proofs.Giving.{given_back_is_ending, completed_is_ending}
use Rattle.plain_model.proofs.Leaving.{all_front, all_back, leaving_is_sound}
use Rattle.plain_model.proofs.Grown.{with_copies, IsGrown, copies_grow, grown_is_sound}

-- ---- the front job goes to the back

bytes_either : (a b : List ℕ) → bytes_eq a b ≡ bytes_eq b a
bytes_either a b = search rules

moved_jobs : (h : History) (j : Job) (rest views : List Job) → AreSoundJobs h (j ∷ rest) views → AreSoundJobs h (rest ++ j ∷ []) views
moved_jobs h j rest views s =
    let e : (rest ++ j ∷ []) ++ views ≡ rest ++ (j ∷ views) = append_assoc rest (j ∷ []) views in
    let tail : All (IsSoundJob h) (rest ++ views) = All-tail (IsSoundJob h) j (rest ++ views) s.each in
    record {
      each = subst (All (IsSoundJob h)) (sym e)
          (All-append (IsSoundJob h) rest (j ∷ views) (all_front (IsSoundJob h) rest views tail)
          (All-cons (IsSoundJob h) j views (All-head (IsSoundJob h) j (rest ++ views) s.each) (all_back (IsSoundJob h) rest views tail)));
      are_views = s.are_views;
      ids = rw e (moved_differs have_one_id (λ i k. bytes_either i.id k.id) j rest views s.ids);
      targets = rw e (moved_differs have_one_target (λ i k. bytes_either i.target k.target) j rest views s.targets);
      off_drive = ap (list_any is_on_drive) e ∙ moved_none is_on_drive j rest views s.off_drive;
      few = omega (arith, s.few, length-append (rest ++ j ∷ []) views, length-append rest (j ∷ []), length-append rest views);
    }

moved_order : (j : Job) (rest views : List Job) (created : List (List ℕ)) → AreInOrder (j ∷ rest) views created → AreInOrder (rest ++ j ∷ []) views created
moved_order j rest views created s =
    let id_of : Job → List ℕ = λ i. i.id in
    let moved : IsPermutation (map id_of (rest ++ (j ∷ views))) (map id_of (j ∷ (rest ++ views))) =
    IsPermutation-map id_of (rest ++ (j ∷ views)) (j ∷ (rest ++ views)) (IsPermutation-middle rest j views) in
    record {
      all = subst (λ (jobs : List Job). IsPermutation (map id_of jobs) created) (sym (append_assoc rest (j ∷ []) views))
          (IsPermutation-trans (map id_of (rest ++ (j ∷ views))) (map id_of (j ∷ (rest ++ views))) created moved s.all);
      in_order = s.in_order;
    }

count_moved : (name : List ℕ) (j : Job) (rest : List Job) → count_by (uses name) (rest ++ j ∷ []) ≡ count_by (uses name) (j ∷ rest)
count_moved name j rest = omega (arith, count-push (uses name) rest j, count-cons (uses name) j rest)

moved_users : (h : History) (j : Job) (rest : List Job) (bs : List BitmapState) → AreUsers h (j ∷ rest) bs → AreUsers h (rest ++ j ∷ []) bs
moved_users h j rest bs s =
    let There : Job → Type 0 = λ i. HasItsBitmap h bs i i.bitmap in
    record {
      once = All-weaker (IsUsedOnce (j ∷ rest)) (IsUsedOnce (rest ++ j ∷ [])) (λ b once. count_moved b.name j rest ∙ once) bs s.once;
      there = All-push There rest j (All-tail There j rest s.there) (All-head There j rest s.there);
    }

-- ---- the front job has copied more

served_jobs : (h : History) (j : Job) (copied : List Bool) (store : Store) (rest views : List Job) → IsSoundJob h (with_copies copied store j)
    → AreSoundJobs h (j ∷ rest) views → AreSoundJobs h (with_copies copied store j ∷ rest) views
served_jobs h j copied store rest views new s = search (
  rules,
  All-cons (IsSoundJob h) (with_copies copied store j) (rest ++ views) new (All-tail (IsSoundJob h) j (rest ++ views) s.each),
)

served_order : (j : Job) (copied : List Bool) (store : Store) (rest views : List Job) (created : List (List ℕ)) → AreInOrder (j ∷ rest) views created
    → AreInOrder (with_copies copied store j ∷ rest) views created
served_order j copied store rest views created s = search rules

served_users : (h : History) (j : Job) (copied : List Bool) (store : Store) (rest : List Job) (bs : List BitmapState) → AreUsers h (j ∷ rest) bs
    → AreUsers h (with_copies copied store j ∷ rest) bs
served_users h j copied store rest bs s =
    let There : Job → Type 0 = λ i. HasItsBitmap h bs i i.bitmap in
    record {
      once = All-weaker (IsUsedOnce (j ∷ rest)) (IsUsedOnce (with_copies copied store j ∷ rest)) (λ b once. once) bs s.once;
      there = All-cons There (with_copies copied store j) rest (All-head There j rest s.there) (All-tail There j rest s.there);
    }

-- the front job, as it is then, stands at the back
at_back : (h : History) (m : Machine) (j : Job) (rest : List Job) (copied : List Bool) (store : Store) → m.jobs ≡ j ∷ rest
    → IsSoundJob h (with_copies copied store j) → IsSoundFor h m → IsSoundFor h (record m { jobs = rest ++ with_copies copied store j ∷ [] })
at_back h m j rest copied store is new s =
    let i : Job = with_copies copied store j in
    record {
      sized = s.sized;
      bitmaps_are = s.bitmaps_are;
      jobs_are = moved_jobs h i rest m.views
          (served_jobs h j copied store rest m.views new (subst (λ (jobs : List Job). AreSoundJobs h jobs m.views) is s.jobs_are));
      order = moved_order i rest m.views m.created
          (served_order j copied store rest m.views m.created (subst (λ (jobs : List Job). AreInOrder jobs m.views m.created) is s.order));
      users = moved_users h i rest m.bitmaps
          (served_users h j copied store rest m.bitmaps (subst (λ (jobs : List Job). AreUsers h jobs m.bitmaps) is s.users));
      exports_are = s.exports_are;
      store_shape = s.store_shape;
      quiet = λ broken. absurd (some_runs (ap (λ (jobs : List Job). jobs ++ m.views) (sym is) ∙ s.quiet broken));
    }
  where
    some_runs : {x : Job} {xs : List Job} → x ∷ xs ≡ [] → ⊥
    some_runs h = cc

at_back_is_sound : (m : Machine) (j new : Job) (rest : List Job) → m.jobs ≡ j ∷ rest → new ≡ with_copies new.copied new.store j → IsSoundJob m.history new → IsSound m
    → IsSound (record m { jobs = rest ++ new ∷ [] })
at_back_is_sound m j new rest is same sound s =
    let made : IsSoundFor m.history (record m { jobs = rest ++ with_copies new.copied new.store j ∷ [] }) =
    at_back m.history m j rest new.copied new.store is (subst (IsSoundJob m.history) same sound) s.state in
    search (rules, subst (λ (i : Job). IsSoundFor m.history (record m { jobs = rest ++ i ∷ [] })) (sym same) made)

-- ---- what was tried

-- `after_try`, by what stopped it
abbrev pub by_stop : List Job → Job → Option JobFault → Machine → Outcome
by_stop rest j stop m = elim stop [
  | None ↦ answered Done (record m { jobs = rest ++ j ∷ [] })
  | Some fault ↦ with_reply Done (record {
    machine = leave given_back (is_this j.id) (record m { jobs = rest ++ j ∷ [] });
    notices = completion (size_of m) (Some fault) j ∷ [];
  })
]

by_stop_is_sound : (rest : List Job) (j : Job) (stop : Option JobFault) (m : Machine) → IsSound (record m { jobs = rest ++ j ∷ [] }) → IsSound (by_stop rest j stop m).machine
by_stop_is_sound rest j None m s = s
by_stop_is_sound rest j (Some fault) m s = leaving_is_sound given_back (is_this j.id) (record m { jobs = rest ++ j ∷ [] }) (given_back_is_ending m.history) s

after_try_is_sound : (rest : List Job) (tried : Tried) (m : Machine) → IsSound (record m { jobs = rest ++ tried.job ∷ [] }) → IsSound (after_try rest tried m).machine
after_try_is_sound rest tried m s = by_stop_is_sound rest tried.job tried.stop m s

-- ---- the tick

-- `served`, by the next unit
abbrev pub by_unit : Trouble → Job → List Job → Machine → Option ℕ → Outcome
by_unit t j rest m next = elim next [
  | Some n ↦ after_try rest (copies (size_of m) (t.failing j.id) (n ∷ []) j) m
  | None ↦ if is_some (t.failing j.id) then after_try rest (record { job = j; stop = Some Failed }) m else after_seal j m
]

front_sound : (m : Machine) (j : Job) (rest : List Job) → m.jobs ≡ j ∷ rest → IsSound m → IsSoundJob m.history j
front_sound m j rest is s =
    All-head (IsSoundJob m.history) j (rest ++ m.views) (subst (λ (jobs : List Job). All (IsSoundJob m.history) (jobs ++ m.views)) is s.state.jobs_are.each)

by_unit_is_sound : (t : Trouble) (j : Job) (rest : List Job) (m : Machine) (next : Option ℕ) → next_unit j ≡ next → m.jobs ≡ j ∷ rest → IsSound m
    → IsSound (by_unit t j rest m next).machine
by_unit_is_sound t j rest m (Some n) unit is s =
    let sound : IsSoundJob m.history j = front_sound m j rest is s in
    let tried : Tried = copies (size_of m) (t.failing j.id) (n ∷ []) j in
    let here : is_in j.scope n ≡ true = (missing_parts j.scope j.copied n (least_missing j.scope j.copied n unit).1).1 in
    let InScope : ℕ → Type 0 = λ k. IsTrue (is_in j.scope k) in
    let g : IsGrown j tried.job =
    copies_grow (size_of m) (t.failing j.id) (n ∷ []) j sound.shape.in_scope (All-cons InScope n [] here (All-nil InScope)) in
    after_try_is_sound rest tried m (at_back_is_sound m j tried.job rest is g.same (grown_is_sound m.history j tried.job g sound) s)
by_unit_is_sound t j rest m None unit is s =
    let failed : Tried = record { job = j; stop = Some Failed } in
    cond_both (is_some (t.failing j.id)) (after_try rest failed m) (after_seal j m) (λ (o : Outcome). IsSound o.machine)
    (λ _. after_try_is_sound rest failed m (at_back_is_sound m j j rest is refl (front_sound m j rest is s) s))
    (λ _. leaving_is_sound completed (is_this j.id) m (completed_is_ending m.history) s)

by_jobs_is_sound : (t : Trouble) (jobs : List Job) (m : Machine) → m.jobs ≡ jobs → IsSound m → IsSound (tick_of t jobs m).machine
by_jobs_is_sound t o m is s = grind (arith, common_steps, by_unit_is_sound)

pub tick_is_sound : (t : Trouble) (m : Machine) → IsSound m → IsSound (tick t m).machine
unfolding tick
tick_is_sound t m s = by_jobs_is_sound t m.jobs m refl s
