-- Jobs and views that leave: the state stays sound.
use Rattle.std.proofs.lemmas.Grind.{common_steps}
use Rattle.std.proofs.Common.{rules}
use Rattle.std.proofs.Common.{◌≡◌, ℕ, ◌≤◌, List, [], ◌∷◌, ◌++◌, Bool, true, not, ◌&&◌, Option, Some, None, IsTrue, All, IsPermutation, filter, map, length, refl, sym, ap, subst, ◌∙◌, arith}
use Rattle.std.specs.List.{list_any}
use Rattle.std.proofs.lemmas.List.Elements.{All-nil, All-cons, All-head, All-tail, All-map, All-weaker, All-append, All-filter, filter-append}
use Rattle.std.proofs.lemmas.List.Sums.{length-filter, count_by-le-length}
use Rattle.std.proofs.lemmas.Map.Views.{any-filter_same}
use Rattle.span_algebra.specs.Timelines.{stands}
use Rattle.bitmap_model.specs.Bitmap.{BitmapState}
use Rattle.bitmap_model.proofs.Lists.{same_bytes}
use Rattle.core_events.specs.Answers.{Done}
use Rattle.core_events.specs.declared.refusals.Refusal.TheVariants.{JobUnknown}
use Rattle.plain_model.specs.History.{History, timeline_of}
use Rattle.plain_model.specs.Jobs.{Job, has_id}
use Rattle.plain_model.specs.Machine.{Machine, GoneView, size_of, runners, job_of}
use Rattle.plain_model.specs.Ending.{Noted, given_back, gone_view, leave, all_left, after_break, cancellation, closed}
use Rattle.plain_model.specs.Outcome.{Outcome, refused, with_reply, is_this, after_cancel}
use Rattle.plain_model.specs.Sound.{IsSoundJob, IsViewJob, have_one_id, have_one_target, is_on_drive, AreSoundJobs, AreInOrder, IsSoundFor, AreNumbers, IsSound}
use Rattle.plain_model.proofs.Filters.{filtered_permutation, filter-map, filter_under}
use Rattle.plain_model.proofs.Differing.{none_in_filter, filter_differs}
use Rattle.plain_model.proofs.Giving.{IsEnding, given_back_is_ending, AreLeft, all_given, parted_users}

pub all_front : {X : Type 0} (P : X → Type 0) (xs ys : List X) → All P (xs ++ ys) → All P xs
all_front P [] ys all = All-nil P
all_front P (x ∷ xs) ys all = All-cons P x xs (All-head P x (xs ++ ys) all) (all_front P xs ys (All-tail P x (xs ++ ys) all))

pub all_back : {X : Type 0} (P : X → Type 0) (xs ys : List X) → All P (xs ++ ys) → All P ys
all_back P [] ys all = all
all_back P (x ∷ xs) ys all = all_back P xs ys (All-tail P x (xs ++ ys) all)

-- ---- what stays of jobs and views

pub staying_jobs : (h : History) (p : Job → Bool) (jobs views : List Job) → AreSoundJobs h jobs views → AreSoundJobs h (filter p jobs) (filter p views)
staying_jobs h p jobs views s =
    let e : filter p jobs ++ filter p views ≡ filter p (jobs ++ views) = sym (filter-append p jobs views) in
    record {
      each = subst (All (IsSoundJob h)) (sym e) (All-filter p (IsSoundJob h) (jobs ++ views) s.each);
      are_views = All-filter p IsViewJob views s.are_views;
      ids = rw e (filter_differs have_one_id p (jobs ++ views) s.ids);
      targets = rw e (filter_differs have_one_target p (jobs ++ views) s.targets);
      off_drive = ap (list_any is_on_drive) e ∙ none_in_filter is_on_drive p (jobs ++ views) s.off_drive;
      few = omega (arith, s.few, ap length e, length-filter p (jobs ++ views), count_by-le-length p (jobs ++ views));
    }

-- the views that stay are those of the ids that stay
staying_views : (stays : List ℕ → Bool) (views : List Job) (id : List ℕ)
    → list_any (has_id id) (filter (λ (j : Job). stays j.id) views) ≡ (stays id && list_any (has_id id) views)
staying_views stays views id = search (rules, any-filter_same, same_bytes)

pub staying_order : (stays : List ℕ → Bool) (jobs views : List Job) (created : List (List ℕ)) → AreInOrder jobs views created
    → AreInOrder (filter (λ (j : Job). stays j.id) jobs) (filter (λ (j : Job). stays j.id) views) (filter stays created)
staying_order stays jobs views created s =
    let id_of : Job → List ℕ = λ j. j.id in
    let p : Job → Bool = λ j. stays j.id in
    let all : IsPermutation (filter stays (map id_of (jobs ++ views))) (filter stays created) =
    filtered_permutation stays (map id_of (jobs ++ views)) created s.all in
    let e : filter stays (map id_of (jobs ++ views)) ≡ map id_of (filter p jobs ++ filter p views) =
    filter-map stays id_of (jobs ++ views) ∙ ap (map id_of) (filter-append p jobs views) in
    record {
      all = subst (λ (ids : List (List ℕ)). IsPermutation ids (filter stays created)) e all;
      in_order = filter_under stays (λ id. list_any (has_id id) views) (λ id. list_any (has_id id) (filter p views)) (staying_views stays views) created
          ∙ ap (filter stays) s.in_order ∙ filter-map stays id_of views;
    }

-- ---- leaving

pub leaving_keeps : (h : History) (change : Job → BitmapState → BitmapState) → IsEnding h change → (leaves : List ℕ → Bool) (m : Machine) → IsSoundFor h m
    → IsSoundFor h (leave change leaves m)
unfolding leave
leaving_keeps h change ending leaves m s =
    let goes : Job → Bool = λ j. leaves j.id in
    let stays : Job → Bool = λ j. not (leaves j.id) in
    let Drawn : Job → Type 0 = λ j. IsTrue (stands j.point (timeline_of h)) in
    let drawn : All Drawn m.jobs =
    All-weaker (IsSoundJob h) Drawn (λ j sound. sound.drawn) m.jobs (all_front (IsSoundJob h) m.jobs m.views s.jobs_are.each) in
    let left : AreLeft h (filter stays m.jobs) _ =
    all_given h change ending (filter goes m.jobs) (filter stays m.jobs) m.bitmaps (All-filter goes Drawn m.jobs drawn) s.bitmaps_are
    (parted_users h goes m.jobs m.bitmaps s.users) in
    grind (arith, common_steps, staying_jobs h stays m.jobs m.views s.jobs_are, staying_order (λ id. not (leaves id)) m.jobs m.views m.created s.order)

pub leaving_numbers : (change : Job → BitmapState → BitmapState) (leaves : List ℕ → Bool) (m : Machine) → AreNumbers m → AreNumbers (leave change leaves m)
unfolding leave
leaving_numbers change leaves m n =
    let Past : GoneView → Type 0 = λ v. v.event ≤ m.event in
    let gone : List Job = filter (λ (j : Job). leaves j.id) m.views in
    record {
      serials = n.serials;
      events = n.events;
      broken_at = n.broken_at;
      gone_at = All-append Past m.gone (map (gone_view m.event) gone) n.gone_at (All-map Past (gone_view m.event) gone (λ k d below. omega arith));
    }

pub leaving_is_sound : (change : Job → BitmapState → BitmapState) (leaves : List ℕ → Bool) (m : Machine) → IsEnding m.history change → IsSound m
    → IsSound (leave change leaves m)
unfolding leave
leaving_is_sound change leaves m ending s = search (rules, leaving_keeps, leaving_numbers)

-- ---- all leave

none_stays : (jobs : List Job) → filter (λ (j : Job). not true) jobs ≡ []
none_stays [] = refl
none_stays (j ∷ jobs) = none_stays jobs

pub all_left_none : (m : Machine) → runners (all_left m) ≡ []
unfolding leave
all_left_none m = ap (λ (jobs : List Job). jobs ++ filter (λ (j : Job). not true) m.views) (none_stays m.jobs) ∙ none_stays m.views

pub closed_is_sound : (m : Machine) → IsSound m → IsSound (closed m).machine
unfolding closed
closed_is_sound m s = leaving_is_sound given_back (λ id. true) m (given_back_is_ending m.history) s

-- a source without jobs and views may break
pub broken_keeps : (h : History) (event : ℕ) (m : Machine) → runners m ≡ [] → IsSoundFor h m → IsSoundFor h (record m { broken = Some event })
broken_keeps h event m none s = search rules

pub broken_numbers : (m : Machine) → AreNumbers m → AreNumbers (record m { broken = Some m.event })
broken_numbers m n = search rules

pub after_break_is_sound : (n : Noted) → IsSound n.machine → IsSound (after_break n).machine
unfolding after_break leave
after_break_is_sound n s = search (rules, leaving_is_sound, given_back_is_ending, broken_keeps, all_left_none, broken_numbers)

-- ---- one is cancelled

-- `after_cancel`, by what is found under the id
abbrev pub cancelled : List ℕ → Machine → Option Job → Outcome
cancelled id m found = elim found [
  | None ↦ refused None (JobUnknown id) m
  | Some j ↦ with_reply Done (record { machine = leave given_back (is_this id) m; notices = cancellation (size_of m) j ∷ [] })
]

cancelled_is_sound : (id : List ℕ) (m : Machine) (found : Option Job) → IsSound m → IsSound (cancelled id m found).machine
cancelled_is_sound id m None s = s
cancelled_is_sound id m (Some j) s = leaving_is_sound given_back (is_this id) m (given_back_is_ending m.history) s

pub after_cancel_is_sound : (id : List ℕ) (m : Machine) → IsSound m → IsSound (after_cancel id m).machine
unfolding after_cancel
after_cancel_is_sound id m s = cancelled_is_sound id m (job_of id (runners m)) s
