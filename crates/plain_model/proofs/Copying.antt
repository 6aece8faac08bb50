-- Jobs and views copy what a write will change: the state stays sound, and no unit that is missing meets the range any more.
use Rattle.std.proofs.lemmas.Grind.{common_steps}
use Rattle.std.proofs.Common.{rules}
use Rattle.std.proofs.Common.{◌≡◌, ℕ, ◌<◌, ◌&&◌, List, [], ◌∷◌, Bool, true, false, not, Option, None, is_some, IsTrue, All, Contains, filter, map, length, get_or, bytes_eq, refl, sym, ap, subst, ◌∙◌, inl, inr, arith}
use Rattle.std.specs.List.{list_any, range_with_len}
use Rattle.std.proofs.lemmas.Bool.{cases_Bool, both_ways, and_parts, and_cases, and_from, not-true}
use Rattle.std.proofs.lemmas.List.{map-append}
use Rattle.std.proofs.lemmas.List.Elements.{All-nil, All-cons, All-head, All-tail, All-map, All-weaker, All-contains, All-contains_itself, All-filter, filter-append, filter_passes}
use Rattle.std.proofs.lemmas.List.FromFn.{get_or-range_with_len, length-range_with_len}
use Rattle.span_algebra.specs.Timelines.{Extent}
use Rattle.span_algebra.specs.Spans.{granule}
use Rattle.bitmap_model.specs.Granules.{is_in, meets}
use Rattle.bitmap_model.specs.Copies.{is_missing, IsPart}
use Rattle.bitmap_model.proofs.Sets.{in_length}
use Rattle.bitmap_model.proofs.Copies.{missing_parts}
use Rattle.bitmap_model.proofs.Lists.{same_bytes-itself}
use Rattle.plain_model.specs.History.{History}
use Rattle.plain_model.specs.Jobs.{Job, Tried, unit_of, has_id, units_before}
use Rattle.plain_model.specs.Machine.{Machine, size_of, runners}
use Rattle.plain_model.specs.Ending.{leave}
use Rattle.plain_model.specs.Outcome.{Trouble, tried_before, has_stopped, after_copying}
use Rattle.plain_model.specs.Sound.{IsSoundJob, IsSoundFor}
use Rattle.plain_model.proofs.Counting.{none_passes}
use Rattle.plain_model.proofs.Differing.{list_any-map}
use Rattle.plain_model.proofs.Giving.{given_back_is_ending}
use Rattle.plain_model.proofs.Leaving.{leaving_keeps}
use Rattle.plain_model.proofs.Grown.{IsGrown, grown_scope, copies_same, copies_grow, copies_all, missing_before, grown_is_sound}
use Rattle.plain_model.proofs.Serving.{IsCopying, serving_keeps}

-- no missing unit of the job meets the range
abbrev pub IsClear : Extent → Job → Type 0
IsClear e j = (k : ℕ) → is_missing j.scope j.copied k ≡ true → meets e (granule (unit_of j) k) ≡ false

-- ---- lists

-- what holds of all that pass holds of each that passes
all_that_pass : {X : Type 0} (P : X → Type 0) (p : X → Bool) (xs : List X) → All P (filter p xs) → All (λ (x : X). p x ≡ true → P x) xs
all_that_pass {X} P p [] all = All-nil (λ (x : X). p x ≡ true → P x)
all_that_pass {X} P p (x ∷ xs) all = elim (cases_Bool (p x)) [
  | inl passes ↦
      let here : All P (x ∷ filter p xs) = rw passes at all in
      All-cons (λ (y : X). p y ≡ true → P y) x xs (λ _. All-head P x (filter p xs) here) (all_that_pass P p xs (All-tail P x (filter p xs) here))
  | inr fails ↦
      let here : All P (filter p xs) = rw fails at all in
      All-cons (λ (y : X). p y ≡ true → P y) x xs (λ passes. absurd (both_ways (p x) fails passes)) (all_that_pass P p xs here)
]

passing_all : {X : Type 0} (P : X → Type 0) (p : X → Bool) (xs : List X) → All (λ (x : X). p x ≡ true → P x) xs → All P (filter p xs)
passing_all {X} P p xs all =
    let passes : All (λ (x : X). p x ≡ true) (filter p xs) = filter_passes p xs in
    let both : All (λ (x : X). p x ≡ true → P x) (filter p xs) = All-filter p (λ (x : X). p x ≡ true → P x) xs all in
    λ k d below. both k d below (passes k d below)

stop_none : {A : Type 0} (stop : Option A) → is_some stop ≡ false → stop ≡ None
stop_none o h = grind (arith, common_steps)

-- ---- one job

-- the test of a unit that has to be copied
abbrev has_to : Extent → Job → ℕ → Bool
has_to e j k = is_missing j.scope j.copied k && meets e (granule (unit_of j) k)

units_in_scope : (e : Extent) (j : Job) → All (λ (n : ℕ). IsTrue (is_in j.scope n)) (units_before e j)
units_in_scope e j = search (rules, missing_parts, and_parts, filter_passes)

pub tried_grows : (t : Trouble) (e : Extent) (size : ℕ) (j : Job) → IsPart j.copied j.scope → IsGrown j (tried_before t e size j).job
tried_grows t e size j part = copies_grow size (t.failing j.id) (units_before e j) j part (units_in_scope e j)

-- a number below n is in its place
in_range : (P : ℕ → Type 0) (n k : ℕ) → All P (range_with_len 0 n) → k < n → P k
in_range P n k all below =
    let e : get_or (range_with_len 0 n) k k ≡ k = omega (arith, get_or-range_with_len 0 n k k below) in
    subst P e (all k k (omega (arith, length-range_with_len 0 n)))

-- where nothing stopped it, a job is clear
tried_is_clear : (t : Trouble) (e : Extent) (size : ℕ) (j : Job) → IsPart j.copied j.scope → length j.copied ≡ length j.scope
    → (tried_before t e size j).stop ≡ None → IsClear e (tried_before t e size j).job
tried_is_clear t e size j part long goes =
    let new : Job = (tried_before t e size j).job in
    let g : IsGrown j new = tried_grows t e size j part in
    let Has : ℕ → Type 0 = λ n. IsTrue (is_in new.copied n) in
    let copied : All Has (units_before e j) = copies_all size (t.failing j.id) (units_before e j) j part (units_in_scope e j) long goes in
    λ k missing.
    let there : is_missing j.scope new.copied k ≡ true = subst (λ (scope : List Bool). is_missing scope new.copied k ≡ true) (grown_scope j new g) missing in
    let parts : (is_in new.copied k ≡ false) × (is_in j.scope k ≡ true) = missing_parts j.scope new.copied k there in
    let here : has_to e j k ≡ true → Has k =
    in_range (λ n. has_to e j n ≡ true → Has n) (length j.scope) k (all_that_pass Has (has_to e j) (range_with_len 0 (length j.scope)) copied)
    (in_length j.scope k parts.1) in
    ap (λ (u : ℕ). meets e (granule u k)) g.unit
    ∙ elim (cases_Bool (meets e (granule (unit_of j) k))) [
      | inl met ↦
          absurd (both_ways (is_in new.copied k) parts.0
          (here (and_from (is_missing j.scope j.copied k) (meets e (granule (unit_of j) k)) (missing_before j new g k there) met)))
      | inr apart ↦ apart
    ]

-- ---- all of them

pub trying_is_copying : (h : History) (t : Trouble) (e : Extent) (size : ℕ) → IsCopying h (λ (j : Job). (tried_before t e size j).job)
trying_is_copying h t e size = search (rules, copies_same, grown_is_sound, tried_grows)

pub after_copying_keeps : (h : History) (t : Trouble) (e : Extent) (m : Machine) → IsSoundFor h m → IsSoundFor h (after_copying t e m).machine
unfolding after_copying
after_copying_keeps h t e m s = search (rules, leaving_keeps, given_back_is_ending, serving_keeps, trying_is_copying)

-- a job whose id is none of those that stopped didn't stop
went_well : (try : Job → Tried) (all : List Job) (j : Job) → Contains all j → not (has_stopped (map try all) (try j).job.id) ≡ true → (try j).stop ≡ None
went_well try all j there stays =
    let id : List ℕ = (try j).job.id in
    let stopped : Job → Bool = λ i. has_id id (try i).job && is_some (try i).stop in
    let none : list_any stopped all ≡ false =
    sym (list_any-map (λ (t : Tried). has_id id t.job && is_some t.stop) stopped try (λ i. refl) all) ∙ not-true (has_stopped (map try all) id) stays in
    let here : stopped j ≡ false = All-contains (λ (i : Job). stopped i ≡ false) all j (none_passes stopped all none) there in
    stop_none (try j).stop (elim (and_cases (has_id id (try j).job) (is_some (try j).stop) here) [
      | inl other ↦ absurd (both_ways (bytes_eq id id) other (same_bytes-itself id))
      | inr goes ↦ goes
    ])

-- the jobs and views that stay are clear
pub after_copying_is_clear : (h : History) (t : Trouble) (e : Extent) (m : Machine) → IsSoundFor h m → All (IsClear e) (runners (after_copying t e m).machine)
unfolding after_copying leave
after_copying_is_clear h t e m s =
    let all : List Job = runners m in
    let try : Job → Tried = tried_before t e (size_of m) in
    let f : Job → Job = λ j. (try j).job in
    let stays : Job → Bool = λ j. not (has_stopped (map try all) j.id) in
    let Clear : Job → Type 0 = λ j. stays j ≡ true → IsClear e j in
    let each : All (λ (j : Job). Contains all j → Clear (f j)) all =
    All-weaker (IsSoundJob h) (λ (j : Job). Contains all j → Clear (f j))
    (λ j sound there stay. tried_is_clear t e (size_of m) j sound.shape.in_scope sound.shape.copied_count (went_well try all j there stay)) all s.jobs_are.each in
    let there : All (Contains all) all = All-contains_itself all in
    let clear : All Clear (map f all) = All-map Clear f all (λ k d below. each k d below (there k d below)) in
    subst (All (IsClear e)) (ap (filter stays) (map-append f m.jobs m.views) ∙ filter-append stays (map f m.jobs) (map f m.views)) (passing_all (IsClear e) stays (map f all) clear)
