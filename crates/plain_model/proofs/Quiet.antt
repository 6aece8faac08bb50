-- Where no count rose and nothing is refused for want of memory, an event is answered as if nothing could go wrong.
use Rattle.std.proofs.lemmas.Grind.{common_steps}
use Rattle.std.proofs.Common.{rules}
use Rattle.std.proofs.Common.{◌≡◌, ℕ, Bool, false, refl, sym, ap, subst, ◌∙◌, arith, List, [], ◌∷◌, map}
use Rattle.std.specs.Prelude.{Option, Some, None, is_some, ◌⊎◌, All, Contains, find, if◌then◌else◌}
use Rattle.std.proofs.lemmas.List.Elements.{All-nil, All-head, All-tail, All-weaker, All-contains, All-contains_itself, Contains-append_left, Contains-append_right}
use Rattle.std.proofs.lemmas.Bool.{both_ways, false_from_ne_true}
use Rattle.std.proofs.lemmas.Slice.Eq.{bytes_eq-Decides}
use Rattle.span_algebra.specs.Timelines.{Extent}
use Rattle.core_events.specs.Events.{Request, Event, Guest, Monitor, Tick}
use Rattle.core_events.specs.declared.answers.Errno.{Errno}
use Rattle.core_events.specs.declared.answers.JobFault.TheVariants.{Failed}
use Rattle.core_events.specs.Answers.{Answer}
use Rattle.plain_model.specs.Jobs.{Job, Tried, copies}
use Rattle.plain_model.specs.Machine.{Machine, size_of, runners, job_of}
use Rattle.plain_model.specs.Requests.{denial}
use Rattle.plain_model.specs.Ending.{Noted, leave, given_back, stop_notices}
use Rattle.plain_model.specs.Actions.{Held, Hindrance}
use Rattle.plain_model.specs.Outcome.{RequestEnd, Well, Trouble, no_trouble, Outcome, Fate, Denied, Lost, Carried, CarriedInPart, fate_by, fate, tried_before, has_stopped, after_copying, by_fate, breaks_by, or_break, guest, after_try, after_seal, tick, numbered, outcome}
use Rattle.plain_model.specs.Faults.{Rise, HasFailed, IsRequestTied, AreCopiesTied, StepFaults}
use Rattle.plain_model.specs.Step.{StepSpace, Step}
use Rattle.plain_model.specs.Laws.{IsQuiet, WentWell, IsForMemory}
use Rattle.plain_model.proofs.Memory.{with_memory, free-command}

-- ---- what the ties leave of a trouble

-- nor did one on either of two files
neither_failed : (rise : Rise) (source target : List ℕ) → IsQuiet rise → HasFailed rise source ⊎ HasFailed rise target → ⊥
neither_failed rise source target quiet o = grind (arith, common_steps)

-- a request went well
went_well : (rise : Rise) (source : List ℕ) (t : Trouble) (old : Machine) (r : Request) → IsQuiet rise → IsRequestTied rise source t old (Guest r) → t.request ≡ Well
went_well rise source t old r quiet tied = search rules

-- none passes a test that finds none
none_found : (test : Job → Bool) (jobs : List Job) → find test jobs ≡ None → All (λ (j : Job). test j ≡ false) jobs
none_found test [] none = All-nil (λ (j : Job). test j ≡ false)
none_found test (j ∷ jobs) none = search (rules, none_found test jobs)

-- no device call fails for the job or view
abbrev IsFree : Trouble → Job → Type 0
IsFree t j = t.failing j.id ≡ None

-- a job of a list is found by its id
is_found : (jobs : List Job) (j : Job) → Contains jobs j → job_of j.id jobs ≡ None → ⊥
is_found jobs j here none = search (rules, both_ways, none_found, here, bytes_eq-Decides)

-- no device call failed for one job or view that runs
free_one : (rise : Rise) (source : List ℕ) (t : Trouble) (old : Machine) (j : Job) (unit : Option ℕ) (found : Option Job) → IsQuiet rise → AreCopiesTied rise source t old
    → Contains (runners old) j → t.failing j.id ≡ unit → job_of j.id (runners old) ≡ found → IsFree t j
free_one rise source t old j None found quiet tied here fails is = fails
free_one rise source t old j (Some n) None quiet tied here fails is = absurd (is_found (runners old) j here is)
free_one rise source t old j (Some n) (Some k) quiet tied here fails is = absurd (neither_failed rise source k.target quiet (tied j.id n k fails is))

-- no device call failed for a job or view that runs
all_free : (rise : Rise) (source : List ℕ) (t : Trouble) (old : Machine) → IsQuiet rise → AreCopiesTied rise source t old → All (IsFree t) (runners old)
all_free rise source t old quiet tied =
    All-weaker (Contains (runners old)) (IsFree t) (λ j here. free_one rise source t old j (t.failing j.id) (job_of j.id (runners old)) quiet tied here refl refl)
    (runners old) (All-contains_itself (runners old))

-- nothing but want of memory hindered a command
unhindered : (h : Hindrance) → ((name : List ℕ) → h.unread name ≡ false) → with_memory h ≡ no_trouble.hindrance
unhindered h unread = λ i. record { unread = λ name. unread name i; memory = None }

-- ---- an event without trouble

-- two functions that agree on a list map it to the same
map_same : {X Y : Type 0} (f g : X → Y) (xs : List X) → All (λ (x : X). f x ≡ g x) xs → map f xs ≡ map g xs
map_same f g [] same = refl
map_same f g (x ∷ xs) same =
    let first : f x ≡ g x = All-head (λ x. f x ≡ g x) x xs same in
    let rest : map f xs ≡ map g xs = map_same f g xs (All-tail (λ x. f x ≡ g x) x xs same) in
    λ i. first i ∷ rest i

-- a job for which no call failed copies as without trouble
same_try : (t : Trouble) (e : Extent) (size : ℕ) (j : Job) → IsFree t j → tried_before t e size j ≡ tried_before no_trouble e size j
same_try t e size j free = rw free

-- a machine whose jobs and views have tried to copy
abbrev copied_as : List Tried → List Job → List Job → Machine → Noted
copied_as tries jobs views m = record {
  machine = leave given_back (has_stopped tries) (record m { jobs = jobs; views = views });
  notices = stop_notices (size_of m) tries m.created;
}

-- all jobs of a list do
same_jobs : (t : Trouble) (e : Extent) (size : ℕ) (all jobs : List Job) → All (IsFree t) all → ((j : Job) → Contains jobs j → Contains all j)
    → map (λ (j : Job). (tried_before t e size j).job) jobs ≡ map (λ (j : Job). (tried_before no_trouble e size j).job) jobs
same_jobs t e size all jobs free among =
    map_same (λ (j : Job). (tried_before t e size j).job) (λ (j : Job). (tried_before no_trouble e size j).job) jobs
    (All-weaker (Contains jobs) (λ (j : Job). (tried_before t e size j).job ≡ (tried_before no_trouble e size j).job)
    (λ j here. ap (λ (x : Tried). x.job) (same_try t e size j (All-contains (IsFree t) all j free (among j here)))) jobs (All-contains_itself jobs))

-- copying leaves all as without trouble
same_copying : (t : Trouble) (e : Extent) (m : Machine) → All (IsFree t) (runners m) → after_copying t e m ≡ after_copying no_trouble e m
unfolding after_copying
same_copying t e m free =
    let try : Job → Tried = tried_before t e (size_of m) in
    let quiet : Job → Tried = tried_before no_trouble e (size_of m) in
    let same : All (λ (j : Job). try j ≡ quiet j) (runners m) = All-weaker (IsFree t) (λ (j : Job). try j ≡ quiet j) (same_try t e (size_of m)) (runners m) free in
    let tries : map try (runners m) ≡ map quiet (runners m) = map_same try quiet (runners m) same in
    let jobs : map (λ (j : Job). (try j).job) m.jobs ≡ map (λ (j : Job). (quiet j).job) m.jobs =
    same_jobs t e (size_of m) (runners m) m.jobs free (Contains-append_left m.jobs m.views) in
    let views : map (λ (j : Job). (try j).job) m.views ≡ map (λ (j : Job). (quiet j).job) m.views =
    same_jobs t e (size_of m) (runners m) m.views free (Contains-append_right m.jobs m.views) in
    λ i. copied_as (tries i) (jobs i) (views i) m

-- what becomes of a request, by why it is denied
abbrev fate_after : Option Errno → RequestEnd → Request → Machine → Fate
fate_after why end r m = elim why [ Some errno ↦ Denied errno | None ↦ fate_by end r m ]

-- this is the fate of a request
fate-is : (t : Trouble) (r : Request) (m : Machine) → fate t r m ≡ fate_after (denial r m) t.request r m
unfolding fate
fate-is t r m = refl

-- a fate that meets no fault: the request is denied or carried out
abbrev IsCalm : Fate → Type 0
IsCalm (Denied errno) = Unit {0}
IsCalm Lost = ⊥
IsCalm Carried = Unit {0}
IsCalm (CarriedInPart bytes) = ⊥

-- where a request went well, its fate meets no fault, whether it is denied or not
calm_well : (why : Option Errno) (r : Request) (m : Machine) → IsCalm (fate_after why Well r m)
calm_well o r m = grind (arith, common_steps)

-- the same of the fate as it is defined
calm : (t : Trouble) (r : Request) (m : Machine) → t.request ≡ Well → IsCalm (fate t r m)
calm t r m well = subst IsCalm (sym (fate-is t r m ∙ ap (λ (end : RequestEnd). fate_after (denial r m) end r m) well)) (calm_well (denial r m) r m)

-- its fate is that without trouble
same_fate : (t : Trouble) (r : Request) (m : Machine) → t.request ≡ Well → fate t r m ≡ fate no_trouble r m
same_fate t r m well = fate-is t r m ∙ (ap (λ (end : RequestEnd). fate_after (denial r m) end r m) well ∙ sym (fate-is no_trouble r m))

-- what follows from a fate without fault is the same without trouble
same_by_fate : (f : Fate) (t : Trouble) (r : Request) (m : Machine) → IsCalm f → All (IsFree t) (runners m)
    → or_break (breaks_by f t r.work) (by_fate f t r m) ≡ or_break (breaks_by f no_trouble r.work) (by_fate f no_trouble r m)
same_by_fate o t r m calm free = grind (arith, common_steps, calm, same_copying)

-- a request that went well is answered as without trouble
same_guest : (t : Trouble) (r : Request) (m : Machine) → t.request ≡ Well → All (IsFree t) (runners m) → guest t r m ≡ guest no_trouble r m
unfolding guest
same_guest t r m well free = search (rules, same_by_fate, calm, same_fate)

-- the front job is served, by its next unit
abbrev pub served_by : Job → List Job → Machine → Option ℕ → Option ℕ → Outcome
served_by j rest m fails next = elim next [
  | Some n ↦ after_try rest (copies (size_of m) fails (n ∷ []) j) m
  | None ↦ if is_some fails then after_try rest (record { job = j; stop = Some Failed }) m else after_seal j m
]

-- so is a tick of the machine
same_tick : (t : Trouble) (m : Machine) → All (IsFree t) (runners m) → tick t m ≡ tick no_trouble m
unfolding tick
same_tick t m free = search rules

-- where no count rose and nothing is refused for want of memory, the outcome is that without trouble
pub same_outcome : (source : List ℕ) (held : List ℕ → Held) (rise : Rise) (t : Trouble) (old : Machine) (event : Event) (answer : Answer) → IsQuiet rise
    → StepFaults source rise t old event answer → (IsForMemory (outcome held t event old).answer → ⊥) → outcome held t event old ≡ outcome held no_trouble event old
unfolding outcome
same_outcome source held rise t old (Guest r) answer quiet faults none = search (rules, same_guest, went_well, all_free)
same_outcome source held rise t old (Monitor c) answer quiet faults none = search (rules, false_from_ne_true, free-command, unhindered)
same_outcome source held rise t old Tick answer quiet faults none = same_tick t (numbered old) (all_free rise source t old quiet faults.copies)

-- and the source's space is what it becomes without trouble
same_space : (source : List ℕ) (rise : Rise) (t : Trouble) (old : Machine) (event : Event) (answer : Answer) (new : Machine) → IsQuiet rise
    → StepFaults source rise t old event answer → StepSpace t old event new → StepSpace no_trouble old event new
same_space source rise t old o answer new quiet faults space = grind (arith, common_steps, same_fate, went_well)

-- where no count rose and nothing is refused for want of memory, answer, state and space are those without trouble
pub quiet_owed : (source : List ℕ) (held : List ℕ → Held) (rise : Rise) (old : Machine) (event : Event) (answer : Answer) (new : Machine)
    → Step source held rise old event answer new → IsQuiet rise → (IsForMemory answer → ⊥) → WentWell held old event answer new
quiet_owed source held rise old event answer new step quiet none = search (rules, same_outcome, same_space)
