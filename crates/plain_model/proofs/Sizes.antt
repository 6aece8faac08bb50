-- The size of the disk stays as requests, ticks and cancellations are served.
use Rattle.std.proofs.Common.{arith}
use Rattle.std.proofs.lemmas.Grind.{common_steps}
use Rattle.std.proofs.Common.{rules}
use Rattle.std.proofs.Common.{◌≡◌, ℕ, List, [], ◌∷◌, Bool, Option, Some, None, is_some, refl, ◌∙◌}
use Rattle.std.proofs.lemmas.Bool.{cond_both}
use Rattle.span_algebra.specs.Timelines.{Extent}
use Rattle.core_events.specs.Events.{Request}
use Rattle.core_events.specs.declared.answers.JobFault.{JobFault}
use Rattle.core_events.specs.declared.answers.JobFault.TheVariants.{Failed}
use Rattle.core_events.specs.declared.answers.Errno.TheVariants.{Io}
use Rattle.core_events.specs.Answers.{Reply, Done, Fault}
use Rattle.plain_model.specs.Jobs.{Job, Tried, copies}
use Rattle.plain_model.specs.Machine.{Machine, size_of, runners, job_of}
use Rattle.plain_model.specs.Requests.{is_write, range_of, granted}
use Rattle.plain_model.specs.Ending.{Noted, leave, after_break}
use Rattle.plain_model.specs.Outcome.{Trouble, Outcome, answered, after_copying, after_marking, after_writing, Fate, Denied, Lost, Carried, CarriedInPart, bytes_of, fate, by_fate, breaks_by, or_break, guest, after_try, after_seal, tick_of, tick, after_cancel}
use Rattle.plain_model.proofs.Leaving.{cancelled}
use Rattle.plain_model.proofs.Served.{by_stop, by_unit}

-- the disk of the machine is as long as that of the other
abbrev IsAsLong : Machine → Machine → Type 0
IsAsLong m n = size_of n ≡ size_of m

-- ---- requests

pub copying_size : (t : Trouble) (e : Extent) (m : Machine) → size_of (after_copying t e m).machine ≡ size_of m
unfolding after_copying leave
copying_size t e m = refl

marking_size : (e : Extent) (bytes : List ℕ) (m : Machine) → size_of (after_marking e bytes m) ≡ size_of m
unfolding after_marking
marking_size e bytes m = refl

break_size : (n : Noted) → size_of (after_break n).machine ≡ size_of n.machine
unfolding after_break leave
break_size n = refl

writing_size : (t : Trouble) (e : Extent) (bytes : List ℕ) (reply : Reply) (m : Machine) → size_of (after_writing t e bytes reply m).machine ≡ size_of m
writing_size t e bytes reply m = marking_size e bytes (after_copying t e m).machine ∙ copying_size t e m

by_fate_size : (f : Fate) (t : Trouble) (r : Request) (m : Machine) → size_of (by_fate f t r m).machine ≡ size_of m
by_fate_size (Denied errno) t r m = refl
by_fate_size Lost t r m = refl
by_fate_size Carried t r m =
    cond_both (is_write r.work) (after_writing t (range_of r) (bytes_of r r.work) Done m) (answered (granted r r.work m) m) (λ (o : Outcome). IsAsLong m o.machine)
    (λ _. writing_size t (range_of r) (bytes_of r r.work) Done m) (λ _. refl)
by_fate_size (CarriedInPart left) t r m = writing_size t (range_of r) left (Fault Io) m

or_break_size : (breaks : Bool) (o : Outcome) → size_of (or_break breaks o).machine ≡ size_of o.machine
or_break_size breaks o = search (rules, cond_both, break_size)

pub guest_size : (t : Trouble) (r : Request) (m : Machine) → size_of (guest t r m).machine ≡ size_of m
unfolding guest
guest_size t r m = or_break_size (breaks_by (fate t r m) t r.work) (by_fate (fate t r m) t r m) ∙ by_fate_size (fate t r m) t r m

-- ---- ticks

by_stop_size : (rest : List Job) (j : Job) (stop : Option JobFault) (m : Machine) → size_of (by_stop rest j stop m).machine ≡ size_of m
unfolding leave
by_stop_size rest j o m = grind (arith, common_steps)

seal_size : (j : Job) (m : Machine) → size_of (after_seal j m).machine ≡ size_of m
unfolding leave
seal_size j m = refl

by_unit_size : (t : Trouble) (j : Job) (rest : List Job) (m : Machine) (next : Option ℕ) → size_of (by_unit t j rest m next).machine ≡ size_of m
by_unit_size t j rest m (Some n) =
    let tried : Tried = copies (size_of m) (t.failing j.id) (n ∷ []) j in
    by_stop_size rest tried.job tried.stop m
by_unit_size t j rest m None =
    cond_both (is_some (t.failing j.id)) (after_try rest (record { job = j; stop = Some Failed }) m) (after_seal j m) (λ (o : Outcome). IsAsLong m o.machine)
    (λ _. by_stop_size rest j (Some Failed) m) (λ _. seal_size j m)

by_jobs_size : (t : Trouble) (jobs : List Job) (m : Machine) → size_of (tick_of t jobs m).machine ≡ size_of m
by_jobs_size t o m = grind (arith, common_steps, by_unit_size)

pub tick_size : (t : Trouble) (m : Machine) → size_of (tick t m).machine ≡ size_of m
unfolding tick
tick_size t m = by_jobs_size t m.jobs m

-- ---- cancellations

cancelled_size : (id : List ℕ) (m : Machine) (found : Option Job) → size_of (cancelled id m found).machine ≡ size_of m
unfolding leave
cancelled_size id m o = grind (arith, common_steps)

pub after_cancel_size : (id : List ℕ) (m : Machine) → size_of (after_cancel id m).machine ≡ size_of m
unfolding after_cancel
after_cancel_size id m = cancelled_size id m (job_of id (runners m))
