-- What denials, refusals, transactions and a break of the source leave.
use Rattle.std.proofs.lemmas.Grind.{common_steps}
use Rattle.std.proofs.Common.{rules}
use Rattle.std.proofs.Common.{◌≡◌, ◌≢◌, ℕ, ◌+◌, ◌<◌, Bool, true, false, refl, ap, ◌∙◌, arith, List, [], ◌∷◌, length}
use Rattle.std.specs.Prelude.{Option, Some, None, is_some, Result, Ok, Err, filter}
use Rattle.std.proofs.lemmas.Bool.{cond_both}
use Rattle.span_algebra.specs.declared.points.Point.{Point}
use Rattle.span_algebra.specs.Timelines.{Extent}
use Rattle.core_events.specs.Events.{Request, Event, Guest, Monitor}
use Rattle.core_events.specs.declared.commands.SourceName.{SourceName}
use Rattle.core_events.specs.declared.commands.Action.{Action}
use Rattle.core_events.specs.declared.commands.Command.{Command}
use Rattle.core_events.specs.declared.commands.Command.TheVariants.{Transaction}
use Rattle.core_events.specs.declared.answers.Errno.{Errno}
use Rattle.core_events.specs.declared.answers.Errno.TheVariants.{Io}
use Rattle.core_events.specs.declared.answers.JobFault.{JobFault}
use Rattle.core_events.specs.declared.answers.JobFault.TheVariants.{Failed}
use Rattle.core_events.specs.declared.refusals.Refusal.{Refusal}
use Rattle.core_events.specs.declared.refusals.Refusal.TheVariants.{NodeUnknown, JobUnknown, OutOfMemory}
use Rattle.core_events.specs.Answers.{Reply, Done, Fault, Refused}
use Rattle.script_model.specs.Recording.{is_drive}
use Rattle.plain_model.specs.Jobs.{Job, next_unit}
use Rattle.plain_model.specs.Machine.{Machine, size_of, last_number, next_point, runners, job_of}
use Rattle.plain_model.specs.Requests.{granted, is_write, range_of}
use Rattle.plain_model.specs.Ending.{leave, given_back, after_break, cancellation}
use Rattle.plain_model.specs.Actions.{Held, Hindrance, on_drive, merge_sources, RefusedAt, act, fold_actions, with_point, transact}
use Rattle.plain_model.specs.Outcome.{Trouble, Outcome, answered, with_reply, Fate, Denied, Lost, Carried, CarriedInPart, fate, after_copying, after_marking, after_writing, bytes_of, by_fate, breaks_by, or_break, guest, is_this, after_try, after_seal, tick_of, tick, refused, number_in, after_transaction, after_cancel, unless_wanting, command, numbered, outcome}
use Rattle.plain_model.specs.Laws.{IsUnmoved, DrawsAPoint, AnswersIo}
use Rattle.plain_model.proofs.Memory.{acted, with_drawn}
use Rattle.plain_model.proofs.Quiet.{served_by}

-- ---- denials and refusals

-- an outcome that is a reply alone leaves the machine unmoved
unmoved : (m : Machine) (reply : Reply) (o : Outcome) → o ≡ answered reply (numbered m) → IsUnmoved m reply o
unmoved m reply o is = search rules

-- a request that is denied is answered so
denied_guest : (t : Trouble) (r : Request) (m : Machine) (errno : Errno) → fate t r m ≡ Denied errno → guest t r m ≡ answered (Fault errno) m
unfolding guest
denied_guest t r m errno denied = ap (λ (f : Fate). or_break (breaks_by f t r.work) (by_fate f t r m)) denied

-- a request that is denied changes nothing
pub denial_unmoved : (held : List ℕ → Held) (t : Trouble) (r : Request) (m : Machine) (errno : Errno) → fate t r (numbered m) ≡ Denied errno
    → IsUnmoved m (Fault errno) (outcome held t (Guest r) m)
unfolding outcome
denial_unmoved held t r m errno denied = unmoved m (Fault errno) (guest t r (numbered m)) (denied_guest t r (numbered m) errno denied)

-- where the outcome is a refusal, it is nothing else
abbrev IsPlain : Machine → Outcome → Type 0
IsPlain m o = (number : Option ℕ) (refusal : Refusal) → o.answer.reply ≡ Refused number refusal → o ≡ refused number refusal m

-- want of memory is nothing else
plain-unless : (m : Machine) (memory : Option ℕ) (o : Outcome) → IsPlain m o → IsPlain m (unless_wanting memory o m)
plain-unless m x o plain = grind (arith, common_steps)

-- a cancelling, by the job that was found
abbrev cancelled_by : List ℕ → Machine → Option Job → Outcome
cancelled_by id m found = elim found [
  | None ↦ refused None (JobUnknown id) m
  | Some j ↦ with_reply Done (record { machine = leave given_back (is_this id) m; notices = cancellation (size_of m) j ∷ [] })
]

-- the same of the command
plain-cancel : (id : List ℕ) (m : Machine) → IsPlain m (after_cancel id m)
unfolding after_cancel
plain-cancel id m = search rules

-- so it is for every command
plain-command : (held : List ℕ → Held) (h : Hindrance) (c : Command) (m : Machine) → IsPlain m (command held h c m)
unfolding command
plain-command held h o m = grind (arith, common_steps, plain-unless, plain-cancel)

-- a command that is refused changes nothing
pub refusal_unmoved : (held : List ℕ → Held) (t : Trouble) (c : Command) (m : Machine) (number : Option ℕ) (refusal : Refusal)
    → (outcome held t (Monitor c) m).answer.reply ≡ Refused number refusal → IsUnmoved m (Refused number refusal) (outcome held t (Monitor c) m)
unfolding outcome
refusal_unmoved held t c m number refusal is = search (rules, unmoved, plain-command)

-- ---- transactions

-- where there is no action and a serial is left, the point is drawn
drawn : (held : List ℕ → Held) (h : Hindrance) (m : Machine) → m.serial ≢ last_number → transact held h [] m ≡ Ok (with_point (next_point m) m)
unfolding transact
drawn held h m left = search rules

-- so the transaction is done
empty_done : (held : List ℕ → Held) (h : Hindrance) (m : Machine) → m.serial ≢ last_number → command held h (Transaction []) m ≡ answered Done (with_point (next_point m) m)
unfolding command
empty_done held h m left = ap (λ (result : Result Machine RefusedAt). after_transaction (number_in []) result m) (drawn held h m left)

-- a transaction without actions draws a point
pub empty_draws : (held : List ℕ → Held) (t : Trouble) (m : Machine) → m.serial ≢ last_number → DrawsAPoint m (outcome held t (Monitor (Transaction [])) m)
unfolding outcome
empty_draws held t m left = search (rules, empty_done)

-- an action that is refused is one of those from number k on
abbrev IsAmong : ℕ → ℕ → Result Machine RefusedAt → Type 0
IsAmong k count (Ok next) = Unit {0}
IsAmong k count (Err r) = r.action < k + count

-- what is refused of a list of actions is among them
fold_among : (held : List ℕ → Held) (h : Hindrance) (p : Point) (k : ℕ) (actions : List Action) (m : Machine)
    → IsAmong k (length actions) (fold_actions held h p k actions m)
fold_among held h p k [] m = tt
fold_among held h p k (a ∷ actions) m = search (rules, fold_among held h p (k + 1) actions)

-- want of memory is that of an action
abbrev IsWanting : ℕ → Result Machine RefusedAt → Type 0
IsWanting count (Ok next) = Unit {0}
IsWanting count (Err r) = r.refusal ≡ OutOfMemory → r.action < count

-- drawing it leaves refusals as they are
drawn_wanting : (p : Point) (count : ℕ) (result : Result Machine RefusedAt) → IsAmong 0 count result → IsWanting count (with_drawn p result)
drawn_wanting p count o among = grind (arith, common_steps)

-- want of memory in a transaction is that of one of its actions
transact_wanting : (held : List ℕ → Held) (h : Hindrance) (actions : List Action) (m : Machine) → IsWanting (length actions) (transact held h actions m)
unfolding transact
transact_wanting held h actions m = search (rules, cond_both, with_drawn, drawn_wanting, fold_among)

-- its number is told
numbers_one : (actions : List Action) (m : Machine) (number : Option ℕ) (result : Result Machine RefusedAt) → IsWanting (length actions) result
    → (after_transaction (number_in actions) result m).answer.reply ≡ Refused number OutOfMemory → (k : ℕ) × (number ≡ Some k) × (k < length actions)
numbers_one actions m number o wanting is = grind (arith, common_steps)

-- where memory is wanting for a transaction, one of its actions is named
pub wanting_numbers : (held : List ℕ → Held) (t : Trouble) (actions : List Action) (m : Machine) (number : Option ℕ)
    → (outcome held t (Monitor (Transaction actions)) m).answer.reply ≡ Refused number OutOfMemory → (k : ℕ) × (number ≡ Some k) × (k < length actions)
unfolding outcome command
wanting_numbers held t actions m number is = search (rules, numbers_one, transact_wanting)

-- ---- where the source breaks

-- whether the source is broken stays as it was, unless the action is refused
abbrev Keeps : Machine → Result Machine Refusal → Type 0
Keeps m (Ok next) = next.broken ≡ m.broken
Keeps m (Err refusal) = Unit {0}

-- a result, unless there is a refusal before it
abbrev or_refused : Option Refusal → Result Machine Refusal → Result Machine Refusal
or_refused why result = elim why [ Some refusal ↦ Err refusal | None ↦ result ]

-- a refusal before a result leaves it so
keeps-or_refused : (m : Machine) (why : Option Refusal) (result : Result Machine Refusal) → Keeps m result → Keeps m (or_refused why result)
keeps-or_refused m o result keeps = grind (arith, common_steps)

-- so does the test of the node
keeps-on_drive : (node : List ℕ) (m : Machine) (result : Result Machine Refusal) → Keeps m result → Keeps m (on_drive node result)
keeps-on_drive node m result keeps = cond_both (is_drive node) result (Err (NodeUnknown node)) (Keeps m) (λ _. keeps) (λ _. tt)

-- so do a merge's sources
keeps-sources : (target : List ℕ) (p : Point) (sources : List SourceName) (m : Machine) → Keeps m (merge_sources target p sources m)
keeps-sources target p [] m = refl
keeps-sources target p (s ∷ sources) m = search (rules, keeps-sources target p sources)

-- so does every action
keeps-act : (held : List ℕ → Held) (unread : List ℕ → Bool) (p : Point) (a : Action) (m : Machine) → Keeps m (act held unread p a m)
unfolding act
keeps-act held unread p o m = grind (arith, common_steps, keeps-on_drive, keeps-or_refused, keeps-sources)

-- a list of actions leaves it so too
abbrev KeepsAll : Machine → Result Machine RefusedAt → Type 0
KeepsAll m (Ok next) = next.broken ≡ m.broken
KeepsAll m (Err refused) = Unit {0}

-- actions behind one that keeps it keep it
keeps-acted : (held : List ℕ → Held) (h : Hindrance) (p : Point) (k : ℕ) (actions : List Action) (m : Machine) (result : Result Machine Refusal)
    → ((next : Machine) → KeepsAll next (fold_actions held h p (k + 1) actions next)) → Keeps m result → KeepsAll m (acted held h p k actions result)
keeps-acted held h p k actions m o more same = grind (arith, common_steps)

-- so does a list of actions
keeps-fold : (held : List ℕ → Held) (h : Hindrance) (p : Point) (k : ℕ) (actions : List Action) (m : Machine) → KeepsAll m (fold_actions held h p k actions m)
keeps-fold held h p k [] m = refl
keeps-fold held h p k (a ∷ actions) m = grind (arith, common_steps, keeps-fold held h p (k + 1) actions, cond_both, acted, keeps-acted, keeps-act)

-- so does drawing a point
keeps-drawn : (p : Point) (m : Machine) (result : Result Machine RefusedAt) → KeepsAll m result → KeepsAll m (with_drawn p result)
keeps-drawn p m o keeps = grind (arith, common_steps)

-- so does a whole transaction
keeps-transact : (held : List ℕ → Held) (h : Hindrance) (actions : List Action) (m : Machine) → KeepsAll m (transact held h actions m)
unfolding transact
keeps-transact held h actions m = search (rules, cond_both, with_drawn, keeps-drawn, keeps-fold)

-- an outcome leaves it so too
abbrev IsKept : Machine → Outcome → Type 0
IsKept m o = o.machine.broken ≡ m.broken

-- a transaction keeps it, done or refused
kept-transaction : (number : ℕ → Option ℕ) (m : Machine) (result : Result Machine RefusedAt) → KeepsAll m result → IsKept m (after_transaction number result m)
kept-transaction number m o keeps = grind (arith, common_steps)

-- so does want of memory
kept-unless : (m : Machine) (memory : Option ℕ) (o : Outcome) → IsKept m o → IsKept m (unless_wanting memory o m)
kept-unless m x o keeps = grind (arith, common_steps)

-- so does a cancelling, found or not
kept-cancelled : (id : List ℕ) (m : Machine) (found : Option Job) → IsKept m (cancelled_by id m found)
unfolding leave
kept-cancelled id m o = grind (arith, common_steps)

-- the same of the command
kept-cancel : (id : List ℕ) (m : Machine) → IsKept m (after_cancel id m)
unfolding after_cancel
kept-cancel id m = kept-cancelled id m (job_of id (runners m))

-- so does every command
kept-command : (held : List ℕ → Held) (h : Hindrance) (c : Command) (m : Machine) → IsKept m (command held h c m)
unfolding command
kept-command held h o m = grind (arith, common_steps, kept-transaction, keeps-transact, kept-unless, kept-cancel)

-- a job that tried to copy leaves it too
kept-try : (rest : List Job) (j : Job) (stop : Option JobFault) (m : Machine) → IsKept m (after_try rest (record { job = j; stop = stop }) m)
unfolding leave
kept-try rest j o m = grind (arith, common_steps)

-- so does a job that completes
kept-seal : (j : Job) (m : Machine) → IsKept m (after_seal j m)
unfolding leave
kept-seal j m = refl

-- so does serving a job
kept-served : (j : Job) (rest : List Job) (m : Machine) (fails next : Option ℕ) → IsKept m (served_by j rest m fails next)
kept-served j rest m fails None =
    cond_both (is_some fails) (after_try rest (record { job = j; stop = Some Failed }) m) (after_seal j m) (IsKept m) (λ _. kept-try rest j (Some Failed) m) (λ _. kept-seal j m)
kept-served j rest m fails (Some n) = search (rules, kept-try)

-- so does a tick on these jobs
kept-tick_of : (t : Trouble) (jobs : List Job) (m : Machine) → IsKept m (tick_of t jobs m)
kept-tick_of t [] m = refl
kept-tick_of t (j ∷ rest) m = kept-served j rest m (t.failing j.id) (next_unit j)

-- so does a tick of the machine
kept-tick : (t : Trouble) (m : Machine) → IsKept m (tick t m)
unfolding tick
kept-tick t m = kept-tick_of t m.jobs m

-- so does what a request does before the source breaks
kept-writing : (t : Trouble) (e : Extent) (bytes : List ℕ) (reply : Reply) (m : Machine) → IsKept m (after_writing t e bytes reply m)
unfolding after_copying after_marking leave
kept-writing t e bytes reply m = refl

-- where all leave, none stay
none_stay : (jobs : List Job) → filter (λ (j : Job). false) jobs ≡ []
none_stay [] = refl
none_stay (j ∷ jobs) = none_stay jobs

-- an option isn't both None and Some
both_answers : (n : ℕ) (o : Option ℕ) → o ≡ None → o ≡ Some n → ⊥
both_answers n o none some = cc

-- a source that breaks after a fault of a request has no jobs and views left
break_by : (r : Request) (m : Machine) (n : ℕ) (b : Bool) (o : Outcome) → o.answer.reply ≡ Fault Io → IsKept m o → m.broken ≡ None → (or_break b o).machine.broken ≡ Some n
    → AnswersIo (Guest r) (or_break b o)
unfolding after_break leave
break_by r m n false o io kept whole broke = absurd (both_answers n o.machine.broken (kept ∙ whole) broke)
break_by r m n true o io kept whole broke = record { request = r; event_is = refl; reply_is = io; no_jobs = none_stay o.machine.jobs; no_views = none_stay o.machine.views }

-- it breaks only by a fate that is answered with EIO
break_by_fate : (f : Fate) (t : Trouble) (r : Request) (m : Machine) (n : ℕ) → m.broken ≡ None → (or_break (breaks_by f t r.work) (by_fate f t r m)).machine.broken ≡ Some n
    → AnswersIo (Guest r) (or_break (breaks_by f t r.work) (by_fate f t r m))
break_by_fate (Denied errno) t r m n whole broke = absurd (both_answers n m.broken whole broke)
break_by_fate Lost t r m n whole broke = break_by r m n (breaks_by Lost t r.work) (answered (Fault Io) m) refl refl whole broke
break_by_fate Carried t r m n whole broke =
    let wrote : Outcome = after_writing t (range_of r) (bytes_of r r.work) Done m in
    let kept : IsKept m (by_fate Carried t r m) =
    cond_both (is_write r.work) wrote (answered (granted r r.work m) m) (IsKept m) (λ _. kept-writing t (range_of r) (bytes_of r r.work) Done m) (λ _. refl) in
    absurd (both_answers n (by_fate Carried t r m).machine.broken (kept ∙ whole) broke)
break_by_fate (CarriedInPart bytes) t r m n whole broke = search (rules, break_by, kept-writing)

-- so it is for a request
break_by_guest : (t : Trouble) (r : Request) (m : Machine) (n : ℕ) → m.broken ≡ None → (guest t r m).machine.broken ≡ Some n → AnswersIo (Guest r) (guest t r m)
unfolding guest
break_by_guest t r m n whole broke = break_by_fate (fate t r m) t r m n whole broke

-- where the source breaks, it does so in a request, which is answered with EIO
pub break_answers : (held : List ℕ → Held) (t : Trouble) (event : Event) (m : Machine) (n : ℕ) → m.broken ≡ None → (outcome held t event m).machine.broken ≡ Some n
    → AnswersIo event (outcome held t event m)
unfolding outcome
break_answers held t o m n whole broke = grind (arith, common_steps, break_by_guest, both_answers, kept-command, kept-tick)
