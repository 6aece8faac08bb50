-- Want of memory that no action meets has no effect: a command is answered as if memory sufficed, or refused for want of it.
use Rattle.std.proofs.Common.{arith}
use Rattle.std.proofs.lemmas.Grind.{common_steps}
use Rattle.std.proofs.Common.{rules}
use Rattle.std.proofs.Common.{◌≡◌, ℕ, ◌+◌, Bool, refl, List, [], ◌∷◌}
use Rattle.std.specs.Prelude.{Option, None, Result, Ok, Err, if◌then◌else◌}
use Rattle.span_algebra.specs.declared.points.Point.{Point}
use Rattle.core_events.specs.declared.commands.Action.{Action}
use Rattle.core_events.specs.declared.commands.Command.{Command}
use Rattle.core_events.specs.declared.commands.Command.TheVariants.{Act, Transaction, JobCancel, QueryJobs, QueryNodes, ExportAdd, Quit}
use Rattle.core_events.specs.declared.refusals.Refusal.{Refusal}
use Rattle.core_events.specs.declared.refusals.Refusal.TheVariants.{OutOfMemory}
use Rattle.plain_model.specs.Machine.{Machine}
use Rattle.plain_model.specs.Actions.{Held, Hindrance, RefusedAt, fold_actions, with_point, transact}
use Rattle.plain_model.specs.Outcome.{Outcome, number_in, after_transaction, command}
use Rattle.plain_model.specs.Laws.{IsForMemory}

-- the actions behind one that was tried
abbrev pub acted : (List ℕ → Held) → Hindrance → Point → ℕ → List Action → Result Machine Refusal → Result Machine RefusedAt
acted held h p k actions result = elim result [
  | Ok next ↦ fold_actions held h p (k + 1) actions next
  | Err refusal ↦ Err (record { action = k; refusal = refusal })
]

-- the point is drawn at the end, if nothing was refused
abbrev pub with_drawn : Point → Result Machine RefusedAt → Result Machine RefusedAt
with_drawn p result = elim result [ Ok next ↦ Ok (with_point p next) | Err refused ↦ Err refused ]

-- the same but for want of memory
abbrev pub with_memory : Hindrance → Hindrance
with_memory h = record { unread = h.unread; memory = None }

-- ---- of actions

-- memory was wanting for an action
abbrev IsForWant : Result Machine RefusedAt → Type 0
IsForWant (Ok next) = ⊥
IsForWant (Err r) = r.refusal ≡ OutOfMemory

-- a result is this one, unless memory was wanting
abbrev Sufficed : Result Machine RefusedAt → Result Machine RefusedAt → Type 0
Sufficed result free = (IsForWant result → ⊥) → result ≡ free

-- so it is for a list of actions
sufficed-fold : (held : List ℕ → Held) (h : Hindrance) (p : Point) (k : ℕ) (actions : List Action) (m : Machine)
    → Sufficed (fold_actions held h p k actions m) (fold_actions held (with_memory h) p k actions m)
sufficed-fold held h p k [] m = λ none. refl
sufficed-fold held h p k (a ∷ actions) m = search (rules, sufficed-fold held h p (k + 1) actions)

-- so it is where the point is drawn
sufficed-drawn : (p : Point) (result free : Result Machine RefusedAt) → Sufficed result free → Sufficed (with_drawn p result) (with_drawn p free)
sufficed-drawn p o free same = grind (arith, common_steps)

-- so it is behind a test
sufficed-unless : (b : Bool) (spent result free : Result Machine RefusedAt) → Sufficed result free → Sufficed (if b then spent else result) (if b then spent else free)
sufficed-unless o spent result free same = grind (arith, common_steps)

-- so it is for a whole transaction
sufficed-transact : (held : List ℕ → Held) (h : Hindrance) (actions : List Action) (m : Machine)
    → Sufficed (transact held h actions m) (transact held (with_memory h) actions m)
unfolding transact
sufficed-transact held h actions m = search (rules, sufficed-unless, sufficed-drawn, sufficed-fold)

-- ---- of commands

-- an outcome is this one, unless it is a refusal for want of memory
abbrev IsFreeOf : Outcome → Outcome → Type 0
IsFreeOf o free = (IsForMemory o.answer → ⊥) → o ≡ free

-- so is that of a transaction
free-transaction : (number : ℕ → Option ℕ) (m : Machine) (result free : Result Machine RefusedAt) → Sufficed result free
    → IsFreeOf (after_transaction number result m) (after_transaction number free m)
free-transaction number m o free same = grind (arith, common_steps)

-- a command is answered as if memory sufficed, unless it is refused for want of it
pub free-command : (held : List ℕ → Held) (h : Hindrance) (c : Command) (m : Machine) → (IsForMemory (command held h c m).answer → ⊥)
    → command held h c m ≡ command held (with_memory h) c m
unfolding command
free-command held h (Act action) m = free-transaction (λ k. None) m (transact held h (action ∷ []) m) _ (sufficed-transact held h (action ∷ []) m)
free-command held h (Transaction actions) m = free-transaction (number_in actions) m (transact held h actions m) _ (sufficed-transact held h actions m)
free-command held h (JobCancel id) m = search rules
free-command held h QueryJobs m = search rules
free-command held h QueryNodes m = search rules
free-command held h (ExportAdd args) m = search rules
free-command held h Quit m = search rules
