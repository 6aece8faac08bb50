-- One event of the whole machine: where its outcome is sound, so is the machine after it.
use Rattle.std.proofs.Common.{arith}
use Rattle.std.proofs.lemmas.Grind.{common_steps}
use Rattle.std.proofs.Common.{rules}
use Rattle.std.proofs.Common.{◌≡◌, ℕ, List}
use Rattle.core_events.specs.Events.{Request, Event, Guest, Monitor, Tick}
use Rattle.core_events.specs.declared.commands.Command.{Command}
use Rattle.core_events.specs.Answers.{Answer}
use Rattle.plain_model.specs.Machine.{Machine, size_of}
use Rattle.plain_model.specs.Requests.{HasBytes}
use Rattle.plain_model.specs.Actions.{Held}
use Rattle.plain_model.specs.Outcome.{RequestEnd, Trouble, numbered, outcome}
use Rattle.plain_model.specs.Step.{Step, IsWhole, IsLeft, StepContents, StepSpace}
use Rattle.plain_model.specs.Faults.{Rise}
use Rattle.plain_model.specs.Laws.{IsFit}
use Rattle.plain_model.specs.Sound.{IsSound}
use Rattle.plain_model.proofs.Commands.{command_sound}
use Rattle.plain_model.proofs.Guest.{guest_is_sound}
use Rattle.plain_model.proofs.Served.{tick_is_sound}
use Rattle.plain_model.proofs.Sizes.{guest_size, tick_size}
use Rattle.plain_model.proofs.Spaces.{numbered_is_sound, with_space_is_sound, step_space_is_shaped}

-- the outcome is sound, and the disk as long as before
pub record IsSoundOutcome (held : List ℕ → Held) (t : Trouble) (event : Event) (old : Machine) : Type 0 where
  pub sound : IsSound (outcome held t event old).machine
  pub sized : size_of (outcome held t event old).machine ≡ size_of old

pub stepped_is_sound : (held : List ℕ → Held) (t : Trouble) (old : Machine) (event : Event) (answer : Answer) (new : Machine) → IsSoundOutcome held t event old
    → IsSound old → StepContents held t old event answer new → StepSpace t old event new → IsSound new
stepped_is_sound held t old event answer new o s contents space = search (rules, step_space_is_shaped, with_space_is_sound)

-- what a write left doesn't hang on the number of the event
left_numbered : (end : RequestEnd) (r : Request) (m : Machine) → IsLeft end r m → IsLeft end r (numbered m)
left_numbered o r m left = grind (arith, common_steps)

pub guest_outcome : (held : List ℕ → Held) (t : Trouble) (r : Request) (old : Machine) → HasBytes r r.work → IsLeft t.request r old → IsSound old
    → IsSoundOutcome held t (Guest r) old
unfolding outcome
guest_outcome held t r old has torn s = search (rules, guest_is_sound, left_numbered, numbered_is_sound, guest_size)

pub tick_outcome : (held : List ℕ → Held) (t : Trouble) (old : Machine) → IsSound old → IsSoundOutcome held t Tick old
unfolding outcome
tick_outcome held t old s = search (rules, tick_is_sound, numbered_is_sound, tick_size)

pub monitor_outcome : (held : List ℕ → Held) (t : Trouble) (c : Command) (old : Machine) → ((name : List ℕ) → IsFit (held name)) → IsSound old
    → IsSoundOutcome held t (Monitor c) old
unfolding outcome
monitor_outcome held t c old fit s = search (rules, command_sound, numbered_is_sound)

pub step_is_sound : (source : List ℕ) (held : List ℕ → Held) (rise : Rise) (old : Machine) (event : Event) (answer : Answer) (new : Machine) → IsSound old → IsWhole event
    → ((name : List ℕ) → IsFit (held name)) → Step source held rise old event answer new → IsSound new
step_is_sound source held rise old (Guest r) answer new s has fit step = search (rules, stepped_is_sound, guest_outcome)
step_is_sound source held rise old (Monitor c) answer new s has fit step = search (rules, stepped_is_sound, monitor_outcome)
step_is_sound source held rise old Tick answer new s has fit step = search (rules, stepped_is_sound, tick_outcome)
