-- How a run of the program ends, and what it leaves.
use Rattle.std.specs.Prelude.{◌≡◌, ◌⊎◌, ℕ, List, map, codes}
use Rattle.disk_model.specs.World.{World, Runs, only_text, Rose}
use Rattle.qback_top.specs.declared.words.Task.{Task}
use Rattle.qback_top.specs.Words.{IsTask, HaveNoForm, IsReplay, IsInfo}
use Rattle.qback_top.specs.Endings.{Ending, NoForm, Made, Told, Ran, status_of, line_of, looks, tells_of, works_on_names, MakesAlone, Says, LooksAndSays, LooksAndTells}
use Rattle.qback_top.specs.Orders.{order_of}
use Rattle.qback_top.specs.Replays.{ReplayDue, Replayed, StopsReplaying}
use Rattle.qback_top.specs.Creations.{Makes, MakeDue, Created, StopsCreating}
use Rattle.qback_top.specs.Infos.{InfoDue, StopsTelling}

-- an end of a command is due, by its words and the files
abbrev pub CommandDue : List (List ℕ) → World → Ending → Type 0
CommandDue words w ending = ReplayDue words w ending ⊎ MakeDue words w ending ⊎ InfoDue words w ending

abbrev pub IsDue : List (List ℕ) → World → Ending → Type 0
IsDue words w NoForm = HaveNoForm words
IsDue words w ending = CommandDue words w ending

abbrev pub LeavesAsDue : Ending → World → World → Type 0
LeavesAsDue (Ran number lines) old new = Replayed number (map order_of lines) old new
LeavesAsDue (Made task) old new = (name : List ℕ) × (f : ℕ) × Created task name f old new
LeavesAsDue (Told text) old new = LooksAndTells text old new
LeavesAsDue ending old new = LooksAndSays (line_of ending) old new

-- The run stopped before it changed or printed anything, or while it did what is due.
abbrev pub Stopped : List (List ℕ) → World → World → Type 0
Stopped words old new = Runs looks old new ⊎ StopsReplaying words old new ⊎ StopsCreating words old new ⊎ StopsTelling words old new

-- It stopped early, by a fault of its own and not of its report if a fault is the reason; and then this line was printed.
pub record StopsAndSays (words : List (List ℕ)) (line : List ℕ) (reason : World → World → Type 0) (old new : World) : Type 0 where
  pub before : World
  pub stopped : Stopped words old before
  pub cause : reason old before
  pub said : Says line before new

abbrev pub FaultsRose : World → World → Type 0
FaultsRose old new = Rose old.faults.shared new.faults.shared

-- The run ends as is due, or is stopped early by a fault (3) or by want of memory (4).
abbrev pub EndsAsDue : List (List ℕ) → World → World → ℕ → Type 0
EndsAsDue words old new status =
    ((ending : Ending) × IsDue words old ending × (status ≡ status_of ending) × LeavesAsDue ending old new)
    ⊎ ((status ≡ 3) × StopsAndSays words (codes "device\n") FaultsRose old new)
    ⊎ ((status ≡ 4) × StopsAndSays words (codes "memory\n") (λ a b. Unit {0}) old new)

-- Whatever a depot tells: without a form nothing is touched but the text, `info` reads no file but those given for FILE, `replay` reads no file
-- but those given for FILE and for SCRIPT and touches only the former, and a creation reads none and touches none but one that it makes.
pub record Touches (words : List (List ℕ)) (old new : World) : Type 0 where
  pub text : HaveNoForm words → Runs only_text old new
  pub replays : (file script : List ℕ) → IsReplay words file script → Runs (works_on_names file script new) old new
  pub tells : (file : List ℕ) → IsInfo words file → Runs (tells_of file new) old new
  pub makes : (task : Task) (name : List ℕ) → IsTask words task → Makes task name → MakesAlone name old new
