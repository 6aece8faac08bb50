-- The laws, as statements.
use Rattle.std.specs.Prelude.{◌≡◌, ◌⊎◌, ◌++◌, ℕ, List, IsTrue}
use Rattle.disk_model.specs.World.{World}
use Rattle.qc_layout.specs.declared.header.Part.{Part}
use Rattle.qc_layout.specs.Disks.{Stands}
use Rattle.qc_layout.specs.FirstForm.{IsTaken}
use Rattle.plain_model.specs.History.{History, now, StaysInside}
use Rattle.script_model.specs.Lines.{Line}
use Rattle.qback_top.specs.Orders.{Order, printed_from, disk_from, extended}
use Rattle.qback_top.specs.declared.words.Task.{Task}
use Rattle.qback_top.specs.Words.{IsTask}
use Rattle.qback_top.specs.Endings.{Ending, NoForm, Exists, BadLine, Made, Told, Ran, status_of}
use Rattle.qback_top.specs.Replays.{Replayed}
use Rattle.qback_top.specs.Ends.{IsDue}

-- words say at most one task
abbrev pub OneTask : Type 0
OneTask = (words : List (List ℕ)) (a b : Task) → IsTask words a → IsTask words b → a ≡ b

-- at most one end is due for the same words and files
abbrev pub OneEnding : Type 0
OneEnding = (words : List (List ℕ)) (w : World) (a b : Ending) → IsDue words w a → IsDue words w b → a ≡ b

-- something was done
abbrev pub IsDone : Ending → Type 0
IsDone ending = ((number : ℕ) × (lines : List Line) × (ending ≡ Ran number lines)) ⊎ ((task : Task) × (ending ≡ Made task)) ⊎ ((text : List ℕ) × (ending ≡ Told text))

-- each of the statuses 1, 5 and 8 belongs to one kind of end, and 0 to what was done
abbrev pub StatusTellsEnding : Type 0
StatusTellsEnding = (ending : Ending) →
    (status_of ending ≡ 0 → IsDone ending)
    × (status_of ending ≡ 1 → ending ≡ NoForm)
    × (status_of ending ≡ 5 → (n : ℕ) × (ending ≡ BadLine n))
    × (status_of ending ≡ 8 → (name : List ℕ) × (ending ≡ Exists name))

-- What `replay` promises of the form of image that it takes it promises of each such image that passes the rules of a header: the
-- answers are those of the disk that the image stands for, and after it the image stands for the history that the orders extend.
abbrev pub ReplayKeepsStanding : Type 0
ReplayKeepsStanding = (part : Part) (number : ℕ) (orders : List Order) (old new : World) (h : History)
    → IsTaken (old.seen number) → Replayed number orders old new → Stands part (old.seen number) (now h)
    → (IsTrue old.prints → new.printed ≡ old.printed ++ printed_from (now h) orders) × Stands part (new.seen number) (now (extended h orders))

-- the disk that a run leaves is that of the history that it extends
abbrev pub DiskFollowsHistory : Type 0
DiskFollowsHistory = (h : History) (orders : List Order) → now (extended h orders) ≡ disk_from (now h) orders

-- writes that lie in the disk go on by writes that lie in it
abbrev pub HistoryStaysInside : Type 0
HistoryStaysInside = (h : History) (orders : List Order) → StaysInside h → StaysInside (extended h orders)
