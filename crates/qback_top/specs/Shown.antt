-- What the end of a run says of it.
use Rattle.std.specs.Prelude.{◌≡◌, ◌⊎◌, ℕ, List, map, codes}
use Rattle.disk_model.specs.World.{World, Runs, Rose}
use Rattle.script_model.specs.Lines.{Line}
use Rattle.qback_top.specs.Orders.{order_of}
use Rattle.qback_top.specs.declared.end.End.{End}
use Rattle.qback_top.specs.declared.end.End.TheVariants as ends
use Rattle.qback_top.specs.declared.stop.Stop.TheVariants as stops
use Rattle.qback_top.specs.declared.words.Task.{Task}
use Rattle.qback_top.specs.declared.words.Task.TheVariants.{CreateSource, CreateTarget, Info, Replay}
use Rattle.qback_top.specs.Endings.{NoForm, Missing, Exists, Refused, BadLine, Made, Told, Ran, Says, looks, tells_of, works_on_names, MakesAlone, line_of, LooksAndTells}
use Rattle.qback_top.specs.Replays.{ReplayDue, Replayed, StopsReplaying}
use Rattle.qback_top.specs.Creations.{MakeDue, Created, StopsCreating}
use Rattle.qback_top.specs.Infos.{InfoDue, StopsTelling}

-- `replay` stopped before its first order, or while the orders that are due were carried out; the report is still to come
abbrev pub StopsInReplay : List (List ℕ) → World → World → Type 0
StopsInReplay words old new = Runs looks old new ⊎ StopsReplaying words old new

-- `replay` came to this end as was due
abbrev pub ShowsReplay : List (List ℕ) → World → World → End → Type 0
ShowsReplay words old new ends.Done = (number : ℕ) × (lines : List Line) × ReplayDue words old (Ran number lines) × Replayed number (map order_of lines) old new
ShowsReplay words old new (ends.Missing name) = ReplayDue words old (Missing name.now) × Runs looks old new
ShowsReplay words old new (ends.Refused name reason) = ReplayDue words old (Refused name.now reason.now) × Runs looks old new
ShowsReplay words old new (ends.BadLine n) = ReplayDue words old (BadLine n) × Runs looks old new
ShowsReplay words old new (ends.Stopped stop) = StopsInReplay words old new
ShowsReplay words old new end = ⊥

-- so did a creation
abbrev pub StopsInCreation : List (List ℕ) → World → World → Type 0
StopsInCreation words old new = Runs looks old new ⊎ StopsCreating words old new

abbrev pub ShowsCreation : List (List ℕ) → World → World → End → Type 0
ShowsCreation words old new ends.Done = (task : Task) × (name : List ℕ) × (f : ℕ) × MakeDue words old (Made task) × Created task name f old new
ShowsCreation words old new (ends.Exists name) = MakeDue words old (Exists name.now) × Runs looks old new
ShowsCreation words old new (ends.Stopped stop) = StopsInCreation words old new
ShowsCreation words old new end = ⊥

-- so did `info`
abbrev pub StopsInInfo : List (List ℕ) → World → World → Type 0
StopsInInfo words old new = Runs looks old new ⊎ StopsTelling words old new

abbrev pub ShowsInfo : List (List ℕ) → World → World → End → Type 0
ShowsInfo words old new ends.Done = (text : List ℕ) × InfoDue words old (Told text) × LooksAndTells text old new
ShowsInfo words old new (ends.Missing name) = InfoDue words old (Missing name.now) × Runs looks old new
ShowsInfo words old new (ends.Refused name reason) = InfoDue words old (Refused name.now reason.now) × Runs looks old new
ShowsInfo words old new (ends.Stopped stop) = StopsInInfo words old new
ShowsInfo words old new end = ⊥

abbrev pub Shows : List (List ℕ) → World → World → End → Type 0
Shows words old new end = ShowsReplay words old new end ⊎ ShowsCreation words old new end ⊎ ShowsInfo words old new end

-- what a task may touch, whatever a depot tells
abbrev pub TouchesBy : Task → World → World → Type 0
TouchesBy (CreateSource file size bits id) old new = MakesAlone file old new
TouchesBy (CreateTarget file size bits under) old new = MakesAlone file old new
TouchesBy (Info file) old new = Runs (tells_of file new) old new
TouchesBy (Replay file script) old new = Runs (works_on_names file script new) old new

-- a fault is told only where the shared count rose
abbrev pub NeedsRise : World → World → End → Type 0
NeedsRise old new (ends.Stopped stops.Fault) = Rose old.faults.shared new.faults.shared
NeedsRise old new end = Unit {0}

abbrev pub status_at : End → ℕ
status_at ends.Done = 0
status_at ends.NoForm = 1
status_at (ends.Missing name) = 2
status_at (ends.Exists name) = 8
status_at (ends.Refused name reason) = 2
status_at (ends.BadLine n) = 5
status_at (ends.Stopped stops.Fault) = 3
status_at (ends.Stopped stops.Memory) = 4

-- what is printed at the end
abbrev pub Reports : World → World → End → Type 0
Reports old new ends.Done = new ≡ old
Reports old new ends.NoForm = Says (line_of NoForm) old new
Reports old new (ends.Missing name) = Says (line_of (Missing name.now)) old new
Reports old new (ends.Exists name) = Says (line_of (Exists name.now)) old new
Reports old new (ends.Refused name reason) = Says (line_of (Refused name.now reason.now)) old new
Reports old new (ends.BadLine n) = Says (line_of (BadLine n)) old new
Reports old new (ends.Stopped stops.Fault) = Says (codes "device\n") old new
Reports old new (ends.Stopped stops.Memory) = Says (codes "memory\n") old new
