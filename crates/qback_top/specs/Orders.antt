-- What `replay` does with the lines of a script, and what it prints.
use Rattle.std.specs.Prelude.{ℕ, ◌+◌, ◌^◌, List, [], ◌∷◌, ◌++◌, length, replicate, Bool, true, false, ◌&&◌, nat_le, if◌then◌else◌, codes, bytes_eq}
use Rattle.disk_model.specs.Files.{overlay, reading}
use Rattle.core_events.specs.declared.events.Way.{Way}
use Rattle.core_events.specs.declared.events.Way.TheVariants.{Node, Export}
use Rattle.core_events.specs.declared.events.Work.{Work}
use Rattle.core_events.specs.declared.events.Work.TheVariants as work
use Rattle.script_model.specs.Lines.{Line, drive}
use Rattle.script_model.specs.Lines as script
use Rattle.plain_model.specs.History.{Entry, Wrote, History, now}
use Rattle.plain_model.specs.Console.{ok_line, stopped_line, data_line}

pub data Order : Type 0 where
  Write : (at : ℕ) (bytes : List ℕ) → Order
  Read : (at n : ℕ) → Order
  -- what was written is made to last
  Sync : Order
  -- this text is printed, and nothing else is done
  Say : (text : List ℕ) → Order
  -- the run ends, and the image is left as it is
  Stop : Order
  -- the image is closed, and the run ends
  Quit : Order

abbrev pub invalid_line : List ℕ
invalid_line = codes "error EINVAL\n"

-- the answer to a command: there is no monitor yet
abbrev pub unbuilt_line : List ℕ
unbuilt_line = codes "{\"error\":{\"class\":\"CommandNotFound\",\"desc\":\"Unbuilt\"}}\n"

-- what is done with a request of the drive. A zero writes zeros; how the drive is stored isn't told yet.
abbrev pub drive_order : Work → ℕ → ℕ → List ℕ → Order
drive_order work.Read at n bytes = Read at n
drive_order (work.Write fua) at n bytes = Write at bytes
drive_order (work.Zero fua no_hole) at n bytes = Write at (replicate n 0)
drive_order work.Flush at n bytes = Sync
drive_order (work.Status context one) at n bytes = Say invalid_line

-- there is no node but the drive
abbrev pub request_order : Way → Work → ℕ → ℕ → List ℕ → Order
request_order (Node name) work at n bytes = if bytes_eq name drive then drive_order work at n bytes else Say invalid_line
request_order (Export name) work at n bytes = Say invalid_line

-- what is done with a line; a tick has no job to serve
abbrev pub order_of : Line → Order
order_of (script.Ask r) = request_order r.way r.work r.offset r.length r.bytes
order_of (script.Qmp json) = Say unbuilt_line
order_of script.Tick = Say ok_line
order_of script.Stop = Stop
order_of script.Quit = Quit
order_of script.Nothing = Say []

-- the range lies in a disk of this size, and isn't too long for one request
abbrev pub fits : ℕ → ℕ → ℕ → Bool
fits size at n = nat_le (at + n) size && nat_le n (2 ^ 25)

-- the answer to one order on this disk; the end of a run is answered apart
abbrev pub printed_by : List ℕ → Order → List ℕ
printed_by disk (Write at bytes) = if fits (length disk) at (length bytes) then ok_line else invalid_line
printed_by disk (Read at n) = if fits (length disk) at n then data_line (reading disk at n) else invalid_line
printed_by disk Sync = ok_line
printed_by disk (Say text) = text
printed_by disk Stop = []
printed_by disk Quit = []

-- the disk after one order
abbrev pub disk_by : List ℕ → Order → List ℕ
disk_by disk (Write at bytes) = if fits (length disk) at (length bytes) then overlay disk at bytes else disk
disk_by disk (Read at n) = disk
disk_by disk Sync = disk
disk_by disk (Say text) = disk
disk_by disk Stop = disk
disk_by disk Quit = disk

-- ---- a run

-- the orders before the first that ends the run
abbrev pub until_end : List Order → List Order
until_end [] = []
until_end (Write at bytes ∷ orders) = Write at bytes ∷ until_end orders
until_end (Read at n ∷ orders) = Read at n ∷ until_end orders
until_end (Sync ∷ orders) = Sync ∷ until_end orders
until_end (Say text ∷ orders) = Say text ∷ until_end orders
until_end (Stop ∷ orders) = []
until_end (Quit ∷ orders) = []

-- the run ends by a closing: it does unless it is stopped first
abbrev pub closes : List Order → Bool
closes [] = true
closes (Write at bytes ∷ orders) = closes orders
closes (Read at n ∷ orders) = closes orders
closes (Sync ∷ orders) = closes orders
closes (Say text ∷ orders) = closes orders
closes (Stop ∷ orders) = false
closes (Quit ∷ orders) = true

-- the answer to the end of the run
abbrev pub end_line : List Order → List ℕ
end_line orders = if closes orders then ok_line else stopped_line

-- the answers to orders that are carried out one after another, from this disk on
unfoldable pub answers_from : List ℕ → List Order → List ℕ
answers_from disk [] = []
answers_from disk (o ∷ orders) = printed_by disk o ++ answers_from (disk_by disk o) orders

-- the disk after them
unfoldable pub carried_from : List ℕ → List Order → List ℕ
carried_from disk [] = disk
carried_from disk (o ∷ orders) = carried_from (disk_by disk o) orders

-- what a run prints, from this disk on: an answer for each order up to the end, and that of the end
unfoldable pub printed_from : List ℕ → List Order → List ℕ
printed_from disk orders = answers_from disk (until_end orders) ++ end_line orders

-- the disk that a run leaves
unfoldable pub disk_from : List ℕ → List Order → List ℕ
disk_from disk orders = carried_from disk (until_end orders)

-- what one order adds to the history of a disk of this size
abbrev pub entries_by : ℕ → Order → List Entry
entries_by size (Write at bytes) = if fits size at (length bytes) then Wrote at bytes ∷ [] else []
entries_by size (Read at n) = []
entries_by size Sync = []
entries_by size (Say text) = []
entries_by size Stop = []
entries_by size Quit = []

unfoldable pub entries_of : ℕ → List Order → List Entry
entries_of size [] = []
entries_of size (o ∷ orders) = entries_by size o ++ entries_of size orders

-- the history that a run extends
abbrev pub extended : History → List Order → History
extended h orders = record { start = h.start; entries = h.entries ++ entries_of (length (now h)) (until_end orders) }
