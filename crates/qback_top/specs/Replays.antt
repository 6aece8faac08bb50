-- `replay FILE SCRIPT`: which end is due, and what is left.
use Rattle.std.specs.Prelude.{◌≡◌, ◌⊎◌, ℕ, ◌^◌, ◌<◌, ◌≤◌, List, ◌++◌, length, map, IsTrue, IsSome, Some, None, codes}
use Rattle.disk_model.specs.World.{World, Runs}
use Rattle.qc_layout.specs.FirstForm.{IsTaken, StandsInFirstForm}
use Rattle.plain_model.specs.History.{History, now}
use Rattle.script_model.specs.Lines.{Line, IsScript, FirstBad}
use Rattle.qback_top.specs.Orders.{Order, order_of, printed_from, extended}
use Rattle.qback_top.specs.Words.{IsReplay}
use Rattle.qback_top.specs.Endings.{Ending, Missing, Refused, BadLine, Ran, works_on}
use Rattle.qback_top.specs.Open.{Spares, KeepsRest}
use Rattle.qback_top.specs.Lines.{PrintsUntilClosed, Reached, IsClosed}

-- the words have a form, and both files are there
pub record AreThere (words : List (List ℕ)) (w : World) (file script : List ℕ) (image text : ℕ) : Type 0 where
  pub form : IsReplay words file script
  pub is_image : w.found file ≡ Some image
  pub is_text : w.found script ≡ Some text

-- the script has more than 2^28 bytes
abbrev pub IsTooLong : List (List ℕ) → World → List ℕ → Type 0
IsTooLong words w name = (file : List ℕ) × (image text : ℕ) × AreThere words w file name image text × (2 ^ 28 < length (w.seen text))

-- the script is in order, and the image isn't of the form that is taken
abbrev pub IsUnbuilt : List (List ℕ) → World → List ℕ → Type 0
IsUnbuilt words w name = (script : List ℕ) × (image text : ℕ) × AreThere words w name script image text
    × (length (w.seen text) ≤ 2 ^ 28) × ((lines : List Line) × IsScript (w.seen text) lines) × (IsTaken (w.seen image) → ⊥)

-- in the order in which it is tested: FILE, SCRIPT, the script's length, its lines, the image
abbrev pub ReplayDue : List (List ℕ) → World → Ending → Type 0
ReplayDue words w (Missing name) = (file script : List ℕ) × IsReplay words file script
    × (((name ≡ file) × (w.found file ≡ None)) ⊎ ((name ≡ script) × IsSome (w.found file) × (w.found script ≡ None)))
ReplayDue words w (Refused name reason) = (IsTooLong words w name × (reason ≡ codes "ScriptTooLong")) ⊎ (IsUnbuilt words w name × (reason ≡ codes "Unbuilt"))
ReplayDue words w (BadLine n) = (file script : List ℕ) × (image text : ℕ) × AreThere words w file script image text
    × (length (w.seen text) ≤ 2 ^ 28) × FirstBad (w.seen text) n
ReplayDue words w (Ran number lines) = (file script : List ℕ) × (text : ℕ) × AreThere words w file script number text
    × (length (w.seen text) ≤ 2 ^ 28) × IsScript (w.seen text) lines × IsTaken (w.seen number)
ReplayDue words w ending = ⊥

-- These orders were carried out: for every history whose disk the image stood for, their answers on that disk were printed, and
-- the image stands for the history that they extend. A closing has synced it: a crash at this point leaves what reads give.
pub record Replayed (number : ℕ) (orders : List Order) (old new : World) : Type 0 where
  pub run : Runs (works_on number) old new
  pub answers : IsTrue old.prints → (h : History) → StandsInFirstForm (old.seen number) (now h) → new.printed ≡ old.printed ++ printed_from (now h) orders
  pub stands : (h : History) → StandsInFirstForm (old.seen number) (now h) → StandsInFirstForm (new.seen number) (now (extended h orders))
  pub keeps : KeepsRest (old.seen number) (new.seen number)
  pub closed : IsClosed orders number new

-- Some of these orders were carried out, and perhaps one more was begun: each byte of the disk is as those or as that leaves it,
-- a part of the answers was printed, and no byte of the image changed but of its tables and stored clusters.
pub record ReplayedInPart (number : ℕ) (orders : List Order) (old new : World) : Type 0 where
  pub run : Runs (works_on number) old new
  pub answers : (h : History) → StandsInFirstForm (old.seen number) (now h) → PrintsUntilClosed orders (printed_from (now h) orders) number old new
  pub reached : (h : History) → StandsInFirstForm (old.seen number) (now h) → (k : ℕ) × Reached (now h) orders k number old new
  pub spares : Spares (old.seen number) (new.seen number)

-- while what the lines say was carried out
abbrev pub StopsReplaying : List (List ℕ) → World → World → Type 0
StopsReplaying words old new = (number : ℕ) × (lines : List Line) × ReplayDue words old (Ran number lines) × ReplayedInPart number (map order_of lines) old new
