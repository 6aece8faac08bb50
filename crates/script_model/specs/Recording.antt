-- The lines that say what a guest asked, for a record of a run.
use Rattle.std.specs.Prelude.{ℕ, ◌^◌, ◌<◌, List, [], ◌∷◌, length, Bool, true, false, not, ◌&&◌, ◌||◌, ◌==◌, nat_lt, if◌then◌else◌, bytes_eq, All}
use Rattle.std.specs.List.{list_all}
use Rattle.core_events.specs.Events.{Request}
use Rattle.core_events.specs.declared.events.Work.{Work}
use Rattle.core_events.specs.declared.events.Work.TheVariants.{Read, Write, Zero, Flush, Status}
use Rattle.core_events.specs.declared.events.Work.TheVariants as work
use Rattle.script_model.specs.Lines.{Line, Ask, asked, asked_to_write, drive}

-- a text that can be a word of a line: not empty, without a blank and without a line feed
abbrev pub is_word : List ℕ → Bool
is_word text = nat_lt 0 (length text) && list_all (λ b. not (b == 32 || b == 10)) text

abbrev pub is_drive : List ℕ → Bool
is_drive node = bytes_eq node drive

-- the flush that follows a write which has to last
abbrev pub flush_lines : Bool → List Line
flush_lines true = Ask (asked drive work.Flush 0 0) ∷ []
flush_lines false = []

-- The lines that say this work on the node of this name; none where no line says it. A write of no bytes has none, nor has a
-- status of which one run is asked, nor a write, a zero or a flush of another node than the drive.
abbrev pub lines_of_work : List ℕ → Work → ℕ → ℕ → List ℕ → List Line
lines_of_work node Read at n bytes = if is_word node then Ask (asked node work.Read at n) ∷ [] else []
lines_of_work node (Write fua) at n bytes =
    if is_drive node && nat_lt 0 (length bytes) then Ask (asked_to_write at bytes) ∷ flush_lines fua else []
lines_of_work node (Zero fua no_hole) at n bytes =
    if is_drive node then Ask (asked drive (work.Zero false no_hole) at n) ∷ flush_lines fua else []
lines_of_work node Flush at n bytes = if is_drive node then Ask (asked drive work.Flush 0 0) ∷ [] else []
lines_of_work node (Status context one) at n bytes =
    if not one && (is_word node && is_word context) then Ask (asked node (work.Status context false) at n) ∷ [] else []

-- the lines that say a request's work on the node of this name
abbrev pub lines_of_request : List ℕ → Request → List Line
lines_of_request node r = lines_of_work node r.work r.offset r.length r.bytes

-- the numbers of a request are below 2^64, and its bytes are bytes
pub record IsInRange (r : Request) : Type 0 where
  pub offset : r.offset < 2 ^ 64
  pub length : r.length < 2 ^ 64
  pub bytes : All (λ b. b < 256) r.bytes
