-- How lines are written, and which lines a record of a run has.
use Prim.Native.String.{String}
use Rattle.std.specs.Prelude.{◌≡◌, ℕ, List, [], ◌∷◌, codes, true, false}
use Rattle.core_events.specs.Events.{Request}
use Rattle.core_events.specs.declared.events.Work.{Work}
use Rattle.core_events.specs.declared.events.Work.TheVariants.{Read, Write, Zero, Flush, Status}
use Rattle.core_events.specs.declared.events.Way.TheVariants as way
use Rattle.script_model.specs.Lines.{Line, asked, drive}
use Rattle.script_model.specs.Lines as script
use Rattle.script_model.specs.Texts.{script_text}
use Rattle.script_model.specs.Recording.{lines_of_request}
use Rattle.machine_rows.specs.Play.{write, read, view, zero, flush, status, qmp}
use Rattle.machine_rows.specs.Writing.{zero_stored}

pub record LinesHaveOneSpelling : Type 0 where
  pub short_run : script_text (write 4095 (170 ∷ 187 ∷ []) ∷ read 4094 4 ∷ script.Quit ∷ []) ≡ codes "write 4095 aabb\nread 4094 4\nquit\n"
  pub each_kind : script_text (zero 0 4097 ∷ zero_stored 0 1 ∷ flush ∷ script.Tick ∷ view (codes "v0") 4095 2
      ∷ status drive (codes "base:allocation") 0 16384 ∷ qmp (codes "{\"execute\":\"quit\"}") ∷ script.Nothing ∷ script.Stop ∷ [])
      ≡ codes "zero 0 4097\nzero 0 1 nohole\nflush\ntick\nview v0 4095 2\nstatus drive0 base:allocation 0 16384\nqmp {\"execute\":\"quit\"}\n\nstop\n"
  -- a view of the drive's name is a read of the drive
  pub view_of_the_drive : script_text (view drive 0 1 ∷ []) ≡ codes "read 0 1\n"
  -- of two carriage returns at a line's end one is dropped
  pub carriage_return : script_text (qmp (codes "{}\r") ∷ []) ≡ codes "qmp {}\r\r\n"

abbrev pub exported : Work → List ℕ → Request
exported work bytes = record { way = way.Export (codes "v"); work = work; offset = 4096; length = 1; bytes = bytes }

-- what is recorded of a request on the node of this name
abbrev pub recorded : String → Work → List ℕ → List ℕ
recorded node work bytes = script_text (lines_of_request (codes node) (exported work bytes))

pub record RequestsAreRecordedOnTheirNodes : Type 0 where
  pub read_of_the_drive : recorded "drive0" Read [] ≡ codes "read 4096 1\n"
  pub read_of_a_view : recorded "v0" Read [] ≡ codes "view v0 4096 1\n"
  pub write : recorded "drive0" (Write false) (10 ∷ []) ≡ codes "write 4096 0a\n"
  -- what has to last is followed by a flush
  pub synced_write : recorded "drive0" (Write true) (255 ∷ []) ≡ codes "write 4096 ff\nflush\n"
  pub synced_zero : recorded "drive0" (Zero true true) [] ≡ codes "zero 4096 1 nohole\nflush\n"
  pub hole : recorded "drive0" (Zero false false) [] ≡ codes "zero 4096 1\n"
  pub flush : recorded "drive0" Flush [] ≡ codes "flush\n"
  pub status : recorded "v0" (Status (codes "base:allocation") false) [] ≡ codes "status v0 base:allocation 4096 1\n"
  -- no line says these
  pub one_run : recorded "drive0" (Status (codes "base:allocation") true) [] ≡ []
  pub no_bytes : recorded "drive0" (Write false) [] ≡ []
  pub flush_of_a_view : recorded "v0" Flush [] ≡ []
  pub write_of_a_view : recorded "v0" (Write false) (1 ∷ []) ≡ []
  pub blank_in_a_name : recorded "v 0" Read [] ≡ []
  pub blank_in_a_context : recorded "drive0" (Status (codes "qemu:dirty-bitmap:a b") false) [] ≡ []
