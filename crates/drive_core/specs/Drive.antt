-- A core that serves the guest's requests of the drive, over an image that stores no bitmaps: what it shows, and what it knows of its file.
use Rattle.std.specs.Prelude.{◌≡◌, ℕ, ◌+◌, ◌<◌, List, [], Bool, true, false, not, ◌||◌, ◌==◌, nat_lt, bytes_eq, if◌then◌else◌, is_some, Option, Some, None, All, IsTrue}
use Rattle.disk_model.specs.World.{World, Runs}
use Rattle.core_events.specs.Answers.{Reply}
use Rattle.core_events.specs.Events.{Request, Event}
use Rattle.core_events.specs.declared.commands.Command.{Command}
use Rattle.core_events.specs.declared.commands.Command.TheVariants.{Act, Transaction, JobCancel, QueryJobs, QueryNodes, ExportAdd, Quit}
use Rattle.core_events.specs.declared.events.Way.{Way}
use Rattle.core_events.specs.declared.events.Way.TheVariants.{Node, Export}
use Rattle.core_events.specs.declared.events.Work.{Work}
use Rattle.core_events.specs.declared.events.Work.TheVariants.{Read, Write, Zero, Flush, Status}
use Rattle.core_events.specs.declared.answers.Errno.{Errno}
use Rattle.core_events.specs.declared.answers.Errno.TheVariants.{Io, Invalid}
use Rattle.script_model.specs.Recording.{is_drive}
use Rattle.qc_layout.specs.Directory.{directory_in}
use Rattle.image_model.specs.Space.{Store}
use Rattle.plain_model.specs.History.{History, now, timeline_of}
use Rattle.plain_model.specs.Machine.{Machine, next_number}
use Rattle.plain_model.specs.Lawful.{IsOfEpoch}
use Rattle.plain_model.specs.Requests.{longest, allocation_name}
use Rattle.plain_model.specs.Actions.{Held}
use Rattle.plain_model.specs.Sound.{IsSound}
use Rattle.core_node.specs.Standing.{Shown}
use Rattle.core_node.specs.Rest.{State, Mixes}
use Rattle.core_node.specs.Step.{NodeSteps}
use Rattle.core_node.specs.Causes.{Causes}
use Rattle.core_node.specs.Touches.{SameSource, works_on}
use Rattle.core_layers.specs.Layers.{Facts}

-- ---- what it takes

-- an image that stores no bitmaps
abbrev pub Opens : List ℕ → Type 0
Opens file = directory_in file ≡ None

-- all events: a command but `quit` finds no memory
abbrev pub Takes : Event → Type 0
Takes event = Unit {0}

-- a request's way leads to the drive; there are no exports and no views
abbrev pub on_drive : Way → Bool
on_drive (Node name) = is_drive name
on_drive (Export name) = false

abbrev pub leaves_disk : Shown → Request → Bool
leaves_disk d r = nat_lt d.size (r.offset + r.length)

-- the range leaves the disk or is too long, or a status asks nothing, or about what isn't there
abbrev pub is_bad : Shown → Request → Work → Bool
is_bad d r Read = leaves_disk d r || nat_lt longest r.length
is_bad d r (Write fua) = leaves_disk d r || nat_lt longest r.length
is_bad d r (Zero fua no_hole) = leaves_disk d r
is_bad d r Flush = false
is_bad d r (Status context one) = leaves_disk d r || ((r.length == 0) || not (bytes_eq context allocation_name))

-- why it denies a request
abbrev pub denies : Shown → Request → Option Errno
denies d r = if not (on_drive r.way) || is_bad d r r.work then Some Invalid else if is_some d.broken then Some Io else None

-- no file is read as a target
abbrev pub no_targets : List ℕ → Held → Type 0
no_targets file held = ⊥

-- ---- what it shows

-- what its image shows, the event that was carried out last, and whether `quit` was commanded
pub record Drive : Type 0 where
  pub facts : Facts
  pub room : ℕ
  pub broken : Option ℕ
  pub event : ℕ
  pub ended : Bool

abbrev pub shown_of : Drive → Shown
shown_of d = record {
  file = d.facts.file;
  id = d.facts.id;
  size = d.facts.size;
  epoch = d.facts.directory.epoch;
  serial = 0;
  event = d.event;
  broken = d.broken;
  ended = d.ended;
  bitmaps = [];
  exports = [];
  jobs = [];
  views = [];
  targets = [];
  gone = [];
  created = [];
  room = d.room;
  directory = [];
}

-- the machine of a history, where the image has these clusters and so many came free
abbrev pub machine_of : Drive → Store → ℕ → History → Machine
machine_of d store freed h = record {
  history = h;
  epoch = d.facts.directory.epoch;
  serial = 0;
  event = d.event;
  bitmaps = [];
  jobs = [];
  views = [];
  gone = [];
  created = [];
  exports = [];
  broken = d.broken;
  store = store;
  freed = freed;
  ended = d.ended;
}

abbrev pub state_of : Drive → Store → ℕ → History → List (List ℕ) → State
state_of d store freed h disks = record { machine = machine_of d store freed h; disks = disks; entries = [] }

-- when the next event is carried out
abbrev pub next : Drive → Drive
next d = record d { event = next_number d.event }

-- ---- what it knows

-- the number is that of its name
pub record IsNamed (f : ℕ) (w : World) : Type 0 where
  pub below : f < w.given
  pub found : w.found (w.named f) ≡ Some f

-- of a history and the disks that a crash may mix; `holds` is what the image knows
pub record IsHeld (d : Drive) (holds : List ℕ → List (List ℕ) → Type 0) (store : Store) (w : World) (freed : ℕ) (h : History) (disks : List (List ℕ)) : Type 0 where
  pub told : IsTrue w.tells
  pub named : IsNamed d.facts.file w
  pub holds_it : holds (now h) disks
  pub sound : IsSound (machine_of d store freed h)
  pub mixes : Mixes h disks
  pub epochs : All (IsOfEpoch d.facts.directory.epoch) (timeline_of h).entries

-- the state is that of a history, and the image stands for its disk
pub record Keeps (d : Drive) (holds : World → List ℕ → List (List ℕ) → Type 0) (space : World → Store) (w : World) (s : State) : Type 0 where
  pub history : History
  pub disks : List (List ℕ)
  pub freed : ℕ
  pub is : s ≡ state_of d (space w) freed history disks
  pub held : IsHeld d (holds w) (space w) w freed history disks

-- ---- an event

-- What one event does and answers: what the plain machine does, whatever that is over; why it met a fault; and which files it touched.
pub record Answers (before after : Shown) (keeps keeping : State → Type 0) (old new : World) (event : Event) (reply : Reply) : Type 0 where
  pub steps : IsTrue old.tells → NodeSteps no_targets before keeps keeping old new event (record { reply = reply; notices = [] })
  pub causes : Causes before after old new event (record { reply = reply; notices = [] })
  pub source : SameSource before after
  pub run : Runs (works_on before after new event (record { reply = reply; notices = [] })) old new

-- it is the command that ends the session
abbrev pub is_quit : Command → Bool
is_quit (Act action) = false
is_quit (Transaction actions) = false
is_quit (JobCancel job) = false
is_quit QueryJobs = false
is_quit QueryNodes = false
is_quit (ExportAdd args) = false
is_quit Quit = true
