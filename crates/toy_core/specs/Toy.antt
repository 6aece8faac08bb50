-- A core for images without holes, bitmaps and jobs, whose guest bytes stand in one run of the file: what it shows, and what it knows of its file.
use Rattle.std.specs.Prelude.{◌≡◌, ℕ, ◌+◌, ◌<◌, List, [], Bool, true, false, not, ◌||◌, nat_lt, if◌then◌else◌, is_some, Option, Some, None, All, IsTrue}
use Rattle.disk_model.specs.Files.{EachVersion}
use Rattle.disk_model.specs.World.{World, versions}
use Rattle.core_events.specs.Events.{Request, Event, Guest, Monitor, Tick}
use Rattle.core_events.specs.declared.events.Way.{Way}
use Rattle.core_events.specs.declared.events.Way.TheVariants.{Node, Export}
use Rattle.core_events.specs.declared.answers.Errno.{Errno}
use Rattle.core_events.specs.declared.answers.Errno.TheVariants.{Io, Invalid}
use Rattle.script_model.specs.Recording.{is_drive}
use Rattle.plain_model.specs.Requests.{longest}
use Rattle.plain_model.specs.Actions.{Held}
use Rattle.core_events.specs.declared.events.Work.{Work}
use Rattle.core_events.specs.declared.events.Work.TheVariants.{Read, Write, Zero, Flush, Status}
use Rattle.plain_model.specs.History.{History, now, timeline_of}
use Rattle.plain_model.specs.Machine.{Machine, next_number}
use Rattle.plain_model.specs.Lawful.{IsOfEpoch}
use Rattle.plain_model.specs.Sound.{IsSound}
use Rattle.core_node.specs.Standing.{Shown}
use Rattle.core_node.specs.Rest.{State, Mixes}
use Rattle.qc_layout.specs.Header.{fields_of}
use Rattle.toy_image.specs.Images.{store_of, Opens, IsSuited, IsImage, IsVersionOf}
use Rattle.image_model.specs.declared.refusals.OpenRefusal.{OpenRefusal}
use Rattle.image_model.specs.declared.refusals.OpenRefusal.TheVariants as unopened
use Rattle.toy_image.specs.declared.image.NotLooked.{NotLooked}
use Rattle.toy_image.specs.declared.image.NotLooked.TheVariants as unlooked
use Rattle.toy_core.specs.declared.toy.Toy.{Toy}

-- ---- what it takes

-- zeros and status aren't built, nor writes that sync
abbrev pub IsBuilt : Work → Type 0
IsBuilt Read = Unit {0}
IsBuilt (Write fua) = fua ≡ false
IsBuilt (Zero fua no_hole) = ⊥
IsBuilt Flush = Unit {0}
IsBuilt (Status context one) = ⊥

abbrev pub Takes : Event → Type 0
Takes (Guest r) = IsBuilt r.work
Takes (Monitor c) = Unit {0}
Takes Tick = Unit {0}

-- a request's way leads to the drive; there are no exports and no views
abbrev pub on_drive : Way → Bool
on_drive (Node name) = is_drive name
on_drive (Export name) = false

-- the range leaves the disk or is too long
abbrev pub is_bad : Toy → Request → Work → Bool
is_bad t r Read = nat_lt t.source.image.size (r.offset + r.length) || nat_lt longest r.length
is_bad t r (Write fua) = nat_lt t.source.image.size (r.offset + r.length) || nat_lt longest r.length
is_bad t r (Zero fua no_hole) = true
is_bad t r Flush = false
is_bad t r (Status context one) = true

-- why it denies a request
abbrev pub denies : Toy → Request → Option Errno
denies t r = if not (on_drive r.way) || is_bad t r r.work then Some Invalid else if is_some t.broken then Some Io else None

-- no file is read as a target
abbrev pub no_targets : List ℕ → Held → Type 0
no_targets file held = ⊥

-- ---- what it shows

abbrev pub shown : Toy → Shown
shown t = record {
  file = t.source.file.0;
  id = t.source.image.id;
  size = t.source.image.size;
  epoch = t.source.image.epoch;
  serial = 0;
  event = t.event;
  broken = t.broken;
  ended = false;
  bitmaps = [];
  exports = [];
  jobs = [];
  views = [];
  targets = [];
  gone = [];
  created = [];
  room = t.source.image.room;
  directory = [];
}

-- the machine of a history
abbrev pub machine_of : Toy → History → Machine
machine_of t h = record {
  history = h;
  epoch = t.source.image.epoch;
  serial = 0;
  event = t.event;
  bitmaps = [];
  jobs = [];
  views = [];
  gone = [];
  created = [];
  exports = [];
  broken = t.broken;
  store = store_of t.source.image;
  freed = 0;
  ended = false;
}

abbrev pub state_of : Toy → History → List (List ℕ) → State
state_of t h disks = record { machine = machine_of t h; disks = disks; entries = [] }

-- after an event, and after one that broke the source
abbrev pub next : Toy → Toy
next t = record t { event = next_number t.event }

abbrev pub broke : Toy → Toy
broke t = record (next t) { broken = Some (next_number t.event) }

-- ---- what it knows

-- the number is that of its name
pub record IsNamed (f : ℕ) (w : World) : Type 0 where
  pub below : f < w.given
  pub found : w.found (w.named f) ≡ Some f

pub record IsHeld (t : Toy) (w : World) (h : History) (disks : List (List ℕ)) : Type 0 where
  pub told : IsTrue w.tells
  pub named : IsNamed t.source.file.0 w
  pub suits : IsSuited t.source.image
  pub sound : IsSound (machine_of t h)
  pub mixes : Mixes h disks
  pub epochs : All (IsOfEpoch t.source.image.epoch) (timeline_of h).entries
  pub image : IsImage t.source.image (now h) (w.seen t.source.file.0)
  -- no unknown autoclear bit
  pub clear : (fields_of (w.seen t.source.file.0)).autoclear_features < 2
  pub each : EachVersion (IsVersionOf t.source.image disks (w.seen t.source.file.0)) (versions w t.source.file.0)

-- the state is that of a history, and the file has its disk, in each version one that a crash may mix
pub record Keeps (t : Toy) (w : World) (s : State) : Type 0 where
  pub history : History
  pub disks : List (List ℕ)
  pub is : s ≡ state_of t history disks
  pub holds : IsHeld t w history disks

-- ---- what isn't opened

-- what is told where it isn't known what an image is
abbrev pub IsUnopened : OpenRefusal → NotLooked → Type 0
IsUnopened shows unlooked.Other = shows ≡ unopened.NotAdopted
IsUnopened shows unlooked.Failed = shows ≡ unopened.Failed
IsUnopened shows unlooked.Memory = shows ≡ unopened.Memory

-- the file is an image of the form, where files are told
abbrev pub Suits : ℕ → World → Type 0
Suits f w = IsTrue w.tells → Opens (w.seen f)
