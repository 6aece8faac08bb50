-- The state of the plain machine.
use Rattle.std.specs.Prelude.{ℕ, ◌+◌, ◌-◌, ◌^◌, min, List, [], ◌++◌, length, map, Bool, false, Option, None, find, bytes_eq}
use Rattle.span_algebra.specs.declared.points.Point.{Point}
use Rattle.bitmap_model.specs.Bitmap.{BitmapState, StoredBitmap, restored}
use Rattle.core_events.specs.declared.commands.ExportArgs.{ExportArgs}
use Rattle.plain_model.specs.History.{History}
use Rattle.image_model.specs.Space.{Store}
use Rattle.plain_model.specs.Jobs.{Job, has_id}

-- a view that ended or broke, and the event at which it did
pub record GoneView : Type 0 where
  pub target : List ℕ
  pub event : ℕ

pub record Machine : Type 0 where
  pub history : History
  -- the next point is of this epoch, and has the serial after this one
  pub epoch : ℕ
  pub serial : ℕ
  -- the number of the last event
  pub event : ℕ
  -- in order of adding
  pub bitmaps : List BitmapState
  -- push jobs, the one that is served next at the front
  pub jobs : List Job
  -- live views in order of creation, and those that are gone, the last one at the end
  pub views : List Job
  pub gone : List GoneView
  -- the ids of push jobs and live views, in order of creation
  pub created : List (List ℕ)
  -- in order of adding
  pub exports : List ExportArgs
  -- the event at which the source broke
  pub broken : Option ℕ
  -- the source's clusters, and how many were given back that its room doesn't count
  pub store : Store
  pub freed : ℕ
  -- `quit` was commanded
  pub ended : Bool

abbrev pub size_of : Machine → ℕ
size_of m = length m.history.start

-- numbers of events and serials end here
abbrev pub last_number : ℕ
last_number = 2 ^ 64 - 1

-- counted up, and no further than the last number
abbrev pub next_number : ℕ → ℕ
next_number n = min (n + 1) last_number

-- the point that the next command draws
abbrev pub next_point : Machine → Point
next_point m = record { epoch = m.epoch; serial = m.serial + 1 }

-- push jobs, and then live views
abbrev pub runners : Machine → List Job
runners m = m.jobs ++ m.views

abbrev pub job_of : List ℕ → List Job → Option Job
job_of id jobs = find (has_id id) jobs

abbrev pub has_target : List ℕ → Job → Bool
has_target target j = bytes_eq target j.target

abbrev pub live_view : List ℕ → Machine → Option Job
live_view name m = find (has_target name) m.views

-- ---- opening

-- what an opening finds in an image, and takes and gives back in it
pub record Opening : Type 0 where
  -- of the image before the opening; the session's is the next
  pub epoch : ℕ
  pub entries : List StoredBitmap
  -- the kinds and tables, and the room of the image before the opening
  pub store : Store
  -- clusters that it stored or passed over
  pub taken : ℕ
  -- clusters that are referred to before it and not after it, and those that it passed over
  pub given : ℕ

-- the state in which a session begins
unfoldable pub opened : History → Opening → Machine
opened h o = record {
  history = h;
  epoch = o.epoch + 1;
  serial = 0;
  event = 0;
  bitmaps = map restored o.entries;
  jobs = [];
  views = [];
  gone = [];
  created = [];
  exports = [];
  broken = None;
  store = record o.store { room = o.store.room - o.taken };
  freed = o.given;
  ended = false;
}
