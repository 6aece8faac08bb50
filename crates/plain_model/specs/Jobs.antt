-- A push job or a view, and how it copies.
use Rattle.std.specs.Prelude.{ℕ, ◌-◌, ◌*◌, min, List, [], ◌∷◌, length, filter, Bool, true, false, ◌&&◌, nat_lt, ◌==◌, Option, Some, None, if◌then◌else◌, slice_set, bytes_eq}
use Rattle.std.specs.List.{range_with_len}
use Rattle.span_algebra.specs.declared.points.Point.{Point}
use Rattle.span_algebra.specs.declared.spans.Base.{Base}
use Rattle.span_algebra.specs.Timelines.{Extent}
use Rattle.span_algebra.specs.Spans.{granule}
use Rattle.bitmap_model.specs.Granules.{meets}
use Rattle.bitmap_model.specs.Copies.{is_missing, least, without, bytes_in}
use Rattle.core_events.specs.declared.commands.Mode.{Mode}
use Rattle.core_events.specs.declared.answers.JobFault.{JobFault}
use Rattle.core_events.specs.declared.answers.JobFault.TheVariants.{Failed, NoRoom}
use Rattle.core_events.specs.declared.answers.Notice.{Notice}
use Rattle.core_events.specs.declared.answers.Notice.TheVariants.{Completed}
use Rattle.image_model.specs.Space.{Store, need, store_written}

-- A job copies the units of its scope into its target, each with the bytes of the disk at its point. A unit is a cluster of the
-- target, whose store is as the start found it and as the copies have changed it. A view has all units as its scope, and no tick
-- serves it.
pub record Job : Type 0 where
  pub id : List ℕ
  pub target : List ℕ
  pub point : Point
  -- what the backup will build on
  pub base : Base
  pub scope : List Bool
  pub copied : List Bool
  -- the bitmap that it uses, and what becomes of it where the job completes
  pub bitmap : Option (List ℕ)
  pub mode : Mode
  pub store : Store

-- the size of a unit, in bytes
abbrev pub unit_of : Job → ℕ
unit_of j = j.store.cluster

abbrev pub has_id : List ℕ → Job → Bool
has_id id j = bytes_eq id j.id

-- unit n of a disk of this size; the last one is cut at the disk's end
abbrev pub unit_extent : ℕ → Job → ℕ → Extent
unit_extent size j n = record { at = n * unit_of j; size = min (unit_of j) (size - n * unit_of j) }

-- how many bytes the scope has, and how many are copied
abbrev pub total_of : ℕ → Job → ℕ
total_of size j = bytes_in size (unit_of j) j.scope

abbrev pub progress_of : ℕ → Job → ℕ
progress_of size j = bytes_in size (unit_of j) j.copied

-- the least unit of the scope that isn't copied
abbrev pub next_unit : Job → Option ℕ
next_unit j = least (without j.scope j.copied)

-- the units that have to be copied before the range is written, rising
abbrev pub units_before : Extent → Job → List ℕ
units_before e j = filter (λ k. is_missing j.scope j.copied k && meets e (granule (unit_of j) k)) (range_with_len 0 (length j.scope))

-- unit n is copied
abbrev pub with_copied : ℕ → ℕ → Job → Job
with_copied size n j = record j { copied = slice_set j.copied n true; store = store_written j.store (unit_extent size j n) }

-- a job after an attempt to copy, and what stopped it, if anything did
pub record Tried : Type 0 where
  pub job : Job
  pub stop : Option JobFault

abbrev pub is_number : Option ℕ → ℕ → Bool
is_number None n = false
is_number (Some k) n = k == n

-- the units are copied in order, up to one at which a device call fails or for which the target has no room
abbrev pub copies : ℕ → Option ℕ → List ℕ → Job → Tried
copies size fails [] j = record { job = j; stop = None }
copies size fails (n ∷ units) j =
    if is_number fails n then record { job = j; stop = Some Failed }
    else if nat_lt j.store.room (need j.store (unit_extent size j n)) then record { job = j; stop = Some NoRoom }
    else copies size fails units (with_copied size n j)

-- the notice of a job that ends by itself, without a fault or with one
abbrev pub completion : ℕ → Option JobFault → Job → Notice
completion size fault j = Completed j.id (total_of size j) (progress_of size j) fault
