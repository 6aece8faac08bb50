-- What a host in memory holds and tells.
use Rattle.std.specs.Prelude.{◌≡◌, ℕ, ◌+◌, List, [], false, Result, IsOk, IsErr, vec_capacity}
use Rattle.std.specs.List.{Contains}
use Rattle.disk_model.specs.World.{World}
use Rattle.disk_memory.specs.declared.host.MemoryHost.{MemoryHost}
use Rattle.disk_memory.specs.Held.{Held, held_of, world_of}
use Rattle.disk_memory.specs.Steps.{raised}
use Rattle.disk_memory.specs.Room.{Room, HasRoom, room_of}

-- its files, its text and its counts
abbrev pub held : MemoryHost → Held
held host = held_of host.keep host.files.items host.log.items host.printed.items host.faults host.print_faults

-- all that it tells
abbrev pub told_by : MemoryHost → World
told_by host = world_of (held host)

-- how many calls were made
abbrev pub calls_made : MemoryHost → ℕ
calls_made host = host.made

-- the numbers of the calls that fail
abbrev pub calls_failing : MemoryHost → List ℕ
calls_failing host = host.failing.items

-- a call was counted, and it failed if its number is among those that fail, which stay
abbrev pub IsCounted : {T E : Type 0} → MemoryHost → MemoryHost → Result T E → Type 0
IsCounted old new result =
    (calls_made new ≡ raised (calls_made old)) × (calls_failing new ≡ calls_failing old) × (Contains (calls_failing old) (calls_made new) → IsErr result)

-- the room it has
abbrev pub room : MemoryHost → Room
room host = room_of (vec_capacity host.files) host.files.items host.spare.items (vec_capacity host.printed)

-- what room it had it has
abbrev pub KeepsRoom : MemoryHost → MemoryHost → Type 0
KeepsRoom old new = (more size : ℕ) → HasRoom more size (room old) → HasRoom more size (room new)

-- but for one file that it made
abbrev pub KeepsRoomButOne : MemoryHost → MemoryHost → Type 0
KeepsRoomButOne old new = (more size : ℕ) → HasRoom (more + 1) size (room old) → HasRoom more size (room new)

-- the call failed only if its number is among those that fail
abbrev pub FailsByNumber : {T E : Type 0} → MemoryHost → MemoryHost → Result T E → Type 0
FailsByNumber old new result = IsErr result → Contains (calls_failing old) (calls_made new)

-- It keeps no calls and none of them is to fail, it has room for so many further files, and each file and the text can get so long.
pub record IsReady (more size : ℕ) (host : MemoryHost) : Type 0 where
  pub unkept : host.keep ≡ false
  pub unfailing : calls_failing host ≡ []
  pub has : HasRoom more size (room host)

-- the call did not fail, and the host is as ready for the next one
abbrev pub Stays : {T E : Type 0} → ℕ → ℕ → MemoryHost → Result T E → Type 0
Stays more size new result = IsOk result × IsReady more size new
