-- The record of a backup, 64 bytes of its header (this project's own).
use Rattle.std.specs.Prelude.{ℕ, ◌+◌, ◌^◌, List, ◌++◌, replicate, not, ◌&&◌, ◌||◌, nat_lt, ◌==◌, if◌then◌else◌, Option, Some, None}
use Rattle.std.specs.Int.{to_be_bytes, w32, w64}
use Rattle.disk_model.specs.Files.{reading, u32_at, u64_at}
use Rattle.span_algebra.specs.declared.points.Point.{Point}
use Rattle.span_algebra.specs.declared.spans.Base.{Base}
use Rattle.span_algebra.specs.declared.spans.Base.TheVariants.{Whole, Since, Loose}
use Rattle.qc_layout.specs.declared.records.Record.{Record}
use Rattle.qc_layout.specs.declared.records.State.{State}
use Rattle.qc_layout.specs.declared.records.State.TheVariants.{Blank, Begun, Sealed}
use Rattle.qc_layout.specs.declared.records.RecordFault.{RecordFault}
use Rattle.qc_layout.specs.declared.records.RecordFault.TheVariants.{RecordVersion, RecordState, RecordKind, RecordUnit}

-- version, state, kind, unit; then the disk's id, the base and the point
abbrev pub version_in : List ℕ → ℕ
version_in bytes = u32_at bytes 0

abbrev pub state_in : List ℕ → ℕ
state_in bytes = u32_at bytes 4

abbrev pub kind_in : List ℕ → ℕ
kind_in bytes = u32_at bytes 8

abbrev pub unit_in : List ℕ → ℕ
unit_in bytes = u32_at bytes 12

abbrev pub point_in : List ℕ → ℕ → Point
point_in bytes at = record { epoch = u64_at bytes at; serial = u64_at bytes (at + 8) }

-- the first rule that fails, for clusters of 2 to the power bits bytes
unfoldable pub record_fault : ℕ → List ℕ → Option RecordFault
record_fault bits bytes =
    if not (version_in bytes == 1) then Some RecordVersion
    else if nat_lt 2 (state_in bytes) then Some RecordState
    else if nat_lt 3 (kind_in bytes) || ((state_in bytes == 2) && (kind_in bytes == 0)) then Some RecordKind
    else if not (unit_in bytes == 2 ^ bits) then Some RecordUnit
    else None

-- what a sealed record's kind says of its base
abbrev pub base_in : List ℕ → Base
base_in bytes = if kind_in bytes == 1 then Whole else if kind_in bytes == 2 then Since (point_in bytes 32) else Loose

-- What a record says. In one that isn't sealed the id, the base and the point are unused.
unfoldable pub record_of : List ℕ → Record
record_of bytes =
    if state_in bytes == 2 then record { state = Sealed; disk = reading bytes 16 16; base = base_in bytes; point = point_in bytes 48; unit = unit_in bytes }
    else record { state = if state_in bytes == 0 then Blank else Begun; disk = replicate 16 0; base = Loose; point = record { epoch = 0; serial = 0 }; unit = unit_in bytes }

-- ---- how it is written: what is unused as zeros

abbrev pub state_number : State → ℕ
state_number Blank = 0
state_number Begun = 1
state_number Sealed = 2

abbrev pub kind_number : State → Base → ℕ
kind_number Sealed Whole = 1
kind_number Sealed (Since p) = 2
kind_number Sealed Loose = 3
kind_number state base = 0

abbrev pub point_bytes : Point → List ℕ
point_bytes p = to_be_bytes w64 p.epoch ++ to_be_bytes w64 p.serial

abbrev pub base_bytes : Base → List ℕ
base_bytes (Since p) = point_bytes p
base_bytes base = replicate 16 0

-- id, base and point
abbrev pub claim_bytes : Record → List ℕ
claim_bytes r = if state_number r.state == 2 then r.disk ++ base_bytes r.base ++ point_bytes r.point else replicate 48 0

unfoldable pub record_bytes : Record → List ℕ
record_bytes r = to_be_bytes w32 1 ++ to_be_bytes w32 (state_number r.state) ++ to_be_bytes w32 (kind_number r.state r.base) ++ to_be_bytes w32 r.unit ++ claim_bytes r
