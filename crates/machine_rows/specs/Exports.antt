-- Exports, and requests through them.
use Prim.Native.String.{String}
use Rattle.std.specs.Prelude.{◌≡◌, ℕ, List, [], ◌∷◌, ◌++◌, replicate, codes, true, false, None}
use Rattle.script_model.specs.Lines.{Line}
use Rattle.script_model.specs.Lines as script
use Rattle.core_events.specs.declared.events.Work.{Work}
use Rattle.core_events.specs.declared.events.Work.TheVariants as work
use Rattle.core_events.specs.declared.events.Way.TheVariants as way
use Rattle.core_events.specs.declared.commands.SourceName.{SourceName}
use Rattle.plain_model.specs.Queries.{export_infos}
use Rattle.machine_rows.specs.Play.{write, read}
use Rattle.machine_rows.specs.Commands.{alone, add_b0, adding, removing, fleece, cancel, exporting, query_nodes, b0, nodes, returned, refused, cancelled, Prints}
use Rattle.machine_rows.specs.Jobs.{after}

-- requests through the export of a name
abbrev pub through : String → Work → ℕ → ℕ → List ℕ → Line
through name w at n bytes = script.Ask (record { way = way.Export (codes name); work = w; offset = at; length = n; bytes = bytes })

abbrev pub read_through : String → ℕ → ℕ → Line
read_through name at n = through name work.Read at n []

abbrev pub write_through : String → ℕ → List ℕ → ℕ → Line
write_through name at bytes n = through name (work.Write false) at n bytes

abbrev pub unnamed : String → SourceName
unnamed name = record { node = None; name = codes name }

pub record ExportsStandForNodes : Type 0 where
  pub reading : Prints (write 4095 (170 ∷ 187 ∷ []) ∷ exporting "e" "drive0" ",\"name\":\"v\"" ∷ read_through "v" 4095 2 ∷ [])
      (codes "ok" ∷ returned ∷ codes "data aabb" ∷ codes "ok" ∷ [])
  -- an export is read-only where nothing else is said; then a write is denied wherever it lies, and the next request is served
  pub read_only : Prints (exporting "e" "drive0" ",\"name\":\"v\"" ∷ write_through "v" 0 (1 ∷ []) 1 ∷ write_through "v" 99999 (1 ∷ []) 1
      ∷ through "v" (work.Zero false false) 0 1 [] ∷ through "v" work.Flush 0 0 [] ∷ read_through "v" 0 1 ∷ [])
      (returned ∷ codes "error EPERM" ∷ codes "error EPERM" ∷ codes "error EPERM" ∷ codes "ok" ∷ codes "data 00" ∷ codes "ok" ∷ [])
  pub writable : Prints (exporting "e" "drive0" ",\"writable\":true" ∷ write_through "drive0" 0 (1 ∷ []) 1 ∷ read 0 1 ∷ read_through "drive0" 0 1
      ∷ write_through "drive0" 16384 (1 ∷ []) 1 ∷ [])
      (returned ∷ codes "ok" ∷ codes "data 01" ∷ codes "data 01" ∷ codes "error EINVAL" ∷ codes "ok" ∷ [])
  pub unknown : Prints (read_through "v" 0 1 ∷ write_through "v" 0 (1 ∷ []) 1 ∷ through "v" work.Flush 0 0 [] ∷ [])
      (codes "error EINVAL" ∷ codes "error EINVAL" ∷ codes "error EINVAL" ∷ codes "ok" ∷ [])
  -- a write that is too long is invalid, and on a read-only export denied
  pub too_long : Prints (exporting "e" "drive0" ",\"writable\":true" ∷ exporting "r" "drive0" ",\"name\":\"r\"" ∷ write_through "drive0" 0 [] 33554433
      ∷ write_through "r" 0 [] 33554433 ∷ read_through "r" 0 33554433 ∷ [])
      (returned ∷ returned ∷ codes "error EINVAL" ∷ codes "error EPERM" ∷ codes "error EINVAL" ∷ codes "ok" ∷ [])
  -- that of a view ends with the view, and stands for a new view of its name
  pub of_a_view : Prints
      (write 0 (1 ∷ []) ∷ alone (fleece "f0" "v0") ∷ exporting "e" "v0" "" ∷ write 0 (2 ∷ []) ∷ read_through "v0" 0 1
      ∷ write_through "v0" 0 (3 ∷ []) 1 ∷ cancel "f0" ∷ read_through "v0" 0 1
      ∷ write_through "v0" 0 (3 ∷ []) 1 ∷ alone (fleece "f1" "v0") ∷ read_through "v0" 0 1 ∷ script.Stop ∷ [])
      (codes "ok" ∷ returned ∷ returned ∷ codes "ok" ∷ codes "data 01" ∷ codes "error EPERM" ∷ returned ∷ cancelled "f0" "16384" "4096" "7"
      ∷ codes "error ESHUTDOWN" ∷ codes "error EPERM" ∷ returned
      ∷ codes "data 02" ∷ codes "stopped" ∷ [])
  -- contexts of bitmaps are looked up at each request
  pub contexts : Prints
      (alone add_b0 ∷ write 4096 (1 ∷ []) ∷ exporting "e" "drive0" ",\"name\":\"v\",\"bitmaps\":[\"b0\"]"
      ∷ through "v" (work.Status (codes "qemu:dirty-bitmap:b0") false) 0 16384 []
      ∷ through "v" (work.Status (codes "base:allocation") true) 0 16384 [] ∷ alone (removing "b0")
      ∷ through "v" (work.Status (codes "qemu:dirty-bitmap:b0") false) 0 16384 [] ∷ [])
      (returned ∷ codes "ok" ∷ returned ∷ codes "status 4096:0 4096:1 8192:0" ∷ codes "status 4096:3" ∷ returned ∷ codes "error EINVAL" ∷ codes "ok" ∷ [])
  -- one dirty granule at the end of the disk
  pub last_granule : Prints
      (alone (adding "tmp" "") ∷ write 12288 (1 ∷ []) ∷ exporting "e" "drive0" ",\"name\":\"v\",\"bitmaps\":[\"tmp\"]"
      ∷ through "v" (work.Status (codes "qemu:dirty-bitmap:tmp") false) 0 16384 []
      ∷ through "v" (work.Status (codes "qemu:dirty-bitmap:tmp") true) 0 16384 [] ∷ [])
      (returned ∷ codes "ok" ∷ returned ∷ codes "status 12288:0 4096:1" ∷ codes "status 12288:0" ∷ codes "ok" ∷ [])
  -- clients see each of an export's bitmaps once, at its first place
  pub infos : export_infos (after (alone add_b0 ∷ alone (adding "c" "") ∷ exporting "e" "drive0" ",\"name\":\"v\",\"bitmaps\":[\"b0\",\"c\",\"b0\"]"
      ∷ exporting "w" "drive0" ",\"writable\":true" ∷ []))
      ≡ record { name = codes "v"; size = 16384; writable = false; contexts = unnamed "b0" ∷ unnamed "c" ∷ [] }
      ∷ record { name = codes "drive0"; size = 16384; writable = true; contexts = [] } ∷ []

pub record ExportsAreRefused : Type 0 where
  pub in_order : Prints
      (alone (fleece "f0" "v0") ∷ exporting "e" "drive0" "" ∷ exporting "e" "w" ",\"writable\":true" ∷ exporting "e" "v0" ",\"writable\":true"
      ∷ exporting "e" "v0" ",\"name\":\"drive0\"" ∷ exporting "e1" "drive0" ",\"bitmaps\":[\"b9\"]"
      ∷ exporting "e1" "v0" ",\"bitmaps\":[\"b9\",\"b8\"]" ∷ exporting "e1" "v0" "" ∷ script.Stop ∷ [])
      (returned ∷ returned ∷ refused "NodeUnknown: w" ∷ refused "ReadOnlyNode: v0" ∷ refused "ExportTaken: e" ∷ refused "ExportTaken: drive0"
      ∷ refused "NoSuchBitmap: b9" ∷ returned ∷ codes "stopped" ∷ [])
  -- eight at most
  pub too_many : Prints
      (exporting "1" "drive0" ",\"name\":\"1\"" ∷ exporting "2" "drive0" ",\"name\":\"2\"" ∷ exporting "3" "drive0" ",\"name\":\"3\""
      ∷ exporting "4" "drive0" ",\"name\":\"4\"" ∷ exporting "5" "drive0" ",\"name\":\"5\""
      ∷ exporting "6" "drive0" ",\"name\":\"6\"" ∷ exporting "7" "drive0" ",\"name\":\"7\"" ∷ exporting "8" "drive0" ",\"name\":\"8\""
      ∷ exporting "9" "drive0" ",\"name\":\"9\",\"bitmaps\":[\"b9\"]" ∷ exporting "8" "drive0" ",\"name\":\"9\"" ∷ [])
      (replicate 8 returned ++ refused "TooManyExports: 8" ∷ refused "ExportTaken: 8" ∷ codes "ok" ∷ [])
  -- the node of an ended view is unknown; an export draws no point
  pub ended_view : Prints (alone (fleece "f0" "v0") ∷ cancel "f0" ∷ exporting "e" "v0" "" ∷ exporting "e" "drive0" "" ∷ alone add_b0 ∷ query_nodes ∷ [])
      (returned ∷ returned ∷ cancelled "f0" "16384" "0" "2" ∷ refused "NodeUnknown: v0" ∷ returned ∷ returned ∷ nodes (b0 "false" "0" "1.2 now" ∷ [])
      ∷ codes "ok" ∷ [])
