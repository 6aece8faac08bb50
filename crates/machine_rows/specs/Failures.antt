-- Device faults and want of room.
use Prim.Native.String.{String}
use Rattle.std.specs.Prelude.{false, ◌≡◌, ℕ, List, [], ◌∷◌, ◌++◌, replicate, codes, true, Some, None, Option, if◌then◌else◌, bytes_eq}
use Rattle.script_model.specs.Lines.{Line}
use Rattle.script_model.specs.Lines as script
use Rattle.core_events.specs.declared.events.Work.{Work}
use Rattle.core_events.specs.declared.events.Work.TheVariants as work
use Rattle.core_events.specs.declared.events.Way.TheVariants as way
use Rattle.core_events.specs.declared.answers.Errno.TheVariants.{NoMemory}
use Rattle.plain_model.specs.Console.{error_line}
use Rattle.plain_model.specs.Actions.{Held, Target}
use Rattle.plain_model.specs.Outcome.{Trouble, no_trouble, Untouched, Torn}
use Rattle.machine_rows.specs.Play.{empty_store, fresh, blank, write, read, zero, view, status, flush, output_amid, at_event, all_well}
use Rattle.machine_rows.specs.Commands.{alone, together, add_b0, removing, full, incremental, fleece, exporting, query_nodes, query_jobs, drive_node, returned_list, b0, nodes, printed, returned, refused, completed, stopped}
use Rattle.machine_rows.specs.Jobs.{ticks}

abbrev pub breaking : List ℕ → Trouble
breaking left = record no_trouble { request = Torn left; broke = true }

-- the copies of one job fail at this unit
abbrev pub failing : String → ℕ → List ℕ → Option ℕ
failing job n id = if bytes_eq (codes job) id then Some n else None

-- on a fresh disk of four clusters, with one trouble at this event, the lines print these
abbrev pub PrintsAmid : ℕ → Trouble → List Line → List (List ℕ) → Type 0
PrintsAmid event t lines expected = output_amid (blank 16384 4096) (at_event event t) lines (fresh 16384 4096) ≡ printed expected

abbrev pub broken_nodes : List (List ℕ) → String → List ℕ
broken_nodes bitmaps event = returned_list (drive_node "16384" bitmaps event ∷ [])

-- a request through the drive's read-only export
abbrev pub through : Work → ℕ → ℕ → Line
through w at n = script.Ask (record { way = way.Export (codes "drive0"); work = w; offset = at; length = n; bytes = [] })

pub record BrokenSourcesAreLeft : Type 0 where
  -- a table isn't written: the write and all after it fail, jobs end, and nothing begins; the copy of the unit was made before
  pub by_a_write : PrintsAmid 2 (breaking (0 ∷ []))
      (alone (full "j0" "t0") ∷ write 0 (1 ∷ []) ∷ read 0 1 ∷ query_nodes ∷ query_jobs ∷ alone (full "j1" "t1") ∷ script.Stop ∷ [])
      (returned ∷ codes "error EIO" ∷ stopped "j0" "SourceBroken" "16384" "4096" "2" ∷ codes "error EIO" ∷ broken_nodes [] ",\"x-broken-at\":2"
      ∷ codes "{\"return\":[]}"
      ∷ refused "SourceBroken: 2" ∷ codes "stopped" ∷ [])
  -- new clusters aren't synced: nothing is copied or marked
  pub by_a_sync : PrintsAmid 2 (record no_trouble { request = Untouched; broke = true })
      (together (add_b0 ∷ full "j0" "t0" ∷ []) ∷ write 0 (1 ∷ []) ∷ read 0 1 ∷ read 0 1 ∷ query_nodes ∷ script.Stop ∷ [])
      (returned ∷ codes "error EIO" ∷ stopped "j0" "SourceBroken" "16384" "0" "2" ∷ codes "error EIO" ∷ codes "error EIO"
      ∷ broken_nodes (b0 "false" "0" "1.1 now" ∷ []) ",\"x-broken-at\":2"
      ∷ codes "stopped" ∷ [])
  -- each request on the drive is tested by the rules before that
  pub requests : PrintsAmid 1 (breaking (0 ∷ []))
      (write 0 (1 ∷ []) ∷ zero 0 1 ∷ flush ∷ status (codes "drive0") (codes "base:allocation") 0 1 ∷ status (codes "drive0") (codes "other") 0 1
      ∷ zero 16384 1 ∷ exporting "e" "drive0" "" ∷ through (work.Write false) 99999 1 ∷ through work.Read 0 1 ∷ script.Stop ∷ [])
      (codes "error EIO" ∷ codes "error EIO" ∷ codes "error EIO" ∷ codes "error EIO" ∷ codes "error EINVAL" ∷ codes "error EINVAL" ∷ returned
      ∷ codes "error EPERM" ∷ codes "error EIO" ∷ codes "stopped" ∷ [])
  -- bitmaps may be changed still; why a backup isn't begun is told in order
  pub commands : PrintsAmid 1 (breaking (0 ∷ [])) (write 0 (1 ∷ []) ∷ alone add_b0 ∷ alone (removing "b0") ∷ alone (incremental "j0" "drive0")
      ∷ alone (full "j0" "drive0") ∷ together (add_b0 ∷ full "j0" "t0" ∷ []) ∷ query_nodes ∷ script.Stop ∷ [])
      (codes "error EIO" ∷ returned ∷ returned ∷ refused "NoSuchBitmap: b0" ∷ refused "SourceBroken: 1" ∷ refused "action 1: SourceBroken: 1"
      ∷ broken_nodes [] ",\"x-broken-at\":1" ∷ codes "stopped" ∷ [])
  pub by_a_flush : PrintsAmid 2 (record no_trouble { request = Untouched }) (write 0 (1 ∷ []) ∷ flush ∷ flush ∷ query_nodes ∷ script.Stop ∷ [])
      (codes "ok" ∷ codes "error EIO" ∷ codes "error EIO" ∷ broken_nodes [] ",\"x-broken-at\":2" ∷ codes "stopped" ∷ [])
  -- a job that ends gives its bitmap back
  pub bitmap_given_back : PrintsAmid 4 (breaking (2 ∷ []))
      (alone add_b0 ∷ write 0 (1 ∷ []) ∷ alone (incremental "j0" "t1") ∷ write 4096 (2 ∷ []) ∷ query_nodes ∷ script.Stop ∷ [])
      (returned ∷ codes "ok" ∷ returned ∷ codes "error EIO" ∷ stopped "j0" "SourceBroken" "4096" "0" "4"
      ∷ broken_nodes (b0 "false" "8192" "1.1 now" ∷ []) ",\"x-broken-at\":4" ∷ codes "stopped" ∷ [])
  -- other rules come before: what is out of range is invalid on a broken source too, and a read of a view that ended with it
  pub order : PrintsAmid 2 (breaking (0 ∷ [])) (alone (fleece "f0" "v0") ∷ write 0 (1 ∷ []) ∷ read 16384 1 ∷ view (codes "v0") 0 1
      ∷ view (codes "w") 0 1 ∷ script.Tick ∷ script.Stop ∷ [])
      (returned ∷ codes "error EIO" ∷ stopped "f0" "SourceBroken" "16384" "4096" "2" ∷ codes "error EINVAL" ∷ codes "error ESHUTDOWN"
      ∷ codes "error EINVAL" ∷ codes "ok" ∷ codes "stopped" ∷ [])

pub record FaultsOfRequestsPass : Type 0 where
  -- a read that fails, and a write that fails before anything was changed
  pub untouched : PrintsAmid 2 (record no_trouble { request = Untouched }) (alone add_b0 ∷ write 0 (1 ∷ []) ∷ read 0 1 ∷ query_nodes ∷ [])
      (returned ∷ codes "error EIO" ∷ codes "data 00" ∷ nodes (b0 "false" "0" "1.1 now" ∷ []) ∷ codes "ok" ∷ [])
  pub reading : PrintsAmid 1 (record no_trouble { request = Untouched }) (read 0 1 ∷ read 0 1 ∷ []) (codes "error EIO" ∷ codes "data 00" ∷ codes "ok" ∷ [])
  -- memory that couldn't be had is told by a name of its own
  pub no_memory : error_line NoMemory ≡ codes "error ENOMEM\n"
  -- a read of a view that fails leaves the view
  pub of_a_view : PrintsAmid 2 (record no_trouble { request = Untouched }) (alone (fleece "f0" "v0") ∷ view (codes "v0") 0 1 ∷ view (codes "v0") 0 1
      ∷ script.Stop ∷ [])
      (returned ∷ codes "error EIO" ∷ codes "data 00" ∷ codes "stopped" ∷ [])
  -- what is denied meets no fault
  pub denied : PrintsAmid 1 (breaking (0 ∷ [])) (write 16384 (1 ∷ []) ∷ read 0 1 ∷ []) (codes "error EINVAL" ∷ codes "data 00" ∷ codes "ok" ∷ [])
  -- a write of two sectors of which one was written is marked whole
  pub torn : PrintsAmid 2 (record no_trouble { request = Torn (1 ∷ 2 ∷ 0 ∷ 0 ∷ []) })
      (alone add_b0 ∷ write 510 (1 ∷ 2 ∷ 3 ∷ 4 ∷ []) ∷ read 510 4 ∷ query_nodes ∷ [])
      (returned ∷ codes "error EIO" ∷ codes "data 01020000" ∷ nodes (b0 "false" "4096" "1.1 now" ∷ []) ∷ codes "ok" ∷ [])

pub record FaultsOfCopiesEndTheirJobs : Type 0 where
  -- one job ends, the other runs on, and the write goes on
  pub one_job : PrintsAmid 3 (record no_trouble { failing = failing "j0" 0 }) (alone (full "j0" "t0") ∷ alone (full "j1" "t1") ∷ write 0 (1 ∷ [])
      ∷ read 0 1 ∷ ticks 4)
      (returned ∷ returned ∷ codes "ok" ∷ stopped "j0" "Failed" "16384" "0" "3" ∷ codes "data 01"
      ∷ replicate 4 (codes "ok") ++ completed "j1" "16384" "16384" "8" ∷ codes "ok" ∷ [])
  -- of three units that a write meets the ones below the failing one are copied
  pub second_of_three : PrintsAmid 2 (record no_trouble { failing = failing "j0" 1 }) (alone (full "j0" "t0") ∷ write 4095 (replicate 4098 1)
      ∷ read 4095 2 ∷ [])
      (returned ∷ codes "ok" ∷ stopped "j0" "Failed" "16384" "4096" "2" ∷ codes "data 0101" ∷ codes "ok" ∷ [])
  -- a seal that fails
  pub seal : PrintsAmid 4 (record no_trouble { failing = failing "j0" 0 }) (alone add_b0 ∷ alone (incremental "j0" "t1") ∷ write 0 (1 ∷ [])
      ∷ script.Tick ∷ query_nodes ∷ [])
      (returned ∷ returned ∷ codes "ok" ∷ codes "ok" ∷ stopped "j0" "Failed" "0" "0" "4" ∷ nodes (b0 "false" "4096" "1.1 now" ∷ []) ∷ codes "ok" ∷ [])
  pub of_a_view : PrintsAmid 2 (record no_trouble { failing = failing "f0" 0 }) (alone (fleece "f0" "v0") ∷ write 0 (1 ∷ []) ∷ view (codes "v0") 0 1
      ∷ read 0 1 ∷ [])
      (returned ∷ codes "ok" ∷ stopped "f0" "Failed" "16384" "0" "2" ∷ codes "error ESHUTDOWN" ∷ codes "data 01" ∷ codes "ok" ∷ [])

-- targets have room for a table and two units
abbrev pub narrow : List ℕ → Held
narrow name = Target true 16384 (empty_store 16384 4096 3)

abbrev pub PrintsNarrow : List Line → List (List ℕ) → Type 0
PrintsNarrow lines expected = output_amid narrow all_well lines (fresh 16384 4096) ≡ printed expected

pub record FullTargetsEndTheirJobs : Type 0 where
  pub at_a_tick : PrintsNarrow (alone (full "j0" "t0") ∷ ticks 4) (returned ∷ codes "ok" ∷ codes "ok" ∷ codes "ok"
      ∷ stopped "j0" "NoRoom" "16384" "8192" "4" ∷ codes "ok" ∷ codes "ok" ∷ [])
  -- the write goes on, over the unit that wasn't copied too
  pub at_a_write : PrintsNarrow (alone (full "j0" "t0") ∷ write 0 (replicate 12288 7) ∷ read 8192 1 ∷ [])
      (returned ∷ codes "ok" ∷ stopped "j0" "NoRoom" "16384" "8192" "2" ∷ codes "data 07" ∷ codes "ok" ∷ [])
  pub of_a_view : PrintsNarrow (alone (fleece "f0" "v0") ∷ write 0 (replicate 12288 7) ∷ view (codes "v0") 0 1 ∷ [])
      (returned ∷ codes "ok" ∷ stopped "f0" "NoRoom" "16384" "8192" "2" ∷ codes "error ESHUTDOWN" ∷ codes "ok" ∷ [])
  -- two units fit
  pub two_fit : PrintsNarrow (alone add_b0 ∷ write 0 (1 ∷ []) ∷ write 12288 (1 ∷ []) ∷ alone (incremental "j0" "t1") ∷ ticks 3)
      (returned ∷ codes "ok" ∷ codes "ok" ∷ returned ∷ codes "ok" ∷ codes "ok" ∷ codes "ok" ∷ completed "j0" "8192" "8192" "7" ∷ codes "ok" ∷ [])
