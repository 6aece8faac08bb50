-- Reads, writes and zeros.
use Rattle.std.specs.Prelude.{◌≡◌, ℕ, List, [], ◌∷◌, codes, Bool, true, false}
use Rattle.script_model.specs.Lines.{Line, asked, asked_to_write, drive}
use Rattle.script_model.specs.Lines as script
use Rattle.core_events.specs.Events.{Request}
use Rattle.core_events.specs.declared.events.Work.TheVariants as work
use Rattle.plain_model.specs.Machine.{Machine}
use Rattle.plain_model.specs.Requests.{is_invalid, leaves_disk}
use Rattle.machine_rows.specs.Play.{fresh, blank, write, read, zero, flush, status, output}
use Rattle.machine_rows.specs.Commands.{alone, add_b0, query_nodes, printed, returned, b0, nodes, Prints}

abbrev pub allocation : ℕ → ℕ → Line
allocation at n = status drive (codes "base:allocation") at n

-- a zero that leaves no hole, and requests that are synced before they are answered
abbrev pub zero_stored : ℕ → ℕ → Line
zero_stored at n = script.Ask (asked drive (work.Zero false true) at n)

abbrev pub zero_synced : ℕ → ℕ → Line
zero_synced at n = script.Ask (asked drive (work.Zero true false) at n)

abbrev pub write_synced : ℕ → List ℕ → Line
write_synced at bytes = script.Ask (record (asked_to_write at bytes) { work = work.Write true })

pub record WritesAreRead : Type 0 where
  -- a write is read back, and the bytes beside it are as they were
  pub across_clusters : output (blank 16384 4096) (write 4095 (170 ∷ 187 ∷ []) ∷ read 4094 4 ∷ script.Quit ∷ []) (fresh 16384 4096)
      ≡ codes "ok\ndata 00aabb00\nok\n"
  -- a range may end where the disk does and not behind it; what is refused changes nothing
  pub at_the_end : Prints (read 16384 0 ∷ read 16384 1 ∷ read 16385 0 ∷ write 16383 (1 ∷ 2 ∷ []) ∷ read 16383 1 ∷ write 16383 (1 ∷ []) ∷ read 16383 1 ∷ [])
      (codes "data" ∷ codes "error EINVAL" ∷ codes "error EINVAL" ∷ codes "error EINVAL" ∷ codes "data 00" ∷ codes "ok" ∷ codes "data 01" ∷ codes "ok" ∷ [])
  -- the later of two writes stands
  pub rewritten : Prints (write 0 (1 ∷ 2 ∷ 3 ∷ []) ∷ write 1 (9 ∷ []) ∷ read 0 4 ∷ []) (codes "ok" ∷ codes "ok" ∷ codes "data 01090300" ∷ codes "ok" ∷ [])
  -- a write of no bytes stores and marks nothing
  pub empty : Prints (alone add_b0 ∷ write 5 [] ∷ write 16384 [] ∷ write 16385 [] ∷ allocation 0 16384 ∷ query_nodes ∷ [])
      (returned ∷ codes "ok" ∷ codes "ok" ∷ codes "error EINVAL" ∷ codes "status 16384:3" ∷ nodes (b0 "false" "0" "1.1 now" ∷ []) ∷ codes "ok" ∷ [])
  pub synced : Prints (write_synced 0 (1 ∷ []) ∷ read 0 1 ∷ zero_synced 0 1 ∷ read 0 1 ∷ flush ∷ [])
      (codes "ok" ∷ codes "data 01" ∷ codes "ok" ∷ codes "data 00" ∷ codes "ok" ∷ codes "ok" ∷ [])

pub record ZerosMakeHoles : Type 0 where
  -- of any length within the disk, whereas reads and writes have a longest one
  pub unbound : (r : Request) (fua no_hole : Bool) (m : Machine) → is_invalid r (work.Zero fua no_hole) m ≡ leaves_disk r m
  -- of clusters that are covered whole, and of no others
  pub partly : Prints (write 4095 (170 ∷ 187 ∷ []) ∷ zero 0 4097 ∷ allocation 0 16384 ∷ read 4095 3 ∷ [])
      (codes "ok" ∷ codes "ok" ∷ codes "status 4096:3 4096:0 8192:3" ∷ codes "data 000000" ∷ codes "ok" ∷ [])
  -- the last cluster of a disk ends with the disk
  pub last_whole : output (blank 16896 4096) (write 16384 (1 ∷ []) ∷ allocation 0 16896 ∷ zero 16384 512 ∷ allocation 0 16896 ∷ []) (fresh 16896 4096)
      ≡ printed (codes "ok" ∷ codes "status 16384:3 512:0" ∷ codes "ok" ∷ codes "status 16896:3" ∷ codes "ok" ∷ [])
  pub last_partly : output (blank 16896 4096) (write 16384 (1 ∷ []) ∷ zero 16384 511 ∷ allocation 0 16896 ∷ read 16384 1 ∷ []) (fresh 16896 4096)
      ≡ printed (codes "ok" ∷ codes "ok" ∷ codes "status 16384:3 512:0" ∷ codes "data 00" ∷ codes "ok" ∷ [])
  -- or they leave none, and store zeros
  pub stored : Prints (zero_stored 4096 1 ∷ allocation 0 16384 ∷ []) (codes "ok" ∷ codes "status 4096:3 4096:0 8192:3" ∷ codes "ok" ∷ [])
  -- a hole that is covered in part stays one
  pub hole_partly : Prints (zero 1 1 ∷ allocation 0 4096 ∷ []) (codes "ok" ∷ codes "status 4096:3" ∷ codes "ok" ∷ [])
  -- zeros are marked as other writes, and denied as they are
  pub marked : Prints (alone add_b0 ∷ zero 4096 1 ∷ zero 16384 1 ∷ zero_stored 16383 2 ∷ zero 16384 0 ∷ query_nodes ∷ [])
      (returned ∷ codes "ok" ∷ codes "error EINVAL" ∷ codes "error EINVAL" ∷ codes "ok" ∷ nodes (b0 "false" "4096" "1.1 now" ∷ []) ∷ codes "ok" ∷ [])
