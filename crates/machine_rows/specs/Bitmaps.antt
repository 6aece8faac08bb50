-- Bitmaps: what they count, from when, and what changes them.
use Prim.Native.String.{String}
use Rattle.std.specs.Prelude.{◌≡◌, ℕ, List, [], ◌∷◌, ◌++◌, replicate, codes}
use Rattle.machine_rows.specs.Play.{fresh, blank, write, read, status, output}
use Rattle.machine_rows.specs.Commands.{alone, together, adding, add_b0, removing, clearing, enabling, disabling, merging, aborting, full, incremental, query_nodes, printed, returned, refused, bitmap, b0, drive_node, returned_list, nodes, Prints}

pub record BitmapsCountWrites : Type 0 where
  -- granules count whole, the short last one of a disk too; status runs end at the disk's end
  pub short_last_granule : output (blank 16896 4096)
      (alone add_b0 ∷ write 16384 (1 ∷ []) ∷ status (codes "drive0") (codes "qemu:dirty-bitmap:b0") 0 16896 ∷ query_nodes ∷ []) (fresh 16896 4096)
      ≡ printed (returned ∷ codes "ok" ∷ codes "status 16384:0 512:1" ∷ returned_list (drive_node "16896" (b0 "false" "4096" "1.1 now" ∷ []) "" ∷ [])
      ∷ codes "ok" ∷ [])
  -- a write marks each granule that it meets, and a read none
  pub two_granules : Prints (alone add_b0 ∷ write 4095 (1 ∷ 2 ∷ []) ∷ read 8192 100 ∷ query_nodes ∷ [])
      (returned ∷ codes "ok" ∷ (codes "data " ++ replicate 200 48) ∷ nodes (b0 "false" "8192" "1.1 now" ∷ []) ∷ codes "ok" ∷ [])
  -- granules may be larger or smaller than clusters
  pub one_write : Prints (alone (adding "a" ",\"granularity\":512") ∷ alone (adding "c" ",\"granularity\":65536") ∷ write 4608 (1 ∷ []) ∷ query_nodes ∷ [])
      (returned ∷ returned ∷ codes "ok" ∷ nodes (bitmap "false" "512" "512" "false" "a" "false" "true" "1.1 now"
      ∷ bitmap "false" "65536" "65536" "false" "c" "false" "true" "1.2 now" ∷ []) ∷ codes "ok" ∷ [])
  -- a bitmap that is added disabled counts nothing, and its span ends where it begins
  pub disabled : Prints (alone (adding "a" ",\"disabled\":true") ∷ write 0 (1 ∷ []) ∷ query_nodes ∷ [])
      (returned ∷ codes "ok" ∷ nodes (bitmap "false" "0" "4096" "false" "a" "false" "false" "1.1 1.1" ∷ []) ∷ codes "ok" ∷ [])
  pub cleared : Prints (alone add_b0 ∷ write 0 (1 ∷ []) ∷ alone (clearing "b0") ∷ write 4096 (1 ∷ []) ∷ query_nodes ∷ [])
      (returned ∷ codes "ok" ∷ returned ∷ codes "ok" ∷ nodes (b0 "false" "4096" "1.2 now" ∷ []) ∷ codes "ok" ∷ [])
  -- disabling what is disabled, and enabling what is enabled, draws a point and changes nothing
  pub twice : Prints (alone add_b0 ∷ alone (enabling "b0") ∷ alone (disabling "b0") ∷ alone (disabling "b0") ∷ query_nodes ∷ alone (enabling "b0")
      ∷ query_nodes ∷ [])
      (replicate 4 returned ++ nodes (bitmap "false" "0" "4096" "false" "b0" "true" "false" "1.1 1.3" ∷ []) ∷ returned
      ∷ nodes (b0 "false" "0" "1.5 now" ∷ []) ∷ codes "ok" ∷ [])
  pub removed : Prints (alone add_b0 ∷ alone (adding "c" "") ∷ alone (removing "b0") ∷ query_nodes ∷ [])
      (returned ∷ returned ∷ returned ∷ nodes (bitmap "false" "0" "4096" "false" "c" "false" "true" "1.2 now" ∷ []) ∷ codes "ok" ∷ [])

-- where no granularity is given it is the cluster size, within bounds
abbrev pub default_for : ℕ → List ℕ
default_for cluster = output (blank 131072 cluster) (alone (adding "a" "") ∷ query_nodes ∷ []) (fresh 131072 cluster)

abbrev pub default_is : String → List ℕ
default_is granularity = printed (returned ∷ returned_list (drive_node "131072" (bitmap "false" "0" granularity "false" "a" "false" "true" "1.1 now"
    ∷ []) "" ∷ []) ∷ codes "ok" ∷ [])

pub record GranularitiesHaveDefaults : Type 0 where
  pub small_clusters : default_for 512 ≡ default_is "4096"
  pub middle_clusters : default_for 8192 ≡ default_is "8192"
  pub large_clusters : default_for 131072 ≡ default_is "65536"

pub record TransactionsAreWholeOrNothing : Type 0 where
  -- nothing is left of the actions before a refused one, and no point is drawn
  pub refused_merge : Prints (together (adding "b1" "" ∷ merging "b1" "\"b9\"" ∷ []) ∷ query_nodes ∷ alone add_b0 ∷ query_nodes ∷ [])
      (refused "action 1: NoSuchBitmap: b9" ∷ nodes [] ∷ returned ∷ nodes (b0 "false" "0" "1.1 now" ∷ []) ∷ codes "ok" ∷ [])
  pub aborted : Prints (together (add_b0 ∷ aborting ∷ []) ∷ query_nodes ∷ alone add_b0 ∷ query_nodes ∷ [])
      (refused "action 1: Aborted" ∷ nodes [] ∷ returned ∷ nodes (b0 "false" "0" "1.1 now" ∷ []) ∷ codes "ok" ∷ [])
  -- all actions take effect at one point
  pub one_point : Prints (together (add_b0 ∷ adding "c" "" ∷ []) ∷ query_nodes ∷ [])
      (returned ∷ nodes (b0 "false" "0" "1.1 now" ∷ bitmap "false" "0" "4096" "false" "c" "false" "true" "1.1 now" ∷ []) ∷ codes "ok" ∷ [])
  -- an action sees what those before it did
  pub in_order : Prints (together (add_b0 ∷ removing "b0" ∷ add_b0 ∷ add_b0 ∷ []) ∷ together (add_b0 ∷ removing "b0" ∷ removing "b0" ∷ []) ∷ query_nodes ∷ [])
      (refused "action 3: NameTaken: b0" ∷ refused "action 2: NoSuchBitmap: b0" ∷ nodes [] ∷ codes "ok" ∷ [])
  -- neither can an id, a target or a bitmap be used that an action before has given to a job
  pub taken : Prints (together (add_b0 ∷ full "j0" "t0" ∷ full "j1" "t0" ∷ []) ∷ together (full "j0" "t0" ∷ full "j0" "t1" ∷ []) ∷ [])
      (refused "action 2: TargetBusy: t0" ∷ refused "action 1: JobTaken: j0" ∷ codes "ok" ∷ [])
  pub busy : Prints (together (add_b0 ∷ incremental "j0" "t0" ∷ incremental "j1" "t1" ∷ [])
      ∷ together (add_b0 ∷ incremental "j0" "t0" ∷ clearing "b0" ∷ []) ∷ [])
      (refused "action 2: Busy: b0" ∷ refused "action 2: Busy: b0" ∷ codes "ok" ∷ [])
  -- without actions a point is drawn too
  pub empty : Prints (together [] ∷ alone add_b0 ∷ query_nodes ∷ []) (returned ∷ returned ∷ nodes (b0 "false" "0" "1.2 now" ∷ []) ∷ codes "ok" ∷ [])
