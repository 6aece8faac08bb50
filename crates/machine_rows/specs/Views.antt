-- Views of the disk at a point.
use Rattle.std.specs.Prelude.{◌≡◌, ℕ, List, [], ◌∷◌, ◌++◌, replicate, map, codes, true, false}
use Rattle.script_model.specs.Lines.{Line, asked}
use Rattle.script_model.specs.Lines as script
use Rattle.core_events.specs.declared.events.Work.TheVariants as work
use Rattle.core_events.specs.declared.events.Way.TheVariants as way
use Rattle.plain_model.specs.Jobs.{Job}
use Rattle.machine_rows.specs.Play.{write, read, view, status}
use Rattle.machine_rows.specs.Commands.{refused, alone, add_b0, full, fleece, cancel, query_nodes, drive_node, returned_list, b0, nodes, returned, completed, cancelled, Prints}
use Rattle.machine_rows.specs.Jobs.{ticks, after, copied}

abbrev pub v0 : List ℕ
v0 = codes "v0"

abbrev pub allocation : List ℕ
allocation = codes "base:allocation"

abbrev pub dirty : List ℕ
dirty = codes "qemu:dirty-bitmap:b0"

-- a view in the list of nodes
abbrev pub view_node : List ℕ
view_node = codes "{\"image\":{\"virtual-size\":16384},\"node-name\":\"v0\"}"

pub record ViewsReadTheirPoint : Type 0 where
  -- what is written since isn't seen; an ended view is told from a name that never was
  pub until_it_ends : Prints
      (write 4095 (17 ∷ 34 ∷ []) ∷ alone (fleece "f0" "v0") ∷ write 4096 (153 ∷ []) ∷ view v0 4095 2 ∷ read 4095 2 ∷ cancel "f0" ∷ view v0 4095 2
      ∷ view (codes "w") 0 1 ∷ [])
      (codes "ok" ∷ returned ∷ codes "ok" ∷ codes "data 1122" ∷ codes "data 1199" ∷ returned ∷ cancelled "f0" "16384" "4096" "6"
      ∷ codes "error ESHUTDOWN" ∷ codes "error EINVAL" ∷ codes "ok" ∷ [])
  -- a write copies its unit to a view and to a job; ticks serve the job alone, and the closing cancels the view
  pub beside_a_job : Prints
      (write 0 (1 ∷ []) ∷ alone (fleece "f0" "v0") ∷ alone (full "j0" "t0") ∷ write 0 (2 ∷ []) ∷ view v0 0 1 ∷ read 0 1 ∷ status v0 allocation 0 16384
      ∷ ticks 4)
      (codes "ok" ∷ returned ∷ returned ∷ codes "ok" ∷ codes "data 01" ∷ codes "data 02" ∷ codes "status 16384:0"
      ∷ replicate 4 (codes "ok") ++ completed "j0" "16384" "16384" "11"
      ∷ codes "ok" ∷ cancelled "f0" "16384" "4096" "12" ∷ [])
  pub copied_by_the_view : map (λ (j : Job). j.copied) (after (alone (fleece "f0" "v0") ∷ alone (full "j0" "t0") ∷ write 4096 (2 ∷ [])
      ∷ ticks 1)).views ≡ (false ∷ true ∷ false ∷ false ∷ []) ∷ []
  pub copied_by_the_job : copied (after (alone (fleece "f0" "v0") ∷ alone (full "j0" "t0") ∷ write 4096 (2 ∷ []) ∷ ticks 1))
      ≡ (true ∷ true ∷ false ∷ false ∷ []) ∷ []
  -- no tick ends a view
  pub ticks_pass : Prints (alone (fleece "f0" "v0") ∷ ticks 2) (returned ∷ codes "ok" ∷ codes "ok" ∷ codes "ok" ∷ cancelled "f0" "16384" "0" "4" ∷ [])
  -- a name means the live view of that name, or else the last that ended
  pub same_name : Prints
      (alone (fleece "f0" "v0") ∷ cancel "f0" ∷ view v0 0 1 ∷ write 0 (5 ∷ []) ∷ alone (fleece "f1" "v0") ∷ write 0 (6 ∷ []) ∷ view v0 0 1
      ∷ cancel "f1" ∷ view v0 0 1 ∷ [])
      (returned ∷ returned ∷ cancelled "f0" "16384" "0" "2" ∷ codes "error ESHUTDOWN" ∷ codes "ok" ∷ returned ∷ codes "ok" ∷ codes "data 05"
      ∷ returned ∷ cancelled "f1" "16384" "4096" "8"
      ∷ codes "error ESHUTDOWN" ∷ codes "ok" ∷ [])
  -- a job is cancelled by its id and not by its target
  pub by_its_id : Prints (alone (fleece "f1" "v1") ∷ alone (fleece "f0" "v0") ∷ cancel "v0" ∷ query_nodes ∷ script.Stop ∷ [])
      (returned ∷ returned ∷ refused "JobUnknown: v0" ∷ returned_list (drive_node "16384" [] ""
      ∷ codes "{\"image\":{\"virtual-size\":16384},\"node-name\":\"v1\"}" ∷ view_node ∷ []) ∷ codes "stopped" ∷ [])
  -- the list of nodes has live views, without bitmaps
  pub as_nodes : Prints (alone add_b0 ∷ alone (fleece "f0" "v0") ∷ query_nodes ∷ cancel "f0" ∷ query_nodes ∷ [])
      (returned ∷ returned ∷ returned_list (drive_node "16384" (b0 "false" "0" "1.1 now" ∷ []) "" ∷ view_node ∷ []) ∷ returned
      ∷ cancelled "f0" "16384" "0" "4" ∷ nodes (b0 "false" "0" "1.1 now" ∷ [])
      ∷ codes "ok" ∷ [])

pub record ViewsAnswerByTheRules : Type 0 where
  -- nothing is told of how a view is stored; bitmaps are the drive's
  pub contexts : Prints
      (alone add_b0 ∷ write 0 (1 ∷ []) ∷ alone (fleece "f0" "v0") ∷ write 4096 (2 ∷ []) ∷ status v0 allocation 4096 512 ∷ status v0 dirty 0 16384
      ∷ status v0 (codes "qemu:dirty-bitmap:b1") 0 1
      ∷ status v0 allocation 0 0 ∷ status v0 allocation 16384 1 ∷ cancel "f0" ∷ status v0 (codes "other") 0 1 ∷ status v0 dirty 0 1 ∷ [])
      (returned ∷ codes "ok" ∷ returned ∷ codes "ok" ∷ codes "status 512:0" ∷ codes "status 8192:1 8192:0" ∷ codes "error EINVAL"
      ∷ codes "error EINVAL" ∷ codes "error EINVAL"
      ∷ returned ∷ cancelled "f0" "16384" "4096" "10" ∷ codes "error EINVAL" ∷ codes "error ESHUTDOWN" ∷ codes "ok" ∷ [])
  -- a range that leaves the disk is told before a view's end
  pub ranges : Prints (alone (fleece "f0" "v0") ∷ view v0 16384 0 ∷ view v0 16384 1 ∷ cancel "f0" ∷ view v0 16384 1 ∷ view v0 16383 1 ∷ [])
      (returned ∷ codes "data" ∷ codes "error EINVAL" ∷ returned ∷ cancelled "f0" "16384" "0" "4" ∷ codes "error EINVAL" ∷ codes "error ESHUTDOWN"
      ∷ codes "ok" ∷ [])
  -- nothing may be written on a view, live or ended, wherever the range lies; a node that isn't there is invalid; a flush has no range
  pub writes : Prints
      (alone (fleece "f0" "v0") ∷ script.Ask (record { way = way.Node v0; work = work.Write false; offset = 99999; length = 1; bytes = 1 ∷ [] })
      ∷ script.Ask (asked v0 (work.Zero false false) 0 1)
      ∷ script.Ask (asked v0 work.Flush 99999 1) ∷ cancel "f0" ∷ script.Ask (asked v0 (work.Zero false true) 0 1) ∷ script.Ask (asked v0 work.Flush 0 0)
      ∷ script.Ask (asked (codes "w") (work.Zero false false) 0 1) ∷ script.Ask (asked (codes "w") work.Flush 0 0) ∷ [])
      (returned ∷ codes "error EPERM" ∷ codes "error EPERM" ∷ codes "ok" ∷ returned ∷ cancelled "f0" "16384" "0" "5" ∷ codes "error EPERM"
      ∷ codes "error ESHUTDOWN" ∷ codes "error EINVAL"
      ∷ codes "error EINVAL" ∷ codes "ok" ∷ [])
