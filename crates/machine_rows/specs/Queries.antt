-- Lists of jobs and nodes.
use Prim.Native.String.{String}
use Rattle.std.specs.Prelude.{◌≡◌, ℕ, List, [], ◌∷◌, ◌++◌, codes}
use Rattle.script_model.specs.Lines.{Line}
use Rattle.script_model.specs.Lines as script
use Rattle.machine_rows.specs.Play.{fresh, blank, write, output}
use Rattle.machine_rows.specs.Commands.{alone, told, quoted, add_b0, removing, full, incremental, fleece, query_jobs, query_nodes, returned_list, nodes, printed, returned, refused, completed, cancelled, Prints}
use Rattle.machine_rows.specs.Jobs.{ticks}

-- a job in the list: its progress, its id and its total
abbrev pub job : String → String → String → List ℕ
job current id total =
    codes "{\"current-progress\":" ++ codes current ++ codes ",\"id\":" ++ quoted id ++ codes ",\"status\":\"running\",\"total-progress\":" ++ codes total ++ codes ",\"type\":\"backup\"}"

abbrev pub jobs : List (List ℕ) → List ℕ
jobs items = returned_list items

pub record ListsShowWhatRuns : Type 0 where
  pub no_jobs : Prints (query_jobs ∷ []) (codes "{\"return\":[]}" ∷ codes "ok" ∷ [])
  -- jobs in the order in which they are served, and then views
  pub in_order : Prints (alone (fleece "f0" "v0") ∷ alone (full "j0" "t0") ∷ alone (full "j1" "t1") ∷ query_jobs ∷ script.Tick ∷ query_jobs
      ∷ write 4096 (1 ∷ []) ∷ query_jobs ∷ script.Stop ∷ [])
      (returned ∷ returned ∷ returned ∷ jobs (job "0" "j0" "16384" ∷ job "0" "j1" "16384" ∷ job "0" "f0" "16384" ∷ []) ∷ codes "ok"
      ∷ jobs (job "0" "j1" "16384" ∷ job "4096" "j0" "16384" ∷ job "0" "f0" "16384" ∷ [])
      ∷ codes "ok" ∷ jobs (job "4096" "j1" "16384" ∷ job "8192" "j0" "16384" ∷ job "4096" "f0" "16384" ∷ []) ∷ codes "stopped" ∷ [])
  -- the last unit ends with the disk
  pub short_last_unit : output (blank 16896 4096) (alone add_b0 ∷ write 16384 (1 ∷ []) ∷ alone (incremental "j0" "t0") ∷ alone (fleece "f0" "v0")
      ∷ query_jobs ∷ ticks 2) (fresh 16896 4096)
      ≡ printed (returned ∷ codes "ok" ∷ returned ∷ returned ∷ jobs (job "0" "j0" "512" ∷ job "0" "f0" "16896" ∷ []) ∷ codes "ok" ∷ codes "ok"
      ∷ completed "j0" "512" "512" "7" ∷ codes "ok" ∷ cancelled "f0" "16896" "0" "8" ∷ [])
  pub no_bitmaps : Prints (query_nodes ∷ []) (codes "{\"return\":[{\"dirty-bitmaps\":[],\"image\":{\"virtual-size\":16384},\"node-name\":\"drive0\"}]}" ∷ codes "ok" ∷ [])
  -- names as JSON has them: quotes and backslashes are escaped, and other characters are not
  pub names : Prints (alone (told "block-dirty-bitmap-add" (codes "\"node\":\"drive0\",\"name\":\"a\\\"\\\\\\/\\u00fc\"")) ∷ alone (removing "b\\\"")
      ∷ query_nodes ∷ [])
      (returned ∷ refused "NoSuchBitmap: b\\\"" ∷ nodes ((codes "{\"busy\":false,\"count\":0,\"granularity\":4096,\"inconsistent\":false,\"name\":\"a\\\"\\\\/" ++ 195 ∷ 188 ∷ codes "\",\"persistent\":false,\"recording\":true,\"x-span\":\"1.1 now\"}") ∷ []) ∷ codes "ok" ∷ [])
  -- a truth value without effect
  pub flat : Prints (alone (told "query-named-block-nodes" (codes "\"flat\":true")) ∷ []) (nodes [] ∷ codes "ok" ∷ [])
