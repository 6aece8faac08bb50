-- Notices: in which order they come, and at which moment.
use Rattle.std.specs.Prelude.{ℕ, List, [], ◌∷◌, ◌++◌, codes, true, Some}
use Rattle.script_model.specs.Lines.{Line}
use Rattle.script_model.specs.Lines as script
use Rattle.plain_model.specs.Outcome.{no_trouble, Torn}
use Rattle.machine_rows.specs.Play.{write, read, qmp}
use Rattle.machine_rows.specs.Commands.{alone, add_b0, full, incremental, fleece, cancel, query_nodes, query_jobs, quit_command, b0, nodes, returned, refused, stopped, cancelled, Prints}
use Rattle.machine_rows.specs.Failures.{failing, PrintsAmid}

-- a job, a view and another job
abbrev pub three : List Line
three = alone (full "j0" "t0") ∷ alone (fleece "f0" "v0") ∷ alone (full "j1" "t1") ∷ []

abbrev pub three_lines : List (List ℕ)
three_lines = returned ∷ returned ∷ returned ∷ []

pub record NoticesComeInOrder : Type 0 where
  -- in order of creation where copies fail, though the tick moved the first job to the back
  pub failing_together : PrintsAmid 5 (record no_trouble { failing = λ id. Some 1 }) (three ++ script.Tick ∷ write 4096 (1 ∷ []) ∷ query_jobs ∷ [])
      (three_lines ++ codes "ok" ∷ codes "ok" ∷ stopped "j0" "Failed" "16384" "4096" "5" ∷ stopped "f0" "Failed" "16384" "0" "5"
      ∷ stopped "j1" "Failed" "16384" "0" "5"
      ∷ codes "{\"return\":[]}" ∷ codes "ok" ∷ [])
  -- where the source breaks in the event, jobs that failed come first, then jobs as they are served, then views
  pub failing_and_breaking : PrintsAmid 5 (record no_trouble { failing = failing "f0" 1; request = Torn (0 ∷ []); broke = true })
      (three ++ script.Tick ∷ write 4096 (1 ∷ []) ∷ script.Stop ∷ [])
      (three_lines ++ codes "ok" ∷ codes "error EIO" ∷ stopped "f0" "Failed" "16384" "0" "5" ∷ stopped "j1" "SourceBroken" "16384" "4096" "5"
      ∷ stopped "j0" "SourceBroken" "16384" "8192" "5"
      ∷ codes "stopped" ∷ [])
  -- a closing cancels jobs as they are served, and then views
  pub at_the_closing : Prints (three ++ script.Tick ∷ script.Quit ∷ [])
      (three_lines ++ codes "ok" ∷ codes "ok" ∷ cancelled "j1" "16384" "0" "5" ∷ cancelled "j0" "16384" "4096" "5" ∷ cancelled "f0" "16384" "0" "5" ∷ [])
  -- two views end in order of creation
  pub two_views : Prints (alone (fleece "f1" "v1") ∷ alone (fleece "f0" "v0") ∷ write 0 (1 ∷ []) ∷ script.Quit ∷ [])
      (returned ∷ returned ∷ codes "ok" ∷ codes "ok" ∷ cancelled "f1" "16384" "4096" "4" ∷ cancelled "f0" "16384" "4096" "4" ∷ [])

pub record MomentsAreEvents : Type 0 where
  -- refused messages, empty lines and remarks count for nothing; refused commands, queries and refused requests count
  pub counted : Prints
      (alone (full "j0" "t0") ∷ qmp (codes "{") ∷ script.Nothing ∷ qmp (codes "{\"execute\":\"query-jobs\",\"id\":1.5}") ∷ cancel "j9" ∷ read 16384 1
      ∷ query_nodes ∷ cancel "j0" ∷ [])
      (returned ∷ refused "BadJson" ∷ refused "WrongType: id" ∷ refused "JobUnknown: j9" ∷ codes "error EINVAL" ∷ nodes [] ∷ returned
      ∷ cancelled "j0" "16384" "0" "5" ∷ codes "ok" ∷ [])
  -- a line that quits counts for nothing, and a command that quits does; it is answered by its reply alone, and no line after it is taken
  pub quit_line : Prints (alone (full "j0" "t0") ∷ script.Quit ∷ read 0 1 ∷ []) (returned ∷ codes "ok" ∷ cancelled "j0" "16384" "0" "2" ∷ [])
  pub quit_command : Prints (alone (full "j0" "t0") ∷ quit_command ∷ read 0 1 ∷ []) (returned ∷ returned ∷ cancelled "j0" "16384" "0" "3" ∷ [])
  pub quit_with_id : Prints (qmp (codes "{\"execute\":\"quit\",\"id\":1}") ∷ read 0 1 ∷ []) (codes "{\"id\":1,\"return\":{}}" ∷ [])
  -- a script that ends closes as by a line that quits
  pub script_end : Prints (alone (full "j0" "t0") ∷ []) (returned ∷ codes "ok" ∷ cancelled "j0" "16384" "0" "2" ∷ [])
  -- a stop closes nothing
  pub stop : Prints (alone (full "j0" "t0") ∷ script.Stop ∷ read 0 1 ∷ []) (returned ∷ codes "stopped" ∷ [])
  -- a job that is cancelled gives its bitmap back
  pub cancelled_increment : Prints (alone add_b0 ∷ write 0 (1 ∷ []) ∷ alone (incremental "j0" "t1") ∷ write 4096 (1 ∷ []) ∷ script.Tick ∷ cancel "j0"
      ∷ query_nodes ∷ [])
      (returned ∷ codes "ok" ∷ returned ∷ codes "ok" ∷ codes "ok" ∷ returned ∷ cancelled "j0" "4096" "4096" "6"
      ∷ nodes (b0 "false" "8192" "1.1 now" ∷ []) ∷ codes "ok" ∷ [])
