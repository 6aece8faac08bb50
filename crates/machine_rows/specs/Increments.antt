-- Incremental backups by a bitmap.
use Rattle.std.specs.Prelude.{◌≡◌, ℕ, List, [], ◌∷◌, ◌++◌, replicate, codes, true, false, Some}
use Rattle.script_model.specs.Lines.{Line}
use Rattle.script_model.specs.Lines as script
use Rattle.span_algebra.specs.declared.spans.Base.TheVariants.{Whole, Since, Loose}
use Rattle.plain_model.specs.Machine.{Machine}
use Rattle.plain_model.specs.Actions.{Held, Target}
use Rattle.plain_model.specs.Outcome.{no_trouble}
use Rattle.machine_rows.specs.Play.{Troubles, empty_store, fresh, blank, write, status, output_amid, state_amid, at_event, all_well}
use Rattle.machine_rows.specs.Commands.{alone, together, adding, add_b0, backup, full, incremental, enabling, disabling, query_nodes, printed, returned, refused, completed, stopped, b0, nodes, Prints}
use Rattle.machine_rows.specs.Commands as Commands
use Rattle.machine_rows.specs.Jobs.{ticks, after, at, claims, copied}

-- a bitmap and a full backup begin at one point, and the backup completes
abbrev pub begun : List Line
begun = together (add_b0 ∷ full "j0" "t0" ∷ []) ∷ ticks 5

abbrev pub begun_lines : List (List ℕ)
begun_lines = returned ∷ replicate 5 (codes "ok") ++ completed "j0" "16384" "16384" "6" ∷ []

-- and then an increment of the last unit
abbrev pub increased : List Line
increased = begun ++ write 12288 (7 ∷ []) ∷ alone (incremental "j0" "t1") ∷ []

pub record IncrementsCopyWhatChanged : Type 0 where
  pub one_unit : Prints (increased ++ ticks 2)
      (begun_lines ++ codes "ok" ∷ returned ∷ codes "ok" ∷ codes "ok" ∷ completed "j0" "4096" "4096" "10" ∷ codes "ok" ∷ [])
  pub first_claim : claims (after (together (add_b0 ∷ full "j0" "t0" ∷ []) ∷ [])) ≡ record { base = Whole; point = at 1 1; scope = replicate 4 true } ∷ []
  pub second_claim : claims (after increased) ≡ record { base = Since (at 1 1); point = at 1 2; scope = false ∷ false ∷ false ∷ true ∷ [] } ∷ []
  -- the bitmap has what was written; it is busy while the job runs, and then counts from the job's point on
  pub bitmap : Prints (begun ++ write 12288 (7 ∷ []) ∷ query_nodes ∷ alone (incremental "j0" "t1") ∷ query_nodes ∷ ticks 2 ++ query_nodes ∷ [])
      (begun_lines ++ codes "ok" ∷ nodes (b0 "false" "4096" "1.1 now" ∷ []) ∷ returned ∷ nodes (b0 "true" "4096" "1.1 now" ∷ []) ∷ codes "ok" ∷ codes "ok"
      ∷ completed "j0" "4096" "4096" "12" ∷ nodes (b0 "false" "0" "1.2 now" ∷ []) ∷ codes "ok" ∷ [])
  -- so its status shows what the job copies, and not what was written since
  pub status_while_busy : Prints (alone add_b0 ∷ write 0 (1 ∷ []) ∷ alone (incremental "j0" "t1") ∷ write 8192 (2 ∷ [])
      ∷ status (codes "drive0") (codes "qemu:dirty-bitmap:b0") 0 16384 ∷ script.Stop ∷ [])
      (returned ∷ codes "ok" ∷ returned ∷ codes "ok" ∷ codes "status 4096:1 12288:0" ∷ codes "stopped" ∷ [])
  -- a third backup follows the second
  pub third_claim : claims (after (increased ++ ticks 2 ++ write 0 (1 ∷ []) ∷ alone (incremental "j0" "t2") ∷ []))
      ≡ record { base = Since (at 1 2); point = at 1 3; scope = true ∷ false ∷ false ∷ false ∷ [] } ∷ []
  -- what is written while the job runs is left for the next one
  pub written_meanwhile : claims (after (increased ++ write 0 (1 ∷ []) ∷ ticks 2 ++ alone (incremental "j0" "t2") ∷ []))
      ≡ record { base = Since (at 1 2); point = at 1 3; scope = true ∷ false ∷ false ∷ false ∷ [] } ∷ []

pub record BitmapsEndByTheirMode : Type 0 where
  -- a bitmap that doesn't record is empty after a backup, and its span is the backup's point
  pub disabled : Prints (alone add_b0 ∷ write 0 (1 ∷ []) ∷ alone (disabling "b0")
      ∷ alone (backup "j0" "t1" "\"sync\":\"bitmap\",\"bitmap-mode\":\"on-success\",\"bitmap\":\"b0\"") ∷ write 4096 (1 ∷ []) ∷ ticks 2 ++ query_nodes ∷ [])
      (returned ∷ codes "ok" ∷ returned ∷ returned ∷ codes "ok" ∷ codes "ok" ∷ codes "ok" ∷ completed "j0" "4096" "4096" "7"
      ∷ nodes (Commands.bitmap "false" "0" "4096" "false" "b0" "true" "false" "1.3 1.3" ∷ []) ∷ codes "ok" ∷ [])
  -- with the mode never it keeps what it had, and its span
  pub never : Prints (alone add_b0 ∷ write 0 (1 ∷ []) ∷ alone (backup "j0" "t1" "\"sync\":\"bitmap\",\"bitmap-mode\":\"never\",\"bitmap\":\"b0\"")
      ∷ write 4096 (1 ∷ []) ∷ ticks 2 ++ query_nodes ∷ [])
      (returned ∷ codes "ok" ∷ returned ∷ codes "ok" ∷ codes "ok" ∷ codes "ok" ∷ completed "j0" "4096" "4096" "6"
      ∷ nodes (b0 "false" "8192" "1.1 now" ∷ []) ∷ codes "ok" ∷ [])
  -- otherwise what was written since takes its place
  pub on_success : Prints (alone add_b0 ∷ write 0 (1 ∷ []) ∷ alone (incremental "j0" "t1") ∷ write 4096 (1 ∷ []) ∷ ticks 2 ++ query_nodes ∷ [])
      (returned ∷ codes "ok" ∷ returned ∷ codes "ok" ∷ codes "ok" ∷ codes "ok" ∷ completed "j0" "4096" "4096" "6"
      ∷ nodes (b0 "false" "4096" "1.2 now" ∷ []) ∷ codes "ok" ∷ [])

pub record UnitsMeetGranules : Type 0 where
  -- a unit is copied where a granule that it meets is dirty, whether granules are smaller than units or larger
  pub smaller_granules : claims (after (alone (adding "b0" ",\"granularity\":512") ∷ write 4608 (1 ∷ []) ∷ alone (incremental "j0" "t1") ∷ []))
      ≡ record { base = Since (at 1 1); point = at 1 2; scope = false ∷ true ∷ false ∷ false ∷ [] } ∷ []
  pub larger_granules : claims (after (alone (adding "b0" ",\"granularity\":8192") ∷ write 4608 (1 ∷ []) ∷ alone (incremental "j0" "t1") ∷ []))
      ≡ record { base = Since (at 1 1); point = at 1 2; scope = true ∷ true ∷ false ∷ false ∷ [] } ∷ []
  pub larger_units : claims (state_amid (blank 16384 8192) all_well (alone add_b0 ∷ write 4608 (1 ∷ []) ∷ alone (incremental "j0" "t1")
      ∷ []) (fresh 16384 4096))
      ≡ record { base = Since (at 1 1); point = at 1 2; scope = true ∷ false ∷ [] } ∷ []
  -- a write outside of the scope copies nothing
  pub outside : copied (after (increased ++ write 0 (1 ∷ []) ∷ [])) ≡ replicate 4 false ∷ []
  -- the span begins at the job's point, though a later one was drawn before its end
  pub later_point : Prints (alone add_b0 ∷ alone (incremental "j0" "t1") ∷ alone (adding "a" "") ∷ script.Tick ∷ query_nodes ∷ [])
      (returned ∷ returned ∷ returned ∷ codes "ok" ∷ completed "j0" "0" "0" "4"
      ∷ nodes (b0 "false" "0" "1.2 now" ∷ Commands.bitmap "false" "0" "4096" "false" "a" "false" "true" "1.3 now" ∷ []) ∷ codes "ok" ∷ [])

-- the write of the last unit's bytes fails at the tick
abbrev pub failing : Troubles
failing = at_event 10 (record no_trouble { failing = λ id. Some 3 })

abbrev pub failed : List Line
failed = increased ++ write 4096 (8 ∷ []) ∷ script.Tick ∷ []

abbrev pub after_failure : Machine
after_failure = state_amid (blank 16384 4096) failing failed (fresh 16384 4096)

pub record FailedIncrementsAreMadeGood : Type 0 where
  -- the bitmap has both what it had and what was written since, and the next job copies both
  pub repeated : output_amid (blank 16384 4096) failing (failed ++ query_nodes ∷ alone (incremental "j0" "t2") ∷ ticks 3) (fresh 16384 4096)
      ≡ printed (begun_lines ++ codes "ok" ∷ returned ∷ codes "ok" ∷ codes "ok" ∷ stopped "j0" "Failed" "4096" "0" "10"
      ∷ nodes (b0 "false" "8192" "1.1 now" ∷ []) ∷ returned
      ∷ codes "ok" ∷ codes "ok" ∷ codes "ok" ∷ completed "j0" "8192" "8192" "15" ∷ codes "ok" ∷ [])
  pub second_claim : claims (state_amid (blank 16384 4096) failing (failed ++ alone (incremental "j0" "t2") ∷ []) (fresh 16384 4096))
      ≡ record { base = Since (at 1 1); point = at 1 3; scope = false ∷ true ∷ false ∷ true ∷ [] } ∷ []

abbrev pub used : List ℕ → Held
used name = Target false 16384 (empty_store 16384 4096 1000)

pub record TargetsAreUsedOnce : Type 0 where
  -- what a failed job left can't be taken again, and neither can what a completed one sealed
  pub after_failed : output_amid used all_well (alone (incremental "j0" "t1") ∷ script.Stop ∷ []) after_failure
      ≡ printed (refused "TargetUsed: t1" ∷ codes "stopped" ∷ [])
  pub after_completed : output_amid used all_well (alone (full "j0" "t0") ∷ script.Stop ∷ []) (after (alone (full "j0" "t0") ∷ ticks 5))
      ≡ printed (refused "TargetUsed: t0" ∷ codes "stopped" ∷ [])

-- the backup is done, the bitmap is disabled, and then the guest writes
abbrev pub paused : List Line
paused = begun ++ alone (disabling "b0") ∷ write 0 (1 ∷ []) ∷ []

pub record PausesLeaveGaps : Type 0 where
  -- what follows an enabled bitmap builds on the point of enabling, which no backup has
  pub since_enabling : claims (after (paused ++ alone (enabling "b0") ∷ alone (incremental "j0" "t1") ∷ []))
      ≡ record { base = Since (at 1 3); point = at 1 4; scope = replicate 4 false } ∷ []
  -- nothing is missing, so the first tick seals
  pub nothing_to_copy : Prints (paused ++ alone (enabling "b0") ∷ alone (incremental "j0" "t1") ∷ script.Tick ∷ [])
      (begun_lines ++ returned ∷ codes "ok" ∷ returned ∷ returned ∷ codes "ok" ∷ completed "j0" "0" "0" "11" ∷ codes "ok" ∷ [])
  -- a span that ended before builds on nothing
  pub loose : claims (after (paused ++ alone (backup "j0" "t1" "\"sync\":\"bitmap\",\"bitmap-mode\":\"never\",\"bitmap\":\"b0\"") ∷ []))
      ≡ record { base = Loose; point = at 1 3; scope = replicate 4 false } ∷ []
  -- a span that ends at the very point of the backup builds on its start, and one that is enabled in the transaction that disabled it goes on
  pub disabled_at_the_point : claims (after (begun ++ together (disabling "b0"
      ∷ backup "j0" "t1" "\"sync\":\"bitmap\",\"bitmap-mode\":\"never\",\"bitmap\":\"b0\"" ∷ []) ∷ []))
      ≡ record { base = Since (at 1 1); point = at 1 2; scope = replicate 4 false } ∷ []
  pub disabled_and_enabled : claims (after (begun ++ together (disabling "b0" ∷ enabling "b0" ∷ []) ∷ alone (incremental "j0" "t1") ∷ []))
      ≡ record { base = Since (at 1 1); point = at 1 3; scope = replicate 4 false } ∷ []
