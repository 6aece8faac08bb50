-- Full backups, and what guests write meanwhile.
use Rattle.std.specs.Prelude.{◌≡◌, [], ◌∷◌, ◌++◌, replicate, codes, true, false, take, drop}
use Rattle.script_model.specs.Lines as script
use Rattle.span_algebra.specs.declared.spans.Base.TheVariants.{Whole}
use Rattle.plain_model.specs.History.{disk_at}
use Rattle.machine_rows.specs.Play.{fresh, blank, write, read, zero, output, state_after}
use Rattle.machine_rows.specs.Commands.{alone, full, printed, returned, completed, Prints}
use Rattle.machine_rows.specs.Jobs.{ticks, after, at, claims, copied}

pub record FullBackupsCopyAll : Type 0 where
  -- a unit at each tick, and the last tick seals
  pub four_units : output (blank 16384 4096) (alone (full "j0" "t0") ∷ ticks 5 ++ script.Quit ∷ []) (fresh 16384 4096)
      ≡ codes "{\"return\":{}}\nok\nok\nok\nok\nok\n{\"data\":{\"device\":\"j0\",\"len\":16384,\"offset\":16384,\"speed\":0,\"type\":\"backup\"},\"event\":\"BLOCK_JOB_COMPLETED\",\"timestamp\":{\"microseconds\":6,\"seconds\":0}}\nok\n"
  pub claim : claims (after (alone (full "j0" "t0") ∷ [])) ≡ record { base = Whole; point = at 1 1; scope = replicate 4 true } ∷ []
  -- a write copies its unit before it changes it, so that three more ticks copy and a fourth seals
  pub written_meanwhile : Prints (alone (full "j0" "t0") ∷ script.Tick ∷ write 8192 (255 ∷ []) ∷ ticks 3 ++ read 8192 1 ∷ [])
      (returned ∷ codes "ok" ∷ codes "ok" ∷ codes "ok" ∷ codes "ok" ∷ codes "ok" ∷ completed "j0" "16384" "16384" "6" ∷ codes "data ff" ∷ codes "ok" ∷ [])
  pub copied_by_a_write : copied (after (alone (full "j0" "t0") ∷ script.Tick ∷ write 8192 (255 ∷ []) ∷ [])) ≡ (true ∷ false ∷ true ∷ false ∷ []) ∷ []
  -- the next ticks pass over the copied unit
  pub copied_by_ticks : copied (after (alone (full "j0" "t0") ∷ script.Tick ∷ write 8192 (255 ∷ []) ∷ ticks 2)) ≡ replicate 4 true ∷ []
  -- the disk at the point is as before the write
  pub disk_of_the_point : take 1 (drop 8192 (disk_at (after (alone (full "j0" "t0") ∷ script.Tick ∷ write 8192 (255 ∷ []) ∷ [])).history (at 1 1))) ≡ 0 ∷ []
  -- a write across two units copies both
  pub across_units : copied (after (alone (full "j0" "t0") ∷ write 4095 (1 ∷ 2 ∷ []) ∷ [])) ≡ (true ∷ true ∷ false ∷ false ∷ []) ∷ []
  -- a zero copies as a write does
  pub by_a_zero : copied (after (alone (full "j0" "t0") ∷ zero 4096 4096 ∷ [])) ≡ (false ∷ true ∷ false ∷ false ∷ []) ∷ []
  -- what is denied copies nothing
  pub denied : copied (after (alone (full "j0" "t0") ∷ write 16383 (1 ∷ 2 ∷ []) ∷ zero 16384 1 ∷ [])) ≡ replicate 4 false ∷ []
  -- a unit is a cluster of the target: two of 8,192 bytes
  pub larger_units : output (blank 16384 8192) (alone (full "j0" "w") ∷ write 4096 (255 ∷ []) ∷ ticks 2) (fresh 16384 4096)
      ≡ printed (returned ∷ codes "ok" ∷ codes "ok" ∷ codes "ok" ∷ completed "j0" "16384" "16384" "4" ∷ codes "ok" ∷ [])
  pub larger_units_copied : copied (state_after (blank 16384 8192) (alone (full "j0" "w") ∷ write 4096 (255 ∷ []) ∷ []) (fresh 16384 4096))
      ≡ (true ∷ false ∷ []) ∷ []
  -- ticks serve two jobs in turn
  pub in_turn : Prints (alone (full "j0" "t0") ∷ alone (full "j1" "t1") ∷ ticks 10)
      (returned ∷ returned ∷ replicate 9 (codes "ok") ++ completed "j0" "16384" "16384" "11" ∷ codes "ok" ∷ completed "j1" "16384" "16384" "12"
      ∷ codes "ok" ∷ [])
  -- the last unit ends with the disk
  pub short_last_unit : output (blank 100352 65536) (write 70000 (90 ∷ []) ∷ alone (full "j0" "t0") ∷ ticks 3) (fresh 100352 65536)
      ≡ printed (codes "ok" ∷ returned ∷ codes "ok" ∷ codes "ok" ∷ codes "ok" ∷ completed "j0" "100352" "100352" "5" ∷ codes "ok" ∷ [])
  -- without a job a tick does nothing
  pub idle : Prints (ticks 2) (replicate 3 (codes "ok"))
