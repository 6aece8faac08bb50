-- From runs to backup files, and what these give when they are restored.
use Rattle.std.specs.Prelude.{◌≡◌, ℕ, List, [], ◌∷◌, ◌++◌, map}
use Rattle.script_model.specs.Lines.{Line}
use Rattle.script_model.specs.Lines as script
use Rattle.plain_model.specs.History.{disk_at}
use Rattle.plain_model.specs.Jobs.{Job}
use Rattle.plain_model.specs.Machine.{Machine, size_of}
use Rattle.plain_model.specs.Records.{Gap, NoBase, topmost}
use Rattle.image_model.specs.Backups.{Backup}
use Rattle.plain_model.specs.Laws.{sealed_by}
use Rattle.machine_rows.specs.Play.{fresh, blank, write, state_after}
use Rattle.machine_rows.specs.Commands.{alone, together, add_b0, full, incremental, fleece, backup, enabling}
use Rattle.machine_rows.specs.Jobs.{ticks, after}
use Rattle.machine_rows.specs.Increments.{increased, after_failure, paused}
use Rattle.machine_rows.specs.Merging.{a_then_b}
use Rattle.machine_rows.specs.Openings.{second}
use Rattle.machine_rows.specs.Chains.{Refused, Taken}

-- what the job will have sealed once it has copied its scope
abbrev pub sealed_from : Machine → Job → Backup
sealed_from m j = sealed_by (17 ∷ []) (size_of m) (disk_at m.history j.point) (record j { copied = j.scope })

-- the backups of the jobs that run after the lines
abbrev pub backups_in : Machine → List Backup
backups_in m = map (sealed_from m) m.jobs

abbrev pub backups : List Line → List Backup
backups lines = backups_in (after lines)

-- byte x of what these give
abbrev pub restored_at : ℕ → List Backup → ℕ
restored_at x files = topmost x 0 files

abbrev pub first : List Backup
first = backups (together (add_b0 ∷ full "j0" "t0" ∷ []) ∷ [])

abbrev pub third_of : List Line → List Line
third_of lines = lines ++ ticks 2 ++ write 0 (1 ∷ []) ∷ alone (incremental "j0" "t2") ∷ []

pub record RunsMakeChains : Type 0 where
  -- a full backup and an increment: the second has the unit that was written between them
  pub increment_taken : Taken (first ++ backups increased)
  pub increment_byte : restored_at 12288 (first ++ backups increased) ≡ 7
  pub other_byte : restored_at 0 (first ++ backups increased) ≡ 0
  -- the one after the next doesn't follow
  pub third_taken : Taken (first ++ backups increased ++ backups (third_of increased))
  pub third_byte : restored_at 0 (first ++ backups increased ++ backups (third_of increased)) ≡ 1
  pub second_byte : restored_at 12288 (first ++ backups increased ++ backups (third_of increased)) ≡ 7
  pub gap : Refused (first ++ backups (third_of increased)) 1 Gap
  -- after a failed job the next follows the last that was sealed, and has all since
  pub after_failed : Taken (first ++ backups_in (state_after (blank 16384 4096) (alone (incremental "j0" "t2") ∷ []) after_failure))
  pub after_failed_byte : restored_at 4096 (first ++ backups_in (state_after (blank 16384 4096) (alone (incremental "j0" "t2") ∷ []) after_failure)) ≡ 8
  pub after_failed_other : restored_at 12288 (first ++ backups_in (state_after (blank 16384 4096) (alone (incremental "j0" "t2") ∷ []) after_failure)) ≡ 7
  -- a pause leaves a gap, and a span that ended gives no base
  pub paused_gap : Refused (first ++ backups (paused ++ alone (enabling "b0") ∷ alone (incremental "j0" "t1") ∷ [])) 1 Gap
  pub paused_loose : Refused (first ++ backups (paused ++ alone (backup "j0" "t1" "\"sync\":\"bitmap\",\"bitmap-mode\":\"never\",\"bitmap\":\"b0\"")
      ∷ [])) 1 NoBase
  -- the next session's increment follows
  pub next_session : Taken (first ++ backups_in (state_after (blank 16384 4096) (alone (incremental "j0" "t1") ∷ []) second))
  pub next_session_byte : restored_at 4096 (first ++ backups_in (state_after (blank 16384 4096) (alone (incremental "j0" "t1") ∷ []) second)) ≡ 85
  -- an increment at the very point of its base is taken too
  pub same_point : Taken (backups (together (add_b0 ∷ full "j0" "t0" ∷ incremental "j1" "t1" ∷ []) ∷ []))

pub record RestoredBytesAreOfThePoint : Type 0 where
  -- what is written while a job runs is not in its backup
  pub written_meanwhile : restored_at 8192 (backups (alone (full "j0" "t0") ∷ script.Tick ∷ write 8192 (255 ∷ []) ∷ [])) ≡ 0
  pub larger_units : restored_at 4096 (backups_in (state_after (blank 16384 8192) (alone (full "j0" "w") ∷ write 4096 (255 ∷ []) ∷ []) (fresh 16384 4096))) ≡ 0
  pub beside_a_view : restored_at 0 (backups (write 0 (1 ∷ []) ∷ alone (fleece "f0" "v0") ∷ alone (full "j0" "t0") ∷ write 0 (2 ∷ []) ∷ [])) ≡ 1
  pub relayed_bitmaps : restored_at 0 (backups a_then_b) ≡ 1
  -- a disk of two clusters, the last of them short
  pub short_last_unit : restored_at 70000 (backups_in (state_after (blank 100352 65536) (write 70000 (90 ∷ []) ∷ alone (full "j0" "t0")
      ∷ []) (fresh 100352 65536))) ≡ 90
