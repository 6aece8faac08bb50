-- What crashes leave: which writes a disk shows, and which disks may be mixed.
use Rattle.std.specs.Prelude.{◌≡◌, ℕ, List, [], ◌∷◌, ◌++◌, replicate, true, false}
use Rattle.core_events.specs.declared.events.Work.TheVariants.{Read, Write, Zero, Flush}
use Rattle.plain_model.specs.History.{History, Entry, Wrote, Reached}
use Rattle.plain_model.specs.Lawful.{settle, disks_after}
use Rattle.machine_rows.specs.Jobs.{at}

-- a disk of three sectors, one byte written, and a point drawn
abbrev pub short : History
short = record { start = replicate 1536 0; entries = Wrote 0 (1 ∷ []) ∷ Reached (at 1 1) ∷ [] }

abbrev pub sectors : ℕ → ℕ → ℕ → List ℕ
sectors a b c = replicate 512 a ++ replicate 512 b ++ replicate 512 c

abbrev pub settled : List Entry → History
settled entries = record { start = replicate 1536 0; entries = Wrote 0 (1 ∷ []) ∷ Reached (at 1 1) ∷ entries }

pub record SettlingWritesWhatDiffers : Type 0 where
  -- a write for each run of sectors that differ
  pub two_runs : settle short (sectors 7 0 9) ≡ settled (Wrote 0 (replicate 512 7) ∷ Wrote 1024 (replicate 512 9) ∷ [])
  pub one_run : settle short (1 ∷ replicate 511 0 ++ replicate 512 3 ++ replicate 512 4) ≡ settled (Wrote 512 (replicate 512 3 ++ replicate 512 4) ∷ [])
  pub first_sector : settle short (sectors 0 0 0) ≡ settled (Wrote 0 (replicate 512 0) ∷ [])
  pub nothing : settle short (1 ∷ replicate 1535 0) ≡ short

abbrev pub a : List ℕ
a = 1 ∷ []

abbrev pub b : List ℕ
b = 2 ∷ []

abbrev pub c : List ℕ
c = 3 ∷ []

pub record SyncsLeaveTheLastDisk : Type 0 where
  pub write : disks_after (a ∷ []) (Write false) true b ≡ a ∷ b ∷ []
  pub two_writes : disks_after (disks_after (a ∷ []) (Write false) true b) (Zero false true) true c ≡ a ∷ b ∷ c ∷ []
  pub write_that_failed : disks_after (a ∷ []) (Write false) false b ≡ a ∷ b ∷ []
  pub flush : disks_after (a ∷ b ∷ []) Flush true b ≡ b ∷ []
  pub flush_that_failed : disks_after (a ∷ b ∷ []) Flush false b ≡ a ∷ b ∷ []
  pub synced_write : disks_after (a ∷ b ∷ []) (Write true) true c ≡ c ∷ []
  pub synced_zero : disks_after (a ∷ []) (Zero true false) true c ≡ c ∷ []
  pub synced_write_that_failed : disks_after (a ∷ []) (Write true) false c ≡ a ∷ c ∷ []
  pub read : disks_after (a ∷ b ∷ []) Read true b ≡ a ∷ b ∷ []
