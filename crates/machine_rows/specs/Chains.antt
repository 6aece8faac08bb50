-- Chains of backups: which are taken, and what they give.
use Rattle.std.specs.Prelude.{◌≡◌, ℕ, List, [], ◌∷◌, replicate, map, codes, true, false, Bool, Some, None, Option, Ok, Err}
use Rattle.span_algebra.specs.declared.spans.Base.TheVariants.{Whole, Since, Loose}
use Rattle.plain_model.specs.Records.{RefusedFile, ChainFault, NoBackup, NotSealed, FirstNotFull, NoBase, OtherDisk, OtherSize, Gap, refused_file, overlay_of}
use Rattle.image_model.specs.Backups.{Backup, BackupState, Blank, Begun, Sealed}
use Rattle.machine_rows.specs.Jobs.{at}

-- a backup of a disk of 8 bytes in units of 2, each present unit filled with one byte
abbrev pub filled : BackupState → List Bool → ℕ → Backup
filled state present byte = record { id = 17 ∷ []; size = 8; unit = 2; state = state; present = present; content = replicate 8 byte }

abbrev pub first_three : List Bool
first_three = true ∷ true ∷ true ∷ false ∷ []

abbrev pub last_one : List Bool
last_one = false ∷ false ∷ false ∷ true ∷ []

abbrev pub t0 : Backup
t0 = filled (Sealed Whole (at 1 1)) (replicate 4 true) 1

abbrev pub t1 : Backup
t1 = filled (Sealed (Since (at 1 1)) (at 1 2)) last_one 2

abbrev pub t2 : Backup
t2 = filled (Sealed (Since (at 1 2)) (at 1 3)) (true ∷ false ∷ false ∷ true ∷ []) 3

abbrev pub refused_as : ℕ → ChainFault → Option RefusedFile
refused_as file fault = Some (record { file = file; fault = fault })

abbrev pub Refused : List Backup → ℕ → ChainFault → Type 0
Refused backups file fault = refused_file (map Ok backups) ≡ refused_as file fault

abbrev pub Taken : List Backup → Type 0
Taken backups = refused_file (map Ok backups) ≡ None

pub record GapsAreRefused : Type 0 where
  pub one : Taken (t0 ∷ [])
  pub two : Taken (t0 ∷ t1 ∷ [])
  pub three : Taken (t0 ∷ t1 ∷ t2 ∷ [])
  -- one is left out, one stands twice, two stand in the other order
  pub left_out : Refused (t0 ∷ t2 ∷ []) 1 Gap
  pub twice : Refused (t0 ∷ t1 ∷ t1 ∷ []) 2 Gap
  pub swapped : Refused (t0 ∷ t2 ∷ t1 ∷ []) 1 Gap
  -- the first has to be full, and no other
  pub not_full : Refused (t1 ∷ []) 0 FirstNotFull
  pub loose_first : Refused (filled (Sealed Loose (at 1 1)) first_three 4 ∷ []) 0 FirstNotFull
  pub full_twice : Refused (t0 ∷ t0 ∷ []) 1 NoBase
  pub loose_later : Refused (t0 ∷ filled (Sealed Loose (at 1 3)) first_three 4 ∷ []) 1 NoBase
  -- a backup that isn't finished, as the first and as a later one
  pub blank_first : Refused (filled Blank (replicate 4 false) 0 ∷ []) 0 NotSealed
  pub begun_later : Refused (t0 ∷ filled Begun last_one 5 ∷ []) 1 NotSealed
  -- of another disk, of another size, and both: the disk is named
  pub other_disk : Refused (t0 ∷ record t1 { id = 18 ∷ [] } ∷ []) 1 OtherDisk
  pub other_size : Refused (t0 ∷ record t1 { size = 16 } ∷ []) 1 OtherSize
  pub other_both : Refused (t0 ∷ record t1 { id = 18 ∷ []; size = 16 } ∷ []) 1 OtherDisk
  pub size_before_gap : Refused (t0 ∷ record t2 { size = 16 } ∷ []) 1 OtherSize
  pub base_before_disk : Refused (t0 ∷ record t0 { id = 18 ∷ [] } ∷ []) 1 NoBase
  -- the first file that has a fault is named
  pub first_fault : Refused (t0 ∷ t2 ∷ t0 ∷ []) 1 Gap
  -- a file that is no backup
  pub no_backup : refused_file (Ok t0 ∷ Err (codes "NotTarget") ∷ []) ≡ refused_as 1 (NoBackup (codes "NotTarget"))
  pub no_backup_first : refused_file (Err (codes "Magic") ∷ Ok t1 ∷ []) ≡ refused_as 0 (NoBackup (codes "Magic"))

pub record LaterUnitsLieOnTop : Type 0 where
  pub full_alone : overlay_of 8 (t0 ∷ []) ≡ replicate 8 1
  pub last_unit : overlay_of 8 (t0 ∷ t1 ∷ []) ≡ 1 ∷ 1 ∷ 1 ∷ 1 ∷ 1 ∷ 1 ∷ 2 ∷ 2 ∷ []
  -- the last that has a unit gives it, so the order counts
  pub in_order : overlay_of 8 (t0 ∷ t1 ∷ t2 ∷ []) ≡ 3 ∷ 3 ∷ 1 ∷ 1 ∷ 1 ∷ 1 ∷ 3 ∷ 3 ∷ []
  pub in_reverse : overlay_of 8 (t2 ∷ t1 ∷ t0 ∷ []) ≡ replicate 8 1
  -- larger units under smaller ones, and the last unit cut at the disk's end
  pub other_units : overlay_of 6 (record {
    id = [];
    size = 6;
    unit = 4;
    state = Sealed Whole (at 1 1);
    present = true ∷ true ∷ [];
    content = 1 ∷ 2 ∷ 3
        ∷ 4 ∷ 5 ∷ 6 ∷ [];
  }
      ∷ filled (Sealed (Since (at 1 1)) (at 1 2)) (false ∷ true ∷ false ∷ []) 9 ∷ [])
      ≡ 1 ∷ 2 ∷ 9 ∷ 9 ∷ 5 ∷ 6 ∷ []
  -- what no file has reads as zero
  pub nowhere : overlay_of 8 (t2 ∷ []) ≡ 3 ∷ 3 ∷ 0 ∷ 0 ∷ 0 ∷ 0 ∷ 3 ∷ 3 ∷ []
