-- What is read of an image's header.
use Rattle.std.specs.Prelude.{◌≡◌, ◌≢◌, ℕ, List, IsTrue}
use Rattle.disk_model.specs.World.{World}
use Rattle.qc_layout.specs.declared.header.Header.{Header}
use Rattle.qc_layout.specs.declared.header.HeaderFault.TheVariants as header_faults
use Rattle.qc_layout.specs.declared.header.Part.{Part}
use Rattle.qc_layout.specs.Laws.{BeginAlike}
use Rattle.qc_layout.specs.Spelling.{Spells, IsFault}
use Rattle.image_header.specs.declared.refusals.NoHeader.{NoHeader}
use Rattle.image_header.specs.declared.refusals.NoHeader.TheVariants.{Fault, Failed, Memory}

-- a header that a reader gave for some bytes; for those of the file, where files are told
pub record IsRead (h : Header) (f : ℕ) (w : World) : Type 0 where
  pub bytes : List ℕ
  pub part : Part
  pub spells : Spells part bytes h
  pub told : IsTrue w.tells → w.seen f ≡ bytes

-- the fault's rule is the first that the file fails
abbrev pub IsRefused : Part → List ℕ → NoHeader → Type 0
IsRefused part file (Fault fault) = (fault ≢ header_faults.Memory) × IsFault part file fault
IsRefused part file Failed = Unit {0}
IsRefused part file Memory = Unit {0}

-- these bytes are as many of the file's first ones as any header takes
abbrev pub StartsAs : List ℕ → List ℕ → Type 0
StartsAs bytes file = BeginAlike 65536 bytes file
