-- A new first sector of a file.
use Rattle.std.specs.Prelude.{◌≡◌, ◌⊎◌, List, ℕ}
use Rattle.disk_model.specs.Files.{overlay}
use Rattle.file_device.specs.File.{File}

-- the old file with this sector in the place of its first
abbrev pub New : List ℕ → File → List ℕ → Type 0
New sector old c = c ≡ overlay old.bytes 0 sector

-- that, or the old file
abbrev pub OldOrNew : List ℕ → File → List ℕ → Type 0
OldOrNew sector old c = (c ≡ old.bytes) ⊎ New sector old c
