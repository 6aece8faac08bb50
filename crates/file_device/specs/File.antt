-- One file of a depot, as contracts see it that speak of it alone.
use Rattle.std.specs.Prelude.{◌≡◌, ◌⊎◌, ℕ, List, [], ◌∷◌, Bool, IsTrue}
use Rattle.disk_model.specs.Files.{IsOutcome}
use Rattle.disk_model.specs.World.{World, versions}

-- whether it is told, its bytes as reads give them, and its versions: what it may be after a crash
pub record File : Type 0 where
  pub tells : Bool
  pub bytes : List ℕ
  pub past : List (List ℕ)

-- a file of a depot, by its number
unfoldable pub file_of : World → ℕ → File
file_of w f = record { tells = w.tells; bytes = w.seen f; past = versions w f }

-- where it is told, reads give it with X
abbrev pub Gives : File → (List ℕ → Type 0) → Type 0
Gives file X = IsTrue file.tells → X file.bytes

-- reads give it with S, and each crash now leaves it with P
pub record Has (S P : List ℕ → Type 0) (file : File) : Type 0 where
  pub seen : Gives file S
  pub each : (c : List ℕ) → IsOutcome file.past c → P c

-- both with P
abbrev pub Is : (List ℕ → Type 0) → File → Type 0
Is P = Has P P

-- nothing is left to be lost: a crash leaves what reads give, where that is told
abbrev pub IsSettled : File → Type 0
IsSettled file = (file.past ≡ []) ⊎ (file.past ≡ file.bytes ∷ [])
