-- What a file was, and what a crash may leave of it.
-- The versions of a file: what it is, then what it was before each write since the last sync that succeeded, and last what it was at that sync.
-- A file whose versions are not told, or that is not there, has none.
use Rattle.std.specs.Prelude.{◌≡◌, ◌⊎◌, ℕ, ◌+◌, ◌-◌, ◌*◌, ◌<◌, ◌≤◌, List, [], ◌∷◌, ◌++◌, length, get_or, take, drop, replicate, Bool, IsTrue}
use Rattle.std.specs.Int.{Width, byte_len, from_be_bytes, w16, w32, w64}

-- a byte of a file; zero past its end
abbrev pub byte : List ℕ → ℕ → ℕ
byte file i = get_or file i 0

-- what n bytes read from here, with zeros past the end
unfoldable pub reading : List ℕ → ℕ → ℕ → List ℕ
reading file from n = take n (drop from file ++ replicate n 0)

-- the file with these bytes at this place; what lies between its old end and them is zero
unfoldable pub overlay : List ℕ → ℕ → List ℕ → List ℕ
overlay old place [] = old
overlay old place (b ∷ bs) = take place old ++ replicate (place - length old) 0 ++ (b ∷ bs) ++ drop (place + length (b ∷ bs)) old

-- sector k of this file is that of another, as far as this file goes
abbrev pub AgreesAt : ℕ → List ℕ → List ℕ → Type 0
AgreesAt k file other = (i : ℕ) → 512 * k ≤ i → i < 512 * k + 512 → i < length file → byte file i ≡ byte other i

-- some version has P
abbrev pub SomeVersion : (List ℕ → Type 0) → List (List ℕ) → Type 0
SomeVersion P [] = ⊥
SomeVersion P (v ∷ vs) = P v ⊎ SomeVersion P vs

-- each version has P
abbrev pub EachVersion : (List ℕ → Type 0) → List (List ℕ) → Type 0
EachVersion P [] = Unit {0}
EachVersion P (v ∷ vs) = P v × EachVersion P vs

-- what the file is
abbrev pub latest : List (List ℕ) → List ℕ
latest [] = []
latest (v ∷ vs) = v

-- what it was at the last sync
abbrev pub synced : List (List ℕ) → List ℕ
synced [] = []
synced (v ∷ []) = v
synced (v ∷ w ∷ vs) = synced (w ∷ vs)

-- no version is shorter than an earlier one
abbrev pub IsGrown : List (List ℕ) → Type 0
IsGrown [] = Unit {0}
IsGrown (v ∷ []) = Unit {0}
IsGrown (v ∷ w ∷ vs) = (length w ≤ length v) × IsGrown (w ∷ vs)

-- A crash may leave this: each sector as in some version, and a length between.
pub record IsOutcome (versions : List (List ℕ)) (file : List ℕ) : Type 0 where
  pub no_shorter : length (synced versions) ≤ length file
  pub no_longer : length file ≤ length (latest versions)
  pub sectors : (k : ℕ) → SomeVersion (AgreesAt k file) versions

-- A write of these bytes was done in part: each sector is old or as written.
pub record IsTorn (place : ℕ) (bytes old new : List ℕ) : Type 0 where
  pub no_shorter : length old ≤ length new
  pub no_longer : length new ≤ length (overlay old place bytes)
  pub sectors : (k : ℕ) → AgreesAt k new old ⊎ AgreesAt k new (overlay old place bytes)

-- the versions after a write that succeeded
abbrev pub after_write : ℕ → List ℕ → List (List ℕ) → List (List ℕ)
after_write place bytes [] = []
after_write place bytes (v ∷ vs) = overlay v place bytes ∷ v ∷ vs

-- the versions after a write that may have failed
abbrev pub MayWrite : ℕ → List ℕ → List (List ℕ) → List (List ℕ) → Type 0
MayWrite place bytes [] new = new ≡ []
MayWrite place bytes (v ∷ vs) new = (new ≡ v ∷ vs) ⊎ ((w : List ℕ) × IsTorn place bytes v w × (new ≡ w ∷ v ∷ vs))

-- the versions after a sync that succeeded
abbrev pub after_sync : List (List ℕ) → List (List ℕ)
after_sync [] = []
after_sync (v ∷ vs) = v ∷ []

-- the versions after a sync that may have failed
abbrev pub MaySync : List (List ℕ) → List (List ℕ) → Type 0
MaySync old new = (new ≡ old) ⊎ (new ≡ after_sync old)

-- what the file is told to be is its last version, where these are told
abbrev pub IsLatest : List ℕ → List (List ℕ) → Type 0
IsLatest file [] = Unit {0}
IsLatest file (v ∷ vs) = file ≡ v

-- versions are told by a depot that tells its files
abbrev pub IsTold : Bool → List (List ℕ) → Type 0
IsTold tells [] = Unit {0}
IsTold tells (v ∷ vs) = IsTrue tells

-- the number of a width at an offset, the highest byte first
unfoldable pub number_at : Width → List ℕ → ℕ → ℕ
number_at w file place = from_be_bytes w (reading file place (byte_len w))

-- those of two, four and eight bytes
abbrev pub u16_at : List ℕ → ℕ → ℕ
u16_at file place = number_at w16 file place

abbrev pub u32_at : List ℕ → ℕ → ℕ
u32_at file place = number_at w32 file place

abbrev pub u64_at : List ℕ → ℕ → ℕ
u64_at file place = number_at w64 file place
