-- The list of header extensions (qcow2 specification, "Header extension").
use Rattle.std.specs.Prelude.{◌≡◌, ◌≢◌, ◌⊎◌, ℕ, suc, ◌+◌, ◌-◌, ◌*◌, ◌/◌, ◌^◌, ◌<◌, ◌≤◌, min, List, [], ◌∷◌, ◌++◌, Bool, not, ◌&&◌, ◌||◌, nat_lt, ◌==◌, if◌then◌else◌, Option, Some, None}
use Rattle.disk_model.specs.Files.{reading, u32_at, u64_at}
use Rattle.qc_layout.specs.declared.extension.Extension.{Extension}
use Rattle.qc_layout.specs.declared.header.DirPlace.{DirPlace}
use Rattle.qc_layout.specs.declared.header.Own.{Own}
use Rattle.qc_layout.specs.declared.header.Own.TheVariants as owns
use Rattle.qc_layout.specs.declared.header.Part.{Part}
use Rattle.qc_layout.specs.declared.header.Part.TheVariants as parts
use Rattle.qc_layout.specs.declared.header.Fields.{Fields}
use Rattle.qc_layout.specs.declared.header.HeaderFault.TheVariants.{Extensions, TooLong, BitmapsExtension, Autoclear, OwnExtension}
use Rattle.qc_layout.specs.Header.{Rule, rule, has_bit, is_place}

-- the kinds that are known: the backing file's format, names of features, persistent bitmaps, and this project's own
abbrev pub backing_kind : ℕ
backing_kind = 0xe2792aca

abbrev pub names_kind : ℕ
names_kind = 0x6803f857

abbrev pub bitmaps_kind : ℕ
bitmaps_kind = 0x23852875

abbrev pub own_kind : ℕ
own_kind = 0x52424b31

-- ---- the list

-- a content takes a multiple of eight bytes
abbrev pub padded : ℕ → ℕ
padded n = (n + 7) / 8 * 8

-- extensions stand in the first cluster, and in no more than its first 65536 bytes
abbrev pub list_end : ℕ → ℕ
list_end bits = min (2 ^ bits) 65536

-- the list ends here: fewer than eight bytes are left, or a kind of 0 stands here
abbrev pub IsEnd : List ℕ → ℕ → ℕ → Type 0
IsEnd file end from = (end < from + 8) ⊎ ((from + 8 ≤ end) × (u32_at file from ≡ 0))

-- an extension stands here, whole: its kind, its content's length, its content
pub record IsExtension (file : List ℕ) (end from : ℕ) (e : Extension) : Type 0 where
  pub inside : from + 8 ≤ end
  pub kind : e.kind ≡ u32_at file from
  pub some : e.kind ≢ 0
  pub place : e.place ≡ from + 8
  pub length : e.length ≡ u32_at file (from + 4)
  pub whole : e.place + e.length ≤ end

-- where the next one stands
abbrev pub behind : Extension → ℕ
behind e = e.place + padded e.length

-- these stand in a row from here on
abbrev pub StandInRow : List ℕ → ℕ → ℕ → List Extension → Type 0
StandInRow file end from [] = Unit {0}
StandInRow file end from (e ∷ es) = IsExtension file end from e × StandInRow file end (behind e) es

-- and up to the list's end
abbrev pub AreExtensions : List ℕ → ℕ → ℕ → List Extension → Type 0
AreExtensions file end from [] = IsEnd file end from
AreExtensions file end from (e ∷ es) = IsExtension file end from e × AreExtensions file end (behind e) es

-- ---- what is found in it

-- how many are of a kind
abbrev pub count_of : ℕ → List Extension → ℕ
count_of kind [] = 0
count_of kind (e ∷ es) = if e.kind == kind then suc (count_of kind es) else count_of kind es

-- the first of a kind
abbrev pub first_of_kind : ℕ → List Extension → Option Extension
first_of_kind kind [] = None
first_of_kind kind (e ∷ es) = if e.kind == kind then Some e else first_of_kind kind es

-- one that a rewritten header keeps
abbrev pub is_kept : Extension → Bool
is_kept e = not ((e.kind == backing_kind) || (e.kind == names_kind) || (e.kind == bitmaps_kind) || (e.kind == own_kind))

-- its bytes, from its kind to the end of its padding
abbrev pub bytes_of : List ℕ → Extension → List ℕ
bytes_of file e = reading file (e.place - 8) (8 + padded e.length)

-- the bytes of all that are kept
abbrev pub kept_bytes : List ℕ → List Extension → List ℕ
kept_bytes file [] = []
kept_bytes file (e ∷ es) = if is_kept e then bytes_of file e ++ kept_bytes file es else kept_bytes file es

-- and how many these are
abbrev pub kept_length : List Extension → ℕ
kept_length [] = 0
kept_length (e ∷ es) = if is_kept e then 8 + padded e.length + kept_length es else kept_length es

-- the bytes of a header past its 112th
abbrev pub tail_of : List ℕ → ℕ → List ℕ
tail_of file header_length = reading file 112 (header_length - 112)

-- what the bitmaps extension says: number of bitmaps, then, behind four bytes of zeros, size and offset of their directory
abbrev pub bitmaps_in : List ℕ → Option Extension → Option DirPlace
bitmaps_in file None = None
bitmaps_in file (Some e) = Some (record { offset = u64_at file (e.place + 16); size = u64_at file (e.place + 8); count = u32_at file e.place })

-- what this project's own says: of a disk its id, epoch and where the spans of its bitmaps stand, of a backup its record
abbrev pub own_in : List ℕ → Option Extension → Own
own_in file None = owns.Absent
own_in file (Some e) =
    if e.length == 40 then owns.Source (reading file e.place 16) (u64_at file (e.place + 16)) (u64_at file (e.place + 24)) (u64_at file (e.place + 32))
    else owns.Target (reading file e.place 64)

-- where its content begins, or 0
abbrev pub place_in : Option Extension → ℕ
place_in None = 0
place_in (Some e) = e.place

-- ---- the rules, in the order in which they are tested

-- the bitmaps extension is ill formed
abbrev pub is_bad_bitmaps : ℕ → List ℕ → Option Extension → Bool
is_bad_bitmaps bits file None = Bool.false
is_bad_bitmaps bits file (Some e) =
    not (e.length == 24) || nat_lt 0 (u32_at file (e.place + 4)) || (u32_at file e.place == 0) || not (is_place bits (u64_at file (e.place + 16)))

abbrev pub is_there : Option Extension → Bool
is_there None = Bool.false
is_there (Some e) = Bool.true

-- the project's own is of no length that it may have, of the other kind than is expected, or a record past the first 512 bytes
abbrev pub is_bad_own : Part → Option Extension → Bool
is_bad_own part None = Bool.false
is_bad_own parts.Target (Some e) = not (e.length == 64) || nat_lt 512 (e.place + e.length)
is_bad_own part (Some e) = not (e.length == 40)

abbrev pub extension_rules : Part → List ℕ → Fields → List Extension → List Rule
extension_rules part file h es =
    rule Extensions (nat_lt 1 (count_of bitmaps_kind es) || nat_lt 1 (count_of own_kind es))
    ∷ rule TooLong (nat_lt 512 (h.header_length + kept_length es + 48 + 32 + 8))
    ∷ rule BitmapsExtension (is_bad_bitmaps h.cluster_bits file (first_of_kind bitmaps_kind es))
    ∷ rule Autoclear (has_bit 0 h.autoclear_features && not (is_there (first_of_kind bitmaps_kind es)))
    ∷ rule OwnExtension (is_bad_own part (first_of_kind own_kind es))
    ∷ []
