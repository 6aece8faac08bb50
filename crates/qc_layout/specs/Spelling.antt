-- What spells a header, what is refused, and how a header is written.
use Rattle.std.specs.Prelude.{◌≡◌, ◌≢◌, ◌⊎◌, ℕ, ◌+◌, ◌-◌, ◌^◌, ◌<◌, ◌≤◌, List, [], ◌∷◌, ◌++◌, length, take, drop, replicate, Bool, true, false, not, ◌&&◌, ◌||◌, nat_lt, ◌==◌, if◌then◌else◌, Option, Some, None}
use Rattle.disk_model.specs.Files.{u32_at}
use Rattle.std.specs.Int.{to_be_bytes, w32, w64}
use Rattle.qc_layout.specs.declared.extension.Extension.{Extension}
use Rattle.qc_layout.specs.declared.header.DirPlace.{DirPlace}
use Rattle.qc_layout.specs.declared.header.Own.{Own}
use Rattle.qc_layout.specs.declared.header.Own.TheVariants as owns
use Rattle.qc_layout.specs.declared.header.Part.{Part}
use Rattle.qc_layout.specs.declared.header.Part.TheVariants as parts
use Rattle.qc_layout.specs.declared.header.Fields.{Fields}
use Rattle.qc_layout.specs.declared.writing.Word.{Word}
use Rattle.qc_layout.specs.declared.writing.Word.TheVariants.{Four, Eight}
use Rattle.qc_layout.specs.declared.header.Header.{Header}
use Rattle.qc_layout.specs.declared.header.HeaderFault.{HeaderFault}
use Rattle.qc_layout.specs.declared.header.HeaderFault.TheVariants.{Extensions}
use Rattle.qc_layout.specs.Header.{fields_of, number_fault, first_of, has_bit, is_place}
use Rattle.qc_layout.specs.Extensions.{list_end, AreExtensions, extension_rules, first_of_kind, kept_bytes, tail_of, bitmaps_in, own_in, place_in, padded, backing_kind, names_kind, bitmaps_kind, own_kind}

-- the extensions of a file, by its header's numbers
abbrev pub AreIn : List ℕ → List Extension → Type 0
AreIn file es = AreExtensions file (list_end (fields_of file).cluster_bits) (fields_of file).header_length es

-- The file passes each rule of a header, and these are its numbers and what its extensions say. It doesn't speak of the place of
-- this project's extension.
pub record Spells (part : Part) (file : List ℕ) (h : Header) : Type 0 where
  pub numbers : number_fault part (length file) (fields_of file) ≡ None
  pub fields : h.fields ≡ fields_of file
  pub extensions : List Extension
  pub listed : AreIn file extensions
  pub rules : first_of (extension_rules part file (fields_of file) extensions) ≡ None
  pub kept : h.kept.items.items ≡ tail_of file h.fields.header_length ++ kept_bytes file extensions
  pub bitmaps : h.bitmaps ≡ bitmaps_in file (first_of_kind bitmaps_kind extensions)
  pub own : h.own ≡ own_in file (first_of_kind own_kind extensions)

-- and this is that place
pub record IsHeaderOf (part : Part) (file : List ℕ) (h : Header) : Type 0 where
  pub spells : Spells part file h
  pub own_at : h.own_at ≡ place_in (first_of_kind own_kind spells.extensions)

-- the rule of this fault is the first that the file fails
abbrev pub IsFault : Part → List ℕ → HeaderFault → Type 0
IsFault part file fault =
    (number_fault part (length file) (fields_of file) ≡ Some fault)
    ⊎ ((number_fault part (length file) (fields_of file) ≡ None) × (fault ≡ Extensions) × ((es : List Extension) → AreIn file es → ⊥))
    ⊎ ((number_fault part (length file) (fields_of file) ≡ None) × ((es : List Extension) × AreIn file es × (first_of (extension_rules part file (fields_of file) es) ≡ Some fault)))

-- ---- how a header is written

abbrev pub be32 : ℕ → List ℕ
be32 n = to_be_bytes w32 n

abbrev pub be64 : ℕ → List ℕ
be64 n = to_be_bytes w64 n

-- a number in four bytes, and in eight
unfoldable pub word32 : ℕ → List ℕ
word32 n = be32 n

unfoldable pub word64 : ℕ → List ℕ
word64 n = be64 n

abbrev pub word_bytes : Word → List ℕ
word_bytes (Four n) = word32 n
word_bytes (Eight n) = word64 n

abbrev pub words_bytes : List Word → List ℕ
words_bytes [] = []
words_bytes (w ∷ ws) = word_bytes w ++ words_bytes ws

-- each number is one that its word holds
abbrev pub IsSmallWord : Word → Type 0
IsSmallWord (Four n) = n < 2 ^ 32
IsSmallWord (Eight n) = n < 2 ^ 64

abbrev pub AreSmallWords : List Word → Type 0
AreSmallWords [] = Unit {0}
AreSmallWords (w ∷ ws) = IsSmallWord w × AreSmallWords ws

-- the numbers of a header, in 104 bytes
abbrev pub number_words : Fields → List Word
number_words f =
    Four f.magic
    ∷ Four f.version
    ∷ Eight f.backing_file_offset
    ∷ Four f.backing_file_size
    ∷ Four f.cluster_bits
    ∷ Eight f.size
    ∷ Four f.crypt_method
    ∷ Four f.l1_size
    ∷ Eight f.l1_table_offset
    ∷ Eight f.refcount_table_offset
    ∷ Four f.refcount_table_clusters
    ∷ Four f.nb_snapshots
    ∷ Eight f.snapshots_offset
    ∷ Eight f.incompatible_features
    ∷ Eight f.compatible_features
    ∷ Eight f.autoclear_features
    ∷ Four f.refcount_order
    ∷ Four f.header_length
    ∷ []

unfoldable pub number_bytes : Fields → List ℕ
number_bytes f = words_bytes (number_words f)

-- how many of the kept bytes are the header's own
abbrev pub tail_length : Header → ℕ
tail_length h = h.fields.header_length - 112

-- the compression type, seven zeros, and the header's bytes past these, where it is longer than 104 bytes
unfoldable pub tail_bytes : Header → List ℕ
tail_bytes h = if nat_lt 104 h.fields.header_length then (h.fields.compression_type ∷ replicate 7 0) ++ take (tail_length h) h.kept.items.items else []

-- the kept extensions
abbrev pub kept_part : Header → List ℕ
kept_part h = drop (tail_length h) h.kept.items.items

-- an extension's kind and the length of its content, which stands behind these
abbrev pub head_words : ℕ → ℕ → List Word
head_words kind length = Four kind ∷ Four length ∷ []

abbrev pub source_words : ℕ → ℕ → ℕ → List Word
source_words epoch spans_offset spans_length = Eight epoch ∷ Eight spans_offset ∷ Eight spans_length ∷ []

unfoldable pub own_bytes : Own → List ℕ
own_bytes owns.Absent = []
own_bytes (owns.Source disk epoch spans_offset spans_length) = words_bytes (head_words own_kind 40) ++ (disk ++ words_bytes (source_words epoch spans_offset spans_length))
own_bytes (owns.Target record_) = words_bytes (head_words own_kind 64) ++ record_

abbrev pub bitmaps_words : DirPlace → List Word
bitmaps_words place = Four place.count ∷ Four 0 ∷ Eight place.size ∷ Eight place.offset ∷ []

unfoldable pub bitmaps_bytes : Option DirPlace → List ℕ
bitmaps_bytes None = []
bitmaps_bytes (Some place) = words_bytes (head_words bitmaps_kind 24) ++ words_bytes (bitmaps_words place)

-- all of it: the numbers, the rest of the header, this project's extension, that of bitmaps, and those that are kept
unfoldable pub header_bytes : Header → List ℕ
header_bytes h = number_bytes h.fields ++ tail_bytes h ++ own_bytes h.own ++ bitmaps_bytes h.bitmaps ++ kept_part h

-- with the eight zeros that end the list it has room in a sector
abbrev pub Fits : Header → Type 0
Fits h = length (header_bytes h) + 8 ≤ 512

-- the sector that it is written as
abbrev pub sector_of : Header → List ℕ
sector_of h = header_bytes h ++ replicate (512 - length (header_bytes h)) 0

-- these bytes stand at a sector's start, and zeros behind them
abbrev pub sector_with : List ℕ → List ℕ
sector_with bytes = bytes ++ replicate (512 - length bytes) 0

-- A step writes these bytes behind whatever the sector begins with, where they have room, and the place goes on by as many.
pub record Puts (bytes old : List ℕ) (place : ℕ) (new : List ℕ) (end : ℕ) : Type 0 where
  pub behind : (before : List ℕ) → length before + length bytes ≤ 512 → place ≡ length before → old ≡ sector_with before →
      (end ≡ length (before ++ bytes)) × (new ≡ sector_with (before ++ bytes))

abbrev pub IsSmallOwn : Own → Type 0
IsSmallOwn owns.Absent = Unit {0}
IsSmallOwn (owns.Source disk epoch spans_offset spans_length) = AreSmallWords (source_words epoch spans_offset spans_length)
IsSmallOwn (owns.Target record_) = Unit {0}

abbrev pub AreSmallBitmaps : Option DirPlace → Type 0
AreSmallBitmaps None = Unit {0}
AreSmallBitmaps (Some place) = AreSmallWords (bitmaps_words place)

-- Each number of a header is one that its word holds.
pub record IsSmall (h : Header) : Type 0 where
  pub numbers : AreSmallWords (number_words h.fields)
  pub own : IsSmallOwn h.own
  pub bitmaps : AreSmallBitmaps h.bitmaps

-- ---- when a header can be written and read again

-- a kind that is none of the four that are known
abbrev pub is_unknown : ℕ → Bool
is_unknown kind = not ((kind == backing_kind) || (kind == names_kind) || (kind == bitmaps_kind) || (kind == own_kind))

-- an extension of an unknown kind, as its bytes: its kind, its content's length, its content and what fills that up
pub record IsBlock (bytes : List ℕ) : Type 0 where
  pub long : length bytes ≡ 8 + padded (u32_at bytes 4)
  pub some : u32_at bytes 0 ≢ 0
  pub unknown : is_unknown (u32_at bytes 0) ≡ true

abbrev pub AreBlocks : List (List ℕ) → Type 0
AreBlocks [] = Unit {0}
AreBlocks (b ∷ bs) = IsBlock b × AreBlocks bs

-- one behind the other
abbrev pub joined : List (List ℕ) → List ℕ
joined [] = []
joined (b ∷ bs) = b ++ joined bs

-- what is said of bitmaps is well formed
abbrev pub AreBitmaps : ℕ → Option DirPlace → Type 0
AreBitmaps bits None = Unit {0}
AreBitmaps bits (Some place) = (place.count ≢ 0) × (is_place bits place.offset ≡ true)

abbrev pub has_bitmaps : Option DirPlace → Bool
has_bitmaps None = false
has_bitmaps (Some place) = true

-- this project's extension is of the form that this part has, or absent
abbrev pub IsOwnOf : Part → Own → Type 0
IsOwnOf part owns.Absent = Unit {0}
IsOwnOf parts.Target (owns.Source disk epoch spans_offset spans_length) = ⊥
IsOwnOf parts.Target (owns.Target record_) = length record_ ≡ 64
IsOwnOf part (owns.Source disk epoch spans_offset spans_length) = length disk ≡ 16
IsOwnOf part (owns.Target record_) = ⊥

-- The header can be written, and is read again from what is written.
pub record IsWritable (part : Part) (h : Header) : Type 0 where
  pub small : IsSmall h
  pub numbers : number_fault part 512 h.fields ≡ None
  pub tail : tail_length h ≤ length h.kept.items.items
  pub blocks : List (List ℕ)
  pub unknown : AreBlocks blocks
  pub kept : kept_part h ≡ joined blocks
  pub room : h.fields.header_length + length (kept_part h) + 88 ≤ 512
  pub bitmaps : AreBitmaps h.fields.cluster_bits h.bitmaps
  pub autoclear : (has_bit 0 h.fields.autoclear_features && not (has_bitmaps h.bitmaps)) ≡ false
  pub own : IsOwnOf part h.own
