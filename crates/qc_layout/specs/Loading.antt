-- How an opening of a source goes through the directory of bitmaps, behind its clusters: what it tests and which clusters it claims, in order, and what it refuses first.
use Rattle.std.specs.Prelude.{ℕ, ◌+◌, ◌*◌, ◌/◌, ◌^◌, List, [], ◌∷◌, ◌++◌, map, flat_map, Bool, not, ◌&&◌, nat_lt, ◌==◌, if◌then◌else◌, Option, Some, None, option_map}
use Rattle.std.specs.List.{range_with_len}
use Rattle.std.specs.Int.{div_ceil}
use Rattle.std.specs.Option.{option_or}
use Rattle.bitmap_model.specs.Bitmaps.{most_bitmaps}
use Rattle.qc_layout.specs.declared.header.DirPlace.{DirPlace}
use Rattle.qc_layout.specs.Disks.{bits_of}
use Rattle.qc_layout.specs.declared.faults.DirFault.{DirFault}
use Rattle.qc_layout.specs.declared.faults.DirFault.TheVariants.{TooManyEntries, Entries, TableEntry, Tail}
use Rattle.qc_layout.specs.Directory.{ListedBitmap, RefusedEntry, Piece, Zeros, Ones, Data, directory_in, listed_from, end_from, longest_directory, first_refused, head_fault, refused, table_word, piece_at, is_bad_word, is_in_use, has_tail, spans_in, spans_size}
use Rattle.qc_layout.specs.Owners.{Held, Directory, BitsTable, Bits, Spans}
use Rattle.qc_layout.specs.declared.faults.ImageFault.{ImageFault}
use Rattle.qc_layout.specs.Opening.{Check, claim_fault, image_checks, cluster_fault}
use Rattle.qc_layout.specs.Opening.Check.{Refused, Reached, Claim}

-- what is refused: a cluster, or an entry of the directory
pub data LoadFault : Type 0 where
  Cluster : (fault : ImageFault) → LoadFault
  Listed : (refused : RefusedEntry) → LoadFault

-- one step of an opening of the directory: a rule that may fail, or a cluster that is held for bitmaps
pub data BitmapCheck : Type 0 where
  Rule : (refused : Option RefusedEntry) → BitmapCheck
  Hold : (held : Held) (cluster : ℕ) → BitmapCheck

-- what is refused first of the bitmaps, where these clusters have been claimed before
abbrev pub bitmaps_refused_after : List ℕ → List ℕ → List BitmapCheck → Option LoadFault
bitmaps_refused_after file claimed [] = None
bitmaps_refused_after file claimed (Rule refused ∷ checks) = elim refused [ Some found ↦ Some (Listed found) | None ↦ bitmaps_refused_after file claimed checks ]
bitmaps_refused_after file claimed (Hold held k ∷ checks) = elim (claim_fault file claimed k) [ Some found ↦ Some (Cluster found) | None ↦ bitmaps_refused_after file (k ∷ claimed) checks ]

abbrev pub refused_if : Bool → ℕ → DirFault → Option RefusedEntry
refused_if fails entry fault = if fails then refused entry fault else None

-- the clusters that n bytes from a cluster's start on fill, each held so
abbrev pub held_from : List ℕ → Held → ℕ → ℕ → List BitmapCheck
held_from file held offset n = map (Hold held) (range_with_len (offset / 2 ^ bits_of file) (div_ceil n (2 ^ bits_of file)))

-- what is done with the cluster of a piece, if it has one
abbrev pub with_data : List ℕ → Held → Piece → List BitmapCheck
with_data file held Zeros = []
with_data file held Ones = []
with_data file held (Data offset) = Hold held (offset / 2 ^ bits_of file) ∷ []

-- entry i of the table of bitmap n: it is tested, its cluster is claimed, and no bit behind the last granule is set in that
abbrev pub word_checks : List ℕ → ℕ → ListedBitmap → ℕ → List BitmapCheck
word_checks file n b i =
    Rule (refused_if (is_bad_word (bits_of file) (table_word file b i)) n TableEntry)
    ∷ (with_data file (Bits b.name i) (piece_at file b i) ++ Rule (refused_if (not (is_in_use b) && has_tail file b i) n Tail) ∷ [])

-- the table of bitmap n, and then its entries
abbrev pub bitmap_checks : List ℕ → ℕ → ListedBitmap → List BitmapCheck
bitmap_checks file n b =
    held_from file (BitsTable b.name) b.head.table_offset (8 * b.head.table_size)
    ++ flat_map (word_checks file n b) (range_with_len 0 b.head.table_size)

abbrev pub bitmaps_checks : List ℕ → ℕ → List ListedBitmap → List BitmapCheck
bitmaps_checks file n [] = []
bitmaps_checks file n (b ∷ bs) = bitmap_checks file n b ++ bitmaps_checks file (n + 1) bs

abbrev pub spans_checks : List ℕ → DirPlace → Option ℕ → List BitmapCheck
spans_checks file place None = []
spans_checks file place (Some offset) = held_from file Spans offset (spans_size place.count)

-- Of the directory: how many entries it has and how long it is; its clusters; that the entries fill it; each entry's numbers and name; then bitmap by bitmap its
-- table, entry by entry; and the table of spans, where it is used.
abbrev pub directory_checks : List ℕ → Option DirPlace → List BitmapCheck
directory_checks file None = []
directory_checks file (Some place) =
    Rule (refused_if (nat_lt most_bitmaps place.count) 0 TooManyEntries)
    ∷ Rule (refused_if (nat_lt longest_directory place.size) 0 Entries)
    ∷ (held_from file Directory place.offset place.size
    ++ Rule (refused_if (not (end_from place.count file place.offset == place.offset + place.size)) 0 Entries)
    ∷ Rule (first_refused (head_fault file) [] (listed_from place.count file place.offset))
    ∷ (bitmaps_checks file 0 (listed_from place.count file place.offset) ++ spans_checks file place (spans_in file)))

-- ---- a source

-- the clusters that these claim
abbrev pub claimed_in : List Check → List ℕ
claimed_in [] = []
claimed_in (Refused fault ∷ checks) = claimed_in checks
claimed_in (Reached k ∷ checks) = claimed_in checks
claimed_in (Claim owner k ∷ checks) = k ∷ claimed_in checks

-- and those that these hold
abbrev pub held_in : List BitmapCheck → List ℕ
held_in [] = []
held_in (Rule refused ∷ checks) = held_in checks
held_in (Hold held k ∷ checks) = k ∷ held_in checks

-- why a source's clusters and bitmaps are refused
unfoldable pub image_fault : List ℕ → Option LoadFault
image_fault file = option_or (option_map (λ found. Cluster found) (cluster_fault file)) (bitmaps_refused_after file (claimed_in (image_checks file)) (directory_checks file (directory_in file)))
