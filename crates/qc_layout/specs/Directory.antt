-- The persistent bitmaps of an image (qcow2 specification, "Bitmaps"): directory, tables, data; and this project's table of spans.
use Rattle.std.specs.Prelude.{ℕ, zero, suc, ◌+◌, ◌-◌, ◌*◌, ◌/◌, ◌%◌, ◌^◌, List, [], ◌∷◌, ◌++◌, length, Bool, true, false, not, ◌&&◌, ◌||◌, nat_lt, nat_le, ◌==◌, if◌then◌else◌, Option, Some, None, is_some, option_map, bytes_eq}
use Rattle.std.specs.List.{list_any, list_all, range_with_len}
use Rattle.std.specs.Int.{div_ceil}
use Rattle.std.specs.Option.{option_or}
use Rattle.disk_model.specs.Files.{byte, reading, u16_at, u32_at, u64_at}
use Rattle.span_algebra.specs.declared.points.Point.{Point}
use Rattle.span_algebra.specs.declared.points.End.TheVariants.{Now, At}
use Rattle.span_algebra.specs.declared.spans.Span.{Span}
use Rattle.span_algebra.specs.declared.spans.Span.TheVariants.{Unknown, Known}
use Rattle.bitmap_model.specs.Granules.{granules_in, set_of, none_of}
use Rattle.bitmap_model.specs.Bitmap.{StoredBitmap}
use Rattle.bitmap_model.specs.Bitmaps.{is_name, most_bitmaps}
use Rattle.qc_layout.specs.declared.extension.Extension.{Extension}
use Rattle.qc_layout.specs.declared.faults.DirFault.{DirFault}
use Rattle.qc_layout.specs.declared.faults.DirFault.TheVariants.{TooManyEntries, Entries, Flags, Kind, Granularity, ExtraData, NameForm, SameName, TableSize, TableEntry, Tail}
use Rattle.qc_layout.specs.declared.header.DirPlace.{DirPlace}
use Rattle.qc_layout.specs.declared.header.Own.{Own}
use Rattle.qc_layout.specs.declared.header.Own.TheVariants as owns
use Rattle.qc_layout.specs.Entries.{offset_in}
use Rattle.qc_layout.specs.Header.{fields_of, has_bit, is_place}
use Rattle.qc_layout.specs.Extensions.{list_end, padded, behind, first_of_kind, bitmaps_in, own_in, bitmaps_kind, own_kind}
use Rattle.qc_layout.specs.Disks.{bits_of, reach_of}

-- ---- where it stands

-- an extension can be read here: it has a kind other than 0 and doesn't run past the list's end
abbrev pub is_extension : List ℕ → ℕ → ℕ → Bool
is_extension file end from =
    nat_le (from + 8) end && (not (u32_at file from == 0) && nat_le (from + 8 + u32_at file (from + 4)) end)

abbrev pub extension_at : List ℕ → ℕ → Extension
extension_at file from = record { kind = u32_at file from; place = from + 8; length = u32_at file (from + 4) }

-- the extensions from here on, n at most, as far as the list can be read
abbrev pub extensions_from : ℕ → List ℕ → ℕ → ℕ → List Extension
extensions_from zero file end from = []
extensions_from (suc n) file end from =
    if is_extension file end from then extension_at file from ∷ extensions_from n file end (behind (extension_at file from)) else []

-- the extensions of a file, as far as their list can be read: each takes 8 bytes at least
unfoldable pub extensions_in : List ℕ → List Extension
extensions_in file = extensions_from (list_end (bits_of file) / 8) file (list_end (bits_of file)) (fields_of file).header_length

-- where the directory stands, if there is one
abbrev pub directory_in : List ℕ → Option DirPlace
directory_in file = bitmaps_in file (first_of_kind bitmaps_kind (extensions_in file))

-- what this project's extension says
abbrev pub own_of : List ℕ → Own
own_of file = own_in file (first_of_kind own_kind (extensions_in file))

-- ---- entries of the directory

-- the numbers of an entry, which stand before its name
pub record EntryHead : Type 0 where
  pub table_offset : ℕ
  pub table_size : ℕ
  pub flags : ℕ
  pub kind : ℕ
  pub granularity_bits : ℕ
  pub name_size : ℕ
  pub extra_data_size : ℕ

unfoldable pub head_at : List ℕ → ℕ → EntryHead
head_at file from = record {
  table_offset = u64_at file from;
  table_size = u32_at file (from + 8);
  flags = u32_at file (from + 12);
  kind = byte file (from + 16);
  granularity_bits = byte file (from + 17);
  name_size = u16_at file (from + 18);
  extra_data_size = u32_at file (from + 20);
}

-- an entry takes a multiple of eight bytes
abbrev pub entry_length : EntryHead → ℕ
entry_length h = padded (24 + h.extra_data_size + h.name_size)

-- one entry: its numbers and its name
pub record ListedBitmap : Type 0 where
  pub head : EntryHead
  pub name : List ℕ

abbrev pub listed_at : List ℕ → ℕ → ListedBitmap
listed_at file from = record { head = head_at file from; name = reading file (from + 24 + (head_at file from).extra_data_size) (head_at file from).name_size }

-- n entries in a row from here on, and where the last of them ends
abbrev pub listed_from : ℕ → List ℕ → ℕ → List ListedBitmap
listed_from zero file from = []
listed_from (suc n) file from = listed_at file from ∷ listed_from n file (from + entry_length (head_at file from))

abbrev pub end_from : ℕ → List ℕ → ℕ → ℕ
end_from zero file from = from
end_from (suc n) file from = end_from n file (from + entry_length (head_at file from))

-- the entries of a directory, in its order
abbrev pub listed_under : List ℕ → Option DirPlace → List ListedBitmap
listed_under file None = []
listed_under file (Some place) = listed_from place.count file place.offset

abbrev pub listed_in : List ℕ → List ListedBitmap
listed_in file = listed_under file (directory_in file)

-- ---- one entry

abbrev pub granularity_of : ListedBitmap → ℕ
granularity_of b = 2 ^ b.head.granularity_bits

-- how many granules it has, for a disk of this size
abbrev pub granules_of : ℕ → ListedBitmap → ℕ
granules_of size b = granules_in size (granularity_of b)

-- a data cluster, of 2 to the power bits bytes, has a bit for each of so many granules
abbrev pub granules_each : ℕ → ℕ
granules_each bits = 8 * 2 ^ bits

-- another program is using the bitmap, or didn't end well
abbrev pub is_in_use : ListedBitmap → Bool
is_in_use b = has_bit 0 b.head.flags

-- the bitmap is recording (the format's "auto")
abbrev pub is_recording : ListedBitmap → Bool
is_recording b = has_bit 1 b.head.flags

-- what an entry of a bitmap's table says of a part of its granules: none is dirty, each is, or their bits stand in the cluster at an offset
pub data Piece : Type 0 where
  Zeros : Piece
  Ones : Piece
  Data : (offset : ℕ) → Piece

abbrev pub piece_of : ℕ → Piece
piece_of entry = if offset_in entry == 0 then (if entry % 2 == 1 then Ones else Zeros) else Data (offset_in entry)

-- entry i of its table
abbrev pub table_word : List ℕ → ListedBitmap → ℕ → ℕ
table_word file b i = u64_at file (b.head.table_offset + 8 * i)

abbrev pub piece_at : List ℕ → ListedBitmap → ℕ → Piece
piece_at file b i = piece_of (table_word file b i)

-- bit n of the bytes from an offset on: bit n mod 8 of byte n div 8
abbrev pub is_set_at : List ℕ → ℕ → ℕ → Bool
is_set_at file offset n = byte file (offset + n / 8) / 2 ^ (n % 8) % 2 == 1

abbrev pub piece_has : List ℕ → Piece → ℕ → Bool
piece_has file Zeros n = false
piece_has file Ones n = true
piece_has file (Data offset) n = is_set_at file offset n

-- granule k is dirty
abbrev pub is_dirty_in : List ℕ → ListedBitmap → ℕ → Bool
is_dirty_in file b k = piece_has file (piece_at file b (k / granules_each (bits_of file))) (k % granules_each (bits_of file))

-- ---- spans

-- the bytes of a span in its table, and of a table of so many
abbrev pub span_length : ℕ
span_length = 40

abbrev pub spans_size : ℕ → ℕ
spans_size count = 16 + span_length * count

-- where span i of a table stands
abbrev pub span_place : ℕ → ℕ → ℕ
span_place offset i = offset + 16 + span_length * i

abbrev pub point_at : List ℕ → ℕ → Point
point_at file from = record { epoch = u64_at file from; serial = u64_at file (from + 8) }

-- what the bytes from here on say of a span: 1 closed, 2 up to now
abbrev pub span_at : List ℕ → ℕ → Span
span_at file from =
    if byte file from == 1 then Known (point_at file (from + 8)) (At (point_at file (from + 24)))
    else if byte file from == 2 then Known (point_at file (from + 8)) Now
    else Unknown

-- The table of spans is used: it begins at a cluster, lies below the reach, repeats where the directory stands, has a span for each entry,
-- and no state above 2.
abbrev pub spans_fit : List ℕ → DirPlace → ℕ → ℕ → Bool
spans_fit file place offset size =
    is_place (bits_of file) offset && (nat_le (offset + size) (reach_of file * 2 ^ bits_of file)
    && ((u64_at file offset == place.offset) && ((u64_at file (offset + 8) == place.size)
    && ((size == spans_size place.count) && list_all (λ i. nat_le (byte file (span_place offset i)) 2) (range_with_len 0 place.count)))))

-- where it stands, if it is used
abbrev pub spans_under : List ℕ → Option DirPlace → Own → Option ℕ
spans_under file None own = None
spans_under file (Some place) owns.Absent = None
spans_under file (Some place) (owns.Target record_) = None
spans_under file (Some place) (owns.Source disk epoch offset size) = if spans_fit file place offset size then Some offset else None

abbrev pub spans_in : List ℕ → Option ℕ
spans_in file = spans_under file (directory_in file) (own_of file)

-- the span of entry i; where the table isn't used, none is known
abbrev pub span_under : List ℕ → Option ℕ → ℕ → Span
span_under file None i = Unknown
span_under file (Some offset) i = span_at file (span_place offset i)

-- ---- the rules of a directory, in the order in which they are tested

-- the greatest size of a directory: 64 entries with the longest names
abbrev pub longest_directory : ℕ
longest_directory = 67072

-- how many entries the table of a bitmap needs
abbrev pub table_needed : ℕ → ℕ → ListedBitmap → ℕ
table_needed bits size b = div_ceil (granules_of size b) (granules_each bits)

-- a bit of 1 to 8 or 56 to 63 is set, bit 0 is set beside an offset, or the offset isn't a cluster's start
abbrev pub is_bad_word : ℕ → ℕ → Bool
is_bad_word bits entry =
    not (entry / 2 % 2 ^ 8 == 0) || (not (entry / 2 ^ 56 == 0) || ((not (offset_in entry == 0) && (entry % 2 == 1)) || not (offset_in entry % 2 ^ bits == 0)))

-- a bit past the last granule is set in a data cluster
abbrev pub tail_set : List ℕ → Piece → ℕ → ℕ → Bool
tail_set file Zeros from each = false
tail_set file Ones from each = false
tail_set file (Data offset) from each = list_any (λ n. nat_le from n && is_set_at file offset n) (range_with_len 0 each)

abbrev pub has_tail : List ℕ → ListedBitmap → ℕ → Bool
has_tail file b i = tail_set file (piece_at file b i) (granules_of (fields_of file).size b - i * granules_each (bits_of file)) (granules_each (bits_of file))

-- its granules have 2 to the power of 9 to 31 bytes, and there aren't too many
abbrev pub has_granularity : ℕ → ListedBitmap → Bool
has_granularity size b = nat_le 9 b.head.granularity_bits && (nat_le b.head.granularity_bits 31 && nat_le (granules_of size b) (2 ^ 27))

-- why entry b is refused by its numbers and its name, where these entries stand before it
abbrev pub head_fault : List ℕ → List ListedBitmap → ListedBitmap → Option DirFault
head_fault file before b =
    if not (b.head.flags / 8 == 0) then Some Flags
    else if not (b.head.kind == 1) then Some Kind
    else if not (has_granularity (fields_of file).size b) then Some Granularity
    else if not (b.head.extra_data_size == 0) then Some ExtraData
    else if not (is_name b.name) then Some NameForm
    else if list_any (λ (other : ListedBitmap). bytes_eq other.name b.name) before then Some SameName
    else if not ((b.head.table_size == table_needed (bits_of file) (fields_of file).size b) && is_place (bits_of file) b.head.table_offset) then Some TableSize
    else None

-- the first fault that is found at these numbers
abbrev pub first_fault : (ℕ → Option DirFault) → List ℕ → Option DirFault
first_fault fault [] = None
first_fault fault (i ∷ is) = option_or (fault i) (first_fault fault is)

-- why entry i of its table is refused
abbrev pub word_fault : List ℕ → ListedBitmap → ℕ → Option DirFault
word_fault file b i =
    if is_bad_word (bits_of file) (table_word file b i) then Some TableEntry
    else if not (is_in_use b) && has_tail file b i then Some Tail
    else None

-- why its table is refused
abbrev pub table_fault : List ℕ → ListedBitmap → Option DirFault
table_fault file b = first_fault (word_fault file b) (range_with_len 0 b.head.table_size)

-- a fault, and the number of the entry that has it
pub record RefusedEntry : Type 0 where
  pub entry : ℕ
  pub fault : DirFault

-- the first of these entries that is refused, where others stand before them
abbrev pub first_refused : (List ListedBitmap → ListedBitmap → Option DirFault) → List ListedBitmap → List ListedBitmap → Option RefusedEntry
first_refused fault before [] = None
first_refused fault before (b ∷ bs) =
    option_or (option_map (λ found. record { entry = length before; fault = found }) (fault before b)) (first_refused fault (before ++ b ∷ []) bs)

-- the tables are looked at once all entries have passed the rules on their numbers and names
abbrev pub listed_fault : List ℕ → List ListedBitmap → Option RefusedEntry
listed_fault file bs = option_or (first_refused (head_fault file) [] bs) (first_refused (λ before b. table_fault file b) [] bs)

abbrev pub refused : ℕ → DirFault → Option RefusedEntry
refused entry fault = Some (record { entry = entry; fault = fault })

-- why a directory is refused; that its clusters are named once and counted is no rule of these
abbrev pub fault_under : List ℕ → Option DirPlace → Option RefusedEntry
fault_under file None = None
fault_under file (Some place) =
    if nat_lt most_bitmaps place.count then refused 0 TooManyEntries
    else if nat_lt longest_directory place.size || not (end_from place.count file place.offset == place.offset + place.size) then refused 0 Entries
    else listed_fault file (listed_from place.count file place.offset)

unfoldable pub directory_fault : List ℕ → Option RefusedEntry
directory_fault file = fault_under file (directory_in file)

-- ---- what is stored

-- the image says that its bitmaps are consistent (autoclear bit 0), and nobody uses this one
abbrev pub is_trusted_in : List ℕ → ListedBitmap → Bool
is_trusted_in file b = has_bit 0 (fields_of file).autoclear_features && not (is_in_use b)

-- A trusted entry gives its granules, its span and whether it records; of any other a name and a granularity alone are known.
abbrev pub stored_entry : List ℕ → ℕ → ListedBitmap → StoredBitmap
stored_entry file i b =
    if is_trusted_in file b then record {
      name = b.name;
      bits = record { size = (fields_of file).size; granularity = granularity_of b; set = set_of (granules_of (fields_of file).size b) (is_dirty_in file b) };
      span = span_under file (spans_in file) i;
      recording = is_recording b;
      trusted = true;
    }
    else record { name = b.name; bits = none_of (fields_of file).size (granularity_of b); span = Unknown; recording = false; trusted = false }

abbrev pub stored_from : List ℕ → ℕ → List ListedBitmap → List StoredBitmap
stored_from file i [] = []
stored_from file i (b ∷ bs) = stored_entry file i b ∷ stored_from file (i + 1) bs

-- The bitmaps that a file stores, in the order of its directory; none where the directory breaks a rule.
unfoldable pub stored_in : List ℕ → List StoredBitmap
stored_in file = if is_some (directory_fault file) then [] else stored_from file 0 (listed_in file)
