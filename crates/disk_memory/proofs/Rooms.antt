-- How room grows.
use Rattle.std.proofs.Common.{◌≡◌, ℕ, ◌+◌, ◌-◌, ◌<◌, ◌≤◌, List, [], ◌∷◌, ◌++◌, length, get_or, set, map, refl, sym, ◌∙◌, ap, subst, arith, length-append, get_or-set_same, below_more}
use Rattle.std.specs.Prelude.{string_bytes}
use Rattle.std.proofs.lemmas.List.{length-map, map-set, get_or-append_right}
use Rattle.std.proofs.lemmas.Grind.{common_steps}
use Rattle.disk_memory.specs.declared.files.File.{File}
use Rattle.disk_memory.specs.Room.{Room, AllFrom, HasRoom, IsWider, IsRoomier, HasMoreSpares, lengths_of, name_lengths_of, room_of, IsSameFiles}
use Rattle.disk_memory.proofs.Fields.{map-set_same, map_read}

-- ---- numbers

pub wider_same : (xs : List ℕ) → IsWider xs xs
wider_same xs = record { long = refl; each = λ i. omega arith }

pub wider_on : (a b c : List ℕ) → IsWider a b → IsWider b c → IsWider a c
wider_on a b c first second = record { long = second.long ∙ first.long; each = λ i. omega (arith, first.each i, second.each i) }

pub wider_set : (xs : List ℕ) (n v : ℕ) → n < length xs → get_or xs n 0 ≤ v → IsWider xs (set xs n v)
wider_set xs n v there more = grind (arith, common_steps)

-- as many numbers at least as far
pub from_wider : (least : ℕ) (xs ys : List ℕ) → AllFrom least xs → IsWider xs ys → AllFrom least ys
from_wider least xs ys all wider i inside = grind (arith, common_steps)

pub from_append : (least : ℕ) (xs ys : List ℕ) → AllFrom least xs → AllFrom least ys → AllFrom least (xs ++ ys)
from_append least xs ys first second i inside = grind (arith, common_steps)

pub from_push : (least : ℕ) (xs : List ℕ) (x : ℕ) → AllFrom least xs → least ≤ x → AllFrom least (xs ++ x ∷ [])
from_push least xs x all last = grind (arith, common_steps)

-- ---- files

pub same_files_on : (a b c : List File) → IsSameFiles a b → IsSameFiles b c → IsSameFiles a c
same_files_on a b c first second = record {
  names = second.names ∙ first.names;
  contents = second.contents ∙ first.contents;
  reads = second.reads ∙ first.reads;
  writes = second.writes ∙ first.writes;
}

-- file n has another value that tells the same
module _ (files : List File) (n : ℕ) (old new : File) (there : n < length files) (is : old ≡ get_or files n old) where
  pub same_set : string_bytes new.name ≡ string_bytes old.name → new.bytes.items ≡ old.bytes.items → new.reads ≡ old.reads → new.writes ≡ old.writes → IsSameFiles files (set files n new)
  same_set name bytes reads writes = record {
    names = map-set_same (λ (file : File). string_bytes file.name) files n old new there is name;
    contents = map-set_same (λ (file : File). file.bytes.items) files n old new there is bytes;
    reads = map-set_same (λ (file : File). file.reads) files n old new there is reads;
    writes = map-set_same (λ (file : File). file.writes) files n old new there is writes;
  }

  pub set_wider : (g : File → ℕ) → g old ≤ g new → IsWider (map g files) (map g (set files n new))
  set_wider g more = subst (IsWider (map g files)) (sym (map-set g files n new))
      (wider_set (map g files) n (g new) (omega (arith, there, length-map files g)) (omega (arith, more, map_read g files n old 0 there is)))

  pub set_at : (g : File → ℕ) → get_or (map g (set files n new)) n 0 ≡ g new
  set_at g = ap (λ (l : List ℕ). get_or l n 0) (map-set g files n new) ∙ get_or-set_same (map g files) n (g new) 0 (omega (arith, there, length-map files g))

  -- where each before it is so wide, and it is
  pub set_below : (g : File → ℕ) (least : ℕ) → ((k : ℕ) → k < n → least ≤ get_or (map g files) k 0) → g old ≤ g new → least ≤ g new → (k : ℕ) → k < n + 1 → least ≤ get_or (map g (set files n new)) k 0
  set_below g least below more here = below_more (λ (k : ℕ). least ≤ get_or (map g (set files n new)) k 0) n (λ k low. omega (arith, below k low, (set_wider g more).each k)) (omega (arith, here, set_at g))

-- ---- all room

pub room_same : (places : ℕ) (files more spare : List File) (printed : ℕ) → lengths_of more ≡ lengths_of files → room_of places more spare printed ≡ room_of places files spare printed
room_same places files more spare printed same = ap (λ (l : List ℕ). record { places = places; files = l; names = name_lengths_of spare; spares = lengths_of spare; printed = printed }) same

pub room_wider : (places : ℕ) (files more spare : List File) (printed : ℕ) → IsWider (lengths_of files) (lengths_of more) → IsRoomier (room_of places files spare printed) (room_of places more spare printed)
room_wider places files more spare printed wider = record { places = omega arith; files = wider; names = wider_same (name_lengths_of spare); spares = wider_same (lengths_of spare); printed = omega arith }

-- room stays where there is as much at least
pub room_on : (more size : ℕ) (a b : Room) → IsRoomier a b → HasRoom more size a → HasRoom more size b
room_on more size a b wider has = grind (arith, common_steps)

-- and where more files are kept before the others
last_of : (least more : ℕ) (before xs ys : List ℕ) → ys ≡ before ++ xs → more ≤ length xs → ((i : ℕ) → i < length xs → length xs ≤ i + more → least ≤ get_or xs i 0) → (i : ℕ) → i < length ys → length ys ≤ i + more → least ≤ get_or ys i 0
last_of least more before xs ys is some each i low high =
    let long : length ys ≡ length before + length xs = ap length is ∙ length-append before xs in
    let past : length before ≤ i = omega arith in
    omega (arith, each (i - length before) (omega arith) (omega arith), ap (λ (l : List ℕ). get_or l i 0) is, get_or-append_right before xs (length before) i 0 refl past)

pub room_spares : (more size : ℕ) (a b : Room) → HasMoreSpares a b → HasRoom more size a → HasRoom more size b
room_spares more size a b kept has = record {
  places = omega (arith, has.places, kept.places, ap length kept.files);
  numbers = omega (arith, has.numbers, ap length kept.files);
  some = omega (arith, has.some, ap length kept.spares.1, length-append kept.spares.0 a.spares);
  paired = kept.paired;
  names = last_of 4096 more kept.names.0 a.names b.names kept.names.1 (omega (arith, has.some, has.paired)) has.names;
  spares = last_of size more kept.spares.0 a.spares b.spares kept.spares.1 has.some has.spares;
  files = subst (AllFrom size) (sym kept.files) has.files;
  text = omega (arith, has.text, kept.printed);
}
