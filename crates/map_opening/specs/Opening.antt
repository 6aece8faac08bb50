-- How far an opening has come through the two levels of an image's tables.
use Rattle.std.specs.Prelude.{◌≡◌, ◌≢◌, ℕ, ◌+◌, ◌*◌, ◌/◌, ◌^◌, ◌≤◌, List, [], ◌∷◌, map, flat_map, Option, Some, None, Result, Ok, Err, IsTrue}
use Rattle.std.specs.List.{range_with_len}
use Rattle.std.specs.Int.{div_ceil}
use Rattle.disk_model.specs.Files.{u64_at}
use Rattle.disk_model.specs.World.{World, Runs, reads_of, IsQuiet, Rose}
use Rattle.qc_layout.specs.declared.entry.EntryFault.{EntryFault}
use Rattle.qc_layout.specs.Entries.{l1_of, l2_of}
use Rattle.qc_layout.specs.Header.{fields_of}
use Rattle.qc_layout.specs.Disks.{bits_of, words_in}
use Rattle.qc_layout.specs.Opening.{Check, each_below, fault_at, slot_checks}
use Rattle.qc_layout.specs.Opening.Check.{Refused, Claim}
use Rattle.qc_layout.specs.Owners.Who.{Tables, Table, Guest}
use Rattle.cluster_pool.specs.Pool.{Pool}
use Rattle.qc_alloc.specs.Allocator.{Allocator}
use Rattle.qc_alloc.specs.Tables.{Stops, Knows, Gone, IsKept}
use Rattle.map_opening.specs.declared.claims.FirstLevel.{FirstLevel}
use Rattle.map_opening.specs.declared.refusals.MapRefusal.{MapRefusal}
use Rattle.map_opening.specs.declared.refusals.MapRefusal.TheVariants.{Failed}
use Rattle.map_opening.specs.Refusals.{rule_of}

-- ---- where the first level is

-- of a header that passed its rules
pub record IsFirstLevel (l : FirstLevel) : Type 0 where
  pub low : 9 ≤ l.cluster_bits
  pub high : l.cluster_bits ≤ 21
  pub few : l.entries ≤ 2 ^ 20

-- of this file's header
pub record IsFirstLevelOf (l : FirstLevel) (file : List ℕ) : Type 0 where
  pub bits : l.cluster_bits ≡ bits_of file
  pub place : l.place ≡ (fields_of file).l1_table_offset
  pub entries : l.entries ≡ (fields_of file).l1_size

-- ---- what is done, in order

-- of n entries from one on
abbrev pub each_from : ℕ → ℕ → (ℕ → List Check) → List Check
each_from first n f = flat_map f (range_with_len first n)

-- of a slot of the table that entry i names, where it has this word
abbrev pub word_checks : ℕ → ℕ → ℕ → ℕ → ℕ → List Check
word_checks bits i table j word = slot_checks bits (Guest i j) (table + 8 * j) (l2_of bits word)

-- of the slots of a table that entry i names
abbrev pub slots_of : ℕ → List ℕ → ℕ → ℕ → List Check
slots_of bits file i table = each_below (words_in bits) (λ j. word_checks bits i table j (u64_at file (table + 8 * j)))

-- of that table: it is claimed, and then come its slots
abbrev pub table_slots : ℕ → List ℕ → ℕ → ℕ → List Check
table_slots bits file i table = Claim (Table i) (table / 2 ^ bits) ∷ slots_of bits file i table

-- of entry i, which stands here and says this
abbrev pub entry_checks : ℕ → List ℕ → ℕ → ℕ → Result (Option ℕ) EntryFault → List Check
entry_checks bits file i at (Err fault) = Refused (fault_at at fault) ∷ []
entry_checks bits file i at (Ok None) = []
entry_checks bits file i at (Ok (Some table)) = table_slots bits file i table

-- of entry i, where it has this word
abbrev pub level_checks : FirstLevel → List ℕ → ℕ → ℕ → List Check
level_checks l file i word = entry_checks l.cluster_bits file i (l.place + 8 * i) (l1_of l.cluster_bits word)

-- of entry i, as the file has it
abbrev pub entry_of : FirstLevel → List ℕ → ℕ → List Check
entry_of l file i = level_checks l file i (u64_at file (l.place + 8 * i))

-- of the clusters of the first level
abbrev pub first_claims : FirstLevel → List Check
first_claims l = map (Claim Tables) (range_with_len (l.place / 2 ^ l.cluster_bits) (div_ceil (8 * l.entries) (2 ^ l.cluster_bits)))

-- ---- how far it came

-- The checks pass, whatever follows, and the pool knows the file with what they claim besides; or one of them is refused, by this rule.
abbrev pub Went : {T : Type 0} → List ℕ → List ℕ → List Check → Pool → Result T MapRefusal → Type 0
Went file claimed checks p (Ok value) = Gone file claimed checks p
Went file claimed checks p (Err why) = rule_of why ≢ None → Stops file claimed checks (rule_of why)

-- The file was read and clusters were claimed, as far as these checks of it go. Nothing but claims changed, and no call failed but where
-- the answer says so.
pub record GoesThrough {T : Type 0} (f : ℕ) (checks : List ℕ → List Check) (a b : Allocator) (old new : World) (result : Result T MapRefusal) : Type 0 where
  pub same : (b.file ≡ a.file) × (b.table ≡ a.table)
  pub kept : IsKept a.pool b.pool
  pub run : Runs (reads_of f) old new
  pub cause : result ≡ Err Failed → Rose old.faults.shared new.faults.shared × Rose (old.faults.reads f) (new.faults.reads f)
  pub quiet : result ≢ Err Failed → IsQuiet old new
  pub went : IsTrue old.tells → (claimed : List ℕ) → Knows a.pool (old.seen f) claimed → Went (old.seen f) claimed (checks (old.seen f)) b.pool result

-- the same without a call, whatever the world
abbrev pub Claims : {T : Type 0} → List Check → Allocator → Allocator → Result T MapRefusal → Type 0
Claims checks a b result = (f : ℕ) (w : World) → GoesThrough f (λ seen. checks) a b w w result
