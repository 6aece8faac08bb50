-- An opening refuses something exactly where there is a cause, and nothing exactly where the tables pass its rules.
use Rattle.std.proofs.Common.{◌≡◌, ℕ, ◌+◌, ◌*◌, ◌%◌, ◌^◌, ◌<◌, List, [], length, ◌⊎◌, inl, inr, Option, Some, None, Result, Ok, Err, refl, subst, arith}
use Rattle.disk_model.specs.Files.{u64_at}
use Rattle.qc_layout.specs.declared.entry.EntryFault.{EntryFault}
use Rattle.qc_layout.specs.declared.entry.EntryFault.TheVariants as entry_faults
use Rattle.qc_layout.specs.declared.entry.L2Entry.{L2Entry}
use Rattle.qc_layout.specs.declared.entry.L2Entry.TheVariants as entries
use Rattle.qc_layout.specs.declared.header.Part.{Part}
use Rattle.qc_layout.specs.Entries.{l2_of}
use Rattle.qc_layout.specs.Header.{fields_of, number_fault}
use Rattle.qc_layout.specs.Disks.{bits_of, blocks_in, table_at}
use Rattle.qc_layout.specs.Owners.{Who}
use Rattle.qc_layout.specs.Owners.Who.{Guest}
use Rattle.qc_layout.specs.declared.faults.ImageFault.{ImageFault}
use Rattle.qc_layout.specs.Opening.{Check, block_entry, block_named, fault_at, table_entry, slot_checks, image_checks, cluster_fault, IsFirst, IsSlot, IsCause}
use Rattle.qc_layout.specs.Opening.Check.{Refused, Claim}
use Rattle.qc_layout.specs.declared.faults.ImageFault.TheVariants.{BadBlock, Reserved, Compressed, Misaligned, PastLimit, Overlap, Uncounted}
use Rattle.qc_layout.specs.Room.{IsInOrder, TablesPass}
use Rattle.qc_layout.proofs.Checking.{Has, IsFine, all_fine, one_owner, first_cause}
use Rattle.qc_layout.proofs.Claims.{IsSized, IsClean, sized, block_good, has_block_test, has_table_check, has_slot_check, has_claim}
use Rattle.qc_layout.proofs.Orderly.{From, image_orderly}

-- ---- what an opening that refuses nothing has found

block_passes : (file : List ℕ) (i : ℕ) (r : Result (Option ℕ) ImageFault) → IsClean file → i < blocks_in file → block_named file i ≡ r
    → u64_at file (block_entry file i) % 2 ^ bits_of file ≡ 0
block_passes file i (Ok named) clean below is = block_good file i named is
block_passes file i (Err fault) clean below is =
    absurd (clean fault (has_block_test file i (Refused fault) below (rw is (inl refl))))

table_passes : (file : List ℕ) (i : ℕ) (r : Result (Option ℕ) EntryFault) → IsClean file → i < (fields_of file).l1_size → table_at file i ≡ r
    → (table : Option ℕ) × (table_at file i ≡ Ok table)
table_passes file i (Ok table) clean below is = (table, is)
table_passes file i (Err fault) clean below is =
    let found : ImageFault = fault_at (table_entry file i) fault in
    absurd (clean found (has_table_check file i (Refused found) below (rw is (inl refl))))

slot_passes : (bits at : ℕ) (slot : Who) (r : Result L2Entry EntryFault)
    → ((fault : ImageFault) → Has (slot_checks bits slot at r) (Refused fault) → ⊥) → IsInOrder r
slot_passes bits at slot (Ok entries.Hole) clean = tt
slot_passes bits at slot (Ok (entries.Zero host)) clean = tt
slot_passes bits at slot (Ok (entries.Stored host)) clean = tt
slot_passes bits at slot (Ok entries.Compressed) clean = absurd (clean (Compressed at) (inl refl))
slot_passes bits at slot (Err fault) clean = absurd (clean (fault_at at fault) (inl refl))

pub tables_pass : (part : Part) (file : List ℕ) → number_fault part (length file) (fields_of file) ≡ None → cluster_fault file ≡ None → TablesPass file
unfolding cluster_fault
tables_pass part file numbers none =
    let size : IsSized file = sized part file numbers in
    let fine : (c : Check) → Has (image_checks file) c → IsFine file c = all_fine file [] (image_checks file) none in
    let clean : IsClean file = λ fault has. fine (Refused fault) has in
    record {
      blocks = λ i below. block_passes file i (block_named file i) clean below refl;
      tables = λ i below. table_passes file i (table_at file i) clean below refl;
      entries = λ i table j below is inside.
          slot_passes (bits_of file) (table + 8 * j) (Guest i j) (l2_of (bits_of file) (u64_at file (table + 8 * j)))
          (λ fault has. clean fault (has_slot_check file i table j (Refused fault) below is inside has));
      counted = record {
        once = λ a b k this that. one_owner file [] (image_checks file) none a b k (has_claim file a k size clean this) (has_claim file b k size clean that);
        below = λ a k is. (fine (Claim a k) (has_claim file a k size clean is)).0;
        counted = λ a k is. (fine (Claim a k) (has_claim file a k size clean is)).1;
      };
    }

-- ---- and what it refuses

pub fault_cause : (part : Part) (file : List ℕ) (fault : ImageFault) → number_fault part (length file) (fields_of file) ≡ None
    → cluster_fault file ≡ Some fault → IsCause file fault
unfolding cluster_fault
fault_cause part file fault numbers found =
    first_cause file [] (From 0) (image_checks file) fault (image_orderly file (sized part file numbers)) (λ owner k has before. absurd (cc)) found

-- where the tables pass there is no cause
slot_in_order : (file : List ℕ) (at : ℕ) (r : Result L2Entry EntryFault) → TablesPass file → IsSlot file at r → IsInOrder r
slot_in_order file at r pass slot = subst IsInOrder slot.is (pass.entries slot.i slot.table slot.j slot.below slot.named slot.inside)

fault_in_order : (file : List ℕ) (at : ℕ) (fault : EntryFault) → TablesPass file → IsFirst file at (Err fault) ⊎ IsSlot file at (Err fault) → ⊥
fault_in_order file at fault pass (inl first) = let good = (pass.tables first.i first.below).1 in let bad = first.is in cc
fault_in_order file at fault pass (inr slot) = slot_in_order file at (Err fault) pass slot

pub no_cause : (file : List ℕ) (fault : ImageFault) → TablesPass file → IsCause file fault → ⊥
no_cause file (BadBlock at) pass is = is.3 (pass.blocks is.0 is.1)
no_cause file (Reserved at) pass is = fault_in_order file at entry_faults.Reserved pass is
no_cause file (Compressed at) pass is = slot_in_order file at (Ok entries.Compressed) pass is
no_cause file (Misaligned at) pass is = fault_in_order file at entry_faults.Misaligned pass is
no_cause file (PastLimit offset) pass is = absurd (omega (arith, is.4, pass.counted.below is.1 is.0 is.3))
no_cause file (Overlap offset) pass is = is.6 (pass.counted.once is.1 is.2 is.0 is.4 is.5)
no_cause file (Uncounted offset) pass is = absurd (omega (arith, is.4, pass.counted.counted is.1 is.0 is.3))

none_or_cause : (file : List ℕ) (r : Option ImageFault) → TablesPass file → ((fault : ImageFault) → r ≡ Some fault → IsCause file fault) → r ≡ None
none_or_cause file None pass cause = refl
none_or_cause file (Some fault) pass cause = absurd (no_cause file fault pass (cause fault refl))

pub none_refused : (part : Part) (file : List ℕ) → number_fault part (length file) (fields_of file) ≡ None → TablesPass file → cluster_fault file ≡ None
none_refused part file numbers pass = none_or_cause file (cluster_fault file) pass (λ fault is. fault_cause part file fault numbers is)
