-- What the rules of a header leave of a map's numbers.
use Rattle.std.proofs.Common.{◌≡◌, inl, inr, ℕ, ◌+◌, ◌-◌, ◌*◌, ◌/◌, ◌%◌, ◌^◌, ◌<◌, ◌≤◌, List, length, Option, None, sym, subst, arith, rules}
use Rattle.std.proofs.lemmas.Bool.{cases_eq}
use Rattle.std.proofs.Math.Nat.{div-add-mod, mod-lt, mul-le-mul_left, one-le-mul}
use Rattle.disk_model.specs.World.{World}
use Rattle.qc_layout.specs.declared.header.Fields.{Fields}
use Rattle.qc_layout.specs.declared.header.Header.{Header}
use Rattle.qc_layout.specs.declared.header.HeaderFault.{HeaderFault}
use Rattle.qc_layout.specs.declared.header.Part.{Part}
use Rattle.qc_layout.specs.Header.{fields_of, number_fault, first_of, or_else, form_rules, feature_rules, table_rules, l1_needed}
use Rattle.qc_layout.proofs.NumberLaws.{bits_low}
use Rattle.qc_layout.proofs.Passing.{numbers_pass, none_right}
use Rattle.image_header.specs.Headers.{IsRead}
use Rattle.qc_map.specs.Mapping.{IsMapping, mapping_of}

none_left : (a b : Option HeaderFault) → or_else a b ≡ None → a ≡ None
none_left a b none = search rules

record IsSized (h : Fields) : Type 0 where
  some : 0 < h.size
  small : h.size ≤ 2 ^ 40
  whole : h.size % 512 ≡ 0

sized : (length : ℕ) (h : Fields) → first_of (form_rules length h) ≡ None → IsSized h
sized length h none = search rules

record HasTables (h : Fields) : Type 0 where
  few : h.l1_size ≤ 2 ^ 20
  enough : l1_needed h.cluster_bits h.size ≤ h.l1_size

tabled : (h : Fields) → first_of (table_rules h) ≡ None → HasTables h
tabled h none = search rules

-- so many parts cover a size
parts_cover : (part size n : ℕ) → 0 < part → (size + (part - 1)) / part ≤ n → size ≤ part * n
parts_cover part size n some enough =
    let whole = div-add-mod (size + (part - 1)) part in
    let rest = mod-lt (size + (part - 1)) some in
    let times : part * ((size + (part - 1)) / part) ≤ part * n = mul-le-mul_left part enough in
    omega (arith, whole, rest, times, some)

-- the tables cover the disk
tables_cover : (h : Fields) → 9 ≤ h.cluster_bits → l1_needed h.cluster_bits h.size ≤ h.l1_size → h.size ≤ h.l1_size * (2 ^ h.cluster_bits / 8) * 2 ^ h.cluster_bits
tables_cover h low enough =
    let c = 2 ^ h.cluster_bits in
    let w = c / 8 in
    let large : 512 ≤ c = bits_low h.cluster_bits low in
    let order : c * w * h.l1_size ≡ h.l1_size * w * c = grind arith in
    subst (λ (n : ℕ). h.size ≤ n) order (parts_cover (c * w) h.size h.l1_size (one-le-mul (omega (arith, large)) (omega (arith, large))) enough)

record IsNumbered (h : Fields) : Type 0 where
  low : 9 ≤ h.cluster_bits
  high : h.cluster_bits ≤ 21
  size : IsSized h
  tables : HasTables h

numbered : (part : Part) (file : List ℕ) → number_fault part (length file) (fields_of file) ≡ None → IsNumbered (fields_of file)
numbered part file none =
    let h : Fields = fields_of file in
    let form = first_of (form_rules (length file) h) in
    let features = first_of (feature_rules part h) in
    let tables = first_of (table_rules h) in
    let passes = numbers_pass part (length file) h none in
    record {
      low = passes.bits_low;
      high = passes.bits_high;
      size = sized (length file) h (none_left form (or_else features tables) none);
      tables = tabled h (none_right features tables (none_right form (or_else features tables) none));
    }

-- the mapping of a header that was read
pub mapping_read : (file : ℕ) (h : Header) (f : ℕ) (w : World) → IsRead h f w → (0 < h.fields.l1_size → h.fields.l1_table_offset ≤ 2 ^ 52) → IsMapping (mapping_of file h.fields)
mapping_read file h f w read near =
    let n : IsNumbered h.fields = subst IsNumbered (sym read.spells.fields) (numbered read.part read.bytes read.spells.numbers) in
    let covers = tables_cover h.fields n.low n.tables.enough in
    let some = n.size.some in
    let few = n.tables.few in
    record {
      low = n.low;
      high = n.high;
      small = n.size.small;
      whole = n.size.whole;
      near = elim (cases_eq h.fields.l1_size 0) [
        | inl none ↦ absurd (let z : h.fields.l1_size * (2 ^ h.fields.cluster_bits / 8) * 2 ^ h.fields.cluster_bits ≡ 0 = rw none (omega arith) in omega (arith, z, covers, some))
        | inr there ↦ (let at = near (omega (arith, there)) in omega (arith, at, few))
      ];
      covers = covers;
    }
