-- What holds where the rules of a header pass.
use Rattle.std.proofs.Common.{rules}
use Rattle.std.proofs.Common.{◌≡◌, inl, inr, ℕ, ◌*◌, ◌%◌, ◌^◌, ◌<◌, ◌≤◌, Bool, true, false, List, [], ◌∷◌, Option, Some, None, refl, arith}
use Rattle.std.proofs.lemmas.Bool.{cases_lt}
use Rattle.std.proofs.Math.Nat.{pow-le-pow_right, mod-eq_of_lt}
use Rattle.std.specs.Prelude.{if◌then◌else◌}
use Rattle.std.specs.List.{All}
use Rattle.std.proofs.lemmas.List.Elements.{All-nil, All-cons}
use Rattle.qc_layout.specs.declared.extension.Extension.{Extension}
use Rattle.qc_layout.specs.declared.header.Fields.{Fields}
use Rattle.qc_layout.specs.declared.header.Part.{Part}
use Rattle.qc_layout.specs.declared.header.HeaderFault.{HeaderFault}
use Rattle.qc_layout.specs.Header.{Rule, is_place, first_of, or_else, form_rules, feature_rules, table_rules, number_fault}
use Rattle.qc_layout.specs.Extensions.{IsExtension, AreExtensions, behind}
use Rattle.qc_layout.specs.Reading.{IsNear}

-- ---- rules

-- neither of two, where there is none
none_left : (a b : Option HeaderFault) → or_else a b ≡ None → a ≡ None
none_left a b h = search rules

pub none_right : (a b : Option HeaderFault) → or_else a b ≡ None → b ≡ None
none_right a b h = search rules

pub or_none : (a b : Option HeaderFault) → a ≡ None → b ≡ None → or_else a b ≡ None
or_none a b f h = cc

-- each rule passed
abbrev pub AllPass : List Rule → Type 0
AllPass [] = Unit {0}
AllPass (r ∷ rs) = (r.fails ≡ false) × AllPass rs

first_passes : (fails : Bool) (fault : HeaderFault) (rest : Option HeaderFault) → (if fails then Some fault else rest) ≡ None → (fails ≡ false) × (rest ≡ None)
first_passes fails fault rest h = search rules

pub all_pass : (rs : List Rule) → first_of rs ≡ None → AllPass rs
all_pass [] none = tt
all_pass (r ∷ rs) none = let p = first_passes r.fails r.fault (first_of rs) none in (p.0, all_pass rs p.1)

pub no_fault : (rs : List Rule) → AllPass rs → first_of rs ≡ None
no_fault [] pass = refl
no_fault (r ∷ rs) pass = let here = pass.0 in let rest = no_fault rs pass.1 in cc

-- what the rules leave of a header's numbers
pub record Passes (length : ℕ) (h : Fields) : Type 0 where
  pub long : 104 ≤ length
  pub length_low : 104 ≤ h.header_length
  pub length_high : h.header_length ≤ 504
  pub length_whole : h.header_length % 8 ≡ 0
  pub bits_low : 9 ≤ h.cluster_bits
  pub bits_high : h.cluster_bits ≤ 21

form_passes : (length : ℕ) (h : Fields) → first_of (form_rules length h) ≡ None → Passes length h
form_passes length h none = search rules

pub numbers_pass : (part : Part) (length : ℕ) (h : Fields) → number_fault part length h ≡ None → Passes length h
numbers_pass part length h none = form_passes length h (none_left (first_of (form_rules length h)) (or_else (first_of (feature_rules part h)) (first_of (table_rules h))) none)

-- the compression is none
features_pass : (part : Part) (h : Fields) → first_of (feature_rules part h) ≡ None → h.compression_type ≡ 0
features_pass part h none = search rules

pub plain_pass : (part : Part) (length : ℕ) (h : Fields) → number_fault part length h ≡ None → h.compression_type ≡ 0
plain_pass part length h none =
    let features = none_right (first_of (form_rules length h)) (or_else (first_of (feature_rules part h)) (first_of (table_rules h))) none in
    features_pass part h (none_left (first_of (feature_rules part h)) (first_of (table_rules h)) features)

-- they pass in a file of another length too
pub passed_in : (part : Part) (m n : ℕ) (f : Fields) → 104 ≤ n → number_fault part m f ≡ None → number_fault part n f ≡ None
passed_in part m n f long passed = search rules

-- ---- the list

-- its extensions stand before its end
pub listing_near : (file : List ℕ) (end from : ℕ) (es : List Extension) → end ≤ 65536 → AreExtensions file end from es → All IsNear es
listing_near file end from [] small are = All-nil IsNear
listing_near file end from (e ∷ es) small are =
    let is : IsExtension file end from e = are.0 in
    All-cons IsNear e es (record { low = omega (arith, is.place); high = omega (arith, is.whole) }) (listing_near file end (behind e) es small are.1)

-- ---- where tables stand

-- past the first sector, and the disk has bytes
pub record AreBehind (h : Fields) : Type 0 where
  pub some : 0 < h.size
  pub firsts : 512 ≤ h.l1_table_offset
  pub counts : 512 ≤ h.refcount_table_offset
  pub table : 0 < h.refcount_table_clusters
  pub few : h.refcount_table_clusters * 2 ^ h.cluster_bits ≤ 2 ^ 26

place_past : (bits offset : ℕ) → 9 ≤ bits → is_place bits offset ≡ true → 512 ≤ offset
place_past bits offset low is =
    let cluster : 512 ≤ 2 ^ bits = pow-le-pow_right (omega arith) low in
    let parts : (0 < offset) × (offset % 2 ^ bits ≡ 0) = search rules in
    let some = parts.0 in
    elim (cases_lt offset (2 ^ bits)) [
      | inl below ↦ absurd (let same = mod-eq_of_lt below in let whole = parts.1 in omega arith)
      | inr past ↦ omega arith
    ]

record TablesPass (h : Fields) : Type 0 where
  firsts : is_place h.cluster_bits h.l1_table_offset ≡ true
  counts : is_place h.cluster_bits h.refcount_table_offset ≡ true
  table : 0 < h.refcount_table_clusters
  few : h.refcount_table_clusters * 2 ^ h.cluster_bits ≤ 2 ^ 26

tables_pass : (h : Fields) → first_of (table_rules h) ≡ None → TablesPass h
tables_pass h none = search rules

size_some : (length : ℕ) (h : Fields) → first_of (form_rules length h) ≡ None → 0 < h.size
size_some length h none = search rules

pub are_behind : (part : Part) (length : ℕ) (h : Fields) → number_fault part length h ≡ None → AreBehind h
are_behind part length h none =
    let last = none_right (first_of (form_rules length h)) (or_else (first_of (feature_rules part h)) (first_of (table_rules h))) none in
    let passed = tables_pass h (none_right (first_of (feature_rules part h)) (first_of (table_rules h)) last) in
    let bits = (numbers_pass part length h none).bits_low in
    record {
      some = size_some length h (none_left (first_of (form_rules length h)) (or_else (first_of (feature_rules part h)) (first_of (table_rules h))) none);
      firsts = place_past h.cluster_bits h.l1_table_offset bits passed.firsts;
      counts = place_past h.cluster_bits h.refcount_table_offset bits passed.counts;
      table = passed.table;
      few = passed.few;
    }
