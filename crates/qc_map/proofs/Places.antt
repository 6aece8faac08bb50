-- The shape of a map's numbers, and where a part of a request lies on the disk.
use Rattle.std.proofs.Common.{◌≡◌, inl, inr, ℕ, ◌+◌, ◌-◌, ◌*◌, ◌/◌, ◌%◌, ◌^◌, ◌<◌, ◌≤◌, List, length, refl, sym, ◌∙◌, ap, arith, rules}
use Rattle.std.proofs.lemmas.Bool.{cases_lt}
use Rattle.std.proofs.lemmas.Nat.{pow-add}
use Rattle.std.proofs.Math.Nat.{div-add-mod, mod-lt, mul-le-mul_left, mul_comm, pow-le-pow_right}
use Rattle.disk_model.specs.Files.{byte, u64_at}
use Rattle.disk_model.proofs.Laws.{same_file}
use Rattle.image_model.specs.Clusters.{Shape, size, per, offset, stored, pick, host, word_of, guest}
use Rattle.image_model.specs.Disks.{disk_byte, disk_of}
use Rattle.image_model.specs.Rows.{disk_place}
use Rattle.image_model.specs.Space.{Store, kind_at}
use Rattle.bitmap_model.specs.Granules.{granules_in}
use Rattle.std.specs.Prelude.{not, ◌==◌}
use Rattle.image_steps.proofs.Disk.{byte-disk_of, length-disk_of}
use Rattle.image_steps.proofs.Naming.{host_entry}
use Rattle.map_rows.specs.declared.parts.Part.{Part}
use Rattle.map_rows.specs.Parts.{IsPart}
use Rattle.map_rows.specs.Stores.{HasStore, kind_of}
use Rattle.qc_map.specs.Mapping.{Mapping, IsMapping, IsMapOf, shape_by}
use Rattle.qc_map.specs.Reading.{IsRow, IsPartFor, row_byte}
use Rattle.qc_map.proofs.Words.{first_level_by}

-- ---- the shape of a map's numbers

pub cluster_by : (m : Mapping) → IsMapping m → size (shape_by m) ≡ 2 ^ m.bits
unfolding shape_by
cluster_by m is =
    let more : 2 ^ 9 ≤ 2 ^ m.bits = pow-le-pow_right {n = 2} (omega arith) {i = 9} {j = m.bits} is.low in
    let split : 2 ^ m.bits ≡ 2 ^ (m.bits - 9) * 512 = pow_split m.bits is.low in
    omega (arith, split)
  where
    pow_split : (n : ℕ) → 9 ≤ n → 2 ^ n ≡ 2 ^ (n - 9) * 512
    pow_split n low = ap (λ (k : ℕ). 2 ^ k) (omega (arith, low)) ∙ pow-add 2 (n - 9) 9

pub cluster_small : (m : Mapping) → IsMapping m → size (shape_by m) ≤ 2 ^ 21
cluster_small m is = let most : 2 ^ m.bits ≤ 2 ^ 21 = pow-le-pow_right {n = 2} (omega arith) {i = m.bits} {j = 21} is.high in omega (arith, cluster_by m is, most)

pub cluster_some : (m : Mapping) → IsMapping m → 0 < (shape_by m).sectors
cluster_some m is = let more : 2 ^ 9 ≤ 2 ^ m.bits = pow-le-pow_right {n = 2} (omega arith) {i = 9} {j = m.bits} is.low in omega (arith, cluster_by m is, more)

-- ---- quotients and what is left

pub div_is : (x g k t : ℕ) → x ≡ k * g + t → t < g → x / g ≡ k
div_is x g k t is less = search rules

pub mod_is : (x g k t : ℕ) → x ≡ k * g + t → t < g → x % g ≡ t
mod_is x g k t is less =
    let some : g * (x / g) ≡ g * k = ap (λ (n : ℕ). g * n) (div_is x g k t is less) in
    omega (arith, is, div-add-mod x g, some, mul_comm g k)

pub div_less : (y g n : ℕ) → 0 < g → y < g * n → y / g < n
div_less y g n some less = elim (cases_lt (y / g) n) [
  | inl is ↦ is
  | inr more ↦ absurd (let e : g * n ≤ g * (y / g) = mul-le-mul_left g more in omega (arith, e, div-add-mod y g, less))
]

-- ---- a byte of a part

module _ (s : Shape) (file : List ℕ) (some : 0 < s.sectors) where
  pub row_guest : (row : List ℕ) (i j n y : ℕ) → IsRow s file i j n row → y < size s * n → row_byte (size s) row file y ≡ guest s file i (j + y / size s) (y % size s)
  row_guest row i j n y is inside =
      let at : stored (u64_at row (8 * (y / size s))) ≡ host s file i (j + y / size s) =
      ap stored (is.each (y / size s) (div_less y (size s) n (omega (arith, some)) inside)) ∙ sym (host_entry s file i (j + y / size s)) in
      ap (λ (h : ℕ). pick h (byte file (h + y % size s))) at

  -- byte y of the clusters from (i, j) on
  pub guest_disk : (i j n y b : ℕ) → j + n ≤ per s → y < size s * n → b ≡ disk_place s i j + y → guest s file i (j + y / size s) (y % size s) ≡ disk_byte s file b
  guest_disk i j n y b slots inside is =
      let m : ℕ = y / size s in
      let t : ℕ = y % size s in
      let m_in : m < n = div_less y (size s) n (omega (arith, some)) inside in
      let t_in : t < size s = mod-lt y (omega (arith, some)) in
      let whole : size s * m + t ≡ y = div-add-mod y (size s) in
      let times : (i * per s + (j + m)) * size s ≡ (i * per s + j) * size s + size s * m = grind arith in
      let here : b ≡ (i * per s + (j + m)) * size s + t = omega (arith, is, whole, times) in
      let cluster : b / size s ≡ i * per s + (j + m) = div_is b (size s) (i * per s + (j + m)) t here t_in in
      let byte_is : b % size s ≡ t = mod_is b (size s) (i * per s + (j + m)) t here t_in in
      let table : b / size s / per s ≡ i = div_is (b / size s) (per s) i (j + m) cluster (omega (arith, m_in, slots)) in
      let slot : b / size s % per s ≡ j + m = mod_is (b / size s) (per s) i (j + m) cluster (omega (arith, m_in, slots)) in
      sym (ap (λ (a : ℕ). guest s file a (b / size s % per s) (b % size s)) table ∙ ap (λ (a : ℕ). guest s file i a (b % size s)) slot ∙ ap (λ (a : ℕ). guest s file i (j + m) a) byte_is)

-- the part lies in one of the map's tables
pub part_for : (m : Mapping) (at length : ℕ) (p : Part) → IsMapping m → at < m.size → IsPart (shape_by m) at length p → IsPartFor m p
part_for m at length p mapping inside is =
    let s = shape_by m in
    let cluster = cluster_by m mapping in
    let entries : per s ≡ 2 ^ m.bits / 8 = omega (arith, cluster) in
    let all : m.tables * (2 ^ m.bits / 8) * 2 ^ m.bits ≡ m.tables * per s * size s =
    ap (λ (w : ℕ). m.tables * w * 2 ^ m.bits) (sym entries) ∙ ap (λ (c : ℕ). m.tables * per s * c) (sym cluster) in
    record {
      table = elim (cases_lt p.table m.tables) [
        | inl less ↦ less
        | inr more ↦ absurd (
            let e : per s * size s * m.tables ≤ per s * size s * p.table = mul-le-mul_left (per s * size s) more in
            let f : per s * size s * m.tables ≡ m.tables * per s * size s = grind arith in
            let g : (p.table * per s + p.slot) * size s ≡ per s * size s * p.table + p.slot * size s = grind arith in
            omega (arith, e, f, g, all, is.begins, mapping.covers, inside))
      ];
      slots = is.slots;
      inside = is.inside;
      covers = is.covers;
    }

-- ---- any shape of the map has its disk

module _ (s : Shape) (m : Mapping) (mapping : IsMapping m) (is : IsMapOf s m) where
  pub sectors : (shape_by m).sectors ≡ s.sectors
  sectors = omega (arith, cluster_by m mapping, is.cluster)

  first_level : (shape_by m).l1 ≡ s.l1
  first_level = first_level_by m ∙ is.first_level

  same_byte : (file : List ℕ) (b : ℕ) → disk_byte (shape_by m) file b ≡ disk_byte s file b
  same_byte file b = ap (λ (k : ℕ). disk_byte (record s { sectors = k; l1 = (shape_by m).l1 }) file b) sectors ∙ ap (λ (l : ℕ). disk_byte (record s { l1 = l }) file b) first_level

  same_word : (file : List ℕ) (i j : ℕ) → word_of s file i j ≡ word_of (shape_by m) file i j
  same_word file i j = sym (ap (λ (l : ℕ). pick (offset (u64_at file (l + 8 * i))) (u64_at file (offset (u64_at file (l + 8 * i)) + 8 * j))) first_level)

pub disk_by : (s : Shape) (m : Mapping) (n : ℕ) (file : List ℕ) → IsMapping m → IsMapOf s m → disk_of (shape_by m) n file ≡ disk_of s n file
disk_by s m n file mapping is =
    same_file (disk_of (shape_by m) n file) (disk_of s n file) (length-disk_of (shape_by m) n file ∙ sym (length-disk_of s n file)) (λ b inside.
    let b_in : b < n = omega (arith, inside, length-disk_of (shape_by m) n file) in
    byte-disk_of (shape_by m) n file b b_in ∙ same_byte s m mapping is file b ∙ sym (byte-disk_of s n file b b_in))

pub size_by : (s : Shape) (m : Mapping) → IsMapping m → IsMapOf s m → size (shape_by m) ≡ size s
size_by s m mapping is = cluster_by m mapping ∙ is.cluster

-- and its kinds and tables
pub store_by : (s : Shape) (m : Mapping) (total : ℕ) (file : List ℕ) (store : Store) → IsMapping m → IsMapOf s m → HasStore s total file store → HasStore (shape_by m) total file store
store_by s m total file store mapping is has =
    let same = sectors s m mapping is in
    let cluster : size s ≡ size (shape_by m) = omega (arith, same) in
    let entries : per s ≡ per (shape_by m) = omega (arith, same) in
    record {
      cluster = has.cluster ∙ cluster;
      kind_count = has.kind_count ∙ ap (granules_in total) cluster;
      kinds = λ i j j_in inside.
          let at : i * per (shape_by m) + j ≡ i * per s + j = ap (λ (w : ℕ). i * w + j) (sym entries) in
          ap (kind_at store) at ∙ has.kinds i j (omega (arith, j_in, entries)) (omega (arith, at, inside)) ∙ ap kind_of (same_word s m mapping is file i j);
      table_count = has.table_count ∙ ap (granules_in (length store.kinds)) entries;
      tables = λ i inside. has.tables i inside ∙ sym (ap (λ (l : ℕ). not (offset (u64_at file (l + 8 * i)) == 0)) (first_level s m mapping is));
    }
