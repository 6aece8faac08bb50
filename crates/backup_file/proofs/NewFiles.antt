-- What a file is that was laid out with a new header.
use Rattle.std.proofs.Common.{◌≡◌, ℕ, ◌+◌, ◌*◌, ◌%◌, ◌^◌, ◌<◌, ◌≤◌, List, [], ◌++◌, length, replicate, Bool, true, false, Option, Some, None, refl, sym, ap, ◌∙◌, subst, arith, length-append}
use Rattle.std.specs.Prelude.{not, ◌&&◌, ◌||◌, nat_lt, ◌==◌}
use Rattle.std.proofs.lemmas.Bool.{le-ltb, lt-ltb, ne_eqb, or_from}
use Rattle.std.proofs.lemmas.Nat.{one_shl, mul-le}
use Rattle.std.proofs.Math.Nat.{mul-mod_right}
use Rattle.disk_model.specs.Files.{reading, number_at}
use Rattle.span_algebra.specs.declared.spans.Base.TheVariants.{Loose}
use Rattle.qc_layout.specs.declared.header.Header.{Header}
use Rattle.qc_layout.specs.declared.header.Own.{Own}
use Rattle.qc_layout.specs.declared.header.Own.TheVariants as owns
use Rattle.qc_layout.specs.declared.header.Part.{Part}
use Rattle.qc_layout.specs.declared.header.Part.TheVariants as parts
use Rattle.qc_layout.specs.declared.records.State.TheVariants.{Blank}
use Rattle.qc_layout.specs.Header.{is_place, is_disk, l1_needed, number_fault, first_of, or_else, form_rules, feature_rules, table_rules}
use Rattle.qc_layout.specs.Disks.{place_of}
use Rattle.qc_layout.specs.Records.{record_fault, record_of, record_bytes}
use Rattle.qc_layout.specs.Spelling.{Fits, sector_of, own_bytes, number_words, AreSmallWords, IsSmallOwn, AreSmallBitmaps, IsOwnOf}
use Rattle.qc_layout.proofs.Passing.{no_fault, or_none}
use Rattle.qc_layout.proofs.Heads.{length-target}
use Rattle.qc_layout.proofs.Written.{BeginsWith}
use Rattle.qc_layout.proofs.Directories.{stores_nothing}
use Rattle.qc_layout.proofs.Telling.{Tells, IsNew, tells_passes, tells_own, tells_no_directory, new_fits, bare_tells, backed_tells}
use Rattle.backup_file.specs.declared.layout.Plan.{Plan}
use Rattle.backup_file.specs.Layout.{is_form, table_clusters, block_clusters, l1_cluster, all_clusters, HasTables, HasNumbers}
use Rattle.backup_file.specs.Made.{IsNewSource, IsNewTarget, HasBacking}
use Rattle.backup_file.specs.Plans.{IsPlan, IsPlanOf, IsLaidOut}
use Rattle.backup_file.specs.Headings.{new_fields, IsNewHeader, IsFileOf, IsBlankOwn, HasSector, blank, format_bytes}
use Rattle.backup_file.proofs.Sizes.{IsForm, IsCluster, form_of, form_tests, table_some, cluster_of, by_bits}
use Rattle.backup_file.proofs.Laying.{HasRoom, has_room}
use Rattle.backup_file.proofs.Counting.{new_is_tight, new_is_empty, new_stands}

-- ---- a header's numbers pass each rule

place_is : (bits k : ℕ) → IsCluster bits → 1 ≤ k → is_place bits (place_of bits k) ≡ true
unfolding place_of
place_is bits k cluster some =
    let x = 2 ^ bits * k in
    let positive : 0 < x = omega (arith, cluster.large, mul-le 1 1 (2 ^ bits) k (omega (arith, cluster.large)) some) in
    ap (λ (t : Bool). t && (x % 2 ^ bits == 0)) (lt-ltb 0 x positive) ∙ ap (λ (n : ℕ). n == 0) (mul-mod_right (2 ^ bits) k)

module _ (bits size backing_place backing_length : ℕ) (own : Own) (kept : List ℕ) (h : Header) (tested : is_form bits size ≡ true) (new : IsNewHeader bits size backing_place backing_length own kept h) where
  form : IsForm bits size
  form = form_of bits size tested

  cluster : IsCluster bits
  cluster = cluster_of bits form.low form.high

  room : HasRoom (2 ^ bits) (table_clusters bits size) (block_clusters bits size) (all_clusters bits size)
  room = has_room bits size form

  level_some : 1 ≤ l1_cluster bits size
  unfolding l1_cluster
  level_some = omega arith

  level_place : is_place bits (place_of bits (l1_cluster bits size)) ≡ true
  level_place = place_is bits (l1_cluster bits size) cluster level_some

  table_place : is_place bits (place_of bits 1) ≡ true
  table_place = place_is bits 1 cluster (omega arith)

  table_bytes : table_clusters bits size * 2 ^ bits ≤ 2 ^ 26
  table_bytes = omega (arith, room.counts, room.small)

  pub numbers_pass : (part : Part) → (is_disk part && nat_lt 0 backing_place) ≡ false → number_fault part 512 h.fields ≡ None
  numbers_pass part backing =
      let f = new_fields bits size backing_place backing_length in
      let tests = form_tests bits size tested in
      let needed = l1_needed bits size in
      let clusters = table_clusters bits size in
      let level = or_from (nat_lt (2 ^ 20) needed || nat_lt needed needed) (not (is_place bits f.l1_table_offset))
      (or_from (nat_lt (2 ^ 20) needed) (nat_lt needed needed) (le-ltb _ _ form.entries) (le-ltb _ _ (omega arith)))
      (ap not level_place) in
      let table = or_from ((clusters == 0) || nat_lt (2 ^ 26) (clusters * 2 ^ bits)) (not (is_place bits f.refcount_table_offset))
      (or_from (clusters == 0) (nat_lt (2 ^ 26) (clusters * 2 ^ bits)) (ne_eqb _ _ (λ z. omega (arith, table_some bits size form))) (le-ltb _ _ table_bytes))
      (ap not table_place) in
      rw new.fields (or_none (first_of (form_rules 512 f)) (or_else (first_of (feature_rules part f)) (first_of (table_rules f)))
      (no_fault (form_rules 512 f) (refl, (refl, (refl, (refl, (ap not tests.0, (ap not tests.1, tt)))))))
      (or_none (first_of (feature_rules part f)) (first_of (table_rules f))
      (no_fault (feature_rules part f) (backing, (refl, (refl, (refl, (refl, (refl, (refl, (refl, (refl, (refl, tt)))))))))))
      (no_fault (table_rules f) (level, (table, tt)))))

  small_numbers : backing_place < 2 ^ 64 → backing_length < 2 ^ 32 → AreSmallWords (number_words h.fields)
  unfolding place_of l1_cluster
  small_numbers place_small length_small =
      let high = form.high in
      let limit = form.limit in
      let entries = form.entries in
      let low : 0 < 2 ^ 32 = omega arith in
      let long : 0 < 2 ^ 64 = omega arith in
      let level : 2 ^ bits * (1 + table_clusters bits size + block_clusters bits size) < 2 ^ 64 = omega (arith, room.counts, room.small) in
      rw new.fields
      (omega arith, (omega arith, (place_small, (length_small, (omega arith, (omega arith, (low, (omega arith, (level, (omega (arith, cluster.small), (omega (arith, room.table_small), (low, (long, (long, (long, (long, (omega arith, (omega arith, tt))))))))))))))))))

  pub is_new : (part : Part) → (is_disk part && nat_lt 0 backing_place) ≡ false → backing_place < 2 ^ 64 → backing_length < 2 ^ 32 → IsOwnOf part own → IsSmallOwn own → length kept ≤ 279 → IsNew part h
  is_new part backing place_small length_small of small short = record {
    small = record {
      numbers = small_numbers place_small length_small;
      own = subst IsSmallOwn (sym new.is_own) small;
      bitmaps = subst AreSmallBitmaps (sym new.bitmaps) tt;
    };
    numbers = numbers_pass part backing;
    header_length = rw new.fields refl;
    bitmaps = new.bitmaps;
    autoclear = rw new.fields refl;
    own = subst (IsOwnOf part) (sym new.is_own) of;
    short = omega (arith, ap length new.keeps);
  }

  -- the numbers that the file tells
  pub numbers_told : (part : Part) (file : List ℕ) → Tells part file h → HasNumbers bits size file
  numbers_told part file t = record {
    cluster_bits = rw (t.fields, new.fields) refl;
    disk_size = rw (t.fields, new.fields) refl;
    refcount_table_offset = rw (t.fields, new.fields) refl;
    refcount_table_clusters = rw (t.fields, new.fields) refl;
    l1_table_offset = rw (t.fields, new.fields) refl;
    l1_size = rw (t.fields, new.fields) refl;
    header_length = rw (t.fields, new.fields) refl;
    compatible_features = rw (t.fields, new.fields) refl;
    autoclear_features = rw (t.fields, new.fields) refl;
  }

-- ---- whole files

source_new : (bits size : ℕ) (disk : List ℕ) (h : Header) → is_form bits size ≡ true → length disk ≡ 16 → IsNewHeader bits size 0 0 (owns.Source disk 0 0 0) [] h → IsNew parts.Source h
source_new bits size disk h tested long new = is_new bits size 0 0 (owns.Source disk 0 0 0) [] h tested new parts.Source refl (omega arith) (omega arith) long (omega arith, (omega arith, (omega arith, tt))) (omega arith)

source_made : (bits size : ℕ) (disk : List ℕ) (h : Header) (file : List ℕ) → is_form bits size ≡ true → length disk ≡ 16 → IsNewHeader bits size 0 0 (owns.Source disk 0 0 0) [] h → BeginsWith file h → HasTables bits size file
    → IsNewSource bits size disk file
source_made bits size disk h file tested long new begins tables =
    let form = form_of bits size tested in
    let is = source_new bits size disk h tested long new in
    let tells = bare_tells parts.Source h file is begins new.keeps in
    let bare = tells_no_directory parts.Source file h tells in
    let numbers = numbers_told bits size 0 0 (owns.Source disk 0 0 0) [] h tested new parts.Source file tells in
    record {
      stands = new_stands bits size file form numbers tables bare parts.Source (tells_passes parts.Source file h tells);
      tight = new_is_tight bits size file form numbers tables bare;
      tables = tables;
      numbers = numbers;
      sector = record { header = h; is_new = new; sector = begins.sector };
      says = λ read spells. tells_own parts.Source file h read tells spells ∙ new.is_own;
      no_directory = bare;
      stored = (stores_nothing file bare).stored;
    }

-- a backup, by the file under it
target_with : (bits size backing_place backing_length : ℕ) (own : Own) (kept : List ℕ) (backing : Option (List ℕ)) (h : Header) (file : List ℕ) → is_form bits size ≡ true → IsBlankOwn bits own →
    IsNewHeader bits size backing_place backing_length own kept h → Tells parts.Target file h → HasSector bits size backing own file → HasTables bits size file → HasBacking backing file → IsNewTarget bits size backing file
target_with bits size backing_place backing_length own kept backing h file tested record_ new tells sector tables under =
    let form = form_of bits size tested in
    let numbers = numbers_told bits size backing_place backing_length own kept h tested new parts.Target file tells in
    let bare = tells_no_directory parts.Target file h tells in
    record {
      stands = new_stands bits size file form numbers tables bare parts.Target (tells_passes parts.Target file h tells);
      tight = new_is_tight bits size file form numbers tables bare;
      sector = subst (λ (o : Own). HasSector bits size backing o file) (record_.is ∙ ap owns.Target record_.exact) sector;
      tables = tables;
      numbers = numbers;
      says = λ read spells. (record_.bytes, tells_own parts.Target file h read tells spells ∙ new.is_own ∙ record_.is, record_.well, record_.says);
      empty = new_is_empty bits size file form numbers tables bare;
      under = under;
      no_directory = bare;
      stored = (stores_nothing file bare).stored;
    }

is_own_of : (bits : ℕ) (own : Own) → IsBlankOwn bits own → IsOwnOf parts.Target own
is_own_of bits own record_ = subst (IsOwnOf parts.Target) (sym record_.is) record_.long

small_own : (bits : ℕ) (own : Own) → IsBlankOwn bits own → IsSmallOwn own
small_own bits own record_ = subst IsSmallOwn (sym record_.is) tt

bare_new : (bits size : ℕ) (own : Own) (h : Header) → is_form bits size ≡ true → IsBlankOwn bits own → IsNewHeader bits size 0 0 own [] h → IsNew parts.Target h
bare_new bits size own h tested record_ new = is_new bits size 0 0 own [] h tested new parts.Target refl (omega arith) (omega arith) (is_own_of bits own record_) (small_own bits own record_) (omega arith)

bare_made : (bits size : ℕ) (own : Own) (h : Header) (file : List ℕ) → is_form bits size ≡ true → IsBlankOwn bits own → IsNewHeader bits size 0 0 own [] h → BeginsWith file h → HasTables bits size file → IsNewTarget bits size None file
bare_made bits size own h file tested record_ new begins tables =
    let is = bare_new bits size own h tested record_ new in
    let tells = bare_tells parts.Target h file is begins new.keeps in
    target_with bits size 0 0 own [] None h file tested record_ new tells (record { header = h; is_new = new; sector = begins.sector }) tables (rw (tells.fields, new.fields) refl, rw (tells.fields, new.fields) refl)

backed_new : (bits size : ℕ) (own : Own) (name : List ℕ) (h : Header) → is_form bits size ≡ true → length name ≤ 255 → IsBlankOwn bits own → IsNewHeader bits size 208 (length name) own (format_bytes ++ name) h → IsNew parts.Target h
backed_new bits size own name h tested short record_ new =
    is_new bits size 208 (length name) own (format_bytes ++ name) h tested new parts.Target refl (omega arith) (omega arith) (is_own_of bits own record_) (small_own bits own record_) (omega (arith, length-append format_bytes name))

backed_made : (bits size : ℕ) (own : Own) (name : List ℕ) (h : Header) (file : List ℕ) → is_form bits size ≡ true → length name ≤ 255 → IsBlankOwn bits own → IsNewHeader bits size 208 (length name) own (format_bytes ++ name) h →
    BeginsWith file h → HasTables bits size file → IsNewTarget bits size (Some name) file
backed_made bits size own name h file tested short record_ new begins tables =
    let is = backed_new bits size own name h tested short record_ new in
    let backed = backed_tells parts.Target h file name is begins new.keeps in
    let tells = backed.tells in
    let long = ap length (ap own_bytes (new.is_own ∙ record_.is)) ∙ length-target record_.bytes record_.long in
    let at : 112 + length (own_bytes h.own) + 24 ≡ 208 = omega arith in
    target_with bits size 208 (length name) own (format_bytes ++ name) (Some name) h file tested record_ new tells (record { header = h; is_new = new; sector = begins.sector }) tables
    (rw (tells.fields, new.fields) refl, rw (tells.fields, new.fields) refl, ap (λ (n : ℕ). reading file n (length name)) (sym at) ∙ backed.name_stands, backed.format)

-- ---- as they are laid out

pub file_is : (plan : Plan) (h : Header) (sector file : List ℕ) → IsPlan plan → (Fits h → sector ≡ sector_of h) → IsLaidOut plan.cluster_bits plan.size sector file → IsFileOf plan h file
unfolding place_of
file_is plan h sector file is same laid = record {
  long = omega (arith, (has_room plan.cluster_bits plan.size (form_of plan.cluster_bits plan.size is.form)).sector, laid.tables.long);
  sector = λ fits. laid.first ∙ same fits;
  tables = laid.tables;
}

begins : {plan : Plan} {part : Part} (h : Header) (file : List ℕ) → IsFileOf plan h file → IsNew part h → BeginsWith file h
begins {plan} {part} h file is new = record { fits = new_fits part h new; long = is.long; sector = is.sector (new_fits part h new) }

pub source_file : {bits size : ℕ} {disk kept : List ℕ} {plan : Plan} {h : Header} (file : List ℕ) → IsPlanOf bits size plan → length disk ≡ 16 → kept ≡ [] → IsNewHeader plan.cluster_bits plan.size 0 0 (owns.Source disk 0 0 0) kept h
    → IsFileOf plan h file → IsNewSource bits size disk file
source_file {bits} {size} {disk} {kept} {plan} {h} file of long none new is =
    let tested = rw (of.is_bits, of.is_size) at of.numbers.form in
    let tables = rw (of.is_bits, of.is_size) at is.tables in
    let header = rw (of.is_bits, of.is_size, none) at new in
    source_made bits size disk h file tested long header (begins h file is (source_new bits size disk h tested long header)) tables

pub bare_file : {bits size : ℕ} {own : Own} {kept : List ℕ} {plan : Plan} {h : Header} (file : List ℕ) → IsPlanOf bits size plan → IsBlankOwn bits own → kept ≡ [] → IsNewHeader plan.cluster_bits plan.size 0 0 own kept h
    → IsFileOf plan h file → IsNewTarget bits size None file
bare_file {bits} {size} {own} {kept} {plan} {h} file of record_ none new is =
    let tested = rw (of.is_bits, of.is_size) at of.numbers.form in
    let tables = rw (of.is_bits, of.is_size) at is.tables in
    let header = rw (of.is_bits, of.is_size, none) at new in
    bare_made bits size own h file tested record_ header (begins h file is (bare_new bits size own h tested record_ header)) tables

pub backed_file : {bits size : ℕ} {own : Own} {kept : List ℕ} {plan : Plan} {h : Header} (name file : List ℕ) → IsPlanOf bits size plan → IsBlankOwn bits own → length name ≤ 255 → kept ≡ format_bytes ++ name
    → IsNewHeader plan.cluster_bits plan.size 208 (length name) own kept h → IsFileOf plan h file → IsNewTarget bits size (Some name) file
backed_file {bits} {size} {own} {kept} {plan} {h} name file of record_ short both new is =
    let tested = rw (of.is_bits, of.is_size) at of.numbers.form in
    let tables = rw (of.is_bits, of.is_size) at is.tables in
    let header = rw (of.is_bits, of.is_size, both) at new in
    backed_made bits size own name h file tested short record_ header (begins h file is (backed_new bits size own name h tested short record_ header)) tables

-- a file is short enough to be written at once
pub short_file : (bits size : ℕ) (file : List ℕ) → is_form bits size ≡ true → HasTables bits size file → length file ≤ 2 ^ 62
unfolding place_of
short_file bits size file tested tables = omega (arith, tables.long, (has_room bits size (form_of bits size tested)).small)

-- ---- the record of a backup that nothing was written to

pub record IsBlankBytes (bits : ℕ) (bytes : List ℕ) : Type 0 where
  pub long : length bytes ≡ 64
  pub well : record_fault bits bytes ≡ None
  pub says : record_of bytes ≡ blank bits

blank_bytes : (bits : ℕ) → 9 ≤ bits → bits ≤ 21 → IsBlankBytes bits (record_bytes (blank bits))
unfolding record_fault record_of record_bytes number_at reading
blank_bytes bits low high = by_bits (λ b. IsBlankBytes b (record_bytes (blank b)))
    (record { long = refl; well = refl; says = refl })
    (record { long = refl; well = refl; says = refl })
    (record { long = refl; well = refl; says = refl })
    (record { long = refl; well = refl; says = refl })
    (record { long = refl; well = refl; says = refl })
    (record { long = refl; well = refl; says = refl })
    (record { long = refl; well = refl; says = refl })
    (record { long = refl; well = refl; says = refl })
    (record { long = refl; well = refl; says = refl })
    (record { long = refl; well = refl; says = refl })
    (record { long = refl; well = refl; says = refl })
    (record { long = refl; well = refl; says = refl })
    (record { long = refl; well = refl; says = refl })
    bits low high

pub blank_own : (bits : ℕ) (bytes : List ℕ) → 9 ≤ bits → bits ≤ 21 →
    bytes ≡ record_bytes (record { state = Blank; disk = replicate 16 0; base = Loose; point = record { epoch = 0; serial = 0 }; unit = (1 * 2 ^ bits) % 2 ^ 32 }) → IsBlankOwn bits (owns.Target bytes)
blank_own bits bytes low high is =
    let unit : (1 * 2 ^ bits) % 2 ^ 32 ≡ 2 ^ bits = one_shl bits 32 (omega arith) in
    let same : bytes ≡ record_bytes (blank bits) = is ∙ ap (λ (n : ℕ). record_bytes (record { state = Blank; disk = replicate 16 0; base = Loose; point = record { epoch = 0; serial = 0 }; unit = n })) unit in
    let has = subst (IsBlankBytes bits) (sym same) (blank_bytes bits low high) in
    record { bytes = bytes; is = refl; exact = same; long = has.long; well = has.well; says = has.says }
