-- Kinds and tables by the entries of a safe file, and by their rules.
use Rattle.std.proofs.Common.{◌≡◌, inl, inr, ℕ, ◌+◌, ◌*◌, ◌/◌, ◌%◌, ◌<◌, ◌≤◌, ◌↔◌, Bool, true, false, List, length, Option, Some, None, Result, Ok, Err, refl, sym, ap, subst, ◌∙◌, arith}
use Rattle.std.specs.Prelude.{not, ◌==◌, if◌then◌else◌, is_some}
use Rattle.std.proofs.lemmas.Bool.{cases_eq}
use Rattle.std.proofs.lemmas.Nat.{div-mul-add, div-add-mod'}
use Rattle.std.proofs.Math.Nat.{mod-lt}
use Rattle.disk_model.specs.Files.{u64_at}
use Rattle.bitmap_model.specs.Granules.{is_in, granules_in}
use Rattle.bitmap_model.proofs.Places.{place_below}
use Rattle.qc_layout.specs.declared.entry.EntryFault.{EntryFault}
use Rattle.qc_layout.specs.declared.entry.L2Entry.{L2Entry}
use Rattle.qc_layout.specs.declared.entry.L2Entry.TheVariants as entries
use Rattle.qc_layout.specs.declared.header.Fields.{Fields}
use Rattle.qc_layout.specs.declared.header.Part.{Part}
use Rattle.qc_layout.specs.Entries.{l1_of, l2_of, offset_in}
use Rattle.qc_layout.specs.Header.{fields_of}
use Rattle.qc_layout.specs.Disks.{Passes, bits_of, table_at, entry_under, entry_at}
use Rattle.image_model.specs.Clusters.{Shape, size, per, place, offset, pick, word_of, IsGuestWord, IsTable, Forms, IsShape, IsSafe}
use Rattle.image_model.specs.Images.{IsKind, IsThere, HasClusters}
use Rattle.image_model.specs.Space.{Kind, Store, Hole, Data, Zeroed, kind_at, entries_in}
use Rattle.image_steps.proofs.Bridge.{IsHeaded, headed, row_word, same_fields}
use Rattle.image_steps.proofs.Disk.{IsCovered, covered_by}
use Rattle.image_steps.proofs.Kept.{linked_at, pick_some}
use Rattle.image_steps.proofs.Places.{offset_none, place_some}
use Rattle.image_steps.proofs.Words.{offset_same, l1_says, l1_some, l2_says, table_plain, guest_plain, words_are}
use Rattle.map_rows.specs.Stores.{HasStore, kind_of, has_table}

-- ---- one kind, and one answer whether a table is there

one_kind : (e : Result L2Entry EntryFault) (a b : Kind) → IsKind e a → IsKind e b → a ≡ b
one_kind (Ok entries.Hole) a b x y = x ∙ sym y
one_kind (Ok (entries.Zero host)) a b x y = x ∙ sym y
one_kind (Ok (entries.Stored host)) a b x y = x ∙ sym y
one_kind (Ok entries.Compressed) a b x y = absurd x
one_kind (Err fault) a b x y = absurd x

one_there : (e : Result (Option ℕ) EntryFault) (a b : Bool) → IsThere e a → IsThere e b → a ≡ b
one_there (Ok table) a b x y = x ∙ sym y
one_there (Err fault) a b x y = absurd x

-- ---- by a word

flags : (w : ℕ) → (w % 2 == 1) ≡ not (w % 2 == 0)
flags w = elim (cases_eq (w % 2) 0) [
  | inl even ↦ ap (λ (k : ℕ). k == 1) even ∙ sym (ap (λ (k : ℕ). not (k == 0)) even)
  | inr odd ↦ (let one : w % 2 ≡ 1 = omega (arith, odd) in ap (λ (k : ℕ). k == 1) one ∙ sym (ap (λ (k : ℕ). not (k == 0)) one))
]

told_kind : (none flag plain : Bool) (o : ℕ) → flag ≡ not plain
    → IsKind (Ok (if none then entries.Hole else if flag then entries.Zero o else entries.Stored o)) (if none then Hole else if plain then Data else Zeroed)
told_kind true flag plain o is = refl
told_kind false true true o is = absurd cc
told_kind false true false o is = refl
told_kind false false true o is = refl
told_kind false false false o is = absurd cc

told_there : (none : Bool) (o : ℕ) → not none ≡ is_some (if none then None else Some o)
told_there true o = refl
told_there false o = refl

module _ (s : Shape) (file : List ℕ) (is : IsHeaded s file) (forms : Forms s file) where
  abbrev bits : ℕ
  bits = bits_of file

  word_kind : (w : ℕ) → IsGuestWord s w → IsKind (l2_of bits w) (kind_of w)
  word_kind w form =
      let K : ℕ → Kind = λ o. if o == 0 then Hole else if w % 2 == 0 then Data else Zeroed in
      subst (λ (e : Result L2Entry EntryFault). IsKind e (K (offset w))) (sym (l2_says bits w (guest_plain s is.some bits is.cluster w form)))
      (subst (λ (o : ℕ). IsKind (Ok (if offset_in w == 0 then entries.Hole else if w % 2 == 1 then entries.Zero (offset_in w) else entries.Stored (offset_in w))) (K o)) (offset_same w)
      (told_kind (offset_in w == 0) (w % 2 == 1) (w % 2 == 0) (offset_in w) (flags w)))

  table_says : (i : ℕ) → i < s.tables → table_at file i ≡ Ok (if offset_in (u64_at file (s.l1 + 8 * i)) == 0 then None else Some (offset_in (u64_at file (s.l1 + 8 * i))))
  table_says i i_in =
      let w = u64_at file (s.l1 + 8 * i) in
      ap (l1_of bits) (row_word s file is i) ∙ l1_says bits w (table_plain s is.some bits is.cluster w (forms.tables i i_in))

  there_is : (i : ℕ) → i < s.tables → IsThere (table_at file i) (has_table s file i)
  there_is i i_in =
      let w = u64_at file (s.l1 + 8 * i) in
      subst (λ (e : Result (Option ℕ) EntryFault). IsThere e (has_table s file i)) (sym (table_says i i_in))
      (subst (λ (o : ℕ). not (o == 0) ≡ is_some (if offset_in w == 0 then None else Some (offset_in w))) (offset_same w) (told_there (offset_in w == 0) (offset_in w)))

  kind_none : (w : ℕ) → w ≡ 0 → kind_of w ≡ Hole
  kind_none w none = ap kind_of none ∙ ap (λ (o : ℕ). if o == 0 then Hole else Data) offset_none

  kind_is : (i j : ℕ) → i < s.tables → j < per s → IsKind (entry_under file (table_at file i) j) (kind_of (word_of s file i j))
  kind_is i j i_in j_in =
      let w = u64_at file (s.l1 + 8 * i) in
      elim (forms.tables i i_in).at [
        | inl none ↦
            let says : table_at file i ≡ Ok None = table_says i i_in ∙ ap (λ (o : ℕ). Ok (if o == 0 then None else Some o)) (offset_same w ∙ none) in
            let empty : word_of s file i j ≡ 0 = ap (λ (o : ℕ). pick o (u64_at file (o + 8 * j))) none in
            subst (λ (e : Result (Option ℕ) EntryFault). IsKind (entry_under file e j) (kind_of (word_of s file i j))) (sym says) (kind_none (word_of s file i j) empty)
        | inr p ↦
            let linked : IsTable s file i p.cluster = linked_at s file i i_in p in
            let some = place_some s p.cluster is.some p.some in
            let plain = table_plain s is.some bits is.cluster w (forms.tables i i_in) in
            let says : table_at file i ≡ Ok (Some (place s p.cluster)) = ap (l1_of bits) (row_word s file is i) ∙ l1_some bits w (place s p.cluster) plain (offset_same w ∙ p.is) some in
            let word : word_of s file i j ≡ u64_at file (place s p.cluster + 8 * j) =
            ap (λ (o : ℕ). pick o (u64_at file (o + 8 * j))) linked.at ∙ pick_some (place s p.cluster) (u64_at file (place s p.cluster + 8 * j)) some in
            subst (λ (e : Result (Option ℕ) EntryFault). IsKind (entry_under file e j) (kind_of (word_of s file i j))) (sym says)
            (subst (λ (x : ℕ). IsKind (l2_of bits (u64_at file (place s p.cluster + 8 * j))) (kind_of x)) (sym word) (word_kind (u64_at file (place s p.cluster + 8 * j)) (forms.entries i p.cluster j linked j_in)))
      ]

  -- ---- of a disk that the tables cover

  module _ (total : ℕ) (covered : IsCovered s total) where
    per_some : 0 < per s
    per_some = let some : 0 < s.sectors = is.some in omega arith

    table_in : (n count : ℕ) → count ≡ granules_in total (size s) → n < count → n / per s < s.tables
    table_in n count is_count below =
        let some : 0 < s.sectors = is.some in
        let low = place_below total (size s) n (omega (arith, some)) (subst (λ (c : ℕ). n < c) is_count below) in
        let z : n * size s + 0 ≡ n * size s = omega arith in
        let here : n * size s / size s ≡ n = ap (λ (x : ℕ). x / size s) (sym z) ∙ div-mul-add n (size s) 0 (omega (arith, some)) in
        subst (λ (x : ℕ). x / per s < s.tables) here (covered.covers (n * size s) low)

    entry_kind : (n count : ℕ) → count ≡ granules_in total (size s) → n < count → IsKind (entry_at file n) (kind_of (word_of s file (n / per s) (n % per s)))
    unfolding entry_at
    entry_kind n count is_count below =
        subst (λ (w : ℕ). IsKind (entry_under file (table_at file (n / w)) (n % w)) (kind_of (word_of s file (n / per s) (n % per s)))) (sym (words_are s is.some bits is.cluster))
        (kind_is (n / per s) (n % per s) (table_in n count is_count below) (mod-lt n per_some))

    there_in : (t count : ℕ) → count ≡ granules_in total (size s) → t < granules_in count (per s) → IsThere (table_at file t) (has_table s file t)
    there_in t count is_count below =
        let low = place_below count (per s) t per_some below in
        let z : t * per s + 0 ≡ t * per s = omega arith in
        let here : t * per s / per s ≡ t = ap (λ (x : ℕ). x / per s) (sym z) ∙ div-mul-add t (per s) 0 per_some in
        there_is t (subst (λ (x : ℕ). x < s.tables) here (table_in (t * per s) count is_count low))

    per_is : (store : Store) → store.cluster ≡ size s → entries_in store.cluster ≡ per s
    per_is store cluster = omega (arith, cluster)

    to_clusters : (store : Store) → (fields_of file).size ≡ total → HasStore s total file store → HasClusters file store
    to_clusters store same has = record {
      cluster_is = has.cluster ∙ sym is.cluster;
      kind_count = has.kind_count ∙ (ap (λ (c : ℕ). granules_in total c) (sym has.cluster) ∙ ap (λ (n : ℕ). granules_in n store.cluster) (sym same));
      kinds_are = λ n below.
          let at : n / per s * per s + n % per s ≡ n = div-add-mod' n (per s) in
          let kind : kind_at store n ≡ kind_of (word_of s file (n / per s) (n % per s)) = ap (kind_at store) (sym at) ∙ has.kinds (n / per s) (n % per s) (mod-lt n per_some) (omega (arith, at, below)) in
          subst (λ (k : Kind). IsKind (entry_at file n) k) (sym kind) (entry_kind n (length store.kinds) has.kind_count below);
      table_count = has.table_count ∙ ap (λ (n : ℕ). granules_in (length store.kinds) n) (sym (per_is store has.cluster));
      tables_are = λ t below. subst (λ (b : Bool). IsThere (table_at file t) b) (sym (has.tables t below)) (there_in t (length store.kinds) has.kind_count (subst (λ (n : ℕ). t < n) has.table_count below));
    }

    to_store : (store : Store) → (fields_of file).size ≡ total → HasClusters file store → HasStore s total file store
    to_store store same has =
        let cluster : store.cluster ≡ size s = has.cluster_is ∙ is.cluster in
        let count : length store.kinds ≡ granules_in total (size s) = has.kind_count ∙ (ap (λ (c : ℕ). granules_in ((fields_of file).size) c) cluster ∙ ap (λ (n : ℕ). granules_in n (size s)) same) in
        let tables : length store.tables ≡ granules_in (length store.kinds) (per s) = has.table_count ∙ ap (λ (n : ℕ). granules_in (length store.kinds) n) (per_is store cluster) in
        record {
          cluster = cluster;
          kind_count = count;
          kinds = λ i j j_in below.
              let n : ℕ = i * per s + j in
              let row : n / per s ≡ i = div-mul-add i (per s) j j_in in
              let at : n / per s * per s + n % per s ≡ n = div-add-mod' n (per s) in
              let first : n / per s * per s ≡ i * per s = ap (λ (x : ℕ). x * per s) row in
              let slot : n % per s ≡ j = omega (arith, at, first) in
              one_kind (entry_at file n) (kind_at store n) (kind_of (word_of s file (n / per s) (n % per s))) (has.kinds_are n below) (entry_kind n (length store.kinds) count below)
              ∙ (ap (λ (x : ℕ). kind_of (word_of s file x (n % per s))) row ∙ ap (λ (x : ℕ). kind_of (word_of s file i x)) slot);
          table_count = tables;
          tables = λ t below. one_there (table_at file t) (is_in store.tables t) (has_table s file t) (has.tables_are t below) (there_in t (length store.kinds) count (subst (λ (n : ℕ). t < n) tables below));
        }

-- the same of a safe file
pub store_stands : (s : Shape) (disks : List (List ℕ)) (file : List ℕ) (part : Part) (store : Store) → IsShape s → 104 ≤ length s.base → Passes part s.base → IsSafe s disks file
    → HasStore s (fields_of s.base).size file store ↔ HasClusters file store
store_stands s disks file part store shape long passes safe =
    let same = same_fields s shape file long safe.counted (safe.fixed 0 (inl refl)) in
    let is = headed s file shape same in
    let total = (fields_of s.base).size in
    let covered = covered_by s part shape passes.numbers in
    let size_is : (fields_of file).size ≡ total = ap (λ (h : Fields). h.size) same in
    (to_clusters s file is safe.forms total covered store size_is, to_store s file is safe.forms total covered store size_is)
