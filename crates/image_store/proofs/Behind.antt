-- Files that are the same behind their first sector: no table lies in it, so they have the same clusters, disk and space.
use Rattle.std.proofs.Common.{◌≡◌, ◌⊎◌, inl, inr, ℕ, ◌+◌, ◌*◌, ◌/◌, ◌%◌, ◌<◌, ◌≤◌, List, refl, sym, ap, ◌∙◌, subst, arith}
use Rattle.std.specs.Prelude.{not, ◌==◌}
use Rattle.std.specs.Int.{w16, w64}
use Rattle.std.proofs.lemmas.Nat.{div-mul-add}
use Rattle.std.proofs.Math.Nat.{mod-lt}
use Rattle.disk_model.specs.Files.{byte, u16_at, u64_at}
use Rattle.disk_model.proofs.Laws.{number_same, same_file}
use Rattle.bitmap_model.proofs.Places.{place_below}
use Rattle.image_model.specs.Clusters.{Shape, Who, Head, Counts, Block, Tables, Table, Guest, Bitmaps, size, per, place, offset, stored, pick, host, guest, word_of, IsPlace, IsBlock, IsTable, Refers, IsCounted, AllCounted, IsOffset, IsTableWord, IsGuestWord, Forms}
use Rattle.image_model.specs.Disks.{disk_of}
use Rattle.image_model.specs.Space.{Store}
use Rattle.image_model.specs.Turns.{rebased}
use Rattle.image_steps.proofs.Disk.{IsCovered, byte-disk_of, length-disk_of}
use Rattle.image_steps.proofs.Kept.{host_none, host_some, linked_at, stored_cases}
use Rattle.image_steps.proofs.Places.{place_some}
use Rattle.map_rows.specs.Stores.{HasStore, kind_of}

-- a place behind the first cluster's start lies behind the first sector
pub far_place : (s : Shape) (at : ℕ) → 0 < s.sectors → IsPlace s at → 512 ≤ at
unfolding place
far_place s at some is = (let more = place_some s is.cluster some is.some in omega (arith, more, is.is))

abbrev pub IsBehind : List ℕ → List ℕ → Type 0
IsBehind old new = (i : ℕ) → 512 ≤ i → byte new i ≡ byte old i

pub behind_back : (old new : List ℕ) → IsBehind old new → IsBehind new old
behind_back old new same i low = sym (same i low)

module _ (r : Shape) (some : 0 < r.sectors) (counts_far : 512 ≤ r.counts) (first_far : 512 ≤ r.l1) where
  -- with this base
  abbrev on : List ℕ → Shape
  on base = rebased r r.owner base

  far : (k : ℕ) → 0 < k → 512 ≤ place r k
  far k more = far_place r (place r k) some (record { cluster = k; some = more; is = refl })

  module _ (old new : List ℕ) (same : IsBehind old new) where
    word : (at : ℕ) → 512 ≤ at → u64_at new at ≡ u64_at old at
    word at low = number_same w64 new old at (λ i from to. same i (omega (arith, low, from)))

    half : (at : ℕ) → 512 ≤ at → u16_at new at ≡ u16_at old at
    half at low = number_same w16 new old at (λ i from to. same i (omega (arith, low, from)))

    pub count_word : (i : ℕ) → u64_at new (r.counts + 8 * i) ≡ u64_at old (r.counts + 8 * i)
    count_word i = word (r.counts + 8 * i) (omega (arith, counts_far))

    row_word : (i : ℕ) → u64_at new (r.l1 + 8 * i) ≡ u64_at old (r.l1 + 8 * i)
    row_word i = word (r.l1 + 8 * i) (omega (arith, first_far))

    slot_word : (q j : ℕ) → 0 < q → u64_at new (place r q + 8 * j) ≡ u64_at old (place r q + 8 * j)
    slot_word q j more = word (place r q + 8 * j) (omega (arith, far q more))

    module _ (a b : List ℕ) where
      block : (i k : ℕ) → IsBlock (on a) old i k → IsBlock (on b) new i k
      unfolding place
      block i k is = record { inside = is.inside; some = is.some; at = count_word i ∙ is.at }

      table : (i k : ℕ) → IsTable (on a) old i k → IsTable (on b) new i k
      unfolding place
      table i k is = record { inside = is.inside; some = is.some; at = ap offset (row_word i) ∙ is.at }

      pub behind_refers : (who : Who) (k : ℕ) → Refers (on a) old who k → Refers (on b) new who k
      unfolding place
      behind_refers Head k is = is
      behind_refers Counts k is = is
      behind_refers (Block i) k is = block i k is
      behind_refers Tables k is = is
      behind_refers (Table i) k is = table i k is
      behind_refers (Guest i j) k is = record { table = is.table; linked = table i is.table is.linked; inside = is.inside; some = is.some; at = ap offset (slot_word is.table j is.linked.some) ∙ is.at }
      behind_refers (Bitmaps held) k is = is

      counted : (k many : ℕ) → IsCounted (on a) old k many → IsCounted (on b) new k many
      unfolding place
      counted k many is = record {
        index = is.index;
        slot = is.slot;
        block = is.block;
        is = is.is;
        inside = is.inside;
        linked = block is.index is.block is.linked;
        count = half (place r is.block + 2 * is.slot) (omega (arith, far is.block is.linked.some)) ∙ is.count;
      }

  -- ---- there and back

  module _ (old new : List ℕ) (same : IsBehind old new) (a b : List ℕ) where
    refers_back : (who : Who) (k : ℕ) → Refers (on b) new who k → Refers (on a) old who k
    unfolding place
    refers_back = behind_refers new old (behind_back old new same) b a

    table_back : (i k : ℕ) → IsTable (on b) new i k → IsTable (on a) old i k
    unfolding place
    table_back = table new old (behind_back old new same) b a

    pub behind_all : AllCounted (on a) old → AllCounted (on b) new
    unfolding place
    behind_all all = record {
      once = λ x y k x_refers y_refers. all.once x y k (refers_back x k x_refers) (refers_back y k y_refers);
      below = λ x k refers. all.below x k (refers_back x k refers);
      counted = λ x k refers. let c = all.counted x k (refers_back x k refers) in (c.0, c.1, counted old new same a b k c.0 c.2);
    }

    offset_on : (at : ℕ) → IsOffset (on a) at → IsOffset (on b) at
    unfolding place
    offset_on at (inl none) = inl none
    offset_on at (inr p) = inr (record { cluster = p.cluster; some = p.some; is = p.is })

    pub behind_forms : Forms (on a) old → Forms (on b) new
    unfolding place
    behind_forms forms = record {
      blocks = λ i inside. subst (IsOffset (on b)) (sym (count_word old new same i)) (offset_on (u64_at old (r.counts + 8 * i)) (forms.blocks i inside));
      tables = λ i inside.
          let f = forms.tables i inside in
          subst (IsTableWord (on b)) (sym (row_word old new same i)) (record { low = f.low; high = f.high; at = offset_on _ f.at });
      entries = λ i q j linked inside.
          let f = forms.entries i q j (table_back i q linked) inside in
          subst (IsGuestWord (on b)) (sym (slot_word old new same q j linked.some)) (record { plain = f.plain; low = f.low; high = f.high; at = offset_on _ f.at });
    }

    -- ---- the disk, and its space

    module _ (forms : Forms (on a) old) where
      pub behind_word : (i j : ℕ) → i < r.tables → word_of (on b) new i j ≡ word_of (on a) old i j
      unfolding place
      behind_word i j i_in = elim (forms.tables i i_in).at [
        | inl none ↦
            ap (λ (o : ℕ). pick o (u64_at new (o + 8 * j))) (ap offset (row_word old new same i) ∙ none)
            ∙ sym (ap (λ (o : ℕ). pick o (u64_at old (o + 8 * j))) none)
        | inr p ↦
            ap (λ (o : ℕ). pick o (u64_at new (o + 8 * j))) (ap offset (row_word old new same i) ∙ p.is)
            ∙ (ap (λ (w : ℕ). pick (place r p.cluster) w) (slot_word old new same p.cluster j p.some)
            ∙ sym (ap (λ (o : ℕ). pick o (u64_at old (o + 8 * j))) p.is))
      ]

      host_same : (i j : ℕ) → i < r.tables → host (on b) new i j ≡ host (on a) old i j
      unfolding place
      host_same i j i_in = elim (forms.tables i i_in).at [
        | inl none ↦ host_none (on b) new i j (ap offset (row_word old new same i) ∙ none) ∙ sym (host_none (on a) old i j none)
        | inr p ↦
            ap (λ (o : ℕ). pick o (stored (u64_at new (o + 8 * j)))) (ap offset (row_word old new same i) ∙ p.is)
            ∙ (ap (λ (w : ℕ). pick (place r p.cluster) (stored w)) (slot_word old new same p.cluster j p.some)
            ∙ sym (ap (λ (o : ℕ). pick o (stored (u64_at old (o + 8 * j)))) p.is))
      ]

      host_far : (i j : ℕ) → i < r.tables → j < per r → (host (on a) old i j ≡ 0) ⊎ (512 ≤ host (on a) old i j)
      unfolding place
      host_far i j i_in j_in = elim (forms.tables i i_in).at [
        | inl none ↦ inl (host_none (on a) old i j none)
        | inr p ↦
            let linked : IsTable (on a) old i p.cluster = linked_at (on a) old i i_in p in
            let word = u64_at old (place r p.cluster + 8 * j) in
            let is : host (on a) old i j ≡ stored word = host_some (on a) old i j p.cluster some linked in
            elim (stored_cases word) [
              | inl none ↦ inl (is ∙ none)
              | inr at ↦ elim (forms.entries i p.cluster j linked j_in).at [
                | inl none ↦ inl (is ∙ at ∙ none)
                | inr q ↦ inr (let more = far_place (on a) (offset word) some q in omega (arith, more, is, at))
              ]
            ]
      ]

      guest_same : (i j t : ℕ) → i < r.tables → j < per r → guest (on b) new i j t ≡ guest (on a) old i j t
      unfolding place
      guest_same i j t i_in j_in = ap (λ (h : ℕ). pick h (byte new (h + t))) (host_same i j i_in) ∙ elim (host_far i j i_in j_in) [
        | inl none ↦ ap (λ (h : ℕ). pick h (byte new (h + t))) none ∙ sym (ap (λ (h : ℕ). pick h (byte old (h + t))) none)
        | inr high ↦ ap (pick (host (on a) old i j)) (same (host (on a) old i j + t) (omega (arith, high)))
      ]

      per_some : 0 < per r
      per_some = omega (arith, some)

      pub behind_disk : (n : ℕ) → IsCovered r n → disk_of (on b) n new ≡ disk_of (on a) n old
      unfolding place
      behind_disk n covered =
          same_file (disk_of (on b) n new) (disk_of (on a) n old) (length-disk_of (on b) n new ∙ sym (length-disk_of (on a) n old)) (λ x inside.
          let x_in : x < n = omega (arith, inside, length-disk_of (on b) n new) in
          byte-disk_of (on b) n new x x_in ∙ (guest_same (x / size r / per r) (x / size r % per r) (x % size r) (covered.covers x x_in) (mod-lt (x / size r) per_some) ∙ sym (byte-disk_of (on a) n old x x_in)))

      pub behind_store : (n : ℕ) (store : Store) → IsCovered r n → HasStore (on a) n old store → HasStore (on b) n new store
      unfolding place
      behind_store n store covered has = record {
        cluster = has.cluster;
        kind_count = has.kind_count;
        kinds = λ i j j_in inside.
            let low = place_below n (size r) (i * per r + j) (omega (arith, some)) (subst (λ (c : ℕ). i * per r + j < c) has.kind_count inside) in
            let z : (i * per r + j) * size r + 0 ≡ (i * per r + j) * size r = omega arith in
            let here : (i * per r + j) * size r / size r ≡ i * per r + j = ap (λ (x : ℕ). x / size r) (sym z) ∙ div-mul-add (i * per r + j) (size r) 0 (omega (arith, some)) in
            let row : (i * per r + j) * size r / size r / per r ≡ i = ap (λ (x : ℕ). x / per r) here ∙ div-mul-add i (per r) j j_in in
            has.kinds i j j_in inside ∙ ap kind_of (sym (behind_word i j (subst (λ (x : ℕ). x < r.tables) row (covered.covers ((i * per r + j) * size r) low))));
        table_count = has.table_count;
        tables = λ i inside. has.tables i inside ∙ ap (λ (w : ℕ). not (offset w == 0)) (sym (row_word old new same i));
      }
