-- What an opening found.
use Rattle.std.proofs.Common.{◌≡◌, ◌≢◌, ℕ, ◌+◌, ◌*◌, ◌/◌, ◌%◌, ◌^◌, ◌<◌, ◌≤◌, List, [], ◌++◌, length, slice_index, Bool, true, false, if◌then◌else◌, IsTrue, replicate, min, inl, inr, Option, refl, sym, ap, subst, ◌∙◌, arith}
use Rattle.std.specs.Prelude.{◌==◌, nat_lt}
use Rattle.std.specs.List.{list_any}
use Rattle.std.proofs.lemmas.Grind.{common_steps}
use Rattle.std.proofs.Math.Bool.{or-false}
use Rattle.std.proofs.Math.Nat.{mul-div_cancel_left, pow-le-pow_right}
use Rattle.std.proofs.lemmas.List.{get_or_past}
use Rattle.std.proofs.lemmas.Bool.{ne_eqb, cases_lt, cases_eq}
use Rattle.disk_model.specs.World.{World}
use Rattle.bitmap_model.specs.Granules.{is_in}
use Rattle.qc_layout.specs.declared.header.Fields.{Fields}
use Rattle.qc_layout.specs.declared.header.Header.{Header}
use Rattle.qc_layout.specs.Header.{fields_of}
use Rattle.qc_layout.specs.Disks.{place_of, counts_in}
use Rattle.qc_layout.specs.Loading.{claimed_in}
use Rattle.qc_layout.specs.Opening.{Check, refused_after, count_tests, count_claims, count_checks}
use Rattle.qc_layout.specs.Room.{IsNextFree, room_from}
use Rattle.qc_layout.specs.declared.faults.ImageFault.{ImageFault}
use Rattle.qc_layout.proofs.NumberLaws.{bits_low}
use Rattle.cluster_pool.specs.Pool.{Pool, IsPool, room, fresh, block_of, block_at, each, found_pool}
use Rattle.cluster_pool.specs.Laws.{IsUntouched, FreshIsRoom}
use Rattle.qc_alloc.specs.Allocator.{Allocator, IsAllocator}
use Rattle.image_header.specs.Headers.{IsRead}
use Rattle.qc_alloc.specs.Opening.{IsFound}
use Rattle.qc_alloc.specs.declared.tables.Layout.{Layout}
use Rattle.qc_alloc.specs.Tables.{IsLayout, IsLayoutOf, IsReached, IsBlock, AreBlocks, AreWords, HasCounts, blocks_of, reach_by, claimed_after, Passes, Stops, Gone, IsFresh, IsTested, IsKept}
use Rattle.qc_alloc.proofs.Passing.{claimed_after-append, passes_on, passes_claimed, stops_all, claimed_any}
use Rattle.qc_alloc.proofs.Sizes.{place_of_small}
use Rattle.qc_alloc.proofs.Layouts.{IsNumbered, numbered, entries_end, counts_pass, names_block, block_is_word, blocks_of_file}

block_near : (l : Layout) (word : ℕ) → IsBlock l word → word / l.cluster ≤ 2 ^ 30
block_near l word is = let below : word / l.cluster < min (2 ^ 30) (blocks_of l * counts_in l.cluster_bits) = is.below in omega arith

-- ---- a pool as the file says it

module _ (p q : Pool) (l : Layout) (layout : IsLayout l) (is : IsPool q) (new : IsFresh l p) (kept : IsKept p q) (some : 0 < p.prepared)
    (below : (i : ℕ) → i < length p.blocks → block_at p i ≢ 0 → block_at p i / 2 ^ p.bits < p.prepared) where
  blocks_same : q.blocks ≡ p.blocks
  blocks_same = ap (λ (x : Pool). x.blocks) kept.is

  bits_same : q.bits ≡ p.bits
  bits_same = ap (λ (x : Pool). x.bits) kept.is

  prepared_same : q.prepared ≡ p.prepared
  prepared_same = ap (λ (x : Pool). x.prepared) kept.is

  next_same : q.next ≡ p.next
  next_same = ap (λ (x : Pool). x.next) kept.is

  -- a block that is there lies below those that aren't prepared
  pub block_low : (i : ℕ) → block_at q i ≢ 0 → block_at q i / 2 ^ q.bits < q.prepared
  block_low i there =
      let here : block_at q i ≡ block_at p i = ap (λ (bs : List ℕ). slice_index bs i) blocks_same in
      let had : block_at p i ≢ 0 = λ z. there (here ∙ z) in
      let same : block_at q i / 2 ^ q.bits ≡ block_at p i / 2 ^ p.bits = ap (λ (b : ℕ). b / 2 ^ q.bits) here ∙ ap (λ (b : ℕ). block_at p i / 2 ^ b) bits_same in
      elim (cases_lt i (length p.blocks)) [
        | inl inside ↦ let low = below i inside had in let e = prepared_same in omega (arith, low, same, e)
        | inr past ↦ absurd (had (get_or_past p.blocks i 0 past))
      ]

  no_own : (k : ℕ) → q.prepared ≤ k → block_of q k ≡ place_of q.bits k → ⊥
  unfolding place_of
  no_own k high e =
      let size : 512 ≤ 2 ^ q.bits = bits_low q.bits is.low in
      let back : block_of q k / 2 ^ q.bits ≡ k = ap (λ (x : ℕ). x / 2 ^ q.bits) e ∙ mul-div_cancel_left k (omega arith) in
      let prepared = prepared_same in
      elim (cases_eq (block_of q k) 0) [
        | inl none ↦
            let z : block_of q k / 2 ^ q.bits ≡ 0 = ap (λ (x : ℕ). x / 2 ^ q.bits) none ∙ (omega arith) in
            absurd (omega (arith, z, back, high, prepared, some))
        | inr there ↦ let low = block_low (k / each q) there in absurd (omega (arith, low, back, high))
      ]

  pub untouched : IsUntouched q
  untouched = record {
    unspoken = λ k high. let e = next_same in let n = new.prepared in kept.spoken k (omega (arith, e, n, high)) ∙ new.unspoken k;
    unprepared = prepared_same ∙ (new.prepared ∙ sym next_same);
    behind = λ k high. let e = next_same in let n = new.prepared in let m = prepared_same in ne_eqb (block_of q k) (place_of q.bits k) (no_own k (omega (arith, e, n, m, high)));
  }

  pub found : (a : Allocator) (file : List ℕ) → a.pool ≡ q → FreshIsRoom → IsTested p file (count_tests file) → Gone file [] (count_claims file) q → IsFound a file
  found a file pool law tested gone =
      let tests : List Check = count_tests file in
      let claims : List Check = count_claims file in
      let after : claimed_after [] (count_checks file) ≡ claimed_after [] claims =
      claimed_after-append [] tests claims ∙ ap (λ (ks : List ℕ). claimed_after ks claims) tested.claims in
      let both : Passes file [] (tests ++ claims) = passes_on file [] tests claims tested.passes (subst (λ (ks : List ℕ). Passes file ks claims) (sym tested.claims) gone.passes) in
      let next : IsNextFree file q.next = subst (IsNextFree file) (sym next_same) tested.next in
      let none : q.ready ≡ [] = kept.ready new.ready in
      let has : room q ≡ room_from file q.next = ap (λ (ks : List ℕ). length ks + fresh q) none ∙ ((let z : 0 + fresh q ≡ fresh q = omega arith in z) ∙ law q file is gone.knows.blocks untouched next) in
      let P : Pool → Type 0 = λ x. IsFound (record a { pool = x }) file in
      let whole : IsFound (record a { pool = q }) file = record {
        passes = λ rest. passes_claimed file (count_checks file) rest both;
        blocks = gone.knows.blocks;
        spoken = λ k near. gone.knows.spoken k near ∙ (ap (λ (ks : List ℕ). list_any (λ other. other == k) ks) (sym after)
            ∙ (claimed_any k [] (count_checks file) ∙ or-false (list_any (λ other. other == k) (claimed_in (count_checks file)))));
        counted = gone.knows.counted;
        next = next;
        untouched = untouched;
        ready = none;
        room = record { next = q.next; is_next = next; count = has };
      } in
      subst P (sym pool) whole

  pub allocator : (a : Allocator) → a.pool ≡ q → a.table ≡ l.table → IsAllocator a
  unfolding place_of
  allocator a pool table =
      let P : Pool → Type 0 = λ x. IsAllocator (record a { pool = x }) in
      let prepared = prepared_same in
      let count : length q.blocks ≡ blocks_of l = ap (λ (bs : List ℕ). length bs) blocks_same ∙ new.count in
      let ends = entries_end l layout new.table in
      let size : 2 ^ q.bits ≡ l.cluster = ap (λ (b : ℕ). 2 ^ b) (bits_same ∙ new.bits) ∙ sym layout.size in
      let least : 512 ≤ l.cluster = layout.least in
      let whole : IsAllocator (record a { pool = q }) = record {
        pool = is;
        some = omega (arith, prepared, some);
        blocks = λ i there.
            let low = block_low i there in
            let here : block_at q i ≡ block_at p i = ap (λ (bs : List ℕ). slice_index bs i) blocks_same in
            let aligned : block_at q i % l.cluster ≡ 0 = elim (cases_lt i (length p.blocks)) [
              | inl inside ↦ ap (λ (b : ℕ). b % l.cluster) here ∙ (new.blocks i inside).whole
              | inr past ↦ absurd (there (here ∙ get_or_past p.blocks i 0 past))
            ] in
            let over : block_at q i % 2 ^ q.bits ≡ 0 = ap (λ (c : ℕ). block_at q i % c) size ∙ aligned in
            let big : 0 < 2 ^ q.bits = omega (arith, size, least) in
            let k : ℕ = block_at q i / 2 ^ q.bits in
            let is_k : block_at q i ≡ 2 ^ q.bits * k = omega arith in
            let pos : k ≢ 0 = λ z. there (is_k ∙ (ap (λ (x : ℕ). 2 ^ q.bits * x) z ∙ (omega arith))) in
            (k, (omega (arith, pos)), low, is_k);
        below = omega (arith, table, count, ends);
        ends = λ i. elim (cases_lt i (length p.blocks)) [
          | inl inside ↦
              let here : block_at q i ≡ block_at p i = ap (λ (bs : List ℕ). slice_index bs i) blocks_same in
              let block = new.blocks i inside in
              let k : ℕ = block_at p i / l.cluster in
              let near : k ≤ 2 ^ 30 = block_near l (block_at p i) block in
              let small : l.cluster * k ≤ 2 ^ 51 = subst (λ c. c * k ≤ 2 ^ 51) (sym layout.size) (place_of_small l.cluster_bits k layout.high near) in
              let even : block_at p i % l.cluster ≡ 0 = block.whole in
              let is_k : block_at p i ≡ l.cluster * k = omega arith in
              let most : l.cluster ≤ 2 ^ 21 = layout.most in
              omega (arith, here, is_k, small, size, most)
          | inr past ↦
              let here : block_at q i ≡ 0 = ap (λ (bs : List ℕ). slice_index bs i) blocks_same ∙ get_or_past p.blocks i 0 past in
              let most : l.cluster ≤ 2 ^ 21 = layout.most in
              omega (arith, here, size, most)
        ];
        unspoken = λ k high. let e = untouched.unprepared in untouched.unspoken k (omega (arith, e, high));
      } in
      subst P (sym pool) whole

-- ---- what is refused

pub refused_tests : (file : List ℕ) (fault : Option ImageFault) → Stops file [] (count_tests file) fault → fault ≡ refused_after file [] (count_checks file)
refused_tests file fault stops = sym (stops.on (count_claims file))

pub refused_claims : (p : Pool) (file : List ℕ) (fault : Option ImageFault) → IsTested p file (count_tests file) → Stops file [] (count_claims file) fault → fault ≡ refused_after file [] (count_checks file)
refused_claims p file fault tested stops =
    sym (tested.passes.on (count_claims file) ∙ (ap (λ (ks : List ℕ). refused_after file ks (count_claims file)) tested.claims ∙ stops_all file [] (count_claims file) fault stops))

-- ---- a pool as it was read

then_false : (b x : Bool) → (if b then x else b) ≡ (if b then x else false)
then_false true x = refl
then_false false x = refl

in_none : (n k : ℕ) → is_in (replicate n false) k ≡ false
in_none n k = grind (arith, common_steps)

pub fresh_found : (l : Layout) (p : Pool) (blocks : List ℕ) (set : List Bool) (next : ℕ) → IsReached l → length blocks ≡ blocks_of l → AreBlocks l blocks → p ≡ found_pool l.cluster_bits blocks set next → IsFresh l p
fresh_found l p blocks set next reached count are is =
    let P : Pool → Type 0 = λ x. IsFresh l x in
    let whole : IsFresh l (found_pool l.cluster_bits blocks set next) = record {
      bits = refl;
      count = count;
      blocks = are;
      ready = refl;
      prepared = refl;
      unspoken = λ k. in_none (min (2 ^ 30) (length blocks * counts_in l.cluster_bits)) k;
      table = reached;
    } in
    subst P (sym is) whole

pub tested_found : (l : Layout) (p : Pool) (file blocks : List ℕ) (set : List Bool) (next : ℕ) → IsLayout l → IsLayoutOf l file → IsReached l → length blocks ≡ blocks_of l → AreBlocks l blocks → AreWords l file blocks
    → HasCounts file (reach_by l) set next → p ≡ found_pool l.cluster_bits blocks set next → IsTested p file (count_tests file)
tested_found l p file blocks set next layout of reached count are words has is =
    let P : Pool → Type 0 = λ x. IsTested x file (count_tests file) in
    let pass = counts_pass l file blocks layout of reached count are words in
    let b = blocks_of_file l file of in
    let reach_is : min (2 ^ 30) (length blocks * counts_in l.cluster_bits) ≡ reach_by l = ap (λ (n : ℕ). min (2 ^ 30) (n * counts_in l.cluster_bits)) count in
    let whole : IsTested (found_pool l.cluster_bits blocks set next) file (count_tests file) = record {
      passes = pass.passes;
      claims = pass.claims;
      knows = record {
        blocks = record {
          bits = of.bits;
          count = count ∙ sym b;
          blocks = λ i below. let inside : i < length blocks = omega (arith, below, b, count) in sym (block_is_word l file i (slice_index blocks i) of (sym (words i inside)) (are i inside));
        };
        spoken = λ k near. in_none (min (2 ^ 30) (length blocks * counts_in l.cluster_bits)) k;
        counted = λ k near. then_false (nat_lt k next) (is_in set k) ∙ has.counted k (omega (arith, near, reach_is));
      };
      names = λ i below. let inside : i < length blocks = omega (arith, below, b, count) in names_block l file i (slice_index blocks i) layout of (sym (words i inside)) (are i inside);
      next = has.first;
    } in
    subst P (sym is) whole

-- the layout of a header that was read
pub layout_read : (l : Layout) (h : Header) (f : ℕ) (w : World) → IsRead h f w → l.cluster_bits ≡ h.fields.cluster_bits → l.cluster ≡ 2 ^ h.fields.cluster_bits → l.table ≡ h.fields.refcount_table_offset
    → l.clusters ≡ h.fields.refcount_table_clusters → IsLayout l
layout_read l h f w read bits cluster table clusters =
    let spells = read.spells in
    let fields : h.fields ≡ fields_of read.bytes = spells.fields in
    let P : Fields → Type 0 = IsNumbered in
    let n : IsNumbered h.fields = subst P (sym fields) (numbered read.part read.bytes spells.numbers) in
    let size : 2 ^ h.fields.cluster_bits ≡ l.cluster = sym cluster in
    let low : 9 ≤ h.fields.cluster_bits = n.0 in
    let high : h.fields.cluster_bits ≤ 21 = n.1 in
    let most : 2 ^ h.fields.cluster_bits ≤ 2 ^ 21 = pow-le-pow_right {n = 2} (omega arith) high in
    let least : 512 ≤ 2 ^ h.fields.cluster_bits = bits_low h.fields.cluster_bits low in
    record {
      low = omega (arith, bits, low);
      high = omega (arith, bits, high);
      size = cluster ∙ ap (λ (b : ℕ). 2 ^ b) (sym bits);
      least = omega (arith, size, least);
      most = omega (arith, size, most);
      sectors = ap (λ (c : ℕ). c % 512) cluster ∙ n.4;
      some = omega (arith, clusters, n.2);
      small = (let e : l.clusters * l.cluster ≡ h.fields.refcount_table_clusters * 2 ^ h.fields.cluster_bits = ap (λ (c : ℕ). c * l.cluster) clusters ∙ ap (λ (c : ℕ). h.fields.refcount_table_clusters * c) cluster in omega (arith, e, n.3));
      whole = ap (λ (t : ℕ). t % l.cluster) table ∙ (ap (λ (c : ℕ). h.fields.refcount_table_offset % c) cluster ∙ n.5);
    }

pub layout_of_read : (l : Layout) (h : Header) (f : ℕ) (w : World) → IsRead h f w → l.cluster_bits ≡ h.fields.cluster_bits → l.table ≡ h.fields.refcount_table_offset
    → l.clusters ≡ h.fields.refcount_table_clusters → IsTrue w.tells → IsLayoutOf l (w.seen f)
layout_of_read l h f w read bits table clusters told =
    let fields : h.fields ≡ fields_of (w.seen f) = read.spells.fields ∙ ap fields_of (sym (read.told told)) in
    record {
      bits = bits ∙ ap (λ (x : Fields). x.cluster_bits) fields;
      table = table ∙ ap (λ (x : Fields). x.refcount_table_offset) fields;
      clusters = clusters ∙ ap (λ (x : Fields). x.refcount_table_clusters) fields;
    }

pub bits_read : (h : Header) (f : ℕ) (w : World) → IsRead h f w → h.fields.cluster_bits ≤ 21
bits_read h f w read =
    let fields : h.fields ≡ fields_of read.bytes = read.spells.fields in
    let P : Fields → Type 0 = IsNumbered in
    let n : IsNumbered h.fields = subst P (sym fields) (numbered read.part read.bytes read.spells.numbers) in
    n.1
