-- A backup whose tables were gone through: it is in order, and the clusters that it refers to are just those that are spoken for.
use Rattle.std.proofs.Common.{◌≡◌, inl, ⊎_elim, ℕ, ◌+◌, ◌*◌, ◌/◌, ◌%◌, ◌^◌, ◌<◌, ◌≤◌, List, [], ◌∷◌, length, min, Bool, true, false, IsTrue, None, refl, sym, ◌∙◌, ap, subst, arith}
use Rattle.std.specs.Prelude.{◌==◌, ◌||◌}
use Rattle.std.specs.List.{list_any}
use Rattle.std.proofs.lemmas.List.{append-nil}
use Rattle.std.proofs.lemmas.List.Folds.{list_any-append}
use Rattle.std.specs.Prelude.{All}
use Rattle.std.specs.Int.{w64}
use Rattle.std.proofs.Math.Nat.{mul_assoc, mul_comm, mul-le-mul, pow-le-pow_right}
use Rattle.disk_model.specs.Files.{byte, u64_at}
use Rattle.disk_model.specs.World.{World, Parts, Runs, EachSinceSync}
use Rattle.disk_model.proofs.Laws.{number_same}
use Rattle.bitmap_model.specs.Granules.{is_in}
use Rattle.qc_layout.specs.declared.header.Header.{Header}
use Rattle.qc_layout.specs.declared.header.Part.TheVariants as parts
use Rattle.qc_layout.specs.Header.{fields_of}
use Rattle.qc_layout.specs.Spelling.{Spells}
use Rattle.qc_layout.specs.Disks.{blocks_in, counts_in, reach_of}
use Rattle.qc_layout.specs.Opening.{cluster_fault, count_checks, map_checks, image_checks, refused_after}
use Rattle.qc_layout.specs.Loading.{claimed_in}
use Rattle.qc_layout.specs.Room.{TablesPass, IsNextFree}
use Rattle.qc_layout.specs.Laws.{OpeningIsExact}
use Rattle.image_model.specs.Clusters.{Shape, place, IsOffset, IsPlace, IsStanding}
use Rattle.image_model.specs.Calls.{IsOpened, AreInside, shape_of}
use Rattle.image_calls.specs.Laws.{BackupOpens, BackupClaims}
use Rattle.cluster_pool.specs.Pool.{Pool, reach}
use Rattle.cluster_pool.proofs.Words.{past_set}
use Rattle.qc_alloc.specs.Allocator.{Allocator, IsAllocator}
use Rattle.qc_alloc.specs.Opening.{IsFound}
use Rattle.qc_alloc.specs.Tables.{Gone, IsKept}
use Rattle.qc_alloc.proofs.Passing.{claimed_any, claimed_in-append}
use Rattle.image_steps.proofs.Places.{place_step}
use Rattle.image_steps.proofs.Opening.{same_refers}
use Rattle.alloc_tests.specs.Opening.{IsAllFound, Starts}

by_sectors : (w m : ℕ) → w ≡ 512 * m → w / 512 * 512 ≡ w
by_sectors w m is = omega (arith, is)

sector_word : (s : Shape) (w : ℕ) → IsOffset s w → w / 512 * 512 ≡ w
unfolding place
sector_word s w is = ⊎_elim (λ (none : w ≡ 0). omega (arith, none)) (λ (at : IsPlace s w). by_sectors w (s.sectors * at.cluster) at.is) is

or_swap : (a b : Bool) → (a || b) ≡ (b || a)
or_swap true true = refl
or_swap true false = refl
or_swap false true = refl
or_swap false false = refl

module _ (file : List ℕ) (h : Header) (a b : Allocator) (spells : Spells parts.Target file h) (exact : OpeningIsExact) (opens : BackupOpens) (claims : BackupClaims)
    (was : IsFound a file) (kept : IsKept a.pool b.pool) (gone : Gone file (claimed_in (count_checks file)) (map_checks file) b.pool) (is : IsAllocator b)
    (table : b.table ≡ h.fields.refcount_table_offset) (prepared : a.pool.prepared ≡ a.pool.next) where
  none : cluster_fault file ≡ None
  unfolding cluster_fault
  none = was.passes (map_checks file)
      ∙ (ap (λ cs. refused_after file (claimed_in (count_checks file)) cs) (sym (append-nil (map_checks file))) ∙ gone.passes.on [])

  pass : TablesPass file
  pass = (exact parts.Target file spells.numbers).0 none

  next_same : b.pool.next ≡ a.pool.next
  next_same = ap (λ (p : Pool). p.next) kept.is

  opened : IsOpened (shape_of file) b.pool.next file
  opened = opens file h b.pool.next spells pass (subst (IsNextFree file) (sym next_same) was.next)

  reach_same : reach b.pool ≡ reach_of file
  reach_same = ap (λ (n : ℕ). min (2 ^ 30) (n * counts_in b.pool.bits)) gone.knows.blocks.count ∙ ap (λ (n : ℕ). min (2 ^ 30) (blocks_in file * counts_in n)) gone.knows.blocks.bits

  taken : (k : ℕ) → k < reach_of file → is_in b.pool.spoken k ≡ list_any (λ other. other == k) (claimed_in (image_checks file))
  taken k below =
      let counts : List ℕ = claimed_in (count_checks file) in
      let maps : List ℕ = claimed_in (map_checks file) in
      let any : List ℕ → Bool = λ ks. list_any (λ other. other == k) ks in
      let r = reach_same in
      gone.knows.spoken k (omega (arith, below, r))
      ∙ (claimed_any k counts (map_checks file)
      ∙ (or_swap (any maps) (any counts) ∙ (sym (list_any-append (λ (other : ℕ). other == k) counts maps) ∙ ap any (sym (claimed_in-append (count_checks file) (map_checks file))))))

  pub all_found : IsAllFound b file
  all_found = record {
    opened = opened;
    of = record { shape = opened.shape; table = table ∙ ap (λ f. f.refcount_table_offset) spells.fields; cluster = ap (λ (n : ℕ). 2 ^ n) gone.knows.blocks.bits ∙ opened.shape.cluster; blocks = gone.knows.blocks.count };
    blocks = λ i inside. sym (gone.knows.blocks.blocks i inside ∙ sector_word (shape_of file) (u64_at file ((fields_of file).refcount_table_offset + 8 * i)) (opened.forms.blocks i inside));
    exact = claims file h (is_in b.pool.spoken) spells pass (record {
      below = taken;
      past = λ k far. let r = reach_same in let l = is.pool.spoken in past_set b.pool.spoken k (omega (arith, far, r, l));
    });
    prepared = ap (λ (p : Pool). p.prepared) kept.is ∙ (prepared ∙ sym next_same);
    ready = kept.ready was.ready;
  }

-- ---- where the file stands

-- where it stands, with the bytes that were found
pub starts_by : (a : Allocator) (file : List ℕ) (w : World) → IsAllFound a file → (IsTrue w.tells → (i : ℕ) → byte (w.seen a.file) i ≡ byte file i)
    → IsStanding (shape_of file) (file ∷ []) a.pool.next a.pool.next a.file w → Starts a file w
starts_by a file w found same stands =
    let s : Shape = shape_of file in
    record {
      stands = record {
        is = found.of;
        stands = subst (λ (n : ℕ). IsStanding s (file ∷ []) a.pool.next n a.file w) (sym found.prepared) stands;
        table = λ told i inside. inl (number_same w64 (w.seen a.file) file (s.counts + 8 * i) (λ x from to. same told x) ∙ found.blocks i inside);
      };
      hands = λ told. record { ready = subst (λ (ks : List ℕ). All (λ k. a.pool.next ≤ k) ks) (sym found.ready) (λ k d below. absurd (omega (arith, below))); fresh = omega arith };
      exact = λ told. record {
        named = λ who k refers. found.exact.named who k (same_refers s (w.seen a.file) file (λ i. sym (same told i)) who k refers);
        exact = λ k is. let r = found.exact.exact k is in (r.0, same_refers s file (w.seen a.file) (same told) r.0 k r.1);
      };
    }

-- where the first clusters end
pub end_at : (a : Allocator) (file : List ℕ) (bits : ℕ) → IsAllFound a file → a.pool.bits ≡ bits → bits ≤ 21 → a.pool.next ≤ 1099511627776
    → (a.pool.next * 2 ^ bits % 18446744073709551616 ≡ place (shape_of file) a.pool.next) × (a.pool.next * 2 ^ bits % 18446744073709551616 ≤ 2305843009213693952)
unfolding place
end_at a file bits found same high few =
    let s : Shape = shape_of file in
    let n : ℕ = a.pool.next in
    let pow : 2 ^ bits ≤ 2 ^ 21 = pow-le-pow_right {n = 2} (omega arith) {i = bits} {j = 21} high in
    let most : n * 2 ^ bits ≤ 1099511627776 * 2097152 = mul-le-mul {n₁ = n} {m₁ = 2 ^ bits} {n₂ = 1099511627776} {m₂ = 2097152} few pow in
    let size : 2 ^ bits ≡ 512 * s.sectors = ap (λ (b : ℕ). 2 ^ b) (sym same) ∙ found.of.cluster in
    let at : n * 2 ^ bits ≡ 512 * (s.sectors * n) = mul_comm n (2 ^ bits) ∙ (ap (λ (x : ℕ). x * n) size ∙ mul_assoc 512 s.sectors n) in
    (omega (arith, most, at), omega (arith, most))

-- all that is referred to lies in a file that reaches so far
pub reaches : (a : Allocator) (file : List ℕ) → IsAllFound a file → place (shape_of file) a.pool.next ≤ length file → AreInside (shape_of file) file
reaches a file found far who k refers =
    let step = place_step (shape_of file) k a.pool.next (found.opened.below who k refers) in
    omega (arith, far, step)

-- no sync was made
pub none_synced : {parts : Parts} {a b : World} (f : ℕ) (P : List ℕ → Type 0) → Runs parts a b → (parts.files f → ⊥) → EachSinceSync a b f P
none_synced {parts} {a} {b} f P run none = record {
  moment = b.now + 1;
  from = omega (arith, run.goes.later);
  to = omega arith;
  before = λ k low high to. (run.files f none).moments k low to;
  since = λ k low high c left. absurd (omega (arith, low, high));
}
