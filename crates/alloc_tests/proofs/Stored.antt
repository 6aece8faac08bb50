-- Data in a run that was taken, and what stands and stays after it.
use Rattle.std.proofs.Common.{rules, ◌≡◌, ◌≢◌, inl, inr, ⊎_elim, ℕ, ◌+◌, ◌*◌, ◌%◌, ◌^◌, ◌<◌, ◌≤◌, List, length, IsTrue, Result, Ok, Err, refl, sym, ◌∙◌, ap, subst, arith}
use Rattle.std.proofs.lemmas.Bool.{cases_eq}
use Rattle.std.proofs.Math.Nat.{mul_assoc, mul_comm}
use Rattle.disk_model.specs.Files.{byte, u64_at}
use Rattle.disk_model.specs.World.{World, Runs, writes_of, IsSound, EachSince}
use Rattle.disk_model.specs.declared.depot.WriteRefusal.{WriteRefusal}
use Rattle.disk_model.specs.declared.depot.WriteRefusal.TheVariants as refusals
use Rattle.disk_model.proofs.Laws.{told_at}
use Rattle.disk_model.proofs.Moments.{stay}
use Rattle.file_device.specs.Calls.{Puts}
use Rattle.qc_layout.specs.Disks.{place_of}
use Rattle.image_model.specs.Clusters.{Shape, size, place, Head, Counts, Block, IsSafe, IsStanding, Moves}
use Rattle.image_model.specs.Calls.{Told, SameBlocks}
use Rattle.image_model.specs.Runs.{IsFilling, IsHolding, HasData}
use Rattle.cluster_pool.specs.Pool.{Pool, block_at}
use Rattle.qc_alloc.specs.Allocator.{Allocator, IsAllocator, IsOf, IsHalfAdded, HasTable, Allocates, HandsOut}
use Rattle.qc_alloc.specs.Growing.{Grows, TakesRun, SparesClaimed}
use Rattle.qc_alloc.specs.Laws.{CanBeUsed, PreparedIsClean}
use Rattle.qc_alloc.proofs.Naming.{table_on}
use Rattle.alloc_tests.specs.Storing.{AllocatesSome}
use Rattle.alloc_tests.proofs.Filling.{shift_at}

place_is : {s : Shape} {a : Allocator} (k : ℕ) → IsOf s a → place_of a.pool.bits k ≡ place s k
unfolding place_of place
place_is {s} {a} k is = ap (λ (n : ℕ). n * k) is.cluster ∙ mul_assoc 512 s.sectors k

-- a run's bytes
run_ends : (s : Shape) (k n : ℕ) → place s (k + n) ≡ place s k + n * size s
unfolding place
run_ends s k n = let e : s.sectors * (k + n) ≡ s.sectors * k + s.sectors * n = search rules in let c : n * (512 * s.sectors) ≡ 512 * (s.sectors * n) = mul_comm n (512 * s.sectors) ∙ mul_assoc 512 s.sectors n in omega (arith, e, c)

module _ {s : Shape} {disks : List (List ℕ)} {low f at count k : ℕ} (bytes : List ℕ) {a0 a1 : Allocator} {w0 w1 : World} (file0 : a0.file ≡ f) (grows : Grows a0 a1 w0 w1)
    (is : IsAllocator a1) (takes : TakesRun a0.pool a1.pool count k) (some : 0 < count) (clean : PreparedIsClean) (at_is : at ≡ place_of a1.pool.bits k) (long : length bytes ≤ count * 2 ^ a1.pool.bits)
    (hands : HandsOut low a0) (al : Allocates s disks low a0 w0) where
  file1 : a1.file ≡ f
  file1 = grows.file ∙ file0

  al1 : Allocates s disks low a1 w1
  al1 = (grows.moves s disks low).stands al

  pub stands1 : IsStanding s disks low a1.pool.prepared f w1
  stands1 = subst (λ (g : ℕ). IsStanding s disks low a1.pool.prepared g w1) file1 al1.stands

  from : low ≤ k
  from = omega (arith, hands.fresh, takes.run.is.from)

  used : IsTrue w1.tells → (m : ℕ) → k ≤ m → m < k + count → CanBeUsed s m f w1
  used told m above below =
      let from_low = from in
      subst (λ (g : ℕ). CanBeUsed s m g w1) file1 (clean s disks low a1 w1 m is al1 told (omega (arith, from_low, above)) (omega (arith, below, takes.prepared)) (takes.linked m above below) (takes.differs m above below))

  at_place : at ≡ place s k
  at_place = at_is ∙ place_is k al1.is

  pub filling : IsTrue w1.tells → IsFilling s low a1.pool.prepared k count at (length bytes) f w1
  filling told = record {
    shape = al1.is.shape;
    some = elim (cases_eq k 0) [
      | inl none ↦ absurd ((used told k (omega arith) (omega (arith, some))).seen.unnamed Head none)
      | inr other ↦ omega (arith, other)
    ];
    low = let e = at_place in omega (arith, e);
    high = let e = at_place in let ends = run_ends s k count in let long_is : count * 2 ^ a1.pool.bits ≡ count * size s = ap (λ (n : ℕ). count * n) al1.is.cluster in omega (arith, e, ends, long_is, long);
    from = from;
    to = takes.prepared;
    takeable = λ m m_in told. (used told (k + m) (omega arith) (omega (arith, m_in))).takeable;
  }

  -- after the write
  module _ {w2 : World} (on : Runs (writes_of f) w1 w2) (moves : IsTrue w1.tells → Moves f (IsSafe s disks) (IsStanding s disks low a1.pool.prepared f) (IsHolding s disks k count (k + count) a1.pool.prepared f) w1 w2)
      (blocks : IsTrue w1.tells → SameBlocks s (w1.seen f) (w2.seen f)) where
    pub held : IsTrue w2.tells → IsStanding s disks (k + count) a1.pool.prepared f w2
    held told2 told = ((moves (subst IsTrue on.goes.tells told2)).stands stands1 told).standing

    pub al2 : Allocates s disks (k + count) a1 w2
    al2 = record {
      is = al1.is;
      stands = subst (λ (g : ℕ). IsStanding s disks (k + count) a1.pool.prepared g w2) (sym file1) (λ told. held told told);
      table = subst (λ (g : ℕ). Told (HasTable s a1) g w2) (sym file1) (λ told.
          let told1 : IsTrue w1.tells = subst IsTrue on.goes.tells told in
          table_on s a1 (w1.seen f) (w2.seen f) (blocks told1) (subst (λ (g : ℕ). HasTable s a1 (w1.seen g)) file1 (al1.table told1)));
    }

    pub wrote_since : IsSound w2 → EachSince w2 w1.now f (IsSafe s disks)
    wrote_since sound x x_low x_high c left = (moves (subst IsTrue on.goes.tells (told_at w2 x f c sound left))).since stands1 x x_low x_high c left

    -- the run is no block and not of the refcount table, so whoever spares those spares it
    pub data_stays : (w3 : World) → IsTrue w1.tells → SparesClaimed s a1 (w2.seen f) (w3.seen f) → HasData s k count at bytes (w2.seen f) → HasData s k count at bytes (w3.seen f)
    data_stays w3 told spares has = record {
      inside = λ m t m_in t_in lo hi. kept m t m_in t_in ∙ has.inside m t m_in t_in lo hi;
      outside = λ m t m_in t_in out. kept m t m_in t_in ∙ has.outside m t m_in t_in out;
    }
      where
        kept : (m t : ℕ) → m < count → t < size s → byte (w3.seen f) (place s (k + m) + t) ≡ byte (w2.seen f) (place s (k + m) + t)
        kept m t m_in t_in =
            let clear : CanBeUsed s (k + m) f w1 = used told (k + m) (omega arith) (omega (arith, m_in)) in
            spares (k + m) (omega (arith, m_in, takes.prepared)) (clear.seen.unnamed Counts)
            (λ i i_in there same.
            clear.seen.unnamed (Block i) (record {
              inside = i_in;
              some = elim (cases_eq (k + m) 0) [
                | inl none ↦ absurd (clear.seen.unnamed Head none)
                | inr other ↦ omega (arith, other)
              ];
              at = ⊎_elim
                  (λ (word : u64_at (w1.seen f) (s.counts + 8 * i) ≡ block_at a1.pool i). word ∙ same)
                  (λ (half : IsHalfAdded s a1 i (w1.seen f)). absurd (there half.missing))
                  (subst (λ (g : ℕ). HasTable s a1 (w1.seen g)) file1 (al1.table told) i i_in);
            }))
            (place s (k + m) + t) (omega arith) (omega (arith, t_in))

-- calls that prepare clusters
pub moved_some : {s : Shape} {disks : List (List ℕ)} {f : ℕ} {a b : Allocator} {x y : World} → a.file ≡ f → Grows a b x y → (low : ℕ) → Moves f (IsSafe s disks) (Allocates s disks low a) (AllocatesSome s disks b) x y
moved_some {s} {disks} {f} {a} {b} {x} {y} at grows low =
    let moves = subst (λ (g : ℕ). Moves g (IsSafe s disks) (Allocates s disks low a) (Allocates s disks low b) x y) at (grows.moves s disks low) in
    record { since = moves.since; stands = λ al. (low, moves.stands al) }

pub bits_same : (a b : Allocator) (count k : ℕ) → TakesRun a.pool b.pool count k → b.pool.bits ≡ a.pool.bits
bits_same a b count k takes = ap (λ (p : Pool). p.bits) takes.takes.is ∙ takes.raises.bits

-- where the run begins
pub shifted : (a b : Allocator) (count k bits : ℕ) → TakesRun a.pool b.pool count k → a.pool.bits ≡ bits → IsAllocator b → 0 < count
    → (k * 2 ^ bits % 18446744073709551616 ≡ place_of b.pool.bits k) × (k * 2 ^ bits % 18446744073709551616 ≤ 2251799813685248)
shifted a b count k bits takes same is some =
    let to : b.pool.bits ≡ bits = bits_same a b count k takes ∙ same in
    let at = shift_at bits k (subst (λ (x : ℕ). x ≤ 21) to is.pool.high) (omega (arith, takes.run.is.below, some)) in
    (at.0 ∙ ap (λ (x : ℕ). place_of x k) (sym to), at.1)

pub long_in : (a b : Allocator) (count k bits n : ℕ) → TakesRun a.pool b.pool count k → a.pool.bits ≡ bits → n ≤ count * 2 ^ bits → n ≤ count * 2 ^ b.pool.bits
long_in a b count k bits n takes same long = subst (λ (x : ℕ). n ≤ count * 2 ^ x) (sym (bits_same a b count k takes ∙ same)) long

-- whatever it answered, it wrote this file alone
pub writes_by : {T A : Type 0} {f : ℕ} {a b : World} (result : Result T WriteRefusal) → (result ≡ Err refusals.NoRoom → A × (b ≡ a)) → (result ≢ Err refusals.NoRoom → Puts f a b result) → Runs (writes_of f) a b
writes_by (Ok value) kept puts = (puts (λ same. cc)).writes
writes_by (Err refusals.Failed) kept puts = (puts (λ same. cc)).writes
writes_by {T} {A} {f} {a} {b} (Err refusals.NoRoom) kept puts = subst (λ (w : World). Runs (writes_of f) a w) (sym (kept refl).1) (stay (writes_of f) a)

pub place_at : (k bits at : ℕ) → at ≡ place_of bits k → at ≡ 2 ^ bits * k
unfolding place_of
place_at k bits at is = is
