-- Counts that are settled, call by call.
use Rattle.std.proofs.Common.{◌≡◌, ◌≢◌, inl, inr, ⊎_elim, ℕ, ◌+◌, ◌-◌, ◌*◌, ◌/◌, ◌^◌, ◌<◌, ◌≤◌, List, length, Bool, true, false, IsTrue, Ok, refl, sym, ◌∙◌, ap, subst, arith}
use Rattle.std.proofs.Math.Nat.{mul_assoc, mul-le-mul_left}
use Rattle.std.proofs.lemmas.Bool.{cases_lt}
use Rattle.disk_model.specs.Files.{u16_at, u64_at}
use Rattle.disk_model.specs.declared.depot.Failed.{Failed}
use Rattle.disk_model.specs.World.{World, Parts, Runs, writes_of, IsSound}
use Rattle.disk_model.proofs.Laws.{stay, since_now, told_at}
use Rattle.file_device.specs.Calls.{Puts}
use Rattle.file_device.proofs.Laws.{put, quiet_stay}
use Rattle.bitmap_model.specs.Granules.{is_in}
use Rattle.qc_layout.specs.Disks.{counts_in, place_of}
use Rattle.cluster_pool.specs.Pool as pools
use Rattle.cluster_pool.specs.Pool.{block_at}
use Rattle.qc_alloc.specs.Allocator.{Allocator, IsAllocator, IsOf, HasBlocks}
use Rattle.qc_alloc.specs.Settling.{Settles, SettlesOn, count_for, HasSettled, SettlesAll, AreCountsOf}
use Rattle.image_model.specs.Clusters.{Shape, each, place, IsBlock, IsCounted, IsSafe, Moves, Reads, IsShape}
use Rattle.image_model.specs.Calls.{Told, IsSettling, AreSettled, Rests, LeavesGuest, LeavesCounts, HasCounts, SameTables, SameBlocks}
use Rattle.image_steps.proofs.Good.{safe}
use Rattle.image_steps.proofs.Links.{keeps_on}
use Rattle.image_steps.proofs.Naming.{alike_on, alike_self}
use Rattle.image_steps.proofs.Places.{place_some}
use Rattle.image_steps.proofs.Standing.{same_index, moves_on}

-- ---- numbers of a shape

half_of : (n m : ℕ) → n ≡ 512 * m → n / 2 ≡ 256 * m
half_of n m same = omega (arith, same)

pub each_is : {s : Shape} {a : Allocator} → IsOf s a → pools.each a.pool ≡ each s
unfolding counts_in
each_is {s} {a} is = half_of (2 ^ a.pool.bits) s.sectors is.cluster

pub place_is : {s : Shape} {a : Allocator} (k : ℕ) → IsOf s a → place_of a.pool.bits k ≡ place s k
unfolding place_of place
place_is {s} {a} k is = ap (λ (n : ℕ). n * k) is.cluster ∙ mul_assoc 512 s.sectors k

-- ---- counts

pub counted_one : {s : Shape} (file : List ℕ) (k m n : ℕ) → 0 < s.sectors → IsCounted s file k m → IsCounted s file k n → m ≡ n
counted_one {s} file k m n some a b =
    let index : a.index ≡ b.index = same_index s a.index b.index a.slot b.slot (sym a.is ∙ b.is) a.inside b.inside in
    let slot : a.slot ≡ b.slot = omega (arith, a.is, b.is, ap (λ (i : ℕ). each s * i) index) in
    let at : place s a.block ≡ place s b.block = sym a.linked.at ∙ ap (λ (i : ℕ). u64_at file (s.counts + 8 * i)) index ∙ b.linked.at in
    sym a.count ∙ ap (λ (p : ℕ). u16_at file (p + 2 * a.slot)) at ∙ ap (λ (j : ℕ). u16_at file (place s b.block + 2 * j)) slot ∙ b.count

-- a count of a new file, where blocks are as before
pub counted_back : {s : Shape} (old new : List ℕ) (k m : ℕ) → SameBlocks s old new → (c : IsCounted s new k m) → IsCounted s old k (u16_at old (place s c.block + 2 * c.slot))
counted_back {s} old new k m same c = record {
  index = c.index;
  slot = c.slot;
  block = c.block;
  is = c.is;
  inside = c.inside;
  linked = record { inside = c.linked.inside; some = c.linked.some; at = sym (same c.index c.linked.inside) ∙ c.linked.at };
  count = refl;
}

-- the counts of n clusters were written, and no other
pub written : {s : Shape} (taken : ℕ → Bool) (from n : ℕ) (counts old new : List ℕ) → 0 < s.sectors → AreCountsOf taken from n counts → HasCounts s from n counts new → LeavesCounts s from n old new → SameBlocks s old new → HasSettled s taken from n old new
written {s} taken from n counts old new some are has leaves same = record {
  inside = λ k many low high c.
      let t_in : k - from < n = omega (arith, low, high) in
      let back : from + (k - from) ≡ k = omega (arith, low) in
      let there : IsCounted s new k (u16_at counts (2 * (k - from))) = subst (λ (m : ℕ). IsCounted s new m (u16_at counts (2 * (k - from)))) back (has (k - from) t_in) in
      counted_one new k many (u16_at counts (2 * (k - from))) some c there ∙ are (k - from) t_in ∙ ap (λ (m : ℕ). count_for taken m) back;
  outside = λ k many out c.
      let was = counted_back old new k many same c in
      let is = counted_one new k (u16_at old (place s c.block + 2 * c.slot)) many some (leaves k (u16_at old (place s c.block + 2 * c.slot)) was out) c in
      subst (IsCounted s old k) is was;
}

pub settled_next : {s : Shape} (taken : ℕ → Bool) (from n m : ℕ) (a b c : List ℕ) → HasSettled s taken from n a b → HasSettled s taken (from + n) m b c → HasSettled s taken from (n + m) a c
settled_next {s} taken from n m a b c first second = record {
  inside = λ k many low high is. elim (cases_lt k (from + n)) [
    | inl before ↦ first.inside k many low before (second.outside k many (inl before) is)
    | inr after ↦ second.inside k many (omega (arith, after)) (omega (arith, high)) is
  ];
  outside = λ k many out is. ⊎_elim
      (λ (low : k < from). first.outside k many (inl low) (second.outside k many (inl (omega (arith, low))) is))
      (λ (high : from + (n + m) ≤ k). first.outside k many (inr (omega (arith, high))) (second.outside k many (inr (omega (arith, high))) is))
      out;
}

pub settled_none : {s : Shape} (taken : ℕ → Bool) (from : ℕ) (a : List ℕ) → HasSettled s taken from 0 a a
settled_none taken from a = record { inside = λ k many low high is. absurd (omega (arith, low, high)); outside = λ k many out is. is }

-- a block that is missing counts nothing
pub settled_missing : {s : Shape} {a : Allocator} (taken : ℕ → Bool) (i : ℕ) (file : List ℕ) → IsOf s a → HasBlocks s a file → block_at a.pool i ≡ 0 → HasSettled s taken (pools.each a.pool * i) (pools.each a.pool) file file
settled_missing {s} {a} taken i file is blocks missing = record {
  inside = λ k many low high c.
      let per_block = each_is is in
      let from : each s * i ≤ k = subst (λ (e : ℕ). e * i ≤ k) per_block low in
      let to : k < each s * i + each s = subst (λ (e : ℕ). k < e * i + e) per_block high in
      let index : c.index ≡ i = same_index s c.index i c.slot (k - each s * i) (sym c.is ∙ omega (arith, from)) c.inside (omega (arith, from, to)) in
      let at : place s c.block ≡ 0 = sym c.linked.at ∙ blocks c.index c.linked.inside ∙ ap (λ (j : ℕ). block_at a.pool j) index ∙ missing in
      absurd (omega (arith, at, place_some s c.block is.shape.some c.linked.some));
  outside = λ k many out c. c;
}

-- all counts
pub all_settled : {s : Shape} {a : Allocator} (taken : ℕ → Bool) (old new : List ℕ) → IsOf s a → HasSettled s taken 0 (pools.each a.pool * length a.pool.blocks) old new → AreSettled s taken new
all_settled {s} {a} taken old new is settled k many c =
    let blocks : pools.each a.pool * length a.pool.blocks ≡ each s * s.blocks = ap (λ (e : ℕ). e * length a.pool.blocks) (each_is is) ∙ ap (λ (n : ℕ). each s * n) is.blocks in
    let more : each s * (c.index + 1) ≤ each s * s.blocks = mul-le-mul_left (each s) (omega (arith, c.linked.inside)) in
    let step : each s * (c.index + 1) ≡ each s * c.index + each s = grind arith in
    settled.inside k many (omega arith) (omega (arith, blocks, more, step, c.is, c.inside)) c

-- ---- calls

pub settles_on : {parts others : Parts} {a : Allocator} {x y z : World} → Runs parts x y → Runs others y z → SettlesOn a x y → SettlesOn a y z → SettlesOn a x z
settles_on {parts} {others} {a} {x} {y} {z} run next first second = record {
  moves = λ s disks. moves_on run next (λ c is. is) (first.moves s disks) (λ st. second.moves s disks);
  leaves = λ s disks st told.
      let one = first.leaves s disks st told in
      let two = second.leaves s disks ((first.moves s disks).stands st) (subst IsTrue (sym run.goes.tells) told) in (
        record { keeps = keeps_on s (x.seen a.file) (y.seen a.file) (z.seen a.file) one.0.keeps two.0.keeps; alike = alike_on s (x.seen a.file) (y.seen a.file) (z.seen a.file) one.0.alike two.0.alike },
        λ i inside. two.1 i inside ∙ one.1 i inside,
      );
}

pub all_on : {parts : Parts} {a : Allocator} {x y z : World} (from n m : ℕ) → Runs parts x y → SettlesOn a x y → SettlesAll a from n x y → SettlesAll a (from + n) m y z → SettlesAll a from (n + m) x z
all_on {parts} {a} {x} {y} {z} from n m run on first second = record {
  counts = λ s disks st told.
      settled_next (is_in a.pool.spoken) from n m (x.seen a.file) (y.seen a.file) (z.seen a.file) (first.counts s disks st told)
      (second.counts s disks ((on.moves s disks).stands st) (subst IsTrue (sym run.goes.tells) told));
}

pub settles_stay : (a : Allocator) (w : World) → IsSound w → SettlesOn a w w
settles_stay a w sound = record {
  moves = λ s disks. record {
    since = λ st k low high c left. let told : IsTrue w.tells = told_at w k a.file c sound left in since_now w a.file (IsSafe s disks) (λ d now. safe s (st.rests told).role disks d ((st.rests told).now d now)) k low high c left;
    stands = λ st. st;
  };
  leaves = λ s disks st told. (record { keeps = record { blocks = λ i q is. is; tables = λ i q is. is }; alike = alike_self s (w.seen a.file) }, λ i inside. refl);
}

pub all_none : (a : Allocator) (from : ℕ) (w : World) → SettlesAll a from 0 w w
all_none a from w = record { counts = λ s disks st told. settled_none (is_in a.pool.spoken) from (w.seen a.file) }

pub all_missing : (a : Allocator) (i : ℕ) (w : World) → block_at a.pool i ≡ 0 → SettlesAll a (pools.each a.pool * i) (pools.each a.pool) w w
all_missing a i w missing = record { counts = λ s disks st told. settled_missing (is_in a.pool.spoken) i (w.seen a.file) st.is (st.blocks told) missing }

pub all_next : {parts : Parts} {a : Allocator} {x y z : World} (i : ℕ) → Runs parts x y → SettlesOn a x y → SettlesAll a 0 (pools.each a.pool * i) x y → SettlesAll a (pools.each a.pool * i) (pools.each a.pool) y z → SettlesAll a 0 (pools.each a.pool * (i + 1)) x z
all_next {parts} {a} {x} {y} {z} i run on first second =
    let e = pools.each a.pool in
    let step : e * i + e ≡ e * (i + 1) = grind arith in
    let start : e * i ≡ 0 + e * i = omega arith in
    subst (λ (n : ℕ). SettlesAll a 0 n x z) step (all_on 0 (e * i) e run on first (subst (λ (f : ℕ). SettlesAll a f e y z) start second))

pub puts_none : (f : ℕ) (w : World) → Puts {T = Unit {0}} {E = Failed} f w w (Ok tt)
puts_none f w = put (stay (writes_of f) w) tt (quiet_stay w)

-- ---- one write of counts

some_count : (taken : Bool) → IsTrue taken → 0 < (count_for (λ k. taken) 0)
some_count true is = omega arith
some_count false is = absurd (cc)

module _ (a : Allocator) (is : IsAllocator a) (i low n spot : ℕ) (counts : List ℕ) {parts : Parts} (x y : World) (there : block_at a.pool i ≢ 0) (inside : i < length a.pool.blocks) (within : low + n ≤ pools.each a.pool)
    (spot_is : spot ≡ block_at a.pool i + 2 * low) (long : length counts ≡ 2 * n) (are : AreCountsOf (is_in a.pool.spoken) (pools.each a.pool * i + low) n counts) (run : Runs parts x y) where
  q : ℕ
  q = (is.blocks i there).0

  q_at : {s : Shape} → IsOf s a → block_at a.pool i ≡ place s q
  unfolding q
  q_at {s} of = (is.blocks i there).3 ∙ place_is q of

  block : {s : Shape} (file : List ℕ) → IsOf s a → HasBlocks s a file → IsBlock s file i q
  unfolding q
  block {s} file of has = let i_in : i < s.blocks = omega (arith, inside, of.blocks) in record { inside = i_in; some = (is.blocks i there).1; at = has i i_in ∙ q_at of }

  settling : {s : Shape} → IsOf s a → IsSettling s (is_in a.pool.spoken) q i low n spot counts
  settling {s} of = record {
    within = omega (arith, within, each_is of);
    spot_is = spot_is ∙ ap (λ (p : ℕ). p + 2 * low) (q_at of);
    long = long;
    above = λ t t_in taken.
        let same : each s * i + low + t ≡ pools.each a.pool * i + low + t = ap (λ (e : ℕ). e * i + low + t) (sym (each_is of)) in
        let spoken : IsTrue (is_in a.pool.spoken (pools.each a.pool * i + low + t)) = subst (λ (k : ℕ). IsTrue (is_in a.pool.spoken k)) same taken in
        subst (λ (c : ℕ). 0 < c) (sym (are t t_in)) (some_count (is_in a.pool.spoken (pools.each a.pool * i + low + t)) spoken);
  }

  told_in : {s : Shape} {disks : List (List ℕ)} → Settles s disks a x → Told (λ c. IsBlock s c i q) a.file x
  told_in st told = block (x.seen a.file) st.is (st.blocks told)

  pub slots_on : ((s : Shape) (disks : List (List ℕ)) (taken : ℕ → Bool) (last q i low n : ℕ) → IsShape s → IsSettling s taken q i low n spot counts → Told (λ c. IsBlock s c i q) a.file x
      → Moves a.file (IsSafe s disks) (Rests s disks taken last a.file) (Rests s disks taken last a.file) x y)
      → ((s : Shape) (disks : List (List ℕ)) (taken : ℕ → Bool) (last q i low n : ℕ) → IsShape s → IsSettling s taken q i low n spot counts → Told (λ c. IsBlock s c i q) a.file x
      → Reads a.file (Rests s disks taken last a.file) (LeavesGuest s) x y)
      → ((s : Shape) (disks : List (List ℕ)) (taken : ℕ → Bool) (last q i low n : ℕ) → IsShape s → IsSettling s taken q i low n spot counts → Told (λ c. IsBlock s c i q) a.file x
      → Reads a.file (Rests s disks taken last a.file) (λ old new. SameTables s old new × SameBlocks s old new) x y)
      → SettlesOn a x y
  slots_on moves leaves rows = record {
    moves = λ s disks. record {
      since = λ st. (moves s disks (is_in a.pool.spoken) a.pool.prepared q i low n st.is.shape (settling st.is) (told_in st)).since st.rests;
      stands = λ st. record {
        is = st.is;
        rests = (moves s disks (is_in a.pool.spoken) a.pool.prepared q i low n st.is.shape (settling st.is) (told_in st)).stands st.rests;
        blocks = λ told j j_in.
            let told_x : IsTrue x.tells = subst IsTrue run.goes.tells told in
            (rows s disks (is_in a.pool.spoken) a.pool.prepared q i low n st.is.shape (settling st.is) (told_in st) st.rests told_x).1 j j_in ∙ st.blocks told_x j j_in;
      };
    };
    leaves = λ s disks st told. (
      leaves s disks (is_in a.pool.spoken) a.pool.prepared q i low n st.is.shape (settling st.is) (told_in st) st.rests told,
      (rows s disks (is_in a.pool.spoken) a.pool.prepared q i low n st.is.shape (settling st.is) (told_in st) st.rests told).0,
    );
  }

  pub slots_all : ((s : Shape) (disks : List (List ℕ)) (taken : ℕ → Bool) (last q i low n : ℕ) → IsShape s → IsSettling s taken q i low n spot counts → Told (λ c. IsBlock s c i q) a.file x
      → Reads a.file (Rests s disks taken last a.file) (LeavesCounts s (each s * i + low) n) x y)
      → ((s : Shape) (disks : List (List ℕ)) (taken : ℕ → Bool) (last q i low n : ℕ) → IsShape s → IsSettling s taken q i low n spot counts → Told (λ c. IsBlock s c i q) a.file x
      → Reads a.file (Rests s disks taken last a.file) (λ old new. SameTables s old new × SameBlocks s old new) x y)
      → ((s : Shape) (disks : List (List ℕ)) (taken : ℕ → Bool) (last q i low n : ℕ) → IsShape s → IsSettling s taken q i low n spot counts → Told (λ c. IsBlock s c i q) a.file x
      → Reads a.file (Rests s disks taken last a.file) (λ old new. HasCounts s (each s * i + low) n counts new) x y)
      → SettlesAll a (pools.each a.pool * i + low) n x y
  slots_all others rows has = record {
    counts = λ s disks st told.
        let taken = is_in a.pool.spoken in
        let start : each s * i + low ≡ pools.each a.pool * i + low = ap (λ (e : ℕ). e * i + low) (sym (each_is st.is)) in
        let counts_there = has s disks taken a.pool.prepared q i low n st.is.shape (settling st.is) (told_in st) st.rests told in
        let counts_else = others s disks taken a.pool.prepared q i low n st.is.shape (settling st.is) (told_in st) st.rests told in
        let words = rows s disks taken a.pool.prepared q i low n st.is.shape (settling st.is) (told_in st) st.rests told in
        written taken (pools.each a.pool * i + low) n counts (x.seen a.file) (y.seen a.file) st.is.shape.some are
        (subst (λ (f : ℕ). HasCounts s f n counts (y.seen a.file)) start counts_there)
        (subst (λ (f : ℕ). LeavesCounts s f n (x.seen a.file) (y.seen a.file)) start counts_else) words.1;
  }
