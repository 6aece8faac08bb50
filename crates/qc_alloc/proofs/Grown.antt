-- What calls that prepare clusters do to an allocator and to the file, by the clauses of the calls on the image.
use Rattle.std.proofs.Common.{◌≡◌, ◌≢◌, ◌⊎◌, inl, inr, ⊎_elim, ℕ, ◌+◌, ◌-◌, ◌*◌, ◌/◌, ◌%◌, ◌^◌, ◌<◌, ◌≤◌, max, List, [], ◌++◌, length, All, IsTrue, ◌==◌}
use Rattle.std.proofs.Common.{cond, slice_index, Ok, refl, sym, ◌∙◌, ap, subst, append-nil, arith}
use Rattle.std.specs.Int.{w16}
use Rattle.std.proofs.lemmas.Bool.{cases_eq, cases_lt}
use Rattle.std.proofs.Math.Nat.{div-add-mod, mod-lt}
use Rattle.std.proofs.lemmas.List.Elements.{All-append, All-weaker, All-nil}
use Rattle.disk_model.specs.Files.{u64_at}
use Rattle.disk_model.specs.World.{World, Parts, Runs, IsSound, only_file, writes_of}
use Rattle.disk_model.specs.declared.depot.Failed.{Failed}
use Rattle.disk_model.specs.declared.depot.WriteRefusal.{WriteRefusal}
use Rattle.file_device.specs.Calls.{Puts}
use Rattle.file_device.proofs.Laws.{calls_none, calls_ok, puts_on}
use Rattle.disk_model.proofs.Laws.{since_now, told_at, stay, number_same}
use Rattle.qc_layout.specs.Disks.{place_of, counts_in, bits_of, blocks_in}
use Rattle.image_model.specs.Clusters as clusters
use Rattle.image_model.specs.Clusters.{Shape, Fresh, Of, size, each, place, Meets, IsBlock, IsCounted, IsOwn, IsSafe, IsStanding, Moves}
use Rattle.image_model.specs.Calls.{Told, IsToppingUp, AreOnes, IsAddingBlock, IsMissing, LeavesGuest, LeavesCounts, SameTables, SameBlocks, SameBlocksBut, SameBeside}
use Rattle.image_model.specs.Calls.{IsWithin}
use Rattle.image_steps.proofs.Good.{safe}
use Rattle.image_steps.proofs.Links.{keeps_on}
use Rattle.image_steps.proofs.Naming.{alike_on, alike_self}
use Rattle.image_steps.proofs.Places.{place_step, place_next, place_some, place_apart, place_same}
use Rattle.image_steps.proofs.Standing.{moves_on, same_index}
use Rattle.cluster_pool.specs.Pool as pools
use Rattle.cluster_pool.specs.Pool.{Pool, reach, block_at, block_of, HasAddedBlock, HasTakenRun}
use Rattle.cluster_pool.proofs.Sizes.{each_some, block_inside}
use Rattle.qc_alloc.specs.Allocator.{Allocator, IsAllocator, IsOf, IsHalfAdded, HasBlocks, HasTable, Allocates, HandsOut}
use Rattle.qc_alloc.specs.Growing.{Raises, SparesClaimed, KeepsCounts, Grows, NamesBlocks, MendsBlocks}
use Rattle.qc_alloc.proofs.Raising.{raises_none}

-- ---- numbers of the shape

pub place_is : (s : Shape) (bits k : ℕ) → 2 ^ bits ≡ size s → place_of bits k ≡ place s k
unfolding place place_of
place_is s bits k same = ap (λ (x : ℕ). x * k) same ∙ omega arith

half_size : (s : Shape) (bits : ℕ) → 2 ^ bits ≡ size s → counts_in bits ≡ each s
unfolding counts_in
half_size s bits same = ap (λ (x : ℕ). x / 2) same ∙ omega arith

pub each_is : (s : Shape) (a : Allocator) → IsOf s a → pools.each a.pool ≡ each s
each_is s a of = half_size s a.pool.bits of.cluster

pub reach_is : (s : Shape) (a : Allocator) → IsOf s a → reach a.pool ≡ s.reach
reach_is s a of =
    let mine = each_is s a of in
    let its : counts_in (bits_of s.base) ≡ each s = half_size s (bits_of s.base) of.shape.cluster in
    let blocks = of.blocks in
    let blocks_too = of.shape.blocks in
    let same : length a.pool.blocks * pools.each a.pool ≡ blocks_in s.base * counts_in (bits_of s.base) = cc in
    omega (arith, same, of.shape.reach)

-- ---- the file goes on

-- what of a pool a file knows goes on
pub record Follows (p q : Pool) : Type 0 where
  pub bits : q.bits ≡ p.bits
  pub count : length q.blocks ≡ length p.blocks
  pub more : List ℕ
  pub ready : q.ready ≡ p.ready ++ more
  pub fresh : All (λ k. p.next ≤ k) more
  pub next : p.next ≤ q.next

pub raises_follows : (p q : Pool) → Raises p q → Follows p q
raises_follows p q is = record { bits = is.bits; count = is.count; more = is.more; ready = is.ready; fresh = is.fresh; next = is.next }

-- A run of calls on the file, from one allocator to the next, where the image stood.
pub record Step (a b : Allocator) (s : Shape) (disks : List (List ℕ)) (first : ℕ) (old new : World) : Type 0 where
  pub moves : Moves a.file (IsSafe s disks) (IsStanding s disks first a.pool.prepared a.file) (IsStanding s disks first b.pool.prepared a.file) old new
  pub leaves : IsTrue old.tells → LeavesGuest s (old.seen a.file) (new.seen a.file)
  pub tables : IsTrue old.tells → SameTables s (old.seen a.file) (new.seen a.file)
  pub spares : IsTrue old.tells → SparesClaimed s a (old.seen a.file) (new.seen a.file)
  pub counts : IsTrue old.tells → KeepsCounts s a (old.seen a.file) (new.seen a.file)
  pub table : IsTrue old.tells → HasTable s b (new.seen a.file)

module _ {parts : Parts} (a b : Allocator) (old new : World) (run : Runs parts old new) (file : b.file ≡ a.file) (table : b.table ≡ a.table) (goes : Follows a.pool b.pool)
    (steps : (s : Shape) (disks : List (List ℕ)) (first : ℕ) → Allocates s disks first a old → Step a b s disks first old new) where
  allocates_on : (s : Shape) (disks : List (List ℕ)) (first : ℕ) → Allocates s disks first a old → Allocates s disks first b new
  allocates_on s disks first is = record {
    is = record {
      shape = is.is.shape;
      table = table ∙ is.is.table;
      cluster = ap (λ (x : ℕ). 2 ^ x) goes.bits ∙ is.is.cluster;
      blocks = goes.count ∙ is.is.blocks;
    };
    stands = subst (λ (f : ℕ). IsStanding s disks first b.pool.prepared f new) (sym file) ((steps s disks first is).moves.stands is.stands);
    table = subst (λ (f : ℕ). Told (HasTable s b) f new) (sym file) (λ told. (steps s disks first is).table (subst IsTrue run.goes.tells told));
  }

  hands_on : (first : ℕ) → HandsOut first a → HandsOut first b
  hands_on first is = record {
    ready = subst (All (λ k. first ≤ k)) (sym goes.ready)
        (All-append (λ k. first ≤ k) a.pool.ready goes.more is.ready (All-weaker (λ k. a.pool.next ≤ k) (λ k. first ≤ k)
        (λ k low. omega (arith, low, is.fresh)) goes.more goes.fresh));
    fresh = omega (arith, is.fresh, goes.next);
  }

  pub grows_by : Grows a b old new
  grows_by = record {
    file = file;
    table = table;
    hands = hands_on;
    moves = λ s disks first. record { since = λ is. (steps s disks first is).moves.since is.stands; stands = allocates_on s disks first };
    leaves = λ s disks first is told. (steps s disks first is).leaves told;
    tables = λ s disks first is told. (steps s disks first is).tables told;
    spares = λ s disks first is told. (steps s disks first is).spares told;
    counts = λ s disks first is told. (steps s disks first is).counts told;
  }

leaves_on : (s : Shape) (a b c : List ℕ) → LeavesGuest s a b → LeavesGuest s b c → LeavesGuest s a c
leaves_on s a b c first second = record { keeps = keeps_on s a b c first.keeps second.keeps; alike = alike_on s a b c first.alike second.alike }

-- ---- one run of calls after another

module _ {parts others : Parts} (a b c : Allocator) (old mid new : World) (run : Runs parts old mid) (next : Runs others mid new) (raises : Raises a.pool b.pool) (first : Grows a b old mid) (second : Grows b c mid new) where
  at_a : (X : List ℕ → List ℕ → Type 0) → X (mid.seen b.file) (new.seen b.file) → X (mid.seen a.file) (new.seen a.file)
  at_a X is = subst (λ (f : ℕ). X (mid.seen f) (new.seen f)) first.file is

  told_on : IsTrue old.tells → IsTrue mid.tells
  told_on told = subst IsTrue (sym run.goes.tells) told

  -- a block that was added since isn't a cluster that was prepared before
  no_block : (s : Shape) → IsOf s a → (k : ℕ) → k < a.pool.prepared → ((i : ℕ) → i < s.blocks → block_at a.pool i ≢ 0 → block_at a.pool i ≢ place s k)
      → (i : ℕ) → i < s.blocks → block_at b.pool i ≢ 0 → block_at b.pool i ≢ place s k
  no_block s of k below none i inside some same = elim (cases_eq (block_at a.pool i) 0) [
    | inr was ↦ none i inside was (sym (raises.kept i was) ∙ same)
    | inl missing ↦ (let m = max a.pool.prepared (i * pools.each a.pool) in
        let at : place s m ≡ place s k = sym (place_is s a.pool.bits m of.cluster) ∙ sym (raises.added i missing some).1 ∙ same in
        absurd (omega (arith, place_same s m k of.shape.some at, below)))
  ]

  pub grows_on : Grows a c old new
  grows_on = record {
    file = second.file ∙ first.file;
    table = second.table ∙ first.table;
    hands = λ low is. second.hands low (first.hands low is);
    moves = λ s disks low. moves_on run next (λ x is. is) (first.moves s disks low)
        (λ is. subst (λ (f : ℕ). Moves f (IsSafe s disks) (Allocates s disks low b) (Allocates s disks low c) mid new) first.file (second.moves s disks low));
    leaves = λ s disks low is told. leaves_on s _ _ _ (first.leaves s disks low is told)
        (at_a (LeavesGuest s) (second.leaves s disks low ((first.moves s disks low).stands is) (told_on told)));
    tables = λ s disks low is told i inside. at_a (SameTables s) (second.tables s disks low ((first.moves s disks low).stands is) (told_on told)) i inside
        ∙ first.tables s disks low is told i inside;
    spares = λ s disks low is told k below none apart x from to.
        at_a (SparesClaimed s b) (second.spares s disks low ((first.moves s disks low).stands is) (told_on told)) k (omega (arith, below, raises.prepared)) none
        (no_block s is.is k below apart) x from to
        ∙ first.spares s disks low is told k below none apart x from to;
    counts = λ s disks low is told k many below was.
        at_a (KeepsCounts s b) (second.counts s disks low ((first.moves s disks low).stands is) (told_on told)) k many (omega (arith, below, raises.prepared))
        (first.counts s disks low is told k many below was);
  }

  pub names_on : NamesBlocks b c mid new → MendsBlocks a c old new
  names_on names = record {
    words = λ s disks low either is told. at_a (λ x y. HasBlocks s c y) (names.words s disks low ((first.moves s disks low).stands is) (told_on told));
  }

-- a pool with the same blocks, of which as much is prepared
pub mends_same : (a b c : Allocator) (old new : World) → c.pool.blocks ≡ b.pool.blocks → c.pool.prepared ≡ b.pool.prepared → MendsBlocks a b old new → MendsBlocks a c old new
mends_same a b c old new blocks prepared mends = record {
  words = λ s disks first either is told i inside.
      mends.words s disks first (subst (λ (x : ℕ). (a.pool.prepared < x) ⊎ Told (HasBlocks s a) a.file old) prepared either) is told i inside
      ∙ ap (λ (xs : List ℕ). slice_index xs i) (sym blocks);
}

pub mends_none : (a : Allocator) (w : World) → MendsBlocks a a w w
mends_none a w = record {
  words = λ s disks first either is told.
      ⊎_elim (λ (less : a.pool.prepared < a.pool.prepared). absurd (omega (arith, less))) (λ (was : Told (HasBlocks s a) a.file w). was told) either;
}

-- ---- allocators with the same blocks, of which as much is prepared

module _ (s : Shape) (a b : Allocator) (file : List ℕ) (bits : b.pool.bits ≡ a.pool.bits) (blocks : b.pool.blocks ≡ a.pool.blocks) (prepared : b.pool.prepared ≡ a.pool.prepared) where
  pub half_same : (i : ℕ) → IsHalfAdded s a i file → IsHalfAdded s b i file
  half_same i half = record {
    missing = ap (λ (x : List ℕ). slice_index x i) blocks ∙ half.missing;
    counts = half.counts ∙ ap (λ (x : ℕ). x / pools.each a.pool) (sym prepared) ∙ ap (λ (x : ℕ). b.pool.prepared / counts_in x) (sym bits);
    word = half.word ∙ ap (place s) (sym prepared);
  }

  pub table_same : HasTable s a file → HasTable s b file
  table_same has i inside =
      ⊎_elim (λ same. inl (same ∙ ap (λ (x : List ℕ). slice_index x i) (sym blocks))) (λ half. inr (half_same i half)) (has i inside)

-- ---- no call

module _ (a b : Allocator) (w : World) (sound : IsSound w) (file : b.file ≡ a.file) (table : b.table ≡ a.table) (goes : Follows a.pool b.pool) (blocks : b.pool.blocks ≡ a.pool.blocks) (prepared : b.pool.prepared ≡ a.pool.prepared) where
  stay_step : (s : Shape) (disks : List (List ℕ)) (first : ℕ) → Allocates s disks first a w → Step a b s disks first w w
  stay_step s disks first is = record {
    moves = record {
      since = λ stands k low high c left.
          let st = stands (told_at w k a.file c sound left) in
          since_now w a.file (IsSafe s disks) (λ d there. safe s st.role disks d (st.now d there)) k low high c left;
      stands = λ stands. subst (λ (last : ℕ). IsStanding s disks first last a.file w) (sym prepared) stands;
    };
    leaves = λ told. record { keeps = record { blocks = λ i q there. there; tables = λ i q there. there }; alike = alike_self s (w.seen a.file) };
    tables = λ told i inside. refl;
    spares = λ told k below none apart x from to. refl;
    counts = λ told k many below was. was;
    table = λ told. table_same s a b (w.seen a.file) goes.bits blocks prepared (is.table told);
  }

  pub grows_stay : Grows a b w w
  grows_stay = grows_by a b w w (stay (only_file a.file) w) file table goes stay_step

pub grows_none : (a : Allocator) (w : World) → IsSound w → Grows a a w w
grows_none a w sound = grows_stay a a w sound refl refl (raises_follows a.pool a.pool (raises_none a.pool)) refl refl

pub puts_none : (f : ℕ) (w : World) → Puts {T = Unit {0}} {E = WriteRefusal} f w w (Ok tt)
puts_none f w = record { calls = calls_none f w tt; writes = stay (writes_of f) w; cause = tt }

-- a call that ended well, of a loop that may be refused
pub puts_next : {f : ℕ} {a b c : World} → Puts {T = Unit {0}} {E = WriteRefusal} f a b (Ok tt) → Puts {T = Unit {0}} {E = Failed} f b c (Ok tt)
    → Puts {T = Unit {0}} {E = WriteRefusal} f a c (Ok tt)
puts_next first second = let both = puts_on first second in record { calls = calls_ok tt both.calls; writes = both.writes; cause = tt }

-- ---- clusters are counted, in a block that is there

-- the clauses of that call on the image: from the next cluster on, n are counted, and then so many stand
pub record Counts (f last n on finish spot : ℕ) (counts : List ℕ) (old new : World) : Type 0 where
  pub moves : (s : Shape) (disks : List (List ℕ)) (first q i low : ℕ) → IsToppingUp s last q i low n spot finish f counts old
      → Moves f (IsSafe s disks) (IsStanding s disks first last f) (IsStanding s disks first on f) old new
  pub leaves : (s : Shape) (disks : List (List ℕ)) (first q i low : ℕ) → IsToppingUp s last q i low n spot finish f counts old
      → IsStanding s disks first last f old → IsTrue old.tells → LeavesGuest s (old.seen f) (new.seen f)
  pub rows : (s : Shape) (disks : List (List ℕ)) (first q i low : ℕ) → IsToppingUp s last q i low n spot finish f counts old
      → IsStanding s disks first last f old → IsTrue old.tells → SameTables s (old.seen f) (new.seen f) × SameBlocks s (old.seen f) (new.seen f)
  pub others : (s : Shape) (disks : List (List ℕ)) (first q i low : ℕ) → IsToppingUp s last q i low n spot finish f counts old
      → IsStanding s disks first last f old → IsTrue old.tells → LeavesCounts s last n (old.seen f) (new.seen f)
  pub frame : IsTrue old.tells → SameBeside (λ b. IsWithin b finish 1 ⊎ IsWithin b spot (length counts)) (old.seen f) (new.seen f)

-- a cluster below one that is written ends before it
before : (s : Shape) (k last b : ℕ) → k < last → b < place s k + size s → b < place s last
before s k last b less inside = omega (arith, place_step s k last less, inside)

-- the last byte of the clusters lies behind those that were prepared
finish_low : (s : Shape) (last n finish : ℕ) → 0 < s.sectors → 0 < n → finish + 1 ≡ place s (last + n) → place s last ≤ finish
finish_low s last n finish some more is = omega (arith, place_step s last (last + n) (omega (arith, more)), is, some)

module _ {parts : Parts} (a : Allocator) (is_a : IsAllocator a) (n on finish spot : ℕ) (counts : List ℕ) (old new : World) (run : Runs parts old new) (some : 0 < n) (linked : block_of a.pool a.pool.prepared ≢ 0)
    (within : a.pool.prepared % pools.each a.pool + n ≤ pools.each a.pool) (below : a.pool.prepared + n ≤ reach a.pool) (long : length counts ≡ 2 * n) (ones : AreOnes n counts)
    (spot_is : spot ≡ block_of a.pool a.pool.prepared + 2 * (a.pool.prepared % pools.each a.pool)) (finish_is : finish + 1 ≡ place_of a.pool.bits (a.pool.prepared + n))
    (call : Counts a.file a.pool.prepared n on finish spot counts old new) where
  abbrev last : ℕ
  last = a.pool.prepared

  abbrev index : ℕ
  index = last / pools.each a.pool

  abbrev slot : ℕ
  slot = last % pools.each a.pool

  block : (k : ℕ) × (0 < k) × (k < last) × (block_at a.pool index ≡ place_of a.pool.bits k)
  block = is_a.blocks index linked

  abbrev q : ℕ
  q = block.0

  word_is : (s : Shape) → IsOf s a → block_at a.pool index ≡ place s q
  word_is s of = block.3 ∙ place_is s a.pool.bits q of.cluster

  inside_is : (s : Shape) → IsOf s a → index < s.blocks
  inside_is s of = omega (arith, block_inside a.pool is_a.pool last (omega (arith, below, some)), of.blocks)

  words : (s : Shape) (c : List ℕ) → HasTable s a c → (i : ℕ) → i < s.blocks → u64_at c (s.counts + 8 * i) ≡ block_at a.pool i
  words s c table i inside = ⊎_elim (λ same. same) (λ half. absurd (linked (ap (block_at a.pool) (sym half.counts) ∙ half.missing))) (table i inside)

  topping : (s : Shape) (disks : List (List ℕ)) (first : ℕ) → Allocates s disks first a old → IsToppingUp s last q index slot n spot finish a.file counts old
  topping s disks first is =
      let same = each_is s a is.is in
      record {
        shape = is.is.shape;
        call = record {
          within = omega (arith, within, same);
          from = omega (arith, div-add-mod last (pools.each a.pool), ap (λ (x : ℕ). x * index) same);
          some = some;
          reach = omega (arith, below, reach_is s a is.is);
          spot_is = omega (arith, spot_is, word_is s is.is);
          finish_is = finish_is ∙ place_is s a.pool.bits (last + n) is.is.cluster;
          apart = inl block.2;
        };
        long = long;
        ones = ones;
        block = λ told. record {
          inside = inside_is s is.is;
          some = block.1;
          at = words s (old.seen a.file) (is.table told) index (inside_is s is.is)
              ∙ word_is s is.is;
        };
      }

  count_spares : (s : Shape) (disks : List (List ℕ)) (first : ℕ) → Allocates s disks first a old → IsTrue old.tells
      → SparesClaimed s a (old.seen a.file) (new.seen a.file)
  count_spares s disks first is told k below_k none apart x from to = call.frame told x (⊎_elim
      (λ (end : IsWithin x finish 1). absurd (omega (
        arith,
        end.0,
        before s k last x below_k to,
        finish_low s last n finish is.is.shape.some some (topping s disks first is).call.finish_is,
      )))
      (λ (count : IsWithin x spot (length counts)). ⊎_elim
      (λ (low : place s k + size s ≤ place s q). absurd (omega (arith, low, to, count.0, (topping s disks first is).call.spot_is)))
      (λ (high : place s q + size s ≤ place s k). absurd (omega (
        arith,
        high,
        from,
        count.1,
        long,
        (topping s disks first is).call.spot_is,
        (topping s disks first is).call.within,
      )))
      (place_apart s k q (λ same. apart index (inside_is s is.is) linked (word_is s is.is ∙ ap (place s) (sym same))))))

  count_words : (b : Allocator) → b.pool.blocks ≡ a.pool.blocks → (s : Shape) (disks : List (List ℕ)) (first : ℕ) → Allocates s disks first a old → IsTrue old.tells → HasBlocks s b (new.seen a.file)
  count_words b blocks s disks first is told i inside =
      (call.rows s disks first q index slot (topping s disks first is) is.stands told).1 i inside ∙ words s (old.seen a.file) (is.table told) i inside
      ∙ ap (λ (x : List ℕ). slice_index x i) (sym blocks)

  count_step : (b : Allocator) → b.pool.prepared ≡ on → b.pool.blocks ≡ a.pool.blocks → (s : Shape) (disks : List (List ℕ)) (first : ℕ)
      → Allocates s disks first a old → Step a b s disks first old new
  count_step b prepared blocks s disks first is = record {
    moves = subst (λ (m : ℕ). Moves a.file (IsSafe s disks) (IsStanding s disks first last a.file) (IsStanding s disks first m a.file) old new) (sym prepared)
        (call.moves s disks first q index slot (topping s disks first is));
    leaves = λ told. call.leaves s disks first q index slot (topping s disks first is) is.stands told;
    tables = λ told. (call.rows s disks first q index slot (topping s disks first is) is.stands told).0;
    spares = count_spares s disks first is;
    counts = λ told k many below was. call.others s disks first q index slot (topping s disks first is) is.stands told k many was (inl below);
    table = λ told i inside. inl (count_words b blocks s disks first is told i inside);
  }

  pub counted_grows : (b : Allocator) → b.file ≡ a.file → b.table ≡ a.table → b.pool ≡ record a.pool { prepared = on } → Grows a b old new × NamesBlocks a b old new
  counted_grows b file table pool =
      let blocks = ap (λ (p : Pool). p.blocks) pool in
      (grows_by a b old new run file table follows (count_step b (ap (λ (p : Pool). p.prepared) pool) blocks), record { words = count_words b blocks })
    where
      follows : Follows a.pool b.pool
      follows = record {
        bits = ap (λ (p : Pool). p.bits) pool;
        count = ap (λ (p : Pool). length p.blocks) pool;
        more = [];
        ready = ap (λ (p : Pool). p.ready) pool ∙ sym (append-nil a.pool.ready);
        fresh = All-nil (λ k. a.pool.next ≤ k);
        next = omega (arith, ap (λ (p : Pool). p.next) pool);
      }

-- ---- a block is added

-- the clauses of that call on the image, and how many stand after it
pub record Adds (f last on finish end spot at word : ℕ) (old new : World) : Type 0 where
  pub moves : (s : Shape) (disks : List (List ℕ)) (first i slot : ℕ) → IsAddingBlock s i last slot spot finish end at word f old
      → Moves f (IsSafe s disks) (IsStanding s disks first last f) (IsStanding s disks first on f) old new
  pub leaves : (s : Shape) (disks : List (List ℕ)) (first i slot : ℕ) → IsAddingBlock s i last slot spot finish end at word f old
      → IsStanding s disks first last f old → IsTrue old.tells → LeavesGuest s (old.seen f) (new.seen f)
  pub rows : (s : Shape) (disks : List (List ℕ)) (first i slot : ℕ) → IsAddingBlock s i last slot spot finish end at word f old
      → IsStanding s disks first last f old → IsTrue old.tells → SameTables s (old.seen f) (new.seen f) × SameBlocksBut s i (old.seen f) (new.seen f)
  pub others : (s : Shape) (disks : List (List ℕ)) (first i slot : ℕ) → IsAddingBlock s i last slot spot finish end at word f old
      → IsStanding s disks first last f old → IsTrue old.tells → LeavesCounts s (each s * i) (each s) (old.seen f) (new.seen f)
  pub frame : IsTrue old.tells → SameBeside (λ b. IsWithin b finish 1 ⊎ (IsWithin b spot 2 ⊎ IsWithin b at 8)) (old.seen f) (new.seen f)

-- whatever it answers, the table's word is as it was, or names the block
abbrev pub IsEither : (f last finish end spot at word : ℕ) (old new : World) → Type 0
IsEither f last finish end spot at word old new = (s : Shape) (disks : List (List ℕ)) (first i slot : ℕ)
    → IsAddingBlock s i last slot spot finish end at word f old
    → IsStanding s disks first last f old → IsTrue old.tells → (u64_at (new.seen f) at ≡ u64_at (old.seen f) at) ⊎ IsBlock s (new.seen f) i last

-- after Ok it names it
abbrev pub IsLinking : (f last finish end spot at word : ℕ) (old new : World) → Type 0
IsLinking f last finish end spot at word old new = (s : Shape) (disks : List (List ℕ)) (first i slot : ℕ)
    → IsAddingBlock s i last slot spot finish end at word f old
    → IsStanding s disks first last f old → IsTrue old.tells → IsBlock s (new.seen f) i last

module _ {parts : Parts} (a : Allocator) (is_a : IsAllocator a) (on finish end spot at word : ℕ) (old new : World) (run : Runs parts old new) (missing : block_of a.pool a.pool.prepared ≡ 0)
    (below : a.pool.prepared < reach a.pool) (spot_is : spot ≡ place_of a.pool.bits a.pool.prepared + 2 * (a.pool.prepared % pools.each a.pool)) (finish_is : finish + 1 ≡ place_of a.pool.bits (a.pool.prepared + 1))
    (end_is : end ≡ cond (a.pool.prepared % pools.each a.pool + 1 == pools.each a.pool) 1 0) (at_is : at ≡ a.table + 8 * (a.pool.prepared / pools.each a.pool)) (word_is : word ≡ place_of a.pool.bits a.pool.prepared)
    (call : Adds a.file a.pool.prepared on finish end spot at word old new) where
  abbrev last_b : ℕ
  last_b = a.pool.prepared

  abbrev i0 : ℕ
  i0 = last_b / pools.each a.pool

  abbrev slot0 : ℕ
  slot0 = last_b % pools.each a.pool

  inside_here : (s : Shape) → IsOf s a → i0 < s.blocks
  inside_here s of = omega (arith, block_inside a.pool is_a.pool last_b below, of.blocks)

  at_here : (s : Shape) → IsOf s a → at ≡ s.counts + 8 * i0
  at_here s of = omega (arith, at_is, of.table)

  missing_here : (s : Shape) → IsOf s a → (c : List ℕ) → HasTable s a c → IsMissing s i0 last_b c
  missing_here s of c table = ⊎_elim (λ same. inl (same ∙ missing)) (λ half. inr half.word) (table i0 (inside_here s of))

  adding : (s : Shape) (disks : List (List ℕ)) (first : ℕ) → Allocates s disks first a old → IsAddingBlock s i0 last_b slot0 spot finish end at word a.file old
  adding s disks first is =
      let same = each_is s a is.is in
      record {
        shape = is.is.shape;
        call = record {
          is = omega (arith, div-add-mod last_b (pools.each a.pool), ap (λ (x : ℕ). x * i0) same);
          slot_in = let part : slot0 < pools.each a.pool = mod-lt last_b (each_some a.pool.bits is_a.pool.low) in omega (arith, part, same);
          some = is_a.some;
          inside = inside_here s is.is;
          reach = omega (arith, below, reach_is s a is.is);
          spot_is = omega (arith, spot_is, place_is s a.pool.bits last_b is.is.cluster);
          finish_is = finish_is ∙ place_is s a.pool.bits (last_b + 1) is.is.cluster;
          end_is = end_is ∙ ap (λ (x : ℕ). cond (slot0 + 1 == x) 1 0) same;
          at_is = at_here s is.is;
          word_is = word_is ∙ place_is s a.pool.bits last_b is.is.cluster;
        };
        missing = λ told. missing_here s is.is (old.seen a.file) (is.table told);
      }

  add_spares : (s : Shape) (disks : List (List ℕ)) (first : ℕ) → Allocates s disks first a old → IsTrue old.tells
      → SparesClaimed s a (old.seen a.file) (new.seen a.file)
  add_spares s disks first is told k below_k none apart x from to = call.frame told x (⊎_elim
      (λ (tail : IsWithin x finish 1). absurd (omega (
        arith,
        tail.0,
        before s k last_b x below_k to,
        finish_low s last_b 1 finish is.is.shape.some (omega arith) (adding s disks first is).call.finish_is,
      )))
      (⊎_elim
      (λ (count : IsWithin x spot 2). absurd (omega (arith, count.0, before s k last_b x below_k to, (adding s disks first is).call.spot_is)))
      (λ (link : IsWithin x at 8). none (omega (arith, link.0, to, at_here s is.is), omega (arith, link.1, from, at_here s is.is, inside_here s is.is)))))

  -- the refcount table doesn't meet the next cluster
  table_apart : (s : Shape) (disks : List (List ℕ)) (first : ℕ) → IsStanding s disks first last_b a.file old → IsTrue old.tells → Meets s last_b s.counts (8 * s.blocks) → ⊥
  table_apart s disks first stands told meets =
      let st = stands told in
      let is : st.role last_b ≡ Of clusters.Counts = st.seen.lies.refs clusters.Counts last_b meets in
      ⊎_elim (λ (fresh : st.role last_b ≡ Fresh). cc) (λ (own : IsOwn s st.role last_b). let block = own.2 in cc) st.edge

  -- the counts in a block that was half added
  half_counts : (s : Shape) (disks : List (List ℕ)) (first : ℕ) (is : Allocates s disks first a old) → IsTrue old.tells → (k many : ℕ) → k < last_b → (c : IsCounted s (old.seen a.file) k many)
      → c.index ≡ i0 → IsCounted s (new.seen a.file) k many
  half_counts s disks first is told k many below c same =
      let call_is = (adding s disks first is).call in
      let word : u64_at (old.seen a.file) (s.counts + 8 * i0) ≡ place s c.block = ap (λ (i : ℕ). u64_at (old.seen a.file) (s.counts + 8 * i)) (sym same) ∙ c.linked.at in
      let block : c.block ≡ last_b = ⊎_elim
      (λ (was : u64_at (old.seen a.file) (s.counts + 8 * i0) ≡ block_at a.pool i0). absurd (omega (arith, was, missing, word, place_some s c.block is.is.shape.some c.linked.some)))
      (λ (half : IsHalfAdded s a i0 (old.seen a.file)). place_same s c.block last_b is.is.shape.some (sym word ∙ half.word)) (is.table told i0 (inside_here s is.is)) in
      let at_block : place s c.block ≡ place s last_b = ap (place s) block in
      let slot : c.slot < slot0 = omega (arith, c.is, call_is.is, ap (λ (i : ℕ). each s * i) same, below) in
      let inside = inside_here s is.is in
      let apart : (x : ℕ) → place s last_b ≤ x → x < place s last_b + size s → IsWithin x at 8 → ⊥ =
      λ x low high link. table_apart s disks first is.stands told (omega (arith, link.0, high, at_here s is.is), omega (arith, link.1, low, at_here s is.is, inside)) in
      record {
        index = c.index;
        slot = c.slot;
        block = c.block;
        is = c.is;
        inside = c.inside;
        linked = (call.leaves s disks first i0 slot0 (adding s disks first is) is.stands told).keeps.blocks c.index c.block c.linked;
        count = number_same w16 (new.seen a.file) (old.seen a.file) (place s c.block + 2 * c.slot) (λ x low high. call.frame told x (⊎_elim
            (λ (tail : IsWithin x finish 1). absurd (omega (arith, tail.0, high, at_block, slot, call_is.slot_in, call_is.finish_is, place_next s last_b)))
            (⊎_elim
            (λ (count : IsWithin x spot 2). absurd (omega (arith, count.0, high, at_block, slot, call_is.spot_is)))
            (λ (link : IsWithin x at 8). apart x (omega (arith, low, at_block)) (omega (arith, high, at_block, slot, call_is.slot_in)) link))))
            ∙ c.count;
      }

  add_counts : (s : Shape) (disks : List (List ℕ)) (first : ℕ) → Allocates s disks first a old → IsTrue old.tells → KeepsCounts s a (old.seen a.file) (new.seen a.file)
  add_counts s disks first is told k many below c = elim (cases_lt k (each s * i0)) [
    | inl before ↦ call.others s disks first i0 slot0 (adding s disks first is) is.stands told k many c (inl before)
    | inr not ↦ half_counts s disks first is told k many below c
        (same_index s c.index i0 c.slot (k - each s * i0) (sym c.is ∙ omega (arith, not)) c.inside
        (let call_is = (adding s disks first is).call in omega (arith, not, below, call_is.is, call_is.slot_in)))
  ]

  add_step : (b : Allocator) → b.pool.prepared ≡ on → ((s : Shape) (disks : List (List ℕ)) (first : ℕ) → Allocates s disks first a old → IsTrue old.tells
      → HasTable s b (new.seen a.file))
      → (s : Shape) (disks : List (List ℕ)) (first : ℕ) → Allocates s disks first a old → Step a b s disks first old new
  add_step b prepared table s disks first is = record {
    moves = subst (λ (m : ℕ). Moves a.file (IsSafe s disks) (IsStanding s disks first last_b a.file) (IsStanding s disks first m a.file) old new) (sym prepared)
        (call.moves s disks first i0 slot0 (adding s disks first is));
    leaves = λ told. call.leaves s disks first i0 slot0 (adding s disks first is) is.stands told;
    tables = λ told. (call.rows s disks first i0 slot0 (adding s disks first is) is.stands told).0;
    spares = add_spares s disks first is;
    counts = add_counts s disks first is;
    table = table s disks first is;
  }

  other_words : (s : Shape) (disks : List (List ℕ)) (first : ℕ) → Allocates s disks first a old → IsTrue old.tells → (m : ℕ) → m < s.blocks → m ≢ i0
      → u64_at (new.seen a.file) (s.counts + 8 * m) ≡ block_at a.pool m
  other_words s disks first is told m inside differ =
      (call.rows s disks first i0 slot0 (adding s disks first is) is.stands told).1 m inside differ
      ∙ ⊎_elim (λ same. same) (λ half. absurd (differ half.counts)) (is.table told m inside)

  -- it failed: the table's word may name the block already
  module _ (either : IsEither a.file last_b finish end spot at word old new) where
    half_table : (s : Shape) (disks : List (List ℕ)) (first : ℕ) → Allocates s disks first a old → IsTrue old.tells → HasTable s a (new.seen a.file)
    half_table s disks first is told m inside = elim (cases_eq m i0) [
      | inr differ ↦ inl (other_words s disks first is told m inside differ)
      | inl same ↦ subst (λ (x : ℕ). (u64_at (new.seen a.file) (s.counts + 8 * x) ≡ block_at a.pool x) ⊎ IsHalfAdded s a x (new.seen a.file)) (sym same) (⊎_elim
          (λ (kept : u64_at (new.seen a.file) at ≡ u64_at (old.seen a.file) at).
          let stays : u64_at (new.seen a.file) (s.counts + 8 * i0) ≡ u64_at (old.seen a.file) (s.counts + 8 * i0) = subst
          (λ (x : ℕ). u64_at (new.seen a.file) x ≡ u64_at (old.seen a.file) x) (at_here s is.is) kept in
          ⊎_elim
          (λ (was : u64_at (old.seen a.file) (s.counts + 8 * i0) ≡ block_at a.pool i0). inl (stays ∙ was))
          (λ (half : IsHalfAdded s a i0 (old.seen a.file)). inr (record { missing = half.missing; counts = half.counts; word = stays ∙ half.word }))
          (is.table told i0 (inside_here s is.is)))
          (λ (block : IsBlock s (new.seen a.file) i0 last_b). inr (record { missing = missing; counts = refl; word = block.at }))
          (either s disks first i0 slot0 (adding s disks first is) is.stands told))
    ]

    pub half_grows : (b : Allocator) → on ≡ a.pool.prepared → b.file ≡ a.file → b.table ≡ a.table → b.pool ≡ a.pool → Grows a b old new
    half_grows b same file table pool =
        grows_by a b old new run file table (subst (Follows a.pool) (sym pool) (raises_follows a.pool a.pool (raises_none a.pool)))
        (add_step b (ap (λ (p : Pool). p.prepared) pool ∙ sym same) (λ s disks first is told m inside. of_pool s m (half_table s disks first is told m inside)))
      where
        of_pool : (s : Shape) (m : ℕ) → (u64_at (new.seen a.file) (s.counts + 8 * m) ≡ block_at a.pool m) ⊎ IsHalfAdded s a m (new.seen a.file)
            → (u64_at (new.seen a.file) (s.counts + 8 * m) ≡ block_at b.pool m) ⊎ IsHalfAdded s b m (new.seen a.file)
        of_pool s m (inl is) = inl (is ∙ ap (λ (p : Pool). block_at p m) (sym pool))
        of_pool s m (inr half) = inr (record {
          missing = ap (λ (p : Pool). block_at p m) pool ∙ half.missing;
          counts = half.counts ∙ ap (λ (p : Pool). p.prepared / pools.each p) (sym pool);
          word = half.word ∙ ap (λ (p : Pool). place s p.prepared) (sym pool);
        })

  -- it is linked
  pub added_grows : IsLinking a.file last_b finish end spot at word old new → (b : Allocator) → on ≡ a.pool.prepared + 1 → b.file ≡ a.file → b.table ≡ a.table
      → HasAddedBlock a.pool b.pool → Raises a.pool b.pool → Grows a b old new × NamesBlocks a b old new
  added_grows linking b one file table added raises = (
    grows_by a b old new run file table (raises_follows a.pool b.pool raises) (add_step b (ap (λ (p : Pool). p.prepared) added.is ∙ sym one) (λ s disks first is told i inside.
        inl (full_words s disks first is told i inside))),
    record { words = full_words },
  )
    where
      full_words : (s : Shape) (disks : List (List ℕ)) (first : ℕ) → Allocates s disks first a old → IsTrue old.tells → HasBlocks s b (new.seen a.file)
      full_words s disks first is told m inside = elim (cases_eq m i0) [
        | inr differ ↦ other_words s disks first is told m inside differ ∙ sym (added.blocks.others m differ)
        | inl same ↦ ap (λ (x : ℕ). u64_at (new.seen a.file) (s.counts + 8 * x)) same
            ∙ (linking s disks first i0 slot0 (adding s disks first is) is.stands told).at
            ∙ sym (place_is s a.pool.bits last_b is.is.cluster) ∙ sym added.blocks.there ∙ ap (block_at b.pool) (sym same)
      ]

-- ---- a run is taken

pub run_follows : (p q : Pool) (first count : ℕ) → p.next ≤ first → HasTakenRun p q first count → Follows p q
run_follows p q first count low taken = record {
  bits = ap (λ (x : Pool). x.bits) taken.is;
  count = ap (λ (x : Pool). length x.blocks) taken.is;
  more = [];
  ready = ap (λ (x : Pool). x.ready) taken.is ∙ sym (append-nil p.ready);
  fresh = All-nil (λ k. p.next ≤ k);
  next = omega (arith, ap (λ (x : Pool). x.next) taken.is, low);
}
