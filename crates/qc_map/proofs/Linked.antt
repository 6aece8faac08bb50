-- A table of the second level, in a cluster that was taken.
use Rattle.std.proofs.Common.{◌≡◌, ◌≢◌, inl, inr, ⊎_elim, ℕ, ◌+◌, ◌*◌, ◌%◌, ◌^◌, ◌<◌, ◌≤◌, List, IsTrue, false, not, sym, ◌∙◌, ap, subst, arith}
use Rattle.std.proofs.lemmas.Bool.{cases_eq, ne_eqb, true≢false}
use Rattle.std.proofs.Math.Nat.{mul_assoc, mul_comm, mul-le-mul, pow-le-pow_right}
use Rattle.disk_model.specs.Files.{u64_at}
use Rattle.disk_model.specs.World.{World, Runs, writes_of, IsSound}
use Rattle.disk_model.proofs.Laws.{told_at, since_on}
use Rattle.bitmap_model.specs.Granules.{is_in}
use Rattle.qc_layout.specs.Disks.{place_of}
use Rattle.image_model.specs.Clusters.{Shape, place, offset, Head, IsSafe, IsStanding, Moves, Reads}
use Rattle.image_model.specs.Calls.{LeavesGuest, SameTables, SameTablesBut, SameBlocks, IsTablePut, IsNewTable}
use Rattle.image_steps.proofs.Links.{keeps_on}
use Rattle.image_steps.proofs.Naming.{alike_on}
use Rattle.cluster_pool.specs.Pool.{Pool, block_at, IsReady, HasTaken}
use Rattle.cluster_pool.specs.Sets.{with_member}
use Rattle.cluster_pool.proofs.Words.{is_in-with, is_in-with_other}
use Rattle.qc_alloc.specs.Allocator.{Allocator, IsAllocator, IsOf, IsHalfAdded, HasTable, HasBlocks, Allocates, HandsOut}
use Rattle.qc_alloc.specs.Growing.{Raises, Grows, MendsBlocks}
use Rattle.qc_alloc.specs.Laws.{CanBeUsed, PreparedIsClean, PreparedStaysExact, TableStaysExact}
use Rattle.map_rows.specs.Stores.{has_table}
use Rattle.qc_map.specs.Altering.{KnowsOn}
use Rattle.qc_map.specs.Linking.{LacksTable, LinksTable, HasLinked}
use Rattle.qc_map.specs.Mapping.{Mapping, IsMapOf}

-- where a cluster below the reach begins
pub shift_at : (bits k : ℕ) → bits ≤ 21 → k < 1073741824 → (k * 2 ^ bits % 18446744073709551616 ≡ place_of bits k) × (k * 2 ^ bits % 18446744073709551616 ≤ 2251799813685248)
unfolding place_of
shift_at bits k high low =
    let pow : 2 ^ bits ≤ 2 ^ 21 = pow-le-pow_right {n = 2} (omega arith) {i = bits} {j = 21} high in
    let few : k * 2 ^ bits ≤ 1073741824 * 2097152 = mul-le-mul {n₁ = k} {m₁ = 2 ^ bits} {n₂ = 1073741824} {m₂ = 2097152} (omega (arith, low)) pow in
    let swap : k * 2 ^ bits ≡ 2 ^ bits * k = mul_comm k (2 ^ bits) in
    (omega (arith, few, swap), omega (arith, few))

place_is : {s : Shape} {a : Allocator} (k : ℕ) → IsOf s a → place_of a.pool.bits k ≡ place s k
unfolding place_of place
place_is {s} {a} k is = ap (λ (n : ℕ). n * k) is.cluster ∙ mul_assoc 512 s.sectors k

abbrev parts : ℕ → ℕ → Pool → Allocator
parts file table pool = record { file = file; table = table; pool = pool }

same_allocator : (a b : Allocator) → a.file ≡ b.file → a.table ≡ b.table → a.pool ≡ b.pool → a ≡ b
same_allocator a b file table pool =
    ap (λ (f : ℕ). parts f a.table a.pool) file ∙ ap (λ (t : ℕ). parts b.file t a.pool) table ∙ ap (λ (p : Pool). parts b.file b.table p) pool

no_table : (s : Shape) (file : List ℕ) (i : ℕ) → has_table s file i ≡ false → offset (u64_at file (s.l1 + 8 * i)) ≡ 0
no_table s file i none = elim (cases_eq (offset (u64_at file (s.l1 + 8 * i))) 0) [
  | inl is ↦ is
  | inr other ↦ absurd (true≢false (sym (ap not (ne_eqb (offset (u64_at file (s.l1 + 8 * i))) 0 other)) ∙ none))
]

-- ---- clusters were prepared

module _ (m : Mapping) {p q : Allocator} {x y : World} (file : p.file ≡ m.file) (grows : Grows p q x y) where
  grown : (s : Shape) (disks : List (List ℕ)) (low : ℕ) → Moves m.file (IsSafe s disks) (Allocates s disks low p) (Allocates s disks low q) x y
  grown s disks low = subst (λ (f : ℕ). Moves f (IsSafe s disks) (Allocates s disks low p) (Allocates s disks low q) x y) file (grows.moves s disks low)

  grown_leaves : (s : Shape) (disks : List (List ℕ)) (low : ℕ) → Reads m.file (Allocates s disks low p) (LeavesGuest s) x y
  grown_leaves s disks low = subst (λ (f : ℕ). Reads f (Allocates s disks low p) (LeavesGuest s) x y) file (grows.leaves s disks low)

  grown_tables : (s : Shape) (disks : List (List ℕ)) (low : ℕ) → Reads m.file (Allocates s disks low p) (SameTables s) x y
  grown_tables s disks low = subst (λ (f : ℕ). Reads f (Allocates s disks low p) (SameTables s) x y) file (grows.tables s disks low)

  pub grow_links : (i : ℕ) → LinksTable m i p q x y
  grow_links i = record {
    moves = λ s disks low is hands known. record { since = (grown s disks low).since; stands = λ al. (low, grows.hands low hands, (grown s disks low).stands al) };
    left = λ s disks low is hands known al told. record { guest = grown_leaves s disks low al told; tables = λ k k_in other. grown_tables s disks low al told k k_in };
  }

-- ---- one is taken and linked

module _ (m : Mapping) {i t at entry spot : ℕ} {p q r : Allocator} {x y z : World} (file : p.file ≡ m.file) (index : i < m.tables) (spot_is : spot ≡ m.first_level + 8 * i) (grows : Grows p q x y) (is_q : IsAllocator q) (taken : HasTaken q.pool r.pool t) (is_ready : IsReady q.pool t)
    (same : (r.file ≡ q.file) × (r.table ≡ q.table)) (hands_on : (first : ℕ) → HandsOut first q → (first ≤ t) × HandsOut (t + 1) r) (clean : PreparedIsClean) (at_is : at ≡ place_of q.pool.bits t) (entry_is : entry ≡ at + 2 ^ 63)
    (run : Runs (writes_of m.file) x y) (on : Runs (writes_of m.file) y z) (sound : IsSound z)
    (moves : (s : Shape) (disks : List (List ℕ)) (first last t i : ℕ) → IsTablePut s first last t i spot entry m.file y → Moves m.file (IsSafe s disks) (IsStanding s disks first last m.file) (IsStanding s disks (t + 1) last m.file) y z)
    (leaves : (s : Shape) (disks : List (List ℕ)) (first last t i : ℕ) → IsTablePut s first last t i spot entry m.file y → Reads m.file (IsStanding s disks first last m.file) (LeavesGuest s) y z)
    (rows : (s : Shape) (disks : List (List ℕ)) (first last t i : ℕ) → IsTablePut s first last t i spot entry m.file y → Reads m.file (IsStanding s disks first last m.file) (λ old new. SameTablesBut s i old new × SameBlocks s old new) y z) where
  file_q : q.file ≡ m.file
  file_q = grows.file ∙ file

  told_y : IsTrue z.tells → IsTrue y.tells
  told_y told = subst IsTrue on.goes.tells told

  told_x : IsTrue y.tells → IsTrue x.tells
  told_x told = subst IsTrue run.goes.tells told

  on_y : IsTrue x.tells → IsTrue y.tells
  on_y told = subst IsTrue (sym run.goes.tells) told

  -- the allocator afterwards
  next : Allocator
  next = record q { pool = record q.pool { ready = taken.rest; spoken = with_member q.pool.spoken t } }

  is_next : next ≡ r
  unfolding next
  is_next = sym (same_allocator r next same.0 same.1 taken.is)

  spoken_in : (k : ℕ) → k ≢ t → is_in r.pool.spoken k ≡ is_in q.pool.spoken k
  spoken_in k other = ap (λ (a : Pool). is_in a.spoken k) taken.is ∙ is_in-with_other q.pool.spoken t k other

  spoken_t : IsTrue (is_in r.pool.spoken t)
  spoken_t = ap (λ (a : Pool). is_in a.spoken t) taken.is ∙ is_in-with q.pool.spoken t (omega (arith, is_ready.reach, is_q.pool.spoken))

  blocks_same : (k : ℕ) → block_at r.pool k ≡ block_at q.pool k
  blocks_same k = ap (λ (a : Pool). block_at a k) taken.is

  module _ (s : Shape) (disks : List (List ℕ)) (low : ℕ) (is : IsMapOf s m) (hands : HandsOut low p) (lacks : LacksTable m i s x) (al : Allocates s disks low p x) where
    al_y : Allocates s disks low q y
    al_y = (grown m file grows s disks low).stands al

    stands_y : IsStanding s disks low q.pool.prepared m.file y
    stands_y = subst (λ (f : ℕ). IsStanding s disks low q.pool.prepared f y) file_q al_y.stands

    out : (low ≤ t) × HandsOut (t + 1) r
    out = hands_on low (grows.hands low hands)

    below : t < q.pool.prepared
    below = omega (arith, is_ready.below, is_q.pool.order)

    used : IsTrue y.tells → CanBeUsed s t m.file y
    used told = subst (λ (g : ℕ). CanBeUsed s t g y) file_q (clean s disks low q y t is_q al_y told out.0 below is_ready.linked is_ready.differs)

    some : IsTrue y.tells → 0 < t
    some told = elim (cases_eq t 0) [
      | inl none ↦ absurd ((used told).seen.unnamed Head none)
      | inr other ↦ omega (arith, other)
    ]

    pub here : at ≡ place s t
    here = at_is ∙ place_is t al_y.is

    none_y : IsTrue y.tells → offset (u64_at (y.seen m.file) (s.l1 + 8 * i)) ≡ 0
    none_y told = ap offset (grown_tables m file grows s disks low al (told_x told) i (omega (arith, index, is.tables))) ∙ no_table s (x.seen m.file) i (lacks (told_x told))

    put : IsTrue y.tells → IsTablePut s low q.pool.prepared t i spot entry m.file y
    put told = record {
      shape = is.shape;
      index = omega (arith, index, is.tables);
      at = omega (arith, spot_is, is.first_level);
      some = some told;
      among = record { from = out.0; to = below };
      link = omega (arith, entry_is, here);
      none = none_y;
      takeable = λ also. (used also).takeable;
    }

    wrote : IsTrue y.tells → Moves m.file (IsSafe s disks) (IsStanding s disks low q.pool.prepared m.file) (IsStanding s disks (t + 1) q.pool.prepared m.file) y z
    wrote told = moves s disks low q.pool.prepared t i (put told)

    rows_on : IsTrue y.tells → SameTablesBut s i (y.seen m.file) (z.seen m.file) × SameBlocks s (y.seen m.file) (z.seen m.file)
    rows_on told = rows s disks low q.pool.prepared t i (put told) stands_y told

    had_y : IsTrue y.tells → HasTable s q (y.seen m.file)
    had_y told = subst (λ (g : ℕ). HasTable s q (y.seen g)) file_q (al_y.table told)

    allocates_next : Allocates s disks (t + 1) next z
    unfolding next
    allocates_next = record {
      is = record { shape = al_y.is.shape; table = al_y.is.table; cluster = al_y.is.cluster; blocks = al_y.is.blocks };
      stands = subst (λ (g : ℕ). IsStanding s disks (t + 1) q.pool.prepared g z) (sym file_q) (λ told. (wrote (told_y told)).stands stands_y told);
      table = subst (λ (g : ℕ). IsTrue z.tells → HasTable s next (z.seen g)) (sym file_q) (λ told k k_in. ⊎_elim
          (λ (word : u64_at (y.seen m.file) (s.counts + 8 * k) ≡ block_at q.pool k). inl ((rows_on (told_y told)).1 k k_in ∙ word))
          (λ (half : IsHalfAdded s q k (y.seen m.file)). inr (record { missing = half.missing; counts = half.counts; word = (rows_on (told_y told)).1 k k_in ∙ half.word }))
          (had_y (told_y told) k k_in));
    }

    left_y : IsTrue y.tells → LeavesGuest s (y.seen m.file) (z.seen m.file)
    left_y told = leaves s disks low q.pool.prepared t i (put told) stands_y told

  pub take_links : LinksTable m i p r x z
  take_links = record {
    moves = λ s disks low is hands lacks. record {
      since = λ al k k_low k_high c left.
          let told = told_y (told_at z k m.file c sound left) in
          since_on x.now m.file (IsSafe s disks) on ((grown m file grows s disks low).since al) ((wrote s disks low is hands lacks al told).since (stands_y s disks low is hands lacks al)) k k_low k_high c left;
      stands = λ al. (t + 1, (out s disks low is hands lacks al).1, subst (λ (a : Allocator). Allocates s disks (t + 1) a z) is_next (allocates_next s disks low is hands lacks al));
    };
    left = λ s disks low is hands lacks al told.
        let grew = grown_leaves m file grows s disks low al told in
        let linked = left_y s disks low is hands lacks al (on_y told) in
        record {
          guest = record { keeps = keeps_on s (x.seen m.file) (y.seen m.file) (z.seen m.file) grew.keeps linked.keeps; alike = alike_on s (x.seen m.file) (y.seen m.file) (z.seen m.file) grew.alike linked.alike };
          tables = λ k k_in other. (rows_on s disks low is hands lacks al (on_y told)).0 k k_in other ∙ grown_tables m file grows s disks low al told k k_in;
        };
  }

  module _ (linked : (s : Shape) (disks : List (List ℕ)) (first last t i : ℕ) → IsTablePut s first last t i spot entry m.file y → Reads m.file (IsStanding s disks first last m.file) (λ old new. IsNewTable s t i entry new) y z) where
    new_table : (s : Shape) (disks : List (List ℕ)) (low : ℕ) → IsMapOf s m → HandsOut low p → LacksTable m i s x → Allocates s disks low p x → IsTrue x.tells → IsNewTable s t i entry (z.seen m.file)
    new_table s disks low is hands lacks al told = linked s disks low q.pool.prepared t i (put s disks low is hands lacks al (on_y told)) (stands_y s disks low is hands lacks al) (on_y told)

    pub take_linked : HasLinked m i at p x z
    take_linked = record {
      done = λ s disks low is hands lacks al told.
          let new = new_table s disks low is hands lacks al told in
          record { cluster = t; linked = new.linked; at = here s disks low is hands lacks al; none = new.none };
    }

    pub take_known : IsAllocator p → Raises p.pool q.pool → MendsBlocks p q x y → PreparedStaysExact → TableStaysExact → KnowsOn m (LacksTable m i) p r x z
    take_known is_p raises mends exact_on table_on = record {
      known = λ s disks low is hands lacks al told knows.
          let y_told = on_y told in
          let named = subst (λ (f : ℕ). Reads f (Allocates s disks low p) (λ c d. HasBlocks s q d) x y) file (mends.words s disks low (inr (λ also. subst (λ (f : ℕ). HasBlocks s p (x.seen f)) (sym file) knows.blocks))) al told in
          let exact = exact_on s p q (x.seen m.file) (y.seen m.file) is_p al.is raises (subst (λ (f : ℕ). HasTable s p (x.seen f)) file (al.table told)) (had_y s disks low is hands lacks al y_told) (grown_leaves m file grows s disks low al told) (grown_tables m file grows s disks low al told)
          (record { named = λ who k refers. inl (knows.exactly.named who k refers); exact = knows.exactly.exact }) in
          let rows = rows_on s disks low is hands lacks al y_told in
          record {
            exactly = table_on s t i entry (y.seen m.file) (z.seen m.file) (is_in q.pool.spoken) (is_in r.pool.spoken) is.shape (none_y s disks low is hands lacks al y_told) (new_table s disks low is hands lacks al told) (left_y s disks low is hands lacks al y_told)
                rows.0 rows.1 spoken_t spoken_in (exact.1 named);
            blocks = λ k k_in. rows.1 k k_in ∙ named k k_in ∙ sym (blocks_same k);
          };
    }
