-- Clusters that are given back.
use Rattle.std.proofs.Common.{◌≡◌, ◌≢◌, ◌⊎◌, inl, inr, ⊎_elim, ℕ, ◌+◌, ◌*◌, ◌/◌, ◌^◌, ◌<◌, ◌≤◌, List, Bool, false, length, IsTrue, refl, sym, ◌∙◌, ap, subst, arith}
use Rattle.std.proofs.lemmas.Bool.{cases_eq, cases_lt, false≢true}
use Rattle.disk_model.specs.Files.{u64_at}
use Rattle.bitmap_model.specs.Granules.{is_in}
use Rattle.cluster_pool.specs.Pool.{Pool, IsPool, room, given_back}
use Rattle.cluster_pool.specs.Sets.{without_member}
use Rattle.cluster_pool.proofs.Fresh.{fresh_same}
use Rattle.cluster_pool.proofs.Words.{past_set, is_in-without, is_in-without_other}
use Rattle.image_model.specs.Clusters.{offset}
use Rattle.qc_alloc.specs.Allocator.{Allocator, DiffersInUse}
use Rattle.qc_map.specs.Filling.{IsNamedIn, ChangesSpoken, AreFreed}

-- one before the first fresh cluster leaves as many to be handed out
room_given : (p : Pool) (k : ℕ) → k < p.next → room (given_back p k) ≡ room p
room_given p k below =
    ap (λ (n : ℕ). length p.ready + n) (fresh_same p (given_back p k) refl refl (λ m low high.
    let same : is_in (without_member p.spoken k) m ≡ is_in p.spoken m = is_in-without_other p.spoken k m (λ at. absurd (omega (arith, at, below, low))) in
    rw same refl))

-- nothing is given back yet
pub given_none : (a : Allocator) (G : ℕ → Type 0) → ((k : ℕ) → G k → ⊥) → ChangesSpoken a a G
given_none a G none = record { is = refl; room = λ below. refl; gone = λ k given. absurd (none k given); stays = λ k other. refl }

-- one more is
pub given_one : (a b c : Allocator) (G H : ℕ → Type 0) (k : ℕ) → ChangesSpoken a b G → c ≡ record b { pool = given_back b.pool k } → ((m : ℕ) → G m → H m) → H k → ((m : ℕ) → H m → G m ⊎ (m ≡ k)) → ChangesSpoken a c H
given_one a b c G H k is now more here least = record {
  is = now ∙ ap (λ (x : Allocator). record x { pool = given_back x.pool k }) is.is ∙ ap (λ (set : List Bool). record a { pool = record a.pool { spoken = set } }) (sym spoken_is);
  room = λ below.
      let next : b.pool.next ≡ a.pool.next = ap (λ (x : Allocator). x.pool.next) is.is in
      ap (λ (x : Allocator). room x.pool) now ∙ room_given b.pool k (omega (arith, below k here, next)) ∙ is.room (λ m given. below m (more m given));
  gone = λ m given. elim (cases_eq m k) [
    | inl same ↦ is_now m ∙ ap (is_in (without_member b.pool.spoken k)) same ∙ is_in-without b.pool.spoken k
    | inr other ↦ is_now m ∙ is_in-without_other b.pool.spoken k m other ∙ ⊎_elim (λ was. is.gone m was) (λ same. absurd (other same)) (least m given)
  ];
  stays = λ m none. is_now m ∙ is_in-without_other b.pool.spoken k m (λ same. none (subst H (sym same) here)) ∙ is.stays m (λ given. none (more m given));
}
  where
    spoken_is : c.pool.spoken ≡ without_member b.pool.spoken k
    spoken_is = ap (λ (x : Allocator). x.pool.spoken) now

    is_now : (m : ℕ) → is_in c.pool.spoken m ≡ is_in (without_member b.pool.spoken k) m
    is_now m = ap (λ (set : List Bool). is_in set m) spoken_is

-- or nothing more
pub given_same : (a b : Allocator) (G H : ℕ → Type 0) → ChangesSpoken a b G → ((m : ℕ) → G m → H m) → ((m : ℕ) → H m → G m ⊎ (is_in b.pool.spoken m ≡ false)) → ChangesSpoken a b H
given_same a b G H is more least = record {
  is = is.is;
  room = λ below. is.room (λ m given. below m (more m given));
  gone = λ m given. ⊎_elim (λ was. is.gone m was) (λ none. none) (least m given);
  stays = λ m none. is.stays m (λ given. none (more m given));
}

-- ---- neighbours

pub given_next : (a b c : Allocator) (first d : ℕ) → ChangesSpoken a b (λ m. (first ≤ m) × (m < first + d)) → c ≡ record b { pool = given_back b.pool (first + d) } → ChangesSpoken a c (λ m. (first ≤ m) × (m < first + (d + 1)))
given_next a b c first d is now =
    given_one a b c (λ m. (first ≤ m) × (m < first + d)) (λ m. (first ≤ m) × (m < first + (d + 1))) (first + d) is now (λ m was. (was.0, omega (arith, was.1))) (omega arith, omega arith)
    (λ m given. elim (cases_eq m (first + d)) [
      | inl same ↦ inr same
      | inr other ↦ inl (given.0, omega (arith, given.1, other))
    ])

-- a number in a set lies below its length
pub spoken_below : (p : Pool) (k : ℕ) → IsPool p → IsTrue (is_in p.spoken k) → k < 1073741824
spoken_below p k is taken = elim (cases_lt k (length p.spoken)) [
  | inl less ↦ omega (arith, less, is.spoken)
  | inr past ↦ absurd (false≢true (sym (past_set p.spoken k past) ∙ taken))
]

-- ---- clusters that entries name

named_more : {bits n : ℕ} {row : List ℕ} (k : ℕ) → IsNamedIn bits n row k → IsNamedIn bits (n + 1) row k
named_more k is = record { entry = is.entry; inside = omega (arith, is.inside); some = is.some; is = is.is }

named_last : {bits n : ℕ} {row : List ℕ} (k : ℕ) → IsNamedIn bits (n + 1) row k → IsNamedIn bits n row k ⊎ ((offset (u64_at row (8 * n)) ≢ 0) × (offset (u64_at row (8 * n)) / 2 ^ bits ≡ k))
named_last {bits} {n} {row} k is = elim (cases_lt is.entry n) [
  | inl less ↦ inl (record { entry = is.entry; inside = less; some = is.some; is = is.is })
  | inr past ↦
      let last : is.entry ≡ n = omega (arith, past, is.inside) in
      inr (subst (λ (e : ℕ). (offset (u64_at row (8 * e)) ≢ 0) × (offset (u64_at row (8 * e)) / 2 ^ bits ≡ k)) last (is.some, is.is))
]

module _ (a b c : Allocator) (bits n at : ℕ) (row : List ℕ) (is : AreFreed a b bits n row) (at_is : at ≡ offset (u64_at row (8 * n))) where
  pub freed_next : at ≢ 0 → c ≡ record b { pool = given_back b.pool (at / 2 ^ bits) } → AreFreed a c bits (n + 1) row
  freed_next some now =
      given_one a b c (λ k. IsNamedIn bits n row k) (λ k. IsNamedIn bits (n + 1) row k) (at / 2 ^ bits) is now named_more
      (record { entry = n; inside = omega arith; some = λ none. some (at_is ∙ none); is = ap (λ (o : ℕ). o / 2 ^ bits) (sym at_is) })
      (λ m given. ⊎_elim (λ was. inl was) (λ last. inr (sym last.1 ∙ ap (λ (o : ℕ). o / 2 ^ bits) (sym at_is))) (named_last m given))

  -- an entry that names nothing, or a cluster that isn't spoken for
  pub freed_same : c ≡ b → (at ≢ 0 → is_in b.pool.spoken (at / 2 ^ bits) ≡ false) → AreFreed a c bits (n + 1) row
  freed_same same none =
      subst (λ (x : Allocator). AreFreed a x bits (n + 1) row) (sym same)
      (given_same a b (λ k. IsNamedIn bits n row k) (λ k. IsNamedIn bits (n + 1) row k) is named_more
      (λ m given. ⊎_elim (λ was. inl was)
      (λ last. inr (subst (λ (k : ℕ). is_in b.pool.spoken k ≡ false) (ap (λ (o : ℕ). o / 2 ^ bits) at_is ∙ last.1) (none (λ zero. last.0 (sym at_is ∙ zero))))) (named_last m given)))

-- ---- what it leaves

pub spoken_differs : (a b : Allocator) (G : ℕ → Type 0) → ChangesSpoken a b G → DiffersInUse a b
spoken_differs a b G is = record {
  file = ap (λ (x : Allocator). x.file) is.is;
  table = ap (λ (x : Allocator). x.table) is.is;
  bits = ap (λ (x : Allocator). x.pool.bits) is.is;
  blocks = ap (λ (x : Allocator). x.pool.blocks) is.is;
  prepared = ap (λ (x : Allocator). x.pool.prepared) is.is;
}

pub nothing_differs : (a : Allocator) → DiffersInUse a a
nothing_differs a = record { file = refl; table = refl; bits = refl; blocks = refl; prepared = refl }

pub differs_on : {a b c : Allocator} → DiffersInUse a b → DiffersInUse b c → DiffersInUse a c
differs_on first second = record {
  file = second.file ∙ first.file;
  table = second.table ∙ first.table;
  bits = second.bits ∙ first.bits;
  blocks = second.blocks ∙ first.blocks;
  prepared = second.prepared ∙ first.prepared;
}
