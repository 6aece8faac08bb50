-- One cluster of the guest's is stored in the place of a hole.
use Rattle.std.proofs.Common.{◌≡◌, ◌⊎◌, inl, inr, ⊎_elim, ℕ, zero, suc, ◌+◌, ◌-◌, ◌*◌, ◌%◌, ◌^◌, ◌<◌, ◌≤◌, List, [], ◌∷◌, length, Bool, true, not, ◌&&◌, ◌||◌, IsTrue, refl, sym, ◌∙◌, ap, subst, arith}
use Rattle.std.specs.Int.{to_be_bytes, w64}
use Rattle.std.proofs.lemmas.Bool.{cases_eq, false≢true}
use Rattle.std.proofs.lemmas.List.{append-nil}
use Rattle.std.proofs.Math.Nat.{mul_assoc, mul_comm, mul-le-mul, pow-le-pow_right}
use Rattle.disk_model.specs.Files.{byte, u64_at}
use Rattle.disk_model.specs.World.{World, Runs, writes_of, IsSound, EachSince}
use Rattle.disk_model.proofs.Laws.{told_at, number-append, length-to_be_bytes}
use Rattle.bitmap_model.specs.Granules.{is_in}
use Rattle.qc_layout.specs.Disks.{place_of}
use Rattle.image_model.specs.Clusters.{Shape, size, place, Head, IsLink, IsSafe, IsStanding, Moves, Reads, host, pick, guest}
use Rattle.image_model.specs.Calls.{Told, IsTakeable, LeavesGuest, SameTables, SameBlocks}
use Rattle.image_model.specs.Runs.{IsFilling, IsLinking, AreLinks, LeavesRest, HasData, IsStored}
use Rattle.image_steps.proofs.Good.{more_safe}
use Rattle.image_steps.proofs.Places.{place_next, place_some}
use Rattle.image_steps.proofs.Standing.{moves_on, stands_less}
use Rattle.image_steps.proofs.Storing.{linking_on, rest_after}
use Rattle.cluster_pool.specs.Pool.{Pool, IsPool, is_own_block, IsReady, HasTaken, given_back}
use Rattle.cluster_pool.specs.Sets.{without_member}
use Rattle.cluster_pool.proofs.Words.{is_in-with, is_in-with_other, is_in-without, is_in-without_other}
use Rattle.qc_alloc.specs.Allocator.{Allocator, IsAllocator, IsOf, HasTable, Allocates, HandsOut, StandsFrom, DiffersInUse}
use Rattle.qc_alloc.specs.Growing.{Raises, Grows}
use Rattle.qc_alloc.specs.Laws.{CanBeUsed, PreparedIsClean}
use Rattle.qc_alloc.proofs.Naming.{table_on, use_leaves}
use Rattle.alloc_tests.specs.Caller.{IsHole, IsFull}

-- ---- numbers

-- where a cluster below the reach begins
pub shift_at : (bits k : ℕ) → bits ≤ 21 → k < 1073741824 → (k * 2 ^ bits % 18446744073709551616 ≡ place_of bits k) × (k * 2 ^ bits % 18446744073709551616 ≤ 2251799813685248)
unfolding place_of
shift_at bits k high low =
    let pow : 2 ^ bits ≤ 2 ^ 21 = pow-le-pow_right {n = 2} (omega arith) {i = bits} {j = 21} high in
    let few : k * 2 ^ bits ≤ 1073741824 * 2097152 = mul-le-mul {n₁ = k} {m₁ = 2 ^ bits} {n₂ = 1073741824} {m₂ = 2097152} (omega (arith, low)) pow in
    let swap : k * 2 ^ bits ≡ 2 ^ bits * k = mul_comm k (2 ^ bits) in
    (omega (arith, few, swap), omega (arith, few))

place_is : {s : Shape} {a : Allocator} (k : ℕ) → IsOf s a → place_of a.pool.bits k ≡ place s k
unfolding place_of place
place_is {s} {a} k is = ap (λ (n : ℕ). n * k) is.cluster ∙ mul_assoc 512 s.sectors k

number_of : (v : ℕ) → v < 18446744073709551616 → u64_at (to_be_bytes w64 v) 0 ≡ v
number_of v fits = subst (λ (l : List ℕ). u64_at l 0 ≡ v) (append-nil (to_be_bytes w64 v)) (number-append w64 [] [] 0 v refl fits)

shown : (at : ℕ → ℕ) (host place t : ℕ) → host ≡ place → 0 < place → pick host (at (host + t)) ≡ at (place + t)
shown at zero place t same some = absurd (omega (arith, same, some))
shown at (suc h) place t same some = ap (λ (n : ℕ). at (n + t)) same

-- ---- before a cluster is taken

module _ {s : Shape} {disks : List (List ℕ)} {first f : ℕ} {a b : Allocator} {x y : World} (at : a.file ≡ f) (grows : Grows a b x y) where
  pub grown : Moves f (IsSafe s disks) (Allocates s disks first a) (Allocates s disks first b) x y
  grown = subst (λ (g : ℕ). Moves g (IsSafe s disks) (Allocates s disks first a) (Allocates s disks first b) x y) at (grows.moves s disks first)

  pub grown_leaves : Reads f (Allocates s disks first a) (LeavesGuest s) x y
  grown_leaves = subst (λ (g : ℕ). Reads g (Allocates s disks first a) (LeavesGuest s) x y) at (grows.leaves s disks first)

  pub grown_more : HandsOut first a → (e : List ℕ) → Moves f (IsSafe s (e ∷ disks)) (Allocates s disks first a) (StandsFrom s (e ∷ disks) b) x y
  grown_more hands e = record {
    since = λ al k low high c left. more_safe s disks e c (grown.since al k low high c left);
    stands = λ al. let next = grown.stands al in (
      first,
      grows.hands first hands,
      record { is = next.is; stands = λ told. stands_less e (omega arith) (next.stands told).order next.stands told; table = next.table },
    );
  }

-- ---- which clusters are spoken for

-- clusters are spoken for that were so before, that are blocks, or of which X holds
abbrev pub SpeaksFor : Pool → Pool → (ℕ → Type 0) → Type 0
SpeaksFor p q X = (k : ℕ) → IsTrue (is_in q.spoken k) → IsTrue (is_in p.spoken k) ⊎ (IsTrue (is_own_block q k) ⊎ X k)

spoken_since : (p o w q : Bool) → q ≡ (p || (o && not w)) → q ≡ true → (p ≡ true) ⊎ (o ≡ true)
spoken_since p o w q is now = grind (arith, is, now)

pub speaks_raised : (p q : Pool) (X : ℕ → Type 0) → Raises p q → SpeaksFor p q X
speaks_raised p q X raises k now = ⊎_elim (λ was. inl was) (λ own. inr (inl own)) (spoken_since _ (is_own_block q k) (is_own_block p k) _ (raises.spoken k) now)

pub speaks_taken : (p q r : Pool) (X : ℕ → Type 0) (k : ℕ) → Raises p q → HasTaken q r k → X k → SpeaksFor p r X
speaks_taken p q r X k raises taken full m now = elim (cases_eq m k) [
  | inl same ↦ inr (inr (subst X (sym same) full))
  | inr other ↦
      let before : is_in r.spoken m ≡ is_in q.spoken m = ap (λ (x : Pool). is_in x.spoken m) taken.is ∙ is_in-with_other q.spoken k m other in
      let own : is_own_block r m ≡ is_own_block q m = ap (λ (x : Pool). is_own_block x m) taken.is in
      ⊎_elim (λ was. inl was) (λ rest. inr (⊎_elim (λ is. inl (own ∙ is)) (λ is. inr is) rest)) (speaks_raised p q X raises m (sym before ∙ now))
]

pub speaks_given : (p q r t : Pool) (X : ℕ → Type 0) (k : ℕ) → Raises p q → HasTaken q r k → t ≡ given_back r k → SpeaksFor p t X
speaks_given p q r t X k raises taken given m now = elim (cases_eq m k) [
  | inl same ↦ absurd (false≢true (sym (ap (λ (x : Pool). is_in x.spoken m) given ∙ ap (is_in (without_member r.spoken k)) same ∙ is_in-without r.spoken k) ∙ now))
  | inr other ↦
      let before : is_in t.spoken m ≡ is_in q.spoken m =
      ap (λ (x : Pool). is_in x.spoken m) given ∙ is_in-without_other r.spoken k m other ∙ ap (λ (x : Pool). is_in x.spoken m) taken.is ∙ is_in-with_other q.spoken k m other in
      let own : is_own_block t m ≡ is_own_block q m = ap (λ (x : Pool). is_own_block x m) given ∙ ap (λ (x : Pool). is_own_block x m) taken.is in
      ⊎_elim (λ was. inl was) (λ rest. inr (⊎_elim (λ is. inl (own ∙ is)) (λ is. inr is) rest)) (speaks_raised p q X raises m (sym before ∙ now))
]

pub taken_spoken : (q r : Pool) (k : ℕ) → IsPool q → IsReady q k → HasTaken q r k → IsTrue (is_in r.spoken k)
taken_spoken q r k is ready taken = ap (λ (x : Pool). is_in x.spoken k) taken.is ∙ is_in-with q.spoken k (omega (arith, ready.reach, is.spoken))

-- a cluster that is given back changes nothing else
pub given_stands : {s : Shape} {disks : List (List ℕ)} {w : World} (a b : Allocator) (k : ℕ) → b ≡ record a { pool = given_back a.pool k } → StandsFrom s disks a w → StandsFrom s disks b w
given_stands {s} {disks} {w} a b k same stands =
    subst (λ (x : Allocator). StandsFrom s disks x w) (sym same) (
      stands.0,
      record { ready = stands.1.ready; fresh = stands.1.fresh },
      use_leaves s disks stands.0 a (record a { pool = given_back a.pool k }) w (record { file = refl; table = refl; bits = refl; blocks = refl; prepared = refl }) stands.2,
    )

-- ---- a cluster is taken and filled

module _ {s : Shape} {disks : List (List ℕ)} {first q i j k f spot at : ℕ} {words : List ℕ} (bytes : List ℕ) {a0 a1 a2 : Allocator} {w0 w1 : World} (file0 : a0.file ≡ f) (grows : Grows a0 a1 w0 w1) (run : Runs (writes_of a0.file) w0 w1)
    (is : IsAllocator a1) (taken : HasTaken a1.pool a2.pool k) (is_ready : IsReady a1.pool k) (same : (a2.file ≡ a1.file) × (a2.table ≡ a1.table)) (clean : PreparedIsClean)
    (at_is : at ≡ place_of a1.pool.bits k) (low : at ≤ 2251799813685248) (long : length bytes ≡ 2 ^ a1.pool.bits) (words_are : words ≡ to_be_bytes w64 (at + 9223372036854775808)) (hole : IsHole s q i j spot f w0) (out : (first ≤ k) × HandsOut (k + 1) a2) (al : Allocates s disks first a0 w0) where
  file1 : a1.file ≡ f
  file1 = grows.file ∙ file0

  al1 : Allocates s disks first a1 w1
  al1 = (grown {disks = disks} {first = first} file0 grows).stands al

  stands1 : IsStanding s disks first a1.pool.prepared f w1
  stands1 = subst (λ (g : ℕ). IsStanding s disks first a1.pool.prepared g w1) file1 al1.stands

  to : k + 1 ≤ a1.pool.prepared
  to = omega (arith, is_ready.below, is.pool.order)

  used : IsTrue w1.tells → CanBeUsed s k f w1
  used told = subst (λ (g : ℕ). CanBeUsed s k g w1) file1 (clean s disks first a1 w1 k is al1 told out.0 (omega (arith, to)) is_ready.linked is_ready.differs)

  some : IsTrue w1.tells → 0 < k
  some told = elim (cases_eq k 0) [
    | inl none ↦ absurd ((used told).seen.unnamed Head none)
    | inr other ↦ omega (arith, other)
  ]

  at_place : at ≡ place s k
  at_place = at_is ∙ place_is k al1.is

  filling : IsTrue w1.tells → IsFilling s first a1.pool.prepared k 1 at (length bytes) f w1
  filling told = record {
    shape = al1.is.shape;
    some = some told;
    low = omega (arith, at_place);
    high = omega (arith, at_place, place_next s k, long, al1.is.cluster);
    from = out.0;
    to = to;
    takeable = λ m m_in told. let one : k ≡ k + m = omega (arith, m_in) in subst (λ (n : ℕ). IsTakeable s n (w1.seen f)) one (used told).takeable;
  }

  links : AreLinks s k 1 words
  links = record {
    long = ap length words_are ∙ length-to_be_bytes w64 (at + 9223372036854775808);
    link = λ m m_in.
        let none : 0 ≡ m = omega (arith, m_in) in
        let one : IsLink s (u64_at words (8 * 0)) (k + 0) = ap (λ (l : List ℕ). u64_at l 0) words_are ∙ number_of (at + 9223372036854775808) (omega (arith, low)) ∙ ap (λ (p : ℕ). p + 9223372036854775808) (at_place ∙ ap (λ (n : ℕ). place s n) (omega arith)) in
        subst (λ (n : ℕ). IsLink s (u64_at words (8 * n)) (k + n)) none one;
  }

  linking : IsTrue w1.tells → IsLinking s (k + 1) k 1 q i j spot f words w1
  linking told =
      linking_on run (record { shape = al1.is.shape; slots = hole.slots; some = some told; below = omega arith; links = links; opened = hole.opened })
      (λ was. grown_leaves {disks = disks} {first = first} file0 grows al was)

  differs : DiffersInUse a1 a2
  differs = record {
    file = same.0;
    table = same.1;
    bits = ap (λ (p : Pool). p.bits) taken.is;
    blocks = ap (λ (p : Pool). p.blocks) taken.is;
    prepared = ap (λ (p : Pool). p.prepared) taken.is;
  }

  -- what the write gives, whatever it answers
  module _ {w2 : World} (on : Runs (writes_of f) w1 w2) (sound : IsSound w2)
      (moves : (s : Shape) (disks : List (List ℕ)) (first last k n q i j : ℕ) → IsFilling s first last k n at (length bytes) f w1 → IsLinking s (k + n) k n q i j spot f words w1
      → Moves f (IsSafe s (w2.seen f ∷ disks)) (IsStanding s disks first last f) (IsStanding s (w2.seen f ∷ disks) (k + n) last f) w1 w2)
      (rows : (s : Shape) (disks : List (List ℕ)) (first last k n q i j : ℕ) → IsFilling s first last k n at (length bytes) f w1 → IsLinking s (k + n) k n q i j spot f words w1
      → Reads f (IsStanding s disks first last f) (λ old new. SameTables s old new × SameBlocks s old new) w1 w2) where
    told1 : IsTrue w2.tells → IsTrue w1.tells
    told1 told = subst IsTrue on.goes.tells told

    wrote : IsTrue w1.tells → Moves f (IsSafe s (w2.seen f ∷ disks)) (IsStanding s disks first a1.pool.prepared f) (IsStanding s (w2.seen f ∷ disks) (k + 1) a1.pool.prepared f) w1 w2
    wrote told = moves s disks first a1.pool.prepared k 1 q i j (filling told) (linking told)

    pub filled_since : EachSince w2 w0.now f (IsSafe s (w2.seen f ∷ disks))
    filled_since x x_low x_high c left =
        (moves_on {K = IsStanding s (w2.seen f ∷ disks) (k + 1) a1.pool.prepared f} run on (λ d safe. more_safe s disks (w2.seen f) d safe) (grown {disks = disks} {first = first} file0 grows) (λ al1. record {
          since = λ st. (wrote (told1 (told_at w2 x f c sound left))).since stands1;
          stands = λ st. (wrote (told1 (told_at w2 x f c sound left))).stands stands1;
        })).since al x x_low x_high c left

    pub filled_stands : StandsFrom s (w2.seen f ∷ disks) a2 w2
    filled_stands = (
      k + 1,
      out.1,
      use_leaves s (w2.seen f ∷ disks) (k + 1) a1 a2 w2 differs (record {
        is = al1.is;
        stands = subst (λ (g : ℕ). IsStanding s (w2.seen f ∷ disks) (k + 1) a1.pool.prepared g w2) (sym file1) (λ told. (wrote (told1 told)).stands stands1 told);
        table = subst (λ (g : ℕ). Told (HasTable s a1) g w2) (sym file1) (λ told.
            table_on s a1 (w1.seen f) (w2.seen f) (rows s disks first a1.pool.prepared k 1 q i j (filling (told1 told)) (linking (told1 told)) stands1 (told1 told)).1
            (subst (λ (g : ℕ). HasTable s a1 (w1.seen g)) file1 (al1.table (told1 told))));
      }),
    )

    pub filled_leaves : ((s : Shape) (disks : List (List ℕ)) (first last k n q i j : ℕ) → IsFilling s first last k n at (length bytes) f w1 → IsLinking s (k + n) k n q i j spot f words w1
        → Reads f (IsStanding s disks first last f) (LeavesRest s i j n) w1 w2) → IsTrue w0.tells → LeavesRest s i j 1 (w0.seen f) (w2.seen f)
    filled_leaves leaves told =
        let told1 : IsTrue w1.tells = subst IsTrue (sym run.goes.tells) told in
        rest_after (grown_leaves {disks = disks} {first = first} file0 grows al told) (leaves s disks first a1.pool.prepared k 1 q i j (filling told1) (linking told1) stands1 told1)

    pub filled_shows : ((s : Shape) (disks : List (List ℕ)) (first last k n q i j : ℕ) → IsFilling s first last k n at (length bytes) f w1 → IsLinking s (k + n) k n q i j spot f words w1
        → Reads f (IsStanding s disks first last f) (λ old new. (m : ℕ) → m < n → IsStored s i (j + m) (k + m) (u64_at words (8 * m)) at bytes new) w1 w2)
        → IsTrue w0.tells → (t : ℕ) → t < size s → guest s (w2.seen f) i j t ≡ byte bytes t
    filled_shows stored told t t_in =
        let told1 : IsTrue w1.tells = subst IsTrue (sym run.goes.tells) told in
        let shows = (stored s disks first a1.pool.prepared k 1 q i j (filling told1) (linking told1) stands1 told1 0 (omega arith)).shows in
        let here : place s (k + 0) ≡ at = ap (λ (n : ℕ). place s n) (omega arith) ∙ sym at_place in
        let slot : j + 0 ≡ j = omega arith in
        let there : place s (k + 0) + t - at ≡ t = omega (arith, here) in
        ap (λ (n : ℕ). guest s (w2.seen f) i n t) (sym slot) ∙ shows.inside t t_in (omega (arith, here)) (omega (arith, here, long, al1.is.cluster, t_in)) ∙ ap (λ (n : ℕ). byte bytes n) there

    -- the cluster has the bytes, where the data was written
    pub filled_full : ((s : Shape) (disks : List (List ℕ)) (first last k n q i j : ℕ) → IsFilling s first last k n at (length bytes) f w1 → IsLinking s (k + n) k n q i j spot f words w1
        → Reads f (IsStanding s disks first last f) (λ old new. HasData s k n at bytes new) w1 w2) → IsTrue w0.tells → IsFull s k bytes (w2.seen f)
    filled_full held told t t_in =
        let told1 : IsTrue w1.tells = subst IsTrue (sym run.goes.tells) told in
        let there_is = held s disks first a1.pool.prepared k 1 q i j (filling told1) (linking told1) stands1 told1 in
        let here : place s (k + 0) ≡ place s k = ap (λ (n : ℕ). place s n) (omega arith) in
        let there : place s (k + 0) + t - at ≡ t = omega (arith, here, at_place) in
        ap (λ (n : ℕ). byte (w2.seen f) (n + t)) (sym here) ∙ there_is.inside 0 t (omega arith) t_in (omega (arith, here, at_place)) (omega (arith, here, at_place, long, al1.is.cluster, t_in)) ∙ ap (λ (n : ℕ). byte bytes n) there

    -- and where the guest's cluster is stored there
    pub filled_stored : ((s : Shape) (disks : List (List ℕ)) (first last k n q i j : ℕ) → IsFilling s first last k n at (length bytes) f w1 → IsLinking s (k + n) k n q i j spot f words w1
        → Reads f (IsStanding s disks first last f) (λ old new. (m : ℕ) → m < n → IsStored s i (j + m) (k + m) (u64_at words (8 * m)) at bytes new) w1 w2)
        → IsTrue w0.tells → IsFull s k bytes (w2.seen f)
    filled_stored stored told t t_in =
        let told1 : IsTrue w1.tells = subst IsTrue (sym run.goes.tells) told in
        let is = stored s disks first a1.pool.prepared k 1 q i j (filling told1) (linking told1) stands1 told1 0 (omega arith) in
        let here : host s (w2.seen f) i (j + 0) ≡ place s k = is.host_is ∙ ap (λ (n : ℕ). place s n) (omega arith) in
        let slot : j + 0 ≡ j = omega arith in
        let host_at : host s (w2.seen f) i j ≡ place s k = ap (host s (w2.seen f) i) (sym slot) ∙ here in
        sym (shown (byte (w2.seen f)) (host s (w2.seen f) i j) (place s k) t host_at (place_some s k al1.is.shape.some (some told1))) ∙ filled_shows stored told t t_in
