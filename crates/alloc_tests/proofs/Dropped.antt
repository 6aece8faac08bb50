-- A guest's cluster is dropped and its cluster given back, and the counts settled: the clusters that are referred to stay those that are spoken for.
use Rattle.std.proofs.Common.{Result, Ok, Err, OnOk, ◌≡◌, ℕ, ◌<◌, List, Bool, if◌then◌else◌, true, false, IsTrue, refl, sym, ◌∙◌, ap, subst, arith}
use Rattle.bitmap_model.specs.Granules.{is_in}
use Rattle.cluster_pool.specs.Sets.{without_member}
use Rattle.cluster_pool.proofs.Words.{is_in-without, is_in-without_other}
use Rattle.image_model.specs.Clusters.{Shape, Who, IsTable, IsGuest, Refers, AllCounted, IsSafe, IsStanding, Moves, Reads, word_of}
use Rattle.image_model.specs.Calls.{Told, AreNamed, AreExactly, AreSettled, SameTables, SameBlocks, LeavesGuest, LeavesOthers}
use Rattle.image_steps.proofs.Good.{all_counted, safe}
use Rattle.disk_model.specs.World.{World}
use Rattle.cluster_pool.specs.Pool.{Pool, given_back}
use Rattle.qc_alloc.specs.Allocator.{Allocator, HasTable, Allocates}
use Rattle.qc_alloc.specs.Growing.{after_settling}
use Rattle.qc_alloc.specs.Laws.{IsNamedBy}
use Rattle.qc_alloc.proofs.Naming.{refers_on, none_guest, one_guest, entries_exact, table_on, use_leaves}

-- entry j of table i named the cluster, and is zero now
module _ (s : Shape) (old new : List ℕ) (i j index : ℕ) (some : 0 < s.sectors) (once : AllCounted s old) (names : IsGuest s old i j index) (tables : SameTables s old new) (blocks : SameBlocks s old new) (leaves : LeavesOthers s i j old new) (none : word_of s new i j ≡ 0) where
  alone : (file : List ℕ) (k : ℕ) → IsNamedBy s file i j 1 k → IsGuest s file i j k
  alone file k x = subst (λ (m : ℕ). IsGuest s file i m k) (omega (arith, x.inside)) x.names

  named_once : IsNamedBy s old i j 1 index
  named_once = record { behind = 0; inside = omega arith; names = subst (λ (m : ℕ). IsGuest s old i m index) (omega arith) names }

  pub dropped_exactly : (set : List Bool) → AreExactly s (is_in set) old → AreExactly s (is_in (without_member set index)) new
  dropped_exactly set =
      entries_exact s i j 1 old new (is_in set) (is_in (without_member set index)) some once leaves.keeps (λ a b a_in b_in out. leaves.but.entries a b a_in b_in (λ e f. out e (omega arith) (omega arith))) tables blocks (record {
        kept = λ k was _. is_in-without_other set index k (λ e. was (subst (IsNamedBy s old i j 1) (sym e) named_once));
        gained = λ k x. absurd (none_guest s new i j k some none (alone new k x));
        lost = λ k x _. ap (is_in (without_member set index)) (one_guest s old i j k index some (alone old k x) names) ∙ is_in-without set index;
      })

-- after a settling
settled_named : (s : Shape) (taken : ℕ → Bool) (file : List ℕ) → AllCounted s file → AreSettled s taken file → (who : Who) (k : ℕ) → Refers s file who k → IsTrue (taken k)
settled_named s taken file counted settled who k r =
    let c = counted.counted who k r in
    by_count (taken k) c.0 c.1 (settled k c.0 c.2)
  where
    by_count : (b : Bool) (many : ℕ) → 0 < many → many ≡ (if b then 1 else 0) → IsTrue b
    by_count true many some is = refl
    by_count false many some is = absurd (omega (arith, some, is))

pub settled_exactly : (s : Shape) (taken : ℕ → Bool) (old new : List ℕ) → 0 < s.sectors → AllCounted s new → LeavesGuest s old new → AreExactly s taken old → AreSettled s taken new → AreExactly s taken new
settled_exactly s taken old new some counted leaves was settled = record {
  named = settled_named s taken new counted settled;
  exact = λ k is. let r = was.exact k is in (r.0, refers_on s old new some leaves r.0 k r.1);
}

pub on_map : {T E : Type 0} {X Y : Type 0} (r : Result T E) → (X → Y) → OnOk r X → OnOk r Y
on_map (Ok v) f x = f x
on_map (Err e) f x = x

pub spoken_after : {T E : Type 0} (r : Result T E) (p : Pool) → (after_settling r p).spoken ≡ p.spoken
spoken_after (Ok v) p = refl
spoken_after (Err e) p = refl

module _ (s : Shape) (disks : List (List ℕ)) (first q i j f index : ℕ) (a0 a1 : Allocator) (w0 w1 : World) (disks_on : List (List ℕ)) (file : a0.file ≡ f) (given : a1 ≡ record a0 { pool = given_back a0.pool index })
    (tells1 : w1.tells ≡ w0.tells)
    (al : Allocates s disks first a0 w0) (stands : IsStanding s disks_on first a0.pool.prepared f w1)
    (names : Told (λ c. IsGuest s c i j index) f w0) (exactly : Told (AreExactly s (is_in a0.pool.spoken)) f w0)
    (leaves : IsTrue w0.tells → LeavesOthers s i j (w0.seen f) (w1.seen f)) (cleared : IsTrue w0.tells → IsTable s (w1.seen f) i q × (word_of s (w1.seen f) i j ≡ 0))
    (rows : IsTrue w0.tells → SameTables s (w0.seen f) (w1.seen f) × SameBlocks s (w0.seen f) (w1.seen f)) where
  file1 : a1.file ≡ f
  file1 = ap (λ (a : Allocator). a.file) given ∙ file

  told0 : IsTrue w1.tells → IsTrue w0.tells
  told0 told = subst IsTrue tells1 told

  al1 : Allocates s disks_on first a1 w1
  al1 = subst (λ (a : Allocator). Allocates s disks_on first a w1) (sym given) (
      use_leaves s disks_on first a0 (record a0 { pool = given_back a0.pool index }) w1 (record { file = refl; table = refl; bits = refl; blocks = refl; prepared = refl }) (record {
        is = al.is;
        stands = subst (λ (g : ℕ). IsStanding s disks_on first a0.pool.prepared g w1) (sym file) stands;
        table = subst (λ (g : ℕ). Told (HasTable s a0) g w1) (sym file) (λ told.
            table_on s a0 (w0.seen f) (w1.seen f) (rows (told0 told)).1 (subst (λ (g : ℕ). HasTable s a0 (w0.seen g)) file (al.table (told0 told))));
      })
      )

  some : 0 < s.sectors
  some = al.is.shape.some

  exactly1 : Told (AreExactly s (is_in a1.pool.spoken)) f w1
  exactly1 told =
      let was = told0 told in
      let st = subst (λ (g : ℕ). IsStanding s disks first a0.pool.prepared g w0) file al.stands was in
      subst (λ (a : Allocator). AreExactly s (is_in a.pool.spoken) (w1.seen f)) (sym given)
      (dropped_exactly s (w0.seen f) (w1.seen f) i j index some (all_counted s st.role (w0.seen f) st.seen.lies) (names was) (rows was).0 (rows was).1 (leaves was) (cleared was).1 a0.pool.spoken (exactly was))

  pub named_on : Told (AreNamed s (is_in a1.pool.spoken)) a1.file w1
  named_on = subst (λ (g : ℕ). Told (AreNamed s (is_in a1.pool.spoken)) g w1) (sym file1) (λ told. (exactly1 told).named)

  pub dropped_tight : (a2 : Allocator) (w2 : World) → a2.pool.spoken ≡ a1.pool.spoken → w2.tells ≡ w1.tells → a2.file ≡ a1.file → Moves a1.file (IsSafe s disks_on) (Allocates s disks_on first a1) (Allocates s disks_on a2.pool.next a2) w1 w2
      → Reads a1.file (Allocates s disks_on first a1) (λ old new. LeavesGuest s old new × SameTables s old new) w1 w2
      → Reads a1.file (Allocates s disks_on first a1) (λ old new. AreSettled s (is_in a1.pool.spoken) new) w1 w2
      → IsTrue w0.tells → AreExactly s (is_in a2.pool.spoken) (w2.seen f) × AreSettled s (is_in a2.pool.spoken) (w2.seen f) × IsSafe s disks_on (w2.seen f)
  dropped_tight a2 w2 spoken tells2 file2 moves left counts was =
      let told1 : IsTrue w1.tells = subst IsTrue (sym tells1) was in
      let told2 : IsTrue w2.tells = subst IsTrue (sym tells2) told1 in
      let st = subst (λ (g : ℕ). IsStanding s disks_on a2.pool.next a2.pool.prepared g w2) (file2 ∙ file1) (moves.stands al1).stands told2 in
      let leaves2 = subst (λ (g : ℕ). LeavesGuest s (w1.seen g) (w2.seen g) × SameTables s (w1.seen g) (w2.seen g)) file1 (left al1 told1) in
      let settled = subst (λ (g : ℕ). AreSettled s (is_in a1.pool.spoken) (w2.seen g)) file1 (counts al1 told1) in
      subst (λ (set : List Bool). AreExactly s (is_in set) (w2.seen f) × AreSettled s (is_in set) (w2.seen f) × IsSafe s disks_on (w2.seen f)) (sym spoken)
      (settled_exactly s (is_in a1.pool.spoken) (w1.seen f) (w2.seen f) some (all_counted s st.role (w2.seen f) st.seen.lies) leaves2.0 (exactly1 told1) settled, settled, safe s st.role disks_on (w2.seen f) st.seen)
