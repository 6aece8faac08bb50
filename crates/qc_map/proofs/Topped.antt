-- Clusters are made ready before a call.
use Rattle.std.proofs.Common.{◌≡◌, inl, inr, ℕ, ◌+◌, ◌*◌, ◌<◌, ◌≤◌, List, [], ◌∷◌, IsTrue, Result, Ok, Err, IfOk, sym, ◌∙◌, ap, subst, arith}
use Rattle.disk_model.specs.Files.{byte, overlay}
use Rattle.disk_model.specs.World.{World, Parts, Runs, only_text, IsSound}
use Rattle.disk_model.proofs.Laws.{stay}
use Rattle.image_model.specs.Clusters.{Shape, size, per, IsShape, IsSafe, Moves, Reads}
use Rattle.image_model.specs.Calls.{LeavesGuest, SameTables}
use Rattle.image_model.specs.Disks.{disk_of, IsMixedOf}
use Rattle.image_steps.proofs.Good.{more_safe}
use Rattle.image_steps.proofs.OnDisk.{disk_same}
use Rattle.image_steps.proofs.Standing.{moves_on}
use Rattle.image_steps.proofs.Storing.{rest_after}
use Rattle.map_rows.specs.Stores.{kind_of}
use Rattle.qc_alloc.specs.Allocator.{Allocator, IsAllocator, HasBlocks, HasTable, Allocates, IsKnown}
use Rattle.qc_alloc.specs.Growing.{Raises, Grows, MendsBlocks}
use Rattle.qc_alloc.specs.Laws.{PreparedStaysExact}
use Rattle.qc_map.specs.Altering.{Alteration, spot_of, IsAltered, IsPartlyAltered, UsesUpTo, Alters, HasAltered, KnowsOn, ToldRow}
use Rattle.qc_map.specs.Filling.{NamesBelow}
use Rattle.qc_map.specs.Mapping.{Mapping, IsMapping}
use Rattle.qc_map.proofs.Over.{tables_cover}
use Rattle.qc_map.proofs.Steps.{Fits, left_alters}

-- nothing of the guest's changed before an alteration
module _ (s : Shape) (total : ℕ) (e : Alteration) (a b c : List ℕ) (shape : IsShape s) (covers : total ≤ s.tables * per s * size s) (leaves : LeavesGuest s a b) (tables : SameTables s a b) (fits : Fits s e) where
  same_disk : disk_of s total b ≡ disk_of s total a
  same_disk = disk_same s total a b shape covers leaves

  pub altered_after : IsAltered s total e b c → IsAltered s total e a c
  altered_after is = record {
    rest = rest_after leaves is.rest;
    tables = λ x x_in other. is.tables x x_in other ∙ tables x x_in;
    kinds = λ x x_in. is.kinds x x_in ∙ ap (λ w. e.goal x (kind_of w)) (leaves.alike.entries e.table (e.slot + x) fits.index (omega (arith, fits.slots, x_in)));
    disk = λ x x_in. is.disk x x_in ∙ ap (λ (d : List ℕ). byte (overlay d (spot_of s e) e.bytes) x) same_disk;
  }

  pub partly_after : IsPartlyAltered s total e b c → IsPartlyAltered s total e a c
  partly_after is = record {
    rest = rest_after leaves is.rest;
    tables = λ x x_in other. is.tables x x_in other ∙ tables x x_in;
    kinds = λ x x_in.
        let same = leaves.alike.entries e.table (e.slot + x) fits.index (omega (arith, fits.slots, x_in)) in
        elim (is.kinds x x_in) [
          | inl was ↦ inl (was ∙ ap kind_of same)
          | inr now ↦ inr (now ∙ ap (λ w. e.goal x (kind_of w)) same)
        ];
    disk = subst (λ (d : List ℕ). IsMixedOf total (d ∷ overlay d (spot_of s e) e.bytes ∷ []) (disk_of s total c)) same_disk is.disk;
  }

module _ {m : Mapping} {a0 a1 : Allocator} {w0 w1 : World} {parts : Parts} (mapping : IsMapping m) (file : a0.file ≡ m.file) (grows : Grows a0 a1 w0 w1) (run : Runs parts w0 w1) (spot total i j : ℕ) (row : List ℕ) where
  module _ (s : Shape) (disks : List (List ℕ)) (first : ℕ) where
    grown : Moves m.file (IsSafe s disks) (Allocates s disks first a0) (Allocates s disks first a1) w0 w1
    grown = subst (λ (g : ℕ). Moves g (IsSafe s disks) (Allocates s disks first a0) (Allocates s disks first a1) w0 w1) file (grows.moves s disks first)

    grown_leaves : Reads m.file (Allocates s disks first a0) (LeavesGuest s) w0 w1
    grown_leaves = subst (λ (g : ℕ). Reads g (Allocates s disks first a0) (LeavesGuest s) w0 w1) file (grows.leaves s disks first)

    grown_tables : Reads m.file (Allocates s disks first a0) (SameTables s) w0 w1
    grown_tables = subst (λ (g : ℕ). Reads g (Allocates s disks first a0) (SameTables s) w0 w1) file (grows.tables s disks first)

    -- the row is as it was
    row_grown : ToldRow m spot i j total row s w0 → Allocates s disks first a0 w0 → ToldRow m spot i j total row s w1
    row_grown known al told1 =
        let told = subst IsTrue run.goes.tells told1 in
        let has = known told in
        let leaves = grown_leaves al told in
        record {
          cluster = has.cluster;
          linked = leaves.keeps.tables i has.cluster has.linked;
          slots = has.slots;
          at = has.at;
          words = record { each = λ x x_in. has.words.each x x_in ∙ sym (leaves.alike.entries i (j + x) has.linked.inside (omega (arith, has.slots, x_in))) };
        }

  mid_told : IsTrue w0.tells → IsTrue w1.tells
  mid_told told = subst IsTrue (sym run.goes.tells) told

  -- the alteration lies in the row
  fits_row : (e : Alteration) → e.table ≡ i → e.slot ≡ j → e.count ≤ total → (s : Shape) → ToldRow m spot i j total row s w0 → IsTrue w0.tells → Fits s e
  fits_row e table slot few s known told = let has = known told in record { index = subst (λ (x : ℕ). x < s.tables) (sym table) has.linked.inside; slots = omega (arith, has.slots, slot, few) }

  module _ {w2 : World} (e : Alteration) (table : e.table ≡ i) (slot : e.slot ≡ j) (few : e.count ≤ total) where
    pub grown_alters : {a2 : Allocator} {others : Parts} → Runs others w1 w2 → Alters m (ToldRow m spot i j total row) e a1 a2 w1 w2 → Alters m (ToldRow m spot i j total row) e a0 a2 w0 w2
    grown_alters on second = record {
      moves = λ s disks first is hands known.
          moves_on run on (λ c safe. more_safe s disks (w2.seen m.file) c safe) (grown s disks first) (λ al. second.moves s disks first is (grows.hands first hands) (row_grown s disks first known al));
      partly = λ s disks first is hands known al told.
          partly_after s m.size e (w0.seen m.file) (w1.seen m.file) (w2.seen m.file) is.shape (tables_cover s m mapping is) (grown_leaves s disks first al told) (grown_tables s disks first al told) (fits_row e table slot few s known told)
          (second.partly s disks first is (grows.hands first hands) (row_grown s disks first known al) ((grown s disks first).stands al) (mid_told told));
    }

    pub grown_done : HasAltered m (ToldRow m spot i j total row) e a1 w1 w2 → HasAltered m (ToldRow m spot i j total row) e a0 w0 w2
    grown_done second = record {
      done = λ s disks first is hands known al told.
          altered_after s m.size e (w0.seen m.file) (w1.seen m.file) (w2.seen m.file) is.shape (tables_cover s m mapping is) (grown_leaves s disks first al told) (grown_tables s disks first al told) (fits_row e table slot few s known told)
          (second.done s disks first is (grows.hands first hands) (row_grown s disks first known al) ((grown s disks first).stands al) (mid_told told));
    }

  -- where nothing follows
  pub grown_alone : IsSound w1 → (e : Alteration) → e.table ≡ i → e.slot ≡ j → e.count ≤ total → Alters m (ToldRow m spot i j total row) e a0 a1 w0 w1
  grown_alone sound e table slot few = grown_alters e table slot few (stay only_text w1) (left_alters (stay only_text w1) (λ none. none) (grows.file ∙ file) sound)

  module _ (is0 : IsAllocator a0) (raises : Raises a0.pool a1.pool) (stays : PreparedStaysExact) (mends : MendsBlocks a0 a1 w0 w1) where
    mid_known : (s : Shape) (disks : List (List ℕ)) (first : ℕ) → Allocates s disks first a0 w0 → IsTrue w0.tells → IsKnown s a0 (w0.seen m.file) → IsKnown s a1 (w1.seen m.file)
    mid_known s disks first al told knows =
        let al1 = (grown s disks first).stands al in
        let blocks = subst (λ (g : ℕ). HasBlocks s a1 (w1.seen g)) file (mends.words s disks first (inr (λ again. subst (λ (g : ℕ). HasBlocks s a0 (w0.seen g)) (sym file) knows.blocks)) al told) in
        let table0 = subst (λ (g : ℕ). HasTable s a0 (w0.seen g)) file (al.table told) in
        let table1 = subst (λ (g : ℕ). HasTable s a1 (w1.seen g)) (grows.file ∙ file) (al1.table (mid_told told)) in
        let exact = stays s a0 a1 (w0.seen m.file) (w1.seen m.file) is0 al.is raises table0 table1 (grown_leaves s disks first al told) (grown_tables s disks first al told)
        (record { named = λ who k refers. inl (knows.exactly.named who k refers); exact = knows.exactly.exact }) in
        record { exactly = exact.1 blocks; blocks = blocks }

    pub grown_known : {a2 : Allocator} {w2 : World} → KnowsOn m (ToldRow m spot i j total row) a1 a2 w1 w2 → KnowsOn m (ToldRow m spot i j total row) a0 a2 w0 w2
    grown_known second = record {
      known = λ s disks first is hands known al told knows.
          second.known s disks first is (grows.hands first hands) (row_grown s disks first known al) ((grown s disks first).stands al) (mid_told told) (mid_known s disks first al told knows);
    }

-- ---- the pool

pub below_grown : (a0 a1 : Allocator) {bits n : ℕ} {row : List ℕ} → Raises a0.pool a1.pool → NamesBelow bits n row a0.pool.next → NamesBelow bits n row a1.pool.next
below_grown a0 a1 raises below k named = omega (arith, below k named, raises.next)

pub uses_grown : (a0 a1 : Allocator) {a2 : Allocator} {n : ℕ} → Raises a0.pool a1.pool → UsesUpTo a1 a2 n → UsesUpTo a0 a2 n
uses_grown a0 a1 raises uses = record { least = omega (arith, raises.room, uses.least); most = omega (arith, raises.room, uses.most) }

-- ---- answers

pub ok_by : {E : Type 0} (r : Result ℕ E) (A B C : ℕ → Type 0) → ((n : ℕ) → A n → B n → C n) → IfOk r A → IfOk r B → IfOk r C
ok_by (Ok n) A B C both a b = both n a b
ok_by (Err error) A B C both a b = tt
