-- What reading an image finds, and what refuses it.
use Rattle.std.proofs.Common.{◌≡◌, ◌≢◌, inl, inr, ℕ, ◌+◌, ◌*◌, ◌^◌, ◌<◌, List, [], ◌∷◌, ◌++◌, ◌-◌, ◌/◌, length, min, Bool, true, false, Option, Some, None, Result, Ok, Err, IsTrue, IfErr, IsErrAnd, refl, sym, ◌∙◌, ap, subst, arith}
use Rattle.std.specs.Prelude.{◌==◌, ◌||◌, ◌&&◌, not, nat_le, if◌then◌else◌}
use Rattle.std.specs.List.{list_any}
use Rattle.std.proofs.lemmas.List.{append-nil}
use Rattle.std.proofs.lemmas.List.Folds.{list_any-append}
use Rattle.disk_model.specs.Files.{u64_at}
use Rattle.disk_model.specs.World.{World, Runs, reads_of}
use Rattle.bitmap_model.specs.Granules.{is_in}
use Rattle.qc_layout.specs.declared.faults.ImageFault.{ImageFault}
use Rattle.qc_layout.specs.declared.faults.ImageFault.TheVariants.{PastLimit}
use Rattle.qc_layout.specs.declared.faults.ImageFault.TheVariants as faults
use Rattle.qc_layout.specs.declared.header.Header.{Header}
use Rattle.qc_layout.specs.declared.header.Own.{Own}
use Rattle.qc_layout.specs.declared.header.Own.TheVariants as owns
use Rattle.qc_layout.specs.declared.header.Part.TheVariants as parts
use Rattle.qc_layout.specs.Header.{fields_of}
use Rattle.qc_layout.specs.Spelling.{IsHeaderOf}
use Rattle.qc_layout.specs.Disks.{bits_of, blocks_in, counts_in, reach_of, place_of}
use Rattle.qc_layout.specs.Opening.{Check, claim_fault, cluster_fault, count_checks, map_checks, image_checks, refused_after}
use Rattle.qc_layout.specs.Opening.Check.{Refused, Reached, Claim}
use Rattle.qc_layout.specs.Directory.{directory_in}
use Rattle.qc_layout.specs.Loading.{claimed_in, held_in, directory_checks}
use Rattle.qc_layout.specs.Room.{TablesPass, IsNextFree, HasRoom}
use Rattle.qc_layout.proofs.Opening.{tables_pass}
use Rattle.image_header.specs.Headers.{IsRead}
use Rattle.image_model.specs.Clusters.{Shape, place, IsOffset, IsSafe}
use Rattle.image_model.specs.Calls.{IsOpened, AreClaimed, shape_of}
use Rattle.image_steps.proofs.Found.{bare_owners, found_opened, loadable_claims}
use Rattle.image_steps.proofs.Good.{is_shown}
use Rattle.image_steps.proofs.Headers.{header_shape}
use Rattle.cluster_pool.specs.Pool.{Pool, reach, room, fresh, is_own_block, becomes_block}
use Rattle.cluster_pool.proofs.Fresh.{fresh_same}
use Rattle.cluster_pool.proofs.Words.{past_set}
use Rattle.map_opening.specs.declared.refusals.MapRefusal.{MapRefusal}
use Rattle.map_opening.specs.declared.refusals.MapRefusal.TheVariants as table
use Rattle.map_opening.specs.Refusals as tables
use Rattle.qc_alloc.specs.declared.refusals.ClusterRefusal.{ClusterRefusal}
use Rattle.qc_alloc.specs.declared.refusals.ClusterRefusal.TheVariants as cluster
use Rattle.qc_alloc.specs.Allocator.{Allocator, IsAllocator}
use Rattle.qc_alloc.specs.Opening.{IsFound}
use Rattle.qc_alloc.specs.Opening as clusters
use Rattle.qc_alloc.specs.Tables.{Gone, IsKept, Stops}
use Rattle.qc_alloc.proofs.Passing.{claimed_any, claimed_in-append}
use Rattle.qc_alloc.proofs.Reading.{seen_on}
use Rattle.image_store.specs.declared.finding.Wanted.{Wanted}
use Rattle.image_store.specs.declared.finding.Wanted.TheVariants.{Opened, Adopted}
use Rattle.image_store.specs.declared.refusals.NotOpened.{NotOpened}
use Rattle.image_store.specs.declared.refusals.NotOpened.TheVariants as refusals
use Rattle.image_store.specs.Finding.{IsAllFound}
use Rattle.image_store.specs.Refusals.{of_clusters, of_tables, own_refusal, IsPlain, IsRefused}
use Rattle.image_store.proofs.Orders.{loads, owns_none, no_directory}

-- calls that read the file leave it as it was read
pub read_on : {h : Header} {f : ℕ} {a b : World} → Runs (reads_of f) a b → IsRead h f a → IsRead h f b
read_on run is = record { bytes = is.bytes; part = is.part; spells = is.spells; told = seen_on (λ c. c ≡ is.bytes) run is.told }

-- ---- a file that was found in order is safe

pub opened_safe : (s : Shape) (next : ℕ) (file : List ℕ) → IsOpened s next file → IsSafe s (file ∷ []) file
opened_safe s next file is = record { counted = is.counted; forms = is.forms; fixed = is.fixed; kept = is_shown s [] file }

by_sectors : (w m : ℕ) → w ≡ 512 * m → w / 512 * 512 ≡ w
by_sectors w m is = omega (arith, is)

sector_word : (s : Shape) (w : ℕ) → IsOffset s w → w / 512 * 512 ≡ w
unfolding place
sector_word s w (inl none) = omega (arith, none)
sector_word s w (inr at) = by_sectors w (s.sectors * at.cluster) at.is

or_swap : (a b : Bool) → (a || b) ≡ (b || a)
or_swap true true = refl
or_swap true false = refl
or_swap false true = refl
or_swap false false = refl

module _ (file : List ℕ) (h : Header) (a b : Allocator) (head : IsHeaderOf parts.Source file h) (bare : h.bitmaps ≡ None)
    (was : IsFound a file) (kept : IsKept a.pool b.pool) (gone : Gone file (claimed_in (count_checks file)) (map_checks file) b.pool) (is : IsAllocator b)
    (table : b.table ≡ h.fields.refcount_table_offset) (prepared : a.pool.prepared ≡ a.pool.next) where
  abbrev s : Shape
  s = shape_of file

  none : cluster_fault file ≡ None
  unfolding cluster_fault
  none = was.passes (map_checks file) ∙ (ap (λ cs. refused_after file (claimed_in (count_checks file)) cs) (sym (append-nil (map_checks file))) ∙ gone.passes.on [])

  pass : TablesPass file
  pass = tables_pass parts.Source file head.spells.numbers none

  next_same : b.pool.next ≡ a.pool.next
  next_same = ap (λ (p : Pool). p.next) kept.is

  opened : IsOpened s b.pool.next file
  opened = found_opened s _ (header_shape parts.Source file head.spells.numbers) (bare_owners s file (λ k. refl) pass.counted) pass b.pool.next (subst (IsNextFree file) (sym next_same) was.next).free

  reach_same : reach b.pool ≡ reach_of file
  reach_same = ap (λ (n : ℕ). min (2 ^ 30) (n * counts_in b.pool.bits)) gone.knows.blocks.count ∙ ap (λ (n : ℕ). min (2 ^ 30) (blocks_in file * counts_in n)) gone.knows.blocks.bits

  taken : (k : ℕ) → k < reach_of file → is_in b.pool.spoken k ≡ list_any (λ other. other == k) (claimed_in (image_checks file))
  taken k below =
      let counts : List ℕ = claimed_in (count_checks file) in
      let maps : List ℕ = claimed_in (map_checks file) in
      let any : List ℕ → Bool = λ ks. list_any (λ other. other == k) ks in
      let r = reach_same in
      gone.knows.spoken k (omega (arith, below, r))
      ∙ (claimed_any k counts (map_checks file)
      ∙ (or_swap (any maps) (any counts) ∙ (sym (list_any-append (λ (other : ℕ). other == k) counts maps) ∙ ap any (sym (claimed_in-append (count_checks file) (map_checks file))))))

  safe : IsSafe s (file ∷ []) file
  safe = opened_safe s b.pool.next file opened

  all_claims : claimed_in (image_checks file) ++ held_in (directory_checks file (directory_in file)) ≡ claimed_in (image_checks file)
  all_claims = ap (λ d. claimed_in (image_checks file) ++ held_in (directory_checks file d)) (no_directory s (file ∷ []) file h opened.shape (λ k. refl) head bare safe) ∙ append-nil (claimed_in (image_checks file))

  pub all_found : IsAllFound b file
  all_found = record {
    passes = pass;
    opened = opened;
    of = record { shape = opened.shape; table = table ∙ ap (λ f. f.refcount_table_offset) head.spells.fields; cluster = ap (λ (n : ℕ). 2 ^ n) gone.knows.blocks.bits ∙ opened.shape.cluster; blocks = gone.knows.blocks.count };
    blocks = λ i inside. sym (gone.knows.blocks.blocks i inside ∙ sector_word s (u64_at file ((fields_of file).refcount_table_offset + 8 * i)) (opened.forms.blocks i inside));
    exact = loadable_claims file h s (is_in b.pool.spoken) head.spells (loads s (file ∷ []) file h opened.shape (λ k. refl) head bare safe) refl
        (owns_none s (file ∷ []) file h opened.shape (λ k. refl) head bare safe) opened.shape
        (subst (λ (ks : List ℕ). AreClaimed s ks (is_in b.pool.spoken)) (sym all_claims) (record {
          below = taken;
          past = λ k far. let r = reach_same in let l = is.pool.spoken in past_set b.pool.spoken k (omega (arith, far, r, l));
        }));
    prepared = ap (λ (p : Pool). p.prepared) kept.is ∙ (prepared ∙ sym next_same);
    ready = kept.ready was.ready;
    room = subst (HasRoom file) (sym room_same) was.room;
  }
    where
      ready_same : length b.pool.ready ≡ length a.pool.ready
      ready_same = ap length (kept.ready was.ready) ∙ sym (ap length was.ready)

      fresh_same_on : fresh b.pool ≡ fresh a.pool
      fresh_same_on =
          let q : Pool = record (a.pool) { spoken = b.pool.spoken; ready = b.pool.ready } in
          ap fresh kept.is ∙ fresh_same a.pool q refl refl (λ k low _. ap (λ (t : Bool). not t && (not (is_own_block a.pool k) && not (becomes_block a.pool k))) (kept.spoken k (omega (arith, low, prepared))))

      room_same : room b.pool ≡ room a.pool
      room_same = omega (arith, ready_same, fresh_same_on)

-- ---- refusals

by_test : (b : Bool) (found first next : Option ImageFault) (fault : ImageFault) → (if b then found else first) ≡ Some fault → (first ≡ Some fault → next ≡ Some fault) → (if b then found else next) ≡ Some fault
by_test true found first next fault is on = is
by_test false found first next fault is on = on is

by_fault : (f first next : Option ImageFault) (fault : ImageFault) → elim f [ Some found ↦ Some found | None ↦ first ] ≡ Some fault → (first ≡ Some fault → next ≡ Some fault) → elim f [ Some found ↦ Some found | None ↦ next ] ≡ Some fault
by_fault (Some found) first next fault is on = is
by_fault None first next fault is on = on is

-- what is refused is refused whatever follows
pub refused_more : (file claimed : List ℕ) (xs ys : List Check) (fault : ImageFault) → refused_after file claimed xs ≡ Some fault → refused_after file claimed (xs ++ ys) ≡ Some fault
refused_more file claimed [] ys fault is = absurd (cc)
refused_more file claimed (Refused other ∷ xs) ys fault is = is
refused_more file claimed (Reached k ∷ xs) ys fault is =
    by_test (nat_le (reach_of file) k) (Some (PastLimit (place_of (bits_of file) k))) (refused_after file claimed xs) (refused_after file claimed (xs ++ ys)) fault is (refused_more file claimed xs ys fault)
refused_more file claimed (Claim owner k ∷ xs) ys fault is =
    by_fault (claim_fault file claimed k) (refused_after file (k ∷ claimed) xs) (refused_after file (k ∷ claimed) (xs ++ ys)) fault is (refused_more file (k ∷ claimed) xs ys fault)

-- it names a rule
abbrev pub is_rule : NotOpened → Bool
is_rule (refusals.Header fault) = true
is_rule refusals.Unbuilt = true
is_rule refusals.NotAdopted = true
is_rule refusals.AlreadyAdopted = true
is_rule refusals.EpochSpent = true
is_rule (refusals.Clusters fault) = true
is_rule refusals.Failed = false
is_rule refusals.Memory = false

-- refused by the project's own extension it is refused for that
abbrev Refuses : Wanted → List ℕ → Option NotOpened → Type 0
Refuses wanted file None = Unit {0}
Refuses wanted file (Some why) = IsTrue (is_rule why) × (IsPlain file (Some why) wanted → IsRefused wanted file why)

own_refuses : (wanted : Wanted) (own : Own) (file : List ℕ) → Refuses wanted file (own_refusal wanted own)
own_refuses Opened owns.Absent file = (refl, λ plain. plain)
own_refuses Opened (owns.Source id epoch offset size) file = by_test (epoch == 2 ^ 64 - 1)
  where
    by_test : (b : Bool) → Refuses Opened file (if b then Some refusals.EpochSpent else None)
    by_test true = (refl, λ plain. plain)
    by_test false = tt
own_refuses Opened (owns.Target bytes) file = (refl, λ plain. plain)
own_refuses Adopted owns.Absent file = tt
own_refuses Adopted (owns.Source id epoch offset size) file = (refl, λ plain. plain)
own_refuses Adopted (owns.Target bytes) file = (refl, λ plain. plain)

pub own_refused : (wanted : Wanted) (own : Own) (why : NotOpened) (file : List ℕ) → Some why ≡ own_refusal wanted own → IsTrue (is_rule why) × (IsPlain file (Some why) wanted → IsRefused wanted file why)
own_refused wanted own why file is = subst (Refuses wanted file) (sym is) (own_refuses wanted own file)

-- by its clusters
first_fault : (file : List ℕ) (fault : ImageFault) → Some fault ≡ refused_after file [] (count_checks file) → cluster_fault file ≡ Some fault
unfolding cluster_fault
first_fault file fault is = refused_more file [] (count_checks file) (map_checks file) fault (sym is)

pub clusters_refused : (wanted : Wanted) (file : List ℕ) (why : ClusterRefusal) → IsPlain file None wanted → (clusters.rule_of why ≢ None → clusters.rule_of why ≡ refused_after file [] (count_checks file)) → IsRefused wanted file (of_clusters why)
clusters_refused wanted file (cluster.BadBlock at) plain is = (plain, first_fault file (faults.BadBlock at) (is (λ e. cc)))
clusters_refused wanted file (cluster.PastLimit offset) plain is = (plain, first_fault file (faults.PastLimit offset) (is (λ e. cc)))
clusters_refused wanted file (cluster.Overlap offset) plain is = (plain, first_fault file (faults.Overlap offset) (is (λ e. cc)))
clusters_refused wanted file (cluster.Uncounted offset) plain is = (plain, first_fault file (faults.Uncounted offset) (is (λ e. cc)))
clusters_refused wanted file cluster.Failed plain is = tt
clusters_refused wanted file cluster.Memory plain is = tt

pub tables_refused : (wanted : Wanted) (file : List ℕ) (why : MapRefusal) → IsPlain file None wanted → (tables.rule_of why ≢ None → cluster_fault file ≡ tables.rule_of why) → IsRefused wanted file (of_tables why)
tables_refused wanted file (table.Reserved at) plain is = (plain, is (λ e. cc))
tables_refused wanted file (table.Compressed at) plain is = (plain, is (λ e. cc))
tables_refused wanted file (table.Misaligned at) plain is = (plain, is (λ e. cc))
tables_refused wanted file (table.PastLimit offset) plain is = (plain, is (λ e. cc))
tables_refused wanted file (table.Overlap offset) plain is = (plain, is (λ e. cc))
tables_refused wanted file (table.Uncounted offset) plain is = (plain, is (λ e. cc))
tables_refused wanted file table.Failed plain is = tt
tables_refused wanted file table.Memory plain is = tt

pub stopped_by : (file : List ℕ) (a : Allocator) (fault : Option ImageFault) → IsFound a file → Stops file (claimed_in (count_checks file)) (map_checks file) fault → cluster_fault file ≡ fault
unfolding cluster_fault
stopped_by file a fault was stops = was.passes (map_checks file) ∙ (ap (λ cs. refused_after file (claimed_in (count_checks file)) cs) (sym (append-nil (map_checks file))) ∙ stops.on [])

-- ---- failures handed on

pub of_failed_clusters : (why : ClusterRefusal) → of_clusters why ≡ refusals.Failed → why ≡ cluster.Failed
of_failed_clusters (cluster.BadBlock at) is = cc
of_failed_clusters (cluster.PastLimit offset) is = cc
of_failed_clusters (cluster.Overlap offset) is = cc
of_failed_clusters (cluster.Uncounted offset) is = cc
of_failed_clusters cluster.Failed is = refl
of_failed_clusters cluster.Memory is = cc

pub of_failed_tables : (why : MapRefusal) → of_tables why ≡ refusals.Failed → why ≡ table.Failed
of_failed_tables (table.Reserved at) is = cc
of_failed_tables (table.Compressed at) is = cc
of_failed_tables (table.Misaligned at) is = cc
of_failed_tables (table.PastLimit offset) is = cc
of_failed_tables (table.Overlap offset) is = cc
of_failed_tables (table.Uncounted offset) is = cc
of_failed_tables table.Failed is = refl
of_failed_tables table.Memory is = cc

-- an error that was handed on is this one
-- what is told of a refusal that isn't a fault holds where it is one
pub of_fault : {T : Type 0} (result : Result T NotOpened) (X : Type 0) → IsErrAnd result (λ e. e ≡ refusals.Failed) → IfErr result (λ why. why ≢ refusals.Failed → X)
of_fault (Ok value) X none = tt
of_fault (Err why) X is = λ other. absurd (other is)

pub is_handed : {T E : Type 0} (result : Result T E) (error : E) → IsErrAnd result (λ e. e ≡ error) → result ≡ Err error
is_handed (Ok value) error none = absurd none
is_handed (Err other) error is = ap Err is
