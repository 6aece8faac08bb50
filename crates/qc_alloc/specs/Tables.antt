-- The refcounts of an image as an opening reads them, and how far it has come in its checks.
use Rattle.std.specs.Prelude.{◌≡◌, ◌≢◌, ◌⊎◌, ℕ, ◌+◌, ◌*◌, ◌/◌, ◌%◌, ◌^◌, ◌<◌, ◌≤◌, min, List, [], ◌∷◌, ◌++◌, length, Bool, false, not, ◌||◌, nat_lt, nat_le, ◌==◌, if◌then◌else◌, slice_index, Option, Some, None, Result, Ok, Err}
use Rattle.std.specs.List.{list_any}
use Rattle.disk_model.specs.Files.{u64_at}
use Rattle.disk_model.specs.World.{World, Runs, reads_of, Rose, IsQuiet}
use Rattle.bitmap_model.specs.Granules.{is_in}
use Rattle.qc_layout.specs.declared.faults.ImageFault.{ImageFault}
use Rattle.qc_layout.specs.declared.faults.ImageFault.TheVariants as faults
use Rattle.qc_layout.specs.Header.{fields_of}
use Rattle.qc_layout.specs.Disks.{bits_of, blocks_in, words_in, counts_in, refcount}
use Rattle.qc_layout.specs.Opening.{Check, refused_after, block_named}
use Rattle.qc_layout.specs.Opening.Check.{Refused, Reached, Claim}
use Rattle.qc_layout.specs.Room.{IsNextFree}
use Rattle.cluster_pool.specs.Pool.{Pool, reach, is_counted}
use Rattle.cluster_pool.specs.Laws.{HasBlocksOf}
use Rattle.qc_alloc.specs.Opening.{rule_of}
use Rattle.qc_alloc.specs.declared.refusals.ClusterRefusal.{ClusterRefusal}
use Rattle.qc_alloc.specs.declared.refusals.ClusterRefusal.TheVariants.{Failed}
use Rattle.qc_alloc.specs.declared.tables.Layout.{Layout}

-- ---- where the refcounts are

-- of a header that passed its rules
pub record IsLayout (l : Layout) : Type 0 where
  pub low : 9 ≤ l.cluster_bits
  pub high : l.cluster_bits ≤ 21
  pub size : l.cluster ≡ 2 ^ l.cluster_bits
  pub least : 512 ≤ l.cluster
  pub most : l.cluster ≤ 2 ^ 21
  pub sectors : l.cluster % 512 ≡ 0
  pub some : 0 < l.clusters
  pub small : l.clusters * l.cluster ≤ 2 ^ 26
  pub whole : l.table % l.cluster ≡ 0

-- of this file's header
pub record IsLayoutOf (l : Layout) (file : List ℕ) : Type 0 where
  pub bits : l.cluster_bits ≡ bits_of file
  pub table : l.table ≡ (fields_of file).refcount_table_offset
  pub clusters : l.clusters ≡ (fields_of file).refcount_table_clusters

-- how many blocks the table may name
abbrev pub blocks_of : Layout → ℕ
blocks_of l = l.clusters * words_in l.cluster_bits

-- no cluster from here on can be used
abbrev pub reach_by : Layout → ℕ
reach_by l = min (2 ^ 30) (blocks_of l * counts_in l.cluster_bits)

-- the table lies below the reach
abbrev pub IsReached : Layout → Type 0
IsReached l = l.table / l.cluster + l.clusters ≤ reach_by l

-- ---- the refcount table

-- a word names a block that begins at a cluster below the reach, or none
pub record IsBlock (l : Layout) (word : ℕ) : Type 0 where
  pub sector : word % 512 ≡ 0
  pub whole : word % l.cluster ≡ 0
  pub below : word / l.cluster < reach_by l

-- why entry i of the table is refused, where it has this word
abbrev pub entry_fault : Layout → ℕ → ℕ → Option ImageFault
entry_fault l i word =
    if not (word % 512 == 0) || not (word % l.cluster == 0) then Some (faults.BadBlock (l.table + 8 * i))
    else if nat_le (reach_by l) (word / l.cluster) then Some (faults.PastLimit word)
    else None

-- each is a word of a block, or none
abbrev pub AreBlocks : Layout → List ℕ → Type 0
AreBlocks l blocks = (i : ℕ) → i < length blocks → IsBlock l (slice_index blocks i)

-- these are the first words of the table
abbrev pub AreWords : Layout → List ℕ → List ℕ → Type 0
AreWords l file blocks = (i : ℕ) → i < length blocks → slice_index blocks i ≡ u64_at file (l.table + 8 * i)

-- The entry behind these is the first that is refused, for this.
pub record IsBadNext (l : Layout) (file blocks : List ℕ) (fault : Option ImageFault) : Type 0 where
  pub inside : length blocks < blocks_of l
  pub is : entry_fault l (length blocks) (u64_at file (l.table + 8 * length blocks)) ≡ fault

-- The first entry that is refused, for this.
pub record IsFirstBad (l : Layout) (file : List ℕ) (fault : Option ImageFault) : Type 0 where
  pub i : ℕ
  pub inside : i < blocks_of l
  pub before : (j : ℕ) → j < i → IsBlock l (u64_at file (l.table + 8 * j))
  pub is : entry_fault l i (u64_at file (l.table + 8 * i)) ≡ fault

-- ---- refcounts

-- so many blocks from one on stand one behind another
pub record IsRow (cluster : ℕ) (blocks : List ℕ) (first n : ℕ) : Type 0 where
  pub inside : first + n ≤ length blocks
  pub there : 0 < n → slice_index blocks first ≢ 0
  pub places : (j : ℕ) → j < n → slice_index blocks (first + j) ≡ slice_index blocks first + j * cluster

-- The clusters below b whose count isn't 0 are in a set, as far as that goes, and `past` is one past the last of them, or 0.
pub record Notes (count : ℕ → ℕ) (b : ℕ) (set : List Bool) (past : ℕ) : Type 0 where
  pub inside : (k : ℕ) → k < b → k < length set → is_in set k ≡ not (count k == 0)
  pub others : (k : ℕ) → b ≤ k → is_in set k ≡ false
  pub behind : (k : ℕ) → k < b → past ≤ k → count k ≡ 0
  pub last : (past ≡ 0) ⊎ ((k : ℕ) × (k < b) × (past ≡ k + 1) × (count k ≢ 0))

-- the file has this layout, and these are all words of its table
pub record IsTableOf (l : Layout) (file blocks : List ℕ) : Type 0 where
  pub layout : IsLayoutOf l file
  pub words : AreWords l file blocks

-- which clusters of a file are counted, and where the free ones begin
pub record HasCounts (file : List ℕ) (limit : ℕ) (set : List Bool) (next : ℕ) : Type 0 where
  pub counted : (k : ℕ) → k < limit → (if nat_lt k next then is_in set k else false) ≡ not (refcount file k == 0)
  pub first : IsNextFree file next

-- ---- checks

-- what has been claimed after these
abbrev pub claimed_after : List ℕ → List Check → List ℕ
claimed_after claimed [] = claimed
claimed_after claimed (Refused fault ∷ checks) = claimed_after claimed checks
claimed_after claimed (Reached k ∷ checks) = claimed_after claimed checks
claimed_after claimed (Claim owner k ∷ checks) = claimed_after (k ∷ claimed) checks

-- they go through, whatever follows
pub record Passes (file claimed : List ℕ) (checks : List Check) : Type 0 where
  pub on : (rest : List Check) → refused_after file claimed (checks ++ rest) ≡ refused_after file (claimed_after claimed checks) rest

-- one of them is refused, for this
pub record Stops (file claimed : List ℕ) (checks : List Check) (fault : Option ImageFault) : Type 0 where
  pub on : (rest : List Check) → refused_after file claimed (checks ++ rest) ≡ fault

-- a pool has the blocks and counts of the file, and these clusters are spoken for
pub record Knows (p : Pool) (file claimed : List ℕ) : Type 0 where
  pub blocks : HasBlocksOf p file
  pub spoken : (k : ℕ) → k < reach p → is_in p.spoken k ≡ list_any (λ other. other == k) claimed
  pub counted : (k : ℕ) → k < reach p → is_counted p k ≡ not (refcount file k == 0)

-- they went through, and the pool has their claims
pub record Gone (file claimed : List ℕ) (checks : List Check) (p : Pool) : Type 0 where
  pub passes : Passes file claimed checks
  pub knows : Knows p file (claimed_after claimed checks)

abbrev pub Went : {T : Type 0} → List ℕ → List ℕ → List Check → Pool → Result T ClusterRefusal → Type 0
Went file claimed checks p (Ok value) = Gone file claimed checks p
Went file claimed checks p (Err why) = (rule_of why ≢ None) × Stops file claimed checks (rule_of why)

-- entry i names this block, or none where it is 0
abbrev pub Names : List ℕ → ℕ → ℕ → Type 0
Names file i block = block_named file i ≡ Ok (if block == 0 then None else Some block)

-- a fault that claims have
abbrev pub IsClaimFault : ImageFault → Type 0
IsClaimFault (faults.PastLimit offset) = Unit {0}
IsClaimFault (faults.Overlap offset) = Unit {0}
IsClaimFault (faults.Uncounted offset) = Unit {0}
IsClaimFault other = ⊥

-- ---- pools

-- a pool of which nothing is claimed yet
pub record IsFresh (l : Layout) (p : Pool) : Type 0 where
  pub bits : p.bits ≡ l.cluster_bits
  pub count : length p.blocks ≡ blocks_of l
  pub blocks : AreBlocks l p.blocks
  pub ready : p.ready ≡ []
  pub prepared : p.prepared ≡ p.next
  pub unspoken : (k : ℕ) → is_in p.spoken k ≡ false
  pub table : IsReached l

-- what it knows of the file, whose refcount table passed its tests
pub record IsTested (p : Pool) (file : List ℕ) (checks : List Check) : Type 0 where
  pub passes : Passes file [] checks
  pub claims : claimed_after [] checks ≡ []
  pub knows : Knows p file []
  pub names : (i : ℕ) → i < blocks_in file → Names file i (slice_index p.blocks i)
  pub next : IsNextFree file p.next

-- claims change what is spoken for and ready, and speak for no cluster that isn't prepared
pub record IsKept (p q : Pool) : Type 0 where
  pub is : q ≡ record p { spoken = q.spoken; ready = q.ready }
  pub ready : p.ready ≡ [] → q.ready ≡ []
  pub spoken : (k : ℕ) → p.prepared ≤ k → is_in q.spoken k ≡ is_in p.spoken k

-- ---- calls

-- the file was read, and no call failed but where the answer says so
pub record Reads {T : Type 0} (f : ℕ) (old new : World) (result : Result T ClusterRefusal) : Type 0 where
  pub run : Runs (reads_of f) old new
  pub cause : result ≡ Err Failed → Rose old.faults.shared new.faults.shared × Rose (old.faults.reads f) (new.faults.reads f)
  pub quiet : result ≢ Err Failed → IsQuiet old new
