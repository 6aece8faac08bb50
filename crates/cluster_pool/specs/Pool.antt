-- Which clusters of an image are spoken for, and which can be handed out (qcow2 specification, "Host cluster management").
use Rattle.std.specs.Prelude.{◌≡◌, ◌≢◌, ◌⊎◌, ℕ, ◌+◌, ◌-◌, ◌*◌, ◌/◌, ◌^◌, ◌<◌, ◌≤◌, max, min, List, [], ◌∷◌, ◌++◌, length, replicate, filter, All, Bool, false, not, ◌&&◌, nat_lt, nat_le, ◌==◌, if◌then◌else◌, slice_index, Option, Some, None, IsTrue}
use Rattle.std.specs.List.{range_with_len, count_by}
use Rattle.bitmap_model.specs.Granules.{is_in}
use Rattle.qc_layout.specs.Disks.{counts_in, place_of}
use Rattle.qc_layout.specs.declared.faults.ImageFault.{ImageFault}
use Rattle.qc_layout.specs.declared.faults.ImageFault.TheVariants.{PastLimit, Overlap, Uncounted}
use Rattle.cluster_pool.specs.Sets.{with_member, without_member}

pub record Pool : Type 0 where
  -- a cluster has 2 to this power bytes
  pub bits : ℕ
  -- where each block of refcounts stands, or 0 where there is none
  pub blocks : List ℕ
  -- which clusters below the reach are referred to or taken, and not given back since
  pub spoken : List Bool
  -- which clusters below `from` were found counted
  pub counted : List Bool
  pub from : ℕ
  -- the clusters that can be taken at once, in their order
  pub ready : List ℕ
  -- from here on clusters are fresh; those up to `prepared` are counted once, zero, and synced
  pub next : ℕ
  pub prepared : ℕ

-- ---- blocks

-- how many clusters a block counts
abbrev pub each : Pool → ℕ
each p = counts_in p.bits

-- no cluster from here on can be used
abbrev pub reach : Pool → ℕ
reach p = min (2 ^ 30) (length p.blocks * each p)

-- where block i stands, or 0
abbrev pub block_at : Pool → ℕ → ℕ
block_at p i = slice_index p.blocks i

-- where the block that counts a cluster stands, or 0
abbrev pub block_of : Pool → ℕ → ℕ
block_of p k = block_at p (k / each p)

-- the cluster is the block that counts it
abbrev pub is_own_block : Pool → ℕ → Bool
is_own_block p k = block_of p k == place_of p.bits k

-- the block that counts it is missing, and it is the first fresh one of those that the block counts: it becomes the block
abbrev pub becomes_block : Pool → ℕ → Bool
becomes_block p k = (block_of p k == 0) && (k == max p.next (k / each p * each p))

-- ---- room

-- a fresh cluster can be handed out, where it isn't spoken for, is no block and becomes none
abbrev pub is_open : Pool → ℕ → Bool
is_open p k = not (is_in p.spoken k) && (not (is_own_block p k) && not (becomes_block p k))

-- how many fresh clusters can be handed out
unfoldable pub fresh : Pool → ℕ
fresh p = count_by (is_open p) (range_with_len p.next (reach p - p.next))

-- how many clusters can still be handed out
abbrev pub room : Pool → ℕ
room p = length p.ready + fresh p

-- ---- counts

-- the cluster is counted: as it was found, or since it was prepared
abbrev pub is_counted : Pool → ℕ → Bool
is_counted p k = if nat_lt k p.from then is_in p.counted k else nat_lt k p.prepared

-- why a cluster can't be referred to once more
abbrev pub claim_refusal : Pool → ℕ → Option ImageFault
claim_refusal p k =
    if nat_le (reach p) k then Some (PastLimit (place_of p.bits k))
    else if is_in p.spoken k then Some (Overlap (place_of p.bits k))
    else if is_counted p k then None
    else Some (Uncounted (place_of p.bits k))

-- ---- what holds of every pool

-- a cluster that can be taken: it isn't spoken for, and the block that counts it is there, and is another
pub record IsReady (p : Pool) (k : ℕ) : Type 0 where
  pub below : k < p.next
  pub reach : k < reach p
  pub unspoken : is_in p.spoken k ≡ false
  pub linked : block_of p k ≢ 0
  pub differs : block_of p k ≢ place_of p.bits k

-- each is below those behind it
abbrev pub AreRising : List ℕ → Type 0
AreRising [] = Unit {0}
AreRising (k ∷ ks) = All (λ m. k < m) ks × AreRising ks

-- how many may be ready at once
abbrev pub most_ready : ℕ
most_ready = 64

pub record IsPool (p : Pool) : Type 0 where
  pub low : 9 ≤ p.bits
  pub high : p.bits ≤ 21
  pub few : length p.blocks ≤ 2 ^ 23
  pub spoken : length p.spoken ≡ reach p
  pub order : p.next ≤ p.prepared
  pub found : p.from ≤ p.prepared
  -- a prepared cluster is counted
  pub linked : (k : ℕ) → p.next ≤ k → k < p.prepared → block_of p k ≢ 0
  pub ready : All (IsReady p) p.ready
  pub rising : AreRising p.ready
  pub at_once : length p.ready ≤ most_ready

-- ---- changes

-- as an opening finds it: nothing is claimed yet, and clusters are fresh from `next` on
abbrev pub found_pool : ℕ → List ℕ → List Bool → ℕ → Pool
found_pool bits blocks counted next = record {
  bits = bits;
  blocks = blocks;
  spoken = replicate (min (2 ^ 30) (length blocks * counts_in bits)) false;
  counted = counted;
  from = next;
  ready = [];
  next = next;
  prepared = next;
}

-- cluster k is referred to; one that was ready no longer is
abbrev pub claimed : Pool → ℕ → Pool
claimed p k = record p { spoken = with_member p.spoken k; ready = filter (λ m. not (m == k)) p.ready }

abbrev pub given_back : Pool → ℕ → Pool
given_back p k = record p { spoken = without_member p.spoken k }

-- the first ready cluster is taken
pub record HasTaken (p q : Pool) (k : ℕ) : Type 0 where
  pub rest : List ℕ
  pub first : p.ready ≡ k ∷ rest
  pub is : q ≡ record p { ready = rest; spoken = with_member p.spoken k }

-- the next n clusters, which one block counts, are prepared
abbrev pub prepared_on : Pool → ℕ → Pool
prepared_on p n = record p { prepared = p.prepared + n }

-- the lists differ in place i alone, where the new one has this
pub record IsPutAt (old new : List ℕ) (i value : ℕ) : Type 0 where
  pub same_length : length new ≡ length old
  pub there : slice_index new i ≡ value
  pub others : (j : ℕ) → j ≢ i → slice_index new j ≡ slice_index old j

-- the next cluster becomes the block that counts it
pub record HasAddedBlock (p q : Pool) : Type 0 where
  pub blocks : IsPutAt p.blocks q.blocks (p.prepared / each p) (place_of p.bits p.prepared)
  pub is : q ≡ record p { blocks = q.blocks; spoken = with_member p.spoken p.prepared; prepared = p.prepared + 1 }

-- one fresh cluster is passed, and is ready where it can be handed out
abbrev pub stepped : Pool → Pool
stepped p = record p { next = p.next + 1; ready = if is_open p p.next then p.ready ++ p.next ∷ [] else p.ready }

-- so many neighbours from `first` on can be handed out together: they lie below the reach, and none becomes a block or is one
pub record IsRunOf (p : Pool) (count first : ℕ) : Type 0 where
  pub from : p.next ≤ first
  pub below : first + count ≤ reach p
  pub plain : (k : ℕ) → first ≤ k → k < first + count → IsTrue (is_open p k)

-- the first such
pub record IsFirstRunOf (p : Pool) (count first : ℕ) : Type 0 where
  pub is : IsRunOf p count first
  pub least : (other : ℕ) → IsRunOf p count other → first ≤ other

-- there is none
abbrev pub HasNoRunOf : Pool → ℕ → Type 0
HasNoRunOf p count = (first : ℕ) → IsRunOf p count first → ⊥

-- n neighbours from k on are spoken for
pub record HasAll (old new : List Bool) (k n : ℕ) : Type 0 where
  pub same_length : length new ≡ length old
  pub inside : (j : ℕ) → k ≤ j → j < k + n → j < length old → IsTrue (is_in new j)
  pub others : (j : ℕ) → (j < k) ⊎ (k + n ≤ j) → is_in new j ≡ is_in old j

-- the first n ready clusters are taken, which are neighbours from k on
pub record HasTakenRow (p q : Pool) (k n : ℕ) : Type 0 where
  pub some : 0 < n
  pub rest : List ℕ
  pub first : p.ready ≡ range_with_len k n ++ rest
  pub spoken : HasAll p.spoken q.spoken k n
  pub is : q ≡ record p { ready = rest; spoken = q.spoken }

-- neighbours that were prepared are taken; fresh ones before them are passed over
pub record HasTakenRun (p q : Pool) (first count : ℕ) : Type 0 where
  pub spoken : HasAll p.spoken q.spoken first count
  pub is : q ≡ record p { spoken = q.spoken; next = first + count }

-- no cluster is ready any more, and those that were prepared aren't fresh
abbrev pub emptied : Pool → Pool
emptied p = record p { ready = []; next = p.prepared }

-- each cluster that is spoken for is counted once, and no other is
abbrev pub settled : Pool → Pool
settled p = record p { counted = replicate (length p.counted) false; from = p.prepared }
