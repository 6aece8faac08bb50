-- What an allocator is as an opening finds the image, and why there is none.
use Rattle.std.specs.Prelude.{◌≡◌, ℕ, ◌<◌, List, [], ◌++◌, not, ◌==◌, Option, Some, None}
use Rattle.std.specs.List.{list_any}
use Rattle.bitmap_model.specs.Granules.{is_in}
use Rattle.qc_layout.specs.declared.faults.ImageFault.{ImageFault}
use Rattle.qc_layout.specs.declared.faults.ImageFault.TheVariants as faults
use Rattle.qc_layout.specs.Disks.{refcount}
use Rattle.qc_layout.specs.Opening.{Check, count_checks, refused_after}
use Rattle.qc_layout.specs.Loading.{claimed_in}
use Rattle.qc_layout.specs.Room.{IsNextFree, HasRoom}
use Rattle.cluster_pool.specs.Pool.{reach, room, is_counted}
use Rattle.cluster_pool.specs.Laws.{HasBlocksOf, IsUntouched}
use Rattle.qc_alloc.specs.declared.refusals.ClusterRefusal.{ClusterRefusal}
use Rattle.qc_alloc.specs.declared.refusals.ClusterRefusal.TheVariants.{BadBlock, PastLimit, Overlap, Uncounted, Failed, Memory}
use Rattle.qc_alloc.specs.Allocator.{Allocator}

-- the rule that a refusal names, if it names one
abbrev pub rule_of : ClusterRefusal → Option ImageFault
rule_of (BadBlock at) = Some (faults.BadBlock at)
rule_of (PastLimit offset) = Some (faults.PastLimit offset)
rule_of (Overlap offset) = Some (faults.Overlap offset)
rule_of (Uncounted offset) = Some (faults.Uncounted offset)
rule_of Failed = None
rule_of Memory = None

-- nothing is refused of the refcounts; their clusters and the header are claimed, and nothing else is; the rest is as the file says
pub record IsFound (a : Allocator) (file : List ℕ) : Type 0 where
  -- what follows is refused as if the clusters of the refcounts had been claimed
  pub passes : (rest : List Check) → refused_after file [] (count_checks file ++ rest) ≡ refused_after file (claimed_in (count_checks file)) rest
  pub blocks : HasBlocksOf a.pool file
  pub spoken : (k : ℕ) → k < reach a.pool → is_in a.pool.spoken k ≡ list_any (λ other. other == k) (claimed_in (count_checks file))
  pub counted : (k : ℕ) → k < reach a.pool → is_counted a.pool k ≡ not (refcount file k == 0)
  pub next : IsNextFree file a.pool.next
  pub untouched : IsUntouched a.pool
  pub ready : a.pool.ready ≡ []
  pub room : HasRoom file (room a.pool)
