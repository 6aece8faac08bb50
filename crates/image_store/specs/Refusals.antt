-- Why an image isn't opened as a source, or isn't made one: the first rule that it fails.
use Rattle.std.specs.Prelude.{◌≡◌, ◌≢◌, ℕ, ◌-◌, ◌^◌, List, ◌==◌, if◌then◌else◌, Option, Some, None, IsTrue, is_some}
use Rattle.qc_layout.specs.declared.faults.ImageFault.TheVariants as faults
use Rattle.qc_layout.specs.declared.header.Header.{Header}
use Rattle.qc_layout.specs.declared.header.HeaderFault.TheVariants as header_faults
use Rattle.qc_layout.specs.declared.header.Own.{Own}
use Rattle.qc_layout.specs.declared.header.Own.TheVariants as owns
use Rattle.qc_layout.specs.declared.header.Part.TheVariants as parts
use Rattle.qc_layout.specs.Opening.{cluster_fault}
use Rattle.qc_layout.specs.Spelling.{Spells, IsFault}
use Rattle.image_header.specs.declared.refusals.NoHeader.{NoHeader}
use Rattle.image_header.specs.declared.refusals.NoHeader.TheVariants as headers
use Rattle.map_opening.specs.declared.refusals.MapRefusal.{MapRefusal}
use Rattle.map_opening.specs.declared.refusals.MapRefusal.TheVariants as tables
use Rattle.qc_alloc.specs.declared.refusals.ClusterRefusal.{ClusterRefusal}
use Rattle.qc_alloc.specs.declared.refusals.ClusterRefusal.TheVariants as clusters
use Rattle.image_store.specs.declared.finding.Wanted.{Wanted}
use Rattle.image_store.specs.declared.finding.Wanted.TheVariants.{Opened, Adopted}
use Rattle.image_store.specs.declared.refusals.NotOpened.{NotOpened}
use Rattle.image_store.specs.declared.refusals.NotOpened.TheVariants as refusals

-- ---- from those of the layers below

abbrev pub of_header : NoHeader → NotOpened
of_header (headers.Fault fault) = refusals.Header fault
of_header headers.Failed = refusals.Failed
of_header headers.Memory = refusals.Memory

abbrev pub of_clusters : ClusterRefusal → NotOpened
of_clusters (clusters.BadBlock at) = refusals.Clusters (faults.BadBlock at)
of_clusters (clusters.PastLimit offset) = refusals.Clusters (faults.PastLimit offset)
of_clusters (clusters.Overlap offset) = refusals.Clusters (faults.Overlap offset)
of_clusters (clusters.Uncounted offset) = refusals.Clusters (faults.Uncounted offset)
of_clusters clusters.Failed = refusals.Failed
of_clusters clusters.Memory = refusals.Memory

abbrev pub of_tables : MapRefusal → NotOpened
of_tables (tables.Reserved at) = refusals.Clusters (faults.Reserved at)
of_tables (tables.Compressed at) = refusals.Clusters (faults.Compressed at)
of_tables (tables.Misaligned at) = refusals.Clusters (faults.Misaligned at)
of_tables (tables.PastLimit offset) = refusals.Clusters (faults.PastLimit offset)
of_tables (tables.Overlap offset) = refusals.Clusters (faults.Overlap offset)
of_tables (tables.Uncounted offset) = refusals.Clusters (faults.Uncounted offset)
of_tables tables.Failed = refusals.Failed
of_tables tables.Memory = refusals.Memory

-- ---- rules

-- Why a file with this extension of the project's own isn't opened, or isn't made a source: an opening asks for an id and an epoch that isn't the
-- last, an adoption that there are none.
abbrev pub own_refusal : Wanted → Own → Option NotOpened
own_refusal Opened owns.Absent = Some refusals.NotAdopted
own_refusal Opened (owns.Source id epoch offset size) = if epoch == 2 ^ 64 - 1 then Some refusals.EpochSpent else None
own_refusal Opened (owns.Target bytes) = Some refusals.NotAdopted
own_refusal Adopted owns.Absent = None
own_refusal Adopted (owns.Source id epoch offset size) = Some refusals.AlreadyAdopted
own_refusal Adopted (owns.Target bytes) = Some refusals.AlreadyAdopted

-- the header passes, there are no bitmaps, and this is said of its own extension
pub record IsPlain (file : List ℕ) (said : Option NotOpened) (wanted : Wanted) : Type 0 where
  pub header : Header
  pub spelled : Spells parts.Source file header
  pub bare : header.bitmaps ≡ None
  pub own : own_refusal wanted header.own ≡ said

-- the header passes, and there are bitmaps
pub record HasBitmaps (file : List ℕ) : Type 0 where
  pub header : Header
  pub spelled : Spells parts.Source file header
  pub some : IsTrue (is_some header.bitmaps)

-- it is the first rule that the file fails
abbrev pub IsRefused : Wanted → List ℕ → NotOpened → Type 0
IsRefused wanted file (refusals.Header fault) = (fault ≢ header_faults.Memory) × IsFault parts.Source file fault
IsRefused wanted file refusals.Unbuilt = HasBitmaps file
IsRefused wanted file refusals.NotAdopted = IsPlain file (Some refusals.NotAdopted) wanted
IsRefused wanted file refusals.AlreadyAdopted = IsPlain file (Some refusals.AlreadyAdopted) wanted
IsRefused wanted file refusals.EpochSpent = IsPlain file (Some refusals.EpochSpent) wanted
IsRefused wanted file (refusals.Clusters fault) = IsPlain file None wanted × (cluster_fault file ≡ Some fault)
IsRefused wanted file refusals.Failed = Unit {0}
IsRefused wanted file refusals.Memory = Unit {0}
