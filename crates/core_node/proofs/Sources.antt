-- A file is one source: one id, one epoch, and one set of clusters with one room; and what is owned in one without a directory of bitmaps.
use Rattle.std.proofs.Common.{◌≡◌, ℕ, ◌-◌, ◌^◌, ◌<◌, List, [], ◌++◌, length, Bool, false, Option, Some, None, Result, Ok, Err, refl, sym, ap, ◌∙◌, arith}
use Rattle.std.specs.Prelude.{get_or}
use Rattle.std.proofs.lemmas.List.FromFn.{fill_by_all}
use Rattle.bitmap_model.specs.Granules.{granules_in, is_in}
use Rattle.qc_layout.specs.declared.entry.EntryFault.{EntryFault}
use Rattle.qc_layout.specs.declared.entry.L2Entry.{L2Entry}
use Rattle.qc_layout.specs.declared.entry.L2Entry.TheVariants as entries
use Rattle.qc_layout.specs.declared.header.Own.{Own}
use Rattle.qc_layout.specs.declared.header.Own.TheVariants as owns
use Rattle.qc_layout.specs.declared.header.Fields.{Fields}
use Rattle.qc_layout.specs.declared.header.Header.{Header}
use Rattle.qc_layout.specs.declared.header.Part.TheVariants as parts
use Rattle.qc_layout.specs.Extensions.{own_in, first_of_kind, own_kind, tail_of, kept_bytes}
use Rattle.qc_layout.specs.Spelling.{Spells}
use Rattle.qc_layout.specs.Header.{fields_of}
use Rattle.qc_layout.specs.Disks.{entry_at, table_at, refcount, reach_of}
use Rattle.qc_layout.specs.Room.{HasRoom, room_from}
use Rattle.qc_layout.specs.Room.{TablesPass}
use Rattle.qc_layout.specs.Directory.{directory_in, directory_fault}
use Rattle.qc_layout.specs.Owners.{Owner, Image, Bitmaps, Owns, Counted}
use Rattle.qc_layout.specs.Laws.{StoresNothing, LoadingIsExact}
use Rattle.qc_layout.specs.Loading.{LoadFault, image_fault}
use Rattle.qc_layout.proofs.Directories.{stores_nothing}
use Rattle.qc_layout.proofs.HeaderLaws.{one_in, fault_or_header}
use Rattle.image_model.specs.Space.{Store, Kind, Hole, kind_at, entries_in}
use Rattle.image_model.specs.Images.{IsSourceOf, HasClusters, IsKind, IsThere}
use Rattle.image_model.specs.Refusals.{FileFault, Header as Faulty, NotTarget, Record, NotAdopted, EpochSpent, Clusters, Bitmaps, IsSourceFault}
use Rattle.core_node.specs.Laws.{RefusedIsNotReady}

own_id : Own → List ℕ
own_id owns.Absent = []
own_id (owns.Source id epoch offset length) = id
own_id (owns.Target bytes) = []

own_epoch : Own → ℕ
own_epoch owns.Absent = 0
own_epoch (owns.Source id epoch offset length) = epoch
own_epoch (owns.Target bytes) = 0

one_own : {file disk other id name : List ℕ} {epoch count : ℕ} {a b : Store} (x : IsSourceOf file disk id epoch a) (y : IsSourceOf file other name count b) → owns.Source id epoch x.spans_offset x.spans_length ≡ owns.Source name count y.spans_offset y.spans_length
one_own {file} x y = sym x.own ∙ x.spelled.own ∙ ap (λ es. own_in file (first_of_kind own_kind es)) (one_in file x.spelled.extensions y.spelled.extensions x.spelled.listed y.spelled.listed) ∙ sym y.spelled.own ∙ y.own

-- what two headers that a file spells say is one
pub one_said : (file : List ℕ) (h g : Header) → Spells parts.Source file h → Spells parts.Source file g
    → (h.fields ≡ g.fields) × (h.kept.items.items ≡ g.kept.items.items)
one_said file h g x y =
    let same = one_in file x.extensions y.extensions x.listed y.listed in
    let fields = x.fields ∙ sym y.fields in (
      fields,
      x.kept ∙ ap (λ (f : Fields). tail_of file f.header_length ++ kept_bytes file x.extensions) fields
          ∙ ap (λ es. tail_of file g.fields.header_length ++ kept_bytes file es) same ∙ sym y.kept,
    )

pub one_id : {file disk other id name : List ℕ} {epoch count : ℕ} {a b : Store} → IsSourceOf file disk id epoch a → IsSourceOf file other name count b → id ≡ name
unfolding own_id
one_id x y = ap own_id (one_own x y)

pub one_epoch : {file disk other id name : List ℕ} {epoch count : ℕ} {a b : Store} → IsSourceOf file disk id epoch a → IsSourceOf file other name count b → epoch ≡ count
unfolding own_epoch
one_epoch x y = ap own_epoch (one_own x y)

same_list : {X : Type 0} (a b : List X) (d : X) → length a ≡ length b → ((k : ℕ) → k < length b → get_or a k d ≡ get_or b k d) → a ≡ b
same_list a b d long same = fill_by_all (λ k. get_or b k d) a (length b) d long same ∙ sym (fill_by_all (λ k. get_or b k d) b (length b) d refl (λ k below. refl))

one_kind_of : (e : Result L2Entry EntryFault) (a b : Kind) → IsKind e a → IsKind e b → a ≡ b
one_kind_of (Ok entries.Hole) a b x y = x ∙ sym y
one_kind_of (Ok (entries.Zero host)) a b x y = x ∙ sym y
one_kind_of (Ok (entries.Stored host)) a b x y = x ∙ sym y
one_kind_of (Ok entries.Compressed) a b x y = absurd x
one_kind_of (Err fault) a b x y = absurd x

one_there : (e : Result (Option ℕ) EntryFault) (a b : Bool) → IsThere e a → IsThere e b → a ≡ b
one_there (Ok table) a b x y = x ∙ sym y
one_there (Err fault) a b x y = absurd x

-- clusters are a function of the file
pub one_store : (file : List ℕ) (a b : Store) → HasClusters file a → HasClusters file b → a.room ≡ b.room → a ≡ b
one_store file a b x y room = λ i. record { cluster = clusters i; kinds = kinds i; tables = tables i; room = room i }
  where
    clusters : a.cluster ≡ b.cluster
    clusters = x.cluster_is ∙ sym y.cluster_is

    count : length a.kinds ≡ length b.kinds
    count = x.kind_count ∙ ap (λ (c : ℕ). granules_in ((fields_of file).size) c) clusters ∙ sym y.kind_count

    kinds : a.kinds ≡ b.kinds
    kinds = same_list a.kinds b.kinds Hole count (λ k below. one_kind_of (entry_at file k) (kind_at a k) (kind_at b k) (x.kinds_are k (omega (arith, count, below))) (y.kinds_are k below))

    wide : length a.tables ≡ length b.tables
    wide = x.table_count ∙ ap (λ (n : ℕ). granules_in n (entries_in a.cluster)) count ∙ ap (λ (c : ℕ). granules_in (length b.kinds) (entries_in c)) clusters ∙ sym y.table_count

    tables : a.tables ≡ b.tables
    tables = same_list a.tables b.tables false wide (λ k below. one_there (table_at file k) (is_in a.tables k) (is_in b.tables k) (x.tables_are k (omega (arith, wide, below))) (y.tables_are k below))

pub one_room : (file : List ℕ) (a b : ℕ) → HasRoom file a → HasRoom file b → a ≡ b
one_room file a b x y =
    let low = x.is_next.least y.next y.is_next.free in
    let high = y.is_next.least x.next x.is_next.free in
    let same : x.next ≡ y.next = omega (arith, low, high) in
    x.count ∙ ap (λ (n : ℕ). room_from file n) same ∙ sym y.count

-- ---- faults

said_own : {file disk id : List ℕ} {epoch : ℕ} {store : Store} {h : Header} → Spells parts.Source file h
    → (x : IsSourceOf file disk id epoch store) → h.own ≡ owns.Source id epoch x.spans_offset x.spans_length
said_own {file} s x =
    let same = one_in file s.extensions x.spelled.extensions s.listed x.spelled.listed in
    s.own ∙ ap (λ es. own_in file (first_of_kind own_kind es)) same ∙ sym x.spelled.own ∙ x.own

loads : LoadingIsExact → {file disk id : List ℕ} {epoch : ℕ} {store : Store} {fault : LoadFault} → IsSourceOf file disk id epoch store
    → image_fault file ≡ Some fault → ⊥
loads exact {file} {fault = fault} x is =
    differ fault (sym ((exact file x.header x.spelled).1 (record { passes = x.passes; directory = x.directory; counted = x.counted })) ∙ is)
  where
    differ : (fault : LoadFault) → None ≡ Some fault → ⊥
    differ fault is = absurd (cc)

-- where loading is exact, a source has no fault but that its last epoch is used
pub source_fault : LoadingIsExact → {file disk id : List ℕ} {epoch : ℕ} {store : Store} → IsSourceOf file disk id epoch store
    → (fault : FileFault) → IsSourceFault file fault → (fault ≡ EpochSpent) × (epoch ≡ 2 ^ 64 - 1)
unfolding own_epoch
source_fault exact {file} source (Faulty fault) is = absurd (fault_or_header parts.Source file source.header fault source.spelled is)
source_fault exact source NotTarget is = absurd is
source_fault exact source (Record fault) is = absurd is
source_fault exact {id = id} {epoch = epoch} source NotAdopted (h, spelled, own) =
    absurd (adopted id epoch source.spans_offset source.spans_length (sym (said_own spelled source) ∙ own))
  where
    adopted : (id : List ℕ) (a b c : ℕ) → owns.Source id a b c ≡ owns.Absent → ⊥
    adopted id a b c is = absurd (cc)
source_fault exact source EpochSpent (h, id, offset, size, spelled, own) = (refl, ap own_epoch (sym (said_own spelled source) ∙ own))
source_fault exact source (Clusters fault) (left, is) = absurd (loads exact source is)
source_fault exact source (Bitmaps refused) (left, is) = absurd (loads exact source is)

-- so an image that is refused isn't ready for any history, unless its last epoch is used
pub refused_is_not_ready : LoadingIsExact → RefusedIsNotReady
refused_is_not_ready exact allows id h file fault is ready = (source_fault exact ready.finds.source fault is).0

-- ---- without a directory of bitmaps

-- tables that pass the rules of an opening are the whole of what is owned
pub bare_passes : (file : List ℕ) → directory_in file ≡ None → TablesPass file → (directory_fault file ≡ None) × Counted file
bare_passes file bare passes = (nothing.faultless, record { once = once; below = below; counted = counted })
  where
    nothing : StoresNothing file
    nothing = stores_nothing file bare

    once : (a b : Owner) (k : ℕ) → Owns file a k → Owns file b k → a ≡ b
    once (Image a) (Image b) k x y = ap Image (passes.counted.once a b k x y)
    once (Image a) (Bitmaps b) k x y = absurd (nothing.held b k y)
    once (Bitmaps a) b k x y = absurd (nothing.held a k x)

    below : (a : Owner) (k : ℕ) → Owns file a k → k < reach_of file
    below (Image a) k x = passes.counted.below a k x
    below (Bitmaps a) k x = absurd (nothing.held a k x)

    counted : (a : Owner) (k : ℕ) → Owns file a k → 0 < refcount file k
    counted (Image a) k x = passes.counted.counted a k x
    counted (Bitmaps a) k x = absurd (nothing.held a k x)
