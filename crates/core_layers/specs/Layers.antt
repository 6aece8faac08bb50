-- What the layers below export, over bytes alone: no history is named here.
use Rattle.std.specs.Prelude.{◌≡◌, ◌⊎◌, ℕ, ◌+◌, ◌-◌, ◌*◌, ◌^◌, ◌<◌, ◌≤◌, List, [], ◌∷◌, ◌++◌, length, slice_index, false, Option, Some, None, IsTrue, All, Contains}
use Rattle.disk_model.specs.Files.{overlay}
use Rattle.disk_model.specs.World.{World, EachSince, Holds, Leads, Rose, FileFailed, SameFile}
use Rattle.span_algebra.specs.declared.points.Point.{Point}
use Rattle.span_algebra.specs.declared.spans.Base.{Base}
use Rattle.bitmap_model.specs.Granules.{is_in}
use Rattle.bitmap_model.specs.Bitmap.{StoredBitmap}
use Rattle.qc_layout.specs.Records.{record_of}
use Rattle.qc_layout.specs.Room.{HasRoom}
use Rattle.qc_layout.specs.Directory.{stored_in}
use Rattle.plain_model.specs.History.{History, IsHistory, Wrote, now, timeline_of, with_entry}
use Rattle.qc_layout.specs.Owners.{Tight}
use Rattle.image_model.specs.Space.{Store, IsShapedStore, AreEither, is_data, kind_at}
use Rattle.image_model.specs.declared.refusals.CloseRefusal.{CloseRefusal}
use Rattle.image_model.specs.declared.refusals.CloseRefusal.TheVariants as unclosed
use Rattle.image_model.specs.Backups.{Backup, Sealed}
use Rattle.plain_model.specs.Lawful.{IsTrueEntry, IsOfEpoch, Kept}
use Rattle.plain_model.specs.Step.{IsTorn}
use Rattle.core_node.specs.Rest.{Directory, Mixes, marked, IsReady, IsSafe}
use Rattle.core_node.specs.Ends.{KeepsHeader, RewritesHeader, IsHeadKnown, AreInUse}
use Rattle.core_node.specs.Step.{HasHead}
use Rattle.core_node.specs.Files.{IsLawfulTarget}
use Rattle.image_model.specs.Images.{IsSourceOf, HasClusters, IsBackupFile, IsBackupOf, is_blank}
use Rattle.bitmap_model.specs.Bitmaps.{AreShapedEntries}

-- ---- the source

-- A source in order: it passes the rules of an opening, stands for this disk, in whole sectors, and its epoch and what it stores of bitmaps
-- are these, in shape.
pub record IsInOrder (id : List ℕ) (d : Directory) (disk file : List ℕ) : Type 0 where
  pub store : Store
  pub source : IsSourceOf file disk id d.epoch store
  pub room : HasRoom file store.room
  pub sectors : ℕ
  pub whole : length disk ≡ sectors * 512
  pub entries_are : stored_in file ≡ d.entries
  pub shape : AreShapedEntries (length disk) d.entries
  pub store_shape : IsShapedStore (length disk) store

-- none of its bitmaps can be trusted
abbrev pub NoneTrusted : Directory → Type 0
NoneTrusted d = (e : StoredBitmap) → Contains d.entries e → IsTrue e.trusted → ⊥

-- A crash within a session leaves this: a source in order, each sector of its disk that of one of these disks, with its bitmaps in use.
pub record IsMixed (id : List ℕ) (d : Directory) (mixed : List (List ℕ)) (file : List ℕ) : Type 0 where
  pub disk : List ℕ
  pub kept : Kept mixed disk
  pub in_order : IsInOrder id d disk file
  pub in_use : NoneTrusted d

-- What a write of the source leads to, whatever it answered: its range reads so now, and a crash may mix that disk too.
pub record WritesDisk (file : ℕ) (id : List ℕ) (d : Directory) (at : ℕ) (bytes left disk : List ℕ) (mixed : List (List ℕ)) (holds : List ℕ → List (List ℕ) → Type 0) (old new : World) : Type 0 where
  pub torn : IsTorn disk at bytes left
  pub since : EachSince new old.now file (IsMixed id d (mixed ++ overlay disk at left ∷ []))
  pub after : holds (overlay disk at left) (mixed ++ overlay disk at left ∷ [])

-- ---- what an image shows, and what becomes of its clusters

-- What no request changes: its file, the id of its disk and the disk's size, and of the session the epoch and what the directory stores of bitmaps.
pub record Facts : Type 0 where
  pub file : ℕ
  pub id : List ℕ
  pub size : ℕ
  pub directory : Directory

-- Each kind and each table is as before or as the request makes it, and no more room went than it needs.
pub record Spends (old goal new : Store) (most : ℕ) : Type 0 where
  pub either : AreEither old goal new
  pub least : old.room ≤ new.room + most
  pub most_is : new.room ≤ old.room

-- It broke, in the event that is carried out, where a write or a sync of its file failed; or it is as it was.
abbrev pub MayBreak : ℕ → ℕ → Option ℕ → Option ℕ → World → World → Type 0
MayBreak file event was is old new =
    (is ≡ was) ⊎ ((was ≡ None) × (is ≡ Some event) × Rose old.faults.shared new.faults.shared × Rose (old.faults.writes file) (new.faults.writes file))

-- the first cluster, or what is asked of it, stays, as reads give it and in each crash
abbrev pub KeepsHead : ℕ → ℕ → World → World → Type 0
KeepsHead file cluster old new = (start : List ℕ) → length start ≤ cluster → Leads file (HasHead start) (HasHead start) (HasHead start) (HasHead start) (HasHead start) old new

-- An opening of an image of this id, directory and disk: it stands for the very disk with the next epoch, has the clusters that were found, and says in its header what it
-- said but for what marks it.
pub record Opens (id : List ℕ) (d : Directory) (disk : List ℕ) (file : ℕ) (facts : Facts) (space : Store) (holds : List ℕ → List (List ℕ) → Type 0) (old new : World) : Type 0 where
  pub id_is : facts.id ≡ id
  pub directory_is : facts.directory ≡ marked d
  pub epoch_left : d.epoch < 2 ^ 64 - 1
  pub size_is : facts.size ≡ length disk
  pub holds_it : holds disk (disk ∷ [])
  pub space_is : (store : Store) → HasClusters (old.seen file) store → HasRoom (old.seen file) store.room → space ≡ store
  pub header : RewritesHeader (old.seen file) (new.seen file)
  pub head : IsHeadKnown file new
  pub in_use : AreInUse (new.seen file)

-- A closing that was answered Ok: reads and each crash from then on give the very disk, with the kinds and tables of the session and no cluster counted that
-- nothing refers to, under the same header.
pub record IsClosed (facts : Facts) (space : Store) (disk : List ℕ) (old new : World) : Type 0 where
  pub rest : Holds facts.file (IsInOrder facts.id facts.directory disk) (IsInOrder facts.id facts.directory disk) new
  pub store : Store
  pub has_clusters : HasClusters (new.seen facts.file) store
  pub has_room : HasRoom (new.seen facts.file) store.room
  pub kinds_are : store.kinds ≡ space.kinds
  pub tables_are : store.tables ≡ space.tables
  pub tight : Tight (new.seen facts.file)
  pub in_use : AreInUse (new.seen facts.file)
  pub header : RewritesHeader (old.seen facts.file) (new.seen facts.file)

-- Why a closing isn't answered Ok: it broke, and nothing is called; or a call on its file failed.
abbrev pub NotClosedBy : CloseRefusal → ℕ → Option ℕ → World → World → Type 0
NotClosedBy (unclosed.Broken event) file broken old new = (broken ≡ Some event) × SameFile file old new
NotClosedBy unclosed.NoRoom file broken old new = ⊥
NotClosedBy unclosed.Failed file broken old new = (broken ≡ None) × FileFailed file old new
NotClosedBy unclosed.Memory file broken old new = ⊥

-- A closing may store this directory in a session's place: no point is of a later epoch, and its bitmaps say true things where they can be trusted.
pub record MayClose (d closing : Directory) (h : History) (mixed : List (List ℕ)) : Type 0 where
  pub history_is : IsHistory h
  pub mixes : Mixes h mixed
  pub epochs : All (IsOfEpoch d.epoch) (timeline_of h).entries
  pub later : All (IsOfEpoch closing.epoch) (timeline_of h).entries
  pub none : NoneTrusted d
  pub truths : All (λ (e : StoredBitmap). IsTrue e.trusted → IsTrueEntry h e) closing.entries

-- What an opening leaves from its first sync on, and in reads: the very disk, with the directory as it was, or marked.
abbrev pub IsFound : List ℕ → Directory → List ℕ → List ℕ → Type 0
IsFound id d disk file = IsInOrder id d disk file ⊎ IsInOrder id (marked d) disk file

-- Besides, its header says what it said, and its bitmaps are as they were, or in use.
abbrev pub KeepsOrMarks : List ℕ → Directory → List ℕ → Type 0
KeepsOrMarks before d file = KeepsHeader before file × ((stored_in file ≡ d.entries) ⊎ AreInUse file)

-- ---- a target

-- a backup file in order that claims nothing: its record is blank, and nothing is present, or it was begun
pub record ClaimsNothing (file : List ℕ) : Type 0 where
  pub bytes : List ℕ
  pub store : Store
  pub in_order : IsBackupFile file bytes store
  pub empty : (others : List ℕ) (other : Store) (n : ℕ) → IsBackupFile file others other → IsTrue (is_blank (record_of others).state) → is_data (kind_at other n) ≡ false
  pub unsealed : (b : Backup) → IsBackupOf file b → (base : Base) (p : Point) → b.state ≡ Sealed base p → ⊥

-- a backup file in order, that reads as this sealed one and as no other
pub record IsSealedFile (sealed : Backup) (file : List ℕ) : Type 0 where
  pub bytes : List ℕ
  pub store : Store
  pub in_order : IsBackupFile file bytes store
  pub not_blank : (others : List ℕ) (other : Store) → IsBackupFile file others other → IsTrue (is_blank (record_of others).state) → ⊥
  pub reads : IsBackupOf file sealed
  pub alone : (b : Backup) → length b.content ≡ b.size → IsBackupOf file b → b ≡ sealed

-- unit n isn't present, or it is and reads as these bytes
abbrev pub HasUnit : Backup → ℕ → Option (List ℕ) → Type 0
HasUnit b n None = is_in b.present n ≡ false
HasUnit b n (Some bytes) = IsTrue (is_in b.present n) × ((t : ℕ) → t < length bytes → t < b.unit → slice_index b.content (n * b.unit + t) ≡ slice_index bytes t)

-- ---- an event, as the core sees it

-- A guest's write, over a source and the target of a job: each crash within it leaves both lawful for the history before it, and each crash after
-- it for the history that has the bytes that the range reads now. What both layers know of their files goes on.
pub record CarriesWrite (source target : ℕ) (id : List ℕ) (d : Directory) (at : ℕ) (bytes : List ℕ) (well : Type 0) (h : History) (mixed : List (List ℕ))
    (holds : List ℕ → List (List ℕ) → Type 0) (claims : Type 0) (old new : World) : Type 0 where
  pub left : List ℕ
  pub whole : well → left ≡ bytes
  pub torn : IsTorn (now h) at bytes left
  pub crashes : EachSince new old.now source (IsSafe (d ∷ []) id h (mixed ++ now (with_entry h (Wrote at left)) ∷ []))
  pub holds_on : holds (now (with_entry h (Wrote at left))) (mixed ++ now (with_entry h (Wrote at left)) ∷ [])
  pub safe : Holds source (IsReady (d ∷ []) id (with_entry h (Wrote at left))) (IsSafe (d ∷ []) id (with_entry h (Wrote at left)) (mixed ++ now (with_entry h (Wrote at left)) ∷ [])) new
  pub history_is : IsHistory (with_entry h (Wrote at left))
  pub target_crashes : EachSince new old.now target (IsLawfulTarget id h)
  pub target_claims : claims
  pub target_holds : Holds target (IsLawfulTarget id (with_entry h (Wrote at left))) (IsLawfulTarget id (with_entry h (Wrote at left))) new
