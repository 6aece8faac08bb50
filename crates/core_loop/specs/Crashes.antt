-- What follows for the files that a crash left.
use Rattle.std.specs.Prelude.{◌≡◌, ◌⊎◌, ℕ, ◌<◌, ◌≤◌, List, [], ◌∷◌, length, Bool, Option, Some, Result, IsTrue, All, Contains}
use Rattle.std.proofs.Common.{inl, inr}
use Rattle.disk_model.specs.World.{World, versions, BeginsWith}
use Rattle.qc_layout.specs.Directory.{stored_in}
use Rattle.span_algebra.specs.declared.points.Point.{Point}
use Rattle.span_algebra.specs.Timelines.{stands}
use Rattle.bitmap_model.specs.Bitmap.{StoredBitmap}
use Rattle.core_events.specs.Answers.{Answer}
use Rattle.plain_model.specs.History.{History, IsHistory, now, disk_at, timeline_of}
use Rattle.plain_model.specs.Records.{IsChain, overlay_of}
use Rattle.image_model.specs.Backups.{Backup}
use Rattle.plain_model.specs.Lawful.{IsTrueEntry, Kept, settle}
use Rattle.plain_model.specs.Laws.{IsLikeDisk}
use Rattle.core_node.specs.Files.{Reading}
use Rattle.image_model.specs.Images.{IsBackupOf}
use Rattle.core_node.specs.Rest.{Directory, Files, State, or_marked, in_session, in_closing, AreLawful}
use Rattle.core_loop.specs.declared.session.Stop.{Stop}
use Rattle.core_loop.specs.Course.{Given, Heard, Cut, Move, StageAt, last_cut}
use Rattle.core_loop.specs.Sessions.{Session}

-- ---- chains

-- the backup is what a crash left of one of the files, read whole
pub record IsLeftBackup (files : Files) (left : ℕ → Option (List ℕ)) (b : Backup) : Type 0 where
  pub file : ℕ
  pub content : List ℕ
  pub named : Contains files.backups file
  pub is : left file ≡ Some content
  pub reads : IsBackupOf content b
  pub long : length b.content ≡ b.size
  pub of_disk : b.id ≡ files.id

-- each chain of them gives the disk at its last point
abbrev pub ChainsGiveDisks : Files → History → (ℕ → Option (List ℕ)) → Type 0
ChainsGiveDisks files h left = (backups : List Backup) (p : Point) → IsChain backups p → All (IsLeftBackup files left) backups
    → IsTrue (stands p (timeline_of h)) × (overlay_of (length h.start) backups ≡ disk_at h p)

-- ---- bitmaps

-- a bitmap that an opening would trust covers what was written within its span, and the disk is that of the history itself
abbrev pub TrustedOnesCover : Files → History → List ℕ → (ℕ → Option (List ℕ)) → Type 0
TrustedOnesCover files h disk left = (c : List ℕ) (e : StoredBitmap) → left files.source ≡ Some c → Contains (stored_in c) e → IsTrue e.trusted → IsTrueEntry h e × (disk ≡ now h)

-- ---- the next session

-- what was left of the source has this disk, which a crash may leave; and a world that begins with what was left is at rest for the history as
-- it settles it, with a directory that was allowed
pub record SettlesLeft (allows : List Directory) (files : Files) (h : History) (disks : List (List ℕ)) (left : ℕ → Option (List ℕ)) : Type 0 where
  pub disk : List ℕ
  pub history_is : IsHistory h
  pub like : IsLikeDisk h disk
  pub kept : Kept disks disk
  pub covers : TrustedOnesCover files h disk left
  pub chains : ChainsGiveDisks files h left
  pub next : (earlier w : World) → BeginsWith earlier left w → AreLawful allows files (settle h disk) (disk ∷ []) w

-- these files were there
abbrev pub WereThere : Files → World → Type 0
WereThere files w = (f : ℕ) → (f ≡ files.source) ⊎ Contains files.backups f → 0 < length (versions w f)

-- the state that counts at a moment of a session's events
pub record SettlesAt (files : Files) (k : ℕ) (left : ℕ → Option (List ℕ)) (first : Cut) (moves : List Move) : Type 0 where
  pub state : State
  pub counts : StageAt k state first moves
  pub settles : SettlesLeft (in_session state) files state.machine.history state.disks left

-- A crash at any moment of a session, an opening and a closing included, leaves files that are lawful for the history that counts then, settled:
-- each chain gives the disk at its last point, each bitmap that is trusted covers its span, each sector of the disk is one that may be kept,
-- and the next session may begin. The directory is that of the moment: in an opening as it was or marked, then that of the session, in a
-- closing that or what the closing stores.
abbrev pub Survives : {T : Type 0} {reading : Reading} {own : ℕ → Type 0} {allows : List Directory} {files : Files} {name : List ℕ} {h : History} {disks : List (List ℕ)} {result : Result T Stop} {closes : Bool} {over : List ℕ → Type 0} {told : List Heard → Type 0} {given : List Given} {answer : Answer} {old new : World}
    → ℕ → (ℕ → Option (List ℕ)) → Session reading own allows files name h disks result closes over told given answer old new → Type 0
Survives {allows = allows} {files = files} {h = h} {disks = disks} k left (inl none) = SettlesLeft (or_marked allows) files h disks left
Survives {allows = allows} {files = files} {h = h} {disks = disks} k left (inr b) =
    ((k < b.first.world.now) × SettlesLeft (or_marked allows) files h disks left)
    ⊎ (((b.first.world.now ≤ k) × (k ≤ b.done.now) × SettlesAt files k left b.first b.moves)
    ⊎ ((b.done.now < k) × SettlesLeft (in_closing (last_cut b.first b.moves).state) files (last_cut b.first b.moves).state.machine.history (last_cut b.first b.moves).state.disks left))
