-- What holds of each state that a machine comes to.
use Rattle.std.specs.Prelude.{◌≡◌, ℕ, ◌/◌, ◌<◌, ◌≤◌, List, [], ◌∷◌, ◌++◌, length, map, filter, count_by, Bool, false, Option, Some, None, is_some, All, IsTrue, IsPermutation, slice_index, if◌then◌else◌, bytes_eq}
use Rattle.std.specs.List.{list_any}
use Rattle.span_algebra.specs.declared.points.Point.{Point}
use Rattle.span_algebra.specs.declared.points.End.TheVariants.{Now, At}
use Rattle.span_algebra.specs.declared.spans.Base.{Base}
use Rattle.span_algebra.specs.declared.spans.Base.TheVariants.{Whole, Since, Loose}
use Rattle.span_algebra.specs.Points.{not_after}
use Rattle.span_algebra.specs.Timelines.{Timeline, with_point, IsRising, stands}
use Rattle.span_algebra.specs.Spans.{that_pass, AllTouched}
use Rattle.bitmap_model.specs.Granules.{granules_in, is_in}
use Rattle.bitmap_model.specs.Bitmap.{BitmapState, is_busy, successor_has, IsTrueBitmap, IsShapedBitmap}
use Rattle.bitmap_model.specs.BitmapLaws.{IsRecordedToNow, IsBlank}
use Rattle.bitmap_model.specs.Bitmaps.{named, is_name, most_bitmaps, AreApart}
use Rattle.bitmap_model.specs.Copies.{is_missing, IsPart}
use Rattle.core_events.specs.declared.commands.ExportArgs.{ExportArgs}
use Rattle.script_model.specs.Recording.{is_drive}
use Rattle.plain_model.specs.History.{History, IsHistory, now, disk_at, timeline_of}
use Rattle.image_model.specs.Space.{IsShapedStore}
use Rattle.plain_model.specs.Jobs.{Job, unit_of, has_id}
use Rattle.plain_model.specs.Machine.{Machine, GoneView, size_of, next_point, runners, last_number}
use Rattle.plain_model.specs.Actions.{most_jobs}
use Rattle.plain_model.specs.Queries.{most_exports}

-- ---- bitmaps

-- for what happened, a bitmap's sets are in shape, its span is true, and one that is inconsistent has a name and a granularity alone
pub record IsSoundBitmap (h : Timeline) (b : BitmapState) : Type 0 where
  pub name_is : IsTrue (is_name b.name)
  pub shape : IsShapedBitmap h.start b
  pub span_is : IsTrueBitmap h b
  pub recorded : IsRecordedToNow b
  pub blank : IsTrue b.inconsistent → IsBlank b
  pub kept : IsTrue b.inconsistent → IsTrue b.persistent

pub record AreSoundBitmaps (h : Timeline) (bitmaps : List BitmapState) : Type 0 where
  pub each : All (IsSoundBitmap h) bitmaps
  pub apart : AreApart bitmaps
  pub few : length bitmaps ≤ most_bitmaps

-- ---- jobs and views

-- the sets have a truth value for each unit of the disk, and what is copied is of the scope
pub record IsShapedJob (size : ℕ) (j : Job) : Type 0 where
  pub store_shape : IsShapedStore size j.store
  pub scope_count : length j.scope ≡ granules_in size (unit_of j)
  pub copied_count : length j.copied ≡ length j.scope
  pub in_scope : IsPart j.copied j.scope

-- the base was drawn, no later than the point, and what was written between them lies in the scope
pub record ScopeCovers (h : History) (j : Job) (a : Point) : Type 0 where
  pub drawn : IsTrue (stands a (timeline_of h))
  pub order : IsTrue (not_after a j.point)
  pub changes : AllTouched (that_pass (λ x. is_in j.scope (x / unit_of j))) (timeline_of h) a (At j.point)

abbrev pub ScopeHolds : History → Job → Base → Type 0
ScopeHolds h j Whole = (x : ℕ) → x < length h.start → IsTrue (is_in j.scope (x / unit_of j))
ScopeHolds h j (Since a) = ScopeCovers h j a
ScopeHolds h j Loose = Unit {0}

-- for what happened, a job's point was drawn, its scope is what its record will claim, and what isn't copied yet still stands on the disk
pub record IsSoundJob (h : History) (j : Job) : Type 0 where
  pub shape : IsShapedJob (length h.start) j
  pub drawn : IsTrue (stands j.point (timeline_of h))
  pub scope_is : ScopeHolds h j j.base
  pub missing : (x : ℕ) → x < length h.start → IsTrue (is_missing j.scope j.copied (x / unit_of j)) → slice_index (now h) x ≡ slice_index (disk_at h j.point) x

-- a view has all units as its scope, and no bitmap
pub record IsViewJob (j : Job) : Type 0 where
  pub base_is : j.base ≡ Whole
  pub free : j.bitmap ≡ None

-- the test passes for none of the list, for each of which it was made
abbrev pub Differ : {A : Type 0} → (A → A → Bool) → List A → Type 0
Differ same [] = Unit {0}
Differ same (a ∷ rest) = (list_any (same a) rest ≡ false) × Differ same rest

abbrev pub have_one_id : Job → Job → Bool
have_one_id i j = bytes_eq i.id j.id

abbrev pub have_one_target : Job → Job → Bool
have_one_target i j = bytes_eq i.target j.target

abbrev pub is_on_drive : Job → Bool
is_on_drive j = is_drive j.target

-- ids and targets differ, no target is the drive, and there are as many jobs and views as there may be at most
pub record AreSoundJobs (h : History) (jobs views : List Job) : Type 0 where
  pub each : All (IsSoundJob h) (jobs ++ views)
  pub are_views : All IsViewJob views
  pub ids : Differ have_one_id (jobs ++ views)
  pub targets : Differ have_one_target (jobs ++ views)
  pub off_drive : list_any is_on_drive (jobs ++ views) ≡ false
  pub few : length (jobs ++ views) ≤ most_jobs

-- the order of creation has the id of each job and view once, and the views in their order
pub record AreInOrder (jobs views : List Job) (created : List (List ℕ)) : Type 0 where
  pub all : IsPermutation (map (λ (j : Job). j.id) (jobs ++ views)) created
  pub in_order : filter (λ id. list_any (has_id id) views) created ≡ map (λ (j : Job). j.id) views

-- ---- jobs and their bitmaps

abbrev pub is_own : List ℕ → Option (List ℕ) → Bool
is_own name None = false
is_own name (Some own) = bytes_eq name own

abbrev pub uses : List ℕ → Job → Bool
uses name j = is_own name j.bitmap

-- a bitmap is busy exactly where one push job uses it, and no two do
abbrev pub IsUsedOnce : List Job → BitmapState → Type 0
IsUsedOnce jobs b = count_by (uses b.name) jobs ≡ (if is_busy b then 1 else 0)

-- while it is recording, the successor alone has what was written since the job's point
abbrev pub SuccessorHolds : History → Point → Option BitmapState → Type 0
SuccessorHolds h p None = ⊥
SuccessorHolds h p (Some b) = IsTrue b.recording → AllTouched (that_pass (successor_has b.successor)) (timeline_of h) p Now

-- the bitmap of a job is there
abbrev pub HasItsBitmap : History → List BitmapState → Job → Option (List ℕ) → Type 0
HasItsBitmap h bitmaps j None = Unit {0}
HasItsBitmap h bitmaps j (Some name) = SuccessorHolds h j.point (named name bitmaps)

pub record AreUsers (h : History) (jobs : List Job) (bitmaps : List BitmapState) : Type 0 where
  pub once : All (IsUsedOnce jobs) bitmaps
  pub there : All (λ (j : Job). HasItsBitmap h bitmaps j j.bitmap) jobs

-- ---- exports

abbrev pub have_one_export_id : ExportArgs → ExportArgs → Bool
have_one_export_id e f = bytes_eq e.id f.id

abbrev pub have_one_export_name : ExportArgs → ExportArgs → Bool
have_one_export_name e f = bytes_eq e.name f.name

-- ids and names differ, the drive alone can be written, and there are as many as there may be at most
pub record AreSoundExports (exports : List ExportArgs) : Type 0 where
  pub ids : Differ have_one_export_id exports
  pub names : Differ have_one_export_name exports
  pub writable_ones : All (λ (e : ExportArgs). IsTrue e.writable → IsTrue (is_drive e.node)) exports
  pub few : length exports ≤ most_exports

-- ---- the whole state

-- for this history, which may go on beyond the machine's by the point of a command that is carried out
pub record IsSoundFor (h : History) (m : Machine) : Type 0 where
  pub sized : length h.start ≡ size_of m
  pub bitmaps_are : AreSoundBitmaps (timeline_of h) m.bitmaps
  pub jobs_are : AreSoundJobs h m.jobs m.views
  pub order : AreInOrder m.jobs m.views m.created
  pub users : AreUsers h m.jobs m.bitmaps
  pub exports_are : AreSoundExports m.exports
  pub store_shape : IsShapedStore (size_of m) m.store
  -- a broken source has no jobs or views
  pub quiet : IsTrue (is_some m.broken) → runners m ≡ []

-- numbers are no greater than the last, and none of an event is in the future
pub record AreNumbers (m : Machine) : Type 0 where
  pub serials : m.serial ≤ last_number
  pub events : m.event ≤ last_number
  pub broken_at : (n : ℕ) → m.broken ≡ Some n → n ≤ m.event
  pub gone_at : All (λ (v : GoneView). v.event ≤ m.event) m.gone

pub record IsSound (m : Machine) : Type 0 where
  pub history_is : IsHistory m.history
  -- each point stands before the next one
  pub next : IsRising (with_point (timeline_of m.history) (next_point m))
  pub state : IsSoundFor m.history m
  pub numbers : AreNumbers m
