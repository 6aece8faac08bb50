-- Why the plain machine denies a request of the drive, where there are no exports, views and bitmaps.
use Rattle.std.proofs.Common.{◌≡◌, inl, ℕ, ◌+◌, List, [], ◌∷◌, length, Bool, true, false, not, ◌&&◌, ◌||◌, Option, Some, None, refl, sym, ap, ◌∙◌}
use Rattle.std.specs.Prelude.{is_some, is_none, nat_lt, ◌==◌, if◌then◌else◌, find, bytes_eq, drop}
use Rattle.std.specs.List.{starts_with}
use Rattle.std.specs.Bool.{then_some}
use Rattle.std.specs.Prelude.{nat_eq}
use Rattle.std.proofs.lemmas.Bool.{false≢true}
use Rattle.disk_model.specs.World.{World, Runs, only_file, FileFailed}
use Rattle.disk_model.proofs.Laws.{run_more}
use Rattle.bitmap_model.specs.Bitmap.{BitmapState}
use Rattle.bitmap_model.specs.Bitmaps.{named}
use Rattle.core_events.specs.Events.{Request, Guest}
use Rattle.core_events.specs.Answers.{Answer}
use Rattle.core_events.specs.declared.commands.ExportArgs.{ExportArgs}
use Rattle.core_events.specs.declared.events.Way.{Way}
use Rattle.core_events.specs.declared.events.Way.TheVariants.{Node, Export}
use Rattle.core_events.specs.declared.events.Work.{Work}
use Rattle.core_events.specs.declared.events.Work.TheVariants.{Read, Write, Zero, Flush, Status}
use Rattle.core_events.specs.declared.answers.Errno.{Errno}
use Rattle.core_events.specs.declared.answers.Errno.TheVariants.{Perm, Io, Invalid, Shutdown}
use Rattle.script_model.specs.Recording.{is_drive}
use Rattle.monitor_model.specs.Commands.{first_of}
use Rattle.plain_model.specs.Machine.{Machine, GoneView, size_of, has_target}
use Rattle.plain_model.specs.Jobs.{Job}
use Rattle.plain_model.specs.Requests.{Place, Drive, Nowhere, last_gone, view_place, export_place, is_view, is_nowhere, is_gone, is_drive_place, is_read_only, is_read_only_export, place_of, Allocation, NoContext, dirty_context, is_context, bitmap_prefix, allocation_name, is_invalid, is_write, is_flush, longest, denial}
use Rattle.core_node.specs.Standing.{Shown}
use Rattle.core_node.specs.Causes.{RequestFailed, WayFailed}
use Rattle.core_node.specs.Touches.{works_on, is_denied}
use Rattle.drive_core.specs.Drive.{on_drive, leaves_disk, is_bad, denies}

-- ---- where it leads

pub place_is : (way : Way) (m : Machine) → m.exports ≡ [] → m.views ≡ [] → m.gone ≡ [] → place_of way m ≡ (if on_drive way then Drive else Nowhere)
place_is (Node name) m exports views gone =
    ap (λ (vs : List Job). if is_drive name then Drive else view_place (find (has_target name) vs) (last_gone name m.gone)) views
    ∙ ap (λ (g : List GoneView). if is_drive name then Drive else view_place None (last_gone name g)) gone
place_is (Export name) m exports views gone = ap (λ (es : List ExportArgs). export_place (find (λ (e : ExportArgs). bytes_eq name e.name) es) m) exports

no_view : (b : Bool) → is_view (if b then Drive else Nowhere) ≡ false
no_view true = refl
no_view false = refl

writable : (way : Way) (m : Machine) → m.exports ≡ [] → m.views ≡ [] → m.gone ≡ [] → is_read_only way m ≡ false
writable (Node name) m exports views gone = ap is_view (place_is (Node name) m exports views gone) ∙ no_view (is_drive name)
writable (Export name) m exports views gone = ap (λ (es : List ExportArgs). is_read_only_export (find (λ (e : ExportArgs). bytes_eq name e.name) es) || is_view (export_place (find (λ (e : ExportArgs). bytes_eq name e.name) es) m)) exports

-- ---- the tests in order

abbrev shape : Bool → Bool → Place → Bool → Option ℕ → Option Errno
shape writes read_only place bad broken = first_of (then_some (writes && read_only) Perm ∷ then_some (is_nowhere place || bad) Invalid ∷ then_some (is_gone place) Shutdown ∷ then_some (is_drive_place place && is_some broken) Io ∷ [])

abbrev pub by_shape : Bool → Bool → Option ℕ → Option Errno
by_shape drive bad broken = if not drive || bad then Some Invalid else if is_some broken then Some Io else None

shaped : (writes drive bad : Bool) (broken : Option ℕ) → shape writes false (if drive then Drive else Nowhere) bad broken ≡ by_shape drive bad broken
shaped true true true None = refl
shaped true true true (Some n) = refl
shaped true true false None = refl
shaped true true false (Some n) = refl
shaped true false bad None = refl
shaped true false bad (Some n) = refl
shaped false true true None = refl
shaped false true true (Some n) = refl
shaped false true false None = refl
shaped false true false (Some n) = refl
shaped false false bad None = refl
shaped false false bad (Some n) = refl

context_by : (allocation dirty : Bool) → is_context (if allocation then Allocation else if dirty then dirty_context None else NoContext) ≡ allocation
context_by true dirty = refl
context_by false true = refl
context_by false false = refl

context_is : (name : List ℕ) (bitmaps : List BitmapState) → bitmaps ≡ []
    → is_context (if bytes_eq name allocation_name then Allocation else if starts_with nat_eq name bitmap_prefix then dirty_context (named (drop (length bitmap_prefix) name) bitmaps) else NoContext) ≡ bytes_eq name allocation_name
context_is name bitmaps none =
    ap (λ (bs : List BitmapState). is_context (if bytes_eq name allocation_name then Allocation else if starts_with nat_eq name bitmap_prefix then dirty_context (named (drop (length bitmap_prefix) name) bs) else NoContext)) none
    ∙ context_by (bytes_eq name allocation_name) (starts_with nat_eq name bitmap_prefix)

invalid_is : (d : Shown) (r : Request) (work : Work) (m : Machine) → m.bitmaps ≡ [] → d.size ≡ size_of m → is_invalid r work m ≡ is_bad d r work
invalid_is d r Read m none size = ap (λ (n : ℕ). nat_lt n (r.offset + r.length) || nat_lt longest r.length) (sym size)
invalid_is d r (Write fua) m none size = ap (λ (n : ℕ). nat_lt n (r.offset + r.length) || nat_lt longest r.length) (sym size)
invalid_is d r (Zero fua no_hole) m none size = ap (λ (n : ℕ). nat_lt n (r.offset + r.length)) (sym size)
invalid_is d r Flush m none size = refl
invalid_is d r (Status context one) m none size =
    ap (λ (n : ℕ). nat_lt n (r.offset + r.length) || ((r.length == 0) || not (is_context (if bytes_eq context allocation_name then Allocation else if starts_with nat_eq context bitmap_prefix then dirty_context (named (drop (length bitmap_prefix) context) m.bitmaps) else NoContext)))) (sym size)
    ∙ ap (λ (b : Bool). leaves_disk d r || ((r.length == 0) || not b)) (context_is context m.bitmaps none)

pub denial_is : (d : Shown) (r : Request) (m : Machine) → m.bitmaps ≡ [] → m.exports ≡ [] → m.views ≡ [] → m.gone ≡ [] → d.size ≡ size_of m → d.broken ≡ m.broken → denial r m ≡ denies d r
unfolding denial
denial_is d r m bitmaps exports views gone size broken =
    ap (λ (b : Bool). shape (is_write r.work) b (place_of r.way m) (is_invalid r r.work m) m.broken) (writable r.way m exports views gone)
    ∙ ap (λ (p : Place). shape (is_write r.work) false p (is_invalid r r.work m) m.broken) (place_is r.way m exports views gone)
    ∙ ap (λ (b : Bool). shape (is_write r.work) false (if on_drive r.way then Drive else Nowhere) b m.broken) (invalid_is d r r.work m bitmaps size)
    ∙ ap (λ (b : Option ℕ). shape (is_write r.work) false (if on_drive r.way then Drive else Nowhere) (is_bad d r r.work) b) (sym broken)
    ∙ shaped (is_write r.work) (on_drive r.way) (is_bad d r r.work) d.broken

-- ---- one that isn't denied

-- it leads to the drive, nothing is wrong with it, and the source isn't broken
pub record IsGranted (drive bad : Bool) (broken : Option ℕ) : Type 0 where
  pub drive_is : drive ≡ true
  pub good : bad ≡ false
  pub whole : broken ≡ None

granted_by : (drive bad : Bool) (broken : Option ℕ) → by_shape drive bad broken ≡ None → IsGranted drive bad broken
granted_by true true broken is = absurd (cc)
granted_by true false None is = record { drive_is = refl; good = refl; whole = refl }
granted_by true false (Some n) is = absurd (cc)
granted_by false bad broken is = absurd (cc)

pub granted_is : (d : Shown) (r : Request) → denies d r ≡ None → IsGranted (on_drive r.way) (is_bad d r r.work) d.broken
granted_is d r none = granted_by (on_drive r.way) (is_bad d r r.work) d.broken none

pub granted_place : (d : Shown) (r : Request) (m : Machine) → denies d r ≡ None → m.exports ≡ [] → m.views ≡ [] → m.gone ≡ [] → place_of r.way m ≡ Drive
granted_place d r m none exports views gone = place_is r.way m exports views gone ∙ ap (λ (b : Bool). if b then Drive else Nowhere) ((granted_is d r none).drive_is)

-- a fault that it meets is one of the source's file
pub failed_for : (d : Shown) (r : Request) {old new : World} → denies d r ≡ None → FileFailed d.file old new → RequestFailed d old new (Guest r)
failed_for d r {old} {new} none failed = by_way r.way (granted_is d r none).drive_is
  where
    by_way : (way : Way) → on_drive way ≡ true → WayFailed d old new way
    by_way (Node name) drive = inl failed
    by_way (Export name) drive = absurd (false≢true drive)

-- one that writes or flushes may write the source
pub may_work : (d : Shown) (r : Request) (after : Shown) (answer : Answer) {old new : World} → denies d r ≡ None → is_denied answer.reply ≡ false → (is_write r.work || is_flush r.work) ≡ true
    → Runs (only_file d.file) old new → Runs (works_on d after new (Guest r) answer) old new
may_work d r after answer none carried writes run = run_more (record {
  files = λ g is. ((rw (ap is_none (granted_is d r none).whole, carried) refl), inl (writes, is));
  reads = λ g is. inl is;
  names = λ name none. none;
  text = λ none. none;
  wire = λ none. none;
}) run
