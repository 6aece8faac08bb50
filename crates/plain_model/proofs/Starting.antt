-- A backup that starts at the last point keeps a state sound.
use Rattle.std.proofs.Common.{rules}
use Rattle.std.proofs.Common.{arith}
use Rattle.std.proofs.lemmas.Grind.{common_steps}
use Rattle.std.proofs.Common.{◌≡◌, ℕ, List, [], ◌∷◌, ◌++◌, length, Bool, false, not, ◌&&◌, refl, sym, ap, subst, ◌∙◌}
use Rattle.std.specs.Prelude.{Option, Some, None, Ok, is_some, option_and_then}
use Rattle.span_algebra.specs.declared.points.Point.{Point}
use Rattle.span_algebra.specs.declared.spans.Base.TheVariants.{Whole}
use Rattle.span_algebra.specs.Timelines.{Timeline, with_point, IsRising}
use Rattle.bitmap_model.specs.Granules.{IsAllowed}
use Rattle.bitmap_model.specs.Bitmap.{BitmapState}
use Rattle.bitmap_model.specs.Bitmaps.{named}
use Rattle.bitmap_model.proofs.Lists.{named_all}
use Rattle.bitmap_model.proofs.Faults.{IsUsable}
use Rattle.core_events.specs.declared.commands.SyncKind.{SyncKind}
use Rattle.core_events.specs.declared.commands.SyncKind.TheVariants.{Full, Incremental, Bitmap, Nothing}
use Rattle.core_events.specs.declared.commands.BackupArgs.{BackupArgs}
use Rattle.plain_model.specs.History.{History, Reached, with_entry, timeline_of}
use Rattle.image_model.specs.Space.{Store, IsShapedStore}
use Rattle.plain_model.specs.Jobs.{Job}
use Rattle.plain_model.specs.Machine.{Machine, size_of, runners}
use Rattle.plain_model.specs.Laws.{IsFit}
use Rattle.plain_model.specs.Actions.{Held, unusable, uses_bitmap, base_for, new_job, with_job, freeze_bitmap, started_on, backup_refusal, after_backup}
use Rattle.plain_model.specs.Sound.{IsSoundBitmap, IsSoundJob, IsViewJob, IsSoundFor}
use Rattle.plain_model.proofs.Points.{timeline-reached}
use Rattle.plain_model.proofs.ChangedBitmaps.{AreKept}
use Rattle.plain_model.proofs.ActingOnBitmaps.{with_set, unrefused, bitmaps_of}
use Rattle.plain_model.proofs.NewJobs.{IsReady, new_job_sound}
use Rattle.plain_model.proofs.JoiningJobs.{IsNewAmong, job_joins, view_joins, order_with_job, order_with_view}
use Rattle.plain_model.proofs.FrozenBitmaps.{frozen_kept}
use Rattle.plain_model.proofs.Startable.{usable_none, IsStartable, backup_none}
use Rattle.plain_model.proofs.Acted.{KeepsRest, keeps_as, IsActed}

none_from : {A : Type 0} (o : Option A) → is_some o ≡ false → o ≡ None
none_from o h = grind (arith, common_steps)

-- the bitmap that a job is to use
abbrev pub found_for : Option (List ℕ) → Machine → Option BitmapState
found_for own m = option_and_then (λ name. named name m.bitmaps) own

-- nothing refuses its use
abbrev pub IsUsableFor : Option (List ℕ) → Machine → Type 0
IsUsableFor own m = option_and_then (λ name. unusable name m) own ≡ None

pub found_ready : (h : History) (m : Machine) (own : Option (List ℕ)) → IsSoundFor h m → IsUsableFor own m → IsReady (timeline_of h) (found_for own m)
found_ready h m None s usable = tt
found_ready h m (Some name) s usable =
    let b : (b : BitmapState) × IsUsable (named name m.bitmaps) b = usable_none name m usable in
    let sound : IsSoundBitmap (timeline_of h) b.0 = named_all (IsSoundBitmap (timeline_of h)) name m.bitmaps b.0 s.bitmaps_are.each b.1.there in
    subst (IsReady (timeline_of h)) (sym b.1.there) (sound, b.1.idle)

-- ---- the machine that a start makes

-- no bitmap is used
pub view_starts : (h : History) (m : Machine) (j : Job) → IsSoundFor h m → m.broken ≡ None → IsSoundJob h j → IsViewJob j → IsNewAmong j (runners m)
    → IsSoundFor h (record m { views = m.views ++ j ∷ []; created = m.created ++ j.id ∷ [] })
view_starts h m j s whole sound view new = search (rules, view_joins h m.jobs m.views j s.jobs_are sound view new, order_with_view m.jobs m.views m.created j s.order new.id)

pub job_starts : (h : History) (m : Machine) (j : Job) (bs : List BitmapState) → IsSoundFor h m → m.broken ≡ None → IsSoundJob h j → IsNewAmong j (runners m)
    → AreKept h (m.jobs ++ j ∷ []) bs → IsSoundFor h (record m { bitmaps = bs; jobs = m.jobs ++ j ∷ []; created = m.created ++ j.id ∷ [] })
job_starts h m j bs s whole sound new kept = search (rules, job_joins h m.jobs m.views j s.jobs_are sound new, order_with_job m.jobs m.views m.created j s.order new.id)

module _ (h : History) (t : Timeline) (p : Point) (is : timeline_of h ≡ with_point t p) (rising : IsRising (with_point t p)) where
  -- bitmaps and users where a push job starts
  pub push_kept : (m : Machine) (j : Job) (own : Option (List ℕ)) → j.bitmap ≡ own → j.point ≡ p → IsUsableFor own m → IsSoundFor h m
      → AreKept h (m.jobs ++ j ∷ []) (freeze_bitmap own m.bitmaps)
  push_kept m j None uses at usable s = grind (arith, common_steps)
  push_kept m j (Some name) uses at usable s =
      let b : (b : BitmapState) × IsUsable (named name m.bitmaps) b = usable_none name m usable in
      frozen_kept h t p is rising m.jobs j name m.bitmaps b.0 uses at b.1.there b.1.idle b.1.sound (bitmaps_of h m s)

  pub with_job_sound : (sync : SyncKind) (m : Machine) (j : Job) → (not (uses_bitmap sync) && is_some j.bitmap) ≡ false → (j.bitmap ≡ None → j.base ≡ Whole) → j.point ≡ p
      → IsUsableFor j.bitmap m → m.broken ≡ None → IsSoundJob h j → IsNewAmong j (runners m) → IsSoundFor h m
      → IsSoundFor h (with_job sync j (with_set m (freeze_bitmap j.bitmap m.bitmaps)))
  with_job_sound Full m j named_none full at usable whole sound new s = search (rules, job_starts, push_kept)
  with_job_sound Incremental m j named_none full at usable whole sound new s = search (rules, job_starts, push_kept)
  with_job_sound Bitmap m j named_none full at usable whole sound new s = search (rules, job_starts, push_kept)
  with_job_sound Nothing m j named_none full at usable whole sound new s =
      let free : j.bitmap ≡ None = none_from j.bitmap named_none in
      subst (λ (o : Option (List ℕ)). IsSoundFor h (record m { bitmaps = freeze_bitmap o m.bitmaps; views = m.views ++ j ∷ []; created = m.created ++ j.id ∷ [] })) (sym free)
      (view_starts h m j s whole sound (record { base_is = full free; free = free }) new)

with_job_rest : (sync : SyncKind) (m : Machine) (j : Job) (bs : List BitmapState) → KeepsRest m (with_job sync j (with_set m bs))
with_job_rest o m j bs = grind (arith, common_steps)

-- ---- the action

module _ (h0 : History) (p : Point) (rising : IsRising (with_point (timeline_of h0) p)) where
  -- a new job for a disk of this size
  pub new_job_at : (size : ℕ) (a : BackupArgs) (found : Option BitmapState) (store : Store) → length h0.start ≡ size → IsShapedStore size store → IsAllowed size store.cluster
      → IsReady (timeline_of (with_entry h0 (Reached p))) found → IsSoundJob (with_entry h0 (Reached p)) (new_job size p a found store)
  new_job_at size a found store sized shape allowed ready =
      subst (λ (n : ℕ). IsShapedStore n store → IsAllowed n store.cluster → IsSoundJob (with_entry h0 (Reached p)) (new_job n p a found store)) sized
      (λ fits fine. new_job_sound h0 p rising a store fine found fits ready) shape allowed

  pub backup_keeps : (held : List ℕ → Held) (unread : List ℕ → Bool) (a : BackupArgs) (m next : Machine) → ((name : List ℕ) → IsFit (held name))
      → IsSoundFor (with_entry h0 (Reached p)) m → after_backup held unread p a m ≡ Ok next → IsActed (with_entry h0 (Reached p)) m next
  backup_keeps held unread a m next fit s e =
      let h : History = with_entry h0 (Reached p) in
      let fine : (backup_refusal held unread a m ≡ None) × (Ok (started_on p a (held a.target) m) ≡ Ok next) =
      unrefused (backup_refusal held unread a m) (Ok (started_on p a (held a.target) m)) next e in
      let ok : IsStartable held a m = backup_none held unread a m fine.0 in
      let store : Store = ok.target.store in
      let j : Job = new_job (size_of m) p a (found_for a.bitmap m) store in
      let made : Machine = with_job a.sync j (with_set m (freeze_bitmap a.bitmap m.bitmaps)) in
      let fits : IsShapedStore (size_of m) store × IsAllowed (size_of m) store.cluster = subst IsFit ok.target.is (fit a.target) in
      let same : next ≡ made = sym (ap (λ (x : Held). started_on p a x m) (sym ok.target.is) ∙ cc (fine.1)) in
      let sound : IsSoundJob h j = new_job_at (size_of m) a (found_for a.bitmap m) store s.sized fits.0 fits.1 (found_ready h m a.bitmap s ok.usable) in
      let new : IsNewAmong j (runners m) = record { id = ok.new_id; target = ok.new_target; off_drive = ok.off_drive; few = ok.few } in
      let full : a.bitmap ≡ None → base_for p (found_for a.bitmap m) ≡ Whole = λ free. ap (λ (o : Option (List ℕ)). base_for p (found_for o m)) free in
      record {
        sound = subst (IsSoundFor h) (sym same)
            (with_job_sound h (timeline_of h0) p (timeline-reached h0 p) rising a.sync m j ok.named_none full refl ok.usable ok.whole sound new s);
        rest = keeps_as m next made same (with_job_rest a.sync m j (freeze_bitmap a.bitmap m.bitmaps));
      }
