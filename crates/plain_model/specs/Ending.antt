-- How jobs and views end, and what becomes of their bitmaps.
use Rattle.std.specs.Prelude.{ℕ, List, [], ◌∷◌, ◌++◌, map, filter, filter_map, Bool, true, not, Option, Some, None, option_map, option_and_then, find}
use Rattle.bitmap_model.specs.Bitmap.{BitmapState, when_abdicated, when_reclaimed}
use Rattle.bitmap_model.specs.Bitmaps.{changed}
use Rattle.core_events.specs.declared.commands.Mode.{Mode}
use Rattle.core_events.specs.declared.commands.Mode.TheVariants.{OnSuccess, Never}
use Rattle.core_events.specs.declared.answers.JobFault.TheVariants.{SourceBroken}
use Rattle.core_events.specs.declared.answers.Notice.{Notice}
use Rattle.core_events.specs.declared.answers.Notice.TheVariants.{Cancelled}
use Rattle.plain_model.specs.Jobs.{Job, Tried, has_id, completion, total_of, progress_of}
use Rattle.plain_model.specs.Machine.{Machine, GoneView, size_of, runners}

-- a machine, and the notices of an event so far
pub record Noted : Type 0 where
  pub machine : Machine
  pub notices : List Notice

-- ---- bitmaps

-- a job that ends gives its bitmap back: what was written since joins what it had
abbrev pub given_back : Job → BitmapState → BitmapState
given_back j b = when_reclaimed b

-- a job that completes does so by its mode
abbrev pub by_mode : Mode → Job → BitmapState → BitmapState
by_mode OnSuccess j b = when_abdicated j.point b
by_mode Never j b = when_reclaimed b

abbrev pub completed : Job → BitmapState → BitmapState
completed j b = by_mode j.mode j b

abbrev pub change_own : (Job → BitmapState → BitmapState) → Job → Option (List ℕ) → List BitmapState → List BitmapState
change_own change j None bitmaps = bitmaps
change_own change j (Some name) bitmaps = changed (change j) name bitmaps

-- the bitmaps of these jobs are changed, one after another
abbrev pub change_bitmaps : (Job → BitmapState → BitmapState) → List Job → List BitmapState → List BitmapState
change_bitmaps change [] bitmaps = bitmaps
change_bitmaps change (j ∷ jobs) bitmaps = change_bitmaps change jobs (change_own change j j.bitmap bitmaps)

-- ---- leaving

abbrev pub gone_view : ℕ → Job → GoneView
gone_view event j = record { target = j.target; event = event }

-- Jobs and views whose id passes the test leave, and the bitmaps of these jobs are changed. A view that leaves is gone from this
-- event on.
unfoldable pub leave : (Job → BitmapState → BitmapState) → (List ℕ → Bool) → Machine → Machine
leave change leaves m = record m {
  jobs = filter (λ (j : Job). not (leaves j.id)) m.jobs;
  views = filter (λ (j : Job). not (leaves j.id)) m.views;
  gone = m.gone ++ map (gone_view m.event) (filter (λ (j : Job). leaves j.id) m.views);
  created = filter (λ id. not (leaves id)) m.created;
  bitmaps = change_bitmaps change (filter (λ (j : Job). leaves j.id) m.jobs) m.bitmaps;
}

-- all of them end
abbrev pub all_left : Machine → Machine
all_left m = leave given_back (λ id. true) m

-- ---- notices

-- the notice of a stop, if the job or view of this id stopped
abbrev pub notice_of_stop : ℕ → Tried → Option Notice
notice_of_stop size t = option_map (λ fault. completion size (Some fault) t.job) t.stop

abbrev pub stop_notice : ℕ → List Tried → List ℕ → Option Notice
stop_notice size tries id = option_and_then (notice_of_stop size) (find (λ (t : Tried). has_id id t.job) tries)

-- notices of what stopped, in order of creation
abbrev pub stop_notices : ℕ → List Tried → List (List ℕ) → List Notice
stop_notices size tries created = filter_map (stop_notice size tries) created

abbrev pub cancellation : ℕ → Job → Notice
cancellation size j = Cancelled j.id (total_of size j) (progress_of size j)

-- The source breaks in this event: each push job in list order, and then each view in order of creation, ends with it.
unfoldable pub after_break : Noted → Noted
after_break n = record {
  machine = record (all_left n.machine) { broken = Some n.machine.event };
  notices = n.notices ++ map (completion (size_of n.machine) (Some SourceBroken)) (runners n.machine);
}

-- a closing cancels all jobs and views
unfoldable pub closed : Machine → Noted
closed m = record { machine = all_left m; notices = map (cancellation (size_of m)) (runners m) }
