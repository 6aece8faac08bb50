-- A run that came to its end as was due, and was reported, ends as is due.
use Rattle.std.proofs.Common.{◌≡◌, ◌<◌, inl, inr, ⊎_elim, ℕ, List, map, IsTrue, sym, subst}
use Rattle.disk_model.specs.World.{World, Runs, IsNameless, only_text}
use Rattle.disk_model.proofs.Laws.{Within, run_more, run_on, stay}
use Rattle.qback_top.specs.declared.end.End.{End}
use Rattle.qback_top.specs.declared.end.End.TheVariants as ends
use Rattle.qback_top.specs.declared.stop.Stop.{Stop}
use Rattle.qback_top.specs.declared.stop.Stop.TheVariants as stops
use Rattle.qback_top.specs.declared.words.Task.{Task}
use Rattle.qback_top.specs.declared.words.Task.TheVariants.{CreateSource, CreateTarget, Info, Replay}
use Rattle.qback_top.specs.Endings.{NoForm, Missing, Exists, Refused, BadLine, Made, Told, Ran, looks, works_on_names, creates, MakesAlone, Says, line_of, LooksAndTells}
use Rattle.qback_top.specs.Orders.{order_of}
use Rattle.qback_top.specs.Replays.{Replayed}
use Rattle.qback_top.specs.Creations.{Makes, Created}
use Rattle.qback_top.specs.Ends.{Stopped, EndsAsDue, Touches}
use Rattle.qback_top.specs.Words.{HaveNoForm, IsTask}
use Rattle.qback_top.specs.Shown.{ShowsReplay, ShowsCreation, ShowsInfo, Shows, NeedsRise, Reports, TouchesBy, status_at}
use Rattle.qback_top.proofs.Informing.{text_within_tells, tells_then_text}
use Rattle.qback_top.proofs.Replaying.{names_later}
use Rattle.qback_top.proofs.OneTask.{one_task}

-- the words have no form
pub no_form_due : (words : List (List ℕ)) (old new : World) (status : ℕ) → HaveNoForm words → Says (line_of NoForm) old new → status ≡ 1 → EndsAsDue words old new status
no_form_due words old new status none said is = inl (NoForm, none, is, record { before = old; looked = stay looks old; said = said })

module _ (words : List (List ℕ)) (old mid new : World) (status : ℕ) where
  -- it stopped early
  pub stopped_due : (stop : Stop) → Stopped words old mid → NeedsRise old mid (ends.Stopped stop) → Reports mid new (ends.Stopped stop) → status ≡ status_at (ends.Stopped stop) → EndsAsDue words old new status
  stopped_due stops.Fault stopped needs reports is = inr (inl (is, record { before = mid; stopped = stopped; cause = needs; said = reports }))
  stopped_due stops.Memory stopped needs reports is = inr (inr (is, record { before = mid; stopped = stopped; cause = tt; said = reports }))

  replay_due : (end : End) → ShowsReplay words old mid end → NeedsRise old mid end → Reports mid new end → status ≡ status_at end → EndsAsDue words old new status
  replay_due ends.Done shows needs reports is = inl (Ran shows.0 shows.1, inl shows.2, is, subst (λ (w : World). Replayed shows.0 (map order_of shows.1) old w) (sym reports) shows.3)
  replay_due (ends.Missing name) shows needs reports is = inl (Missing name.now, inl shows.0, is, record { before = mid; looked = shows.1; said = reports })
  replay_due (ends.Refused name reason) shows needs reports is = inl (Refused name.now reason.now, inl shows.0, is, record { before = mid; looked = shows.1; said = reports })
  replay_due (ends.BadLine n) shows needs reports is = inl (BadLine n, inl shows.0, is, record { before = mid; looked = shows.1; said = reports })
  replay_due (ends.Stopped stop) shows needs reports is = stopped_due stop (⊎_elim (λ look. inl look) (λ part. inr (inl part)) shows) needs reports is
  replay_due ends.NoForm shows needs reports is = absurd shows
  replay_due (ends.Exists name) shows needs reports is = absurd shows

  creation_due : (end : End) → ShowsCreation words old mid end → NeedsRise old mid end → Reports mid new end → status ≡ status_at end → EndsAsDue words old new status
  creation_due ends.Done shows needs reports is = inl (Made shows.0, inr (inl shows.3), is, (shows.1, shows.2, subst (λ (w : World). Created shows.0 shows.1 shows.2 old w) (sym reports) shows.4))
  creation_due (ends.Exists name) shows needs reports is = inl (Exists name.now, inr (inl shows.0), is, record { before = mid; looked = shows.1; said = reports })
  creation_due (ends.Stopped stop) shows needs reports is = stopped_due stop (⊎_elim (λ look. inl look) (λ part. inr (inr (inl part))) shows) needs reports is
  creation_due ends.NoForm shows needs reports is = absurd shows
  creation_due (ends.Missing name) shows needs reports is = absurd shows
  creation_due (ends.Refused name reason) shows needs reports is = absurd shows
  creation_due (ends.BadLine n) shows needs reports is = absurd shows

  info_due : (end : End) → ShowsInfo words old mid end → NeedsRise old mid end → Reports mid new end → status ≡ status_at end → EndsAsDue words old new status
  info_due ends.Done shows needs reports is = inl (Told shows.0, inr (inr shows.1), is, subst (λ (w : World). LooksAndTells shows.0 old w) (sym reports) shows.2)
  info_due (ends.Missing name) shows needs reports is = inl (Missing name.now, inr (inr shows.0), is, record { before = mid; looked = shows.1; said = reports })
  info_due (ends.Refused name reason) shows needs reports is = inl (Refused name.now reason.now, inr (inr shows.0), is, record { before = mid; looked = shows.1; said = reports })
  info_due (ends.Stopped stop) shows needs reports is = stopped_due stop (⊎_elim (λ look. inl look) (λ part. inr (inr (inr part))) shows) needs reports is
  info_due ends.NoForm shows needs reports is = absurd shows
  info_due (ends.Exists name) shows needs reports is = absurd shows
  info_due (ends.BadLine n) shows needs reports is = absurd shows

  pub ends_due : (end : End) → Shows words old mid end → NeedsRise old mid end → Reports mid new end → status ≡ status_at end → EndsAsDue words old new status
  ends_due end shows needs reports is = ⊎_elim (λ replays. replay_due end replays needs reports is)
      (⊎_elim (λ creates_it. creation_due end creates_it needs reports is) (λ tells. info_due end tells needs reports is))
      shows

-- ---- what a task touches, and then a print

text_within_names : (name other : List ℕ) (w : World) → Within only_text (works_on_names name other w)
text_within_names name other w = record { files = λ g none. absurd none; reads = λ g none. absurd none; names = λ other none. absurd none; text = λ is. is; wire = λ none. absurd none }

text_within_creates : (name : List ℕ) (f : ℕ) → Within only_text (creates name f)
text_within_creates name f = record { files = λ g none. absurd none; reads = λ g none. absurd none; names = λ other none. absurd none; text = λ is. is; wire = λ none. absurd none }

-- work on files of names, and then a print
names_then_text : (name other : List ℕ) (a b c : World) → Runs (works_on_names name other b) a b → Runs only_text b c → Runs (works_on_names name other c) a c
names_then_text name other a b c work print = run_on (names_later name other work print) (run_more (text_within_names name other c) print)

-- a file that was made alone, and then a print
made_then_text : (name : List ℕ) (a b c : World) → MakesAlone name a b → Runs only_text b c → MakesAlone name a c
made_then_text name a b c made print = ⊎_elim
    (λ (text : Runs only_text a b). inl (run_on text print))
    (λ (file : (f : ℕ) × (IsTrue a.tells → IsNameless a f) × Runs (creates name f) a b × (f < a.given → a.named f ≡ name)). inr (file.0, file.1, run_on file.2 (run_more (text_within_creates name file.0) print), file.3))
    made

pub touched_then_text : (task : Task) (a b c : World) → TouchesBy task a b → Runs only_text b c → TouchesBy task a c
touched_then_text (CreateSource file size bits id) a b c touched print = made_then_text file a b c touched print
touched_then_text (CreateTarget file size bits under) a b c touched print = made_then_text file a b c touched print
touched_then_text (Info file) a b c touched print = tells_then_text file a b c touched print
touched_then_text (Replay file script) a b c touched print = names_then_text file script a b c touched print

-- a print alone
pub text_touches : (task : Task) (a b : World) → Runs only_text a b → TouchesBy task a b
text_touches (CreateSource file size bits id) a b print = inl print
text_touches (CreateTarget file size bits under) a b print = inl print
text_touches (Info file) a b print = run_more (text_within_tells file b) print
text_touches (Replay file script) a b print = run_more (text_within_names file script b) print

-- a task that makes a file touches that file alone
makes_touches : (task : Task) (name : List ℕ) (a b : World) → Makes task name → TouchesBy task a b → MakesAlone name a b
makes_touches (CreateSource file size bits id) name a b is touched = subst (λ (n : List ℕ). MakesAlone n a b) (sym is) touched
makes_touches (CreateTarget file size bits under) name a b is touched = subst (λ (n : List ℕ). MakesAlone n a b) (sym is) touched
makes_touches (Info file) name a b is touched = absurd is
makes_touches (Replay file script) name a b is touched = absurd is

-- what the task of the words touches
pub touches_as : (words : List (List ℕ)) (task : Task) (a b : World) → IsTask words task → TouchesBy task a b → Touches words a b
touches_as words task a b says touched = record {
  text = λ none. absurd (none task says);
  replays = λ file script form. subst (λ (t : Task). TouchesBy t a b) (one_task words task (Replay file script) says form) touched;
  tells = λ file form. subst (λ (t : Task). TouchesBy t a b) (one_task words task (Info file) says form) touched;
  makes = λ other name form makes. makes_touches other name a b makes (subst (λ (t : Task). TouchesBy t a b) (one_task words task other says form) touched);
}

-- a print alone
pub text_as : (words : List (List ℕ)) (a b : World) → Runs only_text a b → Touches words a b
text_as words a b print = record {
  text = λ none. print;
  replays = λ file script form. text_touches (Replay file script) a b print;
  tells = λ file form. text_touches (Info file) a b print;
  makes = λ task name form makes. makes_touches task name a b makes (text_touches task a b print);
}
