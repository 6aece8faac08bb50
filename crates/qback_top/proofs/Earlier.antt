-- What is due, and what is left, from an earlier start: calls that only read files went before.
use Rattle.std.proofs.Common.{◌≡◌, inl, inr, ⊎_elim, ℕ, ◌^◌, ◌<◌, ◌≤◌, List, ◌++◌, length, map, take, IsTrue, IsSome, Some, None, Result, Ok, Err, IfOk, OnErr, sym, ap, subst, ◌∙◌}
use Rattle.std.specs.Prelude.{codes}
use Rattle.disk_model.specs.World.{World, Runs}
use Rattle.disk_model.proofs.Moments.{run_on, run_more}
use Rattle.qc_layout.specs.FirstForm.{IsTaken, StandsInFirstForm}
use Rattle.plain_model.specs.History.{now}
use Rattle.script_model.specs.Lines.{Line, IsScript, FirstBad}
use Rattle.qback_top.specs.Orders.{Order, order_of, printed_from}
use Rattle.qback_top.specs.declared.end.End.{End}
use Rattle.qback_top.specs.declared.end.End.TheVariants as ends
use Rattle.qback_top.specs.Open.{Spares, KeepsRest}
use Rattle.qback_top.specs.Lines.{PrintsUntilClosed, Reached}
use Rattle.qback_top.specs.Words.{IsReplay}
use Rattle.qback_top.specs.Replays.{AreThere, IsTooLong, IsUnbuilt, ReplayDue, Replayed, ReplayedInPart}
use Rattle.qback_top.specs.Endings.{Ending, NoForm, Missing, Exists, Refused, BadLine, Made, Told, Ran, looks, works_on}
use Rattle.qback_top.specs.Shown.{StopsInReplay, ShowsReplay}
use Rattle.qback_top.proofs.Replaying.{looks_within_work, StopsFrom}
use Rattle.qback_top.proofs.Saying.{said_after}

module _ {a b : World} (look : Runs looks a b) where
  abbrev found_is : (name : List ℕ) → b.found name ≡ a.found name
  found_is name = look.found name (λ none. none)

  abbrev seen_is : (f : ℕ) → b.seen f ≡ a.seen f
  seen_is f = (look.files f (λ none. none)).seen

  there_before : (words : List (List ℕ)) (file script : List ℕ) (image text : ℕ) → AreThere words b file script image text → AreThere words a file script image text
  there_before words file script image text there = record { form = there.form; is_image = sym (found_is file) ∙ there.is_image; is_text = sym (found_is script) ∙ there.is_text }

  too_long_before : (words : List (List ℕ)) (name : List ℕ) → IsTooLong words b name → IsTooLong words a name
  too_long_before words name due = (due.0, due.1, due.2, there_before words due.0 name due.1 due.2 due.3, subst (λ (t : List ℕ). 2 ^ 28 < length t) (seen_is due.2) due.4)

  unbuilt_before : (words : List (List ℕ)) (name : List ℕ) → IsUnbuilt words b name → IsUnbuilt words a name
  unbuilt_before words name due = (
    due.0,
    due.1,
    due.2,
    there_before words name due.0 due.1 due.2 due.3,
    subst (λ (t : List ℕ). length t ≤ 2 ^ 28) (seen_is due.2) due.4,
    (due.5.0, subst (λ (t : List ℕ). IsScript t due.5.0) (seen_is due.2) due.5.1),
    λ taken. due.6 (subst IsTaken (sym (seen_is due.1)) taken),
  )

  pub due_before : (words : List (List ℕ)) (ending : Ending) → ReplayDue words b ending → ReplayDue words a ending
  due_before words (Missing name) due = (
    due.0,
    due.1,
    due.2,
    ⊎_elim
        (λ (first : (name ≡ due.0) × (b.found due.0 ≡ None)). inl (first.0, sym (found_is due.0) ∙ first.1))
        (λ (second : (name ≡ due.1) × IsSome (b.found due.0) × (b.found due.1 ≡ None)). inr (second.0, subst IsSome (found_is due.0) second.1, sym (found_is due.1) ∙ second.2))
        due.3,
  )
  due_before words (Refused name reason) due = ⊎_elim
      (λ (long : IsTooLong words b name × (reason ≡ codes "ScriptTooLong")). inl (too_long_before words name long.0, long.1))
      (λ (unbuilt : IsUnbuilt words b name × (reason ≡ codes "Unbuilt")). inr (unbuilt_before words name unbuilt.0, unbuilt.1))
      due
  due_before words (BadLine n) due =
      (due.0, due.1, due.2, due.3, there_before words due.0 due.1 due.2 due.3 due.4, subst (λ (t : List ℕ). length t ≤ 2 ^ 28) (seen_is due.3) due.5, subst (λ (t : List ℕ). FirstBad t n) (seen_is due.3) due.6)
  due_before words (Ran number lines) due = (
    due.0,
    due.1,
    due.2,
    there_before words due.0 due.1 number due.2 due.3,
    subst (λ (t : List ℕ). length t ≤ 2 ^ 28) (seen_is due.2) due.4,
    subst (λ (t : List ℕ). IsScript t lines) (seen_is due.2) due.5,
    subst IsTaken (seen_is number) due.6,
  )
  due_before words NoForm due = absurd due
  due_before words (Exists name) due = absurd due
  due_before words (Made task) due = absurd due
  due_before words (Told text) due = absurd due

  part_before : (orders : List Order) (text : List ℕ) (f : ℕ) (e : World) → PrintsUntilClosed orders text f b e → PrintsUntilClosed orders text f a e
  part_before orders text f e part told = let p = part (subst IsTrue (sym look.goes.prints) told) in (p.0, p.1 ∙ ap (λ (t : List ℕ). t ++ take p.0 text) ((look.text (λ none. none)).printed), p.2)

  reached_before : {f k : ℕ} {from : List ℕ} {orders : List Order} (e : World) → Reached from orders k f b e → Reached from orders k f a e
  reached_before {f} {k} {from} {orders} e reached = record {
    disk = reached.disk;
    printed = λ told. let p = reached.printed (subst IsTrue (sym look.goes.prints) told) in (p.0, p.1 ∙ ap (λ (t : List ℕ). t ++ take p.0 (printed_from from orders)) ((look.text (λ none. none)).printed), p.2, p.3, p.4);
  }

  works_before : (f : ℕ) (e : World) → Runs (works_on f) b e → Runs (works_on f) a e
  works_before f e run = run_on (run_more (looks_within_work f) look) run

  stands_before : (f : ℕ) (disk : List ℕ) → StandsInFirstForm (a.seen f) disk → StandsInFirstForm (b.seen f) disk
  stands_before f disk = subst (λ (file : List ℕ). StandsInFirstForm file disk) (sym (seen_is f))

  pub replayed_before : (f : ℕ) (orders : List Order) (e : World) → Replayed f orders b e → Replayed f orders a e
  replayed_before f orders e done = record {
    run = works_before f e done.run;
    answers = λ told h stands. said_after e (printed_from (now h) orders) look (λ none. none) (λ prints. done.answers prints h (stands_before f (now h) stands)) told;
    stands = λ h stands. done.stands h (stands_before f (now h) stands);
    keeps = subst (λ (file : List ℕ). KeepsRest file (e.seen f)) (seen_is f) done.keeps;
    closed = done.closed;
  }

  pub begun_before : (f : ℕ) (orders : List Order) (e : World) → ReplayedInPart f orders b e → ReplayedInPart f orders a e
  begun_before f orders e begun = record {
    run = works_before f e begun.run;
    answers = λ h stands. part_before orders (printed_from (now h) orders) f e (begun.answers h (stands_before f (now h) stands));
    reached = λ h stands. let r = begun.reached h (stands_before f (now h) stands) in (r.0, reached_before e r.1);
    spares = subst (λ (file : List ℕ). Spares file (e.seen f)) (seen_is f) begun.spares;
  }

  pub stopped_before : (words : List (List ℕ)) (e : World) → StopsInReplay words b e → StopsInReplay words a e
  stopped_before words e stopped = ⊎_elim
      (λ (none : Runs looks b e). inl (run_on look none))
      (λ (some : (number : ℕ) × (lines : List Line) × ReplayDue words b (Ran number lines) × ReplayedInPart number (map order_of lines) b e). inr (some.0, some.1, due_before words (Ran some.0 some.1) some.2, begun_before some.0 (map order_of some.1) e some.3))
      stopped

  pub shows_before : (words : List (List ℕ)) (e : World) (end : End) → ShowsReplay words b e end → ShowsReplay words a e end
  shows_before words e ends.Done shows = (shows.0, shows.1, due_before words (Ran shows.0 shows.1) shows.2, replayed_before shows.0 (map order_of shows.1) e shows.3)
  shows_before words e (ends.Missing name) shows = (due_before words (Missing name.now) shows.0, run_on look shows.1)
  shows_before words e (ends.Refused name reason) shows = (due_before words (Refused name.now reason.now) shows.0, run_on look shows.1)
  shows_before words e (ends.BadLine n) shows = (due_before words (BadLine n) shows.0, run_on look shows.1)
  shows_before words e (ends.Stopped stop) shows = stopped_before words e shows
  shows_before words e ends.NoForm shows = absurd shows
  shows_before words e (ends.Exists name) shows = absurd shows

-- ---- both files are there

abbrev pub ShowsNamed : World → World → List ℕ → List ℕ → End → Type 0
ShowsNamed a e file script end = IsTrue a.tells → (words : List (List ℕ)) → IsReplay words file script → ShowsReplay words a e end

abbrev pub StopsReplay : World → World → List ℕ → List ℕ → Type 0
StopsReplay a e file script = IsTrue a.tells → (words : List (List ℕ)) → IsReplay words file script → StopsInReplay words a e

abbrev pub ShowsThere : World → World → List ℕ → List ℕ → ℕ → ℕ → End → Type 0
ShowsThere b e file script image text end = IsTrue b.tells → (words : List (List ℕ)) → AreThere words b file script image text → ShowsReplay words b e end

module _ {a b : World} (look : Runs looks a b) (file script : List ℕ) (image text : ℕ) (first : IsTrue a.tells → a.found file ≡ Some image) (second : IsTrue a.tells → a.found script ≡ Some text) where
  there_after : IsTrue a.tells → (words : List (List ℕ)) → IsReplay words file script → AreThere words b file script image text
  there_after told words form = record { form = form; is_image = look.found file (λ none. none) ∙ first told; is_text = look.found script (λ none. none) ∙ second told }

  pub found_shows : {E : Type 0} (e : World) (result : Result End E) → IfOk result (ShowsThere b e file script image text) → IfOk result (ShowsNamed a e file script)
  found_shows e (Ok end) shows = λ told words form. shows_before look words e end (shows (subst IsTrue (sym look.goes.tells) told) words (there_after told words form))
  found_shows e (Err stop) shows = tt

  pub found_stops : {T E : Type 0} (e : World) (result : Result T E) → OnErr result (StopsFrom b e file script image text) → OnErr result (StopsReplay a e file script)
  found_stops e (Ok end) stops = tt
  found_stops e (Err stop) stops = λ told words form. stopped_before look words e (stops (subst IsTrue (sym look.goes.tells) told) words (there_after told words form))

pub replay_err : {T E : Type 0} (result : Result T E) (a e : World) (file script : List ℕ) → Runs looks a e → OnErr result (StopsReplay a e file script)
replay_err (Ok x) a e file script look = tt
replay_err (Err y) a e file script look = λ told words form. inl look
