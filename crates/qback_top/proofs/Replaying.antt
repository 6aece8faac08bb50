-- From what the lines of a script did to what the run leaves.
use Rattle.std.proofs.Common.{inl, inr, ⊎_elim, refl, ℕ, ◌^◌, ◌≤◌, List, ◌++◌, length, IsTrue, Result, Ok, Err, OnErr, sym, ap, subst, ◌∙◌}
use Rattle.std.specs.Prelude.{codes}
use Rattle.disk_model.specs.World.{World, Parts, Runs, nothing, reads_of, file_and_text, IsGiven}
use Rattle.disk_model.proofs.Moments.{Within, nothing_within, given_on, run_more, run_on}
use Rattle.qc_layout.specs.FirstForm.{IsTaken}
use Rattle.script_model.specs.Lines.{Line, IsScript}
use Rattle.qback_top.specs.Orders.{Order, printed_from, disk_from}
use Rattle.qback_top.specs.Lines.{RanLines, BegunLines, PrintsUntilClosed, Reached}
use Rattle.qback_top.specs.Replays.{AreThere, ReplayDue, Replayed, ReplayedInPart}
use Rattle.qback_top.specs.Endings.{Refused, Ran, looks, works_on, works_on_names}
use Rattle.qback_top.specs.Shown.{StopsInReplay}
use Rattle.qback_top.proofs.OrderLaws.{now-extended}

-- ---- parts

reads_within_looks : (f : ℕ) → Within (reads_of f) looks
reads_within_looks f = record { files = λ g none. absurd none; reads = λ g is. tt; names = λ name none. absurd none; text = λ none. absurd none; wire = λ none. absurd none }

pub looks_within_work : (f : ℕ) → Within looks (works_on f)
looks_within_work f = record { files = λ g none. absurd none; reads = λ g is. is; names = λ name none. absurd none; text = λ none. absurd none; wire = λ none. absurd none }

file_within_work : (f : ℕ) → Within (file_and_text f) (works_on f)
file_within_work f = record { files = λ g is. is; reads = λ g is. tt; names = λ name none. absurd none; text = λ is. is; wire = λ none. absurd none }

pub looked : {f : ℕ} {a b : World} → Runs (reads_of f) a b → Runs looks a b
looked {f} run = run_more (reads_within_looks f) run

pub looked_none : {a b : World} → Runs nothing a b → Runs looks a b
looked_none run = run_more (nothing_within looks) run

-- ---- files of names

-- reading the file of a number that was given for the second name
pub other_read : {a c : World} (name other : List ℕ) (f : ℕ) → IsGiven f other a → Runs (reads_of f) a c → Runs (works_on_names name other c) a c
other_read {a} {c} name other f given run = run_more (record {
  files = λ g none. absurd none;
  reads = λ g is. inr (subst (λ (k : ℕ). IsGiven k other c) (sym is) (given_on run given));
  names = λ new none. absurd none;
  text = λ none. absurd none;
  wire = λ none. absurd none;
}) run

-- and work on that of one that was given for the first
pub name_worked : {a c : World} (name other : List ℕ) (f : ℕ) → IsGiven f name a → Runs (file_and_text f) a c → Runs (works_on_names name other c) a c
name_worked {a} {c} name other f given run = run_more (record {
  files = λ g is. subst (λ (k : ℕ). IsGiven k name c) (sym is) (given_on run given);
  reads = λ g is. inl (subst (λ (k : ℕ). IsGiven k name c) (sym is) (given_on run given));
  names = λ new none. absurd none;
  text = λ is. is;
  wire = λ none. absurd none;
}) run

pub name_read : {a c : World} (name other : List ℕ) (f : ℕ) → IsGiven f name a → Runs (reads_of f) a c → Runs (works_on_names name other c) a c
name_read name other f given run = name_worked name other f given (run_more (record {
  files = λ g none. absurd none;
  reads = λ g is. is;
  names = λ new none. absurd none;
  text = λ none. absurd none;
  wire = λ none. absurd none;
}) run)

-- numbers stay those of their names
pub names_later : {parts : Parts} {a b c : World} (name other : List ℕ) → Runs (works_on_names name other b) a b → Runs parts b c → Runs (works_on_names name other c) a b
names_later {parts} {a} {b} {c} name other work run = run_more (record {
  files = λ g is. given_on run is;
  reads = λ g is. ⊎_elim (λ (first : IsGiven g name b). inl (given_on run first)) (λ (second : IsGiven g other b). inr (given_on run second)) is;
  names = λ new none. absurd none;
  text = λ is. is;
  wire = λ none. absurd none;
}) work

pub names_on : {a b c : World} (name other : List ℕ) → Runs (works_on_names name other b) a b → Runs (works_on_names name other c) b c → Runs (works_on_names name other c) a c
names_on name other first second = run_on (names_later name other first second) second

-- from a later start
pub works_from : {a b c : World} (name other : List ℕ) → Runs nothing a b → Runs (works_on_names name other c) b c → Runs (works_on_names name other c) a c
works_from {a} {b} {c} name other look work = run_on (run_more (nothing_within (works_on_names name other c)) look) work

-- ---- what was carried out

module _ {b c : World} {f : ℕ} {orders : List Order} (work : Runs (file_and_text f) b c) where
  -- some of the orders
  pub replayed_part : BegunLines b c f orders → ReplayedInPart f orders b c
  replayed_part begun = record {
    run = run_more (file_within_work f) work;
    answers = λ h stands. subst (λ (d : List ℕ). PrintsUntilClosed orders (printed_from d orders) f b c) stands.bytes begun.printed;
    reached = λ h stands. (begun.reached.0, subst (λ (d : List ℕ). Reached d orders begun.reached.0 f b c) stands.bytes begun.reached.1);
    spares = begun.spares;
  }

  -- all of them
  pub replayed : RanLines b c f orders → Replayed f orders b c
  replayed ran = record {
    run = run_more (file_within_work f) work;
    answers = λ told h stands. ran.printed told ∙ ap (λ (d : List ℕ). b.printed ++ printed_from d orders) stands.bytes;
    stands = λ h stands. record { form = ran.form; bytes = ran.disk ∙ ap (λ (d : List ℕ). disk_from d orders) stands.bytes ∙ sym (now-extended h orders) };
    keeps = ran.keeps;
    closed = ran.closed;
  }

-- the run was due
pub run_due : (words : List (List ℕ)) (w : World) (file script : List ℕ) (image text : ℕ) (lines : List Line) → AreThere words w file script image text → length (w.seen text) ≤ 2 ^ 28 → IsScript (w.seen text) lines → IsTaken (w.seen image)
    → ReplayDue words w (Ran image lines)
run_due words w file script image text lines there short says taken = (file, script, text, there, short, says, taken)

-- the image was refused
pub unbuilt_due : (words : List (List ℕ)) (w : World) (file script : List ℕ) (image text : ℕ) (lines : List Line) → AreThere words w file script image text → length (w.seen text) ≤ 2 ^ 28 → IsScript (w.seen text) lines
    → (IsTaken (w.seen image) → ⊥) → ReplayDue words w (Refused file (codes "Unbuilt"))
unbuilt_due words w file script image text lines there short says refused = inr ((script, image, text, there, short, (lines, says), refused), refl)

-- a run stopped early, whatever error it answers
abbrev pub StopsFrom : World → World → List ℕ → List ℕ → ℕ → ℕ → Type 0
StopsFrom a e file script image text = IsTrue a.tells → (words : List (List ℕ)) → AreThere words a file script image text → StopsInReplay words a e

pub stops_err : {T E : Type 0} (result : Result T E) (a e : World) (file script : List ℕ) (image text : ℕ) → StopsFrom a e file script image text → OnErr result (StopsFrom a e file script image text)
stops_err (Ok x) a e file script image text stops = tt
stops_err (Err y) a e file script image text stops = stops
