-- From what a call that makes a file did to what the run leaves.
use Rattle.std.proofs.Common.{◌≡◌, inl, inr, ⊎_elim, ℕ, List, ◌++◌, take, IsTrue, IsSome, Option, Some, None, Result, Ok, Err, OnErr, refl, sym, ap, subst, ◌∙◌}
use Rattle.disk_model.specs.World.{World, Runs, nothing, making, only_text, Holds, PrintsPart}
use Rattle.disk_model.proofs.Laws.{Within, run_more, run_both, nothing_within, now_spared, given_on}
use Rattle.file_device.specs.Names.{HasCreated}
use Rattle.file_device.proofs.Laws.{holds_of}
use Rattle.backup_file.specs.Creating.{Begins, Refuses}
use Rattle.backup_file.specs.declared.create.CreateRefusal.TheVariants.{Exists, Failed}
use Rattle.qback_top.specs.declared.words.Task.{Task}
use Rattle.qback_top.specs.Words.{IsTask}
use Rattle.qback_top.specs.Endings.{creates, looks, MakesAlone}
use Rattle.qback_top.specs.Endings as endings
use Rattle.qback_top.specs.Creations.{Makes, IsMadeBy, MakeDue, made_line, Created, CreatedInPart}
use Rattle.qback_top.specs.Shown.{StopsInCreation}
use Rattle.qback_top.proofs.Replaying.{looked_none}
use Rattle.qback_top.proofs.Saying.{part_none}

making_within : (name : List ℕ) (f : ℕ) → Within (making name f) (creates name f)
making_within name f = record { files = λ g is. is; reads = λ g none. absurd none; names = λ other is. is; text = λ none. absurd none; wire = λ none. absurd none }

text_within : (name : List ℕ) (f : ℕ) → Within only_text (creates name f)
text_within name f = record { files = λ g none. absurd none; reads = λ g none. absurd none; names = λ other none. absurd none; text = λ is. is; wire = λ none. absurd none }

-- nothing was touched
pub touched_none : {a b : World} (name : List ℕ) → Runs nothing a b → MakesAlone name a b
touched_none name run = inl (run_more (nothing_within only_text) run)

-- a call failed
pub touched_failed : {a b : World} (name : List ℕ) → Refuses name a b Failed → MakesAlone name a b
touched_failed {a} {b} name refuses = ⊎_elim
    (λ (none : Runs nothing a b). touched_none name none)
    (λ (some : Begins name a b). inr (some.0, some.1.fresh, run_more (making_within name some.0) some.1.run, some.1.named))
    refuses.0

-- a file was made, and then something was printed
pub touched_made : {P : List ℕ → Type 0} {a b c : World} (name : List ℕ) (f : ℕ) → HasCreated P name f a b → Runs only_text b c → MakesAlone name a c
touched_made name f made print = inr (f, made.fresh, run_both (making_within name f) (text_within name f) made.run print, made.named)

-- what a file holds goes on over prints
holds_on : {f : ℕ} {S P : List ℕ → Type 0} {b c : World} → Runs only_text b c → Holds f S P b → Holds f S P c
holds_on {f} {S} {P} {b} {c} print holds = record {
  seen = λ told. subst S (sym (print.files f (λ none. none)).seen) (holds.seen (subst IsTrue print.goes.tells told));
  each = now_spared f P print (λ none. none) holds.each;
}

module _ (task : Task) (name : List ℕ) (makes : Makes task name) (words : List (List ℕ)) (says : IsTask words task) where
  -- the name is there
  pub exists_due : {a b : World} → IsTrue a.tells → Refuses name a b Exists → MakeDue words a (endings.Exists name) × Runs looks a b
  exists_due told refuses = ((task, says, makes, refuses.1 told), looked_none refuses.0)

  -- the name is free, and it was begun
  begun : {a c : World} (f : ℕ) → a.found name ≡ None → CreatedInPart task name f a c → StopsInCreation words a c
  begun f none part = inr (task, name, f, (says, (name, makes, none)), part)

  -- a call failed
  pub failed_stops : {a b : World} → IsTrue a.tells → Refuses name a b Failed → StopsInCreation words a b
  failed_stops {a} {b} told refuses = by_name (a.found name) refl
    where
      by_name : (found : Option ℕ) → a.found name ≡ found → StopsInCreation words a b
      by_name (Some f) is = inl (looked_none (refuses.2 told (subst IsSome (sym is) refl)))
      by_name None is = ⊎_elim
          (λ (none : Runs nothing a b). inl (looked_none none))
          (λ (some : Begins name a b). begun some.0 is (record {
            makes = makes;
            fresh = some.1.fresh;
            named = some.1.named;
            found = some.1.found;
            run = run_more (making_within name some.0) some.1.run;
            printed = part_none (made_line name) a b ((some.1.run.text (λ none. none)).printed);
            first = λ prints. inl ((some.1.run.text (λ none. none)).printed);
          }))
          refuses.0

  module _ {a b c : World} (f : ℕ) (told : IsTrue a.tells) (made : HasCreated (IsMadeBy task) name f a b) (print : Runs only_text b c) where
    printed_as : b.printed ≡ a.printed
    printed_as = (made.run.text (λ none. none)).printed

    prints_as : IsTrue a.prints → IsTrue b.prints
    prints_as prints = subst IsTrue (sym made.run.goes.prints) prints

    -- it was made, and its line couldn't be printed
    pub unsaid_stops : PrintsPart (made_line name) b c → StopsInCreation words a c
    unsaid_stops part = begun f (made.was_free told) (record {
      makes = makes;
      fresh = made.fresh;
      named = made.named;
      found = λ _. inr (made.was_free told, print.found name (λ none. none) ∙ made.found told);
      run = run_both (making_within name f) (text_within name f) made.run print;
      printed = λ prints. let p = part (prints_as prints) in (p.0, subst (λ (t : List ℕ). c.printed ≡ t ++ take p.0 (made_line name)) printed_as p.1);
      first = λ prints. inr (holds_on print (holds_of made.holds));
    })

    -- it was made and told
    pub created_due : (IsTrue b.prints → c.printed ≡ b.printed ++ made_line name) → MakeDue words a (endings.Made task) × Created task name f a c
    created_due said = (
      (says, (name, makes, made.was_free told)),
      record {
        makes = makes;
        fresh = made.fresh;
        named = made.named;
        run = run_both (making_within name f) (text_within name f) made.run print;
        given = given_on print made.given;
        found = λ _. print.found name (λ none. none) ∙ made.found told;
        holds = holds_on print (holds_of made.holds);
        printed = λ prints. said (prints_as prints) ∙ ap (λ (t : List ℕ). t ++ made_line name) printed_as;
      },
    )

-- whatever error is answered
pub err_stops : {T E : Type 0} (result : Result T E) {X : Type 0} → X → OnErr result X
err_stops (Ok x) stops = tt
err_stops (Err y) stops = stops
