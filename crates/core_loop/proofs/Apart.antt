-- What calls leave of backups, where they write no backup: calls on files of their own, or on a source.
use Rattle.std.proofs.Common.{◌≡◌, inl, inr, ℕ, ◌<◌, List, [], ◌∷◌, map, true, IsTrue, Some, sym, ap, subst, ◌∙◌, arith}
use Rattle.std.specs.Prelude.{All, slice_index_or}
use Rattle.std.proofs.lemmas.List.Elements.{All-nil, All-cons, All-head, All-tail, All-contains}
use Rattle.disk_model.specs.World.{World, Parts, Runs, GoesOn, Holds, Leads}
use Rattle.disk_model.proofs.Moments.{run_more, spares}
use Rattle.disk_model.proofs.Leads.{spare_leads}
use Rattle.core_events.specs.Events.{Event}
use Rattle.core_events.specs.Answers.{Answer}
use Rattle.image_model.specs.Space.{Store}
use Rattle.image_model.specs.Images.{IsBackupFile, IsBackupOf, IsTargetOf}
use Rattle.plain_model.specs.Jobs.{Job}
use Rattle.plain_model.specs.Machine.{Machine, runners}
use Rattle.core_node.specs.Standing.{Shown, TargetFile, HasFiles, TargetStands, StandsFor, Spares}
use Rattle.core_node.specs.Rest.{StaysSealed}
use Rattle.core_node.specs.Step.{NoNewBlanks}
use Rattle.core_node.specs.Touches.{works_on}
use Rattle.core_loop.specs.Course.{talk_with}
use Rattle.core_loop.specs.Sessions.{IsNoBackup, AreApart, StayApart}

abbrev pub IsBackup : List ℕ → Type 0
IsBackup file = (bytes : List ℕ) × (store : Store) × IsBackupFile file bytes store

module _ {parts : Parts} {old new : World} (run : Runs parts old new) where
  -- what makes a file a backup stays, where none is written
  pub backup_leads : (f : ℕ) (S P : List ℕ → Type 0) → ((c : List ℕ) → S c → IsBackup c) → IsTrue old.tells
      → ((g : ℕ) → parts.files g → IsNoBackup (old.seen g)) → Leads f S P P S P old new
  backup_leads f S P is told none = record {
    since = λ holds. (spare_leads f S P run (other holds)).since holds;
    after = λ holds. (spare_leads f S P run (other holds)).after holds;
  }
    where
      other : Holds f S P old → parts.files f → ⊥
      other holds mine = let b = is (old.seen f) (holds.seen told) in none f mine b.0 b.1 b.2

  -- so what is sealed stays so
  pub stays_beside : IsTrue old.tells → ((g : ℕ) → parts.files g → IsNoBackup (old.seen g)) → StaysSealed old new
  stays_beside told none f b base p sealed = backup_leads f (λ c. IsBackupOf c b) (λ c. IsBackupOf c b) (λ c is. (is.bytes, is.store, is.in_order)) told none

  -- and where no backup is made, no blank target is
  pub blanks_beside : ((g : ℕ) → parts.files g → IsNoBackup (new.seen g)) → NoNewBlanks old new
  blanks_beside none f size store target =
      (size, store, subst (λ (c : List ℕ). IsTargetOf c true size store) (run.files f (λ mine. none f mine target.bytes store target.in_order)).seen target)

  -- calls on other files leave those of its own apart
  pub apart_on : {own : ℕ → Type 0} {source : ℕ} → ((g : ℕ) → own g → parts.files g → ⊥) → AreApart own source old → AreApart own source new
  apart_on other apart = record {
    source_isnt = apart.source_isnt;
    no_backup = λ f mine bytes store is. apart.no_backup f mine bytes store
        (subst (λ (c : List ℕ). IsBackupFile c bytes store) (run.files f (other f mine)).seen is);
  }

-- what touches no file leaves all apart
pub none_apart : {files : ℕ → Type 0} (source : ℕ) (w : World) → ((f : ℕ) → files f → ⊥) → AreApart files source w
none_apart source w none = record { source_isnt = none source; no_backup = λ f mine. absurd (none f mine) }

-- ---- calls on files of its own

-- calls that talk, and that leave its own files apart where their giver knows this
pub record Talks (own : ℕ → Type 0) (Known : Type 0) (old new : World) : Type 0 where
  pub run : Runs (talk_with own) old new
  pub stay : IsTrue old.tells → Known → StayApart own old new

-- those on fewer files are so on more
pub talks_more : {own more : ℕ → Type 0} {Known : Type 0} {old new : World} → ((f : ℕ) → own f → more f) → Runs (talk_with own) old new
    → (IsTrue old.tells → Known → StayApart own old new) → Talks more Known old new
talks_more {own} within run stay = record {
  run = run_more (record { files = within; reads = within; names = λ name none. none; text = λ is. is; wire = λ is. is }) run;
  stay = λ told known f mine none bytes store is.
      none bytes store (subst (λ (c : List ℕ). IsBackupFile c bytes store) (run.files f (λ (few : own f). stay told known f few none bytes store is)).seen is);
}

pub talked_apart : {own : ℕ → Type 0} {Known : Type 0} {source : ℕ} {old new : World} → IsTrue old.tells → Known → Talks own Known old new
    → AreApart own source old → AreApart own source new
talked_apart told known talks apart = record { source_isnt = apart.source_isnt; no_backup = λ f mine. talks.stay told known f mine (apart.no_backup f mine) }

-- fewer files were given later too
pub given_later : {own few : ℕ → Type 0} {old new : World} → ((f : ℕ) → own f → f < old.given) → ((f : ℕ) → few f → own f) → GoesOn old new
    → (f : ℕ) → few f → f < new.given
given_later given within goes f mine = omega (arith, given f (within f mine), goes.given)

-- ---- a node's files

-- the file of each target is a backup
targets_by : (w : World) (m : Machine) (ts : List TargetFile) (js : List Job) → map (λ (t : TargetFile). t.name) ts ≡ map (λ (j : Job). j.target) js
    → All (λ (t : TargetFile). w.found t.name ≡ Some t.file) ts
    → All (λ (j : Job). TargetStands w m j (w.found j.target)) js → All (λ (t : TargetFile). IsBackup (w.seen t.file)) ts
targets_by w m [] js same found stand = All-nil (λ (t : TargetFile). IsBackup (w.seen t.file))
targets_by w m (t ∷ ts) [] same found stand = absurd (cc)
targets_by w m (t ∷ ts) (j ∷ js) same found stand =
    let name : t.name ≡ j.target = cc in
    let rest : map (λ (t : TargetFile). t.name) ts ≡ map (λ (j : Job). j.target) js = cc in
    let is : w.found j.target ≡ Some t.file = ap w.found (sym name) ∙ All-head (λ (t : TargetFile). w.found t.name ≡ Some t.file) t ts found in
    let copy = subst (TargetStands w m j) is (All-head (λ (j : Job). TargetStands w m j (w.found j.target)) j js stand) in
    All-cons (λ (t : TargetFile). IsBackup (w.seen t.file)) t ts (copy.bytes, j.store, copy.in_order)
    (targets_by w m ts js rest (All-tail (λ (t : TargetFile). w.found t.name ≡ Some t.file) t ts found)
    (All-tail (λ (j : Job). TargetStands w m j (w.found j.target)) j js stand))

module _ {shown : Shown} {w : World} {m : Machine} (told : IsTrue w.tells) (stands : StandsFor shown w m) where
  pub targets_are_backups : All (λ (t : TargetFile). IsBackup (w.seen t.file)) shown.targets
  targets_are_backups = targets_by w m shown.targets (runners m) stands.jobs.targets_are (stands.found told).1 (stands.targets told)

  module _ {own : ℕ → Type 0} (apart : AreApart own shown.file w) where
    -- so none is one of its own, and talk spares a node's files
    pub talk_spares : {new : World} → HasFiles shown w → Runs (talk_with own) w new → Spares shown w new
    talk_spares files run = record {
      source = spares shown.file run apart.source_isnt;
      source_named = run.goes.named shown.file files.source;
      source_found = run.found (w.named shown.file) (λ none. none);
      targets = λ k d below. spares (slice_index_or shown.targets k d).file run
          (λ mine. let b = targets_are_backups k d below in apart.no_backup (slice_index_or shown.targets k d).file mine b.0 b.1 b.2);
      targets_found = λ k d below. run.found (slice_index_or shown.targets k d).name (λ none. none);
    }

    -- and an event works on none of its own
    pub works_apart : (after : Shown) (new : World) (event : Event) (answer : Answer) (g : ℕ) → own g → (works_on shown after new event answer).files g → ⊥
    works_apart after new event answer g mine (may, inl (writes, is)) = apart.source_isnt (subst own is mine)
    works_apart after new event answer g mine (may, inr (t, there, writes, is)) =
        let b = All-contains (λ (t : TargetFile). IsBackup (w.seen t.file)) shown.targets t targets_are_backups there in
        apart.no_backup t.file (subst own is mine) b.0 b.1 b.2
