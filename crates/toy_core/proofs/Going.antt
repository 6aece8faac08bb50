-- One event, from what its calls leave and what the machine does.
use Rattle.std.proofs.Common.{◌≡◌, ◌⊎◌, inl, inr, ℕ, ◌≤◌, List, [], ◌∷◌, length, true, false, IsTrue, Option, refl, sym, ap, subst, ◌∙◌, arith}
use Rattle.std.specs.Prelude.{Contains}
use Rattle.std.proofs.lemmas.Bool.{cases_eq, false≢true}
use Rattle.disk_model.specs.World.{World, Parts, Runs, EachSince, Leads}
use Rattle.disk_model.proofs.Laws.{since_more, since_spared}
use Rattle.disk_model.proofs.Laws.{spare_leads, lead_more}
use Rattle.core_events.specs.Events.{Event}
use Rattle.core_events.specs.Answers.{Reply}
use Rattle.plain_model.specs.History.{History, now}
use Rattle.image_model.specs.Space.{Store}
use Rattle.plain_model.specs.Machine.{Machine}
use Rattle.plain_model.specs.Actions.{Held}
use Rattle.plain_model.specs.Outcome.{Trouble, Outcome, outcome}
use Rattle.plain_model.specs.Faults.{Rise, StepFaults}
use Rattle.plain_model.specs.Step.{StepContents, StepSpace, HasLeft}
use Rattle.plain_model.specs.Sound as sound
use Rattle.plain_model.proofs.Steps.{IsSoundOutcome, stepped_is_sound}
use Rattle.core_node.specs.Files.{event_starts_on, IsLawfulTarget, Reading}
use Rattle.image_model.specs.Backups.{Backup}
use Rattle.image_model.specs.Images.{IsBackupFile, IsBackupOf, IsTargetOf}
use Rattle.qc_layout.specs.declared.header.Part.TheVariants as forms
use Rattle.qc_layout.specs.Spelling.{IsHeaderOf}
use Rattle.core_node.specs.Step.{HasHead, HasHeadBut, IsRise, next_state, during, kept_during, kept_after, may_land, Goes, NodeSteps, next_of}
use Rattle.core_node.specs.Rest.{State, session_directory, IsSafe}
use Rattle.core_node.proofs.Rests.{no_record, one_kind}
use Rattle.toy_core.specs.declared.toy.Toy.{Toy}
use Rattle.toy_image.specs.Images.{store_of}
use Rattle.toy_core.specs.Toy.{shown, machine_of, state_of, IsHeld, Keeps}
use Rattle.toy_core.proofs.Holding.{directory, moved}
use Rattle.toy_core.proofs.Served.{reply_with}

-- ---- files that aren't the source

-- what a run that may write this file alone leaves of a file that can't be it
other_leads : {parts : Parts} {a b : World} (source f : ℕ) (S P : List ℕ → Type 0) → Runs parts a b → ((g : ℕ) → parts.files g → g ≡ source) → IsTrue a.tells → (S (a.seen source) → ⊥) → Leads f S P P S P a b
other_leads {parts} {a} {b} source f S P run only told none = elim (cases_eq f source) [
  | inl same ↦ record {
    since = λ holds. absurd (none (subst (λ (g : ℕ). S (a.seen g)) same (holds.seen told)));
    after = λ holds. absurd (none (subst (λ (g : ℕ). S (a.seen g)) same (holds.seen told)));
  }
  | inr other ↦ spare_leads f S P run (λ is. other (only f is))
]

-- ---- an event

-- what its calls leave: the next history and the disks that a crash may mix then
pub record Leaves (t : Toy) (n : ℕ) (broken : Option ℕ) (h next : History) (within after : List (List ℕ)) (old new : World) : Type 0 where
  pub holds : sound.IsSound (machine_of (moved t n broken) next) → IsHeld (moved t n broken) new next after
  pub crashes : EachSince new old.now t.source.file.0 (IsSafe (directory t ∷ []) t.source.image.id h within)
  pub head : (start : List ℕ) → length start ≤ t.source.image.cluster
      → Leads t.source.file.0 (HasHead start) (HasHead start) (HasHead start) (HasHead start) (HasHead start) old new

-- for each history and its disks
pub record Served (held : List ℕ → Held) (rise : Rise) (tr : Trouble) (t : Toy) (n : ℕ) (broken : Option ℕ) (grow : History → History) (old new : World) (event : Event) (reply : Reply) (h : History) (disks : List (List ℕ)) : Type 0 where
  pub outcome_is : outcome held tr event (machine_of t h) ≡ reply_with (moved t n broken) (grow h) reply
  pub torn : HasLeft tr event (machine_of t h)
  pub sound_outcome : IsSoundOutcome held tr event (machine_of t h)
  pub space : StepSpace tr (machine_of t h) event (machine_of (moved t n broken) (grow h))
  pub faults : StepFaults (old.named t.source.file.0) rise tr (machine_of t h) event (record { reply = reply; notices = [] })
  pub leaves : Leaves t n broken h (grow h) (kept_during disks event (now (grow h))) (kept_after disks event (record { reply = reply; notices = [] }) (now (grow h))) old new

module _ (parts : Parts) (held : List ℕ → Held) (rise : Rise) (tr : Trouble) (t : Toy) (n : ℕ) (broken : Option ℕ) (grow : History → History) (old new : World) (event : Event) (reply : Reply)
    (told : IsTrue old.tells) (run : Runs parts old new) (only : (g : ℕ) → parts.files g → g ≡ t.source.file.0) (rises : IsRise old new rise) (starts : (name : List ℕ) → event_starts_on name event ≡ false)
    (grows : (h : History) (c : List ℕ) → IsLawfulTarget t.source.image.id h c → IsLawfulTarget t.source.image.id (grow h) c)
    (served : (h : History) (disks : List (List ℕ)) → IsHeld t old h disks → Served held rise tr t n broken grow old new event reply h disks) where
  at_state : (P : State → Type 0) → ((h : History) (disks : List (List ℕ)) → IsHeld t old h disks → P (state_of t h disks)) → (s : State) → Keeps t old s → P s
  at_state P p s k = subst P (sym k.is) (p k.history k.disks k.holds)

  machine_is : (h : History) (disks : List (List ℕ)) → IsHeld t old h disks → next_state held tr event (store_of t.source.image) 0 (machine_of t h) ≡ machine_of (moved t n broken) (grow h)
  machine_is h disks k = ap (λ (o : Outcome). record (o.machine) { store = store_of t.source.image; freed = 0 }) (served h disks k).outcome_is

  contents : (h : History) (disks : List (List ℕ)) → IsHeld t old h disks → StepContents held tr (machine_of t h) event (record { reply = reply; notices = [] }) (next_state held tr event (store_of t.source.image) 0 (machine_of t h))
  contents h disks k = record { torn = (served h disks k).torn; answer_is = sym (ap (λ (o : Outcome). o.answer) (served h disks k).outcome_is); state_is = refl }

  space : (h : History) (disks : List (List ℕ)) → IsHeld t old h disks → StepSpace tr (machine_of t h) event (next_state held tr event (store_of t.source.image) 0 (machine_of t h))
  space h disks k = subst (StepSpace tr (machine_of t h) event) (sym (machine_is h disks k)) (served h disks k).space

  sound_next : (h : History) (disks : List (List ℕ)) → IsHeld t old h disks → sound.IsSound (machine_of (moved t n broken) (grow h))
  sound_next h disks k = subst sound.IsSound (machine_is h disks k) (stepped_is_sound held tr (machine_of t h) event (record { reply = reply; notices = [] }) _ (served h disks k).sound_outcome k.sound (contents h disks k) (space h disks k))

  holds_next : (h : History) (disks : List (List ℕ)) → IsHeld t old h disks → IsHeld (moved t n broken) new (grow h) (kept_after disks event (record { reply = reply; notices = [] }) (now (grow h)))
  holds_next h disks k = (served h disks k).leaves.holds (sound_next h disks k)

  keeps_next : (h : History) (disks : List (List ℕ)) → IsHeld t old h disks → Keeps (moved t n broken) new (next_of held tr event (record { reply = reply; notices = [] }) (store_of t.source.image) 0 (state_of t h disks))
  keeps_next h disks k = record {
    history = grow h;
    disks = kept_after disks event (record { reply = reply; notices = [] }) (now (grow h));
    is = ap (λ (m : Machine). record { machine = m; disks = kept_after disks event (record { reply = reply; notices = [] }) (now m.history); entries = [] }) (machine_is h disks k);
    holds = holds_next h disks k;
  }

  no_backup : {h : History} {disks : List (List ℕ)} {bytes : List ℕ} {store : Store} → IsHeld t old h disks → IsBackupFile (old.seen t.source.file.0) bytes store → ⊥
  no_backup k target = one_kind k.image.source target

  abbrev next_at : State → State
  next_at s = next_of held tr event (record { reply = reply; notices = [] }) (store_of t.source.image) 0 s

  abbrev CrashAt : State → Type 0
  CrashAt s = EachSince new old.now t.source.file.0 (λ c. IsSafe (session_directory (during s event (now (next_at s).machine.history)) ∷ []) t.source.image.id s.machine.history (during s event (now (next_at s).machine.history)).disks c
      ⊎ (IsTrue (may_land event) × IsSafe (session_directory (next_at s) ∷ []) t.source.image.id (next_at s).machine.history (next_at s).disks c))

  crash_next : (h : History) (disks : List (List ℕ)) → IsHeld t old h disks → CrashAt (state_of t h disks)
  crash_next h disks k = since_more new old.now t.source.file.0 (IsSafe (directory t ∷ []) t.source.image.id h (kept_during disks event (now (next_at (state_of t h disks)).machine.history))) _ (λ c is. inl is)
      (subst (λ (m : Machine). EachSince new old.now t.source.file.0 (IsSafe (directory t ∷ []) t.source.image.id h (kept_during disks event (now m.history)))) (sym (machine_is h disks k)) (served h disks k).leaves.crashes)

  -- no crash leaves a backup of the source
  never_backup : {s : State} (b : Backup) → Keeps t old s → EachSince new old.now t.source.file.0 (λ c. IsBackupOf c b → ⊥)
  never_backup b k = since_more new old.now t.source.file.0 _ (λ c. IsBackupOf c b → ⊥)
      (λ c safe backup. one_kind safe.ready.finds.source backup.in_order) (served k.history k.disks k.holds).leaves.crashes

  lawful_next : (c : List ℕ) (s : State) → Keeps t old s → IsLawfulTarget t.source.image.id s.machine.history c → IsLawfulTarget t.source.image.id (next_at s).machine.history c
  lawful_next c = at_state (λ s. IsLawfulTarget t.source.image.id s.machine.history c → IsLawfulTarget t.source.image.id (next_at s).machine.history c)
      (λ h disks k law. subst (λ (m : Machine). IsLawfulTarget t.source.image.id m.history c) (sym (machine_is h disks k)) (grows h c law))

  pub goes : Goes held rise tr (store_of t.source.image) (λ s. 0) (shown t) (Keeps t old) (Keeps (moved t n broken) new) old new event (record { reply = reply; notices = [] })
  goes = record {
    contents = at_state (λ s. StepContents held tr s.machine event (record { reply = reply; notices = [] }) (next_of held tr event (record { reply = reply; notices = [] }) (store_of t.source.image) 0 s).machine) contents;
    space = at_state (λ s. StepSpace tr s.machine event (next_of held tr event (record { reply = reply; notices = [] }) (store_of t.source.image) 0 s).machine) space;
    faults = at_state (λ s. StepFaults (old.named t.source.file.0) rise tr s.machine event (record { reply = reply; notices = [] })) (λ h disks k. (served h disks k).faults);
    keeps_on = at_state (λ s. Keeps (moved t n broken) new (next_of held tr event (record { reply = reply; notices = [] }) (store_of t.source.image) 0 s)) keeps_next;
    crashes = at_state CrashAt crash_next;
    lawful = λ s f k. lead_more _ _ _ (λ c is. (is, λ lands. lawful_next c s k is)) (λ c is. lawful_next c s k is) (λ c is. lawful_next c s k is)
        (other_leads t.source.file.0 f (IsLawfulTarget t.source.image.id s.machine.history) (IsLawfulTarget t.source.image.id s.machine.history) run only told (λ is. no_backup k.holds is.in_order));
    blanks = λ s k f size store target. elim (cases_eq f t.source.file.0) [
      | inl same ↦ absurd (one_kind (holds_next k.history k.disks k.holds).image.source (subst (λ (g : ℕ). IsTargetOf (new.seen g) true size store) same target).in_order)
      | inr other ↦ (size, store, subst (λ (file : List ℕ). IsTargetOf file true size store) ((run.files f (λ is. other (only f is))).seen) target)
    ];
    source_head = λ s start k short. (served k.history k.disks k.holds).leaves.head start
        (subst (λ (s : State). length start ≤ s.machine.store.cluster) k.is short);
    target_heads = λ s f at start k has short. elim (cases_eq f t.source.file.0) [
      | inl same ↦ absurd (no_record k.holds.image.source (subst (λ (g : ℕ). IsHeaderOf forms.Target (old.seen g) has.0) same has.2).spells has.3)
      | inr other ↦ spare_leads f (HasHeadBut at start) (HasHeadBut at start) run (λ is. other (only f is))
    ];
    seals = λ s f b base p k sealed backup. elim (cases_eq f t.source.file.0) [
      | inl same ↦ absurd (one_kind (holds_next k.history k.disks k.holds).image.source (subst (λ (g : ℕ). IsBackupOf (new.seen g) b) same backup).in_order)
      | inr other ↦ inl (subst (λ (file : List ℕ). IsBackupOf file b) ((run.files f (λ is. other (only f is))).seen) backup)
    ];
    sealing = λ s f b base p k sealed none. since_more new old.now f (λ c. IsBackupOf c b → ⊥) _ (λ c not backup. absurd (not backup))
        (elim (cases_eq f t.source.file.0) [
          | inl same ↦ subst (λ (g : ℕ). EachSince new old.now g (λ c. IsBackupOf c b → ⊥)) (sym same) (never_backup b k)
          | inr other ↦ since_spared f (λ c. IsBackupOf c b → ⊥) run (λ is. other (only f is)) none
        ]);
    sealed = λ s j k there. absurd (omega (arith, (subst (λ (s : State). Contains s.machine.jobs j) k.is there).1));
    stays = λ s f b base p k sealed. other_leads t.source.file.0 f (λ c. IsBackupOf c b) (λ c. IsBackupOf c b) run only told (λ is. no_backup k.holds is.in_order);
  }

  pub steps : {reading : Reading} → NodeSteps reading (shown t) (Keeps t old) (Keeps (moved t n broken) new) old new event (record { reply = reply; notices = [] })
  steps = record {
    held = held;
    held_are = λ name start. absurd (false≢true (sym (starts name) ∙ start));
    rise = rise;
    trouble = tr;
    store = store_of t.source.image;
    freed = λ s. 0;
    rises = rises;
    goes = goes;
  }
