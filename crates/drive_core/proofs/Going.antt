-- One event, from what its calls leave and what the machine does.
use Rattle.std.proofs.Common.{◌≡◌, ◌⊎◌, inl, inr, ℕ, ◌≤◌, List, [], ◌∷◌, length, Bool, true, false, IsTrue, Option, refl, sym, ap, subst, ◌∙◌, arith}
use Rattle.std.specs.Prelude.{Contains}
use Rattle.std.proofs.lemmas.Bool.{cases_eq, false≢true}
use Rattle.disk_model.specs.World.{World, Parts, Runs, EachSince, Leads}
use Rattle.disk_model.proofs.Laws.{since_more, since_spared, spare_leads, lead_more}
use Rattle.core_events.specs.Events.{Event}
use Rattle.core_events.specs.Answers.{Reply}
use Rattle.plain_model.specs.History.{History, now}
use Rattle.image_model.specs.Space.{Store}
use Rattle.plain_model.specs.Actions.{Held}
use Rattle.plain_model.specs.Machine.{Machine}
use Rattle.plain_model.specs.Outcome.{Trouble, Outcome, outcome}
use Rattle.plain_model.specs.Faults.{Rise, StepFaults}
use Rattle.plain_model.specs.Step.{StepContents, StepSpace, HasLeft}
use Rattle.plain_model.specs.Sound as sound
use Rattle.plain_model.proofs.Steps.{IsSoundOutcome, stepped_is_sound}
use Rattle.core_node.specs.Files.{event_starts_on, IsLawfulTarget}
use Rattle.image_model.specs.Backups.{Backup}
use Rattle.image_model.specs.Images.{IsSourceOf, IsBackupFile, IsBackupOf, IsTargetOf}
use Rattle.qc_layout.specs.declared.header.Part.TheVariants as forms
use Rattle.qc_layout.specs.Spelling.{IsHeaderOf}
use Rattle.core_node.specs.Step.{HasHeadBut, IsRise, next_state, during, kept_during, kept_after, may_land, Goes, NodeSteps, next_of}
use Rattle.core_node.specs.Rest.{Directory, State, session_directory, IsSafe}
use Rattle.core_node.proofs.Rests.{no_record, one_kind}
use Rattle.core_layers.specs.Layers.{KeepsHead}
use Rattle.core_node.specs.Standing.{Shown}
use Rattle.drive_core.specs.Drive.{Drive, shown_of, machine_of, state_of, next, no_targets, IsHeld, Keeps, Answers}
use Rattle.drive_core.proofs.Laws.{Knows, HasSpace, IsBare, bare_directory, bare_is}
use Rattle.drive_core.proofs.Fates.{reply_with}

-- what a run that may write this file alone leaves of a file that can't be it
other_leads : {parts : Parts} {a b : World} (source f : ℕ) (S P : List ℕ → Type 0) → Runs parts a b → ((g : ℕ) → parts.files g → g ≡ source) → IsTrue a.tells → (S (a.seen source) → ⊥) → Leads f S P P S P a b
other_leads {parts} {a} {b} source f S P run only told none = elim (cases_eq f source) [
  | inl same ↦ record {
    since = λ holds. absurd (none (subst (λ (g : ℕ). S (a.seen g)) same (holds.seen told)));
    after = λ holds. absurd (none (subst (λ (g : ℕ). S (a.seen g)) same (holds.seen told)));
  }
  | inr other ↦ spare_leads f S P run (λ is. other (only f is))
]

-- the drive after an event
abbrev pub after : Option ℕ → ℕ → Bool → Drive → Drive
after broken room ended d = record (next d) { broken = broken; room = room; ended = ended }

-- what its calls leave: what is known of the next history and the disks that a crash may mix then
pub record Leaves (d e : Drive) (holding : Knows) (spacing : World → Store) (freed cluster : ℕ) (h next_one : History) (within mixed : List (List ℕ)) (old new : World) : Type 0 where
  pub holds : sound.IsSound (machine_of e (spacing new) freed next_one) → IsHeld e (holding new) (spacing new) new freed next_one mixed
  pub crashes : EachSince new old.now d.facts.file (IsSafe (d.facts.directory ∷ []) d.facts.id h within)
  pub head : KeepsHead d.facts.file cluster old new

-- What it is for a history and its disks. `count` gives how many clusters came free in all.
pub record Served (held : List ℕ → Held) (rise : Rise) (tr : Trouble) (d e : Drive) (holding : Knows) (space spacing : World → Store) (count : ℕ → ℕ) (grow : History → History) (old new : World) (event : Event) (reply : Reply)
    (freed : ℕ) (h : History) (disks : List (List ℕ)) : Type 0 where
  pub outcome_is : outcome held tr event (machine_of d (space old) freed h) ≡ reply_with e (space old) freed (grow h) reply
  pub torn : HasLeft tr event (machine_of d (space old) freed h)
  pub sound_outcome : IsSoundOutcome held tr event (machine_of d (space old) freed h)
  pub space_is : StepSpace tr (machine_of d (space old) freed h) event (machine_of e (spacing new) (count freed) (grow h))
  pub faults : StepFaults (old.named d.facts.file) rise tr (machine_of d (space old) freed h) event (record { reply = reply; notices = [] })
  pub leaves : Leaves d e holding spacing (count freed) (space old).cluster h (grow h) (kept_during disks event (now (grow h))) (kept_after disks event (record { reply = reply; notices = [] }) (now (grow h))) old new

module _ (parts : Parts) (held : List ℕ → Held) (rise : Rise) (tr : Trouble) (d : Drive) (broken : Option ℕ) (room : ℕ) (ended : Bool) (holds holding : Knows) (space spacing : World → Store) (count : ℕ → ℕ) (grow : History → History)
    (old new : World) (event : Event) (reply : Reply)
    (told : IsTrue old.tells) (run : Runs parts old new) (only : (g : ℕ) → parts.files g → g ≡ d.facts.file) (rises : IsRise old new rise) (starts : (name : List ℕ) → event_starts_on name event ≡ false)
    (grows : (h : History) (c : List ℕ) → IsLawfulTarget d.facts.id h c → IsLawfulTarget d.facts.id (grow h) c)
    (has_space : HasSpace d.facts d.room holds space) (has_space_then : HasSpace d.facts room holding spacing) (bare : IsBare d.facts holds)
    (served : (freed : ℕ) (h : History) (disks : List (List ℕ)) → IsHeld d (holds old) (space old) old freed h disks → Served held rise tr d (after broken room ended d) holding space spacing count grow old new event reply freed h disks) where
  abbrev e : Drive
  e = after broken room ended d

  at_state : (P : State → Type 0) → ((freed : ℕ) (h : History) (disks : List (List ℕ)) → IsHeld d (holds old) (space old) old freed h disks → P (state_of d (space old) freed h disks)) → (s : State) → Keeps d holds space old s → P s
  at_state P p s k = subst P (sym k.is) (p k.freed k.history k.disks k.held)

  abbrev next_at : State → State
  next_at s = next_of held tr event (record { reply = reply; notices = [] }) (spacing new) (count s.machine.freed) s

  machine_is : (freed : ℕ) (h : History) (disks : List (List ℕ)) → IsHeld d (holds old) (space old) old freed h disks
      → next_state held tr event (spacing new) (count freed) (machine_of d (space old) freed h) ≡ machine_of e (spacing new) (count freed) (grow h)
  machine_is freed h disks k = ap (λ (o : Outcome). record (o.machine) { store = spacing new; freed = count freed }) (served freed h disks k).outcome_is

  contents : (freed : ℕ) (h : History) (disks : List (List ℕ)) → IsHeld d (holds old) (space old) old freed h disks
      → StepContents held tr (machine_of d (space old) freed h) event (record { reply = reply; notices = [] }) (next_state held tr event (spacing new) (count freed) (machine_of d (space old) freed h))
  contents freed h disks k = record { torn = (served freed h disks k).torn; answer_is = sym (ap (λ (o : Outcome). o.answer) (served freed h disks k).outcome_is); state_is = refl }

  space_next : (freed : ℕ) (h : History) (disks : List (List ℕ)) → IsHeld d (holds old) (space old) old freed h disks
      → StepSpace tr (machine_of d (space old) freed h) event (next_state held tr event (spacing new) (count freed) (machine_of d (space old) freed h))
  space_next freed h disks k = subst (StepSpace tr (machine_of d (space old) freed h) event) (sym (machine_is freed h disks k)) (served freed h disks k).space_is

  sound_next : (freed : ℕ) (h : History) (disks : List (List ℕ)) → IsHeld d (holds old) (space old) old freed h disks → sound.IsSound (machine_of e (spacing new) (count freed) (grow h))
  sound_next freed h disks k = subst sound.IsSound (machine_is freed h disks k)
      (stepped_is_sound held tr (machine_of d (space old) freed h) event (record { reply = reply; notices = [] }) _ (served freed h disks k).sound_outcome k.sound (contents freed h disks k) (space_next freed h disks k))

  holds_next : (freed : ℕ) (h : History) (disks : List (List ℕ)) → IsHeld d (holds old) (space old) old freed h disks
      → IsHeld e (holding new) (spacing new) new (count freed) (grow h) (kept_after disks event (record { reply = reply; notices = [] }) (now (grow h)))
  holds_next freed h disks k = (served freed h disks k).leaves.holds (sound_next freed h disks k)

  keeps_next : (freed : ℕ) (h : History) (disks : List (List ℕ)) → IsHeld d (holds old) (space old) old freed h disks → Keeps e holding spacing new (next_at (state_of d (space old) freed h disks))
  keeps_next freed h disks k = record {
    history = grow h;
    disks = kept_after disks event (record { reply = reply; notices = [] }) (now (grow h));
    freed = count freed;
    is = ap (λ (m : Machine). record { machine = m; disks = kept_after disks event (record { reply = reply; notices = [] }) (now m.history); entries = [] }) (machine_is freed h disks k);
    held = holds_next freed h disks k;
  }

  source_old : {freed : ℕ} {h : History} {disks : List (List ℕ)} → IsHeld d (holds old) (space old) old freed h disks → IsSourceOf (old.seen d.facts.file) (now h) d.facts.id d.facts.directory.epoch (space old)
  source_old {h = h} {disks = disks} k = (has_space old (now h) disks told k.holds_it).0

  source_new : {freed : ℕ} {h : History} {disks : List (List ℕ)} → IsHeld d (holds old) (space old) old freed h disks → IsSourceOf (new.seen d.facts.file) (now (grow h)) d.facts.id d.facts.directory.epoch (spacing new)
  source_new {freed} {h} {disks} k = (has_space_then new (now (grow h)) _ (subst IsTrue (sym run.goes.tells) told) (holds_next freed h disks k).holds_it).0

  no_backup : {freed : ℕ} {h : History} {disks : List (List ℕ)} {bytes : List ℕ} {store : Store} → IsHeld d (holds old) (space old) old freed h disks → IsBackupFile (old.seen d.facts.file) bytes store → ⊥
  no_backup k target = one_kind (source_old k) target

  abbrev CrashAt : State → Type 0
  CrashAt s = EachSince new old.now d.facts.file (λ c. IsSafe (session_directory (during s event (now (next_at s).machine.history)) ∷ []) d.facts.id s.machine.history (during s event (now (next_at s).machine.history)).disks c
      ⊎ (IsTrue (may_land event) × IsSafe (session_directory (next_at s) ∷ []) d.facts.id (next_at s).machine.history (next_at s).disks c))

  crash_next : (freed : ℕ) (h : History) (disks : List (List ℕ)) → IsHeld d (holds old) (space old) old freed h disks → CrashAt (state_of d (space old) freed h disks)
  crash_next freed h disks k = since_more new old.now d.facts.file (IsSafe (bare_directory d ∷ []) d.facts.id h (kept_during disks event (now (next_at (state_of d (space old) freed h disks)).machine.history))) _ (λ c is. inl is)
      (subst (λ (x : Directory). EachSince new old.now d.facts.file (IsSafe (x ∷ []) d.facts.id h (kept_during disks event (now (next_at (state_of d (space old) freed h disks)).machine.history)))) (bare_is d bare k.holds_it)
      (subst (λ (m : Machine). EachSince new old.now d.facts.file (IsSafe (d.facts.directory ∷ []) d.facts.id h (kept_during disks event (now m.history)))) (sym (machine_is freed h disks k)) (served freed h disks k).leaves.crashes))

  -- no crash leaves a backup of the source
  never_backup : {s : State} (b : Backup) → Keeps d holds space old s → EachSince new old.now d.facts.file (λ c. IsBackupOf c b → ⊥)
  never_backup b k = since_more new old.now d.facts.file _ (λ c. IsBackupOf c b → ⊥)
      (λ c safe backup. one_kind safe.ready.finds.source backup.in_order) (served k.freed k.history k.disks k.held).leaves.crashes

  lawful_next : (c : List ℕ) (s : State) → Keeps d holds space old s → IsLawfulTarget d.facts.id s.machine.history c → IsLawfulTarget d.facts.id (next_at s).machine.history c
  lawful_next c = at_state (λ s. IsLawfulTarget d.facts.id s.machine.history c → IsLawfulTarget d.facts.id (next_at s).machine.history c)
      (λ freed h disks k law. subst (λ (m : Machine). IsLawfulTarget d.facts.id m.history c) (sym (machine_is freed h disks k)) (grows h c law))

  goes : Goes held rise tr (spacing new) (λ s. count s.machine.freed) (shown_of d) (Keeps d holds space old) (Keeps e holding spacing new) old new event (record { reply = reply; notices = [] })
  goes = record {
    contents = at_state (λ s. StepContents held tr s.machine event (record { reply = reply; notices = [] }) (next_at s).machine) contents;
    space = at_state (λ s. StepSpace tr s.machine event (next_at s).machine) space_next;
    faults = at_state (λ s. StepFaults (old.named d.facts.file) rise tr s.machine event (record { reply = reply; notices = [] })) (λ freed h disks k. (served freed h disks k).faults);
    keeps_on = at_state (λ s. Keeps e holding spacing new (next_at s)) keeps_next;
    crashes = at_state CrashAt crash_next;
    lawful = λ s f k. lead_more _ _ _ (λ c is. (is, λ lands. lawful_next c s k is)) (λ c is. lawful_next c s k is) (λ c is. lawful_next c s k is)
        (other_leads d.facts.file f (IsLawfulTarget d.facts.id s.machine.history) (IsLawfulTarget d.facts.id s.machine.history) run only told (λ is. no_backup k.held is.in_order));
    blanks = λ s k f size store target. elim (cases_eq f d.facts.file) [
      | inl same ↦ absurd (one_kind (source_new k.held) (subst (λ (g : ℕ). IsTargetOf (new.seen g) true size store) same target).in_order)
      | inr other ↦ (size, store, subst (λ (file : List ℕ). IsTargetOf file true size store) ((run.files f (λ is. other (only f is))).seen) target)
    ];
    source_head = λ s start k short. (served k.freed k.history k.disks k.held).leaves.head start
        (subst (λ (s : State). length start ≤ s.machine.store.cluster) k.is short);
    target_heads = λ s f at start k has short. elim (cases_eq f d.facts.file) [
      | inl same ↦ absurd (no_record (source_old k.held) (subst (λ (g : ℕ). IsHeaderOf forms.Target (old.seen g) has.0) same has.2).spells has.3)
      | inr other ↦ spare_leads f (HasHeadBut at start) (HasHeadBut at start) run (λ is. other (only f is))
    ];
    seals = λ s f b base p k sealed backup. elim (cases_eq f d.facts.file) [
      | inl same ↦ absurd (one_kind (source_new k.held) (subst (λ (g : ℕ). IsBackupOf (new.seen g) b) same backup).in_order)
      | inr other ↦ inl (subst (λ (file : List ℕ). IsBackupOf file b) ((run.files f (λ is. other (only f is))).seen) backup)
    ];
    sealing = λ s f b base p k sealed none. since_more new old.now f (λ c. IsBackupOf c b → ⊥) _ (λ c not backup. absurd (not backup))
        (elim (cases_eq f d.facts.file) [
          | inl same ↦ subst (λ (g : ℕ). EachSince new old.now g (λ c. IsBackupOf c b → ⊥)) (sym same) (never_backup b k)
          | inr other ↦ since_spared f (λ c. IsBackupOf c b → ⊥) run (λ is. other (only f is)) none
        ]);
    sealed = λ s j k there. absurd (omega (arith, (subst (λ (s : State). Contains s.machine.jobs j) k.is there).1));
    stays = λ s f b base p k sealed. other_leads d.facts.file f (λ c. IsBackupOf c b) (λ c. IsBackupOf c b) run only told (λ is. no_backup k.held is.in_order);
  }

  pub steps : NodeSteps no_targets (shown_of d) (Keeps d holds space old) (Keeps e holding spacing new) old new event (record { reply = reply; notices = [] })
  steps = record {
    held = held;
    held_are = λ name start. absurd (false≢true (sym (starts name) ∙ start));
    rise = rise;
    trouble = tr;
    store = spacing new;
    freed = λ s. count s.machine.freed;
    rises = rises;
    goes = goes;
  }

-- ---- as the code leaves it

pub as_drive : {before : Shown} {keeps : State → Type 0} {e x : Drive} {holding : Knows} {spacing : World → Store} {old new : World} {event : Event} {reply : Reply} → x ≡ e
    → Answers before (shown_of e) keeps (Keeps e holding spacing new) old new event reply → Answers before (shown_of x) keeps (Keeps x holding spacing new) old new event reply
as_drive {before} {keeps} {holding = holding} {spacing = spacing} {old = old} {new = new} {event = event} {reply = reply} is answers =
    subst (λ (y : Drive). Answers before (shown_of y) keeps (Keeps y holding spacing new) old new event reply) (sym is) answers

pub as_event : {before after_it : Shown} {keeps keeping : State → Type 0} {old new : World} {event other : Event} {reply : Reply} → other ≡ event → Answers before after_it keeps keeping old new event reply → Answers before after_it keeps keeping old new other reply
as_event {before} {after_it} {keeps} {keeping} {old} {new} {reply = reply} is answers = subst (λ (e : Event). Answers before after_it keeps keeping old new e reply) (sym is) answers
