-- One event more.
use Rattle.std.proofs.Common.{◌≡◌, ◌⊎◌, inl, inr, ⊎_elim, ℕ, suc, ◌≤◌, List, [], ◌∷◌, ◌++◌, length, false, IsTrue, Option, Some, None, refl, sym, ap, subst, ◌∙◌, arith}
use Rattle.std.specs.Prelude.{Contains, min}
use Rattle.std.proofs.lemmas.Bool.{cases_lt}
use Rattle.std.proofs.lemmas.List.{map-append}
use Rattle.disk_model.specs.Files.{IsOutcome}
use Rattle.disk_model.specs.World.{World, Parts, Runs, versions, IsLeftAt, EachNow, EachSince, Holds, Leads}
use Rattle.disk_model.proofs.Left.{left_back}
use Rattle.disk_model.proofs.Moments.{now_since, since_now, since_on, since_spared, run_on, stay}
use Rattle.disk_model.proofs.Leads.{lead_on}
use Rattle.core_events.specs.Events.{Event}
use Rattle.core_events.specs.Answers.{Answer}
use Rattle.plain_model.specs.History.{History, now}
use Rattle.plain_model.specs.Machine.{Machine, size_of}
use Rattle.plain_model.specs.Jobs.{Job, completion}
use Rattle.image_model.specs.Backups.{Backup}
use Rattle.plain_model.specs.Laws.{sealed_by}
use Rattle.plain_model.specs.Faults.{StepFaults}
use Rattle.plain_model.proofs.Histories.{length-now}
use Rattle.core_node.specs.Files.{BlanksAreEmpty, IsLawfulTarget, Reading}
use Rattle.image_model.specs.Images.{IsBackupOf}
use Rattle.core_node.specs.Standing.{Shown, HasFiles, StandsFor, Spares}
use Rattle.core_node.specs.Touches.{SameSource, AddsTargets, works_on}
use Rattle.core_node.specs.Causes.{Causes}
use Rattle.core_node.specs.Rest.{Directory, Files, State, in_session, IsReady, IsSafe, LeftLawful, LeftIn, StaysSealed}
use Rattle.core_node.specs.Step.{may_land, during, NodeSteps, SealedIn, NoNewBlanks, next_of}
use Rattle.core_loop.specs.Course.{Given, IsWithin, Cut, Move, IsMove, AreMoves, last_cut, last_number, CrashesAfter, talk_with}
use Rattle.core_loop.specs.Sessions.{Ran, BackupsHold, SealedSince, SealsLast, AreApart}
use Rattle.core_loop.proofs.Apart.{backup_leads, stays_beside, blanks_beside, apart_on, works_apart}
use Rattle.core_loop.proofs.Courses.{any_run, lawful_in_event, last_more, moves_more, moves_run, rising, after_all, within_next, before_next}

-- ---- what a crash left, file by file

module _ {allows : List Directory} {files : Files} where
  -- each crash now
  pub left_now : {h : History} {disks : List (List ℕ)} {w : World} {k : ℕ} {left : ℕ → Option (List ℕ)}
      → EachNow w files.source (IsSafe allows files.id h disks) → ((f : ℕ) → Contains files.backups f → EachNow w f (IsLawfulTarget files.id h))
      → ((f : ℕ) → w.past k f ≡ versions w f) → IsLeftAt w k left → LeftLawful allows files h disks left
  left_now source backups same is = record {
    source = λ c here. source c (subst (λ (vs : List (List ℕ)). IsOutcome vs c) (same files.source) (is.there files.source c here));
    backups = λ f c named here. backups f named c (subst (λ (vs : List (List ℕ)). IsOutcome vs c) (same f) (is.there f c here));
  }

  -- each crash since a moment
  pub left_since : {h : History} {disks : List (List ℕ)} {w : World} (from k : ℕ) {left : ℕ → Option (List ℕ)}
      → EachSince w from files.source (IsSafe allows files.id h disks) → ((f : ℕ) → Contains files.backups f → EachSince w from f (IsLawfulTarget files.id h))
      → from ≤ k → k ≤ w.now → IsLeftAt w k left → LeftLawful allows files h disks left
  left_since from k source backups low high is = record {
    source = λ c here. source k low high c (is.there files.source c here);
    backups = λ f c named here. backups f named k low high c (is.there f c here);
  }

-- ---- sealed targets

-- over two runs
pub stays_on : {parts others : Parts} {a b c : World} → Runs parts a b → Runs others b c → StaysSealed a b → StaysSealed b c → StaysSealed a c
stays_on run on first second f b base p sealed = lead_on run on (first f b base p sealed) (second f b base p sealed)

pub blanks_on : (a b c : World) → NoNewBlanks a b → NoNewBlanks b c → NoNewBlanks a c
blanks_on a b c first second f size store target =
    let then = second f size store target in
    first f then.0 then.1 then.2

sealed_on : {parts : Parts} {mid new : World} (id : List ℕ) (m : Machine) (j : Job) (moment : ℕ) → IsTrue new.tells → Runs parts mid new → ((name : List ℕ) → parts.names name → ⊥) → StaysSealed mid new → moment ≤ mid.now
    → SealedSince mid id m j moment → SealedSince new id m j moment
sealed_on {parts} {mid} {new} id m j moment told run none stays le s =
    let b : Backup = sealed_by id (size_of m) s.content j in
    let holds : Holds s.file (λ c. IsBackupOf c b) (λ c. IsBackupOf c b) mid = record { seen = λ told. s.seen; each = now_since mid moment s.file (λ c. IsBackupOf c b) le s.since } in
    let leads = stays s.file b j.base j.point refl in
    record {
      file = s.file;
      content = s.content;
      is = run.found j.target (none j.target) ∙ s.is;
      holds = s.holds;
      seen = (leads.after holds).seen told;
      since = since_on moment s.file (λ c. IsBackupOf c b) run s.since (leads.since holds);
    }

pub seals_on : {parts : Parts} {mid new : World} (reading : Reading) (own : ℕ → Type 0) (name id : List ℕ) → IsTrue new.tells → Runs parts mid new
    → ((name : List ℕ) → parts.names name → ⊥) → StaysSealed mid new
    → (from : Cut) (moves : List Move) → AreMoves reading own name from moves → (last_cut from moves).world.now ≤ mid.now → SealsLast mid id from moves
    → SealsLast new id from moves
seals_on reading own name id told run none stays from [] steps reached seals = tt
seals_on reading own name id told run none stays from (move ∷ moves) steps reached seals = (
  λ j there done. sealed_on id from.state.machine j move.cut.world.now told run none stays
      (omega (arith, rising reading own name move.cut moves steps.1, reached)) (seals.0 j there done),
  seals_on reading own name id told run none stays move.cut moves steps.1 reached seals.1,
)

pub seals_more : {w : World} (id : List ℕ) (from : Cut) (moves : List Move) (move : Move) → SealsLast w id from moves
    → ((j : Job) → Contains (last_cut from moves).state.machine.jobs j → Contains move.answer.notices (completion (size_of (last_cut from moves).state.machine) None j) → SealedSince w id (last_cut from moves).state.machine j move.cut.world.now)
    → SealsLast w id from (moves ++ move ∷ [])
seals_more id from [] move seals last = (last, tt)
seals_more id from (m ∷ moves) move seals last = (seals.0, seals_more id m.cut moves move seals.1 last)

pub sealed_in : (w : World) (id : List ℕ) (m : Machine) (j : Job) (found : Option ℕ) → w.found j.target ≡ found → SealedIn w id m j found → SealedSince w id m j w.now
sealed_in w id m j None is sealed = absurd sealed
sealed_in w id m j (Some f) is sealed = record {
  file = f;
  content = sealed.0;
  is = is;
  holds = sealed.3;
  seen = sealed.1;
  since = since_now w f (λ c. IsBackupOf c (sealed_by id (size_of m) sealed.0 j)) sealed.2;
}

some_same : {a b : List ℕ} → Some a ≡ Some b → a ≡ b
some_same e = cc

-- ---- an event

abbrev pub Knows : Type 1
Knows = State → Type 0

-- the source is ready for this state, and safe
abbrev pub HoldsIn : ℕ → List ℕ → State → World → Type 0
HoldsIn f id s w = Holds f (IsReady (in_session s) id s.machine.history) (IsSafe (in_session s) id s.machine.history s.disks) w

abbrev pub SafeFor : List ℕ → State → List ℕ → Type 0
SafeFor id s c = IsSafe (in_session s) id s.machine.history s.disks c

pub moved_to : (P : ℕ → List ℕ → Type 0) {f g : ℕ} {i j : List ℕ} → f ≡ g → i ≡ j → P f i → P g j
moved_to P {f} {g} {i} {j} file id has = subst (λ (x : ℕ). P x j) file (subst (λ (y : List ℕ). P f y) id has)

-- what a node knows: it stands for the state, the source is then ready and safe, and calls that spare its files leave it so
pub record NodeLaws (shown : Shown) (keeps : World → Knows) : Type 0 where
  pub stands : (w : World) (s : State) → keeps w s → StandsFor shown w s.machine
  pub safe : (w : World) (s : State) → keeps w s → HoldsIn shown.file shown.id s w
  pub spared : (old new : World) (s : State) → Spares shown old new → keeps old s → keeps new s

-- an event that a node carried out
pub record Carries (reading : Reading) (before after : Shown) (K L : Knows) (old new : World) (event : Event) (answer : Answer) : Type 0 where
  pub running : before.ended ≡ false
  pub same : SameSource before after
  pub added : AddsTargets before after event
  pub files : HasFiles after new
  pub run : Runs (works_on before after new event answer) old new
  pub causes : Causes before after old new event answer
  pub steps : IsTrue old.tells → BlanksAreEmpty old event → NodeSteps reading before K L old new event answer

module _ {reading : Reading} {own : ℕ → Type 0} {files : Files} {name : List ℕ} {first : Cut} {K L : World → Knows} {after : Shown} {done : List Given}
    {mid new : World} (given : Given) {answer : Answer}
    (r : Ran reading own files name first (K mid) (talk_with own) done mid)
    (laws : NodeLaws (last_cut first r.moves).shown K) (laws_after : NodeLaws after L)
    (call : Carries reading (last_cut first r.moves).shown after (K mid) (L new) mid new given.event answer)
    (s : NodeSteps reading (last_cut first r.moves).shown (K mid) (L new) mid new given.event answer)
    (told : IsTrue mid.tells) (file_is : files.source ≡ (last_cut first r.moves).shown.file) (id_is : files.id ≡ (last_cut first r.moves).shown.id)
    (first_is : files.source ≡ first.shown.file) (name_is : mid.named (last_cut first r.moves).shown.file ≡ name)
    (printed : IsTrue (last_cut first r.moves).world.prints → mid.printed ≡ (last_cut first r.moves).told ++ given.said) where
  abbrev last : Cut
  last = last_cut first r.moves

  abbrev next : State
  next = next_of s.held s.trouble given.event answer s.store (s.freed last.state) last.state

  abbrev number : ℕ
  number = min (suc last.number) last_number

  abbrev pub move : Move
  move = record {
    given = given;
    start = mid;
    seen = record { held = s.held; rise = s.rise };
    answer = answer;
    cut = record { state = next; shown = after; world = new; told = last.told ++ (given.said ++ given.tell number answer); number = number };
  }

  stood : StandsFor last.shown mid last.state.machine
  stood = laws.stands mid last.state r.keeps

  pub goes_on : L new next
  goes_on = s.goes.keeps_on last.state r.keeps

  stands : StandsFor after new next.machine
  stands = laws_after.stands new next goes_on

  is_move : IsMove reading own name last move
  is_move = record {
    between = r.reached;
    printed = printed;
    work = call.run;
    held_is = s.held_are;
    rises = s.rises;
    causes = call.causes;
    running = sym stood.numbers.ended_is ∙ call.running;
    step = record {
      trouble = s.trouble;
      contents = s.goes.contents last.state r.keeps;
      space = s.goes.space last.state r.keeps;
      faults = subst (λ (n : List ℕ). StepFaults n s.rise s.trouble last.state.machine given.event answer) name_is (s.goes.faults last.state r.keeps);
    };
    disks_are = refl;
    entries_are = refl;
    stands = stands;
    source_stays = call.same;
    number_is = refl;
    told_is = refl;
    history_is = stands.sound.history_is;
    source_head = λ start. s.goes.source_head last.state start r.keeps;
    target_heads = λ f at start. s.goes.target_heads last.state f at start r.keeps;
    seals = λ f b base p. s.goes.seals last.state f b base p r.keeps;
    sealing = λ f b base p. s.goes.sealing last.state f b base p r.keeps;
  }

  -- the disk stays as long as it was
  as_long : length (now next.machine.history) ≡ length last.state.machine.history.start
  as_long = length-now next.machine.history stands.sound.history_is.inside ∙ sym stands.numbers.size_is ∙ call.same.size_stays ∙ stood.numbers.size_is

  abbrev within : State
  within = during last.state given.event (now next.machine.history)

  -- the source's outcome says which of the two counts
  in_event : (k : ℕ) {left : ℕ → Option (List ℕ)} → mid.now ≤ k → k ≤ new.now → IsLeftAt new k left → (x : State) × IsWithin last move x × LeftIn files x left
  in_event k {left} low high is = by_source (left files.source) refl
    where
      source : (c : List ℕ) → left files.source ≡ Some c → SafeFor files.id within c ⊎ (IsTrue (may_land given.event) × SafeFor files.id next c)
      source c here =
          moved_to (λ f id. EachSince new mid.now f (λ c. SafeFor id within c ⊎ (IsTrue (may_land given.event) × SafeFor id next c))) (sym file_is)
          (sym id_is) (s.goes.crashes last.state r.keeps)
          k low high c (is.there files.source c here)

      backup : (f : ℕ) (c : List ℕ) → Contains files.backups f → left f ≡ Some c → IsLawfulTarget files.id last.state.machine.history c × (IsTrue (may_land given.event) → IsLawfulTarget files.id next.machine.history c)
      backup f c named here =
          (subst (λ (id : List ℕ). Holds f (IsLawfulTarget id last.state.machine.history) (IsLawfulTarget id last.state.machine.history) mid
          → EachSince new mid.now f
          (λ c. IsLawfulTarget id last.state.machine.history c × (IsTrue (may_land given.event) → IsLawfulTarget id next.machine.history c))) (sym id_is)
          (s.goes.lawful last.state f r.keeps).since (r.backups f named)) k low high c (is.there f c here)

      before_it : ((c : List ℕ) → left files.source ≡ Some c → SafeFor files.id within c) → (x : State) × IsWithin last move x × LeftIn files x left
      before_it safe = (within, inl refl, record { source = safe; backups = λ f c named here. (backup f c named here).0 })

      by_source : (o : Option (List ℕ)) → left files.source ≡ o → (x : State) × IsWithin last move x × LeftIn files x left
      by_source None none = before_it (λ c here. absurd (differ (sym none ∙ here)))
        where
          differ : {c : List ℕ} → None ≡ Some c → ⊥
          differ e = absurd (cc)
      by_source (Some c) here = ⊎_elim
          (λ (safe : SafeFor files.id within c). before_it (λ d there. subst (SafeFor files.id within) (same there) safe))
          (λ (lands : IsTrue (may_land given.event) × SafeFor files.id next c). (
            next,
            inr (lands.0, refl),
            record {
              source = λ d there. subst (SafeFor files.id next) (same there) lands.1;
              backups = λ f d named there. (backup f d named there).1 lands.0;
            },
          ))
          (source c here)
        where
          same : {d : List ℕ} → left files.source ≡ Some d → c ≡ d
          same there = some_same (sym here ∙ there)

  pub backups_on : BackupsHold files next.machine new
  backups_on f named = subst (λ (id : List ℕ). Holds f (IsLawfulTarget id last.state.machine.history) (IsLawfulTarget id last.state.machine.history) mid → Holds f (IsLawfulTarget id next.machine.history) (IsLawfulTarget id next.machine.history) new)
      (sym id_is) (s.goes.lawful last.state f r.keeps).after (r.backups f named)

  -- each crash after it
  at_end : (k : ℕ) {left : ℕ → Option (List ℕ)} → k ≡ new.now → IsLeftAt new k left → LeftIn files next left
  at_end k is_now is = left_now
      (moved_to (λ f id. HoldsIn f id next new) (call.same.file_stays ∙ sym file_is) (call.same.id_stays ∙ sym id_is) (laws_after.safe new next goes_on)).each
      (λ f named. (backups_on f named).each)
      (λ f. ap (λ (m : ℕ). new.past m f) is_now)
      is

  pub steps_on : AreMoves reading own name first (r.moves ++ move ∷ [])
  steps_on = moves_more reading own name first r.moves move r.steps is_move

  pub crashes_on : CrashesAfter files first (r.moves ++ move ∷ []) new
  crashes_on k left low high is = elim (cases_lt k mid.now) [
    | inl before ↦ before_next reading own name k first r.moves move (omega (arith, before, call.run.goes.later))
        (lawful_in_event last.state given.event (now next.machine.history) as_long)
        (r.crashes k left low (omega arith) (left_back call.run (omega arith) is))
    | inr since ↦ elim (cases_lt k new.now) [
      | inl within ↦ within_next reading own name k first r.moves move r.steps (omega (arith, r.reached.goes.later, since)) within (in_event k since high is)
      | inr past ↦
          let same : k ≡ new.now = omega arith in
          after_all reading own name k first (r.moves ++ move ∷ []) steps_on
          (subst (λ (c : Cut). c.world.now ≤ k) (sym (last_more first r.moves move)) past)
          (subst (λ (c : Cut). LeftIn files c.state left) (sym (last_more first r.moves move)) (at_end k same is))
    ]
  ]

  pub stays : StaysSealed mid new
  stays f b base p sealed = s.goes.stays last.state f b base p r.keeps sealed

  pub seals : SealsLast new files.id first (r.moves ++ move ∷ [])
  seals = seals_more files.id first r.moves move
      (seals_on reading own name files.id (subst IsTrue (sym call.run.goes.tells) told) call.run
      (λ name none. none) stays first r.moves r.steps r.reached.goes.later r.sealed)
      (λ j there done. sealed_in new files.id last.state.machine j (new.found j.target) refl
      (subst (λ (id : List ℕ). SealedIn new id last.state.machine j (new.found j.target)) (sym id_is) (s.goes.sealed last.state j r.keeps there done)))

  -- it is none of the files of its own
  pub apart_after : AreApart own first.shown.file new
  apart_after = apart_on call.run
      (works_apart told stood (subst (λ (f : ℕ). AreApart own f mid) (sym first_is ∙ file_is) r.apart) after new given.event answer) r.apart

  abbrev pub ran_on : Ran reading own files name first (L new) (talk_with own) (done ++ given ∷ []) new
  ran_on = record {
    moves = r.moves ++ move ∷ [];
    steps = steps_on;
    given_are = map-append (λ (m : Move). m.given) r.moves (move ∷ []) ∙ ap (λ (gs : List Given). gs ++ given ∷ []) r.given_are;
    keeps = subst (λ (c : Cut). L new c.state) (sym (last_more first r.moves move)) goes_on;
    backups = subst (λ (c : Cut). BackupsHold files c.state.machine new) (sym (last_more first r.moves move)) backups_on;
    crashes = crashes_on;
    sealed = seals;
    stays = stays_on (run_on (moves_run reading own name first r.moves r.steps) (any_run (λ name none. none) r.reached)) call.run r.stays stays;
    blanks = blanks_on first.world mid new r.blanks (s.goes.blanks last.state r.keeps);
    apart = apart_after;
    reached = subst (λ (c : Cut). Runs (talk_with own) c.world new) (sym (last_more first r.moves move)) (stay (talk_with own) new);
  }

-- ---- calls that spare the source and backups

module _ {reading : Reading} {own : ℕ → Type 0} {files : Files} {name : List ℕ} {first : Cut} {K : Knows} {done : List Given} {parts : Parts} {mid new : World}
    (r : Ran reading own files name first K (talk_with own) done mid) (run : Runs parts mid new) (no_names : (name : List ℕ) → parts.names name → ⊥)
    (told : IsTrue mid.tells)
    (before : AreApart parts.files files.source mid) (after : AreApart parts.files files.source new)
    (safe : HoldsIn files.source files.id (last_cut first r.moves).state mid) where
  abbrev IsLawful : List ℕ → Type 0
  IsLawful = IsLawfulTarget files.id (last_cut first r.moves).state.machine.history

  pub backup_on : (f : ℕ) → Leads f IsLawful IsLawful IsLawful IsLawful IsLawful mid new
  backup_on f = backup_leads run f IsLawful IsLawful (λ c is. (is.bytes, is.store, is.in_order)) told before.no_backup

  pub spared_crashes : CrashesAfter files first r.moves new
  spared_crashes k left low high is = elim (cases_lt mid.now k) [
    | inr earlier ↦ r.crashes k left low earlier (left_back run earlier is)
    | inl later ↦ after_all reading own name k first r.moves r.steps (omega (arith, r.reached.goes.later))
        (left_since mid.now k (since_spared files.source _ run before.source_isnt safe.each) (λ f named. (backup_on f).since (r.backups f named))
        (omega arith) high is)
  ]

  pub spared_seals : SealsLast new files.id first r.moves
  spared_seals = seals_on reading own name files.id (subst IsTrue (sym run.goes.tells) told) run no_names
      (stays_beside run told before.no_backup) first r.moves r.steps r.reached.goes.later r.sealed

  abbrev pub spared_on : {L : Knows} {others : Parts} → L (last_cut first r.moves).state → AreApart own first.shown.file new
      → Runs others (last_cut first r.moves).world new
      → Ran reading own files name first L others done new
  spared_on keeps apart reached = record {
    moves = r.moves;
    steps = r.steps;
    given_are = r.given_are;
    keeps = keeps;
    backups = λ f named. (backup_on f).after (r.backups f named);
    crashes = spared_crashes;
    sealed = spared_seals;
    stays = stays_on (run_on (moves_run reading own name first r.moves r.steps) (any_run (λ name none. none) r.reached)) run r.stays
        (stays_beside run told before.no_backup);
    blanks = blanks_on first.world mid new r.blanks (blanks_beside run after.no_backup);
    apart = apart;
    reached = reached;
  }
