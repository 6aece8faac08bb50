-- A whole session.
use Rattle.std.proofs.Common.{◌≡◌, ◌⊎◌, inl, inr, ⊎_elim, ℕ, ◌<◌, ◌≤◌, List, [], ◌∷◌, ◌++◌, take, IsTrue, Option, Some, refl, sym, ap, subst, ◌∙◌, arith}
use Rattle.std.specs.Prelude.{Result, Err, IsOk, Bool, false, Contains}
use Rattle.std.proofs.lemmas.Bool.{cases_lt, false≢true}
use Rattle.std.proofs.lemmas.List.Elements.{All-nil, All-cons, All-contains}
use Rattle.disk_model.specs.World.{World, Parts, Runs, GoesOn, FileFailed, only_file, IsLeftAt}
use Rattle.disk_model.proofs.Left.{left_back}
use Rattle.disk_model.proofs.Moments.{run_on, run_both, run_more, go_on, stay, Within, since_now, file_failed_after}
use Rattle.disk_model.proofs.Leads.{spare_leads}
use Rattle.core_events.specs.Answers.{Answer}
use Rattle.plain_model.specs.History.{History, now}
use Rattle.plain_model.specs.Laws.{IsLikeDisk}
use Rattle.core_node.specs.Standing.{Shown, TargetFile, StandsFor}
use Rattle.core_node.specs.Touches.{SameSource}
use Rattle.core_node.specs.Rest.{Directory, Files, State, or_marked, closed_directory, in_session, in_closing, first_state, AreLawful, LeftLawful, Mixes, StaysSealed}
use Rattle.core_node.specs.Step.{NoNewBlanks}
use Rattle.core_node.specs.Files.{IsLawfulTarget, Reading}
use Rattle.core_loop.specs.Course.{Given, Heard, asked, Cut, last_cut, LeftAt, texts, run_parts}
use Rattle.core_node.specs.Ends.{NodeBegins, Opened, Closes, Closed, NotClosedBy}
use Rattle.core_loop.specs.Sessions.{BackupsHold, Covers, Starts, AreApart, IsCalm, HaltedIn, HaltedOutside, RanEvents, Says, Begun, OwesAll, OwesTexts, StoppedIn, ClosingEnds, ClosingFailed, start_cut}
use Rattle.core_node.proofs.Keeping.{head_header, same_header}
use Rattle.core_node.proofs.Rests.{Sub, allows_left, ready_more, safe_more}
use Rattle.core_loop.proofs.Courses.{any_call, any_run, moves_run}
use Rattle.core_loop.proofs.Going.{Knows, HoldsIn, moved_to, left_since, seals_on, stays_on, blanks_on}
use Rattle.core_loop.proofs.Looping.{EachRan, EachKnows, parts_of, parts_on, same_asked}
use Rattle.core_loop.proofs.Opening.{OpenCall, opens_within, may_start, open_crashes, open_stays, open_blanks, source_stays, source_blanks, source_apart}
use Rattle.image_model.specs.declared.refusals.CloseRefusal.{CloseRefusal}
use Rattle.image_model.specs.declared.refusals.CloseRefusal.TheVariants as unclosed
use Rattle.core_loop.specs.declared.events.Halt.{Halt}
use Rattle.core_loop.specs.declared.events.Halt.TheVariants.{Memory, Fault, Lost}
use Rattle.core_loop.specs.declared.session.Stop.{Stop}
use Rattle.core_loop.specs.declared.session.Stop.TheVariants.{Halted}

-- the disk now alone
alone : {h : History} {disks : List (List ℕ)} → Mixes h disks → Mixes h (now h ∷ [])
alone {h} {disks} mixes = record {
  among = (0, omega arith, refl);
  alike = All-cons (IsLikeDisk h) (now h) []
      (All-contains (IsLikeDisk h) disks (now h) mixes.alike mixes.among) (All-nil (IsLikeDisk h));
}

-- the state in which a session begins
abbrev pub begin_state : {allows : List Directory} {shown : Shown} {K : Knows} {file : ℕ} {id : List ℕ} {h : History} {old new : World} → NodeBegins allows shown K file id h old new → State
begin_state {h = h} begins = first_state h (record begins.opening { taken = begins.taken; given = begins.given })

-- an image was opened
pub record Opens (own : ℕ → Type 0) (file : ℕ) (shown : Shown) (K : Knows) (old new : World) : Type 0 where
  pub call : OpenCall file old new
  pub opened : Opened file shown K old new
  pub given : file < old.given
  pub found : old.found (old.named file) ≡ Some file
  pub apart : AreApart own file old

module _ {own : ℕ → Type 0} {allows : List Directory} {files : Files} {file : ℕ} {h : History} {disks : List (List ℕ)} {shown : Shown} {K : Knows}
    {old mid : World} (told : IsTrue old.tells) (is : files.source ≡ file) (lawful : AreLawful allows files h disks old) (at_file : Opens own file shown K old mid) where
  opens_source : Opens own files.source shown K old mid
  opens_source = subst (λ (f : ℕ). Opens own f shown K old mid) (sym is) at_file

  pub node_begins : NodeBegins allows shown K files.source files.id h old mid
  node_begins = opens_source.opened.begins allows files.id h disks told opens_source.found lawful.history_is lawful.source

  -- what is so in each state in which a run may begin is so in that in which a session begins
  pub when_begun : (P : State → Type 0) (given : List Given) → Covers files (asked given) old → ((s : State) → IsTrue mid.tells → AreApart own shown.file mid → Starts files shown K (asked given) s mid → P s)
      → P (begin_state node_begins)
  when_begun P given covers each = each (begin_state node_begins) (subst IsTrue (sym opens_source.call.run.goes.tells) told)
      (subst (λ (f : ℕ). AreApart own f mid) (sym opens_source.opened.file_is) (source_apart opens_source.call.run opens_source.apart))
      (may_start opens_source.call lawful told opens_source.opened.file_is node_begins covers)

  -- so the giver knows what it knew
  pub knows_session : (given : List Given) {Was Is : Type 0} → Covers files (asked given) old → EachKnows own shown K given mid Was Is → Was → Is
  knows_session given {Was} {Is} covers each = when_begun (λ s. Was → Is) given covers (each files)

module _ {reading : Reading} {own : ℕ → Type 0} {allows : List Directory} {files : Files} {file : ℕ} {h : History} {disks : List (List ℕ)}
    {given : List Given} {over : List ℕ → Type 0} {heard : List Heard → Type 0} {shown after : Shown} {K L : Knows} {old mid new : World}
    (told : IsTrue old.tells) (is : files.source ≡ file) (lawful : AreLawful allows files h disks old) (covers : Covers files (asked given) old)
    (at_file : Opens own file shown K old mid) {Was : Type 0} (knew : Was)
    (same : SameSource shown after) (stood : (s : State) → K s → StandsFor shown mid s.machine) (stands : (s : State) → L s → StandsFor after new s.machine)
    (safe : (s : State) → L s → HoldsIn after.file after.id s new)
    (mixes : (s : State) → L s → Mixes s.machine.history s.disks)
    {halt : Result (Unit {0}) Halt} (each : EachRan reading own shown K Was L halt after.ended over heard given mid new) where
  abbrev name : List ℕ
  name = old.named file

  begins : NodeBegins allows shown K files.source files.id h old mid
  begins = node_begins told is lawful at_file

  o : Opens own files.source shown K old mid
  o = opens_source told is lawful at_file

  abbrev call : OpenCall files.source old mid
  call = o.call

  r : RanEvents reading own files name (begin_state begins) shown L halt after.ended over heard given mid new
  unfolding begins
  r = subst (λ (n : List ℕ). RanEvents reading own files n (begin_state begins) shown L halt after.ended over heard given mid new)
      (ap mid.named o.opened.file_is ∙ call.run.goes.named files.source o.given ∙ ap old.named is)
      (when_begun told is lawful at_file (λ s. RanEvents reading own files (mid.named shown.file) s shown L halt after.ended over heard given mid new)
      given covers (λ s tells apart starts. each files s tells apart knew starts))

  abbrev first : Cut
  first = start_cut (begin_state begins) shown mid

  abbrev last : Cut
  last = last_cut first r.ran.moves

  run : Runs any_call mid new
  run = run_on (moves_run reading own name first r.ran.moves r.ran.steps) (any_run (λ name none. none) r.ran.reached)

  file_same : after.file ≡ files.source
  file_same = same.file_stays ∙ o.opened.file_is

  id_same : after.id ≡ files.id
  id_same = same.id_stays ∙ begins.id_is

  told_new : IsTrue new.tells
  told_new = subst IsTrue (sym (run.goes.tells ∙ call.run.goes.tells)) told

  source_rests : HoldsIn files.source files.id last.state new
  source_rests = moved_to (λ f id. HoldsIn f id last.state new) file_same id_same (safe last.state r.ran.keeps)

  crashes_to_here : (k : ℕ) (left : ℕ → Option (List ℕ)) → old.now ≤ k → k ≤ new.now → IsLeftAt new k left
      → ((k < mid.now) × LeftLawful (or_marked allows) files h disks left) ⊎ ((mid.now ≤ k) × LeftAt files k left first r.ran.moves)
  crashes_to_here k left low high is = elim (cases_lt k mid.now) [
    | inl before ↦ inl (before, open_crashes call lawful told k left low (omega arith) (left_back run (omega arith) is))
    | inr since ↦ inr (since, r.ran.crashes k left since high is)
  ]

  -- the session was closed, or not
  module _ {end : World} (close : Runs (only_file files.source) new end) (closes : Closes files.source files.id last.state new end) where
    backups_end : BackupsHold files last.state.machine end
    backups_end f named = (spare_leads f _ _ close (lawful.apart f named)).after (r.ran.backups f named)

    crashes_to_end : (k : ℕ) (left : ℕ → Option (List ℕ)) → old.now ≤ k → k ≤ end.now → IsLeftAt end k left
        → ((k < mid.now) × LeftLawful (or_marked allows) files h disks left)
        ⊎ (((mid.now ≤ k) × (k ≤ new.now) × LeftAt files k left first r.ran.moves)
        ⊎ ((new.now < k) × LeftLawful (in_closing last.state) files last.state.machine.history last.state.disks left))
    crashes_to_end k left low high is = elim (cases_lt new.now k) [
      | inr before ↦ ⊎_elim
          (λ (here : (k < mid.now) × LeftLawful (or_marked allows) files h disks left). inl here)
          (λ (later : (mid.now ≤ k) × LeftAt files k left first r.ran.moves). inr (inl (later.0, before, later.1)))
          (crashes_to_here k left low before (left_back close before is))
      | inl since ↦ inr (inr (
        since,
        left_since new.now k closes.since (λ f named. (spare_leads f _ (IsLawfulTarget files.id last.state.machine.history) close (lawful.apart f named)).since (r.ran.backups f named)) (omega arith) high is,
      ))
    ]

    told_end : IsTrue end.tells
    told_end = subst IsTrue (sym close.goes.tells) told_new

    close_stays : StaysSealed new end
    close_stays = source_stays close told_new (source_rests.seen told_new)

    close_blanks : NoNewBlanks new end
    close_blanks = source_blanks close (closes.rest.seen told_end)

    apart_end : AreApart own files.source end
    apart_end = source_apart close (subst (λ (f : ℕ). AreApart own f new) o.opened.file_is r.ran.apart)

    printed_here : Says (texts r.ran.moves ++ r.rest) mid new → Says (texts r.ran.moves ++ r.rest) old end
    printed_here all = record {
      printed = λ prints. (close.text (λ none. none)).printed ∙ all.printed (subst IsTrue (sym call.run.goes.prints) prints)
          ∙ ap (λ (p : List ℕ). p ++ (texts r.ran.moves ++ r.rest)) (call.run.text (λ none. none)).printed;
    }

    begun_by : {T : Type 0} {result : Result T Stop} {left : Bool} {answer : Answer} → (OwesTexts result → OwesAll halt) → (IsOk result → IsOk halt)
        → (IsOk result → IsTrue left → end ≡ new) → (IsOk result → left ≡ false → Closed files.source files.id last.state new end answer) → StoppedIn result files.source files.id last.state last.world new end
        → Begun reading own allows files name h disks result left over heard given answer old end
    begun_by owes ok unclosed closed stopped = record {
      opening = begins.opening;
      taken = begins.taken;
      freed = begins.given;
      finds = begins.finds;
      entries_are = begins.entries_are;
      allowed = begins.allowed;
      epoch_left = begins.epoch_left;
      enough = begins.enough;
      nothing_taken = begins.nothing_taken;
      nothing_given = begins.nothing_given;
      begun = mid;
      clusters = begins.clusters;
      open_header = begins.header;
      head = begins.head;
      open_run = call.run;
      opens = opens_within call lawful told;
      shown = shown;
      first = first;
      first_is = refl;
      stands = stood (begin_state begins) begins.keeps_it;
      n = r.n;
      moves = r.ran.moves;
      steps = r.ran.steps;
      given_are = r.ran.given_are;
      most = r.most;
      heard = r.heard;
      well = λ well. r.well (ok well);
      last_said = r.rest;
      done = new;
      reached = r.ran.reached;
      close_run = close;
      printed = λ prints.
          let part = r.in_part (subst IsTrue (sym call.run.goes.prints) prints) in (
            part.0,
            (close.text (λ none. none)).printed ∙ part.1
                ∙ ap (λ (p : List ℕ). p ++ take part.0 (texts r.ran.moves ++ r.rest)) (call.run.text (λ none. none)).printed,
          );
      owed = λ owe. printed_here (r.printed (owes owe));
      crashes = crashes_to_end;
      sealed = seals_on reading own name files.id told_end close
          (λ name none. none) close_stays first r.ran.moves r.ran.steps r.ran.reached.goes.later r.ran.sealed;
      stays = stays_on call.run (run_on run (any_run (λ name none. none) close)) (open_stays call lawful told) (stays_on run close r.ran.stays close_stays);
      blanks = blanks_on old mid end (open_blanks call lawful told) (blanks_on mid new end r.ran.blanks close_blanks);
      apart = apart_end;
      close_headers = closes.headers;
      rest = record {
        history_is = (stands last.state r.ran.keeps).sound.history_is;
        mixes = mixes last.state r.ran.keeps;
        source = closes.rest;
        apart = lawful.apart;
        backups = backups_end;
      };
      between = λ well. r.between (ok well);
      all = λ well.
          let every = r.all (ok well) in (
            every.0,
            ⊎_elim (λ (none : over r.rest). inl none)
                (λ (ended : IsTrue after.ended × (r.rest ≡ [])). inr (sym (stands last.state r.ran.keeps).numbers.ended_is ∙ ended.0, ended.1)) every.1,
          );
      unclosed = unclosed;
      closed = closed;
      rest_closed = λ well shut. record {
        history_is = (stands last.state r.ran.keeps).sound.history_is;
        mixes = alone (mixes last.state r.ran.keeps);
        source = (closed well shut).rest;
        apart = lawful.apart;
        backups = backups_end;
      };
      stopped = stopped;
    }

  -- the run of the events stopped, or nothing is closed after it
  in_both : Sub (in_session last.state) (in_closing last.state)
  in_both d is = allows_left (in_session last.state) (closed_directory last.state ∷ []) d is

  stays_closed : Closes files.source files.id last.state new new
  stays_closed = record {
    since = since_now new files.source _ (λ c left. safe_more in_both (source_rests.each c left));
    rest = record { seen = λ told. ready_more in_both (source_rests.seen told); each = λ c left. safe_more in_both (source_rests.each c left) };
    headers = λ known. (since_now new files.source _ (λ c left. head_header (new.seen files.source) c (known c left)), same_header (new.seen files.source));
  }

  pub has_stopped : {T : Type 0} {result : Result T Stop} {left : Bool} {answer : Answer} → (OwesTexts result → OwesAll halt) → (IsOk result → IsOk halt × IsTrue left)
      → ((f : ℕ) (id : List ℕ) (s : State) (w : World) → HaltedIn halt w new → StoppedIn result f id s w new new)
      → Begun reading own allows files name h disks result left over heard given answer old new
  has_stopped owes ok stopped =
      begun_by (stay (only_file files.source) new) stays_closed owes (λ well. (ok well).0) (λ well kept. refl)
      (λ well shut. absurd (false≢true (sym shut ∙ (ok well).1)))
      (stopped files.source files.id last.state last.world r.halted)

  -- or it went on to the closing
  pub has_closed : {end : World} {T : Type 0} {result : Result T Stop} {left : Bool} {answer : Answer} → Runs (only_file after.file) new end
      → ((s : State) → IsTrue new.tells → L s → Closes after.file after.id s new end)
      → (OwesTexts result → OwesAll halt) → (IsOk result → IsOk halt × (left ≡ false))
      → (IsOk result → (s : State) → IsTrue new.tells → L s → Closed after.file after.id s new end answer)
      → ((s : State) (w : World) → IsTrue new.tells → L s → StoppedIn result after.file after.id s w new end)
      → Begun reading own allows files name h disks result left over heard given answer old end
  has_closed {end} {result = result} {answer} close closes owes ok closed stopped =
      begun_by (subst (λ (f : ℕ). Runs (only_file f) new end) file_same close)
      (moved_to (λ f id. Closes f id last.state new end) file_same id_same (closes last.state told_new r.ran.keeps)) owes (λ well. (ok well).0)
      (λ well kept. absurd (false≢true (sym (ok well).1 ∙ kept)))
      (λ well shut. moved_to (λ f id. Closed f id last.state new end answer) file_same id_same (closed well last.state told_new r.ran.keeps))
      (moved_to (λ f id. StoppedIn result f id last.state last.world new end) file_same id_same (stopped last.state last.world told_new r.ran.keeps))

pub owes_halted : (T S : Type 0) (why : Halt) → OwesTexts {T = T} (Err (Halted why)) → OwesAll {T = S} (Err why)
owes_halted T S Memory owes = tt
owes_halted T S Fault owes = owes
owes_halted T S Lost owes = tt

-- ---- refused closings

pub closing_ends : (why : CloseRefusal) (shown : Shown) (old new : World) → NotClosedBy why shown old new → ClosingEnds why shown.file old new
closing_ends (unclosed.Broken event) shown old new by = by.1
closing_ends unclosed.NoRoom shown old new by = tt
closing_ends unclosed.Failed shown old new by = by.1
closing_ends unclosed.Memory shown old new by = tt

pub closing_failed : {parts : Parts} {old mid : World} (new : World) → Runs parts old mid → (why : CloseRefusal) (file : ℕ) (shown : Shown) → shown.file ≡ file
    → NotClosedBy why shown mid new → ClosingFailed why file old new
closing_failed new before (unclosed.Broken event) file shown is by = tt
closing_failed new before unclosed.NoRoom file shown is by = tt
closing_failed {mid = mid} new before unclosed.Failed file shown is by = file_failed_after before (subst (λ (f : ℕ). FileFailed f mid new) is by.1)
closing_failed new before unclosed.Memory file shown is by = tt

-- a halt within the events is one within the session
pub halted_session : {own : ℕ → Type 0} {old mid new : World} (why : Halt) → GoesOn old mid → HaltedOutside own why mid new → HaltedOutside own why old new
halted_session why first halted = record { since = halted.since; before = go_on first halted.before; calls = halted.calls; halted = halted.halted }

-- ---- what a session touches

-- calls on the source leave what the giver knows
pub source_calm : {own few : ℕ → Type 0} {file : ℕ} {old new : World} → (own file → ⊥) → ((f : ℕ) → few f → own f) → Runs (only_file file) old new → IsCalm few old new
source_calm {own} isnt within run = record {
  goes = run.goes;
  files = λ f mine. run.files f (λ same. isnt (subst own same (within f mine)));
  quiet = run.text (λ none. none);
  unsent = run.wire (λ none. none);
}

source_within : {file : ℕ} {own : ℕ → Type 0} (given : List Given) (w : World) → Within (only_file file) (run_parts file (λ f. ⊥) own (asked given) w)
source_within given w = record { files = λ f is. inl is; reads = λ f is. inl is; names = λ name none. none; text = λ none. tt; wire = λ none. tt }

pub source_run : {file : ℕ} {own : ℕ → Type 0} (given : List Given) {old new : World} → Runs (only_file file) old new → Runs (run_parts file (λ f. ⊥) own (asked given) new) old new
source_run given {new = new} run = run_more (source_within given new) run

module _ {own : ℕ → Type 0} {file : ℕ} {shown : Shown} {K : Knows} {old mid new : World} (given : List Given) (opened : Opened file shown K old mid)
    (opening : Runs (only_file file) old mid) (events : Runs (parts_of shown own given new) mid new) where
  -- a node that has just begun has no targets
  pub events_run : Runs (run_parts file (λ f. ⊥) own (asked given) new) old new
  events_run = run_both (source_within given new) (record { files = touched; reads = touched; names = λ name none. none; text = λ is. is; wire = λ is. is }) opening events
    where
      touched : (f : ℕ) → (parts_of shown own given new).files f → (run_parts file (λ f. ⊥) own (asked given) new).files f
      touched f (inl is) = inl (is ∙ opened.file_is)
      touched f (inr (inl (t, among, is))) = let none = subst (λ (ts : List TargetFile). Contains ts t) opened.fresh.targets among in absurd (omega (arith, none.1))
      touched f (inr (inr more)) = inr (inr more)

  pub closing_run : {after : Shown} {end : World} → SameSource shown after → Runs (only_file after.file) new end → Runs (run_parts file (λ f. ⊥) own (asked given) end) old end
  closing_run {end = end} same close = run_both (parts_on close.goes (same_asked given)) (source_within given end) events_run
      (subst (λ (f : ℕ). Runs (only_file f) new end) (same.file_stays ∙ opened.file_is) close)
