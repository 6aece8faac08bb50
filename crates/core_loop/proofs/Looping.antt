-- The loop over events.
use Rattle.std.proofs.Common.{◌≡◌, ◌⊎◌, inl, inr, ⊎_elim, ℕ, suc, ◌+◌, ◌<◌, ◌≤◌, List, [], ◌∷◌, ◌++◌, length, take, map}
use Rattle.std.proofs.Common.{Bool, true, false, IsTrue, Ok, Err, refl, sym, ap, subst, ◌∙◌, append_assoc, arith}
use Rattle.std.specs.Prelude.{Contains, Result, IsOk, min}
use Rattle.std.proofs.lemmas.Bool.{false≢true}
use Rattle.std.proofs.lemmas.List.{length-append, map-append, append-nil}
use Rattle.std.proofs.lemmas.List.Elements.{All-contains, Contains-append_left, Contains-push}
use Rattle.std.proofs.Math.Seq.{take-append-add, take-append_seam, take-length}
use Rattle.disk_model.specs.World.{World, Parts, Runs, GoesOn, IsGiven, PrintsPart}
use Rattle.disk_model.proofs.Moments.{run_on, run_both, run_more, stay, Within, below_on, given_on, rose_after}
use Rattle.core_events.specs.Events.{Event, Guest, Monitor, Tick}
use Rattle.core_events.specs.Answers.{Answer}
use Rattle.core_events.specs.declared.commands.ExportArgs.{ExportArgs}
use Rattle.plain_model.specs.Machine.{Machine, size_of}
use Rattle.plain_model.specs.Queries.{export_info}
use Rattle.core_node.specs.Files.{Reading, BlanksAreEmpty, event_starts_on}
use Rattle.core_node.specs.Standing.{Shown, TargetFile, HasFiles, StandsFor}
use Rattle.core_node.specs.Rest.{Files, State}
use Rattle.core_node.specs.Touches.{SameSource, AddsTargets, IsOfTarget, works_on, is_command}
use Rattle.core_node.specs.Step.{NoNewBlanks}
use Rattle.core_loop.specs.declared.events.Halt.{Halt}
use Rattle.core_loop.specs.declared.events.Halt.TheVariants.{Memory, Fault, Lost}
use Rattle.core_loop.specs.Course.{Given, Heard, Exports, Answered, asked, Cut, Move, last_cut, last_number, texts, talk_with, reads_and_talk}
use Rattle.core_loop.specs.Course.{exports_at, heard_in, heard_badly, AreBegunOn, run_parts}
use Rattle.core_loop.specs.Sessions.{Starts, Covers, BackupsHold, AreApart, IsCalm, Ran, RanEvents, Says, OwesAll, HaltedFor, HaltedIn, IsAtEnd, HasHeard, start_cut}
use Rattle.core_loop.proofs.Apart.{Talks, talked_apart, talk_spares, works_apart, stays_beside, none_apart, apart_on}
use Rattle.core_loop.proofs.Courses.{texts_more, told_are, last_more, heard_on, badly_on}
use Rattle.core_loop.proofs.Going.{Knows, HoldsIn, NodeLaws, Carries, moved_to, left_now, ran_on, spared_on}

-- ---- prints

pub part_of : {t : List ℕ} {old new : World} → Says t old new → PrintsPart t old new
part_of {t} {old} says prints = (length t, says.printed prints ∙ ap (λ (p : List ℕ). old.printed ++ p) (sym (take-length t)))

-- one text after another, the last of them whole or in part
says_on : {t u : List ℕ} {a b c : World} → b.prints ≡ a.prints → Says t a b → Says u b c → Says (t ++ u) a c
says_on {t} {u} {a} same first second = record {
  printed = λ prints. second.printed (subst IsTrue (sym same) prints) ∙ ap (λ (p : List ℕ). p ++ u) (first.printed prints) ∙ append_assoc a.printed t u;
}

part_on : {t : List ℕ} (u : List ℕ) {a b : World} (c : World) → b.prints ≡ a.prints → Says t a b → PrintsPart u b c → PrintsPart (t ++ u) a c
part_on {t} u {a} c same first second prints =
    let part = second (subst IsTrue (sym same) prints) in (
      length t + part.0,
      part.1 ∙ ap (λ (p : List ℕ). p ++ take part.0 u) (first.printed prints) ∙ append_assoc a.printed t (take part.0 u)
          ∙ ap (λ (p : List ℕ). a.printed ++ p) (sym (take-append-add t u part.0)),
    )

-- a halt within a run is one in a longer run
pub halted_after : {parts : Parts} {a b : World} (c : World) → Runs parts a b → (why : Halt) → HaltedFor why b c → HaltedFor why a c
halted_after c run Memory halted = tt
halted_after {a = a} {b = b} c run Fault halted = (
  rose_after a.faults.shared b.faults.shared c.faults.shared run.goes.counts.shared halted.0,
  rose_after a.faults.prints b.faults.prints c.faults.prints run.goes.counts.prints halted.1,
)
halted_after {a = a} {b = b} c run Lost halted = rose_after a.faults.shared b.faults.shared c.faults.shared run.goes.counts.shared halted

-- ---- small laws

pub same_none : (s : Shown) → SameSource s s
same_none s = record { file_stays = refl; id_stays = refl; size_stays = refl; epoch_stays = refl; directory_stays = refl }

pub same_on : {a b c : Shown} → SameSource a b → SameSource b c → SameSource a c
same_on first second = record {
  file_stays = second.file_stays ∙ first.file_stays;
  id_stays = second.id_stays ∙ first.id_stays;
  size_stays = second.size_stays ∙ first.size_stays;
  epoch_stays = second.epoch_stays ∙ first.epoch_stays;
  directory_stays = second.directory_stays ∙ first.directory_stays;
}

asked_more : (given : List Given) (g : Given) → asked (given ++ g ∷ []) ≡ asked given ++ g.event ∷ []
asked_more given g = map-append (λ (x : Given). x.event) given (g ∷ [])

blanks_empty : (files : Files) (events : List Event) (m : Machine) (old mid : World) (event : Event) → Contains events event → Covers files events old → NoNewBlanks old mid → ((name : List ℕ) → mid.found name ≡ old.found name)
    → IsTrue mid.tells → BackupsHold files m mid → BlanksAreEmpty mid event
blanks_empty files events m old mid event there covers blanks found told holds name f size n store starts is target =
    let was = blanks f size store target in
    let named : Contains files.backups f = covers event name f was.0 was.1 there starts (sym (found name) ∙ is) was.2 in
    ((holds f named).seen told).empty target.bytes store n target.in_order (sym target.blank_is)

-- these were asked for among those
pub record AskedIn (done given : List Given) : Type 0 where
  pub among : (e : Event) → Contains (asked done) e → Contains (asked given) e

pub same_asked : (given : List Given) → AskedIn given given
same_asked given = record { among = λ e is. is }

asked_within : (done : List Given) (g : Given) → AskedIn done (done ++ g ∷ [])
asked_within done g = record {
  among = λ e there. subst (λ (es : List Event). Contains es e) (sym (asked_more done g)) (Contains-append_left (asked done) (g.event ∷ []) e there);
}

asked_last : (done : List Given) (g : Given) → Contains (asked (done ++ g ∷ [])) g.event
asked_last done g = subst (λ (es : List Event). Contains es g.event) (sym (asked_more done g)) (Contains-push (asked done) g.event)

-- the files that fewer events name
covers_less : (files : Files) {done given : List Given} (w : World) → AskedIn done given → Covers files (asked given) w → Covers files (asked done) w
covers_less files w within covers event name f size store there = covers event name f size store (within.among event there)

-- a run may start for other events
starts_with : {files : Files} {shown : Shown} {K : Knows} {events others : List Event} {s : State} {w : World} → Covers files others w
    → Starts files shown K events s w → Starts files shown K others s w
starts_with covers starts = record { file_is = starts.file_is; id_is = starts.id_is; keeps = starts.keeps; backups = starts.backups; covers = covers }

pub files_on : {parts : Parts} {a b : World} (shown : Shown) → Runs parts a b → HasFiles shown a → HasFiles shown b
files_on shown run files = record { source = below_on shown.file run files.source; targets = λ k d below. given_on run (files.targets k d below) }

-- ---- what a run may touch

abbrev pub parts_of : Shown → (ℕ → Type 0) → List Given → World → Parts
parts_of before own given w = run_parts before.file (IsOfTarget before) own (asked given) w

-- the file was a target at the start, or events begin a backup on it
abbrev pub IsOfRun : Shown → List Given → World → ℕ → Type 0
IsOfRun before given w f = IsOfTarget before f ⊎ AreBegunOn w (asked given) f

begun_on : {done given : List Given} {a b : World} → GoesOn a b → AskedIn done given → (f : ℕ) → AreBegunOn a (asked done) f → AreBegunOn b (asked given) f
begun_on goes within f (event, there, begun) = (
  event,
  within.among event there,
  (omega (arith, begun.0, goes.given), subst (λ (name : List ℕ). IsTrue (event_starts_on name event)) (sym (goes.named f begun.0)) begun.1),
)

of_run_on : (before : Shown) {done given : List Given} {a b : World} → GoesOn a b → AskedIn done given → (f : ℕ) → IsOfRun before done a f → IsOfRun before given b f
of_run_on before goes within f (inl was) = inl was
of_run_on before goes within f (inr begun) = inr (begun_on goes within f begun)

-- later, and of more events, it may touch no less
pub parts_on : {source : ℕ} {targets own : ℕ → Type 0} {done given : List Given} {a b : World} → GoesOn a b → AskedIn done given
    → Within (run_parts source targets own (asked done) a) (run_parts source targets own (asked given) b)
parts_on {source} {targets} {own} {done} {given} {a} {b} goes within = record { files = touched; reads = touched; names = λ name none. none; text = λ is. is; wire = λ is. is }
  where
    touched : (f : ℕ) → (f ≡ source) ⊎ (targets f ⊎ (own f ⊎ AreBegunOn a (asked done) f)) → (f ≡ source) ⊎ (targets f ⊎ (own f ⊎ AreBegunOn b (asked given) f))
    touched f (inl is) = inl is
    touched f (inr (inl is)) = inr (inl is)
    touched f (inr (inr (inl mine))) = inr (inr (inl mine))
    touched f (inr (inr (inr begun))) = inr (inr (inr (begun_on goes within f begun)))

talk_within : {source : ℕ} {targets own : ℕ → Type 0} (events : List Event) (w : World) → Within (talk_with own) (run_parts source targets own events w)
talk_within events w = record { files = λ g mine. inr (inr (inl mine)); reads = λ g mine. inr (inr (inl mine)); names = λ name none. none; text = λ is. is; wire = λ is. is }

pub run_talking : (before : Shown) {own : ℕ → Type 0} {Known : Type 0} (given : List Given) {old mid new : World} → Runs (parts_of before own given mid) old mid
    → Talks own Known mid new
    → Runs (parts_of before own given new) old new
run_talking before given {new = new} run talk = run_both (parts_on talk.run.goes (same_asked given)) (talk_within (asked given) new) run talk.run

-- an event among these, on a node that has such targets
works_within : (before s1 s2 : Shown) {own : ℕ → Type 0} (given : List Given) (event : Event) (answer : Answer) (w : World) → s1.file ≡ before.file
    → ((f : ℕ) → IsOfTarget s1 f → IsOfRun before given w f) → Contains (asked given) event → Within (works_on s1 s2 w event answer) (parts_of before own given w)
works_within before s1 s2 {own} given event answer w file targets there = record {
  files = written;
  reads = λ f. ⊎_elim (λ (is : f ≡ s1.file). inl (is ∙ file))
      (λ read. ⊎_elim (λ (is : IsOfTarget s1 f). target f is) (λ begun. inr (inr (inr (event, there, begun)))) read);
  names = λ name none. none;
  text = λ none. tt;
  wire = λ none. tt;
}
  where
    target : (f : ℕ) → IsOfTarget s1 f → (parts_of before own given w).files f
    target f is = ⊎_elim (λ (was : IsOfTarget before f). inr (inl was)) (λ (begun : AreBegunOn w (asked given) f). inr (inr (inr begun))) (targets f is)

    written : (f : ℕ) → (works_on s1 s2 w event answer).files f → (parts_of before own given w).files f
    written f (may, inl (writes, is)) = inl (is ∙ file)
    written f (may, inr (t, among, writes, is)) = target f (t, among, is)

-- the targets after it
targets_on : (before s1 : Shown) {s2 : Shown} (given : List Given) {event : Event} {w : World} → AddsTargets s1 s2 event → HasFiles s2 w → Contains (asked given) event
    → ((f : ℕ) → IsOfTarget s1 f → IsOfRun before given w f) → (f : ℕ) → IsOfTarget s2 f → IsOfRun before given w f
targets_on before s1 {s2} given {event} {w} added has there targets f (t, among, is) = ⊎_elim
    (λ (was : Contains s1.targets t). targets f (t, was, is))
    (λ (starts : IsTrue (event_starts_on t.name event)).
    let is_given = All-contains (λ (t : TargetFile). IsGiven t.file t.name w) s2.targets t has.targets among in
    inr (
      event,
      there,
      (
        subst (λ (g : ℕ). g < w.given) (sym is) is_given.below,
        subst (λ (name : List ℕ). IsTrue (event_starts_on name event)) (sym (ap w.named is ∙ is_given.named)) starts,
      ),
    ))
    (All-contains (λ (t : TargetFile). Contains s1.targets t ⊎ IsTrue (event_starts_on t.name event)) s2.targets t added among)

-- ---- what is so at the head of the loop

-- what was given and carried out, what was said after the answers to it, what was heard of it, and the number of the last
pub record Progress : Type 0 where
  pub given : List Given
  pub said : List ℕ
  pub heard : List Heard
  pub number : ℕ

abbrev pub next_number : ℕ → ℕ
next_number n = min (suc n) last_number

-- a run may begin in this state, where its giver knows this
pub record Begins (own : ℕ → Type 0) (files : Files) (before : Shown) (K : Knows) (Was : Type 0) (given : List Given) (s : State) (old : World) : Type 0 where
  pub told : IsTrue old.tells
  pub apart : AreApart own before.file old
  pub knew : Was
  pub starts : Starts files before K (asked given) s old

-- in each state in which a run may begin, it knows this if it knew that
abbrev pub EachKnows : (ℕ → Type 0) → Shown → Knows → List Given → World → Type 0 → Type 0 → Type 0
EachKnows own before K given old Was Is =
    (files : Files) (s : State) → IsTrue old.tells → AreApart own before.file old → Starts files before K (asked given) s old → Was → Is

-- the run to here
pub record Went (reading : Reading) (own : ℕ → Type 0) (files : Files) (s : State) (before after : Shown) (L : Knows) (p : Progress)
    (old new : World) : Type 0 where
  pub ran : Ran reading own files (old.named before.file) (start_cut s before old) L (talk_with own) p.given new
  pub shown_is : (last_cut (start_cut s before old) ran.moves).shown ≡ after
  pub number_is : (last_cut (start_cut s before old) ran.moves).number ≡ p.number
  pub heard_are : heard_in (start_cut s before old) ran.moves ≡ p.heard
  pub printed : Says (texts ran.moves ++ p.said) old new

pub record WentOn (reading : Reading) (own : ℕ → Type 0) (before after : Shown) (K : Knows) (Was : Type 0) (L : World → Knows) (p : Progress)
    (old new : World) : Type 0 where
  pub same : SameSource before after
  pub laws : NodeLaws after L
  pub files : HasFiles after new
  pub run : Runs (parts_of before own p.given new) old new
  pub targets : (f : ℕ) → IsOfTarget after f → IsOfRun before p.given new f
  pub named_is : new.named after.file ≡ old.named before.file
  pub ran : (files : Files) (s : State) → Begins own files before K Was p.given s old → Went reading own files s before after (L new) p old new

pub none_went : {reading : Reading} {own : ℕ → Type 0} {shown : Shown} {K : World → Knows} {Was : Type 0} {w : World} → NodeLaws shown K → HasFiles shown w
    → WentOn reading own shown shown (K w) Was K (record { given = []; said = []; heard = []; number = 0 }) w w
none_went {own = own} {shown} {K} {w} laws has = record {
  same = same_none shown;
  laws = laws;
  files = has;
  run = stay (parts_of shown own [] w) w;
  targets = λ f is. inl is;
  named_is = refl;
  ran = λ files s b. record {
    ran = record {
      moves = [];
      steps = tt;
      given_are = refl;
      keeps = b.starts.keeps;
      backups = b.starts.backups;
      crashes = λ k left low high is. left_now
          (moved_to (λ f id. HoldsIn f id s w) (sym b.starts.file_is) (sym b.starts.id_is) (laws.safe w s b.starts.keeps)).each
          (λ f named. (b.starts.backups f named).each)
          (λ f. ap (λ (k : ℕ). w.past k f) (le_antisym low high))
          is;
      sealed = tt;
      stays = stays_beside (stay (talk_with own) w) b.told b.apart.no_backup;
      blanks = λ f size store target. (size, store, target);
      apart = b.apart;
      reached = stay (talk_with own) w;
    };
    shown_is = refl;
    number_is = refl;
    heard_are = refl;
    printed = record { printed = λ prints. sym (append-nil w.printed) };
  };
}
  where
    le_antisym : {k n : ℕ} → n ≤ k → k ≤ n → k ≡ n
    le_antisym low high = omega arith

-- ---- what is said between two events

module _ {reading : Reading} {own : ℕ → Type 0} {files : Files} {s : State} {before after : Shown} {K : Knows} {Was Known : Type 0} {L : World → Knows}
    {given done : List Given} {old mid new : World}
    (b : Begins own files before K Was given s old) (same : SameSource before after) (laws : NodeLaws after L) (has : HasFiles after mid)
    (told : IsTrue mid.tells) (known : Known) (talk : Talks own Known mid new)
    (r : Ran reading own files (old.named before.file) (start_cut s before old) (L mid) (talk_with own) done mid) where
  abbrev pub talked_on : Ran reading own files (old.named before.file) (start_cut s before old) (L new) (talk_with own) done new
  talked_on =
      let last = (last_cut (start_cut s before old) r.moves).state in
      let apart = subst (λ (f : ℕ). AreApart own f mid) (sym b.starts.file_is) r.apart in
      spared_on r talk.run (λ name none. none) told
      apart (talked_apart told known talk apart)
      (moved_to (λ f id. HoldsIn f id last mid) (same.file_stays ∙ sym b.starts.file_is) (same.id_stays ∙ sym b.starts.id_is) (laws.safe mid last r.keeps))
      (laws.spared mid new last
      (talk_spares told (laws.stands mid last r.keeps) (subst (λ (f : ℕ). AreApart own f mid) (sym same.file_stays) r.apart) has talk.run) r.keeps)
      (talked_apart told known talk r.apart)
      (run_on r.reached talk.run)

module _ {reading : Reading} {own : ℕ → Type 0} {before after : Shown} {K : Knows} {Was Known : Type 0} {L : World → Knows} {p : Progress} {more : List ℕ}
    {old mid new : World} (w : WentOn reading own before after K Was L p old mid) (each : EachKnows own before K p.given old Was Known)
    (talk : Talks own Known mid new) (says : Says more mid new) where
  -- more was said, and the node's files were spared
  abbrev went_talking : (files : Files) (s : State) → Begins own files before K Was p.given s old
      → Went reading own files s before after (L new) (record p { said = p.said ++ more }) old new
  went_talking files s b =
      let t = w.ran files s b in
      record {
        ran = talked_on b w.same w.laws w.files (subst IsTrue (sym w.run.goes.tells) b.told) (each files s b.told b.apart b.starts b.knew) talk t.ran;
        shown_is = t.shown_is;
        number_is = t.number_is;
        heard_are = t.heard_are;
        printed = subst (λ (x : List ℕ). Says x old new) (append_assoc (texts t.ran.moves) p.said more) (says_on w.run.goes.prints t.printed says);
      }

  pub said_more : WentOn reading own before after K Was L (record p { said = p.said ++ more }) old new
  said_more = record {
    same = w.same;
    laws = w.laws;
    files = files_on after talk.run w.files;
    run = run_talking before p.given w.run talk;
    targets = λ f is. of_run_on before talk.run.goes (same_asked p.given) f (w.targets f is);
    named_is = talk.run.goes.named after.file w.files.source ∙ w.named_is;
    ran = went_talking;
  }

-- ---- all but the last was carried out

-- all that was given was carried out, or all but the last
pub record CarriedBut (done given : List Given) : Type 0 where
  pub taken : take (length done) given ≡ done
  pub most : length given ≤ length done + 1
  pub within : AskedIn done given

pub but_none : {done given : List Given} → given ≡ done → CarriedBut done given
but_none {done} {given} is = record {
  taken = ap (take (length done)) is ∙ take-length done;
  most = let same = ap length is in omega arith;
  within = subst (AskedIn done) (sym is) (same_asked done);
}

pub but_last : {done given : List Given} (g : Given) → given ≡ done ++ g ∷ [] → CarriedBut done given
but_last {done} {given} g is = record {
  taken = ap (take (length done)) is ∙ take-append_seam done (g ∷ []);
  most = let same = ap length is ∙ length-append done (g ∷ []) in omega arith;
  within = subst (AskedIn done) (sym is) (asked_within done g);
}

pub is_last : (done : List Given) {given : List Given} (g : Given) → given ≡ done ++ g ∷ [] → {event : Event} → g.event ≡ event → Contains (asked given) event
is_last done {given} g is {event} same =
    subst (Contains (asked given)) same (subst (λ (gs : List Given). Contains (asked gs) g.event) (sym is) (asked_last done g))

module _ {own : ℕ → Type 0} {before : Shown} {K : Knows} {Was : Type 0} {done given : List Given} {old : World} (by : CarriedBut done given) where
  begins_done : {files : Files} {s : State} → IsTrue old.tells → AreApart own before.file old → Was → Starts files before K (asked given) s old
      → Begins own files before K Was done s old
  begins_done {files} tells apart knew starts =
      record { told = tells; apart = apart; knew = knew; starts = starts_with (covers_less files old by.within starts.covers) starts }

pub run_but : (before : Shown) {own : ℕ → Type 0} {done given : List Given} {old new : World} → CarriedBut done given
    → Runs (parts_of before own done new) old new → Runs (parts_of before own given new) old new
run_but before {own} {new = new} by run = run_more (parts_on (stay (talk_with own) new).goes by.within) run

-- ---- what the giver knows

pub knows_more : {own : ℕ → Type 0} {before : Shown} {K : Knows} {done given : List Given} {old : World} {Was Is Next : Type 0} → CarriedBut done given → (Is → Next)
    → EachKnows own before K done old Was Is → EachKnows own before K given old Was Next
knows_more {old = old} by more each files s tells apart starts known =
    more (each files s tells apart (starts_with (covers_less files old by.within starts.covers) starts) known)

module _ {reading : Reading} {own : ℕ → Type 0} {before s1 : Shown} {K : Knows} {Was : Type 0} {L : World → Knows} {p : Progress} {given : List Given}
    (s2 : Shown) (event : Event) (answer : Answer) {old mid new : World} (w : WentOn reading own before s1 K Was L p old mid) (by : CarriedBut p.given given)
    (work : Runs (works_on s1 s2 new event answer) mid new) where
  -- an event leaves it so
  pub knows_working : {fewer : ℕ → Type 0} {Is Next : Type 0} → ((f : ℕ) → fewer f → own f) → (IsCalm fewer mid new → Is → Next)
      → EachKnows own before K p.given old Was Is → EachKnows own before K given old Was Next
  knows_working few calm each files s tells apart starts known =
      let b : Begins own files before K Was p.given s old = begins_done by tells apart known starts in
      let t = w.ran files s b in
      let stood = w.laws.stands mid (last_cut (start_cut s before old) t.ran.moves).state t.ran.keeps in
      let here = subst (λ (f : ℕ). AreApart own f mid) (sym w.same.file_stays) t.ran.apart in
      calm
      (record {
        goes = work.goes;
        files = λ f mine. work.files f (works_apart (subst IsTrue (sym w.run.goes.tells) tells) stood here s2 new event answer f (few f mine));
        quiet = work.text (λ none. none);
        unsent = work.wire (λ none. none);
      })
      (each files s tells apart b.starts known)

  module _ (there : Contains (asked given) event) where
    of_run : (f : ℕ) → IsOfTarget s1 f → IsOfRun before given new f
    of_run f is = of_run_on before work.goes by.within f (w.targets f is)

    -- and touches no more than a run may
    pub run_working : Runs (parts_of before own given new) old new
    run_working = run_both (parts_on work.goes by.within) (works_within before s1 s2 given event answer new w.same.file_stays of_run there) w.run work

    pub targets_working : AddsTargets s1 s2 event → HasFiles s2 new → (f : ℕ) → IsOfTarget s2 f → IsOfRun before given new f
    targets_working added has = targets_on before s1 given added has there of_run

-- ---- what was heard

-- what a node shows to its giver
abbrev pub shows : Shown → Heard
shows s = Exports (map (export_info s.size) s.exports)

look_is : {shown : Shown} {w : World} {m : Machine} → StandsFor shown w m → shows shown ≡ Exports (map (export_info (size_of m)) m.exports)
look_is {shown} {w} {m} stands = ap (λ (n : ℕ). Exports (map (export_info n) shown.exports)) stands.numbers.size_is
    ∙ ap (λ (es : List ExportArgs). Exports (map (export_info (size_of m)) es)) stands.bitmaps.exports_are

has_heard : (told : List Heard → Type 0) (from : Cut) (moves : List Move) {heard : List Heard} {look : Heard} → heard_in from moves ≡ heard
    → look ≡ exports_at (last_cut from moves) → told heard ⊎ told (heard ++ look ∷ []) → HasHeard told from moves
has_heard told from moves are is (inl heard) = inl (subst told (sym are) heard)
has_heard told from moves {look = look} are is (inr heard) = inr
    (subst told (ap (λ (h : List Heard). h ++ look ∷ []) (sym are) ∙ ap (λ (l : Heard). heard_in from moves ++ l ∷ []) is) heard)

-- ---- one event more

talk_in_reads : (own : ℕ → Type 0) → Within (talk_with own) (reads_and_talk own)
talk_in_reads own = record { files = λ g is. is; reads = λ g is. tt; names = λ name none. none; text = λ is. is; wire = λ is. is }

same_within : (parts : Parts) → Within parts parts
same_within parts = record { files = λ g is. is; reads = λ g is. is; names = λ name is. is; text = λ is. is; wire = λ is. is }

-- of the first that were given, with more parts after the last cut
abbrev ran_in : {reading : Reading} {own : ℕ → Type 0} {files : Files} {name : List ℕ} {first : Cut} {K : Knows} {parts others : Parts}
    {done taken : List Given} {w : World} → Within parts others → done ≡ taken
    → Ran reading own files name first K parts done w → Ran reading own files name first K others taken w
ran_in within is r = record {
  moves = r.moves;
  steps = r.steps;
  given_are = r.given_are ∙ is;
  keeps = r.keeps;
  backups = r.backups;
  crashes = r.crashes;
  sealed = r.sealed;
  stays = r.stays;
  blanks = r.blanks;
  apart = r.apart;
  reached = run_more within r.reached;
}

-- the run and one event more, of whose answer nothing is told yet
pub record Stepped (reading : Reading) (own : ℕ → Type 0) (files : Files) (s : State) (before after : Shown) (L : Knows) (all : List Given)
    (heard : Bool → List Heard) (number : ℕ) (given : Given) (answer : Answer) (old new : World) : Type 0 where
  pub ran : Ran reading own files (old.named before.file) (start_cut s before old) L (talk_with own) all new
  pub shown_is : (last_cut (start_cut s before old) ran.moves).shown ≡ after
  pub number_is : (last_cut (start_cut s before old) ran.moves).number ≡ number
  pub heard_are : heard_in (start_cut s before old) ran.moves ≡ heard true
  pub badly_are : heard_badly (start_cut s before old) ran.moves ≡ heard false
  pub world_is : (last_cut (start_cut s before old) ran.moves).world ≡ new
  pub text : List ℕ
  pub texts_are : texts ran.moves ≡ text ++ given.tell number answer
  pub printed : Says text old new

-- of a run of events: for each state in which it may begin
abbrev pub EachRan : Reading → (ℕ → Type 0) → Shown → Knows → Type 0 → Knows → Result (Unit {0}) Halt → Bool → (List ℕ → Type 0) → (List Heard → Type 0)
    → List Given → World → World → Type 0
EachRan reading own before K Was L result ended over told given old new =
    (files : Files) (s : State) → IsTrue old.tells → AreApart own before.file old → Was → Starts files before K (asked given) s old
    → RanEvents reading own files (old.named before.file) s before L result ended over told given old new

module _ {reading : Reading} {own : ℕ → Type 0} {before s1 s2 : Shown} {K : Knows} {Was : Type 0} {L M : World → Knows} {done all : List Given}
    {heard : List Heard} {number next : ℕ} (given : Given) {answer : Answer} {old mid stepped : World}
    (w : WentOn reading own before s1 K Was L (record { given = done; said = given.said; heard = heard; number = number }) old mid) (laws : NodeLaws s2 M)
    {event : Event} (is_event : given.event ≡ event) (carries : Carries reading s1 s2 (L mid) (M stepped) mid stepped event answer)
    (is_all : done ++ given ∷ [] ≡ all) (is_next : next_number number ≡ next) where
  call : Carries reading s1 s2 (L mid) (M stepped) mid stepped given.event answer
  call = subst (λ (e : Event). Carries reading s1 s2 (L mid) (M stepped) mid stepped e answer) (sym is_event) carries

  by : CarriedBut done all
  by = but_last given (sym is_all)

  is_asked : Contains (asked all) given.event
  is_asked = is_last done given (sym is_all) refl

  abbrev pub heard_now : Bool → List Heard
  heard_now well = (heard ++ shows s1 ∷ []) ++ Answered answer well ∷ []

  stepped_on : (files : Files) (s : State) → Begins own files before K Was all s old
      → Stepped reading own files s before s2 (M stepped) all heard_now next given answer old stepped
  stepped_on files s b =
      let t = w.ran files s (begins_done by b.told b.apart b.knew b.starts) in
      let r = t.ran in
      let first = start_cut s before old in
      let told : IsTrue mid.tells = subst IsTrue (sym w.run.goes.tells) b.told in
      let looks : (well : Bool) → (heard_in first r.moves ++ exports_at (last_cut first r.moves) ∷ []) ++ Answered answer well ∷ [] ≡ heard_now well = λ well.
      ap (λ (h : List Heard). (h ++ exports_at (last_cut first r.moves) ∷ []) ++ Answered answer well ∷ []) t.heard_are
      ∙ ap (λ (l : Heard). (heard ++ l ∷ []) ++ Answered answer well ∷ []) (sym (look_is (w.laws.stands mid (last_cut first r.moves).state r.keeps))) in
      let blank : BlanksAreEmpty mid given.event = blanks_empty files (asked all) (last_cut first r.moves).state.machine old mid given.event is_asked
      b.starts.covers r.blanks (λ name. w.run.found name (λ none. none)) told r.backups in
      let carried = subst (λ (x : Shown). Carries reading x s2 (L mid) (M stepped) mid stepped given.event answer) (sym t.shown_is) call in
      let ran = ran_on given r (subst (λ (x : Shown). NodeLaws x L) (sym t.shown_is) w.laws) laws carried (carried.steps told blank) told
      (b.starts.file_is ∙ sym w.same.file_stays ∙ ap (λ (x : Shown). x.file) (sym t.shown_is))
      (b.starts.id_is ∙ sym w.same.id_stays ∙ ap (λ (x : Shown). x.id) (sym t.shown_is))
      b.starts.file_is
      (ap (λ (x : Shown). mid.named x.file) t.shown_is ∙ w.named_is)
      (λ prints. t.printed.printed (subst IsTrue (sym r.reached.goes.prints ∙ w.run.goes.prints) prints)
      ∙ sym (append_assoc old.printed (texts r.moves) given.said)
      ∙ ap (λ (x : List ℕ). x ++ given.said) (sym (told_are reading own (old.named before.file) first r.moves r.steps))) in
      record {
        ran = ran_in (same_within (talk_with own)) is_all ran;
        shown_is = ap (λ (c : Cut). c.shown) (last_more first r.moves _);
        number_is = ap (λ (c : Cut). c.number) (last_more first r.moves _) ∙ ap next_number t.number_is ∙ is_next;
        heard_are = heard_on first r.moves _ ∙ looks true;
        badly_are = badly_on first r.moves _ ∙ looks false;
        world_is = ap (λ (c : Cut). c.world) (last_more first r.moves _);
        text = texts r.moves ++ given.said;
        texts_are = texts_more r.moves _ ∙ sym (append_assoc (texts r.moves) given.said _)
            ∙ ap (λ (n : ℕ). (texts r.moves ++ given.said) ++ given.tell n answer) (ap next_number t.number_is ∙ is_next);
        printed = record { printed = λ prints. (call.run.text (λ none. none)).printed ∙ t.printed.printed prints };
      }

  pub run_stepped : Runs (parts_of before own all stepped) old stepped
  run_stepped = run_working s2 given.event answer w by call.run is_asked

  -- and its answer was told
  module _ {new : World} {Known : Type 0} (each : EachKnows own before K all old Was Known) (talk : Talks own Known stepped new) where
    abbrev ran_told : (files : Files) (s : State) → Begins own files before K Was all s old
        → Ran reading own files (old.named before.file) (start_cut s before old) (M new) (talk_with own) all new
    ran_told files s b = talked_on b (same_on w.same call.same) laws call.files (subst IsTrue (sym run_stepped.goes.tells) b.told)
        (each files s b.told b.apart b.starts b.knew) talk (stepped_on files s b).ran

    pub went_more : Says (given.tell next answer) stepped new
        → WentOn reading own before s2 K Was M (record { given = all; said = []; heard = heard_now true; number = next }) old new
    went_more says = record {
      same = same_on w.same call.same;
      laws = laws;
      files = files_on s2 talk.run call.files;
      run = run_talking before all run_stepped talk;
      targets = λ f is. of_run_on before talk.run.goes (same_asked all) f
          (targets_working s2 given.event answer w by call.run is_asked call.added call.files f is);
      named_is = talk.run.goes.named s2.file (subst (λ (f : ℕ). f < stepped.given) (sym call.same.file_stays) (below_on s1.file call.run w.files.source))
          ∙ ap stepped.named call.same.file_stays ∙ call.run.goes.named s1.file w.files.source ∙ w.named_is;
      ran = λ files s b.
          let t = stepped_on files s b in
          record {
            ran = ran_told files s b;
            shown_is = t.shown_is;
            number_is = t.number_is;
            heard_are = t.heard_are;
            printed = subst (λ (x : List ℕ). Says x old new) (sym (append-nil _ ∙ t.texts_are)) (says_on run_stepped.goes.prints t.printed says);
          };
    }

    -- what gives the events failed while it was told
    pub stopped_telling : (why : Halt) → PrintsPart (given.tell next answer) stepped new
        → (OwesAll {T = Unit {0}} (Err why) → Says (given.tell next answer) stepped new) → HaltedFor why stepped new
        → {ended : Bool} {over : List ℕ → Type 0} {told : List Heard → Type 0} → told (heard_now false)
        → EachRan reading own before K Was (M new) (Err why) ended over told all old new
    stopped_telling why part whole failed {told = told} is_heard files s tells apart knew starts =
        let b : Begins own files before K Was all s old = record { told = tells; apart = apart; knew = knew; starts = starts } in
        let t = stepped_on files s b in
        record {
          n = length all;
          ran = ran_in (talk_in_reads own) (sym (take-length all)) (ran_told files s b);
          most = omega arith;
          heard = inr (subst told (sym t.badly_are) is_heard);
          well = λ well. absurd (false≢true well);
          rest = [];
          in_part = subst (λ (x : List ℕ). PrintsPart x old new) (sym (append-nil _ ∙ t.texts_are)) (part_on _ new run_stepped.goes.prints t.printed part);
          printed = λ owes. subst (λ (x : List ℕ). Says x old new) (sym (append-nil _ ∙ t.texts_are)) (says_on run_stepped.goes.prints t.printed (whole owes));
          between = λ well. absurd (false≢true well);
          all = λ well. absurd (false≢true well);
          halted = subst (λ (x : World). HaltedFor why x new) (sym t.world_is) failed;
        }

-- ---- the loop's exits

module _ {reading : Reading} {own : ℕ → Type 0} {before after : Shown} {K : Knows} {Was : Type 0} {L : World → Knows} {p : Progress} {given : List Given}
    {old mid : World} (w : WentOn reading own before after K Was L p old mid)
    (by : CarriedBut p.given given) {ended : Bool} {over : List ℕ → Type 0} {told : List Heard → Type 0} (heard : told p.heard ⊎ told (p.heard ++ shows after ∷ [])) where
  finished : {files : Files} {s : State} {said : List ℕ} {new : World} {result : Result (Unit {0}) Halt}
      (t : Went reading own files s before after (L new) (record p { said = said }) old new)
      → (IsOk result → (length p.given ≡ length given) × IsAtEnd over ended said) → HaltedIn result (last_cut (start_cut s before old) t.ran.moves).world new
      → RanEvents reading own files (old.named before.file) s before (L new) result ended over told given old new
  finished {s = s} {said = said} {new} t all halted = record {
    n = length p.given;
    ran = ran_in (talk_in_reads own) (sym by.taken) t.ran;
    most = by.most;
    heard = inl all_told;
    well = λ well. all_told;
    rest = said;
    in_part = part_of t.printed;
    printed = λ owes. t.printed;
    between = λ well. t.ran.reached;
    all = all;
    halted = halted;
  }
    where
      all_told : HasHeard told (start_cut s before old) t.ran.moves
      all_told =
          let first = start_cut s before old in
          has_heard told first t.ran.moves t.heard_are (look_is (w.laws.stands new (last_cut first t.ran.moves).state t.ran.keeps)) heard

  -- it ended well
  pub ended_well : {x : Unit {0}} → length p.given ≡ length given → IsAtEnd over ended p.said
      → EachRan reading own before K Was (L mid) (Ok x) ended over told given old mid
  ended_well all at_end files s tells apart knew starts = finished (w.ran files s (begins_done by tells apart knew starts)) (λ well. (all, at_end)) tt

  -- or found no memory for the answer to the next event
  pub stopped_early : EachRan reading own before K Was (L mid) (Err Memory) ended over told given old mid
  stopped_early files s tells apart knew starts = finished (w.ran files s (begins_done by tells apart knew starts)) (λ well. absurd (false≢true well)) tt

  -- or what gives the events failed before the next one
  pub stopped_asking : {more : List ℕ} {new : World} {Known : Type 0} → EachKnows own before K p.given old Was Known → Talks own Known mid new
      → Says more mid new → (why : Halt) → HaltedFor why mid new → EachRan reading own before K Was (L new) (Err why) ended over told given old new
  stopped_asking each talk says why failed files s tells apart knew starts =
      let b : Begins own files before K Was p.given s old = begins_done by tells apart knew starts in
      finished (went_talking w each talk says files s b) (λ well. absurd (false≢true well)) (halted_after _ (w.ran files s b).ran.reached why failed)

  -- or at a command that found no memory
  pub stopped_within : {M : Knows} (s2 : Shown) (event : Event) (answer : Answer) {new : World} → IsTrue (is_command event)
      → Runs (works_on after s2 new event answer) mid new
      → ((s : State) → L mid s → M s) → EachRan reading own before K Was M (Err Memory) ended over told given old new
  stopped_within {M} s2 event answer {new} command run keep files s tells apart knew starts =
      let b : Begins own files before K Was p.given s old = begins_done by tells apart knew starts in
      let t = w.ran files s b in
      let r = t.ran in
      let last = (last_cut (start_cut s before old) r.moves).state in
      let said : Says (texts r.moves ++ p.said) old new = record { printed = λ prints. (run.text (λ none. none)).printed ∙ t.printed.printed prints } in
      let q : Ran reading own files (old.named before.file) (start_cut s before old) M (reads_and_talk own) p.given new =
      spared_on r run (λ name none. none) (subst IsTrue (sym w.run.goes.tells) tells)
      (none_apart files.source mid (no_files event command)) (none_apart files.source new (no_files event command))
      (moved_to (λ f id. HoldsIn f id last mid) (w.same.file_stays ∙ sym starts.file_is) (w.same.id_stays ∙ sym starts.id_is) (w.laws.safe mid last r.keeps))
      (keep last r.keeps)
      (apart_on run (λ g mine works. no_files event command g works) r.apart)
      (run_on (run_more (talk_in_reads own) r.reached)
      (run_more (record {
        files = λ g works. absurd {A = own g}
            (no_files event command g works);
        reads = λ g is. tt;
        names = λ name none. none;
        text = λ none. tt;
        wire = λ none. tt;
      }) run)) in
      record {
        n = length p.given;
        ran = ran_in (same_within (reads_and_talk own)) (sym by.taken) q;
        most = by.most;
        heard = inl
            (let first = start_cut s before old in
            has_heard told first r.moves t.heard_are (look_is (w.laws.stands mid (last_cut first r.moves).state r.keeps)) heard);
        well = λ well. absurd (false≢true well);
        rest = p.said;
        in_part = part_of said;
        printed = λ owes. said;
        between = λ well. absurd (false≢true well);
        all = λ well. absurd (false≢true well);
        halted = tt;
      }
    where
      no_files : (event : Event) → IsTrue (is_command event) → (f : ℕ) → (works_on after s2 new event answer).files f → ⊥
      no_files (Guest r) command f works = absurd (false≢true command)
      no_files Tick command f works = absurd (false≢true command)
      no_files (Monitor c) command f (may, inl (writes, is)) = absurd (false≢true writes)
      no_files (Monitor c) command f (may, inr (t, there, writes, is)) = absurd (false≢true writes)
