-- What follows for the files that a crash left.
use Rattle.std.proofs.Common.{◌≡◌, ◌⊎◌, inl, inr, ℕ, ◌<◌, ◌≤◌, List, [], ◌∷◌, length, IsTrue, Option, Some, None, refl, sym, ap, subst, ◌∙◌, arith}
use Rattle.std.specs.Prelude.{All, Contains, Result, Bool, true, false, if◌then◌else◌}
use Rattle.std.proofs.lemmas.List.Elements.{All-nil, All-cons, All-head, All-tail, All-contains, All-weaker}
use Rattle.disk_model.specs.Files.{IsOutcome}
use Rattle.disk_model.specs.World.{World, Parts, Runs, versions, IsLeftAt, EachNow}
use Rattle.disk_model.proofs.Outcomes.{settled}
use Rattle.disk_model.proofs.Left.{left_there}
use Rattle.qc_layout.specs.Directory.{stored_in}
use Rattle.span_algebra.specs.declared.points.Point.{Point}
use Rattle.span_algebra.specs.declared.spans.Base.TheVariants.{Whole, Since}
use Rattle.span_algebra.specs.Timelines.{stands}
use Rattle.bitmap_model.specs.Bitmap.{StoredBitmap}
use Rattle.core_events.specs.Answers.{Answer}
use Rattle.plain_model.specs.History.{History, IsHistory, now, timeline_of}
use Rattle.plain_model.specs.Machine.{Opening, opened}
use Rattle.plain_model.specs.Records.{RecordIsTrue, StateHolds, IsChain, Follow}
use Rattle.image_model.specs.Backups.{Backup, BackupState, Blank, Begun, Sealed}
use Rattle.plain_model.specs.Lawful.{IsLawfulState, IsTrueEntry, Kept, settle}
use Rattle.plain_model.specs.Laws.{IsLikeDisk, SettlesTo}
use Rattle.plain_model.proofs.SettleLaws.{settles, nothing_settles}
use Rattle.plain_model.proofs.ChainLaws.{chain_gives}
use Rattle.core_loop.specs.declared.session.Stop.{Stop}
use Rattle.core_node.specs.Rest.{Directory, Files, State, or_marked, in_closing, first_state, IsReady, IsSafe, AreLawful, LeftLawful, LeftIn}
use Rattle.core_node.specs.Files.{IsLawfulTarget, Reading}
use Rattle.core_node.specs.Standing.{Shown}
use Rattle.core_loop.specs.Course.{Given, Heard, IsWithin, Cut, Move, AreMoves, last_cut, LeftAt, StageAt}
use Rattle.core_loop.specs.Sessions.{Session, start_cut}
use Rattle.core_loop.specs.Crashes.{IsLeftBackup, ChainsGiveDisks, SettlesLeft, WereThere, Survives}

-- ---- chains

state_holds : (id : List ℕ) (h : History) (b : Backup) (state : BackupState) → b.id ≡ id → IsLawfulState id h b state → StateHolds h b state
state_holds id h b Blank is lawful = lawful
state_holds id h b Begun is lawful = tt
state_holds id h b (Sealed base p) is lawful = lawful is

-- the last point of a chain stands in the history
last_stands : (h : History) (id : List ℕ) (size : ℕ) (p : Point) (backups : List Backup) (end : Point) → IsTrue (stands p (timeline_of h)) → Follow id size p backups end → All (RecordIsTrue h) backups → IsTrue (stands end (timeline_of h))
last_stands h id size p [] end there follow all = subst (λ (q : Point). IsTrue (stands q (timeline_of h))) follow there
last_stands h id size p (b ∷ backups) end there (q, state, same, sized, follow) all =
    let holds : StateHolds h b (Sealed (Since p) q) = subst (StateHolds h b) state (All-head (RecordIsTrue h) b backups all) in
    last_stands h id size q backups end holds.0.drawn follow (All-tail (RecordIsTrue h) b backups all)

chain_stands : (h : History) (backups : List Backup) (end : Point) → IsChain backups end → All (RecordIsTrue h) backups → IsTrue (stands end (timeline_of h))
chain_stands h [] end chain all = absurd chain
chain_stands h (b ∷ backups) end (p, state, follow) all =
    let holds : StateHolds h b (Sealed Whole p) = subst (StateHolds h b) state (All-head (RecordIsTrue h) b backups all) in
    last_stands h b.id b.size p backups end holds.0.drawn follow (All-tail (RecordIsTrue h) b backups all)

chains_give : {files : Files} {h : History} {left : ℕ → Option (List ℕ)} → IsHistory h → ((f : ℕ) (c : List ℕ) → Contains files.backups f → left f ≡ Some c → IsLawfulTarget files.id h c) → ChainsGiveDisks files h left
chains_give {files} {h} {left} history lawful backups p chain all =
    let records : All (RecordIsTrue h) backups = All-weaker (IsLeftBackup files left) (RecordIsTrue h)
    (λ b is. state_holds files.id h b b.state is.of_disk ((lawful is.file is.content is.named is.is).lawful b is.long is.reads)) backups all in
    (chain_stands h backups p chain records, chain_gives h backups p history chain records)

-- of files at rest too, as reads give them
pub chains_at_rest : {allows : List Directory} {files : Files} {h : History} {disks : List (List ℕ)} {w : World} → AreLawful allows files h disks w → IsTrue w.tells → ChainsGiveDisks files h (λ f. Some (w.seen f))
chains_at_rest {allows} {files} {h} {disks} {w} lawful told = chains_give lawful.history_is (λ f c named is. subst (IsLawfulTarget files.id h) (some_same is) ((lawful.backups f named).seen told))
  where
    some_same : {a b : List ℕ} → Some a ≡ Some b → a ≡ b
    some_same e = cc

module _ {allows : List Directory} {files : Files} {h : History} {disks : List (List ℕ)} {left : ℕ → Option (List ℕ)} (history : IsHistory h) (lawful : LeftLawful allows files h disks left) where
  -- ---- bitmaps

  covers : (c : List ℕ) (is : left files.source ≡ Some c) → (d : List ℕ) (e : StoredBitmap) → left files.source ≡ Some d → Contains (stored_in d) e → IsTrue e.trusted
      → IsTrueEntry h e × ((lawful.source c is).disk ≡ now h)
  covers c is d e is_d there trusted =
      let safe = lawful.source c is in
      let same : d ≡ c = some_same (sym is_d ∙ is) in
      let here : Contains (stored_in c) e = subst (λ (x : List ℕ). Contains (stored_in x) e) same there in
      let exactly : safe.disk ≡ now h = safe.trusted e here trusted in
      let truth : IsTrueEntry (settle h safe.disk) e = All-contains (λ (e : StoredBitmap). IsTrue e.trusted → IsTrueEntry (settle h safe.disk) e) safe.ready.opening.entries e safe.ready.finds.lawful.truths
      (subst (λ (es : List StoredBitmap). Contains es e) (sym safe.ready.entries_are) here) trusted in
      (subst (λ (g : History). IsTrueEntry g e) (ap (settle h) exactly ∙ nothing_settles h) truth, exactly)
    where
      some_same : {a b : List ℕ} → Some a ≡ Some b → a ≡ b
      some_same e = cc

-- ---- the next session

each_settled : (w : World) (f : ℕ) (c : List ℕ) (P : List ℕ → Type 0) (told : Bool) → versions w f ≡ (if told then c ∷ [] else []) → P c → EachNow w f P
each_settled w f c P false none has d left = absurd ((subst (λ (vs : List (List ℕ)). IsOutcome vs d) none left).sectors 0)
each_settled w f c P true one has d left = subst P (sym (settled c d (subst (λ (vs : List (List ℕ)). IsOutcome vs d) one left))) has

kept_alone : (disk : List ℕ) → Kept (disk ∷ []) disk
kept_alone disk = record {
  long = All-cons (λ d. length disk ≡ length d) disk [] refl (All-nil (λ d. length disk ≡ length d));
  kept = λ k below. (0, disk, omega arith, refl, refl);
}

-- a settled history has the same start
start_stays : (h : History) (disk : List ℕ) → (settle h disk).start ≡ h.start
unfolding settle
start_stays h disk = refl

-- and settles to the same
settle_again : (h : History) (disk : List ℕ) → now (settle h disk) ≡ disk → settle (settle h disk) disk ≡ settle h disk
settle_again h disk leads = ap (settle (settle h disk)) (sym leads) ∙ nothing_settles (settle h disk)

state_settles : (id : List ℕ) (h : History) (disk : List ℕ) → IsHistory h → IsLikeDisk h disk → (b : Backup) (state : BackupState) → b.state ≡ state → IsLawfulState id h b state → IsLawfulState id (settle h disk) b state
state_settles id h disk history like b Blank is lawful = lawful
state_settles id h disk history like b Begun is lawful = tt
state_settles id h disk history like b (Sealed base p) is lawful = λ same.
    subst (StateHolds (settle h disk) b) is ((settles h disk history like).records b (subst (StateHolds h b) (sym is) (lawful same)))

target_settles : {id : List ℕ} {h : History} (disk : List ℕ) {c : List ℕ} → IsHistory h → IsLikeDisk h disk → IsLawfulTarget id h c → IsLawfulTarget id (settle h disk) c
target_settles {id} {h} disk {c} history like target = record {
  bytes = target.bytes;
  store = target.store;
  in_order = target.in_order;
  empty = target.empty;
  lawful = λ b long is. state_settles id h disk history like b b.state refl (target.lawful b long is);
}

module _ {allows : List Directory} {files : Files} {h : History} {disks : List (List ℕ)} {left : ℕ → Option (List ℕ)} (history : IsHistory h) (apart : (f : ℕ) → Contains files.backups f → f ≡ files.source → ⊥)
    (there : (f : ℕ) → (f ≡ files.source) ⊎ Contains files.backups f → (c : List ℕ) × (left f ≡ Some c)) (lawful : LeftLawful allows files h disks left) where
  pub settles_left : SettlesLeft allows files h disks left
  settles_left =
      let source = there files.source (inl refl) in
      let safe = lawful.source source.0 source.1 in
      let to : SettlesTo h safe.disk = settles h safe.disk history safe.like in
      let again : IsSafe allows files.id (settle h safe.disk) (safe.disk ∷ []) source.0 = record {
        disk = safe.disk;
        like = record { long = safe.like.long ∙ ap length (sym (start_stays h safe.disk)); whole = safe.like.whole };
        kept = kept_alone safe.disk;
        ready = subst (λ (g : History). IsReady allows files.id g source.0) (sym (settle_again h safe.disk to.leads)) safe.ready;
        trusted = λ e here trusted. sym to.leads;
      } in
      record {
        disk = safe.disk;
        history_is = history;
        like = safe.like;
        kept = safe.kept;
        covers = covers history lawful source.0 source.1;
        chains = chains_give history lawful.backups;
        next = λ earlier w begins. record {
          history_is = to.is_history;
          mixes = record { among = (0, omega arith, sym to.leads); alike = All-cons (IsLikeDisk (settle h safe.disk)) safe.disk [] again.like (All-nil (IsLikeDisk (settle h safe.disk))) };
          source = record {
            seen = λ told. subst (IsReady allows files.id (settle h safe.disk)) (sym (begins.seen files.source source.0 told source.1)) safe.ready;
            each = each_settled w files.source source.0 _ w.outcomes (begins.settled files.source source.0 source.1) again;
          };
          apart = apart;
          backups = λ f named.
              let is = there f (inr named) in
              let target = target_settles safe.disk history safe.like (lawful.backups f is.0 named is.1) in
              record { seen = λ told. subst (IsLawfulTarget files.id (settle h safe.disk)) (sym (begins.seen f is.0 told is.1)) target; each = each_settled w f is.0 _ w.outcomes (begins.settled f is.0 is.1) target };
        };
      }

-- ---- at each moment of a session

pub record Stage (files : Files) (k : ℕ) (left : ℕ → Option (List ℕ)) (from : Cut) (moves : List Move) : Type 0 where
  pub state : State
  pub counts : StageAt k state from moves
  pub history_is : IsHistory state.machine.history
  pub lawful : LeftIn files state left

module _ (reading : Reading) (own : ℕ → Type 0) (files : Files) (name : List ℕ) where
  within_history : (from : Cut) (move : Move) (s : State) → IsHistory from.state.machine.history → IsHistory move.cut.state.machine.history → IsWithin from move s → IsHistory s.machine.history
  within_history from move s before after (inl is) = subst (λ (x : State). IsHistory x.machine.history) (sym is) before
  within_history from move s before after (inr is) = subst (λ (x : State). IsHistory x.machine.history) (sym is.1) after

  stage_of : (k : ℕ) (left : ℕ → Option (List ℕ)) (from : Cut) (moves : List Move) → IsHistory from.state.machine.history → AreMoves reading own name from moves
      → LeftAt files k left from moves → Stage files k left from moves
  stage_of k left from [] history steps lawful = record { state = from.state; counts = refl; history_is = history; lawful = lawful }
  stage_of k left from (move ∷ moves) history steps (inl here) =
      record { state = here.1.0; counts = inl (here.0, here.1.1); history_is = within_history from move here.1.0 history steps.0.history_is here.1.1; lawful = here.1.2 }
  stage_of k left from (move ∷ moves) history steps (inr later) =
      let rest = stage_of k left move.cut moves steps.0.history_is steps.1 later.1 in
      record { state = rest.state; counts = inr (later.0, rest.counts); history_is = rest.history_is; lawful = rest.lawful }

  last_history : (from : Cut) (moves : List Move) → IsHistory from.state.machine.history → AreMoves reading own name from moves
      → IsHistory (last_cut from moves).state.machine.history
  last_history from [] history steps = history
  last_history from (move ∷ moves) history steps = last_history move.cut moves steps.0.history_is steps.1

found_left : {w : World} {k : ℕ} {left : ℕ → Option (List ℕ)} (f : ℕ) → IsLeftAt w k left → 0 < length (w.past k f) → (c : List ℕ) × (left f ≡ Some c)
found_left {w} {k} {left} f is some = by_cases (left f) refl
  where
    by_cases : (o : Option (List ℕ)) → left f ≡ o → (c : List ℕ) × (left f ≡ Some c)
    by_cases None none = absurd (left_there is some none)
    by_cases (Some c) is = (c, is)

history_opened : (h : History) (o : Opening) (c : Cut) (shown : Shown) (w : World) → c ≡ start_cut (first_state h o) shown w → IsHistory h
    → IsHistory c.state.machine.history
unfolding opened
history_opened h o c shown w is history = subst (λ (x : Cut). IsHistory x.state.machine.history) (sym is) history

module _ {T : Type 0} {reading : Reading} {own : ℕ → Type 0} {allows : List Directory} {files : Files} {name : List ℕ} {h : History} {disks : List (List ℕ)}
    {result : Result T Stop} {closes : Bool} {over : List ℕ → Type 0} {told : List Heard → Type 0} {given : List Given} {answer : Answer} {old new : World} where
  pub survives : (session : Session reading own allows files name h disks result closes over told given answer old new) → IsHistory h
      → ((f : ℕ) → Contains files.backups f → f ≡ files.source → ⊥) → {parts : Parts} → Runs parts old new → WereThere files old
      → (k : ℕ) (left : ℕ → Option (List ℕ)) → old.now ≤ k → k ≤ new.now → IsLeftAt new k left → Survives k left session
  survives (inl none) history apart run were k left low high is =
      settles_left history apart (λ f which. found_left f is (run.goes.lasts k f low high (were f which))) (none.crashes k left low high is)
  survives (inr b) history apart run were k left low high is =
      let there : (f : ℕ) → (f ≡ files.source) ⊎ Contains files.backups f → (c : List ℕ) × (left f ≡ Some c) = λ f which. found_left f is (run.goes.lasts k f low high (were f which)) in
      let begins = history_opened h _ b.first b.shown b.begun b.first_is history in
      by_moment there begins (b.crashes k left low high is)
    where
      by_moment : ((f : ℕ) → (f ≡ files.source) ⊎ Contains files.backups f → (c : List ℕ) × (left f ≡ Some c)) → IsHistory b.first.state.machine.history
          → ((k < b.first.world.now) × LeftLawful (or_marked allows) files h disks left)
          ⊎ (((b.first.world.now ≤ k) × (k ≤ b.done.now) × LeftAt files k left b.first b.moves)
          ⊎ ((b.done.now < k) × LeftLawful (in_closing (last_cut b.first b.moves).state) files (last_cut b.first b.moves).state.machine.history (last_cut b.first b.moves).state.disks left))
          → Survives k left (inr b)
      by_moment there begins (inl here) = inl (here.0, settles_left history apart there here.1)
      by_moment there begins (inr (inl here)) =
          let stage = stage_of reading own files name k left b.first b.moves begins b.steps here.2 in
          inr (inl (here.0, here.1, record { state = stage.state; counts = stage.counts; settles = settles_left stage.history_is apart there stage.lawful }))
      by_moment there begins (inr (inr here)) = inr
          (inr (here.0, settles_left (last_history reading own files name b.first b.moves begins b.steps) apart there here.1))

  pub with_crashes : Session reading own allows files name h disks result closes over told given answer old new → AreLawful allows files h disks old
      → {parts : Parts} → Runs parts old new
      → (session : Session reading own allows files name h disks result closes over told given answer old new)
      × (WereThere files old → (k : ℕ) (left : ℕ → Option (List ℕ)) → old.now ≤ k → k ≤ new.now → IsLeftAt new k left → Survives k left session)
  with_crashes session lawful run = (session, survives session lawful.history_is lawful.apart run)
