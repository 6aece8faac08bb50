-- A closing. No bitmap is stored, before it and by it.
use Rattle.std.proofs.Common.{◌≡◌, inl, ℕ, ◌≤◌, List, [], ◌∷◌, length, IsTrue, Result, Ok, Err, None, refl, sym, ap, subst, ◌∙◌, arith}
use Rattle.std.specs.Prelude.{OnOk, IfErr}
use Rattle.std.proofs.lemmas.List.Elements.{All-nil}
use Rattle.disk_model.specs.World.{World, EachSince, Holds}
use Rattle.disk_model.proofs.Moments.{since_more, now_since}
use Rattle.bitmap_model.specs.Bitmap.{StoredBitmap}
use Rattle.bitmap_model.specs.Bitmaps.{IsShapedEntry}
use Rattle.core_events.specs.Answers.{Answer}
use Rattle.image_model.specs.declared.refusals.CloseRefusal.{CloseRefusal}
use Rattle.image_model.specs.declared.refusals.CloseRefusal.TheVariants as unclosed
use Rattle.image_model.specs.Space.{Store, IsShapedStore}
use Rattle.image_model.specs.Storing.{storing_need}
use Rattle.plain_model.specs.History.{History, now}
use Rattle.plain_model.specs.Ending.{closed, leave}
use Rattle.plain_model.specs.Closing.{stored_by}
use Rattle.plain_model.specs.Lawful.{IsTrueEntry}
use Rattle.plain_model.proofs.Histories.{length-now}
use Rattle.core_node.specs.Rest.{State, Directory, IsReady, IsSafe, closed_directory}
use Rattle.core_node.specs.Ends.{Closes, Closed, KeepsHeader, NotClosedFor, StaysInUse}
use Rattle.core_node.proofs.Sources.{one_store, one_room}
use Rattle.core_layers.specs.Layers.{IsInOrder, IsMixed, IsClosed, MayClose}
use Rattle.core_layers.specs.Layers as layers
use Rattle.core_layers.proofs.Exports.{mixed_is_safe, reads_ready, closing_leads, closed_leads}
use Rattle.drive_core.specs.Drive.{Drive, machine_of, state_of, IsHeld, Keeps}
use Rattle.drive_core.proofs.Laws.{IsBare, bare_directory, bare_is, at_state}

-- what it would store, and tell
none_stored : (d : Drive) (store : Store) (freed : ℕ) (h : History) → stored_by (machine_of d store freed h) ≡ []
unfolding closed leave
none_stored d store freed h = refl

none_told : (d : Drive) (store : Store) (freed : ℕ) (h : History) → (closed (machine_of d store freed h)).notices ≡ []
unfolding closed leave
none_told d store freed h = refl

none_needed : (cluster room : ℕ) → storing_need cluster [] ≤ room
unfolding storing_need
none_needed cluster room = omega arith

-- ---- what it answered

pub on_ok_both : {P Q R : Type 0} (r : Result (Unit {0}) CloseRefusal) → (P → Q → R) → OnOk r P → OnOk r Q → OnOk r R
on_ok_both (Ok x) go p q = go p q
on_ok_both (Err why) go p q = tt

pub if_err : {P Q : CloseRefusal → Type 0} (r : Result (Unit {0}) CloseRefusal) → ((why : CloseRefusal) → P why → Q why) → IfErr r P → IfErr r Q
if_err (Ok x) go p = tt
if_err (Err why) go p = go why p

module _ (d : Drive) (holds : World → List ℕ → List (List ℕ) → Type 0) (space : World → Store) (old new : World) (bare : IsBare d.facts holds) (told : IsTrue old.tells) (tells : new.tells ≡ old.tells) (later : old.now ≤ new.now)
    (since : (disk : List ℕ) (mixed : List (List ℕ)) → holds old disk mixed → EachSince new old.now d.facts.file (λ c. IsMixed d.facts.id d.facts.directory mixed c × KeepsHeader (old.seen d.facts.file) c))
    (seen : (disk : List ℕ) (mixed : List (List ℕ)) → IsTrue old.tells → holds old disk mixed → IsInOrder d.facts.id d.facts.directory disk (new.seen d.facts.file) × KeepsHeader (old.seen d.facts.file) (new.seen d.facts.file)) where
  module _ {freed : ℕ} {h : History} {disks : List (List ℕ)} (k : IsHeld d (holds old) (space old) old freed h disks) where
    abbrev here : State
    here = state_of d (space old) freed h disks

    closing_is : closed_directory here ≡ bare_directory d
    closing_is = ap (λ (es : List StoredBitmap). record { epoch = d.facts.directory.epoch; entries = es }) (none_stored d (space old) freed h)

    may : MayClose (bare_directory d) (bare_directory d) h disks
    may = record {
      history_is = k.sound.history_is;
      mixes = k.mixes;
      epochs = k.epochs;
      later = k.epochs;
      none = λ e among trusted. omega (arith, among.1);
      truths = All-nil (λ (e : StoredBitmap). IsTrue e.trusted → IsTrueEntry h e);
    }

    mixed_since : EachSince new old.now d.facts.file (IsMixed d.facts.id (bare_directory d) disks)
    mixed_since = subst (λ (x : Directory). EachSince new old.now d.facts.file (IsMixed d.facts.id x disks)) (bare_is d bare k.holds_it)
        (since_more new old.now d.facts.file _ (IsMixed d.facts.id d.facts.directory disks) (λ c is. is.0) (since (now h) disks k.holds_it))

    reads : IsInOrder d.facts.id (bare_directory d) (now h) (new.seen d.facts.file)
    reads = subst (λ (x : Directory). IsInOrder d.facts.id x (now h) (new.seen d.facts.file)) (bare_is d bare k.holds_it) (seen (now h) disks told k.holds_it).0

    closes_here : Closes d.facts.file d.facts.id here old new
    closes_here =
        let leads = closing_leads d.facts.file old new later may
        (since_more new old.now d.facts.file _ _ (λ c m. inl m) mixed_since) (λ told_new. inl reads) in
        let both = subst (λ (x : Directory). EachSince new old.now d.facts.file (IsSafe (bare_directory d ∷ x ∷ []) d.facts.id h disks)
        × Holds d.facts.file (IsReady (bare_directory d ∷ x ∷ []) d.facts.id h) (IsSafe (bare_directory d ∷ x ∷ []) d.facts.id h disks) new) (sym closing_is) leads in
        record {
          since = both.0;
          rest = both.1;
          headers = λ known. (since_more new old.now d.facts.file _ (KeepsHeader (old.seen d.facts.file)) (λ c is. is.1) (since (now h) disks k.holds_it), (seen (now h) disks told k.holds_it).1);
        }

    stays_here : StaysInUse d.facts.file d.facts.id here new
    stays_here = record {
      seen = λ told_new. reads_ready k.sound.history_is k.epochs (reads, λ e among trusted. omega (arith, among.1));
      each = now_since new old.now d.facts.file _ later (since_more new old.now d.facts.file _ (IsSafe (bare_directory d ∷ []) d.facts.id h disks) (λ c m. mixed_is_safe k.sound.history_is k.epochs k.mixes.among m) mixed_since);
    }

    refused_here : (why : CloseRefusal) → layers.NotClosedBy why d.facts.file d.broken old new → NotClosedFor why d.facts.file d.facts.id here new
    refused_here (unclosed.Broken event) is = (is.0, stays_here)
    refused_here unclosed.NoRoom is = absurd is
    refused_here unclosed.Failed is = is.0
    refused_here unclosed.Memory is = absurd is

    closed_here : (answer : Answer) → answer.notices ≡ [] → d.broken ≡ None → IsClosed d.facts (space old) (now h) old new → Closed d.facts.file d.facts.id here old new answer
    closed_here answer none whole is =
        let rest = subst (λ (x : Directory). Holds d.facts.file (IsInOrder d.facts.id x (now h)) (IsInOrder d.facts.id x (now h)) new) (bare_is d bare k.holds_it) is.rest in
        let order = rest.seen (subst IsTrue (sym tells) told) in
        let same : order.store ≡ is.store = one_store (new.seen d.facts.file) order.store is.store order.source.clusters is.has_clusters (one_room (new.seen d.facts.file) order.store.room is.store.room order.room is.has_room) in
        record {
          whole = whole;
          notices_are = none ∙ sym (none_told d (space old) freed h);
          rest = subst (λ (x : Directory). Holds d.facts.file (IsReady (x ∷ []) d.facts.id h) (IsSafe (x ∷ []) d.facts.id h (now h ∷ [])) new) (sym closing_is) (closed_leads may rest);
          opening = record { epoch = d.facts.directory.epoch; entries = []; store = order.store; taken = 0; given = 0 };
          finds = record {
            source = order.source;
            room = order.room;
            lawful = record {
              shapes = All-nil (IsShapedEntry (length h.start));
              apart = tt;
              few = omega arith;
              truths = All-nil (λ (e : StoredBitmap). IsTrue e.trusted → IsTrueEntry h e);
              epochs = k.epochs;
              store_shape = subst (λ (n : ℕ). IsShapedStore n order.store) (length-now h k.sound.history_is.inside) order.store_shape;
            };
          };
          epoch_is = refl;
          kinds_are = ap (λ (s : Store). s.kinds) same ∙ is.kinds_are;
          tables_are = ap (λ (s : Store). s.tables) same ∙ is.tables_are;
          entries_are = sym (none_stored d (space old) freed h);
          stores = order.entries_are ∙ sym (none_stored d (space old) freed h);
          tight = is.tight;
          in_use = is.in_use;
          header = is.header;
          enough = subst (λ (es : List StoredBitmap). storing_need (space old).cluster es ≤ (space old).room) (sym (none_stored d (space old) freed h)) (none_needed (space old).cluster (space old).room);
        }

  pub closes : (s : State) → Keeps d holds space old s → Closes d.facts.file d.facts.id s old new
  closes = at_state (λ s. Closes d.facts.file d.facts.id s old new) (λ h disks freed k. closes_here k)

  pub refused : (why : CloseRefusal) → layers.NotClosedBy why d.facts.file d.broken old new → (s : State) → Keeps d holds space old s → NotClosedFor why d.facts.file d.facts.id s new
  refused why is = at_state (λ s. NotClosedFor why d.facts.file d.facts.id s new) (λ h disks freed k. refused_here k why is)

  pub closed_well : (answer : Answer) → answer.notices ≡ [] → d.broken ≡ None → ((disk : List ℕ) (mixed : List (List ℕ)) → IsTrue old.tells → holds old disk mixed → IsClosed d.facts (space old) disk old new)
      → (s : State) → Keeps d holds space old s → Closed d.facts.file d.facts.id s old new answer
  closed_well answer none whole done = at_state (λ s. Closed d.facts.file d.facts.id s old new answer) (λ h disks freed k. closed_here k answer none whole (done (now h) disks told k.holds_it))
