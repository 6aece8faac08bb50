-- A closing.
use Rattle.std.proofs.Common.{◌≡◌, inl, ℕ, ◌<◌, ◌≤◌, List, [], ◌∷◌, length, IsTrue, None, refl, sym, ap, subst, ◌∙◌, arith}
use Rattle.std.proofs.lemmas.List.Elements.{All-nil}
use Rattle.disk_model.specs.Files.{IsOutcome}
use Rattle.disk_model.specs.World.{World, versions, IsSound, Syncs, HasSynced, EachNow, EachSince, Holds}
use Rattle.disk_model.proofs.Laws.{since_more, since_step, steps_within, now_since, now_more}
use Rattle.bitmap_model.specs.Bitmap.{StoredBitmap}
use Rattle.core_events.specs.Answers.{Answer}
use Rattle.plain_model.specs.History.{History, now}
use Rattle.image_model.specs.Space.{IsShapedStore}
use Rattle.image_model.specs.Storing.{storing_need}
use Rattle.plain_model.specs.Ending.{closed, leave}
use Rattle.plain_model.specs.Closing.{stored_by}
use Rattle.bitmap_model.specs.Bitmaps.{IsShapedEntry}
use Rattle.plain_model.specs.Lawful.{IsTrueEntry}
use Rattle.core_node.specs.Rest.{State, Directory, IsReady, IsSafe, in_session, in_closing, closed_directory}
use Rattle.core_node.specs.Ends.{Closes, Closed, KeepsHeader, RewritesHeader}
use Rattle.qc_layout.proofs.Directories.{stores_nothing}
use Rattle.core_node.proofs.Keeping.{same_header, same_rewritten}
use Rattle.core_node.proofs.Rests.{allows_left, ready_more, safe_more}
use Rattle.toy_image.specs.Images.{store_of}
use Rattle.toy_core.specs.declared.toy.Toy.{Toy}
use Rattle.toy_core.specs.Toy.{machine_of, state_of, IsHeld, IsNamed, Keeps}
use Rattle.toy_core.proofs.Holding.{directory, sized, headers_now, still_holds, still_crashes, synced_holds, synced_crashes}
use Rattle.toy_core.proofs.Laws.{safe}
use Rattle.toy_core.proofs.Opening.{in_use}

at_state : {t : Toy} {w : World} (P : State → Type 0) → ((h : History) (disks : List (List ℕ)) → IsHeld t w h disks → P (state_of t h disks)) → (s : State) → Keeps t w s → P s
at_state P p s k = subst P (sym k.is) (p k.history k.disks k.holds)

kept : {t : Toy} {w : World} {h : History} {disks : List (List ℕ)} → IsHeld t w h disks → Keeps t w (state_of t h disks)
kept {t} {w} {h} {disks} k = record { history = h; disks = disks; is = refl; holds = k }

-- what it would store
none_stored : (t : Toy) (h : History) → stored_by (machine_of t h) ≡ []
unfolding closed leave
none_stored t h = refl

none_needed : (cluster room : ℕ) → storing_need cluster [] ≤ room
unfolding storing_need
none_needed cluster room = omega arith

none_told : (t : Toy) (h : History) → (closed (machine_of t h)).notices ≡ []
unfolding closed leave
none_told t h = refl

module _ (t : Toy) (old new : World) where
  -- one that left the file as it is
  pub closes_still : (s : State) → Keeps t old s → new.tells ≡ old.tells → IsNamed t.source.file.0 new → new.seen t.source.file.0 ≡ old.seen t.source.file.0 → versions new t.source.file.0 ≡ versions old t.source.file.0
      → ((k : ℕ) → old.now ≤ k → k < new.now → new.past k t.source.file.0 ≡ versions old t.source.file.0) → Closes t.source.file.0 t.source.image.id s old new
  closes_still s keeps tells named seen same before = at_state (λ s. Closes t.source.file.0 t.source.image.id s old new) (λ h disks k.
      let s = state_of t h disks in
      let held = safe t new s (kept (still_holds t old new h disks t.event t.broken k k.sound tells named seen same)) in
      record {
        since = since_more new old.now t.source.file.0 (IsSafe (in_session s) t.source.image.id h disks) (IsSafe (in_closing s) t.source.image.id h disks) (λ c is. safe_more (λ d. allows_left (in_session s) (closed_directory s ∷ []) d) is)
            (still_crashes t old new h disks k (λ i low high. inl (before i low high)) same);
        rest = record {
          seen = λ told. ready_more (λ d. allows_left (in_session s) (closed_directory s ∷ []) d) (held.seen told);
          each = now_more new t.source.file.0 (IsSafe (in_session s) t.source.image.id h disks) (IsSafe (in_closing s) t.source.image.id h disks) (λ c is. safe_more (λ d. allows_left (in_session s) (closed_directory s ∷ []) d) is) held.each;
        };
        headers = λ known. (
          since_step old new t.source.file.0 (KeepsHeader (old.seen t.source.file.0)) (λ i low high. inl (before i low high)) (headers_now k)
              (λ c left. headers_now k c (subst (λ (vs : List (List ℕ)). IsOutcome vs c) same left)),
          subst (KeepsHeader (old.seen t.source.file.0)) (sym seen) (same_header (old.seen t.source.file.0)),
        );
      }) s keeps

  module _ (sound_old : IsSound old) (call : Syncs t.source.file.0 old new) (done : HasSynced t.source.file.0 old new) where
    pub closes_synced : (s : State) → Keeps t old s → Closes t.source.file.0 t.source.image.id s old new
    closes_synced = at_state (λ s. Closes t.source.file.0 t.source.image.id s old new) (λ h disks k.
        let s = state_of t h disks in
        let after = synced_holds t old new h disks k sound_old call done t.event t.broken k.sound in
        let held = safe t new (state_of t h (now h ∷ [])) (kept after) in
        let since : EachSince new old.now t.source.file.0 (IsSafe (in_closing s) t.source.image.id h disks) = since_more new old.now t.source.file.0 (IsSafe (in_session s) t.source.image.id h disks) (IsSafe (in_closing s) t.source.image.id h disks)
        (λ c is. safe_more (λ d. allows_left (in_session s) (closed_directory s ∷ []) d) is) (synced_crashes t old new h disks k sound_old call done) in
        record {
          since = since;
          rest = record {
            seen = λ told. ready_more (λ d. allows_left (in_session s) (closed_directory s ∷ []) d) (held.seen told);
            each = now_since new old.now t.source.file.0 (IsSafe (in_closing s) t.source.image.id h disks) call.run.goes.later since;
          };
          headers = λ known. (
            since_step old new t.source.file.0 (KeepsHeader (old.seen t.source.file.0)) (steps_within old new t.source.file.0 call.steps) (headers_now k)
                (subst (λ (file : List ℕ). EachNow new t.source.file.0 (KeepsHeader file)) call.seen (headers_now after)),
            subst (KeepsHeader (old.seen t.source.file.0)) (sym call.seen) (same_header (old.seen t.source.file.0)),
          );
        })

    pub closed_synced : (answer : Answer) → answer.notices ≡ [] → t.broken ≡ None → (s : State) → Keeps t old s → Closed t.source.file.0 t.source.image.id s old new answer
    closed_synced answer none whole = at_state (λ s. Closed t.source.file.0 t.source.image.id s old new answer) (λ h disks k.
        let s = state_of t h (now h ∷ []) in
        let after = synced_holds t old new h disks k sound_old call done t.event t.broken k.sound in
        let held = safe t new s (kept after) in
        let same : closed_directory s ≡ directory t = ap (λ (es : List StoredBitmap). record { epoch = t.source.image.epoch; entries = es }) (none_stored t h) in
        record {
          whole = whole;
          notices_are = none ∙ sym (none_told t h);
          rest = subst (λ (d : Directory). Holds t.source.file.0 (IsReady (d ∷ []) t.source.image.id h) (IsSafe (d ∷ []) t.source.image.id h (now h ∷ [])) new) (sym same) held;
          opening = record { epoch = t.source.image.epoch; entries = []; store = store_of t.source.image; taken = 0; given = 0 };
          finds = record {
            source = after.image.source;
            room = after.image.room;
            lawful = record {
              shapes = All-nil (IsShapedEntry (length h.start));
              apart = tt;
              few = omega arith;
              truths = All-nil (λ (e : StoredBitmap). IsTrue e.trusted → IsTrueEntry h e);
              epochs = after.epochs;
              store_shape = subst (λ (n : ℕ). IsShapedStore n (store_of t.source.image)) (sym (sized t h t.source.image.size after.image.size_is after.sound)) after.suits.shape;
            };
          };
          epoch_is = refl;
          kinds_are = refl;
          tables_are = refl;
          entries_are = sym (none_stored t h);
          stores = (stores_nothing (new.seen t.source.file.0) after.image.bare).stored ∙ sym (none_stored t h);
          tight = after.image.tight;
          in_use = in_use after.image;
          header = subst (RewritesHeader (old.seen t.source.file.0)) (sym call.seen) (same_rewritten (old.seen t.source.file.0) k.clear);
          enough = subst (λ (es : List StoredBitmap). storing_need t.source.image.cluster es ≤ t.source.image.room) (sym (none_stored t h))
              (none_needed t.source.image.cluster t.source.image.room);
        })
