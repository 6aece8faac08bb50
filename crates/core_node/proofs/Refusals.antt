-- What the promises refuse.
use Rattle.std.proofs.Common.{◌≡◌, inl, inr, ℕ, ◌-◌, List, [], ◌∷◌, map, Option, Some, None, true, IsTrue, refl, sym, ap, subst, ◌∙◌, arith}
use Rattle.std.specs.Prelude.{Contains, filter}
use Rattle.std.specs.List.{list_any}
use Rattle.std.proofs.lemmas.List.{get_or-map}
use Rattle.std.proofs.lemmas.Grind.{common_steps}
use Rattle.disk_model.specs.Files.{IsOutcome}
use Rattle.disk_model.specs.World.{World, versions, Holds}
use Rattle.bitmap_model.specs.Bitmap.{BitmapState, StoredBitmap, stored, restored}
use Rattle.bitmap_model.specs.Bitmaps.{changed}
use Rattle.core_events.specs.Answers.{Answer}
use Rattle.qc_layout.specs.Room.{HasRoom}
use Rattle.qc_layout.specs.Directory.{stored_in}
use Rattle.plain_model.specs.History.{History, now}
use Rattle.plain_model.specs.Jobs.{Job}
use Rattle.plain_model.specs.Machine.{Machine, opened}
use Rattle.plain_model.specs.Ending.{given_back, change_own, change_bitmaps, leave, closed}
use Rattle.plain_model.specs.Closing.{stored_by}
use Rattle.core_node.specs.Rest.{Directory, State, Allows, unused, directory_of, when_closed, first_state, in_session, IsReady, IsSafe}
use Rattle.core_node.specs.Standing.{Shown, StandsFor}
use Rattle.core_node.specs.Ends.{NodeBegins, Closed}
use Rattle.core_node.specs.Laws.{OpensReady, ClosedStoresBitmaps, ClosedKeepsBitmaps, is_persistent, is_entry_of}

-- ---- openings

contains_map : {A B : Type 0} (f : A → B) (xs : List A) (x : A) → Contains xs x → Contains (map f xs) (f x)
contains_map f xs x (k, below, is) = (k, grind (arith, common_steps), get_or-map f xs k x (f x) below ∙ ap f is)

module _ {allows : List Directory} {file : ℕ} {shown : Shown} {keeps : State → Type 0} {id : List ℕ} {h : History} {disks : List (List ℕ)} {old new : World}
    (stands : (s : State) → keeps s → StandsFor shown new s.machine) (safe : (s : State) → keeps s
    → Holds shown.file (IsReady (in_session s) shown.id s.machine.history) (IsSafe (in_session s) shown.id s.machine.history s.disks) new)
    (o : OpensReady allows file shown keeps id h disks old new) where
  pub begins : NodeBegins allows shown keeps file id h old new
  begins = o.opened.begins allows id h disks o.told o.found o.history_is o.holds

  abbrev pub first : State
  first = first_state h (record begins.opening { taken = begins.taken; given = begins.given })

  bitmaps_are : shown.bitmaps ≡ map restored (stored_in (old.seen file))
  unfolding opened
  bitmaps_are = (stands first begins.keeps_it).bitmaps.bitmaps_are ∙ ap (map restored) begins.entries_are

  room_is : shown.room ≡ begins.opening.store.room - begins.taken
  unfolding opened
  room_is = (stands first begins.keeps_it).space.room_is

  still_stored : stored_in (new.seen file) ≡ map unused (stored_in (old.seen file))
  still_stored = by_directory ready ready.allowed
    where
      ready : IsReady (in_session first) shown.id first.machine.history (new.seen file)
      ready = subst (λ (f : ℕ). IsReady (in_session first) shown.id first.machine.history (new.seen f)) o.opened.file_is
          ((safe first begins.keeps_it).seen (subst IsTrue (sym o.run.goes.tells) o.told))

      by_directory : (r : IsReady (in_session first) shown.id first.machine.history (new.seen file)) → Allows (in_session first) (directory_of r.opening) → stored_in (new.seen file) ≡ map unused (stored_in (old.seen file))
      by_directory r (inl is) = sym r.entries_are ∙ ap (λ (d : Directory). d.entries) is ∙ ap (map unused) begins.entries_are
      by_directory r (inr none) = absurd none

  pub opened_bitmaps : (e : StoredBitmap) → Contains (stored_in (old.seen file)) e → Contains shown.bitmaps (restored e) × Contains (stored_in (new.seen file)) (unused e)
  opened_bitmaps e there = (
    subst (λ (bs : List BitmapState). Contains bs (restored e)) (sym bitmaps_are) (contains_map restored (stored_in (old.seen file)) e there),
    subst (λ (es : List StoredBitmap). Contains es (unused e)) (sym still_stored) (contains_map unused (stored_in (old.seen file)) e there),
  )

  pub opened_room : stored_in (old.seen file) ≡ [] → HasRoom (old.seen file) shown.room
  opened_room none =
      let bare = begins.entries_are ∙ none in
      let taken = begins.nothing_taken bare in
      let room = room_is in
      subst (HasRoom (old.seen file)) (sym (omega arith)) begins.finds.room

-- ---- closings

-- jobs that give their bitmaps back leave each persistent
persistent_changed : (name other : List ℕ) (j : Job) (bs : List BitmapState) → list_any (is_persistent name) (changed (given_back j) other bs) ≡ list_any (is_persistent name) bs
persistent_changed name other j [] = refl
persistent_changed name other j (b ∷ bs) = grind (arith, common_steps, persistent_changed name other j bs)

persistent_own : (name : List ℕ) (j : Job) (own : Option (List ℕ)) (bs : List BitmapState) → list_any (is_persistent name) (change_own given_back j own bs) ≡ list_any (is_persistent name) bs
persistent_own name j None bs = refl
persistent_own name j (Some other) bs = persistent_changed name other j bs

persistent_after : (name : List ℕ) (jobs : List Job) (bs : List BitmapState) → list_any (is_persistent name) (change_bitmaps given_back jobs bs) ≡ list_any (is_persistent name) bs
persistent_after name [] bs = refl
persistent_after name (j ∷ jobs) bs = persistent_after name jobs (change_own given_back j j.bitmap bs) ∙ persistent_own name j j.bitmap bs

persistent_stored : (name : List ℕ) (bs : List BitmapState) → list_any (is_entry_of name) (map stored (filter (λ (b : BitmapState). b.persistent) bs)) ≡ list_any (is_persistent name) bs
persistent_stored name [] = refl
persistent_stored name (b ∷ bs) = grind (arith, common_steps, persistent_stored name bs)

persistent_closed : (name : List ℕ) (m : Machine) → list_any (is_persistent name) (closed m).machine.bitmaps ≡ list_any (is_persistent name) m.bitmaps
unfolding closed leave
persistent_closed name m = persistent_after name (filter (λ (j : Job). true) m.jobs) m.bitmaps

pub closed_bitmaps : ClosedStoresBitmaps
closed_bitmaps file id s old new answer name closed there =
    subst (λ (es : List StoredBitmap). IsTrue (list_any (is_entry_of name) es)) (sym closed.stores)
    (sym (sym there ∙ sym (persistent_stored name _ ∙ persistent_closed name s.machine)))

closed_kept : {file : ℕ} {id : List ℕ} (s : State) {old new : World} {answer : Answer} → Closed file id s old new answer → (c : List ℕ) → IsOutcome (versions new file) c → (stored_by s.machine ≡ [] → ⊥) → stored_in c ≡ [] → ⊥
closed_kept {file} {id} s {old} {new} closed c outcome some none = from_safe (closed.rest.each c outcome)
  where
    from_safe : IsSafe (when_closed s) id s.machine.history (now s.machine.history ∷ []) c → ⊥
    from_safe safe = by_cases safe.ready.allowed
      where
        by_cases : Allows (when_closed s) (directory_of safe.ready.opening) → ⊥
        by_cases (inl is) = some (sym (ap (λ (d : Directory). d.entries) is) ∙ safe.ready.entries_are ∙ none)
        by_cases (inr none) = none

pub closed_keeps : ClosedKeepsBitmaps
closed_keeps file id s old new answer c closed outcome some none = closed_kept s closed c outcome some none
