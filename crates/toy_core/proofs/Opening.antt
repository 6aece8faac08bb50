-- An opening.
use Rattle.std.proofs.Common.{◌≡◌, ◌⊎◌, inl, inr, ℕ, ◌+◌, ◌-◌, ◌^◌, ◌<◌, ◌≤◌, List, [], ◌∷◌, length, map, false, IsTrue, None, refl, sym, ap, subst, ◌∙◌, arith, rules}
use Rattle.std.specs.Prelude.{All}
use Rattle.std.proofs.lemmas.List.Elements.{All-nil, All-cons, All-weaker}
use Rattle.bitmap_model.specs.Bitmap.{StoredBitmap, restored}
use Rattle.qc_layout.specs.declared.header.Fields.{Fields}
use Rattle.qc_layout.specs.declared.header.Header.{Header}
use Rattle.qc_layout.specs.declared.header.Own.TheVariants as owns
use Rattle.qc_layout.specs.Header.{fields_of}
use Rattle.qc_layout.specs.Directory.{stored_in}
use Rattle.qc_layout.specs.declared.header.Part.TheVariants as parts
use Rattle.qc_layout.proofs.OneDisk.{one_disk}
use Rattle.span_algebra.specs.Timelines as timelines
use Rattle.plain_model.specs.History.{History, IsHistory, now, timeline_of}
use Rattle.image_model.specs.Space.{Store}
use Rattle.plain_model.specs.Machine.{Opening, opened}
use Rattle.plain_model.specs.Lawful.{IsOfEpoch}
use Rattle.plain_model.specs.Laws.{IsLikeDisk}
use Rattle.plain_model.specs.Sound as sound
use Rattle.plain_model.proofs.Histories.{length-now}
use Rattle.plain_model.proofs.Opening.{opening_sound}
use Rattle.disk_model.specs.Files.{overlay, EachVersion}
use Rattle.disk_model.specs.World.{World, Runs, reads_of, writes_of, versions, EachSinceSync, IsGiven}
use Rattle.disk_model.proofs.Laws.{sync_more, spared_sync, each_more}
use Rattle.file_device.specs.File.{file_of, Gives, Is, IsSettled}
use Rattle.first_sector.specs.Sectors.{New, OldOrNew}
use Rattle.image_model.specs.declared.refusals.OpenRefusal.{OpenRefusal}
use Rattle.image_model.specs.declared.refusals.OpenRefusal.TheVariants as unopened
use Rattle.core_node.specs.Standing.{TargetFile}
use Rattle.core_node.specs.Rest.{Directory, directory_of, unused, marked, first_state, FindsOpening, IsReady}
use Rattle.core_node.specs.Ends.{Opened, OpensWithin, IsOpening, AreInUse, NodeBegins, NotOpenedFor, RewritesHeader, entry_of}
use Rattle.image_model.specs.Refusals.{FileFault, IsSourceFault}
use Rattle.qc_layout.specs.Laws.{LoadingIsExact}
use Rattle.qc_layout.proofs.Directories.{stores_nothing}
use Rattle.core_node.proofs.Keeping.{same_header}
use Rattle.core_node.proofs.Rests.{allows_left, ready_more}
use Rattle.core_node.proofs.Sources.{one_id, one_epoch, one_store, one_room, source_fault}
use Rattle.core_layers.specs.Layers.{IsFound, KeepsOrMarks, IsInOrder}
use Rattle.core_layers.proofs.Exports.{found_opens, only_one}
use Rattle.toy_image.specs.declared.image.NotLooked.{NotLooked}
use Rattle.toy_image.specs.declared.image.NotLooked.TheVariants as unlooked
use Rattle.toy_image.specs.declared.numbers.Numbers.{Numbers}
use Rattle.toy_image.specs.Images.{store_of, IsSuited, IsImage, IsImageOf, IsVersionOf, Opens, IsLooked, NotLookedFor, raised, Raises, HasNextEpoch}
use Rattle.toy_image.proofs.Raising.{raises}
use Rattle.toy_core.specs.declared.toy.Toy.{Toy}
use Rattle.toy_core.specs.Toy.{shown, machine_of, state_of, IsHeld, IsNamed, Keeps, IsUnopened}
use Rattle.toy_core.proofs.Holding as holding
use Rattle.toy_core.proofs.Holding.{named_on, head_known}
use Rattle.toy_core.proofs.Outcomes.{image_in_order}

abbrev directory_in : Numbers → Directory
directory_in n = record { epoch = n.epoch; entries = [] }

-- ---- the state in which it begins

module _ {n : Numbers} {file disk id : List ℕ} {h : History} {o : Opening} (suits : IsSuited n) (image : IsImage n disk file) (finds : FindsOpening file id h o) (none : o.entries ≡ []) where
  pub store_is : o.store ≡ store_of n
  store_is = one_store file o.store (store_of n) finds.source.clusters image.source.clusters (one_room file o.store.room n.room finds.room image.room)

  pub epoch_is : o.epoch ≡ n.epoch
  epoch_is = one_epoch finds.source image.source

  pub id_is : id ≡ n.id
  id_is = one_id finds.source image.source

  pub disk_is : disk ≡ now h
  disk_is = one_disk parts.Source file disk (now h) image.source.stands finds.source.stands

  store_same : record o.store { room = o.store.room - 0 } ≡ store_of n
  store_same = ap (λ (s : Store). record s { room = s.room - 0 }) store_is ∙ (let same : n.room - 0 ≡ n.room = omega arith in ap (λ (room : ℕ). record (store_of n) { room = room }) same)

  module _ (t : Toy) (source_is : t.source.image ≡ raised n) (event_is : t.event ≡ 0) (broken_is : t.broken ≡ None) where
    pub machine_is : opened h (record o { taken = 0; given = 0 }) ≡ machine_of t h
    unfolding opened
    machine_is = (λ i. record {
      history = h;
      epoch = epoch_is i + 1;
      serial = 0;
      event = 0;
      bitmaps = map restored (none i);
      jobs = [];
      views = [];
      gone = [];
      created = [];
      exports = [];
      broken = None;
      store = store_same i;
      freed = 0;
      ended = false;
    }) ∙ (λ i. record {
      history = h;
      epoch = (sym source_is i).epoch;
      serial = 0;
      event = sym event_is i;
      bitmaps = [];
      jobs = [];
      views = [];
      gone = [];
      created = [];
      exports = [];
      broken = sym broken_is i;
      store = store_of (sym source_is i);
      freed = 0;
      ended = false;
    })

    pub state_is : first_state h (record o { taken = 0; given = 0 }) ≡ state_of t h (now h ∷ [])
    state_is = λ i. record { machine = machine_is i; disks = now h ∷ []; entries = map unused (none i) }

-- ---- what calls leave

-- what was stored is what it was ready with
stored_of : {file id : List ℕ} {d : Directory} {h : History} → IsReady (d ∷ []) id h file → stored_in file ≡ d.entries
stored_of ready = sym ready.entries_are ∙ ap (λ (x : Directory). x.entries) (only_one ready.allowed)

-- where there is no directory no bitmap is listed
pub in_use : {n : Numbers} {disk file : List ℕ} → IsImage n disk file → AreInUse file
in_use image b here trusted = let bare = image.bare in search rules

-- calls that read leave the image as it was
pub open_reads : {file : ℕ} {d : Directory} {id : List ℕ} {h : History} {old new : World} → Runs (reads_of file) old new → IsReady (d ∷ []) id h (old.seen file) → OpensWithin file d id h old new
open_reads {file} {d} {id} {h} {old} {new} run ready = record {
  since = record {
    moment = new.now + 1;
    from = let later = run.goes.later in omega (arith, later);
    to = omega arith;
    before = λ k low below high. (run.files file (λ none. none)).moments k low high;
    since = λ k low high. absurd (omega (arith, low, high));
  };
  seen = subst (IsOpening (old.seen file) d id h) (sym ((run.files file (λ none. none)).seen))
      (ready_more (λ x is. allows_left (d ∷ []) (marked d ∷ []) x is) ready, same_header (old.seen file), inl (stored_of ready));
}

directory_is : {n : Numbers} {file id disk : List ℕ} {h : History} {d : Directory} → IsImage n disk file → (ready : IsReady (d ∷ []) id h file) → directory_in n ≡ d
directory_is {n} {file} {id} {disk} {h} {d} image ready = same ∙ only_one ready.allowed
  where
    same : directory_in n ≡ directory_of ready.opening
    same = λ i. record { epoch = sym (one_epoch ready.finds.source image.source) i; entries = sym (ready.entries_are ∙ (stores_nothing file image.bare).stored) i }

-- an image in order is so for the names that a history gives it
as_found : {n : Numbers} {file id disk : List ℕ} {h : History} {d : Directory} (image : IsImage n disk file) (ready : IsReady (d ∷ []) id h file) {other : List ℕ} {x : Directory} → IsInOrder n.id x disk other → IsInOrder id x (now h) other
as_found {n} {file} {id} {disk} {h} {d} image ready {other} {x} is =
    subst (λ (disk : List ℕ). IsInOrder id x disk other) (one_disk parts.Source file disk (now h) image.source.stands ready.finds.source.stands)
    (subst (λ (name : List ℕ). IsInOrder name x disk other) (sym (one_id ready.finds.source image.source)) is)

raised_suits : {n : Numbers} → IsSuited n → IsSuited (raised n)
raised_suits suits = record { first = suits.first; base_is = suits.base_is; sectors = suits.sectors; size_is = suits.size_is; shape = suits.shape; near = suits.near }

module _ {n : Numbers} {file : ℕ} {disk id : List ℕ} (sector : List ℕ) {h : History} {d : Directory} {old mid new : World} (suits : IsSuited n) (image : IsImage n disk (old.seen file)) (raise : IsImage (raised n) disk (overlay (old.seen file) 0 sector))
    (header : RewritesHeader (old.seen file) (overlay (old.seen file) 0 sector)) (history : IsHistory h) (ready : IsReady (d ∷ []) id h (old.seen file)) (reads : Runs (reads_of file) old mid) (writes : Runs (writes_of file) mid new) where
  same_seen : mid.seen file ≡ old.seen file
  same_seen = (reads.files file (λ none. none)).seen

  found : (c : List ℕ) → (c ≡ mid.seen file) ⊎ (c ≡ overlay (mid.seen file) 0 sector) → IsFound id d (now h) c
  found c (inl is) = inl (subst (IsInOrder id d (now h)) (sym (is ∙ same_seen))
      (subst (λ (x : Directory). IsInOrder id x (now h) (old.seen file)) (directory_is image ready) (as_found image ready (image_in_order n disk (old.seen file) suits image))))
  found c (inr is) = inr (subst (IsInOrder id (marked d) (now h)) (sym (is ∙ ap (λ (file : List ℕ). overlay file 0 sector) same_seen))
      (subst (λ (x : Directory). IsInOrder id (marked x) (now h) (overlay (old.seen file) 0 sector)) (directory_is image ready) (as_found image ready (image_in_order (raised n) disk (overlay (old.seen file) 0 sector) (raised_suits suits) raise))))

  said : (c : List ℕ) → (c ≡ mid.seen file) ⊎ (c ≡ overlay (mid.seen file) 0 sector) → KeepsOrMarks (old.seen file) d c
  said c (inl is) = subst (KeepsOrMarks (old.seen file) d) (sym (is ∙ same_seen)) (same_header (old.seen file), inl (stored_of ready))
  said c (inr is) = subst (KeepsOrMarks (old.seen file) d) (sym (is ∙ ap (λ (file : List ℕ). overlay file 0 sector) same_seen))
      (λ h g before after. inr (header h g before after), inr (in_use raise))

  pub open_writes : EachSinceSync mid new file (λ c. (c ≡ mid.seen file) ⊎ (c ≡ overlay (mid.seen file) 0 sector)) → (new.seen file ≡ mid.seen file) ⊎ (new.seen file ≡ overlay (mid.seen file) 0 sector) → OpensWithin file d id h old new
  open_writes crash seen = found_opens file old new history ready
      (sync_more (λ c. (c ≡ mid.seen file) ⊎ (c ≡ overlay (mid.seen file) 0 sector))
      (λ c. IsFound id d (now h) c × KeepsOrMarks (old.seen file) d c) (λ c is. (found c is, said c is))
      (spared_sync file _ reads writes (λ none. none) crash))
      (found (new.seen file) seen) (said (new.seen file) seen)

-- ---- the session begins

next_epoch : (epoch : ℕ) (e : timelines.Entry) → IsOfEpoch epoch e → IsOfEpoch (epoch + 1) e
next_epoch epoch (timelines.Wrote extent) is = tt
next_epoch epoch (timelines.Reached p) is = omega (arith, is)

module _ (n : Numbers) (t : Toy) (disk id sector : List ℕ) (h : History) (allows : List Directory) (old mid new : World) (suits : IsSuited n) (image : IsImage n disk (old.seen t.source.file.0)) (raise : IsImage (raised n) disk (overlay (old.seen t.source.file.0) 0 sector))
    (header : RewritesHeader (old.seen t.source.file.0) (overlay (old.seen t.source.file.0) 0 sector)) (history : IsHistory h) (ready : IsReady allows id h (old.seen t.source.file.0)) (source_is : t.source.image ≡ raised n) (event_is : t.event ≡ 0) (broken_is : t.broken ≡ None) (told : IsTrue old.tells)
    (named : IsNamed t.source.file.0 old) (reads : Runs (reads_of t.source.file.0) old mid) (writes : Runs (writes_of t.source.file.0) mid new)
    (seen : new.seen t.source.file.0 ≡ overlay (mid.seen t.source.file.0) 0 sector) (each : EachVersion (λ v. v ≡ new.seen t.source.file.0) (versions new t.source.file.0)) where
  none : ready.opening.entries ≡ []
  none = ready.entries_are ∙ (stores_nothing (old.seen t.source.file.0) image.bare).stored

  begun : opened h (record ready.opening { taken = 0; given = 0 }) ≡ machine_of t h
  begun = machine_is suits image ready.finds none t source_is event_is broken_is

  disk_now : disk ≡ now h
  disk_now = disk_is suits image ready.finds none

  rewrites : RewritesHeader (old.seen t.source.file.0) (new.seen t.source.file.0)
  rewrites = subst (RewritesHeader (old.seen t.source.file.0)) (sym (seen ∙ ap (λ (c : List ℕ). overlay c 0 sector) (reads.files t.source.file.0 (λ none. none)).seen)) header

  image_now : IsImage t.source.image (now h) (new.seen t.source.file.0)
  image_now = subst (λ (m : Numbers). IsImage m (now h) (new.seen t.source.file.0)) (sym source_is)
      (subst (IsImage (raised n) (now h)) (sym (seen ∙ ap (λ (c : List ℕ). overlay c 0 sector) (reads.files t.source.file.0 (λ none. none)).seen)) (subst (λ (x : List ℕ). IsImage (raised n) x (overlay (old.seen t.source.file.0) 0 sector)) disk_now raise))

  clear_now : (fields_of (new.seen t.source.file.0)).autoclear_features < 2
  clear_now = subst (λ (f : Fields). f.autoclear_features < 2) image_now.source.spelled.fields
      (rewrites image.source.header image_now.source.header image.source.spelled image_now.source.spelled).1

  suits_now : IsSuited t.source.image
  suits_now = subst IsSuited (sym source_is) (raised_suits suits)

  sound_now : sound.IsSound (machine_of t h)
  sound_now = subst sound.IsSound begun (opening_sound h (record ready.opening { taken = 0; given = 0 }) history (record {
    shapes = ready.finds.lawful.shapes;
    apart = ready.finds.lawful.apart;
    few = ready.finds.lawful.few;
    truths = ready.finds.lawful.truths;
    epochs = ready.finds.lawful.epochs;
    store_shape = ready.finds.lawful.store_shape;
  }))

  version_now : (v : List ℕ) → v ≡ new.seen t.source.file.0 → IsVersionOf t.source.image (now h ∷ []) (new.seen t.source.file.0) v
  version_now v is = subst (IsVersionOf t.source.image (now h ∷ []) (new.seen t.source.file.0)) (sym is) (record {
    like = record { long = refl; outside = λ i out. refl };
    among = (0, omega arith, sym (holding.disk_is t.source.image (now h) (new.seen t.source.file.0) suits_now image_now));
  })

  epochs_now : All (IsOfEpoch t.source.image.epoch) (timeline_of h).entries
  epochs_now = subst (λ (e : ℕ). All (IsOfEpoch e) (timeline_of h).entries) (sym (ap (λ (m : Numbers). m.epoch) source_is))
      (All-weaker (IsOfEpoch n.epoch) (IsOfEpoch (n.epoch + 1)) (next_epoch n.epoch) (timeline_of h).entries (subst (λ (e : ℕ). All (IsOfEpoch e) (timeline_of h).entries) (epoch_is suits image ready.finds none) ready.finds.lawful.epochs))

  held_now : IsHeld t new h (now h ∷ [])
  held_now = record {
    told = subst IsTrue (sym (writes.goes.tells ∙ reads.goes.tells)) told;
    named = named_on t.source.file.0 writes (λ none. none) (named_on t.source.file.0 reads (λ none. none) named);
    suits = suits_now;
    sound = sound_now;
    mixes = record { among = (0, omega arith, refl); alike = All-cons (IsLikeDisk h) (now h) [] (record { long = length-now h history.inside; whole = (suits_now.sectors, image_now.size_is ∙ suits_now.size_is) }) (All-nil (IsLikeDisk h)) };
    epochs = epochs_now;
    image = image_now;
    clear = clear_now;
    each = each_more (λ v. v ≡ new.seen t.source.file.0) (IsVersionOf t.source.image (now h ∷ []) (new.seen t.source.file.0)) (versions new t.source.file.0) version_now each;
  }

  pub node_begins : n.epoch < 2 ^ 64 - 1 → NodeBegins allows (shown t) (Keeps t new) t.source.file.0 id h old new
  node_begins left = record {
    id_is = ap (λ (m : Numbers). m.id) source_is ∙ sym (id_is suits image ready.finds none);
    opening = ready.opening;
    finds = ready.finds;
    entries_are = ready.entries_are;
    allowed = ready.allowed;
    taken = 0;
    given = 0;
    epoch_left = subst (λ (e : ℕ). e < 2 ^ 64 - 1) (sym (epoch_is suits image ready.finds none)) left;
    enough = omega arith;
    nothing_taken = λ is. refl;
    nothing_given = λ is. refl;
    clusters = λ some. absurd (some none);
    header = rewrites;
    head = head_known held_now;
    in_use = in_use image_now;
    directory_is = ap (λ (es : List StoredBitmap). map entry_of es) (sym none);
    keeps_it = record { history = h; disks = now h ∷ []; is = state_is suits image ready.finds none t source_is event_is broken_is; holds = held_now };
  }

-- ---- the whole call

settled_each : (vs : List (List ℕ)) (c : List ℕ) → (vs ≡ []) ⊎ (vs ≡ c ∷ []) → EachVersion (λ v. v ≡ c) vs
settled_each vs c (inl is) = subst (EachVersion (λ v. v ≡ c)) (sym is) tt
settled_each vs c (inr is) = subst (EachVersion (λ v. v ≡ c)) (sym is) (refl, tt)

-- the image was looked at, and its first sector written
pub record Called (n : Numbers) (header : Header) (f : ℕ) (sector : List ℕ) (a b z : World) : Type 0 where
  pub looked : IsLooked n header a.tells (a.seen f)
  pub look : Runs (reads_of f) a b
  pub next : HasNextEpoch header sector
  pub left : n.epoch < 2 ^ 64 - 1
  pub size : length sector ≡ 512
  pub opens : IsTrue a.tells → Opens (a.seen f)
  pub raise : Runs (writes_of f) b z

module _ {n : Numbers} {header : Header} {f : ℕ} {sector : List ℕ} {a b z : World} (call : Called n header f sector a b z) where
  image_of : IsTrue a.tells → IsImageOf n (a.seen f)
  image_of told = call.looked.image told (call.opens told)

  raised_by : IsTrue a.tells → Raises n sector (a.seen f)
  raised_by told = raises n (a.seen f) sector header (image_of told) (call.looked.spelled told (call.opens told)) call.next call.size call.left

  pub long_by : IsTrue a.tells → 512 ≤ length (b.seen f)
  long_by told = subst (λ (c : List ℕ). 512 ≤ length c) (sym ((call.look.files f (λ none. none)).seen)) (raised_by told).long

  pub within : (Gives (file_of b f) (λ c. 512 ≤ length c) → EachSinceSync b z f (OldOrNew sector (file_of b f))) → (Gives (file_of b f) (λ c. 512 ≤ length c) → Gives (file_of z f) (OldOrNew sector (file_of b f)))
      → (d : Directory) (id : List ℕ) (h : History) → IsTrue a.tells → IsHistory h → IsReady (d ∷ []) id h (a.seen f) → OpensWithin f d id h a z
  unfolding file_of
  within crash seen d id h told history ready =
      let im = image_of told in
      let long = long_by told in
      open_writes sector im.suits im.image ((raised_by told).image im.disk im.image) (raised_by told).header history ready call.look call.raise (crash (λ _. long)) (seen (λ _. long) (subst IsTrue (sym (call.raise.goes.tells ∙ call.look.goes.tells)) told))

  no_fault : LoadingIsExact → IsTrue a.tells → (fault : FileFault) → IsSourceFault (a.seen f) fault → ⊥
  no_fault exact told fault is = let spent = (source_fault exact (image_of told).image.source fault is).1 in let left = call.left in omega (arith, spent, left)

  pub was_opened : LoadingIsExact → (t : Toy) → t.source.file.0 ≡ f → t.source.image ≡ raised n → t.event ≡ 0 → t.broken ≡ None → f < a.given → Is (New sector (file_of b f)) (file_of z f) → IsSettled (file_of z f)
      → Opened f (shown t) (Keeps t z) a z
  unfolding file_of
  was_opened exact t file_is source_is event_is broken_is given done settled = record {
    file_is = file_is;
    fresh = record { serial = refl; event = event_is; broken = broken_is; ended = refl; exports = refl; jobs = refl; views = refl; targets = refl; gone = refl; created = refl };
    files = record {
      source = subst (λ (g : ℕ). g < z.given) (sym file_is) (let one = call.look.goes.given in let two = call.raise.goes.given in omega (arith, given, one, two));
      targets = All-nil (λ (x : TargetFile). IsGiven x.file x.name z);
    };
    faultless = no_fault exact;
    begins = λ allows id h disks told found history holds.
        let im = image_of told in
        let on = subst IsTrue (sym (call.raise.goes.tells ∙ call.look.goes.tells)) told in
        subst (λ (g : ℕ). NodeBegins allows (shown t) (Keeps t z) g id h a z) file_is
        (node_begins n t im.disk id sector h allows a b z im.suits
        (subst (λ (g : ℕ). IsImage n im.disk (a.seen g)) (sym file_is) im.image)
        (subst (λ (g : ℕ). IsImage (raised n) im.disk (overlay (a.seen g) 0 sector)) (sym file_is) ((raised_by told).image im.disk im.image))
        (subst (λ (g : ℕ). RewritesHeader (a.seen g) (overlay (a.seen g) 0 sector)) (sym file_is) (raised_by told).header)
        history (subst (λ (g : ℕ). IsReady allows id h (a.seen g)) (sym file_is) (holds.seen told)) source_is event_is broken_is told
        (subst (λ (g : ℕ). IsNamed g a) (sym file_is) (record { below = given; found = found }))
        (subst (λ (g : ℕ). Runs (reads_of g) a b) (sym file_is) call.look) (subst (λ (g : ℕ). Runs (writes_of g) b z) (sym file_is) call.raise)
        (subst (λ (g : ℕ). z.seen g ≡ overlay (b.seen g) 0 sector) (sym file_is) (done.seen on))
        (subst (λ (g : ℕ). EachVersion (λ v. v ≡ z.seen g) (versions z g)) (sym file_is) (settled_each (versions z f) (z.seen f) settled))
        call.left);
  }

-- the last epoch is refused
pub last_epoch : (n : Numbers) (header : Header) (f : ℕ) (a b : World) → IsLooked n header a.tells (a.seen f) → (IsTrue a.tells → Opens (a.seen f))
    → n.epoch ≡ 2 ^ 64 - 1 → Runs (reads_of f) a b → NotOpenedFor unopened.EpochSpent f a b
last_epoch n header f a b looked opens last run = (
  λ told.
      let source = (looked.image told (opens told)).image.source in (
        source.header,
        n.id,
        source.spans_offset,
        source.spans_length,
        source.spelled,
        source.own ∙ ap (λ (e : ℕ). owns.Source n.id e source.spans_offset source.spans_length) last,
      ),
  run.files f (λ none. none),
)

-- why it isn't known what it is
pub unopened_for : (why : NotLooked) (shows : OpenRefusal) (f : ℕ) (a b : World) → IsUnopened shows why
    → (IsTrue a.tells → Opens (a.seen f)) → Runs (reads_of f) a b → NotLookedFor why f a b → NotOpenedFor shows f a b
unopened_for unlooked.Other shows f a b is opens run not = subst (λ (x : OpenRefusal). NotOpenedFor x f a b) (sym is)
    (λ told. absurd (not told (opens told)), run.files f (λ none. none))
unopened_for unlooked.Failed shows f a b is opens run not = subst (λ (x : OpenRefusal). NotOpenedFor x f a b) (sym is) not
unopened_for unlooked.Memory shows f a b is opens run not = subst (λ (x : OpenRefusal). NotOpenedFor x f a b) (sym is) tt
