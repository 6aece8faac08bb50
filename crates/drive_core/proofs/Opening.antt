-- An opening.
use Rattle.std.proofs.Common.{◌≡◌, ℕ, ◌+◌, ◌-◌, ◌*◌, ◌/◌, ◌%◌, ◌<◌, List, [], ◌∷◌, length, map, IsTrue, None, false, refl, sym, ap, subst, ◌∙◌, arith, rules}
use Rattle.std.proofs.lemmas.Grind.{common_steps}
use Rattle.std.specs.Prelude.{All}
use Rattle.std.proofs.lemmas.List.Elements.{All-nil, All-cons, All-weaker}
use Rattle.disk_model.specs.World.{World, EachSinceSync, IsGiven}
use Rattle.bitmap_model.specs.Bitmap.{restored}
use Rattle.bitmap_model.specs.Bitmaps.{IsShapedEntry}
use Rattle.qc_layout.specs.declared.header.Fields.{Fields}
use Rattle.qc_layout.specs.declared.header.Part.{Part}
use Rattle.qc_layout.specs.declared.header.Part.TheVariants as parts
use Rattle.qc_layout.specs.Directory.{directory_in}
use Rattle.qc_layout.specs.Header.{fields_of, number_fault}
use Rattle.qc_layout.proofs.Directories.{stores_nothing}
use Rattle.image_model.specs.Images.{IsSourceOf}
use Rattle.image_model.specs.Space.{Store, IsShapedStore}
use Rattle.image_model.specs.Refusals.{FileFault, IsSourceFault}
use Rattle.plain_model.specs.History.{History, IsHistory, now, timeline_of}
use Rattle.plain_model.specs.Lawful.{IsOfEpoch}
use Rattle.plain_model.specs.Laws.{IsLikeDisk}
use Rattle.plain_model.specs.Machine.{opened}
use Rattle.plain_model.specs.Sound.{IsSound}
use Rattle.plain_model.proofs.Histories.{length-now}
use Rattle.plain_model.proofs.Opening.{opening_sound}
use Rattle.core_node.specs.Standing.{TargetFile}
use Rattle.core_node.specs.Rest.{Directory, directory_of, unused, IsReady}
use Rattle.core_node.specs.Ends.{Opened, OpensWithin, NodeBegins, entry_of}
use Rattle.core_layers.specs.Layers.{IsInOrder, IsFound, KeepsOrMarks}
use Rattle.core_layers.specs.Layers as layers
use Rattle.core_layers.proofs.Exports.{found_opens, only_one}
use Rattle.drive_core.specs.Drive.{Drive, shown_of, machine_of, IsHeld, IsNamed, Keeps}

-- ---- an image that is ready is in order

size_whole : (part : Part) (length : ℕ) (h : Fields) → number_fault part length h ≡ None → h.size % 512 ≡ 0
size_whole part length h none = grind (arith, common_steps)

whole_sectors : {file disk id : List ℕ} {epoch : ℕ} {store : Store} (is : IsSourceOf file disk id epoch store) → length disk ≡ length disk / 512 * 512
whole_sectors {file} {disk} is =
    let whole : length disk % 512 ≡ 0 = ap (λ (n : ℕ). n % 512) is.stands.size ∙ size_whole parts.Source (length file) (fields_of file) is.stands.passes.numbers in
    omega (arith, whole)

pub ready_in_order : {allows : List Directory} {id file : List ℕ} {h : History} → IsHistory h → (r : IsReady allows id h file) → IsInOrder id (directory_of r.opening) (now h) file
ready_in_order {h = h} history r =
    let long = length-now h history.inside in
    let law = r.finds.lawful in
    record {
      store = r.opening.store;
      source = r.finds.source;
      room = r.finds.room;
      sectors = length (now h) / 512;
      whole = whole_sectors r.finds.source;
      entries_are = sym r.entries_are;
      shape = record { shapes = subst (λ (n : ℕ). All (IsShapedEntry n) r.opening.entries) (sym long) law.shapes; apart = law.apart; few = law.few };
      store_shape = subst (λ (n : ℕ). IsShapedStore n r.opening.store) (sym long) law.store_shape;
    }

-- what holds of an opening for each image in order, for one that is ready
pub opens_within : (f : ℕ) (d : Directory) (id : List ℕ) (h : History) (old new : World) → IsHistory h → IsReady (d ∷ []) id h (old.seen f)
    → (IsInOrder id d (now h) (old.seen f) → EachSinceSync old new f (λ c. IsFound id d (now h) c × KeepsOrMarks (old.seen f) d c))
    → (IsInOrder id d (now h) (old.seen f) → IsFound id d (now h) (new.seen f) × KeepsOrMarks (old.seen f) d (new.seen f)) → OpensWithin f d id h old new
opens_within f d id h old new history ready since seen =
    let order : IsInOrder id d (now h) (old.seen f) = subst (λ (x : Directory). IsInOrder id x (now h) (old.seen f)) (only_one ready.allowed) (ready_in_order history ready) in
    let read = seen order in
    found_opens f old new history ready (since order) read.0 read.1

-- ---- the session begins

module _ (d : Drive) (holds : World → List ℕ → List (List ℕ) → Type 0) (space : World → Store) (f : ℕ) (old new : World) (file_is : d.facts.file ≡ f) (event_is : d.event ≡ 0) (broken_is : d.broken ≡ None) (ended_is : d.ended ≡ false) where
  module _ {allows : List Directory} {id : List ℕ} {h : History} (history : IsHistory h) (told : IsTrue new.tells) (named : IsNamed f new) (bare : directory_in (old.seen f) ≡ None) (ready : IsReady allows id h (old.seen f))
      (o : layers.Opens id (directory_of ready.opening) (now h) f d.facts (space new) (holds new) old new) where
    none : ready.opening.entries ≡ []
    none = ready.entries_are ∙ (stores_nothing (old.seen f) bare).stored

    store_is : record ready.opening.store { room = ready.opening.store.room - 0 } ≡ space new
    store_is = (let same : ready.opening.store.room - 0 ≡ ready.opening.store.room = omega arith in ap (λ (room : ℕ). record ready.opening.store { room = room }) same)
        ∙ sym (o.space_is ready.opening.store ready.finds.source.clusters ready.finds.room)

    machine_is : opened h (record ready.opening { taken = 0; given = 0 }) ≡ machine_of d (space new) 0 h
    unfolding opened
    machine_is = λ i. record {
      history = h;
      epoch = (sym o.directory_is i).epoch;
      serial = 0;
      event = sym event_is i;
      bitmaps = map restored (none i);
      jobs = [];
      views = [];
      gone = [];
      created = [];
      exports = [];
      broken = sym broken_is i;
      store = store_is i;
      freed = 0;
      ended = sym ended_is i;
    }

    held : IsHeld d (holds new) (space new) new 0 h (now h ∷ [])
    held = record {
      told = told;
      named = subst (λ (g : ℕ). IsNamed g new) (sym file_is) named;
      holds_it = o.holds_it;
      sound = subst IsSound machine_is (opening_sound h (record ready.opening { taken = 0; given = 0 }) history (record {
        shapes = ready.finds.lawful.shapes;
        apart = ready.finds.lawful.apart;
        few = ready.finds.lawful.few;
        truths = ready.finds.lawful.truths;
        epochs = ready.finds.lawful.epochs;
        store_shape = ready.finds.lawful.store_shape;
      }));
      mixes = record { among = (0, omega arith, refl); alike = All-cons (IsLikeDisk h) (now h) [] (record { long = length-now h history.inside; whole = (length (now h) / 512, whole_sectors ready.finds.source) }) (All-nil (IsLikeDisk h)) };
      epochs = subst (λ (x : Directory). All (IsOfEpoch x.epoch) (timeline_of h).entries) (sym o.directory_is)
          (All-weaker (IsOfEpoch ready.opening.epoch) (IsOfEpoch (ready.opening.epoch + 1)) (λ e is. search rules) (timeline_of h).entries ready.finds.lawful.epochs);
    }

    pub node_begins : NodeBegins allows (shown_of d) (Keeps d holds space new) f id h old new
    node_begins = record {
      id_is = o.id_is;
      opening = ready.opening;
      finds = ready.finds;
      entries_are = ready.entries_are;
      allowed = ready.allowed;
      taken = 0;
      given = 0;
      epoch_left = o.epoch_left;
      enough = omega arith;
      nothing_taken = λ is. refl;
      nothing_given = λ is. refl;
      clusters = λ some. absurd (some none);
      header = o.header;
      head = o.head;
      in_use = o.in_use;
      directory_is = ap (λ es. map entry_of es) (sym none);
      keeps_it = record {
        history = h;
        disks = now h ∷ [];
        freed = 0;
        is = λ i. record { machine = machine_is i; disks = now h ∷ []; entries = map unused (none i) };
        held = held;
      };
    }

  pub was_opened : f < new.given → new.tells ≡ old.tells → (IsNamed f old → IsNamed f new) → f < old.given → (IsTrue old.tells → directory_in (old.seen f) ≡ None)
      → (IsTrue old.tells → (fault : FileFault) → IsSourceFault (old.seen f) fault → ⊥)
      → ((id : List ℕ) (x : Directory) (disk : List ℕ) → IsTrue old.tells → IsInOrder id x disk (old.seen f) → layers.Opens id x disk f d.facts (space new) (holds new) old new)
      → Opened f (shown_of d) (Keeps d holds space new) old new
  was_opened given tells stays below bare faultless opens = record {
    file_is = file_is;
    fresh = record { serial = refl; event = event_is; broken = broken_is; ended = ended_is; exports = refl; jobs = refl; views = refl; targets = refl; gone = refl; created = refl };
    files = record { source = subst (λ (g : ℕ). g < new.given) (sym file_is) given; targets = All-nil (λ (x : TargetFile). IsGiven x.file x.name new) };
    faultless = faultless;
    begins = λ allows id h disks told found history holds_old.
        let ready = holds_old.seen told in
        node_begins history (subst IsTrue (sym tells) told) (stays (record { below = below; found = found })) (bare told) ready
        (opens id (directory_of ready.opening) (now h) told (ready_in_order history ready));
  }
