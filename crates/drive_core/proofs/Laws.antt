-- The laws of what it knows, over what the laws of an image say of it.
use Rattle.std.proofs.Common.{◌≡◌, ℕ, List, [], ◌∷◌, length, IsTrue, Some, refl, sym, ap, ◌∙◌, subst, arith}
use Rattle.std.specs.Prelude.{All}
use Rattle.std.proofs.lemmas.List.Elements.{All-nil}
use Rattle.disk_model.specs.World.{World, Parts, Runs, Holds, IsSpared}
use Rattle.disk_model.proofs.Moments.{now_more}
use Rattle.bitmap_model.specs.Bitmap.{StoredBitmap}
use Rattle.image_model.specs.Images.{IsSourceOf}
use Rattle.image_model.specs.Space.{Store, IsShapedStore}
use Rattle.plain_model.specs.History.{History, now}
use Rattle.plain_model.specs.Jobs.{Job}
use Rattle.plain_model.specs.Sound.{IsSound}
use Rattle.plain_model.proofs.Histories.{length-now}
use Rattle.core_node.specs.Standing.{TargetFile, StandsFor, TargetStands, HasEntry, Spares}
use Rattle.core_node.specs.Rest.{Directory, State, Mixes, IsReady, IsSafe, in_session}
use Rattle.core_layers.specs.Layers.{Facts, IsInOrder, NoneTrusted, IsMixed}
use Rattle.core_layers.proofs.Exports.{mixed_is_safe, reads_ready}
use Rattle.drive_core.specs.Drive.{Drive, shown_of, machine_of, state_of, IsHeld, Keeps, IsNamed}

-- what an image knows of its file, and the clusters that it has
abbrev pub Knows : Type 1
Knows = World → List ℕ → List (List ℕ) → Type 0

-- ---- the laws of an image, at these facts

abbrev pub InOrder : Facts → Knows → Type 0
InOrder facts holds = (w : World) (disk : List ℕ) (mixed : List (List ℕ)) → holds w disk mixed
    → Holds facts.file (λ c. IsInOrder facts.id facts.directory disk c × NoneTrusted facts.directory) (IsMixed facts.id facts.directory mixed) w

abbrev pub HasSpace : Facts → ℕ → Knows → (World → Store) → Type 0
HasSpace facts room holds space = (w : World) (disk : List ℕ) (mixed : List (List ℕ)) → IsTrue w.tells → holds w disk mixed
    → IsSourceOf (w.seen facts.file) disk facts.id facts.directory.epoch (space w) × IsShapedStore facts.size (space w) × ((space w).room ≡ room)

abbrev pub HasSizes : Facts → Knows → Type 0
HasSizes facts holds = (w : World) (disk : List ℕ) (mixed : List (List ℕ)) → holds w disk mixed → (length disk ≡ facts.size) × All (λ (other : List ℕ). length other ≡ facts.size) mixed

abbrev pub IsBare : Facts → Knows → Type 0
IsBare facts holds = (w : World) (disk : List ℕ) (mixed : List (List ℕ)) → holds w disk mixed → facts.directory.entries ≡ []

-- the directory of a session on an image that stores no bitmaps
abbrev pub bare_directory : Drive → Directory
bare_directory d = record { epoch = d.facts.directory.epoch; entries = [] }

pub named_on : {parts : Parts} {a b : World} (f : ℕ) → Runs parts a b → (parts.names (a.named f) → ⊥) → IsNamed f a → IsNamed f b
named_on {parts} {a} {b} f run none is = record {
  below = (let more = run.goes.given in let below = is.below in omega arith);
  found = ap (λ (name : List ℕ). b.found name) (run.goes.named f is.below) ∙ run.found (a.named f) none ∙ is.found;
}

-- the session's directory is the image's
pub bare_is : (d : Drive) {holds : Knows} → IsBare d.facts holds → {w : World} {disk : List ℕ} {mixed : List (List ℕ)} → holds w disk mixed → d.facts.directory ≡ bare_directory d
bare_is d bare {w} {disk} {mixed} holds_it = ap (λ (es : List StoredBitmap). record { epoch = d.facts.directory.epoch; entries = es }) (bare w disk mixed holds_it)

pub held_safe : {d : Drive} {holds : Knows} → InOrder d.facts holds → IsBare d.facts holds → {w : World} {store : Store} {freed : ℕ} {h : History} {disks : List (List ℕ)} → IsHeld d (holds w) store w freed h disks
    → Holds d.facts.file (IsReady (bare_directory d ∷ []) d.facts.id h) (IsSafe (bare_directory d ∷ []) d.facts.id h disks) w
held_safe {d} in_order bare {w} {freed = freed} {h = h} {disks = disks} k =
    let o = in_order w (now h) disks k.holds_it in
    subst (λ (x : Directory). Holds d.facts.file (IsReady (x ∷ []) d.facts.id h) (IsSafe (x ∷ []) d.facts.id h disks) w) (bare_is d bare k.holds_it) (record {
      seen = λ told. reads_ready k.sound.history_is k.epochs (o.seen told);
      each = now_more w d.facts.file (IsMixed d.facts.id d.facts.directory disks) _ (λ c m. mixed_is_safe k.sound.history_is k.epochs k.mixes.among m) o.each;
    })

module _ {d : Drive} {holds : World → List ℕ → List (List ℕ) → Type 0} {space : World → Store} where
  pub at_state : {w : World} (P : State → Type 0) → ((h : History) (disks : List (List ℕ)) (freed : ℕ) → IsHeld d (holds w) (space w) w freed h disks → P (state_of d (space w) freed h disks))
      → (s : State) → Keeps d holds space w s → P s
  at_state P p s k = subst P (sym k.is) (p k.history k.disks k.freed k.held)

  pub stands : HasSpace d.facts d.room holds space → HasSizes d.facts holds → (w : World) (s : State) → Keeps d holds space w s → StandsFor (shown_of d) w s.machine
  stands has_space sizes w = at_state (λ s. StandsFor (shown_of d) w s.machine) (λ h disks freed k.
      let has = has_space w (now h) disks k.told k.holds_it in
      record {
        sound = k.sound;
        numbers = record { size_is = sym (sizes w (now h) disks k.holds_it).0 ∙ length-now h k.sound.history_is.inside; epoch_is = refl; serial_is = refl; event_is = refl; broken_is = refl; ended_is = refl };
        bitmaps = record { bitmaps_are = refl; exports_are = refl };
        jobs = record { jobs_are = refl; views_are = refl; targets_are = refl; gone_are = refl; created_is = refl };
        space = record { room_is = sym has.2 };
        entries = All-nil (HasEntry []);
        found = λ told. (k.named.found, All-nil (λ (x : TargetFile). w.found x.name ≡ Some x.file));
        source = λ told. has.0;
        targets = λ told. All-nil (λ (j : Job). TargetStands w (machine_of d (space w) freed h) j (w.found j.target));
      })

  pub safe : InOrder d.facts holds → IsBare d.facts holds → (w : World) (s : State) → Keeps d holds space w s
      → Holds (shown_of d).file (IsReady (in_session s) (shown_of d).id s.machine.history) (IsSafe (in_session s) (shown_of d).id s.machine.history s.disks) w
  safe in_order bare w = at_state (λ s. Holds d.facts.file (IsReady (in_session s) d.facts.id s.machine.history) (IsSafe (in_session s) d.facts.id s.machine.history s.disks) w)
      (λ h disks freed k. held_safe in_order bare k)

  pub mixes : (w : World) (s : State) → Keeps d holds space w s → Mixes s.machine.history s.disks
  mixes w = at_state (λ s. Mixes s.machine.history s.disks) (λ h disks freed k. k.mixes)

  pub spared : ((old new : World) (disk : List ℕ) (mixed : List (List ℕ)) → IsSpared old new d.facts.file → holds old disk mixed → holds new disk mixed)
      → ((old new : World) → new.seen d.facts.file ≡ old.seen d.facts.file → space new ≡ space old)
      → (old new : World) (s : State) → Spares (shown_of d) old new → Keeps d holds space old s → Keeps d holds space new s
  spared spare same old new s spares k =
      let clusters = same old new spares.source.seen in
      record {
        history = k.history;
        disks = k.disks;
        freed = k.freed;
        is = subst (λ (x : Store). s ≡ state_of d x k.freed k.history k.disks) (sym clusters) k.is;
        held = record {
          told = subst IsTrue (sym spares.source.tells) k.held.told;
          named = record {
            below = (let low = k.held.named.below in let more = spares.source.given in omega arith);
            found = ap (λ (name : List ℕ). new.found name) spares.source_named ∙ spares.source_found ∙ k.held.named.found;
          };
          holds_it = spare old new (now k.history) k.disks spares.source k.held.holds_it;
          sound = subst (λ (x : Store). IsSound (machine_of d x k.freed k.history)) (sym clusters) k.held.sound;
          mixes = k.held.mixes;
          epochs = k.held.epochs;
        };
      }
