-- What a write or a zero, and the sync that a FUA adds, do to the file, whatever they answered.
use Rattle.std.proofs.Common.{◌≡◌, ◌⊎◌, inl, inr, ℕ, ◌*◌, ◌^◌, ◌≤◌, List, [], ◌∷◌, ◌++◌, length, Bool, false, ◌&&◌, IsTrue, Option, sym, ap, subst, ◌∙◌, arith}
use Rattle.std.specs.Prelude.{All, Contains, if◌then◌else◌}
use Rattle.std.proofs.lemmas.List.Elements.{All-weaker, Contains-append_left}
use Rattle.disk_model.specs.Files.{overlay, reading}
use Rattle.disk_model.specs.World.{World, Parts, Runs, EachSince}
use Rattle.disk_model.proofs.Laws.{length-reading, since_on, since_more, lead_on}
use Rattle.qc_layout.specs.declared.header.Fields.{Fields}
use Rattle.qc_layout.specs.declared.header.Part.TheVariants as parts
use Rattle.qc_layout.specs.declared.header.Header.{Header}
use Rattle.qc_layout.specs.Disks.{bits_of}
use Rattle.qc_layout.proofs.OneDisk.{one_disk}
use Rattle.bitmap_model.specs.Granules.{granules_in}
use Rattle.image_model.specs.Space.{Store, IsShapedStore, entries_in}
use Rattle.image_model.specs.Images.{IsSourceOf}
use Rattle.plain_model.specs.History.{History, IsHistory, StaysInside, now, timeline_of}
use Rattle.plain_model.specs.Step.{IsTorn}
use Rattle.plain_model.specs.Lawful.{IsOfEpoch}
use Rattle.plain_model.specs.Laws.{IsLikeDisk}
use Rattle.plain_model.proofs.Histories.{length-now}
use Rattle.plain_model.specs.Sound.{IsSound}
use Rattle.core_node.specs.Step.{HasHead}
use Rattle.core_node.specs.Rest.{Mixes, IsSafe}
use Rattle.core_node.specs.Ends.{IsHeadKnown, SaysSame, SaysAgain}
use Rattle.core_node.proofs.Keeping.{head_header}
use Rattle.core_layers.specs.Layers.{Facts, IsMixed, WritesDisk, KeepsHead}
use Rattle.core_layers.proofs.Exports.{mixed_is_safe}
use Rattle.drive_core.specs.Drive.{Drive, machine_of, IsNamed, IsHeld}
use Rattle.drive_core.specs.Settling.{Settles}

-- ---- the size of a cluster stays

bits_stay : (before after : List ℕ) (h g : Header) → h.fields.cluster_bits ≡ bits_of before → g.fields.cluster_bits ≡ bits_of after → SaysSame h g ⊎ SaysAgain h g → bits_of after ≡ bits_of before
bits_stay before after h g was is (inl same) = sym is ∙ ap (λ (f : Fields). f.cluster_bits) same.0 ∙ was
bits_stay before after h g was is (inr again) = sym is ∙ ap (λ (f : Fields). f.cluster_bits) again.0 ∙ was

pub cluster_stays : {file : ℕ} {id disk other : List ℕ} {epoch : ℕ} {a b : Store} {old new : World} → IsTrue old.tells → IsTrue new.tells → IsSourceOf (old.seen file) disk id epoch a → IsSourceOf (new.seen file) other id epoch b
    → IsHeadKnown file old → KeepsHead file a.cluster old new → b.cluster ≡ a.cluster
cluster_stays {file} {a = a} {b = b} {old = old} {new = new} told told_new before after known head =
    let seen : List ℕ = old.seen file in
    let start : List ℕ = reading seen 0 (2 ^ bits_of seen) in
    let long : length start ≡ 2 ^ bits_of seen = length-reading seen 0 (2 ^ bits_of seen) in
    let short : length start ≤ a.cluster = (let is = before.clusters.cluster_is in omega (arith, is, long)) in
    let has : HasHead start (new.seen file) = ((head start short).after (record { seen = λ told. ap (λ (n : ℕ). reading seen 0 n) long; each = known })).seen told_new in
    let same : bits_of (new.seen file) ≡ bits_of seen = bits_stay seen (new.seen file) before.header after.header
    (ap (λ (f : Fields). f.cluster_bits) before.spelled.fields) (ap (λ (f : Fields). f.cluster_bits) after.spelled.fields)
    (head_header seen (new.seen file) has before.header after.header before.spelled after.spelled) in
    after.clusters.cluster_is ∙ ap (λ (n : ℕ). 2 ^ n) same ∙ sym before.clusters.cluster_is

pub kinds_stay : (size : ℕ) (a b : Store) → IsShapedStore size a → IsShapedStore size b → b.cluster ≡ a.cluster → length b.kinds ≡ length a.kinds
kinds_stay size a b old new same = new.kind_count ∙ ap (λ (n : ℕ). granules_in size n) same ∙ sym old.kind_count

pub tables_stay : (size : ℕ) (a b : Store) → IsShapedStore size a → IsShapedStore size b → b.cluster ≡ a.cluster → length b.tables ≡ length a.tables
tables_stay size a b old new same =
    new.table_count ∙ ap (λ (n : ℕ). granules_in (length b.kinds) (entries_in n)) same ∙ ap (λ (n : ℕ). granules_in n (entries_in a.cluster)) (kinds_stay size a b old new same) ∙ sym old.table_count

-- ---- the file

pub record Puts (f : Facts) (cluster at : ℕ) (wanted left : List ℕ) (alone : Bool) (holding : List ℕ → List (List ℕ) → Type 0) (disk : List ℕ) (mixed : List (List ℕ)) (old new : World) : Type 0 where
  pub torn : IsTorn disk at wanted left
  pub since : EachSince new old.now f.file (IsMixed f.id f.directory (mixed ++ overlay disk at left ∷ []))
  pub after : holding (overlay disk at left) (if alone then overlay disk at left ∷ [] else mixed ++ overlay disk at left ∷ [])
  pub head : KeepsHead f.file cluster old new

pub put : {f : Facts} {cluster at : ℕ} {wanted left disk : List ℕ} {mixed : List (List ℕ)} {holding : List ℕ → List (List ℕ) → Type 0} {old new : World}
    → WritesDisk f.file f.id f.directory at wanted left disk mixed holding old new → KeepsHead f.file cluster old new → Puts f cluster at wanted left false holding disk mixed old new
put w head = record { torn = w.torn; since = w.since; after = w.after; head = head }

-- a write, and what a FUA adds
pub settled : {f : Facts} {cluster at event : ℕ} {was is : Option ℕ} {wanted left disk : List ℕ} {mixed : List (List ℕ)} {holds holding : List ℕ → List (List ℕ) → Type 0} {parts others : Parts} {old mid new : World} (asked ok : Bool)
    → Runs parts old mid → Runs others mid new → WritesDisk f.file f.id f.directory at wanted left disk mixed holds old mid → KeepsHead f.file cluster old mid → Settles asked ok f cluster event was is holds holding mid new
    → Puts f cluster at wanted left (asked && ok) holding disk mixed old new
settled {f} {cluster} {at} {left = left} {disk = disk} {mixed = mixed} {old = old} asked ok run on w head s = record {
  torn = w.torn;
  since = since_on old.now f.file _ on w.since (s.since (overlay disk at left) (mixed ++ overlay disk at left ∷ []) w.after);
  after = s.held (overlay disk at left) (mixed ++ overlay disk at left ∷ []) w.after;
  head = λ start short. lead_on run on (head start short) (s.head (overlay disk at left) (mixed ++ overlay disk at left ∷ []) w.after start short);
}

-- a file that is as it was stands for the disk that it stood for
pub same_disk : {file other : List ℕ} {id disk left : List ℕ} {epoch : ℕ} {a b : Store} → other ≡ file → IsSourceOf file disk id epoch a → IsSourceOf other left id epoch b → left ≡ disk
same_disk {file} {id = id} {disk = disk} {left = left} {epoch = epoch} {b = b} same before after =
    one_disk parts.Source file left disk (subst (λ (c : List ℕ). IsSourceOf c left id epoch b) same after).stands before.stands

-- ---- for a history

-- the disks that a crash may mix are like that of the history
pub mixes_by : {size : ℕ} (n : ℕ) (h : History) (mixed : List (List ℕ)) → StaysInside h → (length (now h) ≡ size) × All (λ (other : List ℕ). length other ≡ size) mixed → length (now h) ≡ n * 512 → Contains mixed (now h) → Mixes h mixed
mixes_by {size} n h mixed inside sizes whole among = record {
  among = among;
  alike = All-weaker (λ (other : List ℕ). length other ≡ size) (IsLikeDisk h) (λ other is. record { long = is ∙ sym sizes.0 ∙ length-now h inside; whole = (n, is ∙ sym sizes.0 ∙ whole) }) mixed sizes.1;
}

-- what is known after an event whose calls the image has seen through
pub held_by : {e : Drive} {holding : List ℕ → List (List ℕ) → Type 0} {spaced : Store} {new : World} {freed : ℕ} {next : History} {after : List (List ℕ)} {size : ℕ} (n : ℕ) → IsTrue new.tells → IsNamed e.facts.file new → holding (now next) after
    → (length (now next) ≡ size) × All (λ (other : List ℕ). length other ≡ size) after → length (now next) ≡ n * 512 → Contains after (now next)
    → All (IsOfEpoch e.facts.directory.epoch) (timeline_of next).entries → IsSound (machine_of e spaced freed next) → IsHeld e holding spaced new freed next after
held_by {next = next} {after = after} n told named holds sizes whole among epochs sound = record {
  told = told;
  named = named;
  holds_it = holds;
  sound = sound;
  mixes = mixes_by n next after sound.history_is.inside sizes whole among;
  epochs = epochs;
}

-- each crash within it is safe for the history before it
pub crashes_by : (f : Facts) (h : History) (disks : List (List ℕ)) (other : List ℕ) (from : ℕ) (new : World) → IsHistory h → All (IsOfEpoch f.directory.epoch) (timeline_of h).entries → Contains disks (now h)
    → EachSince new from f.file (IsMixed f.id f.directory (disks ++ other ∷ [])) → EachSince new from f.file (IsSafe (f.directory ∷ []) f.id h (disks ++ other ∷ []))
crashes_by f h disks other from new history epochs among since =
    since_more new from f.file (IsMixed f.id f.directory (disks ++ other ∷ [])) (IsSafe (f.directory ∷ []) f.id h (disks ++ other ∷ []))
    (λ c m. mixed_is_safe history epochs (Contains-append_left disks (other ∷ []) (now h) among) m) since
