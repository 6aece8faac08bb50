-- What is known of a source says that its file is in order.
use Rattle.std.proofs.Common.{◌≡◌, inl, inr, ℕ, zero, suc, ◌+◌, ◌*◌, ◌<◌, ◌≤◌, List, [], ◌∷◌, ◌++◌, length, map, IsTrue, None, refl, sym, ap, ◌∙◌, subst, arith}
use Rattle.std.specs.Prelude.{All, Contains}
use Rattle.std.proofs.lemmas.List.Elements.{All-head, All-tail, All-map, All-weaker, All-contains_itself, Contains-append_left}
use Rattle.disk_model.specs.Files.{byte, IsOutcome, SomeVersion}
use Rattle.disk_model.specs.World.{World, versions, Holds, IsSpared}
use Rattle.disk_model.proofs.Laws.{some_more}
use Rattle.qc_layout.specs.declared.header.Part.TheVariants as parts
use Rattle.image_model.specs.Clusters.{Shape, Block, Of, IsBlock, IsGood, IsSafe, Standing, IsStanding}
use Rattle.image_model.specs.Disks.{disk_of, IsMixedOf}
use Rattle.image_steps.proofs.Disk.{length-disk_of, disk_mixed}
use Rattle.image_steps.proofs.Good.{safe}
use Rattle.qc_alloc.specs.Allocator.{IsKnown, HasTable}
use Rattle.qc_map.specs.Mapping.{IsMapOf}
use Rattle.image_store.specs.Images.{Image, file_of, IsInOrder, IsMixture, IsHeaded, Stands}
use Rattle.image_store.proofs.Orders.{base_passes, safe_in_order}

-- ---- disks that may be mixed

some_at : (P : List ℕ → Type 0) (xs : List (List ℕ)) (x : List ℕ) → Contains xs x → P x → SomeVersion P xs
some_at P [] x (k, below, is) has = absurd (omega (arith, below))
some_at P (v ∷ vs) x (zero, below, is) has = inl (subst P (sym is) has)
some_at P (v ∷ vs) x (suc k, below, is) has = inr (some_at P vs x (k, omega (arith, below), is) has)

-- sector x is the same in two disks of n bytes
abbrev AgreeAt : ℕ → ℕ → List ℕ → List ℕ → Type 0
AgreeAt n x disk other = (b : ℕ) → 512 * x ≤ b → b < 512 * x + 512 → b < n → byte disk b ≡ byte other b

some_among : (n x : ℕ) (others : List (List ℕ)) (disk : List ℕ) (mixed : List (List ℕ)) → 512 * x < n → All (IsMixedOf n others) mixed → SomeVersion (AgreeAt n x disk) mixed → SomeVersion (AgreeAt n x disk) others
some_among n x others disk [] inside each none = absurd none
some_among n x others disk (v ∷ vs) inside each (inl here) =
    some_more (AgreeAt n x v) (AgreeAt n x disk) others (λ other same b low high below. here b low high below ∙ same b low high below) (All-head (IsMixedOf n others) v vs each x inside)
some_among n x others disk (v ∷ vs) inside each (inr there) = some_among n x others disk vs inside (All-tail (IsMixedOf n others) v vs each) there

-- what is mixed of disks that are mixed of others is mixed of these
pub mixed_on : (n : ℕ) (mixed others : List (List ℕ)) (disk : List ℕ) → All (IsMixedOf n others) mixed → IsMixedOf n mixed disk → IsMixedOf n others disk
mixed_on n mixed others disk each kept x inside = some_among n x others disk mixed inside each (kept x inside)

-- and each of them is
pub mixed_one : (n : ℕ) (mixed : List (List ℕ)) (disk : List ℕ) → Contains mixed disk → IsMixedOf n mixed disk
mixed_one n mixed disk among x inside = some_at (AgreeAt n x disk) mixed disk among (λ b low high below. refl)

-- nor does one disk more undo it
pub mixed_on_more : (n : ℕ) (mixed : List (List ℕ)) (other disk : List ℕ) → IsMixedOf n mixed disk → IsMixedOf n (mixed ++ other ∷ []) disk
mixed_on_more n mixed other disk kept =
    mixed_on n mixed (mixed ++ other ∷ []) disk
    (All-weaker (Contains mixed) (IsMixedOf n (mixed ++ other ∷ [])) (λ d among. mixed_one n (mixed ++ other ∷ []) d (Contains-append_left mixed (other ∷ []) d among)) mixed (All-contains_itself mixed)) kept

-- ---- files

-- the shape is that of the source's header
pub record IsOfImage (i : Image) (s : Shape) : Type 0 where
  pub is_map : IsMapOf s i.map
  pub owner : (k : ℕ) → s.owner k ≡ None
  pub headed : IsHeaded i s.base

pub of_image : {i : Image} {disk : List ℕ} {mixed : List (List ℕ)} {w : World} (is : Stands i disk mixed w) → IsOfImage i is.shape
of_image is = record { is_map = is.is_map; owner = is.owner; headed = is.headed }

-- versions are of disks that may be mixed
abbrev pub AreMixed : Image → Shape → List (List ℕ) → List (List ℕ) → Type 0
AreMixed i s mixed versions = All (λ version. IsMixedOf i.map.size mixed (disk_of s i.map.size version)) versions

pub source_of : (i : Image) (s : Shape) (disks : List (List ℕ)) (c : List ℕ) → IsOfImage i s → IsSafe s disks c → IsInOrder i.id i.epoch (disk_of s i.map.size c) c
source_of i s disks c of safe =
    let h = of.headed in
    subst (λ (n : ℕ). IsInOrder i.id i.epoch (disk_of s n c) c) h.disk
    (safe_in_order s disks c h.header of.is_map.shape of.owner h.is h.bare safe i.id i.epoch 0 0 h.own)

pub mixture_of : (i : Image) (s : Shape) (versions mixed : List (List ℕ)) (c : List ℕ) → IsOfImage i s → AreMixed i s mixed versions → All (λ other. length other ≡ i.map.size) mixed → IsSafe s versions c
    → IsMixture i.id i.epoch mixed c
mixture_of i s versions mixed c of mixes sizes safe =
    let h = of.headed in
    let d = disk_of s i.map.size c in
    let long : length d ≡ i.map.size = length-disk_of s i.map.size c in
    let kept : IsMixedOf i.map.size (map (disk_of s i.map.size) versions) d =
    subst (λ (n : ℕ). IsMixedOf n (map (disk_of s n) versions) (disk_of s n c)) h.disk
    (disk_mixed s versions c parts.Source of.is_map.shape (base_passes s versions c h.header of.is_map.shape of.owner h.is h.bare safe) safe) in
    record {
      disk = d;
      long = λ k d below. sizes k d below ∙ sym long;
      kept = subst (λ (n : ℕ). IsMixedOf n mixed d) (sym long) (mixed_on i.map.size (map (disk_of s i.map.size) versions) mixed d (All-map (IsMixedOf i.map.size mixed) (disk_of s i.map.size) versions mixes) kept);
      in_order = source_of i s versions c of safe;
    }

-- ---- worlds

pub standing_is_in_order : (i : Image) (disk : List ℕ) (mixed : List (List ℕ)) (w : World) → Stands i disk mixed w
    → Holds (file_of i) (IsInOrder i.id i.epoch disk) (IsMixture i.id i.epoch mixed) w
standing_is_in_order i disk mixed w is =
    let s = is.shape in
    let stands = subst (λ (f : ℕ). IsStanding s is.versions is.image.0 i.clusters.pool.prepared f w) is.file is.image.2.stands in
    record {
      seen = λ told. subst (λ (d : List ℕ). IsInOrder i.id i.epoch d (w.seen i.map.file)) (is.disk_is told)
          (let st = stands told in source_of i s is.versions (w.seen i.map.file) (of_image is) (safe s st.role is.versions (w.seen i.map.file) st.seen));
      each = λ c left.
          let st = stands (is.told c left) in
          mixture_of i s is.versions mixed c (of_image is) is.mixes is.sizes (safe s st.role is.versions c (st.now c left));
    }

pub standing_is_spared : (i : Image) (disk : List ℕ) (mixed : List (List ℕ)) (old new : World) → IsSpared old new (file_of i) → Stands i disk mixed old → Stands i disk mixed new
standing_is_spared i disk mixed old new spares is =
    let f = i.map.file in
    let s = is.shape in
    let back : IsTrue new.tells → IsTrue old.tells = subst IsTrue spares.tells in
    let left : (c : List ℕ) → IsOutcome (versions new f) c → IsOutcome (versions old f) c = λ c at. subst (λ (vs : List (List ℕ)). IsOutcome vs c) spares.versions at in
    let al = is.image.2 in
    record {
      shape = s;
      versions = is.versions;
      told = λ c at. subst IsTrue (sym spares.tells) (is.told c (left c at));
      file = is.file;
      is_map = is.is_map;
      owner = is.owner;
      headed = is.headed;
      image = (
        is.image.0,
        is.image.1,
        record {
          is = al.is;
          stands = subst (λ (g : ℕ). IsStanding s is.versions is.image.0 i.clusters.pool.prepared g new) (sym is.file) (λ told.
              let st = subst (λ (g : ℕ). Standing s is.versions is.image.0 i.clusters.pool.prepared g old) is.file (al.stands (back told)) in
              record {
                role = st.role;
                order = st.order;
                ready = st.ready;
                edge = st.edge;
                fresh = st.fresh;
                one = st.one;
                linked = subst (λ (c : List ℕ). (j k : ℕ) → st.role k ≡ Of (Block j) → k < i.clusters.pool.prepared → IsBlock s c j k) (sym spares.seen) st.linked;
                seen = subst (IsGood s st.role is.versions) (sym spares.seen) st.seen;
                now = λ c at. st.now c (left c at);
              });
          table = λ told. subst (HasTable s i.clusters) (sym (ap new.seen is.file ∙ spares.seen ∙ sym (ap old.seen is.file))) (al.table (back told));
        },
      );
      known = λ whole told. subst (IsKnown s i.clusters) (sym spares.seen) (is.known whole (back told));
      long = is.long;
      sizes = is.sizes;
      among = is.among;
      mixes = is.mixes;
      disk_is = λ told. subst (λ (c : List ℕ). disk_of s i.map.size c ≡ disk) (sym spares.seen) (is.disk_is (back told));
    }

pub standing_is_mixed_of_others : (i : Image) (disk : List ℕ) (mixed others : List (List ℕ)) (w : World) → All (IsMixedOf (length disk) others) mixed → Contains others disk → All (λ other. length other ≡ length disk) others
    → Stands i disk mixed w → Stands i disk others w
standing_is_mixed_of_others i disk mixed others w each among sizes is =
    let each_on : All (IsMixedOf i.map.size others) mixed = subst (λ (n : ℕ). All (IsMixedOf n others) mixed) is.long each in
    record {
      shape = is.shape;
      versions = is.versions;
      told = is.told;
      file = is.file;
      is_map = is.is_map;
      owner = is.owner;
      headed = is.headed;
      image = is.image;
      known = is.known;
      long = is.long;
      sizes = subst (λ (n : ℕ). All (λ other. length other ≡ n) others) is.long sizes;
      among = among;
      mixes = All-weaker (λ version. IsMixedOf i.map.size mixed (disk_of is.shape i.map.size version)) (λ version. IsMixedOf i.map.size others (disk_of is.shape i.map.size version))
          (λ version kept. mixed_on i.map.size mixed others (disk_of is.shape i.map.size version) each_on kept) is.versions is.mixes;
      disk_is = is.disk_is;
    }
