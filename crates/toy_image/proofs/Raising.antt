-- The next epoch.
use Rattle.std.proofs.Common.{◌≡◌, ℕ, ◌+◌, ◌-◌, ◌/◌, ◌%◌, ◌^◌, ◌<◌, ◌≤◌, List, length, None, Ok, Result, refl, rules, sym, ap, subst, ◌∙◌, arith}
use Rattle.std.proofs.Math.Nat.{le-max_left, le_trans}
use Rattle.disk_model.specs.Files.{byte, reading, overlay}
use Rattle.disk_model.proofs.Laws.{length-overlay_inside, byte-overlay_above, reading-overlay_same}
use Rattle.qc_layout.specs.declared.header.Fields.{Fields}
use Rattle.qc_layout.specs.declared.header.Header.{Header}
use Rattle.qc_layout.specs.declared.header.Own.{Own}
use Rattle.qc_layout.specs.declared.header.Own.TheVariants as owns
use Rattle.qc_layout.specs.declared.header.Part.TheVariants as parts
use Rattle.qc_layout.specs.declared.entry.EntryFault.{EntryFault}
use Rattle.qc_layout.specs.declared.entry.L2Entry.{L2Entry}
use Rattle.qc_layout.specs.declared.entry.L2Entry.TheVariants as entries
use Rattle.qc_layout.specs.Extensions.{list_end, own_in, own_kind, first_of_kind}
use Rattle.qc_layout.specs.Header.{fields_of}
use Rattle.qc_layout.specs.Spelling.{Spells, Fits, IsOwnOf, IsSmall, IsWritable, sector_of}
use Rattle.qc_layout.specs.Disks.{ReadsAs, entry_at, bits_of}
use Rattle.qc_layout.proofs.HeaderLaws.{one_in}
use Rattle.qc_layout.proofs.Written.{writable_spelled, changed_writable, spelled_own, writable_fits}
use Rattle.qc_layout.specs.Directory.{directory_in}
use Rattle.qc_layout.proofs.Directories.{finds_as_spelled}
use Rattle.core_node.specs.Ends.{SaysAgain}
use Rattle.core_node.proofs.Sources.{bare_passes, one_said}
use Rattle.toy_image.specs.declared.numbers.Numbers.{Numbers}
use Rattle.toy_image.specs.Images.{store_of, IsImage, IsImageOf, raised, Raises, HasNextEpoch, SpellsNext, cleared}
use Rattle.toy_image.proofs.Alike.{IsSameForm, same_form}
use Rattle.toy_image.proofs.Free.{linear_in}

-- ---- a header with another epoch

-- another epoch is as well
own_again : (id : List ℕ) (epoch next offset long : ℕ) (own : Own) → own ≡ owns.Source id epoch offset long → IsOwnOf parts.Source own → IsOwnOf parts.Source (owns.Source id next offset long)
own_again id epoch next offset long own is of = subst (IsOwnOf parts.Source) is of

-- and so without autoclear bits
cleared_writable : (h : Header) → IsSmall (record h { fields = cleared h.fields }) → IsWritable parts.Source h
    → IsWritable parts.Source (record h { fields = cleared h.fields })
cleared_writable h small w = record {
  small = small;
  numbers = w.numbers;
  tail = w.tail;
  blocks = w.blocks;
  unknown = w.unknown;
  kept = w.kept;
  room = w.room;
  bitmaps = w.bitmaps;
  autoclear = refl;
  own = w.own;
}

-- numbers of a cleared header are small where those of the header are
small_cleared : (h : Header) → IsSmall (record h { fields = cleared h.fields }) → h.fields.autoclear_features < 2 ^ 64 → IsSmall h
small_cleared h small low = search rules

module _ (header : Header) (file written id : List ℕ) (epoch offset long : ℕ) where
  abbrev later : Header
  later = record header { own = owns.Source id (epoch + 1) offset long }

  abbrev pub next : Header
  next = record later { fields = cleared header.fields }

  pub next_spelled : IsSmall next → header.fields.autoclear_features < 2 ^ 64 → Spells parts.Source file header
      → header.own ≡ owns.Source id epoch offset long → 512 ≤ length written → (Fits next → reading written 0 512 ≡ sector_of next)
      → SpellsNext header id epoch offset long written
  next_spelled small low spelled own size read =
      let writable = cleared_writable later small (changed_writable parts.Source header (owns.Source id (epoch + 1) offset long) file (small_cleared later small low)
      (own_again id epoch (epoch + 1) offset long header.own own (spelled_own parts.Source header file spelled)) spelled) in
      let fits = writable_fits next writable in
      record {
        next = next;
        spelled = writable_spelled parts.Source next written writable (record { fits = fits; long = size; sector = read fits });
        fields = refl;
        kept = refl;
        bitmaps = refl;
        own = refl;
      }

-- ---- an image under it

-- two headers that a file spells have one extension of this project's own
pub one_own : (file : List ℕ) (h g : Header) → Spells parts.Source file h → Spells parts.Source file g → h.own ≡ g.own
one_own file h g x y = x.own ∙ ap (λ es. own_in file (first_of_kind own_kind es)) (one_in file x.extensions y.extensions x.listed y.listed) ∙ sym y.own

module _ (n : Numbers) (disk file sector : List ℕ) (image : IsImage n disk file) (size : length sector ≡ 512) (offset long : ℕ) (header : Header) (spelled : Spells parts.Source file header)
    (is : SpellsNext header n.id n.epoch offset long (overlay file 0 sector)) where
  abbrev other : List ℕ
  other = overlay file 0 sector

  past : 512 ≤ n.base
  past = le_trans (le-max_left 512 (list_end (fields_of file).cluster_bits)) image.front.head

  fields : fields_of other ≡ cleared (fields_of file)
  fields = sym is.spelled.fields ∙ is.fields ∙ ap cleared spelled.fields

  same_long : length other ≡ length file
  same_long = let inside = image.inside in length-overlay_inside file 0 sector (omega (arith, size, past, inside))

  same : (i : ℕ) → 512 ≤ i → byte other i ≡ byte file i
  same i low = byte-overlay_above file 0 sector i (omega (arith, size, low))

  bits : bits_of other ≡ bits_of file
  bits = ap (λ (f : Fields). f.cluster_bits) fields

  bare : directory_in other ≡ None
  bare = (finds_as_spelled parts.Source other is.next is.spelled).directory ∙ is.bitmaps
      ∙ sym (finds_as_spelled parts.Source file header spelled).directory ∙ image.bare

  form : IsSameForm n file other
  form = same_form n disk file other image 0 fields same_long bare (λ i low high. same i low)

  linear : (x : ℕ) → x < n.size → (host : ℕ) × (entry_at other (x / 2 ^ bits_of other) ≡ Ok (entries.Stored host)) × (host + x % 2 ^ bits_of other ≡ n.base + x) × (x / 2 ^ bits_of other < length (store_of n).kinds)
  linear = linear_in n disk file other image form bits

  byte_is : (x : ℕ) → x < n.size → byte disk x ≡ byte file (n.base + x)
  byte_is x below =
      let at = image.linear x below in
      let long = image.size_is in
      subst (λ (e : Result L2Entry EntryFault). ReadsAs file e (x % 2 ^ bits_of file) (byte disk x)) at.1 (image.source.stands.bytes x (omega (arith, below, long))) ∙ ap (byte file) at.2

  reads : (x : ℕ) → x < n.size → ReadsAs other (entry_at other (x / 2 ^ bits_of other)) (x % 2 ^ bits_of other) (byte disk x)
  reads x below =
      let at = linear x below in
      subst (λ (e : Result L2Entry EntryFault). ReadsAs other e (x % 2 ^ bits_of other) (byte disk x)) (sym at.1)
      (byte_is x below ∙ sym (same (n.base + x) (omega (arith, past))) ∙ ap (byte other) (sym at.2))

  pub raised_image : IsImage (raised n) disk other
  raised_image = record {
    source = record {
      stands = record {
        passes = record { numbers = is.spelled.numbers; extensions = is.spelled.extensions; listed = is.spelled.listed; rules = is.spelled.rules };
        size = image.source.stands.size ∙ sym (ap (λ (f : Fields). f.size) fields);
        bytes = λ x below. reads x (let long = image.size_is in omega (arith, below, long));
      };
      passes = form.passes image.source.passes;
      directory = (bare_passes other bare (form.passes image.source.passes)).0;
      counted = (bare_passes other bare (form.passes image.source.passes)).1;
      header = is.next;
      spelled = is.spelled;
      spans_offset = offset;
      spans_length = long;
      own = is.own;
      clusters = form.clusters;
    };
    bare = bare;
    room = form.room;
    behind = form.behind;
    linear = linear;
    front = form.front;
    size_is = image.size_is;
    inside = let inside = image.inside in omega (arith, inside, same_long);
    tight = form.tight;
  }

  pub said_again : (h g : Header) → Spells parts.Source file h → Spells parts.Source other g → SaysAgain h g
  said_again h g before after =
      let was = one_said file h header before spelled in
      let now = one_said other g is.next after is.spelled in
      let clear : g.fields ≡ cleared h.fields = now.0 ∙ is.fields ∙ ap cleared (sym was.0) in
      let none = ap (λ (f : Fields). f.autoclear_features) clear in
      (clear ∙ ap (λ (a : ℕ). record (h.fields) { autoclear_features = a }) (sym none), omega (arith, none), now.1 ∙ is.kept ∙ sym was.1)

-- ---- the sector

pub raises : (n : Numbers) (file sector : List ℕ) (header : Header) → IsImageOf n file → Spells parts.Source file header → HasNextEpoch header sector → length sector ≡ 512 → n.epoch < 2 ^ 64 - 1 → Raises n sector file
raises n file sector header of spelled has size left =
    let first = le_trans (le-max_left 512 (list_end (fields_of file).cluster_bits)) of.image.front.head in
    let inside = of.image.inside in
    let whole : 512 ≤ length file = omega (arith, first, inside) in
    let spells : (disk : List ℕ) (image : IsImage n disk file) → SpellsNext header n.id n.epoch image.source.spans_offset image.source.spans_length (overlay file 0 sector) = λ disk image. has file (overlay file 0 sector) n.id n.epoch image.source.spans_offset image.source.spans_length spelled
    (one_own file header image.source.header spelled image.source.spelled ∙ image.source.own) left
    (omega (arith, length-overlay_inside file 0 sector (omega (arith, size, whole)), whole))
    (reading-overlay_same file 0 sector 512 (sym size)) in
    record {
      long = whole;
      image = λ disk image. raised_image n disk file sector image size image.source.spans_offset image.source.spans_length header spelled (spells disk image);
      header = said_again n of.disk file sector of.image size of.image.source.spans_offset of.image.source.spans_length header spelled (spells of.disk of.image);
    }
