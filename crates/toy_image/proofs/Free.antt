-- Files that differ in guest bytes alone are one image.
use Rattle.std.proofs.Common.{◌≡◌, inl, ℕ, ◌+◌, ◌/◌, ◌%◌, ◌^◌, ◌<◌, List, length, None, Ok, Result, refl, sym, ap, subst, ◌∙◌, arith}
use Rattle.disk_model.specs.Files.{byte}
use Rattle.disk_model.proofs.Laws.{length-reading, byte-reading, reading_same}
use Rattle.qc_layout.specs.declared.header.Header.{Header}
use Rattle.qc_layout.specs.declared.header.Part.TheVariants as parts
use Rattle.qc_layout.specs.declared.entry.EntryFault.{EntryFault}
use Rattle.qc_layout.specs.declared.entry.L2Entry.{L2Entry}
use Rattle.qc_layout.specs.declared.entry.L2Entry.TheVariants as entries
use Rattle.qc_layout.specs.Extensions.{own_kind, first_of_kind, place_in}
use Rattle.qc_layout.specs.Header.{fields_of}
use Rattle.qc_layout.specs.Spelling.{Spells, IsHeaderOf}
use Rattle.qc_layout.specs.Laws.{start_length, BeginAlike}
use Rattle.qc_layout.specs.Disks.{ReadsAs, entry_at, bits_of}
use Rattle.qc_layout.proofs.Starts.{alike_fields, header_from_start, passes_from_start}
use Rattle.qc_layout.specs.Directory.{directory_in}
use Rattle.qc_layout.proofs.Directories.{finds_as_spelled}
use Rattle.core_node.specs.Ends.{KeepsHeader}
use Rattle.core_node.proofs.Sources.{bare_passes, one_said}
use Rattle.toy_image.specs.declared.numbers.Numbers.{Numbers}
use Rattle.toy_image.specs.Images.{store_of, IsImage, IsLike, GuestBytesAreFree, disk_in}
use Rattle.toy_image.proofs.Alike.{IsSameForm, same_form}

-- the header and its place in this project's extension
pub whole_header : (file : List ℕ) (h : Header) (s : Spells parts.Source file h) → IsHeaderOf parts.Source file (record h { own_at = place_in (first_of_kind own_kind s.extensions) })
whole_header file h s = record {
  spells = record {
    numbers = s.numbers;
    fields = s.fields;
    extensions = s.extensions;
    listed = s.listed;
    rules = s.rules;
    kept = s.kept;
    bitmaps = s.bitmaps;
    own = s.own;
  };
  own_at = refl;
}

-- where each byte of the guest stands in another file of the same form
pub linear_in : (n : Numbers) (disk file other : List ℕ) → IsImage n disk file → IsSameForm n file other → bits_of other ≡ bits_of file → (x : ℕ) → x < n.size
    → (host : ℕ) × (entry_at other (x / 2 ^ bits_of other) ≡ Ok (entries.Stored host)) × (host + x % 2 ^ bits_of other ≡ n.base + x) × (x / 2 ^ bits_of other < length (store_of n).kinds)
linear_in n disk file other image form bits x below =
    let at = image.linear x below in (
      at.0,
      ap (λ (b : ℕ). entry_at other (x / 2 ^ b)) bits ∙ form.entries (x / 2 ^ bits_of file) at.3 ∙ at.1,
      ap (λ (b : ℕ). at.0 + x % 2 ^ b) bits ∙ at.2,
      subst (λ (b : ℕ). x / 2 ^ b < length (store_of n).kinds) (sym bits) at.3,
    )

module _ (n : Numbers) (disk file other : List ℕ) (image : IsImage n disk file) (like : IsLike n file other) where
  alike : BeginAlike (start_length file) file other
  alike = record {
    enough = omega arith;
    bytes = sym (reading_same other file 0 (start_length file) (λ i low high. let head = image.front.head in like.outside i (inl (omega (arith, high, head)))));
    short = λ is. let long = like.long in omega (arith, is, long);
    long = λ is. let long = like.long in omega (arith, is, long);
  }

  -- its header has the same numbers
  pub like_fields : fields_of other ≡ fields_of file
  like_fields = sym (alike_fields file other alike)

  bits : bits_of other ≡ bits_of file
  bits = ap (λ f. f.cluster_bits) like_fields

  again : Spells parts.Source other (record (image.source.header) { own_at = place_in (first_of_kind own_kind image.source.spelled.extensions) })
  again = (header_from_start parts.Source file other _ alike (whole_header file image.source.header image.source.spelled)).spells

  -- and says the same
  pub like_header : KeepsHeader file other
  like_header h g before after =
      let was = one_said file h image.source.header before image.source.spelled in
      let now = one_said other g _ after again in
      inl (now.0 ∙ sym was.0, now.1 ∙ sym was.1)

  bare : directory_in other ≡ None
  bare = (finds_as_spelled parts.Source other _ again).directory ∙ sym (finds_as_spelled parts.Source file _ image.source.spelled).directory ∙ image.bare

  form : IsSameForm n file other
  form = same_form n disk file other image (fields_of file).autoclear_features like_fields like.long bare (λ i low high. like.outside i (inl high))

  linear : (x : ℕ) → x < n.size → (host : ℕ) × (entry_at other (x / 2 ^ bits_of other) ≡ Ok (entries.Stored host)) × (host + x % 2 ^ bits_of other ≡ n.base + x) × (x / 2 ^ bits_of other < length (store_of n).kinds)
  linear = linear_in n disk file other image form bits

  reads : (x : ℕ) → x < n.size → ReadsAs other (entry_at other (x / 2 ^ bits_of other)) (x % 2 ^ bits_of other) (byte (disk_in n other) x)
  reads x below =
      let at = linear x below in
      subst (λ (e : Result L2Entry EntryFault). ReadsAs other e (x % 2 ^ bits_of other) (byte (disk_in n other) x)) (sym at.1)
      (byte-reading other n.base n.size x below ∙ ap (byte other) (sym at.2))

  free : IsImage n (disk_in n other) other
  free = record {
    source = record {
      stands = record {
        passes = passes_from_start parts.Source file other alike image.source.stands.passes;
        size = length-reading other n.base n.size ∙ sym image.size_is ∙ image.source.stands.size ∙ sym (ap (λ f. f.size) like_fields);
        bytes = λ x below. reads x (let long = length-reading other n.base n.size in omega (arith, below, long));
      };
      passes = form.passes image.source.passes;
      directory = (bare_passes other bare (form.passes image.source.passes)).0;
      counted = (bare_passes other bare (form.passes image.source.passes)).1;
      header = record (image.source.header) { own_at = place_in (first_of_kind own_kind image.source.spelled.extensions) };
      spelled = again;
      spans_offset = image.source.spans_offset;
      spans_length = image.source.spans_length;
      own = image.source.own;
      clusters = form.clusters;
    };
    bare = bare;
    room = form.room;
    behind = form.behind;
    linear = linear;
    front = form.front;
    size_is = length-reading other n.base n.size;
    inside = let inside = image.inside in let long = like.long in omega (arith, inside, long);
    tight = form.tight;
  }

pub guest_bytes_are_free : GuestBytesAreFree
guest_bytes_are_free n disk file other suits image like = free n disk file other image like
