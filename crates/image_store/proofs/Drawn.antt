-- What another first sector of the header makes of an image without bitmaps.
use Rattle.std.proofs.Common.{◌≡◌, inl, inr, ℕ, ◌/◌, ◌≤◌, List, [], ◌∷◌, ◌++◌, length, None, refl, sym, ap, ◌∙◌, subst, arith}
use Rattle.disk_model.specs.Files.{reading, overlay}
use Rattle.disk_model.proofs.Laws.{same_file, byte-overlay_above, length-overlay_inside, reading-overlay_same, reading_all}
use Rattle.qc_layout.specs.declared.header.Fields.{Fields}
use Rattle.qc_layout.specs.declared.header.Header.{Header}
use Rattle.qc_layout.specs.declared.header.Own.TheVariants as owns
use Rattle.qc_layout.specs.declared.header.Part.TheVariants as parts
use Rattle.qc_layout.specs.Header.{fields_of}
use Rattle.qc_layout.specs.Extensions.{own_in, own_kind, bitmaps_in, bitmaps_kind, first_of_kind, place_in, tail_of, kept_bytes}
use Rattle.qc_layout.specs.Spelling.{Spells, IsHeaderOf}
use Rattle.qc_layout.specs.Disks.{Stands}
use Rattle.qc_layout.proofs.HeaderLaws.{one_in}
use Rattle.qc_layout.proofs.OneDisk.{one_disk}
use Rattle.image_model.specs.Clusters.{Shape, IsShape, IsSafe}
use Rattle.image_model.specs.Calls.{IsOpened, shape_of}
use Rattle.image_model.specs.Disks.{disk_of, IsMixedOf}
use Rattle.image_model.specs.Turns.{SameHead, IsTurn, rebased}
use Rattle.image_steps.proofs.Bridge.{head_inside}
use Rattle.image_steps.proofs.Disk.{length-disk_of, disk_mixed, disk_stands}
use Rattle.image_steps.proofs.Turns.{turn_here, turn_shape, same_owners}
use Rattle.image_store.specs.Images.{IsInOrder}
use Rattle.image_store.specs.Opening.{SaysSame, KeepsHeader, RewritesHeader, HasSector, new_header}
use Rattle.image_store.proofs.Behind.{IsBehind}
use Rattle.image_store.proofs.Orders.{long_base, base_passes, safe_in_order}

-- ---- one header, one disk

said : (file : List ℕ) (h g : Header) → Spells parts.Source file h → Spells parts.Source file g → SaysSame h g × (g.own ≡ h.own)
said file h g x y =
    let same = one_in file y.extensions x.extensions y.listed x.listed in
    let fields = y.fields ∙ sym x.fields in (
      (
        fields,
        y.kept ∙ ap (λ (f : Fields). tail_of file f.header_length ++ kept_bytes file y.extensions) fields ∙ ap (λ es. tail_of file h.fields.header_length ++ kept_bytes file es) same ∙ sym x.kept,
        y.bitmaps ∙ ap (λ es. bitmaps_in file (first_of_kind bitmaps_kind es)) same ∙ sym x.bitmaps,
      ),
      y.own ∙ ap (λ es. own_in file (first_of_kind own_kind es)) same ∙ sym x.own,
    )

pub one_own : (file : List ℕ) (h g : Header) → Spells parts.Source file h → Spells parts.Source file g → g.own ≡ h.own
one_own file h g x y = (said file h g x y).1

-- the same header
pub keeps_header : (before file : List ℕ) (h : Header) → Spells parts.Source before h → Spells parts.Source file h → KeepsHeader before file
keeps_header before file h x y g k is on =
    let was = (said before g h is x).0 in
    let now = (said file h k y on).0 in
    inl (now.0 ∙ was.0, now.1 ∙ was.1, now.2 ∙ was.2)

-- the new one
pub redraws_header : (before file id : List ℕ) (epoch : ℕ) (h : Header) → Spells parts.Source before h → Spells parts.Source file (new_header h id epoch) → RewritesHeader id epoch before file
redraws_header before file id epoch h x y g k is on =
    let was = (said before g h is x).0 in
    let now = said file (new_header h id epoch) k y on in
    ((now.0.0 ∙ ap (λ (f : Fields). record f { autoclear_features = 0 }) was.0, now.0.1 ∙ was.1, now.0.2 ∙ was.2), now.1)

pub draws_header : (before file id : List ℕ) (epoch : ℕ) (h : Header) → Spells parts.Source before h → Spells parts.Source file (new_header h id epoch) → KeepsHeader before file
draws_header before file id epoch h x y g k is on = inr (redraws_header before file id epoch h x y g k is on).0

one_mixed : (n : ℕ) (d e : List ℕ) → length d ≡ n → length e ≡ n → IsMixedOf n (d ∷ []) e → e ≡ d
one_mixed n d e long_d long_e mixed = same_file e d (long_e ∙ sym long_d) (λ k inside. elim (mixed (k / 512) (omega (arith, inside, long_e))) [
  | inl is ↦ is k (omega arith) (omega arith) (omega (arith, inside, long_e))
  | inr none ↦ absurd none
])

-- where just one disk may be mixed, a safe file stands for it
pub safe_single : (s : Shape) (file c : List ℕ) (h : Header) (id : List ℕ) (epoch offset size_of : ℕ) → IsShape s → ((k : ℕ) → s.owner k ≡ None) → IsHeaderOf parts.Source s.base h → h.bitmaps ≡ None
    → h.own ≡ owns.Source id epoch offset size_of → IsSafe s (file ∷ []) c → IsInOrder id epoch (disk_of s (fields_of s.base).size file) c
safe_single s file c h id epoch offset size_of shape none head bare own safe =
    let n = (fields_of s.base).size in
    subst (λ (d : List ℕ). IsInOrder id epoch d c)
    (one_mixed n (disk_of s n file) (disk_of s n c) (length-disk_of s n file) (length-disk_of s n c)
    (disk_mixed s (file ∷ []) c parts.Source shape (base_passes s (file ∷ []) c h shape none head bare safe) safe))
    (safe_in_order s (file ∷ []) c h shape none head bare safe id epoch offset size_of own)

-- its own disk
pub own_disk : (s : Shape) (file : List ℕ) (h : Header) (disk : List ℕ) → IsShape s → ((k : ℕ) → s.owner k ≡ None) → IsHeaderOf parts.Source s.base h → h.bitmaps ≡ None → IsSafe s (file ∷ []) file
    → Stands parts.Source file disk → disk_of s (fields_of s.base).size file ≡ disk
own_disk s file h disk shape none head bare safe stands =
    one_disk parts.Source file _ disk (disk_stands s (file ∷ []) file parts.Source shape (long_base s (file ∷ []) file h shape none head bare safe) (base_passes s (file ∷ []) file h shape none head bare safe) safe) stands

-- ---- a file that begins with the sector

-- it has the new header
pub record HasNew (h : Header) (id : List ℕ) (epoch : ℕ) (base : List ℕ) : Type 0 where
  pub at : ℕ
  pub is : IsHeaderOf parts.Source base (record (new_header h id epoch) { own_at = at })
  pub fields : fields_of base ≡ record (h.fields) { autoclear_features = 0 }

has_new : (found base : List ℕ) (h : Header) (id : List ℕ) (epoch : ℕ) (sector : List ℕ) → HasSector h id epoch sector → Spells parts.Source found h → h.bitmaps ≡ None → 512 ≤ length base → reading base 0 512 ≡ sector → HasNew h id epoch base
has_new found base h id epoch sector has spells bare long begins =
    let sp = has.says found base spells bare long begins in
    record {
      at = place_in (first_of_kind own_kind sp.extensions);
      is = record {
        spells = record { numbers = sp.numbers; fields = sp.fields; extensions = sp.extensions; listed = sp.listed; rules = sp.rules; kept = sp.kept; bitmaps = sp.bitmaps; own = sp.own };
        own_at = refl;
      };
      fields = sym sp.fields;
    }

module _ (found : List ℕ) (h : Header) (next : ℕ) (opened : IsOpened (shape_of found) next found) (head : IsHeaderOf parts.Source found h) (bare : h.bitmaps ≡ None)
    (id : List ℕ) (epoch : ℕ) (sector : List ℕ) (has : HasSector h id epoch sector) (long : length sector ≡ 512) (file : List ℕ) (longer : length found ≤ length file) where
  abbrev s : Shape
  s = shape_of found

  abbrev pub drawn : List ℕ
  drawn = overlay file 0 sector

  -- the shape of the new header
  abbrev pub turned : Shape
  turned = rebased s s.owner drawn

  pub inside : 512 ≤ length file
  inside = let least = head_inside s found opened.shape.some opened.counted in omega (arith, least, longer, opened.shape.some)

  drawn_long : length drawn ≡ length file
  drawn_long = length-overlay_inside file 0 sector (omega (arith, long, inside))

  pub has_drawn : HasNew h id epoch drawn
  has_drawn = has_new found drawn h id epoch sector has head.spells bare (omega (arith, drawn_long, inside)) (reading-overlay_same file 0 sector 512 (sym long))

  sector_fields : fields_of sector ≡ record (h.fields) { autoclear_features = 0 }
  sector_fields = (has_new found sector h id epoch sector has head.spells bare (omega (arith, long)) (reading_all sector 512 (sym long))).fields

  same_head : SameHead found sector
  same_head =
      let now = sector_fields in
      let was = head.spells.fields in
      record {
        bits = ap (λ (f : Fields). f.cluster_bits) now ∙ ap (λ (f : Fields). f.cluster_bits) was;
        counts = ap (λ (f : Fields). f.refcount_table_offset) now ∙ ap (λ (f : Fields). f.refcount_table_offset) was;
        clusters = ap (λ (f : Fields). f.refcount_table_clusters) now ∙ ap (λ (f : Fields). f.refcount_table_clusters) was;
        l1 = ap (λ (f : Fields). f.l1_table_offset) now ∙ ap (λ (f : Fields). f.l1_table_offset) was;
        tables = ap (λ (f : Fields). f.l1_size) now ∙ ap (λ (f : Fields). f.l1_size) was;
        size = ap (λ (f : Fields). f.size) now ∙ ap (λ (f : Fields). f.size) was;
      }

  pub is_turn : (first last : ℕ) → IsTurn s turned first last sector file
  is_turn first last = turn_here s s.owner first last sector file opened.shape same_head (same_owners s first last file)

  pub turned_shape : IsShape turned
  turned_shape = turn_shape long (is_turn 0 0)

  pub turned_size : (fields_of drawn).size ≡ (fields_of found).size
  turned_size = ap (λ (f : Fields). f.size) has_drawn.fields ∙ ap (λ (f : Fields). f.size) head.spells.fields

  pub drawn_behind : IsBehind file drawn
  drawn_behind i low = byte-overlay_above file 0 sector i (omega (arith, long, low))
