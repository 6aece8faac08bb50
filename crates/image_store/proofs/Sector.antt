-- The first sector of a header with an id and an epoch.
use Rattle.std.proofs.Common.{◌≡◌, ℕ, ◌^◌, ◌<◌, ◌≤◌, List, length, refl, rules}
use Rattle.disk_model.specs.Files.{reading}
use Rattle.qc_layout.specs.declared.header.Header.{Header}
use Rattle.qc_layout.specs.declared.header.Own.TheVariants as owns
use Rattle.qc_layout.specs.declared.header.Part.TheVariants as parts
use Rattle.qc_layout.specs.Spelling.{Spells, Fits, IsSmall, IsWritable, sector_of}
use Rattle.qc_layout.proofs.Written.{writable_spelled, changed_writable, writable_fits}
use Rattle.image_store.specs.Opening.{new_header}

-- without autoclear bits it can be written as well
cleared_writable : (h : Header) → IsSmall (record h { fields = record (h.fields) { autoclear_features = 0 } }) → IsWritable parts.Source h
    → IsWritable parts.Source (record h { fields = record (h.fields) { autoclear_features = 0 } })
cleared_writable h small w = record {
  small = small;
  numbers = w.numbers;
  tail = w.tail;
  blocks = w.blocks;
  unknown = w.unknown;
  kept = w.kept;
  room = w.room;
  bitmaps = w.bitmaps;
  autoclear = refl;
  own = w.own;
}

-- its numbers are small where those of the cleared one are
small_cleared : (h : Header) → IsSmall (record h { fields = record (h.fields) { autoclear_features = 0 } }) → h.fields.autoclear_features < 2 ^ 64 → IsSmall h
small_cleared h small low = search rules

pub sector_spelled : (h : Header) (file written id : List ℕ) (epoch : ℕ) → IsSmall (new_header h id epoch) → h.fields.autoclear_features < 2 ^ 64 → length id ≡ 16
    → Spells parts.Source file h → 512 ≤ length written → (Fits (new_header h id epoch) → reading written 0 512 ≡ sector_of (new_header h id epoch)) → Spells parts.Source written (new_header h id epoch)
sector_spelled h file written id epoch small low long spelled size read =
    let later : Header = record h { own = owns.Source id epoch 0 0 } in
    let writable = cleared_writable later small (changed_writable parts.Source h (owns.Source id epoch 0 0) file (small_cleared later small low) long spelled) in
    let fits = writable_fits (new_header h id epoch) writable in
    writable_spelled parts.Source (new_header h id epoch) written writable (record { fits = fits; long = size; sector = read fits })
