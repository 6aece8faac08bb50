-- Which bytes a set has, also a marked and a merged one, and which a bitmap covers after each change.
use Rattle.std.proofs.lemmas.Grind.{common_steps}
use Rattle.std.proofs.Common.{rules, ◌≡◌, ◌⊎◌, ℕ, ◌+◌, ◌/◌, ◌<◌, ◌≤◌, true, false, replicate, inl, inr, arith}
use Rattle.std.specs.Prelude.{Option, Some, None, is_some}
use Rattle.std.proofs.lemmas.Bool.{or_left, or_right, both_ways}
use Rattle.span_algebra.specs.declared.points.Point.{Point}
use Rattle.span_algebra.specs.Timelines.{Extent}
use Rattle.bitmap_model.specs.Granules.{is_in, GranuleSet, IsShaped, marked, merged}
use Rattle.bitmap_model.specs.Bitmap.{BitmapState, IsShapedSuccessor, IsShapedBitmap, is_busy, has_byte, successor_has, covers, marked_successor, when_written, when_merged, when_abdicated, when_reclaimed}
use Rattle.bitmap_model.proofs.Sets.{in_length}
use Rattle.bitmap_model.proofs.Writes.{written_cases}
use Rattle.bitmap_model.proofs.Covering.{is_in-widened, is_in-united, granule_there, meets-from, some_from}
use Rattle.bitmap_model.proofs.Places.{granularity-least, granule_from, granule_to}

-- ---- sets

pub has_byte-parts : (s : GranuleSet) (x : ℕ) → has_byte s x ≡ true → (x < s.size) × (is_in s.set (x / s.granularity) ≡ true)
has_byte-parts s x h = search rules

pub has_byte-from : (s : GranuleSet) (x : ℕ) → x < s.size → is_in s.set (x / s.granularity) ≡ true → has_byte s x ≡ true
has_byte-from s x inside here = search rules

-- an empty list of truth values has no number
pub is_in-replicate : (n k : ℕ) → is_in (replicate n false) k ≡ false
is_in-replicate n k = grind (arith, common_steps)

-- a marked set has what the set had, and each byte of the range
pub marked_has_own : (s : GranuleSet) (e : Extent) (x : ℕ) → has_byte s x ≡ true → has_byte (marked s e) x ≡ true
marked_has_own s e x h = grind (arith, common_steps, has_byte-parts, has_byte-from, is_in-widened, in_length, or_left)

pub marked_has_range : (s : GranuleSet) (e : Extent) (x : ℕ) → IsShaped s → e.at + e.size ≤ s.size → e.at ≤ x → x < e.at + e.size
    → has_byte (marked s e) x ≡ true
marked_has_range s e x shaped inside low high = grind (arith, common_steps, has_byte-from, granularity-least, is_in-widened, granule_there, or_right, meets-from, granule_from, granule_to)

pub merged_has_other : (s other : GranuleSet) (x : ℕ) → IsShaped s → IsShaped other → other.size ≡ s.size → has_byte other x ≡ true
    → has_byte (merged s other) x ≡ true
merged_has_other s other x shaped shape same h = grind (arith, common_steps, has_byte-parts, has_byte-from, granularity-least, is_in-united, granule_there, or_left, or_right, some_from, granule_from, granule_to)

-- ---- bitmaps

pub covers_own : (b : BitmapState) (x : ℕ) → has_byte b.bits x ≡ true → covers b x ≡ true
covers_own b x h = search rules

pub covers_successor : (b : BitmapState) (x : ℕ) → successor_has b.successor x ≡ true → covers b x ≡ true
covers_successor b x h = search rules

pub covers_cases : (b : BitmapState) (x : ℕ) → covers b x ≡ true → (has_byte b.bits x ≡ true) ⊎ (successor_has b.successor x ≡ true)
covers_cases b x h = search rules

-- a bitmap that no job uses covers what its granules have
pub idle_covers : (b : BitmapState) (x : ℕ) → is_busy b ≡ false → covers b x ≡ true → has_byte b.bits x ≡ true
idle_covers b x idle h = search rules

-- ---- a write

pub marked_successor_has_own : (e : Extent) (successor : Option GranuleSet) (x : ℕ) → successor_has successor x ≡ true
    → successor_has (marked_successor e successor) x ≡ true
marked_successor_has_own e None x h = h
marked_successor_has_own e (Some s) x h = marked_has_own s e x h

pub marked_successor_has_range : (size : ℕ) (e : Extent) (bits : GranuleSet) (successor : Option GranuleSet) (x : ℕ) → bits.size ≡ size
    → IsShapedSuccessor bits successor → is_some successor ≡ true → e.at + e.size ≤ size → e.at ≤ x → x < e.at + e.size
    → successor_has (marked_successor e successor) x ≡ true
marked_successor_has_range size e bits None x sized shaped busy inside low high = search rules
marked_successor_has_range size e bits (Some s) x sized shaped busy inside low high = grind (arith, common_steps, marked_has_range)

-- a write keeps what was covered
pub written_covers_own : (e : Extent) (b : BitmapState) (x : ℕ) → covers b x ≡ true → covers (when_written e b) x ≡ true
written_covers_own e b x h =
    written_cases e b (λ c. covers c x ≡ true) (λ off. h)
    (λ on busy. elim (covers_cases b x h) [
      | inl own ↦ covers_own (record b { successor = marked_successor e b.successor }) x own
      | inr there ↦ covers_successor (record b { successor = marked_successor e b.successor }) x (marked_successor_has_own e b.successor x there)
    ])
    (λ on idle. covers_own (record b { bits = marked b.bits e }) x (marked_has_own b.bits e x (idle_covers b x idle h)))

-- and covers its range, where the bitmap is recording
pub written_covers_range : (size : ℕ) (e : Extent) (b : BitmapState) (x : ℕ) → IsShapedBitmap size b → e.at + e.size ≤ size → b.recording ≡ true
    → e.at ≤ x → x < e.at + e.size → covers (when_written e b) x ≡ true
written_covers_range size e b x shaped inside records low high =
    written_cases e b (λ c. covers c x ≡ true) (λ off. absurd (both_ways b.recording off records))
    (λ on busy. covers_successor (record b { successor = marked_successor e b.successor }) x
    (marked_successor_has_range size e b.bits b.successor x shaped.sized shaped.successor busy inside low high))
    (λ on idle. covers_own (record b { bits = marked b.bits e }) x
    (marked_has_range b.bits e x shaped.bits (omega (arith, inside, shaped.sized)) low high))

-- while a job uses it, its successor does
pub written_successor_own : (e : Extent) (b : BitmapState) (x : ℕ) → successor_has b.successor x ≡ true → successor_has (when_written e b).successor x ≡ true
written_successor_own e b x h =
    written_cases e b (λ c. successor_has c.successor x ≡ true) (λ off. h) (λ on busy. marked_successor_has_own e b.successor x h) (λ on idle. h)

pub written_successor_range : (size : ℕ) (e : Extent) (b : BitmapState) (x : ℕ) → IsShapedBitmap size b → e.at + e.size ≤ size → b.recording ≡ true
    → is_busy b ≡ true → e.at ≤ x → x < e.at + e.size → successor_has (when_written e b).successor x ≡ true
written_successor_range size e b x shaped inside records used low high =
    written_cases e b (λ c. successor_has c.successor x ≡ true) (λ off. absurd (both_ways b.recording off records))
    (λ on busy. marked_successor_has_range size e b.bits b.successor x shaped.sized shaped.successor busy inside low high)
    (λ on idle. absurd (both_ways (is_busy b) idle used))

-- ---- the other changes

-- a merged bitmap covers what it covered, and what a source that no job uses did
pub merging_covers_own : (source : BitmapState) (p : Point) (b : BitmapState) (x : ℕ) → covers b x ≡ true → covers (when_merged source p b) x ≡ true
merging_covers_own source p b x h = grind (arith, common_steps, covers_cases, covers_own, covers_successor, has_byte-parts, has_byte-from, is_in-united, in_length, or_left)

pub merging_covers_source : (size : ℕ) (source : BitmapState) (p : Point) (b : BitmapState) (x : ℕ) → IsShapedBitmap size source → IsShapedBitmap size b
    → is_busy source ≡ false → covers source x ≡ true → covers (when_merged source p b) x ≡ true
merging_covers_source size source p b x shape shaped idle h = grind (arith, common_steps, covers_own, merged_has_other, idle_covers)

-- a reclaimed bitmap covers what it and its successor had
pub reclaimed_covers : (size : ℕ) (b : BitmapState) (x : ℕ) → IsShapedBitmap size b → covers b x ≡ true → covers (when_reclaimed b) x ≡ true
reclaimed_covers size b x shaped h = grind (arith, common_steps, covers_own, covers_cases, merged_has_other, has_byte-parts, has_byte-from, is_in-united, in_length, or_left)

-- an abdicated one what its successor had
pub abdicated_covers : (p : Point) (b : BitmapState) (x : ℕ) → successor_has b.successor x ≡ true → covers (when_abdicated p b) x ≡ true
abdicated_covers p b x h = search rules
