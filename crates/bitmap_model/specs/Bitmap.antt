-- One bitmap of a disk, and what each change makes of it.
use Rattle.std.specs.Prelude.{◌≡◌, ℕ, ◌/◌, List, Bool, true, false, ◌&&◌, ◌||◌, nat_lt, Option, Some, None, is_some, if◌then◌else◌}
use Rattle.span_algebra.specs.declared.points.Point.{Point}
use Rattle.span_algebra.specs.declared.spans.Span.{Span}
use Rattle.span_algebra.specs.declared.spans.Span.TheVariants.{Unknown}
use Rattle.span_algebra.specs.declared.spans.Base.{Base}
use Rattle.span_algebra.specs.Timelines.{Extent, Timeline}
use Rattle.span_algebra.specs.Spans.{that_pass, SpanIsTrue, after_clear, after_disable, after_enable, after_merge, base_of}
use Rattle.bitmap_model.specs.Granules.{GranuleSet, IsShaped, is_in, none_of, cleared, marked, merged}

-- The granules are what the bitmap has; while a job uses it, a successor records in its place.
pub record BitmapState : Type 0 where
  pub name : List ℕ
  pub bits : GranuleSet
  pub successor : Option GranuleSet
  -- from when to when the bitmap and its successor have all that was written
  pub span : Span
  pub recording : Bool
  -- whether it is kept in the image
  pub persistent : Bool
  -- whether the image didn't say that it can be trusted
  pub inconsistent : Bool

-- a job uses the bitmap
abbrev pub is_busy : BitmapState → Bool
is_busy b = is_some b.successor

-- the byte lies on the disk and in a granule of the set
abbrev pub has_byte : GranuleSet → ℕ → Bool
has_byte s x = nat_lt x s.size && is_in s.set (x / s.granularity)

abbrev pub successor_has : Option GranuleSet → ℕ → Bool
successor_has None x = false
successor_has (Some s) x = has_byte s x

-- the byte lies in a granule of the bitmap or of its successor
abbrev pub covers : BitmapState → ℕ → Bool
covers b x = has_byte b.bits x || successor_has b.successor x

-- the bitmap's span is true for what happened: bitmap and successor cover each byte that was written within it
abbrev pub IsTrueBitmap : Timeline → BitmapState → Type 0
IsTrueBitmap h b = SpanIsTrue h b.span (that_pass (covers b))

-- a successor has the size and the granularity of its bitmap
abbrev pub IsShapedSuccessor : GranuleSet → Option GranuleSet → Type 0
IsShapedSuccessor bits None = Unit {0}
IsShapedSuccessor bits (Some s) = IsShaped s × (s.size ≡ bits.size) × (s.granularity ≡ bits.granularity)

-- the sets are those of a disk of this size
pub record IsShapedBitmap (size : ℕ) (b : BitmapState) : Type 0 where
  pub bits : IsShaped b.bits
  pub sized : b.bits.size ≡ size
  pub successor : IsShapedSuccessor b.bits b.successor

-- ---- changes, each at a point where it draws one

-- a bitmap that is added
abbrev pub new_bitmap : ℕ → List ℕ → ℕ → Bool → Bool → Point → BitmapState
new_bitmap size name granularity recording persistent p = record {
  name = name;
  bits = none_of size granularity;
  successor = None;
  span = after_clear recording p;
  recording = recording;
  persistent = persistent;
  inconsistent = false;
}

abbrev pub marked_successor : Extent → Option GranuleSet → Option GranuleSet
marked_successor e None = None
marked_successor e (Some s) = Some (marked s e)

-- a write marks the granules that it meets, of the successor while there is one; a bitmap that isn't recording stays
unfoldable pub when_written : Extent → BitmapState → BitmapState
when_written e b =
    if b.recording then
    (if is_busy b then record b { successor = marked_successor e b.successor } else record b { bits = marked b.bits e })
    else b

abbrev pub when_cleared : Point → BitmapState → BitmapState
when_cleared p b = record b { bits = cleared b.bits; span = after_clear b.recording p }

-- enabling what is recording is no change
abbrev pub when_enabled : Point → BitmapState → BitmapState
when_enabled p b = if b.recording then b else record b { recording = true; span = after_enable b.span p }

-- nor is disabling what isn't
abbrev pub when_disabled : Point → BitmapState → BitmapState
when_disabled p b = if b.recording then record b { recording = false; span = after_disable b.span p } else b

-- the source's granules join the target's, whatever the two granularities
abbrev pub when_merged : BitmapState → Point → BitmapState → BitmapState
when_merged source p b = record b { bits = merged b.bits source.bits; span = after_merge b.span source.span p }

-- a job takes the bitmap into use: an empty successor records from now on
abbrev pub when_frozen : BitmapState → BitmapState
when_frozen b = record b { successor = Some (cleared b.bits) }

-- what a backup at p of the bitmap builds on
abbrev pub base_at : Point → BitmapState → Base
base_at p b = base_of b.span p

-- the successor's granules, or the bitmap's own where there is no successor
abbrev pub successor_of : BitmapState → GranuleSet
successor_of b = elim b.successor [ None ↦ b.bits | Some s ↦ s ]

-- abdication: the successor takes the place of the granules, and the span begins at the job's point
abbrev pub when_abdicated : Point → BitmapState → BitmapState
when_abdicated p b = record b { bits = successor_of b; successor = None; span = after_clear b.recording p }

-- reclaim: the successor's granules join the granules, and the span stays
abbrev pub when_reclaimed : BitmapState → BitmapState
when_reclaimed b = record b { bits = merged b.bits (successor_of b); successor = None }

-- ---- bitmaps in an image

-- what an image has of a bitmap; `trusted` where it says that the bits and the span hold
pub record StoredBitmap : Type 0 where
  pub name : List ℕ
  pub bits : GranuleSet
  pub span : Span
  pub recording : Bool
  pub trusted : Bool

-- an opening trusts what the image says, or else knows a name and a granularity alone
abbrev pub restored : StoredBitmap → BitmapState
restored e =
    if e.trusted then record { name = e.name; bits = e.bits; successor = None; span = e.span; recording = e.recording; persistent = true; inconsistent = false }
    else record { name = e.name; bits = cleared e.bits; successor = None; span = Unknown; recording = false; persistent = true; inconsistent = true }

-- a closing stores the granules, and says whether they can be trusted
abbrev pub stored : BitmapState → StoredBitmap
stored b = record {
  name = b.name;
  bits = b.bits;
  span = b.span;
  recording = b.recording;
  trusted = if b.inconsistent then false else true;
}
