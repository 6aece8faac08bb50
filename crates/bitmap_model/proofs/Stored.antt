-- What is stored of a bitmap is restored as that bitmap.
use Rattle.std.proofs.Common.{rules, ◌≡◌, true, false}
use Rattle.std.specs.Prelude.{None}
use Rattle.span_algebra.specs.declared.spans.Span.TheVariants.{Unknown}
use Rattle.bitmap_model.specs.Granules.{cleared}
use Rattle.bitmap_model.specs.Bitmap.{BitmapState, StoredBitmap, restored, stored}
use Rattle.bitmap_model.specs.BitmapLaws.{IsBlank}

-- the two ways to restore
pub restored-trusted : (e : StoredBitmap) → e.trusted ≡ true
    → restored e ≡ record { name = e.name; bits = e.bits; successor = None; span = e.span; recording = e.recording; persistent = true; inconsistent = false }
restored-trusted e sound = search rules

pub restored-untrusted : (e : StoredBitmap) → e.trusted ≡ false
    → restored e ≡ record { name = e.name; bits = cleared e.bits; successor = None; span = Unknown; recording = false; persistent = true; inconsistent = true }
restored-untrusted e doubted = search rules

pub stored_is_restored : (b : BitmapState) → b.persistent ≡ true → b.successor ≡ None → (b.inconsistent ≡ true → IsBlank b) → restored (stored b) ≡ b
stored_is_restored b kept free blank = search rules
