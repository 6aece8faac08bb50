-- What a call on a set of bitmaps answers and leaves.
use Rattle.std.specs.Prelude.{◌≡◌, ℕ, List, Option, Some, None, Result, Ok, Err, IfSome, IsSomeAnd, IsTrue}
use Rattle.bitmap_model.specs.Bitmap.{BitmapState, is_busy}
use Rattle.bitmap_model.specs.Bitmaps.{BitmapFault, named}
use Rattle.bitmap_model.specs.Bitmaps as faults
use Rattle.bitmap_set.specs.declared.refusals.BitmapRefusal.{BitmapRefusal}
use Rattle.bitmap_set.specs.declared.refusals.BitmapRefusal.TheVariants.{BadName, NameTaken, TooMany, BadGranularity, TooFine, NoSuchBitmap, Busy, Inconsistent, Memory}
use Rattle.bitmap_set.specs.Sets.{SetState}

-- the fault that a refusal says; want of memory says none
abbrev pub fault_said : BitmapRefusal → Option BitmapFault
fault_said BadName = Some faults.BadName
fault_said NameTaken = Some faults.NameTaken
fault_said TooMany = Some faults.TooMany
fault_said BadGranularity = Some faults.BadGranularity
fault_said TooFine = Some faults.TooFine
fault_said NoSuchBitmap = Some faults.NoSuchBitmap
fault_said Busy = Some faults.Busy
fault_said Inconsistent = Some faults.Inconsistent
fault_said Memory = None

-- the refusal says the very fault that is due, or want of memory
abbrev pub Says : {A : Type 0} → BitmapRefusal → Result A BitmapFault → Type 0
Says refusal due = IfSome (fault_said refusal) (λ fault. due ≡ Err fault)

-- A call for which these bitmaps are due, or this fault. Ok leaves these bitmaps, and all else as before. A refusal says the fault
-- that is due, or want of memory, and leaves all as before. So a fault that is due is never passed over.
abbrev pub Follows : {A : Type 0} → Result (List BitmapState) BitmapFault → Result A BitmapRefusal → SetState → SetState → Type 0
Follows due (Ok value) old new = (due ≡ Ok new.bitmaps) × (new ≡ record old { bitmaps = new.bitmaps })
Follows due (Err refusal) old new = Says refusal due × (new ≡ old)

-- a job uses the bitmap of this name
abbrev pub IsBusyIn : List BitmapState → List ℕ → Type 0
IsBusyIn bitmaps name = IsSomeAnd (named name bitmaps) (λ b. IsTrue (is_busy b))
