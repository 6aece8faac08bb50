-- What is known of a request that is carried out, in whole or in part.
use Rattle.std.proofs.Common.{rules}
use Rattle.std.proofs.Common.{arith}
use Rattle.std.proofs.lemmas.Grind.{common_steps}
use Rattle.std.proofs.Common.{◌≡◌, ℕ, ◌+◌, ◌≤◌, List, Bool, true, false, None, length}
use Rattle.core_events.specs.Events.{Request}
use Rattle.core_events.specs.declared.events.Work.{Work}
use Rattle.plain_model.specs.Machine.{Machine, size_of}
use Rattle.plain_model.specs.Requests.{HasBytes, is_write, is_invalid, denial}
use Rattle.plain_model.specs.Outcome.{RequestEnd, Trouble, Fate, Denied, Lost, Carried, CarriedInPart, fate_by, fate, bytes_of}
use Rattle.plain_model.specs.Step.{IsLeft}

-- ---- valid requests

-- a request that isn't denied lies in the disk and isn't too long
pub granted_is_valid : (r : Request) (m : Machine) → denial r m ≡ None → is_invalid r r.work m ≡ false
unfolding denial
granted_is_valid r m none = search rules

-- what is written is as long as the range, and the range lies in the disk
pub record IsWritable (r : Request) (m : Machine) : Type 0 where
  pub long : length (bytes_of r r.work) ≡ r.length
  pub inside : r.offset + r.length ≤ size_of m

valid_is_writable : (r : Request) (m : Machine) (work : Work) → is_invalid r work m ≡ false → HasBytes r work → is_write work ≡ true
    → (length (bytes_of r work) ≡ r.length) × (r.offset + r.length ≤ size_of m)
valid_is_writable r m o valid has writes = grind (arith, common_steps)

pub granted_is_writable : (r : Request) (m : Machine) → denial r m ≡ None → HasBytes r r.work → is_write r.work ≡ true → IsWritable r m
granted_is_writable r m none has writes =
    let parts : (length (bytes_of r r.work) ≡ r.length) × (r.offset + r.length ≤ size_of m) =
    valid_is_writable r m r.work (granted_is_valid r m none) has writes in
    record { long = parts.0; inside = parts.1 }

-- ---- fates

abbrev is_denied : Fate → Bool
is_denied (Denied errno) = true
is_denied Lost = false
is_denied Carried = false
is_denied (CarriedInPart bytes) = false

-- a request that isn't denied passed each test
pub record IsGranted (t : Trouble) (r : Request) (m : Machine) (f : Fate) : Type 0 where
  pub none : denial r m ≡ None
  pub by : fate_by t.request r m ≡ f

pub granted_fate : (t : Trouble) (r : Request) (m : Machine) (f : Fate) → fate t r m ≡ f → is_denied f ≡ false → IsGranted t r m f
unfolding fate
granted_fate t r m f is fine = search rules

-- a request that met a fault while it was carried out was a write, and left as many bytes as it wrote
pub record HasTorn (r : Request) (left : List ℕ) : Type 0 where
  pub writes : is_write r.work ≡ true
  pub long : length left ≡ length (bytes_of r r.work)

pub broken_has_torn : (end : RequestEnd) (r : Request) (m : Machine) (left : List ℕ) → IsLeft end r m → fate_by end r m ≡ CarriedInPart left → HasTorn r left
broken_has_torn o r m left torn = grind (arith, common_steps)
