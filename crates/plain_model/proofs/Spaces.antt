-- The source's space and the numbers of events: what a step does to them keeps a state sound.
use Rattle.std.proofs.lemmas.Grind.{common_steps}
use Rattle.std.proofs.Common.{rules}
use Rattle.std.proofs.Common.{ℕ, true, false, arith}
use Rattle.core_events.specs.Events.{Request, Event}
use Rattle.core_events.specs.declared.events.Work.{Work}
use Rattle.core_events.specs.declared.events.Work.TheVariants.{Read, Write, Zero, Flush, Status}
use Rattle.image_model.specs.Space.{Store, IsShapedStore, Change}
use Rattle.plain_model.specs.Machine.{Machine, size_of}
use Rattle.plain_model.specs.Requests.{range_of}
use Rattle.plain_model.specs.Outcome.{Trouble, Fate, Denied, Lost, Carried, CarriedInPart, numbered}
use Rattle.plain_model.specs.Step.{change_by, no_change, IsChanged, SpaceBy, StepSpace}
use Rattle.plain_model.specs.Sound.{IsSound}
use Rattle.plain_model.proofs.Stores.{written_is_shaped, zeroed_is_shaped}

-- ---- the number of an event

pub numbered_is_sound : (m : Machine) → IsSound m → IsSound (numbered m)
numbered_is_sound m s = search rules

-- ---- another store

pub with_space_is_sound : (m : Machine) (store : Store) (freed : ℕ) → IsShapedStore (size_of m) store → IsSound m → IsSound (record m { store = store; freed = freed })
with_space_is_sound m store freed shape s = search rules

-- ---- the space after a step

change_is_shaped : (r : Request) (work : Work) (m : Machine) → IsShapedStore (size_of m) m.store → IsShapedStore (size_of m) (change_by r work m).store
change_is_shaped r Read m shape = shape
change_is_shaped r (Write fua) m shape = written_is_shaped (size_of m) m.store (range_of r) shape
change_is_shaped r (Zero fua true) m shape = written_is_shaped (size_of m) m.store (range_of r) shape
change_is_shaped r (Zero fua false) m shape = zeroed_is_shaped (size_of m) (size_of m) m.store (range_of r) shape
change_is_shaped r Flush m shape = shape
change_is_shaped r (Status context one) m shape = shape

changed_is_shaped : (size : ℕ) (old : Machine) (change : Change) (new : Machine) → IsShapedStore size change.store → IsChanged old change new → IsShapedStore size new.store
changed_is_shaped size old change new shape c = search rules

fate_is_shaped : (f : Fate) (r : Request) (old new : Machine) → IsShapedStore (size_of old) old.store → SpaceBy f r old new → IsShapedStore (size_of old) new.store
fate_is_shaped (Denied errno) r old new shape c = changed_is_shaped (size_of old) old (no_change old) new shape c
fate_is_shaped Lost r old new shape c = changed_is_shaped (size_of old) old (no_change old) new shape c
fate_is_shaped Carried r old new shape c = changed_is_shaped (size_of old) old (change_by r r.work old) new (change_is_shaped r r.work old shape) c
fate_is_shaped (CarriedInPart left) r old new shape c = search rules

-- whatever a step does to the space, the store stays in shape
pub step_space_is_shaped : (t : Trouble) (old : Machine) (event : Event) (new : Machine) → IsShapedStore (size_of old) old.store → StepSpace t old event new
    → IsShapedStore (size_of old) new.store
step_space_is_shaped t old o new shape c = grind (arith, common_steps, fate_is_shaped)
