-- A guest request keeps a state sound.
use Rattle.std.proofs.Common.{rules}
use Rattle.std.proofs.Common.{◌≡◌, ℕ, ◌+◌, ◌≤◌, List, Bool, All, length, refl, ◌∙◌}
use Rattle.std.proofs.lemmas.Bool.{cond_both}
use Rattle.span_algebra.specs.Timelines.{Extent}
use Rattle.core_events.specs.Events.{Request}
use Rattle.core_events.specs.declared.answers.Errno.TheVariants.{Io}
use Rattle.core_events.specs.Answers.{Reply, Done, Fault}
use Rattle.plain_model.specs.Machine.{Machine, size_of, runners}
use Rattle.plain_model.specs.Requests.{HasBytes, is_write, range_of, granted}
use Rattle.plain_model.specs.Ending.{leave}
use Rattle.plain_model.specs.Outcome.{Trouble, Outcome, answered, after_copying, after_writing, Fate, Denied, Lost, Carried, CarriedInPart, bytes_of, fate, by_fate, or_break, guest}
use Rattle.plain_model.specs.Step.{IsLeft}
use Rattle.plain_model.specs.Sound.{AreNumbers, IsSound}
use Rattle.plain_model.proofs.Leaving.{leaving_numbers, after_break_is_sound}
use Rattle.plain_model.proofs.Copying.{IsClear, after_copying_keeps, after_copying_is_clear}
use Rattle.plain_model.proofs.Sizes.{copying_size}
use Rattle.plain_model.proofs.Writing.{marking_is_sound}
use Rattle.plain_model.proofs.Fates.{IsWritable, granted_is_writable, IsGranted, granted_fate, HasTorn, broken_has_torn}

-- ---- a write

copying_numbers : (t : Trouble) (e : Extent) (m : Machine) → AreNumbers m → AreNumbers (after_copying t e m).machine
unfolding after_copying
copying_numbers t e m n = search (rules, leaving_numbers)

copying_is_sound : (t : Trouble) (e : Extent) (m : Machine) → IsSound m → IsSound (after_copying t e m).machine
unfolding after_copying leave
copying_is_sound t e m s = search (rules, after_copying_keeps, copying_numbers)

copying_is_clear : (t : Trouble) (e : Extent) (m : Machine) → IsSound m → All (IsClear e) (runners (after_copying t e m).machine)
copying_is_clear t e m s = after_copying_is_clear m.history t e m s.state

pub writing_is_sound : (t : Trouble) (e : Extent) (bytes : List ℕ) (reply : Reply) (m : Machine) → length bytes ≡ e.size → e.at + e.size ≤ size_of m → IsSound m
    → IsSound (after_writing t e bytes reply m).machine
writing_is_sound t e bytes reply m long inside s = search (rules, marking_is_sound, copying_size, copying_is_clear, copying_is_sound)

-- ---- a request

carried_is_sound : (t : Trouble) (r : Request) (m : Machine) → HasBytes r r.work → IsGranted t r m Carried → IsSound m → IsSound (by_fate Carried t r m).machine
carried_is_sound t r m has g s =
    cond_both (is_write r.work) (after_writing t (range_of r) (bytes_of r r.work) Done m) (answered (granted r r.work m) m) (λ (o : Outcome). IsSound o.machine)
    (λ writes.
    let w : IsWritable r m = granted_is_writable r m g.none has writes in
    writing_is_sound t (range_of r) (bytes_of r r.work) Done m w.long w.inside s)
    (λ _. s)

broken_is_sound : (t : Trouble) (r : Request) (m : Machine) (left : List ℕ) → HasBytes r r.work → IsLeft t.request r m → IsGranted t r m (CarriedInPart left) → IsSound m
    → IsSound (by_fate (CarriedInPart left) t r m).machine
broken_is_sound t r m left has torn g s =
    let found : HasTorn r left = broken_has_torn t.request r m left torn g.by in
    let w : IsWritable r m = granted_is_writable r m g.none has found.writes in
    writing_is_sound t (range_of r) left (Fault Io) m (found.long ∙ w.long) w.inside s

by_fate_is_sound : (t : Trouble) (r : Request) (m : Machine) (f : Fate) → fate t r m ≡ f → HasBytes r r.work → IsLeft t.request r m → IsSound m
    → IsSound (by_fate f t r m).machine
by_fate_is_sound t r m (Denied errno) is has torn s = s
by_fate_is_sound t r m Lost is has torn s = s
by_fate_is_sound t r m Carried is has torn s = carried_is_sound t r m has (granted_fate t r m Carried is refl) s
by_fate_is_sound t r m (CarriedInPart left) is has torn s = broken_is_sound t r m left has torn (granted_fate t r m (CarriedInPart left) is refl) s

or_break_is_sound : (breaks : Bool) (o : Outcome) → IsSound o.machine → IsSound (or_break breaks o).machine
or_break_is_sound breaks o s = search (rules, cond_both, after_break_is_sound)

pub guest_is_sound : (t : Trouble) (r : Request) (m : Machine) → HasBytes r r.work → IsLeft t.request r m → IsSound m → IsSound (guest t r m).machine
unfolding guest
guest_is_sound t r m has torn s = search (rules, or_break_is_sound, by_fate_is_sound)
