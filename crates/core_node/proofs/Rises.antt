-- How counts rose in an event, and that its faults are tied to them.
use Rattle.std.proofs.Common.{◌≡◌, inl, inr, ℕ, ◌+◌, ◌-◌, ◌^◌, ◌<◌, ◌≤◌, List, [], Bool, true, false, ◌&&◌, IsTrue, Option, Some, None, refl, sym, subst, ◌∙◌, arith, ltb-false, ltb-true}
use Rattle.std.specs.Prelude.{nat_lt, if◌then◌else◌, is_none}
use Rattle.std.proofs.lemmas.Bool.{cases_Bool, false≢true}
use Rattle.disk_model.specs.World.{World, Rose}
use Rattle.core_events.specs.Events.{Request, Event, Guest, Monitor, Tick}
use Rattle.core_events.specs.Answers.{Reply, Fault}
use Rattle.core_events.specs.declared.answers.Errno.TheVariants.{Io}
use Rattle.plain_model.specs.Machine.{Machine}
use Rattle.plain_model.specs.Requests.{place_of, Drive}
use Rattle.plain_model.specs.Outcome.{RequestEnd, no_trouble, fate, breaks_by, numbered}
use Rattle.plain_model.specs.Faults.{Rise, StepFaults, IsTiedAt, IsRequestTied, IsBreakTied, is_io}
use Rattle.core_node.specs.Step.{IsRise, IsRiseOf, IsRiseAt}

abbrev last : ℕ
last = 2 ^ 64 - 1

-- by how much a count rose; 1 where it can't be said
abbrev pub up : ℕ → ℕ → ℕ
up a b = if nat_lt b (2 ^ 64 - 1) then b - a else 1

abbrev pub up_at : (ℕ → ℕ) → (ℕ → ℕ) → Option ℕ → ℕ
up_at a b None = 0
up_at a b (Some f) = up (a f) (b f)

abbrev pub rise_of : World → World → Rise
rise_of old new = record { shared = up old.faults.shared new.faults.shared; reads = λ name. up_at old.faults.reads new.faults.reads (old.found name); writes = λ name. up_at old.faults.writes new.faults.writes (old.found name) }

up_is : (a b : ℕ) → IsRiseOf a b (up a b)
up_is a b = elim (cases_Bool (nat_lt b (2 ^ 64 - 1))) [
  | inl e ↦ inl (rw e refl)
  | inr e ↦ inr (ltb-false b (2 ^ 64 - 1) e)
]

up_at_is : (a b : ℕ → ℕ) (f : Option ℕ) → IsRiseAt a b f (up_at a b f)
up_at_is a b None = refl
up_at_is a b (Some f) = up_is (a f) (b f)

pub is_rise : (old new : World) → IsRise old new (rise_of old new)
is_rise old new = record {
  shared = up_is old.faults.shared new.faults.shared;
  reads = λ name. up_at_is old.faults.reads new.faults.reads (old.found name);
  writes = λ name. up_at_is old.faults.writes new.faults.writes (old.found name);
}

pub rose_up : (a b : ℕ) → Rose a b → 0 < up a b
rose_up a b rose = elim (cases_Bool (nat_lt b (2 ^ 64 - 1))) [
  | inl e ↦ rw e (below a b rose (ltb-true b (2 ^ 64 - 1) e))
  | inr e ↦ rw e (omega arith)
]
  where
    below : (a b : ℕ) → Rose a b → b < 2 ^ 64 - 1 → 0 < b - a
    below a b rose low = omega (arith, rose, low)

pub rose_at : (a b : ℕ → ℕ) (found : Option ℕ) (f : ℕ) → found ≡ Some f → Rose (a f) (b f) → 0 < up_at a b found
rose_at a b found f is rose = subst (λ (o : Option ℕ). 0 < up_at a b o) (sym is) (rose_up (a f) (b f) rose)

-- ---- faults of an event

none_counted : (b : Bool) (n : ℕ) → (if b && false then 1 else 0) ≤ n
none_counted false n = omega arith
none_counted true n = omega arith

one_counted : (b : Bool) (n : ℕ) → 0 < n → (if b then 1 else 0) ≤ n
one_counted false n some = omega arith
one_counted true n some = some

abbrev pub breaks_in : Event → Machine → Bool
breaks_in (Guest r) m = breaks_by (fate no_trouble r (numbered m)) no_trouble r.work
breaks_in (Monitor c) m = false
breaks_in Tick m = false

-- nothing went wrong, and the answer isn't EIO of a source that stood
pub quiet : (source : List ℕ) (rise : Rise) (m : Machine) (event : Event) (reply : Reply) → (is_none m.broken && is_io reply) ≡ false
    → breaks_in event m ≡ false → StepFaults source rise no_trouble m event (record { reply = reply; notices = [] })
quiet source rise m event reply none breaks = record {
  bound = rw none (omega arith);
  request = request event;
  copies = λ id n j failing here. absurd (cc);
  break = break event breaks;
  starts = λ name unread. absurd (false≢true unread);
}
  where
    request : (event : Event) → IsRequestTied rise source no_trouble m event
    request (Guest r) = λ ill. absurd (false≢true (sym ill))
    request (Monitor c) = tt
    request Tick = tt

    break : (event : Event) → breaks_in event m ≡ false → IsBreakTied rise source no_trouble m event
    break (Guest r) none = λ breaks. absurd (false≢true (sym none ∙ breaks))
    break (Monitor c) none = tt
    break Tick none = tt

-- a call on the source's file failed
pub faulty : (source : List ℕ) (rise : Rise) (end : RequestEnd) (m : Machine) (r : Request) → place_of r.way m ≡ Drive → 0 < rise.shared → 0 < rise.reads source + rise.writes source
    → (IsTrue (breaks_by (fate (record no_trouble { request = end }) r (numbered m)) (record no_trouble { request = end }) r.work) → 0 < rise.writes source)
    → StepFaults source rise (record no_trouble { request = end }) m (Guest r) (record { reply = Fault Io; notices = [] })
faulty source rise end m r place shared failed break = record {
  bound = let one = one_counted (is_none m.broken && true) rise.shared shared in omega (arith, one);
  request = λ ill. subst (IsTiedAt rise source) (sym place) failed;
  copies = λ id n j failing here. absurd (cc);
  break = break;
  starts = λ name unread. absurd (false≢true unread);
}
