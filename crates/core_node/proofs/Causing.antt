-- Why an event met a fault.
use Rattle.std.proofs.Common.{◌≡◌, [], false, None, sym, subst, ◌∙◌, arith}
use Rattle.std.specs.Prelude.{min, ◌+◌, ◌-◌, ◌^◌, IsSome}
use Rattle.std.proofs.lemmas.Bool.{false≢true}
use Rattle.disk_model.specs.World.{World, Rose, FileFailed}
use Rattle.core_events.specs.declared.answers.Errno.TheVariants.{Io}
use Rattle.core_events.specs.Events.{Event}
use Rattle.core_events.specs.Answers.{Reply, Fault, Refused}
use Rattle.plain_model.specs.Faults.{is_io}
use Rattle.core_node.specs.Standing.{Shown}
use Rattle.core_node.specs.Causes.{RequestFailed, IsDeviceFailed, IsRefusal, Causes}

-- what a device failed under was refused
is_refusal : (reply : Reply) → IsDeviceFailed reply → IsRefusal reply
is_refusal (Refused action refusal) is = _
is_refusal reply is = absurd is

-- one that breaks nothing, tells of nothing, and isn't answered with a fault of a device
pub quiet_causes : {before after : Shown} {old new : World} {event : Event} {reply : Reply} → after.broken ≡ before.broken
    → (before.broken ≡ None → is_io reply ≡ false) → (IsRefusal reply → ⊥) → after.event ≡ min (before.event + 1) (2 ^ 64 - 1) → Causes before after old new event (record { reply = reply; notices = [] })
quiet_causes {before} {reply = reply} same io unrefused number = record {
  break = λ whole broke. absurd (false≢true (subst IsSome (same ∙ whole) broke));
  io = λ whole is. absurd (false≢true (sym (io whole) ∙ is));
  failed = λ n here failing. absurd (omega (arith, here.1));
  broke = λ n here end. absurd (omega (arith, here.1));
  event_is = number;
  refused = λ is. absurd (unrefused is);
  device = λ is. absurd (unrefused (is_refusal reply is));
}

-- a request that is answered EIO where a call on the source's file failed, to a way that leads there
pub io_causes : {before after : Shown} {old new : World} {event : Event} → FileFailed before.file old new → RequestFailed before old new event
    → (before.broken ≡ None → IsSome after.broken → Rose (old.faults.writes before.file) (new.faults.writes before.file))
    → after.event ≡ min (before.event + 1) (2 ^ 64 - 1) → Causes before after old new event (record { reply = Fault Io; notices = [] })
io_causes failed request broke number = record {
  break = λ whole breaks. (failed.shared, broke whole breaks);
  io = λ whole is. request;
  failed = λ n here failing. absurd (omega (arith, here.1));
  broke = λ n here end. absurd (omega (arith, here.1));
  event_is = number;
  refused = λ is. absurd is;
  device = λ is. absurd is;
}
