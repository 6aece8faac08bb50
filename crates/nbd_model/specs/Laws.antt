-- The laws of a connection, as statements.
use Rattle.std.specs.Prelude.{◌≡◌, ◌≢◌, ℕ, ◌<◌, ◌≤◌, List, ◌++◌, length}
use Rattle.core_events.specs.declared.infos.ExportInfo.{ExportInfo}
use Rattle.nbd_model.specs.Sessions.{Session, Taken, More, Answered, Asks, HangsUp, taken_of}

-- what a whole message gives doesn't depend on the bytes that follow it: so a stream may be cut anywhere
abbrev pub MessagesAreTakenAlike : Type 0
MessagesAreTakenAlike = (exports : List ExportInfo) (s : Session) (bytes more : List ℕ) → taken_of exports s bytes ≢ More → taken_of exports s (bytes ++ more) ≡ taken_of exports s bytes

-- a message has a byte at least, and no more than are there
pub record IsWithin (used : ℕ) (bytes : List ℕ) : Type 0 where
  pub some : 0 < used
  pub within : used ≤ length bytes

abbrev pub TakesWithin : List ℕ → Taken → Type 0
TakesWithin bytes More = Unit {0}
TakesWithin bytes (Answered used sent next) = IsWithin used bytes
TakesWithin bytes (Asks used head requests) = IsWithin used bytes
TakesWithin bytes (HangsUp sent) = Unit {0}

abbrev pub MessagesTakeTheirBytes : Type 0
MessagesTakeTheirBytes = (exports : List ExportInfo) (s : Session) (bytes : List ℕ) → TakesWithin bytes (taken_of exports s bytes)
