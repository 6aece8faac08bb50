-- The laws of messages and of what is recorded of them, as statements.
use Rattle.std.specs.Prelude.{◌≡◌, ℕ, List, Bool, Some, IsOk}
use Rattle.monitor_model.specs.Commands.{order_of}
use Rattle.monitor_model.specs.Recorded.{recorded_text}

-- a message that is an order, before or after the negotiation, has a text under which it is recorded
abbrev pub AcceptedIsRecorded : Type 0
AcceptedIsRecorded = (negotiated : Bool) (message : List ℕ) → IsOk (order_of negotiated message) → (text : List ℕ) × (recorded_text message ≡ Some text)
