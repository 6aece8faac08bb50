-- Events without memory: what the core takes. Contracts see the parts of an event so as they are declared, but for a
-- request's bytes.
use Rattle.std.specs.Prelude.{ℕ, List}
use Rattle.core_events.specs.declared.events.Way.{Way}
use Rattle.core_events.specs.declared.events.Work.{Work}
use Rattle.core_events.specs.declared.commands.Command.{Command}

-- a guest's request; offset and length are in bytes
pub record Request : Type 0 where
  pub way : Way
  pub work : Work
  pub offset : ℕ
  pub length : ℕ
  pub bytes : List ℕ

pub data Event : Type 0 where
  Guest : (request : Request) → Event
  Monitor : (command : Command) → Event
  Tick : Event
