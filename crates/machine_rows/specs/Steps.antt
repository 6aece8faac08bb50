-- Steps that the machine may take.
use Rattle.std.specs.Prelude.{[], ◌∷◌, codes, replicate, true}
use Rattle.script_model.specs.Lines.{asked, asked_to_write, drive}
use Rattle.core_events.specs.Events.{Event, Guest}
use Rattle.core_events.specs.declared.events.Work.TheVariants as work
use Rattle.core_events.specs.Answers.{Answer, Done}
use Rattle.image_model.specs.Space.{Hole}
use Rattle.plain_model.specs.Machine.{Machine}
use Rattle.plain_model.specs.Faults.{Rise}
use Rattle.plain_model.specs.Step.{Step}
use Rattle.machine_rows.specs.Play.{blank, write, zero}
use Rattle.machine_rows.specs.Commands.{alone, add_b0}
use Rattle.machine_rows.specs.Space.{after}

-- no count rises
abbrev pub quiet : Rise
quiet = record { shared = 0; reads = λ name. 0; writes = λ name. 0 }

abbrev pub done : Answer
done = record { reply = Done; notices = [] }

abbrev pub writing : Event
writing = Guest (asked_to_write 512 (7 ∷ []))

abbrev pub flushing : Event
flushing = Guest (asked drive work.Flush 0 0)

-- after a zero one cluster is free and no room
abbrev pub freed : Machine
freed = after 2 (write 0 (1 ∷ []) ∷ zero 0 512 ∷ [])

abbrev pub with_bitmap : Machine
with_bitmap = after 1000 (alone add_b0 ∷ [])

pub record StepsMayBeTaken : Type 0 where
  -- a write that goes well
  pub write : Step (codes "s") (blank 2048 512) quiet with_bitmap writing done (after 1000 (alone add_b0 ∷ write 512 (7 ∷ []) ∷ []))
  -- what was freed may become room at any event, or stay as it is
  pub room_stays : Step (codes "s") (blank 2048 512) quiet freed flushing done (record freed { event = 3 })
  pub room_moves : Step (codes "s") (blank 2048 512) quiet freed flushing done
      (record freed { event = 3; store = record { cluster = 512; kinds = replicate 4 Hole; tables = true ∷ []; room = 1 }; freed = 0 })
