-- Plays scripts on the plain machine where nothing goes wrong, or with the troubles that are named.
use Rattle.std.specs.Prelude.{Some, ℕ, ◌+◌, List, [], ◌∷◌, replicate, map, true, false, if◌then◌else◌, ◌==◌}
use Rattle.core_events.specs.Events.{Request, Event, Guest, Monitor, Tick}
use Rattle.core_events.specs.declared.events.Work.TheVariants as work
use Rattle.core_events.specs.Answers.{Answer}
use Rattle.script_model.specs.Lines.{Line, asked, asked_to_write, drive}
use Rattle.script_model.specs.Lines as script
use Rattle.bitmap_model.specs.Granules.{granules_in}
use Rattle.image_model.specs.Space.{Hole, Store, Change, entries_in}
use Rattle.plain_model.specs.Machine.{Machine, opened}
use Rattle.plain_model.specs.Ending.{closed}
use Rattle.plain_model.specs.Actions.{Held, Target}
use Rattle.plain_model.specs.Outcome.{Trouble, no_trouble, Outcome, outcome, Fate, Denied, Lost, Carried, CarriedInPart, fate, numbered}
use Rattle.plain_model.specs.Step.{change_by, no_change}
use Rattle.plain_model.specs.Console.{Said, Gives, Replies, Ends, Silent, said_by, ends_run, printed_from, script_output}

-- ---- images

-- the clusters of a disk without data
abbrev pub empty_store : ℕ → ℕ → ℕ → Store
empty_store size cluster room = record { cluster = cluster; kinds = replicate (granules_in size cluster) Hole; tables = replicate (granules_in (granules_in size cluster) (entries_in cluster)) false; room = room }

-- a fresh source of zeros, in its first session
abbrev pub fresh : ℕ → ℕ → Machine
fresh size cluster = opened (record { start = replicate size 0; entries = [] })
    (record { epoch = 0; entries = []; store = empty_store size cluster 1000; taken = 0; given = 0 })

-- each target is a blank backup
abbrev pub blank : ℕ → ℕ → List ℕ → Held
blank size cluster name = Target true size (empty_store size cluster 1000)

-- ---- lines

abbrev pub write : ℕ → List ℕ → Line
write at bytes = script.Ask (asked_to_write at bytes)

abbrev pub read : ℕ → ℕ → Line
read at n = script.Ask (asked drive work.Read at n)

abbrev pub view : List ℕ → ℕ → ℕ → Line
view name at n = script.Ask (asked name work.Read at n)

abbrev pub zero : ℕ → ℕ → Line
zero at n = script.Ask (asked drive (work.Zero false false) at n)

abbrev pub flush : Line
flush = script.Ask (asked drive work.Flush 0 0)

abbrev pub status : List ℕ → List ℕ → ℕ → ℕ → Line
status name context at n = script.Ask (asked name (work.Status context false) at n)

abbrev pub qmp : List ℕ → Line
qmp json = script.Qmp json

-- ---- runs

abbrev pub space_by : Fate → Request → Machine → Change
space_by (Denied errno) r m = no_change m
space_by Lost r m = no_change m
space_by Carried r m = change_by r r.work m
space_by (CarriedInPart bytes) r m = no_change m

abbrev pub space_after : Trouble → Event → Machine → Change
space_after t (Guest r) m = space_by (fate t r (numbered m)) r m
space_after t (Monitor c) m = no_change m
space_after t Tick m = no_change m

abbrev pub with_change : Change → Machine → Machine
with_change c m = record m { store = c.store; freed = m.freed + c.freed }

-- one event, with its change of the space
abbrev pub played : (List ℕ → Held) → Trouble → Event → Machine → Outcome
played held t event m =
    let o : Outcome = outcome held t event m in
    record { machine = with_change (space_after t event m) o.machine; answer = o.answer }

-- answers, and the machine after them
pub record Played : Type 0 where
  pub answers : List Answer
  pub machine : Machine

-- the troubles of events by their number; any other has none
abbrev pub Troubles : Type 0
Troubles = ℕ → Trouble

abbrev pub all_well : Troubles
all_well number = no_trouble

abbrev pub and_then : Answer → Played → Played
and_then a p = record { answers = a ∷ p.answers; machine = p.machine }

abbrev pub play : (List ℕ → Held) → Troubles → List Said → Machine → Played
play held t [] m = record { answers = []; machine = m }
play held t (Gives event id ∷ said) m =
    let o : Outcome = played held (t (m.event + 1)) event m in
    and_then o.answer (if ends_run event o.answer then record { answers = []; machine = o.machine } else play held t said o.machine)
play held t (Replies reply ∷ said) m = play held t said m
play held t (Ends end ∷ said) m = record { answers = []; machine = m }
play held t (Silent ∷ said) m = play held t said m

abbrev pub play_lines : (List ℕ → Held) → List Line → Machine → Played
play_lines held lines m = play held all_well (map said_by lines) m

-- the state after the lines
abbrev pub state_after : (List ℕ → Held) → List Line → Machine → Machine
state_after held lines m = (play_lines held lines m).machine

-- what a run of the lines prints
abbrev pub output : (List ℕ → Held) → List Line → Machine → List ℕ
output held lines m =
    let p : Played = play_lines held lines m in
    script_output lines p.answers (Some (closed p.machine).notices)

-- what it prints where these troubles come, in a session that goes on from this state
abbrev pub output_amid : (List ℕ → Held) → Troubles → List Line → Machine → List ℕ
output_amid held t lines m =
    let said : List Said = map said_by lines in
    let p : Played = play held t said m in
    printed_from m.event said p.answers (Some (closed p.machine).notices)

-- the trouble comes at this event alone
abbrev pub at_event : ℕ → Trouble → Troubles
at_event n t number = if number == n then t else no_trouble

-- the state after the lines where these troubles come
abbrev pub state_amid : (List ℕ → Held) → Troubles → List Line → Machine → Machine
state_amid held t lines m = (play held t (map said_by lines) m).machine
