-- The clusters of a source: kinds, room, and what comes free.
use Rattle.std.specs.Prelude.{◌≡◌, ℕ, ◌*◌, List, [], ◌∷◌, length, map, replicate, codes, true, false, ◌%◌}
use Rattle.std.specs.List.{range_with_len}
use Rattle.script_model.specs.Lines.{Line, asked, drive}
use Rattle.script_model.specs.Lines as script
use Rattle.core_events.specs.declared.events.Work.TheVariants as work
use Rattle.bitmap_model.specs.Runs.{runs_of, reply_runs}
use Rattle.image_model.specs.Space.{Kind, Data, Hole, Zeroed}
use Rattle.plain_model.specs.Machine.{Machine, opened}
use Rattle.plain_model.specs.Outcome.{RequestEnd, Untouched, Torn, no_trouble}
use Rattle.machine_rows.specs.Play.{empty_store, blank, write, read, zero, flush, status, output, output_amid, at_event, state_after}
use Rattle.machine_rows.specs.Commands.{alone, full, cancelled, printed, returned}
use Rattle.machine_rows.specs.Writing.{allocation, zero_stored}

-- a fresh source of four clusters with room for so many more
abbrev pub with_room : ℕ → Machine
with_room room = opened (record { start = replicate 2048 0; entries = [] }) (record { epoch = 0; entries = []; store = empty_store 2048 512 room; taken = 0; given = 0 })

abbrev pub after : ℕ → List Line → Machine
after room lines = state_after (blank 2048 512) lines (with_room room)

abbrev pub PrintsIn : Machine → List Line → List (List ℕ) → Type 0
PrintsIn m lines expected = output (blank 2048 512) lines m ≡ printed expected

-- a write that goes so, where a cluster too little is left, prints these
abbrev pub PrintsFailing : RequestEnd → List (List ℕ) → Type 0
PrintsFailing end expected =
    output_amid (blank 2048 512) (at_event 1 (record no_trouble { request = end })) (write 0 (1 ∷ []) ∷ []) (with_room 1) ≡ printed expected

pub record WritesNeedRoom : Type 0 where
  -- the first cluster needs a table too, so one is too little, and nothing is changed
  pub too_little : PrintsIn (with_room 1) (write 0 (1 ∷ []) ∷ read 0 1 ∷ allocation 0 2048 ∷ [])
      (codes "error ENOSPC" ∷ codes "data 00" ∷ codes "status 2048:3" ∷ codes "ok" ∷ [])
  pub unchanged : after 1 (write 0 (1 ∷ []) ∷ []) ≡ record (with_room 1) { event = 1 }
  pub enough : after 2 (write 0 (1 ∷ []) ∷ []) ≡ record (after 2 (write 0 (1 ∷ []) ∷ [])) {
    store = record {
      cluster = 512;
      kinds = Data ∷ Hole ∷ Hole
          ∷ Hole ∷ [];
      tables = true ∷ [];
      room = 0;
    };
    freed = 0;
  }
  -- the test for room reads tables, so a fault may come in its place; what has no room is never written in part
  pub fault_first : PrintsFailing Untouched (codes "error EIO" ∷ codes "ok" ∷ [])
  pub never_torn : PrintsFailing (Torn (1 ∷ [])) (codes "error ENOSPC" ∷ codes "ok" ∷ [])
  -- a cluster that is stored needs none
  pub in_place : PrintsIn (with_room 2) (write 0 (1 ∷ []) ∷ write 1 (2 ∷ []) ∷ write 511 (3 ∷ 4 ∷ []) ∷ read 0 2 ∷ [])
      (codes "ok" ∷ codes "ok" ∷ codes "error ENOSPC" ∷ codes "data 0102" ∷ codes "ok" ∷ [])
  -- what a zero frees is no room yet
  pub freed : PrintsIn (with_room 2) (write 0 (1 ∷ []) ∷ write 512 (2 ∷ []) ∷ zero 0 512 ∷ write 512 (2 ∷ []) ∷ read 0 1 ∷ [])
      (codes "ok" ∷ codes "error ENOSPC" ∷ codes "ok" ∷ codes "error ENOSPC" ∷ codes "data 00" ∷ codes "ok" ∷ [])
  pub counted_free : (after 2 (write 0 (1 ∷ []) ∷ zero 0 512 ∷ [])).freed ≡ 1
  pub counted_room : (after 2 (write 0 (1 ∷ []) ∷ zero 0 512 ∷ [])).store.room ≡ 0
  -- zeros need no room, but those that leave no hole
  pub zeros : PrintsIn (with_room 0) (zero 0 2048 ∷ zero_stored 0 512 ∷ flush ∷ []) (codes "ok" ∷ codes "error ENOSPC" ∷ codes "ok" ∷ codes "ok" ∷ [])
  -- a range that leaves the disk is told first
  pub order : PrintsIn (with_room 0) (write 2047 (1 ∷ 2 ∷ []) ∷ write 2047 (1 ∷ []) ∷ []) (codes "error EINVAL" ∷ codes "error ENOSPC" ∷ codes "ok" ∷ [])
  -- without room nothing is copied or marked
  pub no_copy : PrintsIn (with_room 1) (alone (full "j0" "t0") ∷ write 0 (1 ∷ []) ∷ [])
      (returned ∷ codes "error ENOSPC" ∷ codes "ok" ∷ cancelled "j0" "2048" "0" "3" ∷ [])

-- a disk of 65 clusters, so with two tables
abbrev pub two_tables : Machine
two_tables = opened (record { start = replicate 33280 0; entries = [] })
    (record {
      epoch = 0;
      entries = [];
      store = record {
        cluster = 512;
        kinds = replicate 65 Hole;
        tables = false ∷ false
            ∷ [];
        room = 1000;
      };
      taken = 3;
      given = 2;
    })

-- a source that another program wrote, with a cluster that is kept for zeros
abbrev pub mixed : Machine
mixed = opened (record { start = replicate 2048 0; entries = [] })
    (record {
      epoch = 0;
      entries = [];
      store = record {
        cluster = 512;
        kinds = Zeroed ∷ Hole ∷ Data ∷ Zeroed ∷ [];
        tables = true
            ∷ [];
        room = 10;
      };
      taken = 0;
      given = 0;
    })

abbrev pub kinds_after : List Line → List Kind
kinds_after lines = (state_after (blank 2048 512) lines mixed).store.kinds

pub record ClustersHaveKinds : Type 0 where
  -- an opening takes from the room and gives back
  pub opened_room : two_tables.store.room ≡ 997
  pub opened_freed : two_tables.freed ≡ 2
  -- a write across the tables' border needs two clusters and two tables, and the next in each table a cluster alone
  pub both_tables : (state_after (blank 33280 512) (write 32767 (1 ∷ 2 ∷ []) ∷ []) two_tables).store.room ≡ 993
  pub one_more : (state_after (blank 33280 512) (write 32767 (1 ∷ 2 ∷ []) ∷ write 0 (1 ∷ []) ∷ []) two_tables).store.room ≡ 992
  -- what reads as zeros and has a cluster is told apart from holes
  pub told : PrintsIn mixed (allocation 0 2048 ∷ allocation 100 1000 ∷ status drive (codes "base:allocation") 512 0
      ∷ status drive (codes "base:allocation") 2047 2 ∷ status drive (codes "base") 0 1 ∷ [])
      (codes "status 512:2 512:3 512:0 512:2" ∷ codes "status 412:2 512:3 76:0" ∷ codes "error EINVAL" ∷ codes "error EINVAL" ∷ codes "error EINVAL"
      ∷ codes "ok" ∷ [])
  -- or the first run alone where one is asked
  pub first_alone : PrintsIn mixed (script.Ask (asked drive (work.Status (codes "base:allocation") true) 100 1000) ∷ [])
      (codes "status 412:2" ∷ codes "ok" ∷ [])
  -- a write gives it a cluster of its own and frees the kept one
  pub written : kinds_after (write 0 (1 ∷ []) ∷ []) ≡ Data ∷ Hole ∷ Data ∷ Zeroed ∷ []
  pub written_freed : (state_after (blank 2048 512) (write 0 (1 ∷ []) ∷ []) mixed).freed ≡ 1
  pub written_room : (state_after (blank 2048 512) (write 0 (1 ∷ []) ∷ []) mixed).store.room ≡ 9
  -- a zero makes holes of whole clusters and leaves others
  pub zeroed : kinds_after (zero 0 1537 ∷ []) ≡ Hole ∷ Hole ∷ Hole ∷ Zeroed ∷ []
  pub zeroed_freed : (state_after (blank 2048 512) (zero 0 1537 ∷ []) mixed).freed ≡ 2
  -- a reply has 1,024 runs at most
  pub most_runs : length (reply_runs false (runs_of 512 (map (λ k. k % 2) (range_with_len 0 1030)) (record { at = 0; size = 1030 * 512 }))) ≡ 1024
