-- A depot that tells its counts of faults and its names alone.
use Rattle.std.specs.Prelude.{ℕ, List, [], length, get_or, map, None, false, string_bytes}
use Rattle.std.proofs.Common.{refl}
use Rattle.std.proofs.lemmas.Option.{none-some}
use Rattle.disk_model.specs.World.{World, Wire, IsSound}
use Rattle.qback.specs.declared.table.Opened.{Opened}
use Rattle.qback.specs.declared.table.Table.{Table}

-- a wire with nothing on it
abbrev pub no_wire : Wire
no_wire = record {
  tells = false;
  turns = false;
  takings = [];
  sent = λ connection. [];
  hung_up = λ connection. None;
  clock = [];
  faults = 0;
}

-- what entries and counts tell
abbrev pub told : List Opened → ℕ → ℕ → World
told entries faults print_faults = record {
  tells = false;
  outcomes = false;
  found = λ name. None;
  given = length entries;
  named = λ f. get_or (map (λ e. string_bytes e.name) entries) f [];
  seen = λ f. [];
  now = 0;
  past = λ k f. [];
  prints = false;
  printed = [];
  faults = record {
    shared = faults;
    reads = λ f. get_or (map (λ e. e.read_faults) entries) f 0;
    writes = λ f. get_or (map (λ e. e.write_faults) entries) f 0;
    prints = print_faults;
  };
  wire = no_wire;
}

-- what a table tells
abbrev pub real : Table → World
real table = told table.entries.items table.faults table.print_faults

-- it keeps the laws of a depot
pub real_sound : (table : Table) → IsSound (real table)
real_sound table = record {
  grown = λ k f. tt;
  latest = λ f. tt;
  told = λ k f. tt;
  there = λ name f told found. absurd (none-some f found);
  absent = λ f told nameless. refl;
  apart = λ a b f first second. absurd (none-some f first);
}
