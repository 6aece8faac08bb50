use Rattle.std.proofs.Common.{◌≡◌, ℕ, ◌+◌, ◌*◌, ◌%◌, ◌^◌, ◌≤◌, List, ◌∷◌, length, sym, ◌∙◌, ap, subst, arith}
use Rattle.std.proofs.Math.Nat.{pow-le-pow_right}
use Rattle.qc_layout.specs.Disks.{place_of}
use Rattle.cluster_pool.specs.Pool.{IsReady}
use Rattle.image_model.specs.Clusters.{Shape, IsSafe, Moves, Reads}
use Rattle.image_model.specs.Runs.{LeavesRest}
use Rattle.image_steps.proofs.Storing.{rest_of}
use Rattle.qc_alloc.specs.Allocator.{Allocator, Allocates, HandsOut, StandsFrom}
use Rattle.alloc_tests.specs.Caller.{IsHole, IsFull}
use Rattle.alloc_tests.proofs.Filling.{shift_at, grown_more, grown_leaves, speaks_raised, speaks_taken, speaks_given, taken_spoken, given_stands}
use Rattle.alloc_tests.proofs.Filling.{filled_since, filled_stands, filled_leaves, filled_shows, filled_full, filled_stored}
use Rattle.alloc_tests.proofs.caller.fill_hole.Given.{Over}
use Rattle.alloc_tests.proofs.caller.fill_hole.Goals.{After-write_run}
use Rattle.alloc_tests.proofs.caller.fill_hole.Goals as goal

pub returns-in_err-top_up-clause-moves : goal.returns-in_err-top_up-clause-moves
returns-in_err-top_up-clause-moves g c s disks first q i j hole hands =
    grown_more c.requires.file c.top_up.ensures.grows hands ((g.D.Outside.world c.top_up.new.depot).seen c.args.file.0)

pub returns-in_err-top_up-clause-leaves : goal.returns-in_err-top_up-clause-leaves
returns-in_err-top_up-clause-leaves g c s disks first q i j hole hands al told = rest_of (grown_leaves {disks = disks} {first = first} c.requires.file c.top_up.ensures.grows al told)

pub returns-in_err-top_up-clause-spoken : goal.returns-in_err-top_up-clause-spoken
returns-in_err-top_up-clause-spoken g c s disks first q i j hole hands al told =
    speaks_raised c.args.clusters.now.pool c.top_up.new.self.pool (λ k. IsFull s k c.args.bytes.now ((g.D.Outside.world c.top_up.new.depot).seen c.args.file.0)) c.top_up.ensures.pool

pub overflow_add-at : goal.overflow_add-at
overflow_add-at g c =
    let bits = c.top_up.ensures.pool.bits ∙ c.requires.bits in
    let ready = c.take_ready-index.ensures.ready in
    omega (arith, (shift_at c.args.cluster_bits c.take_ready-index.result (subst (λ (b : ℕ). b ≤ 21) bits c.room-room.ensures.allocator.pool.high) (omega (arith, ready.reach))).1)

pub write_run-requires-clause-data_end : goal.write_run-requires-clause-data_end
write_run-requires-clause-data_end g c =
    let bits = c.top_up.ensures.pool.bits ∙ c.requires.bits in
    let ready = c.take_ready-index.ensures.ready in
    let high = subst (λ (b : ℕ). b ≤ 21) bits c.room-room.ensures.allocator.pool.high in
    let small : 2 ^ c.args.cluster_bits ≤ 2 ^ 21 = pow-le-pow_right {n = 2} (omega arith) {i = c.args.cluster_bits} {j = 21} high in
    omega (arith, (shift_at c.args.cluster_bits c.take_ready-index.result high (omega (arith, ready.reach))).1, small, c.requires.whole)

pub give_back-requires : goal.give_back-requires
give_back-requires g c = taken_spoken _ _ _ c.room-room.ensures.allocator.pool c.take_ready-index.ensures.ready c.take_ready-index.ensures.taken

-- ---- after the write, whatever it answered

module _ (g : Over) (c : After-write_run g) where
  bits : c.top_up.new.self.pool.bits ≡ c.args.cluster_bits
  bits = c.top_up.ensures.pool.bits ∙ c.requires.bits

  ready : IsReady c.top_up.new.self.pool c.take_ready-index.result
  ready = c.take_ready-index.ensures.ready

  at : (c.take_ready-index.result * 2 ^ c.args.cluster_bits % 18446744073709551616 ≡ place_of c.args.cluster_bits c.take_ready-index.result)
      × (c.take_ready-index.result * 2 ^ c.args.cluster_bits % 18446744073709551616 ≤ 2251799813685248)
  at = shift_at c.args.cluster_bits c.take_ready-index.result (subst (λ (b : ℕ). b ≤ 21) bits c.room-room.ensures.allocator.pool.high) (omega (arith, ready.reach))

  at_is : c.take_ready-index.result * 2 ^ c.args.cluster_bits % 18446744073709551616 ≡ place_of c.top_up.new.self.pool.bits c.take_ready-index.result
  at_is = at.0 ∙ ap (λ (b : ℕ). place_of b c.take_ready-index.result) (sym bits)

  long : length c.args.bytes.now ≡ 2 ^ c.top_up.new.self.pool.bits
  long = c.requires.whole ∙ ap (λ (b : ℕ). 2 ^ b) (sym bits)

  out : (first : ℕ) → HandsOut first c.args.clusters.now → (first ≤ c.take_ready-index.result) × HandsOut (c.take_ready-index.result + 1) c.take_ready-index.new.self
  out first hands = c.take_ready-index.ensures.hands first (c.top_up.ensures.grows.hands first hands)

-- where the image stands from, and that nothing else of the guest's changes
moved : (g : Over) (c : After-write_run g) (s : Shape) (disks : List (List ℕ)) (first q i j : ℕ) → IsHole s q i j c.args.spot c.args.file.0 (g.D.Outside.world c.args.depot.now) → HandsOut first c.args.clusters.now
    → Moves c.args.file.0 (IsSafe s ((g.D.Outside.world c.write_run.new.depot).seen c.args.file.0 ∷ disks)) (Allocates s disks first c.args.clusters.now)
    (StandsFrom s ((g.D.Outside.world c.write_run.new.depot).seen c.args.file.0 ∷ disks) c.take_ready-index.new.self) (g.D.Outside.world c.args.depot.now) (g.D.Outside.world c.write_run.new.depot)
moved g c s disks first q i j hole hands = record {
  since = λ al. filled_since c.args.bytes.now c.requires.file c.top_up.ensures.grows (c.in_ok-top_up.ensures.puts (λ same. cc)).writes c.room-room.ensures.allocator c.take_ready-index.ensures.taken (ready g c)
      c.take_ready-index.ensures.same c.prepared_is_clean.ensures (at_is g c) (at g c).1 (long g c) c.to_be_bytes-entry.ensures hole (out g c first hands) al c.write_run.ensures.puts.writes (g.met.D.Depot.sound _) c.write_run.ensures.moves c.write_run.ensures.rows;
  stands = λ al. filled_stands c.args.bytes.now c.requires.file c.top_up.ensures.grows (c.in_ok-top_up.ensures.puts (λ same. cc)).writes c.room-room.ensures.allocator c.take_ready-index.ensures.taken (ready g c)
      c.take_ready-index.ensures.same c.prepared_is_clean.ensures (at_is g c) (at g c).1 (long g c) c.to_be_bytes-entry.ensures hole (out g c first hands) al c.write_run.ensures.puts.writes (g.met.D.Depot.sound _) c.write_run.ensures.moves c.write_run.ensures.rows;
}

left : (g : Over) (c : After-write_run g) (s : Shape) (disks : List (List ℕ)) (first q i j : ℕ) → IsHole s q i j c.args.spot c.args.file.0 (g.D.Outside.world c.args.depot.now) → HandsOut first c.args.clusters.now
    → Reads c.args.file.0 (Allocates s disks first c.args.clusters.now) (LeavesRest s i j 1) (g.D.Outside.world c.args.depot.now) (g.D.Outside.world c.write_run.new.depot)
left g c s disks first q i j hole hands al told =
    filled_leaves c.args.bytes.now c.requires.file c.top_up.ensures.grows (c.in_ok-top_up.ensures.puts (λ same. cc)).writes c.room-room.ensures.allocator c.take_ready-index.ensures.taken (ready g c)
    c.take_ready-index.ensures.same c.prepared_is_clean.ensures (at_is g c) (at g c).1 (long g c) c.to_be_bytes-entry.ensures hole (out g c first hands) al c.write_run.ensures.puts.writes (g.met.D.Depot.sound _) c.write_run.ensures.moves c.write_run.ensures.rows c.write_run.ensures.leaves told

pub returns-in-Ok-clause-moves : goal.returns-in-Ok-clause-moves
returns-in-Ok-clause-moves g c s disks first q i j hole hands = moved g (goal.at.returns-in-Ok-clause-moves g c).After-write_run s disks first q i j hole hands

pub returns-in-Ok-clause-leaves : goal.returns-in-Ok-clause-leaves
returns-in-Ok-clause-leaves g c s disks first q i j hole hands = left g (goal.at.returns-in-Ok-clause-leaves g c).After-write_run s disks first q i j hole hands

pub returns-in-Ok-clause-shows : goal.returns-in-Ok-clause-shows
returns-in-Ok-clause-shows g d s disks first q i j hole hands al told =
    let c = (goal.at.returns-in-Ok-clause-shows g d).After-write_run in
    filled_shows c.args.bytes.now c.requires.file c.top_up.ensures.grows (c.in_ok-top_up.ensures.puts (λ same. cc)).writes c.room-room.ensures.allocator c.take_ready-index.ensures.taken (ready g c)
    c.take_ready-index.ensures.same c.prepared_is_clean.ensures (at_is g c) (at g c).1 (long g c) c.to_be_bytes-entry.ensures hole (out g c first hands) al c.write_run.ensures.puts.writes (g.met.D.Depot.sound _) c.write_run.ensures.moves c.write_run.ensures.rows d.in-Ok.ensures.stored told

pub returns-in-Ok-clause-spoken : goal.returns-in-Ok-clause-spoken
returns-in-Ok-clause-spoken g d s disks first q i j hole hands al told =
    let c = (goal.at.returns-in-Ok-clause-spoken g d).After-write_run in
    let full = filled_stored c.args.bytes.now c.requires.file c.top_up.ensures.grows (c.in_ok-top_up.ensures.puts (λ same. cc)).writes c.room-room.ensures.allocator c.take_ready-index.ensures.taken (ready g c)
    c.take_ready-index.ensures.same c.prepared_is_clean.ensures (at_is g c) (at g c).1 (long g c) c.to_be_bytes-entry.ensures hole (out g c first hands) al c.write_run.ensures.puts.writes (g.met.D.Depot.sound _) c.write_run.ensures.moves c.write_run.ensures.rows d.in-Ok.ensures.stored told in
    speaks_taken c.args.clusters.now.pool c.top_up.new.self.pool c.take_ready-index.new.self.pool (λ k. IsFull s k c.args.bytes.now ((g.D.Outside.world c.write_run.new.depot).seen c.args.file.0)) _
    c.top_up.ensures.pool c.take_ready-index.ensures.taken full

pub returns-in-Err-Data-clause-moves : goal.returns-in-Err-Data-clause-moves
returns-in-Err-Data-clause-moves g d s disks first q i j hole hands =
    let c = (goal.at.returns-in-Err-Data-clause-moves g d).After-write_run in
    let moves = moved g c s disks first q i j hole hands in
    record { since = moves.since; stands = λ al. given_stands c.take_ready-index.new.self _ _ d.give_back.ensures (moves.stands al) }

pub returns-in-Err-Data-clause-leaves : goal.returns-in-Err-Data-clause-leaves
returns-in-Err-Data-clause-leaves g c s disks first q i j hole hands = left g (goal.at.returns-in-Err-Data-clause-leaves g c).After-write_run s disks first q i j hole hands

pub returns-in-Err-Data-clause-spoken : goal.returns-in-Err-Data-clause-spoken
returns-in-Err-Data-clause-spoken g c s disks first q i j hole hands al told =
    speaks_given c.args.clusters.now.pool c.top_up.new.self.pool c.take_ready-index.new.self.pool _ (λ k. IsFull s k c.args.bytes.now ((g.D.Outside.world c.write_run.new.depot).seen c.args.file.0)) _
    c.top_up.ensures.pool c.take_ready-index.ensures.taken (ap (λ (a : Allocator). a.pool) c.give_back.ensures)

pub returns-in-Err-Entries-clause-moves : goal.returns-in-Err-Entries-clause-moves
returns-in-Err-Entries-clause-moves g c s disks first q i j hole hands = moved g (goal.at.returns-in-Err-Entries-clause-moves g c).After-write_run s disks first q i j hole hands

pub returns-in-Err-Entries-clause-leaves : goal.returns-in-Err-Entries-clause-leaves
returns-in-Err-Entries-clause-leaves g c s disks first q i j hole hands = left g (goal.at.returns-in-Err-Entries-clause-leaves g c).After-write_run s disks first q i j hole hands

pub returns-in-Err-Entries-clause-spoken : goal.returns-in-Err-Entries-clause-spoken
returns-in-Err-Entries-clause-spoken g d s disks first q i j hole hands al told =
    let c = (goal.at.returns-in-Err-Entries-clause-spoken g d).After-write_run in
    let full = filled_full c.args.bytes.now c.requires.file c.top_up.ensures.grows (c.in_ok-top_up.ensures.puts (λ same. cc)).writes c.room-room.ensures.allocator c.take_ready-index.ensures.taken (ready g c)
    c.take_ready-index.ensures.same c.prepared_is_clean.ensures (at_is g c) (at g c).1 (long g c) c.to_be_bytes-entry.ensures hole (out g c first hands) al c.write_run.ensures.puts.writes (g.met.D.Depot.sound _) c.write_run.ensures.moves c.write_run.ensures.rows (d.in-Err-Entries.ensures.held cc) told in
    speaks_taken c.args.clusters.now.pool c.top_up.new.self.pool c.take_ready-index.new.self.pool (λ k. IsFull s k c.args.bytes.now ((g.D.Outside.world c.write_run.new.depot).seen c.args.file.0)) _
    c.top_up.ensures.pool c.take_ready-index.ensures.taken full
