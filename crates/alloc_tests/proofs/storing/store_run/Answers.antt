use Rattle.std.proofs.Common.{◌≡◌, ℕ, ◌*◌, ◌+◌, ◌%◌, ◌^◌, ◌≤◌, List, length, IsTrue, sym, ◌∙◌, ap, subst, arith}
use Rattle.disk_model.specs.World.{World}
use Rattle.qc_layout.specs.Disks.{place_of}
use Rattle.image_model.specs.Clusters.{Shape, IsSafe, IsStanding, Moves}
use Rattle.image_model.specs.Runs.{IsFilling, HasData}
use Rattle.cluster_pool.specs.Pool.{Pool}
use Rattle.qc_alloc.specs.Allocator.{Allocates, HandsOut}
use Rattle.qc_alloc.specs.Growing.{SparesClaimed}
use Rattle.qc_alloc.specs.Laws.{CanBeUsed}
use Rattle.alloc_tests.specs.Storing.{AllocatesSome}
use Rattle.disk_model.proofs.Moments.{since_on}
use Rattle.alloc_tests.proofs.Stored.{filling, stands1, al2, wrote_since, data_stays, moved_some, shifted, long_in, bits_same, writes_by, place_at}
use Rattle.alloc_tests.proofs.storing.store_run.Given.{Over}
use Rattle.alloc_tests.proofs.storing.store_run.Goals.{After-write_data, After-take_run-2}
use Rattle.alloc_tests.proofs.storing.store_run.Goals as goal

pub returns-in_err-first-clause-moves : goal.returns-in_err-first-clause-moves
returns-in_err-first-clause-moves g c s disks first hands =
    moved_some c.requires.file c.take_run.ensures.grows first

pub write_data-requires-clause-end : goal.write_data-requires-clause-end
write_data-requires-clause-end g c =
    let low = (shifted c.args.clusters.now c.take_run.new.self c.args.count c.in_ok-first.first c.args.cluster_bits c.in_ok-first.ensures.takes c.requires.bits c.room-room.ensures.allocator c.requires.some).1 in
    omega (arith, low, c.requires.short)

-- after the write, whatever it answered
module _ (g : Over) (c : After-write_data g) (s : Shape) (disks : List (List ℕ)) (low : ℕ) (hands : HandsOut low c.args.clusters.now) where
  abbrev w0 : World
  w0 = g.D.Outside.world c.args.depot.now

  abbrev w1 : World
  w1 = g.D.Outside.world c.take_run.new.depot

  abbrev w2 : World
  w2 = g.D.Outside.world c.write_data.new.depot

  abbrev past : ℕ
  past = c.in_ok-first.first + c.args.count

  abbrev last : ℕ
  last = c.take_run.new.self.pool.prepared

  at_is : c.in_ok-first.first * 2 ^ c.args.cluster_bits % 18446744073709551616 ≡ place_of c.take_run.new.self.pool.bits c.in_ok-first.first
  at_is = (shifted c.args.clusters.now c.take_run.new.self c.args.count c.in_ok-first.first c.args.cluster_bits c.in_ok-first.ensures.takes c.requires.bits c.room-room.ensures.allocator c.requires.some).0

  long : length c.args.bytes.now ≤ c.args.count * 2 ^ c.take_run.new.self.pool.bits
  long = long_in c.args.clusters.now c.take_run.new.self c.args.count c.in_ok-first.first c.args.cluster_bits (length c.args.bytes.now) c.in_ok-first.ensures.takes c.requires.bits c.requires.long

  stood : Allocates s disks low c.args.clusters.now w0 → IsStanding s disks low last c.args.file.0 w1
  stood al = stands1 c.args.bytes.now c.requires.file c.take_run.ensures.grows c.room-room.ensures.allocator c.in_ok-first.ensures.takes c.requires.some c.prepared_is_clean.ensures at_is long hands al

  filled : Allocates s disks low c.args.clusters.now w0 → IsTrue w1.tells → IsFilling s low last c.in_ok-first.first c.args.count (c.in_ok-first.first * 2 ^ c.args.cluster_bits % 18446744073709551616) (length c.args.bytes.now) c.args.file.0 w1
  filled al = filling c.args.bytes.now c.requires.file c.take_run.ensures.grows c.room-room.ensures.allocator c.in_ok-first.ensures.takes c.requires.some c.prepared_is_clean.ensures at_is long hands al

  next : Allocates s disks low c.args.clusters.now w0 → Allocates s disks past c.take_run.new.self w2
  next al = al2 c.args.bytes.now c.requires.file c.take_run.ensures.grows c.room-room.ensures.allocator c.in_ok-first.ensures.takes c.requires.some c.prepared_is_clean.ensures at_is long hands al
      c.write_data.ensures.puts.writes
      (λ told. c.write_data.ensures.moves s disks low last c.in_ok-first.first c.args.count (filled al told))
      (λ told. (c.write_data.ensures.rows s disks low last c.in_ok-first.first c.args.count (filled al told) (stood al) told).1)

  file1 : c.take_run.new.self.file ≡ c.args.file.0
  file1 = c.take_run.ensures.grows.file ∙ c.requires.file

  wrote : Moves c.args.file.0 (IsSafe s disks) (Allocates s disks low c.args.clusters.now) (Allocates s disks past c.take_run.new.self) w0 w2
  wrote = record {
    since = λ al. since_on w0.now c.args.file.0 (IsSafe s disks) c.write_data.ensures.puts.writes
        ((moved_some {s = s} {disks = disks} c.requires.file c.take_run.ensures.grows low).since al)
        (wrote_since c.args.bytes.now c.requires.file c.take_run.ensures.grows c.room-room.ensures.allocator c.in_ok-first.ensures.takes c.requires.some c.prepared_is_clean.ensures at_is long hands al
        c.write_data.ensures.puts.writes
        (λ told. c.write_data.ensures.moves s disks low last c.in_ok-first.first c.args.count (filled al told))
        (λ told. (c.write_data.ensures.rows s disks low last c.in_ok-first.first c.args.count (filled al told) (stood al) told).1)
        (g.met.D.Depot.sound _));
    stands = next;
  }

pub returns-in_err-write_data-clause-moves : goal.returns-in_err-write_data-clause-moves
returns-in_err-write_data-clause-moves g c s disks low hands =
    let moves = wrote g (goal.at.returns-in_err-write_data-clause-moves g c).After-write_data s disks low hands in
    record { since = moves.since; stands = λ al. (_, moves.stands al) }

-- another run, whatever the call answers
module _ (g : Over) (c : After-take_run-2 g) (s : Shape) (disks : List (List ℕ)) (low : ℕ)
    (first : Moves c.args.file.0 (IsSafe s disks) (Allocates s disks low c.args.clusters.now) (Allocates s disks (c.in_ok-first.first + c.args.count) c.take_run.new.self) (g.D.Outside.world c.args.depot.now) (g.D.Outside.world c.write_data.new.depot)) where
  file_on : c.take_run.new.self.file ≡ c.args.file.0
  file_on = c.take_run.ensures.grows.file ∙ c.requires.file

  both : Moves c.args.file.0 (IsSafe s disks) (Allocates s disks low c.args.clusters.now) (AllocatesSome s disks c.take_run-2.new.self) (g.D.Outside.world c.args.depot.now) (g.D.Outside.world c.take_run-2.new.depot)
  both =
      let second = moved_some {s = s} {disks = disks} file_on c.take_run-2.ensures.grows (c.in_ok-first.first + c.args.count) in
      record {
        since = λ al. since_on (g.D.Outside.world c.args.depot.now).now c.args.file.0 (IsSafe s disks) (writes_by c.take_run-2.result c.take_run-2.ensures.kept c.take_run-2.ensures.puts) (first.since al) (second.since (first.stands al));
        stands = λ al. second.stands (first.stands al);
      }

pub returns-in_err-second-clause-moves : goal.returns-in_err-second-clause-moves
returns-in_err-second-clause-moves g c s disks low hands =
    let at = goal.at.returns-in_err-second-clause-moves g c in
    both g at.After-take_run-2 s disks low (wrote g at.After-write_data s disks low hands)

pub returns-clause-moves : goal.returns-clause-moves
returns-clause-moves g c s disks low hands =
    let at = goal.at.returns-clause-moves g c in
    both g at.After-take_run-2 s disks low (wrote g at.After-write_data s disks low hands)

pub returns-clause-data : goal.returns-clause-data
returns-clause-data g c s disks low hands al told =
    let d = (goal.at.returns-clause-data g c).After-write_data in
    let f = c.args.file.0 in
    let a1 = c.take_run.new.self in
    let x1 = g.D.Outside.world c.take_run.new.depot in
    let x2 = g.D.Outside.world c.write_data.new.depot in
    let x3 = g.D.Outside.world c.take_run-2.new.depot in
    let n = a1.pool.prepared in
    let told1 : IsTrue x1.tells = subst IsTrue (sym (writes_by c.take_run.result c.take_run.ensures.kept c.take_run.ensures.puts).goes.tells) told in
    let told2 : IsTrue x2.tells = subst IsTrue (sym c.write_data.ensures.puts.writes.goes.tells) told1 in
    let same = file1 g d s disks low hands in
    let spares = subst (λ (h : ℕ). SparesClaimed s a1 (x2.seen h) (x3.seen h)) same (c.take_run-2.ensures.grows.spares s disks (c.in_ok-first.first + c.args.count) (next g d s disks low hands al) told2) in
    let has = c.in_ok-write_data.ensures.there s disks low n c.in_ok-first.first c.args.count (filled g d s disks low hands al told1) (stood g d s disks low hands al) told1 in
    let stays = data_stays c.args.bytes.now c.requires.file c.take_run.ensures.grows c.room-room.ensures.allocator c.in_ok-first.ensures.takes c.requires.some c.prepared_is_clean.ensures (at_is g d s disks low hands) (long g d s disks low hands) hands al
    c.write_data.ensures.puts.writes
    (λ t. c.write_data.ensures.moves s disks low n c.in_ok-first.first c.args.count (filled g d s disks low hands al t))
    (λ t. (c.write_data.ensures.rows s disks low n c.in_ok-first.first c.args.count (filled g d s disks low hands al t) (stood g d s disks low hands al) t).1)
    x3 told1 spares has in
    subst (λ (p : ℕ). HasData s c.in_ok-first.first c.args.count p c.args.bytes.now (x3.seen f))
    (place_at c.in_ok-first.first c.args.cluster_bits _ (at_is g d s disks low hands ∙ ap (λ (b : ℕ). place_of b c.in_ok-first.first) (bits_same c.args.clusters.now a1 c.args.count c.in_ok-first.first c.in_ok-first.ensures.takes ∙ c.requires.bits))) stays

pub returns-clause-clean : goal.returns-clause-clean
returns-clause-clean g c s disks low hands al told k above below =
    let d = (goal.at.returns-clause-clean g c).After-write_data in
    let a2 = c.take_run-2.new.self in
    let x3 = g.D.Outside.world c.take_run-2.new.depot in
    let past : ℕ = c.in_ok-first.first + c.args.count in
    let al3 = (c.take_run-2.ensures.grows.moves s disks past).stands (next g d s disks low hands al) in
    let takes = c.in_ok-second.ensures.takes in
    let next_is : c.take_run.new.self.pool.next ≡ past = ap (λ (p : Pool). p.next) c.in_ok-first.ensures.takes.takes.is in
    subst (λ (h : ℕ). CanBeUsed s k h x3) (c.take_run-2.ensures.grows.file ∙ (c.take_run.ensures.grows.file ∙ c.requires.file))
    (c.prepared_is_clean.ensures s disks past a2 x3 k c.room-left.ensures.allocator al3 told (omega (arith, takes.run.is.from, next_is, above)) (omega (arith, takes.prepared, below)) (takes.linked k above below) (takes.differs k above below))
