use Rattle.std.proofs.Common.{◌≡◌, ℕ, ◌+◌, ◌-◌, ◌*◌, ◌/◌, ◌^◌, ◌<◌, ◌≤◌, length, take, Some, None, refl, sym, subst, arith}
use Rattle.disk_model.specs.World.{World, Runs, only_file}
use Rattle.disk_model.proofs.Laws.{stay}
use Rattle.cluster_pool.specs.Pool.{room}
use Rattle.qc_map.specs.Altering.{HasAltered, ToldRow}
use Rattle.qc_map.specs.Failures.{Went}
use Rattle.qc_map.specs.Filling.{NamesBelow}
use Rattle.qc_map.specs.Mapping.{mapping}
use Rattle.qc_map.specs.declared.failures.Failing.TheVariants as failing
use Rattle.qc_map.proofs.Filled.{piece_of}
use Rattle.qc_map.proofs.Steps.{went_none, went_ok, went_on, went_tables}
use Rattle.qc_map.proofs.Topped.{grown_alters, grown_done, grown_known, grown_alone, below_grown, uses_grown, ok_by}
use Rattle.qc_map.proofs.layout.Layout.fill.Goals as goal

pub returns-in-Ok-clause-alters : goal.returns-in-Ok-clause-alters
returns-in-Ok-clause-alters g c i j =
    grown_alters c.requires.mapping c.requires.file c.top_up.ensures.grows (c.in-Ok.ensures.puts (λ same. cc)).writes c.args.spot (length c.args.row.now / 8) i j c.args.row.now
    (piece_of i j (length c.args.row.now / 8) c.args.from c.args.bytes.now) refl refl (omega arith) c.fill_ready.ensures.went.run (c.fill_ready.ensures.alters i j)

pub returns-in-Ok-clause-done : goal.returns-in-Ok-clause-done
returns-in-Ok-clause-done g c =
    ok_by c.fill_ready.result (λ n. (0 < n) × (8 * n ≤ length c.args.row.now))
    (λ n. (i j : ℕ) → HasAltered (mapping c.args.self) (ToldRow (mapping c.args.self) c.args.spot i j (length c.args.row.now / 8) c.args.row.now)
    (piece_of i j n c.args.from (take (2 ^ c.args.self.cluster_bits * n - c.args.from) c.args.bytes.now)) c.top_up.new.self (g.D.Outside.world c.top_up.new.depot) (g.D.Outside.world c.fill_ready.new.depot))
    (λ n. (i j : ℕ) → HasAltered (mapping c.args.self) (ToldRow (mapping c.args.self) c.args.spot i j (length c.args.row.now / 8) c.args.row.now)
    (piece_of i j n c.args.from (take (2 ^ c.args.self.cluster_bits * n - c.args.from) c.args.bytes.now)) c.args.clusters.now (g.D.Outside.world c.args.depot.now) (g.D.Outside.world c.fill_ready.new.depot))
    (λ n count done i j.
    grown_done c.requires.mapping c.requires.file c.top_up.ensures.grows (c.in-Ok.ensures.puts (λ same. cc)).writes c.args.spot (length c.args.row.now / 8) i j c.args.row.now
    (piece_of i j n c.args.from (take (2 ^ c.args.self.cluster_bits * n - c.args.from) c.args.bytes.now)) refl refl (omega (arith, count)) (done i j))
    c.fill_ready.ensures.count c.fill_ready.ensures.done

pub returns-in-Ok-clause-room : goal.returns-in-Ok-clause-room
returns-in-Ok-clause-room g c =
    ok_by c.fill_ready.result (λ n. (0 < n) × (8 * n ≤ length c.args.row.now))
    (λ n. NamesBelow c.args.self.cluster_bits (length c.args.row.now / 8) c.args.row.now c.top_up.new.self.pool.next → room c.fill_ready.new.clusters.pool + n ≡ room c.top_up.new.self.pool)
    (λ n. NamesBelow c.args.self.cluster_bits (length c.args.row.now / 8) c.args.row.now c.args.clusters.now.pool.next → room c.fill_ready.new.clusters.pool + n ≡ room c.args.clusters.now.pool)
    (λ n count is below. let one = is (below_grown c.args.clusters.now c.top_up.new.self c.top_up.ensures.pool below) in omega (arith, one, c.top_up.ensures.pool.room))
    c.fill_ready.ensures.count c.fill_ready.ensures.room

pub returns-in-Ok-clause-uses : goal.returns-in-Ok-clause-uses
returns-in-Ok-clause-uses g c below =
    uses_grown c.args.clusters.now c.top_up.new.self c.top_up.ensures.pool (c.fill_ready.ensures.uses (below_grown c.args.clusters.now c.top_up.new.self c.top_up.ensures.pool below))

pub returns-in-Ok-clause-known : goal.returns-in-Ok-clause-known
returns-in-Ok-clause-known g c other i j =
    grown_known c.requires.mapping c.requires.file c.top_up.ensures.grows (c.in-Ok.ensures.puts (λ same. cc)).writes c.args.spot (length c.args.row.now / 8) i j c.args.row.now
    c.room-room.ensures.allocator c.top_up.ensures.pool c.prepared_stays_exact.ensures c.in-Ok.ensures.words (c.fill_ready.ensures.known other i j)

pub returns-in-Ok-clause-went : goal.returns-in-Ok-clause-went
returns-in-Ok-clause-went g c =
    went_on
    (subst (λ (f : ℕ). Went f (g.D.Outside.world c.args.depot.now) (g.D.Outside.world c.top_up.new.depot) None) c.requires.file (went_ok (c.in-Ok.ensures.puts (λ same. cc)).calls)) c.fill_ready.ensures.went

pub returns-in-Err-NoRoom-clause-alters : goal.returns-in-Err-NoRoom-clause-alters
returns-in-Err-NoRoom-clause-alters g c i j =
    let kept = c.in-Err-NoRoom.ensures.kept cc in
    grown_alone c.requires.mapping c.requires.file c.top_up.ensures.grows
    (subst (λ (w : World). Runs (only_file c.args.self.file.0) (g.D.Outside.world c.args.depot.now) w) (sym kept.1) (stay (only_file c.args.self.file.0) (g.D.Outside.world c.args.depot.now)))
    c.args.spot (length c.args.row.now / 8) i j c.args.row.now (g.met.D.Depot.sound _) (piece_of i j (length c.args.row.now / 8) c.args.from c.args.bytes.now) refl refl (omega arith)

pub returns-in-Err-NoRoom-clause-went : goal.returns-in-Err-NoRoom-clause-went
returns-in-Err-NoRoom-clause-went g c =
    let kept = c.in-Err-NoRoom.ensures.kept cc in
    subst (λ (w : World). Went c.args.self.file.0 (g.D.Outside.world c.args.depot.now) w None) (sym kept.1) (went_none c.args.self.file.0 (g.D.Outside.world c.args.depot.now))

pub returns-in-Err-Failed-clause-alters : goal.returns-in-Err-Failed-clause-alters
returns-in-Err-Failed-clause-alters g c i j =
    grown_alone c.requires.mapping c.requires.file c.top_up.ensures.grows (c.in-Err-Failed.ensures.puts (λ same. cc)).writes c.args.spot (length c.args.row.now / 8) i j c.args.row.now (g.met.D.Depot.sound _)
    (piece_of i j (length c.args.row.now / 8) c.args.from c.args.bytes.now) refl refl (omega arith)

pub returns-in-Err-Failed-clause-went : goal.returns-in-Err-Failed-clause-went
returns-in-Err-Failed-clause-went g c =
    subst (λ (f : ℕ). Went f (g.D.Outside.world c.args.depot.now) (g.D.Outside.world c.top_up.new.depot) (Some failing.Tables)) c.requires.file (went_tables (c.in-Err-Failed.ensures.puts (λ same. cc)))
