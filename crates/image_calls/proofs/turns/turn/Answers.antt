use Rattle.std.proofs.Common.{◌≡◌, ℕ, IsTrue, List, length, subst, rules}
use Rattle.std.proofs.lemmas.Result.{on_ok_weaker}
use Rattle.file_device.specs.File.{file_of, Is}
use Rattle.first_sector.specs.Sectors.{New}
use Rattle.image_model.specs.Clusters.{Shape}
use Rattle.image_model.specs.Calls.{Told}
use Rattle.image_model.specs.Turns.{Turns}
use Rattle.image_steps.proofs.Turns.{turns_crash, turns_seen, turns_move, turned_move, turned_stands}
use Rattle.image_calls.proofs.FirstSectors.{sector_crash, sector_seen, sector_done}
use Rattle.image_calls.proofs.turns.turn.Goals as goal

pub returns-clause-moves : goal.returns-clause-moves
returns-clause-moves g c s t disks first last =
    let sound = g.met.D.Depot.sound in
    let size : length c.args.sector.now ≡ 512 = search rules in
    let is = c.rewrite_first_sector.ensures in
    turns_move s t disks first last c.args.sector.now size (sound _) (sound _) is.puts.writes (sector_crash _ _ _ _ is.crash) (sector_seen _ _ _ _ is.puts.writes.goes.tells is.seen)

pub returns-clause-turned : goal.returns-clause-turned
returns-clause-turned g c =
    let sound = g.met.D.Depot.sound in
    let size : length c.args.sector.now ≡ 512 = search rules in
    let is = c.rewrite_first_sector.ensures in
    on_ok_weaker c.rewrite_first_sector.result
    (λ (done : Is (New c.args.sector.now (file_of (g.D.Outside.world c.args.depot.now) c.args.file.0)) (file_of (g.D.Outside.world c.rewrite_first_sector.new.depot) c.args.file.0)) (s : Shape) (t : Shape) (disks : List (List ℕ)) (first : ℕ) (last : ℕ).
    turned_move s t disks first last c.args.sector.now size (sound _) (sound _) is.puts.writes (sector_crash _ _ _ _ is.crash) (sector_seen _ _ _ _ is.puts.writes.goes.tells is.seen) (sector_done _ _ _ _ done))
    is.done

pub returns-clause-crash : goal.returns-clause-crash
returns-clause-crash g c s t disks first last told =
    let sound = g.met.D.Depot.sound in
    let size : length c.args.sector.now ≡ 512 = search rules in
    let is = c.rewrite_first_sector.ensures in
    turns_crash s t disks first last c.args.sector.now size (sound _) (sound _) is.puts.writes (sector_crash _ _ _ _ is.crash) (sector_seen _ _ _ _ is.puts.writes.goes.tells is.seen) told

pub returns-clause-again : goal.returns-clause-again
returns-clause-again g c s t disks first last waits told =
    let sound = g.met.D.Depot.sound in
    let size : length c.args.sector.now ≡ 512 = search rules in
    let is = c.rewrite_first_sector.ensures in
    let told_a = subst IsTrue is.puts.writes.goes.tells told in
    turns_seen s t disks first last c.args.sector.now size (sound _) (sound _) is.puts.writes (sector_crash _ _ _ _ is.crash) (sector_seen _ _ _ _ is.puts.writes.goes.tells is.seen) told_a (waits told_a)

pub returns-clause-done : goal.returns-clause-done
returns-clause-done g c =
    let sound = g.met.D.Depot.sound in
    let size : length c.args.sector.now ≡ 512 = search rules in
    let is = c.rewrite_first_sector.ensures in
    on_ok_weaker c.rewrite_first_sector.result
    (λ (done : Is (New c.args.sector.now (file_of (g.D.Outside.world c.args.depot.now) c.args.file.0)) (file_of (g.D.Outside.world c.rewrite_first_sector.new.depot) c.args.file.0)) (s : Shape) (t : Shape) (disks : List (List ℕ)) (first : ℕ) (last : ℕ)
    (waits : Told (Turns s t disks first last c.args.sector.now) c.args.file.0 (g.D.Outside.world c.args.depot.now)).
    turned_stands s t disks first last c.args.sector.now size (sound _) (sound _) is.puts.writes (sector_crash _ _ _ _ is.crash) (sector_seen _ _ _ _ is.puts.writes.goes.tells is.seen) (sector_done _ _ _ _ done) waits)
    is.done
