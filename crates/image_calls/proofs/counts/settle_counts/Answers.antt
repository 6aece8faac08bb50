use Rattle.std.proofs.Common.{ℕ, List, Bool, IsTrue, refl}
use Rattle.std.proofs.lemmas.Result.{on_ok_weaker}
use Rattle.disk_model.specs.World.{HasWritten}
use Rattle.image_model.specs.Clusters.{Shape, IsShape, IsBlock, IsSafe}
use Rattle.image_model.specs.Calls.{Told, IsSettling, Rests}
use Rattle.image_steps.proofs.Pools.{settled, settled_leaves, settled_others, settled_counts, settled_words}
use Rattle.image_steps.proofs.Standing.{moves_of}
use Rattle.image_calls.proofs.Beside.{wrote_beside}
use Rattle.image_calls.proofs.counts.settle_counts.Goals as goal

pub returns-clause-moves : goal.returns-clause-moves
returns-clause-moves g c s disks taken last q i low n shape is block =
    let sound = g.met.D.Depot.sound in
    moves_of (IsSafe s disks) c.write.ensures.wrote.call.run (sound _) (λ told rests. settled shape is (sound _) (sound _) c.write.ensures.wrote.call told (block told) rests)

pub returns-clause-leaves : goal.returns-clause-leaves
returns-clause-leaves g c s disks taken last q i low n shape is block rests told =
    let sound = g.met.D.Depot.sound in
    settled_leaves shape is (sound _) (sound _) c.write.ensures.wrote.call told (block told) (rests told)

pub returns-clause-others : goal.returns-clause-others
returns-clause-others g c s disks taken last q i low n shape is block rests told =
    let sound = g.met.D.Depot.sound in
    settled_others shape is (sound _) (sound _) c.write.ensures.wrote.call told (block told) (rests told)

pub returns-clause-counts : goal.returns-clause-counts
returns-clause-counts g c =
    let sound = g.met.D.Depot.sound in
    on_ok_weaker c.write.result
    (λ (done : HasWritten c.args.file.0 c.args.spot c.args.counts.now (g.D.Outside.world c.args.depot.now) (g.D.Outside.world c.write.new.depot)) (s : Shape) (disks : List (List ℕ)) (taken : ℕ → Bool) (last : ℕ) (q : ℕ) (i : ℕ) (low : ℕ) (n : ℕ)
    (shape : IsShape s) (is : IsSettling s taken q i low n c.args.spot c.args.counts.now) (block : Told (λ d. IsBlock s d i q) c.args.file.0 (g.D.Outside.world c.args.depot.now)) (rests : Rests s disks taken last c.args.file.0 (g.D.Outside.world c.args.depot.now)) (told : IsTrue (g.D.Outside.world c.args.depot.now).tells).
    settled_counts shape is (sound _) (sound _) c.write.ensures.wrote.call told (block told) (rests told) done)
    c.write.ensures.wrote.done

pub returns-clause-rows : goal.returns-clause-rows
returns-clause-rows g c s disks taken last q i low n shape is block rests told =
    let sound = g.met.D.Depot.sound in
    settled_words shape is (sound _) (sound _) c.write.ensures.wrote.call told (block told) (rests told)

pub returns-clause-frame : goal.returns-clause-frame
returns-clause-frame g c told x out = wrote_beside c.write.ensures.wrote.call refl told x out
