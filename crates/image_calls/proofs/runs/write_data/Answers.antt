use Rattle.std.proofs.Common.{refl}
use Rattle.std.proofs.lemmas.Result.{on_ok_weaker}
use Rattle.image_model.specs.Clusters.{IsSafe}
use Rattle.image_steps.proofs.Standing.{moves_of}
use Rattle.image_steps.proofs.RunCalls.{filled, fill_leaves, fill_data, fill_words}
use Rattle.image_calls.proofs.Beside.{wrote_beside}
use Rattle.image_calls.proofs.runs.write_data.Goals as goal

pub returns-clause-moves : goal.returns-clause-moves
returns-clause-moves g c s disks first last k n is =
    let sound = g.met.D.Depot.sound in
    moves_of (IsSafe s disks) c.write.ensures.wrote.call.run (sound _) (λ told st. filled is (sound _) (sound _) c.write.ensures.wrote.call told st)

pub returns-clause-leaves : goal.returns-clause-leaves
returns-clause-leaves g c s disks first last k n is stands told =
    let sound = g.met.D.Depot.sound in
    fill_leaves is (sound _) (sound _) c.write.ensures.wrote.call told (stands told)

pub returns-clause-there : goal.returns-clause-there
returns-clause-there g c =
    let sound = g.met.D.Depot.sound in
    on_ok_weaker c.write.result
    (λ done s disks first last k n is stands told. fill_data is (sound _) (sound _) c.write.ensures.wrote.call told (stands told) done)
    c.write.ensures.wrote.done

pub returns-clause-rows : goal.returns-clause-rows
returns-clause-rows g c s disks first last k n is stands told =
    let sound = g.met.D.Depot.sound in
    fill_words is (sound _) (sound _) c.write.ensures.wrote.call told (stands told)

pub returns-clause-frame : goal.returns-clause-frame
returns-clause-frame g c told x out = wrote_beside c.write.ensures.wrote.call refl told x out
