use Rattle.std.proofs.Common.{◌∷◌, refl}
use Rattle.std.proofs.lemmas.Result.{on_ok_weaker}
use Rattle.image_model.specs.Clusters.{IsSafe}
use Rattle.image_steps.proofs.Standing.{moves_of}
use Rattle.image_steps.proofs.Overwriting.{run_overwritten, run_leaves, run_shows, run_entries, run_partly, run_words}
use Rattle.image_calls.proofs.Beside.{wrote_beside}
use Rattle.image_calls.proofs.rows.overwrite_run.Goals as goal

pub returns-clause-moves : goal.returns-clause-moves
returns-clause-moves g c s disks first last k n i j is =
    let sound = g.met.D.Depot.sound in
    moves_of (IsSafe s (_ ∷ disks)) c.write.ensures.wrote.call.run (sound _) (λ told st. run_overwritten is (sound _) (sound _) c.write.ensures.wrote.call told st)

pub returns-clause-leaves : goal.returns-clause-leaves
returns-clause-leaves g c s disks first last k n i j is stands told =
    let sound = g.met.D.Depot.sound in
    run_leaves is (sound _) (sound _) c.write.ensures.wrote.call told (stands told)

pub returns-clause-shows : goal.returns-clause-shows
returns-clause-shows g c =
    let sound = g.met.D.Depot.sound in
    on_ok_weaker c.write.result
    (λ done s disks first last k n i j is stands told. run_shows is (sound _) (sound _) c.write.ensures.wrote.call told (stands told) done)
    c.write.ensures.wrote.done

pub returns-clause-entry : goal.returns-clause-entry
returns-clause-entry g c s disks first last k n i j is stands told =
    let sound = g.met.D.Depot.sound in
    run_entries is (sound _) (sound _) c.write.ensures.wrote.call told (stands told)

pub returns-clause-partly : goal.returns-clause-partly
returns-clause-partly g c s disks first last k n i j is stands told =
    let sound = g.met.D.Depot.sound in
    run_partly is (sound _) (sound _) c.write.ensures.wrote.call told (stands told)

pub returns-clause-rows : goal.returns-clause-rows
returns-clause-rows g c s disks first last k n i j is stands told =
    let sound = g.met.D.Depot.sound in
    run_words is (sound _) (sound _) c.write.ensures.wrote.call told (stands told)

pub returns-clause-frame : goal.returns-clause-frame
returns-clause-frame g c told x out = wrote_beside c.write.ensures.wrote.call refl told x out
