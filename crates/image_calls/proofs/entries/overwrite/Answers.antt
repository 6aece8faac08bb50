use Rattle.std.proofs.Common.{◌≡◌}
use Rattle.std.proofs.lemmas.Result.{on_ok_weaker}
use Rattle.image_model.specs.Clusters.{guest, word_of}
use Rattle.image_model.specs.Calls.{Shows, IsPartly}
use Rattle.image_steps.proofs.Entries.{one_run, one_rest, the_one}
use Rattle.image_calls.proofs.entries.overwrite.Goals as goal

pub returns-clause-moves : goal.returns-clause-moves
returns-clause-moves g c s disks first last k i j shape i_in j_in inside there = c.overwrite_run.ensures.moves s disks first last k 1 i j (one_run shape i_in j_in inside there)

pub returns-clause-leaves : goal.returns-clause-leaves
returns-clause-leaves g c s disks first last k i j shape i_in j_in inside there stands told = one_rest (c.overwrite_run.ensures.leaves s disks first last k 1 i j (one_run shape i_in j_in inside there) stands told)

pub returns-clause-shows : goal.returns-clause-shows
returns-clause-shows g c =
    let old = (g.D.Outside.world c.args.depot.now).seen c.args.file.0 in
    let new = (g.D.Outside.world c.overwrite_run.new.depot).seen c.args.file.0 in
    on_ok_weaker c.overwrite_run.result
    (λ shows s disks first last k i j shape i_in j_in inside there stands told.
    the_one (λ x y. Shows s i x y c.args.at c.args.bytes.now (guest s old i x) new) j k (shows s disks first last k 1 i j (one_run shape i_in j_in inside there) stands told))
    c.overwrite_run.ensures.shows

pub returns-clause-entry : goal.returns-clause-entry
returns-clause-entry g c s disks first last k i j shape i_in j_in inside there stands told =
    let old = (g.D.Outside.world c.args.depot.now).seen c.args.file.0 in
    let new = (g.D.Outside.world c.overwrite_run.new.depot).seen c.args.file.0 in
    the_one (λ x y. word_of s new i x ≡ word_of s old i x) j k (c.overwrite_run.ensures.entry s disks first last k 1 i j (one_run shape i_in j_in inside there) stands told)

pub returns-clause-partly : goal.returns-clause-partly
returns-clause-partly g c s disks first last k i j shape i_in j_in inside there stands told =
    let old = (g.D.Outside.world c.args.depot.now).seen c.args.file.0 in
    let new = (g.D.Outside.world c.overwrite_run.new.depot).seen c.args.file.0 in
    the_one (λ x y. IsPartly s i x y c.args.at c.args.bytes.now old new) j k (c.overwrite_run.ensures.partly s disks first last k 1 i j (one_run shape i_in j_in inside there) stands told)

pub returns-clause-rows : goal.returns-clause-rows
returns-clause-rows g c s disks first last k i j shape i_in j_in inside there stands told = c.overwrite_run.ensures.rows s disks first last k 1 i j (one_run shape i_in j_in inside there) stands told
