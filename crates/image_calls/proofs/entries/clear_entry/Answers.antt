use Rattle.std.proofs.Common.{◌≡◌}
use Rattle.std.proofs.lemmas.Result.{on_ok_weaker}
use Rattle.image_model.specs.Clusters.{word_of}
use Rattle.image_steps.proofs.Entries.{one_row, one_rest, one_either, the_one}
use Rattle.image_calls.proofs.entries.clear_entry.Goals as goal

pub returns-clause-moves : goal.returns-clause-moves
returns-clause-moves g c s disks first last q i j shape slot table = c.clear_entries.ensures.moves s disks first last q i j 1 (one_row shape slot table)

pub returns-clause-leaves : goal.returns-clause-leaves
returns-clause-leaves g c s disks first last q i j shape slot table stands told = one_rest (c.clear_entries.ensures.leaves s disks first last q i j 1 (one_row shape slot table) stands told)

pub returns-clause-cleared : goal.returns-clause-cleared
returns-clause-cleared g c =
    let new = (g.D.Outside.world c.clear_entries.new.depot).seen c.args.file.0 in
    on_ok_weaker c.clear_entries.result
    (λ cleared s disks first last q i j shape slot table stands told.
    let all = cleared s disks first last q i j 1 (one_row shape slot table) stands told in
    (all.0, the_one (λ x y. word_of s new i x ≡ 0) j j all.1))
    c.clear_entries.ensures.cleared

pub returns-clause-whether : goal.returns-clause-whether
returns-clause-whether g c s disks first last q i j shape slot table stands told =
    let old = (g.D.Outside.world c.args.depot.now).seen c.args.file.0 in
    let new = (g.D.Outside.world c.clear_entries.new.depot).seen c.args.file.0 in
    one_either s q i j old new (c.clear_entries.ensures.whether s disks first last q i j 1 (one_row shape slot table) stands told)

pub returns-clause-rows : goal.returns-clause-rows
returns-clause-rows g c s disks first last q i j shape slot table stands told = c.clear_entries.ensures.rows s disks first last q i j 1 (one_row shape slot table) stands told
