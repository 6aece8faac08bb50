use Rattle.std.proofs.Common.{IsTrue, subst, sym}
use Rattle.backup_file.specs.Layout.{all_clusters}
use Rattle.backup_file.specs.Made.{IsNewSource}
use Rattle.file_device.proofs.Laws.{given}
use Rattle.image_model.specs.Calls.{IsOpened, AreInside, shape_of}
use Rattle.image_calls.proofs.NewFiles.{created_opened, created_inside, created_block}
use Rattle.image_calls.proofs.Refusing.{synced_again, sync_refused}
use Rattle.image_calls.proofs.created.create_standing.Goals as goal

pub returns-in-Ok : goal.returns-in-Ok
returns-in-Ok g c = record {
  made = synced_again c.in_ok-file.ensures.made c.in-Ok.ensures.synced;
  refuses = tt;
  stands = λ told.
      let told_a : IsTrue (g.D.Outside.world c.create_source.new.depot).tells = subst IsTrue c.begin.ensures.synced.puts.writes.goes.tells told in
      let same = c.begin.ensures.synced.call.seen in
      let bits = c.args.cluster_bits in
      let size = c.args.size in
      let file = (g.D.Outside.world c.begin.new.depot).seen c.in_ok-file.file.0 in
      let made : IsNewSource bits size c.args.disk file = subst (IsNewSource bits size c.args.disk) (sym same) (given _ c.in_ok-file.file.0 (IsNewSource c.args.cluster_bits c.args.size c.args.disk) c.in_ok-file.ensures.made.holds.seen told_a) in
      c.in-Ok.ensures.stands (shape_of file) (all_clusters bits size)
      (λ t. subst (IsOpened (shape_of file) (all_clusters bits size)) same (created_opened bits size c.args.disk file c.requires made))
      (λ t. subst (AreInside (shape_of file)) same (created_inside bits size c.args.disk file c.requires made))
      told;
  blocks = λ told.
      let told_a : IsTrue (g.D.Outside.world c.create_source.new.depot).tells = subst IsTrue c.begin.ensures.synced.puts.writes.goes.tells told in
      let file = (g.D.Outside.world c.begin.new.depot).seen c.in_ok-file.file.0 in
      let made : IsNewSource c.args.cluster_bits c.args.size c.args.disk file = subst (IsNewSource c.args.cluster_bits c.args.size c.args.disk) (sym c.begin.ensures.synced.call.seen) (given _ c.in_ok-file.file.0 (IsNewSource c.args.cluster_bits c.args.size c.args.disk) c.in_ok-file.ensures.made.holds.seen told_a) in
      created_block c.args.cluster_bits c.args.size c.args.disk file c.requires made;
}

pub returns-in-Err : goal.returns-in-Err
returns-in-Err g c = record { made = tt; refuses = sync_refused c.in_ok-file.ensures.made c.in-Err.ensures.synced; stands = tt; blocks = tt }
