use Rattle.std.proofs.Common.{◌<◌, ◌≤◌, ◌+◌, ◌/◌, IsTrue, length, ap, arith}
use Rattle.disk_model.specs.declared.depot.FileNo.{FileNo}
use Rattle.disk_model.specs.Files.{overlay}
use Rattle.qc_layout.specs.FirstForm.{disk_size, disk_of, clusters_of}
use Rattle.qback_top.specs.Open.{IsOpen, Spares, Between}
use Rattle.qback_top.proofs.Growing.{Stored, stored, stored_spares, stored_between, stored_written}
use Rattle.qback_top.proofs.Torn.{between_first}
use Rattle.qback_top.proofs.image.write_piece.Given.{Over}
use Rattle.qback_top.proofs.image.write_piece.Goals.{After-write_at}
use Rattle.qback_top.proofs.image.write_piece.Goals as goal

module _ (g : Over) (c : After-write_at g) (told : IsTrue (g.D.Outside.world c.args.depot.now).tells) (opened : IsOpen c.args.image.now ((g.D.Outside.world c.args.depot.now).seen c.args.image.now.file.0)) (inside : c.args.at + length c.args.bytes.now ≤ disk_size ((g.D.Outside.world c.args.depot.now).seen c.args.image.now.file.0)) where
  -- the cluster is stored
  there : Stored c.args.image.now.file.0 c.stored.new.image (g.D.Outside.world c.args.depot.now) (g.D.Outside.world c.stored.new.depot) c.args.at c.in_ok-host.host c.args.bytes.now
  there =
      let below : c.args.at / 4096 < clusters_of ((g.D.Outside.world c.args.depot.now).seen c.args.image.now.file.0) = let some = c.requires.some in omega arith in
      stored c.stored.ensures.run told below c.requires.piece (c.in_ok-host.ensures.host told opened below)

  -- a write that failed spares the rest
  torn : Spares ((g.D.Outside.world c.args.depot.now).seen c.args.image.now.file.0) ((g.D.Outside.world c.write_at.new.self).seen c.args.image.now.file.0)
  torn = stored_spares there (ap (λ (f : FileNo). f.0) c.in_ok-host.ensures.image.file) c.write_at.ensures.call

  -- and leaves each byte as it was or as written
  part : Between (disk_of ((g.D.Outside.world c.args.depot.now).seen c.args.image.now.file.0)) (overlay (disk_of ((g.D.Outside.world c.args.depot.now).seen c.args.image.now.file.0)) c.args.at c.args.bytes.now) (disk_of ((g.D.Outside.world c.write_at.new.self).seen c.args.image.now.file.0))
  part = stored_between there (ap (λ (f : FileNo). f.0) c.in_ok-host.ensures.image.file) c.write_at.ensures.call inside

pub returns-clause-written : goal.returns-clause-written
returns-clause-written g c = λ told opened inside.
    stored_written (there g (goal.at.returns-clause-written g c).After-write_at told opened inside) (ap (λ (f : FileNo). f.0) c.in_ok-host.ensures.image.file) c.in_ok-write_at.ensures.done inside

pub returns-in_err-write_at-clause-spares : goal.returns-in_err-write_at-clause-spares
returns-in_err-write_at-clause-spares g c = torn g (goal.at.returns-in_err-write_at-clause-spares g c).After-write_at

pub returns-clause-spares : goal.returns-clause-spares
returns-clause-spares g c = torn g (goal.at.returns-clause-spares g c).After-write_at

pub returns-in_err-host-clause-spares : goal.returns-in_err-host-clause-spares
returns-in_err-host-clause-spares g c = λ told opened inside.
    let below : c.args.at / 4096 < clusters_of ((g.D.Outside.world c.args.depot.now).seen c.args.image.now.file.0) = let some = c.requires.some in omega arith in
    c.stored.ensures.spares told opened below

pub returns-in_err-host-clause-between : goal.returns-in_err-host-clause-between
returns-in_err-host-clause-between g c = λ told opened inside.
    let below : c.args.at / 4096 < clusters_of ((g.D.Outside.world c.args.depot.now).seen c.args.image.now.file.0) = let some = c.requires.some in omega arith in
    between_first _ _ _ (c.stored.ensures.disk told opened below)

pub returns-in_err-write_at-clause-between : goal.returns-in_err-write_at-clause-between
returns-in_err-write_at-clause-between g c = part g (goal.at.returns-in_err-write_at-clause-between g c).After-write_at

pub returns-clause-between : goal.returns-clause-between
returns-clause-between g c = part g (goal.at.returns-clause-between g c).After-write_at
