use Rattle.std.proofs.Common.{◌≡◌, ◌≢◌, ◌^◌, ◌<◌, ℕ, List, IsTrue, refl, sym, ap, subst, ◌∙◌, arith}
use Rattle.disk_model.specs.World.{World, Runs, reads_of, only_file}
use Rattle.disk_model.proofs.Moments.{run_on}
use Rattle.disk_model.specs.declared.depot.FileNo.{FileNo}
use Rattle.qc_layout.specs.FirstForm.{host_of, table_offset, clusters_of, disk_of}
use Rattle.qback_top.specs.declared.image.Image.{Image}
use Rattle.qback_top.specs.Open.{IsOpen, Spares, KeepsRest}
use Rattle.qback_top.proofs.Disk.{same_disk_size}
use Rattle.qback_top.proofs.Tables.{spares_on, keeps_on}
use Rattle.qback_top.proofs.Links.{Linked, linked_host, linked_disk, linked_keeps}
use Rattle.qback_top.proofs.Growing.{file_read, file_write, read_same, told_on, grown_spares, grown_disk_kept, entry_disk, Longer, longer, entry_written_spares, has_entry, word_of, is_entry, linked_open}
use Rattle.qback_top.proofs.image.stored.Given.{Over}
use Rattle.qback_top.proofs.image.stored.Goals.{After-write_at}
use Rattle.qback_top.proofs.image.stored.Goals as goal

-- the image's file has a table, where files are told
record HasTable (f : ℕ) (image : Image) (old now : World) (table : ℕ) : Type 0 where
  pub told : IsTrue now.tells
  pub opened : IsOpen image (now.seen f)
  pub disk : disk_of (now.seen f) ≡ disk_of (old.seen f)
  pub keeps : KeepsRest (old.seen f) (now.seen f)
  pub is : table ≡ table_offset (now.seen f)
  pub some : table ≢ 0

-- so it is after the calls that look for it and make it
has_table : {f : ℕ} {image after : Image} {a b d : World} {table : ℕ} → Runs (reads_of f) a b → Runs (only_file f) b d → IsTrue a.tells → IsOpen image (a.seen f)
    → (IsTrue b.tells → IsOpen image (b.seen f) → IsOpen after (d.seen f) × (disk_of (d.seen f) ≡ disk_of (b.seen f)) × KeepsRest (b.seen f) (d.seen f) × (table ≡ table_offset (d.seen f)) × (table ≢ 0)) → HasTable f after a d table
has_table {f} {image} {after} {a} {b} {d} {table} run make told opened made =
    let same = read_same f run in
    let t = made (told_on run told) (subst (IsOpen image) (sym same) opened) in
    record { told = told_on make (told_on run told); opened = t.0; disk = t.1 ∙ ap disk_of same; keeps = subst (λ (file : List ℕ). KeepsRest file (d.seen f)) same t.2; is = t.3; some = t.4 }

module _ (g : Over) (c : After-write_at g) (told : IsTrue (g.D.Outside.world c.args.depot.now).tells) (opened : IsOpen c.args.image.now ((g.D.Outside.world c.args.depot.now).seen c.args.image.now.file.0)) where
  -- the file has a table, and then a cluster more
  found : HasTable c.args.image.now.file.0 c.made_table.new.image (g.D.Outside.world c.args.depot.now) (g.D.Outside.world c.made_table.new.depot) c.in_ok-table.table
  found = has_table c.host.ensures.run c.made_table.ensures.run told opened c.in_ok-table.ensures.table

  grew : Longer c.args.image.now.file.0 c.made_table.new.image c.grow.new.image ((g.D.Outside.world c.made_table.new.depot).seen c.args.image.now.file.0) (g.D.Outside.world c.grow.new.depot)
  grew = longer found.told refl found.opened (ap (λ (f : FileNo). f.0) c.in_ok-table.ensures.image.file) c.grow.ensures.torn c.in_ok-place.ensures.done c.in_ok-place.ensures.image

  -- the end is small, the word names it, and the cluster was a hole
  end : c.made_table.new.image.end < 2 ^ 56
  end = let a = c.in_ok-table.ensures.image.end in let b = c.requires.end in omega arith

  word : c.to_be_bytes.result ≡ word_of c.made_table.new.image.end
  word = is_entry c.made_table.new.image ((g.D.Outside.world c.made_table.new.depot).seen c.args.image.now.file.0) c.in_ok-place.place c.write_l2-entry.result c.to_be_bytes.result found.opened end c.in_ok-place.ensures.place c.write_l2-entry.ensures.word c.to_be_bytes.ensures

  hole : host_of ((g.D.Outside.world c.made_table.new.depot).seen c.args.image.now.file.0) c.args.cluster ≡ 0
  hole =
      let same = read_same c.args.image.now.file.0 c.host.ensures.run in
      c.in_ok-table.ensures.hosts (told_on c.host.ensures.run told) (subst (IsOpen c.args.image.now) (sym same) opened) c.args.cluster c.requires.cluster ∙ ap (λ (f : List ℕ). host_of f c.args.cluster) same
      ∙ sym (c.in_ok-found.ensures.host told opened) ∙ (let f = c.if-found-ne0.false in omega arith)

  -- an entry that was written in part spares the rest
  torn : c.args.cluster < clusters_of ((g.D.Outside.world c.args.depot.now).seen c.args.image.now.file.0) → Spares ((g.D.Outside.world c.args.depot.now).seen c.args.image.now.file.0) ((g.D.Outside.world c.write_at.new.self).seen c.args.image.now.file.0)
  torn below =
      let size = same_disk_size ((g.D.Outside.world c.made_table.new.depot).seen c.args.image.now.file.0) _ found.disk in
      spares_on found.keeps (entry_written_spares grew c.in_ok-table.table c.args.cluster word found.is found.some hole (rw size below) end c.write_at.ensures.call)

  -- and keeps the disk
  kept : c.args.cluster < clusters_of ((g.D.Outside.world c.args.depot.now).seen c.args.image.now.file.0) → disk_of ((g.D.Outside.world c.write_at.new.self).seen c.args.image.now.file.0) ≡ disk_of ((g.D.Outside.world c.args.depot.now).seen c.args.image.now.file.0)
  kept below =
      let size = same_disk_size ((g.D.Outside.world c.made_table.new.depot).seen c.args.image.now.file.0) _ found.disk in
      entry_disk grew c.in_ok-table.table c.args.cluster word found.is found.some hole (rw size below) end c.write_at.ensures.call ∙ found.disk

pub returns-in_err-place-clause-spares : goal.returns-in_err-place-clause-spares
returns-in_err-place-clause-spares g c = λ told opened below.
    let t : HasTable c.args.image.now.file.0 c.made_table.new.image (g.D.Outside.world c.args.depot.now) (g.D.Outside.world c.made_table.new.depot) c.in_ok-table.table = has_table c.host.ensures.run c.made_table.ensures.run told opened c.in_ok-table.ensures.table in
    spares_on t.keeps (grown_spares t.told refl t.opened (ap (λ (f : FileNo). f.0) c.in_ok-table.ensures.image.file) c.grow.ensures.torn)

pub returns-in_err-write_at-clause-run : goal.returns-in_err-write_at-clause-run
returns-in_err-write_at-clause-run g c =
    let same = ap (λ (f : FileNo). f.0) c.in_ok-table.ensures.image.file in
    let same_2 = ap (λ (i : Image). i.file.0) c.in_ok-place.ensures.image ∙ same in
    run_on (run_on (run_on (file_read c.host.ensures.run) c.made_table.ensures.run)
    (subst (λ (k : ℕ). Runs (only_file k) (g.D.Outside.world c.made_table.new.depot) (g.D.Outside.world c.grow.new.depot)) same (file_write c.grow.ensures.torn.run)))
    (subst (λ (k : ℕ). Runs (only_file k) (g.D.Outside.world c.grow.new.depot) (g.D.Outside.world c.write_at.new.self)) same_2 (file_write c.write_at.ensures.call.run))

pub returns-in_err-write_at-clause-spares : goal.returns-in_err-write_at-clause-spares
returns-in_err-write_at-clause-spares g c = torn g (goal.at.returns-in_err-write_at-clause-spares g c).After-write_at

pub returns-clause-spares : goal.returns-clause-spares
returns-clause-spares g c = torn g (goal.at.returns-clause-spares g c).After-write_at

pub returns-clause-host : goal.returns-clause-host
returns-clause-host g c = λ told opened below.
    let n = c.args.image.now.file.0 in
    let k = c.args.cluster in
    let first = (g.D.Outside.world c.made_table.new.depot).seen n in
    let at = (goal.at.returns-clause-host g c).After-write_at in
    let t = found g at told opened in
    let l = grew g at told opened in
    let size = same_disk_size first _ t.disk in
    let linked : Linked first _ ((g.D.Outside.world c.write_at.new.self).seen n) k = has_entry l c.in_ok-table.table k (word g at told opened) t.is t.some (hole g at told opened) (rw size below) (end g at told opened) c.in_ok-write_at.ensures.done in
    let place : c.in_ok-place.place ≡ host_of ((g.D.Outside.world c.write_at.new.self).seen n) k = c.in_ok-place.ensures.place ∙ t.opened.end ∙ sym (linked_host _ _ _ k linked) in (
      linked_open l _ k linked,
      linked_disk _ _ _ k linked ∙ t.disk,
      keeps_on t.opened.form t.keeps (linked_keeps _ _ _ k linked),
      place,
      (λ z. (let long = t.opened.form.long in let e = t.opened.end in let p = c.in_ok-place.ensures.place in absurd (omega arith))),
    )

pub returns-in_err-table-clause-disk : goal.returns-in_err-table-clause-disk
returns-in_err-table-clause-disk g c = λ told opened below.
    let same = read_same c.args.image.now.file.0 c.host.ensures.run in
    c.made_table.ensures.disk (told_on c.host.ensures.run told) (subst (IsOpen c.args.image.now) (sym same) opened) ∙ ap disk_of same

pub returns-in_err-place-clause-disk : goal.returns-in_err-place-clause-disk
returns-in_err-place-clause-disk g c = λ told opened below.
    let t : HasTable c.args.image.now.file.0 c.made_table.new.image (g.D.Outside.world c.args.depot.now) (g.D.Outside.world c.made_table.new.depot) c.in_ok-table.table = has_table c.host.ensures.run c.made_table.ensures.run told opened c.in_ok-table.ensures.table in
    grown_disk_kept t.told refl t.opened (ap (λ (f : FileNo). f.0) c.in_ok-table.ensures.image.file) c.grow.ensures.torn ∙ t.disk

pub returns-in_err-write_at-clause-disk : goal.returns-in_err-write_at-clause-disk
returns-in_err-write_at-clause-disk g c = kept g (goal.at.returns-in_err-write_at-clause-disk g c).After-write_at

pub returns-clause-disk : goal.returns-clause-disk
returns-clause-disk g c = kept g (goal.at.returns-clause-disk g c).After-write_at

pub returns-in_err-place-clause-run : goal.returns-in_err-place-clause-run
returns-in_err-place-clause-run g c =
    let same = ap (λ (f : FileNo). f.0) c.in_ok-table.ensures.image.file in
    run_on (run_on (file_read c.host.ensures.run) c.made_table.ensures.run)
    (subst (λ (k : ℕ). Runs (only_file k) (g.D.Outside.world c.made_table.new.depot) (g.D.Outside.world c.grow.new.depot)) same (file_write c.grow.ensures.torn.run))

pub returns-clause-run : goal.returns-clause-run
returns-clause-run g c =
    let same = ap (λ (f : FileNo). f.0) c.in_ok-table.ensures.image.file in
    let same_2 = ap (λ (i : Image). i.file.0) c.in_ok-place.ensures.image ∙ same in
    run_on (run_on (run_on (file_read c.host.ensures.run) c.made_table.ensures.run)
    (subst (λ (k : ℕ). Runs (only_file k) (g.D.Outside.world c.made_table.new.depot) (g.D.Outside.world c.grow.new.depot)) same (file_write c.grow.ensures.torn.run)))
    (subst (λ (k : ℕ). Runs (only_file k) (g.D.Outside.world c.grow.new.depot) (g.D.Outside.world c.write_at.new.self)) same_2 (file_write c.write_at.ensures.call.run))
