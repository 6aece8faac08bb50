use Rattle.std.proofs.Common.{◌≡◌, ℕ, List, Vec, IsTrue, min, length, ap, ◌∙◌}
use Rattle.std.specs.declared.alloc.Global.{Global}
use Rattle.disk_model.specs.Files.{reading}
use Rattle.qc_layout.specs.Laws.{start_length, start_of}
use Rattle.qback_top.proofs.Growing.{read_same, told_on}
use Rattle.qback_top.proofs.Informing.{start_sector, start_more, read_before, read_ok}
use Rattle.qback_top.proofs.infos.read_start.Given.{Over}
use Rattle.qback_top.proofs.infos.read_start.Goals.{After-min-count}
use Rattle.qback_top.proofs.infos.read_start.Goals as goal

-- the size and the first sector
record HasSector (file sector : List ℕ) (size count : ℕ) : Type 0 where
  sizes : size ≡ length file
  reads : sector ≡ reading file 0 (min size 512)
  counts : count ≡ min (start_length sector) size

has_sector : (g : Over) (c : After-min-count g) → IsTrue (g.D.Outside.world c.args.depot.now).tells
    → HasSector ((g.D.Outside.world c.args.depot.now).seen c.args.file.0) c.in_ok-sector.sector.items c.in_ok-size.size c.min-count.result
has_sector g c told =
    let f = c.args.file.0 in
    let run = c.size.ensures.run in
    record {
      sizes = c.in_ok-size.ensures.size told;
      reads = read_before f c.min.result (min c.in_ok-size.size 512) c.in_ok-sector.sector.items run c.min.ensures (c.in_ok-sector.ensures.bytes (told_on run told));
      counts = c.min-count.ensures ∙ ap (λ (n : ℕ). min n c.in_ok-size.size) (c.start_length.ensures ∙ ap (λ (l : List ℕ). start_length l) c.deref.ensures.value);
    }

pub returns-then-count-le512-clause-bytes : goal.returns-then-count-le512-clause-bytes
returns-then-count-le512-clause-bytes g c = λ told.
    let has = has_sector g (goal.at.returns-then-count-le512-clause-bytes g c).After-min-count told in
    start_sector ((g.D.Outside.world c.args.depot.now).seen c.args.file.0) c.in_ok-sector.sector.items c.in_ok-size.size c.min-count.result has.sizes has.reads has.counts c.if-count-le512.true

pub returns-clause-bytes : goal.returns-clause-bytes
returns-clause-bytes g c =
    let f = c.args.file.0 in
    let a = g.D.Outside.world c.args.depot.now in
    let b = g.D.Outside.world c.size.new.self in
    let d = g.D.Outside.world c.read_first.new.depot in
    let run = c.size.ensures.run in
    let run2 = c.read_first.ensures.run in
    read_ok (λ (v : Vec ℕ Global). v.items) a d (reading (d.seen f) 0 c.min-count.result) (start_of (a.seen f)) c.read_first-2.result
    (λ told. told_on run2 (told_on run told))
    (λ told start is.
    let has = has_sector g (goal.at.returns-clause-bytes g c).After-min-count told in
    start_more (a.seen f) c.in_ok-sector.sector.items start c.in_ok-size.size c.min-count.result has.sizes has.reads has.counts
    (is ∙ ap (λ (h : List ℕ). reading h 0 c.min-count.result) (read_same f run2 ∙ read_same f run)))
    c.read_first-2.ensures.bytes
