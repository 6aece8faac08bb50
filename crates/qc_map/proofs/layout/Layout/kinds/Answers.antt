use Rattle.std.proofs.Common.{◌≡◌, inl, refl, ℕ, ◌+◌, ◌-◌, ◌*◌, ◌++◌, sym, ap, subst, ◌∙◌, arith}
use Rattle.bitmap_model.specs.Runs.{first_runs, runs_of}
use Rattle.file_device.specs.File.{file_of}
use Rattle.file_device.proofs.Laws.{looks_on, gives_back}
use Rattle.image_model.specs.Clusters.{size, per}
use Rattle.qc_map.specs.Mapping.{mapping, shape_by}
use Rattle.qc_map.specs.Reading.{IsRow}
use Rattle.qc_map.specs.Telling.{range, flags_of, Tells, TellsAll, IsRowAt}
use Rattle.qc_map.proofs.Going.{next_part, next_stop}
use Rattle.qc_map.proofs.Joining.{tells_none, tells_end}
use Rattle.qc_map.proofs.Looking.{looks_none, looks_failed, looks_ok}
use Rattle.qc_map.proofs.More.{row_at}
use Rattle.qc_map.proofs.Places.{cluster_by, cluster_some}
use Rattle.qc_map.proofs.layout.Layout.kinds.Goals as goal

pub loop-done-init : goal.loop-done-init
loop-done-init g c = record {
  looks = looks_none c.args.self.file.0 (g.D.Outside.world c.args.depot.now) 0;
  order = omega arith;
  stop = record { is = inl refl };
  from = omega (arith, c.len-start.ensures);
  few = omega (arith, c.len-start.ensures);
  capacity = refl;
  some = λ more. more;
  short = omega arith;
  goes = λ told store has. tells_none (size (shape_by (mapping c.args.self))) (flags_of store) c.args.at c.args.out.now.items.items _ refl;
}

pub returns-in_err-read_row-clause-looks : goal.returns-in_err-read_row-clause-looks
returns-in_err-read_row-clause-looks g c = looks_failed c.from_residual.result _ c.loop-done.invariant.looks c.in_err-read_row.ensures.looks c.from_residual.ensures.1

pub add_row-requires-clause-covers : goal.add_row-requires-clause-covers
add_row-requires-clause-covers g c =
    let same : c.cluster_of-cluster.result ≡ size (shape_by (mapping c.args.self)) = c.cluster_of-cluster.ensures.bytes ∙ sym (cluster_by (mapping c.args.self) c.requires.mapping) in
    omega (arith, ap (λ (k : ℕ). k * c.part_at-part.result.count) same, c.part_at-part.ensures.part.covers)

pub add_row-requires-clause-least : goal.add_row-requires-clause-least
add_row-requires-clause-least g c =
    let same : c.cluster_of-cluster.result ≡ size (shape_by (mapping c.args.self)) = c.cluster_of-cluster.ensures.bytes ∙ sym (cluster_by (mapping c.args.self) c.requires.mapping) in
    omega (arith, ap (λ (k : ℕ). k * c.part_at-part.result.count) same, same, c.part_at-part.ensures.part.least)

pub returns-in_default-clause-looks : goal.returns-in_default-clause-looks
returns-in_default-clause-looks g c = looks_ok tt (looks_on c.loop-done.invariant.looks c.in_ok-read_row.ensures.looks)

pub returns-in_default-clause-runs : goal.returns-in_default-clause-runs
returns-in_default-clause-runs g c = λ told store has.
    let inv = c.loop-done.invariant in
    let done = c.loop-done.done in
    let part = c.part_at-part.result in
    let e = c.part_at-part.ensures in
    let m = mapping c.args.self in
    let s = shape_by m in
    let some = cluster_some m c.requires.mapping in
    let test = c.loop-done-test.true in
    let file = (file_of (g.D.Outside.world c.args.depot.now) c.args.self.file.0).bytes in
    let row = c.read_row.new.row in
    let old = c.args.out.now.items.items in
    let first : ℕ = part.table * per s + part.slot in
    let same : c.cluster_of-cluster.result ≡ size s = c.cluster_of-cluster.ensures.bytes ∙ sym (cluster_by m c.requires.mapping) in
    let row_is = gives_back (λ b. IsRow s b part.table part.slot part.count row) inv.looks c.in_ok-read_row.ensures.row told in
    let next = next_part s c.args.at c.args.bytes done part some e.part test inv.stop in
    let is = row_at s file c.args.self.size store has c.args.at done (c.args.bytes - done) part some e.part next (omega (arith, e.within, test, c.requires.inside)) row row_is in
    let X : ℕ → Type 0 = λ k. IsRowAt k (flags_of store) c.args.at done first part row → Tells k (flags_of store) c.args.at done old c.loop-done.out.items.items c.loop-done.last → TellsAll k (flags_of store) c.args.at (done + part.length) old c.add_row.new.out.items.items in
    let all = subst X same (c.in_default.ensures.goes (flags_of store) c.args.at done first old (omega (arith, c.len-start.ensures))) is (inv.goes told store has) in
    all.all c.args.bytes (omega (arith, e.within, test))

pub loop-done-preserved : goal.loop-done-preserved
loop-done-preserved g c =
    let inv = c.loop-done.invariant in
    let done = c.loop-done.done in
    let part = c.part_at-part.result in
    let e = c.part_at-part.ensures in
    let m = mapping c.args.self in
    let s = shape_by m in
    let some = cluster_some m c.requires.mapping in
    let test = c.loop-done-test.true in
    let a = c.in-Some.ensures in
    record {
      looks = looks_ok 0 (looks_on inv.looks c.in_ok-read_row.ensures.looks);
      order = omega (arith, e.within, test);
      stop = next_stop s c.args.at c.args.bytes done part some e.part test;
      from = a.order;
      few = a.few;
      capacity = a.capacity ∙ inv.capacity;
      some = λ more. a.some;
      short = omega (arith, a.short, inv.short);
      goes = λ told store has.
          let file = (file_of (g.D.Outside.world c.args.depot.now) c.args.self.file.0).bytes in
          let row = c.read_row.new.row in
          let old = c.args.out.now.items.items in
          let first : ℕ = part.table * per s + part.slot in
          let same : c.cluster_of-cluster.result ≡ size s = c.cluster_of-cluster.ensures.bytes ∙ sym (cluster_by m c.requires.mapping) in
          let row_is = gives_back (λ b. IsRow s b part.table part.slot part.count row) inv.looks c.in_ok-read_row.ensures.row told in
          let next = next_part s c.args.at c.args.bytes done part some e.part test inv.stop in
          let is = row_at s file c.args.self.size store has c.args.at done (c.args.bytes - done) part some e.part next (omega (arith, e.within, test, c.requires.inside)) row row_is in
          let X : ℕ → Type 0 = λ k. IsRowAt k (flags_of store) c.args.at done first part row → Tells k (flags_of store) c.args.at done old c.loop-done.out.items.items c.loop-done.last → Tells k (flags_of store) c.args.at (done + part.length) old c.add_row.new.out.items.items c.in-Some.next in
          subst X same (a.goes (flags_of store) c.args.at done first old (omega (arith, c.len-start.ensures))) is (inv.goes told store has);
    }

pub returns-clause-runs : goal.returns-clause-runs
returns-clause-runs g c = λ told store has.
    let inv = c.loop-done.invariant in
    let test = c.loop-done-test.false in
    let s = shape_by (mapping c.args.self) in
    let old = c.args.out.now.items.items in
    let all : c.loop-done.done ≡ c.args.bytes = omega (arith, inv.order, test) in
    c.push_reserved.ensures.items
    ∙ tells_end (size s) (flags_of store) c.args.at c.loop-done.done old c.loop-done.out.items.items c.loop-done.last (inv.goes told store has) (inv.some (omega (arith, all, c.requires.some))) (omega (arith, inv.few, c.len-start.ensures))
    ∙ ap (λ (n : ℕ). old ++ first_runs (runs_of (size s) (flags_of store) (range c.args.at n))) all
