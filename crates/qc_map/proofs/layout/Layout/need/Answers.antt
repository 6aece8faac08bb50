use Rattle.std.proofs.Common.{◌≡◌, inl, refl, ℕ, ◌+◌, ◌-◌, List, ap, sym, ◌∙◌, arith}
use Rattle.file_device.specs.File.{file_of}
use Rattle.file_device.proofs.Laws.{looks_on, gives_back}
use Rattle.image_model.specs.Space.{need}
use Rattle.qc_map.specs.Mapping.{mapping, shape_by}
use Rattle.qc_map.specs.Needing.{part_need}
use Rattle.qc_map.proofs.Going.{next_part, next_stop}
use Rattle.qc_map.proofs.Looking.{looks_none, looks_failed, looks_ok}
use Rattle.qc_map.proofs.More.{need_none, need_more}
use Rattle.qc_map.proofs.Places.{cluster_some}
use Rattle.qc_map.proofs.layout.Layout.need.Goals as goal

pub loop-done-init : goal.loop-done-init
loop-done-init g c = record {
  looks = looks_none c.args.self.file.0 (g.D.Outside.world c.args.depot.now) 0;
  order = omega arith;
  few = omega arith;
  stop = record { is = inl refl };
  need = λ told store has. sym (need_none store c.args.at);
}

pub returns-in_err-total-clause-looks : goal.returns-in_err-total-clause-looks
returns-in_err-total-clause-looks g c = looks_failed c.from_residual.result _ c.loop-done.invariant.looks c.in_err-total.ensures.looks c.from_residual.ensures.1

pub loop-done-preserved : goal.loop-done-preserved
loop-done-preserved g c =
    let inv = c.loop-done.invariant in
    let done = c.loop-done.done in
    let part = c.part_at-part.result in
    let e = c.part_at-part.ensures in
    let m = mapping c.args.self in
    let s = shape_by m in
    let some = cluster_some m c.requires.mapping in
    let test = c.loop-done-test.true in
    let n : ℕ = c.in_ok-total.field-0 in
    record {
      looks = looks_ok 0 (looks_on inv.looks c.in_ok-total.ensures.looks);
      order = omega (arith, e.within, test);
      few = omega (arith, inv.few, c.in_ok-total.ensures.few, e.count, e.some);
      stop = next_stop s c.args.at c.args.bytes done part some e.part test;
      need = λ told store has.
          let file = (file_of (g.D.Outside.world c.args.depot.now) c.args.self.file.0).bytes in
          let P : List ℕ → Type 0 = λ b. n ≡ part_need s b part.table part.slot part.count in
          let here = gives_back P inv.looks c.in_ok-total.ensures.need told in
          let next = next_part s c.args.at c.args.bytes done part some e.part test inv.stop in
          ap (λ (k : ℕ). k + n) (inv.need told store has) ∙ ap (λ (k : ℕ). need store (record { at = c.args.at; size = done }) + k) here
          ∙ sym (need_more s file c.args.self.size store has c.args.at done (c.args.bytes - done) part some e.part next (omega (arith, e.within, test, c.requires.inside)));
    }
