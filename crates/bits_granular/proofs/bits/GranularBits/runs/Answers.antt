use Rattle.std.proofs.Common.{◌≡◌, ◌+◌, ◌-◌, ℕ, ◌++◌, List, length, ap, ◌∙◌, arith}
use Rattle.span_algebra.specs.declared.lists.Run.{Run}
use Rattle.bitmap_model.specs.Runs.{between, first_runs, dirty_runs}
use Rattle.bitmap_model.proofs.Cuts.{dirty_none, runs_more, runs_done}
use Rattle.bits_granular.proofs.bits.GranularBits.runs.Goals as goal

pub returns-then-from-end-clause-runs : goal.returns-then-from-end-clause-runs
returns-then-from-end-clause-runs c =
    let end : ℕ = c.args.at + c.args.length in
    let size : end - c.args.at ≡ c.args.length = omega arith in
    runs_done c.args.out.now.items.items c.loop-number.out.items.items (dirty_runs c.args.self.now (between c.args.at end)) (dirty_runs c.args.self.now (between c.loop-number.from end))
    (1024 - c.loop-number.number) (dirty_none c.args.self.now c.loop-number.from end c.if-from-end.true) c.loop-number.invariant.runs
    ∙ ap (λ (n : ℕ). c.args.out.now.items.items ++ first_runs (dirty_runs c.args.self.now (record { at = c.args.at; size = n }))) size

pub loop-number-preserved : goal.loop-number-preserved
loop-number-preserved c =
    let end : ℕ = c.args.at + c.args.length in
    let rest : List Run = dirty_runs c.args.self.now (between c.loop-number.from end) in
    let more : List Run = dirty_runs c.args.self.now (between (c.loop-number.from + c.run_at-run.result.length) end) in
    record {
      runs = runs_more c.args.out.now.items.items c.loop-number.out.items.items c.push_reserved.new.self.items (dirty_runs c.args.self.now (between c.args.at end)) rest more
          c.run_at-run.result c.loop-number.number (omega arith) c.run_at-run.ensures.first c.push_reserved.ensures.items c.loop-number.invariant.runs;
      room = omega (arith, c.loop-number.invariant.room, c.push_reserved.ensures.len, c.push_reserved.ensures.capacity, ap length c.run_at-run.ensures.first);
      capacity = c.push_reserved.ensures.capacity ∙ c.loop-number.invariant.capacity;
      order = c.run_at-run.ensures.inside;
    }
