use Rattle.std.proofs.Common.{ℕ, ◌*◌, ap, arith}
use Rattle.qc_alloc.proofs.Layouts.{words_whole, blocks_few}
use Rattle.qc_alloc.proofs.tables.Layout.blocks.Goals as goal

pub returns-clause-count : goal.returns-clause-count
returns-clause-count c = ap (λ (n : ℕ). c.args.self.clusters * n) (words_whole c.args.self c.requires)

pub returns-clause-few : goal.returns-clause-few
returns-clause-few c =
    let e = ap (λ (n : ℕ). c.args.self.clusters * n) (words_whole c.args.self c.requires) in
    omega (arith, e, blocks_few c.args.self c.requires)
