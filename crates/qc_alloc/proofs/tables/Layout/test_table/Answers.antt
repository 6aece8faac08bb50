use Rattle.std.proofs.Common.{ℕ, ◌/◌, max, ap, ◌∙◌}
use Rattle.qc_alloc.proofs.Layouts.{table_stops}
use Rattle.qc_alloc.proofs.tables.Layout.test_table.Goals as goal

pub returns-then-past-first-clause-refused : goal.returns-then-past-first-clause-refused
returns-then-past-first-clause-refused c some file of =
    let most = c.max-past.ensures ∙ ap (λ (n : ℕ). max (c.args.self.table / c.args.self.cluster) n) c.reach.ensures in
    table_stops c.args.self file _ c.requires most c.if-past-first.true of
