use Rattle.std.proofs.Common.{◌≡◌, ◌≢◌, ℕ, ◌*◌, ◌≤◌, List, length, None, IsTrue, ap, arith, rules}
use Rattle.qc_alloc.specs.declared.refusals.ClusterRefusal.{ClusterRefusal}
use Rattle.qc_alloc.specs.Opening.{rule_of}
use Rattle.qc_alloc.specs.Tables.{IsFirstBad}
use Rattle.qc_alloc.proofs.Finding.{err_is}
use Rattle.qc_alloc.proofs.Layouts.{blocks_some}
use Rattle.qc_alloc.proofs.tables.Layout.read_table.Goals as goal

pub read_pieces-requires-clause-some : goal.read_pieces-requires-clause-some
read_pieces-requires-clause-some g c =
    let blocks = blocks_some c.args.self c.requires.layout in
    let one = c.requires.layout.some in
    let few : 1 ≤ c.min.result = omega (arith, blocks, one, c.min.ensures, c.blocks-count.ensures.count) in
    let long : length c.in_ok-buffer.buffer.items ≡ 8 * c.min.result = search rules in
    let same = ap (λ (bytes : List ℕ). length bytes) c.deref_mut.ensures.value in
    omega (arith, few, long, same)

pub returns-in_err-read_pieces-clause-refused : goal.returns-in_err-read_pieces-clause-refused
returns-in_err-read_pieces-clause-refused g c =
    let w = g.D.Outside.world c.args.depot.now in
    let P : ClusterRefusal → Type 0 = λ why. rule_of why ≢ None → IsTrue w.tells → IsFirstBad c.args.self (w.seen c.args.file.0) (rule_of why) in
    err_is P c.in_err-read_pieces.field-0.0 c.from_residual-in_err-read_pieces.result c.from_residual-in_err-read_pieces.ensures.1 c.in_err-read_pieces.ensures.refused
