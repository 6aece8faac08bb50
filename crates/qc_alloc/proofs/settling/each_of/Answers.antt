use Rattle.std.proofs.Common.{ℕ, ◌≤◌, ◌%◌, ◌*◌, ◌^◌, ◌-◌, sym, ◌∙◌, ap, subst}
use Rattle.qc_alloc.proofs.Numbers.{shift_each, shift_few}
use Rattle.qc_alloc.proofs.settling.each_of.Goals as goal

pub returns-clause-each : goal.returns-clause-each
returns-clause-each c =
    let bits = c.cluster_bits.ensures.bits in
    let pool = c.cluster_bits.ensures.pool in
    ap (λ (b : ℕ). 1 * 2 ^ (b - 1) % 18446744073709551616) bits ∙ shift_each c.args.pool.now.bits pool.low pool.high

pub returns-clause-few : goal.returns-clause-few
returns-clause-few c =
    let pool = c.cluster_bits.ensures.pool in
    subst (λ (b : ℕ). 1 * 2 ^ (b - 1) % 18446744073709551616 ≤ 1048576) (sym c.cluster_bits.ensures.bits) (shift_few c.args.pool.now.bits pool.low pool.high)
