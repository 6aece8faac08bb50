use Rattle.std.proofs.Common.{sym, arith, rules}
use Rattle.cluster_pool.proofs.Blocks.{apart_missing, apart_within, apart_all}
use Rattle.cluster_pool.proofs.pool.count_plain.Goals as goal

pub returns-then-block-eq0 : goal.returns-then-block-eq0
returns-then-block-eq0 c = sym (apart_missing c.args.cluster_bits c.args.block c.args.start c.args.end c.if-block-eq0.true c.if-end-start.false)

pub returns-then-own-end : goal.returns-then-own-end
returns-then-own-end c =
    sym (apart_within c.args.cluster_bits c.args.block c.args.start c.args.end c.if-block-eq0.false (search rules) c.if-own-cluster_bits.true c.if-start-own.true c.if-own-end.true)

pub returns : goal.returns
returns c =
    sym (apart_all c.args.cluster_bits c.args.block c.args.start c.args.end c.if-block-eq0.false (search rules)
    (λ e low high. grind (arith, c.else-own-cluster_bits.either)))
