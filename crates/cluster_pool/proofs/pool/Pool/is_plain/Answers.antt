use Rattle.std.proofs.Common.{◌≡◌, ℕ, ◌*◌, ◌/◌, ◌%◌, ◌^◌, max, ap, ◌∙◌, arith}
use Rattle.std.proofs.lemmas.Grind.{common_steps}
use Rattle.qc_layout.specs.Disks.{place_of}
use Rattle.cluster_pool.specs.Pool.{Pool, each, block_of}
use Rattle.cluster_pool.proofs.Insides.{block_read, place_read}
use Rattle.cluster_pool.proofs.pool.Pool.is_plain.Goals as goal

pub returns-then-block-ne0 : goal.returns-then-block-ne0
returns-then-block-ne0 c =
    let p : Pool = c.args.self.now in
    let k : ℕ = c.args.index in
    let block : c.index-block.result.now ≡ block_of p k = block_read c.self.inside p k _ _ c.self.view_is c.self.invariant c.requires c.each-each.ensures c.index-block.ensures in
    let place : k * 2 ^ c.self.inside.cluster_bits % 2 ^ 64 ≡ place_of p.bits k = place_read c.self.inside p k c.self.view_is c.self.invariant c.requires in
    grind (arith, common_steps)

pub returns-else-block-ne0 : goal.returns-else-block-ne0
returns-else-block-ne0 c =
    let p : Pool = c.args.self.now in
    let k : ℕ = c.args.index in
    let block : c.index-block.result.now ≡ block_of p k = block_read c.self.inside p k _ _ c.self.view_is c.self.invariant c.requires c.each-each.ensures c.index-block.ensures in
    let place : k * 2 ^ c.self.inside.cluster_bits % 2 ^ 64 ≡ place_of p.bits k = place_read c.self.inside p k c.self.view_is c.self.invariant c.requires in
    let first : c.max.result ≡ max p.next (k / each p * each p) =
    c.max.ensures ∙ (ap (λ (q : Pool). max q.next (k / c.each-each.result * c.each-each.result)) c.self.view_is ∙ ap (λ (e : ℕ). max p.next (k / e * e)) c.each-each.ensures) in
    grind (arith, common_steps)

pub returns-else-block-index : goal.returns-else-block-index
returns-else-block-index c =
    let p : Pool = c.args.self.now in
    let k : ℕ = c.args.index in
    let block : c.index-block.result.now ≡ block_of p k = block_read c.self.inside p k _ _ c.self.view_is c.self.invariant c.requires c.each-each.ensures c.index-block.ensures in
    let place : k * 2 ^ c.self.inside.cluster_bits % 2 ^ 64 ≡ place_of p.bits k = place_read c.self.inside p k c.self.view_is c.self.invariant c.requires in
    grind (arith, common_steps)
