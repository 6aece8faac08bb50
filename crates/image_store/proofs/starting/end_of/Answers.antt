use Rattle.std.proofs.Common.{◌≡◌, ℕ, ◌*◌, ◌%◌, ◌^◌, ◌≤◌, min, rules, ◌∙◌, ap, subst, arith}
use Rattle.qc_layout.specs.Disks.{place_of}
use Rattle.image_store.proofs.Begun.{fits_word}
use Rattle.image_store.proofs.starting.end_of.Goals.{After-min}
use Rattle.image_store.proofs.starting.end_of.Goals as goal

module _ (c : After-min) where
  same : c.min.result ≡ min c.args.clusters.now.pool.next (2 ^ 30)
  same = search rules

  fits : (c.min.result * 2 ^ c.args.cluster_bits % 2 ^ 64 ≡ place_of c.args.cluster_bits c.min.result) × (c.min.result * 2 ^ c.args.cluster_bits % 2 ^ 64 ≤ 2 ^ 51)
  fits = fits_word c.args.cluster_bits c.min.result (subst (λ (b : ℕ). b ≤ 21) c.requires.bits c.room-room.ensures.allocator.pool.high) (omega (arith, same))

pub returns-clause-end : goal.returns-clause-end
returns-clause-end c = (fits c).0 ∙ ap (place_of c.args.cluster_bits) (same c)

pub returns-clause-low : goal.returns-clause-low
returns-clause-low c = (fits c).1
