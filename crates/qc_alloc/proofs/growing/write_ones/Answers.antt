use Rattle.std.proofs.Common.{◌≡◌, ℕ, ◌+◌, ◌*◌, List, [], ◌∷◌, ◌∙◌, ap, arith}
use Rattle.std.specs.Int.{from_be_bytes, w16}
use Rattle.disk_model.specs.Files.{byte, u16_at}
use Rattle.disk_model.proofs.Laws.{u16_bytes}
use Rattle.qc_alloc.proofs.growing.write_ones.Goals as goal

one_at : (counts : List ℕ) (at : ℕ) → byte counts at ≡ 0 → byte counts (at + 1) ≡ 1 → u16_at counts at ≡ 1
one_at counts at high low =
    u16_bytes counts at
    ∙ ap (λ (x : ℕ). from_be_bytes w16 (x ∷ byte counts (at + 1) ∷ [])) high
    ∙ ap (λ (x : ℕ). from_be_bytes w16 (0 ∷ x ∷ [])) low

pub returns-clause-ones : goal.returns-clause-ones
returns-clause-ones c t t_in = one_at _ (2 * t) (c.loop-index.invariant.high t (omega (arith, t_in))) (c.loop-index.invariant.low t (omega (arith, t_in)))
