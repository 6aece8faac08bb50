use Rattle.std.proofs.Common.{◌≡◌, ℕ, ◌-◌, ◌*◌, ◌^◌, ◌≤◌, min, ap, subst, ◌∙◌, arith, rules}
use Rattle.std.proofs.lemmas.Nat.{mul-le}
use Rattle.bitmap_model.specs.Granules.{GranuleSet, IsShaped, marked}
use Rattle.bitmap_model.proofs.Places.{granularity-least}
use Rattle.bits_granular.proofs.Marking.{marked-cut}
use Rattle.bits_granular.proofs.bits.GranularBits.mark_granules.Goals as goal

pub overflow_mul-length : goal.overflow_mul-length
overflow_mul-length c =
    let most : (c.args.past - c.args.first) * c.args.granularity ≤ 2 ^ 27 * 2 ^ 31 = mul-le (c.args.past - c.args.first) c.args.granularity (2 ^ 27) (2 ^ 31) (omega (arith, c.requires.few)) c.requires.small in
    search rules

pub returns : goal.returns
returns c =
    let shaped : IsShaped c.args.self.now = subst IsShaped c.self.view_is c.self.invariant in
    let size : c.self.inside.size ≡ c.args.self.now.size = ap (λ (s : GranuleSet). s.size) c.self.view_is in
    let at : ℕ = c.args.first * c.args.granularity in
    let length : ℕ = (c.args.past - c.args.first) * c.args.granularity in
    c.mark.ensures
    ∙ (ap (λ (n : ℕ). marked c.args.self.now (record { at = at; size = n })) c.min.ensures
    ∙ (ap (λ (n : ℕ). marked c.args.self.now (record { at = at; size = min length (n - at) })) size
    ∙ marked-cut c.args.self.now at length (omega (arith, granularity-least c.args.self.now.granularity shaped.lawful)) shaped.whole c.requires.inside))
