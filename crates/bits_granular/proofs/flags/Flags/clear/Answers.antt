use Rattle.std.proofs.Common.{◌+◌, ◌/◌, ◌<◌, ◌^◌, ℕ, false, replicate, inl, inr, ap, ◌∙◌, arith, rules}
use Rattle.std.proofs.lemmas.Bool.{cases_lt}
use Rattle.bits_granular.proofs.Parts.{all_false}
use Rattle.bits_granular.proofs.flags.Flags.clear.Goals as goal

pub overflow_add-from : goal.overflow_add-from
overflow_add-from c =
    let fits : c.in-Some.number + 1 < 2 ^ 64 = omega (arith, c.in-Some.ensures.found.inside, c.next_word.ensures.few) in
    search rules

pub returns : goal.returns
returns c =
    all_false c.loop-number.self (λ k. elim (cases_lt (k / 64) c.loop-number.from) [
      | inl before ↦ c.loop-number.invariant.bits k before
      | inr past ↦ c.in_default.ensures.none k past
    ])
    ∙ ap (λ (n : ℕ). replicate n false) c.loop-number.invariant.count
