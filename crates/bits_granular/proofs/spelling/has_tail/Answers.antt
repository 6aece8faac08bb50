use Rattle.std.proofs.Common.{◌≡◌, ◌≢◌, ◌↔◌, ℕ, ◌+◌, ◌-◌, ◌/◌, ◌%◌, ◌^◌, ◌<◌, subst, get_or, drop, length, List, sym, ap, ◌∙◌, arith, length-drop}
use Rattle.std.specs.Prelude.{IsTrue, SomeIndex, nat_eq}
use Rattle.std.proofs.lemmas.Bool.{not_from_false, ne_eqb}
use Rattle.std.proofs.lemmas.List.{get_or-drop, take_all}
use Rattle.bits_granular.proofs.Octets.{tail_in_first, tail_in_other, tail_elsewhere}
use Rattle.bits_granular.proofs.spelling.has_tail.Goals as goal

pub returns-then-bytes-first-ne0 : goal.returns-then-bytes-first-ne0
returns-then-bytes-first-ne0 c = (
  λ _. tail_in_first c.args.bytes.now c.args.count (omega (arith, c.type_inv.bytes (c.args.count / 8))) (omega (arith, c.if-bytes-first-ne0.true)),
  λ _. not_from_false (nat_eq (get_or c.args.bytes.now (c.args.count / 8) 0 / 2 ^ (c.args.count % 8)) 0)
      (ne_eqb (get_or c.args.bytes.now (c.args.count / 8) 0 / 2 ^ (c.args.count % 8)) 0 c.if-bytes-first-ne0.true),
)

pub returns-else-bytes-first-ne0 : goal.returns-else-bytes-first-ne0
returns-else-bytes-first-ne0 c =
    let bytes : List ℕ = c.args.bytes.now in
    let next : ℕ = c.args.count / 8 + 1 in
    let rest : List ℕ = drop next bytes in
    let ones : IsTrue c.has_ones.result ↔ SomeIndex rest (λ k. get_or rest k 0 ≢ 0) =
    subst (λ (xs : List ℕ). IsTrue c.has_ones.result ↔ SomeIndex xs (λ k. get_or xs k 0 ≢ 0)) (take_all (length bytes - next) rest (omega (arith, length-drop next bytes))) c.has_ones.ensures in (
      λ h. let found : SomeIndex rest (λ k. get_or rest k 0 ≢ 0) = ones.0 h in
          let there : get_or rest found.0 0 ≡ get_or bytes (next + found.0) 0 = get_or-drop next bytes found.0 0 in
          tail_in_other bytes c.args.count (next + found.0) (omega arith) (omega (arith, c.type_inv.bytes (next + found.0))) (λ (e : get_or bytes (next + found.0) 0 ≡ 0). found.2 (there ∙ e)),
      λ t. let found : (q : ℕ) × (c.args.count / 8 < q) × (q < length bytes) × (get_or bytes q 0 ≢ 0) = tail_elsewhere bytes c.args.count c.if-bytes-first-ne0.false t in
          let place : ℕ = found.0 - next in
          let sum : next + place ≡ found.0 = omega (arith, found.1) in
          let there : get_or rest place 0 ≡ get_or bytes found.0 0 = get_or-drop next bytes place 0 ∙ ap (λ (q : ℕ). get_or bytes q 0) sum in
          ones.1 (place, omega (arith, length-drop next bytes, found.2, found.1), λ (e : get_or rest place 0 ≡ 0). found.3 (sym there ∙ e)),
    )
