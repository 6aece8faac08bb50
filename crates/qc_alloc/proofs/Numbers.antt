-- Two bytes as a count, and how many counts a block has.
use Rattle.std.proofs.Common.{◌≡◌, ℕ, suc, ◌+◌, ◌-◌, ◌*◌, ◌%◌, ◌^◌, ◌<◌, ◌≤◌, List, [], ◌∷◌, length, take, ◌∙◌, ap, subst, arith}
use Rattle.std.proofs.Math.ListN.{set, length-set}
use Rattle.std.proofs.Math.Nat.{pow-suc, pow-le-pow_right}
use Rattle.std.proofs.lemmas.List.{get_or-take}
use Rattle.std.proofs.Common.{get_or-set_other, get_or-set_same}
use Rattle.std.specs.Int.{from_be_bytes, w16}
use Rattle.disk_model.specs.Files.{byte, u16_at}
use Rattle.disk_model.proofs.Laws.{u16_bytes, number_same}
use Rattle.qc_layout.specs.Disks.{counts_in}

pair : (v : ℕ) → from_be_bytes w16 (0 ∷ v ∷ []) ≡ v
pair v = omega arith

-- the count that two bytes make
pub count_put : (counts : List ℕ) (i v : ℕ) → 2 * i + 1 < length counts → u16_at (set (set counts (2 * i) 0) (2 * i + 1) v) (2 * i) ≡ v
count_put counts i v inside =
    let once = set counts (2 * i) 0 in
    let high : byte (set once (2 * i + 1) v) (2 * i) ≡ 0 = get_or-set_other once (2 * i + 1) (2 * i) v 0 (omega arith) ∙ get_or-set_same counts (2 * i) 0 0 (omega (arith, inside)) in
    let low : byte (set once (2 * i + 1) v) (2 * i + 1) ≡ v = get_or-set_same once (2 * i + 1) v 0 (omega (arith, inside, length-set counts (2 * i) 0)) in
    u16_bytes (set once (2 * i + 1) v) (2 * i)
    ∙ ap (λ (a : ℕ). from_be_bytes w16 (a ∷ byte (set once (2 * i + 1) v) (2 * i + 1) ∷ [])) high
    ∙ ap (λ (b : ℕ). from_be_bytes w16 (0 ∷ b ∷ [])) low
    ∙ pair v

-- and those before it
pub count_kept : (counts : List ℕ) (i v t : ℕ) → t < i → u16_at (set (set counts (2 * i) 0) (2 * i + 1) v) (2 * t) ≡ u16_at counts (2 * t)
count_kept counts i v t before =
    number_same w16 (set (set counts (2 * i) 0) (2 * i + 1) v) counts (2 * t)
    (λ b low high. get_or-set_other (set counts (2 * i) 0) (2 * i + 1) b v 0 (omega (arith, high, before)) ∙ get_or-set_other counts (2 * i) b 0 0 (omega (arith, high, before)))

-- those in a part of the buffer
pub count_take : (counts : List ℕ) (n t : ℕ) → t < n → u16_at (take (2 * n) counts) (2 * t) ≡ u16_at counts (2 * t)
count_take counts n t inside = number_same w16 (take (2 * n) counts) counts (2 * t) (λ b low high. get_or-take (2 * n) counts b 0 (omega (arith, high, inside)))

-- what a shift by one less than the cluster bits gives
pub shift_double : (bits : ℕ) → 9 ≤ bits → bits ≤ 21 → 2 * (1 * 2 ^ (bits - 1) % 18446744073709551616) ≡ 2 ^ bits
shift_double bits low high =
    let some : suc (bits - 1) ≡ bits = omega (arith, low) in
    let whole : 2 ^ bits ≡ 2 ^ (bits - 1) * 2 = subst (λ (n : ℕ). 2 ^ n ≡ 2 ^ (bits - 1) * 2) some (pow-suc 2 (bits - 1)) in
    let small : 2 ^ (bits - 1) ≤ 2 ^ 20 = pow-le-pow_right {n = 2} (omega arith) {i = bits - 1} {j = 20} (omega (arith, high)) in
    omega (arith, whole, small)

pub shift_each : (bits : ℕ) → 9 ≤ bits → bits ≤ 21 → 1 * 2 ^ (bits - 1) % 18446744073709551616 ≡ counts_in bits
unfolding counts_in
shift_each bits low high = omega (arith, shift_double bits low high)

pub shift_few : (bits : ℕ) → 9 ≤ bits → bits ≤ 21 → 1 * 2 ^ (bits - 1) % 18446744073709551616 ≤ 1048576
shift_few bits low high =
    let small : 2 ^ bits ≤ 2 ^ 21 = pow-le-pow_right {n = 2} (omega arith) {i = bits} {j = 21} high in
    omega (arith, shift_double bits low high, small)
