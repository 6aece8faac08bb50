-- The first part of a request.
use Rattle.std.proofs.Common.{◌≡◌, inl, inr, ℕ, ◌+◌, ◌-◌, ◌*◌, ◌/◌, ◌%◌, ◌^◌, ◌<◌, ◌≤◌, min, ap, sym, subst, ◌∙◌, arith}
use Rattle.std.specs.Int.{div_ceil}
use Rattle.std.proofs.Math.Nat.{div-add-mod, mod-lt, mul-le-mul_left, mul_comm, pow-le-pow_right}
use Rattle.std.proofs.lemmas.Bool.{cases_lt}
use Rattle.std.proofs.lemmas.Grind.{div_ceil_times}
use Rattle.image_model.specs.Clusters.{Shape, size, per}
use Rattle.map_rows.specs.Parts.{IsPart}

-- ---- bytes of a cluster

pub bits_least : (bits : ℕ) → 9 ≤ bits → 512 ≤ 2 ^ bits
bits_least bits low = let e : 2 ^ 9 ≤ 2 ^ bits = pow-le-pow_right {n = 2} (omega arith) {i = 9} {j = bits} low in omega (arith, e)

pub bits_most : (bits : ℕ) → bits ≤ 21 → 2 ^ bits ≤ 2 ^ 21
bits_most bits high = pow-le-pow_right {n = 2} (omega arith) {i = bits} {j = 21} high

-- ---- products that are in order have factors in order

times_less : (a b c : ℕ) → a * c < b * c → a < b
times_less a b c less = elim (cases_lt a b) [
  | inl is ↦ is
  | inr more ↦ absurd (let e : c * b ≤ c * a = mul-le-mul_left c more in omega (arith, e, mul_comm c b, mul_comm c a, less))
]

-- ---- the part, by clusters of c bytes and tables of w entries

module _ (s : Shape) (at length : ℕ) (some : 0 < length) (cluster : 512 ≤ size s) where
  abbrev index : ℕ
  index = at / size s

  abbrev slot : ℕ
  slot = index % per s

  abbrev from : ℕ
  from = at % size s

  abbrev most : ℕ
  most = (per s - slot) * size s - from

  from_less : from < size s
  from_less = mod-lt at (omega (arith, cluster))

  slot_less : slot < per s
  slot_less = mod-lt index (omega (arith, cluster))

  one_most : size s ≤ (per s - slot) * size s
  one_most =
      let e : size s * 1 ≤ size s * (per s - slot) = mul-le-mul_left (size s) (omega (arith, slot_less)) in
      omega (arith, e, mul_comm (size s) (per s - slot))

  whole : at ≡ (index / per s * per s + slot) * size s + from
  whole =
      let e : per s * (index / per s) + slot ≡ index = div-add-mod index (per s) in
      let f : index / per s * per s + slot ≡ index = omega (arith, e, mul_comm (per s) (index / per s)) in
      let g : (index / per s * per s + slot) * size s ≡ index * size s = ap (λ (n : ℕ). n * size s) f in
      omega (arith, g, div-add-mod at (size s), mul_comm (size s) index)

  is_part : (bytes count : ℕ) → bytes ≡ min length most → count ≡ div_ceil (from + bytes) (size s)
      → IsPart s at length (record { table = index / per s; slot = slot; count = count; from = from; length = bytes })
  is_part bytes count cut is =
      let bounds = div_ceil_times (from + bytes) (size s) (omega (arith, cluster)) in
      let low : from + bytes ≤ count * size s = omega (arith, bounds.0, ap (λ (n : ℕ). n * size s) is) in
      let high : count * size s < from + bytes + size s = omega (arith, bounds.1, ap (λ (n : ℕ). n * size s) is) in
      let comm = mul_comm (size s) count in
      let few : count < per s - slot + 1 = times_less count (per s - slot + 1) (size s) (omega (arith, high, cut, one_most, from_less)) in
      record {
        some = omega (arith, some, cut, one_most, from_less);
        within = omega (arith, cut);
        begins = whole;
        inside = from_less;
        slots = omega (arith, few, slot_less);
        covers = omega (arith, low, comm);
        least = omega (arith, high, comm);
        rest = elim (cases_lt most length) [
          | inr all ↦ inl (omega (arith, cut, all))
          | inl less ↦
              let end : from + bytes ≡ (per s - slot) * size s = omega (arith, cut, less, one_most, from_less) in
              let many : per s - slot < count + 1 = times_less (per s - slot) (count + 1) (size s) (omega (arith, low, end, cluster)) in
              let same : count ≡ per s - slot = omega (arith, few, many) in
              inr (omega (arith, same, slot_less), end ∙ sym (comm ∙ ap (λ (n : ℕ). n * size s) same))
        ];
      }

-- as code computes it
pub part_is : (s : Shape) (at length c bytes count : ℕ) → 0 < length → 512 ≤ c → c ≡ size s → bytes ≡ min length ((c / 8 - at / c % (c / 8)) * c - at % c) → count ≡ div_ceil (at % c + bytes) c
    → IsPart s at length (record { table = at / c / (c / 8); slot = at / c % (c / 8); count = count; from = at % c; length = bytes })
part_is s at length c bytes count some least cluster cut is =
    let w : c / 8 ≡ per s = omega (arith, cluster) in
    let P : ℕ → ℕ → Type 0 = λ d e. bytes ≡ min length ((e - at / d % e) * d - at % d) → count ≡ div_ceil (at % d + bytes) d
    → IsPart s at length (record { table = at / d / e; slot = at / d % e; count = count; from = at % d; length = bytes }) in
    let here : P (size s) (per s) = is_part s at length some (omega (arith, least, cluster)) bytes count in
    subst (λ (e : ℕ). P c e) (sym w) (subst (λ (d : ℕ). P d (per s)) (sym cluster) here) cut is
