-- How a request goes on from one part to the next.
use Rattle.std.proofs.Common.{◌≡◌, ◌⊎◌, inl, inr, ⊎_elim, ℕ, ◌+◌, ◌-◌, ◌*◌, ◌/◌, ◌%◌, ◌<◌, ◌≤◌, ap, arith}
use Rattle.std.proofs.lemmas.Bool.{cases_lt}
use Rattle.std.proofs.Math.Nat.{mul-le-mul_left, mul_comm}
use Rattle.image_model.specs.Clusters.{Shape, size, per}
use Rattle.image_model.specs.Rows.{disk_place}
use Rattle.map_rows.specs.declared.parts.Part.{Part}
use Rattle.map_rows.specs.Parts.{IsPart}
use Rattle.qc_map.proofs.Places.{div_is, mod_is}

-- a table begins at this byte of the disk
pub record IsBorder (s : Shape) (x : ℕ) : Type 0 where
  pub table : ℕ
  pub is : x ≡ disk_place s table 0

-- n bytes of a request are done: none, all, or all up to where a table begins
pub record IsStop (s : Shape) (at length n : ℕ) : Type 0 where
  pub is : (n ≡ 0) ⊎ (n ≡ length) ⊎ IsBorder s (at + n)

-- the part begins where the request does, or where its table does
abbrev pub IsNext : ℕ → Part → Type 0
IsNext n p = (n ≡ 0) ⊎ ((p.slot ≡ 0) × (p.from ≡ 0))

module _ (s : Shape) (at length n : ℕ) (p : Part) (some : 0 < s.sectors) (part : IsPart s (at + n) (length - n) p) where
  pub next_part : n < length → IsStop s at length n → IsNext n p
  next_part more stop = by_case stop.is
    where
      by_case : (n ≡ 0) ⊎ (n ≡ length) ⊎ IsBorder s (at + n) → IsNext n p
      by_case (inl none) = inl none
      by_case (inr (inl all)) = absurd (omega (arith, all, more))
      by_case (inr (inr border)) =
          let here : at + n ≡ (border.table * per s + 0) * size s + 0 = omega (arith, border.is) in
          let from_here : (at + n) % size s ≡ 0 = mod_is (at + n) (size s) (border.table * per s + 0) 0 here (omega (arith, some)) in
          let from_part : (at + n) % size s ≡ p.from = mod_is (at + n) (size s) (p.table * per s + p.slot) p.from part.begins part.inside in
          let at_here : (at + n) / size s ≡ border.table * per s + 0 = div_is (at + n) (size s) (border.table * per s + 0) 0 here (omega (arith, some)) in
          let at_part : (at + n) / size s ≡ p.table * per s + p.slot = div_is (at + n) (size s) (p.table * per s + p.slot) p.from part.begins part.inside in
          let slot_here : (at + n) / size s % per s ≡ 0 = mod_is ((at + n) / size s) (per s) border.table 0 at_here (omega (arith, some)) in
          let slot_part : (at + n) / size s % per s ≡ p.slot = mod_is ((at + n) / size s) (per s) p.table p.slot at_part (omega (arith, part.slots, count_some)) in
          inr (omega (arith, slot_here, slot_part), omega (arith, from_here, from_part))
        where
          count_some : 0 < p.count
          count_some = elim (cases_lt 0 p.count) [
            | inl is ↦ is
            | inr none ↦ absurd (let e : size s * p.count ≤ size s * 0 = mul-le-mul_left (size s) none in omega (arith, e, part.covers, part.some))
          ]

  pub next_stop : n < length → IsStop s at length (n + p.length)
  next_stop more = record {
    is = ⊎_elim
        (λ (all : p.length ≡ length - n). inr (inl (omega (arith, all, more))))
        (λ (full : (p.slot + p.count ≡ per s) × (p.from + p.length ≡ size s * p.count)). inr (inr (record {
          table = p.table + 1;
          is =
              (let a : (p.table * per s + p.slot) * size s + size s * p.count ≡ (p.table * per s + (p.slot + p.count)) * size s = grind arith in
              let b : (p.table * per s + (p.slot + p.count)) * size s ≡ (p.table * per s + per s) * size s = ap (λ (k : ℕ). (p.table * per s + k) * size s) full.0 in
              let c : (p.table * per s + per s) * size s ≡ ((p.table + 1) * per s + 0) * size s = grind arith in
              omega (arith, part.begins, full.1, a, b, c));
        })))
        part.rest;
  }

-- a part's entries are few
pub count_few : (s : Shape) (at length : ℕ) (p : Part) → 0 < s.sectors → IsPart s at length p → p.count ≤ p.length + 1
count_few s at length p some part = elim (cases_lt (p.length + 1) p.count) [
  | inr is ↦ is
  | inl less ↦ absurd (
      let e : size s * (p.length + 2) ≤ size s * p.count = mul-le-mul_left (size s) (omega (arith, less)) in
      let f : size s * (p.length + 2) ≡ size s * p.length + 2 * size s = grind arith in
      let g : p.length * 1 ≤ p.length * size s = mul-le-mul_left p.length (omega (arith, some)) in
      omega (arith, e, f, g, mul_comm p.length (size s), part.least, part.inside))
]
