-- Bytes of the clusters of a row.
use Rattle.std.proofs.Common.{◌≡◌, inl, inr, ℕ, ◌+◌, ◌-◌, ◌*◌, ◌/◌, ◌%◌, ◌<◌, ◌≤◌, List, refl, sym, ◌∙◌, ap, arith}
use Rattle.std.specs.Prelude.{cond, Bool}
use Rattle.std.proofs.lemmas.Bool.{cases_eq, ne_eqb, eq-eqb, cases_lt}
use Rattle.std.proofs.Math.Nat.{div-add-mod, mod-lt, mul-le-mul_left, mul_comm}
use Rattle.disk_model.specs.Files.{byte, u64_at}
use Rattle.image_model.specs.Clusters.{stored, pick}
use Rattle.map_rows.specs.declared.runs.Run.{Run}
use Rattle.map_rows.specs.Runs.{IsRun, place_in}
use Rattle.image_steps.proofs.Kept.{pick_some}
use Rattle.qc_map.specs.Reading.{row_byte}

-- a byte of a run, where a call on its first cluster reads it
pick_in : (file : List ℕ) (host cluster m t u : ℕ) → u ≡ m * cluster + t → pick host (byte file (host + u)) ≡ pick (place_in host cluster m) (byte file (place_in host cluster m + t))
pick_in file host cluster m t u is = elim (cases_eq host 0) [
  | inl none ↦ ap (λ (h : ℕ). pick h (byte file (h + u))) none ∙ sym (ap (λ (p : ℕ). pick p (byte file (p + t))) (ap (λ (b : Bool). cond b 0 (host + m * cluster)) (eq-eqb host 0 none)))
  | inr some ↦
      let at : place_in host cluster m ≡ host + m * cluster = ap (λ (b : Bool). cond b 0 (host + m * cluster)) (ne_eqb host 0 some) in
      let same : host + u ≡ host + m * cluster + t = omega (arith, is) in
      pick_some host (byte file (host + u)) (omega (arith, some))
      ∙ ap (byte file) same
      ∙ sym (pick_some (host + m * cluster) (byte file (host + m * cluster + t)) (omega (arith, some)))
      ∙ sym (ap (λ (p : ℕ). pick p (byte file (p + t))) at)
]

-- byte y of a row's clusters is one of the run's from its cluster `first` on
pub run_byte : (row file : List ℕ) (cluster first end place y : ℕ) (run : Run) → 0 < cluster → IsRun row first end cluster run → first ≡ place / cluster → place ≤ y → y < (first + run.count) * cluster
    → pick run.host (byte file (run.host + place % cluster + (y - place))) ≡ row_byte cluster row file y
run_byte row file cluster first end place y run some is at from to =
    let whole_p : cluster * (place / cluster) + place % cluster ≡ place = div-add-mod place cluster in
    let whole_y : cluster * (y / cluster) + y % cluster ≡ y = div-add-mod y cluster in
    let less_p : place % cluster < cluster = mod-lt place some in
    let less_y : y % cluster < cluster = mod-lt y some in
    let low : first < y / cluster + 1 = in_order first (y / cluster + 1) cluster (omega (arith, whole_p, whole_y, less_y, from, ap (λ (n : ℕ). cluster * n) at)) in
    let high : y / cluster < first + run.count = in_order (y / cluster) (first + run.count) cluster (omega (arith, whole_y, to, mul_comm cluster (first + run.count))) in
    let m : ℕ = y / cluster - first in
    let here : first + m ≡ y / cluster = omega (arith, low) in
    let times : cluster * (first + m) ≡ cluster * first + m * cluster = grind arith in
    let step : run.host + place % cluster + (y - place) ≡ run.host + (m * cluster + y % cluster) =
    omega (arith, whole_p, whole_y, times, from, ap (λ (n : ℕ). cluster * n) here, ap (λ (n : ℕ). cluster * n) at) in
    ap (λ (x : ℕ). pick run.host (byte file x)) step
    ∙ pick_in file run.host cluster m (y % cluster) (m * cluster + y % cluster) refl
    ∙ ap (λ (p : ℕ). pick p (byte file (p + y % cluster))) (sym (is.each m (omega (arith, here, high))) ∙ ap (λ (n : ℕ). stored (u64_at row (8 * n))) here)
  where
    in_order : (a b c : ℕ) → c * a < c * b → a < b
    in_order a b c less = elim (cases_lt a b) [
      | inl is ↦ is
      | inr more ↦ absurd (let e : c * b ≤ c * a = mul-le-mul_left c more in omega (arith, e, less))
    ]

-- and the run ends behind the place where it was looked for
pub run_goes : (place cluster count : ℕ) → 0 < cluster → 0 < count → place < (place / cluster + count) * cluster
run_goes place cluster count some many =
    let more : cluster * (place / cluster + 1) ≤ cluster * (place / cluster + count) = mul-le-mul_left cluster (omega (arith, many)) in
    let step : cluster * (place / cluster + 1) ≡ cluster * (place / cluster) + cluster = grind arith in
    omega (arith, more, step, div-add-mod place cluster, mod-lt place some, mul_comm cluster (place / cluster + count))
