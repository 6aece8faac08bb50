-- Where an image that was found in order stands.
use Rattle.std.proofs.Common.{◌≡◌, inl, ℕ, ◌+◌, ◌*◌, ◌%◌, ◌^◌, ◌<◌, ◌≤◌, List, [], ◌∷◌, length, min, IsTrue, sym, ◌∙◌, ap, subst, arith}
use Rattle.std.specs.Prelude.{All}
use Rattle.std.specs.Int.{w64}
use Rattle.std.proofs.lemmas.List.Elements.{All-nil}
use Rattle.std.proofs.Math.Nat.{mul_comm, mul-le-mul, pow-le-pow_right}
use Rattle.disk_model.specs.World.{World, Parts, Runs, EachSinceSync}
use Rattle.disk_model.proofs.Laws.{number_same}
use Rattle.qc_layout.specs.Disks.{place_of}
use Rattle.image_model.specs.Clusters.{Shape, Refers, place, IsLonger, IsStanding}
use Rattle.image_model.specs.Calls.{AreInside, shape_of}
use Rattle.image_steps.proofs.Opening.{same_refers}
use Rattle.image_steps.proofs.Places.{place_step}
use Rattle.image_steps.proofs.Words.{place_is}
use Rattle.qc_alloc.specs.Allocator.{Allocator}
use Rattle.image_store.specs.Finding.{IsAllFound}
use Rattle.image_store.specs.Opening.{Starts}

-- where it stands, with the bytes that were found
pub starts_by : (a : Allocator) (file : List ℕ) (w : World) → IsAllFound a file → (IsTrue w.tells → IsLonger file (w.seen a.file))
    → IsStanding (shape_of file) (file ∷ []) a.pool.next a.pool.next a.file w → Starts a file w
starts_by a file w found longer stands =
    let s : Shape = shape_of file in
    let word : IsTrue w.tells → (i : ℕ) → _ = λ told i. number_same w64 (w.seen a.file) file (s.counts + 8 * i) (λ x from to. (longer told).bytes x) in
    record {
      stands = record {
        is = found.of;
        stands = subst (λ (n : ℕ). IsStanding s (file ∷ []) a.pool.next n a.file w) (sym found.prepared) stands;
        table = λ told i inside. inl (word told i ∙ found.blocks i inside);
      };
      hands = record { ready = subst (All (λ k. a.pool.next ≤ k)) (sym found.ready) (All-nil (λ k. a.pool.next ≤ k)); fresh = omega arith };
      known = λ told. record {
        exactly = record {
          named = λ who k refers. found.exact.named who k (same_refers s (w.seen a.file) file (λ i. sym ((longer told).bytes i)) who k refers);
          exact = λ k is. let r = found.exact.exact k is in (r.0, same_refers s file (w.seen a.file) (longer told).bytes r.0 k r.1);
        };
        blocks = λ i inside. word told i ∙ found.blocks i inside;
      };
      longer = longer;
    }

-- what is referred to is among the clusters that an image can use
pub below_end : (a : Allocator) (file : List ℕ) (who : _) (k : ℕ) → IsAllFound a file → Refers (shape_of file) file who k → k < min a.pool.next (2 ^ 30)
below_end a file who k found refers = omega (arith, found.opened.below who k refers, found.opened.counted.below who k refers)

-- where these end
pub end_is : (a : Allocator) (file : List ℕ) (bits n : ℕ) → IsAllFound a file → a.pool.bits ≡ bits → place_of bits n ≡ place (shape_of file) n
end_is a file bits n found same = place_is (shape_of file) found.of.shape.some bits (ap (λ (b : ℕ). 2 ^ b) (sym same) ∙ found.of.cluster) n

-- all that is referred to lies in a file that reaches so far
pub reaches : (a : Allocator) (file : List ℕ) → IsAllFound a file → place (shape_of file) (min a.pool.next (2 ^ 30)) ≤ length file → AreInside (shape_of file) file
reaches a file found far who k refers =
    let step = place_step (shape_of file) k (min a.pool.next (2 ^ 30)) (below_end a file who k found refers) in
    omega (arith, far, step)

-- no sync was made
pub none_synced : {parts : Parts} {a b : World} (f : ℕ) (P : List ℕ → Type 0) → Runs parts a b → (parts.files f → ⊥) → EachSinceSync a b f P
none_synced {parts} {a} {b} f P run none = record {
  moment = b.now + 1;
  from = omega (arith, run.goes.later);
  to = omega arith;
  before = λ k low high to. (run.files f none).moments k low to;
  since = λ k low high c left. absurd (omega (arith, low, high));
}

-- a place of one of the first clusters fits a word
pub fits_word : (bits m : ℕ) → bits ≤ 21 → m ≤ 2 ^ 30 → (m * 2 ^ bits % 2 ^ 64 ≡ place_of bits m) × (m * 2 ^ bits % 2 ^ 64 ≤ 2 ^ 51)
unfolding place_of
fits_word bits m high few =
    let pow : 2 ^ bits ≤ 2 ^ 21 = pow-le-pow_right {n = 2} (omega arith) {i = bits} {j = 21} high in
    let most : m * 2 ^ bits ≤ 1073741824 * 2097152 = mul-le-mul {n₁ = m} {m₁ = 2 ^ bits} {n₂ = 1073741824} {m₂ = 2097152} few pow in
    let turned : m * 2 ^ bits ≡ 2 ^ bits * m = mul_comm m (2 ^ bits) in
    (omega (arith, most, turned), omega (arith, most))
