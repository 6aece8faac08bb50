-- Claims of an allocator, as an opening's checks say them.
use Rattle.std.proofs.Common.{◌≡◌, ◌≢◌, ℕ, ◌+◌, ◌*◌, ◌/◌, ◌^◌, ◌<◌, ◌≤◌, [], ◌∷◌, Option, Some, None, Result, Ok, Err, refl, sym, ap, subst, ◌∙◌, arith, inl, inr}
use Rattle.std.proofs.lemmas.Bool.{cases_eq}
use Rattle.disk_model.proofs.Laws.{stay}
use Rattle.disk_model.specs.World.{reads_of}
use Rattle.file_device.proofs.Laws.{quiet_stay}
use Rattle.qc_layout.specs.declared.faults.ImageFault.{ImageFault}
use Rattle.qc_layout.specs.Disks.{place_of}
use Rattle.qc_layout.specs.Opening.Check.{Claim}
use Rattle.qc_layout.specs.Owners.{Who}
use Rattle.qc_layout.proofs.NumberLaws.{bits_low, bits_high}
use Rattle.cluster_pool.specs.Pool.{Pool, claim_refusal, claimed}
use Rattle.cluster_pool.specs.Laws.{ClaimsAreExact}
use Rattle.qc_alloc.specs.declared.refusals.ClusterRefusal.{ClusterRefusal}
use Rattle.qc_alloc.specs.Opening as clusters
use Rattle.qc_alloc.specs.Allocator.{Allocator, IsAllocator}
use Rattle.qc_alloc.specs.Tables.{IsClaimFault, Stops}
use Rattle.qc_alloc.proofs.Claiming.{claimable, claim_kept, claim_went, kept_same, refusal_is_claim}
use Rattle.qc_alloc.proofs.Sizes.{place_of_small}
use Rattle.map_opening.specs.declared.refusals.MapRefusal.{MapRefusal}
use Rattle.map_opening.specs.declared.refusals.MapRefusal.TheVariants.{Failed}
use Rattle.map_opening.specs.Refusals.{rule_of}
use Rattle.map_opening.specs.Opening.{Claims}

-- ---- one claim

pub claim_taken : {T : Type 0} (a b : Allocator) (k : ℕ) (value : T) → ClaimsAreExact → IsAllocator a → (claim_refusal a.pool k ≡ None) × (b ≡ record a { pool = claimed a.pool k })
    → (owner : Who) → Claims (Claim owner k ∷ []) a b (Ok value)
claim_taken {T} a b k value exact is done owner f w =
    let pool : (claim_refusal a.pool k ≡ None) × (b.pool ≡ claimed a.pool k) = (done.0, ap (λ (x : Allocator). x.pool) done.1) in
    let result : Result T ClusterRefusal = Ok value in
    record {
      same = (ap (λ (x : Allocator). x.file) done.1, ap (λ (x : Allocator). x.table) done.1);
      kept = claim_kept a.pool b.pool k result is.pool pool tt;
      run = stay (reads_of f) w;
      cause = λ failed. absurd (cc);
      quiet = λ other. quiet_stay w;
      went = λ told before knows. claim_went a.pool b.pool k result exact is.pool tt pool (w.seen f) before owner knows;
    }

pub claim_below : (p : Pool) (k : ℕ) → claim_refusal p k ≡ None → k < 2 ^ 30
claim_below p k none = let below = (claimable p k none).below in omega arith

-- as the pool refuses it
same_rule : (p : Pool) (k : ℕ) (other : ClusterRefusal) (why : MapRefusal) → (clusters.rule_of other ≢ None) × (clusters.rule_of other ≡ claim_refusal p k)
    → ((fault : ImageFault) → clusters.rule_of other ≡ Some fault → IsClaimFault fault → rule_of why ≡ Some fault) → rule_of why ≡ clusters.rule_of other
same_rule p k other why refused told = by_option (clusters.rule_of other) refl
  where
    by_option : (o : Option ImageFault) → clusters.rule_of other ≡ o → rule_of why ≡ clusters.rule_of other
    by_option None e = absurd (refused.0 e)
    by_option (Some fault) e = told fault e (refusal_is_claim p k fault (sym refused.1 ∙ e)) ∙ sym e

pub claim_refused : {T : Type 0} (a b : Allocator) (k : ℕ) (other : ClusterRefusal) (why : MapRefusal) → ClaimsAreExact → IsAllocator a → (clusters.rule_of other ≢ None) × (clusters.rule_of other ≡ claim_refusal a.pool k)
    → ((fault : ImageFault) → clusters.rule_of other ≡ Some fault → IsClaimFault fault → rule_of why ≡ Some fault) → b ≡ a → (owner : Who) → Claims {T = T} (Claim owner k ∷ []) a b (Err why)
claim_refused {T} a b k other why exact is refused told same owner f w =
    let rule : rule_of why ≡ clusters.rule_of other = same_rule a.pool k other why refused told in
    let some : rule_of why ≢ None = λ none. refused.0 (sym rule ∙ none) in
    let result : Result T ClusterRefusal = Err other in
    let none : why ≡ Failed → ⊥ = λ failed. let P : MapRefusal → Type 0 = λ x. rule_of x ≢ None in subst P failed some refl in
    let pool : b.pool ≡ a.pool = ap (λ (x : Allocator). x.pool) same in
    record {
      same = (ap (λ (x : Allocator). x.file) same, ap (λ (x : Allocator). x.table) same);
      kept = kept_same a.pool b.pool pool;
      run = stay (reads_of f) w;
      cause = λ failed. let e : why ≡ Failed = cc in absurd (none e);
      quiet = λ not_failed. quiet_stay w;
      went = λ files before knows _.
          let P : Option ImageFault → Type 0 = λ o. Stops (w.seen f) before (Claim owner k ∷ []) o in
          subst P (sym rule) (claim_went a.pool b.pool k result exact is.pool refused tt (w.seen f) before owner knows).1;
    }

-- ---- numbers

-- where a cluster of the first level begins: the first of them, or one behind clusters that were claimed
pub cluster_near : (bits place i : ℕ) → bits ≤ 21 → place < 2 ^ 64 → (0 < i → place / 2 ^ bits + i ≤ 2 ^ 30) → place_of bits (place / 2 ^ bits + i) < 2 ^ 64
unfolding place_of
cluster_near bits place i high small near = elim (cases_eq i 0) [
  | inl e ↦ let some : 2 ^ bits * (place / 2 ^ bits + i) ≡ 2 ^ bits * (place / 2 ^ bits) = ap (λ (n : ℕ). 2 ^ bits * n) (omega (arith, e)) in omega (arith, some, small)
  | inr other ↦ let most = place_of_small bits (place / 2 ^ bits + i) high (near (omega (arith, other))) in omega (arith, most)
]

-- an offset in a cluster below the reach
pub offset_near : (bits offset : ℕ) → 9 ≤ bits → bits ≤ 21 → offset / 2 ^ bits < 2 ^ 30 → offset ≤ 2 ^ 52
unfolding place_of
offset_near bits offset low high below =
    let most = place_of_small bits (offset / 2 ^ bits) high (omega (arith, below)) in
    let cluster = bits_high bits high in
    let some = bits_low bits low in
    omega (arith, most, cluster, some)
