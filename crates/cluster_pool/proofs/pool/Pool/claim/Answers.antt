use Rattle.std.proofs.Common.{◌≡◌, ◌≢◌, ℕ, ◌*◌, ◌%◌, ◌^◌, ◌<◌, true, false, Bool, List, length, get_or, Option, Some, None, refl, sym, ap, subst, ◌∙◌, rules}
use Rattle.std.specs.Prelude.{filter, not, nat_le, ◌==◌, if◌then◌else◌}
use Rattle.std.proofs.lemmas.Bool.{le-leb, lt-leb, eq-eqb}
use Rattle.std.proofs.lemmas.List.Elements.{filter_passes, All-weaker}
use Rattle.bitmap_model.specs.Granules.{is_in}
use Rattle.qc_layout.specs.Disks.{place_of}
use Rattle.qc_layout.specs.declared.faults.ImageFault.{ImageFault}
use Rattle.qc_layout.specs.declared.faults.ImageFault.TheVariants.{PastLimit, Overlap, Uncounted}
use Rattle.cluster_pool.specs.declared.pool.Pool.TheInside.{Inside}
use Rattle.cluster_pool.specs.Inside.{pool_view, IsInside}
use Rattle.cluster_pool.specs.Pool.{Pool, reach, is_counted, claim_refusal}
use Rattle.cluster_pool.proofs.Sizes.{place_shifted}
use Rattle.cluster_pool.proofs.pool.Pool.claim.Goals as goal

abbrev refusal : ℕ → Bool → Bool → Bool → Option ImageFault
refusal place past spoken counted =
    if past then Some (PastLimit place) else (if spoken then Some (Overlap place) else (if counted then None else Some (Uncounted place)))

-- as the tests of the struct a, which stands for the pool, come out
refusal_is : (a : Inside) (p : Pool) (k : ℕ) (past spoken counted : Bool) → pool_view a ≡ p → IsInside a → place_of p.bits k < 2 ^ 64
    → nat_le a.reach k ≡ past → is_in a.spoken k ≡ spoken → is_counted p k ≡ counted → claim_refusal p k ≡ refusal (k * 2 ^ a.cluster_bits % 2 ^ 64) past spoken counted
refusal_is a p k past spoken counted view h fits first second third =
    let place : k * 2 ^ a.cluster_bits % 2 ^ 64 ≡ place_of p.bits k = ap (λ (q : Pool). k * 2 ^ q.bits % 2 ^ 64) view ∙ place_shifted p.bits k fits in
    let far : a.reach ≡ reach p = h.reach ∙ ap reach view in
    ap (λ (b : Bool). refusal (place_of p.bits k) b (is_in p.spoken k) (is_counted p k)) (ap (λ (n : ℕ). nat_le n k) (sym far) ∙ first)
    ∙ (ap (λ (b : Bool). refusal (place_of p.bits k) past b (is_counted p k)) (ap (λ (q : Pool). is_in q.spoken k) (sym view) ∙ second)
    ∙ (ap (λ (b : Bool). refusal (place_of p.bits k) past spoken b) third ∙ ap (λ (x : ℕ). refusal x past spoken counted) (sym place)))

pub returns-then-index-self-clause-refused : goal.returns-then-index-self-clause-refused
returns-then-index-self-clause-refused c =
    let e = refusal_is c.self.inside c.args.self.now c.args.index true _ _ c.self.view_is c.self.invariant c.requires (le-leb c.self.inside.reach c.args.index c.if-index-self.true) refl refl in
    λ fault. (λ same. cc, λ same. cc)

pub returns-then-has-clause-refused : goal.returns-then-has-clause-refused
returns-then-has-clause-refused c =
    let e = refusal_is c.self.inside c.args.self.now c.args.index false true _ c.self.view_is c.self.invariant c.requires (lt-leb c.self.inside.reach c.args.index c.if-index-self.false)
    (sym c.has.ensures ∙ c.if-has.true) refl in
    λ fault. (λ same. cc, λ same. cc)

pub returns-then-not-is_counted-clause-refused : goal.returns-then-not-is_counted-clause-refused
returns-then-not-is_counted-clause-refused c =
    let e = refusal_is c.self.inside c.args.self.now c.args.index false false false c.self.view_is c.self.invariant c.requires (lt-leb c.self.inside.reach c.args.index c.if-index-self.false)
    (sym c.has.ensures ∙ c.if-has.false) (sym c.is_counted.ensures ∙ c.if-not-is_counted.true) in
    λ fault. (λ same. cc, λ same. cc)

true_false : true ≡ false → ⊥
true_false e = search rules

pub speak-requires-clause-unready : goal.speak-requires-clause-unready
speak-requires-clause-unready c =
    let k : ℕ = c.args.index in
    let others : List ℕ = filter (λ m. not (m == k)) c.args.self.now.ready in
    let apart : (i d : ℕ) → i < length others → get_or others i d ≢ k =
    All-weaker (λ m. not (m == k) ≡ true) (λ m. m ≢ k) (λ m passes here. true_false (sym passes ∙ ap not (eq-eqb m k here))) others (filter_passes (λ m. not (m == k)) c.args.self.now.ready) in
    subst (λ (q : Pool). (i d : ℕ) → i < length q.ready → get_or q.ready i d ≢ k) (sym c.drop_ready.ensures) apart
