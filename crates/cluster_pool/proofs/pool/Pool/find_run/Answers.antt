use Rattle.std.proofs.Common.{◌≡◌, ℕ, ◌+◌, ◌≤◌, ◌<◌, true, false, inl, inr, refl, sym, ap, ◌∙◌, arith, rules}
use Rattle.std.proofs.lemmas.Bool.{cases_lt}
use Rattle.cluster_pool.specs.Pool.{Pool, IsRunOf, is_open, reach}
use Rattle.cluster_pool.proofs.pool.Pool.find_run.Goals.{then-not-is_open, else-not-is_open+else-index-first}
use Rattle.cluster_pool.proofs.pool.Pool.find_run.Goals as goal

true_false : true ≡ false → ⊥
true_false e = search rules

-- a run can't begin at or before a cluster that isn't open, where it would hold it
past_shut : (p : Pool) (n k other : ℕ) → is_open p k ≡ false → k < other + n → IsRunOf p n other → k + 1 ≤ other
past_shut p n k other shut within run = elim (cases_lt k other) [
  | inl before ↦ omega arith
  | inr from ↦ absurd (true_false (sym (run.plain k from within) ∙ shut))
]

pub loop-index-preserved : goal.loop-index-preserved
loop-index-preserved c =
    let p : Pool = c.args.self.now in
    let k : ℕ = c.loop-index.index in
    elim c.if-not-is_open.branch [
      | then-not-is_open w ↦
          let shut : is_open p k ≡ false = sym c.is_open.ensures ∙ w.if-not-is_open.true in
          record {
            from = omega arith;
            behind = omega arith;
            short = omega arith;
            plain = λ j low high. absurd (omega arith);
            least = λ other run. let past : k + 1 ≤ other = past_shut p c.args.count k other shut (let low : c.loop-index.first ≤ other = c.loop-index.invariant.least other run in omega arith) run in omega arith;
          }
      | else-not-is_open+else-index-first w ↦
          let opens : is_open p k ≡ true = sym c.is_open.ensures ∙ w.if-not-is_open.false in
          record {
            from = omega arith;
            behind = omega arith;
            short = omega arith;
            plain = λ j low high. elim (cases_lt j k) [
              | inl before ↦ c.loop-index.invariant.plain j (omega arith) before
              | inr here ↦ let same : j ≡ k = omega arith in ap (is_open p) same ∙ opens
            ];
            least = λ other run. let low : c.loop-index.first ≤ other = c.loop-index.invariant.least other run in omega arith;
          }
    ]

pub returns-then-index-first-clause-none : goal.returns-then-index-first-clause-none
returns-then-index-first-clause-none c =
    let p : Pool = c.args.self.now in
    let k : ℕ = c.loop-index.index in
    let far : c.self.inside.reach ≡ reach p = c.self.invariant.reach ∙ ap reach c.self.view_is in
    let opens : is_open p k ≡ true = sym c.is_open.ensures ∙ c.if-not-is_open.false in
    let run : IsRunOf p c.args.count c.loop-index.first = record {
      from = c.loop-index.invariant.from;
      below = omega arith;
      plain = λ j low high. elim (cases_lt j k) [
        | inl before ↦ c.loop-index.invariant.plain j low before
        | inr here ↦ let same : j ≡ k = omega arith in ap (is_open p) same ∙ opens
      ];
    } in
    (λ e. absurd (true_false e), λ none. absurd (none c.loop-index.first run))

pub returns-clause-none : goal.returns-clause-none
returns-clause-none c =
    let far : c.self.inside.reach ≡ reach c.args.self.now = c.self.invariant.reach ∙ ap reach c.self.view_is in
    (λ _ other run. let low : c.loop-index.first ≤ other = c.loop-index.invariant.least other run in omega (arith, run.below), λ _. refl)
