-- Which clusters were found counted.
use Rattle.std.proofs.Common.{◌≡◌, ◌≢◌, ℕ, ◌+◌, ◌*◌, ◌<◌, ◌≤◌, List, length, replicate, slice_index, Bool, true, false, not, inl, inr, refl, sym, ap, subst, ◌∙◌, arith}
use Rattle.std.specs.Prelude.{◌==◌}
use Rattle.std.proofs.lemmas.Grind.{common_steps}
use Rattle.std.proofs.lemmas.Bool.{eq-eqb, ne_eqb, cases_eq}
use Rattle.bitmap_model.specs.Granules.{is_in}
use Rattle.cluster_pool.specs.Sets.{with_member}
use Rattle.cluster_pool.proofs.Words.{length-with, is_in-with, is_in-with_other}
use Rattle.qc_alloc.specs.Tables.{Notes}

-- ---- one cluster more

not_zero : (n : ℕ) → n ≢ 0 → not (n == 0) ≡ true
not_zero n some = ap not (ne_eqb n 0 some)

is_zero : (n : ℕ) → n ≡ 0 → not (n == 0) ≡ false
is_zero n none = ap not (eq-eqb n 0 none)

pub note_none : (counts : ℕ → ℕ) (k : ℕ) (set : List Bool) (past : ℕ) → counts k ≡ 0 → Notes counts k set past → Notes counts (k + 1) set past
note_none counts k set past none had = record {
  inside = λ j below short. elim (cases_eq j k) [
    | inl e ↦ had.others j (omega arith) ∙ sym (is_zero (counts j) (ap counts e ∙ none))
    | inr other ↦ had.inside j (omega arith) short
  ];
  others = λ j high. had.others j (omega arith);
  behind = λ j below after. elim (cases_eq j k) [
    | inl e ↦ ap counts e ∙ none
    | inr other ↦ had.behind j (omega arith) after
  ];
  last = elim had.last [ inl e ↦ inl e | inr at ↦ inr (at.0, (let below = at.1 in omega (arith, below)), at.2, at.3) ];
}

pub note_past : (counts : ℕ → ℕ) (k : ℕ) (set : List Bool) (past : ℕ) → counts k ≢ 0 → length set ≤ k → Notes counts k set past → Notes counts (k + 1) set (k + 1)
note_past counts k set past some far had = record {
  inside = λ j below short. had.inside j (omega arith) short;
  others = λ j high. had.others j (omega arith);
  behind = λ j below after. absurd (omega arith);
  last = inr (k, (omega arith), refl, some);
}

pub note_in : (counts : ℕ → ℕ) (k : ℕ) (set : List Bool) (past : ℕ) → counts k ≢ 0 → k < length set → Notes counts k set past → Notes counts (k + 1) (with_member set k) (k + 1)
note_in counts k set past some near had = record {
  inside = λ j below short. elim (cases_eq j k) [
    | inl e ↦
        let P : ℕ → Type 0 = λ i. is_in (with_member set k) i ≡ not (counts i == 0) in
        subst P (sym e) (is_in-with set k near ∙ sym (not_zero (counts k) some))
    | inr other ↦ is_in-with_other set k j other ∙ had.inside j (omega arith) (let e = length-with set k in omega arith)
  ];
  others = λ j high. is_in-with_other set k j (λ e. absurd (omega arith)) ∙ had.others j (omega arith);
  behind = λ j below after. absurd (omega arith);
  last = inr (k, (omega arith), refl, some);
}

-- what is counted by other numbers that agree there
pub notes_as : (counts other : ℕ → ℕ) (k : ℕ) (set : List Bool) (past : ℕ) → ((j : ℕ) → j < k → other j ≡ counts j) → Notes counts k set past → Notes other k set past
notes_as counts other k set past same had = record {
  inside = λ j below short. had.inside j below short ∙ ap (λ (n : ℕ). not (n == 0)) (sym (same j below));
  others = had.others;
  behind = λ j below after. same j below ∙ had.behind j below after;
  last = elim had.last [ inl e ↦ inl e | inr at ↦ inr (at.0, at.1, at.2, λ zero_there. at.3 (sym (same at.0 at.1) ∙ zero_there)) ];
}

-- none yet
pub notes_none : (counts : ℕ → ℕ) (n : ℕ) → Notes counts 0 (replicate n false) 0
notes_none counts n = record {
  inside = λ j below short. absurd (omega arith);
  others = λ j high. grind (arith, common_steps);
  behind = λ j below after. absurd (omega arith);
  last = inl refl;
}

-- ---- blocks in a row

pub row_more : (cluster : ℕ) (blocks : List ℕ) (first n : ℕ) → ((j : ℕ) → j < n → slice_index blocks (first + j) ≡ slice_index blocks first + j * cluster)
    → slice_index blocks (first + n) ≡ slice_index blocks first + n * cluster → (j : ℕ) → j < n + 1 → slice_index blocks (first + j) ≡ slice_index blocks first + j * cluster
row_more cluster blocks first n before here j below = elim (cases_eq j n) [
  | inl e ↦ let P : ℕ → Type 0 = λ i. slice_index blocks (first + i) ≡ slice_index blocks first + i * cluster in subst P (sym e) here
  | inr other ↦ before j (omega arith)
]
