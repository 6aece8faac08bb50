-- What more changes do to the versions of a file.
use Rattle.std.proofs.Common.{◌≡◌, ◌⊎◌, inl, inr, ⊎_elim, ℕ, zero, suc, ◌+◌, ◌-◌, ◌<◌, ◌≤◌, true, false, Bool, eqb, List, [], ◌∷◌, ◌++◌, length, take, refl, sym, ◌∙◌, ap, subst, arith, lit<, length-append}
use Rattle.std.specs.Prelude.{if◌then◌else◌, ◌==◌}
use Rattle.std.proofs.Math.Seq.{take-append-add}
use Rattle.std.proofs.lemmas.Bool.{cases_lt}
use Rattle.std.proofs.lemmas.Bool.Decides.{eqb_tells}
use Rattle.std.proofs.lemmas.List.{length_push, take-append-le}
use Rattle.disk_model.specs.Files.{after_write, after_sync}
use Rattle.disk_memory.specs.Held.{Change, FilePut, BytesWritten, UnderWay, FileSynced, step, replay, upto}
use Rattle.disk_memory.specs.Steps.{noted}
use Rattle.disk_memory.specs.Laws.{all_of, none_upto}

pub replay-append : (cs ds : List Change) (f : ℕ) (vs : List (List ℕ)) → replay (cs ++ ds) f vs ≡ replay ds f (replay cs f vs)
replay-append [] ds f vs = refl
replay-append (c ∷ cs) ds f vs = replay-append cs ds f (step c f vs)

-- a change of this file, or of another
pub here : (n : ℕ) (a b : List (List ℕ)) → (if n == n then a else b) ≡ a
here n a b = ⊎_elim (λ (same : (eqb n n ≡ true) × (n ≡ n)). ap (λ (t : Bool). if t then a else b) same.0) (λ (other : (eqb n n ≡ false) × (n ≡ n → ⊥)). absurd (other.1 refl)) (eqb_tells n n)

pub elsewhere : (n f : ℕ) (a b : List (List ℕ)) → (f ≡ n → ⊥) → (if n == f then a else b) ≡ b
elsewhere n f a b apart = ⊎_elim (λ (same : (eqb n f ≡ true) × (n ≡ f)). absurd (apart (sym same.1))) (λ (other : (eqb n f ≡ false) × (n ≡ f → ⊥)). ap (λ (t : Bool). if t then a else b) other.0) (eqb_tells n f)

-- each of these changes spares file g
abbrev pub Spares : List Change → ℕ → Type 0
Spares [] g = Unit {0}
Spares (c ∷ cs) g = ((vs : List (List ℕ)) → step c g vs ≡ vs) × Spares cs g

spared : (j : ℕ) (cs : List Change) (g : ℕ) (vs : List (List ℕ)) → Spares cs g → replay (take j cs) g vs ≡ vs
spared zero cs g vs each = refl
spared (suc j) [] g vs each = refl
spared (suc j) (c ∷ cs) g vs each = spared j cs g (step c g vs) each.1 ∙ each.0 vs

pub spared_all : (cs : List Change) (g : ℕ) (vs : List (List ℕ)) → Spares cs g → replay cs g vs ≡ vs
spared_all [] g vs each = refl
spared_all (c ∷ cs) g vs each = spared_all cs g (step c g vs) each.1 ∙ each.0 vs

pub spares_noted : (keep : Bool) (cs : List Change) (g : ℕ) → Spares cs g → Spares (noted keep cs) g
spares_noted true cs g each = each
spares_noted false cs g each = tt

-- a file that is there stays
step_some : (c : Change) (f : ℕ) (vs : List (List ℕ)) → 0 < length vs → 0 < length (step c f vs)
step_some c f [] some = absurd (omega arith)
step_some (FilePut file bytes) f (v ∷ vs) some = elim (file == f) as (λ b. 0 < length (if b then bytes ∷ [] else v ∷ vs)) [ true ↦ lit< tt | false ↦ some ]
step_some (BytesWritten file at bytes) f (v ∷ vs) some = elim (file == f) as (λ b. 0 < length (if b then after_write at bytes (v ∷ vs) else v ∷ vs)) [ true ↦ omega arith | false ↦ some ]
step_some UnderWay f (v ∷ vs) some = some
step_some (FileSynced file) f (v ∷ vs) some = elim (file == f) as (λ b. 0 < length (if b then after_sync (v ∷ vs) else v ∷ vs)) [ true ↦ lit< tt | false ↦ some ]

pub replay_some : (cs : List Change) (f : ℕ) (vs : List (List ℕ)) → 0 < length vs → 0 < length (replay cs f vs)
replay_some [] f vs some = some
replay_some (c ∷ cs) f vs some = replay_some cs f (step c f vs) (step_some c f vs some)

-- ---- moments

same_moment : (changes : List Change) (k g : ℕ) → length changes ≤ k → k ≤ length changes → upto changes k g ≡ upto changes (length changes) g
same_moment changes k g low high = let same : k ≡ length changes = omega arith in ap (λ (m : ℕ). upto changes m g) same

module _ (changes cs : List Change) where
  -- what was before
  pub upto_before : (k g : ℕ) → k ≤ length changes → upto (changes ++ cs) k g ≡ upto changes k g
  upto_before k g low = ap (λ (l : List Change). replay l g []) (take-append-le k changes cs low)

  -- a moment since
  pub upto_since : (k g : ℕ) → length changes ≤ k → upto (changes ++ cs) k g ≡ replay (take (k - length changes) cs) g (upto changes (length changes) g)
  upto_since k g low =
      let same : k ≡ length changes + (k - length changes) = omega arith in
      ap (λ (m : ℕ). upto (changes ++ cs) m g) same ∙ ap (λ (l : List Change). replay l g []) (take-append-add changes cs (k - length changes))
      ∙ replay-append changes (take (k - length changes) cs) g [] ∙ ap (replay (take (k - length changes) cs) g) (sym (all_of changes g))

  pub upto_now : (g : ℕ) → upto (changes ++ cs) (length (changes ++ cs)) g ≡ replay cs g (upto changes (length changes) g)
  upto_now g = all_of (changes ++ cs) g ∙ replay-append changes cs g [] ∙ ap (replay cs g) (sym (all_of changes g))

  -- of a file that is spared
  pub upto_spared : (k g : ℕ) → Spares cs g → length changes ≤ k → upto (changes ++ cs) k g ≡ upto changes (length changes) g
  upto_spared k g each low = upto_since k g low ∙ spared (k - length changes) cs g (upto changes (length changes) g) each

  pub upto_lasts : (k g : ℕ) → length changes ≤ k → 0 < length (upto changes (length changes) g) → 0 < length (upto (changes ++ cs) k g)
  upto_lasts k g low some = subst (λ (vs : List (List ℕ)). 0 < length vs) (sym (upto_since k g low)) (replay_some (take (k - length changes) cs) g (upto changes (length changes) g) some)

-- a file that has no versions has none after a write or a sync
pub versions_noted : (keep : Bool) (changes cs : List Change) (f : ℕ) (after : List (List ℕ) → List (List ℕ)) → (keep ≡ false → changes ≡ []) → after [] ≡ [] → ((vs : List (List ℕ)) → replay cs f vs ≡ after vs)
    → upto (changes ++ noted keep cs) (length (changes ++ noted keep cs)) f ≡ after (upto changes (length changes) f)
versions_noted true changes cs f after none empty step = upto_now changes cs f ∙ step (upto changes (length changes) f)
versions_noted false changes cs f after none empty step =
    let old : upto changes (length changes) f ≡ [] = none_upto changes (length changes) f (none refl) in
    upto_now changes [] f ∙ old ∙ sym empty ∙ ap after (sym old)

pub versions_put : (keep : Bool) (changes : List Change) (f : ℕ) (bytes : List ℕ) → (keep ≡ false → changes ≡ [])
    → upto (changes ++ noted keep (FilePut f bytes ∷ [])) (length (changes ++ noted keep (FilePut f bytes ∷ []))) f ≡ if keep then bytes ∷ [] else []
versions_put true changes f bytes none = upto_now changes (FilePut f bytes ∷ []) f ∙ here f (bytes ∷ []) (upto changes (length changes) f)
versions_put false changes f bytes none = upto_now changes [] f ∙ none_upto changes (length changes) f (none refl)

-- before one change
pub before_noted : (keep : Bool) (changes : List Change) (c : Change) (f k : ℕ) → length changes ≤ k → k < length (changes ++ noted keep (c ∷ [])) → upto (changes ++ noted keep (c ∷ [])) k f ≡ upto changes (length changes) f
before_noted false changes c f k low high = absurd (omega (arith, high, low, length-append changes []))
before_noted true changes c f k low high =
    let le : k ≤ length changes = omega (arith, high, length_push changes c) in
    upto_before changes (c ∷ []) k f le ∙ same_moment changes k f low le

-- inside a write, and after it, there are the versions of its end
pub within_noted : (keep : Bool) (changes : List Change) (c : Change) (f k : ℕ) → length changes ≤ k → k < length (changes ++ noted keep (c ∷ UnderWay ∷ []))
    → (upto (changes ++ noted keep (c ∷ UnderWay ∷ [])) k f ≡ upto changes (length changes) f) ⊎ (upto (changes ++ noted keep (c ∷ UnderWay ∷ [])) k f ≡ upto (changes ++ noted keep (c ∷ UnderWay ∷ [])) (length (changes ++ noted keep (c ∷ UnderWay ∷ []))) f)
within_noted false changes c f k low high = absurd (omega (arith, high, low, length-append changes []))
within_noted true changes c f k low high = elim (cases_lt (length changes) k) [
  | inl after ↦
      let one : k - length changes ≡ 1 = omega (arith, high, after, length-append changes (c ∷ UnderWay ∷ [])) in
      inr (upto_since changes (c ∷ UnderWay ∷ []) k f low ∙ ap (λ (m : ℕ). replay (take m (c ∷ UnderWay ∷ [])) f (upto changes (length changes) f)) one ∙ sym (upto_now changes (c ∷ UnderWay ∷ []) f))
  | inr before ↦ inl (upto_before changes (c ∷ UnderWay ∷ []) k f before ∙ same_moment changes k f low before)
]
