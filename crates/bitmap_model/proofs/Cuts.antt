-- The first of the greatest runs in a range, and the runs after it.
use Rattle.std.proofs.lemmas.Grind.{common_steps}
use Rattle.std.proofs.Common.{rules, ◌≡◌, ◌≢◌, ℕ, zero, suc, ◌+◌, ◌-◌, ◌*◌, ◌/◌, ◌<◌, ◌≤◌, min, Bool, true, false, cond, List, [], ◌∷◌, length, get_or, drop, take, ◌++◌, inl, inr, refl, sym, ap, subst, ◌∙◌, arith, length-drop}
use Rattle.std.proofs.lemmas.Nat.{mul-le}
use Rattle.std.proofs.lemmas.Bool.{cases_lt, cond-true, eq-eqb}
use Rattle.span_algebra.specs.declared.lists.Run.{Run}
use Rattle.span_algebra.specs.Timelines.{Extent}
use Rattle.span_algebra.specs.Spans.{granule}
use Rattle.bitmap_model.specs.Runs.{between, shared, parts_of, put_in_front, joined, runs_of, dirty_flags, dirty_runs}
use Rattle.std.proofs.lemmas.List.{get_or-drop, length-map, drop-drop, append_assoc}
use Rattle.bitmap_model.specs.Granules.{GranuleSet, IsShaped, is_in, granules_in}
use Rattle.bitmap_model.proofs.Places.{granularity-least, granule_from, granule_to, begins_after, past_end}

-- what a granule has of a range
abbrev pub part : ℕ → Extent → ℕ → ℕ → Run
part g e k flag = record { length = shared e (granule g k); flags = flag }

pub parts-none : (g : ℕ) (e : Extent) (k flag : ℕ) (flags : List ℕ) → shared e (granule g k) ≡ 0 → parts_of g e k (flag ∷ flags) ≡ parts_of g e (k + 1) flags
parts-none g e k flag flags none = search rules

-- granules that end before the range have nothing of it
skipped : (g : ℕ) (e : Extent) (flags : List ℕ) (k m j : ℕ) → j ≡ k + m → j * g ≤ e.at → parts_of g e k flags ≡ parts_of g e j (drop m flags)
skipped g e flags k zero j sum before = search rules
skipped g e [] k (suc m) j sum before = refl
skipped g e (flag ∷ flags) k (suc m) j sum before =
    let ends : (k + 1) * g ≤ j * g = mul-le (k + 1) g j g (omega arith) (omega arith) in
    parts-none g e k flag flags (omega arith) ∙ skipped g e flags (k + 1) m j (omega arith) before

-- nor have those that begin after it
none_past : (g : ℕ) (e : Extent) (flags : List ℕ) (k : ℕ) → e.at + e.size ≤ k * g → parts_of g e k flags ≡ []
none_past g e [] k past = refl
none_past g e (flag ∷ flags) k past = grind (arith, common_steps, parts-none, none_past g e flags (k + 1))

none_of_empty : (g : ℕ) (e : Extent) (flags : List ℕ) (k : ℕ) → e.size ≡ 0 → parts_of g e k flags ≡ []
none_of_empty g e [] k empty = refl
none_of_empty g e (flag ∷ flags) k empty = grind (arith, common_steps, parts-none, none_of_empty g e flags (k + 1))

-- granules that begin in a range have the same of it wherever it begins before them
same_later : (g from later end : ℕ) (flags : List ℕ) (k : ℕ) → from ≤ end → later ≤ end → from ≤ k * g → later ≤ k * g
    → parts_of g (between from end) k flags ≡ parts_of g (between later end) k flags
same_later g from later end [] k fits fit a b = refl
same_later g from later end (flag ∷ flags) k fits fit a b = grind (arith, common_steps, same_later g from later end flags (k + 1))

-- a run with other flags than the next stays apart
put_apart : (r s : Run) (runs : List Run) → (r.flags ≡ s.flags → ⊥) → put_in_front r (put_in_front s runs) ≡ r ∷ put_in_front s runs
put_apart r s [] apart = search rules
put_apart r s (t ∷ runs) apart = search rules

-- where a range ends in its first granule, that is all
ending : (g from end f x : ℕ) (flags more : List ℕ) (k j : ℕ) → k * g ≤ from → from < k * g + g → from < end → end ≤ k * g + g → k * g + g ≤ j * g → x ≡ f
    → joined (parts_of g (between from end) k (x ∷ flags))
    ≡ record { length = min end (j * g) - from; flags = f } ∷ joined (parts_of g (between (min end (j * g)) end) j more)
ending g from end f x flags more k j a b c last far is = grind (arith, common_steps, none_past, none_of_empty)

-- another flag in the next granule
stopping : (g from end f x y : ℕ) (flags : List ℕ) (k j : ℕ) → 0 < g → j ≡ k + 1 → k * g ≤ from → from < k * g + g → k * g + g < end → x ≡ f → (y ≡ f → ⊥)
    → joined (parts_of g (between from end) k (x ∷ y ∷ flags))
    ≡ record { length = min end (j * g) - from; flags = f } ∷ joined (parts_of g (between (min end (j * g)) end) j (y ∷ flags))
stopping g from end f x y flags k j some next a b more is other = grind (arith, common_steps, put_apart, same_later)

-- the same flag in the next granule
keeping : (g from end f x past : ℕ) (flags : List ℕ) (k : ℕ) (rest : List Run) → k * g ≤ from → from < k * g + g → k * g + g < end → k * g + g ≤ past → x ≡ f
    → joined (parts_of g (between (k * g + g) end) (k + 1) flags) ≡ record { length = past - (k * g + g); flags = f } ∷ rest
    → joined (parts_of g (between from end) k (x ∷ flags)) ≡ record { length = past - from; flags = f } ∷ rest
keeping g from end f x past flags k rest a b more far is on = grind (arith, common_steps, cond-true, eq-eqb, same_later)

-- Of a range that begins in granule k the first run goes on to granule j, where all between have one flag and j has another,
-- or to the range's end.
first_run : (g from end f : ℕ) → 0 < g → (flags : List ℕ) (k m j : ℕ) → j ≡ k + m → k * g ≤ from → from < k * g + g → from < end
    → end ≤ (k + length flags) * g → 0 < m → m ≤ length flags → ((t : ℕ) → t < m → get_or flags t 0 ≡ f)
    → (m < length flags → get_or flags m 0 ≡ f → ⊥)
    → joined (parts_of g (between from end) k flags)
    ≡ record { length = min end (j * g) - from; flags = f } ∷ joined (parts_of g (between (min end (j * g)) end) j (drop m flags))
first_run g from end f some flags k zero j sum a b c d full fits same other = search rules
first_run g from end f some [] k (suc m) j sum a b c d full fits same other = search rules
first_run g from end f some (x ∷ []) k (suc m) j sum a b c d full fits same other =
    let far : (k + 1) * g ≤ j * g = mul-le (k + 1) g j g (omega arith) (omega arith) in
    ending g from end f x [] (drop m []) k j a b c (omega (arith, d)) (omega arith) (same 0 (omega arith))
first_run g from end f some (x ∷ y ∷ flags) k (suc zero) j sum a b c d full fits same other =
    let far : (k + 1) * g ≤ j * g = mul-le (k + 1) g j g (omega arith) (omega arith) in
    elim (cases_lt (k * g + g) end) [
      | inr last ↦ ending g from end f x (y ∷ flags) (y ∷ flags) k j a b c last (omega arith) (same 0 (omega arith))
      | inl more ↦ stopping g from end f x y flags k j some (omega arith) a b more (same 0 (omega arith)) (other (omega arith))
    ]
first_run g from end f some (x ∷ y ∷ flags) k (suc (suc m)) j sum a b c d full fits same other =
    let far : (k + 1) * g ≤ j * g = mul-le (k + 1) g j g (omega arith) (omega arith) in
    elim (cases_lt (k * g + g) end) [
      | inr last ↦ ending g from end f x (y ∷ flags) (drop m flags) k j a b c last (omega arith) (same 0 (omega arith))
      | inl more ↦
          keeping g from end f x (min end (j * g)) (y ∷ flags) k (joined (parts_of g (between (min end (j * g)) end) j (drop m flags))) a b more (omega arith) (same 0 (omega arith))
          (first_run g (k * g + g) end f some (y ∷ flags) (k + 1) (suc m) j (omega arith) (omega arith) (omega arith) more
          (omega (arith, d)) (omega arith) (omega (arith, fits)) (λ t h. same (suc t) (omega arith)) (λ h. other (omega arith)))
    ]

flags_differ : (a b : Bool) → (a ≡ b → ⊥) → ◌≡◌ {A = ℕ} (cond a 1 0) (cond b 1 0) → ⊥
flags_differ true true apart same = apart refl
flags_differ true false apart same = search rules
flags_differ false true apart same = search rules
flags_differ false false apart same = apart refl

flag_at : (set : List Bool) (k : ℕ) → k < length set → get_or (dirty_flags set) k 0 ≡ cond (is_in set k) 1 0
flag_at set k inside = grind (arith, common_steps)

-- what follows the first run, seen from the first granule on
rest_of : (g from end k m j : ℕ) (flags : List ℕ) → j ≡ k + m
    → joined (parts_of g (between (min end (j * g)) end) j (drop m (drop k flags))) ≡ joined (parts_of g (between (min end (j * g)) end) 0 flags)
rest_of g from end k m j flags sum = grind (arith, common_steps, drop-drop, cases_lt, none_of_empty, skipped)

flags_first : (set : List Bool) (g from end j : ℕ) (d : Bool) → 0 < g → from < end → end ≤ length set * g → from / g < j → j ≤ length set
    → ((k : ℕ) → from / g ≤ k → k < j → is_in set k ≡ is_in set (from / g)) → (j < length set → is_in set j ≢ is_in set (from / g)) → is_in set (from / g) ≡ d
    → runs_of g (dirty_flags set) (between from end)
    ≡ record { length = min end (j * g) - from; flags = cond d 1 0 } ∷ runs_of g (dirty_flags set) (between (min end (j * g)) end)
unfolding runs_of
flags_first set g from end j d positive some full after within same other here =
    let flags : List ℕ = dirty_flags set in
    let k : ℕ = from / g in
    let m : ℕ = j - k in
    let count : length flags ≡ length set = length-map set (λ (b : Bool). cond b 1 0) in
    let left : length (drop k flags) ≡ length set - k = length-drop k flags ∙ ap (λ (n : ℕ). n - k) count in
    let as_many : k + length (drop k flags) ≡ length set = omega arith in
    let reach : end ≤ (k + length (drop k flags)) * g = subst (λ (n : ℕ). end ≤ n * g) (sym as_many) full in
    let sum : j ≡ k + m = omega arith in
    let last : k + m ≡ j = omega arith in
    let flag : (t : ℕ) → t < m → get_or (drop k flags) t 0 ≡ cond d 1 0 =
    λ t h. get_or-drop k flags t 0 ∙ (flag_at set (k + t) (omega arith) ∙ ap (λ (b : Bool). cond b 1 0) (same (k + t) (omega arith) (omega arith) ∙ here)) in
    let change : m < length (drop k flags) → get_or (drop k flags) m 0 ≡ cond d 1 0 → ⊥ =
    λ h e. flags_differ (is_in set j) (is_in set k) (other (omega arith))
    (sym (get_or-drop k flags m 0 ∙ (ap (λ (n : ℕ). get_or flags n 0) last ∙ flag_at set j (omega arith))) ∙ (e ∙ ap (λ (b : Bool). cond b 1 0) (sym here))) in
    ap joined (skipped g (between from end) flags 0 k k (omega arith) (granule_from from g))
    ∙ (first_run g from end (cond d 1 0) positive (drop k flags) k m j sum (granule_from from g) (granule_to from g positive) some reach (omega arith) (omega arith) flag change
    ∙ ap (λ (runs : List Run). record { length = min end (j * g) - from; flags = cond d 1 0 } ∷ runs) (rest_of g from end k m j flags sum))

-- the first run of a range of the disk: it goes on to granule j, where all between have one flag and j has another, or to its end
pub dirty_first : (s : GranuleSet) (g from end j past : ℕ) (d : Bool) → IsShaped s → g ≡ s.granularity → from < end → end ≤ s.size → from / g < j → j ≤ length s.set
    → ((k : ℕ) → from / g ≤ k → k < j → is_in s.set k ≡ is_in s.set (from / g)) → (j < length s.set → is_in s.set j ≢ is_in s.set (from / g))
    → is_in s.set (from / g) ≡ d → past ≡ min end (j * g)
    → dirty_runs s (between from end) ≡ record { length = past - from; flags = cond d 1 0 } ∷ dirty_runs s (between (from + (past - from)) end)
unfolding dirty_runs
dirty_first s g from end j past d shaped is some inside after within same other here ends =
    let flags : List ℕ = dirty_flags s.set in
    let goes : ℕ = from + (past - from) in
    let positive : 0 < g = omega (arith, is, granularity-least s.granularity shaped.lawful) in
    let begins : from < j * g = begins_after from g j positive after in
    let place : goes ≡ min end (j * g) = omega arith in
    let whole : length s.set ≡ granules_in s.size g = shaped.whole ∙ ap (granules_in s.size) (sym is) in
    let full : s.size ≤ length s.set * g = past_end s.size g (length s.set) positive (omega (arith, whole)) in
    let first : runs_of g flags (between from end) ≡ record { length = min end (j * g) - from; flags = cond d 1 0 } ∷ runs_of g flags (between (min end (j * g)) end) =
    flags_first s.set g from end j d positive some (omega arith) after within same other here in
    subst (λ (h : ℕ). runs_of h flags (between from end) ≡ record { length = past - from; flags = cond d 1 0 } ∷ runs_of h flags (between goes end)) is
    (first
    ∙ (ap (λ (p : ℕ). record { length = p - from; flags = cond d 1 0 } ∷ runs_of g flags (between (min end (j * g)) end)) (sym ends)
    ∙ ap (λ (p : ℕ). record { length = past - from; flags = cond d 1 0 } ∷ runs_of g flags (between p end)) (sym place)))

pub dirty_none : (s : GranuleSet) (from end : ℕ) → end ≤ from → dirty_runs s (between from end) ≡ []
unfolding dirty_runs runs_of
dirty_none s from end past = grind (arith, common_steps, none_of_empty)

-- one more of the first 1,024 runs is appended
pub runs_more : (old out new whole rest more : List Run) (r : Run) (n : ℕ) → n < 1024 → rest ≡ r ∷ more → new ≡ out ++ r ∷ []
    → out ++ take (1024 - n) rest ≡ old ++ take 1024 whole → new ++ take (1024 - (n + 1)) more ≡ old ++ take 1024 whole
runs_more old out new whole rest more r n below here pushed so_far =
    let next : 1024 - n ≡ suc (1024 - (n + 1)) = omega arith in
    ap (λ (xs : List Run). xs ++ take (1024 - (n + 1)) more) pushed
    ∙ (append_assoc out (r ∷ []) (take (1024 - (n + 1)) more)
    ∙ (sym (ap (λ (xs : List Run). out ++ take (1024 - n) xs) here ∙ ap (λ (m : ℕ). out ++ take m (r ∷ more)) next) ∙ so_far))

pub runs_done : (old out whole rest : List Run) (n : ℕ) → rest ≡ [] → out ++ take n rest ≡ old ++ take 1024 whole → out ≡ old ++ take 1024 whole
runs_done old out whole rest n none so_far = search rules
