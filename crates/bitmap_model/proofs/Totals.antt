-- What the greatest runs add up to, and that they are the greatest.
use Rattle.std.proofs.lemmas.Grind.{common_steps}
use Rattle.std.proofs.Common.{rules, ◌≡◌, ℕ, ◌+◌, ◌-◌, ◌*◌, ◌/◌, ◌<◌, ◌≤◌, min, max, List, [], ◌∷◌, length, get_or, refl, arith}
use Rattle.std.specs.Prelude.{◌==◌, All}
use Rattle.std.proofs.lemmas.Bool.{cases_lt, cond_both, ltb-true, ltb-false}
use Rattle.std.proofs.lemmas.List.Elements.{All-cons, All-head, All-tail}
use Rattle.std.proofs.lemmas.Nat.{mul-le, le-div}
use Rattle.span_algebra.specs.declared.lists.Run.{Run}
use Rattle.span_algebra.specs.Timelines.{Extent}
use Rattle.bitmap_model.specs.Runs.{parts_of, put_in_front, joined, runs_of}
use Rattle.bitmap_model.specs.Laws.{total_of, AreApart, flags_at}
use Rattle.bitmap_model.proofs.Cuts.{parts-none}

total-joined : (runs : List Run) → total_of (joined runs) ≡ total_of runs
total-joined [] = refl
total-joined (r ∷ runs) = grind (arith, common_steps, total-joined runs)

-- granules from number k on have all of a range that lies behind the start of the first of them and before the end of the last
total-parts : (g : ℕ) (e : Extent) (k : ℕ) (flags : List ℕ) → total_of (parts_of g e k flags) ≡ min (e.at + e.size) ((k + length flags) * g) - max e.at (k * g)
total-parts g e k [] = omega arith
total-parts g e k (x ∷ flags) = grind (arith, common_steps, mul-le, ltb-false, total-parts g e (k + 1) flags)

pub runs_total : (g : ℕ) (flags : List ℕ) (e : Extent) → 0 < g → e.at + e.size ≤ length flags * g → total_of (runs_of g flags e) ≡ e.size
unfolding runs_of
runs_total g flags e some fits = grind (arith, common_steps, total-joined, total-parts)

some-front : (r : Run) (runs : List Run) → 0 < r.length → All (λ s. 0 < s.length) runs → All (λ s. 0 < s.length) (put_in_front r runs)
some-front r [] some all = search rules
some-front r (s ∷ runs) some all =
    cond_both (r.flags == s.flags) (record { length = r.length + s.length; flags = r.flags } ∷ runs) (r ∷ s ∷ runs) (λ xs. All (λ t. 0 < t.length) xs)
    (λ _. All-cons (λ t. 0 < t.length) (record { length = r.length + s.length; flags = r.flags }) runs (omega arith) (All-tail (λ t. 0 < t.length) s runs all))
    (λ _. All-cons (λ t. 0 < t.length) r (s ∷ runs) some all)

pub some-joined : (runs : List Run) → All (λ s. 0 < s.length) runs → All (λ s. 0 < s.length) (joined runs)
some-joined [] all = all
some-joined (r ∷ runs) all = some-front r (joined runs) (All-head (λ s. 0 < s.length) r runs all) (some-joined runs (All-tail (λ s. 0 < s.length) r runs all))

pub some-parts : (g : ℕ) (e : Extent) (k : ℕ) (flags : List ℕ) → All (λ s. 0 < s.length) (parts_of g e k flags)
some-parts g e k [] = search rules
some-parts g e k (x ∷ flags) = grind (arith, common_steps, ltb-true, some-parts g e (k + 1) flags)

pub apart-joined : (runs : List Run) → AreApart (joined runs)
apart-joined [] = tt
apart-joined (r ∷ runs) = grind (arith, common_steps, apart-joined runs)

pub runs_greatest : (g : ℕ) (flags : List ℕ) (e : Extent) → All (λ r. 0 < r.length) (runs_of g flags e) × AreApart (runs_of g flags e)
unfolding runs_of
runs_greatest g flags e = grind (arith, common_steps, some-joined, some-parts, apart-joined)

flags-joined : (runs : List Run) (n : ℕ) → flags_at (joined runs) n ≡ flags_at runs n
flags-joined [] n = refl
flags-joined (r ∷ runs) n = grind (arith, common_steps, flags-joined runs (n - r.length))

within : (g x k : ℕ) → 0 < g → k * g ≤ x → x < k * g + g → x / g ≡ k
within g x k some low high = search rules

flags-parts : (g : ℕ) (e : Extent) (k : ℕ) (flags : List ℕ) (n x : ℕ) → 0 < g → x ≡ max e.at (k * g) + n → x < e.at + e.size → x < (k + length flags) * g
    → flags_at (parts_of g e k flags) n ≡ get_or flags (x / g - k) 0
flags-parts g e k [] n x some is inside below = search rules
flags-parts g e k (f ∷ flags) n x some is inside below = grind (arith, common_steps, cases_lt, within, le-div, parts-none, flags-parts g e (k + 1) flags (x - (k * g + g)) x, flags-parts g e (k + 1) flags n x)

pub runs_flags : (g : ℕ) (flags : List ℕ) (e : Extent) (n : ℕ) → 0 < g → e.at + e.size ≤ length flags * g → n < e.size
    → flags_at (runs_of g flags e) n ≡ get_or flags ((e.at + n) / g) 0
unfolding runs_of
runs_flags g flags e n some fits inside = grind (arith, common_steps, flags-joined, flags-parts)
