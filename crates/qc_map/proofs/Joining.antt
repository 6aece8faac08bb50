-- One more piece behind runs of equal flags.
use Rattle.std.proofs.lemmas.Grind.{common_steps}
use Rattle.std.proofs.Common.{◌≡◌, ◌≢◌, ◌⊎◌, inl, inr, ⊎_elim, ℕ, zero, suc, ◌+◌, ◌-◌, ◌*◌, ◌<◌, ◌≤◌, min, max, Bool, List, [], ◌∷◌, ◌++◌, length, get_or, take, length-append, refl, sym, ap, subst, ◌∙◌, arith, append_assoc}
use Rattle.std.specs.Prelude.{◌==◌, nat_lt, if◌then◌else◌}
use Rattle.std.proofs.lemmas.Bool.{cases_eq, cases_lt, eq-eqb, ne_eqb, lt-ltb}
use Rattle.std.proofs.lemmas.List.{take-append-le, take_all}
use Rattle.std.proofs.Math.Nat.{mul-le-mul_left, mul_comm}
use Rattle.span_algebra.specs.declared.lists.Run.{Run}
use Rattle.span_algebra.specs.Timelines.{Extent}
use Rattle.span_algebra.specs.Spans.{granule}
use Rattle.bitmap_model.specs.Runs.{shared, parts_of, put_in_front, joined, runs_of, first_runs}
use Rattle.bitmap_model.proofs.Cuts.{parts-none}
use Rattle.disk_model.specs.Files.{u64_at}
use Rattle.image_model.specs.Space.{allocation_flags}
use Rattle.map_rows.specs.declared.parts.Part.{Part}
use Rattle.map_rows.specs.Stores.{kind_of}
use Rattle.qc_map.specs.Telling.{range, held, Tells, TellsAll, IsPiece, IsRowAt}

-- ---- runs with one more behind

abbrev add_last : Run → List Run → List Run
add_last r [] = r ∷ []
add_last r (s ∷ []) = if s.flags == r.flags then record { length = s.length + r.length; flags = s.flags } ∷ [] else s ∷ r ∷ []
add_last r (s ∷ t ∷ runs) = s ∷ add_last r (t ∷ runs)

add_front : (x r : Run) (runs : List Run) → put_in_front x (add_last r runs) ≡ add_last r (put_in_front x runs)
add_front x r [] = grind (arith, common_steps)
add_front x r (s ∷ []) = grind (arith, common_steps)
add_front x r (s ∷ t ∷ runs) = grind (arith, common_steps)

joined_last : (xs : List Run) (r : Run) → joined (xs ++ r ∷ []) ≡ add_last r (joined xs)
joined_last [] r = refl
joined_last (x ∷ xs) r = ap (put_in_front x) (joined_last xs r) ∙ add_front x r (joined xs)

last_same : (told : List Run) (s r : Run) → s.flags ≡ r.flags → add_last r (told ++ s ∷ []) ≡ told ++ record { length = s.length + r.length; flags = s.flags } ∷ []
last_same [] s r same = ap (λ (b : Bool). if b then record { length = s.length + r.length; flags = s.flags } ∷ [] else s ∷ r ∷ []) (eq-eqb s.flags r.flags same)
last_same (x ∷ []) s r same = ap (λ (runs : List Run). x ∷ runs) (last_same [] s r same)
last_same (x ∷ y ∷ told) s r same = ap (λ (runs : List Run). x ∷ runs) (last_same (y ∷ told) s r same)

last_other : (told : List Run) (s r : Run) → s.flags ≢ r.flags → add_last r (told ++ s ∷ []) ≡ told ++ s ∷ r ∷ []
last_other [] s r other = ap (λ (b : Bool). if b then record { length = s.length + r.length; flags = s.flags } ∷ [] else s ∷ r ∷ []) (ne_eqb s.flags r.flags other)
last_other (x ∷ []) s r other = ap (λ (runs : List Run). x ∷ runs) (last_other [] s r other)
last_other (x ∷ y ∷ told) s r other = ap (λ (runs : List Run). x ∷ runs) (last_other (y ∷ told) s r other)

-- runs in front of the last stay, whatever comes behind
record Stays (told runs : List Run) : Type 0 where
  pub rest : List Run
  pub last : Run
  pub is : runs ≡ told ++ last ∷ rest

stays_one : (told rest : List Run) (last r : Run) → Stays told (add_last r (told ++ last ∷ rest))
stays_one [] [] last r = elim (cases_eq last.flags r.flags) [
  | inl same ↦ record { rest = []; last = record { length = last.length + r.length; flags = last.flags }; is = last_same [] last r same }
  | inr other ↦ record { rest = r ∷ []; last = last; is = last_other [] last r other }
]
stays_one [] (x ∷ rest) last r = record { rest = add_last r (x ∷ rest); last = last; is = refl }
stays_one (x ∷ []) rest last r = let s = stays_one [] rest last r in record { rest = s.rest; last = s.last; is = ap (λ (runs : List Run). x ∷ runs) s.is }
stays_one (x ∷ y ∷ told) rest last r = let s = stays_one (y ∷ told) rest last r in record { rest = s.rest; last = s.last; is = ap (λ (runs : List Run). x ∷ runs) s.is }

stays : (more xs told rest : List Run) (last : Run) → joined xs ≡ told ++ last ∷ rest → Stays told (joined (xs ++ more))
stays [] xs told rest last is = record { rest = rest; last = last; is = (grind (arith, common_steps)) ∙ is }
stays (r ∷ more) xs told rest last is =
    let s = stays_one told rest last r in
    let step : joined (xs ++ r ∷ []) ≡ told ++ s.last ∷ s.rest = joined_last xs r ∙ ap (add_last r) is ∙ s.is in
    let e : xs ++ r ∷ [] ++ more ≡ xs ++ (r ∷ more) = append_assoc xs (r ∷ []) more in
    subst (λ (ys : List Run). Stays told (joined ys)) e (stays more (xs ++ r ∷ []) told s.rest s.last step)

-- ---- clusters with one more behind

none_past : (g : ℕ) (e : Extent) (flags : List ℕ) (k : ℕ) → e.at + e.size ≤ k * g → parts_of g e k flags ≡ []
none_past g e [] k past = refl
none_past g e (flag ∷ flags) k past = grind (arith, common_steps, parts-none, none_past g e flags (k + 1))

-- a cluster that ends before has the same of a longer range
same_part : (g at d l j : ℕ) → j * g + g ≤ at + d → shared (range at (d + l)) (granule g j) ≡ shared (range at d) (granule g j)
same_part g at d l j ends = omega arith

abbrev one_part : ℕ → ℕ → List Run → List Run
one_part n flag rest = if nat_lt 0 n then record { length = n; flags = flag } ∷ rest else rest

front_on : (n flag : ℕ) (rest more : List Run) → one_part n flag (rest ++ more) ≡ one_part n flag rest ++ more
front_on zero flag rest more = refl
front_on (suc n) flag rest more = grind (arith, common_steps)

part_now : (g at d k l : ℕ) → k * g ≤ at + d → at + d + l ≤ k * g + g → (d ≡ 0) ⊎ (at + d ≡ k * g) → (shared (range at (d + l)) (granule g k) ≡ l) × (shared (range at d) (granule g k) ≡ 0)
part_now g at d k l low high begins = ⊎_elim (λ (none : d ≡ 0). (omega arith, omega arith)) (λ (border : at + d ≡ k * g). (omega arith, omega arith)) begins

parts_piece : (g at d k : ℕ) (next : Run) → 0 < next.length → k * g ≤ at + d → at + d + next.length ≤ k * g + g → (d ≡ 0) ⊎ (at + d ≡ k * g)
    → (flags : List ℕ) (j : ℕ) → j ≤ k → k - j < length flags → get_or flags (k - j) 0 ≡ next.flags
    → parts_of g (range at (d + next.length)) j flags ≡ parts_of g (range at d) j flags ++ next ∷ []
parts_piece g at d k next some low high begins [] j order inside flag = absurd (omega arith)
parts_piece g at d k next some low high begins (x ∷ flags) j order inside flag = elim (cases_lt j k) [
  | inl less ↦
      let e : g * (j + 1) ≤ g * k = mul-le-mul_left g (omega arith) in
      let f : g * (j + 1) ≡ j * g + g = grind arith in
      let n : k - j ≡ suc (k - (j + 1)) = omega arith in
      let rest = parts_piece g at d k next some low high begins flags (j + 1) (omega arith) (omega arith) (sym (ap (λ (i : ℕ). get_or (x ∷ flags) i 0) n) ∙ flag) in
      ap (λ (l : ℕ). one_part l x (parts_of g (range at (d + next.length)) (j + 1) flags)) (same_part g at d next.length j (omega (arith, e, f, low, mul_comm g k)))
      ∙ ap (one_part (shared (range at d) (granule g j)) x) rest
      ∙ front_on (shared (range at d) (granule g j)) x (parts_of g (range at d) (j + 1) flags) (next ∷ [])
  | inr last ↦
      let same : j ≡ k = omega arith in
      let n : k - j ≡ 0 = omega arith in
      let own : x ≡ next.flags = sym (ap (λ (i : ℕ). get_or (x ∷ flags) i 0) n) ∙ flag in
      let now = part_now g at d k next.length low high begins in
      let step : (j + 1) * g ≡ k * g + g = ap (λ (i : ℕ). (i + 1) * g) same ∙ grind arith in
      let behind = none_past g (range at (d + next.length)) flags (j + 1) (omega (arith, step, high)) in
      let before = none_past g (range at d) flags (j + 1) (omega (arith, step, high)) in
      let here : shared (range at (d + next.length)) (granule g j) ≡ next.length = ap (λ (i : ℕ). shared (range at (d + next.length)) (granule g i)) same ∙ now.0 in
      let none : shared (range at d) (granule g j) ≡ 0 = ap (λ (i : ℕ). shared (range at d) (granule g i)) same ∙ now.1 in
      ap (λ (l : ℕ). one_part l x (parts_of g (range at (d + next.length)) (j + 1) flags)) here
      ∙ ap (one_part next.length x) behind
      ∙ ap (λ (b : Bool). if b then record { length = next.length; flags = x } ∷ [] else []) (lt-ltb 0 next.length some)
      ∙ ap (λ (f : ℕ). record { length = next.length; flags = f } ∷ []) own
      ∙ sym (ap (λ (l : ℕ). one_part l x (parts_of g (range at d) (j + 1) flags) ++ next ∷ []) none ∙ ap (λ (runs : List Run). one_part 0 x runs ++ next ∷ []) before)
]

-- where a cluster begins, a longer range has something of it, with its flags
record Behind (xs ys : List Run) (f : ℕ) : Type 0 where
  pub length : ℕ
  pub more : List Run
  pub is : ys ≡ xs ++ record { length = length; flags = f } ∷ more

parts_behind : (g at d k l f : ℕ) → 0 < g → at + d ≡ k * g → 0 < l → (flags : List ℕ) (j : ℕ) → j ≤ k → k - j < length flags → get_or flags (k - j) 0 ≡ f
    → Behind (parts_of g (range at d) j flags) (parts_of g (range at (d + l)) j flags) f
parts_behind g at d k l f some border more [] j order inside flag = absurd (omega arith)
parts_behind g at d k l f some border more (x ∷ flags) j order inside flag = elim (cases_lt j k) [
  | inl less ↦
      let e : g * (j + 1) ≤ g * k = mul-le-mul_left g (omega arith) in
      let h : g * (j + 1) ≡ j * g + g = grind arith in
      let n : k - j ≡ suc (k - (j + 1)) = omega arith in
      let rest = parts_behind g at d k l f some border more flags (j + 1) (omega arith) (omega arith) (sym (ap (λ (i : ℕ). get_or (x ∷ flags) i 0) n) ∙ flag) in
      record {
        length = rest.length;
        more = rest.more;
        is = ap (λ (m : ℕ). one_part m x (parts_of g (range at (d + l)) (j + 1) flags)) (same_part g at d l j (omega (arith, e, h, border, mul_comm g k)))
            ∙ ap (one_part (shared (range at d) (granule g j)) x) rest.is
            ∙ front_on (shared (range at d) (granule g j)) x (parts_of g (range at d) (j + 1) flags) (record { length = rest.length; flags = f } ∷ rest.more);
      }
  | inr last ↦
      let same : j ≡ k = omega arith in
      let n : k - j ≡ 0 = omega arith in
      let own : x ≡ f = sym (ap (λ (i : ℕ). get_or (x ∷ flags) i 0) n) ∙ flag in
      let place : j * g ≡ k * g = ap (λ (i : ℕ). i * g) same in
      let before = none_past g (range at d) (x ∷ flags) j (omega (arith, place, border)) in
      record {
        length = shared (range at (d + l)) (granule g j);
        more = parts_of g (range at (d + l)) (j + 1) flags;
        is = ap (λ (b : Bool). if b then record { length = shared (range at (d + l)) (granule g j); flags = x } ∷ parts_of g (range at (d + l)) (j + 1) flags else parts_of g (range at (d + l)) (j + 1) flags)
            (lt-ltb 0 (shared (range at (d + l)) (granule g j)) (omega (arith, place, border, more, some)))
            ∙ ap (λ (c : ℕ). record { length = shared (range at (d + l)) (granule g j); flags = c } ∷ parts_of g (range at (d + l)) (j + 1) flags) own
            ∙ sym (ap (λ (runs : List Run). runs ++ record { length = shared (range at (d + l)) (granule g j); flags = f } ∷ parts_of g (range at (d + l)) (j + 1) flags) before);
      }
]

no_parts : (g at : ℕ) (flags : List ℕ) (k : ℕ) → parts_of g (range at 0) k flags ≡ []
no_parts g at [] k = refl
no_parts g at (flag ∷ flags) k = grind (arith, common_steps, parts-none, no_parts g at flags (k + 1))

-- ---- what is told, a piece more

held_some : (r : Run) → 0 < r.length → held r ≡ r ∷ []
held_some r some = ap (λ (b : Bool). if b then [] else r ∷ []) (ne_eqb r.length 0 (omega (arith, some)))

held_none : (r : Run) → r.length ≡ 0 → held r ≡ []
held_none r none = ap (λ (b : Bool). if b then [] else r ∷ []) (eq-eqb r.length 0 none)

pub tells_none : (g : ℕ) (flags : List ℕ) (at : ℕ) (old : List Run) (last : Run) → last.length ≡ 0 → Tells g flags at 0 old old last
tells_none g flags at old last none = record {
  told = [];
  items_are = grind (arith, common_steps);
  runs_are = ap joined (no_parts g at flags 0) ∙ sym (held_none last none);
  start = λ same. refl;
}

module _ (g : ℕ) (flags : List ℕ) (at d k : ℕ) (old items : List Run) (last next : Run) (tells : Tells g flags at d old items last) (piece : IsPiece g flags at d k next) where
  abbrev xs : List Run
  xs = parts_of g (range at d) 0 flags

  flag_here : get_or flags (k - 0) 0 ≡ next.flags
  flag_here = let e : k - 0 ≡ k = omega arith in ap (λ (i : ℕ). get_or flags i 0) e ∙ piece.flag

  one : joined (parts_of g (range at (d + next.length)) 0 flags) ≡ add_last next (tells.told ++ held last)
  one =
      ap joined (parts_piece g at d k next piece.some piece.low piece.high piece.begins flags 0 (omega arith) (omega (arith, piece.inside)) (flag_here))
      ∙ joined_last xs next ∙ ap (add_last next) tells.runs_are

  pub first_told : last.length ≡ 0 → Tells g flags at (d + next.length) old items next
  first_told none = record {
    told = tells.told;
    items_are = tells.items_are;
    runs_are = one ∙ ap (λ (runs : List Run). add_last next (runs ++ held last)) (tells.start none) ∙ ap (add_last next) (held_none last none)
        ∙ sym (ap (λ (runs : List Run). runs ++ held next) (tells.start none) ∙ held_some next piece.some);
    start = λ same. absurd (omega (arith, same, piece.some));
  }

  pub same_told : 0 < last.length → last.flags ≡ next.flags → Tells g flags at (d + next.length) old items (record { length = last.length + next.length; flags = last.flags })
  same_told some same = record {
    told = tells.told;
    items_are = tells.items_are;
    runs_are = one ∙ ap (λ (runs : List Run). add_last next (tells.told ++ runs)) (held_some last some) ∙ last_same tells.told last next same
        ∙ sym (ap (λ (runs : List Run). tells.told ++ runs) (held_some (record { length = last.length + next.length; flags = last.flags }) (omega (arith, some))));
    start = λ none. absurd (omega (arith, none, some));
  }

  told_on : 0 < last.length → last.flags ≢ next.flags → joined (parts_of g (range at (d + next.length)) 0 flags) ≡ (tells.told ++ last ∷ []) ++ next ∷ []
  told_on some other = one ∙ ap (λ (runs : List Run). add_last next (tells.told ++ runs)) (held_some last some) ∙ last_other tells.told last next other ∙ sym (append_assoc tells.told (last ∷ []) (next ∷ []))

  items_on : items ++ last ∷ [] ≡ old ++ (tells.told ++ last ∷ [])
  items_on = ap (λ (runs : List Run). runs ++ last ∷ []) tells.items_are ∙ append_assoc old tells.told (last ∷ [])

  pub other_told : 0 < last.length → last.flags ≢ next.flags → Tells g flags at (d + next.length) old (items ++ last ∷ []) next
  other_told some other = record {
    told = tells.told ++ last ∷ [];
    items_are = items_on;
    runs_are = told_on some other ∙ sym (ap (λ (runs : List Run). (tells.told ++ last ∷ []) ++ runs) (held_some next piece.some));
    start = λ none. absurd (omega (arith, none, piece.some));
  }

  abbrev told : List Run
  told = tells.told ++ last ∷ []

  pub all_told : 0 < g → 0 < last.length → last.flags ≢ next.flags → length (items ++ last ∷ []) ≡ length old + 1024 → TellsAll g flags at (d + next.length) old (items ++ last ∷ [])
  unfolding runs_of
  all_told more some other full = record { all = λ n order. items_on ∙ ap (λ (runs : List Run). old ++ runs) (sym (first_are n order)) }
    where
      many : length told ≡ 1024
      many = let e = ap length items_on in omega (arith, e, full, length-append old told)

      cut : (runs rest : List Run) (r : Run) → runs ≡ told ++ r ∷ rest → take 1024 runs ≡ told
      cut runs rest r is = ap (take 1024) is ∙ take-append-le 1024 told (r ∷ rest) (omega (arith, many)) ∙ take_all 1024 told (omega (arith, many))

      step : (m : ℕ) → joined (xs ++ record { length = m; flags = next.flags } ∷ []) ≡ told ++ record { length = m; flags = next.flags } ∷ []
      step m = joined_last xs (record { length = m; flags = next.flags }) ∙ ap (add_last (record { length = m; flags = next.flags })) (tells.runs_are ∙ ap (λ (runs : List Run). tells.told ++ runs) (held_some last some))
          ∙ last_other tells.told last (record { length = m; flags = next.flags }) other ∙ sym (append_assoc tells.told (last ∷ []) (record { length = m; flags = next.flags } ∷ []))

      first_are : (n : ℕ) → d + next.length ≤ n → take 1024 (joined (parts_of g (range at n) 0 flags)) ≡ told
      first_are n order = ⊎_elim
          (λ (none : d ≡ 0). absurd (
          let empty : joined (parts_of g (range at d) 0 flags) ≡ [] = ap (λ (e : ℕ). joined (parts_of g (range at e) 0 flags)) none ∙ ap joined (no_parts g at flags 0) in
          let e : length (tells.told ++ last ∷ []) ≡ 0 = ap length (sym (tells.runs_are ∙ ap (λ (runs : List Run). tells.told ++ runs) (held_some last some)) ∙ empty) in
          omega (arith, e, length-append tells.told (last ∷ []))))
          (λ (border : at + d ≡ k * g).
          let b = parts_behind g at d k (n - d) next.flags more border (omega (arith, order, piece.some)) flags 0 (omega arith) (omega (arith, piece.inside)) flag_here in
          let e : d + (n - d) ≡ n = omega (arith, order) in
          let head : List Run = record { length = b.length; flags = next.flags } ∷ [] in
          let s = stays b.more (xs ++ head) told [] (record { length = b.length; flags = next.flags }) (step b.length) in
          let same : parts_of g (range at n) 0 flags ≡ (xs ++ head) ++ b.more = sym (ap (λ (m : ℕ). parts_of g (range at m) 0 flags) e) ∙ b.is ∙ sym (append_assoc xs head b.more) in
          ap (λ (runs : List Run). take 1024 (joined runs)) same ∙ cut (joined ((xs ++ head) ++ b.more)) s.rest s.last s.is)
          piece.begins

-- at the end the run that is held is told
pub tells_end : (g : ℕ) (flags : List ℕ) (at d : ℕ) (old items : List Run) (last : Run) → Tells g flags at d old items last → 0 < last.length → length items < length old + 1024
    → items ++ last ∷ [] ≡ old ++ first_runs (runs_of g flags (range at d))
unfolding runs_of
tells_end g flags at d old items last tells some few =
    let whole : joined (parts_of g (range at d) 0 flags) ≡ tells.told ++ last ∷ [] = tells.runs_are ∙ ap (λ (runs : List Run). tells.told ++ runs) (held_some last some) in
    let many = ap length tells.items_are in
    let short : length (tells.told ++ last ∷ []) ≤ 1024 = omega (arith, few, many, length-append old tells.told, length-append tells.told (last ∷ [])) in
    ap (λ (runs : List Run). runs ++ last ∷ []) tells.items_are ∙ append_assoc old tells.told (last ∷ [])
    ∙ ap (λ (runs : List Run). old ++ runs) (sym (ap (take 1024) whole ∙ take_all 1024 (tells.told ++ last ∷ []) short))

-- ---- a row, cluster by cluster

-- how many bytes of a part are done with its first m clusters
abbrev pub upto : ℕ → ℕ → ℕ → ℕ → ℕ
upto g from l m = min (max (m * g) from) (from + l) - from

-- cluster m has these bytes of the part, and something of it
pub row_step : (g from l count m : ℕ) → m < count → from < g → 0 < l → from + l ≤ g * count → g * count < from + l + g
    → (max (m * g) from < min ((m + 1) * g) (from + l)) × (upto g from l m ≡ max (m * g) from - from) × (upto g from l (m + 1) ≡ min ((m + 1) * g) (from + l) - from)
row_step g from l count m inside low some covers least =
    let a : g * (m + 1) ≤ g * count = mul-le-mul_left g (omega (arith, inside)) in
    let b : g * (m + 1) ≡ m * g + g = grind arith in
    let c : (m + 1) * g ≡ m * g + g = grind arith in
    (omega (arith, a, b, c, low, least), omega (arith, a, b, low, least), omega (arith, c, low))

pub row_done : (g from l count : ℕ) → from + l ≤ g * count → upto g from l count ≡ l
row_done g from l count covers = omega (arith, covers, mul_comm g count)

pub row_piece : (g : ℕ) (flags : List ℕ) (at d first m : ℕ) (part : Part) (row : List ℕ) (next : Run) → IsRowAt g flags at d first part row → m < part.count → part.from < g
    → next.flags ≡ allocation_flags (kind_of (u64_at row (8 * m))) → 0 < next.length → upto g part.from part.length m ≡ max (m * g) part.from - part.from
    → next.length ≡ min ((m + 1) * g) (part.from + part.length) - max (m * g) part.from → max (m * g) part.from < min ((m + 1) * g) (part.from + part.length)
    → IsPiece g flags at (d + upto g part.from part.length m) (first + m) next
row_piece g flags at d first m part row next is inside low flag some done long goes =
    let times : (first + m) * g ≡ first * g + m * g = grind arith in
    let step : (m + 1) * g ≡ m * g + g = grind arith in
    record {
      some = some;
      inside = omega (arith, is.inside, inside);
      low = omega (arith, times, is.begins, done);
      high = omega (arith, times, step, is.begins, done, long, goes);
      begins = elim (cases_eq m 0) [
        | inl none ↦
            let zero_is : m * g ≡ 0 = ap (λ (k : ℕ). k * g) none ∙ omega arith in
            ⊎_elim (λ (start : d ≡ 0). inl (omega (arith, start, done, zero_is))) (λ (border : part.from ≡ 0). inr (omega (arith, border, is.begins, done, zero_is, times))) is.next
        | inr more ↦
            let e : g * 1 ≤ g * m = mul-le-mul_left g (omega (arith, more)) in
            inr (omega (arith, e, mul_comm g m, low, times, is.begins, done))
      ];
      flag = is.each m inside ∙ sym flag;
    }

pub all_later : (g : ℕ) (flags : List ℕ) (at d e : ℕ) (old items : List Run) → d ≤ e → TellsAll g flags at d old items → TellsAll g flags at e old items
all_later g flags at d e old items order is = record { all = λ n more. is.all n (omega arith) }
