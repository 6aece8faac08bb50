-- What one part of a request makes of the bytes, kinds and tables of a disk.
use Rattle.std.proofs.Common.{◌≡◌, ◌≢◌, ◌⊎◌, inl, inr, ⊎_elim, ℕ, ◌+◌, ◌-◌, ◌*◌, ◌/◌, ◌%◌, ◌<◌, ◌≤◌, List, [], ◌∷◌, length, take, drop, Bool, true, false, not, ◌||◌, refl, sym, ◌∙◌, ap, subst, arith}
use Rattle.std.specs.Prelude.{◌==◌, if◌then◌else◌}
use Rattle.std.proofs.lemmas.Bool.{cases_eq, cases_lt, cases_order, or_right}
use Rattle.std.proofs.lemmas.List.{length-take-le, length-drop, get_or-take, get_or-drop, get_or_past}
use Rattle.std.proofs.lemmas.Nat.{div-add-mod'}
use Rattle.std.proofs.Math.Nat.{mod-lt, mul-le-mul_left, mul_comm}
use Rattle.std.proofs.Math.Seq.{take-length}
use Rattle.bitmap_model.specs.Granules.{is_in, granules_in}
use Rattle.bitmap_model.proofs.Places.{place_below}
use Rattle.disk_model.specs.Files.{byte, overlay, SomeVersion}
use Rattle.disk_model.proofs.Laws.{byte-overlay_below, byte-overlay_in, byte-overlay_above, byte-overlay_outside}
use Rattle.image_model.specs.Clusters.{Shape, size, per, offset, word_of}
use Rattle.image_model.specs.Disks.{IsMixedOf}
use Rattle.image_model.specs.Space.{Kind, Hole, Store, AreEither, kind_at}
use Rattle.map_rows.specs.declared.parts.Part.{Part}
use Rattle.map_rows.specs.Stores.{HasStore, kind_of, has_table}
use Rattle.qc_map.specs.Altering.{Alteration, IsAltered, IsPartlyAltered}

-- ---- bytes

-- the first bytes of a list over a file
over_in : (old bytes : List ℕ) (at n b : ℕ) → n ≤ length bytes → at ≤ b → b < at + n → byte (overlay old at (take n bytes)) b ≡ byte bytes (b - at)
over_in old bytes at n b fits low high =
    byte-overlay_in old at (take n bytes) b low (omega (arith, length-take-le n bytes fits, high)) ∙ get_or-take n bytes (b - at) 0 (omega (arith, low, high))

over_out : (old bytes : List ℕ) (at n b : ℕ) → n ≤ length bytes → (b < at) ⊎ (at + n ≤ b) → byte (overlay old at (take n bytes)) b ≡ byte old b
over_out old bytes at n b fits out = byte-overlay_outside old at (take n bytes) b (⊎_elim (λ (low : b < at). inl low) (λ (high : at + n ≤ b). inr (omega (arith, length-take-le n bytes fits, high))) out)

-- are those of more of them
over_more : (old bytes : List ℕ) (at n k b : ℕ) → n ≤ k → k ≤ length bytes → b < at + n → byte (overlay old at (take n bytes)) b ≡ byte (overlay old at (take k bytes)) b
over_more old bytes at n k b order fits high = elim (cases_lt b at) [
  | inl low ↦ over_out old bytes at n b (omega (arith, order, fits)) (inl low) ∙ sym (over_out old bytes at k b fits (inl low))
  | inr from ↦ over_in old bytes at n b (omega (arith, order, fits)) from high ∙ sym (over_in old bytes at k b fits from (omega (arith, high, order)))
]

abbrev pub IsWhole : ℕ → Type 0
IsWhole x = x % 512 ≡ 0

-- the first n bytes are on the disk, and the l behind them are written or not
module _ (total at n l : ℕ) (old mid bytes piece : List ℕ) (fits : n + l ≤ length bytes) (is : piece ≡ take l (drop n bytes)) (reached : (b : ℕ) → b < total → byte mid b ≡ byte (overlay old at (take n bytes)) b) where
  piece_long : length piece ≡ l
  piece_long = ap length is ∙ length-take-le l (drop n bytes) (omega (arith, length-drop n bytes, fits))

  piece_byte : (x : ℕ) → x < l → byte piece x ≡ byte bytes (n + x)
  piece_byte x inside = ap (λ (p : List ℕ). byte p x) is ∙ get_or-take l (drop n bytes) x 0 inside ∙ get_or-drop n bytes x 0

  pub bytes_on : (b : ℕ) → b < total → byte (overlay mid (at + n) piece) b ≡ byte (overlay old at (take (n + l) bytes)) b
  bytes_on b inside = elim (cases_lt b (at + n)) [
    | inl below ↦ byte-overlay_below mid (at + n) piece b below ∙ reached b inside ∙ over_more old bytes at n (n + l) b (omega arith) fits below
    | inr from ↦ elim (cases_lt b (at + n + l)) [
      | inl to ↦
          let place : n + (b - (at + n)) ≡ b - at = omega (arith, from) in
          byte-overlay_in mid (at + n) piece b from (omega (arith, to, piece_long)) ∙ piece_byte (b - (at + n)) (omega (arith, from, to)) ∙ ap (byte bytes) place
          ∙ sym (over_in old bytes at (n + l) b fits (omega (arith, from)) (omega (arith, to)))
      | inr past ↦
          byte-overlay_above mid (at + n) piece b (omega (arith, past, piece_long)) ∙ reached b inside ∙ over_out old bytes at n b (omega (arith, fits)) (inr from)
          ∙ sym (over_out old bytes at (n + l) b fits (inr (omega (arith, past))))
    ]
  ]

  abbrev goal : List ℕ
  goal = overlay old at (take (length bytes) bytes)

  mid_old : (b : ℕ) → b < total → (n ≡ 0) ⊎ (at + n ≤ b) → byte mid b ≡ byte old b
  mid_old b inside where_it = reached b inside ∙ over_out old bytes at n b (omega (arith, fits)) (elim (cases_lt b at) [
    | inl low ↦ inl low
    | inr from ↦ inr (⊎_elim (λ (none : n ≡ 0). omega (arith, none, from)) (λ (past : at + n ≤ b). past) where_it)
  ])

  mid_goal : (b : ℕ) → b < total → b < at + n → byte mid b ≡ byte goal b
  mid_goal b inside below = reached b inside ∙ over_more old bytes at n (length bytes) b (omega (arith, fits)) (omega arith) below

  piece_old : (b : ℕ) → b < total → at + n + l ≤ b → byte (overlay mid (at + n) piece) b ≡ byte old b
  piece_old b inside past = bytes_on b inside ∙ over_out old bytes at (n + l) b fits (inr (omega (arith, past)))

  piece_goal : (b : ℕ) → b < total → b < at + n + l → byte (overlay mid (at + n) piece) b ≡ byte goal b
  piece_goal b inside below = bytes_on b inside ∙ over_more old bytes at (n + l) (length bytes) b fits (omega arith) (omega (arith, below))

  -- sector x is that of another
  abbrev IsThat : List ℕ → ℕ → List ℕ → Type 0
  IsThat new x other = (b : ℕ) → 512 * x ≤ b → b < 512 * x + 512 → b < total → byte new b ≡ byte other b

  -- each sector is as before the request, or as after it
  pub mix_on : (n ≡ 0) ⊎ IsWhole (at + n) → (n + l ≡ length bytes) ⊎ IsWhole (at + n + l) → (new : List ℕ) → IsMixedOf total (mid ∷ overlay mid (at + n) piece ∷ []) new → IsMixedOf total (old ∷ overlay old at bytes ∷ []) new
  mix_on from to new mixed x x_in = subst (λ (bs : List ℕ). SomeVersion (IsThat new x) (old ∷ overlay old at bs ∷ [])) (take-length bytes) (by_version (mixed x x_in))
    where
      as_mid : IsThat new x mid → (n ≡ 0) ⊎ IsWhole (at + n) → SomeVersion (IsThat new x) (old ∷ goal ∷ [])
      as_mid same (inl none) = inl (λ b low high inside. same b low high inside ∙ mid_old b inside (inl none))
      as_mid same (inr whole) = elim (cases_lt (512 * x) (at + n)) [
        | inl below ↦ inr (inl (λ b low high inside. same b low high inside ∙ mid_goal b inside (omega (arith, high, below, whole))))
        | inr past ↦ inl (λ b low high inside. same b low high inside ∙ mid_old b inside (inr (omega (arith, low, past))))
      ]

      as_piece : IsThat new x (overlay mid (at + n) piece) → (n + l ≡ length bytes) ⊎ IsWhole (at + n + l) → SomeVersion (IsThat new x) (old ∷ goal ∷ [])
      as_piece same (inl all) = inr (inl (λ b low high inside. same b low high inside ∙ bytes_on b inside ∙ ap (λ (k : ℕ). byte (overlay old at (take k bytes)) b) all))
      as_piece same (inr whole) = elim (cases_lt (512 * x) (at + n + l)) [
        | inl below ↦ inr (inl (λ b low high inside. same b low high inside ∙ piece_goal b inside (omega (arith, high, below, whole))))
        | inr past ↦ inl (λ b low high inside. same b low high inside ∙ piece_old b inside (omega (arith, low, past)))
      ]

      by_version : SomeVersion (IsThat new x) (mid ∷ overlay mid (at + n) piece ∷ []) → SomeVersion (IsThat new x) (old ∷ goal ∷ [])
      by_version (inl same) = as_mid same from
      by_version (inr (inl same)) = as_piece same to
      by_version (inr (inr none)) = absurd none

-- ---- kinds and tables

-- clusters that pass the test become of this kind, and tables that pass the other are there
pub record Becomes (s : Shape) (store : Store) (kind : Kind) (touch gain : ℕ → Bool) (old new : List ℕ) : Type 0 where
  pub kinds : (i j : ℕ) → j < per s → i * per s + j < length store.kinds → kind_of (word_of s new i j) ≡ (if touch (i * per s + j) then kind else kind_of (word_of s old i j))
  pub tables : (t : ℕ) → t < length store.tables → has_table s new t ≡ (has_table s old t || gain t)

-- or they are as before
pub record IsNear (s : Shape) (store : Store) (kind : Kind) (touch gain : ℕ → Bool) (old new : List ℕ) : Type 0 where
  pub kinds : (i j : ℕ) → j < per s → i * per s + j < length store.kinds → (kind_of (word_of s new i j) ≡ kind_of (word_of s old i j)) ⊎ ((touch (i * per s + j) ≡ true) × (kind_of (word_of s new i j) ≡ kind))
  pub tables : (t : ℕ) → t < length store.tables → (has_table s new t ≡ has_table s old t) ⊎ ((gain t ≡ true) × (has_table s new t ≡ true))

-- a store that has these kinds and tables
pub record IsGoal (store after : Store) (kind : Kind) (touch gain : ℕ → Bool) : Type 0 where
  pub cluster : after.cluster ≡ store.cluster
  pub kind_count : length after.kinds ≡ length store.kinds
  pub kinds : (k : ℕ) → k < length store.kinds → kind_at after k ≡ (if touch k then kind else kind_at store k)
  pub table_count : length after.tables ≡ length store.tables
  pub tables : (t : ℕ) → t < length store.tables → is_in after.tables t ≡ (is_in store.tables t || gain t)

-- What was touched before a part, and what is with it.
pub record IsStep (s : Shape) (store : Store) (p : Part) (kind : Kind) (goal : ℕ → Kind → Kind) (touch touch_on gain gain_on : ℕ → Bool) : Type 0 where
  pub outside : (k : ℕ) → k < length store.kinds → (k < p.table * per s + p.slot) ⊎ (p.table * per s + p.slot + p.count ≤ k) → touch_on k ≡ touch k
  pub untouched : (m : ℕ) → m < p.count → touch (p.table * per s + p.slot + m) ≡ false
  pub goal_is : (m : ℕ) (was : Kind) → m < p.count → goal m was ≡ (if touch_on (p.table * per s + p.slot + m) then kind else was)
  pub others : (t : ℕ) → t ≢ p.table → gain_on t ≡ gain t
  pub own : gain p.table ≡ false

pub becomes_store : (s : Shape) (total : ℕ) (store after : Store) (kind : Kind) (touch gain : ℕ → Bool) (old new : List ℕ) → HasStore s total old store → IsGoal store after kind touch gain → Becomes s store kind touch gain old new → HasStore s total new after
becomes_store s total store after kind touch gain old new has goal is = record {
  cluster = goal.cluster ∙ has.cluster;
  kind_count = goal.kind_count ∙ has.kind_count;
  kinds = λ i j j_in inside.
      let below : i * per s + j < length store.kinds = omega (arith, inside, goal.kind_count) in
      goal.kinds (i * per s + j) below ∙ ap (λ (k : Kind). if touch (i * per s + j) then kind else k) (has.kinds i j j_in below) ∙ sym (is.kinds i j j_in below);
  table_count = goal.table_count ∙ has.table_count ∙ ap (λ (n : ℕ). granules_in n (per s)) (sym goal.kind_count);
  tables = λ t inside.
      let below : t < length store.tables = omega (arith, inside, goal.table_count) in
      goal.tables t below ∙ ap (λ (b : Bool). b || gain t) (has.tables t below) ∙ sym (is.tables t below);
}

-- two stores of disks that differ so
pub near_either : (s : Shape) (total : ℕ) (was now after : Store) (kind : Kind) (touch gain : ℕ → Bool) (old new : List ℕ) → 0 < s.sectors → HasStore s total old was → HasStore s total new now → IsGoal was after kind touch gain → IsNear s was kind touch gain old new
    → AreEither was after now
near_either s total was now after kind touch gain old new some has_old has_new goal is = record {
  kind_of = λ k. elim (cases_lt k (length was.kinds)) [
    | inr past ↦ inl (get_or_past now.kinds k Hole (omega (arith, past, kind_count)) ∙ sym (get_or_past was.kinds k Hole past))
    | inl inside ↦
        let at : k / per s * per s + k % per s ≡ k = div-add-mod' k (per s) in
        let j_in : k % per s < per s = mod-lt k (omega (arith, some)) in
        subst (λ (x : ℕ). (kind_at now x ≡ kind_at was x) ⊎ (kind_at now x ≡ kind_at after x)) at (one_kind (k / per s) (k % per s) j_in (omega (arith, at, inside)) (is.kinds (k / per s) (k % per s) j_in (omega (arith, at, inside))))
  ];
  table_is = λ t. elim (cases_lt t (length was.tables)) [
    | inr past ↦ inl (get_or_past now.tables t false (omega (arith, past, table_count)) ∙ sym (get_or_past was.tables t false past))
    | inl inside ↦ one_table t inside (is.tables t inside)
  ];
}
  where
    kind_count : length now.kinds ≡ length was.kinds
    kind_count = has_new.kind_count ∙ sym has_old.kind_count

    table_count : length now.tables ≡ length was.tables
    table_count = has_new.table_count ∙ ap (λ (n : ℕ). granules_in n (per s)) kind_count ∙ sym has_old.table_count

    one_kind : (i j : ℕ) → j < per s → i * per s + j < length was.kinds → (kind_of (word_of s new i j) ≡ kind_of (word_of s old i j)) ⊎ ((touch (i * per s + j) ≡ true) × (kind_of (word_of s new i j) ≡ kind))
        → (kind_at now (i * per s + j) ≡ kind_at was (i * per s + j)) ⊎ (kind_at now (i * per s + j) ≡ kind_at after (i * per s + j))
    one_kind i j j_in inside (inl same) = inl (has_new.kinds i j j_in (omega (arith, inside, kind_count)) ∙ same ∙ sym (has_old.kinds i j j_in inside))
    one_kind i j j_in inside (inr made) =
        inr (has_new.kinds i j j_in (omega (arith, inside, kind_count)) ∙ made.1 ∙ sym (goal.kinds (i * per s + j) inside ∙ ap (λ (b : Bool). if b then kind else kind_at was (i * per s + j)) made.0))

    one_table : (t : ℕ) → t < length was.tables → (has_table s new t ≡ has_table s old t) ⊎ ((gain t ≡ true) × (has_table s new t ≡ true)) → (is_in now.tables t ≡ is_in was.tables t) ⊎ (is_in now.tables t ≡ is_in after.tables t)
    one_table t inside (inl same) = inl (has_new.tables t (omega (arith, inside, table_count)) ∙ same ∙ sym (has_old.tables t inside))
    one_table t inside (inr made) = inr (has_new.tables t (omega (arith, inside, table_count)) ∙ made.1 ∙ sym (goal.tables t inside ∙ or_right (is_in was.tables t) (gain t) made.0))

-- ---- where a cluster is

-- slot j of table i is one of those from `slot` of `table` on, or comes before them or behind
abbrev IsIn : ℕ → ℕ → ℕ → ℕ → ℕ → Type 0
IsIn i j table slot n = (i ≡ table) × (slot ≤ j) × (j < slot + n)

record IsBeside (w i j table slot n : ℕ) : Type 0 where
  not : i ≡ table → slot ≤ j → j < slot + n → ⊥
  out : (i * w + j < table * w + slot) ⊎ (table * w + slot + n ≤ i * w + j)

locate : (w i j table slot n : ℕ) → j < w → slot + n ≤ w → IsIn i j table slot n ⊎ IsBeside w i j table slot n
locate w i j table slot n j_in slots = elim (cases_order i table) [
  | inl same ↦
      let here : i * w ≡ table * w = ap (λ (k : ℕ). k * w) same in
      elim (cases_lt j slot) [
        | inl below ↦ inr (record { not = λ e low high. omega (arith, below, low); out = inl (omega (arith, here, below)) })
        | inr from ↦ elim (cases_lt j (slot + n)) [
          | inl to ↦ inl (same, from, to)
          | inr past ↦ inr (record { not = λ e low high. omega (arith, past, high); out = inr (omega (arith, here, past)) })
        ]
      ]
  | inr (inl less) ↦
      let more : w * (i + 1) ≤ w * table = mul-le-mul_left w (omega (arith, less)) in
      let step : w * (i + 1) ≡ i * w + w = grind arith in
      inr (record { not = λ e low high. omega (arith, less, e); out = inl (omega (arith, more, step, mul_comm w table, j_in)) })
  | inr (inr less) ↦
      let more : w * (table + 1) ≤ w * i = mul-le-mul_left w (omega (arith, less)) in
      let step : w * (table + 1) ≡ table * w + w = grind arith in
      inr (record { not = λ e low high. omega (arith, less, e); out = inr (omega (arith, more, step, mul_comm w i, slots)) })
]

-- ---- one part more

pub if_near : (t : Bool) (kind was now : Kind) → now ≡ (if t then kind else was) → (now ≡ was) ⊎ ((t ≡ true) × (now ≡ kind))
if_near true kind was now is = inr (refl, is)
if_near false kind was now is = inl is

pub or_near : (g b now : Bool) → now ≡ (b || g) → (now ≡ b) ⊎ ((g ≡ true) × (now ≡ true))
or_near true true now is = inl is
or_near true false now is = inr (refl, is)
or_near false true now is = inl is
or_near false false now is = inl is

module _ (s : Shape) (total : ℕ) (some : 0 < s.sectors) (covers : total ≤ s.tables * per s * size s) where
  pub cluster_in : (i j : ℕ) → i * per s + j < granules_in total (size s) → i < s.tables
  cluster_in i j inside = elim (cases_lt i s.tables) [
    | inl less ↦ less
    | inr more ↦ absurd (
        let low = place_below total (size s) (i * per s + j) (omega (arith, some)) inside in
        let e : per s * size s * s.tables ≤ per s * size s * i = mul-le-mul_left (per s * size s) more in
        let f : per s * size s * s.tables ≡ s.tables * per s * size s = grind arith in
        let g : (i * per s + j) * size s ≡ per s * size s * i + j * size s = grind arith in
        omega (arith, low, e, f, g, covers))
  ]

  module _ (store : Store) (old : List ℕ) (has : HasStore s total old store) where
    pub table_below : (t : ℕ) → t < length store.tables → t < s.tables
    table_below t inside =
        let low = place_below (length store.kinds) (per s) t (omega (arith, some)) (subst (λ (n : ℕ). t < n) has.table_count inside) in
        cluster_in t 0 (omega (arith, low, has.kind_count))

    module _ (p : Part) (slots : p.slot + p.count ≤ per s) (kind : Kind) (goal : ℕ → Kind → Kind) (touch touch_on gain gain_on : ℕ → Bool) (step : IsStep s store p kind goal touch touch_on gain gain_on) (from : ℕ) (bytes : List ℕ) (mid new : List ℕ) (reached : Becomes s store kind touch gain old mid) where
      abbrev first : ℕ
      first = p.table * per s + p.slot

      abbrev e : Alteration
      e = record { table = p.table; slot = p.slot; count = p.count; from = from; bytes = bytes; goal = goal }

      -- a cluster of the part: which one it is, and that nothing touched it
      record InPart (i j : ℕ) : Type 0 where
        m : ℕ
        inside : m < p.count
        slot : j ≡ p.slot + m
        at : i * per s + j ≡ first + m

      in_part : (i j : ℕ) → IsIn i j p.table p.slot p.count → InPart i j
      in_part i j is =
          let here : i * per s ≡ p.table * per s = ap (λ (k : ℕ). k * per s) is.0 in
          record { m = j - p.slot; inside = omega (arith, is.1, is.2); slot = omega (arith, is.1); at = omega (arith, here, is.1) }

      as_before : (m : ℕ) → m < p.count → p.slot + m < per s → first + m < length store.kinds → kind_of (word_of s mid p.table (p.slot + m)) ≡ kind_of (word_of s old p.table (p.slot + m))
      as_before m inside m_in below =
          let at : p.table * per s + (p.slot + m) ≡ first + m = omega arith in
          reached.kinds p.table (p.slot + m) m_in (omega (arith, below))
          ∙ ap (λ (b : Bool). if b then kind else kind_of (word_of s old p.table (p.slot + m))) (ap touch at ∙ step.untouched m inside)

      pub becomes_on : IsAltered s total e mid new → has_table s new p.table ≡ (has_table s old p.table || gain_on p.table) → Becomes s store kind touch_on gain_on old new
      becomes_on is own = record {
        kinds = λ i j j_in below. elim (locate (per s) i j p.table p.slot p.count j_in slots) [
          | inr beside ↦
              ap kind_of (is.rest.entries i j (cluster_in i j (subst (λ (n : ℕ). i * per s + j < n) has.kind_count below)) j_in beside.not)
              ∙ reached.kinds i j j_in below ∙ ap (λ (b : Bool). if b then kind else kind_of (word_of s old i j)) (sym (step.outside (i * per s + j) below beside.out))
          | inl in_it ↦
              let w = in_part i j in_it in
              let same : kind_of (word_of s new p.table (p.slot + w.m)) ≡ (if touch_on (first + w.m) then kind else kind_of (word_of s old p.table (p.slot + w.m))) =
              is.kinds w.m w.inside ∙ ap (goal w.m) (as_before w.m w.inside (omega (arith, j_in, w.slot)) (omega (arith, below, w.at))) ∙ step.goal_is w.m (kind_of (word_of s old p.table (p.slot + w.m))) w.inside in
              ap (λ (a : ℕ). kind_of (word_of s new a j)) in_it.0 ∙ ap (λ (b : ℕ). kind_of (word_of s new p.table b)) w.slot ∙ same
              ∙ ap (λ (k : ℕ). if touch_on k then kind else kind_of (word_of s old p.table (p.slot + w.m))) (sym w.at)
              ∙ sym (ap (λ (a : ℕ). if touch_on (i * per s + j) then kind else kind_of (word_of s old a j)) in_it.0 ∙ ap (λ (b : ℕ). if touch_on (i * per s + j) then kind else kind_of (word_of s old p.table b)) w.slot)
        ];
        tables = λ t below. elim (cases_eq t p.table) [
          | inl same ↦ subst (λ (x : ℕ). has_table s new x ≡ (has_table s old x || gain_on x)) (sym same) own
          | inr other ↦
              ap (λ (w : ℕ). not (offset w == 0)) (is.tables t (table_below t below) other)
              ∙ reached.tables t below ∙ ap (λ (b : Bool). has_table s old t || b) (sym (step.others t other))
        ];
      }

      -- as far as it was done
      pub near_on : (touch_all gain_all : ℕ → Bool) → ((k : ℕ) → touch_on k ≡ true → touch_all k ≡ true) → ((t : ℕ) → gain_on t ≡ true → gain_all t ≡ true) → IsPartlyAltered s total e mid new
          → (has_table s new p.table ≡ has_table s old p.table) ⊎ ((gain_all p.table ≡ true) × (has_table s new p.table ≡ true)) → IsNear s store kind touch_all gain_all old new
      near_on touch_all gain_all more_touch more_gain is own = record {
        kinds = λ i j j_in below. elim (locate (per s) i j p.table p.slot p.count j_in slots) [
          | inr beside ↦
              let same = ap kind_of (is.rest.entries i j (cluster_in i j (subst (λ (n : ℕ). i * per s + j < n) has.kind_count below)) j_in beside.not) in
              ⊎_elim
              (λ (kept : kind_of (word_of s mid i j) ≡ kind_of (word_of s old i j)). inl (same ∙ kept))
              (λ (made : (touch (i * per s + j) ≡ true) × (kind_of (word_of s mid i j) ≡ kind)). inr (more_touch (i * per s + j) (step.outside (i * per s + j) below beside.out ∙ made.0), same ∙ made.1))
              (if_near (touch (i * per s + j)) kind (kind_of (word_of s old i j)) (kind_of (word_of s mid i j)) (reached.kinds i j j_in below))
          | inl in_it ↦
              let w = in_part i j in_it in
              let m_in : p.slot + w.m < per s = omega (arith, j_in, w.slot) in
              let before = as_before w.m w.inside m_in (omega (arith, below, w.at)) in
              let here : (kind_of (word_of s new p.table (p.slot + w.m)) ≡ kind_of (word_of s old p.table (p.slot + w.m))) ⊎ ((touch_all (first + w.m) ≡ true) × (kind_of (word_of s new p.table (p.slot + w.m)) ≡ kind)) =
              ⊎_elim
              (λ (kept : kind_of (word_of s new p.table (p.slot + w.m)) ≡ kind_of (word_of s mid p.table (p.slot + w.m))). inl (kept ∙ before))
              (λ (done : kind_of (word_of s new p.table (p.slot + w.m)) ≡ goal w.m (kind_of (word_of s mid p.table (p.slot + w.m)))).
              ⊎_elim
              (λ (kept : kind_of (word_of s new p.table (p.slot + w.m)) ≡ kind_of (word_of s old p.table (p.slot + w.m))). inl kept)
              (λ (made : (touch_on (first + w.m) ≡ true) × (kind_of (word_of s new p.table (p.slot + w.m)) ≡ kind)). inr (more_touch (first + w.m) made.0, made.1))
              (if_near (touch_on (first + w.m)) kind (kind_of (word_of s old p.table (p.slot + w.m))) (kind_of (word_of s new p.table (p.slot + w.m))) (done ∙ ap (goal w.m) before ∙ step.goal_is w.m (kind_of (word_of s old p.table (p.slot + w.m))) w.inside)))
              (is.kinds w.m w.inside) in
              let X : ℕ → ℕ → ℕ → Type 0 = λ a b k. (kind_of (word_of s new a b) ≡ kind_of (word_of s old a b)) ⊎ ((touch_all k ≡ true) × (kind_of (word_of s new a b) ≡ kind)) in
              subst (λ (a : ℕ). X a j (i * per s + j)) (sym in_it.0) (subst (λ (b : ℕ). X p.table b (i * per s + j)) (sym w.slot) (subst (λ (k : ℕ). X p.table (p.slot + w.m) k) (sym w.at) here))
        ];
        tables = λ t below. elim (cases_eq t p.table) [
          | inl same ↦ subst (λ (x : ℕ). (has_table s new x ≡ has_table s old x) ⊎ ((gain_all x ≡ true) × (has_table s new x ≡ true))) (sym same) own
          | inr other ↦
              let same = ap (λ (w : ℕ). not (offset w == 0)) (is.tables t (table_below t below) other) in
              ⊎_elim
              (λ (kept : has_table s mid t ≡ has_table s old t). inl (same ∙ kept))
              (λ (made : (gain t ≡ true) × (has_table s mid t ≡ true)). inr (more_gain t (step.others t other ∙ made.0), same ∙ made.1))
              (or_near (gain t) (has_table s old t) (has_table s mid t) (reached.tables t below))
        ];
      }
