-- What a change of clusters in a row is on the disk as a list of bytes.
use Rattle.std.proofs.Common.{◌≡◌, ◌⊎◌, inl, inr, ⊎_elim, ℕ, ◌+◌, ◌-◌, ◌*◌, ◌/◌, ◌%◌, ◌<◌, ◌≤◌, min, List, [], ◌∷◌, length, refl, sym, ◌∙◌, ap, subst, arith}
use Rattle.std.proofs.lemmas.Bool.{cases_eq, cases_lt}
use Rattle.std.proofs.lemmas.List.{get_or-replicate, length-replicate}
use Rattle.std.proofs.lemmas.Nat.{mul-add-lt}
use Rattle.std.proofs.Math.Nat.{div-add-mod, mod-lt, mul-le-mul_left, mul_comm, div-lt_iff_lt-mul}
use Rattle.disk_model.specs.Files.{byte, u64_at, overlay}
use Rattle.disk_model.proofs.Laws.{same_file, length-overlay_inside, overlay_empty, byte-overlay_in, byte-overlay_outside}
use Rattle.image_model.specs.Clusters.{Shape, size, per, place, stored, IsShape, host, guest, word_of, ShowsAs}
use Rattle.image_model.specs.Calls.{IsData, Shows, IsPartly, LeavesGuest}
use Rattle.image_model.specs.Runs.{LeavesRest, IsStored, AreAsBefore, AreStored}
use Rattle.image_model.specs.Rows.{disk_place, IsRange, IsSpan, zeros_from, AreUntouched, AreCleared}
use Rattle.image_model.specs.Disks.{disk_of, IsMixedOf}
use Rattle.image_steps.proofs.Kept.{stored_none, both_none, guest_none, guest_some}
use Rattle.image_steps.proofs.Naming.{host_entry, same_host}
use Rattle.image_steps.proofs.Disk.{IsCovered, byte-disk_of, length-disk_of, byte_at}

-- ---- where a cluster is, by tables of p clusters

-- cluster c of the disk is one of those from (i, j) to (i, j + n)
record InRow (p i j n c : ℕ) : Type 0 where
  pub m : ℕ
  pub inside : m < n
  pub index : c / p ≡ i
  pub slot : c % p ≡ j + m
  pub is : c ≡ i * p + j + m

-- or none of them
record OutRow (p i j n c : ℕ) : Type 0 where
  pub other : c / p ≡ i → j ≤ c % p → c % p < j + n → ⊥
  pub out : (c < i * p + j) ⊎ (i * p + j + n ≤ c)

by_row : (p i j n c : ℕ) → 0 < p → j + n ≤ p → InRow p i j n c ⊎ OutRow p i j n c
by_row p i j n c some slots =
    let whole : p * (c / p) + c % p ≡ c = div-add-mod c p in
    let less : c % p < p = mod-lt c some in
    elim (cases_eq (c / p) i) [
      | inl index ↦
          let here : i * p + c % p ≡ c = ap (λ (v : ℕ). v + c % p) (mul_comm i p ∙ ap (λ (v : ℕ). p * v) (sym index)) ∙ whole in
          elim (cases_lt (c % p) j) [
            | inl below ↦ inr (record { other = λ e from to. omega (arith, below, from); out = inl (omega (arith, here, below)) })
            | inr from ↦ elim (cases_lt (c % p) (j + n)) [
              | inl to ↦ inl (record { m = c % p - j; inside = omega (arith, from, to); index = index; slot = omega (arith, from); is = omega (arith, here, from) })
              | inr past ↦ inr (record { other = λ e low high. omega (arith, past, high); out = inr (omega (arith, here, past)) })
            ]
          ]
      | inr differ ↦ inr (record {
        other = λ e low high. differ e;
        out = elim (cases_lt (c / p) i) [
          | inl less_i ↦
              let more : p * (c / p + 1) ≤ p * i = mul-le-mul_left p (omega (arith, less_i)) in
              let step : p * (c / p + 1) ≡ p * (c / p) + p = grind arith in
              inl (omega (arith, whole, less, more, step, mul_comm p i))
          | inr most ↦
              let more : p * (i + 1) ≤ p * (c / p) = mul-le-mul_left p (omega (arith, most, differ)) in
              let step : p * (i + 1) ≡ p * i + p = grind arith in
              inr (omega (arith, whole, more, step, slots, mul_comm p i))
        ];
      })
    ]

-- ---- its bytes, by clusters of z bytes

in_bytes : (z g m c t x : ℕ) → z * c + t ≡ x → c ≡ g + m → x ≡ g * z + (m * z + t)
in_bytes z g m c t x whole is =
    let times : z * (g + m) ≡ g * z + m * z = grind arith in
    omega (arith, whole, ap (λ (v : ℕ). z * v) is, times)

out_bytes : (z g n c t x : ℕ) → z * c + t ≡ x → t < z → (c < g) ⊎ (g + n ≤ c) → (x < g * z) ⊎ (g * z + n * z ≤ x)
out_bytes z g n c t x whole less out = ⊎_elim
    (λ (below : c < g).
    let more : z * (c + 1) ≤ z * g = mul-le-mul_left z (omega (arith, below)) in
    let step : z * (c + 1) ≡ z * c + z = grind arith in
    inl (omega (arith, whole, less, more, step, mul_comm z g)))
    (λ (past : g + n ≤ c).
    let more : z * (g + n) ≤ z * c = mul-le-mul_left z past in
    let times : z * (g + n) ≡ g * z + n * z = grind arith in
    inr (omega (arith, whole, more, times)))
    out

-- ---- the disk's bytes

covered : (s : Shape) (total : ℕ) → 0 < s.sectors → total ≤ s.tables * per s * size s → IsCovered s total
covered s total some covers = record {
  covers = λ x inside.
      let clusters : x / size s < s.tables * per s = (div-lt_iff_lt-mul (omega (arith, some))).1 (omega (arith, inside, covers)) in
      (div-lt_iff_lt-mul (omega (arith, some))).1 clusters;
}

-- a byte that the guest's clusters show as before
byte_same : (s : Shape) (total : ℕ) → 0 < s.sectors → IsCovered s total → (old new : List ℕ) (x : ℕ) → x < total
    → ((o : ℕ) → x / size s / per s < s.tables → x / size s % per s < per s → o < s.sectors → ShowsAs s (x / size s / per s) (x / size s % per s) o new old)
    → byte (disk_of s total new) x ≡ byte (disk_of s total old) x
byte_same s total some cover old new x inside same =
    let less : x % size s < size s = mod-lt x (omega (arith, some)) in
    byte-disk_of s total new x inside
    ∙ same (x % size s / 512) (cover.covers x inside) (mod-lt (x / size s) (omega (arith, some))) (omega (arith, less)) (x % size s) (omega arith) (omega arith)
    ∙ sym (byte-disk_of s total old x inside)

-- nothing of the guest's changed
pub disk_same : (s : Shape) (total : ℕ) (old new : List ℕ) → IsShape s → total ≤ s.tables * per s * size s → LeavesGuest s old new → disk_of s total new ≡ disk_of s total old
disk_same s total old new shape covers leaves =
    same_file (disk_of s total new) (disk_of s total old) (length-disk_of s total new ∙ sym (length-disk_of s total old))
    (λ x inside. byte_same s total shape.some (covered s total shape.some covers) old new x (omega (arith, inside, length-disk_of s total new)) (λ o a_in b_in o_in. leaves.alike.disk (x / size s / per s) (x / size s % per s) o a_in b_in o_in))

-- byte x of the disk is byte t of guest cluster (i, j + m)
record RowByte (s : Shape) (total i j n x m t : ℕ) : Type 0 where
  pub inside : m < n
  pub less : t < size s
  pub within : x < total
  pub is : x ≡ disk_place s i j + (m * size s + t)
  pub shows : (file : List ℕ) → byte (disk_of s total file) x ≡ guest s file i (j + m) t

-- a change of the clusters in a row, and a disk that is as before beside them
module _ (s : Shape) (total i j n : ℕ) (range : IsRange s total i j n) (old new goal : List ℕ) (leaves : LeavesRest s i j n old new)
    (beside : (x : ℕ) → (x < disk_place s i j) ⊎ (disk_place s i j + n * size s ≤ x) → byte goal x ≡ byte (disk_of s total old) x) where
  some_bytes : 0 < size s
  some_bytes = omega (arith, range.shape.some)

  find : (c : ℕ) → InRow (per s) i j n c ⊎ OutRow (per s) i j n c
  find c = by_row (per s) i j n c (omega (arith, range.shape.some)) range.slots

  whole_of : (x c : ℕ) → x / size s ≡ c → size s * c + x % size s ≡ x
  whole_of x c is = ap (λ (v : ℕ). size s * v + x % size s) (sym is) ∙ div-add-mod x (size s)

  row_byte : (x c : ℕ) → x < total → x / size s ≡ c → (r : InRow (per s) i j n c) → RowByte s total i j n x r.m (x % size s)
  row_byte x c inside is r = record {
    inside = r.inside;
    less = mod-lt x some_bytes;
    within = inside;
    is = in_bytes (size s) (i * per s + j) r.m c (x % size s) x (whole_of x c is) r.is;
    shows = λ file.
        byte-disk_of s total file x inside ∙ ap (λ (v : ℕ). guest s file (v / per s) (v % per s) (x % size s)) is
        ∙ ap (λ (v : ℕ). guest s file v (c % per s) (x % size s)) r.index ∙ ap (λ (v : ℕ). guest s file i v (x % size s)) r.slot;
  }

  byte_out : (x c : ℕ) → x < total → x / size s ≡ c → OutRow (per s) i j n c → byte (disk_of s total new) x ≡ byte (disk_of s total old) x
  byte_out x c inside is out =
      let here = subst (OutRow (per s) i j n) (sym is) out in
      byte_same s total range.shape.some (covered s total range.shape.some range.covers) old new x inside
      (λ o a_in b_in o_in. leaves.disk (x / size s / per s) (x / size s % per s) o a_in b_in o_in here.other)

  -- in them it is that disk
  disk_is : length goal ≡ total → ((x m t : ℕ) → RowByte s total i j n x m t → guest s new i (j + m) t ≡ byte goal x) → disk_of s total new ≡ goal
  disk_is long there =
      same_file (disk_of s total new) goal (length-disk_of s total new ∙ sym long) (λ x x_in.
      let inside : x < total = omega (arith, x_in, length-disk_of s total new) in
      ⊎_elim
      (λ (r : InRow (per s) i j n (x / size s)). let b = row_byte x (x / size s) inside refl r in b.shows new ∙ there x r.m (x % size s) b)
      (λ (out : OutRow (per s) i j n (x / size s)).
      byte_out x (x / size s) inside refl out
      ∙ sym (beside x (out_bytes (size s) (i * per s + j) n (x / size s) (x % size s) x (whole_of x (x / size s) refl) (mod-lt x some_bytes) out.out)))
      (find (x / size s)))

  -- or each sector in them is as before, or that disk's
  disk_mix : ((m o : ℕ) → m < n → o < s.sectors → ShowsAs s i (j + m) o new old ⊎ ((x t : ℕ) → 512 * o ≤ t → t < 512 * o + 512 → RowByte s total i j n x m t → guest s new i (j + m) t ≡ byte goal x))
      → IsMixedOf total (disk_of s total old ∷ goal ∷ []) (disk_of s total new)
  disk_mix sectors x x_in = ⊎_elim
      (λ (r : InRow (per s) i j n (x / s.sectors)). ⊎_elim
      (λ (same : ShowsAs s i (j + r.m) (x % s.sectors) new old). inl (λ b low high b_in.
      let at = byte_at s x b range.shape.some low high in
      let here = row_byte b (x / s.sectors) b_in at.cluster r in
      here.shows new ∙ same (b % size s) at.low at.high ∙ sym (here.shows old)))
      (λ (there : (y t : ℕ) → 512 * (x % s.sectors) ≤ t → t < 512 * (x % s.sectors) + 512 → RowByte s total i j n y r.m t → guest s new i (j + r.m) t ≡ byte goal y). inr (inl (λ b low high b_in.
      let at = byte_at s x b range.shape.some low high in
      let here = row_byte b (x / s.sectors) b_in at.cluster r in
      here.shows new ∙ there b (b % size s) at.low at.high here)))
      (sectors r.m (x % s.sectors) r.inside (mod-lt x range.shape.some)))
      (λ (out : OutRow (per s) i j n (x / s.sectors)). inl (λ b low high b_in. byte_out b (x / s.sectors) b_in (byte_at s x b range.shape.some low high).cluster out))
      (find (x / s.sectors))

-- ---- data

place_after : (s : Shape) (k m : ℕ) → place s (k + m) ≡ place s k + m * size s
unfolding place
place_after s k m = grind arith

shift : (d p q w t at spot x : ℕ) → spot ≡ d + (at - p) → p ≤ at → q ≡ p + w → x ≡ d + (w + t) → x + at ≡ spot + (q + t)
shift d p q w t at spot x is low place_is x_is = omega (arith, is, low, place_is, x_is)

past_span : (d p q w at long spot x : ℕ) → spot ≡ d + (at - p) → p ≤ at → q ≡ p + w → at + long ≤ q → (x < d) ⊎ (d + w ≤ x) → (x < spot) ⊎ (spot + long ≤ x)
past_span d p q w at long spot x is low place_is high out =
    ⊎_elim (λ (below : x < d). inl (omega (arith, is, below))) (λ (past : d + w ≤ x). inr (omega (arith, is, low, place_is, high, past))) out

module _ (s : Shape) (total k n i j at spot : ℕ) (bytes old new : List ℕ) (span : IsSpan s total k n i j at (length bytes) spot) (leaves : LeavesRest s i j n old new) where
  abbrev wanted : List ℕ
  wanted = overlay (disk_of s total old) spot bytes

  beside_span : (x : ℕ) → (x < disk_place s i j) ⊎ (disk_place s i j + n * size s ≤ x) → byte wanted x ≡ byte (disk_of s total old) x
  beside_span x out =
      byte-overlay_outside (disk_of s total old) spot bytes x
      (past_span (disk_place s i j) (place s k) (place s (k + n)) (n * size s) at (length bytes) spot x span.is span.low (place_after s k n) span.high out)

  long_span : length wanted ≡ total
  long_span = length-overlay_inside (disk_of s total old) spot bytes (omega (arith, length-disk_of s total old, span.inside)) ∙ length-disk_of s total old

  -- a byte that is written where its place is among those written, and else as before
  span_byte : (x m t v : ℕ) → RowByte s total i j n x m t → (at ≤ place s (k + m) + t → place s (k + m) + t < at + length bytes → v ≡ byte bytes (place s (k + m) + t - at))
      → ((place s (k + m) + t < at) ⊎ (at + length bytes ≤ place s (k + m) + t) → v ≡ guest s old i (j + m) t) → v ≡ byte wanted x
  span_byte x m t v b written else_as =
      let move : x + at ≡ spot + (place s (k + m) + t) = shift (disk_place s i j) (place s k) (place s (k + m)) (m * size s) t at spot x span.is span.low (place_after s k m) b.is in
      let old_disk = disk_of s total old in
      elim (cases_lt (place s (k + m) + t) at) [
        | inl below ↦ else_as (inl below) ∙ sym (b.shows old) ∙ sym (byte-overlay_outside old_disk spot bytes x (inl (omega (arith, move, below))))
        | inr from ↦ elim (cases_lt (place s (k + m) + t) (at + length bytes)) [
          | inl to ↦
              let same : place s (k + m) + t - at ≡ x - spot = omega (arith, move, from) in
              written (omega (arith, from)) to ∙ ap (byte bytes) same ∙ sym (byte-overlay_in old_disk spot bytes x (omega (arith, move, from)) (omega (arith, move, to)))
          | inr past ↦ else_as (inr (omega (arith, past))) ∙ sym (b.shows old) ∙ sym (byte-overlay_outside old_disk spot bytes x (inr (omega (arith, move, past))))
        ]
      ]

  pub disk_overwritten : ((m : ℕ) → m < n → Shows s i (j + m) (k + m) at bytes (guest s old i (j + m)) new) → disk_of s total new ≡ overlay (disk_of s total old) spot bytes
  disk_overwritten shows =
      disk_is s total i j n span.range old new wanted leaves beside_span long_span
      (λ x m t b. span_byte x m t (guest s new i (j + m) t) b ((shows m b.inside).inside t b.less) ((shows m b.inside).outside t b.less))

  -- where there was a hole before
  stored_byte : (x m t word : ℕ) → host s old i (j + m) ≡ 0 → IsStored s i (j + m) (k + m) word at bytes new → RowByte s total i j n x m t → guest s new i (j + m) t ≡ byte wanted x
  stored_byte x m t word hole is b = span_byte x m t (guest s new i (j + m) t) b (is.shows.inside t b.less) (λ out. is.shows.outside t b.less out ∙ sym (guest_none s old i (j + m) t hole))

  pub disk_stored : (words : List ℕ) → ((m : ℕ) → m < n → host s old i (j + m) ≡ 0) → ((m : ℕ) → m < n → IsStored s i (j + m) (k + m) (u64_at words (8 * m)) at bytes new) → disk_of s total new ≡ overlay (disk_of s total old) spot bytes
  disk_stored words holes is =
      disk_is s total i j n span.range old new wanted leaves beside_span long_span (λ x m t b. stored_byte x m t (u64_at words (8 * m)) (holes m b.inside) (is m b.inside) b)

  pub disk_partly : ((m : ℕ) → m < n → IsData s i (j + m) (k + m) old) → ((m : ℕ) → m < n → IsPartly s i (j + m) (k + m) at bytes old new)
      → IsMixedOf total (disk_of s total old ∷ overlay (disk_of s total old) spot bytes ∷ []) (disk_of s total new)
  disk_partly there partly = disk_mix s total i j n span.range old new wanted leaves beside_span (λ m o m_in o_in. elim (partly m m_in o o_in) [
    | inl same ↦ inl same
    | inr done ↦ inr (λ x t low high b. span_byte x m t (guest s new i (j + m) t) b
        (λ from to. done t low high ∙ byte-overlay_in old at bytes (place s (k + m) + t) from to)
        (λ out. done t low high ∙ byte-overlay_outside old at bytes (place s (k + m) + t) out ∙ sym (guest_some s old i (j + m) t (k + m) span.range.shape.some (omega (arith, span.some)) (there m m_in).at)))
  ])

  pub disk_partly_stored : (q : ℕ) (words : List ℕ) → ((m : ℕ) → m < n → host s old i (j + m) ≡ 0) → ((x : ℕ) → AreAsBefore s q i j n x old new ⊎ AreStored s k q i j n x words at bytes new)
      → IsMixedOf total (disk_of s total old ∷ overlay (disk_of s total old) spot bytes ∷ []) (disk_of s total new)
  disk_partly_stored q words holes either = disk_mix s total i j n span.range old new wanted leaves beside_span (λ m o m_in o_in. elim (either ((place s q + 8 * (j + m)) / 512)) [
    | inl same ↦ inl (both_none s i (j + m) o new old (same_host s old new i (j + m) (same m m_in refl) ∙ holes m m_in) (holes m m_in))
    | inr is ↦ inr (λ x t low high b. stored_byte x m t (u64_at words (8 * m)) (holes m m_in) (is m m_in refl) b)
  ])

-- ---- holes

module _ (s : Shape) (total i j n : ℕ) (old new : List ℕ) (range : IsRange s total i j n) (leaves : LeavesRest s i j n old new) where
  abbrev zeros : List ℕ
  zeros = zeros_from s total i j n

  abbrev emptied : List ℕ
  emptied = overlay (disk_of s total old) (disk_place s i j) zeros

  many : length zeros ≡ min (n * size s) (total - disk_place s i j)
  many = length-replicate (min (n * size s) (total - disk_place s i j)) 0

  beside_zeros : (x : ℕ) → (x < disk_place s i j) ⊎ (disk_place s i j + n * size s ≤ x) → byte emptied x ≡ byte (disk_of s total old) x
  beside_zeros x out = byte-overlay_outside (disk_of s total old) (disk_place s i j) zeros x (⊎_elim
      (λ (below : x < disk_place s i j). inl below)
      (λ (past : disk_place s i j + n * size s ≤ x). inr (omega (arith, past, many)))
      out)

  long_zeros : length emptied ≡ total
  long_zeros = elim (cases_lt (disk_place s i j) total) [
    | inl inside ↦ length-overlay_inside (disk_of s total old) (disk_place s i j) zeros (omega (arith, length-disk_of s total old, many, inside)) ∙ length-disk_of s total old
    | inr past ↦ ap length (overlay_empty (disk_of s total old) (disk_place s i j) zeros (omega (arith, many, past))) ∙ length-disk_of s total old
  ]

  hole_byte : (x m t : ℕ) → word_of s new i (j + m) ≡ 0 → RowByte s total i j n x m t → guest s new i (j + m) t ≡ byte emptied x
  hole_byte x m t none b =
      let hole : host s new i (j + m) ≡ 0 = host_entry s new i (j + m) ∙ ap stored none ∙ stored_none in
      let fits : m * size s + t < n * size s = omega (arith, mul-add-lt m (size s) t n b.inside b.less, mul_comm (size s) n) in
      let to : x < disk_place s i j + length zeros = omega (arith, many, b.is, b.within, fits) in
      guest_none s new i (j + m) t hole
      ∙ sym (get_or-replicate (min (n * size s) (total - disk_place s i j)) (x - disk_place s i j) 0 0 (omega (arith, many, to, b.is, fits)))
      ∙ sym (byte-overlay_in (disk_of s total old) (disk_place s i j) zeros x (omega (arith, b.is)) to)

  pub disk_cleared : ((m : ℕ) → m < n → word_of s new i (j + m) ≡ 0) → disk_of s total new ≡ overlay (disk_of s total old) (disk_place s i j) (zeros_from s total i j n)
  disk_cleared none = disk_is s total i j n range old new emptied leaves beside_zeros long_zeros (λ x m t b. hole_byte x m t (none m b.inside) b)

  pub disk_partly_cleared : (q : ℕ) → ((x : ℕ) → AreUntouched s q i j n x old new ⊎ AreCleared s q i j n x new)
      → IsMixedOf total (disk_of s total old ∷ overlay (disk_of s total old) (disk_place s i j) (zeros_from s total i j n) ∷ []) (disk_of s total new)
  disk_partly_cleared q whether = disk_mix s total i j n range old new emptied leaves beside_zeros (λ m o m_in o_in. elim (whether ((place s q + 8 * (j + m)) / 512)) [
    | inl same ↦ inl ((same m m_in refl).1 o o_in)
    | inr none ↦ inr (λ x t low high b. hole_byte x m t (none m m_in refl) b)
  ])
