-- Clusters next to one another: data into them, and the entries that name them.
use Rattle.std.proofs.Common.{◌≡◌, ◌≢◌, ◌⊎◌, inl, inr, ⊎_elim, ℕ, ◌+◌, ◌-◌, ◌*◌, ◌%◌, ◌<◌, ◌≤◌, List, ◌∷◌, length, refl, sym, ◌∙◌, ap, subst, arith}
use Rattle.std.proofs.lemmas.Bool.{cases_lt}
use Rattle.std.specs.Int.{w64}
use Rattle.disk_model.specs.Files.{byte, u64_at, overlay, AgreesAt, IsTorn, SomeVersion}
use Rattle.disk_model.proofs.Laws.{IsMixed, mixed_number, number_either, number_same, number-overlay_part}
use Rattle.image_model.specs.Clusters.{Shape, size, per, place, offset, stored, Who, Block, Table, Guest, IsTable, Refers, Use, Free, Fresh, Spare, Ready, Of, IsTaken, IsBlank, IsFixed, SameIn, IsUsed, IsShape, Lies, Forms, IsGuestWord, host, ShowsAs, IsGood}
use Rattle.image_steps.proofs.Places.{Spares, Elsewhere, torn_spares, spares_more, word_spared, spared_cluster, place_same, place_more, place_next, sector_at}
use Rattle.image_steps.proofs.Steps.{taken_of, data_keeps, quiet_forms, zeros_on}
use Rattle.image_steps.proofs.Good.{Change, recast, more_good, is_shown, IsLinkWord, link_word}
use Rattle.image_steps.proofs.Kept as kept
use Rattle.image_steps.proofs.Kept.{host_some, both_none, shown, guest_some, guest_none}
use Rattle.image_model.specs.Runs.{AreLinks, IsInSector, AreFilled}
use Rattle.image_steps.proofs.Rows.{IsSet}
use Rattle.image_steps.proofs.Rows as rows

-- ---- roles of a range

-- one of n clusters from k on, or not
pub data Where (k n : ℕ) (x : ℕ) : Type 0 where
  In : (m : ℕ) (low : m < n) (is : x ≡ k + m) → Where k n x
  Out : (out : (x < k) ⊎ (k + n ≤ x)) → Where k n x

pub where_is : (k n x : ℕ) → Where k n x
where_is k n x = elim (cases_lt x k) [
  | inl below ↦ Out (inl below)
  | inr from ↦ elim (cases_lt x (k + n)) [
    | inl to ↦ In (x - k) (omega (arith, from, to)) (omega (arith, from))
    | inr past ↦ Out (inr (omega (arith, past)))
  ]
]

by_where : (role u : ℕ → Use) (k n x : ℕ) → Where k n x → Use
by_where role u k n x (In m low is) = u m
by_where role u k n x (Out out) = role x

pub ranged : (role : ℕ → Use) (k n : ℕ) (u : ℕ → Use) (x : ℕ) → Use
ranged role k n u x = by_where role u k n x (where_is k n x)

by_in : (role u : ℕ → Use) (k n m x : ℕ) (w : Where k n x) → m < n → x ≡ k + m → by_where role u k n x w ≡ u m
unfolding by_where
by_in role u k n m x (In l low is) m_in here = ap u (omega (arith, is, here))
by_in role u k n m x (Out out) m_in here = absurd (⊎_elim (λ below. omega (arith, below, here)) (λ past. omega (arith, past, here, m_in)) out)

by_out : (role u : ℕ → Use) (k n x : ℕ) (w : Where k n x) → (x < k) ⊎ (k + n ≤ x) → by_where role u k n x w ≡ role x
unfolding by_where
by_out role u k n x (In l low is) out = absurd (⊎_elim (λ below. omega (arith, below, is)) (λ past. omega (arith, past, is, low)) out)
by_out role u k n x (Out out) other = refl

pub ranged_in : (role : ℕ → Use) (k n : ℕ) (u : ℕ → Use) (m : ℕ) → m < n → ranged role k n u (k + m) ≡ u m
unfolding ranged
ranged_in role k n u m low = by_in role u k n m (k + m) (where_is k n (k + m)) low refl

pub ranged_out : (role : ℕ → Use) (k n : ℕ) (u : ℕ → Use) (x : ℕ) → (x < k) ⊎ (k + n ≤ x) → ranged role k n u x ≡ role x
unfolding ranged
ranged_out role k n u x out = by_out role u k n x (where_is k n x) out

-- counted, and no one refers to it
abbrev pub IsIdle : Use → Type 0
IsIdle Free = ⊥
IsIdle Fresh = ⊥
IsIdle Spare = Unit {0}
IsIdle Ready = Unit {0}
IsIdle (Of who) = ⊥

idle_taken : (u : Use) → IsIdle u → IsTaken u
idle_taken Free idle = absurd idle
idle_taken Fresh idle = absurd idle
idle_taken Spare idle = tt
idle_taken Ready idle = tt
idle_taken (Of who) idle = absurd idle

-- spare, or a guest's
abbrev IsMild : Use → Type 0
IsMild u = (u ≡ Spare) ⊎ ((i : ℕ) × (j : ℕ) × (u ≡ Of (Guest i j)))

mild_change : (s : Shape) (role_on : ℕ → Use) (file : List ℕ) (x : ℕ) → IsMild (role_on x) → ((who : Who) → Refers s file who x → ⊥) → IsUsed s file x → Change s role_on file x
mild_change s role_on file x (inl is) none used = record {
  refs = λ who refers. absurd (none who refers);
  used = λ taken blocks. used;
  ones = λ e. absurd (let a = is in cc);
  zeros = λ blank. absurd (subst IsBlank is blank);
  blocks = λ i e. absurd (let a = is in cc);
  fixed = λ fixed. absurd (subst IsFixed is fixed);
}
mild_change s role_on file x (inr is) none used =
    let at = is.2 in
    record {
      refs = λ who refers. absurd (none who refers);
      used = λ taken blocks. used;
      ones = λ e. absurd (let a = at in cc);
      zeros = λ blank. absurd (subst IsBlank at blank);
      blocks = λ i e. absurd (let a = at in cc);
      fixed = λ fixed. absurd (subst IsFixed at fixed);
    }

-- a range of clusters that no one refers to becomes spare, or guests'
pub change_range : (s : Shape) (role role_on : ℕ → Use) (file : List ℕ) (k n : ℕ) → Lies s role file → ((m : ℕ) → m < n → IsIdle (role (k + m))) → ((m : ℕ) → m < n → IsMild (role_on (k + m)))
    → ((x : ℕ) → (x < k) ⊎ (k + n ≤ x) → role_on x ≡ role x) → Lies s role_on file
change_range s role role_on file k n lies idle mild others = recast s role role_on file lies (λ x. by_place x (where_is k n x))
  where
    not_of : (u : Use) (who : Who) → IsIdle u → u ≡ Of who → ⊥
    not_of u who idle e = subst IsIdle e idle

    by_place : (x : ℕ) → Where k n x → (role_on x ≡ role x) ⊎ Change s role_on file x
    by_place x (Out out) = inl (others x out)
    by_place x (In m low is) = inr (subst (Change s role_on file) (sym is) (mild_change s role_on file (k + m) (mild m low)
        (λ who refers. not_of (role (k + m)) who (idle m low) (lies.refs who (k + m) refers))
        (lies.used (k + m) (idle_taken (role (k + m)) (idle m low)) (λ i e. absurd (not_of (role (k + m)) (Block i) (idle m low) e)))))

-- ---- data

-- a write in a range of clusters leaves the others
pub range_elsewhere : (s : Shape) (role : ℕ → Use) (u : Use) (k n at long : ℕ) (old new : List ℕ) → place s k ≤ at → at + long ≤ place s (k + n) → ((m : ℕ) → m < n → role (k + m) ≡ u) → Spares at long old new → Elsewhere s role u old new
range_elsewhere s role u k n at long old new low high is spares = record {
  longer = spares.longer;
  same = λ x differ i i_low i_high. by_place x differ i i_low i_high (where_is k n x);
}
  where
    by_place : (x : ℕ) → role x ≢ u → (i : ℕ) → place s x ≤ i → i < place s x + size s → Where k n x → byte new i ≡ byte old i
    by_place x differ i i_low i_high (In m m_in here) = absurd (differ (ap role here ∙ is m m_in))
    by_place x differ i i_low i_high (Out out) = ⊎_elim
        (λ (below : x < k). spares.bytes i (inl (omega (arith, place_next s x, place_more s (x + 1) k (omega (arith, below)), i_high, low))))
        (λ (past : k + n ≤ x). spares.bytes i (inr (omega (arith, place_more s (k + n) x past, i_low, high))))
        out

-- n ready clusters become spare
pub record IsSparing (role role_on : ℕ → Use) (k n : ℕ) : Type 0 where
  pub ready : (m : ℕ) → m < n → role (k + m) ≡ Ready
  pub spare : (m : ℕ) → m < n → role_on (k + m) ≡ Spare
  pub others : (x : ℕ) → (x < k) ⊎ (k + n ≤ x) → role_on x ≡ role x

module _ (s : Shape) (shape : IsShape s) (k n at : ℕ) (bytes : List ℕ) (low : place s k ≤ at) (high : at + length bytes ≤ place s (k + n)) (role role_on : ℕ → Use) (sparing : IsSparing role role_on k n) where
  pub fill_elsewhere : (old new : List ℕ) → IsTorn at bytes old new → Elsewhere s role Ready old new
  fill_elsewhere old new torn = range_elsewhere s role Ready k n at (length bytes) old new low high sparing.ready (torn_spares at bytes old new torn)

  fill_lies : (old new : List ℕ) → Lies s role old → IsTorn at bytes old new → Lies s role_on new
  fill_lies old new lies torn =
      let first : Lies s role_on old = change_range s role role_on old k n lies (λ m m_in. subst IsIdle (sym (sparing.ready m m_in)) tt) (λ m m_in. inl (sparing.spare m m_in)) sparing.others in
      let there : Elsewhere s role_on Spare old new = range_elsewhere s role_on Spare k n at (length bytes) old new low high sparing.spare (torn_spares at bytes old new torn) in
      data_keeps s shape.some role_on old new first Spare there tt (λ i e. cc) (zeros_on s shape.some role_on old new first Spare there (λ x. x))

  pub fill_good : (disks : List (List ℕ)) (now old new : List ℕ) → IsGood s role disks old → IsTorn at bytes old new → IsMixed old now new → IsGood s role_on disks new × AreFilled s k n now new
  fill_good disks now old new good torn mixed =
      let elsewhere = fill_elsewhere old new torn in (
        record {
          lies = fill_lies old new good.lies torn;
          forms = quiet_forms s shape.some role old new good.lies Ready elsewhere tt good.forms;
          kept = kept.outer_kept s shape.some role old new good.lies good.forms Ready elsewhere (λ e. cc) (λ i e. cc) (λ i j e. cc) disks good.kept;
        },
        λ m m_in o o_in.
            let ready = sparing.ready m m_in in
            let long = (good.lies.used (k + m) (subst IsTaken (sym ready) tt) (λ b e. absurd (ready_not (role (k + m)) (Block b) ready e))).inside in
            ⊎_elim
            (λ (as_old : AgreesAt (s.sectors * (k + m) + o) new old). inl (λ t from to.
            as_old (place s (k + m) + t) (omega (arith, sector_at s (k + m) o)) (omega (arith, sector_at s (k + m) o)) (omega (arith, long, elsewhere.longer))
            ∙ good.lies.zeros (k + m) (subst IsBlank (sym ready) tt) (place s (k + m) + t) (omega arith) (omega arith)))
            (λ (as_now : AgreesAt (s.sectors * (k + m) + o) new now). inr as_now)
            (mixed (s.sectors * (k + m) + o)),
      )
    where
      ready_not : (u : Use) (who : Who) → u ≡ Ready → u ≡ Of who → ⊥
      ready_not u who a e = cc

-- ---- entries

-- word m of those written
pub record WordAt (n j0 j w : ℕ) (words : List ℕ) : Type 0 where
  pub m : ℕ
  pub low : m < n
  pub is : j ≡ j0 + m
  pub word : w ≡ u64_at words (8 * m)

module _ (s : Shape) (role : ℕ → Use) (q i0 j0 n : ℕ) (is_table : role q ≡ Of (Table i0)) (slots_in : j0 + n ≤ per s) (words : List ℕ) (long : length words ≡ 8 * n) where
  abbrev spot : ℕ
  spot = place s q + 8 * j0

  pub row_spares : (old new : List ℕ) → IsTorn spot words old new → Spares (place s q) (size s) old new
  row_spares old new torn = spares_more spot (length words) (place s q) (size s) old new (omega arith) (omega (arith, long, slots_in)) (torn_spares spot words old new torn)

  pub table_inside : (old : List ℕ) → Lies s role old → place s q + size s ≤ length old
  table_inside old lies = (lies.used q (taken_of role q (Table i0) is_table) (λ b e. absurd (not_block (role q) b is_table e))).inside
    where
      not_block : (u : Use) (b : ℕ) → u ≡ Of (Table i0) → u ≡ Of (Block b) → ⊥
      not_block u b x y = cc

  pub part_is : (old : List ℕ) (m j : ℕ) → m < n → j ≡ j0 + m → u64_at (overlay old spot words) (place s q + 8 * j) ≡ u64_at words (8 * m)
  part_is old m j m_in is =
      let at : place s q + 8 * j ≡ spot + 8 * m = omega (arith, is) in
      ap (λ (p : ℕ). u64_at (overlay old spot words) p) at ∙ number-overlay_part w64 old spot words (8 * m) (omega (arith, long, m_in))

  pub whole : (j : ℕ) → (place s q + 8 * j) % 8 ≡ 0
  whole j = omega (arith, sector_at s q 0)

  pub word_out : (old new : List ℕ) → IsTorn spot words old new → (j : ℕ) → (j < j0) ⊎ (j0 + n ≤ j) → u64_at new (place s q + 8 * j) ≡ u64_at old (place s q + 8 * j)
  word_out old new torn j out = word_spared spot (length words) old new (place s q + 8 * j) (torn_spares spot words old new torn)
      (⊎_elim (λ (below : j < j0). inl (omega (arith, below))) (λ (past : j0 + n ≤ j). inr (omega (arith, past, long))) out)

  -- an entry is the same, or one of those written
  pub word_at : (old new : List ℕ) → Lies s role old → IsTorn spot words old new → (j : ℕ) → j < per s
      → (u64_at new (place s q + 8 * j) ≡ u64_at old (place s q + 8 * j)) ⊎ WordAt n j0 j (u64_at new (place s q + 8 * j)) words
  word_at old new lies torn j j_in = elim (where_is j0 n j) [
    | Out out ↦ inl (word_out old new torn j out)
    | In m m_in is ↦ ⊎_elim
        (λ (same : u64_at new (place s q + 8 * j) ≡ u64_at old (place s q + 8 * j)). inl same)
        (λ (done : u64_at new (place s q + 8 * j) ≡ u64_at (overlay old spot words) (place s q + 8 * j)). inr (record { m = m; low = m_in; is = is; word = done ∙ part_is old m j m_in is }))
        (number_either w64 spot words old new (place s q + 8 * j) torn (whole j) (omega (arith, table_inside old lies, torn.no_shorter, j_in)))
  ]

  -- the entries of a sector are as before, or as written
  pub sector_either : (old new : List ℕ) → Lies s role old → IsTorn spot words old new → (x : ℕ)
      → ((m : ℕ) → m < n → IsInSector s q (j0 + m) x → u64_at new (place s q + 8 * (j0 + m)) ≡ u64_at old (place s q + 8 * (j0 + m)))
      ⊎ ((m : ℕ) → m < n → IsInSector s q (j0 + m) x → u64_at new (place s q + 8 * (j0 + m)) ≡ u64_at words (8 * m))
  sector_either old new lies torn x = ⊎_elim
      (λ (as_old : AgreesAt x new old). inl (λ m m_in here. number_same w64 new old (place s q + 8 * (j0 + m)) (λ i low high. as_old i (from m i here low) (to m i here high) (inside m i m_in high))))
      (λ (done : AgreesAt x new (overlay old spot words)). inr (λ m m_in here.
      number_same w64 new (overlay old spot words) (place s q + 8 * (j0 + m)) (λ i low high. done i (from m i here low) (to m i here high) (inside m i m_in high)) ∙ part_is old m (j0 + m) m_in refl))
      (torn.sectors x)
    where
      from : (m i : ℕ) → IsInSector s q (j0 + m) x → place s q + 8 * (j0 + m) ≤ i → 512 * x ≤ i
      from m i here low = omega (arith, here, low)

      to : (m i : ℕ) → IsInSector s q (j0 + m) x → i < place s q + 8 * (j0 + m) + 8 → i < 512 * x + 512
      to m i here high = omega (arith, here, high, sector_at s q 0)

      inside : (m i : ℕ) → m < n → i < place s q + 8 * (j0 + m) + 8 → i < length new
      inside m i m_in high = omega (arith, table_inside old lies, torn.no_shorter, m_in, slots_in, high)

module _ (s : Shape) (shape : IsShape s) (role : ℕ → Use) (k n q i0 j0 : ℕ) (some : 0 < k) (is_table : role q ≡ Of (Table i0)) (slots_in : j0 + n ≤ per s) (words : List ℕ) (links : AreLinks s k n words) (owners : (m : ℕ) → m < n → role (k + m) ≡ Of (Guest i0 (j0 + m))) where
  abbrev from_slot : ℕ
  from_slot = place s q + 8 * j0

  used_at : (old : List ℕ) → Lies s role old → (m : ℕ) → m < n → IsUsed s old (k + m)
  used_at old lies m m_in = lies.used (k + m) (taken_of role (k + m) (Guest i0 (j0 + m)) (owners m m_in)) (λ b e. absurd (not_block (role (k + m)) b (j0 + m) (owners m m_in) e))
    where
      not_block : (u : Use) (b y : ℕ) → u ≡ Of (Guest i0 y) → u ≡ Of (Block b) → ⊥
      not_block u b y x z = cc

  pub said : (old : List ℕ) → Lies s role old → (m : ℕ) → m < n → IsLinkWord s (u64_at words (8 * m)) (k + m)
  said old lies m m_in = link_word s (k + m) (u64_at words (8 * m)) shape (omega (arith, some)) (used_at old lies m m_in).below (links.link m m_in)

  pub sets : (old new : List ℕ) → Lies s role old → IsTorn from_slot words old new → (j : ℕ) → j < per s → (u64_at new (place s q + 8 * j) ≡ u64_at old (place s q + 8 * j)) ⊎ IsSet s role i0 j (u64_at new (place s q + 8 * j))
  sets old new lies torn j j_in = ⊎_elim
      (λ (same : u64_at new (place s q + 8 * j) ≡ u64_at old (place s q + 8 * j)). inl same)
      (λ (w : WordAt n j0 j (u64_at new (place s q + 8 * j)) words).
      let says = said old lies w.m w.low in
      inr (record {
        owner = λ x x_some at. ap role (place_same s x (k + w.m) shape.some (sym at ∙ ap offset w.word ∙ says.offset)) ∙ owners w.m w.low ∙ ap (λ (y : ℕ). Of (Guest i0 y)) (sym w.is);
        form = subst (IsGuestWord s) (sym w.word) says.of_guest;
      }))
      (word_at s role q i0 j0 n is_table slots_in words links.long old new lies torn j j_in)

  pub not_table : (m : ℕ) → m < n → k + m ≢ q
  not_table m m_in same = differ (role (k + m)) (j0 + m) (owners m m_in) (ap role same ∙ is_table)
    where
      differ : (u : Use) (y : ℕ) → u ≡ Of (Guest i0 y) → u ≡ Of (Table i0) → ⊥
      differ u y x z = cc

  -- where the word names it
  pub named_host : (old new : List ℕ) → Lies s role old → Forms s old → IsTorn from_slot words old new → IsTable s old i0 q → (m j : ℕ) → m < n → u64_at new (place s q + 8 * j) ≡ u64_at words (8 * m) → host s new i0 j ≡ place s (k + m)
  named_host old new lies forms torn table m j m_in word =
      rows.rows_new s shape.some role old new lies forms q i0 is_table (row_spares s role q i0 j0 n is_table slots_in words links.long old new torn) (sets old new lies torn) table j ∙ ap stored word ∙ (said old lies m m_in).stored

  pub linked_run : (disks : List (List ℕ)) → i0 < s.tables → (before now old new : List ℕ) → IsGood s role disks before → IsTable s before i0 q → ((m : ℕ) → m < n → host s before i0 (j0 + m) ≡ 0) → IsTorn from_slot words before now
      → IsGood s role disks old → AreFilled s k n before old → IsTorn from_slot words old new → IsMixed old now new → IsGood s role (now ∷ disks) new
  linked_run disks i_in before now old new is table none torn_now good filled torn mixed = record {
    lies = rows.rows_keep s shape.some role old new good.lies good.forms q i0 is_table (row_spares s role q i0 j0 n is_table slots_in words links.long old new torn) (sets old new good.lies torn);
    forms = rows.rows_forms s shape.some role old new good.lies good.forms q i0 is_table (row_spares s role q i0 j0 n is_table slots_in words links.long old new torn) (sets old new good.lies torn);
    kept = rows.rows_kept s shape.some role old new good.lies good.forms q i0 is_table (row_spares s role q i0 j0 n is_table slots_in words links.long old new torn) (sets old new good.lies torn) (now ∷ disks) touched (more_good s role disks now old good).kept;
  }
    where
      by_word : IsTable s old i0 q → (j o : ℕ) → j < per s → o < s.sectors → (w : WordAt n j0 j (u64_at new (place s q + 8 * j)) words) → u64_at new (place s q + 8 * j) ≡ u64_at now (place s q + 8 * j) → SomeVersion (ShowsAs s i0 j o new) (now ∷ disks)
      by_word linked j o j_in o_in w as_now =
          let more : 0 < k + w.m = omega (arith, some) in
          let at_new : host s new i0 j ≡ place s (k + w.m) = named_host old new good.lies good.forms torn linked w.m j w.low w.word in
          let at_now : host s now i0 j ≡ place s (k + w.m) = named_host before now is.lies is.forms torn_now table w.m j w.low (sym as_now ∙ w.word) in
          let hole : host s before i0 j ≡ 0 = ap (host s before i0) w.is ∙ none w.m w.low in
          let same : SameIn s (k + w.m) old new = spared_cluster s q old new (row_spares s role q i0 j0 n is_table slots_in words links.long old new torn) (k + w.m) (not_table w.m w.low) in
          let same_now : SameIn s (k + w.m) before now = spared_cluster s q before now (row_spares s role q i0 j0 n is_table slots_in words links.long before now torn_now) (k + w.m) (not_table w.m w.low) in
          let long : place s (k + w.m) + size s ≤ length old = (used_at old good.lies w.m w.low).inside in
          ⊎_elim
          (λ (zeros : (t : ℕ) → 512 * o ≤ t → t < 512 * o + 512 → byte old (place s (k + w.m) + t) ≡ 0). shown s i0 j o new before (now ∷ disks)
          (λ t low high. guest_some s new i0 j t (k + w.m) shape.some more at_new ∙ same (place s (k + w.m) + t) (omega arith) (omega (arith, o_in, high)) ∙ zeros t low high ∙ sym (guest_none s before i0 j t hole))
          ((more_good s role disks now before is).kept i0 j o i_in j_in o_in))
          (λ (agrees : AgreesAt (s.sectors * (k + w.m) + o) old before). shown s i0 j o new now (now ∷ disks)
          (λ t low high. guest_some s new i0 j t (k + w.m) shape.some more at_new ∙ same (place s (k + w.m) + t) (omega arith) (omega (arith, o_in, high))
          ∙ agrees (place s (k + w.m) + t) (omega (arith, sector_at s (k + w.m) o, low)) (omega (arith, sector_at s (k + w.m) o, high)) (omega (arith, o_in, high, long))
          ∙ sym (same_now (place s (k + w.m) + t) (omega arith) (omega (arith, o_in, high)))
          ∙ sym (guest_some s now i0 j t (k + w.m) shape.some more at_now))
          (is_shown s disks now i0 j o i_in j_in o_in))
          (filled w.m w.low o o_in)

      touched : IsTable s old i0 q → (j o : ℕ) → j < per s → o < s.sectors → (u64_at new (place s q + 8 * j) ≡ u64_at old (place s q + 8 * j)) ⊎ SomeVersion (ShowsAs s i0 j o new) (now ∷ disks)
      touched linked j o j_in o_in = ⊎_elim
          (λ (same : u64_at new (place s q + 8 * j) ≡ u64_at old (place s q + 8 * j)). inl same)
          (λ (w : WordAt n j0 j (u64_at new (place s q + 8 * j)) words). ⊎_elim
          (λ (as_old : u64_at new (place s q + 8 * j) ≡ u64_at old (place s q + 8 * j)). inl as_old)
          (λ (as_now : u64_at new (place s q + 8 * j) ≡ u64_at now (place s q + 8 * j)). inr (by_word linked j o j_in o_in w as_now))
          (mixed_number w64 old now new (place s q + 8 * j) mixed (whole s role q i0 j0 n is_table slots_in words links.long j) (omega (arith, table_inside s role q i0 j0 n is_table slots_in words links.long old good.lies, torn.no_shorter, j_in))))
          (word_at s role q i0 j0 n is_table slots_in words links.long old new good.lies torn j j_in)
