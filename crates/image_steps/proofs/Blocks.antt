-- Counts: of fresh clusters that become ready, of a block of its own, and settled ones.
use Rattle.std.proofs.Common.{◌≡◌, ◌≢◌, ◌⊎◌, inl, inr, ⊎_elim, ℕ, ◌+◌, ◌-◌, ◌*◌, ◌<◌, ◌≤◌, IsTrue, Bool, true, false, List, [], ◌∷◌, length, refl, sym, ◌∙◌, ap, subst, arith}
use Rattle.std.specs.Prelude.{if◌then◌else◌}
use Rattle.std.proofs.lemmas.Bool.{cases_eq, cases_lt, eq-eqb, ne_eqb}
use Rattle.std.proofs.lemmas.Grind.{common_steps}
use Rattle.std.specs.Int.{from_be_bytes, w16, w64}
use Rattle.disk_model.specs.Files.{byte, reading, number_at, u16_at, u64_at, overlay, IsTorn}
use Rattle.disk_model.proofs.Laws.{whole_torn, u16_bytes, number-overlay_part, number_either, number-overlay_same, byte-overlay_in, byte-overlay_outside, length-overlay}
use Rattle.image_model.specs.Clusters.{Shape, size, each, place, Who, Counts, Block, IsBlock, IsCounted, Use, Free, Fresh, Spare, Ready, Of, IsTaken, IsBlank, IsFixed, IsZero, IsShape, Lies, IsOwnCount, IsGood}
use Rattle.image_model.specs.Calls.{IsTopUp, AreOnes, IsNewBlock, IsSettling, AreNamed, Keeps, SameGuest, LeavesCounts, CountsNoOther}
use Rattle.image_steps.proofs.Places.{Spares, Elsewhere, torn_spares, spares_more, within, half_spared, place_apart, place_next, place_more, sector_at}
use Rattle.image_steps.proofs.Steps.{taken_of, quiet_keeps, quiet_forms, data_keeps, counted_on, same_count, quiet_counts, block_elsewhere, block_keeps, block_forms, block_on}
use Rattle.image_steps.proofs.Good.{Change, recast, torn_byte}
use Rattle.image_steps.proofs.Kept.{outer_kept}
use Rattle.image_steps.proofs.Naming.{quiet_alike}
use Rattle.image_steps.proofs.Frame as frame

-- ---- a write within a block, by what becomes of its counts

module _ (s : Shape) (some : 0 < s.sectors) (role : ℕ → Use) (old new : List ℕ) (lies : Lies s role old) (q i0 : ℕ) (is_block : role q ≡ Of (Block i0)) (spares : Spares (place s q) (size s) old new) where
  pub block_within : Elsewhere s role (Of (Block i0)) old new
  block_within = within s role (Of (Block i0)) q old new is_block spares

  index_of : (i : ℕ) → Of (Block i) ≡ Of (Block i0) → i ≡ i0
  index_of i e = cc

  -- a count in another cluster, or one of these
  count_where : (k many : ℕ) (c : IsCounted s old k many) → (u16_at new (place s c.block + 2 * c.slot) ≡ many) ⊎ ((c.block ≡ q) × (k ≡ each s * i0 + c.slot) × IsBlock s old i0 q)
  count_where k many c = elim (cases_eq c.block q) [
    | inr differ ↦ inl (half_spared (place s q) (size s) old new (place s c.block + 2 * c.slot) spares (⊎_elim (λ before. inl (omega (arith, c.inside))) (λ behind. inr (omega arith)) (place_apart s c.block q differ)) ∙ c.count)
    | inl here ↦
        let index : c.index ≡ i0 = index_of c.index (sym (lies.refs (Block c.index) c.block c.linked) ∙ ap role here ∙ is_block) in
        inr (here, c.is ∙ ap (λ (i : ℕ). each s * i + c.slot) index, subst (λ (b : ℕ). IsBlock s old i0 b) here (subst (λ (x : ℕ). IsBlock s old x c.block) index c.linked))
  ]

  -- where a part of them was written, the others are the same
  pub counted_out : (low n : ℕ) → Spares (place s q + 2 * low) (2 * n) old new → (k many : ℕ) → IsCounted s old k many → (k < each s * i0 + low) ⊎ (each s * i0 + low + n ≤ k) → IsCounted s new k many
  counted_out low n narrow k many c out = counted_on s some role old new lies (Of (Block i0)) block_within (frame.block_on s some role old new lies (Of (Block i0)) block_within (quiet_counts (Of (Block i0)) tt)) k many c
      (⊎_elim
      (λ (same : u16_at new (place s c.block + 2 * c.slot) ≡ many). same)
      (λ (here : (c.block ≡ q) × (k ≡ each s * i0 + c.slot) × IsBlock s old i0 q).
      let at : place s c.block + 2 * c.slot ≡ place s q + 2 * c.slot = ap (λ (b : ℕ). place s b + 2 * c.slot) here.0 in
      let is : k ≡ each s * i0 + c.slot = here.1 in
      half_spared (place s q + 2 * low) (2 * n) old new (place s c.block + 2 * c.slot) narrow
      (⊎_elim (λ (before : k < each s * i0 + low). inl (omega (arith, before, is, at))) (λ (past : each s * i0 + low + n ≤ k). inr (omega (arith, past, is, at))) out) ∙ c.count)
      (count_where k many c))

  -- counts of other blocks are the same
  pub counted_apart : LeavesCounts s (each s * i0) (each s) old new
  counted_apart k many c out = counted_out 0 (each s) (spares_more (place s q) (size s) (place s q + 2 * 0) (2 * each s) old new (omega arith) (omega arith) spares) k many c
      (⊎_elim (λ (before : k < each s * i0). inl (omega arith)) (λ (past : each s * i0 + each s ≤ k). inr (omega arith)) out)

  pub counts_keep : ((t : ℕ) → t < each s → IsBlock s old i0 q → IsTaken (role (each s * i0 + t)) → 0 < u16_at old (place s q + 2 * t) → 0 < u16_at new (place s q + 2 * t))
      → ((t : ℕ) → t < each s → role (each s * i0 + t) ≡ Ready → u16_at old (place s q + 2 * t) ≡ 1 → u16_at new (place s q + 2 * t) ≡ 1) → Lies s role new
  counts_keep above ones =
      quiet_keeps s some role old new lies (Of (Block i0)) block_within tt
      (λ k many c taken some_count. ⊎_elim
      (λ (same : u16_at new (place s c.block + 2 * c.slot) ≡ many). subst (λ (n : ℕ). 0 < n) (sym same) some_count)
      (λ (here : (c.block ≡ q) × (k ≡ each s * i0 + c.slot) × IsBlock s old i0 q).
      let at : place s c.block + 2 * c.slot ≡ place s q + 2 * c.slot = ap (λ (b : ℕ). place s b + 2 * c.slot) here.0 in
      let was : 0 < u16_at old (place s q + 2 * c.slot) = subst (λ (n : ℕ). 0 < n) (sym c.count ∙ ap (u16_at old) at) some_count in
      subst (λ (p : ℕ). 0 < u16_at new p) (sym at) (above c.slot c.inside here.2 (subst (λ (m : ℕ). IsTaken (role m)) here.1 taken) was))
      (count_where k many c))
      (λ k ready. let c = lies.ones k ready in
      counted_on s some role old new lies (Of (Block i0)) block_within (frame.block_on s some role old new lies (Of (Block i0)) block_within (quiet_counts (Of (Block i0)) tt)) k 1 c
      (⊎_elim
      (λ (same : u16_at new (place s c.block + 2 * c.slot) ≡ 1). same)
      (λ (here : (c.block ≡ q) × (k ≡ each s * i0 + c.slot) × IsBlock s old i0 q).
      let at : place s c.block + 2 * c.slot ≡ place s q + 2 * c.slot = ap (λ (b : ℕ). place s b + 2 * c.slot) here.0 in
      ap (u16_at new) at ∙ ones c.slot c.inside (sym (ap role here.1) ∙ ready) (sym (ap (u16_at old) at) ∙ c.count))
      (count_where k 1 c)))
      (λ k blank. frame.zeros_in s some role old new lies (Of (Block i0)) block_within k (λ e. subst IsBlank e blank) (lies.zeros k blank))

  pub counts_good : {disks : List (List ℕ)} → IsGood s role disks old → ((t : ℕ) → t < each s → IsBlock s old i0 q → IsTaken (role (each s * i0 + t)) → 0 < u16_at old (place s q + 2 * t) → 0 < u16_at new (place s q + 2 * t))
      → ((t : ℕ) → t < each s → role (each s * i0 + t) ≡ Ready → u16_at old (place s q + 2 * t) ≡ 1 → u16_at new (place s q + 2 * t) ≡ 1) → IsGood s role disks new
  counts_good {disks} good above ones = record {
    lies = counts_keep above ones;
    forms = quiet_forms s some role old new lies (Of (Block i0)) block_within tt good.forms;
    kept = outer_kept s some role old new lies good.forms (Of (Block i0)) block_within (λ e. cc) (λ i e. cc) (λ i j e. cc) disks good.kept;
  }

-- ---- a zero byte in a fresh cluster

pub growth_good : (s : Shape) (some : 0 < s.sectors) (role : ℕ → Use) (disks : List (List ℕ)) (m finish : ℕ) (bytes old new : List ℕ) → role m ≡ Fresh → place s m ≤ finish → finish + 1 ≤ place s m + size s → length bytes ≡ 1 → byte bytes 0 ≡ 0
    → IsGood s role disks old → IsTorn finish bytes old new → IsGood s role disks new
growth_good s some role disks m finish bytes old new fresh low high one is_zero good torn = record {
  lies = data_keeps s some role old new good.lies Fresh elsewhere tt (λ i e. cc) zeros;
  forms = quiet_forms s some role old new good.lies Fresh elsewhere tt good.forms;
  kept = outer_kept s some role old new good.lies good.forms Fresh elsewhere (λ e. cc) (λ i e. cc) (λ i j e. cc) disks good.kept;
}
  where
    elsewhere : Elsewhere s role Fresh old new
    elsewhere = within s role Fresh m old new fresh (spares_more finish (length bytes) (place s m) (size s) old new low (omega (arith, one, high)) (torn_spares finish bytes old new torn))

    zeros : (k : ℕ) → IsBlank (role k) → IsZero s new k
    zeros k blank i from to =
        let was : byte old i ≡ 0 = good.lies.zeros k blank i from to in
        ⊎_elim
        (λ (none : byte new i ≡ 0). none)
        (λ rest. ⊎_elim
        (λ (same : byte new i ≡ byte old i). same ∙ was)
        (λ (done : byte new i ≡ byte (overlay old finish bytes) i). done ∙ (elim (cases_eq i finish) [
          | inl at ↦ byte-overlay_in old finish bytes i (omega arith) (omega (arith, one)) ∙ (let e : i - finish ≡ 0 = omega arith in ap (byte bytes) e) ∙ is_zero
          | inr off ↦ byte-overlay_outside old finish bytes i (elim (cases_lt i finish) [ inl before ↦ inl before | inr past ↦ inr (omega (arith, one, off)) ]) ∙ was
        ]))
        rest)
        (torn_byte finish bytes old new i torn)

-- ---- fresh clusters become ready

module _ {s : Shape} {q i low n last spot finish : ℕ} (is : IsTopUp s q i low n last spot finish) (some : 0 < s.sectors) (role : ℕ → Use) (is_block : role q ≡ Of (Block i)) (disks : List (List ℕ)) (counts : List ℕ) (long : length counts ≡ 2 * n)
    (fresh : (m : ℕ) → last ≤ m → m < last + n → role m ≡ Fresh) where
  count_fresh : (t : ℕ) → low ≤ t → t < low + n → role (each s * i + t) ≡ Fresh
  count_fresh t from to = fresh (each s * i + t) (omega (arith, is.from)) (omega (arith, is.from))

  pub topped_counts : (old new : List ℕ) → IsGood s role disks old → IsTorn spot counts old new → IsGood s role disks new
  topped_counts old new good torn =
      let narrow : Spares (place s q + 2 * low) (2 * n) old new = spares_more spot (length counts) (place s q + 2 * low) (2 * n) old new (omega (arith, is.spot_is)) (omega (arith, is.spot_is, long)) (torn_spares spot counts old new torn) in
      let around : Spares (place s q) (size s) old new = spares_more (place s q + 2 * low) (2 * n) (place s q) (size s) old new (omega arith) (omega (arith, is.within)) narrow in
      counts_good s some role old new good.lies q i is_block around good
      (λ t t_in block taken was. ⊎_elim
      (λ (apart : (t < low) ⊎ (low + n ≤ t)). subst (λ (x : ℕ). 0 < x) (sym (spared_count old new narrow t apart)) was)
      (λ (here : (low ≤ t) × (t < low + n)). absurd (subst IsTaken (count_fresh t here.0 here.1) taken)) (side t))
      (λ t t_in ready was. ⊎_elim
      (λ (apart : (t < low) ⊎ (low + n ≤ t)). spared_count old new narrow t apart ∙ was)
      (λ (here : (low ≤ t) × (t < low + n)). absurd (fresh_not (role (each s * i + t)) (count_fresh t here.0 here.1) ready)) (side t))
    where
      spared_count : (old new : List ℕ) → Spares (place s q + 2 * low) (2 * n) old new → (t : ℕ) → (t < low) ⊎ (low + n ≤ t) → u16_at new (place s q + 2 * t) ≡ u16_at old (place s q + 2 * t)
      spared_count old new narrow t apart = half_spared (place s q + 2 * low) (2 * n) old new (place s q + 2 * t) narrow (⊎_elim (λ before. inl (omega arith)) (λ behind. inr (omega arith)) apart)

      side : (t : ℕ) → ((t < low) ⊎ (low + n ≤ t)) ⊎ ((low ≤ t) × (t < low + n))
      side t = elim (cases_lt t low) [
        | inl below ↦ inl (inl below)
        | inr from ↦ elim (cases_lt t (low + n)) [ inl to ↦ inr (from, to) | inr past ↦ inl (inr past) ]
      ]

      fresh_not : (u : Use) → u ≡ Fresh → u ≡ Ready → ⊥
      fresh_not u a b = cc

  abbrev end : ℕ
  end = last + n - 1

  end_fresh : role end ≡ Fresh
  end_fresh = fresh end (omega (arith, is.some)) (omega (arith, is.some))

  pub end_low : place s end ≤ finish
  end_low =
      let next = place_next s end in
      let e : place s (end + 1) ≡ place s (last + n) = (let x : end + 1 ≡ last + n = omega (arith, is.some) in ap (place s) x) in
      omega (arith, next, e, is.finish_is, some)

  pub end_high : finish + 1 ≤ place s end + size s
  end_high =
      let next = place_next s end in
      let e : place s (end + 1) ≡ place s (last + n) = (let x : end + 1 ≡ last + n = omega (arith, is.some) in ap (place s) x) in
      omega (arith, next, e, is.finish_is)

  pub topped_growth : (bytes old new : List ℕ) → length bytes ≡ 1 → byte bytes 0 ≡ 0 → IsGood s role disks old → IsTorn finish bytes old new → IsGood s role disks new
  topped_growth bytes old new one is_zero good torn = growth_good s some role disks end finish bytes old new end_fresh end_low end_high one is_zero good torn

  -- once both writes are done
  module _ (role_on : ℕ → Use) (others : (m : ℕ) → (m < last) ⊎ (last + n ≤ m) → role_on m ≡ role m) (ready : (m : ℕ) → last ≤ m → m < last + n → role_on m ≡ Ready)
      (ones : AreOnes n counts) (bytes : List ℕ) (one : length bytes ≡ 1) (is_zero : byte bytes 0 ≡ 0) (file : List ℕ) (good : IsGood s role disks file) (linked : IsBlock s file i q) where
    abbrev grown : List ℕ
    grown = overlay file finish bytes

    abbrev counted : List ℕ
    counted = overlay grown spot counts

    grown_good : IsGood s role disks grown
    grown_good = topped_growth bytes file grown one is_zero good (whole_torn finish bytes file)

    counted_good : IsGood s role disks counted
    counted_good = topped_counts grown counted grown_good (whole_torn spot counts grown)

    quiet_end : Elsewhere s role Fresh file grown
    quiet_end = within s role Fresh end file grown end_fresh (spares_more finish (length bytes) (place s end) (size s) file grown end_low (omega (arith, one, end_high)) (torn_spares finish bytes file grown (whole_torn finish bytes file)))

    around_block : Spares (place s q) (size s) grown counted
    around_block = spares_more spot (length counts) (place s q) (size s) grown counted (omega (arith, is.spot_is)) (omega (arith, is.spot_is, long, is.within)) (torn_spares spot counts grown counted (whole_torn spot counts grown))

    linked_end : IsBlock s counted i q
    linked_end =
        frame.block_on s some role grown counted grown_good.lies (Of (Block i)) (within s role (Of (Block i)) q grown counted is_block around_block) (λ e. cc) i q
        (frame.block_on s some role file grown good.lies Fresh quiet_end (λ e. cc) i q linked)

    count_is : (t : ℕ) → t < n → u16_at counted (place s q + 2 * (low + t)) ≡ 1
    count_is t t_in =
        let at : place s q + 2 * (low + t) ≡ spot + 2 * t = omega (arith, is.spot_is) in
        ap (u16_at counted) at ∙ number-overlay_part w16 grown spot counts (2 * t) (omega (arith, long)) ∙ ones t t_in

    pub topped_up : IsGood s role_on disks counted
    topped_up = record {
      lies = recast s role role_on counted counted_good.lies (λ m. elim (cases_lt m last) [
        | inl before ↦ inl (others m (inl before))
        | inr from ↦ elim (cases_lt m (last + n)) [
          | inr past ↦ inl (others m (inr past))
          | inl to ↦ inr (change m from to)
        ]
      ]);
      forms = counted_good.forms;
      kept = counted_good.kept;
    }
      where
        once : (m : ℕ) → last ≤ m → m < last + n → IsCounted s counted m 1
        once m from to = record {
          index = i;
          slot = low + (m - last);
          block = q;
          is = omega (arith, is.from);
          inside = omega (arith, is.within);
          linked = linked_end;
          count = count_is (m - last) (omega arith);
        }

        ready_not : (m : ℕ) (who : Who) → role_on m ≡ Ready → role_on m ≡ Of who → ⊥
        ready_not m who a b = cc

        fresh_not : (m : ℕ) (who : Who) → role m ≡ Fresh → role m ≡ Of who → ⊥
        fresh_not m who a b = cc

        long_enough : (m : ℕ) → m < last + n → place s m + size s ≤ length counted
        long_enough m to =
            let reach : place s (m + 1) ≤ place s (last + n) = place_more s (m + 1) (last + n) (omega arith) in
            omega (arith, around_block.longer, length-overlay file finish bytes (omega (arith, one)), one, is.finish_is, place_next s m, reach)

        change : (m : ℕ) → last ≤ m → m < last + n → Change s role_on counted m
        change m from to = record {
          refs = λ who refers. absurd (fresh_not m who (fresh m from to) (counted_good.lies.refs who m refers));
          used = λ taken blocks. record { many = 1; some = omega arith; counted = once m from to; below = omega (arith, is.reach); inside = long_enough m to };
          ones = λ r. once m from to;
          zeros = λ blank. counted_good.lies.zeros m (subst IsBlank (sym (fresh m from to)) tt);
          blocks = λ b e. absurd (ready_not m (Block b) (ready m from to) e);
          fixed = λ fixed. absurd (subst IsFixed (ready m from to) fixed);
        }

-- a block that is linked lies in the file
pub block_inside : (s : Shape) (role : ℕ → Use) (q i : ℕ) (file : List ℕ) → role q ≡ Of (Block i) → IsBlock s file i q → Lies s role file → place s q + size s ≤ length file
block_inside s role q i file is_block linked lies = (lies.used q (taken_of role q (Block i) is_block) (λ b e. subst (λ (x : ℕ). IsBlock s file x q) (same_block b e) linked)).inside
  where
    same_block : (b : ℕ) → role q ≡ Of (Block b) → i ≡ b
    same_block b e = cc

-- ---- a half that a torn write within a linked block met is as before, or as the write made it

pub block_half : (s : Shape) (role : ℕ → Use) (q i at t : ℕ) (bytes old new : List ℕ) → role q ≡ Of (Block i) → IsBlock s old i q → Lies s role old → IsTorn at bytes old new → t < each s
    → (u16_at new (place s q + 2 * t) ≡ u16_at old (place s q + 2 * t)) ⊎ (u16_at new (place s q + 2 * t) ≡ u16_at (overlay old at bytes) (place s q + 2 * t))
block_half s role q i at t bytes old new is_block linked lies torn t_in =
    number_either w16 at bytes old new (place s q + 2 * t) torn (omega (arith, sector_at s q 0)) (omega (arith, torn.no_shorter, block_inside s role q i old is_block linked lies, t_in))

one_half : u16_at (0 ∷ 1 ∷ []) 0 ≡ 1
unfolding number_at reading
one_half = refl

-- ---- a block that counts itself

half_with_one : (file : List ℕ) (at : ℕ) → byte file (at + 1) ≡ 1 → 0 < u16_at file at
half_with_one file at low = subst (λ (n : ℕ). 0 < n) (sym (u16_bytes file at ∙ ap (λ (b : ℕ). from_be_bytes w16 (byte file at ∷ b ∷ [])) low)) (pair_some (byte file at))
  where
    pair_some : (a : ℕ) → 0 < from_be_bytes w16 (a ∷ 1 ∷ [])
    pair_some a = omega arith

half_none : (file : List ℕ) (at : ℕ) → u16_at file at ≡ 0 → (byte file at ≡ 0) × (byte file (at + 1) ≡ 0)
half_none file at none = by_bytes (byte file at) (byte file (at + 1)) (sym (u16_bytes file at) ∙ none)
  where
    by_bytes : (a b : ℕ) → from_be_bytes w16 (a ∷ b ∷ []) ≡ 0 → (a ≡ 0) × (b ≡ 0)
    by_bytes a b e = (omega (arith, e), omega (arith, e))

none_half : (file : List ℕ) (at : ℕ) → byte file at ≡ 0 → byte file (at + 1) ≡ 0 → u16_at file at ≡ 0
none_half file at high low = u16_bytes file at ∙ ap (λ (a : ℕ). from_be_bytes w16 (a ∷ byte file (at + 1) ∷ [])) high ∙ ap (λ (b : ℕ). from_be_bytes w16 (0 ∷ b ∷ [])) low

module _ {s : Shape} {i last slot spot finish end at word : ℕ} (is : IsNewBlock s i last slot spot finish end at word) (some : 0 < s.sectors) (role : ℕ → Use) (is_block : role last ≡ Of (Block i)) (disks : List (List ℕ))
    (fresh : (t : ℕ) → slot < t → t < each s → role (each s * i + t) ≡ Fresh) where
  at_own : (t : ℕ) → t ≡ slot → role (each s * i + t) ≡ Of (Block i)
  at_own t same = (let e : each s * i + t ≡ last = omega (arith, is.is, same) in ap role e) ∙ is_block

  own_not_ready : (t : ℕ) → t ≡ slot → role (each s * i + t) ≡ Ready → ⊥
  own_not_ready t same ready = let o = at_own t same in cc

  fresh_not_taken : (t : ℕ) → slot < t → t < each s → IsTaken (role (each s * i + t)) → ⊥
  fresh_not_taken t more t_in taken = subst IsTaken (fresh t more t_in) taken

  fresh_not_ready : (t : ℕ) → slot < t → t < each s → role (each s * i + t) ≡ Ready → ⊥
  fresh_not_ready t more t_in ready = not_both (role (each s * i + t)) (fresh t more t_in) ready
    where
      not_both : (u : Use) → u ≡ Fresh → u ≡ Ready → ⊥
      not_both u a b = cc

  finish_low : place s last ≤ finish
  finish_low = omega (arith, is.finish_is, place_next s last, some)

  end_one : slot + 1 ≡ each s → end ≡ 1
  end_one own_end = is.end_is ∙ ap (λ (b : Bool). if b then 1 else 0) (eq-eqb (slot + 1) (each s) own_end)

  end_none : slot + 1 ≢ each s → end ≡ 0
  end_none not_end = is.end_is ∙ ap (λ (b : Bool). if b then 1 else 0) (ne_eqb (slot + 1) (each s) not_end)

  growth_spares : (bytes old new : List ℕ) → length bytes ≡ 1 → IsTorn finish bytes old new → Spares finish 1 old new
  growth_spares bytes old new one torn = spares_more finish (length bytes) finish 1 old new (omega arith) (omega (arith, one)) (torn_spares finish bytes old new torn)

  -- the file reaches so far
  pub block_growth : (bytes old new : List ℕ) → length bytes ≡ 1 → byte bytes 0 ≡ end → IsGood s role disks old → IsTorn finish bytes old new → IsGood s role disks new
  block_growth bytes old new one is_end good torn =
      let narrow = growth_spares bytes old new one torn in
      counts_good s some role old new good.lies last i is_block (spares_more finish 1 (place s last) (size s) old new finish_low (omega (arith, is.finish_is, place_next s last)) narrow) good
      (λ t t_in block taken was. elim (cases_lt (t + 1) (each s)) [
        | inl before ↦ subst (λ (n : ℕ). 0 < n) (sym (half_spared finish 1 old new (place s last + 2 * t) narrow (inl (omega (arith, before, is.finish_is, place_next s last))))) was
        | inr end_here ↦ elim (cases_lt slot t) [
          | inl past ↦ absurd (fresh_not_taken t past t_in taken)
          | inr not_past ↦
              let last_slot : t + 1 ≡ each s = omega (arith, end_here, t_in) in
              let own_end : slot + 1 ≡ each s = omega (arith, last_slot, not_past, is.slot_in) in
              let at_finish : place s last + 2 * t + 1 ≡ finish = omega (arith, last_slot, is.finish_is, place_next s last) in
              let low_byte : byte (overlay old finish bytes) (place s last + 2 * t + 1) ≡ 1 =
              byte-overlay_in old finish bytes (place s last + 2 * t + 1) (omega (arith, at_finish)) (omega (arith, at_finish, one)) ∙ (let e : place s last + 2 * t + 1 - finish ≡ 0 = omega (arith, at_finish) in ap (byte bytes) e) ∙ is_end ∙ end_one own_end in
              ⊎_elim
              (λ (same : u16_at new (place s last + 2 * t) ≡ u16_at old (place s last + 2 * t)). subst (λ (n : ℕ). 0 < n) (sym same) was)
              (λ (done : u16_at new (place s last + 2 * t) ≡ u16_at (overlay old finish bytes) (place s last + 2 * t)). subst (λ (n : ℕ). 0 < n) (sym done) (half_with_one (overlay old finish bytes) (place s last + 2 * t) low_byte))
              (block_half s role last i finish t bytes old new is_block block good.lies torn t_in)
        ]
      ])
      (λ t t_in ready was. elim (cases_lt (t + 1) (each s)) [
        | inl before ↦ half_spared finish 1 old new (place s last + 2 * t) narrow (inl (omega (arith, before, is.finish_is, place_next s last))) ∙ was
        | inr end_here ↦ elim (cases_lt slot t) [
          | inl past ↦ absurd (fresh_not_ready t past t_in ready)
          | inr not_past ↦ absurd (own_not_ready t (omega (arith, end_here, t_in, not_past, is.slot_in)) ready)
        ]
      ])

  own_count : (old : List ℕ) → u16_at (overlay old spot (0 ∷ 1 ∷ [])) (spot + 0) ≡ 1
  own_count old = number-overlay_part w16 old spot (0 ∷ 1 ∷ []) 0 (omega arith) ∙ one_half

  -- it counts itself
  pub block_count : (old new : List ℕ) → IsGood s role disks old → IsTorn spot (0 ∷ 1 ∷ []) old new → IsGood s role disks new
  block_count old new good torn =
      let narrow : Spares (place s last + 2 * slot) 2 old new = spares_more spot 2 (place s last + 2 * slot) 2 old new (omega (arith, is.spot_is)) (omega (arith, is.spot_is)) (torn_spares spot (0 ∷ 1 ∷ []) old new torn) in
      let apart = (λ (t : ℕ) (differ : t ≢ slot). half_spared (place s last + 2 * slot) 2 old new (place s last + 2 * t) narrow (elim (cases_lt t slot) [ inl before ↦ inl (omega (arith, before)) | inr behind ↦ inr (omega (arith, behind, differ)) ])) in
      counts_good s some role old new good.lies last i is_block (spares_more (place s last + 2 * slot) 2 (place s last) (size s) old new (omega arith) (omega (arith, is.slot_in)) narrow) good
      (λ t t_in block taken was. elim (cases_eq t slot) [
        | inr differ ↦ subst (λ (n : ℕ). 0 < n) (sym (apart t differ)) was
        | inl here ↦
            let at_own_count : place s last + 2 * t ≡ spot + 0 = omega (arith, here, is.spot_is) in
            ⊎_elim
            (λ (same : u16_at new (place s last + 2 * t) ≡ u16_at old (place s last + 2 * t)). subst (λ (n : ℕ). 0 < n) (sym same) was)
            (λ (done : u16_at new (place s last + 2 * t) ≡ u16_at (overlay old spot (0 ∷ 1 ∷ [])) (place s last + 2 * t)).
            subst (λ (n : ℕ). 0 < n) (sym (done ∙ ap (u16_at (overlay old spot (0 ∷ 1 ∷ []))) at_own_count ∙ own_count old)) (omega arith))
            (block_half s role last i spot t (0 ∷ 1 ∷ []) old new is_block block good.lies torn t_in)
      ])
      (λ t t_in ready was. elim (cases_eq t slot) [
        | inr differ ↦ apart t differ ∙ was
        | inl here ↦ absurd (own_not_ready t here ready)
      ])

  -- it counts no other, where it didn't
  pub growth_bare : (bytes old new : List ℕ) → length bytes ≡ 1 → byte bytes 0 ≡ end → IsTorn finish bytes old new → CountsNoOther s i last old → CountsNoOther s i last new
  growth_bare bytes old new one is_end torn none t t_in other = elim (cases_lt (t + 1) (each s)) [
    | inl before ↦ half_spared finish 1 old new (place s last + 2 * t) narrow (inl (omega (arith, before, is.finish_is, place_next s last))) ∙ none t t_in other
    | inr end_here ↦
        let at_finish : place s last + 2 * t + 1 ≡ finish = omega (arith, end_here, t_in, is.finish_is, place_next s last) in
        let was = half_none old (place s last + 2 * t) (none t t_in other) in
        none_half new (place s last + 2 * t) (narrow.bytes (place s last + 2 * t) (inl (omega (arith, at_finish))) ∙ was.0)
        (⊎_elim
        (λ (zero : byte new (place s last + 2 * t + 1) ≡ 0). zero)
        (λ rest. ⊎_elim
        (λ (same : byte new (place s last + 2 * t + 1) ≡ byte old (place s last + 2 * t + 1)). same ∙ was.1)
        (λ (done : byte new (place s last + 2 * t + 1) ≡ byte (overlay old finish bytes) (place s last + 2 * t + 1)). done ∙ written at_finish (λ own. other (omega (arith, own, end_here, t_in, is.is))))
        rest)
        (torn_byte finish bytes old new (place s last + 2 * t + 1) torn))
  ]
    where
      narrow : Spares finish 1 old new
      narrow = growth_spares bytes old new one torn

      written : place s last + 2 * t + 1 ≡ finish → slot + 1 ≢ each s → byte (overlay old finish bytes) (place s last + 2 * t + 1) ≡ 0
      written at_finish inner =
          byte-overlay_in old finish bytes (place s last + 2 * t + 1) (omega (arith, at_finish)) (omega (arith, at_finish, one))
          ∙ (let e : place s last + 2 * t + 1 - finish ≡ 0 = omega (arith, at_finish) in ap (byte bytes) e) ∙ is_end ∙ end_none inner

  pub count_bare : (old new : List ℕ) → IsTorn spot (0 ∷ 1 ∷ []) old new → CountsNoOther s i last old → CountsNoOther s i last new
  count_bare old new torn none t t_in other = half_spared spot 2 old new (place s last + 2 * t) (torn_spares spot (0 ∷ 1 ∷ []) old new torn)
      (elim (cases_lt t slot) [ inl before ↦ inl (omega (arith, before, is.spot_is)) | inr behind ↦ inr (elim (cases_eq t slot) [ inl same ↦ absurd (other (omega (arith, same, is.is))) | inr differ ↦ omega (arith, behind, differ, is.spot_is) ]) ])
      ∙ none t t_in other

  -- the block is there, but for its entry
  abbrev pub IsPrepared : List ℕ → Type 0
  IsPrepared file = (u16_at file (place s last + 2 * slot) ≡ 1) × (place s last + size s ≤ length file)

  pub prepared : (bytes file : List ℕ) → length bytes ≡ 1 → IsPrepared (overlay (overlay file finish bytes) spot (0 ∷ 1 ∷ []))
  prepared bytes file one = (
    (let e : place s last + 2 * slot ≡ spot + 0 = omega (arith, is.spot_is) in ap (u16_at (overlay (overlay file finish bytes) spot (0 ∷ 1 ∷ []))) e ∙ own_count (overlay file finish bytes)),
    omega (arith, (whole_torn spot (0 ∷ 1 ∷ []) (overlay file finish bytes)).no_shorter, length-overlay file finish bytes (omega (arith, one)), one, is.finish_is, place_next s last),
  )

  -- its entry
  module _ (shape : IsShape s) (bytes : List ℕ) (eight : length bytes ≡ 8) (says : from_be_bytes w64 bytes ≡ word) (only : (q : ℕ) → role q ≡ Of (Block i) → q ≡ last) where
    abbrev row : ℕ
    row = s.counts + 8 * i

    row_spares : (old : List ℕ) → Spares row 8 old (overlay old row bytes)
    row_spares old = spares_more row (length bytes) row 8 old (overlay old row bytes) (omega arith) (omega (arith, eight)) (torn_spares row bytes old (overlay old row bytes) (whole_torn row bytes old))

    set : (old : List ℕ) → u64_at (overlay old row bytes) row ≡ place s last
    set old = number-overlay_same w64 old row bytes eight ∙ says ∙ is.word_is

    only_here : (old : List ℕ) → Lies s role old → (q : ℕ) → IsBlock s old i q → q ≡ last
    only_here old lies q b = only q (lies.refs (Block i) q b)

    some_count : (old : List ℕ) → IsPrepared old → 0 < u16_at old (place s last + 2 * slot)
    some_count old has = omega (arith, has.0)

    row_elsewhere : (old : List ℕ) → IsGood s role disks old → IsPrepared old → Elsewhere s role (Of Counts) old (overlay old row bytes)
    row_elsewhere old good has =
        block_elsewhere s some role old (overlay old row bytes) good.lies i last slot is.inside is.some is.is is.slot_in is_block (only_here old good.lies) (some_count old has) is.reach has.1 (row_spares old) (set old)

    pub block_linked : (old : List ℕ) → IsGood s role disks old → IsPrepared old → IsGood s role disks (overlay old row bytes)
    block_linked old good has =
        let new = overlay old row bytes in
        let elsewhere = row_elsewhere old good has in
        record {
          lies = block_keeps s some role old new good.lies i last slot is.inside is.some is.is is.slot_in is_block (only_here old good.lies) (some_count old has) is.reach has.1 (row_spares old) (set old);
          forms = block_forms s some role old new good.lies i last slot is.inside is.some is.is is.slot_in is_block (only_here old good.lies) (some_count old has) is.reach has.1 (row_spares old) (set old) good.forms;
          kept = outer_kept s some role old new good.lies good.forms (Of Counts) elsewhere (λ e. cc) (λ n e. cc) (λ n m e. cc) disks good.kept;
        }

    pub block_row_keeps : (old : List ℕ) → IsGood s role disks old → IsPrepared old → Keeps s old (overlay old row bytes)
    block_row_keeps old good has =
        let new = overlay old row bytes in
        let elsewhere = row_elsewhere old good has in
        record {
          blocks = block_on s some role old new good.lies i last slot is.inside is.some is.is is.slot_in is_block (only_here old good.lies) (some_count old has) is.reach has.1 (row_spares old) (set old);
          tables = frame.table_on s some role old new good.lies (Of Counts) elsewhere (λ e. cc);
        }

    pub block_row_alike : (old : List ℕ) → IsGood s role disks old → IsPrepared old → SameGuest s old (overlay old row bytes)
    block_row_alike old good has =
        let new = overlay old row bytes in
        let elsewhere = row_elsewhere old good has in
        quiet_alike s some role old new good.lies good.forms (Of Counts) elsewhere (λ e. cc) (λ n e. cc) (λ n m e. cc)

    -- no count changes
    pub block_row_counts : (old : List ℕ) → IsGood s role disks old → IsPrepared old → (k many : ℕ) → IsCounted s old k many → IsCounted s (overlay old row bytes) k many
    block_row_counts old good has k many c =
        let new = overlay old row bytes in
        counted_on s some role old new good.lies (Of Counts) (row_elsewhere old good has) (block_row_keeps old good has).blocks k many c (same_count s some role old new good.lies (Of Counts) (row_elsewhere old good has) (λ x e. cc) k many c)

    pub block_row_half : (old : List ℕ) → IsGood s role disks old → IsPrepared old → (t : ℕ) → t < each s → u16_at (overlay old row bytes) (place s last + 2 * t) ≡ u16_at old (place s last + 2 * t)
    block_row_half old good has t t_in = frame.half_in s some role old (overlay old row bytes) good.lies (Of Counts) (row_elsewhere old good has) last t (λ e. let b = is_block in cc) t_in

-- the block's cluster was fresh
pub own_change : (s : Shape) (role role_on : ℕ → Use) (i last : ℕ) (file : List ℕ) → IsOwnCount s i last → role last ≡ Fresh → role_on last ≡ Of (Block i) → ((m : ℕ) → m ≢ last → role_on m ≡ role m) → Lies s role file → Lies s role_on file
own_change s role role_on i last file own fresh taken others lies =
    recast s role role_on file lies (λ m. elim (cases_eq m last) [
      | inr differ ↦ inl (others m differ)
      | inl same ↦ inr (subst (Change s role_on file) (sym same) (record {
        refs = λ who refers. absurd (fresh_not who (lies.refs who last refers));
        used = λ t blocks. absurd (fresh_not (Block i) (lies.refs (Block i) last (blocks i taken)));
        ones = λ e. absurd (not_ready e);
        zeros = λ blank. absurd (subst IsBlank taken blank);
        blocks = λ b e. inl (subst (λ (x : ℕ). IsOwnCount s x last) (index b e) own);
        fixed = λ fixed. absurd (subst IsFixed taken fixed);
      }))
    ])
  where
    fresh_not : (who : Who) → role last ≡ Of who → ⊥
    fresh_not who e = let f = fresh in cc

    not_ready : role_on last ≡ Ready → ⊥
    not_ready e = let t = taken in cc

    index : (b : ℕ) → role_on last ≡ Of (Block b) → i ≡ b
    index b e = let t = taken in cc

-- ---- counts of a block, all of them or some, by which clusters are taken

pub settled_good : (s : Shape) (some : 0 < s.sectors) (role : ℕ → Use) (disks : List (List ℕ)) (taken : ℕ → Bool) (q i low n spot : ℕ) (counts old new : List ℕ) → role q ≡ Of (Block i) → ((t : ℕ) → t < each s → IsTaken (role (each s * i + t)) → IsTrue (taken (each s * i + t))) → ((k : ℕ) → role k ≢ Ready)
    → IsSettling s taken q i low n spot counts → IsGood s role disks old → IsTorn spot counts old new → IsGood s role disks new
settled_good s some role disks taken q i low n spot counts old new is_block named none is good torn =
    let narrow : Spares (place s q + 2 * low) (2 * n) old new = spares_more spot (length counts) (place s q + 2 * low) (2 * n) old new (omega (arith, is.spot_is)) (omega (arith, is.spot_is, is.long)) (torn_spares spot counts old new torn) in
    counts_good s some role old new good.lies q i is_block (spares_more (place s q + 2 * low) (2 * n) (place s q) (size s) old new (omega arith) (omega (arith, is.within)) narrow) good
    (λ t t_in block is_taken was. elim (cases_lt t low) [
      | inl before ↦ subst (λ (x : ℕ). 0 < x) (sym (half_spared (place s q + 2 * low) (2 * n) old new (place s q + 2 * t) narrow (inl (omega arith)))) was
      | inr from ↦ elim (cases_lt t (low + n)) [
        | inr past ↦ subst (λ (x : ℕ). 0 < x) (sym (half_spared (place s q + 2 * low) (2 * n) old new (place s q + 2 * t) narrow (inr (omega arith)))) was
        | inl to ↦ ⊎_elim
            (λ (same : u16_at new (place s q + 2 * t) ≡ u16_at old (place s q + 2 * t)). subst (λ (x : ℕ). 0 < x) (sym same) was)
            (λ (done : u16_at new (place s q + 2 * t) ≡ u16_at (overlay old spot counts) (place s q + 2 * t)).
            let at : place s q + 2 * t ≡ spot + 2 * (t - low) = omega (arith, is.spot_is, from) in
            let k_is : each s * i + t ≡ each s * i + low + (t - low) = omega (arith, from) in
            let above = is.above (t - low) (omega (arith, from, to)) (subst (λ (k : ℕ). IsTrue (taken k)) k_is (named t t_in is_taken)) in
            subst (λ (x : ℕ). 0 < x) (sym (done ∙ ap (u16_at (overlay old spot counts)) at ∙ number-overlay_part w16 old spot counts (2 * (t - low)) (omega (arith, is.long, from, to)))) above)
            (block_half s role q i spot t counts old new is_block block good.lies torn t_in)
      ]
    ])
    (λ t t_in ready was. absurd (none (each s * i + t) ready))

-- ---- roles after a sync: what isn't named is free

-- but for blocks: one that isn't linked yet stays what it is
abbrev pub keep_of : Who → Use
keep_of (Block i) = Of (Block i)
keep_of who = Free

-- and none is ready
abbrev pub keep : Bool → Use → Use
keep true Ready = Spare
keep true u = u
keep false Fresh = Fresh
keep false (Of who) = keep_of who
keep false u = Free

pub kept_taken : (b : Bool) (u : Use) → IsTaken (keep b u) → IsTrue b ⊎ ((i : ℕ) × (u ≡ Of (Block i)))
kept_taken b u taken = grind (arith, common_steps)

pub kept_none : (b : Bool) (u : Use) → keep b u ≢ Ready
kept_none b u = grind (arith, common_steps)

pub kept_fresh : (b : Bool) (u : Use) → u ≡ Fresh → keep b u ≡ Fresh
kept_fresh b u is = grind (arith, common_steps)

pub kept_block : (b : Bool) (u : Use) (i : ℕ) → u ≡ Of (Block i) → keep b u ≡ Of (Block i)
kept_block b u i is = grind (arith, common_steps)

pub kept_back : (b : Bool) (u : Use) (i : ℕ) → keep b u ≡ Of (Block i) → u ≡ Of (Block i)
kept_back b u i is = grind (arith, common_steps)

kept_of : (b : Bool) (u : Use) (who : Who) → IsTrue b → u ≡ Of who → keep b u ≡ Of who
kept_of b u who is of = grind (arith, common_steps)

kept_used : (b : Bool) (u : Use) → IsTaken (keep b u) → IsTaken u
kept_used b u taken = grind (arith, common_steps)

kept_blank : (b : Bool) (u : Use) → IsBlank (keep b u) → IsBlank u
kept_blank b u blank = grind (arith, common_steps)

kept_fixed : (b : Bool) (u : Use) → IsFixed (keep b u) → IsFixed u
kept_fixed b u fixed = grind (arith, common_steps)

pub rested : (s : Shape) (role : ℕ → Use) (taken : ℕ → Bool) (file : List ℕ) → AreNamed s taken file → Lies s role file → Lies s (λ k. keep (taken k) (role k)) file
rested s role taken file named lies = record {
  refs = λ who k refers. kept_of (taken k) (role k) who (named who k refers) (lies.refs who k refers);
  used = λ k is blocks. lies.used k (kept_used (taken k) (role k) is) (λ i of. blocks i (kept_block (taken k) (role k) i of));
  ones = λ k ready. absurd (kept_none (taken k) (role k) ready);
  zeros = λ k blank. lies.zeros k (kept_blank (taken k) (role k) blank);
  blocks = λ i k of. lies.blocks i k (kept_back (taken k) (role k) i of);
  fixed = λ k fixed. lies.fixed k (kept_fixed (taken k) (role k) fixed);
}
