-- Roles exist: from who refers to which cluster.
use Rattle.std.proofs.Common.{◌≡◌, ◌≢◌, ◌⊎◌, inl, inr, ⊎_elim, ℕ, zero, suc, ◌+◌, ◌-◌, ◌*◌, ◌<◌, ◌≤◌, List, [], ◌∷◌, length, Option, Some, None, refl, sym, ◌∙◌, ap, subst, arith}
use Rattle.std.proofs.lemmas.Bool.{cases_eq, cases_lt}
use Rattle.std.specs.Int.{w16, w64}
use Rattle.disk_model.specs.Files.{byte, u16_at, u64_at, overlay, IsTorn}
use Rattle.disk_model.proofs.Laws.{number_same, byte_past, byte-overlay_in, byte-overlay_outside, length-overlay, torn_elsewhere}
use Rattle.qc_layout.specs.Owners.{Held}
use Rattle.image_model.specs.Clusters.{Shape, size, per, place, offset, stored, Who, Head, Counts, Block, Tables, Table, Guest, Bitmaps, Meets, IsBlock, IsTable, IsGuest, Refers, IsCounted, AllCounted, IsOffset, IsTableWord, IsGuestWord, Forms, Use, Free, Fresh, Ready, Of, IsTaken, IsBlank, IsFixed, IsFixedFor, SameIn, Lies, host, pick, ShowsAs, IsGood, IsSafe, IsHeld, IsLonger}
use Rattle.image_model.specs.Calls.{IsOpened, IsExtending, IsReach}
use Rattle.image_steps.proofs.Places.{place_same, place_more, place_next, place_some}
use Rattle.image_steps.proofs.Good.{torn_byte}
use Rattle.image_steps.proofs.Kept.{linked_at}

-- ---- a file with the same bytes

module _ (s : Shape) (old new : List ℕ) (same : (i : ℕ) → byte new i ≡ byte old i) where
  pub same_word : (at : ℕ) → u64_at new at ≡ u64_at old at
  same_word at = number_same w64 new old at (λ i low high. same i)

  pub same_half : (at : ℕ) → u16_at new at ≡ u16_at old at
  same_half at = number_same w16 new old at (λ i low high. same i)

  pub same_block : (i k : ℕ) → IsBlock s old i k → IsBlock s new i k
  same_block i k is = record { inside = is.inside; some = is.some; at = same_word (s.counts + 8 * i) ∙ is.at }

  pub same_table : (i k : ℕ) → IsTable s old i k → IsTable s new i k
  same_table i k is = record { inside = is.inside; some = is.some; at = ap offset (same_word (s.l1 + 8 * i)) ∙ is.at }

  pub same_refers : (who : Who) (k : ℕ) → Refers s old who k → Refers s new who k
  same_refers Head k is = is
  same_refers Counts k is = is
  same_refers (Block i) k is = same_block i k is
  same_refers Tables k is = is
  same_refers (Table i) k is = same_table i k is
  same_refers (Guest i j) k is = record { table = is.table; linked = same_table i is.table is.linked; inside = is.inside; some = is.some; at = ap offset (same_word (place s is.table + 8 * j)) ∙ is.at }
  same_refers (Bitmaps held) k is = is

  pub same_counted : (k many : ℕ) → IsCounted s old k many → IsCounted s new k many
  same_counted k many c = record { index = c.index; slot = c.slot; block = c.block; is = c.is; inside = c.inside; linked = same_block c.index c.block c.linked; count = same_half (place s c.block + 2 * c.slot) ∙ c.count }

  pub same_host : (i j : ℕ) → host s new i j ≡ host s old i j
  same_host i j =
      ap (λ (w : ℕ). pick (offset w) (stored (u64_at new (offset w + 8 * j)))) (same_word (s.l1 + 8 * i))
      ∙ ap (λ (x : ℕ). pick (offset (u64_at old (s.l1 + 8 * i))) (stored x)) (same_word (offset (u64_at old (s.l1 + 8 * i)) + 8 * j))

  pub same_shows : (i j o : ℕ) → ShowsAs s i j o new old
  same_shows i j o t low high =
      ap (λ (h : ℕ). pick h (byte new (h + t))) (same_host i j) ∙ ap (pick (host s old i j)) (same (host s old i j + t))

flip : (old new : List ℕ) → ((i : ℕ) → byte new i ≡ byte old i) → (i : ℕ) → byte old i ≡ byte new i
flip old new same i = sym (same i)

pub same_forms : (s : Shape) (old new : List ℕ) → ((i : ℕ) → byte new i ≡ byte old i) → Forms s old → Forms s new
same_forms s old new same forms = record {
  blocks = λ i inside. subst (IsOffset s) (sym (same_word s old new same (s.counts + 8 * i))) (forms.blocks i inside);
  tables = λ i inside. subst (IsTableWord s) (sym (same_word s old new same (s.l1 + 8 * i))) (forms.tables i inside);
  entries = λ i q j is inside. subst (IsGuestWord s) (sym (same_word s old new same (place s q + 8 * j))) (forms.entries i q j (same_table s new old (flip old new same) i q is) inside);
}

pub same_all : (s : Shape) (old new : List ℕ) → ((i : ℕ) → byte new i ≡ byte old i) → AllCounted s old → AllCounted s new
same_all s old new same all = record {
  once = λ a b k x y. all.once a b k (same_refers s new old (flip old new same) a k x) (same_refers s new old (flip old new same) b k y);
  below = λ a k x. all.below a k (same_refers s new old (flip old new same) a k x);
  counted = λ a k x. let c = all.counted a k (same_refers s new old (flip old new same) a k x) in (c.0, c.1, same_counted s old new same k c.0 c.2);
}

-- ---- who refers to a cluster can be found

search_below : (n : ℕ) (P : ℕ → Type 0) → ((i : ℕ) → i < n → P i ⊎ (P i → ⊥)) → ((i : ℕ) × P i) ⊎ ((i : ℕ) → i < n → P i → ⊥)
search_below zero P each_is = inr (λ i low. absurd (omega arith))
search_below (suc n) P each_is = ⊎_elim
    (λ (here : P n). inl (n, here))
    (λ (not : P n → ⊥). ⊎_elim
    (λ (found : (i : ℕ) × P i). inl found)
    (λ (none : (i : ℕ) → i < n → P i → ⊥). inr (λ i low is. elim (cases_eq i n) [ inl same ↦ not (subst P same is) | inr differ ↦ none i (omega (arith, low, differ)) is ]))
    (search_below n P (λ i low. each_is i (omega arith))))
    (each_is n (omega arith))

module _ (s : Shape) (some : 0 < s.sectors) (file : List ℕ) (forms : Forms s file) (k : ℕ) where
  abbrev Found : Type 0
  Found = ((who : Who) × Refers s file who k) ⊎ ((who : Who) → Refers s file who k → ⊥)

  meets : (from n : ℕ) → Meets s k from n ⊎ (Meets s k from n → ⊥)
  meets from n = elim (cases_lt from (place s k + size s)) [
    | inr not ↦ inr (λ m. absurd (omega (arith, m.0, not)))
    | inl front ↦ elim (cases_lt (place s k) (from + n)) [ inl behind ↦ inl (front, behind) | inr nor ↦ inr (λ m. absurd (omega (arith, m.1, nor))) ]
  ]

  is_block : (i : ℕ) → i < s.blocks → IsBlock s file i k ⊎ (IsBlock s file i k → ⊥)
  is_block i inside = elim (cases_lt 0 k) [
    | inr none ↦ inr (λ b. absurd (omega (arith, b.some, none)))
    | inl more ↦ elim (cases_eq (u64_at file (s.counts + 8 * i)) (place s k)) [ inl at ↦ inl (record { inside = inside; some = more; at = at }) | inr differ ↦ inr (λ b. differ b.at) ]
  ]

  is_table : (i : ℕ) → i < s.tables → IsTable s file i k ⊎ (IsTable s file i k → ⊥)
  is_table i inside = elim (cases_lt 0 k) [
    | inr none ↦ inr (λ b. absurd (omega (arith, b.some, none)))
    | inl more ↦ elim (cases_eq (offset (u64_at file (s.l1 + 8 * i))) (place s k)) [ inl at ↦ inl (record { inside = inside; some = more; at = at }) | inr differ ↦ inr (λ b. differ b.at) ]
  ]

  -- one table at most is linked here
  same_linked : (i p q : ℕ) → IsTable s file i p → IsTable s file i q → p ≡ q
  same_linked i p q a b = place_same s p q some (sym a.at ∙ b.at)

  is_guest : (i : ℕ) → i < s.tables → (j : ℕ) → j < per s → IsGuest s file i j k ⊎ (IsGuest s file i j k → ⊥)
  is_guest i i_in j j_in = elim (cases_lt 0 k) [
    | inr none ↦ inr (λ b. absurd (omega (arith, b.some, none)))
    | inl more ↦ elim (forms.tables i i_in).at [
      | inl none ↦ inr (λ g. absurd (omega (arith, g.linked.at, none, place_some s g.table some g.linked.some)))
      | inr table ↦
          let linked : IsTable s file i table.cluster = linked_at s file i i_in table in
          elim (cases_eq (offset (u64_at file (place s table.cluster + 8 * j))) (place s k)) [
            | inl at ↦ inl (record { table = table.cluster; linked = linked; inside = j_in; some = more; at = at })
            | inr differ ↦ inr (λ g. differ (ap (λ (q : ℕ). offset (u64_at file (place s q + 8 * j))) (same_linked i table.cluster g.table linked g.linked) ∙ g.at))
          ]
    ]
  ]

  is_held : ((h : Held) × (s.owner k ≡ Some h)) ⊎ ((h : Held) → s.owner k ≡ Some h → ⊥)
  is_held = by_option (s.owner k)
    where
      by_option : (o : Option Held) → ((h : Held) × (o ≡ Some h)) ⊎ ((h : Held) → o ≡ Some h → ⊥)
      by_option None = inr (λ h e. cc)
      by_option (Some h) = inl (h, refl)

  pub found : Found
  found = elim (cases_eq k 0) [
    | inl head ↦ inl (Head, head)
    | inr not_head ↦ elim (meets s.counts (8 * s.blocks)) [
      | inl counts ↦ inl (Counts, counts)
      | inr not_counts ↦ elim (meets s.l1 (8 * s.tables)) [
        | inl tables ↦ inl (Tables, tables)
        | inr not_tables ↦ elim (search_below s.blocks (λ i. IsBlock s file i k) is_block) [
          | inl block ↦ inl (Block block.0, block.1)
          | inr not_block ↦ elim (search_below s.tables (λ i. IsTable s file i k) is_table) [
            | inl table ↦ inl (Table table.0, table.1)
            | inr not_table ↦ elim (search_below s.tables (λ i. (j : ℕ) × IsGuest s file i j k) in_table) [
              | inl guest_of ↦ inl (Guest guest_of.0 guest_of.1.0, guest_of.1.1)
              | inr not_guest ↦ elim is_held [
                | inl held ↦ inl (Bitmaps held.0, held.1)
                | inr not_held ↦ inr (none not_head not_counts not_tables not_block not_table not_guest not_held)
              ]
            ]
          ]
        ]
      ]
    ]
  ]
    where
      in_table : (i : ℕ) → i < s.tables → ((j : ℕ) × IsGuest s file i j k) ⊎ (((j : ℕ) × IsGuest s file i j k) → ⊥)
      in_table i i_in = ⊎_elim
          (λ (some : (j : ℕ) × IsGuest s file i j k). inl some)
          (λ (none : (j : ℕ) → j < per s → IsGuest s file i j k → ⊥). inr (λ g. none g.0 g.1.inside g.1))
          (search_below (per s) (λ j. IsGuest s file i j k) (is_guest i i_in))

      none : k ≢ 0 → (Meets s k s.counts (8 * s.blocks) → ⊥) → (Meets s k s.l1 (8 * s.tables) → ⊥) → ((i : ℕ) → i < s.blocks → IsBlock s file i k → ⊥) → ((i : ℕ) → i < s.tables → IsTable s file i k → ⊥)
          → ((i : ℕ) → i < s.tables → ((j : ℕ) × IsGuest s file i j k) → ⊥) → ((h : Held) → s.owner k ≡ Some h → ⊥) → (who : Who) → Refers s file who k → ⊥
      none a b c d e g h Head is = a is
      none a b c d e g h Counts is = b is
      none a b c d e g h (Block i) is = d i is.inside is
      none a b c d e g h Tables is = c is
      none a b c d e g h (Table i) is = e i is.inside is
      none a b c d e g h (Guest i j) is = g i is.linked.inside (j, is)
      none a b c d e g h (Bitmaps held) is = h held is

-- clusters that are referred to lie in a file that reaches past them
pub reaching : (s : Shape) (whole : ℕ) (file c : List ℕ) → ((who : Who) (k : ℕ) → Refers s file who k → k < whole) → place s whole ≤ length c
    → (who : Who) (k : ℕ) → Refers s file who k → place s k + size s ≤ length c
reaching s whole file c below long who k refers = omega (arith, long, place_next s k, place_more s (k + 1) whole (omega (arith, below who k refers)))

-- ---- the roles of a file as an opening finds it

module _ (s : Shape) (next : ℕ) (file : List ℕ) (is : IsOpened s next file) where
  -- what is referred to lies in it
  abbrev pub IsReaching : List ℕ → Type 0
  IsReaching c = (who : Who) (k : ℕ) → Refers s file who k → place s k + size s ≤ length c

  unclaimed : (k : ℕ) → Use
  unclaimed k = ⊎_elim (λ old. Free) (λ new. Fresh) (cases_lt k next)

  role_by : (k : ℕ) → Found s is.shape.some file is.forms k → Use
  role_by k (inl claim) = Of claim.0
  role_by k (inr none) = unclaimed k

  pub role_at : ℕ → Use
  role_at k = role_by k (found s is.shape.some file is.forms k)

  -- what it is
  role_says : (k : ℕ) → ((who : Who) × Refers s file who k × (role_at k ≡ Of who)) ⊎ ((role_at k ≡ unclaimed k) × ((who : Who) → Refers s file who k → ⊥))
  unfolding role_at role_by
  role_says k = elim (found s is.shape.some file is.forms k) as (λ f. ((who : Who) × Refers s file who k × (role_by k f ≡ Of who)) ⊎ ((role_by k f ≡ unclaimed k) × ((who : Who) → Refers s file who k → ⊥))) [
    | inl claim ↦ inl (claim.0, claim.1, refl)
    | inr none ↦ inr (refl, none)
  ]

  unclaimed_says : (k : ℕ) → (unclaimed k ≡ Free) ⊎ ((unclaimed k ≡ Fresh) × (next ≤ k))
  unfolding unclaimed
  unclaimed_says k = elim (cases_lt k next) as (λ side. (⊎_elim (λ old. Free) (λ new. Fresh) side ≡ Free) ⊎ ((⊎_elim (λ old. Free) (λ new. Fresh) side ≡ Fresh) × (next ≤ k))) [
    | inl old ↦ inl refl
    | inr new ↦ inr (refl, new)
  ]

  pub role_of : (who : Who) (k : ℕ) → Refers s file who k → role_at k ≡ Of who
  role_of who k refers = ⊎_elim
      (λ (claim : (who : Who) × Refers s file who k × (role_at k ≡ Of who)). claim.2 ∙ ap Of (is.counted.once claim.0 who k claim.1 refers))
      (λ (none : (role_at k ≡ unclaimed k) × ((who : Who) → Refers s file who k → ⊥)). absurd (none.1 who refers))
      (role_says k)

  free_of : (u : Use) (who : Who) → u ≡ Free → u ≡ Of who → ⊥
  free_of u who a b = cc

  fresh_of : (u : Use) (who : Who) → u ≡ Fresh → u ≡ Of who → ⊥
  fresh_of u who a b = cc

  free_ready : (u : Use) → u ≡ Free → u ≡ Ready → ⊥
  free_ready u a b = cc

  fresh_ready : (u : Use) → u ≡ Fresh → u ≡ Ready → ⊥
  fresh_ready u a b = cc

  of_ready : (u : Use) (who : Who) → u ≡ Of who → u ≡ Ready → ⊥
  of_ready u who a b = cc

  of_who : (a b : Who) → Of a ≡ Of b → a ≡ b
  of_who a b e = cc

  -- who has this role refers to it
  pub role_back : (who : Who) (k : ℕ) → role_at k ≡ Of who → Refers s file who k
  role_back who k e = ⊎_elim
      (λ (claim : (who : Who) × Refers s file who k × (role_at k ≡ Of who)). subst (λ (w : Who). Refers s file w k) (of_who claim.0 who (sym claim.2 ∙ e)) claim.1)
      (λ (none : (role_at k ≡ unclaimed k) × ((who : Who) → Refers s file who k → ⊥)). ⊎_elim
      (λ (free : unclaimed k ≡ Free). absurd (free_of (role_at k) who (none.0 ∙ free) e))
      (λ (fresh : (unclaimed k ≡ Fresh) × (next ≤ k)). absurd (fresh_of (role_at k) who (none.0 ∙ fresh.0) e))
      (unclaimed_says k))
      (role_says k)

  never_ready : (k : ℕ) → role_at k ≡ Ready → ⊥
  never_ready k e = ⊎_elim
      (λ (claim : (who : Who) × Refers s file who k × (role_at k ≡ Of who)). of_ready (role_at k) claim.0 claim.2 e)
      (λ (none : (role_at k ≡ unclaimed k) × ((who : Who) → Refers s file who k → ⊥)). ⊎_elim
      (λ (free : unclaimed k ≡ Free). free_ready (role_at k) (none.0 ∙ free) e)
      (λ (fresh : (unclaimed k ≡ Fresh) × (next ≤ k)). fresh_ready (role_at k) (none.0 ∙ fresh.0) e)
      (unclaimed_says k))
      (role_says k)

  -- what is referred to is before the next
  pub below_next : (who : Who) (k : ℕ) → Refers s file who k → k < next
  below_next = is.below

  unclaimed_fresh : (k : ℕ) → next ≤ k → unclaimed k ≡ Fresh
  unfolding unclaimed
  unclaimed_fresh k from = elim (cases_lt k next) as (λ side. ⊎_elim (λ old. Free) (λ new. Fresh) side ≡ Fresh) [ inl old ↦ absurd (omega (arith, old, from)) | inr new ↦ refl ]

  pub fresh_from : (k : ℕ) → next ≤ k → role_at k ≡ Fresh
  fresh_from k from = ⊎_elim
      (λ (claim : (who : Who) × Refers s file who k × (role_at k ≡ Of who)). absurd (omega (arith, below_next claim.0 k claim.1, from)))
      (λ (none : (role_at k ≡ unclaimed k) × ((who : Who) → Refers s file who k → ⊥)). none.0 ∙ unclaimed_fresh k from)
      (role_says k)

  pub one_block : (i a b : ℕ) → role_at a ≡ Of (Block i) → role_at b ≡ Of (Block i) → a ≡ b
  one_block i a b x y =
      let first : IsBlock s file i a = role_back (Block i) a x in
      let second : IsBlock s file i b = role_back (Block i) b y in
      place_same s a b is.shape.some (sym first.at ∙ second.at)

  -- in each file with these bytes that has what is referred to
  pub opened_lies : (c : List ℕ) → IsLonger file c → IsReaching c → Lies s role_at c
  opened_lies c longer long = record {
    refs = λ who k refers. role_of who k (same_refers s c file (λ i. sym (longer.bytes i)) who k refers);
    used = λ k taken blocks. ⊎_elim
        (λ (claim : (who : Who) × Refers s file who k × (role_at k ≡ Of who)).
        let n = is.counted.counted claim.0 k claim.1 in
        record {
          many = n.0;
          some = n.1;
          counted = same_counted s file c longer.bytes k n.0 n.2;
          below = is.counted.below claim.0 k claim.1;
          inside = long claim.0 k claim.1;
        })
        (λ (none : (role_at k ≡ unclaimed k) × ((who : Who) → Refers s file who k → ⊥)). ⊎_elim
        (λ (free : unclaimed k ≡ Free). absurd (subst IsTaken (none.0 ∙ free) taken))
        (λ (fresh : (unclaimed k ≡ Fresh) × (next ≤ k)). absurd (subst IsTaken (none.0 ∙ fresh.0) taken))
        (unclaimed_says k))
        (role_says k);
    ones = λ k e. absurd (never_ready k e);
    zeros = λ k blank i from to. longer.bytes i ∙ byte_past file i (⊎_elim
        (λ (claim : (who : Who) × Refers s file who k × (role_at k ≡ Of who)). absurd (subst IsBlank claim.2 blank))
        (λ (none : (role_at k ≡ unclaimed k) × ((who : Who) → Refers s file who k → ⊥)). ⊎_elim
        (λ (free : unclaimed k ≡ Free). absurd (subst IsBlank (none.0 ∙ free) blank))
        (λ (fresh : (unclaimed k ≡ Fresh) × (next ≤ k)). omega (arith, is.end, from, place_more s next k fresh.1))
        (unclaimed_says k))
        (role_says k));
    blocks = λ i k e. inr (same_block s file c longer.bytes i k (role_back (Block i) k e));
    fixed = λ k fixed i from to. longer.bytes i ∙ held_bytes k fixed i from to;
  }
    where
      held_who : (who : Who) (k : ℕ) → IsFixedFor who → Refers s file who k → IsHeld s k
      held_who Head k fixed refers = inl refers
      held_who Counts k fixed refers = absurd fixed
      held_who (Block i) k fixed refers = absurd fixed
      held_who Tables k fixed refers = absurd fixed
      held_who (Table i) k fixed refers = absurd fixed
      held_who (Guest i j) k fixed refers = absurd fixed
      held_who (Bitmaps held) k fixed refers = inr (held, refers)

      held_bytes : (k : ℕ) → IsFixed (role_at k) → SameIn s k s.base file
      held_bytes k fixed = ⊎_elim
          (λ (claim : (who : Who) × Refers s file who k × (role_at k ≡ Of who)). is.fixed k (held_who claim.0 k (subst IsFixed claim.2 fixed) claim.1))
          (λ (none : (role_at k ≡ unclaimed k) × ((who : Who) → Refers s file who k → ⊥)). ⊎_elim
          (λ (free : unclaimed k ≡ Free). absurd (subst IsFixed (none.0 ∙ free) fixed))
          (λ (fresh : (unclaimed k ≡ Fresh) × (next ≤ k)). absurd (subst IsFixed (none.0 ∙ fresh.0) fixed))
          (unclaimed_says k))
          (role_says k)

  pub opened_good : (c : List ℕ) → IsLonger file c → IsReaching c → IsGood s role_at (file ∷ []) c
  opened_good c longer long = record {
    lies = opened_lies c longer long;
    forms = same_forms s file c longer.bytes is.forms;
    kept = λ i j o i_in j_in o_in. inl (same_shows s file c longer.bytes i j o);
  }

  pub opened_safe : (c : List ℕ) → IsLonger file c → IsSafe s (file ∷ []) c
  opened_safe c longer = record {
    counted = same_all s file c longer.bytes is.counted;
    forms = same_forms s file c longer.bytes is.forms;
    fixed = λ k held i from to. longer.bytes i ∙ is.fixed k held i from to;
    kept = λ i j o i_in j_in o_in. inl (same_shows s file c longer.bytes i j o);
  }

-- ---- a zero byte at the end makes a file longer

pub reaches : (s : Shape) (next whole finish : ℕ) (file bytes old new : List ℕ) → IsExtending s next whole finish file → length bytes ≡ 1 → byte bytes 0 ≡ 0 → IsReach s next file old → IsTorn finish bytes old new → IsReach s next file new
reaches s next whole finish file bytes old new is one is_zero was torn = record {
  is = record {
    longer = omega (arith, was.is.longer, torn.no_shorter);
    bytes = λ i. elim (cases_lt i (length file)) [
      | inl inside ↦ torn_elsewhere finish bytes old new i torn (inl (omega (arith, inside, is.short))) ∙ was.is.bytes i
      | inr past ↦ ⊎_elim
          (λ (none : byte new i ≡ 0). none ∙ sym (byte_past file i past))
          (λ rest. ⊎_elim (λ (same : byte new i ≡ byte old i). same ∙ was.is.bytes i) (λ (done : byte new i ≡ byte (overlay old finish bytes) i). done ∙ over i past) rest)
          (torn_byte finish bytes old new i torn)
    ];
  };
  end = omega (arith, torn.no_longer, length-overlay old finish bytes (omega (arith, one)), one, is.ends, place_more s whole next is.order, was.end);
}
  where
    over : (i : ℕ) → length file ≤ i → byte (overlay old finish bytes) i ≡ byte file i
    over i past = elim (cases_eq i finish) [
      | inl at ↦ byte-overlay_in old finish bytes i (omega arith) (omega (arith, one)) ∙ (let e : i - finish ≡ 0 = omega arith in ap (byte bytes) e) ∙ is_zero ∙ sym (byte_past file i past)
      | inr off ↦ byte-overlay_outside old finish bytes i (elim (cases_lt i finish) [ inl before ↦ inl before | inr after ↦ inr (omega (arith, one, off)) ]) ∙ was.is.bytes i
    ]
