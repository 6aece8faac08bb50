-- A file with another first sector is as another shape says.
use Rattle.std.proofs.Common.{min, ◌≡◌, ◌≢◌, ◌⊎◌, inl, inr, ⊎_elim, ℕ, zero, suc, ◌+◌, ◌*◌, ◌^◌, ◌<◌, ◌≤◌, Bool, true, false, IsTrue, List, [], ◌∷◌, length, Option, None, Some, refl, sym, ◌∙◌, ap, subst, arith}
use Rattle.std.proofs.lemmas.Bool.{cases_lt}
use Rattle.std.specs.Int.{w32, w64}
use Rattle.disk_model.specs.Files.{IsOutcome, IsLatest, byte, u64_at, overlay}
use Rattle.disk_model.specs.World.{World, Parts, Runs, Syncs, HasSynced, versions, IsSound, EachNow, EachSinceSync, Holds}
use Rattle.disk_model.proofs.Laws.{number_same, same_file, byte-overlay_in, byte-overlay_outside, length-overlay_inside, told_at, whole_torn, synced_exact, sync_keeps, since_sync, sync_more}
use Rattle.qc_layout.specs.Header.{fields_of}
use Rattle.qc_layout.specs.Disks.{bits_of, words_in, counts_in}
use Rattle.qc_layout.specs.Owners.{Held}
use Rattle.image_model.specs.Clusters.{Shape, size, per, place, Who, Head, Counts, Block, Tables, Table, Guest, Bitmaps, IsBlock, IsTable, IsGuest, Refers, IsCounted, Use, Free, Fresh, Spare, Ready, Of, IsTaken, IsBlank, IsFixed, IsFixedFor, SameIn, IsZero, IsUsed, IsShape, IsPlace, IsOffset, Lies, Forms, IsTableWord, IsGuestWord, IsKept, IsGood, IsSafe, IsHeld, IsOwn, IsOwnCount, Standing, IsStanding, Moves}
use Rattle.image_model.specs.Turns.{SameNumbers, SameHead, IsLoose, IsTurn, Stood, rebased, IsTurned, Turns, Wavering, Turning, IsEither}
use Rattle.image_steps.proofs.Places.{Spares, Elsewhere, within, spares_more, torn_spares, place_zero}
use Rattle.image_steps.proofs.Steps.{taken_of, same_count, guest_back}
use Rattle.image_steps.proofs.Good.{safe, is_shown}
use Rattle.image_steps.proofs.Frame as frame
use Rattle.image_steps.proofs.Kept as kept

-- ---- headers

-- a header's numbers lie in its first sector
pub fields_same : (a b : List ℕ) → ((i : ℕ) → i < 512 → byte a i ≡ byte b i) → fields_of a ≡ fields_of b
unfolding fields_of
fields_same a b same =
    let at_0 = number_same w32 a b 0 (λ i low high. same i (omega arith)) in
    let at_4 = number_same w32 a b 4 (λ i low high. same i (omega arith)) in
    let at_8 = number_same w64 a b 8 (λ i low high. same i (omega arith)) in
    let at_16 = number_same w32 a b 16 (λ i low high. same i (omega arith)) in
    let at_20 = number_same w32 a b 20 (λ i low high. same i (omega arith)) in
    let at_24 = number_same w64 a b 24 (λ i low high. same i (omega arith)) in
    let at_32 = number_same w32 a b 32 (λ i low high. same i (omega arith)) in
    let at_36 = number_same w32 a b 36 (λ i low high. same i (omega arith)) in
    let at_40 = number_same w64 a b 40 (λ i low high. same i (omega arith)) in
    let at_48 = number_same w64 a b 48 (λ i low high. same i (omega arith)) in
    let at_56 = number_same w32 a b 56 (λ i low high. same i (omega arith)) in
    let at_60 = number_same w32 a b 60 (λ i low high. same i (omega arith)) in
    let at_64 = number_same w64 a b 64 (λ i low high. same i (omega arith)) in
    let at_72 = number_same w64 a b 72 (λ i low high. same i (omega arith)) in
    let at_80 = number_same w64 a b 80 (λ i low high. same i (omega arith)) in
    let at_88 = number_same w64 a b 88 (λ i low high. same i (omega arith)) in
    let at_96 = number_same w32 a b 96 (λ i low high. same i (omega arith)) in
    let at_100 = number_same w32 a b 100 (λ i low high. same i (omega arith)) in
    let at_104 = same 104 (omega arith) in
    cc

-- ---- shapes

shape_from : (a b c d e g a' b' c' d' e' g' : ℕ) (owner : ℕ → Option Held) (base : List ℕ) → a' ≡ a → b' ≡ b → c' ≡ c → d' ≡ d → e' ≡ e → g' ≡ g
    → (let t : Shape = record { sectors = a'; counts = b'; blocks = c'; l1 = d'; tables = e'; reach = g'; owner = owner; base = base } in
    let u : Shape = record { sectors = a; counts = b; blocks = c; l1 = d; tables = e; reach = g; owner = owner; base = base } in t ≡ u)
shape_from a b c d e g a' b' c' d' e' g' owner base p q r x y z = cc

pub same_numbers : (s t : Shape) → SameNumbers s t → t ≡ rebased s t.owner t.base
same_numbers s t same = shape_from s.sectors s.counts s.blocks s.l1 s.tables s.reach t.sectors t.counts t.blocks t.l1 t.tables t.reach t.owner t.base same.sectors same.counts same.blocks same.l1 same.tables same.reach

module _ (s : Shape) (owner : ℕ → Option Held) (base : List ℕ) where
  abbrev next : Shape
  next = rebased s owner base

  pub same_place : (k : ℕ) → place next k ≡ place s k
  unfolding place
  same_place k = refl

  to_block : (file : List ℕ) (i k : ℕ) → IsBlock s file i k → IsBlock next file i k
  unfolding place
  to_block file i k is = record { inside = is.inside; some = is.some; at = is.at }

  from_block : (file : List ℕ) (i k : ℕ) → IsBlock next file i k → IsBlock s file i k
  unfolding place
  from_block file i k is = record { inside = is.inside; some = is.some; at = is.at }

  from_table : (file : List ℕ) (i k : ℕ) → IsTable next file i k → IsTable s file i k
  unfolding place
  from_table file i k is = record { inside = is.inside; some = is.some; at = is.at }

  from_guest : (file : List ℕ) (i j k : ℕ) → IsGuest next file i j k → IsGuest s file i j k
  unfolding place
  from_guest file i j k is = record { table = is.table; linked = record { inside = is.linked.inside; some = is.linked.some; at = is.linked.at }; inside = is.inside; some = is.some; at = is.at }

  to_own : (i k : ℕ) → IsOwnCount s i k → IsOwnCount next i k
  to_own i k is = record { slot = is.slot; inside = is.inside; is = is.is }

  to_counted : (file : List ℕ) (k many : ℕ) → IsCounted s file k many → IsCounted next file k many
  unfolding place
  to_counted file k many is = record { index = is.index; slot = is.slot; block = is.block; is = is.is; inside = is.inside; linked = record { inside = is.linked.inside; some = is.linked.some; at = is.linked.at }; count = is.count }

  to_used : (file : List ℕ) (k : ℕ) → IsUsed s file k → IsUsed next file k
  unfolding place
  to_used file k is = record { many = is.many; some = is.some; counted = to_counted file k is.many is.counted; below = is.below; inside = is.inside }

  to_zero : (file : List ℕ) (k : ℕ) → IsZero s file k → IsZero next file k
  unfolding place
  to_zero file k is i low high = is i low high

  to_same : (k : ℕ) (a b : List ℕ) → SameIn s k a b → SameIn next k a b
  unfolding place
  to_same k a b is i low high = is i low high

  to_place : (at : ℕ) → IsPlace s at → IsPlace next at
  unfolding place
  to_place at is = record { cluster = is.cluster; some = is.some; is = is.is }

  to_offset : (at : ℕ) → IsOffset s at → IsOffset next at
  to_offset at (inl none) = inl none
  to_offset at (inr is) = inr (to_place at is)

  to_forms : (file : List ℕ) → Forms s file → Forms next file
  unfolding place
  to_forms file forms = record {
    blocks = λ i inside. to_offset _ (forms.blocks i inside);
    tables = λ i inside. let w = forms.tables i inside in record { low = w.low; high = w.high; at = to_offset _ w.at };
    entries = λ i q j is inside. let w = forms.entries i q j (from_table file i q is) inside in record { plain = w.plain; low = w.low; high = w.high; at = to_offset _ w.at };
  }

-- ---- roles

-- what a cluster is for that was the header's or a bitmap's
left : Who → Use
left Head = Spare
left Counts = Of Counts
left (Block i) = Of (Block i)
left Tables = Of Tables
left (Table i) = Of (Table i)
left (Guest i j) = Of (Guest i j)
left (Bitmaps held) = Spare

turned : Use → Option Held → Use
turned u (Some held) = Of (Bitmaps held)
turned Free None = Free
turned Fresh None = Fresh
turned Spare None = Spare
turned Ready None = Ready
turned (Of who) None = left who

record AsHead (k : ℕ) (role_on : Use) : Type 0 where
  pub is : k ≡ 0
  pub on : role_on ≡ Of Head

record AsOwned (o : Option Held) (role_on : Use) : Type 0 where
  pub held : Held
  pub is : o ≡ Some held
  pub on : role_on ≡ Of (Bitmaps held)

record AsSame (u : Use) (o : Option Held) (role_on : Use) : Type 0 where
  pub none : o ≡ None
  pub on : role_on ≡ u
  pub no_head : u ≢ Of Head
  pub no_bitmap : (held : Held) → u ≢ Of (Bitmaps held)

-- it was the header's or a bitmap's
abbrev WasFixed : Use → Type 0
WasFixed u = (u ≡ Of Head) ⊎ ((held : Held) × (u ≡ Of (Bitmaps held)))

record AsLeft (u : Use) (o : Option Held) (role_on : Use) : Type 0 where
  pub none : o ≡ None
  pub on : role_on ≡ Spare
  pub was : WasFixed u

abbrev Four : ℕ → Use → Option Held → Use → Type 0
Four k u o on = AsHead k on ⊎ (AsOwned o on ⊎ (AsSame u o on ⊎ AsLeft u o on))

four_who : (k : ℕ) (who : Who) → Four k (Of who) None (left who)
unfolding left
four_who k Head = inr (inr (inr (record { none = refl; on = refl; was = inl refl })))
four_who k Counts = inr (inr (inl (record { none = refl; on = refl; no_head = λ e. cc; no_bitmap = λ h e. cc })))
four_who k (Block i) = inr (inr (inl (record { none = refl; on = refl; no_head = λ e. cc; no_bitmap = λ h e. cc })))
four_who k Tables = inr (inr (inl (record { none = refl; on = refl; no_head = λ e. cc; no_bitmap = λ h e. cc })))
four_who k (Table i) = inr (inr (inl (record { none = refl; on = refl; no_head = λ e. cc; no_bitmap = λ h e. cc })))
four_who k (Guest i j) = inr (inr (inl (record { none = refl; on = refl; no_head = λ e. cc; no_bitmap = λ h e. cc })))
four_who k (Bitmaps held) = inr (inr (inr (record { none = refl; on = refl; was = inr (held, refl) })))

four : (k : ℕ) (u : Use) (o : Option Held) → Four k u o (turned u o)
unfolding turned
four k u (Some held) = inr (inl (record { held = held; is = refl; on = refl }))
four k Free None = inr (inr (inl (record { none = refl; on = refl; no_head = λ e. cc; no_bitmap = λ h e. cc })))
four k Fresh None = inr (inr (inl (record { none = refl; on = refl; no_head = λ e. cc; no_bitmap = λ h e. cc })))
four k Spare None = inr (inr (inl (record { none = refl; on = refl; no_head = λ e. cc; no_bitmap = λ h e. cc })))
four k Ready None = inr (inr (inl (record { none = refl; on = refl; no_head = λ e. cc; no_bitmap = λ h e. cc })))
four k (Of who) None = four_who k who

fixed_was : (u : Use) → IsFixed u → WasFixed u
fixed_was Free fixed = absurd fixed
fixed_was Fresh fixed = absurd fixed
fixed_was Spare fixed = absurd fixed
fixed_was Ready fixed = absurd fixed
fixed_was (Of who) fixed = by_who who fixed
  where
    by_who : (who : Who) → IsFixedFor who → WasFixed (Of who)
    by_who Head fixed = inl refl
    by_who Counts fixed = absurd fixed
    by_who (Block i) fixed = absurd fixed
    by_who Tables fixed = absurd fixed
    by_who (Table i) fixed = absurd fixed
    by_who (Guest i j) fixed = absurd fixed
    by_who (Bitmaps held) fixed = inr (held, refl)

was_taken : (u : Use) → WasFixed u → IsTaken u
was_taken u (inl is) = subst IsTaken (sym is) tt
was_taken u (inr is) = subst IsTaken (sym is.1) tt

was_no_block : (u : Use) (i : ℕ) → WasFixed u → u ≢ Of (Block i)
was_no_block u i (inl is) e = cc
was_no_block u i (inr is) e = let was = is.1 in cc

turned_role : (role : ℕ → Use) (owner : ℕ → Option Held) → ℕ → Use
turned_role role owner zero = Of Head
turned_role role owner (suc k) = turned (role (suc k)) (owner (suc k))

view : (role : ℕ → Use) (owner : ℕ → Option Held) (k : ℕ) → Four k (role k) (owner k) (turned_role role owner k)
unfolding turned_role
view role owner zero = inl (record { is = refl; on = refl })
view role owner (suc k) = four (suc k) (role (suc k)) (owner (suc k))

-- ---- a file with another first sector

module _ (s : Shape) (some : 0 < s.sectors) (owner : ℕ → Option Held) (base : List ℕ) (disks : List (List ℕ)) (first last : ℕ) (old new : List ℕ) (st : Stood s disks first last old)
    (elsewhere : Elsewhere s st.role (Of Head) old new)
    (held : (k : ℕ) → IsHeld (rebased s owner base) k → SameIn s k base new)
    (owned : (k : ℕ) (h : Held) → owner k ≡ Some h → (s.owner k ≡ Some h) ⊎ IsLoose s first last k old) where
  abbrev to : Shape
  to = rebased s owner base

  abbrev lies : Lies s st.role old
  lies = st.good.lies

  role_on : ℕ → Use
  role_on = turned_role st.role owner

  at : (k : ℕ) → Four k (st.role k) (owner k) (role_on k)
  unfolding role_on
  at = view st.role owner

  head_role : st.role 0 ≡ Of Head
  head_role = lies.refs Head 0 refl

  head_at : (k : ℕ) → k ≡ 0 → st.role k ≡ Of Head
  head_at k is = ap st.role is ∙ head_role

  owned_at : (k : ℕ) (h : Held) → owner k ≡ Some h → (st.role k ≡ Of (Bitmaps h)) ⊎ IsLoose s first last k old
  owned_at k h is = ⊎_elim (λ (was : s.owner k ≡ Some h). inl (lies.refs (Bitmaps h) k was)) (λ (loose : IsLoose s first last k old). inr loose) (owned k h is)

  -- a cluster that isn't one of those that change hands
  stays : (k : ℕ) → (WasFixed (st.role k) → ⊥) → (IsLoose s first last k old → ⊥) → role_on k ≡ st.role k
  stays k plain kept = elim (at k) [
    | inl head ↦ absurd (plain (inl (head_at k head.is)))
    | inr (inl own) ↦ ⊎_elim (λ (was : st.role k ≡ Of (Bitmaps own.held)). absurd (plain (inr (own.held, was)))) (λ loose. absurd (kept loose)) (owned_at k own.held own.is)
    | inr (inr (inl same)) ↦ same.on
    | inr (inr (inr left)) ↦ absurd (plain left.was)
  ]

  block_on : (i q : ℕ) → IsBlock s old i q → IsBlock s new i q
  block_on = frame.block_on s some st.role old new lies (Of Head) elsewhere (λ e. cc)

  block_back : (i q : ℕ) → IsBlock s new i q → IsBlock s old i q
  block_back = frame.block_back s some st.role old new lies (Of Head) elsewhere (λ e. cc)

  table_back : (i q : ℕ) → IsTable s new i q → IsTable s old i q
  table_back = frame.table_back s some st.role old new lies (Of Head) elsewhere (λ e. cc)

  entry_same : (i q j : ℕ) → IsTable s old i q → j < per s → u64_at new (place s q + 8 * j) ≡ u64_at old (place s q + 8 * j)
  entry_same i q j is j_in = frame.word_in s some st.role old new lies (Of Head) elsewhere q j (λ e. not_head i (sym e ∙ lies.refs (Table i) q is)) j_in
    where
      not_head : (i : ℕ) → Of Head ≢ Of (Table i)
      not_head i e = cc

  used_on : (k : ℕ) → IsUsed s old k → IsUsed to new k
  used_on k is = to_used s owner base new k (record {
    many = is.many;
    some = is.some;
    counted = counted_on k is.many is.counted;
    below = is.below;
    inside = omega (arith, is.inside, elsewhere.longer);
  })
    where
      counted_on : (k many : ℕ) → IsCounted s old k many → IsCounted s new k many
      counted_on k many c = record { index = c.index; slot = c.slot; block = c.block; is = c.is; inside = c.inside; linked = block_on c.index c.block c.linked; count = same_count s some st.role old new lies (Of Head) elsewhere (λ i e. cc) k many c }

  refs_other : (who : Who) (k : ℕ) → (WasFixed (Of who) → ⊥) → Refers s old who k → role_on k ≡ Of who
  refs_other who k plain refers =
      let is = lies.refs who k refers in
      stays k (λ was. plain (subst WasFixed is was)) (λ loose. loose.none who refers) ∙ is

  refs_on : (who : Who) (k : ℕ) → Refers to new who k → role_on k ≡ Of who
  unfolding place role_on turned_role
  refs_on Head k refers = ap role_on refers
  refs_on Counts k refers = refs_other Counts k (λ w. no_counts w) (refers.0, refers.1)
    where
      no_counts : WasFixed (Of Counts) → ⊥
      no_counts (inl e) = cc
      no_counts (inr e) = let x = e.1 in cc
  refs_on (Block i) k refers = refs_other (Block i) k (λ w. was_no_block (Of (Block i)) i w refl) (block_back i k (from_block s owner base new i k refers))
  refs_on Tables k refers = refs_other Tables k (λ w. no_tables w) (refers.0, refers.1)
    where
      no_tables : WasFixed (Of Tables) → ⊥
      no_tables (inl e) = cc
      no_tables (inr e) = let x = e.1 in cc
  refs_on (Table i) k refers = refs_other (Table i) k (λ w. no_table w) (table_back i k (from_table s owner base new i k refers))
    where
      no_table : WasFixed (Of (Table i)) → ⊥
      no_table (inl e) = cc
      no_table (inr e) = let x = e.1 in cc
  refs_on (Guest i j) k refers =
      let is = from_guest s owner base new i j k refers in
      let was = table_back i is.table is.linked in
      refs_other (Guest i j) k (λ w. no_guest w) (guest_back s some st.role old new lies (Of Head) elsewhere table_back i j k is (entry_same i is.table j was is.inside))
    where
      no_guest : WasFixed (Of (Guest i j)) → ⊥
      no_guest (inl e) = cc
      no_guest (inr e) = let x = e.1 in cc
  refs_on (Bitmaps h) k refers = elim (at k) [
    | inl head ↦ ⊎_elim
        (λ (was : st.role k ≡ Of (Bitmaps h)). absurd (let e = head_at k head.is in cc))
        (λ (loose : IsLoose s first last k old). absurd (loose.none Head head.is))
        (owned_at k h refers)
    | inr (inl own) ↦ own.on ∙ (let e = own.is in let r = refers in cc)
    | inr (inr (inl same)) ↦ absurd (let e = same.none in let r = refers in cc)
    | inr (inr (inr left)) ↦ absurd (let e = left.none in let r = refers in cc)
  ]

  plain_of : (k : ℕ) (u : Use) → role_on k ≡ u → (WasFixed u → ⊥) → u ≢ Spare → (st.role k ≡ u) × (owner k ≡ None)
  plain_of k u is plain other = elim (at k) [
    | inl head ↦ absurd (plain (inl (sym is ∙ head.on)))
    | inr (inl own) ↦ absurd (plain (inr (own.held, sym is ∙ own.on)))
    | inr (inr (inl same)) ↦ (sym same.on ∙ is, same.none)
    | inr (inr (inr left)) ↦ absurd (other (sym is ∙ left.on))
  ]

  turned_lies : Lies to role_on new
  turned_lies = record {
    refs = refs_on;
    used = λ k taken blocks. used_on k (used_old k taken blocks);
    ones = λ k ready. to_counted s owner base new k 1 (ones_new k ready);
    zeros = λ k blank. to_zero s owner base new k (zeros_new k blank);
    blocks = λ i k is. own_new i k is;
    fixed = λ k fixed. to_same s owner base k base new (fixed_new k fixed);
  }
    where
      used_old : (k : ℕ) → IsTaken (role_on k) → ((i : ℕ) → role_on k ≡ Of (Block i) → IsBlock to new i k) → IsUsed s old k
      used_old k taken blocks = elim (at k) [
        | inl head ↦ lies.used k (was_taken (st.role k) (inl (head_at k head.is))) (λ i e. absurd (was_no_block (st.role k) i (inl (head_at k head.is)) e))
        | inr (inl own) ↦ ⊎_elim
            (λ (was : st.role k ≡ Of (Bitmaps own.held)). lies.used k (was_taken (st.role k) (inr (own.held, was))) (λ i e. absurd (was_no_block (st.role k) i (inr (own.held, was)) e)))
            (λ (loose : IsLoose s first last k old). loose.used)
            (owned_at k own.held own.is)
        | inr (inr (inl same)) ↦ lies.used k (subst IsTaken same.on taken) (λ i e. block_back i k (from_block s owner base new i k (blocks i (same.on ∙ e))))
        | inr (inr (inr left)) ↦ lies.used k (was_taken (st.role k) left.was) (λ i e. absurd (was_no_block (st.role k) i left.was e))
      ]

      ones_new : (k : ℕ) → role_on k ≡ Ready → IsCounted s new k 1
      ones_new k ready =
          let was = plain_of k Ready ready (λ w. elim w [ inl e ↦ cc | inr e ↦ (let x = e.1 in cc) ]) (λ e. cc) in
          let c = lies.ones k was.0 in
          record { index = c.index; slot = c.slot; block = c.block; is = c.is; inside = c.inside; linked = block_on c.index c.block c.linked; count = same_count s some st.role old new lies (Of Head) elsewhere (λ i e. cc) k 1 c }

      no_blank : (u : Use) → IsBlank u → WasFixed u → ⊥
      no_blank u blank (inl e) = subst IsBlank e blank
      no_blank u blank (inr e) = subst IsBlank e.1 blank

      zeros_new : (k : ℕ) → IsBlank (role_on k) → IsZero s new k
      zeros_new k blank =
          let was = plain_of k (role_on k) refl (no_blank (role_on k) blank) (λ e. subst IsBlank e blank) in
          frame.zeros_in s some st.role old new lies (Of Head) elsewhere k (λ e. subst IsBlank (sym was.0 ∙ e) blank) (lies.zeros k (subst IsBlank (sym was.0) blank))

      own_new : (i k : ℕ) → role_on k ≡ Of (Block i) → IsOwnCount to i k ⊎ IsBlock to new i k
      own_new i k is =
          let was = plain_of k (Of (Block i)) is (λ w. was_no_block (Of (Block i)) i w refl) (λ e. cc) in
          ⊎_elim (λ (own : IsOwnCount s i k). inl (to_own s owner base i k own)) (λ (linked : IsBlock s old i k). inr (to_block s owner base new i k (block_on i k linked))) (lies.blocks i k was.0)

      fixed_new : (k : ℕ) → IsFixed (role_on k) → SameIn s k base new
      fixed_new k fixed = elim (at k) [
        | inl head ↦ held k (inl head.is)
        | inr (inl own) ↦ held k (inr (own.held, own.is))
        | inr (inr (inl same)) ↦ elim (fixed_was (st.role k) (subst IsFixed same.on fixed)) [
          | inl e ↦ absurd (same.no_head e)
          | inr e ↦ absurd (same.no_bitmap e.0 e.1)
        ]
        | inr (inr (inr left)) ↦ absurd (subst IsFixed left.on fixed)
      ]

  turned_forms : Forms to new
  turned_forms = to_forms s owner base new (record {
    blocks = λ i inside. subst (IsOffset s) (sym (frame.block_word s some st.role old new lies (Of Head) elsewhere (λ e. cc) i inside)) (st.good.forms.blocks i inside);
    tables = λ i inside. subst (IsTableWord s) (sym (frame.l1_word s some st.role old new lies (Of Head) elsewhere (λ e. cc) i inside)) (st.good.forms.tables i inside);
    entries = λ i q j is inside. let was = table_back i q is in subst (IsGuestWord s) (sym (entry_same i q j was inside)) (st.good.forms.entries i q j was inside);
  })

  turned_kept : IsKept to disks new
  turned_kept = kept.outer_kept s some st.role old new lies st.good.forms (Of Head) elsewhere (λ e. cc) (λ i e. cc) (λ i j e. cc) disks st.good.kept

  own_on : (k : ℕ) → (IsLoose s first last k old → ⊥) → IsOwn s st.role k → IsOwn to role_on k
  own_on k kept own = (own.0, to_own s owner base own.0 k own.1, stays k (λ w. was_no_block (st.role k) own.0 w own.2) kept ∙ own.2)

  pub turned_stood : Stood to disks first last new
  turned_stood = record {
    role = role_on;
    order = st.order;
    ready = λ k low high.
        let kept : IsLoose s first last k old → ⊥ = λ loose. omega (arith, low, loose.low) in
        ⊎_elim (λ (is : st.role k ≡ Ready). inl (stays k (λ w. no_ready (st.role k) is w) kept ∙ is)) (λ (own : IsOwn s st.role k). inr (own_on k kept own)) (st.ready k low high);
    edge =
        let kept : IsLoose s first last last old → ⊥ = λ loose. omega (arith, loose.high) in
        ⊎_elim (λ (is : st.role last ≡ Fresh). inl (stays last (λ w. no_fresh (st.role last) is w) kept ∙ is)) (λ (own : IsOwn s st.role last). inr (own_on last kept own)) st.edge;
    fresh = λ k low. let is = st.fresh k low in stays k (λ w. no_fresh (st.role k) is w) (λ loose. omega (arith, low, loose.high)) ∙ is;
    one = λ i a b is_a is_b. st.one i a b (was_block i a is_a) (was_block i b is_b);
    linked = λ i k is low. to_block s owner base new i k (block_on i k (st.linked i k (was_block i k is) low));
    good = record { lies = turned_lies; forms = turned_forms; kept = turned_kept };
  }
    where
      was_block : (i k : ℕ) → role_on k ≡ Of (Block i) → st.role k ≡ Of (Block i)
      was_block i k is = (plain_of k (Of (Block i)) is (λ w. was_no_block (Of (Block i)) i w refl) (λ e. cc)).0

      no_ready : (u : Use) → u ≡ Ready → WasFixed u → ⊥
      no_ready u is (inl e) = cc
      no_ready u is (inr e) = let x = e.1 in cc

      no_fresh : (u : Use) → u ≡ Fresh → WasFixed u → ⊥
      no_fresh u is (inl e) = cc
      no_fresh u is (inr e) = let x = e.1 in cc

-- ---- the sector is written

module _ {s t : Shape} {first last : ℕ} {sector file : List ℕ} (size_is : length sector ≡ 512) (turn : IsTurn s t first last sector file) where
  sector_spares : Spares (place s 0) (size s) file (overlay file 0 sector)
  sector_spares = spares_more 0 (length sector) (place s 0) (size s) file (overlay file 0 sector) (omega (arith, place_zero s)) (omega (arith, place_zero s, size_is, turn.shape.some)) (torn_spares 0 sector file (overlay file 0 sector) (whole_torn 0 sector file))

  base_fields : fields_of t.base ≡ fields_of sector
  base_fields = fields_same t.base sector (λ i low.
      sym (turn.held 0 (inl refl) i (omega (arith, place_zero s)) (omega (arith, place_zero s, low, turn.shape.some)))
      ∙ byte-overlay_in file 0 sector i (omega arith) (omega (arith, low, size_is)) ∙ ap (byte sector) (omega arith))

  new_shape : IsShape (rebased s t.owner t.base)
  new_shape =
      let bits_are : bits_of t.base ≡ bits_of s.base = rw (bits_of, base_fields) turn.head.bits in
      let clusters : (fields_of t.base).refcount_table_clusters ≡ (fields_of s.base).refcount_table_clusters = rw base_fields turn.head.clusters in
      record {
        some = turn.shape.some;
        cluster = ap (λ (b : ℕ). 2 ^ b) bits_are ∙ turn.shape.cluster;
        small = omega (arith, bits_are, turn.shape.small);
        counts = rw base_fields (turn.head.counts ∙ turn.shape.counts);
        counts_place = to_place s t.owner t.base s.counts turn.shape.counts_place;
        blocks = same_blocks _ _ _ _ clusters bits_are ∙ turn.shape.blocks;
        l1 = rw base_fields (turn.head.l1 ∙ turn.shape.l1);
        l1_place = to_place s t.owner t.base s.l1 turn.shape.l1_place;
        tables = rw base_fields (turn.head.tables ∙ turn.shape.tables);
        reach = same_reach _ _ _ _ clusters bits_are ∙ turn.shape.reach;
      }
    where
      same_blocks : (c d b e : ℕ) → c ≡ d → b ≡ e → c * words_in b ≡ d * words_in e
      same_blocks c d b e p q = cc

      same_reach : (c d b e : ℕ) → c ≡ d → b ≡ e → min (2 ^ 30) (c * words_in b * counts_in b) ≡ min (2 ^ 30) (d * words_in e * counts_in e)
      same_reach c d b e p q = cc

  -- so t's numbers are the header's of its base
  pub turn_shape : IsShape t
  turn_shape = subst IsShape (sym (same_numbers s t turn.numbers)) new_shape

  pub turn_stood : {disks : List (List ℕ)} → Stood s disks first last file → Stood t disks first last (overlay file 0 sector)
  turn_stood {disks} st = subst (λ (x : Shape). Stood x disks first last (overlay file 0 sector)) (sym (same_numbers s t turn.numbers))
      (turned_stood s turn.shape.some t.owner t.base disks first last file (overlay file 0 sector) st
      (within s st.role (Of Head) 0 file (overlay file 0 sector) (st.good.lies.refs Head 0 refl) sector_spares) turn.held turn.owned)

-- a caller's own: the base is the file as reads give it then
pub turn_here : (s : Shape) (owner : ℕ → Option Held) (first last : ℕ) (sector file : List ℕ) → IsShape s → SameHead s.base sector
    → ((k : ℕ) (h : Held) → owner k ≡ Some h → (s.owner k ≡ Some h) ⊎ IsLoose s first last k file) → IsTurn s (rebased s owner (overlay file 0 sector)) first last sector file
turn_here s owner first last sector file shape head owned = record {
  shape = shape;
  numbers = record { sectors = refl; counts = refl; blocks = refl; l1 = refl; tables = refl; reach = refl };
  head = head;
  held = λ k is i low high. refl;
  owned = owned;
}

-- bitmaps own what they owned: only the header's numbers are asked
pub same_owners : (s : Shape) (first last : ℕ) (file : List ℕ) (k : ℕ) (h : Held) → s.owner k ≡ Some h → (s.owner k ≡ Some h) ⊎ IsLoose s first last k file
same_owners s first last file k h is = inl is

-- ---- before and after

-- the old file, or the one with the new sector
abbrev pub OldOrNew : List ℕ → List ℕ → List ℕ → Type 0
OldOrNew old sector file = (file ≡ old) ⊎ (file ≡ overlay old 0 sector)

pub stood_of : {s : Shape} {disks : List (List ℕ)} {first last f : ℕ} {w : World} → Standing s disks first last f w → Stood s disks first last (w.seen f)
stood_of st = record { role = st.role; order = st.order; ready = st.ready; edge = st.edge; fresh = st.fresh; one = st.one; linked = st.linked; good = st.seen }

pub stood_safe : {s : Shape} {disks : List (List ℕ)} {first last : ℕ} {file : List ℕ} → Stood s disks first last file → IsSafe s disks file
stood_safe {s} {disks} {first} {last} {file} st = safe s st.role disks file st.good

either_way : (s t : Shape) (disks : List (List ℕ)) (c : List ℕ) → IsEither s t disks c ⊎ IsEither s t disks c → IsEither s t disks c
either_way s t disks c (inl is) = is
either_way s t disks c (inr is) = is

-- where reads and each crash give this file
pub stood_stands : {s : Shape} {disks : List (List ℕ)} {first last f : ℕ} {w : World} → Stood s disks first last (w.seen f) → EachNow w f (λ c. c ≡ w.seen f) → Standing s (w.seen f ∷ []) first last f w
stood_stands {s} {disks} {first} {last} {f} {w} st same =
    let good : IsGood s st.role (w.seen f ∷ []) (w.seen f) = record { lies = st.good.lies; forms = st.good.forms; kept = is_shown s [] (w.seen f) } in
    record {
      role = st.role;
      order = st.order;
      ready = st.ready;
      edge = st.edge;
      fresh = st.fresh;
      one = st.one;
      linked = st.linked;
      seen = good;
      now = λ c left. subst (IsGood s st.role (w.seen f ∷ [])) (sym (same c left)) good;
    }

stood_long : {s : Shape} {disks : List (List ℕ)} {first last : ℕ} {file : List ℕ} → IsShape s → Stood s disks first last file → 512 ≤ length file
stood_long {s} {disks} {first} {last} {file} shape st =
    let head : st.role 0 ≡ Of Head = st.good.lies.refs Head 0 refl in
    omega (arith, (st.good.lies.used 0 (taken_of st.role 0 Head head) (λ i e. absurd (was_no_block (st.role 0) i (inl head) e))).inside, place_zero s, shape.some)

overlay_twice : (file sector : List ℕ) → length sector ≡ 512 → 512 ≤ length file → overlay (overlay file 0 sector) 0 sector ≡ overlay file 0 sector
overlay_twice file sector size_is long =
    let once : length (overlay file 0 sector) ≡ length file = length-overlay_inside file 0 sector (omega (arith, size_is, long)) in
    let twice : length (overlay (overlay file 0 sector) 0 sector) ≡ length (overlay file 0 sector) = length-overlay_inside (overlay file 0 sector) 0 sector (omega (arith, size_is, long, once)) in
    same_file (overlay (overlay file 0 sector) 0 sector) (overlay file 0 sector) twice
    (λ i inside. elim (cases_lt i 512) [
      | inl low ↦ byte-overlay_in (overlay file 0 sector) 0 sector i (omega arith) (omega (arith, low, size_is)) ∙ sym (byte-overlay_in file 0 sector i (omega arith) (omega (arith, low, size_is)))
      | inr past ↦ byte-overlay_outside (overlay file 0 sector) 0 sector i (inr (omega (arith, past, size_is)))
    ])

module _ (s t : Shape) (disks : List (List ℕ)) (first last : ℕ) (sector : List ℕ) (size_is : length sector ≡ 512) where
  abbrev IsTurning : List ℕ → Type 0
  IsTurning = Turns s t disks first last sector

  pub turns_long : (file : List ℕ) → IsTurning file → 512 ≤ length file
  turns_long file (inl is) = stood_long is.1.shape is.0
  turns_long file (inr is) = stood_long is.shape is.stood

  pub turns_safe : (file : List ℕ) → IsTurning file → IsEither s t disks file
  turns_safe file (inl is) = inl (stood_safe is.0)
  turns_safe file (inr is) = inr (stood_safe is.stood)

  turned_new : (file : List ℕ) → IsTurning file → IsTurned t disks first last sector (overlay file 0 sector)
  turned_new file (inl is) = record { stood = turn_stood size_is is.1 is.0; shape = turn_shape size_is is.1; same = overlay_twice file sector size_is (stood_long is.1.shape is.0) }
  turned_new file (inr is) = subst (IsTurned t disks first last sector) (sym is.same) is

  pub turns_on : (old file : List ℕ) → IsTurning old → OldOrNew old sector file → IsTurning file
  turns_on old file is (inl same) = subst IsTurning (sym same) is
  turns_on old file is (inr new) = inr (subst (IsTurned t disks first last sector) (sym new) (turned_new old is))

  -- a call that leaves the file as it was, or with the new sector
  module _ {parts : Parts} {f : ℕ} {a d : World} (sound_a : IsSound a) (sound_d : IsSound d) (run : Runs parts a d)
      (crash : 512 ≤ length (a.seen f) → EachSinceSync a d f (OldOrNew (a.seen f) sector))
      (seen : 512 ≤ length (a.seen f) → IsTrue a.tells → OldOrNew (a.seen f) sector (d.seen f)) where
    turns_since : IsTurning (a.seen f) → EachSinceSync a d f IsTurning
    turns_since is = sync_more (OldOrNew (a.seen f) sector) IsTurning (λ c either. turns_on (a.seen f) c is either) (crash (turns_long (a.seen f) is))

    pub turns_seen : IsTrue a.tells → IsTurning (a.seen f) → IsTurning (d.seen f)
    turns_seen told is = turns_on (a.seen f) (d.seen f) is (seen (turns_long (a.seen f) is) told)

    -- each crash since the first sync
    pub turns_crash : (IsTrue a.tells → IsTurning (a.seen f)) → EachSinceSync a d f (IsEither s t disks)
    turns_crash is = by_tells a.tells refl
      where
        by_tells : (b : Bool) → a.tells ≡ b → EachSinceSync a d f (IsEither s t disks)
        by_tells true told = sync_more IsTurning (IsEither s t disks) turns_safe (turns_since (is told))
        by_tells false told = record {
          moment = a.now;
          from = omega arith;
          to = omega (arith, run.goes.later);
          before = λ k low high most. absurd (omega (arith, low, high));
          since = λ k low high c left. absurd (let e : IsTrue false = subst IsTrue told (subst IsTrue run.goes.tells (told_at d k f c sound_d left)) in cc);
        }

    waits : Turning s t disks first last sector f a → IsTrue a.tells → IsTurning (a.seen f)
    waits is told = elim (is told) [
      | inl here ↦ inl (stood_of here.0, here.1)
      | inr between ↦ between.seen
    ]

    before : Turning s t disks first last sector f a → IsTrue a.tells → EachNow a f (IsEither s t disks)
    before is told c left = elim (is told) [
      | inl here ↦ inl (safe s here.0.role disks c (here.0.now c left))
      | inr between ↦ turns_safe c (between.now c left)
    ]

    -- as before, or between the two
    pub turns_stand : Turning s t disks first last sector f a → Turning s t disks first last sector f d
    turns_stand is told = elim (cases_lt d.now each.moment) [
      | inl early ↦
          let same : versions d f ≡ versions a f = each.before d.now run.goes.later early (omega arith) in
          unmoved same
      | inr late ↦ inr (record { seen = turns_seen told_a there; now = λ c left. each.since d.now late (omega arith) c left })
    ]
      where
        told_a : IsTrue a.tells
        told_a = subst IsTrue run.goes.tells told

        there : IsTurning (a.seen f)
        there = waits is told_a

        each : EachSinceSync a d f IsTurning
        each = turns_since there

        same_seen : (vs : List (List ℕ)) → IsLatest (a.seen f) vs → IsLatest (d.seen f) vs → (vs ≡ []) ⊎ (d.seen f ≡ a.seen f)
        same_seen [] x y = inl refl
        same_seen (v ∷ vs) x y = inr (y ∙ sym x)

        none_left : versions d f ≡ [] → (c : List ℕ) → IsOutcome (versions d f) c → ⊥
        none_left none c left = (subst (λ (vs : List (List ℕ)). IsOutcome vs c) none left).sectors 0

        unmoved : versions d f ≡ versions a f → (Standing s disks first last f d × IsTurn s t first last sector (d.seen f)) ⊎ Wavering s t disks first last sector f d
        unmoved same = elim (same_seen (versions a f) (sound_a.latest f) (subst (IsLatest (d.seen f)) same (sound_d.latest f))) [
          | inl none ↦ inr (record { seen = turns_seen told_a there; now = λ c left. absurd (none_left (same ∙ none) c left) })
          | inr seen_is ↦ elim (is told_a) [
            | inr between ↦ inr (record { seen = turns_seen told_a there; now = λ c left. between.now c (subst (λ (vs : List (List ℕ)). IsOutcome vs c) same left) })
            | inl here ↦
                let st = here.0 in
                inl (
                  record {
                    role = st.role;
                    order = st.order;
                    ready = st.ready;
                    edge = st.edge;
                    fresh = st.fresh;
                    one = st.one;
                    linked = λ i k is low. subst (λ (c : List ℕ). IsBlock s c i k) (sym seen_is) (st.linked i k is low);
                    seen = subst (IsGood s st.role disks) (sym seen_is) st.seen;
                    now = λ c left. st.now c (subst (λ (vs : List (List ℕ)). IsOutcome vs c) same left);
                  },
                  subst (IsTurn s t first last sector) (sym seen_is) here.1,
                )
          ]
        ]

    pub turns_move : Moves f (IsEither s t disks) (Turning s t disks first last sector f) (Turning s t disks first last sector f) a d
    turns_move = record {
      since = λ is k low high c left.
          let told : IsTrue a.tells = subst IsTrue run.goes.tells (told_at d k f c sound_d left) in
          either_way s t disks c (since_sync (IsEither s t disks) (IsEither s t disks) (before is told) (turns_crash (waits is)) k low high c left);
      stands = turns_stand;
    }

    -- once all is done
    pub turned_stands : Holds f (λ c. c ≡ overlay (a.seen f) 0 sector) (λ c. c ≡ overlay (a.seen f) 0 sector) d → (IsTrue a.tells → IsTurning (a.seen f)) → IsStanding t (d.seen f ∷ []) first last f d × (IsTrue a.tells → IsShape t)
    turned_stands holds is = (
      λ told.
          let new : d.seen f ≡ overlay (a.seen f) 0 sector = holds.seen told in
          stood_stands (subst (Stood t disks first last) (sym new) (turned_new (a.seen f) (is (subst IsTrue run.goes.tells told))).stood) (λ c left. holds.each c left ∙ sym new),
      λ told. (turned_new (a.seen f) (is told)).shape,
    )

    pub turned_move : Holds f (λ c. c ≡ overlay (a.seen f) 0 sector) (λ c. c ≡ overlay (a.seen f) 0 sector) d → Moves f (IsEither s t disks) (Turning s t disks first last sector f) (IsStanding t (d.seen f ∷ []) first last f) a d
    turned_move holds = record { since = turns_move.since; stands = λ is. (turned_stands holds (waits is)).0 }

-- ---- after one that failed, a sync tells which it is

pub turn_rests : {s t : Shape} {disks : List (List ℕ)} {first last f : ℕ} {sector : List ℕ} {a b : World} → IsSound a → Syncs f a b → HasSynced f a b → Turning s t disks first last sector f a → IsTrue b.tells
    → Standing s (b.seen f ∷ []) first last f b ⊎ (Standing t (b.seen f ∷ []) first last f b × IsShape t)
turn_rests {s} {t} {disks} {first} {last} {f} {sector} {a} {b} sound call synced is told =
    let told_a : IsTrue a.tells = subst IsTrue call.run.goes.tells told in
    let same = synced_exact sound call synced in
    elim (is told_a) [
      | inl here ↦ inl (stood_stands (subst (Stood s disks first last) (sym call.seen) (stood_of here.0)) same)
      | inr between ↦ elim between.seen [
        | inl old ↦ inl (stood_stands (subst (Stood s disks first last) (sym call.seen) old.0) same)
        | inr new ↦ inr (stood_stands (subst (Stood t disks first last) (sym call.seen) new.stood) same, new.shape)
      ]
    ]

pub turn_stays : {s t : Shape} {disks : List (List ℕ)} {first last f : ℕ} {sector : List ℕ} {a b : World} → IsSound a → IsSound b → Syncs f a b
    → Moves f (IsEither s t disks) (Turning s t disks first last sector f) (Turning s t disks first last sector f) a b
turn_stays {s} {t} {disks} {first} {last} {f} {sector} {a} {b} sound sound_b call = record {
  since = λ is k low high c left.
      let told : IsTrue a.tells = subst IsTrue call.run.goes.tells (told_at b k f c sound_b left) in
      elim (is told) [
        | inl here ↦ inl (safe s here.0.role disks c ((sync_keeps (IsGood s here.0.role disks) sound call).since here.0.now k low high c left))
        | inr between ↦ either_of c between ((sync_keeps (Turns s t disks first last sector) sound call).since between.now k low high c left)
      ];
  stands = λ is told.
      elim (is (subst IsTrue call.run.goes.tells told)) [
        | inl here ↦
            let st = here.0 in
            inl (
              record {
                role = st.role;
                order = st.order;
                ready = st.ready;
                edge = st.edge;
                fresh = st.fresh;
                one = st.one;
                linked = λ i k is low. subst (λ (c : List ℕ). IsBlock s c i k) (sym call.seen) (st.linked i k is low);
                seen = subst (IsGood s st.role disks) (sym call.seen) st.seen;
                now = λ c left. (sync_keeps (IsGood s st.role disks) sound call).after st.now c left;
              },
              subst (IsTurn s t first last sector) (sym call.seen) here.1,
            )
        | inr between ↦ inr (record { seen = subst (Turns s t disks first last sector) (sym call.seen) between.seen; now = λ c left. (sync_keeps (Turns s t disks first last sector) sound call).after between.now c left })
      ];
}
  where
    either_of : (c : List ℕ) → Wavering s t disks first last sector f a → Turns s t disks first last sector c → IsEither s t disks c
    either_of c between (inl is) = inl (stood_safe is.0)
    either_of c between (inr is) = inr (stood_safe is.stood)
