-- What each change makes of a file that is good.
use Rattle.std.proofs.Common.{◌≡◌, ◌⊎◌, inl, inr, ⊎_elim, ℕ, ◌+◌, ◌*◌, ◌/◌, ◌%◌, ◌^◌, ◌<◌, ◌≤◌, List, ◌∷◌, length, Some, refl, sym, ◌∙◌, ap, subst, arith}
use Rattle.std.proofs.lemmas.Bool.{cases_eq, cases_lt}
use Rattle.std.proofs.Math.Nat.{mul-le-mul_left}
use Rattle.std.proofs.Math.Pow.{pow_mono}
use Rattle.std.specs.Int.{from_be_bytes, w64}
use Rattle.disk_model.specs.Files.{byte, u64_at, overlay, AgreesAt, IsTorn}
use Rattle.disk_model.proofs.Laws.{whole_torn, number-overlay_same, byte_past}
use Rattle.qc_layout.specs.Disks.{bits_of}
use Rattle.qc_layout.specs.Owners.{Held}
use Rattle.image_model.specs.Clusters.{Shape, size, place, offset, if_zero, stored, Who, Head, Counts, Block, Tables, Table, Guest, IsBlock, Refers, IsCounted, AllCounted, Use, Ready, Of, IsTaken, IsBlank, IsFixed, SameIn, IsZero, IsUsed, IsShape, Lies, IsTableWord, IsGuestWord, IsKept, IsGood, IsSafe, IsLink, IsTaking, Bitmaps, IsOwnCount}
use Rattle.image_steps.proofs.Places.{Spares, torn_spares, spares_more}
use Rattle.image_steps.proofs.Steps.{taken_of, guest_none_word}
use Rattle.image_steps.proofs.Kept.{stored_none, host_none, shown}
use Rattle.image_steps.proofs.Steps as steps
use Rattle.image_steps.proofs.Kept as kept

-- ---- lists of disks

pub more_safe : (s : Shape) (disks : List (List ℕ)) (e c : List ℕ) → IsSafe s disks c → IsSafe s (e ∷ disks) c
more_safe s disks e c is = record { counted = is.counted; forms = is.forms; fixed = is.fixed; kept = λ i j o i_in j_in o_in. inr (is.kept i j o i_in j_in o_in) }

pub more_good : (s : Shape) (role : ℕ → Use) (disks : List (List ℕ)) (e c : List ℕ) → IsGood s role disks c → IsGood s role (e ∷ disks) c
more_good s role disks e c is = record { lies = is.lies; forms = is.forms; kept = λ i j o i_in j_in o_in. inr (is.kept i j o i_in j_in o_in) }

pub is_shown : (s : Shape) (disks : List (List ℕ)) (e : List ℕ) → IsKept s (e ∷ disks) e
is_shown s disks e i j o i_in j_in o_in = inl (λ t low high. refl)

-- ---- a good file is safe

pub all_counted : (s : Shape) (role : ℕ → Use) (file : List ℕ) → Lies s role file → AllCounted s file
all_counted s role file lies = record {
  once = λ a b k refers_a refers_b. of_same a b (sym (lies.refs a k refers_a) ∙ lies.refs b k refers_b);
  below = λ a k refers. (used_by a k refers).below;
  counted = λ a k refers. let w = used_by a k refers in (w.many, w.some, w.counted);
}
  where
    of_same : (a b : Who) → Of a ≡ Of b → a ≡ b
    of_same a b e = cc

    block_of : (a : Who) (k i : ℕ) → Refers s file a k → role k ≡ Of a → role k ≡ Of (Block i) → IsBlock s file i k
    block_of a k i refers is is_block =
        let same : a ≡ Block i = cc in
        subst (λ (who : Who). Refers s file who k) same refers

    used_by : (a : Who) (k : ℕ) → Refers s file a k → IsUsed s file k
    used_by a k refers = lies.used k (taken_of role k a (lies.refs a k refers)) (λ i is. block_of a k i refers (lies.refs a k refers) is)

pub safe : (s : Shape) (role : ℕ → Use) (disks : List (List ℕ)) (c : List ℕ) → IsGood s role disks c → IsSafe s disks c
safe s role disks c good = record {
  counted = all_counted s role c good.lies;
  forms = good.forms;
  fixed = λ k held. ⊎_elim
      (λ (head : k ≡ 0). good.lies.fixed k (subst IsFixed (sym (good.lies.refs Head k head)) tt))
      (λ (h : (held : Held) × (s.owner k ≡ Some held)). good.lies.fixed k (subst IsFixed (sym (good.lies.refs (Bitmaps h.0) k h.1)) tt))
      held;
  kept = good.kept;
}

-- ---- roles change

-- a cluster's new role, and that it may have it
pub record Change (s : Shape) (role_on : ℕ → Use) (file : List ℕ) (k : ℕ) : Type 0 where
  pub refs : (who : Who) → Refers s file who k → role_on k ≡ Of who
  pub used : IsTaken (role_on k) → ((i : ℕ) → role_on k ≡ Of (Block i) → IsBlock s file i k) → IsUsed s file k
  pub ones : role_on k ≡ Ready → IsCounted s file k 1
  pub zeros : IsBlank (role_on k) → IsZero s file k
  pub blocks : (i : ℕ) → role_on k ≡ Of (Block i) → IsOwnCount s i k ⊎ IsBlock s file i k
  pub fixed : IsFixed (role_on k) → SameIn s k s.base file

pub recast : (s : Shape) (role role_on : ℕ → Use) (file : List ℕ) → Lies s role file → ((k : ℕ) → (role_on k ≡ role k) ⊎ Change s role_on file k) → Lies s role_on file
recast s role role_on file lies changes = record {
  refs = λ who k refers. ⊎_elim (λ same. same ∙ lies.refs who k refers) (λ (c : Change s role_on file k). c.refs who refers) (changes k);
  used = λ k taken blocks. ⊎_elim
      (λ same. lies.used k (subst IsTaken same taken) (λ i is. blocks i (same ∙ is)))
      (λ (c : Change s role_on file k). c.used taken blocks) (changes k);
  ones = λ k ready. ⊎_elim (λ same. lies.ones k (sym same ∙ ready)) (λ (c : Change s role_on file k). c.ones ready) (changes k);
  zeros = λ k blank. ⊎_elim (λ same. lies.zeros k (subst IsBlank same blank)) (λ (c : Change s role_on file k). c.zeros blank) (changes k);
  blocks = λ i k is. ⊎_elim (λ same. lies.blocks i k (sym same ∙ is)) (λ (c : Change s role_on file k). c.blocks i is) (changes k);
  fixed = λ k fixed. ⊎_elim (λ same. lies.fixed k (subst IsFixed same fixed)) (λ (c : Change s role_on file k). c.fixed fixed) (changes k);
}

-- an owner that is no block, whose cluster needn't stay
abbrev pub IsTaker : Who → Type 0
IsTaker Head = ⊥
IsTaker Counts = ⊥
IsTaker (Block i) = ⊥
IsTaker Tables = ⊥
IsTaker (Table i) = Unit {0}
IsTaker (Guest i j) = Unit {0}
IsTaker (Bitmaps held) = ⊥

-- a ready cluster is taken
pub take : (s : Shape) (role role_on : ℕ → Use) (k : ℕ) (who : Who) (file : List ℕ) → IsTaker who → IsTaking role role_on k who → Lies s role file → Lies s role_on file
take s role role_on k who file taker taking lies = recast s role role_on file lies (λ m. elim (cases_eq m k) [
  | inr differ ↦ inl (taking.others m differ)
  | inl same ↦ inr (subst (Change s role_on file) (sym same) (record {
    refs = λ w refers. absurd (ready_not w (lies.refs w k refers));
    used = λ taken blocks. lies.used k (subst IsTaken (sym taking.ready) tt) (λ i e. absurd (ready_not (Block i) e));
    ones = λ e. absurd (taken_not e);
    zeros = λ blank. absurd (subst IsBlank taking.taken blank);
    blocks = λ i e. absurd (no_block i who taker (sym taking.taken ∙ e));
    fixed = λ fixed. absurd (not_fixed who taker (subst IsFixed taking.taken fixed));
  }))
])
  where
    ready_not : (w : Who) → role k ≡ Of w → ⊥
    ready_not w e = let r = taking.ready in cc

    taken_not : role_on k ≡ Ready → ⊥
    taken_not e = let r = taking.taken in cc

    no_block : (i : ℕ) (w : Who) → IsTaker w → Of w ≡ Of (Block i) → ⊥
    no_block i Head t e = t
    no_block i Counts t e = t
    no_block i (Block j) t e = t
    no_block i Tables t e = t
    no_block i (Table j) t e = cc
    no_block i (Guest j l) t e = cc
    no_block i (Bitmaps held) t e = t

    not_fixed : (w : Who) → IsTaker w → IsFixed (Of w) → ⊥
    not_fixed Head t f = t
    not_fixed Counts t f = f
    not_fixed (Block j) t f = f
    not_fixed Tables t f = f
    not_fixed (Table j) t f = f
    not_fixed (Guest j l) t f = f
    not_fixed (Bitmaps held) t f = t

-- ---- links

pub size_small : (s : Shape) → IsShape s → size s ≤ 2 ^ 21
size_small s shape =
    let most : 2 ^ bits_of s.base ≤ 2 ^ 21 = pow_mono shape.small in
    subst (λ (x : ℕ). x ≤ 2 ^ 21) shape.cluster most

pub place_small : (s : Shape) (k : ℕ) → IsShape s → k < s.reach → place s k < 2 ^ 56
unfolding place
place_small s k shape below =
    let less : k < 2 ^ 30 = omega (arith, below, shape.reach) in
    let bytes : 512 * s.sectors ≤ 2 ^ 21 = size_small s shape in
    let most : k * (512 * s.sectors) ≤ k * 2 ^ 21 = mul-le-mul_left k bytes in
    let same : 512 * (s.sectors * k) ≡ k * (512 * s.sectors) = grind arith in
    omega (arith, most, same, less)

pub record IsLinkWord (s : Shape) (w k : ℕ) : Type 0 where
  pub stored : stored w ≡ place s k
  pub offset : offset w ≡ place s k
  pub of_guest : IsGuestWord s w
  pub of_table : IsTableWord s w

pub link_word : (s : Shape) (k w : ℕ) → IsShape s → 0 < k → k < s.reach → IsLink s w k → IsLinkWord s w k
unfolding place offset stored
link_word s k w shape some below is =
    let less : place s k < 2 ^ 56 = place_small s k shape below in
    let even : w % 2 ≡ 0 = omega (arith, is) in
    let at : 512 * (w / 512 % 2 ^ 47) ≡ 512 * (s.sectors * k) = omega (arith, is, less) in
    record {
      stored = ap (λ (b : ℕ). if_zero b (512 * (w / 512 % 2 ^ 47))) even ∙ at;
      offset = at;
      of_guest = record { plain = omega (arith, is, less); low = omega (arith, is); high = omega (arith, is, less); at = inr (record { cluster = k; some = some; is = at }) };
      of_table = record { low = omega (arith, is); high = omega (arith, is, less); at = inr (record { cluster = k; some = some; is = at }) };
    }

-- a byte after a write that was torn
pub torn_byte : (at : ℕ) (bytes old new : List ℕ) (i : ℕ) → IsTorn at bytes old new → (byte new i ≡ 0) ⊎ ((byte new i ≡ byte old i) ⊎ (byte new i ≡ byte (overlay old at bytes) i))
torn_byte at bytes old new i torn = elim (cases_lt i (length new)) [
  | inr past ↦ inl (byte_past new i (omega (arith, past)))
  | inl inside ↦ inr (⊎_elim (λ (as_old : AgreesAt (i / 512) new old). inl (as_old i (omega arith) (omega arith) inside)) (λ (done : AgreesAt (i / 512) new (overlay old at bytes)). inr (done i (omega arith) (omega arith) inside)) (torn.sectors (i / 512)))
]

-- ---- an entry of the first level

module _ (s : Shape) (shape : IsShape s) (disks : List (List ℕ)) (role : ℕ → Use) (table i0 : ℕ) (some : 0 < table) (i_in : i0 < s.tables) (is_table : role table ≡ Of (Table i0)) (bytes : List ℕ) (eight : length bytes ≡ 8) (link : IsLink s (from_be_bytes w64 bytes) table) where
  abbrev row : ℕ
  row = s.l1 + 8 * i0

  pub row_spared : (old : List ℕ) → Spares row 8 old (overlay old row bytes)
  row_spared old = spares_more row (length bytes) row 8 old (overlay old row bytes) (omega arith) (omega (arith, eight)) (torn_spares row bytes old (overlay old row bytes) (whole_torn row bytes old))

  table_below : (old : List ℕ) → IsGood s role disks old → table < s.reach
  table_below old good = (good.lies.used table (taken_of role table (Table i0) is_table) (λ b e. absurd (not_block b e))).below
    where
      not_block : (b : ℕ) → role table ≡ Of (Block b) → ⊥
      not_block b e = cc

  row_says : (old : List ℕ) → IsGood s role disks old → IsLinkWord s (from_be_bytes w64 bytes) table
  row_says old good = link_word s table (from_be_bytes w64 bytes) shape some (table_below old good) link

  pub row_set : (old : List ℕ) → IsGood s role disks old → offset (u64_at (overlay old row bytes) row) ≡ place s table
  row_set old good = ap offset (number-overlay_same w64 old row bytes eight) ∙ (row_says old good).offset

  pub row_linked : (before old : List ℕ) → IsGood s role disks before → offset (u64_at before row) ≡ 0 → IsGood s role disks old → IsZero s old table → IsGood s role disks (overlay old row bytes)
  row_linked before old is none good zeros = record {
    lies = steps.table_keeps s shape.some role old (overlay old row bytes) good.lies table i0 i_in is_table zeros (row_spared old) (row_set old good);
    forms = steps.table_forms s shape.some role old (overlay old row bytes) good.lies table i0 i_in is_table zeros (row_spared old) (row_set old good) good.forms
        (subst (IsTableWord s) (sym (number-overlay_same w64 old row bytes eight)) (row_says old good).of_table);
    kept = kept.table_kept s shape.some role old (overlay old row bytes) good.lies good.forms table i0 i_in some is_table zeros (row_spared old) (row_set old good) disks before none is.kept good.kept;
  }
