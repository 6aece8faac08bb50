-- The allocator's and the map's own views, from a standing and from the clauses of one call.
use Rattle.std.proofs.Common.{◌≡◌, ◌⊎◌, inl, inr, ⊎_elim, ℕ, ◌+◌, ◌-◌, ◌*◌, ◌/◌, ◌%◌, ◌<◌, ◌≤◌, List, length, IsTrue, sym, ◌∙◌, ap, subst, arith}
use Rattle.std.proofs.lemmas.Bool.{cases_eq, cases_lt}
use Rattle.std.proofs.lemmas.Nat.{div-mul-add, mod-mul-add}
use Rattle.std.proofs.Math.Nat.{div-add-mod, mod-lt}
use Rattle.disk_model.specs.Files.{byte, overlay}
use Rattle.disk_model.specs.World.{World, EachNow}
use Rattle.disk_model.proofs.Laws.{byte-overlay_in, byte-overlay_outside}
use Rattle.image_model.specs.Clusters.{Shape, size, per, place, Who, Block, Refers, IsBlock, IsOwnCount, IsCounted, IsZero, Use, Ready, Fresh, Of, IsBlank, IsGood, IsOwn, guest, IsStanding}
use Rattle.image_model.specs.Calls.{Told, IsAmong, IsTakeable, SameBut, Shows}
use Rattle.image_model.specs.Disks.{disk_of}
use Rattle.image_steps.proofs.Disk.{byte-disk_of}
use Rattle.image_steps.proofs.Standing.{is_ready, same_own}

-- ---- the allocator's

-- counted once, zero, and nothing refers to it
pub record IsFree (s : Shape) (k : ℕ) (file : List ℕ) : Type 0 where
  pub once : IsCounted s file k 1
  pub zero : IsZero s file k
  pub none : (who : Who) → Refers s file who k → ⊥

-- a ready cluster is so, in reads and after each crash
pub ready_is : {s : Shape} {disks : List (List ℕ)} {first last f : ℕ} {w : World} → IsStanding s disks first last f w → (told : IsTrue w.tells) → (k : ℕ) → IsAmong k first last → IsTakeable s k (w.seen f) → IsFree s k (w.seen f) × EachNow w f (IsFree s k)
ready_is {s} {disks} {first} {last} {f} {w} stands told k among takeable =
    let st = stands told in
    let ready = is_ready st k among takeable in
    let of_good : (c : List ℕ) → IsGood s st.role disks c → IsFree s k c = (λ c good. record {
      once = good.lies.ones k ready;
      zero = good.lies.zeros k (subst IsBlank (sym ready) tt);
      none = λ who refers. not_of (st.role k) who ready (good.lies.refs who k refers);
    }) in
    (of_good (w.seen f) st.seen, λ c left. of_good c (st.now c left))
  where
    not_of : (u : Use) (who : Who) → u ≡ Ready → u ≡ Of who → ⊥
    not_of u who a b = cc

-- the block that counts a cluster is linked
pub record HasBlock (s : Shape) (k : ℕ) (file : List ℕ) : Type 0 where
  pub index : ℕ
  pub counts : IsOwnCount s index k
  pub block : ℕ
  pub linked : IsBlock s file index block

-- fresh clusters are passed over, ready ones too
pub passes : {s : Shape} {disks : List (List ℕ)} {first last f : ℕ} {w : World} → IsStanding s disks first last f w → Told (HasBlock s last) f w → (m : ℕ) → last ≤ m → IsStanding s disks m m f w
passes {s} {disks} {first} {last} {f} {w} stands has m more told =
    let st = stands told in
    let b = has told in
    record {
      role = st.role;
      order = omega arith;
      ready = λ k low high. absurd (omega (arith, low, high));
      edge = elim (cases_eq m last) [
        | inl same ↦ subst (λ (k : ℕ). (st.role k ≡ Fresh) ⊎ IsOwn s st.role k) (sym same) st.edge
        | inr differ ↦ inl (st.fresh m (omega (arith, more, differ)))
      ];
      fresh = λ k from. st.fresh k (omega (arith, from, more));
      one = st.one;
      linked = λ i k of low. elim (cases_lt k last) [
        | inl before ↦ st.linked i k of before
        | inr from ↦ elim (cases_eq k last) [
          | inr past ↦ absurd (fresh_not (st.role k) i (st.fresh k (omega (arith, from, past))) of)
          | inl same ↦ ⊎_elim
              (λ (own : IsOwnCount s i k).
              let index : b.index ≡ i = same_own s b.index i k (subst (IsOwnCount s b.index) (sym same) b.counts) own in
              let linked : IsBlock s (w.seen f) i b.block = subst (λ (x : ℕ). IsBlock s (w.seen f) x b.block) index b.linked in
              subst (IsBlock s (w.seen f) i) (st.one i b.block k (st.seen.lies.refs (Block i) b.block linked) of) linked)
              (λ (is : IsBlock s (w.seen f) i k). is)
              (st.seen.lies.blocks i k of)
        ]
      ];
      seen = st.seen;
      now = st.now;
    }
  where
    fresh_not : (u : Use) (i : ℕ) → u ≡ Fresh → u ≡ Of (Block i) → ⊥
    fresh_not u i a b = cc

-- ---- the map's

-- A write in one cluster is the overlay of the disk's bytes.
pub one_cluster : (s : Shape) (n i j k t0 : ℕ) (bytes old new : List ℕ) → 0 < s.sectors → ((x : ℕ) → x < n → x / size s / per s < s.tables) → t0 + length bytes ≤ size s → j < per s → SameBut s i j old new
    → Shows s i j k (place s k + t0) bytes (guest s old i j) new → (x : ℕ) → x < n → byte (disk_of s n new) x ≡ byte (overlay (disk_of s n old) ((i * per s + j) * size s + t0) bytes) x
one_cluster s n i j k t0 bytes old new some covers short j_in but shows x x_in =
    byte-disk_of s n new x x_in ∙ elim (cases_eq (x / size s / per s) i) [
      | inr differ ↦ elsewhere (λ row slot. differ row)
      | inl row ↦ elim (cases_eq (x / size s % per s) j) [
        | inr differ ↦ elsewhere (λ row slot. differ slot)
        | inl slot ↦ here row slot
      ]
    ]
  where
    whole : size s * (x / size s) + x % size s ≡ x
    whole = div-add-mod x (size s)

    rows : per s * (x / size s / per s) + x / size s % per s ≡ x / size s
    rows = div-add-mod (x / size s) (per s)

    t_in : x % size s < size s
    t_in = mod-lt x (omega (arith, some))

    out_of : (x < (i * per s + j) * size s + t0) ⊎ ((i * per s + j) * size s + t0 + length bytes ≤ x) → byte (disk_of s n old) x ≡ byte (overlay (disk_of s n old) ((i * per s + j) * size s + t0) bytes) x
    out_of out = sym (byte-overlay_outside (disk_of s n old) ((i * per s + j) * size s + t0) bytes x out)

    elsewhere : (x / size s / per s ≡ i → x / size s % per s ≡ j → ⊥) → guest s new (x / size s / per s) (x / size s % per s) (x % size s) ≡ byte (overlay (disk_of s n old) ((i * per s + j) * size s + t0) bytes) x
    elsewhere other =
        but.disk (x / size s / per s) (x / size s % per s) (x % size s / 512) (covers x x_in) (mod-lt (x / size s) (omega (arith, some))) (omega (arith, t_in)) other (x % size s) (omega arith) (omega arith)
        ∙ sym (byte-disk_of s n old x x_in)
        ∙ out_of (elim (cases_lt x ((i * per s + j) * size s + t0)) [
          | inl before ↦ inl before
          | inr from ↦ elim (cases_lt x ((i * per s + j) * size s + t0 + length bytes)) [
            | inr past ↦ inr past
            | inl to ↦
                let rest : x ≡ (i * per s + j) * size s + (x - (i * per s + j) * size s) = omega (arith, from) in
                let low : x - (i * per s + j) * size s < size s = omega (arith, to, short) in
                let at : x / size s ≡ i * per s + j = ap (λ (y : ℕ). y / size s) rest ∙ div-mul-add (i * per s + j) (size s) (x - (i * per s + j) * size s) low in
                absurd (other (ap (λ (y : ℕ). y / per s) at ∙ div-mul-add i (per s) j j_in) (ap (λ (y : ℕ). y % per s) at ∙ mod-mul-add i (per s) j j_in))
          ]
        ])

    here : x / size s / per s ≡ i → x / size s % per s ≡ j → guest s new (x / size s / per s) (x / size s % per s) (x % size s) ≡ byte (overlay (disk_of s n old) ((i * per s + j) * size s + t0) bytes) x
    here row slot =
        let cell : i * per s + j ≡ x / size s = omega (arith, rows, ap (λ (y : ℕ). per s * y) row, slot) in
        let at : (i * per s + j) * size s + x % size s ≡ x = omega (arith, whole, ap (λ (y : ℕ). y * size s) cell) in
        let new_is = ap (λ (a : ℕ). guest s new a (x / size s % per s) (x % size s)) row ∙ ap (λ (b : ℕ). guest s new i b (x % size s)) slot in
        let old_is = ap (λ (a : ℕ). guest s old a (x / size s % per s) (x % size s)) row ∙ ap (λ (b : ℕ). guest s old i b (x % size s)) slot in
        new_is ∙ elim (cases_lt (x % size s) t0) [
          | inl before ↦ shows.outside (x % size s) t_in (inl (omega (arith, before))) ∙ sym old_is ∙ sym (byte-disk_of s n old x x_in) ∙ out_of (inl (omega (arith, at, before)))
          | inr from ↦ elim (cases_lt (x % size s) (t0 + length bytes)) [
            | inr past ↦ shows.outside (x % size s) t_in (inr (omega (arith, past))) ∙ sym old_is ∙ sym (byte-disk_of s n old x x_in) ∙ out_of (inr (omega (arith, at, past)))
            | inl to ↦
                let same : place s k + x % size s - (place s k + t0) ≡ x - ((i * per s + j) * size s + t0) = omega (arith, at) in
                shows.inside (x % size s) t_in (omega (arith, from)) (omega (arith, to)) ∙ ap (byte bytes) same
                ∙ sym (byte-overlay_in (disk_of s n old) ((i * per s + j) * size s + t0) bytes x (omega (arith, at, from)) (omega (arith, at, to)))
          ]
        ]
