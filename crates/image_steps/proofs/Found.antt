-- A file whose header and tables pass has a shape, and is as an opening finds it.
use Rattle.std.proofs.Common.{◌≡◌, inl, inr, ℕ, ◌+◌, ◌*◌, ◌<◌, Bool, List, ◌++◌, Option, Some, None, refl, sym, ap, ◌∙◌, subst, arith}
use Rattle.std.proofs.lemmas.Bool.{cases_lt}
use Rattle.std.specs.Prelude.{◌%◌, ◌^◌}
use Rattle.disk_model.specs.Files.{u64_at}
use Rattle.qc_layout.specs.declared.header.Header.{Header}
use Rattle.qc_layout.specs.declared.header.Part.TheVariants as parts
use Rattle.qc_layout.specs.Entries.{l1_of}
use Rattle.qc_layout.specs.Spelling.{Spells}
use Rattle.qc_layout.specs.Disks.{bits_of, refcount, reach_of}
use Rattle.qc_layout.specs.Owners.{Held, Holds, Owner, Image, Owns, Counted, TablesCounted}
use Rattle.qc_layout.specs.Owners as owners
use Rattle.qc_layout.specs.Room.{TablesPass, IsFreeFrom, IsNextFree}
use Rattle.qc_layout.specs.Laws.{IsLoadable}
use Rattle.qc_layout.specs.Directory.{directory_in}
use Rattle.qc_layout.specs.Opening.{image_checks}
use Rattle.qc_layout.specs.Loading.{directory_checks, claimed_in, held_in}
use Rattle.qc_layout.proofs.Claimed.{IsIn, image_claims, source_back, source_found}
use Rattle.qc_layout.proofs.Loading.{holder_of}
use Rattle.image_model.specs.Clusters.{Shape, per, place, Who, Bitmaps, IsTable, Refers, IsOffset, Forms, IsShape, OwnsAsListed}
use Rattle.image_model.specs.Calls.{IsOpened, AreClaimed, AreExactly, shape_of}
use Rattle.image_steps.proofs.Places.{place_some}
use Rattle.image_steps.proofs.Words.{IsPlain1, IsPlain2, offset_same, l1_plain, l1_some, l2_plain, place_is, words_are, parts, plain_table, plain_guest}
use Rattle.image_steps.proofs.Bridge.{IsHeaded, headed, embed, owner_as, back_of, row_word, count_word, count_of, to_mine}
use Rattle.image_steps.proofs.Headers.{owned_shape, header_shape}

-- These are the image's owners, and those that the shape says. No cluster has two of them, and each that has one lies below the reach and is counted.
pub record AreOwners (s : Shape) (file : List ℕ) (Q : Owner → ℕ → Type 0) : Type 0 where
  pub image : (a : owners.Who) (k : ℕ) → owners.Refers file a k → Q (Image a) k
  pub bitmaps : (held : Held) (k : ℕ) → s.owner k ≡ Some held → Q (owners.Bitmaps held) k
  pub once : (a b : Owner) (k : ℕ) → Q a k → Q b k → a ≡ b
  pub below : (a : Owner) (k : ℕ) → Q a k → k < reach_of file
  pub counted : (a : Owner) (k : ℕ) → Q a k → 0 < refcount file k

-- without bitmaps
pub bare_owners : (s : Shape) (file : List ℕ) → ((k : ℕ) → s.owner k ≡ None) → TablesCounted file
    → AreOwners s file (λ owner k. (a : owners.Who) × (owner ≡ Image a) × owners.Refers file a k)
bare_owners s file none tables = record {
  image = λ a k x. (a, refl, x);
  bitmaps = λ held k owned. let no = none k in absurd (cc);
  once = λ a b k x y. x.1 ∙ ap (λ (w : owners.Who). Image w) (tables.once x.0 y.0 k x.2 y.2) ∙ sym y.1;
  below = λ a k x. tables.below x.0 k x.2;
  counted = λ a k x. tables.counted x.0 k x.2;
}

-- with those that the directory lists
pub listed_owners : (s : Shape) → OwnsAsListed s → Counted s.base → AreOwners s s.base (Owns s.base)
listed_owners s listed all = record {
  image = λ a k x. x;
  bitmaps = λ held k owned. (listed held k).0 owned;
  once = all.once;
  below = all.below;
  counted = all.counted;
}

module _ (s : Shape) (Q : Owner → ℕ → Type 0) (shape : IsShape s) (all : AreOwners s s.base Q) (pass : TablesPass s.base) where
  abbrev bits : ℕ
  bits = bits_of s.base

  is : IsHeaded s s.base
  is = headed s s.base shape refl

  block_forms : (i : ℕ) → i < s.blocks → IsOffset s (u64_at s.base (s.counts + 8 * i))
  block_forms i inside =
      let whole = pass.blocks i (omega (arith, inside, is.blocks)) in
      parts s is.some bits is.cluster (u64_at s.base (s.counts + 8 * i)) (sym (ap (λ (w : ℕ). w % 2 ^ bits) (count_word s s.base is i)) ∙ whole)

  rows : (i : ℕ) → i < s.tables → IsPlain1 bits (u64_at s.base (s.l1 + 8 * i))
  rows i inside =
      let table = pass.tables i (omega (arith, inside, is.tables)) in
      l1_plain bits (u64_at s.base (s.l1 + 8 * i)) table.0 (ap (l1_of bits) (sym (row_word s s.base is i)) ∙ table.1)

  slots : (i q j : ℕ) → IsTable s s.base i q → j < per s → IsPlain2 bits (u64_at s.base (place s q + 8 * j))
  slots i q j linked j_in =
      let word = u64_at s.base (s.l1 + 8 * i) in
      let named = l1_some bits word (place s q) (rows i linked.inside) (offset_same word ∙ linked.at) (place_some s q is.some linked.some) in
      let order = pass.entries i (place s q) j (omega (arith, linked.inside, is.tables)) (ap (l1_of bits) (row_word s s.base is i) ∙ named) in
      l2_plain bits (u64_at s.base (place s q + 8 * j)) (order (omega (arith, j_in, words_are s is.some bits is.cluster)))

  back : (a : Who) (k : ℕ) → Refers s s.base a k → (b : Owner) × Q b k × (owner_as b ≡ a)
  back = back_of s s.base is rows slots Q all.image all.bitmaps

  below : (a : Who) (k : ℕ) → Refers s s.base a k → k < s.reach
  below a k x = let r = back a k x in omega (arith, all.below r.0 k r.1, is.reach)

  forms : Forms s s.base
  forms = record {
    blocks = block_forms;
    tables = λ i inside. plain_table s is.some bits is.cluster (u64_at s.base (s.l1 + 8 * i)) (rows i inside);
    entries = λ i q j linked inside. plain_guest s is.some bits is.cluster (u64_at s.base (place s q + 8 * j)) (slots i q j linked inside);
  }

  pub found_opened : (next : ℕ) → IsFreeFrom s.base next → IsOpened s next s.base
  found_opened next free = record {
    shape = shape;
    counted = record {
      once = λ a b k x y. let p = back a k x in let q = back b k y in sym p.2 ∙ ap owner_as (all.once p.0 q.0 k p.1 q.1) ∙ q.2;
      below = below;
      counted = λ a k x. let r = back a k x in (refcount s.base k, all.counted r.0 k r.1, count_of s s.base is block_forms k (all.counted r.0 k r.1));
    };
    forms = forms;
    below = λ a k x. let r = back a k x in elim (cases_lt k next) [
      | inl low ↦ low
      | inr from ↦ absurd (omega (arith, free.uncounted k from, all.counted r.0 k r.1))
    ];
    end = omega (arith, free.past, place_is s is.some bits is.cluster next);
    fixed = λ k held i low high. refl;
  }

  -- an owner of the image refers to its cluster
  found_refers : (a : owners.Who) (k : ℕ) → owners.Refers s.base a k → (who : Who) × Refers s s.base who k
  found_refers a k x = (embed a, to_mine s s.base is forms a k x)

  -- where just the clusters that have an owner are claimed
  found_exactly : (claimed : List ℕ) (taken : ℕ → Bool) → AreClaimed s claimed taken → ((b : Owner) (k : ℕ) → Q b k → IsIn claimed k)
      → ((k : ℕ) → IsIn claimed k → (who : Who) × Refers s s.base who k) → AreExactly s taken s.base
  found_exactly claimed taken are owned refers = record {
    named = λ who k x. let r = back who k x in are.below k (below who k x) ∙ owned r.0 k r.1;
    exact = λ k is_taken. elim (cases_lt k s.reach) [
      | inl low ↦ refers k (sym (are.below k low) ∙ is_taken)
      | inr from ↦ absurd (let none = are.past k from in cc)
    ];
  }

-- ---- the laws

pub loadable_opens : (file : List ℕ) (h : Header) (next : ℕ) → Spells parts.Source file h → IsLoadable file → IsNextFree file next
    → (s : Shape) × (s.base ≡ file) × OwnsAsListed s × IsOpened s next file
loadable_opens file h next spells load is =
    let owner : ℕ → Option Held = λ k. (holder_of file h k spells load).0 in
    let s : Shape = record (shape_of file) { owner = owner } in
    let owns : OwnsAsListed s = λ held k. (holder_of file h k spells load).1 held in
    let shape = owned_shape parts.Source file owner spells.numbers in
    (s, refl, owns, found_opened s (Owns file) shape (listed_owners s owns load.counted) load.passes next is.free)

pub backup_opens : (file : List ℕ) (h : Header) (next : ℕ) → Spells parts.Target file h → TablesPass file → IsNextFree file next
    → IsOpened (shape_of file) next file
backup_opens file h next spells pass is =
    let shape = header_shape parts.Target file spells.numbers in
    found_opened (shape_of file) _ shape (bare_owners (shape_of file) file (λ k. refl) pass.counted) pass next is.free

-- ---- what is claimed is just what is referred to

abbrev SourceClaimed : Shape → List ℕ → (ℕ → Bool) → Type 0
SourceClaimed s file taken = AreClaimed s (claimed_in (image_checks file) ++ held_in (directory_checks file (directory_in file))) taken

base_claims : (s : Shape) (h : Header) (taken : ℕ → Bool) → OwnsAsListed s → IsShape s → Spells parts.Source s.base h → IsLoadable s.base → SourceClaimed s s.base taken → AreExactly s taken s.base
base_claims s h taken owns shape spells load are =
    found_exactly s (Owns s.base) shape (listed_owners s owns load.counted) load.passes _ taken are (source_found s.base h spells load)
    (λ k is. let r = source_back s.base h spells load k is in by_owner r.0 k r.1)
  where
    by_owner : (owner : Owner) (k : ℕ) → Owns s.base owner k → (who : Who) × Refers s s.base who k
    by_owner (Image a) k x = found_refers s (Owns s.base) shape (listed_owners s owns load.counted) load.passes a k x
    by_owner (owners.Bitmaps held) k x = (Bitmaps held, (owns held k).1 x)

pub loadable_claims : (file : List ℕ) (h : Header) (s : Shape) (taken : ℕ → Bool) → Spells parts.Source file h → IsLoadable file → s.base ≡ file → OwnsAsListed s → IsShape s
    → SourceClaimed s file taken → AreExactly s taken file
loadable_claims file h s taken spells load same owns shape are =
    subst (λ (c : List ℕ). Spells parts.Source c h → IsLoadable c → SourceClaimed s c taken → AreExactly s taken c) same (base_claims s h taken owns shape) spells load are

pub backup_claims : (file : List ℕ) (h : Header) (taken : ℕ → Bool) → Spells parts.Target file h → TablesPass file
    → AreClaimed (shape_of file) (claimed_in (image_checks file)) taken → AreExactly (shape_of file) taken file
backup_claims file h taken spells pass are =
    let s = shape_of file in
    let shape = header_shape parts.Target file spells.numbers in
    let bare = bare_owners s file (λ k. refl) pass.counted in
    found_exactly s _ shape bare pass _ taken are (λ b k x. (image_claims parts.Target file k spells.numbers pass).1 (x.0, x.2))
    (λ k is. let r = (image_claims parts.Target file k spells.numbers pass).0 is in found_refers s _ shape bare pass r.0 k r.1)
