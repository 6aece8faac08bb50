-- A safe file with bitmaps passes an opening whole, and stores what the base stores; settled, it is tight.
use Rattle.std.proofs.Common.{◌≡◌, inl, inr, ℕ, ◌+◌, ◌*◌, ◌<◌, ◌≤◌, ◌↔◌, Bool, true, false, List, length, None, refl, sym, ap, ◌∙◌, arith}
use Rattle.std.specs.Prelude.{if◌then◌else◌}
use Rattle.std.proofs.lemmas.Bool.{cases_lt}
use Rattle.disk_model.specs.Files.{u64_at}
use Rattle.disk_model.proofs.Laws.{reading_same}
use Rattle.qc_layout.specs.declared.header.Header.{Header}
use Rattle.qc_layout.specs.declared.header.Part.TheVariants as parts
use Rattle.qc_layout.specs.Spelling.{Spells}
use Rattle.qc_layout.specs.Disks.{bits_of, refcount}
use Rattle.qc_layout.specs.Directory.{listed_in, spans_in, directory_fault, stored_in}
use Rattle.qc_layout.specs.Owners.{Held, Holds, Owner, Image, Owns, Counted, Tight}
use Rattle.qc_layout.specs.Owners as owners
use Rattle.qc_layout.specs.Laws.{BeginAlike, start_length, HoldAlike, IsLoadable}
use Rattle.qc_layout.proofs.SameStored.{stored_where_held}
use Rattle.image_model.specs.Clusters.{Shape, per, place, Who, Bitmaps, IsTable, Refers, IsShape, OwnsAsListed, IsSafe}
use Rattle.image_model.specs.Calls.{AreExactly, AreSettled}
use Rattle.image_steps.proofs.Places.{place_zero}
use Rattle.image_steps.proofs.Words.{IsPlain1, IsPlain2, table_plain, guest_plain, place_is}
use Rattle.image_steps.proofs.Bridge.{IsHeaded, headed, embed, owner_as, back_of, to_mine, embed_one, count_found, count_of, alike, same_fields, safe_passes}

no_bitmaps : (a : owners.Who) (held : Held) → embed a ≡ Bitmaps held → ⊥
no_bitmaps owners.Head held e = cc
no_bitmaps owners.Counts held e = cc
no_bitmaps (owners.Block i) held e = cc
no_bitmaps owners.Tables held e = cc
no_bitmaps (owners.Table i) held e = cc
no_bitmaps (owners.Guest i j) held e = cc

same_held : (a b : Held) → Bitmaps a ≡ Bitmaps b → a ≡ b
same_held a b e = cc

module _ (s : Shape) (disks : List (List ℕ)) (file : List ℕ) (h : Header) (shape : IsShape s) (long : 104 ≤ length s.base)
    (spells : Spells parts.Source s.base h) (faultless : directory_fault s.base ≡ None) (spans : spans_in s.base ≡ None → spans_in file ≡ None)
    (owns : OwnsAsListed s) (safe : IsSafe s disks file) where
  start : BeginAlike (start_length s.base) s.base file
  start =
      let both = alike s shape file long safe.counted (safe.fixed 0 (inl refl)) in
      record {
        enough = omega arith;
        bytes = sym (reading_same file s.base 0 (start_length s.base) (λ i low high. safe.fixed 0 (inl refl) i (omega (arith, place_zero s)) (omega (arith, high, both.enough, place_zero s))));
        short = both.short;
        long = both.long;
      }

  hold : HoldAlike s.base file
  hold = record {
    start = start;
    held = λ held k i holds low high.
        let at = place_is s shape.some (bits_of s.base) shape.cluster k in
        safe.fixed k (inr (held, (owns held k).1 holds)) i (omega (arith, low, at)) (omega (arith, high, at, shape.cluster));
  }

  stores : (stored_in file ≡ stored_in s.base) × (directory_fault file ≡ None) × ((held : Held) (k : ℕ) → Holds file (listed_in file) held k ↔ Holds s.base (listed_in s.base) held k)
  stores = stored_where_held s.base file h spells faultless spans hold

  is : IsHeaded s file
  is = headed s file shape (same_fields s shape file long safe.counted (safe.fixed 0 (inl refl)))

  refers : (a : Owner) (k : ℕ) → Owns file a k → Refers s file (owner_as a) k
  refers (Image a) k owned = to_mine s file is safe.forms a k owned
  refers (owners.Bitmaps held) k holds = (owns held k).1 ((stores.2 held k).0 holds)

  one : (a b : Owner) → owner_as a ≡ owner_as b → a ≡ b
  one (Image a) (Image b) e = ap (λ (w : owners.Who). Image w) (embed_one a b e)
  one (Image a) (owners.Bitmaps held) e = absurd (no_bitmaps a held e)
  one (owners.Bitmaps held) (Image b) e = absurd (no_bitmaps b held (sym e))
  one (owners.Bitmaps held) (owners.Bitmaps other) e = ap (λ (x : Held). owners.Bitmaps x) (same_held held other e)

  counts : Counted file
  counts = record {
    once = λ a b k x y. one a b (safe.counted.once (owner_as a) (owner_as b) k (refers a k x) (refers b k y));
    below = λ a k x. omega (arith, safe.counted.below (owner_as a) k (refers a k x), is.reach);
    counted = λ a k x. let c = safe.counted.counted (owner_as a) k (refers a k x) in omega (arith, count_found s file is k c.0 c.2, c.1);
  }

  pub safe_loads : IsLoadable file × (stored_in file ≡ stored_in s.base)
  safe_loads = (record { passes = safe_passes s disks file shape long safe; directory = stores.1; counted = counts }, stores.0)

  -- ---- settled, it is tight

  rows : (i : ℕ) → i < s.tables → IsPlain1 (bits_of file) (u64_at file (s.l1 + 8 * i))
  rows i inside = table_plain s is.some (bits_of file) is.cluster (u64_at file (s.l1 + 8 * i)) (safe.forms.tables i inside)

  slots : (i q j : ℕ) → IsTable s file i q → j < per s → IsPlain2 (bits_of file) (u64_at file (place s q + 8 * j))
  slots i q j linked j_in = guest_plain s is.some (bits_of file) is.cluster (u64_at file (place s q + 8 * j)) (safe.forms.entries i q j linked j_in)

  back : (w : Who) (k : ℕ) → Refers s file w k → (a : Owner) × Owns file a k × (owner_as a ≡ w)
  back = back_of s file is rows slots (Owns file) (λ a k x. x) (λ held k x. (stores.2 held k).1 ((owns held k).0 x))

  pub settled_tight : (taken : ℕ → Bool) → AreExactly s taken file → AreSettled s taken file → Tight file
  settled_tight taken exactly settled = record {
    counted = counts;
    ones = λ a k owned.
        let c = safe.counted.counted (owner_as a) k (refers a k owned) in
        count_found s file is k c.0 c.2 ∙ settled k c.0 c.2 ∙ ap (λ (b : Bool). if b then 1 else 0) (exactly.named (owner_as a) k (refers a k owned));
    others = λ k none. elim (cases_lt 0 (refcount file k)) [
      | inr not ↦ omega (arith, not)
      | inl more ↦ by_taken k none (taken k) refl (settled k (refcount file k) (count_of s file is safe.forms.blocks k more))
    ];
  }
    where
      by_taken : (k : ℕ) → ((a : Owner) → Owns file a k → ⊥) → (b : Bool) → taken k ≡ b → refcount file k ≡ (if taken k then 1 else 0) → refcount file k ≡ 0
      by_taken k none false same count = count ∙ ap (λ (t : Bool). if t then 1 else 0) same
      by_taken k none true same count = let who = exactly.exact k same in let owned = back who.0 k who.1 in absurd (none owned.0 owned.1)
