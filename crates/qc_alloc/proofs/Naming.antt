-- What is spoken for, and what refers to clusters: where an allocator alone changed, entries in a row, or a table was linked.
use Rattle.std.proofs.Common.{◌≡◌, ◌≢◌, ◌⊎◌, inl, inr, ⊎_elim, ℕ, zero, suc, ◌+◌, ◌-◌, ◌*◌, ◌^◌, ◌<◌, ◌≤◌, List, length, Bool, IsTrue, refl, sym, ◌∙◌, ap, subst, arith}
use Rattle.std.proofs.lemmas.Bool.{cases_eq, cases_lt, false≢true}
use Rattle.disk_model.specs.Files.{u64_at}
use Rattle.disk_model.specs.World.{World}
use Rattle.cluster_pool.specs.Pool.{block_at}
use Rattle.image_model.specs.Clusters.{Shape, Who, Head, Counts, Block, Tables, Table, Guest, Bitmaps, offset, per, place, IsTable, IsGuest, Refers, AllCounted, IsStanding, word_of}
use Rattle.image_model.specs.Calls.{Told, AreExactly, Keeps, LeavesGuest, SameTables, SameTablesBut, SameBlocks, IsNewTable}
use Rattle.image_steps.proofs.Naming.{entry_some}
use Rattle.image_steps.proofs.Places.{place_same, place_some, place_apart, cluster_of, offset_none}
use Rattle.qc_alloc.specs.Allocator.{Allocator, IsHalfAdded, HasTable, Allocates, DiffersInUse}
use Rattle.qc_alloc.specs.Laws.{IsNamedBy, ChangesHands}
use Rattle.qc_alloc.proofs.Grown.{table_same}

-- ---- from one file to another

pub guest_by : (s : Shape) (old new : List ℕ) (a b k : ℕ) → 0 < s.sectors → (g : IsGuest s old a b k) → IsTable s new a g.table → word_of s new a b ≡ word_of s old a b → IsGuest s new a b k
guest_by s old new a b k some g linked same = record {
  table = g.table;
  linked = linked;
  inside = g.inside;
  some = g.some;
  at = ap offset (sym (entry_some s new a b g.table some linked) ∙ same ∙ entry_some s old a b g.table some g.linked) ∙ g.at;
}

-- what was linked is so still, and this entry is as it was
pub refers_by : (s : Shape) (old new : List ℕ) → 0 < s.sectors → Keeps s old new → (who : Who) (k : ℕ)
    → ((a b : ℕ) → who ≡ Guest a b → a < s.tables → b < per s → word_of s new a b ≡ word_of s old a b) → Refers s old who k → Refers s new who k
refers_by s old new some keeps Head k same r = r
refers_by s old new some keeps Counts k same r = r
refers_by s old new some keeps (Block a) k same r = keeps.blocks a k r
refers_by s old new some keeps Tables k same r = r
refers_by s old new some keeps (Table a) k same r = keeps.tables a k r
refers_by s old new some keeps (Guest a b) k same r = guest_by s old new a b k some r (keeps.tables a r.table r.linked) (same a b refl r.linked.inside r.inside)
refers_by s old new some keeps (Bitmaps held) k same r = r

pub refers_on : (s : Shape) (old new : List ℕ) → 0 < s.sectors → LeavesGuest s old new → (who : Who) (k : ℕ) → Refers s old who k → Refers s new who k
refers_on s old new some leaves who k r = refers_by s old new some leaves.keeps who k (λ a b _. leaves.alike.entries a b) r

pub keeps_back : (s : Shape) (old new : List ℕ) → SameTables s old new → SameBlocks s old new → Keeps s new old
keeps_back s old new tables blocks = record {
  blocks = λ a q is. record { inside = is.inside; some = is.some; at = sym (blocks a is.inside) ∙ is.at };
  tables = λ a q is. record { inside = is.inside; some = is.some; at = ap offset (sym (tables a is.inside)) ∙ is.at };
}

-- ---- whom an entry names

-- the word of an entry that names a cluster
pub guest_at : (s : Shape) (file : List ℕ) (i j k : ℕ) → 0 < s.sectors → IsGuest s file i j k → offset (word_of s file i j) ≡ place s k
guest_at s file i j k some g = ap offset (entry_some s file i j g.table some g.linked) ∙ g.at

-- an entry that is zero names none
pub none_guest : (s : Shape) (file : List ℕ) (i j k : ℕ) → 0 < s.sectors → word_of s file i j ≡ 0 → IsGuest s file i j k → ⊥
none_guest s file i j k some none g =
    let zero_at : place s k ≡ 0 = sym (guest_at s file i j k some g) ∙ ap offset none ∙ offset_none in
    omega (arith, place_some s k some g.some)

-- an entry names one cluster
pub one_guest : (s : Shape) (file : List ℕ) (i j k m : ℕ) → 0 < s.sectors → IsGuest s file i j k → IsGuest s file i j m → k ≡ m
one_guest s file i j k m some x y = place_same s k m some (sym (guest_at s file i j k some x) ∙ guest_at s file i j m some y)

placed : (s : Shape) (at : ℕ) → 0 < s.sectors → ((q : ℕ) × (at ≡ place s q)) ⊎ ((q : ℕ) → at ≡ place s q → ⊥)
placed s at some =
    let c = cluster_of s some at in
    elim (cases_eq at (place s c.cluster)) [
      | inl same ↦ inl (c.cluster, same)
      | inr differ ↦ inr (λ q is.
          ⊎_elim (λ low. absurd (omega (arith, low, is, c.high))) (λ high. absurd (omega (arith, high, is, c.low))) (place_apart s c.cluster q (λ same. differ (is ∙ ap (place s) (sym same)))))
    ]

table_or : (s : Shape) (file : List ℕ) (i : ℕ) → 0 < s.sectors → ((q : ℕ) × IsTable s file i q) ⊎ ((q : ℕ) → IsTable s file i q → ⊥)
table_or s file i some = elim (placed s (offset (u64_at file (s.l1 + 8 * i))) some) [
  | inr none ↦ inr (λ q is. none q is.at)
  | inl at ↦ elim (cases_lt i s.tables) [
    | inr past ↦ inr (λ q is. omega (arith, past, is.inside))
    | inl inside ↦ elim (cases_lt 0 at.0) [
      | inl more ↦ inl (at.0, record { inside = inside; some = more; at = at.1 })
      | inr first ↦ inr (λ q is. omega (arith, first, is.some, place_same s at.0 q some (sym at.1 ∙ is.at)))
    ]
  ]
]

guest_or : (s : Shape) (file : List ℕ) (i j k : ℕ) → 0 < s.sectors → IsGuest s file i j k ⊎ (IsGuest s file i j k → ⊥)
guest_or s file i j k some = elim (table_or s file i some) [
  | inr none ↦ inr (λ g. none g.table g.linked)
  | inl t ↦ elim (cases_lt j (per s)) [
    | inr past ↦ inr (λ g. omega (arith, past, g.inside))
    | inl inside ↦ elim (cases_lt 0 k) [
      | inr first ↦ inr (λ g. omega (arith, first, g.some))
      | inl more ↦ elim (cases_eq (offset (word_of s file i j)) (place s k)) [
        | inl same ↦ inl (record { table = t.0; linked = t.1; inside = inside; some = more; at = ap offset (sym (entry_some s file i j t.0 some t.1)) ∙ same })
        | inr differ ↦ inr (λ g. differ (guest_at s file i j k some g))
      ]
    ]
  ]
]

named_or : (s : Shape) (file : List ℕ) (i j n k : ℕ) → 0 < s.sectors → IsNamedBy s file i j n k ⊎ (IsNamedBy s file i j n k → ⊥)
named_or s file i j zero k some = inr (λ x. omega (arith, x.inside))
named_or s file i j (suc n) k some = elim (named_or s file i j n k some) [
  | inl x ↦ inl (record { behind = x.behind; inside = omega (arith, x.inside); names = x.names })
  | inr none ↦ elim (guest_or s file i (j + n) k some) [
    | inl g ↦ inl (record { behind = n; inside = omega arith; names = g })
    | inr other ↦ inr (λ x. elim (cases_lt x.behind n) [
      | inl below ↦ none (record { behind = x.behind; inside = below; names = x.names })
      | inr past ↦ let last : x.behind ≡ n = omega (arith, past, x.inside) in other (subst (λ (m : ℕ). IsGuest s file i (j + m) k) last x.names)
    ])
  ]
]

-- ---- entries in a row changed

module _ (s : Shape) (i j n : ℕ) (old new : List ℕ) (taken taken_on : ℕ → Bool) (some : 0 < s.sectors) (once : AllCounted s old) (keeps : Keeps s old new)
    (entries : (a b : ℕ) → a < s.tables → b < per s → (a ≡ i → j ≤ b → b < j + n → ⊥) → word_of s new a b ≡ word_of s old a b)
    (tables : SameTables s old new) (blocks : SameBlocks s old new) (hands : ChangesHands s i j n old new taken taken_on) (exact : AreExactly s taken old) where
  -- one that no entry of the row names is referred to by no other
  outside : (file : List ℕ) (who : Who) (k : ℕ) → (IsNamedBy s file i j n k → ⊥) → Refers s file who k → (a b : ℕ) → who ≡ Guest a b → a ≡ i → j ≤ b → b < j + n → ⊥
  outside file who k none r a b is e low high = none (record {
    behind = b - j;
    inside = omega arith;
    names = subst (λ (x : ℕ). IsGuest s file i x k) (omega arith) (subst (λ (x : ℕ). IsGuest s file x b k) e (subst (λ (x : Who). Refers s file x k) is r));
  })

  named : (who : Who) (k : ℕ) → Refers s new who k → IsTrue (taken_on k)
  named who k r = elim (named_or s new i j n k some) [
    | inl x ↦ hands.gained k x
    | inr none ↦
        let apart = outside new who k none r in
        let was : Refers s old who k = refers_by s new old some (keeps_back s old new tables blocks) who k (λ a b is a_in b_in. sym (entries a b a_in b_in (apart a b is))) r in
        let unnamed : IsNamedBy s old i j n k → ⊥ = λ x.
        apart i (j + x.behind) (once.once who (Guest i (j + x.behind)) k was x.names) refl (omega arith) (omega (arith, x.inside)) in
        hands.kept k unnamed none ∙ exact.named who k was
  ]

  there : (k : ℕ) → IsTrue (taken_on k) → (who : Who) × Refers s new who k
  there k is = elim (named_or s new i j n k some) [
    | inl x ↦ (Guest i (j + x.behind), x.names)
    | inr none ↦
        let unnamed : IsNamedBy s old i j n k → ⊥ = λ x. false≢true (sym (hands.lost k x none) ∙ is) in
        let was = exact.exact k (sym (hands.kept k unnamed none) ∙ is) in
        (was.0, refers_by s old new some keeps was.0 k (λ a b e a_in b_in. entries a b a_in b_in (outside old was.0 k unnamed was.1 a b e)) was.1)
  ]

  pub entries_exact : AreExactly s taken_on new
  entries_exact = record { named = named; exact = there }

-- ---- a table of zeros was linked

module _ (s : Shape) (t i word : ℕ) (old new : List ℕ) (taken taken_on : ℕ → Bool) (some : 0 < s.sectors) (is : IsNewTable s t i word new) (leaves : LeavesGuest s old new)
    (tables : SameTablesBut s i old new) (blocks : SameBlocks s old new) (has : IsTrue (taken_on t)) (others : (k : ℕ) → k ≢ t → taken_on k ≡ taken k) (exact : AreExactly s taken old) where
  still : (k : ℕ) → IsTrue (taken k) → IsTrue (taken_on k)
  still k was = elim (cases_eq k t) [
    | inl same ↦ ap taken_on same ∙ has
    | inr other ↦ others k other ∙ was
  ]

  table_back : (a q : ℕ) → a ≢ i → IsTable s new a q → IsTable s old a q
  table_back a q other r = record { inside = r.inside; some = r.some; at = ap offset (sym (tables a r.inside other)) ∙ r.at }

  linked_named : (who : Who) (k : ℕ) → Refers s new who k → IsTrue (taken_on k)
  linked_named Head k r = still k (exact.named Head k r)
  linked_named Counts k r = still k (exact.named Counts k r)
  linked_named (Block a) k r = still k (exact.named (Block a) k (record { inside = r.inside; some = r.some; at = sym (blocks a r.inside) ∙ r.at }))
  linked_named Tables k r = still k (exact.named Tables k r)
  linked_named (Table a) k r = elim (cases_eq a i) [
    | inl same ↦ ap taken_on (place_same s k t some (sym r.at ∙ ap (λ (x : ℕ). offset (u64_at new (s.l1 + 8 * x))) same ∙ is.linked.at)) ∙ has
    | inr other ↦ still k (exact.named (Table a) k (table_back a k other r))
  ]
  linked_named (Guest a b) k r = elim (cases_eq a i) [
    | inl same ↦ absurd (none_guest s new a b k some (subst (λ (x : ℕ). word_of s new x b ≡ 0) (sym same) (is.none b r.inside)) r)
    | inr other ↦ still k (exact.named (Guest a b) k (guest_by s new old a b k some r (table_back a r.table other r.linked) (sym (leaves.alike.entries a b r.linked.inside r.inside))))
  ]
  linked_named (Bitmaps held) k r = still k (exact.named (Bitmaps held) k r)

  linked_there : (k : ℕ) → IsTrue (taken_on k) → (who : Who) × Refers s new who k
  linked_there k now = elim (cases_eq k t) [
    | inl same ↦ (Table i, subst (IsTable s new i) (sym same) is.linked)
    | inr other ↦ let was = exact.exact k (sym (others k other) ∙ now) in (was.0, refers_on s old new some leaves was.0 k was.1)
  ]

  pub table_exact : AreExactly s taken_on new
  table_exact = record { named = linked_named; exact = linked_there }

-- ---- an allocator changed in what is spoken for and ready alone

pub use_leaves : (s : Shape) (disks : List (List ℕ)) (first : ℕ) (a b : Allocator) (w : World) → DiffersInUse a b → Allocates s disks first a w → Allocates s disks first b w
use_leaves s disks first a b w d al = record {
  is = record {
    shape = al.is.shape;
    table = d.table ∙ al.is.table;
    cluster = ap (λ (x : ℕ). 2 ^ x) d.bits ∙ al.is.cluster;
    blocks = ap (λ (x : List ℕ). length x) d.blocks ∙ al.is.blocks;
  };
  stands = subst (λ (f : ℕ). IsStanding s disks first b.pool.prepared f w) (sym d.file) (subst (λ (x : ℕ). IsStanding s disks first x a.file w) (sym d.prepared) al.stands);
  table = subst (λ (f : ℕ). Told (HasTable s b) f w) (sym d.file) (λ told. table_same s a b (w.seen a.file) d.bits d.blocks d.prepared (al.table told));
}

-- a file with the same words in its refcount table
pub table_on : (s : Shape) (a : Allocator) (old new : List ℕ) → SameBlocks s old new → HasTable s a old → HasTable s a new
table_on s a old new blocks has x inside =
    ⊎_elim
    (λ (same : u64_at old (s.counts + 8 * x) ≡ block_at a.pool x). inl (blocks x inside ∙ same))
    (λ (half : IsHalfAdded s a x old). inr (record { missing = half.missing; counts = half.counts; word = blocks x inside ∙ half.word }))
    (has x inside)
