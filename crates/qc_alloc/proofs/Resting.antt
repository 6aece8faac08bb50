-- From one standing to the next, over a settling.
use Rattle.std.proofs.Common.{◌≡◌, inl, inr, ⊎_elim, ℕ, ◌+◌, ◌*◌, ◌<◌, List, [], ◌∷◌, length, Bool, IsTrue, sym, ◌∙◌, ap, subst, arith}
use Rattle.std.proofs.lemmas.Bool.{false≢true}
use Rattle.disk_model.specs.Files.{u64_at}
use Rattle.disk_model.specs.World.{World, Parts, Runs, IsSound, EachSince, Syncs}
use Rattle.disk_model.proofs.Laws.{since_on, told_at}
use Rattle.bitmap_model.specs.Granules.{is_in}
use Rattle.cluster_pool.specs.Pool as pools
use Rattle.cluster_pool.specs.Pool.{block_at, emptied}
use Rattle.qc_alloc.specs.Allocator.{Allocator, IsAllocator, IsOf, IsHalfAdded, HasBlocks, HasTable, Allocates}
use Rattle.qc_alloc.specs.Settling.{Settles, SettlesOn, SettlesAll}
use Rattle.image_model.specs.Clusters.{Shape, Block, IsBlock, IsGood, IsSafe, IsKept, IsStanding, Moves, Reads}
use Rattle.image_model.specs.Calls.{Told, AreNamed, AreSettled, Rests, LeavesGuest, SameTables}
use Rattle.image_steps.proofs.Kept.{shown}
use Rattle.image_steps.proofs.Pools.{rests_stand}
use Rattle.qc_alloc.proofs.Settles.{all_settled}

-- ---- fewer disks, fewer clusters

kept_by : (s : Shape) (disks : List (List ℕ)) (d c : List ℕ) → IsKept s disks d → IsKept s (d ∷ []) c → IsKept s disks c
kept_by s disks d c kept was i j o i_in j_in o_in = elim (was i j o i_in j_in o_in) [
  | inl as_d ↦ shown s i j o c d disks as_d (kept i j o i_in j_in o_in)
  | inr none ↦ absurd none
]

fewer_safe : (s : Shape) (disks : List (List ℕ)) (d c : List ℕ) → IsKept s disks d → IsSafe s (d ∷ []) c → IsSafe s disks c
fewer_safe s disks d c kept safe = record { counted = safe.counted; forms = safe.forms; fixed = safe.fixed; kept = kept_by s disks d c kept safe.kept }

fewer_stands : {s : Shape} {d : List ℕ} {first last f : ℕ} {w : World} (disks : List (List ℕ)) → (IsTrue w.tells → IsKept s disks d) → IsStanding s (d ∷ []) first last f w → IsStanding s disks first last f w
fewer_stands {s} {d} {first} {last} {f} {w} disks kept stands told =
    let st = stands told in
    let good : (c : List ℕ) → IsGood s st.role (d ∷ []) c → IsGood s st.role disks c = (λ c is. record { lies = is.lies; forms = is.forms; kept = kept_by s disks d c (kept told) is.kept }) in
    record {
      role = st.role;
      order = st.order;
      ready = st.ready;
      edge = st.edge;
      fresh = st.fresh;
      one = st.one;
      linked = st.linked;
      seen = good (w.seen f) st.seen;
      now = λ c left. good c (st.now c left);
    }

-- no cluster is ready any more
none_ready : {s : Shape} {disks : List (List ℕ)} {first last f : ℕ} {w : World} → IsStanding s disks first last f w → IsStanding s disks last last f w
none_ready stands told =
    let st = stands told in
    record { role = st.role; order = omega arith; ready = λ k low high. absurd (omega (arith, low, high)); edge = st.edge; fresh = st.fresh; one = st.one; linked = st.linked; seen = st.seen; now = st.now }

-- ---- the allocator afterwards

abbrev pub after : Allocator → List Bool → ℕ → Allocator
after a counted from = record a { pool = record (emptied a.pool) { counted = counted; from = from } }

is_after : {s : Shape} {a : Allocator} (counted : List Bool) (from : ℕ) → IsOf s a → IsOf s (after a counted from)
is_after counted from is = record { shape = is.shape; table = is.table; cluster = is.cluster; blocks = is.blocks }

allocates_after : {s : Shape} {disks : List (List ℕ)} {a : Allocator} {w : World} (counted : List Bool) (from : ℕ) → IsOf s a → IsStanding s disks a.pool.prepared a.pool.prepared a.file w → Told (HasTable s a) a.file w → Allocates s disks a.pool.prepared (after a counted from) w
allocates_after {s} {disks} {a} {w} counted from is stands table = record {
  is = is_after counted from is;
  stands = stands;
  table = λ told i i_in. ⊎_elim
      (λ (same : u64_at (w.seen a.file) (s.counts + 8 * i) ≡ block_at a.pool i). inl same)
      (λ (half : IsHalfAdded s a i (w.seen a.file)). inr (record { missing = half.missing; counts = half.counts; word = half.word }))
      (table told i i_in);
}

-- ---- the first sync

module _ {a : Allocator} {x y : World} (call : Syncs a.file x y) where
  seen_table : {s : Shape} {disks : List (List ℕ)} {first : ℕ} → Allocates s disks first a x → Told (HasTable s a) a.file y
  seen_table {s} al told = subst (HasTable s a) (sym call.seen) (al.table (subst IsTrue call.run.goes.tells told))

  -- where it failed
  pub rest_failed : (s : Shape) (disks : List (List ℕ)) (first : ℕ) → Moves a.file (IsSafe s disks) (IsStanding s disks first a.pool.prepared a.file) (IsStanding s disks first a.pool.prepared a.file) x y
      → Moves a.file (IsSafe s disks) (Allocates s disks first a) (Allocates s disks a.pool.prepared (after a a.pool.counted a.pool.from)) x y
  rest_failed s disks first moves = record {
    since = λ al. moves.since al.stands;
    stands = λ al. allocates_after a.pool.counted a.pool.from al.is (none_ready (moves.stands al.stands)) (seen_table al);
  }

-- What holds from the first sync on, until the second.
pub record Through (s : Shape) (disks : List (List ℕ)) (first : ℕ) (a : Allocator) (x y w : World) : Type 0 where
  pub since : Allocates s disks first a x → EachSince w x.now a.file (IsSafe s disks)
  pub settles : Allocates s disks first a x → Settles s (y.seen a.file ∷ []) (after a a.pool.counted a.pool.from) w
  pub kept : Allocates s disks first a x → IsTrue x.tells → IsKept s disks (y.seen a.file)

module _ {a : Allocator} (is : IsAllocator a) {x y : World} (call : Syncs a.file x y) (s : Shape) (disks : List (List ℕ)) (first : ℕ) (named : Told (AreNamed s (is_in a.pool.spoken)) a.file x) where
  -- a block that was half added would be spoken for
  no_half : (i : ℕ) → i < s.blocks → IsTrue x.tells → IsHalfAdded s a i (x.seen a.file) → ⊥
  no_half i i_in told half =
      let block : IsBlock s (x.seen a.file) i a.pool.prepared = record { inside = i_in; some = is.some; at = half.word } in
      false≢true (sym (is.unspoken a.pool.prepared (omega arith)) ∙ named told (Block i) a.pool.prepared block)

  has_blocks : Allocates s disks first a x → IsTrue x.tells → HasBlocks s a (x.seen a.file)
  has_blocks al told i i_in = ⊎_elim
      (λ (same : u64_at (x.seen a.file) (s.counts + 8 * i) ≡ block_at a.pool i). same)
      (λ (half : IsHalfAdded s a i (x.seen a.file)). absurd (no_half i i_in told half))
      (al.table told i i_in)

  pub through : Moves a.file (IsSafe s disks) (IsStanding s disks first a.pool.prepared a.file) (Rests s (y.seen a.file ∷ []) (is_in a.pool.spoken) a.pool.prepared a.file) x y → Through s disks first a x y y
  through moves = record {
    since = λ al. moves.since al.stands;
    settles = λ al. record {
      is = is_after a.pool.counted a.pool.from al.is;
      rests = moves.stands al.stands;
      blocks = λ told. subst (HasBlocks s a) (sym call.seen) (has_blocks al (subst IsTrue call.run.goes.tells told));
    };
    kept = λ al told. subst (IsKept s disks) (sym call.seen) (al.stands told).seen.kept;
  }

module _ {s : Shape} {disks : List (List ℕ)} {first : ℕ} {a : Allocator} {x y w : World} {parts : Parts} (run : Runs parts x w) (through : Through s disks first a x y w) where
  -- each crash from there on is as safe
  since_more : {others : Parts} {v : World} → Runs others w v → IsSound v → Allocates s disks first a x → EachSince v w.now a.file (IsSafe s (y.seen a.file ∷ [])) → EachSince v x.now a.file (IsSafe s disks)
  since_more {others} {v} next sound al each =
      since_on x.now a.file (IsSafe s disks) next (through.since al)
      (λ k low high c left.
      let told : IsTrue x.tells = subst IsTrue run.goes.tells (subst IsTrue next.goes.tells (told_at v k a.file c sound left)) in
      fewer_safe s disks (y.seen a.file) c (through.kept al told) (each k low high c left))

  pub through_on : {others : Parts} {v : World} → Runs others w v → IsSound v → SettlesOn (after a a.pool.counted a.pool.from) w v → Through s disks first a x y v
  through_on next sound goes = record {
    since = λ al. since_more next sound al ((goes.moves s (y.seen a.file ∷ [])).since (through.settles al));
    settles = λ al. (goes.moves s (y.seen a.file ∷ [])).stands (through.settles al);
    kept = through.kept;
  }

  rested : Allocates s disks first a x → IsStanding s (y.seen a.file ∷ []) a.pool.prepared a.pool.prepared a.file w
  rested al = rests_stand (through.settles al).rests

  -- the writes failed
  pub through_failed : Moves a.file (IsSafe s disks) (Allocates s disks first a) (Allocates s disks a.pool.prepared (after a a.pool.counted a.pool.from)) x w
  through_failed = record {
    since = through.since;
    stands = λ al. allocates_after {a = a} a.pool.counted a.pool.from al.is
        (fewer_stands disks (λ told. through.kept al (subst IsTrue run.goes.tells told)) (rested al)) (λ told i i_in. inl ((through.settles al).blocks told i i_in));
  }

  -- the last sync, whatever it answers
  pub through_end : {v : World} (counted : List Bool) (from : ℕ) → Syncs a.file w v → IsSound v
      → Moves a.file (IsSafe s (y.seen a.file ∷ [])) (IsStanding s (y.seen a.file ∷ []) a.pool.prepared a.pool.prepared a.file) (IsStanding s (y.seen a.file ∷ []) a.pool.prepared a.pool.prepared a.file) w v
      → Moves a.file (IsSafe s disks) (Allocates s disks first a) (Allocates s disks a.pool.prepared (after a counted from)) x v
  through_end {v} counted from call sound moves = record {
    since = λ al. since_more call.run sound al (moves.since (rested al));
    stands = λ al. allocates_after {a = a} counted from al.is
        (fewer_stands disks (λ told. through.kept al (subst IsTrue run.goes.tells (subst IsTrue call.run.goes.tells told))) (moves.stands (rested al)))
        (λ told i i_in. inl (ap (λ (file : List ℕ). u64_at file (s.counts + 8 * i)) call.seen ∙ (through.settles al).blocks (subst IsTrue call.run.goes.tells told) i i_in));
  }

  -- and where it ended well
  pub through_one : {v : World} (counted : List Bool) (from : ℕ) → Syncs a.file w v → IsSound v
      → Moves a.file (IsSafe s (y.seen a.file ∷ [])) (IsStanding s (y.seen a.file ∷ []) a.pool.prepared a.pool.prepared a.file) (IsStanding s (v.seen a.file ∷ []) a.pool.prepared a.pool.prepared a.file) w v
      → Moves a.file (IsSafe s disks) (Allocates s disks first a) (Allocates s (v.seen a.file ∷ []) a.pool.prepared (after a counted from)) x v
  through_one {v} counted from call sound moves = record {
    since = λ al. since_more call.run sound al (moves.since (rested al));
    stands = λ al. allocates_after {a = a} counted from al.is (moves.stands (rested al))
        (λ told i i_in. inl (ap (λ (file : List ℕ). u64_at file (s.counts + 8 * i)) call.seen ∙ (through.settles al).blocks (subst IsTrue call.run.goes.tells told) i i_in));
  }

-- ---- what reads give

pub leaves_over : {s : Shape} {disks : List (List ℕ)} {first : ℕ} {a : Allocator} {x y w : World} → Syncs a.file x y → Through s disks first a x y y → SettlesOn (after a a.pool.counted a.pool.from) y w
    → Reads a.file (Allocates s disks first a) (λ old new. LeavesGuest s old new × SameTables s old new) x w
leaves_over {s} {disks} {first} {a} {x} {y} {w} call through goes al told =
    let leaves = goes.leaves s (y.seen a.file ∷ []) (through.settles al) (subst IsTrue (sym call.run.goes.tells) told) in
    (subst (λ (old : List ℕ). LeavesGuest s old (w.seen a.file)) call.seen leaves.0, subst (λ (old : List ℕ). SameTables s old (w.seen a.file)) call.seen leaves.1)

pub settled_over : {s : Shape} {disks : List (List ℕ)} {first : ℕ} {a : Allocator} {x y w : World} → Syncs a.file x y → Through s disks first a x y y → SettlesAll (after a a.pool.counted a.pool.from) 0 (pools.each a.pool * length a.pool.blocks) y w
    → Reads a.file (Allocates s disks first a) (λ old new. AreSettled s (is_in a.pool.spoken) new) x w
settled_over {s} {disks} {first} {a} {x} {y} {w} call through all al told =
    all_settled {a = a} (is_in a.pool.spoken) (y.seen a.file) (w.seen a.file) al.is (all.counts s (y.seen a.file ∷ []) (through.settles al) (subst IsTrue (sym call.run.goes.tells) told))

-- ---- the same allocator by another name

pub as_moves : {s : Shape} {disks ds : List (List ℕ)} {first : ℕ} {a now : Allocator} {x w : World} (b e : Allocator) → a ≡ now → e ≡ b → Moves a.file (IsSafe s disks) (Allocates s disks first a) (Allocates s ds b.pool.next b) x w
    → Moves now.file (IsSafe s disks) (Allocates s disks first now) (Allocates s ds e.pool.next e) x w
as_moves {s} {disks} {ds} {first} {a} {now} {x} {w} b e same is moves =
    subst (λ (d : Allocator). Moves d.file (IsSafe s disks) (Allocates s disks first d) (Allocates s ds e.pool.next e) x w) same
    (subst (λ (d : Allocator). Moves a.file (IsSafe s disks) (Allocates s disks first a) (Allocates s ds d.pool.next d) x w) (sym is) moves)

pub as_named : {s : Shape} {a now : Allocator} (x : World) → a ≡ now → Told (AreNamed s (is_in now.pool.spoken)) now.file x → Told (AreNamed s (is_in a.pool.spoken)) a.file x
as_named {s} {a} {now} x same named = subst (λ (d : Allocator). Told (AreNamed s (is_in d.pool.spoken)) d.file x) (sym same) named

pub as_reads : {s : Shape} {disks : List (List ℕ)} {first : ℕ} {a now : Allocator} (x w : World) (X : Allocator → List ℕ → List ℕ → Type 0) → a ≡ now → Reads a.file (Allocates s disks first a) (X a) x w → Reads now.file (Allocates s disks first now) (X now) x w
as_reads {s} {disks} {first} {a} {now} x w X same reads = subst (λ (d : Allocator). Reads d.file (Allocates s disks first d) (X d) x w) same reads
