-- A write or a zero of the guest's disk over calls: the image after some parts, and after one more.
use Rattle.std.proofs.Common.{◌≡◌, ◌⊎◌, inl, ℕ, ◌+◌, ◌-◌, ◌*◌, ◌^◌, ◌<◌, ◌≤◌, List, [], ◌∷◌, length, take, drop, replicate, Bool, true, false, not, ◌||◌, IsTrue, sym, ◌∙◌, ap, subst, arith}
use Rattle.std.specs.Prelude.{◌==◌}
use Rattle.std.proofs.lemmas.List.{length-replicate}
use Rattle.disk_model.specs.World.{World, Parts, Runs, only_file, IsSound}
use Rattle.disk_model.proofs.Laws.{told_at, since_on, since_spared}
use Rattle.cluster_pool.specs.Pool.{room}
use Rattle.image_model.specs.Clusters.{Shape, offset, Forms, IsKept, IsSafe, IsStanding, Moves, Reads}
use Rattle.image_model.specs.Calls.{Keeps, SameTables}
use Rattle.image_model.specs.Space.{Kind, Hole, Store, need, store_zeroed}
use Rattle.image_steps.proofs.Dropping.{IsCovered, drop_safe, drop_stands}
use Rattle.image_steps.proofs.Good.{more_safe}
use Rattle.image_steps.proofs.Links.{keeps_on}
use Rattle.map_rows.specs.declared.parts.Part.{Part}
use Rattle.map_rows.specs.Parts.{IsPart}
use Rattle.map_rows.specs.Stores.{HasStore, has_table}
use Rattle.qc_alloc.specs.Allocator.{Allocator, Allocates, HandsOut, StandsFrom, IsKnown}
use Rattle.qc_map.specs.Altering.{Alteration, IsPartlyAltered, UsesUpTo, Alters, HasAltered, KnowsOn, Always, stores}
use Rattle.qc_map.specs.Changing.{Change, IsPartlyChanged, Changes, HasChanged, zero_of}
use Rattle.qc_map.specs.Mapping.{Mapping, IsMapping, IsMapOf, shape_by}
use Rattle.qc_map.specs.Needing.{part_need}
use Rattle.qc_map.specs.Reading.{IsPartFor}
use Rattle.qc_map.specs.Zeroing.{SameRoom, clears_in}
use Rattle.qc_map.proofs.Becoming.{IsStep}
use Rattle.qc_map.proofs.Going.{IsNext}
use Rattle.qc_map.proofs.More.{range, need_none, need_more}
use Rattle.qc_map.proofs.Over.{tables_cover}
use Rattle.qc_map.proofs.Places.{sectors}
use Rattle.qc_map.proofs.Requests.{Request, IsRequest, writing, zeroing, LeavesBehind, IsReached, change_of, reached_none, reached_on, partly_on, partly_none, changed_all, partly_all, covered_part, own_same, need_same, need_less, is_writing, write_step, write_own, write_own_near, is_zeroing, zero_step, or_false, there_on, store_of, has_store_of}
use Rattle.qc_map.proofs.Steps.{left_alters, spared_allocates, now_safe}

-- ---- any shape of the map

pub part_of : (s : Shape) (m : Mapping) (at length : ℕ) (p : Part) → IsMapping m → IsMapOf s m → IsPart (shape_by m) at length p → IsPart s at length p
part_of s m at length p mapping is part =
    let same = sectors s m mapping is in
    record {
      some = part.some;
      within = part.within;
      begins = subst (λ (k : ℕ). at ≡ (p.table * (64 * k) + p.slot) * (512 * k) + p.from) same part.begins;
      inside = subst (λ (k : ℕ). p.from < 512 * k) same part.inside;
      slots = subst (λ (k : ℕ). p.slot + p.count ≤ 64 * k) same part.slots;
      covers = subst (λ (k : ℕ). p.from + p.length ≤ 512 * k * p.count) same part.covers;
      least = subst (λ (k : ℕ). 512 * k * p.count < p.from + p.length + 512 * k) same part.least;
      rest = subst (λ (k : ℕ). (p.length ≡ length) ⊎ ((p.slot + p.count ≡ 64 * k) × (p.from + p.length ≡ 512 * k * p.count))) same part.rest;
    }

-- ---- the first n bytes of a request are done

pub record Reached (m : Mapping) (at n : ℕ) (bytes : List ℕ) (q : Request) (a b : Allocator) (x y : World) : Type 0 where
  pub moves : (s : Shape) (disks : List (List ℕ)) (first : ℕ) → IsMapOf s m → HandsOut first a →
      Moves m.file (IsSafe s (y.seen m.file ∷ disks)) (Allocates s disks first a) (StandsFrom s (y.seen m.file ∷ disks) b) x y
  pub done : (s : Shape) (disks : List (List ℕ)) (first : ℕ) → IsMapOf s m → HandsOut first a →
      Reads m.file (Allocates s disks first a) (IsReached s m.size at n bytes q) x y

-- as many clusters were used as the first n bytes need
pub record HasUsed (m : Mapping) (at n : ℕ) (a b : Allocator) (x y : World) : Type 0 where
  pub used : (s : Shape) (disks : List (List ℕ)) (first : ℕ) → IsMapOf s m → HandsOut first a →
      Reads m.file (Allocates s disks first a) (λ old new. (store : Store) → HasStore s m.size old store → room b.pool + need store (range at n) ≡ room a.pool) x y

abbrev pub IsRequestFor : Mapping → Request → Type 0
IsRequestFor m q = (s : Shape) → 0 < s.sectors → IsRequest s m.size q

-- an alteration of no clusters
abbrev nothing_of : Alteration
nothing_of = record { table = 0; slot = 0; count = 0; from = 0; bytes = []; goal = stores }

-- calls that read the file
module _ {parts : Parts} {m : Mapping} {a : Allocator} {x y : World} (run : Runs parts x y) (none : parts.files m.file → ⊥) (file : a.file ≡ m.file) (sound : IsSound x) (at : ℕ) (bytes : List ℕ) (q : Request) (is : IsRequestFor m q) where
  still : Alters m Always nothing_of a a x y
  still = left_alters run none file sound

  pub reached_start : Reached m at 0 bytes q a a x y
  reached_start = record {
    moves = λ s disks first of hands. still.moves s disks first of hands tt;
    done = λ s disks first of hands al told. subst (IsReached s m.size at 0 bytes q (x.seen m.file)) (sym (run.files m.file none).seen) (reached_none s m.size at bytes q (x.seen m.file) (is s of.shape.some));
  }

  pub nothing_changed : Changes m (change_of at bytes q) a a x y
  nothing_changed = record {
    moves = λ s disks first of hands. still.moves s disks first of hands tt;
    partly = λ s disks first of hands al told. subst (IsPartlyChanged s m.size (change_of at bytes q) (x.seen m.file)) (sym (run.files m.file none).seen) (partly_none s of.shape.some m.size at bytes q (is s of.shape.some) (x.seen m.file));
  }

-- and then some of it
module _ {parts : Parts} (m : Mapping) (a b : Allocator) {x w : World} (y : World) (run : Runs parts x w) (none : parts.files m.file → ⊥) (file : a.file ≡ m.file) (sound : IsSound x) where
  later : {s : Shape} {disks : List (List ℕ)} {first : ℕ} → Allocates s disks first a x → Allocates s disks first a w
  later al = spared_allocates run (λ is_file. none (subst parts.files file is_file)) al

  later_told : IsTrue x.tells → IsTrue w.tells
  later_told told = subst IsTrue (sym run.goes.tells) told

  same_seen : w.seen m.file ≡ x.seen m.file
  same_seen = (run.files m.file none).seen

  pub reached_from : {at n : ℕ} {bytes : List ℕ} {q : Request} {others : Parts} → Runs others w y → Reached m at n bytes q a b w y → Reached m at n bytes q a b x y
  reached_from {at} {n} {bytes} {q} {others} on reached = record {
    moves = λ s disks first of hands. record {
      since = λ al.
          since_on x.now m.file (IsSafe s (y.seen m.file ∷ disks)) on
          (since_spared m.file (IsSafe s (y.seen m.file ∷ disks)) run none
          (λ c left. more_safe s disks (y.seen m.file) c (now_safe sound (subst (λ (f : ℕ). IsStanding s disks first a.pool.prepared f x) file al.stands) c left)))
          ((reached.moves s disks first of hands).since (later al));
      stands = λ al. (reached.moves s disks first of hands).stands (later al);
    };
    done = λ s disks first of hands al told. subst (λ (c : List ℕ). IsReached s m.size at n bytes q c (y.seen m.file)) same_seen (reached.done s disks first of hands (later al) (later_told told));
  }

  pub known_from : KnowsOn m Always a b w y → KnowsOn m Always a b x y
  known_from known = record {
    known = λ s disks first of hands tt al told knows. known.known s disks first of hands tt (later al) (later_told told) (subst (IsKnown s a) (sym same_seen) knows);
  }

  pub used_from : {at n : ℕ} → HasUsed m at n a b w y → HasUsed m at n a b x y
  used_from {at} {n} used = record {
    used = λ s disks first of hands al told store has. used.used s disks first of hands (later al) (later_told told) store (subst (λ (c : List ℕ). HasStore s m.size c store) (sym same_seen) has);
  }

-- all bytes are
module _ {m : Mapping} {at : ℕ} {bytes : List ℕ} {q : Request} {a b : Allocator} {x y : World} (is : IsRequestFor m q) (reached : Reached m at (length bytes) bytes q a b x y) where
  pub changes_all : Changes m (change_of at bytes q) a b x y
  changes_all = record {
    moves = reached.moves;
    partly = λ s disks first of hands al told. partly_all s of.shape.some m.size at bytes q (is s of.shape.some) (x.seen m.file) (y.seen m.file) (reached.done s disks first of hands al told);
  }

  pub has_changed : at + length bytes ≤ m.size → HasChanged m (change_of at bytes q) a x y
  has_changed inside = record {
    done = λ s disks first of hands al told. changed_all s of.shape.some m.size at bytes q (is s of.shape.some) (x.seen m.file) (y.seen m.file) (reached.done s disks first of hands al told) inside;
  }

-- ---- one part more

-- what a part's steps touch, in each shape of the map
abbrev pub AreSteps : Mapping → ℕ → Part → Request → (ℕ → Kind → Kind) → Type 0
AreSteps m n p q goal = (s : Shape) → IsMapOf s m → (old : List ℕ) (store : Store) → HasStore s m.size old store → IsStep s store p q.kind goal (q.touch store n) (q.touch store (n + p.length)) (q.gain store n) (q.gain store (n + p.length))

-- what becomes of its table, and what may
abbrev pub OwnDone : Mapping → ℕ → ℕ → Part → Request → Allocator → World → World → Type 0
OwnDone m at n p q b y z = (s : Shape) (disks : List (List ℕ)) (first : ℕ) → IsMapOf s m → HandsOut first b → Reads m.file (Allocates s disks first b) (λ c d.
    (old : List ℕ) (store : Store) → HasStore s m.size old store → LeavesBehind s at n old c → has_table s d p.table ≡ (has_table s old p.table || q.gain store (n + p.length) p.table)) y z

abbrev pub OwnNear : Mapping → ℕ → ℕ → ℕ → Part → Request → Allocator → World → World → Type 0
OwnNear m at n all p q b y z = (s : Shape) (disks : List (List ℕ)) (first : ℕ) → IsMapOf s m → HandsOut first b → Reads m.file (Allocates s disks first b) (λ c d.
    (old : List ℕ) (store : Store) → HasStore s m.size old store → LeavesBehind s at n old c → Forms s old → Keeps s old d
    → (has_table s d p.table ≡ has_table s old p.table) ⊎ ((q.gain store all p.table ≡ true) × (has_table s d p.table ≡ true))) y z

module _ {m : Mapping} {at n left : ℕ} {p : Part} {bytes : List ℕ} {q : Request} {a b : Allocator} {x y : World} (mapping : IsMapping m) (file : a.file ≡ m.file) (part : IsPart (shape_by m) (at + n) left p) (next : IsNext n p)
    (reached : Reached m at n bytes q a b x y) (run : Runs (only_file m.file) x y) where
  -- before the part
  module _ (s : Shape) (disks : List (List ℕ)) (first : ℕ) (of : IsMapOf s m) (hands : HandsOut first a) (al : Allocates s disks first a x) where
    pub mid_stands : StandsFrom s (y.seen m.file ∷ disks) b y
    mid_stands = (reached.moves s disks first of hands).stands al

    good_forms : IsTrue x.tells → Forms s (x.seen m.file)
    good_forms told = (subst (λ (f : ℕ). IsStanding s disks first a.pool.prepared f x) file al.stands told).seen.forms

    good_kept : IsTrue x.tells → IsKept s disks (x.seen m.file)
    good_kept told = (subst (λ (f : ℕ). IsStanding s disks first a.pool.prepared f x) file al.stands told).seen.kept

    pub mid_told : IsTrue x.tells → IsTrue y.tells
    mid_told told = subst IsTrue (sym run.goes.tells) told

    pub part_here : IsPart s (at + n) left p
    part_here = part_of s m (at + n) left p mapping of part

    pub left_behind : IsTrue x.tells → LeavesBehind s at n (x.seen m.file) (y.seen m.file)
    left_behind told = (reached.done s disks first of hands al told).rest

  module _ {c : Allocator} {z : World} {piece : List ℕ} {goal : ℕ → Kind → Kind} (fits : n + p.length ≤ length bytes) (rest_is : left ≡ length bytes - n) (piece_is : piece ≡ take p.length (drop n bytes)) (is : IsRequestFor m q) (steps : AreSteps m n p q goal)
      (on : Runs (only_file m.file) y z) (sound : IsSound z) (alters : Alters m Always (record { table = p.table; slot = p.slot; count = p.count; from = p.from; bytes = piece; goal = goal }) b c y z) where
    was_told : IsTrue z.tells → IsTrue x.tells
    was_told told = subst IsTrue (on.goes.tells ∙ run.goes.tells) told

    module _ (s : Shape) (disks : List (List ℕ)) (first : ℕ) (of : IsMapOf s m) (hands : HandsOut first a) (al : Allocates s disks first a x) where
      part_done : IsTrue x.tells → IsPartlyAltered s m.size (record { table = p.table; slot = p.slot; count = p.count; from = p.from; bytes = piece; goal = goal }) (y.seen m.file) (z.seen m.file)
      part_done told = let mid = mid_stands s disks first of hands al in alters.partly s (y.seen m.file ∷ disks) mid.0 of mid.1 tt mid.2 (mid_told s disks first of hands al told)

      dropped : IsTrue x.tells → IsCovered s (y.seen m.file) (z.seen m.file) disks
      dropped told =
          covered_part s of.shape.some at n left p (part_here s disks first of hands al) next (x.seen m.file) (y.seen m.file) (z.seen m.file) (left_behind s disks first of hands al told) disks
          (good_kept s disks first of hands al told) (part_done told).rest

    pub moves_part : (s : Shape) (disks : List (List ℕ)) (first : ℕ) → IsMapOf s m → HandsOut first a →
        Moves m.file (IsSafe s (z.seen m.file ∷ disks)) (Allocates s disks first a) (StandsFrom s (z.seen m.file ∷ disks) c) x z
    moves_part s disks first of hands = record {
      since = λ al k k_low k_high d out.
          let told = was_told (told_at z k m.file d sound out) in
          let mid = mid_stands s disks first of hands al in
          let second = alters.moves s (y.seen m.file ∷ disks) mid.0 of mid.1 tt in
          drop_safe s (y.seen m.file) (z.seen m.file) disks d (dropped s disks first of hands al told)
          (since_on x.now m.file (IsSafe s (z.seen m.file ∷ y.seen m.file ∷ disks)) on
          (λ t t_low t_high f f_out. more_safe s (y.seen m.file ∷ disks) (z.seen m.file) f ((reached.moves s disks first of hands).since al t t_low t_high f f_out)) (second.since mid.2) k k_low k_high d out);
      stands = λ al.
          let mid = mid_stands s disks first of hands al in
          let last = (alters.moves s (y.seen m.file ∷ disks) mid.0 of mid.1 tt).stands mid.2 in (
            last.0,
            last.1,
            record {
              is = last.2.is;
              stands = λ told. drop_stands (y.seen m.file) (z.seen m.file) (dropped s disks first of hands al (was_told told)) last.2.stands told;
              table = last.2.table;
            },
          );
    }

    pub changes_part : OwnNear m at n (length bytes) p q b y z → Changes m (change_of at bytes q) a c x z
    changes_part own = record {
      moves = moves_part;
      partly = λ s disks first of hands al told.
          let mid = mid_stands s disks first of hands al in
          let was = reached.done s disks first of hands al told in
          let now = part_done s disks first of hands al told in
          partly_on s of.shape.some m.size (tables_cover s m mapping of) at n left p (part_here s disks first of hands al) next bytes piece rest_is fits piece_is q (is s of.shape.some) goal (x.seen m.file) (y.seen m.file) (z.seen m.file) was
          (λ store has. steps s of (x.seen m.file) store has) now
          (λ store has. own s (y.seen m.file ∷ disks) mid.0 of mid.1 mid.2 (mid_told s disks first of hands al told) (x.seen m.file) store has was.rest (good_forms s disks first of hands al told)
          (keeps_on s (x.seen m.file) (y.seen m.file) (z.seen m.file) was.keeps now.rest.keeps));
    }

    pub reached_part : HasAltered m Always (record { table = p.table; slot = p.slot; count = p.count; from = p.from; bytes = piece; goal = goal }) b y z → OwnDone m at n p q b y z → Reached m at (n + p.length) bytes q a c x z
    reached_part done own = record {
      moves = moves_part;
      done = λ s disks first of hands al told.
          let mid = mid_stands s disks first of hands al in
          let was = reached.done s disks first of hands al told in
          let told_mid = mid_told s disks first of hands al told in
          reached_on s of.shape.some m.size (tables_cover s m mapping of) at n left p (part_here s disks first of hands al) next bytes piece rest_is fits piece_is q (is s of.shape.some) goal (x.seen m.file) (y.seen m.file) (z.seen m.file) was
          (λ store has. steps s of (x.seen m.file) store has) (done.done s (y.seen m.file ∷ disks) mid.0 of mid.1 tt mid.2 told_mid)
          (λ store has. own s (y.seen m.file ∷ disks) mid.0 of mid.1 mid.2 told_mid (x.seen m.file) store has was.rest);
    }

  -- what is known goes on
  pub known_part : {c : Allocator} {z : World} → KnowsOn m Always a b x y → KnowsOn m Always b c y z → KnowsOn m Always a c x z
  known_part {c} {z} first second = record {
    known = λ s disks low of hands tt al told knows.
        let mid = mid_stands s disks low of hands al in
        second.known s (y.seen m.file ∷ disks) mid.0 of mid.1 tt mid.2 (mid_told s disks low of hands al told) (first.known s disks low of hands tt al told knows);
  }

  -- and as many clusters can be handed out
  pub same_room_part : (c : Allocator) → SameRoom m a b x → SameRoom m b c y → SameRoom m a c x
  same_room_part c first second s disks low of hands al told =
      let mid = mid_stands s disks low of hands al in
      second s (y.seen m.file ∷ disks) mid.0 of mid.1 mid.2 (mid_told s disks low of hands al told) ∙ first s disks low of hands al told

pub known_same : {m : Mapping} {a : Allocator} {x y : World} → y.seen m.file ≡ x.seen m.file → KnowsOn m Always a a x y
known_same {m} {a} {x} {y} same = record { known = λ s disks first of hands tt al told knows. subst (IsKnown s a) (sym same) knows }

-- ---- a write's part

pub used_none : (m : Mapping) (at : ℕ) (a : Allocator) (x y : World) → HasUsed m at 0 a a x y
used_none m at a x y = record { used = λ s disks first of hands al told store has. omega (arith, need_none store at) }

-- a range needs no more than there is
abbrev pub HasRoomFor : Mapping → ℕ → ℕ → Allocator → World → Type 0
HasRoomFor m at n a x = (s : Shape) (store : Store) → IsMapOf s m → IsTrue x.tells → HasStore s m.size (x.seen m.file) store → need store (range at n) ≤ room a.pool

module _ {m : Mapping} {at n left : ℕ} {p : Part} {a b : Allocator} {x y : World} {bytes : List ℕ} (mapping : IsMapping m) (file : a.file ≡ m.file) (part : IsPart (shape_by m) (at + n) left p) (is_for : IsPartFor m p) (next : IsNext n p) (fits : at + n + p.length ≤ m.size)
    (reached : Reached m at n bytes (writing at) a b x y) (run : Runs (only_file m.file) x y) where
  index : (s : Shape) → IsMapOf s m → p.table < s.tables
  index s of = omega (arith, is_for.table, of.tables)

  pub write_steps : AreSteps m n p (writing at) stores
  write_steps s of old store has = write_step s old m.size store has at n left p of.shape.some (part_of s m (at + n) left p mapping of part) next fits

  pub write_near : (z : World) (all : ℕ) → n + p.length ≤ all → OwnNear m at n all p (writing at) b y z
  write_near z all order s disks first of hands al told old store has before forms keeps =
      write_own_near s old m.size store has at n left p of.shape.some (part_of s m (at + n) left p mapping of part) next fits (z.seen m.file) all order
      (there_on s old (z.seen m.file) p.table of.shape.some forms (index s of) keeps)

  module _ (used : HasUsed m at n a b x y) where
    -- what a part needs of the file as it was is what it needs now
    need_now : (s : Shape) (disks : List (List ℕ)) (first : ℕ) (of : IsMapOf s m) (hands : HandsOut first a) (al : Allocates s disks first a x) → IsTrue x.tells → (store : Store) → HasStore s m.size (x.seen m.file) store
        → need store (range at (n + p.length)) ≡ need store (range at n) + part_need s (y.seen m.file) p.table p.slot p.count
    need_now s disks first of hands al told store has =
        let here = part_of s m (at + n) left p mapping of part in
        let same = need_same s of.shape.some at n left p here next (x.seen m.file) (y.seen m.file) (y.seen m.file) (reached.done s disks first of hands al told).rest (index s of) here.slots in
        need_more s (x.seen m.file) m.size store has at n left p of.shape.some here next fits ∙ ap (λ (k : ℕ). need store (range at n) + k) (sym same)

    pub used_part : (c : Allocator) (z : World) → ((s : Shape) (disks : List (List ℕ)) (first : ℕ) → IsMapOf s m → HandsOut first b →
        Reads m.file (Allocates s disks first b) (λ old new. (has_table s new p.table ≡ true) × (room c.pool + part_need s old p.table p.slot p.count ≡ room b.pool)) y z) → HasUsed m at (n + p.length) a c x z
    used_part c z now = record {
      used = λ s disks first of hands al told store has.
          let mid = mid_stands mapping file part next reached run s disks first of hands al in
          let last = (now s (y.seen m.file ∷ disks) mid.0 of mid.1 mid.2 (mid_told mapping file part next reached run s disks first of hands al told)).1 in
          omega (arith, need_now s disks first of hands al told store has, used.used s disks first of hands al told store has, last);
    }

    pub uses_part : (c : Allocator) (z : World) (all : ℕ) → n + p.length ≤ all → ((s : Shape) (disks : List (List ℕ)) (first : ℕ) → IsMapOf s m → HandsOut first b →
        Reads m.file (Allocates s disks first b) (λ old new. UsesUpTo b c (part_need s old p.table p.slot p.count)) y z) → (s : Shape) (disks : List (List ℕ)) (first : ℕ) → IsMapOf s m → HandsOut first a →
        Reads m.file (Allocates s disks first a) (λ old new. (store : Store) → HasStore s m.size old store → UsesUpTo a c (need store (range at all))) x z
    uses_part c z all order now s disks first of hands al told store has =
        let mid = mid_stands mapping file part next reached run s disks first of hands al in
        let last = now s (y.seen m.file ∷ disks) mid.0 of mid.1 mid.2 (mid_told mapping file part next reached run s disks first of hands al told) in
        let step = need_now s disks first of hands al told store has in
        let was = used.used s disks first of hands al told store has in
        let more = need_less store at (n + p.length) all order in
        record { least = omega (arith, step, was, more, last.least); most = omega (arith, was, last.most) }

    -- so a part doesn't lack room where the whole has it
    pub lacks_none : (z : World) (all : ℕ) → n + p.length ≤ all → HasRoomFor m at all a x → ((s : Shape) (disks : List (List ℕ)) (first : ℕ) → IsMapOf s m → HandsOut first b →
        Reads m.file (Allocates s disks first b) (λ old new. room b.pool < part_need s old p.table p.slot p.count) y z) → (s : Shape) (disks : List (List ℕ)) (first : ℕ) → IsMapOf s m → HandsOut first a → Allocates s disks first a x → IsTrue x.tells → ⊥
    lacks_none z all order there now s disks first of hands al told =
        let mid = mid_stands mapping file part next reached run s disks first of hands al in
        let last = now s (y.seen m.file ∷ disks) mid.0 of mid.1 mid.2 (mid_told mapping file part next reached run s disks first of hands al told) in
        let store = store_of s m.size (x.seen m.file) in
        let has = has_store_of s m.size (x.seen m.file) of.shape.some in
        omega (arith, last, need_now s disks first of hands al told store has, used.used s disks first of hands al told store has, need_less store at (n + p.length) all order, there s store of told has)

  pub write_done : (c : Allocator) (z : World) → ((s : Shape) (disks : List (List ℕ)) (first : ℕ) → IsMapOf s m → HandsOut first b →
      Reads m.file (Allocates s disks first b) (λ old new. (has_table s new p.table ≡ true) × (room c.pool + part_need s old p.table p.slot p.count ≡ room b.pool)) y z) → OwnDone m at n p (writing at) b y z
  write_done c z now s disks first of hands al told old store has before =
      write_own s old m.size store has at n left p of.shape.some (part_of s m (at + n) left p mapping of part) next fits (z.seen m.file) (now s disks first of hands al told).0

-- no more were used than all of it needs
pub uses_all : {m : Mapping} {at n : ℕ} {a b : Allocator} {x y : World} → HasUsed m at n a b x y → (s : Shape) (disks : List (List ℕ)) (first : ℕ) → IsMapOf s m → HandsOut first a →
    Reads m.file (Allocates s disks first a) (λ old new. (store : Store) → HasStore s m.size old store → UsesUpTo a b (need store (range at n))) x y
uses_all used s disks first of hands al told store has = let was = used.used s disks first of hands al told store has in record { least = omega (arith, was); most = omega (arith, was) }

-- ---- a zero's part

module _ (m : Mapping) (at n left : ℕ) (p : Part) (mapping : IsMapping m) (part : IsPart (shape_by m) (at + n) left p) (is_for : IsPartFor m p) (next : IsNext n p) where
  pub zero_steps : (is_last : Bool) → at + n + p.length ≤ m.size → (is_last ≡ true → at + n + p.length ≡ m.size) → (is_last ≡ false → at + n + p.length < m.size) → AreSteps m n p (zeroing m.size at) (clears_in p (2 ^ m.bits) is_last)
  zero_steps is_last fits last more s of old store has =
      subst (λ (z : ℕ). IsStep s store p Hole (clears_in p z is_last) ((zeroing m.size at).touch store n) ((zeroing m.size at).touch store (n + p.length)) ((zeroing m.size at).gain store n) ((zeroing m.size at).gain store (n + p.length))) (sym of.cluster)
      (zero_step s old m.size store has at n left p of.shape.some (part_of s m (at + n) left p mapping of part) next is_last fits last more)

  module _ (b : Allocator) (y z : World) (tables : (s : Shape) (disks : List (List ℕ)) (first : ℕ) → IsMapOf s m → HandsOut first b → Reads m.file (Allocates s disks first b) (SameTables s) y z) where
    own_kept : (s : Shape) (disks : List (List ℕ)) (first : ℕ) → IsMapOf s m → HandsOut first b → Reads m.file (Allocates s disks first b) (λ c d. (old : List ℕ) → LeavesBehind s at n old c → has_table s d p.table ≡ has_table s old p.table) y z
    own_kept s disks first of hands al told old before =
        let inside : p.table < s.tables = omega (arith, is_for.table, of.tables) in
        ap (λ (w : ℕ). not (offset w == 0)) (tables s disks first of hands al told p.table inside)
        ∙ own_same s of.shape.some at n left p (part_of s m (at + n) left p mapping of part) next old (y.seen m.file) (z.seen m.file) before inside

    pub zero_done : OwnDone m at n p (zeroing m.size at) b y z
    zero_done s disks first of hands al told old store has before = own_kept s disks first of hands al told old before ∙ or_false (has_table s old p.table)

    pub zero_near : (all : ℕ) → OwnNear m at n all p (zeroing m.size at) b y z
    zero_near all s disks first of hands al told old store has before forms keeps = inl (own_kept s disks first of hands al told old before)

pub zeroing_for : (m : Mapping) (at : ℕ) → IsRequestFor m (zeroing m.size at)
zeroing_for m at s some = is_zeroing s m.size at some

pub writing_for : (m : Mapping) (at : ℕ) → IsRequestFor m (writing at)
writing_for m at s some = is_writing s m.size at

abbrev zero_by : ℕ → ℕ → ℕ → ℕ → Change
zero_by total at n k = record { at = at; bytes = replicate n 0; goal = λ store. store_zeroed total store (range at k) }

-- what a zero's bytes ask for
pub zero_change : (total at n : ℕ) → change_of at (replicate n 0) (zeroing total at) ≡ zero_of total at n
zero_change total at n = ap (zero_by total at n) (length-replicate n 0)
