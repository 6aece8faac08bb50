-- Bytes of one part: its entries are read, its table is linked where there is none, and the row is written.
use Rattle.std.proofs.Common.{◌≡◌, ◌≢◌, ◌⊎◌, inl, inr, ℕ, ◌+◌, ◌*◌, ◌/◌, ◌^◌, ◌<◌, ◌≤◌, List, [], ◌∷◌, IsTrue, Bool, true, not, Option, None, Ok, refl, sym, ◌∙◌, ap, subst, arith}
use Rattle.std.specs.Prelude.{cond, count_by, ◌==◌}
use Rattle.std.specs.List.{range_with_len}
use Rattle.std.proofs.lemmas.Bool.{cases_lt, cases_eq, ne_eqb, eq-eqb}
use Rattle.disk_model.specs.Files.{byte, u64_at}
use Rattle.disk_model.specs.World.{World, IsSound}
use Rattle.disk_model.proofs.Laws.{overlay_empty}
use Rattle.file_device.specs.Calls.{Looks}
use Rattle.file_device.specs.File.{file_of, Gives}
use Rattle.file_device.proofs.Laws.{given}
use Rattle.image_model.specs.Clusters.{Shape, size, per, place, offset, pick, Forms, Guest, Ready, Fresh, Of, Block, IsOwn, Standing, IsStanding}
use Rattle.image_model.specs.Disks.{disk_of}
use Rattle.image_steps.proofs.Kept.{linked_at}
use Rattle.image_steps.proofs.Naming.{entry_some, entry_none}
use Rattle.image_steps.proofs.OnDisk.{disk_same}
use Rattle.image_steps.proofs.Places.{place_some}
use Rattle.image_steps.proofs.Storing.{rest_of}
use Rattle.cluster_pool.specs.Pool.{room}
use Rattle.map_rows.specs.Stores.{kind_of, is_open_at, has_table}
use Rattle.qc_alloc.specs.Allocator.{Allocator, Allocates, HandsOut}
use Rattle.qc_map.specs.Altering.{IsPartlyAltered, IsSameImage, UsesUpTo, Alters, HasAltered, KnowsOn, HasRow, ToldRow, Always}
use Rattle.qc_map.specs.Failures.{Went}
use Rattle.qc_map.specs.Filling.{NamesBelow}
use Rattle.qc_map.specs.Linking.{LacksTable, LinksTable, IsTableLeft, HasLinked}
use Rattle.qc_map.specs.Mapping.{Mapping, IsMapping, IsMapOf, shape_by}
use Rattle.qc_map.specs.Needing.{part_need}
use Rattle.qc_map.specs.Reading.{IsRow}
use Rattle.qc_map.specs.declared.failures.Failing.{Failing}
use Rattle.qc_map.proofs.More.{row_needs}
use Rattle.qc_map.proofs.Over.{tables_cover}
use Rattle.qc_map.proofs.Places.{div_is, size_by}
use Rattle.qc_map.proofs.Rowwise.{piece_of}
use Rattle.qc_map.proofs.Words.{first_level_by}
use Rattle.qc_map.proofs.Steps.{Fits, FitsIn, IsJoined, Carries, alters_on, done_on, known_on, left_alters, left_done, left_known, went_ok, went_on, same_image_self, spared_allocates, allocates_more}
use Rattle.image_steps.proofs.Good.{more_safe}

-- ---- a row that was read

pub row_by : (s : Shape) (m : Mapping) (file row : List ℕ) (i j n : ℕ) → IsMapOf s m → IsRow (shape_by m) file i j n row → IsRow s file i j n row
row_by s m file row i j n is has = record {
  each = λ t t_in.
      has.each t t_in
      ∙ ap (λ (l : ℕ). pick (offset (u64_at file (l + 8 * i))) (u64_at file (offset (u64_at file (l + 8 * i)) + 8 * (j + t)))) (first_level_by m ∙ is.first_level);
}

table_by : (s : Shape) (m : Mapping) (file : List ℕ) (i table : ℕ) → IsMapOf s m → table ≡ offset (u64_at file (m.first_level + 8 * i)) → table ≡ offset (u64_at file (s.l1 + 8 * i))
table_by s m file i table is at = at ∙ ap (λ (l : ℕ). offset (u64_at file (l + 8 * i))) is.first_level

-- its table is there
pub row_there : (s : Shape) (m : Mapping) (file row : List ℕ) (i j n table : ℕ) → IsMapOf s m → Forms s file → i < s.tables → j + n ≤ per s → IsRow (shape_by m) file i j n row → table ≡ offset (u64_at file (m.first_level + 8 * i)) → table ≢ 0
    → HasRow s (table + 8 * j) i j n row file
row_there s m file row i j n table is forms i_in slots has at some =
    let here = table_by s m file i table is at in
    elim (forms.tables i i_in).at [
      | inl none ↦ absurd (some (here ∙ none))
      | inr there ↦ record { cluster = there.cluster; linked = linked_at s file i i_in there; slots = slots; at = omega (arith, here, there.is); words = row_by s m file row i j n is has }
    ]

-- clusters that it names lie below the ready ones
pub named_below : (s : Shape) (disks : List (List ℕ)) (first : ℕ) (m : Mapping) (spot i j n : ℕ) (row : List ℕ) (a : Allocator) (w : World) → IsMapOf s m → Allocates s disks first a w → HandsOut first a → a.file ≡ m.file → IsTrue w.tells
    → HasRow s spot i j n row (w.seen m.file) → NamesBelow m.bits n row a.pool.next
unfolding place
named_below s disks first m spot i j n row a w is al hands file told has k named =
    elim (st.seen.forms.entries i has.cluster (j + named.entry) has.linked slot).at [
      | inl none ↦ absurd (named.some (ap offset word ∙ none))
      | inr at ↦
          let owned = st.seen.lies.refs (Guest i (j + named.entry)) at.cluster (record { table = has.cluster; linked = has.linked; inside = slot; some = at.some; at = at.is }) in
          let here : offset (u64_at row (8 * named.entry)) ≡ at.cluster * size s + 0 = ap offset word ∙ at.is ∙ grind arith in
          let same : at.cluster ≡ k = sym (div_is (offset (u64_at row (8 * named.entry))) (size s) at.cluster 0 here (omega (arith, is.shape.some))) ∙ ap (λ (z : ℕ). offset (u64_at row (8 * named.entry)) / z) (sym is.cluster) ∙ named.is in
          elim (cases_lt at.cluster first) [
            | inl less ↦ omega (arith, less, same, hands.fresh)
            | inr from ↦ absurd (elim (cases_lt at.cluster a.pool.prepared) [
              | inl among ↦ not_ready at.cluster owned (st.ready at.cluster from among)
              | inr past ↦ elim (cases_eq at.cluster a.pool.prepared) [
                | inl edge ↦ not_fresh at.cluster owned (subst (λ (x : ℕ). (st.role x ≡ Fresh) ⊎ IsOwn s st.role x) (sym edge) st.edge)
                | inr other ↦ not_fresh at.cluster owned (inl (st.fresh at.cluster (omega (arith, past, other))))
              ]
            ])
          ]
    ]
  where
    st : Standing s disks first a.pool.prepared m.file w
    st = subst (λ (f : ℕ). IsStanding s disks first a.pool.prepared f w) file al.stands told

    slot : j + named.entry < per s
    slot = omega (arith, named.inside, has.slots)

    word : u64_at row (8 * named.entry) ≡ u64_at (w.seen m.file) (place s has.cluster + 8 * (j + named.entry))
    word = has.words.each named.entry named.inside ∙ entry_some s (w.seen m.file) i (j + named.entry) has.cluster is.shape.some has.linked

    not_ready : (c : ℕ) → st.role c ≡ Of (Guest i (j + named.entry)) → (st.role c ≡ Ready) ⊎ IsOwn s st.role c → ⊥
    not_ready c owned (inl ready) = cc
    not_ready c owned (inr own) = let block : st.role c ≡ Of (Block own.0) = own.2 in cc

    not_fresh : (c : ℕ) → st.role c ≡ Of (Guest i (j + named.entry)) → (st.role c ≡ Fresh) ⊎ IsOwn s st.role c → ⊥
    not_fresh c owned (inl fresh) = cc
    not_fresh c owned (inr own) = let block : st.role c ≡ Of (Block own.0) = own.2 in cc

-- ---- a table that is linked alters nothing of the guest's

linked_partly : {m : Mapping} (s : Shape) (total i j n from : ℕ) (bytes old new : List ℕ) → IsMapOf s m → Fits s (piece_of i j n from bytes) → total ≤ s.tables * per s * size s → IsTableLeft s i old new → IsPartlyAltered s total (piece_of i j n from bytes) old new
linked_partly {m} s total i j n from bytes old new is fits covers left = record {
  rest = rest_of left.guest;
  tables = left.tables;
  kinds = λ t t_in. inl (ap kind_of (left.guest.alike.entries i (j + t) fits.index (omega (arith, fits.slots, t_in))));
  disk = λ x x_in. inl (λ y low high y_in. ap (λ (l : List ℕ). byte l y) (disk_same s total old new is.shape covers left.guest));
}

link_alters : {m : Mapping} {i : ℕ} {q r : Allocator} {y z : World} (j n from : ℕ) (bytes : List ℕ) → IsMapping m → FitsIn m (LacksTable m i) (piece_of i j n from bytes) y → LinksTable m i q r y z → Alters m (LacksTable m i) (piece_of i j n from bytes) q r y z
link_alters {m} {i} {q} {r} {y} {z} j n from bytes mapping fits links = record {
  moves = λ s disks low is hands known. record {
    since = λ al k k_low k_high c left. more_safe s disks (z.seen m.file) c ((links.moves s disks low is hands known).since al k k_low k_high c left);
    stands = λ al. let next = (links.moves s disks low is hands known).stands al in (next.0, next.1, allocates_more (z.seen m.file) next.2);
  };
  partly = λ s disks low is hands known al told. linked_partly s m.size i j n from bytes (y.seen m.file) (z.seen m.file) is (fits s is known told) (tables_cover s m mapping is) (links.left s disks low is hands known al told);
}

link_done : {m : Mapping} {i : ℕ} {q r : Allocator} {y z : World} (j from : ℕ) → IsMapping m → LinksTable m i q r y z → HasAltered m (LacksTable m i) (piece_of i j 0 from []) q y z
link_done {m} {i} {q} {r} {y} {z} j from mapping links = record {
  done = λ s disks low is hands known al told.
      let left = links.left s disks low is hands known al told in
      record {
        rest = rest_of left.guest;
        tables = left.tables;
        kinds = λ t t_in. absurd (omega (arith, t_in));
        disk = λ x x_in.
            ap (λ (l : List ℕ). byte l x) (disk_same s m.size (y.seen m.file) (z.seen m.file) is.shape (tables_cover s m mapping is) left.guest)
            ∙ ap (λ (l : List ℕ). byte l x) (sym (overlay_empty (disk_of s m.size (y.seen m.file)) ((i * per s + j) * size s + from) [] refl));
      };
}

-- ---- before the row is written

-- a row can be written, and nothing of the guest's changed
pub record Opened (m : Mapping) (i j n from : ℕ) (row : List ℕ) (spot used : ℕ) (p r : Allocator) (x z : World) : Type 0 where
  pub alters : Alters m Always (piece_of i j 0 from []) p r x z
  pub altered : HasAltered m Always (piece_of i j 0 from []) p x z
  pub known : KnowsOn m Always p r x z
  pub went : Went m.file x z None
  pub image : IsSameImage p r
  pub there : Carries m Always (ToldRow m spot i j n row) p x z
  pub room_used : room r.pool + used ≡ room p.pool
  pub need_is : (s : Shape) → IsMapOf s m → IsTrue x.tells → part_need s (x.seen m.file) i j n ≡ count_by (is_open_at row) (range_with_len 0 n) + used

joined_none : (m : Mapping) (i j n from : ℕ) (bytes : List ℕ) → IsJoined m (piece_of i j 0 from []) (piece_of i j n from bytes) (piece_of i j n from bytes)
joined_none m i j n from bytes = record {
  table = refl;
  table_on = refl;
  slot = refl;
  slot_on = omega arith;
  count = omega arith;
  from = refl;
  next = let none : 0 * 2 ^ m.bits ≡ 0 = omega arith in omega (arith, none);
  ends = inl refl;
  bytes = refl;
  goal = λ t t_in kind. absurd (omega (arith, t_in));
  goal_on = λ t t_in kind. refl;
}

-- what the part's entries said
pub record IsReadPart (m : Mapping) (i j n table : ℕ) (row : List ℕ) (x : World) : Type 0 where
  pub words : Gives (file_of x m.file) (λ c. IsRow (shape_by m) c i j n row)
  pub at : Gives (file_of x m.file) (λ c. table ≡ offset (u64_at c (m.first_level + 8 * i)))
  pub index : i < m.tables
  pub slots : j + n ≤ per (shape_by m)

pub part_fits : (m : Mapping) (i j n from : ℕ) (bytes : List ℕ) (s : Shape) → IsMapping m → i < m.tables → j + n ≤ per (shape_by m) → IsMapOf s m → Fits s (piece_of i j n from bytes)
part_fits m i j n from bytes s mapping index slots is = record { index = omega (arith, index, is.tables); slots = omega (arith, slots, size_by s m mapping is) }

needed : (s : Shape) (m : Mapping) (i j n table : ℕ) (row : List ℕ) (x : World) (used : ℕ) → IsMapOf s m → IsReadPart m i j n table row x → IsTrue x.tells → cond {A = ℕ} (table == 0) 1 0 ≡ used → part_need s (x.seen m.file) i j n ≡ count_by (is_open_at row) (range_with_len 0 n) + used
needed s m i j n table row x used is part told one =
    omega (
      arith,
      row_needs s (x.seen m.file) row i j n table (row_by s m (x.seen m.file) row i j n is (given x m.file (λ c. IsRow (shape_by m) c i j n row) part.words told))
          (table_by s m (x.seen m.file) i table is (given x m.file (λ c. table ≡ offset (u64_at c (m.first_level + 8 * i))) part.at told)),
      one,
    )

-- where the table was there
pub opened_there : {T E : Type 0} {m : Mapping} {i j n table : ℕ} {row : List ℕ} {p : Allocator} {x y : World} {value : T} (from : ℕ) → IsMapping m → p.file ≡ m.file → IsSound x → Looks {T = T} {E = E} m.file x y (Ok value) → IsReadPart m i j n table row x → table ≢ 0
    → Opened m i j n from row (table + 8 * j) 0 p p x y
opened_there {T} {E} {m} {i} {j} {n} {table} {row} {p} {x} {y} {value} from mapping file sound looks part some = record {
  alters = left_alters looks.reads (λ none. none) file sound;
  altered = left_done looks.reads (λ none. none) refl refl;
  known = left_known looks.reads (λ none. none);
  went = went_ok looks.calls;
  image = same_image_self p;
  there = record {
    carry = λ s disks low is hands known al told_y.
        let told = subst IsTrue looks.reads.goes.tells told_y in
        let fits = part_fits m i j n from [] s mapping part.index part.slots is in
        let stands = subst (λ (f : ℕ). IsStanding s disks low p.pool.prepared f x) file al.stands told in
        subst (HasRow s (table + 8 * j) i j n row) (sym (looks.reads.files m.file (λ none. none)).seen)
        (row_there s m (x.seen m.file) row i j n table is stands.seen.forms fits.index fits.slots (given x m.file (λ c. IsRow (shape_by m) c i j n row) part.words told)
        (given x m.file (λ c. table ≡ offset (u64_at c (m.first_level + 8 * i))) part.at told) some);
  };
  room_used = omega arith;
  need_is = λ s is told. needed s m i j n table row x 0 is part told (ap (λ (b : Bool). cond {A = ℕ} b 1 0) (ne_eqb table 0 some));
}

-- the part's table isn't there
lacks : {T E : Type 0} {m : Mapping} {i j n table : ℕ} {row : List ℕ} {p : Allocator} {x y : World} {value : T} → Looks {T = T} {E = E} m.file x y (Ok value) → IsReadPart m i j n table row x → table ≡ 0 → Carries m Always (LacksTable m i) p x y
lacks {T} {E} {m} {i} {j} {n} {table} {row} {p} {x} {y} {value} looks part none = record {
  carry = λ s disks low is hands known al told_y.
      let told = subst IsTrue looks.reads.goes.tells told_y in
      let at = table_by s m (x.seen m.file) i table is (given x m.file (λ c. table ≡ offset (u64_at c (m.first_level + 8 * i))) part.at told) in
      ap (λ (c : List ℕ). has_table s c i) (looks.reads.files m.file (λ none. none)).seen ∙ ap not (eq-eqb (offset (u64_at (x.seen m.file) (s.l1 + 8 * i))) 0 (sym at ∙ none));
}

module _ {T E : Type 0} {m : Mapping} {i j n table : ℕ} {row : List ℕ} {p r : Allocator} {x y z : World} {value : T} (from : ℕ) (mapping : IsMapping m) (file : p.file ≡ m.file) (sound : IsSound x) (later : IsSound z) (looks : Looks {T = T} {E = E} m.file x y (Ok value))
    (part : IsReadPart m i j n table row x) (none : table ≡ 0) (links : LinksTable m i p r y z) where
  -- whatever the link's call answered
  pub linked_alters : {failed : Option Failing} (bytes : List ℕ) → Went m.file y z failed → Alters m Always (piece_of i j n from bytes) p r x z
  linked_alters bytes on =
      alters_on {Q = LacksTable m i} {b = piece_of i j n from bytes} (joined_none m i j n from bytes) file (λ s is known told. part_fits m i j n from bytes s mapping part.index part.slots is) (lacks looks part none) looks.calls.run on.run later
      (left_alters looks.reads (λ none. none) file sound) (left_done looks.reads (λ none. none) refl refl)
      (link_alters j n from bytes mapping (λ s is known told. part_fits m i j n from bytes s mapping part.index part.slots is) links)

  pub linked_known : KnowsOn m (LacksTable m i) p r y z → KnowsOn m Always p r x z
  linked_known known =
      known_on {a = piece_of i j 0 from []} (lacks looks part none) looks.calls.run (left_alters looks.reads (λ none. none) file sound) (left_known looks.reads (λ none. none)) known

  pub linked_need : (s : Shape) → IsMapOf s m → IsTrue x.tells → part_need s (x.seen m.file) i j n ≡ count_by (is_open_at row) (range_with_len 0 n) + 1
  linked_need s is told = needed s m i j n table row x 1 is part told (ap (λ (b : Bool). cond {A = ℕ} b 1 0) (eq-eqb table 0 none))

  pub opened_linked : {opened : ℕ} → Went m.file y z None → HasLinked m i opened p y z → room r.pool + 1 ≡ room p.pool → KnowsOn m (LacksTable m i) p r y z → IsSameImage p r → Opened m i j n from row (opened + 8 * j) 1 p r x z
  opened_linked {opened} on linked room_used known image =
      let fits = λ (s : Shape) (is : IsMapOf s m) (k : ℕ) (few : k ≤ n). part_fits m i j k from [] s mapping part.index (omega (arith, few, part.slots)) is in
      record {
        alters = alters_on {Q = LacksTable m i} {b = piece_of i j 0 from []} (joined_none m i j 0 from []) file (λ s is k told. fits s is 0 (omega arith)) (lacks looks part none) looks.calls.run on.run later
            (left_alters looks.reads (λ none. none) file sound) (left_done looks.reads (λ none. none) refl refl)
            (link_alters j 0 from [] mapping (λ s is k told. fits s is 0 (omega arith)) links);
        altered = done_on {Q = LacksTable m i} {b = piece_of i j 0 from []} {q = p} (joined_none m i j 0 from []) file (λ s is k told. fits s is 0 (omega arith)) (lacks looks part none) looks.calls.run on.run later
            (left_alters looks.reads (λ none. none) file sound) (left_done looks.reads (λ none. none) refl refl) (link_done j from mapping links);
        known = linked_known known;
        went = went_on (went_ok looks.calls) on;
        image = image;
        there = record {
          carry = λ s disks low is hands k al told_z.
              let told_y = subst IsTrue on.run.goes.tells told_z in
              let told = subst IsTrue looks.reads.goes.tells told_y in
              let at = linked.done s disks low is hands ((lacks {p = p} looks part none).carry s disks low is hands k al) (spared_allocates looks.reads (λ none. none) al) told_y in
              let has = row_by s m (x.seen m.file) row i j n is (given x m.file (λ c. IsRow (shape_by m) c i j n row) part.words told) in
              let gone = sym (table_by s m (x.seen m.file) i table is (given x m.file (λ c. table ≡ offset (u64_at c (m.first_level + 8 * i))) part.at told)) ∙ none in
              record {
                cluster = at.cluster;
                linked = at.linked;
                slots = (fits s is n (omega arith)).slots;
                at = omega (arith, at.at);
                words = record { each = λ t t_in. has.each t t_in ∙ entry_none s (x.seen m.file) i (j + t) gone ∙ sym (at.none (j + t) (omega (arith, t_in, (fits s is n (omega arith)).slots))) };
              };
        };
        room_used = room_used;
        need_is = linked_need;
      }

-- ---- and with it

module _ {m : Mapping} {i j n from spot used : ℕ} {row bytes : List ℕ} {p q r : Allocator} {x z w : World} (opened : Opened m i j n from row spot used p r x z) (mapping : IsMapping m) (file : p.file ≡ m.file) (index : i < m.tables) (slots : j + n ≤ per (shape_by m)) (sound : IsSound w)
    (written : Alters m (ToldRow m spot i j n row) (piece_of i j n from bytes) r q z w) where
  pub part_alters : {failed : Option Failing} → Went m.file z w failed → Alters m Always (piece_of i j n from bytes) p q x w
  part_alters on = alters_on (joined_none m i j n from bytes) file (λ s is known told. part_fits m i j n from bytes s mapping index slots is) opened.there opened.went.run on.run sound opened.alters opened.altered written

  pub part_done : {failed : Option Failing} → Went m.file z w failed → HasAltered m (ToldRow m spot i j n row) (piece_of i j n from bytes) r z w → HasAltered m Always (piece_of i j n from bytes) p x w
  part_done on done = done_on (joined_none m i j n from bytes) file (λ s is known told. part_fits m i j n from bytes s mapping index slots is) opened.there opened.went.run on.run sound opened.alters opened.altered done

  pub part_known : KnowsOn m (ToldRow m spot i j n row) r q z w → KnowsOn m Always p q x w
  part_known known = known_on opened.there opened.went.run opened.alters opened.known known

  module _ (s : Shape) (disks : List (List ℕ)) (low : ℕ) (is : IsMapOf s m) (hands : HandsOut low p) (al : Allocates s disks low p x) (told : IsTrue x.tells) where
    told_z : IsTrue z.tells
    told_z = subst IsTrue (sym opened.went.run.goes.tells) told

    has_row : HasRow s spot i j n row (z.seen m.file)
    has_row = opened.there.carry s disks low is hands tt al told_z

    part_names : NamesBelow m.bits n row r.pool.next
    part_names = let mid = (opened.alters.moves s disks low is hands tt).stands al in named_below s (z.seen m.file ∷ disks) mid.0 m spot i j n row r z is mid.2 mid.1 (opened.image.file ∙ file) told_z has_row

    pub part_room : (NamesBelow m.bits n row r.pool.next → room q.pool + count_by (is_open_at row) (range_with_len 0 n) ≡ room r.pool) → (has_table s (w.seen m.file) i ≡ true) × (room q.pool + part_need s (x.seen m.file) i j n ≡ room p.pool)
    part_room rooms =
        let mid = (opened.alters.moves s disks low is hands tt).stands al in
        let linked = (written.partly s (z.seen m.file ∷ disks) mid.0 is mid.1 (opened.there.carry s disks low is hands tt al) mid.2 told_z).rest.keeps.tables i has_row.cluster has_row.linked in (
          ap not (ne_eqb (offset (u64_at (w.seen m.file) (s.l1 + 8 * i))) 0 (λ gone. absurd (omega (arith, gone, linked.at, place_some s has_row.cluster is.shape.some linked.some)))),
          omega (arith, rooms part_names, opened.room_used, opened.need_is s is told),
        )

    pub part_uses : (NamesBelow m.bits n row r.pool.next → UsesUpTo r q (count_by (is_open_at row) (range_with_len 0 n))) → UsesUpTo p q (part_need s (x.seen m.file) i j n)
    part_uses uses =
        let u = uses part_names in
        record { least = omega (arith, u.least, opened.room_used, opened.need_is s is told); most = omega (arith, u.most, opened.room_used) }

    pub part_short : (NamesBelow m.bits n row r.pool.next → room r.pool < count_by (is_open_at row) (range_with_len 0 n)) → room p.pool < part_need s (x.seen m.file) i j n
    part_short short = omega (arith, short part_names, opened.room_used, opened.need_is s is told)
