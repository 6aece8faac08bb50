-- One step of a call on guest clusters behind another.
use Rattle.std.proofs.Common.{◌≡◌, ◌⊎◌, inl, inr, ℕ, ◌+◌, ◌-◌, ◌*◌, ◌%◌, ◌^◌, ◌<◌, ◌≤◌, List, [], ◌∷◌, ◌++◌, length, IsTrue, Option, None, Some, Result, Ok, Err, refl, sym, ◌∙◌, ap, subst, arith, length-append}
use Rattle.std.proofs.lemmas.Bool.{cases_eq, cases_lt}
use Rattle.std.proofs.lemmas.List.{get_or_append_left, get_or-append_right}
use Rattle.disk_model.specs.Files.{byte, u64_at, overlay, IsOutcome}
use Rattle.disk_model.specs.World.{World, Parts, Runs, only_file, IsSound, EachNow}
use Rattle.disk_model.proofs.Laws.{byte-overlay_below, byte-overlay_in, byte-overlay_above, overlay_empty, run_on, stay, spared, since_on, since_spared, told_at, told_by, rose_after, file_failed_after}
use Rattle.file_device.specs.Calls.{Calls, Puts}
use Rattle.file_device.proofs.Laws.{quiet_on, quiet_stay}
use Rattle.image_model.specs.Clusters.{Shape, size, per, IsBlock, IsGood, IsKept, IsSafe, IsStanding, word_of}
use Rattle.image_model.specs.Calls.{SameTablesBut}
use Rattle.image_model.specs.Disks.{disk_of, IsMixedOf}
use Rattle.image_model.specs.Rows.{disk_place}
use Rattle.image_model.specs.Runs.{LeavesRest}
use Rattle.image_model.specs.Space.{Kind}
use Rattle.image_steps.proofs.Dropping.{IsCovered, drop_safe, drop_stands}
use Rattle.image_steps.proofs.Good.{more_safe, safe}
use Rattle.image_steps.proofs.Kept.{shown}
use Rattle.image_steps.proofs.Disk.{byte-disk_of}
use Rattle.image_steps.proofs.Links.{keeps_on}
use Rattle.image_steps.proofs.Standing.{stands_less}
use Rattle.map_rows.specs.Stores.{kind_of}
use Rattle.qc_alloc.specs.Allocator.{Allocator, HasTable, Allocates, HandsOut, StandsFrom, IsKnown}
use Rattle.qc_map.specs.Altering.{Alteration, spot_of, IsAltered, IsPartlyAltered, IsSameImage, Alters, HasAltered, KnowsOn, HasRow}
use Rattle.qc_map.specs.Failures.{Went, failure}
use Rattle.qc_map.specs.Mapping.{Mapping, IsMapOf}
use Rattle.qc_map.specs.declared.failures.Failing.{Failing}
use Rattle.qc_map.specs.declared.failures.Failing.TheVariants.{Data, Tables}
use Rattle.qc_map.specs.declared.failures.NotWritten.{NotWritten}
use Rattle.qc_map.specs.declared.failures.NotWritten.TheVariants.{NoRoom, Failed}

-- ---- bytes over bytes

over_front : (disk a b : List ℕ) (spot x : ℕ) → x < spot + length a → byte (overlay disk spot a) x ≡ byte (overlay disk spot (a ++ b)) x
over_front disk a b spot x below = elim (cases_lt x spot) [
  | inl before ↦ byte-overlay_below disk spot a x before ∙ sym (byte-overlay_below disk spot (a ++ b) x before)
  | inr from ↦
      byte-overlay_in disk spot a x from below
      ∙ sym (byte-overlay_in disk spot (a ++ b) x from (omega (arith, below, length-append a b)) ∙ get_or_append_left a b 0 (x - spot) (omega (arith, from, below)))
]

over_two : (disk mid a b : List ℕ) (spot x : ℕ) → byte mid x ≡ byte (overlay disk spot a) x → byte (overlay mid (spot + length a) b) x ≡ byte (overlay disk spot (a ++ b)) x
over_two disk mid a b spot x same = elim (cases_lt x (spot + length a)) [
  | inl first ↦ byte-overlay_below mid (spot + length a) b x first ∙ same ∙ over_front disk a b spot x first
  | inr past ↦ elim (cases_lt x (spot + length a + length b)) [
    | inl second ↦
        let there : x - (spot + length a) ≡ x - spot - length a = omega (arith, past) in
        byte-overlay_in mid (spot + length a) b x past second ∙ ap (byte b) there
        ∙ sym (byte-overlay_in disk spot (a ++ b) x (omega (arith, past)) (omega (arith, second, length-append a b)) ∙ get_or-append_right a b (length a) (x - spot) 0 refl (omega (arith, past)))
    | inr above ↦
        byte-overlay_above mid (spot + length a) b x above ∙ same ∙ byte-overlay_above disk spot a x past
        ∙ sym (byte-overlay_above disk spot (a ++ b) x (omega (arith, above, length-append a b)))
  ]
]

-- it ends with a sector, or nothing is in front of it or behind
abbrev Ends : ℕ → List ℕ → List ℕ → Type 0
Ends spot a b = (length a ≡ 0) ⊎ ((spot + length a) % 512 ≡ 0) ⊎ (length b ≡ 0)

-- a sector with a written is the disk's, or has all of it that is written there
one_sector : (disk a b : List ℕ) (spot x : ℕ) → Ends spot a b
    → ((y : ℕ) → 512 * x ≤ y → y < 512 * x + 512 → byte (overlay disk spot a) y ≡ byte disk y) ⊎ ((y : ℕ) → 512 * x ≤ y → y < 512 * x + 512 → byte (overlay disk spot a) y ≡ byte (overlay disk spot (a ++ b)) y)
one_sector disk a b spot x (inl none) = inl (λ y low high. ap (λ (l : List ℕ). byte l y) (overlay_empty disk spot a none))
one_sector disk a b spot x (inr (inl border)) = elim (cases_lt (512 * x) (spot + length a)) [
  | inl below ↦ inr (λ y low high. over_front disk a b spot y (omega (arith, below, border, high)))
  | inr past ↦ inl (λ y low high. byte-overlay_above disk spot a y (omega (arith, past, low)))
]
one_sector disk a b spot x (inr (inr none)) = inr (λ y low high. elim (cases_lt y (spot + length a)) [
  | inl below ↦ over_front disk a b spot y below
  | inr past ↦ byte-overlay_above disk spot a y past ∙ sym (byte-overlay_above disk spot (a ++ b) y (omega (arith, past, none, length-append a b)))
])

mixed_more : (total spot : ℕ) (disk new a b : List ℕ) → Ends spot a b → IsMixedOf total (disk ∷ overlay disk spot a ∷ []) new → IsMixedOf total (disk ∷ overlay disk spot (a ++ b) ∷ []) new
mixed_more total spot disk new a b ends mixed x x_in = elim (mixed x x_in) [
  | inl was ↦ inl was
  | inr rest ↦ elim rest [
    | inl done ↦ elim (one_sector disk a b spot x ends) [
      | inl as_disk ↦ inl (λ y low high y_in. done y low high y_in ∙ as_disk y low high)
      | inr as_all ↦ inr (inl (λ y low high y_in. done y low high y_in ∙ as_all y low high))
    ]
    | inr none ↦ absurd none
  ]
]

mixed_two : (total spot : ℕ) (disk mid new a b : List ℕ) → Ends spot a b → ((y : ℕ) → y < total → byte mid y ≡ byte (overlay disk spot a) y)
    → IsMixedOf total (mid ∷ overlay mid (spot + length a) b ∷ []) new → IsMixedOf total (disk ∷ overlay disk spot (a ++ b) ∷ []) new
mixed_two total spot disk mid new a b ends done mixed x x_in = elim (mixed x x_in) [
  | inl was ↦ elim (one_sector disk a b spot x ends) [
    | inl as_disk ↦ inl (λ y low high y_in. was y low high y_in ∙ done y y_in ∙ as_disk y low high)
    | inr as_all ↦ inr (inl (λ y low high y_in. was y low high y_in ∙ done y y_in ∙ as_all y low high))
  ]
  | inr rest ↦ elim rest [
    | inl both ↦ inr (inl (λ y low high y_in. both y low high y_in ∙ over_two disk mid a b spot y (done y y_in)))
    | inr none ↦ absurd none
  ]
]

-- ---- two alterations as one

-- it lies in one table
pub record Fits (s : Shape) (e : Alteration) : Type 0 where
  pub index : e.table < s.tables
  pub slots : e.slot + e.count ≤ per s

-- e is a, and b behind it
pub record IsJoined (m : Mapping) (a b e : Alteration) : Type 0 where
  pub table : e.table ≡ a.table
  pub table_on : b.table ≡ a.table
  pub slot : e.slot ≡ a.slot
  pub slot_on : b.slot ≡ a.slot + a.count
  pub count : e.count ≡ a.count + b.count
  pub from : e.from ≡ a.from
  pub next : a.count * 2 ^ m.bits + b.from ≡ a.from + length a.bytes
  pub ends : (length a.bytes ≡ 0) ⊎ (b.from ≡ 0) ⊎ (length b.bytes ≡ 0)
  pub bytes : e.bytes ≡ a.bytes ++ b.bytes
  pub goal : (x : ℕ) → x < a.count → (kind : Kind) → e.goal x kind ≡ a.goal x kind
  pub goal_on : (x : ℕ) → x < b.count → (kind : Kind) → e.goal (a.count + x) kind ≡ b.goal x kind

spot_on : (p z i j n from next : ℕ) (long : ℕ) → n * z + next ≡ from + long → (i * p + (j + n)) * z + next ≡ (i * p + j) * z + from + long
spot_on p z i j n from next long is =
    let times : (i * p + (j + n)) * z ≡ (i * p + j) * z + n * z = grind arith in
    omega (arith, times, is)

module _ (s : Shape) (total : ℕ) (m : Mapping) (a b e : Alteration) (is : IsMapOf s m) (join : IsJoined m a b e) (fits : Fits s e) (old mid new : List ℕ) (first : IsAltered s total a old mid) where
  here : (file : List ℕ) (x : ℕ) → word_of s file e.table (e.slot + x) ≡ word_of s file a.table (a.slot + x)
  here file x = ap (λ (t : ℕ). word_of s file t (e.slot + x)) join.table ∙ ap (λ (k : ℕ). word_of s file a.table (k + x)) join.slot

  there : (file : List ℕ) (x y : ℕ) → x ≡ a.count + y → word_of s file e.table (e.slot + x) ≡ word_of s file b.table (b.slot + y)
  there file x y at =
      let place : e.slot + x ≡ b.slot + y = omega (arith, at, join.slot, join.slot_on) in
      ap (λ (t : ℕ). word_of s file t (e.slot + x)) (join.table ∙ sym join.table_on) ∙ ap (λ (k : ℕ). word_of s file b.table k) place

  both_rest : LeavesRest s b.table b.slot b.count mid new → LeavesRest s e.table e.slot e.count old new
  both_rest rest = record {
    keeps = keeps_on s old mid new first.rest.keeps rest.keeps;
    entries = λ x y x_in y_in other. rest.entries x y x_in y_in (out_on x y other) ∙ first.rest.entries x y x_in y_in (out x y other);
    disk = λ x y o x_in y_in o_in other t low high. rest.disk x y o x_in y_in o_in (out_on x y other) t low high ∙ first.rest.disk x y o x_in y_in o_in (out x y other) t low high;
  }
    where
      out : (x y : ℕ) → (x ≡ e.table → e.slot ≤ y → y < e.slot + e.count → ⊥) → x ≡ a.table → a.slot ≤ y → y < a.slot + a.count → ⊥
      out x y other same low high = other (same ∙ sym join.table) (omega (arith, low, join.slot)) (omega (arith, high, join.slot, join.count))

      out_on : (x y : ℕ) → (x ≡ e.table → e.slot ≤ y → y < e.slot + e.count → ⊥) → x ≡ b.table → b.slot ≤ y → y < b.slot + b.count → ⊥
      out_on x y other same low high = other (same ∙ join.table_on ∙ sym join.table) (omega (arith, low, join.slot, join.slot_on)) (omega (arith, high, join.slot, join.slot_on, join.count))

  both_tables : SameTablesBut s b.table mid new → SameTablesBut s e.table old new
  both_tables same x x_in other = same x x_in (λ at. other (at ∙ join.table_on ∙ sym join.table)) ∙ first.tables x x_in (λ at. other (at ∙ sym join.table))

  -- the second step leaves a word of the first, which left those of the second
  still : LeavesRest s b.table b.slot b.count mid new → (x : ℕ) → x < a.count → word_of s new e.table (e.slot + x) ≡ word_of s mid e.table (e.slot + x)
  still rest x x_in = rest.entries e.table (e.slot + x) fits.index (omega (arith, x_in, fits.slots, join.count)) (λ same low high. absurd (omega (arith, low, x_in, join.slot, join.slot_on)))

  before : (x : ℕ) → a.count ≤ x → x < e.count → word_of s mid e.table (e.slot + x) ≡ word_of s old e.table (e.slot + x)
  before x low x_in = first.rest.entries e.table (e.slot + x) fits.index (omega (arith, x_in, fits.slots)) (λ same from high. absurd (omega (arith, low, high, join.slot)))

  first_kind : LeavesRest s b.table b.slot b.count mid new → (x : ℕ) → x < a.count → kind_of (word_of s new e.table (e.slot + x)) ≡ e.goal x (kind_of (word_of s old e.table (e.slot + x)))
  first_kind rest x x_in =
      ap kind_of (still rest x x_in ∙ here mid x) ∙ first.kinds x x_in
      ∙ sym (join.goal x x_in (kind_of (word_of s old a.table (a.slot + x)))) ∙ ap (λ (w : ℕ). e.goal x (kind_of w)) (sym (here old x))

  old_kind : (x y : ℕ) → x ≡ a.count + y → x < e.count → kind_of (word_of s mid b.table (b.slot + y)) ≡ kind_of (word_of s old e.table (e.slot + x))
  old_kind x y at x_in = ap kind_of (sym (there mid x y at) ∙ before x (omega (arith, at)) x_in)

  second_goal : (x y : ℕ) → x ≡ a.count + y → x < e.count → b.goal y (kind_of (word_of s mid b.table (b.slot + y))) ≡ e.goal x (kind_of (word_of s old e.table (e.slot + x)))
  second_goal x y at x_in =
      sym (join.goal_on y (omega (arith, at, x_in, join.count)) (kind_of (word_of s mid b.table (b.slot + y))))
      ∙ ap (λ (k : ℕ). e.goal k (kind_of (word_of s mid b.table (b.slot + y)))) (sym at) ∙ ap (e.goal x) (old_kind x y at x_in)

  first_spot : spot_of s e ≡ spot_of s a
  first_spot =
      ap (λ (t : ℕ). (t * per s + e.slot) * size s + e.from) join.table
      ∙ ap (λ (k : ℕ). (a.table * per s + k) * size s + e.from) join.slot ∙ ap (λ (n : ℕ). (a.table * per s + a.slot) * size s + n) join.from

  second_spot : spot_of s b ≡ spot_of s a + length a.bytes
  second_spot =
      ap (λ (t : ℕ). (t * per s + b.slot) * size s + b.from) join.table_on
      ∙ ap (λ (k : ℕ). (a.table * per s + k) * size s + b.from) join.slot_on
      ∙ spot_on (per s) (size s) a.table a.slot a.count a.from b.from (length a.bytes) (ap (λ (z : ℕ). a.count * z + b.from) (sym is.cluster) ∙ join.next)

  ends : Ends (spot_of s a) a.bytes b.bytes
  ends = elim join.ends [
    | inl none ↦ inl none
    | inr rest ↦ elim rest [
      | inr none ↦ inr (inr none)
      | inl none ↦
          let times : disk_place s b.table b.slot ≡ 512 * (s.sectors * (b.table * per s + b.slot)) = grind arith in
          inr (inl (omega (arith, second_spot, times, none)))
    ]
  ]

  over_all : overlay (disk_of s total old) (spot_of s a) (a.bytes ++ b.bytes) ≡ overlay (disk_of s total old) (spot_of s e) e.bytes
  over_all = ap (λ (x : ℕ). overlay (disk_of s total old) x (a.bytes ++ b.bytes)) (sym first_spot) ∙ ap (λ (l : List ℕ). overlay (disk_of s total old) (spot_of s e) l) (sym join.bytes)

  over_second : overlay (disk_of s total mid) (spot_of s b) b.bytes ≡ overlay (disk_of s total mid) (spot_of s a + length a.bytes) b.bytes
  over_second = ap (λ (x : ℕ). overlay (disk_of s total mid) x b.bytes) second_spot

  pub altered_on : IsAltered s total b mid new → IsAltered s total e old new
  altered_on second = record {
    rest = both_rest second.rest;
    tables = both_tables second.tables;
    kinds = λ x x_in. elim (cases_lt x a.count) [
      | inl less ↦ first_kind second.rest x less
      | inr past ↦
          let at : x ≡ a.count + (x - a.count) = omega (arith, past) in
          ap kind_of (there new x (x - a.count) at) ∙ second.kinds (x - a.count) (omega (arith, past, x_in, join.count)) ∙ second_goal x (x - a.count) at x_in
    ];
    disk = λ x x_in.
        second.disk x x_in ∙ ap (λ (l : List ℕ). byte l x) over_second
        ∙ over_two (disk_of s total old) (disk_of s total mid) a.bytes b.bytes (spot_of s a) x (first.disk x x_in) ∙ ap (λ (l : List ℕ). byte l x) over_all;
  }

  pub partly_on : IsPartlyAltered s total b mid new → IsPartlyAltered s total e old new
  partly_on second = record {
    rest = both_rest second.rest;
    tables = both_tables second.tables;
    kinds = λ x x_in. elim (cases_lt x a.count) [
      | inl less ↦ inr (first_kind second.rest x less)
      | inr past ↦
          let at : x ≡ a.count + (x - a.count) = omega (arith, past) in
          elim (second.kinds (x - a.count) (omega (arith, past, x_in, join.count))) [
            | inl same ↦ inl (ap kind_of (there new x (x - a.count) at) ∙ same ∙ old_kind x (x - a.count) at x_in)
            | inr done ↦ inr (ap kind_of (there new x (x - a.count) at) ∙ done ∙ second_goal x (x - a.count) at x_in)
          ]
    ];
    disk = subst (λ (l : List ℕ). IsMixedOf total (disk_of s total old ∷ l ∷ []) (disk_of s total new)) over_all
        (mixed_two total (spot_of s a) (disk_of s total old) (disk_of s total mid) (disk_of s total new) a.bytes b.bytes ends first.disk
        (subst (λ (l : List ℕ). IsMixedOf total (disk_of s total mid ∷ l ∷ []) (disk_of s total new)) over_second second.disk));
  }

-- what is done is done in part
pub partly_of : (s : Shape) (total : ℕ) (e : Alteration) (old new : List ℕ) → IsAltered s total e old new → IsPartlyAltered s total e old new
partly_of s total e old new done = record {
  rest = done.rest;
  tables = done.tables;
  kinds = λ x x_in. inr (done.kinds x x_in);
  disk = λ x x_in. inr (inl (λ y low high y_in. done.disk y y_in));
}

-- nothing is a part of anything
rest_same : (s : Shape) (i j n : ℕ) (file : List ℕ) → LeavesRest s i j n file file
rest_same s i j n file = record {
  keeps = record { blocks = λ x q is. is; tables = λ x q is. is };
  entries = λ x y x_in y_in other. refl;
  disk = λ x y o x_in y_in o_in other t low high. refl;
}

unaltered : (s : Shape) (total : ℕ) (e : Alteration) (file : List ℕ) → IsPartlyAltered s total e file file
unaltered s total e file = record { rest = rest_same s e.table e.slot e.count file; tables = λ x x_in other. refl; kinds = λ x x_in. inl refl; disk = λ x x_in. inl (λ y low high y_in. refl) }

none_altered : (s : Shape) (total : ℕ) (e : Alteration) (file : List ℕ) → e.count ≡ 0 → length e.bytes ≡ 0 → IsAltered s total e file file
none_altered s total e file none empty = record {
  rest = rest_same s e.table e.slot e.count file;
  tables = λ x x_in other. refl;
  kinds = λ x x_in. absurd (omega (arith, x_in, none));
  disk = λ x x_in. ap (λ (l : List ℕ). byte l x) (sym (overlay_empty (disk_of s total file) (spot_of s e) e.bytes empty));
}

-- e begins with a
pub record IsWider (m : Mapping) (a e : Alteration) : Type 0 where
  pub table : e.table ≡ a.table
  pub slot : e.slot ≡ a.slot
  pub count : a.count ≤ e.count
  pub from : e.from ≡ a.from
  pub more : List ℕ
  pub bytes : e.bytes ≡ a.bytes ++ more
  pub whole : ℕ
  pub ends : (length a.bytes ≡ 0) ⊎ (a.from + length a.bytes ≡ whole * 2 ^ m.bits) ⊎ (length more ≡ 0)
  pub goal : (x : ℕ) → x < a.count → (kind : Kind) → e.goal x kind ≡ a.goal x kind

pub partly_more : (s : Shape) (total : ℕ) (m : Mapping) (a e : Alteration) (old new : List ℕ) → IsMapOf s m → IsWider m a e → Fits s e → IsPartlyAltered s total a old new → IsPartlyAltered s total e old new
partly_more s total m a e old new is wider fits partly = record {
  rest = record {
    keeps = partly.rest.keeps;
    entries = λ x y x_in y_in other. partly.rest.entries x y x_in y_in (out x y other);
    disk = λ x y o x_in y_in o_in other. partly.rest.disk x y o x_in y_in o_in (out x y other);
  };
  tables = λ x x_in other. partly.tables x x_in (λ at. other (at ∙ sym wider.table));
  kinds = λ x x_in. elim (cases_lt x a.count) [
    | inl less ↦ elim (partly.kinds x less) [
      | inl same ↦ inl (ap kind_of (here new x) ∙ same ∙ ap kind_of (sym (here old x)))
      | inr done ↦ inr (ap kind_of (here new x) ∙ done ∙ sym (wider.goal x less (kind_of (word_of s old a.table (a.slot + x)))) ∙ ap (λ (w : ℕ). e.goal x (kind_of w)) (sym (here old x)))
    ]
    | inr past ↦ inl (ap kind_of (partly.rest.entries e.table (e.slot + x) fits.index (omega (arith, x_in, fits.slots)) (λ same low high. absurd (omega (arith, past, high, wider.slot)))))
  ];
  disk = subst (λ (l : List ℕ). IsMixedOf total (disk_of s total old ∷ l ∷ []) (disk_of s total new))
      (ap (λ (x : ℕ). overlay (disk_of s total old) x (a.bytes ++ wider.more)) (sym spot_same) ∙ ap (λ (l : List ℕ). overlay (disk_of s total old) (spot_of s e) l) (sym wider.bytes))
      (mixed_more total (spot_of s a) (disk_of s total old) (disk_of s total new) a.bytes wider.more ends partly.disk);
}
  where
    out : (x y : ℕ) → (x ≡ e.table → e.slot ≤ y → y < e.slot + e.count → ⊥) → x ≡ a.table → a.slot ≤ y → y < a.slot + a.count → ⊥
    out x y other same low high = other (same ∙ sym wider.table) (omega (arith, low, wider.slot)) (omega (arith, high, wider.slot, wider.count))

    here : (file : List ℕ) (x : ℕ) → word_of s file e.table (e.slot + x) ≡ word_of s file a.table (a.slot + x)
    here file x = ap (λ (t : ℕ). word_of s file t (e.slot + x)) wider.table ∙ ap (λ (k : ℕ). word_of s file a.table (k + x)) wider.slot

    spot_same : spot_of s e ≡ spot_of s a
    spot_same =
        ap (λ (t : ℕ). (t * per s + e.slot) * size s + e.from) wider.table
        ∙ ap (λ (k : ℕ). (a.table * per s + k) * size s + e.from) wider.slot ∙ ap (λ (n : ℕ). (a.table * per s + a.slot) * size s + n) wider.from

    ends : Ends (spot_of s a) a.bytes wider.more
    ends = elim wider.ends [
      | inl none ↦ inl none
      | inr rest ↦ elim rest [
        | inr none ↦ inr (inr none)
        | inl border ↦
            let times : disk_place s a.table a.slot ≡ 512 * (s.sectors * (a.table * per s + a.slot)) = grind arith in
            let more : wider.whole * 2 ^ m.bits ≡ 512 * (s.sectors * wider.whole) = ap (λ (z : ℕ). wider.whole * z) is.cluster ∙ grind arith in
            inr (inl (omega (arith, times, more, border)))
      ]
    ]

-- ---- calls on another part of the depot

spared_stands : {parts : Parts} {s : Shape} {disks : List (List ℕ)} {first last f : ℕ} {x y : World} → Runs parts x y → (parts.files f → ⊥) → IsStanding s disks first last f x → IsStanding s disks first last f y
spared_stands {parts} {s} {disks} {first} {last} {f} {x} {y} run none stands told =
    let st = stands (subst IsTrue run.goes.tells told) in
    let same : y.seen f ≡ x.seen f = (run.files f none).seen in
    record {
      role = st.role;
      order = st.order;
      ready = st.ready;
      edge = st.edge;
      fresh = st.fresh;
      one = st.one;
      linked = λ i k is low. subst (λ (c : List ℕ). IsBlock s c i k) (sym same) (st.linked i k is low);
      seen = subst (IsGood s st.role disks) (sym same) st.seen;
      now = λ c left. st.now c (subst (λ (v : List (List ℕ)). IsOutcome v c) (spared f run none) left);
    }

pub spared_allocates : {parts : Parts} {s : Shape} {disks : List (List ℕ)} {first : ℕ} {a : Allocator} {x y : World} → Runs parts x y → (parts.files a.file → ⊥) → Allocates s disks first a x → Allocates s disks first a y
spared_allocates {parts} {s} {disks} {first} {a} {x} {y} run none al = record {
  is = al.is;
  stands = spared_stands run none al.stands;
  table = λ told. subst (HasTable s a) (sym (run.files a.file none).seen) (al.table (subst IsTrue run.goes.tells told));
}

-- a disk more
pub allocates_more : {s : Shape} {disks : List (List ℕ)} {first : ℕ} {a : Allocator} {x : World} (e : List ℕ) → Allocates s disks first a x → Allocates s (e ∷ disks) first a x
allocates_more {s} {disks} {first} {a} {x} e al = record { is = al.is; stands = λ told. stands_less e (omega arith) (al.stands told).order al.stands told; table = al.table }

-- each crash now leaves a file that an opening takes
pub now_safe : {s : Shape} {disks : List (List ℕ)} {first last f : ℕ} {x : World} → IsSound x → IsStanding s disks first last f x → EachNow x f (IsSafe s disks)
now_safe {s} {disks} {first} {last} {f} {x} sound stands c left =
    let st = stands (told_by x f c sound left) in
    safe s st.role disks c (st.now c left)

seen_same : {parts : Parts} {x y : World} (f : ℕ) → Runs parts x y → (parts.files f → ⊥) → y.seen f ≡ x.seen f
seen_same f run none = (run.files f none).seen

-- such calls make nothing of an alteration
pub left_alters : {parts : Parts} {m : Mapping} {P : Shape → World → Type 0} {e : Alteration} {p : Allocator} {x y : World} → Runs parts x y → (parts.files m.file → ⊥) → p.file ≡ m.file → IsSound x → Alters m P e p p x y
left_alters {parts} {m} {P} {e} {p} {x} {y} run none file sound = record {
  moves = λ s disks low is hands known. record {
    since = λ al.
        since_spared m.file (IsSafe s (y.seen m.file ∷ disks)) run none
        (λ c left. more_safe s disks (y.seen m.file) c (now_safe sound (subst (λ (f : ℕ). IsStanding s disks low p.pool.prepared f x) file al.stands) c left));
    stands = λ al. (low, hands, allocates_more (y.seen m.file) (spared_allocates run (λ is_file. none (subst parts.files file is_file)) al));
  };
  partly = λ s disks low is hands known al told. subst (IsPartlyAltered s m.size e (x.seen m.file)) (sym (seen_same m.file run none)) (unaltered s m.size e (x.seen m.file));
}

-- and all of one of nothing
pub left_done : {parts : Parts} {m : Mapping} {P : Shape → World → Type 0} {e : Alteration} {p : Allocator} {x y : World} → Runs parts x y → (parts.files m.file → ⊥) → e.count ≡ 0 → length e.bytes ≡ 0 → HasAltered m P e p x y
left_done {parts} {m} {P} {e} {p} {x} {y} run none empty no_bytes = record {
  done = λ s disks low is hands known al told. subst (IsAltered s m.size e (x.seen m.file)) (sym (seen_same m.file run none)) (none_altered s m.size e (x.seen m.file) empty no_bytes);
}

pub left_known : {parts : Parts} {m : Mapping} {P : Shape → World → Type 0} {p : Allocator} {x y : World} → Runs parts x y → (parts.files m.file → ⊥) → KnowsOn m P p p x y
left_known {parts} {m} {P} {p} {x} {y} run none = record { known = λ s disks low is hands known al told knows. subst (IsKnown s p) (sym (seen_same m.file run none)) knows }

-- ---- one step behind another

-- what the second step is told of the file
pub record Carries (m : Mapping) (P Q : Shape → World → Type 0) (p : Allocator) (x y : World) : Type 0 where
  pub carry : (s : Shape) (disks : List (List ℕ)) (first : ℕ) → IsMapOf s m → HandsOut first p → P s x → Allocates s disks first p x → Q s y

-- what the first is told puts e into one table
abbrev pub FitsIn : Mapping → (Shape → World → Type 0) → Alteration → World → Type 0
FitsIn m P e x = (s : Shape) → IsMapOf s m → P s x → IsTrue x.tells → Fits s e

-- a sector of the disk between is that of the disk afterwards, or the first step left it as it was
covered : {s : Shape} {i j n k d : ℕ} {old mid new : List ℕ} (disks : List (List ℕ)) → j + n ≤ k → IsKept s disks old → LeavesRest s i j n old mid → LeavesRest s i k d mid new → IsCovered s mid new disks
covered {s} {i} {j} {n} {k} {d} {old} {mid} {new} disks behind kept first second x y o x_in y_in o_in = elim (cases_eq x i) [
  | inr other ↦ inl (λ t low high. sym (second.disk x y o x_in y_in o_in (λ same from to. other same) t low high))
  | inl same ↦ elim (cases_lt y k) [
    | inl less ↦ inl (λ t low high. sym (second.disk x y o x_in y_in o_in (λ is from to. absurd (omega (arith, from, less))) t low high))
    | inr past ↦ inr (shown s x y o mid old disks (first.disk x y o x_in y_in o_in (λ is from to. absurd (omega (arith, to, past, behind)))) (kept x y o x_in y_in o_in))
  ]
]

module _ {m : Mapping} {P Q : Shape → World → Type 0} {a b e : Alteration} {p q : Allocator} {x y z : World} (join : IsJoined m a b e) (file : p.file ≡ m.file) (fits : FitsIn m P e x) (carries : Carries m P Q p x y)
    (run : Runs (only_file m.file) x y) (on : Runs (only_file m.file) y z) (sound : IsSound z) (first : Alters m P a p q x y) (done : HasAltered m P a p x y) where
  was_told : IsTrue z.tells → IsTrue x.tells
  was_told told = subst IsTrue (on.goes.tells ∙ run.goes.tells) told

  mid_told : IsTrue x.tells → IsTrue y.tells
  mid_told told = subst IsTrue (sym run.goes.tells) told

  module _ (s : Shape) (disks : List (List ℕ)) (low : ℕ) (is : IsMapOf s m) (hands : HandsOut low p) (known : P s x) (al : Allocates s disks low p x) where
    mid_stands : StandsFrom s (y.seen m.file ∷ disks) q y
    mid_stands = (first.moves s disks low is hands known).stands al

    next_known : Q s y
    next_known = carries.carry s disks low is hands known al

    first_done : IsTrue x.tells → IsAltered s m.size a (x.seen m.file) (y.seen m.file)
    first_done told = done.done s disks low is hands known al told

    dropped : IsTrue x.tells → LeavesRest s b.table b.slot b.count (y.seen m.file) (z.seen m.file) → IsCovered s (y.seen m.file) (z.seen m.file) disks
    dropped told rest =
        covered disks (omega (arith, join.slot_on)) ((subst (λ (f : ℕ). IsStanding s disks low p.pool.prepared f x) file al.stands told).seen.kept) (first_done told).rest
        (subst (λ (t : ℕ). LeavesRest s t b.slot b.count (y.seen m.file) (z.seen m.file)) join.table_on rest)

  -- the image afterwards, whatever the second step answered
  pub alters_on : {r : Allocator} → Alters m Q b q r y z → Alters m P e p r x z
  alters_on {r} second = record {
    moves = λ s disks low is hands known. record {
      since = λ al k k_low k_high c left.
          let told = was_told (told_at z k m.file c sound left) in
          let mid = mid_stands s disks low is hands known al in
          let next = second.moves s (y.seen m.file ∷ disks) mid.0 is mid.1 (next_known s disks low is hands known al) in
          let rest = (second.partly s (y.seen m.file ∷ disks) mid.0 is mid.1 (next_known s disks low is hands known al) mid.2 (mid_told told)).rest in
          drop_safe s (y.seen m.file) (z.seen m.file) disks c (dropped s disks low is hands known al told rest)
          (since_on x.now m.file (IsSafe s (z.seen m.file ∷ y.seen m.file ∷ disks)) on
          (λ t t_low t_high d out. more_safe s (y.seen m.file ∷ disks) (z.seen m.file) d ((first.moves s disks low is hands known).since al t t_low t_high d out)) (next.since mid.2) k k_low k_high c left);
      stands = λ al.
          let mid = mid_stands s disks low is hands known al in
          let last = (second.moves s (y.seen m.file ∷ disks) mid.0 is mid.1 (next_known s disks low is hands known al)).stands mid.2 in (
            last.0,
            last.1,
            record {
              is = last.2.is;
              stands = λ told_z.
                  let told = was_told told_z in
                  let rest = (second.partly s (y.seen m.file ∷ disks) mid.0 is mid.1 (next_known s disks low is hands known al) mid.2 (mid_told told)).rest in
                  drop_stands (y.seen m.file) (z.seen m.file) (dropped s disks low is hands known al told rest) last.2.stands told_z;
              table = last.2.table;
            },
          );
    };
    partly = λ s disks low is hands known al told.
        let mid = mid_stands s disks low is hands known al in
        partly_on s m.size m a b e is join (fits s is known told) (x.seen m.file) (y.seen m.file) (z.seen m.file) (first_done s disks low is hands known al told)
        (second.partly s (y.seen m.file ∷ disks) mid.0 is mid.1 (next_known s disks low is hands known al) mid.2 (mid_told told));
  }

  pub done_on : HasAltered m Q b q y z → HasAltered m P e p x z
  done_on second = record {
    done = λ s disks low is hands known al told.
        let mid = mid_stands s disks low is hands known al in
        altered_on s m.size m a b e is join (fits s is known told) (x.seen m.file) (y.seen m.file) (z.seen m.file) (first_done s disks low is hands known al told)
        (second.done s (y.seen m.file ∷ disks) mid.0 is mid.1 (next_known s disks low is hands known al) mid.2 (mid_told told));
  }

-- what is known goes on
pub known_on : {m : Mapping} {P Q : Shape → World → Type 0} {a : Alteration} {p q r : Allocator} {x y z : World} → Carries m P Q p x y → Runs (only_file m.file) x y → Alters m P a p q x y → KnowsOn m P p q x y → KnowsOn m Q q r y z → KnowsOn m P p r x z
known_on {m} {P} {Q} {a} {p} {q} {r} {x} {y} {z} carries run alters first second = record {
  known = λ s disks low is hands known al told knows.
      let mid = (alters.moves s disks low is hands known).stands al in
      second.known s (y.seen m.file ∷ disks) mid.0 is mid.1 (carries.carry s disks low is hands known al) mid.2 (subst IsTrue (sym run.goes.tells) told) (first.known s disks low is hands known al told knows);
}

-- a step that ended well, of which less is told
pub done_alters : {m : Mapping} {P : Shape → World → Type 0} {a e : Alteration} {p q : Allocator} {x y : World} → Alters m P a p q x y → HasAltered m P e p x y → Alters m P e p q x y
done_alters {m} {P} {a} {e} {p} {q} {x} {y} alters done = record {
  moves = alters.moves;
  partly = λ s disks low is hands known al told. partly_of s m.size e (x.seen m.file) (y.seen m.file) (done.done s disks low is hands known al told);
}

-- a part of a step is one of what begins with it
pub alters_more : {m : Mapping} {P : Shape → World → Type 0} {a e : Alteration} {p q : Allocator} {x y : World} → IsWider m a e → FitsIn m P e x → Alters m P a p q x y → Alters m P e p q x y
alters_more {m} {P} {a} {e} {p} {q} {x} {y} wider fits alters = record {
  moves = alters.moves;
  partly = λ s disks low is hands known al told. partly_more s m.size m a e (x.seen m.file) (y.seen m.file) is wider (fits s is known told) (alters.partly s disks low is hands known al told);
}

-- ---- rows

-- entries of a row behind those that a step changed
pub row_on : (s : Shape) (spot i j n d k : ℕ) (row next old new : List ℕ) → HasRow s spot i j n row old → LeavesRest s i j d old new → d + k ≤ n
    → ((x : ℕ) → x < k → u64_at next (8 * x) ≡ u64_at row (8 * (d + x))) → HasRow s (spot + 8 * d) i (j + d) k next new
row_on s spot i j n d k row next old new has rest inside same = record {
  cluster = has.cluster;
  linked = rest.keeps.tables i has.cluster has.linked;
  slots = omega (arith, has.slots, inside);
  at = omega (arith, has.at);
  words = record {
    each = λ x x_in.
        let at : j + (d + x) ≡ j + d + x = omega arith in
        same x x_in ∙ has.words.each (d + x) (omega (arith, x_in, inside)) ∙ ap (word_of s old i) at
        ∙ sym (rest.entries i (j + d + x) has.linked.inside (omega (arith, x_in, inside, has.slots)) (λ is low high. absurd (omega (arith, high))));
  };
}

-- ---- what failed

pub went_none : (f : ℕ) (x : World) → Went f x x None
went_none f x = record { run = stay (only_file f) x; quiet = λ same. quiet_stay x; cause = λ other. absurd (other refl); tables = λ same. absurd (cc) }

pub went_on : {f : ℕ} {x y z : World} {failed : Option Failing} → Went f x y None → Went f y z failed → Went f x z failed
went_on {f} {x} {y} {z} {failed} first second = record {
  run = run_on first.run second.run;
  quiet = λ same. quiet_on (first.quiet refl) (second.quiet same);
  cause = λ other. file_failed_after first.run (second.cause other);
  tables = λ same.
      let rose = second.tables same in (
        rose_after x.faults.shared y.faults.shared z.faults.shared first.run.goes.counts.shared rose.0,
        rose_after (x.faults.writes f) (y.faults.writes f) (z.faults.writes f) (first.run.goes.counts.writes f) rose.1,
      );
}

-- by what one call says
pub went_ok : {T E : Type 0} {f : ℕ} {x y : World} {value : T} → Calls {T = T} {E = E} f x y (Ok value) → Went f x y None
went_ok calls = record { run = calls.run; quiet = λ same. calls.quiet; cause = λ other. absurd (other refl); tables = λ same. absurd (cc) }

pub went_tables : {T E : Type 0} {f : ℕ} {x y : World} {error : E} → Puts {T = T} {E = E} f x y (Err error) → Went f x y (Some Tables)
went_tables puts = record { run = puts.calls.run; quiet = λ same. absurd (cc); cause = λ other. puts.calls.cause; tables = λ same. puts.cause }

-- whatever its value would be
pub went_why : (T U : Type 0) {f : ℕ} {x y : World} (why : NotWritten) → Went f x y (failure {T = T} (Err why)) → Went f x y (failure {T = U} (Err why))
went_why T U NoRoom went = went
went_why T U (Failed what) went = went

pub why_back : {T U : Type 0} {a b : NotWritten} → ◌≡◌ {A = Result T NotWritten} (Err a) (Err b) → ◌≡◌ {A = Result U NotWritten} (Err a) (Err b)
why_back {T} {U} {a} {b} same = let is : a ≡ b = cc in cc

-- ---- the allocator

pub same_image_self : (a : Allocator) → IsSameImage a a
same_image_self a = record { file = refl; table = refl; bits = refl }

pub same_image_on : {a b c : Allocator} → IsSameImage a b → IsSameImage b c → IsSameImage a c
same_image_on first second = record { file = second.file ∙ first.file; table = second.table ∙ first.table; bits = second.bits ∙ first.bits }

-- ---- a disk of all tables, and a smaller one

cut_byte : (s : Shape) (total all : ℕ) (file : List ℕ) (x : ℕ) → x < total → total ≤ all → byte (disk_of s total file) x ≡ byte (disk_of s all file) x
cut_byte s total all file x inside fits = byte-disk_of s total file x inside ∙ sym (byte-disk_of s all file x (omega (arith, inside, fits)))

cut_over : (s : Shape) (total all spot : ℕ) (bytes old : List ℕ) (x : ℕ) → x < total → total ≤ all → byte (overlay (disk_of s total old) spot bytes) x ≡ byte (overlay (disk_of s all old) spot bytes) x
cut_over s total all spot bytes old x inside fits = elim (cases_lt x spot) [
  | inl before ↦ byte-overlay_below (disk_of s total old) spot bytes x before ∙ cut_byte s total all old x inside fits ∙ sym (byte-overlay_below (disk_of s all old) spot bytes x before)
  | inr from ↦ elim (cases_lt x (spot + length bytes)) [
    | inl to ↦ byte-overlay_in (disk_of s total old) spot bytes x from to ∙ sym (byte-overlay_in (disk_of s all old) spot bytes x from to)
    | inr past ↦ byte-overlay_above (disk_of s total old) spot bytes x past ∙ cut_byte s total all old x inside fits ∙ sym (byte-overlay_above (disk_of s all old) spot bytes x past)
  ]
]

-- what holds of the bytes of the larger one
pub cut_disk : (s : Shape) (total all spot : ℕ) (bytes old new : List ℕ) → total ≤ all → disk_of s all new ≡ overlay (disk_of s all old) spot bytes
    → (x : ℕ) → x < total → byte (disk_of s total new) x ≡ byte (overlay (disk_of s total old) spot bytes) x
cut_disk s total all spot bytes old new fits is x inside =
    cut_byte s total all new x inside fits ∙ ap (λ (l : List ℕ). byte l x) is ∙ sym (cut_over s total all spot bytes old x inside fits)

pub cut_mix : (s : Shape) (total all spot : ℕ) (bytes old new : List ℕ) → total ≤ all → IsMixedOf all (disk_of s all old ∷ overlay (disk_of s all old) spot bytes ∷ []) (disk_of s all new)
    → IsMixedOf total (disk_of s total old ∷ overlay (disk_of s total old) spot bytes ∷ []) (disk_of s total new)
cut_mix s total all spot bytes old new fits mixed x x_in = elim (mixed x (omega (arith, x_in, fits))) [
  | inl was ↦ inl (λ y low high y_in. cut_byte s total all new y y_in fits ∙ was y low high (omega (arith, y_in, fits)) ∙ sym (cut_byte s total all old y y_in fits))
  | inr rest ↦ elim rest [
    | inl done ↦ inr (inl (λ y low high y_in. cut_byte s total all new y y_in fits ∙ done y low high (omega (arith, y_in, fits)) ∙ sym (cut_over s total all spot bytes old y y_in fits)))
    | inr none ↦ absurd none
  ]
]
