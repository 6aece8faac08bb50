use Rattle.std.proofs.Common.{◌≡◌, ◌≢◌, inl, inr, ⊎_elim, ℕ, ◌+◌, ◌-◌, ◌*◌, ◌/◌, ◌%◌, ◌^◌, ◌<◌, ◌≤◌, List, length, length-drop, replicate, take, drop, None, Result, Ok, Err, refl, sym, ◌∙◌, ap, subst, arith}
use Rattle.std.proofs.lemmas.List.{length-take}
use Rattle.std.proofs.Math.Nat.{mul-le-mul}
use Rattle.disk_model.specs.Files.{u64_at}
use Rattle.disk_model.specs.World.{World}
use Rattle.disk_model.proofs.Laws.{stay}
use Rattle.file_device.proofs.Laws.{given}
use Rattle.image_model.specs.Clusters.{offset, size}
use Rattle.map_rows.specs.declared.parts.Part.{Part}
use Rattle.qc_alloc.specs.Allocator.{Allocator}
use Rattle.qc_map.specs.Altering.{Always}
use Rattle.qc_map.specs.Failures.{failure_of}
use Rattle.qc_map.specs.Mapping.{Mapping, mapping, shape_by}
use Rattle.qc_map.specs.Zeroing.{IsCut, zeroes, clears_in}
use Rattle.qc_map.specs.declared.failures.Failing.{Failing}
use Rattle.qc_map.proofs.Places.{cluster_by, cluster_small}
use Rattle.qc_map.proofs.Steps.{left_alters, left_known, went_ok}
use Rattle.qc_map.proofs.Zeroed.{LiesIn, RowThere, Zeroing, Answered, lies_in, read_there, none_there, clears_hole, zeroing_none, some_answered, clear_answered, answered_all, one_next, few_entries, front_many, whole_many, back_many, front_on, front_failed, whole_on, whole_failed, back_on}
use Rattle.qc_map.proofs.layout.Layout.zero_part.Given.{Over}
use Rattle.qc_map.proofs.layout.Layout.zero_part.Goals.{In-Ok, After-cut_of-cut, After-zero_some, In-Err-zero_some, In-Err-clear_row, After-zero_some-3}
use Rattle.qc_map.proofs.layout.Layout.zero_part.Goals as goal

pub returns-in-Ok-eq0-clause-alters : goal.returns-in-Ok-eq0-clause-alters
returns-in-Ok-eq0-clause-alters g c = left_alters c.in-Ok-eq0.ensures.looks.reads (λ none. none) c.requires.file (g.met.D.Depot.sound _)

pub returns-in-Ok-eq0-clause-done : goal.returns-in-Ok-eq0-clause-done
returns-in-Ok-eq0-clause-done g c =
    none_there {m = mapping c.args.self} c.args.part.now.table c.args.part.now.slot c.args.part.now.count c.args.part.now.from c.args.part.now.length (clears_in c.args.part.now (2 ^ c.args.self.cluster_bits) c.args.is_last) c.args.clusters.now c.in-Ok-eq0.ensures.looks.reads
    (lies_in (mapping c.args.self) c.args.part.now c.requires.mapping c.requires.part) (subst (λ (z : ℕ). c.args.part.now.from + c.args.part.now.length ≤ z * c.args.part.now.count) (cluster_by (mapping c.args.self) c.requires.mapping) c.requires.part.covers)
    (λ t. clears_hole c.args.part.now (2 ^ c.args.self.cluster_bits) c.args.is_last t)
    (λ told. sym (given (g.D.Outside.world c.args.depot.now) c.args.self.file.0 (λ f. c.in-Ok-eq0.field-0 ≡ offset (u64_at f (c.args.self.first_level + 8 * c.args.part.now.table))) c.in-Ok-eq0.ensures.table told) ∙ c.in-Ok-eq0.field-0-test)

pub returns-in-Ok-eq0-clause-known : goal.returns-in-Ok-eq0-clause-known
returns-in-Ok-eq0-clause-known g c = λ fine. left_known c.in-Ok-eq0.ensures.looks.reads (λ none. none)

pub returns-in-Err-clause-alters : goal.returns-in-Err-clause-alters
returns-in-Err-clause-alters g c = left_alters c.in-Err.ensures.looks.reads (λ none. none) c.requires.file (g.met.D.Depot.sound _)

pub returns-in-Err-clause-known : goal.returns-in-Err-clause-known
returns-in-Err-clause-known g c = λ fine. left_known c.in-Err.ensures.looks.reads (λ none. none)

pub overflow_add-part : goal.overflow_add-part
overflow_add-part g c =
    let m = mapping c.args.self in
    let p = c.args.part.now in
    let few : p.count ≤ 262144 = omega (arith, cluster_small m c.requires.mapping, c.requires.part.slots) in
    let many : size (shape_by m) * p.count ≤ 2097152 * 262144 = mul-le-mul {n₁ = size (shape_by m)} {m₁ = p.count} {n₂ = 2097152} {m₂ = 262144} (omega (arith, cluster_small m c.requires.mapping)) few in
    omega (arith, many, c.requires.part.covers)

pub cut_of-cut-requires-clause-few : goal.cut_of-cut-requires-clause-few
cut_of-cut-requires-clause-few g c = omega (arith, cluster_small (mapping c.args.self) c.requires.mapping, c.requires.part.slots)

pub cut_of-cut-requires-clause-inside : goal.cut_of-cut-requires-clause-inside
cut_of-cut-requires-clause-inside g c = omega (arith, c.requires.part.inside, cluster_by (mapping c.args.self) c.requires.mapping, c.cluster_of-cluster.ensures.bytes)

pub cut_of-cut-requires-clause-covers : goal.cut_of-cut-requires-clause-covers
cut_of-cut-requires-clause-covers g c = subst (λ (z : ℕ). c.args.part.now.from + c.args.part.now.length ≤ z * c.args.part.now.count) (cluster_by (mapping c.args.self) c.requires.mapping ∙ sym c.cluster_of-cluster.ensures.bytes) c.requires.part.covers

pub overflow_mul-spot : goal.overflow_mul-spot
overflow_mul-spot g c = omega (arith, cluster_small (mapping c.args.self) c.requires.mapping, c.requires.part.slots)

pub overflow_add-spot : goal.overflow_add-spot
overflow_add-spot g c = omega (arith, cluster_small (mapping c.args.self) c.requires.mapping, c.requires.part.slots, c.in-Ok.ensures.near)

pub overflow_add-spot-2 : goal.overflow_add-spot-2
overflow_add-spot-2 g c = omega (arith, cluster_small (mapping c.args.self) c.requires.mapping, c.requires.part.slots, c.in-Ok.ensures.near, c.cut_of-cut.ensures.cut.few)

pub clear_row-requires-clause-few : goal.clear_row-requires-clause-few
clear_row-requires-clause-few g c = omega (arith, length-take (8 * c.cut_of-cut.result.end - 8 * c.cut_of-cut.result.first) (drop (8 * c.cut_of-cut.result.first) c.read_row.new.row), length-drop (8 * c.cut_of-cut.result.first) c.read_row.new.row, c.read_row.auto.row, c.requires.long, cluster_by (mapping c.args.self) c.requires.mapping, c.requires.part.slots)

pub clear_row-requires-clause-spot : goal.clear_row-requires-clause-spot
clear_row-requires-clause-spot g c = omega (arith, length-take (8 * c.cut_of-cut.result.end - 8 * c.cut_of-cut.result.first) (drop (8 * c.cut_of-cut.result.first) c.read_row.new.row), length-drop (8 * c.cut_of-cut.result.first) c.read_row.new.row, c.read_row.auto.row, c.requires.long, cluster_small (mapping c.args.self) c.requires.mapping, c.requires.part.slots, c.in-Ok.ensures.near, c.cut_of-cut.ensures.cut.few)

-- ---- a table that is there

module _ (g : Over) (c : In-Ok g) where
  abbrev m : Mapping
  m = mapping c.args.self

  abbrev p : Part
  p = c.args.part.now

  abbrev spot : ℕ
  spot = c.in-Ok.table + 8 * p.slot

  long : length c.read_row.new.row ≡ 8 * p.count
  long = omega (arith, c.read_row.auto.row, c.requires.long)

  lies : LiesIn m p.table p.slot p.count
  lies = lies_in m p c.requires.mapping c.requires.part

  there : RowThere m c.args.clusters.now spot p.table p.slot p.count c.read_row.new.row (g.D.Outside.world c.args.depot.now)
  there = read_there c.requires.file lies (record { words = c.in-Ok.ensures.row; at = c.in-Ok.ensures.table; index = c.requires.part.table; slots = c.requires.part.slots }) c.in-Ok.table-test.1

  begun : Zeroing m p.table p.slot p.from (clears_in p (2 ^ m.bits) c.args.is_last) c.args.clusters.now c.args.clusters.now (g.D.Outside.world c.args.depot.now) (g.D.Outside.world c.read_row.new.depot) 0 0
  begun = zeroing_none p.table p.slot p.from (clears_in p (2 ^ m.bits) c.args.is_last) c.args.clusters.now c.in-Ok.ensures.looks.reads c.requires.file (g.met.D.Depot.sound _) (went_ok c.in-Ok.ensures.looks.calls)

  -- what the contract asks for
  abbrev Exit : Allocator → World → Result (Unit {0}) Failing → Type 0
  Exit q z result = Answered m Always p.table p.slot p.count p.from p.length (clears_in p (2 ^ m.bits) c.args.is_last) c.args.clusters.now q (g.D.Outside.world c.args.depot.now) z result

cut_is : (g : Over) (c : After-cut_of-cut g) → IsCut c.args.part.now (2 ^ c.args.self.cluster_bits) c.args.is_last c.cut_of-cut.result.first c.cut_of-cut.result.end c.cut_of-cut.result.front c.cut_of-cut.result.tail
cut_is g c = let k = c.cut_of-cut.result in subst (λ (z : ℕ). IsCut c.args.part.now z c.args.is_last k.first k.end k.front k.tail) c.cluster_of-cluster.ensures.bytes c.cut_of-cut.ensures.cut

-- ---- a part within one cluster

one : (g : Over) (d : After-zero_some g) → Exit g (goal.at.returns-then-part-cluster-clause-alters g d).In-Ok d.args.clusters.now (g.D.Outside.world d.zero_some.new.depot) d.zero_some.result
one g d =
    let c = (goal.at.returns-then-part-cluster-clause-alters g d).In-Ok in
    let p = d.args.part.now in
    let e = d.zero_some.ensures in
    let few = few_entries (2 ^ d.args.self.cluster_bits) p.from p.length p.count (omega (arith, d.cluster_of-cluster.ensures.bytes, d.cluster_of-cluster.ensures.least)) (omega (arith, d.if-part-cluster.true, d.cluster_of-cluster.ensures.bytes)) d.requires.short in
    answered_all (lies g c) (there g c) d.requires.file (g.met.D.Depot.sound _) (begun g c) (one_next {m = m g c} p d.args.is_last d.read_row.new.row d.if-part-ne0.true few)
    (some_answered {m = m g c} (omega (arith, long g c)) e.alters e.done e.known e.tables e.went d.args.clusters.now (spot g c + 8 * 0) p.table (p.slot + 0) d.requires.file) (omega arith) p.length (omega arith)

pub returns-then-part-cluster-clause-alters : goal.returns-then-part-cluster-clause-alters
returns-then-part-cluster-clause-alters g d = (one g d).alters

pub returns-then-part-cluster-clause-done : goal.returns-then-part-cluster-clause-done
returns-then-part-cluster-clause-done g d = (one g d).done

pub returns-then-part-cluster-clause-tables : goal.returns-then-part-cluster-clause-tables
returns-then-part-cluster-clause-tables g d s disks low is hands = (one g d).tables.tables s disks low is hands tt

pub returns-then-part-cluster-clause-known : goal.returns-then-part-cluster-clause-known
returns-then-part-cluster-clause-known g d fine = (one g d).known fine

pub returns-then-part-cluster-clause-went : goal.returns-then-part-cluster-clause-went
returns-then-part-cluster-clause-went g d = (one g d).went

-- ---- the front failed

front : (g : Over) (d : In-Err-zero_some g) → Exit g (goal.at.returns-in-Err-zero_some-clause-alters g d).In-Ok d.args.clusters.now (g.D.Outside.world d.zero_some-2.new.depot) (Err d.in-Err-zero_some.why)
front g d =
    let at = goal.at.returns-in-Err-zero_some-clause-alters g d in
    let c = at.In-Ok in
    let cut = cut_is g at.After-cut_of-cut in
    let e = d.in-Err-zero_some.ensures in
    front_failed (lies g c) cut d.requires.last (long g c) d.requires.file (there g c) (g.met.D.Depot.sound _) (begun g c)
    (some_answered {m = m g c} (front_many d.read_row.new.row cut (long g c)) e.alters e.done e.known e.tables e.went d.args.clusters.now (spot g c + 8 * 0) d.args.part.now.table (d.args.part.now.slot + 0) d.requires.file) tt

pub returns-in-Err-zero_some-clause-alters : goal.returns-in-Err-zero_some-clause-alters
returns-in-Err-zero_some-clause-alters g d = (front g d).alters

pub returns-in-Err-zero_some-clause-tables : goal.returns-in-Err-zero_some-clause-tables
returns-in-Err-zero_some-clause-tables g d s disks low is hands = (front g d).tables.tables s disks low is hands tt

pub returns-in-Err-zero_some-clause-known : goal.returns-in-Err-zero_some-clause-known
returns-in-Err-zero_some-clause-known g d fine = (front g d).known fine

pub returns-in-Err-zero_some-clause-went : goal.returns-in-Err-zero_some-clause-went
returns-in-Err-zero_some-clause-went g d = (front g d).went

-- ---- the clusters that are covered whole failed

whole : (g : Over) (d : In-Err-clear_row g) → Exit g (goal.at.returns-in-Err-clear_row-clause-alters g d).In-Ok d.clear_row.new.clusters (g.D.Outside.world d.clear_row.new.depot) (Err d.in-Err-clear_row.why)
whole g d =
    let at = goal.at.returns-in-Err-clear_row-clause-alters g d in
    let c = at.In-Ok in
    let cut = cut_is g at.After-cut_of-cut in
    let p = d.args.part.now in
    let f = d.in-Ok-zero_some.ensures in
    let e = d.in-Err-clear_row.ensures in
    let done = front_on (lies g c) cut d.requires.last (long g c) d.requires.file (there g c) (g.met.D.Depot.sound _) (begun g c)
    (some_answered {m = m g c} (front_many d.read_row.new.row cut (long g c)) f.alters f.done f.known f.tables f.went d.args.clusters.now (spot g c + 8 * 0) p.table (p.slot + 0) d.requires.file) in
    whole_failed (lies g c) cut d.requires.last (long g c) d.requires.file (there g c) (g.met.D.Depot.sound _) done
    (clear_answered {m = m g c} d.requires.mapping (whole_many d.read_row.new.row cut (long g c)) e.alters e.done e.room e.known e.tables e.same e.went p.table (p.slot + d.cut_of-cut.result.first)) tt

pub returns-in-Err-clear_row-clause-alters : goal.returns-in-Err-clear_row-clause-alters
returns-in-Err-clear_row-clause-alters g d = (whole g d).alters

pub returns-in-Err-clear_row-clause-tables : goal.returns-in-Err-clear_row-clause-tables
returns-in-Err-clear_row-clause-tables g d s disks low is hands = (whole g d).tables.tables s disks low is hands tt

pub returns-in-Err-clear_row-clause-room : goal.returns-in-Err-clear_row-clause-room
returns-in-Err-clear_row-clause-room g d s disks low is hands al told = (whole g d).room.room s disks low is hands tt al told

pub returns-in-Err-clear_row-clause-known : goal.returns-in-Err-clear_row-clause-known
returns-in-Err-clear_row-clause-known g d fine = (whole g d).known fine

pub returns-in-Err-clear_row-clause-went : goal.returns-in-Err-clear_row-clause-went
returns-in-Err-clear_row-clause-went g d = (whole g d).went

-- ---- all of it

back : (g : Over) (d : After-zero_some-3 g) → Exit g (goal.at.returns-clause-alters g d).In-Ok d.clear_row.new.clusters (g.D.Outside.world d.zero_some-3.new.depot) d.zero_some-3.result
back g d =
    let at = goal.at.returns-clause-alters g d in
    let c = at.In-Ok in
    let cut = cut_is g at.After-cut_of-cut in
    let p = d.args.part.now in
    let k = d.cut_of-cut.result in
    let f = d.in-Ok-zero_some.ensures in
    let w = d.in-Ok-clear_row.ensures in
    let e = d.zero_some-3.ensures in
    let done = front_on (lies g c) cut d.requires.last (long g c) d.requires.file (there g c) (g.met.D.Depot.sound _) (begun g c)
    (some_answered {m = m g c} (front_many d.read_row.new.row cut (long g c)) f.alters f.done f.known f.tables f.went d.args.clusters.now (spot g c + 8 * 0) p.table (p.slot + 0) d.requires.file) in
    let cleared = whole_on (lies g c) cut d.requires.last (long g c) d.requires.file (there g c) (g.met.D.Depot.sound _) done
    (clear_answered {m = m g c} d.requires.mapping (whole_many d.read_row.new.row cut (long g c)) w.alters w.done w.room w.known w.tables w.same w.went p.table (p.slot + k.first)) in
    back_on (lies g c) cut d.requires.last (long g c) d.requires.file (there g c) (g.met.D.Depot.sound _) cleared
    (some_answered {m = m g c} (back_many d.read_row.new.row cut (long g c)) e.alters e.done e.known e.tables e.went d.clear_row.new.clusters (spot g c + 8 * (k.first + (k.end - k.first))) p.table (p.slot + (k.first + (k.end - k.first))) (w.same.file ∙ d.requires.file))

pub returns-clause-alters : goal.returns-clause-alters
returns-clause-alters g d = (back g d).alters

pub returns-clause-done : goal.returns-clause-done
returns-clause-done g d = (back g d).done

pub returns-clause-tables : goal.returns-clause-tables
returns-clause-tables g d s disks low is hands = (back g d).tables.tables s disks low is hands tt

pub returns-clause-room : goal.returns-clause-room
returns-clause-room g d s disks low is hands al told = (back g d).room.room s disks low is hands tt al told

pub returns-clause-known : goal.returns-clause-known
returns-clause-known g d fine = (back g d).known fine

pub returns-clause-went : goal.returns-clause-went
returns-clause-went g d = (back g d).went
