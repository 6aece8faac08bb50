use Rattle.std.proofs.Common.{◌≡◌, ℕ, ◌*◌, ◌%◌, ◌^◌, ◌≤◌, Err, None, sym, ◌∙◌, ap, subst, refl, arith}
use Rattle.disk_model.specs.World.{World, Runs, writes_of}
use Rattle.file_device.specs.Calls.{Puts}
use Rattle.qc_layout.specs.Disks.{place_of}
use Rattle.qc_map.specs.Failures.{Went}
use Rattle.qc_map.specs.Linking.{LinksTable}
use Rattle.qc_map.specs.Mapping.{mapping}
use Rattle.qc_map.proofs.Linked.{shift_at, grow_links, take_links, take_linked, take_known}
use Rattle.qc_map.proofs.Steps.{went_none, went_on, went_ok, went_tables}
use Rattle.qc_map.proofs.layout.Layout.open_table.Given.{Over}
use Rattle.qc_map.proofs.layout.Layout.open_table.Goals.{After-add_table}
use Rattle.qc_map.proofs.layout.Layout.open_table.Goals as goal

pub returns-in-Err-NoRoom-clause-links : goal.returns-in-Err-NoRoom-clause-links
returns-in-Err-NoRoom-clause-links g c = grow_links (mapping c.args.self) c.requires.file c.top_up.ensures.grows c.args.index

pub returns-in-Err-NoRoom-clause-went : goal.returns-in-Err-NoRoom-clause-went
returns-in-Err-NoRoom-clause-went g c =
    let same = (c.top_up.ensures.kept (c.in-Err-NoRoom.is ∙ ap (λ e. Err e) c.in-Err-NoRoom.field-0-is)).1 in
    subst (λ (w : World). Went c.args.self.file.0 (g.D.Outside.world c.args.depot.now) w None) (sym same) (went_none c.args.self.file.0 (g.D.Outside.world c.args.depot.now))

pub returns-in-Err-Failed-clause-links : goal.returns-in-Err-Failed-clause-links
returns-in-Err-Failed-clause-links g c = grow_links (mapping c.args.self) c.requires.file c.top_up.ensures.grows c.args.index

pub returns-in-Err-Failed-clause-went : goal.returns-in-Err-Failed-clause-went
returns-in-Err-Failed-clause-went g c =
    let is = c.in-Err-Failed.field-0-is in
    let puts = c.in-Err-Failed.ensures.puts (λ same. cc) in
    went_tables (subst (λ (f : ℕ). Puts f (g.D.Outside.world c.args.depot.now) (g.D.Outside.world c.top_up.new.depot) (Err c.in-Err-Failed.field-0)) c.requires.file puts)

-- ---- a cluster was taken

module _ (g : Over) (c : After-add_table g) where
  bits : c.top_up.new.self.pool.bits ≡ c.args.self.cluster_bits
  bits = c.top_up.ensures.pool.bits ∙ c.requires.bits

  at : (c.take_ready.result * 2 ^ c.args.self.cluster_bits % 18446744073709551616 ≡ place_of c.args.self.cluster_bits c.take_ready.result)
      × (c.take_ready.result * 2 ^ c.args.self.cluster_bits % 18446744073709551616 ≤ 2251799813685248)
  at = shift_at c.args.self.cluster_bits c.take_ready.result c.requires.mapping.high (omega (arith, c.take_ready.ensures.ready.reach))

  at_is : c.take_ready.result * 2 ^ c.args.self.cluster_bits % 18446744073709551616 ≡ place_of c.top_up.new.self.pool.bits c.take_ready.result
  at_is = at.0 ∙ ap (λ (b : ℕ). place_of b c.take_ready.result) (sym bits)

  run : Runs (writes_of c.args.self.file.0) (g.D.Outside.world c.args.depot.now) (g.D.Outside.world c.top_up.new.depot)
  run = subst (λ (f : ℕ). Runs (writes_of f) (g.D.Outside.world c.args.depot.now) (g.D.Outside.world c.top_up.new.depot)) c.requires.file (c.in-Ok.ensures.puts (λ same. cc)).writes

  went : Went c.args.self.file.0 (g.D.Outside.world c.args.depot.now) (g.D.Outside.world c.top_up.new.depot) None
  went = subst (λ (f : ℕ). Went f (g.D.Outside.world c.args.depot.now) (g.D.Outside.world c.top_up.new.depot) None) c.requires.file (went_ok (c.in-Ok.ensures.puts (λ same. cc)).calls)

pub overflow_add-offset : goal.overflow_add-offset
overflow_add-offset g c = omega (arith, (shift_at c.args.self.cluster_bits c.take_ready.result c.requires.mapping.high (omega (arith, c.take_ready.ensures.ready.reach))).1)

links : (g : Over) (c : After-add_table g) → LinksTable (mapping c.args.self) c.args.index c.args.clusters.now c.take_ready.new.self (g.D.Outside.world c.args.depot.now) (g.D.Outside.world c.add_table.new.depot)
links g c =
    let e = c.add_table.ensures in
    let t = c.take_ready.ensures in
    take_links (mapping c.args.self) c.requires.file c.requires.inside refl c.top_up.ensures.grows t.allocator t.taken t.ready t.same t.hands c.prepared_is_clean.ensures (at_is g c) refl (run g c) e.puts.writes (g.met.D.Depot.sound _) e.moves e.leaves e.rows

pub returns-in-Ok-add_table-clause-links : goal.returns-in-Ok-add_table-clause-links
returns-in-Ok-add_table-clause-links g d = let at = goal.at.returns-in-Ok-add_table-clause-links g d in links g at.After-add_table

pub returns-in-Ok-add_table-clause-linked : goal.returns-in-Ok-add_table-clause-linked
returns-in-Ok-add_table-clause-linked g d =
    let c = (goal.at.returns-in-Ok-add_table-clause-linked g d).After-add_table in
    let e = d.add_table.ensures in
    let t = d.take_ready.ensures in
    take_linked (mapping d.args.self) d.requires.file d.requires.inside refl d.top_up.ensures.grows t.allocator t.taken t.ready t.same t.hands d.prepared_is_clean.ensures (at_is g c) refl (run g c) e.puts.writes (g.met.D.Depot.sound _) e.moves e.leaves e.rows
    d.in-Ok-add_table.ensures.linked

pub returns-in-Ok-add_table-clause-near : goal.returns-in-Ok-add_table-clause-near
returns-in-Ok-add_table-clause-near g d = (at g (goal.at.returns-in-Ok-add_table-clause-near g d).After-add_table).1

pub returns-in-Ok-add_table-clause-known : goal.returns-in-Ok-add_table-clause-known
returns-in-Ok-add_table-clause-known g d other =
    let c = (goal.at.returns-in-Ok-add_table-clause-known g d).After-add_table in
    let e = d.add_table.ensures in
    let t = d.take_ready.ensures in
    take_known (mapping d.args.self) d.requires.file d.requires.inside refl d.top_up.ensures.grows t.allocator t.taken t.ready t.same t.hands d.prepared_is_clean.ensures (at_is g c) refl (run g c) e.puts.writes (g.met.D.Depot.sound _) e.moves e.leaves e.rows
    d.in-Ok-add_table.ensures.linked d.room-room.ensures.allocator d.top_up.ensures.pool d.in-Ok.ensures.words d.prepared_stays_exact.ensures d.table_stays_exact.ensures

pub returns-in-Ok-add_table-clause-went : goal.returns-in-Ok-add_table-clause-went
returns-in-Ok-add_table-clause-went g d = went_on (went g (goal.at.returns-in-Ok-add_table-clause-went g d).After-add_table) (went_ok d.in-Ok-add_table.ensures.puts.calls)

pub returns-in-Err-clause-links : goal.returns-in-Err-clause-links
returns-in-Err-clause-links g d = let at = goal.at.returns-in-Err-clause-links g d in links g at.After-add_table

pub returns-in-Err-clause-went : goal.returns-in-Err-clause-went
returns-in-Err-clause-went g d = went_on (went g (goal.at.returns-in-Err-clause-went g d).After-add_table) (went_tables d.in-Err.ensures.puts)
