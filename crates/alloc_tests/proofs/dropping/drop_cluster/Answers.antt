use Rattle.std.proofs.Common.{◌≡◌, ℕ, ◌∷◌, ◌∙◌, ap, subst}
use Rattle.qc_alloc.specs.Allocator.{Allocator}
use Rattle.image_model.specs.Clusters.{IsStanding}
use Rattle.alloc_tests.proofs.Dropped.{on_map, spoken_after, named_on, dropped_tight}
use Rattle.alloc_tests.proofs.dropping.drop_cluster.Goals as goal

pub returns : goal.returns
returns g c = record {
  tight = on_map c.settle.result (λ counts s disks first q i j slot table names exactly al told h long spells listed spans owns.
      let f = c.args.file.0 in
      let a0 = c.args.clusters.now in
      let a1 = c.give_back.new.self in
      let a2 = c.settle.new.self in
      let w0 = g.D.Outside.world c.args.depot.now in
      let w1 = g.D.Outside.world c.clear_entry.new.depot in
      let w2 = g.D.Outside.world c.settle.new.depot in
      let on = w1.seen f ∷ disks in
      let at = subst (λ (x : ℕ). IsStanding s disks first a0.pool.prepared x w0) c.requires.file al.stands in
      let shape = al.is.shape in
      let stands = (c.clear_entry.ensures.moves s disks first a0.pool.prepared q i j shape slot table).stands at in
      let file1 : a1.file ≡ a0.file = ap (λ (a : Allocator). a.file) c.give_back.ensures in
      let leaves = c.clear_entry.ensures.leaves s disks first a0.pool.prepared q i j shape slot table at in
      let cleared = c.in_ok-clear_entry.ensures.cleared s disks first a0.pool.prepared q i j shape slot table at in
      let rows = c.clear_entry.ensures.rows s disks first a0.pool.prepared q i j shape slot table at in
      let spoken : a2.pool.spoken ≡ a1.pool.spoken = ap (λ (a : Allocator). a.pool.spoken) c.settle.ensures.pool ∙ spoken_after c.settle.result a1.pool in
      let file2 : a2.file ≡ a1.file = ap (λ (a : Allocator). a.file) c.settle.ensures.pool in
      let exact1 = named_on s disks first q i j f c.args.index a0 a1 w0 w1 on c.requires.file c.give_back.ensures c.clear_entry.ensures.puts.writes.goes.tells al stands names exactly leaves cleared rows in
      let all = dropped_tight s disks first q i j f c.args.index a0 a1 w0 w1 on c.requires.file c.give_back.ensures c.clear_entry.ensures.puts.writes.goes.tells al stands names exactly leaves cleared rows a2 w2 spoken c.settle.ensures.puts.writes.goes.tells file2
      (c.settle.ensures.moves s on first exact1) (c.settle.ensures.leaves s on first exact1) (counts s on first exact1) told in
      c.settled_is_tight.ensures s on _ (w2.seen f) h shape long spells listed spans owns all.2 all.0 all.1) c.settle.ensures.counts;
}
