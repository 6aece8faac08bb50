use Rattle.std.proofs.Common.{◌≡◌, ℕ, ◌*◌, List, length, [], ◌∷◌, sym, ◌∙◌, ap, subst}
use Rattle.disk_model.proofs.Laws.{run_on}
use Rattle.file_device.proofs.Laws.{puts_on, puts_err}
use Rattle.bitmap_model.specs.Granules.{is_in}
use Rattle.cluster_pool.specs.Pool.{Pool, each, settled}
use Rattle.qc_alloc.specs.Allocator.{Allocator, Allocates}
use Rattle.qc_alloc.specs.Inside.{allocator_view}
use Rattle.qc_alloc.specs.Settling.{SettlesOn, SettlesAll}
use Rattle.image_model.specs.Clusters.{IsSafe, Moves}
use Rattle.image_model.specs.Calls.{LeavesGuest, SameTables, AreSettled}
use Rattle.qc_alloc.proofs.Resting.{after, rest_failed, through, through_on, through_failed, through_end, through_one, leaves_over, settled_over, as_moves, as_named, as_reads}
use Rattle.qc_alloc.proofs.clusters.Clusters.settle.Goals as goal

pub returns-in_err-rest-clause-moves : goal.returns-in_err-rest-clause-moves
returns-in_err-rest-clause-moves g c s disks first named =
    let a = allocator_view c.self.inside in
    let same : a ≡ c.args.self.now = c.self.view_is in
    let e = record a { pool = c.empty.new.self } in
    let empty : e ≡ after a a.pool.counted a.pool.from = ap (λ (p : Pool). record a { pool = p }) c.empty.ensures in
    as_moves (after a a.pool.counted a.pool.from) e same empty (rest_failed c.rest.ensures.synced.call s disks first (c.rest.ensures.stays s disks first a.pool.prepared))

pub returns-in_err-settle_blocks-clause-moves : goal.returns-in_err-settle_blocks-clause-moves
returns-in_err-settle_blocks-clause-moves g c s disks first named =
    let a = allocator_view c.self.inside in
    let same : a ≡ c.args.self.now = c.self.view_is in
    let e = record a { pool = c.empty.new.self } in
    let empty : e ≡ after a a.pool.counted a.pool.from = ap (λ (p : Pool). record a { pool = p }) c.empty.ensures in
    let sound = g.met.D.Depot.sound in
    let x = g.D.Outside.world c.args.depot.now in
    let y = g.D.Outside.world c.rest.new.depot in
    let z = g.D.Outside.world c.settle_blocks.new.depot in
    let told = as_named x same named in
    let call = c.rest.ensures.synced.call in
    let begun = through c.self.invariant.allocator call s disks first told (c.in_ok-rest.ensures.rests s disks (is_in a.pool.spoken) first a.pool.prepared told) in
    let goes : SettlesOn (after a a.pool.counted a.pool.from) y z = subst (λ (d : Allocator). SettlesOn d y z) empty c.settle_blocks.ensures.goes in
    let on = through_on call.run begun c.settle_blocks.ensures.puts.writes (sound _) goes in
    let run = run_on call.run c.settle_blocks.ensures.puts.writes in
    as_moves (after a a.pool.counted a.pool.from) c.settle_blocks.new.self same (c.settle_blocks.ensures.same ∙ empty) (through_failed run on)

pub returns-in_err-settle_blocks-clause-leaves : goal.returns-in_err-settle_blocks-clause-leaves
returns-in_err-settle_blocks-clause-leaves g c s disks first named =
    let a = allocator_view c.self.inside in
    let same : a ≡ c.args.self.now = c.self.view_is in
    let e = record a { pool = c.empty.new.self } in
    let empty : e ≡ after a a.pool.counted a.pool.from = ap (λ (p : Pool). record a { pool = p }) c.empty.ensures in
    let sound = g.met.D.Depot.sound in
    let x = g.D.Outside.world c.args.depot.now in
    let y = g.D.Outside.world c.rest.new.depot in
    let z = g.D.Outside.world c.settle_blocks.new.depot in
    let told = as_named x same named in
    let call = c.rest.ensures.synced.call in
    let begun = through c.self.invariant.allocator call s disks first told (c.in_ok-rest.ensures.rests s disks (is_in a.pool.spoken) first a.pool.prepared told) in
    let goes : SettlesOn (after a a.pool.counted a.pool.from) y z = subst (λ (d : Allocator). SettlesOn d y z) empty c.settle_blocks.ensures.goes in
    as_reads {disks = disks} {first = first} x z (λ d old new. LeavesGuest s old new × SameTables s old new) same (leaves_over call begun goes)

pub returns-in_err-settle_blocks-clause-puts : goal.returns-in_err-settle_blocks-clause-puts
returns-in_err-settle_blocks-clause-puts g c =
    let file = ap (λ (d : Allocator). d.file) c.self.view_is in
    rw (← file) (puts_err c.from_residual-in_err-settle_blocks.ensures.0 (puts_on c.in_ok-rest.ensures.synced.puts c.in_err-settle_blocks.ensures.puts))

pub returns-in_err-rest-2-clause-moves : goal.returns-in_err-rest-2-clause-moves
returns-in_err-rest-2-clause-moves g c s disks first named =
    let a = allocator_view c.self.inside in
    let same : a ≡ c.args.self.now = c.self.view_is in
    let e = record a { pool = c.empty.new.self } in
    let empty : e ≡ after a a.pool.counted a.pool.from = ap (λ (p : Pool). record a { pool = p }) c.empty.ensures in
    let sound = g.met.D.Depot.sound in
    let x = g.D.Outside.world c.args.depot.now in
    let y = g.D.Outside.world c.rest.new.depot in
    let z = g.D.Outside.world c.settle_blocks.new.depot in
    let told = as_named x same named in
    let call = c.rest.ensures.synced.call in
    let begun = through c.self.invariant.allocator call s disks first told (c.in_ok-rest.ensures.rests s disks (is_in a.pool.spoken) first a.pool.prepared told) in
    let goes : SettlesOn (after a a.pool.counted a.pool.from) y z = subst (λ (d : Allocator). SettlesOn d y z) empty c.settle_blocks.ensures.goes in
    let on = through_on call.run begun c.settle_blocks.ensures.puts.writes (sound _) goes in
    let run = run_on call.run c.settle_blocks.ensures.puts.writes in
    as_moves (after a a.pool.counted a.pool.from) c.settle_blocks.new.self same (c.settle_blocks.ensures.same ∙ empty)
    (through_end run on a.pool.counted a.pool.from c.rest-2.ensures.synced.call (sound _) (c.rest-2.ensures.stays s (y.seen a.file ∷ []) a.pool.prepared a.pool.prepared))

pub returns-in_err-rest-2-clause-leaves : goal.returns-in_err-rest-2-clause-leaves
returns-in_err-rest-2-clause-leaves g c s disks first named =
    let a = allocator_view c.self.inside in
    let same : a ≡ c.args.self.now = c.self.view_is in
    let e = record a { pool = c.empty.new.self } in
    let empty : e ≡ after a a.pool.counted a.pool.from = ap (λ (p : Pool). record a { pool = p }) c.empty.ensures in
    let sound = g.met.D.Depot.sound in
    let x = g.D.Outside.world c.args.depot.now in
    let y = g.D.Outside.world c.rest.new.depot in
    let z = g.D.Outside.world c.settle_blocks.new.depot in
    let told = as_named x same named in
    let call = c.rest.ensures.synced.call in
    let begun = through c.self.invariant.allocator call s disks first told (c.in_ok-rest.ensures.rests s disks (is_in a.pool.spoken) first a.pool.prepared told) in
    let goes : SettlesOn (after a a.pool.counted a.pool.from) y z = subst (λ (d : Allocator). SettlesOn d y z) empty c.settle_blocks.ensures.goes in
    as_reads {disks = disks} {first = first} x (g.D.Outside.world c.rest-2.new.depot) (λ d old new. LeavesGuest s old new × SameTables s old new) same
    (λ al is. subst (λ (new : List ℕ). LeavesGuest s (x.seen a.file) new × SameTables s (x.seen a.file) new) (sym c.rest-2.ensures.synced.call.seen) (leaves_over call begun goes al is))

pub returns-in_err-rest-2-clause-puts : goal.returns-in_err-rest-2-clause-puts
returns-in_err-rest-2-clause-puts g c =
    let file = ap (λ (d : Allocator). d.file) c.self.view_is in
    rw (← file) (puts_err c.from_residual-in_err-rest-2.ensures.0 (puts_on (puts_on c.in_ok-rest.ensures.synced.puts c.in_ok-settle_blocks.ensures.puts) c.in_err-rest-2.ensures.synced.puts))

pub returns-clause-moves : goal.returns-clause-moves
returns-clause-moves g c s disks first named =
    let a = allocator_view c.self.inside in
    let same : a ≡ c.args.self.now = c.self.view_is in
    let e = record a { pool = c.empty.new.self } in
    let empty : e ≡ after a a.pool.counted a.pool.from = ap (λ (p : Pool). record a { pool = p }) c.empty.ensures in
    let sound = g.met.D.Depot.sound in
    let x = g.D.Outside.world c.args.depot.now in
    let y = g.D.Outside.world c.rest.new.depot in
    let z = g.D.Outside.world c.settle_blocks.new.depot in
    let told = as_named x same named in
    let call = c.rest.ensures.synced.call in
    let begun = through c.self.invariant.allocator call s disks first told (c.in_ok-rest.ensures.rests s disks (is_in a.pool.spoken) first a.pool.prepared told) in
    let goes : SettlesOn (after a a.pool.counted a.pool.from) y z = subst (λ (d : Allocator). SettlesOn d y z) empty c.settle_blocks.ensures.goes in
    let on = through_on call.run begun c.settle_blocks.ensures.puts.writes (sound _) goes in
    let run = run_on call.run c.settle_blocks.ensures.puts.writes in
    let last = record (allocator_view c.self-2.inside) { pool = c.settle.new.self } in
    let is : last ≡ record (after a a.pool.counted a.pool.from) { pool = settled (after a a.pool.counted a.pool.from).pool } =
    ap (λ (p : Pool). record (allocator_view c.self-2.inside) { pool = p }) c.settle.ensures
    ∙ ap (λ (d : Allocator). record d { pool = settled d.pool }) (c.self-2.view_is ∙ c.settle_blocks.ensures.same ∙ empty) in
    let q = settled (after a a.pool.counted a.pool.from).pool in
    as_moves (record (after a a.pool.counted a.pool.from) { pool = q }) last same is
    (through_end run on q.counted q.from c.rest-2.ensures.synced.call (sound _) (c.rest-2.ensures.stays s (y.seen a.file ∷ []) a.pool.prepared a.pool.prepared))

pub returns-clause-one : goal.returns-clause-one
returns-clause-one g c s disks first named =
    let a = allocator_view c.self.inside in
    let same : a ≡ c.args.self.now = c.self.view_is in
    let e = record a { pool = c.empty.new.self } in
    let empty : e ≡ after a a.pool.counted a.pool.from = ap (λ (p : Pool). record a { pool = p }) c.empty.ensures in
    let sound = g.met.D.Depot.sound in
    let x = g.D.Outside.world c.args.depot.now in
    let y = g.D.Outside.world c.rest.new.depot in
    let z = g.D.Outside.world c.settle_blocks.new.depot in
    let told = as_named x same named in
    let call = c.rest.ensures.synced.call in
    let begun = through c.self.invariant.allocator call s disks first told (c.in_ok-rest.ensures.rests s disks (is_in a.pool.spoken) first a.pool.prepared told) in
    let goes : SettlesOn (after a a.pool.counted a.pool.from) y z = subst (λ (d : Allocator). SettlesOn d y z) empty c.settle_blocks.ensures.goes in
    let on = through_on call.run begun c.settle_blocks.ensures.puts.writes (sound _) goes in
    let run = run_on call.run c.settle_blocks.ensures.puts.writes in
    let last = record (allocator_view c.self-2.inside) { pool = c.settle.new.self } in
    let is : last ≡ record (after a a.pool.counted a.pool.from) { pool = settled (after a a.pool.counted a.pool.from).pool } =
    ap (λ (p : Pool). record (allocator_view c.self-2.inside) { pool = p }) c.settle.ensures
    ∙ ap (λ (d : Allocator). record d { pool = settled d.pool }) (c.self-2.view_is ∙ c.settle_blocks.ensures.same ∙ empty) in
    let q = settled (after a a.pool.counted a.pool.from).pool in
    let v = g.D.Outside.world c.rest-2.new.depot in
    subst (λ (f : ℕ). Moves c.args.self.now.file (IsSafe s disks) (Allocates s disks first c.args.self.now) (Allocates s (v.seen f ∷ []) last.pool.next last) x v) (ap (λ (d : Allocator). d.file) same)
    (as_moves (record (after a a.pool.counted a.pool.from) { pool = q }) last same is
    (through_one run on q.counted q.from c.rest-2.ensures.synced.call (sound _) (c.in_ok-rest-2.ensures.one s (y.seen a.file ∷ []) a.pool.prepared a.pool.prepared)))

pub returns-clause-counts : goal.returns-clause-counts
returns-clause-counts g c s disks first named =
    let a = allocator_view c.self.inside in
    let same : a ≡ c.args.self.now = c.self.view_is in
    let e = record a { pool = c.empty.new.self } in
    let empty : e ≡ after a a.pool.counted a.pool.from = ap (λ (p : Pool). record a { pool = p }) c.empty.ensures in
    let sound = g.met.D.Depot.sound in
    let x = g.D.Outside.world c.args.depot.now in
    let y = g.D.Outside.world c.rest.new.depot in
    let z = g.D.Outside.world c.settle_blocks.new.depot in
    let told = as_named x same named in
    let call = c.rest.ensures.synced.call in
    let begun = through c.self.invariant.allocator call s disks first told (c.in_ok-rest.ensures.rests s disks (is_in a.pool.spoken) first a.pool.prepared told) in
    let b = after a a.pool.counted a.pool.from in
    let all : SettlesAll b 0 (each b.pool * length b.pool.blocks) y z = subst (λ (d : Allocator). SettlesAll d 0 (each d.pool * length d.pool.blocks) y z) empty c.in_ok-settle_blocks.ensures.counts in
    as_reads {disks = disks} {first = first} x (g.D.Outside.world c.rest-2.new.depot) (λ d old new. AreSettled s (is_in d.pool.spoken) new) same
    (λ al is. subst (λ (new : List ℕ). AreSettled s (is_in a.pool.spoken) new) (sym c.rest-2.ensures.synced.call.seen) (settled_over call begun all al is))

pub returns-clause-leaves : goal.returns-clause-leaves
returns-clause-leaves g c s disks first named =
    let a = allocator_view c.self.inside in
    let same : a ≡ c.args.self.now = c.self.view_is in
    let e = record a { pool = c.empty.new.self } in
    let empty : e ≡ after a a.pool.counted a.pool.from = ap (λ (p : Pool). record a { pool = p }) c.empty.ensures in
    let sound = g.met.D.Depot.sound in
    let x = g.D.Outside.world c.args.depot.now in
    let y = g.D.Outside.world c.rest.new.depot in
    let z = g.D.Outside.world c.settle_blocks.new.depot in
    let told = as_named x same named in
    let call = c.rest.ensures.synced.call in
    let begun = through c.self.invariant.allocator call s disks first told (c.in_ok-rest.ensures.rests s disks (is_in a.pool.spoken) first a.pool.prepared told) in
    let goes : SettlesOn (after a a.pool.counted a.pool.from) y z = subst (λ (d : Allocator). SettlesOn d y z) empty c.settle_blocks.ensures.goes in
    as_reads {disks = disks} {first = first} x (g.D.Outside.world c.rest-2.new.depot) (λ d old new. LeavesGuest s old new × SameTables s old new) same
    (λ al is. subst (λ (new : List ℕ). LeavesGuest s (x.seen a.file) new × SameTables s (x.seen a.file) new) (sym c.rest-2.ensures.synced.call.seen) (leaves_over call begun goes al is))

pub returns-clause-puts : goal.returns-clause-puts
returns-clause-puts g c =
    let file = ap (λ (d : Allocator). d.file) c.self.view_is in
    rw (← file) (puts_on (puts_on c.in_ok-rest.ensures.synced.puts c.in_ok-settle_blocks.ensures.puts) c.in_ok-rest-2.ensures.synced.puts)
