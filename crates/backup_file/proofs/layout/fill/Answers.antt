use Rattle.std.proofs.Common.{◌≡◌, ◌*◌, ℕ, length, refl, ap, ◌∙◌, arith}
use Rattle.std.proofs.lemmas.List.{length-replicate}
use Rattle.backup_file.proofs.Laying.{room_of, is_filled, put_over}
use Rattle.backup_file.proofs.layout.fill.Goals as goal

pub overflow_add-counts : goal.overflow_add-counts
overflow_add-counts c = omega (arith, (room_of c.args.plan.now c.requires.plan).table_small)

pub overflow_mul-counts : goal.overflow_mul-counts
overflow_mul-counts c = let room = room_of c.args.plan.now c.requires.plan in omega (arith, room.counts, room.small)

pub put-requires : goal.put-requires
put-requires c =
    let plan = c.args.plan.now in
    let long : length c.args.out.now ≡ plan.cluster * plan.clusters = ap length c.requires.zeros ∙ length-replicate {A = ℕ} (plan.cluster * plan.clusters) 0 in
    omega (arith, c.told-sector, (room_of plan c.requires.plan).sector)

pub put_words-requires-clause-room : goal.put_words-requires-clause-room
put_words-requires-clause-room c =
    let plan = c.args.plan.now in
    let long : length c.args.out.now ≡ plan.cluster * plan.clusters = ap length c.requires.zeros ∙ length-replicate {A = ℕ} (plan.cluster * plan.clusters) 0 in
    omega (arith, (room_of plan c.requires.plan).words)

pub put_words-requires-clause-small : goal.put_words-requires-clause-small
put_words-requires-clause-small c = let room = room_of c.args.plan.now c.requires.plan in omega (arith, room.counts, room.small)

pub put_ones-requires : goal.put_ones-requires
put_ones-requires c =
    let plan = c.args.plan.now in
    let long : length c.args.out.now ≡ plan.cluster * plan.clusters = ap length c.requires.zeros ∙ length-replicate {A = ℕ} (plan.cluster * plan.clusters) 0 in
    omega (arith, (room_of plan c.requires.plan).ones)

pub returns : goal.returns
returns c =
    let plan = c.args.plan.now in
    let long : length c.args.out.now ≡ plan.cluster * plan.clusters = ap length c.requires.zeros ∙ length-replicate {A = ℕ} (plan.cluster * plan.clusters) 0 in
    let size = c.told-sector in
    is_filled plan c.args.sector.now c.args.out.now c.put.new.out c.put_words.new.out c.put_ones.new.out c.requires.plan size c.requires.zeros
    (put_over 0 c.args.out.now c.args.sector.now c.put.ensures refl (omega arith) (omega (arith, (room_of plan c.requires.plan).sector)))
    c.put_words.ensures
    c.put_ones.ensures
