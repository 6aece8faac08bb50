use Rattle.std.proofs.Common.{ℕ, List, ◌++◌, ap, sym, refl, ◌∙◌, arith}
use Rattle.disk_model.proofs.Laws.{run_on}
use Rattle.qc_layout.specs.declared.header.Fields.{Fields}
use Rattle.qc_layout.specs.declared.header.Own.TheVariants as owns
use Rattle.qc_layout.specs.Room.{room_from}
use Rattle.toy_image.proofs.Looking.{not_after, begins_at, cluster_small, is_disk, numbers_found, fields_after, base_after, room_after, sized_as}
use Rattle.toy_image.proofs.image.look.Goals.{then-base-gt-END-via-then-base-gt-END, then-base-gt-END-via-else-base-gt-END+then-size-base, then-base-gt-END-via-else-base-gt-END+else-size-base+then-header-gt21}
use Rattle.toy_image.proofs.image.look.Goals as goal

pub returns-in-Absent-clause-not : goal.returns-in-Absent-clause-not
returns-in-Absent-clause-not g c = λ told opens. let is = (is_disk _ c.in_ok-header.header opens (c.in_ok-header.ensures.spells told opens)).2 in let other = c.in-Absent.is in absurd (cc)

pub returns-in-Target-clause-not : goal.returns-in-Target-clause-not
returns-in-Target-clause-not g c = λ told opens. let is = (is_disk _ c.in_ok-header.header opens (c.in_ok-header.ensures.spells told opens)).2 in let other = c.in-Target.is in absurd (cc)

pub find_base-requires-clause-fields : goal.find_base-requires-clause-fields
find_base-requires-clause-fields g c =
    fields_after (g.D.Outside.world c.args.depot.now) (g.D.Outside.world c.find_header.new.depot) c.args.file.0 c.in_ok-header.header c.find_header.ensures.run c.in_ok-header.ensures.spells

pub find_room-requires-clause-fields : goal.find_room-requires-clause-fields
find_room-requires-clause-fields g c =
    fields_after (g.D.Outside.world c.args.depot.now) (g.D.Outside.world c.find_base.new.depot) c.args.file.0 c.in_ok-header.header (run_on c.find_header.ensures.run c.find_base.ensures.run) c.in_ok-header.ensures.spells

pub returns-then-base-gt-END-clause-not : goal.returns-then-base-gt-END-clause-not
returns-then-base-gt-END-clause-not g c = λ told opens.
    let at = begins_at opens.numbers _ opens.is in
    let spelled = c.in_ok-header.ensures.spells told opens in
    let base = base_after (g.D.Outside.world c.args.depot.now) (g.D.Outside.world c.find_header.new.depot) c.args.file.0 c.in_ok-base.base c.find_header.ensures.run c.in_ok-base.ensures.base told opens.numbers opens.is in
    let size = sized_as opens.numbers _ c.in_ok-header.header opens.is spelled in
    let bits = ap (λ (f : Fields). f.cluster_bits) spelled.fields in
    let near = opens.is.suits.near in
    let high = at.high in
    elim c.then-base-gt-END.branch [
      | then-base-gt-END-via-then-base-gt-END w ↦ (let t = w.if-base-gt-END.true in omega (arith, t, base, near))
      | then-base-gt-END-via-else-base-gt-END+then-size-base w ↦ (let t = w.if-size-base.true in omega (arith, t, base, size, near))
      | then-base-gt-END-via-else-base-gt-END+else-size-base+then-header-gt21 w ↦ (let t = w.if-header-gt21.true in omega (arith, t, bits, high))
    ]

pub returns-in-Err-clause-run : goal.returns-in-Err-clause-run
returns-in-Err-clause-run g c = run_on c.find_header.ensures.run (run_on c.find_base.ensures.run c.find_room.ensures.run)

pub returns-in_err-extend_from_slice-clause-run : goal.returns-in_err-extend_from_slice-clause-run
returns-in_err-extend_from_slice-clause-run g c = run_on c.find_header.ensures.run (run_on c.find_base.ensures.run c.find_room.ensures.run)

pub returns-clause-run : goal.returns-clause-run
returns-clause-run g c = run_on c.find_header.ensures.run (run_on c.find_base.ensures.run c.find_room.ensures.run)

pub returns-in-Err-clause-not : goal.returns-in-Err-clause-not
returns-in-Err-clause-not g c = not_after (g.D.Outside.world c.find_room.new.depot) c.in-Err.why (run_on c.find_header.ensures.run c.find_base.ensures.run) c.in-Err.ensures.not

pub returns-clause-looked : goal.returns-clause-looked
returns-clause-looked g c = let a = c.if-size-base.false in let b = c.if-base-gt-END.false in record {
  near = omega (arith, a, b);
  image = λ told opens.
      let spelled = c.in_ok-header.ensures.spells told opens in
      let cluster = cluster_small c.in_ok-header.header.fields.cluster_bits c.if-header-gt21.false in
      numbers_found _ _ c.in_ok-header.header c.in-Source.spans_offset c.in-Source.spans_length opens spelled
      (c.in-Source.is ∙ ap (λ (id : List ℕ). owns.Source id c.in-Source.epoch c.in-Source.spans_offset c.in-Source.spans_length) (sym (c.in_ok-extend_from_slice.ensures.items ∙ ap (λ (l : List ℕ). l ++ c.in-Source.disk) c.new-id.ensures.items)))
      (base_after (g.D.Outside.world c.args.depot.now) (g.D.Outside.world c.find_header.new.depot) c.args.file.0 c.in_ok-base.base c.find_header.ensures.run c.in_ok-base.ensures.base told)
      refl cluster
      (room_after (g.D.Outside.world c.args.depot.now) (g.D.Outside.world c.find_base.new.depot) c.args.file.0 c.in-Ok.room c.div_ceil-next.result (run_on c.find_header.ensures.run c.find_base.ensures.run) c.in-Ok.ensures.room told opens ∙ ap (room_from _) c.div_ceil-next.ensures);
  spelled = c.in_ok-header.ensures.spells;
}
