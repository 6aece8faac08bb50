use Rattle.std.proofs.Common.{◌≡◌, ℕ, List, length, ap, ◌∙◌, arith}
use Rattle.disk_model.specs.Files.{overlay}
use Rattle.disk_model.proofs.Bytes.{overlay_no_shorter}
use Rattle.disk_memory.proofs.Mixtures.{mixture_written}
use Rattle.disk_memory.proofs.outcomes.written.Goals as goal

pub remix-requires : goal.remix-requires
remix-requires c =
    let old = c.args.old in
    let new : c.write_over.new.file.items ≡ overlay old.now.items c.args.at c.args.bytes.now = c.write_over.ensures.items ∙ ap (λ (l : List ℕ). overlay l c.args.at c.args.bytes.now) c.make_room.ensures.items in
    omega (arith, ap length new, overlay_no_shorter old.now.items c.args.at c.args.bytes.now, old.long)

pub returns : goal.returns
returns c versions was =
    let old = c.args.old in
    let new : c.write_over.new.file.items ≡ overlay old.now.items c.args.at c.args.bytes.now = c.write_over.ensures.items ∙ ap (λ (l : List ℕ). overlay l c.args.at c.args.bytes.now) c.make_room.ensures.items in
    let call = c.in_ok-remix.ensures in
    mixture_written c.args.choice c.args.at c.args.bytes.now old.now.items old.mixed.items c.write_over.new.file.items c.remix.new.mixed.items old.shortest new call.long call.sectors call.none call.all versions was
