use Rattle.std.proofs.Common.{map, refl, sym, ap, ◌∙◌}
use Rattle.std.specs.Prelude.{string_capacity, vec_capacity}
use Rattle.std.proofs.lemmas.List.{length-map, map-append}
use Rattle.disk_memory.specs.declared.files.File.{File}
use Rattle.disk_memory.specs.Room.{lengths_of, name_lengths_of}
use Rattle.disk_memory.proofs.host.MemoryHost.add_spare.Goals as goal

pub returns-clause-room : goal.returns-clause-room
returns-clause-room c =
    let fresh = c.in_ok-fresh.fresh.items in
    let old = c.args.self.now.spare.items in
    let new = c.append.new.self.items in
    let is = c.in_ok-append.ensures.items in
    record {
      places = refl;
      files = refl;
      names = (name_lengths_of fresh, ap (map (λ (file : File). string_capacity file.name)) is ∙ map-append (λ (file : File). string_capacity file.name) fresh old);
      spares = (lengths_of fresh, ap (map (λ (file : File). vec_capacity file.bytes)) is ∙ map-append (λ (file : File). vec_capacity file.bytes) fresh old);
      paired = length-map new (λ (file : File). string_capacity file.name) ∙ sym (length-map new (λ (file : File). vec_capacity file.bytes));
      printed = refl;
    }
