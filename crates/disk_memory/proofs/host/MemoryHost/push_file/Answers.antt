use Rattle.std.proofs.Common.{◌≡◌, ◌+◌, ◌<◌, ◌^◌, ◌++◌, ◌∷◌, [], List, length, refl, sym, subst, ap, ◌∙◌, arith, rules}
use Rattle.std.specs.Prelude.{string_bytes}
use Rattle.std.proofs.lemmas.List.{length-map}
use Rattle.disk_memory.specs.declared.files.File.{File}
use Rattle.disk_memory.specs.Held.{IsKept, held_of}
use Rattle.disk_memory.proofs.Kept.{kept_with_file}
use Rattle.disk_memory.proofs.Fields.{held_added}
use Rattle.disk_memory.proofs.host.MemoryHost.push_file.Goals as goal

pub invariant_of-self-2 : goal.invariant_of-self-2
invariant_of-self-2 c =
    let self = c.args.self.now in
    let file = c.args.file in
    let old = held_of self.keep self.files.items self.log.items self.printed.items self.faults self.print_faults in
    let few : length old.names + 1 < 2 ^ 32 = omega (arith, length-map self.files.items (λ (file : File). string_bytes file.name)) in
    let more : c.push_reserved.new.self.items ≡ self.files.items ++ file ∷ [] = c.push_reserved.ensures.items ∙ ap (λ (l : List File). l ++ file ∷ []) c.in_ok-reserve.ensures.items in
    let end : c.len-number.result ≡ length self.files.items = search rules in
    let is = held_added self.keep self.files.items c.push_reserved.new.self.items self.log.items c.note_put.new.log.items self.printed.items self.faults self.print_faults c.len-number.result file (string_bytes file.name) c.deref.result.now
    more refl (sym c.deref.ensures.value) c.requires.reads c.requires.writes end c.in_ok-note_put.ensures.ok in
    record { kept = subst IsKept (sym is) (kept_with_file (string_bytes file.name) c.deref.result.now old few c.requires.name self.kept) }
