use Rattle.std.proofs.Common.{sym, ap, ◌∙◌}
use Rattle.std.specs.Prelude.{string_bytes}
use Rattle.std.specs.List.{position}
use Rattle.std.specs.Str.{bytes_eq}
use Rattle.disk_memory.specs.declared.files.File.{File}
use Rattle.disk_memory.proofs.Fields.{number_of_files}
use Rattle.disk_memory.proofs.host.MemoryHost.number.Goals as goal

pub returns-in-Some : goal.returns-in-Some
returns-in-Some c =
    c.in-Some.ensures ∙ ap (position (λ (file : File). bytes_eq (string_bytes file.name) c.args.name.now)) c.deref.ensures.value
    ∙ sym (number_of_files c.args.name.now c.args.self.now.files.items)

pub returns-in-None : goal.returns-in-None
returns-in-None c =
    c.in-None.ensures ∙ ap (position (λ (file : File). bytes_eq (string_bytes file.name) c.args.name.now)) c.deref.ensures.value
    ∙ sym (number_of_files c.args.name.now c.args.self.now.files.items)
