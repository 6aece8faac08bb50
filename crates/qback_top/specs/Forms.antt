-- What the words say, before names are copied.
use Rattle.std.specs.Prelude.{option_map}
use Rattle.qback_top.specs.declared.words.Form.{Form}
use Rattle.qback_top.specs.declared.words.Form.TheVariants as forms
use Rattle.qback_top.specs.declared.words.Task.{Task}
use Rattle.qback_top.specs.declared.words.Task.TheVariants.{CreateSource, CreateTarget, Info, Replay}

-- the task with copies of these names
abbrev pub said : Form → Task
said (forms.CreateSource file size bits id) = CreateSource file.now size bits id
said (forms.CreateTarget file size bits under) = CreateTarget file.now size bits (option_map (λ name. name.now) under)
said (forms.Info file) = Info file.now
said (forms.Replay file script) = Replay file.now script.now
