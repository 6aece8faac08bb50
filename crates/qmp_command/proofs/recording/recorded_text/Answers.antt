use Rattle.std.proofs.Common.{◌≡◌, None, Some, sym, ap, ◌∙◌, cond, false, Bool, rules}
use Rattle.std.specs.Str.{IsUtf8}
use Rattle.serde_json.specs.Errors.{IsMemory}
use Rattle.serde_json.specs.Read.{read}
use Rattle.serde_json.specs.View.{view}
use Rattle.serde_json.specs.Written.{has_float, compact_text}
use Rattle.qmp_command.proofs.Whole.{recorded_text-read, recorded_text-unread, reads_alike}
use Rattle.qmp_command.proofs.recording.recorded_text.Goals as goal

pub returns-in_ok-to_vec-in-Ok-clause-text : goal.returns-in_ok-to_vec-in-Ok-clause-text
returns-in_ok-to_vec-in-Ok-clause-text c =
    let message = c.args.message.now in
    let d = view c.in-Ok.value in
    let found = c.in-Ok.ensures.ok in
    let whole : has_float d ≡ false = search rules in
    let text = c.in_ok-to_vec-in-Ok.ensures.text whole in
    ap Some text ∙ sym (recorded_text-read message d found.0 found.1 ∙ ap (λ (b : Bool). cond b None (Some (compact_text d))) whole)

pub returns-in_ok-to_vec-in-Ok-clause-alike : goal.returns-in_ok-to_vec-in-Ok-clause-alike
returns-in_ok-to_vec-in-Ok-clause-alike c =
    let message = c.args.message.now in
    let d = view c.in-Ok.value in
    let found = c.in-Ok.ensures.ok in
    let written = c.in_ok-to_vec-in-Ok.ensures in
    reads_alike c.in_ok-to_vec-in-Ok.field-0.items message d written.utf8 (written.reads_back c.in-Ok.ensures.nests) found.0 found.1

pub returns-else-is_memory-clause-text : goal.returns-else-is_memory-clause-text
returns-else-is_memory-clause-text c =
    let other : IsMemory c.in-Err.error → ⊥ = search rules in
    let none : IsUtf8 c.args.message.now → read c.args.message.now ≡ None = c.in-Err.ensures.err other in
    sym (recorded_text-unread c.args.message.now none)
