-- Each command takes a sound state to a sound state.
use Rattle.std.proofs.lemmas.Grind.{common_steps}
use Rattle.std.proofs.Common.{rules}
use Rattle.std.proofs.Common.{◌≡◌, ℕ, ◌<◌, List, [], ◌∷◌, ◌++◌, length, false, refl, arith}
use Rattle.std.specs.Prelude.{IsTrue, Option, None, Result, Ok, Err}
use Rattle.std.specs.List.{list_any}
use Rattle.std.proofs.lemmas.List.{length-append}
use Rattle.std.proofs.lemmas.List.Elements.{All-push}
use Rattle.bitmap_model.proofs.Lists.{same_bytes-back}
use Rattle.core_events.specs.declared.commands.ExportArgs.{ExportArgs}
use Rattle.core_events.specs.declared.commands.Command.{Command}
use Rattle.core_events.specs.declared.commands.Command.TheVariants.{Act, Transaction, JobCancel, QueryJobs, QueryNodes, ExportAdd, Quit}
use Rattle.core_events.specs.declared.refusals.Refusal.{Refusal}
use Rattle.core_events.specs.Answers.{Jobs, Nodes}
use Rattle.script_model.specs.Recording.{is_drive}
use Rattle.plain_model.specs.Machine.{Machine, size_of}
use Rattle.plain_model.specs.Laws.{IsFit}
use Rattle.plain_model.specs.Actions.{Held, Hindrance, RefusedAt}
use Rattle.plain_model.specs.Queries.{most_exports, job_infos, node_infos, export_refusal, with_export}
use Rattle.plain_model.specs.Outcome.{Outcome, answered, after_transaction, unless_wanting, after_export, command}
use Rattle.plain_model.specs.Sound.{have_one_export_id, have_one_export_name, AreSoundExports, IsSound}
use Rattle.plain_model.proofs.Inserting.{differ_push}
use Rattle.plain_model.proofs.Transacting.{IsTransacted, transact_sound}
use Rattle.plain_model.proofs.Leaving.{after_cancel_is_sound}
use Rattle.plain_model.proofs.Sizes.{after_cancel_size}

-- ---- exports

-- what is known where an export isn't refused
pub record IsAddableExport (a : ExportArgs) (m : Machine) : Type 0 where
  pub writable : IsTrue a.writable → IsTrue (is_drive a.node)
  pub new_id : list_any (have_one_export_id a) m.exports ≡ false
  pub new_name : list_any (have_one_export_name a) m.exports ≡ false
  pub few : length m.exports < most_exports

pub export_none : (a : ExportArgs) (m : Machine) → export_refusal a m ≡ None → IsAddableExport a m
unfolding export_refusal
export_none a m h = search rules

pub exports_gain : (a : ExportArgs) (m : Machine) → IsAddableExport a m → AreSoundExports m.exports → AreSoundExports (m.exports ++ a ∷ [])
exports_gain a m new s = record {
  ids = differ_push have_one_export_id m.exports a (λ e f h. same_bytes-back e.id f.id h) new.new_id s.ids;
  names = differ_push have_one_export_name m.exports a (λ e f h. same_bytes-back e.name f.name h) new.new_name s.names;
  writable_ones = All-push (λ (e : ExportArgs). IsTrue e.writable → IsTrue (is_drive e.node)) m.exports a s.writable_ones new.writable;
  few = omega (arith, new.few, length-append m.exports (a ∷ []));
}

pub export_sound : (a : ExportArgs) (m : Machine) → IsSound m → export_refusal a m ≡ None → IsSound (with_export a m)
export_sound a m s h = search (rules, exports_gain, export_none)

-- ---- other commands

-- the outcome is sound, and its disk as long
pub record IsSoundAfter (m : Machine) (o : Outcome) : Type 0 where
  pub sound : IsSound o.machine
  pub sized : size_of o.machine ≡ size_of m

transaction_sound : (number : ℕ → Option ℕ) (r : Result Machine RefusedAt) (m : Machine) → IsSound m → ((next : Machine) → r ≡ Ok next → IsTransacted m next)
    → IsSoundAfter m (after_transaction number r m)
transaction_sound number (Ok next) m s went = let t : IsTransacted m next = went next refl in record { sound = t.sound; sized = t.sized }
transaction_sound number (Err refused) m s went = record { sound = s; sized = refl }

unless_sound : (memory : Option ℕ) (o : Outcome) (m : Machine) → IsSound m → IsSoundAfter m o → IsSoundAfter m (unless_wanting memory o m)
unless_sound x o m s made = grind (arith, common_steps)

added_sound : (refusal : Option Refusal) (o : Outcome) (m : Machine) → IsSound m → (refusal ≡ None → IsSoundAfter m o) → IsSoundAfter m (after_export refusal o m)
added_sound x o m s made = grind (arith, common_steps)

pub command_sound : (held : List ℕ → Held) (hindrance : Hindrance) (c : Command) (m : Machine) → ((name : List ℕ) → IsFit (held name)) → IsSound m
    → IsSoundAfter m (command held hindrance c m)
unfolding command
command_sound held hindrance (Act action) m fit s = search (rules, transaction_sound, transact_sound)
command_sound held hindrance (Transaction actions) m fit s = search (rules, transaction_sound, transact_sound)
command_sound held hindrance (JobCancel id) m fit s = search (rules, unless_sound, after_cancel_is_sound, after_cancel_size)
command_sound held hindrance QueryJobs m fit s = unless_sound hindrance.memory (answered (Jobs (job_infos m)) m) m s (record { sound = s; sized = refl })
command_sound held hindrance QueryNodes m fit s = unless_sound hindrance.memory (answered (Nodes (node_infos m)) m) m s (record { sound = s; sized = refl })
command_sound held hindrance (ExportAdd args) m fit s = search (rules, unless_sound, added_sound, export_sound)
command_sound held hindrance Quit m fit s = search rules
