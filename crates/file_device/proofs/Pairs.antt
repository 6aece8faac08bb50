-- How runs of calls on two files go on.
use Rattle.std.proofs.Common.{◌≡◌, ◌⊎◌, inl, inr, ◌≢◌, ℕ, List, length, Result, Ok, Err, IsErr, ◌∙◌}
use Rattle.std.proofs.lemmas.Result.{on_err_weaker, on_ok_weaker}
use Rattle.disk_model.specs.Files.{reading}
use Rattle.disk_model.specs.World.{World, FileFailed, IsQuiet}
use Rattle.disk_model.proofs.Laws.{run_on, run_more, file_failed_after}
use Rattle.file_device.specs.File.{file_of, Gives}
use Rattle.file_device.specs.Calls.{Calls, Looks, Wrote}
use Rattle.file_device.specs.Pairs.{BothCalls, Copied}
use Rattle.file_device.proofs.Laws.{same_file, quiet_on, calls_err}

-- calls on the first of them
pub both_first : {T E : Type 0} {f : ℕ} {a b : World} {result : Result T E} (g : ℕ) → Calls f a b result → BothCalls f g a b result
both_first {T} {E} {f} {a} {b} {result} g calls = record {
  run = run_more (record { files = λ h is. inl is; reads = λ h is. inl is; names = λ name none. none; text = λ none. none; wire = λ none. none }) calls.run;
  cause = on_err_weaker result (λ (fails : FileFailed f a b). inl fails) calls.cause;
  quiet = calls.quiet;
}

-- and on the second
pub both_second : {T E : Type 0} {g : ℕ} {a b : World} {result : Result T E} (f : ℕ) → Calls g a b result → BothCalls f g a b result
both_second {T} {E} {g} {a} {b} {result} f calls = record {
  run = run_more (record { files = λ h is. inr is; reads = λ h is. inr is; names = λ name none. none; text = λ none. none; wire = λ none. none }) calls.run;
  cause = on_err_weaker result (λ (fails : FileFailed g a b). inr fails) calls.cause;
  quiet = calls.quiet;
}

-- one after the other
pub both_on : {T E U F : Type 0} {f g : ℕ} {a b c : World} {value : U} {result : Result T E} → BothCalls {T = U} {E = F} f g a b (Ok value) → BothCalls f g b c result → BothCalls f g a c result
both_on {T} {E} {U} {F} {f} {g} {a} {b} {c} {value} {result} first second = record {
  run = run_on first.run second.run;
  cause = on_err_weaker result later second.cause;
  quiet = on_ok_weaker result (λ (quiet : IsQuiet b c). quiet_on first.quiet quiet) second.quiet;
}
  where
    later : FileFailed f b c ⊎ FileFailed g b c → FileFailed f a c ⊎ FileFailed g a c
    later (inl fails) = inl (file_failed_after first.run fails)
    later (inr fails) = inr (file_failed_after first.run fails)

-- ---- a copy

pub copy_stopped : {T E U F : Type 0} {from : ℕ} {a b : World} {error : F} {result : Result T E} (at to place n : ℕ) → IsErr result → Looks {T = U} {E = F} from a b (Err error) → Copied from at to place n a b result
copy_stopped at to place n failed looks = record {
  calls = both_first to (calls_err failed looks.calls);
  same = looks.same;
  wrote = inl (failed, same_file to looks.reads (λ none. none));
}

pub copy_done : {T E U F : Type 0} {from to place : ℕ} {bytes : List ℕ} {a b c : World} {value : U} {result : Result T E} (at n : ℕ) → from ≢ to → Gives (file_of a from) (λ d. bytes ≡ reading d at n) → length bytes ≡ n
    → Looks {T = U} {E = F} from a b (Ok value) → Wrote to place bytes b c result → Copied from at to place n a c result
copy_done {T} {E} {U} {F} {from} {to} {place} {bytes} {a} {b} at n apart gives long looks wrote = record {
  calls = both_on (both_first to looks.calls) (both_second from wrote.puts.calls);
  same = same_file from wrote.puts.writes apart ∙ looks.same;
  wrote = inr (record { between = b; bytes = bytes; read = gives; long = long; reads = looks.reads; write = wrote });
}
