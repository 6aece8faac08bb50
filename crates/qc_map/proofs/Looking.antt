-- Runs of calls that read a file, none among them, and failures that are handed on.
use Rattle.std.proofs.Common.{ℕ, Result, Ok, Err}
use Rattle.std.specs.Result.{IsErrAnd}
use Rattle.disk_model.specs.World.{World, reads_of}
use Rattle.disk_model.proofs.Laws.{stay}
use Rattle.file_device.specs.Calls.{Looks}
use Rattle.file_device.proofs.Laws.{look, looks_on, quiet_stay}

-- no call at all
pub looks_none : {T E : Type 0} (f : ℕ) (a : World) (value : T) → Looks {T = T} {E = E} f a a (Ok value)
looks_none f a value = look (stay (reads_of f) a) tt (quiet_stay a)

-- another value
pub looks_ok : {T U E F : Type 0} {f : ℕ} {a b : World} {value : U} (other : T) → Looks {T = U} {E = F} f a b (Ok value) → Looks {T = T} {E = E} f a b (Ok other)
looks_ok other first = look first.reads tt first.calls.quiet

-- a failure behind calls that ended well
pub looks_failed : {T U V E F G : Type 0} {f : ℕ} {a b c : World} {value : U} {e : F} (result : Result T E) (P : E → Type 0) → Looks {T = U} {E = G} f a b (Ok value) → Looks {T = V} {E = F} f b c (Err e) → IsErrAnd result P
    → Looks f a c result
looks_failed {a = a} {c = c} (Ok value) P first second none = absurd none
looks_failed {T} {U} {V} {E} {F} {G} {f} {a} {b} {c} (Err x) P first second is = let both = looks_on {T = V} {E = F} first second in look both.reads both.cause tt
