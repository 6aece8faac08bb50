-- Calls that read a file, one after another, and what is known of its bytes.
use Rattle.std.proofs.Common.{◌≡◌, ◌≢◌, ℕ, List, IsTrue, None, Result, Ok, Err, IfErr, refl, ap, sym, subst, ◌∙◌}
use Rattle.std.specs.Result.{IsErrAnd}
use Rattle.disk_model.specs.World.{World, Runs, reads_of, ReadCause, IsQuiet}
use Rattle.disk_model.proofs.Laws.{run_on, stay, rose_after}
use Rattle.file_device.specs.Calls.{Looks}
use Rattle.file_device.proofs.Laws.{quiet_stay, quiet_on}
use Rattle.qc_alloc.specs.declared.refusals.ClusterRefusal.{ClusterRefusal}
use Rattle.qc_alloc.specs.declared.refusals.ClusterRefusal.TheVariants.{Failed, Memory}
use Rattle.qc_alloc.specs.Opening.{rule_of}
use Rattle.qc_alloc.specs.Tables.{Reads}

-- what is known of the file, back to the start of the calls and on to their end
pub seen_back : {f : ℕ} {a b : World} (X : List ℕ → Type 0) → Runs (reads_of f) a b → (IsTrue b.tells → X (b.seen f)) → IsTrue a.tells → X (a.seen f)
seen_back {f} {a} {b} X run later told = subst X (run.files f (λ none. none)).seen (later (subst IsTrue (sym run.goes.tells) told))

pub seen_on : {f : ℕ} {a b : World} (X : List ℕ → Type 0) → Runs (reads_of f) a b → (IsTrue a.tells → X (a.seen f)) → IsTrue b.tells → X (b.seen f)
seen_on {f} {a} {b} X run before told = subst X (sym (run.files f (λ none. none)).seen) (before (subst IsTrue run.goes.tells told))

-- calls one after another
pub reads_on : {T : Type 0} {f : ℕ} {a b c : World} {result : Result T ClusterRefusal} → Runs (reads_of f) a b → IsQuiet a b → Reads f b c result → Reads f a c result
reads_on {T} {f} {a} {b} {c} {result} run quiet second = record {
  run = run_on run second.run;
  cause = λ failed.
      let rose = second.cause failed in
      (rose_after a.faults.shared b.faults.shared c.faults.shared run.goes.counts.shared rose.0, rose_after (a.faults.reads f) (b.faults.reads f) (c.faults.reads f) (run.goes.counts.reads f) rose.1);
  quiet = λ other. quiet_on quiet (second.quiet other);
}

-- after calls that went well
pub reads_after : {T : Type 0} {f : ℕ} {a b : World} (result : Result T ClusterRefusal) → Runs (reads_of f) a b → IsQuiet a b → (result ≡ Err Failed → ⊥) → Reads f a b result
reads_after result run quiet other = record { run = run; cause = λ failed. absurd (other failed); quiet = λ not. quiet }

-- no call
pub reads_none : {T : Type 0} (f : ℕ) (a : World) (result : Result T ClusterRefusal) → (result ≡ Err Failed → ⊥) → Reads f a a result
reads_none f a result other = reads_after result (stay (reads_of f) a) (quiet_stay a) other

failed_is : {T : Type 0} (result : Result T ClusterRefusal) → IsErrAnd result (λ x. x ≡ Failed) → result ≡ Err Failed
failed_is (Ok value) none = absurd none
failed_is (Err why) failed = ap Err failed

-- a call on the file that failed
pub reads_failed : {T U E : Type 0} {f : ℕ} {a b : World} {error : E} (result : Result T ClusterRefusal) → Looks {T = U} {E = E} f a b (Err error) → IsErrAnd result (λ x. x ≡ Failed) → Reads f a b result
reads_failed result looks failed = record { run = looks.reads; cause = λ is. looks.cause; quiet = λ other. absurd (other (failed_is result failed)) }

-- a refusal by a rule is no failure
pub not_failed : {T : Type 0} (result : Result T ClusterRefusal) → IfErr result (λ why. rule_of why ≢ None) → result ≡ Err Failed → ⊥
not_failed (Ok value) rule failed = absurd (cc)
not_failed (Err why) rule failed = let same : why ≡ Failed = cc in let P : ClusterRefusal → Type 0 = λ x. rule_of x ≢ None in subst P same rule refl

-- a failure that is handed on
pub reads_handed : {T U : Type 0} {f : ℕ} {a b : World} {error : ClusterRefusal} (result : Result T ClusterRefusal) → Reads {T = U} f a b (Err error) → IsErrAnd result (λ x. x ≡ error) → Reads f a b result
reads_handed {T} {U} {f} {a} {b} {error} result first handed = record {
  run = first.run;
  cause = λ failed. first.cause (ap Err (by_result result handed failed));
  quiet = λ other. first.quiet (λ failed. let e : error ≡ Failed = cc in other (by_error result handed e));
}
  where
    by_result : (r : Result T ClusterRefusal) → IsErrAnd r (λ x. x ≡ error) → r ≡ Err Failed → error ≡ Failed
    by_result (Ok value) none failed = absurd none
    by_result (Err x) same failed = let e : x ≡ Failed = cc in sym same ∙ e

    by_error : (r : Result T ClusterRefusal) → IsErrAnd r (λ x. x ≡ error) → error ≡ Failed → r ≡ Err Failed
    by_error (Ok value) none is = absurd none
    by_error (Err x) same is = ap Err (same ∙ is)

pub not_memory : {T : Type 0} (result : Result T ClusterRefusal) → IsErrAnd result (λ x. x ≡ Memory) → result ≡ Err Failed → ⊥
not_memory (Ok value) none failed = absurd none
not_memory (Err why) memory failed = cc

-- a failure's cause, as the device tells it
pub cause_of : {T : Type 0} {f : ℕ} {a b : World} (result : Result T ClusterRefusal) → Reads f a b result → result ≡ Err Failed → ReadCause a b f result
cause_of (Ok value) reads failed = tt
cause_of (Err why) reads failed = reads.cause failed

pub rule_handed : {T : Type 0} (why : ClusterRefusal) (result : Result T ClusterRefusal) → IsErrAnd result (λ x. x ≡ why) → rule_of why ≢ None → IfErr result (λ x. rule_of x ≢ None)
rule_handed why (Ok value) none some = absurd none
rule_handed why (Err x) same some = let P : ClusterRefusal → Type 0 = λ y. rule_of y ≢ None in subst P (sym same) some
