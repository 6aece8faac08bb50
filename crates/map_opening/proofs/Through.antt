-- Checks that an opening goes through, one behind another.
use Rattle.std.proofs.Common.{◌≡◌, ℕ, ◌+◌, ◌-◌, ◌<◌, ◌≤◌, suc, zero, List, [], ◌∷◌, ◌++◌, map, None, Result, Ok, Err, false, IsTrue, refl, sym, ap, subst, ◌∙◌, arith}
use Rattle.std.specs.Prelude.{flat_map}
use Rattle.std.specs.List.{range_with_len}
use Rattle.std.specs.Result.{IsErrAnd}
use Rattle.std.proofs.lemmas.Grind.{flat_map-append}
use Rattle.std.proofs.lemmas.List.{append-nil}
use Rattle.disk_model.specs.World.{World}
use Rattle.disk_model.proofs.Laws.{run_on, rose_after}
use Rattle.file_device.specs.Calls.{Looks}
use Rattle.file_device.proofs.Laws.{quiet_on}
use Rattle.qc_layout.specs.Opening.{Check, each_below}
use Rattle.cluster_pool.specs.Pool.{Pool}
use Rattle.qc_alloc.specs.Allocator.{Allocator}
use Rattle.qc_alloc.specs.Tables.{Knows, Gone, claimed_after}
use Rattle.qc_alloc.proofs.Passing.{range-append, stops_on, stops_more}
use Rattle.qc_alloc.proofs.Claiming.{kept_same, kept_on, gone_none, gone_on}
use Rattle.qc_alloc.proofs.Reading.{seen_back}
use Rattle.map_opening.specs.declared.refusals.MapRefusal.{MapRefusal}
use Rattle.map_opening.specs.declared.refusals.MapRefusal.TheVariants.{Failed}
use Rattle.map_opening.specs.Refusals.{rule_of}
use Rattle.map_opening.specs.Opening.{Went, GoesThrough, Claims, each_from}

-- a world of no files
nowhere : World
nowhere = record {
  tells = false;
  outcomes = false;
  found = λ name. None;
  given = 0;
  named = λ f. [];
  seen = λ f. [];
  now = 0;
  past = λ k f. [];
  prints = false;
  printed = [];
  faults = record { shared = 0; reads = λ f. 0; writes = λ f. 0; prints = 0 };
  wire = record { tells = false; turns = false; takings = []; sent = λ k. []; hung_up = λ k. None; clock = []; faults = 0 };
}

pub claims_bits : {T : Type 0} {checks : List Check} {a b : Allocator} {result : Result T MapRefusal} → Claims checks a b result → b.pool.bits ≡ a.pool.bits
claims_bits claims = ap (λ (p : Pool). p.bits) (claims 0 nowhere).kept.is

-- ---- how far it came

went_on : {T : Type 0} (p q : Pool) (file before : List ℕ) (xs ys : List Check) (result : Result T MapRefusal) → Gone file before xs p → Went file (claimed_after before xs) ys q result → Went file before (xs ++ ys) q result
went_on p q file before xs ys (Ok value) one other = gone_on p q file before xs ys one other
went_on p q file before xs ys (Err why) one other = λ some. stops_on file before xs ys (rule_of why) one.passes (other some)

went_as : {T : Type 0} (p : Pool) (file before : List ℕ) (xs ys : List Check) (result : Result T MapRefusal) → xs ≡ ys → Went file before xs p result → Went file before ys p result
went_as p file before xs ys result e is = let P : List Check → Type 0 = λ cs. Went file before cs p result in subst P e is

-- ---- a refusal that is handed on

err_same : {T : Type 0} {why : MapRefusal} (result : Result T MapRefusal) → IsErrAnd result (λ x. x ≡ why) → result ≡ Err why
err_same (Ok value) none = absurd none
err_same (Err x) same = ap Err same

-- ---- what is gone through

-- a read that went well
pub through_read : {T U E : Type 0} {f : ℕ} {v w : World} {found : U} (a : Allocator) (value : T) → Looks {T = U} {E = E} f v w (Ok found) → GoesThrough f (λ seen. []) a a v w (Ok value)
through_read {T} {U} {E} {f} {v} {w} a value looks = record {
  same = (refl, refl);
  kept = kept_same a.pool a.pool refl;
  run = looks.reads;
  cause = λ failed. absurd (cc);
  quiet = λ other. looks.calls.quiet;
  went = λ told claimed knows. gone_none a.pool (v.seen f) claimed knows;
}

-- one that failed
pub through_failed : {T U E : Type 0} {f : ℕ} {v w : World} {error : E} (checks : List ℕ → List Check) (a : Allocator) (result : Result T MapRefusal) → IsErrAnd result (λ x. x ≡ Failed) → Looks {T = U} {E = E} f v w (Err error)
    → GoesThrough f checks a a v w result
through_failed {T} {U} {E} {f} {v} {w} checks a result handed looks =
    let P : Result T MapRefusal → Type 0 = λ r. GoesThrough f checks a a v w r in
    subst P (sym (err_same result handed)) (record {
      same = (refl, refl);
      kept = kept_same a.pool a.pool refl;
      run = looks.reads;
      cause = λ failed. looks.cause;
      quiet = λ other. absurd (other refl);
      went = λ told claimed knows some. absurd (some refl);
    })

-- one after another
pub through_on : {T U : Type 0} {f : ℕ} {xs ys : List ℕ → List Check} {a b c : Allocator} {u v w : World} {value : U} {result : Result T MapRefusal}
    → GoesThrough f xs a b u v (Ok value) → GoesThrough f ys b c v w result → GoesThrough f (λ seen. xs seen ++ ys seen) a c u w result
through_on {T} {U} {f} {xs} {ys} {a} {b} {c} {u} {v} {w} {value} {result} one other = record {
  same = (other.same.0 ∙ one.same.0, other.same.1 ∙ one.same.1);
  kept = kept_on a.pool b.pool c.pool one.kept other.kept;
  run = run_on one.run other.run;
  cause = λ failed.
      let rose = other.cause failed in
      (rose_after u.faults.shared v.faults.shared w.faults.shared one.run.goes.counts.shared rose.0, rose_after (u.faults.reads f) (v.faults.reads f) (w.faults.reads f) (one.run.goes.counts.reads f) rose.1);
  quiet = λ none. quiet_on (one.quiet (λ failed. absurd (cc))) (other.quiet none);
  went = λ told claimed knows.
      let X : List ℕ → Type 0 = λ file. (before : List ℕ) → Knows b.pool file before → Went file before (ys file) c.pool result in
      let had : Gone (u.seen f) claimed (xs (u.seen f)) b.pool = one.went told claimed knows in
      let later : X (u.seen f) = seen_back X one.run other.went told in
      went_on b.pool c.pool (u.seen f) claimed (xs (u.seen f)) (ys (u.seen f)) result had (later _ had.knows);
}

-- the same checks, by another name
pub through_as : {T : Type 0} {f : ℕ} {xs : List ℕ → List Check} (ys : List ℕ → List Check) {a b : Allocator} {v w : World} {result : Result T MapRefusal}
    → (IsTrue v.tells → xs (v.seen f) ≡ ys (v.seen f)) → GoesThrough f xs a b v w result → GoesThrough f ys a b v w result
through_as {T} {f} {xs} ys {a} {b} {v} {w} {result} e is = record {
  same = is.same;
  kept = is.kept;
  run = is.run;
  cause = is.cause;
  quiet = is.quiet;
  went = λ told claimed knows. went_as b.pool (v.seen f) claimed _ _ result (e told) (is.went told claimed knows);
}

pub through_same : {T : Type 0} {f : ℕ} {xs : List ℕ → List Check} (ys : List ℕ → List Check) {a b : Allocator} {v w : World} {result : Result T MapRefusal}
    → ((seen : List ℕ) → xs seen ≡ ys seen) → GoesThrough f xs a b v w result → GoesThrough f ys a b v w result
through_same {T} {f} ys {v = v} e is = through_as ys (λ told. e (v.seen f)) is

-- a refusal that is handed on, with checks behind it that weren't come to
pub through_stop : {T U : Type 0} {f : ℕ} {xs : List ℕ → List Check} (rest : List ℕ → List Check) {a b : Allocator} {v w : World} {why : MapRefusal} (result : Result T MapRefusal) → IsErrAnd result (λ x. x ≡ why)
    → GoesThrough {T = U} f xs a b v w (Err why) → GoesThrough f (λ seen. xs seen ++ rest seen) a b v w result
through_stop {T} {U} {f} {xs} rest {a} {b} {v} {w} {why} result handed is =
    let P : Result T MapRefusal → Type 0 = λ r. GoesThrough f (λ seen. xs seen ++ rest seen) a b v w r in
    subst P (sym (err_same result handed)) (record {
      same = is.same;
      kept = is.kept;
      run = is.run;
      cause = λ failed. let same : why ≡ Failed = cc in is.cause (ap Err same);
      quiet = λ other. is.quiet (λ failed. let same : why ≡ Failed = cc in other (ap Err same));
      went = λ told claimed knows some. stops_more (v.seen f) claimed (xs (v.seen f)) (rest (v.seen f)) (rule_of why) (is.went told claimed knows some);
    })

-- ---- entries in a row

below_append : (m n : ℕ) (g : ℕ → List Check) → each_below (m + n) g ≡ each_below m g ++ each_from m n g
below_append m n g =
    let e : 0 + m ≡ m = omega arith in
    ap (λ (ks : List ℕ). flat_map g ks) (range-append 0 m n) ∙ (flat_map-append g (range_with_len 0 m) (range_with_len (0 + m) n) ∙ ap (λ (a : ℕ). each_below m g ++ each_from a n g) e)

from_one : (a : ℕ) (g : ℕ → List Check) → g a ≡ each_from a 1 g
from_one a g = sym (append-nil (g a))

-- the same entries, counted from another place
pub from_same : (a b n : ℕ) (g h : ℕ → List Check) → ((k : ℕ) → k < n → g (a + k) ≡ h (b + k)) → each_from a n g ≡ each_from b n h
from_same a b zero g h same = refl
from_same a b (suc n) g h same =
    let first : g a ≡ h b = ap g (omega arith) ∙ (same 0 (omega arith) ∙ ap h (omega arith)) in
    let rest : each_from (a + 1) n g ≡ each_from (b + 1) n h = from_same (a + 1) (b + 1) n g h (λ k low. ap g (omega arith) ∙ (same (k + 1) (omega (arith, low)) ∙ ap h (omega arith))) in
    ap (λ (cs : List Check). cs ++ each_from (a + 1) n g) first ∙ ap (λ (cs : List Check). h b ++ cs) rest

pub mapped_from : (h : ℕ → Check) (a b n : ℕ) → each_from b n (λ k. h (a + k) ∷ []) ≡ map h (range_with_len (a + b) n)
mapped_from h a b zero = refl
mapped_from h a b (suc n) =
    let e : a + (b + 1) ≡ a + b + 1 = omega arith in
    ap (λ (cs : List Check). h (a + b) ∷ cs) (mapped_from h a (b + 1) n ∙ ap (λ (m : ℕ). map h (range_with_len m n)) e)

-- n more of them
pub through_next : {T : Type 0} {f : ℕ} (g : List ℕ → ℕ → List Check) (m n : ℕ) {a b c : Allocator} {u v w : World} {value other : T}
    → GoesThrough f (λ seen. each_below m (g seen)) a b u v (Ok value) → GoesThrough f (λ seen. each_from m n (g seen)) b c v w (Ok other)
    → GoesThrough f (λ seen. each_below (m + n) (g seen)) a c u w (Ok other)
through_next g m n one next =
    through_same (λ seen. each_below (m + n) (g seen)) (λ seen. sym (below_append m n (g seen))) (through_on one next)

-- one of the next n is refused
pub through_break : {T U V : Type 0} {f : ℕ} (g : List ℕ → ℕ → List Check) (m n all : ℕ) {a b c : Allocator} {u v w : World} {value : V} {why : MapRefusal} (result : Result T MapRefusal) → m + n ≤ all → IsErrAnd result (λ x. x ≡ why)
    → GoesThrough f (λ seen. each_below m (g seen)) a b u v (Ok value) → GoesThrough {T = U} f (λ seen. each_from m n (g seen)) b c v w (Err why)
    → GoesThrough f (λ seen. each_below all (g seen)) a c u w result
through_break {T} {U} {V} {f} g m n all {a} {b} {c} {u} {v} {w} {value} {why} result within handed one next =
    let rest : List ℕ → List Check = λ seen. each_from (m + n) (all - (m + n)) (g seen) in
    let e : m + n + (all - (m + n)) ≡ all = omega arith in
    let both : GoesThrough {T = U} f (λ seen. each_below m (g seen) ++ each_from m n (g seen)) a c u w (Err why) = through_on one next in
    let whole = λ (seen : List ℕ). ap (λ (cs : List Check). cs ++ rest seen) (sym (below_append m n (g seen))) ∙ (sym (below_append (m + n) (all - (m + n)) (g seen)) ∙ ap (λ (k : ℕ). each_below k (g seen)) e) in
    through_same (λ seen. each_below all (g seen)) whole (through_stop rest result handed both)

-- one more
pub through_step : {T : Type 0} {f : ℕ} (g : List ℕ → ℕ → List Check) (m : ℕ) {a b c : Allocator} {u v w : World} {value other : T}
    → GoesThrough f (λ seen. each_below m (g seen)) a b u v (Ok value) → GoesThrough f (λ seen. g seen m) b c v w (Ok other)
    → GoesThrough f (λ seen. each_below (m + 1) (g seen)) a c u w (Ok other)
through_step g m one next = through_next g m 1 one (through_same (λ seen. each_from m 1 (g seen)) (λ seen. from_one m (g seen)) next)

-- the next is refused
pub through_end : {T U V : Type 0} {f : ℕ} (g : List ℕ → ℕ → List Check) (m all : ℕ) {a b c : Allocator} {u v w : World} {value : V} {why : MapRefusal} (result : Result T MapRefusal) → m < all → IsErrAnd result (λ x. x ≡ why)
    → GoesThrough f (λ seen. each_below m (g seen)) a b u v (Ok value) → GoesThrough {T = U} f (λ seen. g seen m) b c v w (Err why)
    → GoesThrough f (λ seen. each_below all (g seen)) a c u w result
through_end g m all result below handed one next =
    through_break g m 1 all result (omega (arith, below)) handed one (through_same (λ seen. each_from m 1 (g seen)) (λ seen. from_one m (g seen)) next)
