-- How runs of calls that make a file go on.
use Rattle.std.proofs.Common.{Some, ◌≡◌, ⊎_elim, ℕ, List, [], ◌∷◌, IsTrue, Result, Ok, Err, MatchResult, OnOk, IfOk, IfErr, sym, ◌∙◌, subst, ◌⊎◌, inl, inr, ◌<◌, None}
use Rattle.disk_model.specs.declared.depot.Made.{Made}
use Rattle.disk_model.specs.declared.depot.Made.TheVariants.{New, Exists}
use Rattle.disk_model.specs.Files.{IsOutcome}
use Rattle.disk_model.specs.World.{World, versions, Holds, EachNow, Runs, nothing, making, IsNameless, MayMake, IsMade, IsQuiet, FindCause}
use Rattle.disk_model.proofs.Laws.{run_on, run_more, nothing_within, writes_within_making, given_on, below_on, settled}
use Rattle.file_device.specs.File.{Is, file_of}
use Rattle.file_device.specs.Calls.{Puts}
use Rattle.file_device.specs.Names.{HasCreated, HasBegun, IsMadeEmpty, MakingFailed}
use Rattle.file_device.proofs.Laws.{has, quiet_on}

-- ---- the depot's call

-- a file that was made, or begun, is empty in reads and in each crash
made_holds : {name : List ℕ} {f : ℕ} {a b : World} → MayMake name f a b → Holds f (λ c. c ≡ []) (λ c. c ≡ []) b
made_holds {name} {f} {a} {b} call = record { seen = λ told. call.empty (subst IsTrue call.run.goes.tells told); each = each }
  where
    each : EachNow b f (λ c. c ≡ [])
    each c left = ⊎_elim
        (λ (none : versions b f ≡ []). absurd ((subst (λ (vs : List (List ℕ)). IsOutcome vs c) none left).sectors 0))
        (λ (made : versions b f ≡ [] ∷ []). settled [] c (subst (λ (vs : List (List ℕ)). IsOutcome vs c) made left))
        call.versions

made_by : (made : Made) (name : List ℕ) (a b : World) → IsMade made name a b → IsQuiet a b → IsMadeEmpty made name a b
made_by (New file) name a b is quiet = record {
  run = is.call.run;
  fresh = is.call.nameless;
  named = is.call.named;
  given = is.given;
  was_free = is.was_free;
  found = is.is_found;
  holds = has (made_holds is.call);
  quiet = quiet;
}
made_by Exists name a b is quiet = (is.0, is.1, quiet)

pub made_empty : {E : Type 0} (result : Result Made E) (name : List ℕ) (a b : World) → MatchResult result (λ made. IsMade made name a b) (λ _. (f : ℕ) × MayMake name f a b)
    → OnOk result (IsQuiet a b) → IfOk result (λ made. IsMadeEmpty made name a b)
made_empty (Ok made) name a b is quiet = made_by made name a b is quiet
made_empty (Err error) name a b is quiet = tt

pub making_failed : {E : Type 0} (result : Result Made E) (name : List ℕ) (a b : World) → MatchResult result (λ made. IsMade made name a b) (λ _. (f : ℕ) × MayMake name f a b)
    → FindCause a b result → IfErr result (λ _. MakingFailed name a b)
making_failed (Ok made) name a b is cause = tt
making_failed (Err error) name a b is cause = record { rose = cause; file = is.0; begun = record { run = is.1.run; fresh = is.1.nameless; named = is.1.named; found = is.1.found } }

-- ---- before it and after it

-- a file that is nameless after a look for names was so before it
nameless_before : {f : ℕ} {a b : World} → Runs nothing a b → (IsTrue b.tells → IsNameless b f) → IsTrue a.tells → IsNameless a f
nameless_before look is told name found = is (subst IsTrue (sym look.goes.tells) told) name (look.found name (λ no. no) ∙ found)

-- a number that is a name's after a look for names was so before it
named_before : {name : List ℕ} {a b : World} (f : ℕ) → Runs nothing a b → (f < b.given → b.named f ≡ name) → f < a.given → a.named f ≡ name
named_before f look is low = sym (look.goes.named f low) ∙ is (below_on f look low)

-- a look for names before it
pub created_after : {P : List ℕ → Type 0} {name : List ℕ} {f : ℕ} {a b c : World} → Runs nothing a b → IsQuiet a b → HasCreated P name f b c → HasCreated P name f a c
created_after {P} {name} {f} {a} {b} {c} look quiet is = record {
  run = run_on (run_more (nothing_within (making name f)) look) is.run;
  fresh = nameless_before look is.fresh;
  named = named_before f look is.named;
  given = is.given;
  was_free = λ told. sym (look.found name (λ no. no)) ∙ is.was_free (subst IsTrue (sym look.goes.tells) told);
  found = λ told. is.found (subst IsTrue (sym look.goes.tells) told);
  holds = is.holds;
  quiet = quiet_on quiet is.quiet;
}

pub begun_after : {name : List ℕ} {f : ℕ} {a b c : World} → Runs nothing a b → HasBegun name f b c → HasBegun name f a c
begun_after {name} {f} {a} {b} {c} look is = record {
  run = run_on (run_more (nothing_within (making name f)) look) is.run;
  fresh = nameless_before look is.fresh;
  named = named_before f look is.named;
  found = λ told. ⊎_elim
      (λ (same : c.found name ≡ b.found name). inl (same ∙ look.found name (λ no. no)))
      (λ (new : (b.found name ≡ None) × (c.found name ≡ Some f)). inr (sym (look.found name (λ no. no)) ∙ new.0, new.1))
      (is.found (subst IsTrue (sym look.goes.tells) told));
}

-- writes and syncs of the new file after it, that ended well
pub created_on : {T E : Type 0} {P Q : List ℕ → Type 0} {name : List ℕ} {f : ℕ} {a b c : World} {value : T}
    → HasCreated P name f a b → Puts {T = T} {E = E} f b c (Ok value) → (Is P (file_of b f) → Is Q (file_of c f)) → HasCreated Q name f a c
created_on {T} {E} {P} {Q} {name} {f} {a} {b} {c} {value} is puts makes = record {
  run = run_on is.run (run_more (writes_within_making name f) puts.writes);
  fresh = is.fresh;
  named = is.named;
  given = given_on puts.writes is.given;
  was_free = is.was_free;
  found = λ told. puts.writes.found name (λ no. no) ∙ is.found told;
  holds = makes is.holds;
  quiet = quiet_on is.quiet puts.calls.quiet;
}

-- and whatever they answered
pub begun_on : {T E : Type 0} {P : List ℕ → Type 0} {name : List ℕ} {f : ℕ} {a b c : World} {result : Result T E} → HasCreated P name f a b → Puts f b c result → HasBegun name f a c
begun_on {T} {E} {P} {name} {f} is puts = record { run = run_on is.run (run_more (writes_within_making name f) puts.writes); fresh = is.fresh; named = is.named; found = λ told. inr (is.was_free told, puts.writes.found name (λ no. no) ∙ is.found told) }

-- a file with P has what follows from it
pub created_more : {P Q : List ℕ → Type 0} {name : List ℕ} {f : ℕ} {a b : World} → ((file : List ℕ) → P file → Q file) → HasCreated P name f a b → HasCreated Q name f a b
created_more {P} {Q} more is = record {
  run = is.run;
  fresh = is.fresh;
  named = is.named;
  given = is.given;
  was_free = is.was_free;
  found = is.found;
  holds = record { seen = λ told. more _ (is.holds.seen told); each = λ file left. more file (is.holds.each file left) };
  quiet = is.quiet;
}
