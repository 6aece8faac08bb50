-- How runs of calls on one file go on.
use Rattle.std.proofs.Common.{◌≡◌, ◌⊎◌, inl, inr, ℕ, ◌+◌, ◌*◌, ◌≤◌, List, [], ◌∷◌, length, IsTrue, Result, Ok, Err, OnOk, OnErr, IfOk, IsErr, refl, sym, ap, ◌∙◌, subst}
use Rattle.std.proofs.lemmas.Result.{on_err_weaker, on_ok_weaker, IfOk-weaker, IfOk-from_err}
use Rattle.disk_model.specs.Files.{IsOutcome, IsTorn, IsLatest, after_sync, overlay}
use Rattle.disk_model.specs.World.{World, versions, Parts, Runs, reads_of, writes_of, only_file, Writes, HasWritten, Syncs, HasSynced, ReadCause, WriteCause, Rose, Holds, Leads, EachSinceSync, FileFailed, IsQuiet}
use Rattle.disk_model.proofs.Laws.{run_on, stay, since_now, run_more, reads_within_file, writes_within_file, since_on, since_spared, spared, rose_after, file_failed_after, write_leads, sector_leads, sync_leads, synced_leads, synced_holds, sync_failed, sync_done, sync_on, IsMixed}
use Rattle.file_device.specs.File.{File, file_of, Gives, Has, Is, IsSettled}
use Rattle.file_device.specs.Calls.{Calls, Looks, Puts, Goes, Wrote, Synced}

-- ---- a file of a depot

same_parts : (f : ℕ) (a b : World) → b.tells ≡ a.tells → b.seen f ≡ a.seen f → versions b f ≡ versions a f → file_of b f ≡ file_of a f
unfolding file_of
same_parts f a b tells seen past = cc

-- a run that spares it leaves it the same
pub same_file : {parts : Parts} {a b : World} (f : ℕ) → Runs parts a b → (parts.files f → ⊥) → file_of b f ≡ file_of a f
same_file f run none = same_parts f _ _ run.goes.tells (run.files f none).seen (spared f run none)

-- so does a sync that changes nothing that a crash may leave
pub same_sync : {T E : Type 0} {f : ℕ} {a b : World} (result : Result T E) → Syncs f a b → OnErr result (versions b f ≡ versions a f) → OnErr result (file_of b f ≡ file_of a f)
same_sync {T} {E} {f} {a} {b} result call = on_err_weaker result same
  where
    same : versions b f ≡ versions a f → file_of b f ≡ file_of a f
    same kept = same_parts f a b call.run.goes.tells call.seen kept

-- what reads give, as a depot's clauses say it
pub gives : (w : World) (f : ℕ) (X : List ℕ → Type 0) → (IsTrue w.tells → X (w.seen f)) → Gives (file_of w f) X
unfolding file_of
gives w f X is = is

pub given : (w : World) (f : ℕ) (X : List ℕ → Type 0) → Gives (file_of w f) X → IsTrue w.tells → X (w.seen f)
unfolding file_of
given w f X is = is

-- what reads and crashes give, as laws of the depot say it
pub has : {w : World} {f : ℕ} {S P : List ℕ → Type 0} → Holds f S P w → Has S P (file_of w f)
unfolding file_of
has holds = record { seen = holds.seen; each = holds.each }

pub holds_of : {w : World} {f : ℕ} {S P : List ℕ → Type 0} → Has S P (file_of w f) → Holds f S P w
unfolding file_of
holds_of is = record { seen = is.seen; each = is.each }

-- ---- no count rose

pub quiet_stay : (w : World) → IsQuiet w w
quiet_stay w = record { shared = refl; reads = λ f. refl; writes = λ f. refl; prints = refl }

pub quiet_on : {a b c : World} → IsQuiet a b → IsQuiet b c → IsQuiet a c
quiet_on first second = record {
  shared = second.shared ∙ first.shared;
  reads = λ f. second.reads f ∙ first.reads f;
  writes = λ f. second.writes f ∙ first.writes f;
  prints = second.prints ∙ first.prints;
}

-- ---- calls on it

-- one run of calls after another that ended well
pub calls_on : {T E U F : Type 0} {f : ℕ} {a b c : World} {value : U} {result : Result T E} → Calls {T = U} {E = F} f a b (Ok value) → Calls f b c result → Calls f a c result
calls_on {T} {E} {U} {F} {f} {a} {b} {c} {value} {result} first second = record {
  run = run_on first.run second.run;
  cause = on_err_weaker result (λ (fails : FileFailed f b c). file_failed_after first.run fails) second.cause;
  quiet = on_ok_weaker result (λ (quiet : IsQuiet b c). quiet_on first.quiet quiet) second.quiet;
}

-- a failure is handed on
pub calls_err : {T E U F : Type 0} {f : ℕ} {a b : World} {error : F} {result : Result T E} → IsErr result → Calls {T = U} {E = F} f a b (Err error) → Calls f a b result
calls_err {T} {E} {U} {F} {f} {a} {b} {error} {result} failed first = record { run = first.run; cause = by_result result first.cause; quiet = by_error result failed }
  where
    by_result : (r : Result T E) → FileFailed f a b → OnErr r (FileFailed f a b)
    by_result (Ok value) fails = tt
    by_result (Err other) fails = fails

    by_error : (r : Result T E) → IsErr r → OnOk r (IsQuiet a b)
    by_error (Ok value) none = absurd (cc)
    by_error (Err other) is = tt

-- no call at all
pub calls_none : {T E : Type 0} (f : ℕ) (a : World) (value : T) → Calls {T = T} {E = E} f a a (Ok value)
calls_none f a value = record { run = stay (only_file f) a; cause = tt; quiet = quiet_stay a }

-- another value
pub calls_ok : {T E U F : Type 0} {f : ℕ} {a b : World} {value : U} (other : T) → Calls {T = U} {E = F} f a b (Ok value) → Calls {T = T} {E = E} f a b (Ok other)
calls_ok other first = record { run = first.run; cause = tt; quiet = first.quiet }

-- why a call on it failed, with a run before it
cause_after : {T E : Type 0} {parts : Parts} {a b : World} (c : World) (count : World → ℕ) (result : Result T E) → Runs parts a b → count a ≤ count b
    → OnErr result (Rose b.faults.shared c.faults.shared × Rose (count b) (count c)) → OnErr result (Rose a.faults.shared c.faults.shared × Rose (count a) (count c))
cause_after {T} {E} {parts} {a} {b} c count result run low =
    on_err_weaker result (λ (rose : Rose b.faults.shared c.faults.shared × Rose (count b) (count c)). (rose_after a.faults.shared b.faults.shared c.faults.shared run.goes.counts.shared rose.0, rose_after (count a) (count b) (count c) low rose.1))

-- ---- reads

-- calls that read it, as the depot says them
pub look : {T E : Type 0} {f : ℕ} {a b : World} {result : Result T E} → Runs (reads_of f) a b → ReadCause a b f result → OnOk result (IsQuiet a b) → Looks f a b result
look {T} {E} {f} {a} {b} {result} run cause quiet = record {
  calls = record {
    run = run_more (reads_within_file f) run;
    cause = on_err_weaker result (λ (rose : Rose a.faults.shared b.faults.shared × Rose (a.faults.reads f) (b.faults.reads f)). record { shared = rose.0; own = inl rose.1 }) cause;
    quiet = quiet;
  };
  reads = run;
  cause = cause;
  same = same_file f run (λ none. none);
}

-- one after the other
pub looks_on : {T E U F : Type 0} {f : ℕ} {a b c : World} {value : U} {result : Result T E} → Looks {T = U} {E = F} f a b (Ok value) → Looks f b c result → Looks f a c result
looks_on {T} {E} {U} {F} {f} {a} {b} {c} {value} {result} first second = record {
  calls = calls_on first.calls second.calls;
  reads = run_on first.reads second.reads;
  cause = cause_after c (λ w. w.faults.reads f) result first.reads (first.reads.goes.counts.reads f) second.cause;
  same = second.same ∙ first.same;
}

-- what reads give stays over reads
pub gives_on : {T E : Type 0} {f : ℕ} {a b : World} {result : Result T E} (X : List ℕ → Type 0) → Looks f a b result → Gives (file_of a f) X → Gives (file_of b f) X
gives_on {T} {E} {f} {a} {b} X looks is = subst (λ (file : File). Gives file X) (sym looks.same) is

pub gives_back : {T E : Type 0} {f : ℕ} {a b : World} {result : Result T E} (X : List ℕ → Type 0) → Looks f a b result → Gives (file_of b f) X → Gives (file_of a f) X
gives_back {T} {E} {f} {a} {b} X looks is = subst (λ (file : File). Gives file X) looks.same is

-- ---- writes and syncs

-- calls that write it, as the depot says them
pub put : {T E : Type 0} {f : ℕ} {a b : World} {result : Result T E} → Runs (writes_of f) a b → WriteCause a b f result → OnOk result (IsQuiet a b) → Puts f a b result
put {T} {E} {f} {a} {b} {result} run cause quiet = record {
  calls = record {
    run = run_more (writes_within_file f) run;
    cause = on_err_weaker result (λ (rose : Rose a.faults.shared b.faults.shared × Rose (a.faults.writes f) (b.faults.writes f)). record { shared = rose.0; own = inr rose.1 }) cause;
    quiet = quiet;
  };
  writes = run;
  cause = cause;
}

-- one after the other
pub puts_on : {T E U F : Type 0} {f : ℕ} {a b c : World} {value : U} {result : Result T E} → Puts {T = U} {E = F} f a b (Ok value) → Puts f b c result → Puts f a c result
puts_on {T} {E} {U} {F} {f} {a} {b} {c} {value} {result} first second = record {
  calls = calls_on first.calls second.calls;
  writes = run_on first.writes second.writes;
  cause = cause_after c (λ w. w.faults.writes f) result first.writes (first.writes.goes.counts.writes f) second.cause;
}

-- a failure is handed on
pub puts_err : {T E U F : Type 0} {f : ℕ} {a b : World} {error : F} {result : Result T E} → IsErr result → Puts {T = U} {E = F} f a b (Err error) → Puts f a b result
puts_err {T} {E} {U} {F} {f} {a} {b} {error} {result} failed first = record { calls = calls_err failed first.calls; writes = first.writes; cause = by_result result failed first.cause }
  where
    by_result : (r : Result T E) → IsErr r → Rose a.faults.shared b.faults.shared × Rose (a.faults.writes f) (b.faults.writes f) → WriteCause a b f r
    by_result (Ok value) none rose = absurd (cc)
    by_result (Err other) is rose = rose

-- ---- what it goes through

-- a file that is the same has the same versions
same_past : (f : ℕ) (a b : World) → file_of b f ≡ file_of a f → versions b f ≡ versions a f
unfolding file_of
same_past f a b same = ap (λ (file : File). file.past) same

-- what each crash now leaves
pub now_of : (R : List ℕ → Type 0) (f : ℕ) (w : World) → ((c : List ℕ) → IsOutcome (file_of w f).past c → R c) → (c : List ℕ) → IsOutcome (versions w f) c → R c
unfolding file_of
now_of R f w each = each

-- where all that is left is R
pub is_more : {S P R : List ℕ → Type 0} {file : File} → ((c : List ℕ) → S c → R c) → ((c : List ℕ) → P c → R c) → Has S P file → Is R file
is_more reads most is = record { seen = λ told. reads _ (is.seen told); each = λ c left. most c (is.each c left) }

-- calls that spare it, reads among them
pub goes_spared : {T E : Type 0} {parts : Parts} {f : ℕ} {a b : World} (result : Result T E) (I : File → Type 0) (R : List ℕ → Type 0) → (I (file_of a f) → (c : List ℕ) → IsOutcome (file_of a f).past c → R c) → Runs parts a b → (parts.files f → ⊥) → Goes f I R I (λ _. I) a b result
goes_spared {T} {E} {parts} {f} {a} {b} result I R each run none = record {
  since = λ is. since_spared f R run none (now_of R f a (each is));
  after = kept;
  done = by_result result;
}
  where
    kept : I (file_of a f) → I (file_of b f)
    kept is = subst I (sym (same_file f run none)) is

    by_result : (r : Result T E) → IfOk r (λ value. I (file_of a f) → I (file_of b f))
    by_result (Ok value) = kept
    by_result (Err error) = tt

-- one after the other, by what the first gives at Ok; the second may touch other files too
pub goes_on : {T E U F : Type 0} {parts : Parts} {f : ℕ} {I J : File → Type 0} {R : List ℕ → Type 0} {K : U → File → Type 0} {L : T → File → Type 0} {a b c : World} {value : U} {result : Result T E}
    → Goes {T = U} {E = F} f I R J K a b (Ok value) → Runs parts b c → Goes f (K value) R J L b c result → Goes f I R J L a c result
goes_on {T} {E} {U} {F} {parts} {f} {I} {J} {R} {K} {L} {a} {b} {c} {value} {result} first run second = record {
  since = λ is. since_on a.now f R run (first.since is) (second.since (first.done is));
  after = λ is. second.after (first.done is);
  done = IfOk-weaker result (λ v. K value (file_of b f) → L v (file_of c f)) (λ v. I (file_of a f) → L v (file_of c f)) (λ v from is. from (first.done is)) second.done;
}

-- a failure is handed on
pub goes_err : {T E U F : Type 0} {f : ℕ} {I J : File → Type 0} {R : List ℕ → Type 0} {K : U → File → Type 0} {L : T → File → Type 0} {a b : World} {error : F} {result : Result T E} → IsErr result
    → Goes {T = U} {E = F} f I R J K a b (Err error) → Goes {T = T} {E = E} f I R J L a b result
goes_err {T} {E} {U} {F} {f} {I} {J} {R} {K} {L} {a} {b} {error} {result} failed first = record { since = first.since; after = first.after; done = IfOk-from_err result (λ value. I (file_of a f) → L value (file_of b f)) failed }

-- more is asked at the start, or less at the end
pub goes_more : {T E : Type 0} {f : ℕ} {I J : File → Type 0} {R : List ℕ → Type 0} {K : T → File → Type 0} {a b : World} {result : Result T E} (H : File → Type 0) (S : List ℕ → Type 0) (M : File → Type 0) (L : T → File → Type 0)
    → (H (file_of a f) → I (file_of a f)) → ((c : List ℕ) → R c → S c) → (J (file_of b f) → M (file_of b f)) → ((value : T) → K value (file_of b f) → L value (file_of b f)) → Goes f I R J K a b result → Goes f H S M L a b result
goes_more {T} {E} {f} {I} {J} {R} {K} {a} {b} {result} H S M L from more less last goes = record {
  since = λ is k low high c left. more c (goes.since (from is) k low high c left);
  after = λ is. less (goes.after (from is));
  done = IfOk-weaker result (λ v. I (file_of a f) → K v (file_of b f)) (λ v. H (file_of a f) → L v (file_of b f)) (λ v to is. last v (to (from is))) goes.done;
}

-- from what is known at the start
pub goes_from : {T E : Type 0} {f : ℕ} {I J H : File → Type 0} {R : List ℕ → Type 0} {K : T → File → Type 0} {a b : World} {result : Result T E} → (H (file_of a f) → I (file_of a f)) → Goes f I R J K a b result → Goes f H R J K a b result
goes_from {T} {E} {f} {I} {J} {H} {R} {K} {a} {b} {result} from goes = goes_more H R J K from (λ c is. is) (λ is. is) (λ value is. is) goes

-- an answer that is no failure
pub goes_ok : {T E U F : Type 0} {f : ℕ} {I J : File → Type 0} {R : List ℕ → Type 0} {K : U → File → Type 0} {L : T → File → Type 0} {a b : World} {value : U} (other : T) → (K value (file_of b f) → L other (file_of b f)) → Goes {T = U} {E = F} f I R J K a b (Ok value) → Goes {T = T} {E = E} f I R J L a b (Ok other)
goes_ok other last first = record { since = first.since; after = first.after; done = λ is. last (first.done is) }

-- no call at all: each crash now leaves R
pub goes_none : {T E : Type 0} {I : File → Type 0} {R : List ℕ → Type 0} {K : T → File → Type 0} (f : ℕ) (a : World) (value : T) → (I (file_of a f) → Is R (file_of a f)) → (I (file_of a f) → K value (file_of a f)) → Goes {T = T} {E = E} f I R (Is R) K a a (Ok value)
goes_none {T} {E} {I} {R} {K} f a value each last = record { since = λ is. since_now a f R (now_of R f a (each is).each); after = each; done = last }

-- ---- the depot's calls, by what they lead to

-- a call that leads on whatever it answers, and to more at Ok
pub goes_leads : {T E : Type 0} {f : ℕ} {a b : World} {result : Result T E} (S P R T' Q U V : List ℕ → Type 0) → Leads f S P R T' Q a b → OnOk result (Holds f S P a → Holds f U V b)
    → Goes f (Has S P) R (Has T' Q) (λ _. Has U V) a b result
goes_leads {T} {E} {f} {a} {b} {result} S P R T' Q U V leads done = record {
  since = λ is. leads.since (holds_of is);
  after = λ is. has (leads.after (holds_of is));
  done = by_result result done;
}
  where
    by_result : (r : Result T E) → OnOk r (Holds f S P a → Holds f U V b) → IfOk r (λ value. Has S P (file_of a f) → Has U V (file_of b f))
    by_result (Ok value) done = λ is. has (done (holds_of is))
    by_result (Err error) done = tt

-- what a write that was done gives
seen_on : (f : ℕ) (a b : World) (place : ℕ) (bytes : List ℕ) (S P Q U T' : List ℕ → Type 0) → Writes f place bytes a b → ((old : List ℕ) → S old → T' (overlay old place bytes) → U (overlay old place bytes)) → (Holds f S P a → Holds f T' Q b) → HasWritten f place bytes a b → Holds f S P a → Holds f U Q b
seen_on f a b place bytes S P Q U T' call makes after done holds = record {
  seen = λ told. let told_a : IsTrue a.tells = subst IsTrue call.run.goes.tells told in subst U (sym (done.seen told_a)) (makes (a.seen f) (holds.seen told_a) (subst T' (done.seen told_a) ((after holds).seen told)));
  each = (after holds).each;
}

-- a write
pub wrote : {T E : Type 0} {f place : ℕ} {bytes : List ℕ} {a b : World} {result : Result T E} (S P R T' Q U : List ℕ → Type 0) → Wrote f place bytes a b result
    → ((c : List ℕ) → P c → R c) → ((c : List ℕ) → Q c → R c)
    → ((old new : List ℕ) → S old → IsTorn place bytes old new → T' new × ((c d : List ℕ) → P c → IsTorn place bytes c d → IsMixed c new d → Q d))
    → ((old : List ℕ) → S old → T' (overlay old place bytes) → U (overlay old place bytes))
    → Goes f (Has S P) R (Has T' Q) (λ _. Has U Q) a b result
wrote {T} {E} {f} {place} {bytes} {a} {b} {result} S P R T' Q U is before after tears makes =
    let leads = write_leads S P R T' Q is.sound is.sound_on is.call before after (λ had torn. tears (a.seen f) (b.seen f) had torn) in
    goes_leads S P R T' Q U Q leads (on_ok_weaker result (seen_on f a b place bytes S P Q U T' is.call makes leads.after) is.done)

-- a write within a sector and the file, as of one word
pub wrote_word : {T E : Type 0} {f place : ℕ} {bytes : List ℕ} {a b : World} {result : Result T E} (S P R T' Q U : List ℕ → Type 0) (k : ℕ) → Wrote f place bytes a b result
    → 512 * k ≤ place → place + length bytes ≤ 512 * k + 512
    → ((c : List ℕ) → S c → (place + length bytes ≤ length c) × T' c × T' (overlay c place bytes) × U (overlay c place bytes))
    → ((c : List ℕ) → P c → (place + length bytes ≤ length c) × Q c × Q (overlay c place bytes))
    → ((c : List ℕ) → Q c → R c)
    → Goes f (Has S P) R (Has T' Q) (λ _. Has U Q) a b result
wrote_word {T} {E} {f} {place} {bytes} {a} {b} {result} S P R T' Q U k is low high reads each after =
    let leads = sector_leads S P R T' Q k is.sound is.sound_on is.call low high (λ c was. after c (each c was).1) after (λ was. (reads (a.seen f) was).0) (λ c was. (each c was).0)
    (λ same had. ((reads (a.seen f) had).1, λ c was. (each c was).1)) (λ new had. ((reads (a.seen f) had).2, λ c was. ((each c was).1, (each c was).2))) in
    goes_leads S P R T' Q U Q leads (on_ok_weaker result (seen_on f a b place bytes S P Q U T' is.call (λ old had new. (reads old had).3) leads.after) is.done)

-- a sync
pub synced : {T E : Type 0} {f : ℕ} {a b : World} {result : Result T E} (S P R : List ℕ → Type 0) → Synced f a b result
    → ((c : List ℕ) → P c → R c) → ((c : List ℕ) → S c → R c)
    → Goes f (Has S P) R (Has S P) (λ _. Has S S) a b result
synced {T} {E} {f} {a} {b} {result} S P R is before after =
    goes_leads S P R S P S S (sync_leads S P R is.sound is.call before) (on_ok_weaker result (λ (done : HasSynced f a b). (synced_leads S P R is.sound is.sound_on is.call done before after).after) is.done)

-- what reads give after a write that ended well
pub wrote_gives : {T E : Type 0} {f place : ℕ} {bytes : List ℕ} {a b : World} {value : T} (S U : List ℕ → Type 0) → Wrote {T = T} {E = E} f place bytes a b (Ok value) → ((c : List ℕ) → S c → U (overlay c place bytes)) → Gives (file_of a f) S → Gives (file_of b f) U
unfolding file_of
wrote_gives S U is makes reads told =
    let before = subst IsTrue is.call.run.goes.tells told in
    subst U (sym (is.done.seen before)) (makes _ (reads before))

-- a sync leaves what reads give
pub sync_seen : {T E : Type 0} {f : ℕ} {a b : World} {result : Result T E} → Synced f a b result → (file_of b f).bytes ≡ (file_of a f).bytes
unfolding file_of
sync_seen is = is.call.seen

-- one that ended well makes that last
pub synced_is : {T E : Type 0} {f : ℕ} {a b : World} {value : T} (S : List ℕ → Type 0) → Synced {T = T} {E = E} f a b (Ok value) → Gives (file_of a f) S → Is S (file_of b f)
synced_is {T} {E} {f} {a} {b} S is reads = has (synced_holds S is.sound is.sound_on is.call is.done (given a f S reads))

synced_settled : {T E : Type 0} {f : ℕ} {a b : World} {value : T} → Synced {T = T} {E = E} f a b (Ok value) → IsSettled (file_of b f)
unfolding file_of
synced_settled {T} {E} {f} {a} {b} is = by_past (versions a f) (versions b f) is.done.versions (is.sound_on.latest f)
  where
    by_past : (vs ws : List (List ℕ)) → ws ≡ after_sync vs → IsLatest (b.seen f) ws → (ws ≡ []) ⊎ (ws ≡ b.seen f ∷ [])
    by_past [] ws same latest = inl same
    by_past (v ∷ vs) ws same latest = inr (same ∙ ap (λ (file : List ℕ). file ∷ []) (sym (subst (λ (us : List (List ℕ)). IsLatest (b.seen f) us) same latest)))

pub settled_on : {T E : Type 0} {f : ℕ} {a b : World} (result : Result T E) → Synced f a b result → OnOk result (IsSettled (file_of b f))
settled_on (Ok value) is = synced_settled is
settled_on (Err error) is = tt

-- ---- each crash from a sync on

-- a sync that failed: a crash leaves what it might have left before
pub since_failed : {T E : Type 0} {f : ℕ} {a b : World} {result : Result T E} (P : List ℕ → Type 0) → Synced f a b result → IsErr result → EachSinceSync a b f P
since_failed {T} {E} {f} {a} {b} {result} P is failed = sync_failed P is.call (by_result result failed is.failed)
  where
    by_result : (r : Result T E) → IsErr r → OnErr r (file_of b f ≡ file_of a f) → versions b f ≡ versions a f
    by_result (Ok value) none same = absurd (cc)
    by_result (Err error) failed same = same_past f a b same

-- one that ended well, where each crash now leaves P
pub since_synced : {T E : Type 0} {f : ℕ} {a b : World} {result : Result T E} (P : List ℕ → Type 0) → Synced f a b result → ((c : List ℕ) → IsOutcome (file_of b f).past c → P c) → EachSinceSync a b f P
since_synced {T} {E} {f} {a} {b} P is each = sync_done P is.call (now_of P f b each)

-- and calls on the file after it
pub since_sync_on : {T E : Type 0} {f : ℕ} {I J : File → Type 0} {P : List ℕ → Type 0} {K : T → File → Type 0} {parts : Parts} {a b c : World} {result : Result T E}
    → EachSinceSync a b f P → Runs parts b c → Goes f I P J K b c result → I (file_of b f) → EachSinceSync a c f P
since_sync_on {T} {E} {f} {I} {J} {P} {K} {parts} {a} {b} {c} first run goes is = sync_on f P run first (goes.since is)
