-- What calls lead to, reads and crashes alike.
use Rattle.std.proofs.Common.{◌≡◌, ⊎_elim, ℕ, ◌+◌, ◌*◌, ◌≤◌, IsTrue, List, length, sym, ◌∙◌, subst}
use Rattle.disk_model.specs.Files.{IsOutcome, IsTorn, overlay}
use Rattle.disk_model.specs.World.{World, versions, Parts, Runs, Writes, Syncs, HasSynced, IsSound, EachNow, Holds, Leads}
use Rattle.disk_model.proofs.Outcomes.{IsMixed, one_sector_write}
use Rattle.disk_model.proofs.Moments.{since_step, steps_within, since_on, since_spared, now_spared, now_mixed, now_kept, now_synced, sector_exact, told_by, WasOr}

-- a write: each sector is as before, or as reads give it now
pub write_leads : {f place : ℕ} {bytes : List ℕ} {a b : World} (S P R T Q : List ℕ → Type 0) → IsSound a → IsSound b → Writes f place bytes a b → ((c : List ℕ) → P c → R c) → ((c : List ℕ) → Q c → R c)
    → (S (a.seen f) → IsTorn place bytes (a.seen f) (b.seen f) → T (b.seen f) × ((old new : List ℕ) → P old → IsTorn place bytes old new → IsMixed old (b.seen f) new → Q new)) → Leads f S P R T Q a b
write_leads {f} {place} {bytes} {a} {b} S P R T Q sound sound_b call before after tears = record {
  since = λ holds. since_step a b f R call.steps (λ c left. before c (holds.each c left)) (λ c left. after c (each holds c left));
  after = λ holds. record {
    seen = λ told. let told_a : IsTrue a.tells = subst IsTrue call.run.goes.tells told in (tears (holds.seen told_a) (call.torn told_a)).0;
    each = each holds;
  };
}
  where
    each : Holds f S P a → EachNow b f Q
    each holds c left =
        let told_a : IsTrue a.tells = subst IsTrue call.run.goes.tells (told_by b f c sound_b left) in
        now_mixed place bytes a b f P Q sound sound_b call.may holds.each (tears (holds.seen told_a) (call.torn told_a)).1 c left

-- a write within a sector: nothing, or all of it, in reads and crashes alike
pub sector_leads : {f place : ℕ} {bytes : List ℕ} {a b : World} (S P R T Q : List ℕ → Type 0) (k : ℕ) → IsSound a → IsSound b → Writes f place bytes a b → 512 * k ≤ place → place + length bytes ≤ 512 * k + 512
    → ((c : List ℕ) → P c → R c) → ((c : List ℕ) → Q c → R c) → (S (a.seen f) → place + length bytes ≤ length (a.seen f)) → ((c : List ℕ) → P c → place + length bytes ≤ length c)
    → (b.seen f ≡ a.seen f → S (a.seen f) → T (a.seen f) × ((c : List ℕ) → P c → Q c))
    → (b.seen f ≡ overlay (a.seen f) place bytes → S (a.seen f) → T (overlay (a.seen f) place bytes) × ((c : List ℕ) → P c → Q c × Q (overlay c place bytes))) → Leads f S P R T Q a b
sector_leads {f} {place} {bytes} {a} {b} S P R T Q k sound sound_b call low high before after long_seen long none done = record {
  since = λ holds. since_step a b f R call.steps (λ c left. before c (holds.each c left)) (λ c left. after c (each holds c left));
  after = λ holds. record {
    seen = λ told.
        let told_a : IsTrue a.tells = subst IsTrue call.run.goes.tells told in
        let is = holds.seen told_a in
        ⊎_elim
        (λ (same : b.seen f ≡ a.seen f). subst T (sym same) (none same is).0)
        (λ (new : b.seen f ≡ overlay (a.seen f) place bytes). subst T (sym new) (done new is).0)
        (one_sector_write place bytes (a.seen f) (b.seen f) k (call.torn told_a) (long_seen is) low high);
    each = each holds;
  };
}
  where
    each : Holds f S P a → EachNow b f Q
    each holds c left =
        let told_a : IsTrue a.tells = subst IsTrue call.run.goes.tells (told_by b f c sound_b left) in
        ⊎_elim
        (λ (was : (b.seen f ≡ a.seen f) × IsOutcome (versions a f) c). (none was.0 (holds.seen told_a)).1 c (holds.each c was.1))
        (λ (was : (b.seen f ≡ overlay (a.seen f) place bytes) × WasOr place bytes (versions a f) c).
        let both = (done was.0 (holds.seen told_a)).1 was.1.file (holds.each was.1.file was.1.left) in
        ⊎_elim (λ (same : c ≡ was.1.file). subst Q (sym same) both.0) (λ (new : c ≡ overlay was.1.file place bytes). subst Q (sym new) both.1) was.1.is)
        (sector_exact k sound sound_b call low high (λ d d_left. long d (holds.each d d_left)) c left)

-- a sync, whatever it answered
pub sync_leads : {f : ℕ} {a b : World} (S P R : List ℕ → Type 0) → IsSound a → Syncs f a b → ((c : List ℕ) → P c → R c) → Leads f S P R S P a b
sync_leads {f} {a} {b} S P R sound call before = record {
  since = λ holds. since_step a b f R (steps_within a b f call.steps) (λ c left. before c (holds.each c left)) (λ c left. before c (now_kept a b f P sound call.may holds.each c left));
  after = λ holds. record {
    seen = λ told. subst S (sym call.seen) (holds.seen (subst IsTrue call.run.goes.tells told));
    each = now_kept a b f P sound call.may holds.each;
  };
}

-- one that succeeded: what holds of what reads give holds of each crash
pub synced_leads : {f : ℕ} {a b : World} (S P R : List ℕ → Type 0) → IsSound a → IsSound b → Syncs f a b → HasSynced f a b → ((c : List ℕ) → P c → R c) → ((c : List ℕ) → S c → R c) → Leads f S P R S S a b
synced_leads {f} {a} {b} S P R sound sound_b call done before after = record {
  since = λ holds. since_step a b f R (steps_within a b f call.steps) (λ c left. before c (holds.each c left)) (λ c left. after c (each holds c left));
  after = λ holds. record { seen = λ told. subst S (sym call.seen) (holds.seen (subst IsTrue call.run.goes.tells told)); each = each holds };
}
  where
    each : Holds f S P a → EachNow b f S
    each holds c left = subst S (sym (now_synced sound done c left)) (holds.seen (subst IsTrue call.run.goes.tells (told_by b f c sound_b left)))

-- after it each crash leaves the very file that reads give
pub synced_exact : {f : ℕ} {a b : World} → IsSound a → Syncs f a b → HasSynced f a b → EachNow b f (λ c. c ≡ b.seen f)
synced_exact sound call done c left = now_synced sound done c left ∙ sym call.seen

-- so what holds of what reads give holds of both
pub synced_holds : {f : ℕ} {a b : World} (S : List ℕ → Type 0) → IsSound a → IsSound b → Syncs f a b → HasSynced f a b → (IsTrue a.tells → S (a.seen f)) → Holds f S S b
synced_holds {f} {a} {b} S sound sound_b call done reads = record {
  seen = λ told. subst S (sym call.seen) (reads (subst IsTrue call.run.goes.tells told));
  each = λ c left. subst S (sym (now_synced sound done c left)) (reads (subst IsTrue call.run.goes.tells (told_by b f c sound_b left)));
}

-- a run that spares the file
pub spare_leads : {parts : Parts} {a b : World} (f : ℕ) (S P : List ℕ → Type 0) → Runs parts a b → (parts.files f → ⊥) → Leads f S P P S P a b
spare_leads {parts} {a} {b} f S P run none = record {
  since = λ holds. since_spared f P run none holds.each;
  after = λ holds. record { seen = λ told. subst S (sym ((run.files f none).seen)) (holds.seen (subst IsTrue run.goes.tells told)); each = now_spared f P run none holds.each };
}

pub lead_on : {parts others : Parts} {f : ℕ} {S P R T Q U V : List ℕ → Type 0} {a b c : World} → Runs parts a b → Runs others b c → Leads f S P R T Q a b → Leads f T Q R U V b c → Leads f S P R U V a c
lead_on {parts} {others} {f} {S} {P} {R} {T} {Q} {U} {V} {a} {b} {c} run on first second = record {
  since = λ holds. since_on a.now f R on (first.since holds) (second.since (first.after holds));
  after = λ holds. second.after (first.after holds);
}

-- from more, or to less; with ghost steps in between
pub lead_more : {f : ℕ} {S P R T Q : List ℕ → Type 0} {a b : World} (W U V : List ℕ → Type 0) → ((c : List ℕ) → R c → W c) → ((c : List ℕ) → T c → U c) → ((c : List ℕ) → Q c → V c) → Leads f S P R T Q a b → Leads f S P W U V a b
lead_more W U V more reads most leads = record {
  since = λ holds k low high c left. more c (leads.since holds k low high c left);
  after = λ holds. record { seen = λ told. reads _ ((leads.after holds).seen told); each = λ c left. most c ((leads.after holds).each c left) };
}

pub lead_from : {f : ℕ} {S P R T Q : List ℕ → Type 0} {a b : World} (U V : List ℕ → Type 0) → ((c : List ℕ) → U c → S c) → ((c : List ℕ) → V c → P c) → Leads f S P R T Q a b → Leads f U V R T Q a b
lead_from {f} {S} {P} {R} {T} {Q} {a} {b} U V reads most leads = record { since = λ holds. leads.since (from holds); after = λ holds. leads.after (from holds) }
  where
    from : Holds f U V a → Holds f S P a
    from holds = record { seen = λ told. reads _ (holds.seen told); each = λ c left. most c (holds.each c left) }
