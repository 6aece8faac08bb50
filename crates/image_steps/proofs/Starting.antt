-- From what an opening finds to a standing.
use Rattle.std.proofs.Common.{◌≡◌, inl, ⊎_elim, ℕ, ◌≤◌, IsTrue, List, [], ◌∷◌, length, refl, sym, ◌∙◌, ap, subst, arith}
use Rattle.disk_model.specs.Files.{overlay, after_sync}
use Rattle.disk_model.specs.World.{World, IsSound, Writes, HasWritten, Syncs, HasSynced, EachNow, EachSince, EachSinceSync, Leads, Holds, versions}
use Rattle.disk_model.proofs.Laws.{write_leads, sync_leads, sync_failed, sync_done, told_by, lead_on, synced_exact, length-overlay}
use Rattle.image_model.specs.Clusters.{Shape, place, IsGood, IsSafe, Standing, Block}
use Rattle.image_model.specs.Calls.{IsOpened, IsExtending, IsReach, Beginning}
use Rattle.image_steps.proofs.Opening.{role_at, role_back, same_block, fresh_from, one_block, opened_good, opened_safe, reaches, IsReaching, reaching}

pub itself : (s : Shape) (next : ℕ) (file : List ℕ) → length file ≤ place s next → IsReach s next file file
itself s next file end = record { is = record { longer = omega arith; bytes = λ i. refl }; end = end }

-- reads and crashes give just this file
pub begins_here : {s : Shape} {next f : ℕ} {w : World} → IsOpened s next (w.seen f) → EachNow w f (λ c. c ≡ w.seen f) → Beginning s next (w.seen f) f w
begins_here {s} {next} {f} {w} is same = record {
  opened = is;
  seen = itself s next (w.seen f) is.end;
  now = λ c left. subst (IsReach s next (w.seen f)) (sym (same c left)) (itself s next (w.seen f) is.end);
}

-- what is referred to lies in it
pub begun_stands : {s : Shape} {next f : ℕ} {file : List ℕ} {w : World} (begins : Beginning s next file f w) → IsReaching s next file begins.opened (w.seen f) → EachNow w f (λ c. c ≡ w.seen f) → Standing s (file ∷ []) next next f w
begun_stands {s} {next} {f} {file} {w} begins long same = record {
  role = role_at s next file begins.opened;
  order = omega arith;
  ready = λ k low high. absurd (omega arith);
  edge = inl (fresh_from s next file begins.opened next (omega arith));
  fresh = λ k from. fresh_from s next file begins.opened k (omega (arith, from));
  linked = λ i k of low. same_block s file (w.seen f) begins.seen.is.bytes i k (role_back s next file begins.opened (Block i) k of);
  one = one_block s next file begins.opened;
  seen = opened_good s next file begins.opened (w.seen f) begins.seen.is long;
  now = λ c left. subst (IsGood s (role_at s next file begins.opened) (file ∷ [])) (sym (same c left)) (opened_good s next file begins.opened (w.seen f) begins.seen.is long);
}

module _ {s : Shape} {next whole finish f : ℕ} {file : List ℕ} {a b : World} (is : IsExtending s next whole finish file) (sound : IsSound a) (sound_b : IsSound b) (call : Writes f finish (0 ∷ []) a b) (told : IsTrue a.tells) (begins : Beginning s next file f a) where
  abbrev Reach : List ℕ → Type 0
  Reach = IsReach s next file

  safe_here : (c : List ℕ) → Reach c → IsSafe s (file ∷ []) c
  safe_here c reach = opened_safe s next file begins.opened c reach.is

  holds : Holds f Reach Reach a
  holds = record { seen = λ t. begins.seen; each = begins.now }

  longer_leads : Leads f Reach Reach (IsSafe s (file ∷ [])) Reach Reach a b
  longer_leads = write_leads Reach Reach (IsSafe s (file ∷ [])) Reach Reach sound sound_b call safe_here safe_here
      (λ was torn. (reaches s next whole finish file (0 ∷ []) (a.seen f) (b.seen f) is refl refl was torn, λ old new old_was old_torn mixed. reaches s next whole finish file (0 ∷ []) old new is refl refl old_was old_torn))

  told_b : IsTrue b.tells
  told_b = subst IsTrue (sym call.run.goes.tells) told

  pub grown : EachSince b a.now f (IsSafe s (file ∷ [])) × Beginning s next file f b
  grown = (longer_leads.since holds, record { opened = begins.opened; seen = (longer_leads.after holds).seen told_b; now = (longer_leads.after holds).each })

  module _ {d : World} (sound_d : IsSound d) (syncs : Syncs f b d) where
    synced_leads : Leads f Reach Reach (IsSafe s (file ∷ [])) Reach Reach a d
    synced_leads = lead_on call.run syncs.run longer_leads (sync_leads Reach Reach (IsSafe s (file ∷ [])) sound_b syncs safe_here)

    told_d : IsTrue d.tells
    told_d = subst IsTrue (sym syncs.run.goes.tells) told_b

    begins_d : Beginning s next file f d
    begins_d = record { opened = begins.opened; seen = (synced_leads.after holds).seen told_d; now = (synced_leads.after holds).each }

    pub grown_synced : EachSince d a.now f (IsSafe s (file ∷ [])) × Beginning s next file f d
    grown_synced = (synced_leads.since holds, begins_d)

    pub grown_stands : HasWritten f finish (0 ∷ []) a b → HasSynced f b d → EachSince d a.now f (IsSafe s (file ∷ [])) × Standing s (file ∷ []) next next f d
    grown_stands wrote synced = (
      synced_leads.since holds,
      begun_stands begins_d
          (let at : length (d.seen f) ≡ length (overlay (a.seen f) finish (0 ∷ [])) = ap length (syncs.seen ∙ wrote.seen told) in
          reaching s whole file (d.seen f) is.below (omega (arith, at, length-overlay (a.seen f) finish (0 ∷ []) (omega arith), is.ends)))
          (synced_exact sound_b syncs synced),
    )

-- a sync of it, whatever it answered: of each crash since it was done
pub opened_crash : {s : Shape} {next f : ℕ} {a b : World} → IsSound a → IsSound b → Syncs f a b → (IsTrue a.tells → IsOpened s next (a.seen f)) → EachSinceSync a b f (IsSafe s (a.seen f ∷ []))
opened_crash {s} {next} {f} {a} {b} sound sound_b call opened = ⊎_elim
    (λ (same : versions b f ≡ versions a f). sync_failed (IsSafe s (a.seen f ∷ [])) call same)
    (λ (done : versions b f ≡ after_sync (versions a f)). sync_done (IsSafe s (a.seen f ∷ [])) call (λ c left.
    let told : IsTrue a.tells = subst IsTrue call.run.goes.tells (told_by b f c sound_b left) in
    subst (IsSafe s (a.seen f ∷ [])) (sym (synced_exact sound call (record { versions = done }) c left ∙ call.seen)) (opened_safe s next (a.seen f) (opened told) (a.seen f) (record { longer = omega arith; bytes = λ i. refl }))))
    call.may
