-- What an opening leaves.
use Rattle.std.proofs.Common.{◌≡◌, ◌⊎◌, ⊎_elim, ℕ, ◌*◌, ◌≤◌, List, [], ◌∷◌, length, map, IsTrue, Option, inl, refl, sym, subst, ◌∙◌, arith}
use Rattle.std.proofs.lemmas.List.Elements.{All-nil, All-cons, All-contains}
use Rattle.disk_model.specs.World.{World, Runs, only_file, IsLeftAt, Holds, EachNow, EachSince}
use Rattle.disk_model.proofs.Leads.{spare_leads}
use Rattle.disk_model.proofs.Moments.{since_more, since_sync, now_more, now_since}
use Rattle.core_events.specs.Events.{Event}
use Rattle.plain_model.specs.History.{History, IsHistory, now}
use Rattle.plain_model.specs.Machine.{opened}
use Rattle.plain_model.specs.Laws.{IsLikeDisk}
use Rattle.plain_model.proofs.Histories.{length-now}
use Rattle.core_node.specs.Files.{IsLawfulTarget}
use Rattle.image_model.specs.Images.{IsBackupFile}
use Rattle.core_node.specs.Standing.{Shown}
use Rattle.core_node.specs.Rest.{Directory, Files, Allows, Mixes, directory_of, marked, or_marked, first_state, IsReady, IsSafe, AreLawful, LeftLawful, StaysSealed}
use Rattle.core_node.specs.Step.{NoNewBlanks}
use Rattle.core_node.specs.Ends.{NodeBegins, OpensWithin, IsOpening}
use Rattle.core_node.proofs.Rests.{Sub, allows_left, allows_found, ready_more, safe_more, one_kind, ready_is_safe, mixes_keep}
use Rattle.core_loop.specs.Sessions.{Starts, Covers, IsNoBackup, AreApart}
use Rattle.core_loop.proofs.Apart.{stays_beside, blanks_beside, apart_on}
use Rattle.core_loop.proofs.Going.{Knows, left_since}

-- ---- from rest to rest

-- An opening that syncs first, and from then on leaves an image that is ready for the history itself, leads from rest to rest.
pub opening_leads : {allows : List Directory} {d : Directory} {id : List ℕ} {h : History} {disks : List (List ℕ)} (f : ℕ) {old new : World} → old.now ≤ new.now → IsHistory h → Mixes h disks
    → Allows allows d → EachNow old f (IsSafe allows id h disks) → OpensWithin f d id h old new
    → EachSince new old.now f (IsSafe (or_marked allows) id h disks) × Holds f (IsReady (or_marked allows) id h) (IsSafe (or_marked allows) id h disks) new
opening_leads {allows} {d} {id} {h} {disks} f {old} {new} later history mixes there safe within =
    (since, record { seen = λ told. ready_more found within.seen.0; each = now_since new old.now f (IsSafe (or_marked allows) id h disks) later since })
  where
    found : Sub (d ∷ marked d ∷ []) (or_marked allows)
    found other is = allows_found allows d other there is

    since : EachSince new old.now f (IsSafe (or_marked allows) id h disks)
    since = since_more new old.now f (λ c. IsSafe allows id h disks c ⊎ IsOpening (old.seen f) d id h c) (IsSafe (or_marked allows) id h disks)
        (λ c was. ⊎_elim (λ (is : IsSafe allows id h disks c). safe_more (λ x known. allows_left allows (map marked allows) x known) is)
        (λ (opening : IsOpening (old.seen f) d id h c). ready_is_safe history (All-contains (IsLikeDisk h) disks (now h) mixes.alike mixes.among).whole
        (mixes_keep history mixes) (ready_more found opening.0)) was)
        (since_sync (IsSafe allows id h disks) (IsOpening (old.seen f) d id h) safe within.since)

-- a new source is at rest for its own history
pub source_begins : {allows : List Directory} (id : List ℕ) {h : History} (f : ℕ) {new : World} → IsHistory h → (n : ℕ) × (length (now h) ≡ n * 512) → Holds f (IsReady allows id h) (IsReady allows id h) new
    → AreLawful allows (record { source = f; id = id; backups = [] }) h (now h ∷ []) new
source_begins {allows} id {h} f {new} history whole made = record {
  history_is = history;
  mixes = record { among = (0, omega arith, refl); alike = All-cons (IsLikeDisk h) (now h) [] (record { long = length-now h history.inside; whole = whole }) (All-nil (IsLikeDisk h)) };
  source = record {
    seen = made.seen;
    each = now_more new f (IsReady allows id h) (IsSafe allows id h (now h ∷ [])) (λ c ready. ready_is_safe history whole
        (record { long = All-cons (λ d. length (now h) ≡ length d) (now h) [] refl (All-nil (λ d. length (now h) ≡ length d)); kept = λ k below. (0, now h, omega arith, refl, refl) }) ready) made.each;
  };
  apart = λ g named is. omega (arith, named.1);
  backups = λ g named. absurd (omega (arith, named.1));
}

-- ---- calls on the source alone

-- the file of one that is ready is no backup
no_backup : {allows : List Directory} {id : List ℕ} {h : History} {file : ℕ} (w : World) → IsReady allows id h (w.seen file) → (g : ℕ) → g ≡ file
    → IsNoBackup (w.seen g)
no_backup w ready g same bytes store is = one_kind ready.finds.source (subst (λ (x : ℕ). IsBackupFile (w.seen x) bytes store) same is)

-- so these calls keep what is sealed, make no blank target, and leave files apart
module _ {allows : List Directory} {id : List ℕ} {h : History} {file : ℕ} {old new : World} (run : Runs (only_file file) old new) where
  pub source_stays : IsTrue old.tells → IsReady allows id h (old.seen file) → StaysSealed old new
  source_stays told ready = stays_beside run told (no_backup old ready)

  pub source_blanks : IsReady allows id h (new.seen file) → NoNewBlanks old new
  source_blanks ready = blanks_beside run (no_backup new ready)

pub source_apart : {own : ℕ → Type 0} {file : ℕ} {old new : World} → Runs (only_file file) old new → AreApart own file old → AreApart own file new
source_apart {own} run apart = apart_on run (λ g mine same. apart.source_isnt (subst own same mine)) apart

-- files that events may begin anew stay among those that are spoken of
pub covers_on : (files : Files) (events : List Event) (old new : World) → Covers files events old → NoNewBlanks old new
    → ((name : List ℕ) → new.found name ≡ old.found name) → Covers files events new
covers_on files events old new covers blanks found event name f size store there starts is target =
    let was = blanks f size store target in
    covers event name f was.0 was.1 there starts (sym (found name) ∙ is) was.2

-- ---- an opening, whatever it answered

pub record OpenCall (file : ℕ) (old new : World) : Type 0 where
  pub within : (d : Directory) (allows : List Directory) (id : List ℕ) (h : History) (disks : List (List ℕ)) → IsTrue old.tells → IsHistory h
      → IsReady (d ∷ []) id h (old.seen file) → Holds file (IsReady allows id h) (IsSafe allows id h disks) old → OpensWithin file d id h old new
  pub run : Runs (only_file file) old new

-- what reads give has the very directory that is found
pub just_found : {allows : List Directory} {id : List ℕ} {h : History} {file : List ℕ} (r : IsReady allows id h file) → IsReady (directory_of r.opening ∷ []) id h file
just_found r = record { opening = r.opening; finds = r.finds; entries_are = r.entries_are; allowed = inl refl }

module _ {allows : List Directory} {files : Files} {h : History} {disks : List (List ℕ)} {old new : World}
    (call : OpenCall files.source old new) (lawful : AreLawful allows files h disks old) (told : IsTrue old.tells) where
  pub opens_within : (d : Directory) × Allows allows d × OpensWithin files.source d files.id h old new
  opens_within =
      let ready = lawful.source.seen told in
      (directory_of ready.opening, ready.allowed, call.within (directory_of ready.opening) allows files.id h disks told lawful.history_is (just_found ready) lawful.source)

  leads : EachSince new old.now files.source (IsSafe (or_marked allows) files.id h disks) × Holds files.source (IsReady (or_marked allows) files.id h) (IsSafe (or_marked allows) files.id h disks) new
  leads = opening_leads files.source call.run.goes.later lawful.history_is lawful.mixes opens_within.1 lawful.source.each opens_within.2

  pub open_rest : AreLawful (or_marked allows) files h disks new
  open_rest = record {
    history_is = lawful.history_is;
    mixes = lawful.mixes;
    source = leads.1;
    apart = lawful.apart;
    backups = λ f named. (spare_leads f _ _ call.run (lawful.apart f named)).after (lawful.backups f named);
  }

  pub open_crashes : (k : ℕ) (left : ℕ → Option (List ℕ)) → old.now ≤ k → k ≤ new.now → IsLeftAt new k left → LeftLawful (or_marked allows) files h disks left
  open_crashes k left low high is = left_since old.now k leads.0 (λ f named. (spare_leads f _ (IsLawfulTarget files.id h) call.run (lawful.apart f named)).since (lawful.backups f named)) low high is

  pub open_stays : StaysSealed old new
  open_stays = source_stays call.run told (lawful.source.seen told)

  pub open_blanks : NoNewBlanks old new
  open_blanks = source_blanks call.run opens_within.2.seen.0

  -- where a node begins, a run of events may start
  pub may_start : {shown : Shown} {K : Knows} {events : List Event} → shown.file ≡ files.source → (begins : NodeBegins allows shown K files.source files.id h old new) → Covers files events old
      → Starts files shown K events (first_state h (record begins.opening { taken = begins.taken; given = begins.given })) new
  unfolding opened
  may_start {events = events} file_is begins covers = record {
    file_is = sym file_is;
    id_is = sym begins.id_is;
    keeps = begins.keeps_it;
    backups = λ f named. (spare_leads f _ _ call.run (lawful.apart f named)).after (lawful.backups f named);
    covers = covers_on files events old new covers open_blanks (λ name. call.run.found name (λ none. none));
  }

pub call_of : (files : Files) {file : ℕ} {old new : World} → files.source ≡ file → OpenCall file old new → OpenCall files.source old new
call_of files {file} {old} {new} is call = subst (λ (f : ℕ). OpenCall f old new) (sym is) call
