-- How a run of a depot's calls goes on.
use Rattle.std.proofs.Common.{◌≡◌, ◌⊎◌, inl, inr, ⊎_elim, ℕ, ◌+◌, ◌<◌, ◌≤◌, List, [], ◌∷◌, length, ◌*◌, IsTrue, refl, sym, ◌∙◌, subst, ap, arith}
use Rattle.std.proofs.lemmas.Bool.{cases_lt}
use Rattle.disk_model.specs.Files.{IsOutcome, IsGrown, IsTorn, overlay, after_write, MayWrite, after_sync, MaySync, IsLatest, IsTold}
use Rattle.disk_model.specs.World.{World, versions, Parts, nothing, reads_of, writes_of, only_file, making, Faults, Counts, GoesOn, SameFile, Runs, IsSpared, IsGiven, StepsWithin, StepsBefore, Writes, Syncs, HasSynced, Leaves, EachSince, EachNow, EachSinceSync, Rose, FileFailed, IsSound}
use Rattle.disk_model.proofs.Outcomes.{one_sector_write, before_write, whole_torn, untorn, settled, is_outcome, IsMixed}

-- ---- what goes on

pub stay : (parts : Parts) (w : World) → Runs parts w w
stay parts w = record {
  goes = record {
    later = omega arith;
    kept = λ k f le. refl;
    lasts = λ k f low high some. let same : k ≡ w.now = omega arith in subst (λ (m : ℕ). 0 < length (w.past m f)) (sym same) some;
    tells = refl;
    outcomes = refl;
    prints = refl;
    given = omega arith;
    named = λ f below. refl;
    counts = record { shared = omega arith; reads = λ f. omega arith; writes = λ f. omega arith; prints = omega arith };
    send_faults = omega arith;
  };
  files = λ g none. record { seen = refl; moments = λ k low high. let same : k ≡ w.now = omega arith in ap (λ (m : ℕ). w.past m g) same; unwritten = refl };
  unread = λ g none. refl;
  found = λ name none. refl;
  text = λ none. record { printed = refl; unprinted = refl };
  wire = λ none. refl;
}

pub counts_on : {a b c : Faults} → Counts a b → Counts b c → Counts a c
counts_on first second = record {
  shared = omega (arith, first.shared, second.shared);
  reads = λ f. omega (arith, first.reads f, second.reads f);
  writes = λ f. omega (arith, first.writes f, second.writes f);
  prints = omega (arith, first.prints, second.prints);
}

pub go_on : {a b c : World} → GoesOn a b → GoesOn b c → GoesOn a c
go_on {a} {b} {c} first second = record {
  later = omega (arith, first.later, second.later);
  kept = λ k f le. second.kept k f (omega (arith, le, first.later)) ∙ first.kept k f le;
  lasts = λ k f low high some. elim (cases_lt b.now k) [
    | inl after ↦ second.lasts k f (omega arith) high (first.lasts b.now f first.later (omega arith) some)
    | inr before ↦ subst (λ (vs : List (List ℕ)). 0 < length vs) (sym (second.kept k f before)) (first.lasts k f low before some)
  ];
  tells = second.tells ∙ first.tells;
  outcomes = second.outcomes ∙ first.outcomes;
  prints = second.prints ∙ first.prints;
  given = omega (arith, first.given, second.given);
  named = λ f below. second.named f (omega (arith, below, first.given)) ∙ first.named f below;
  counts = counts_on first.counts second.counts;
  send_faults = omega (arith, first.send_faults, second.send_faults);
}

-- a file that two runs spare
pub same_on : {g : ℕ} {a b c : World} → GoesOn a b → GoesOn b c → SameFile g a b → SameFile g b c → SameFile g a c
same_on {g} {a} {b} {c} run on first second = record {
  seen = second.seen ∙ first.seen;
  moments = λ k low high. elim (cases_lt b.now k) [
    | inl after ↦ second.moments k (omega arith) high ∙ first.moments b.now run.later (omega arith)
    | inr before ↦ on.kept k g before ∙ first.moments k low before
  ];
  unwritten = second.unwritten ∙ first.unwritten;
}

pub run_on : {parts : Parts} {a b c : World} → Runs parts a b → Runs parts b c → Runs parts a c
run_on first second = record {
  goes = go_on first.goes second.goes;
  files = λ g none. same_on first.goes second.goes (first.files g none) (second.files g none);
  unread = λ g none. second.unread g none ∙ first.unread g none;
  found = λ name none. second.found name none ∙ first.found name none;
  text = λ none. record { printed = (second.text none).printed ∙ (first.text none).printed; unprinted = (second.text none).unprinted ∙ (first.text none).unprinted };
  wire = λ none. second.wire none ∙ first.wire none;
}

-- these parts lie in those
pub record Within (parts more : Parts) : Type 0 where
  pub files : (g : ℕ) → parts.files g → more.files g
  pub reads : (g : ℕ) → parts.reads g → more.reads g
  pub names : (name : List ℕ) → parts.names name → more.names name
  pub text : parts.text → more.text
  pub wire : parts.wire → more.wire

-- what touches few parts touches no more than these
pub run_more : {parts more : Parts} {a b : World} → Within parts more → Runs parts a b → Runs more a b
run_more within run = record {
  goes = run.goes;
  files = λ g none. run.files g (λ f. none (within.files g f));
  unread = λ g none. run.unread g (λ f. none (within.reads g f));
  found = λ name none. run.found name (λ f. none (within.names name f));
  text = λ none. run.text (λ f. none (within.text f));
  wire = λ none. run.wire (λ f. none (within.wire f));
}

pub nothing_within : (more : Parts) → Within nothing more
nothing_within more = record { files = λ g f. absurd f; reads = λ g f. absurd f; names = λ name f. absurd f; text = λ f. absurd f; wire = λ f. absurd f }

pub reads_within_file : (f : ℕ) → Within (reads_of f) (only_file f)
reads_within_file f = record { files = λ g none. absurd none; reads = λ g is. is; names = λ name none. absurd none; text = λ none. absurd none; wire = λ none. absurd none }

pub writes_within_file : (f : ℕ) → Within (writes_of f) (only_file f)
writes_within_file f = record { files = λ g is. is; reads = λ g none. absurd none; names = λ name none. absurd none; text = λ none. absurd none; wire = λ none. absurd none }

-- a file that is made is written
pub writes_within_making : (name : List ℕ) (f : ℕ) → Within (writes_of f) (making name f)
writes_within_making name f = record { files = λ g is. is; reads = λ g none. absurd none; names = λ other none. absurd none; text = λ none. absurd none; wire = λ none. absurd none }

-- one run after the other, of other parts, within those that hold both
pub run_both : {parts others more : Parts} {a b c : World} → Within parts more → Within others more → Runs parts a b → Runs others b c → Runs more a c
run_both first second run on = run_on (run_more first run) (run_more second on)

-- ---- numbers of files

-- a number that was given stays so
pub below_on : {parts : Parts} {a b : World} (f : ℕ) → Runs parts a b → f < a.given → f < b.given
below_on f run below = omega (arith, run.goes.given)

-- and stays that of its name
pub given_on : {parts : Parts} {a b : World} {f : ℕ} {name : List ℕ} → Runs parts a b → IsGiven f name a → IsGiven f name b
given_on {parts} {a} {b} {f} run given = record { below = below_on f run given.below; named = run.goes.named f given.below ∙ given.named }

-- ---- files that a run spares

-- a file that is none of those keeps its versions
pub spared : {parts : Parts} {a b : World} (g : ℕ) → Runs parts a b → (parts.files g → ⊥) → versions b g ≡ versions a g
spared {parts} {a} {b} g run none = (run.files g none).moments b.now run.goes.later (omega arith)

pub spares : {parts : Parts} {a b : World} (g : ℕ) → Runs parts a b → (parts.files g → ⊥) → IsSpared a b g
spares g run none = record {
  later = run.goes.later;
  tells = run.goes.tells;
  outcomes = run.goes.outcomes;
  given = run.goes.given;
  named = run.goes.named;
  seen = (run.files g none).seen;
  versions = spared g run none;
}

-- ---- each crash since a moment

-- from what a crash leaves now
pub since_now : (d : World) (f : ℕ) (P : List ℕ → Type 0) → EachNow d f P → EachSince d d.now f P
since_now d f P each k from to c left =
    let same : k ≡ d.now = omega arith in
    each c (subst (λ (m : ℕ). IsOutcome (d.past m f) c) same left)

pub now_since : (d : World) (from f : ℕ) (P : List ℕ → Type 0) → from ≤ d.now → EachSince d from f P → EachNow d f P
now_since d from f P le each c left = each d.now le (omega arith) c left

-- over two runs
pub since_on : {parts : Parts} {a b : World} (from f : ℕ) (P : List ℕ → Type 0) → Runs parts a b → EachSince a from f P → EachSince b a.now f P → EachSince b from f P
since_on {parts} {a} {b} from f P run first second k low high c left = elim (cases_lt a.now k) [
  | inl after ↦ second k (omega arith) high c left
  | inr before ↦ first k low before c (subst (λ (vs : List (List ℕ)). IsOutcome vs c) (run.goes.kept k f before) left)
]

-- over a call on the file
pub since_step : (a b : World) (f : ℕ) (P : List ℕ → Type 0) → StepsWithin a b f → EachNow a f P → EachNow b f P → EachSince b a.now f P
since_step a b f P steps before after k low high c left = elim (cases_lt k b.now) [
  | inl inside ↦ ⊎_elim
      (λ (old : b.past k f ≡ versions a f). before c (subst (λ (vs : List (List ℕ)). IsOutcome vs c) old left))
      (λ (new : b.past k f ≡ versions b f). after c (subst (λ (vs : List (List ℕ)). IsOutcome vs c) new left))
      (steps k low inside)
  | inr last ↦
      let same : k ≡ b.now = omega arith in
      after c (subst (λ (m : ℕ). IsOutcome (b.past m f) c) same left)
]

-- a sync has no moment within it
pub steps_within : (a b : World) (f : ℕ) → StepsBefore a b f → StepsWithin a b f
steps_within a b f steps k low high = inl (steps k low high)

-- over calls that spare it
pub since_spared : {parts : Parts} {a b : World} (f : ℕ) (P : List ℕ → Type 0) → Runs parts a b → (parts.files f → ⊥) → EachNow a f P → EachSince b a.now f P
since_spared {parts} {a} {b} f P run none before k low high c left = before c (subst (λ (vs : List (List ℕ)). IsOutcome vs c) ((run.files f none).moments k low high) left)

-- what each crash leaves since a moment goes on over a run that spares the file
pub since_over : {parts : Parts} {a b : World} (from f : ℕ) (P : List ℕ → Type 0) → Runs parts a b → (parts.files f → ⊥) → from ≤ a.now → EachSince a from f P → EachSince b from f P
since_over {parts} {a} from f P run none le each = since_on from f P run each (since_spared f P run none (now_since a from f P le each))

-- what follows from it
pub since_more : (w : World) (from f : ℕ) (P Q : List ℕ → Type 0) → ((c : List ℕ) → P c → Q c) → EachSince w from f P → EachSince w from f Q
since_more w from f P Q more each k low high c left = more c (each k low high c left)

pub now_more : (w : World) (f : ℕ) (P Q : List ℕ → Type 0) → ((c : List ℕ) → P c → Q c) → EachNow w f P → EachNow w f Q
now_more w f P Q more each c left = more c (each c left)

-- ---- what a call leaves of its file

-- each crash after a write leaves what the write tore of what a crash before it left
pub now_write : (place : ℕ) (bytes : List ℕ) (a b : World) (f : ℕ) (P Q : List ℕ → Type 0) → IsSound a → MayWrite place bytes (versions a f) (versions b f) → EachNow a f P
    → ((old new : List ℕ) → P old → IsTorn place bytes old new → Q new) → EachNow b f Q
now_write place bytes a b f P Q sound may each tears c left = by_cases (versions a f) (versions b f) (sound.grown a.now f) may each left
  where
    by_cases : (vs ws : List (List ℕ)) → IsGrown vs → MayWrite place bytes vs ws → ((d : List ℕ) → IsOutcome vs d → P d) → IsOutcome ws c → Q c
    by_cases [] ws grown may each left = absurd ((subst (λ (us : List (List ℕ)). IsOutcome us c) may left).sectors 0)
    by_cases (v ∷ vs) ws grown (inl same) each left =
        tears c c (each c (subst (λ (us : List (List ℕ)). IsOutcome us c) same left)) (untorn place bytes c)
    by_cases (v ∷ vs) ws grown (inr torn) each left =
        let before = before_write place bytes v torn.0 vs c grown torn.1 (subst (λ (us : List (List ℕ)). IsOutcome us c) torn.2 left) in
        tears before.file c (each before.file before.left) before.torn

-- the same, where each sector that isn't as before is as reads give it now
pub now_mixed : (place : ℕ) (bytes : List ℕ) (a b : World) (f : ℕ) (P Q : List ℕ → Type 0) → IsSound a → IsSound b → MayWrite place bytes (versions a f) (versions b f) → EachNow a f P
    → ((old new : List ℕ) → P old → IsTorn place bytes old new → IsMixed old (b.seen f) new → Q new) → EachNow b f Q
now_mixed place bytes a b f P Q sound sound_b may each tears c left = by_cases (versions a f) (versions b f) (sound.grown a.now f) (sound_b.latest f) may each left
  where
    by_cases : (vs ws : List (List ℕ)) → IsGrown vs → IsLatest (b.seen f) ws → MayWrite place bytes vs ws → ((d : List ℕ) → IsOutcome vs d → P d) → IsOutcome ws c → Q c
    by_cases [] ws grown latest may each left = absurd ((subst (λ (us : List (List ℕ)). IsOutcome us c) may left).sectors 0)
    by_cases (v ∷ vs) ws grown latest (inl same) each left =
        tears c c (each c (subst (λ (us : List (List ℕ)). IsOutcome us c) same left)) (untorn place bytes c) (λ k. inl (λ i low high inside. refl))
    by_cases (v ∷ vs) ws grown latest (inr torn) each left =
        let before = before_write place bytes v torn.0 vs c grown torn.1 (subst (λ (us : List (List ℕ)). IsOutcome us c) torn.2 left) in
        let is : b.seen f ≡ torn.0 = subst (IsLatest (b.seen f)) torn.2 latest in
        tears before.file c (each before.file before.left) before.torn (subst (λ (w : List ℕ). IsMixed before.file w c) (sym is) before.mixed)

-- the same for a write within a sector that lies in each of the files: it is done or not
pub now_sector_write : (place : ℕ) (bytes : List ℕ) (k : ℕ) (a b : World) (f : ℕ) (P Q : List ℕ → Type 0) → IsSound a → MayWrite place bytes (versions a f) (versions b f)
    → 512 * k ≤ place → place + length bytes ≤ 512 * k + 512
    → EachNow a f P → ((old : List ℕ) → P old → (place + length bytes ≤ length old) × Q old × Q (overlay old place bytes)) → EachNow b f Q
now_sector_write place bytes k a b f P Q sound may low high each both =
    now_write place bytes a b f P Q sound may each (λ old new has torn.
    let known = both old has in
    ⊎_elim
    (λ (same : new ≡ old). subst Q (sym same) known.1)
    (λ (done : new ≡ overlay old place bytes). subst Q (sym done) known.2)
    (one_sector_write place bytes old new k torn known.0 low high))

-- a version twice
again : (v : List ℕ) (vs : List (List ℕ)) (c : List ℕ) → IsOutcome (v ∷ v ∷ vs) c → IsOutcome (v ∷ vs) c
again v vs c left = record { no_shorter = left.no_shorter; no_longer = left.no_longer; sectors = λ k. ⊎_elim (λ here. inl here) (λ there. there) (left.sectors k) }

-- an outcome after a write within a sector was one, or was one but for what was written
pub record WasOr (place : ℕ) (bytes : List ℕ) (vs : List (List ℕ)) (c : List ℕ) : Type 0 where
  pub file : List ℕ
  pub left : IsOutcome vs file
  pub is : (c ≡ file) ⊎ (c ≡ overlay file place bytes)

-- A write within a sector that lies in each of the files, whatever it answered: it did nothing, or what one does that succeeds.
pub sector_exact : {f place : ℕ} {bytes : List ℕ} {a b : World} (k : ℕ) → IsSound a → IsSound b → Writes f place bytes a b → 512 * k ≤ place → place + length bytes ≤ 512 * k + 512
    → EachNow a f (λ c. place + length bytes ≤ length c) → (c : List ℕ) → IsOutcome (versions b f) c
    → ((b.seen f ≡ a.seen f) × IsOutcome (versions a f) c) ⊎ ((b.seen f ≡ overlay (a.seen f) place bytes) × WasOr place bytes (versions a f) c)
sector_exact {f} {place} {bytes} {a} {b} k sound sound_b call low high long c left = by_cases (versions a f) (versions b f) (sound.grown a.now f) (sound.latest f) (sound_b.latest f) call.may long left
  where
    by_cases : (vs ws : List (List ℕ)) → IsGrown vs → IsLatest (a.seen f) vs → IsLatest (b.seen f) ws → MayWrite place bytes vs ws → ((d : List ℕ) → IsOutcome vs d → place + length bytes ≤ length d) → IsOutcome ws c
        → ((b.seen f ≡ a.seen f) × IsOutcome vs c) ⊎ ((b.seen f ≡ overlay (a.seen f) place bytes) × WasOr place bytes vs c)
    by_cases [] ws grown was is may long left = absurd ((subst (λ (us : List (List ℕ)). IsOutcome us c) may left).sectors 0)
    by_cases (v ∷ vs) ws grown was is (inl same) long left =
        inl (subst (IsLatest (b.seen f)) same is ∙ sym was, subst (λ (us : List (List ℕ)). IsOutcome us c) same left)
    by_cases (v ∷ vs) ws grown was is (inr torn) long left =
        let now : b.seen f ≡ torn.0 = subst (IsLatest (b.seen f)) torn.2 is in
        let here : IsOutcome (torn.0 ∷ v ∷ vs) c = subst (λ (us : List (List ℕ)). IsOutcome us c) torn.2 left in
        ⊎_elim
        (λ (same : torn.0 ≡ v). inl (now ∙ same ∙ sym was, again v vs c (subst (λ (w : List ℕ). IsOutcome (w ∷ v ∷ vs) c) same here)))
        (λ (done : torn.0 ≡ overlay v place bytes). inr (
          now ∙ done ∙ sym (ap (λ (u : List ℕ). overlay u place bytes) was),
          (let before = before_write place bytes v torn.0 vs c grown torn.1 here in
              record { file = before.file; left = before.left; is = one_sector_write place bytes before.file c k before.torn (long before.file before.left) low high }),
        ))
        (one_sector_write place bytes v torn.0 k torn.1 (long v (is_outcome v vs grown)) low high)

-- where an outcome is told, so are the files, at any moment
pub told_at : (d : World) (k f : ℕ) (c : List ℕ) → IsSound d → IsOutcome (d.past k f) c → IsTrue d.tells
told_at d k f c sound left = by_cases (d.past k f) (sound.told k f) left
  where
    by_cases : (vs : List (List ℕ)) → IsTold d.tells vs → IsOutcome vs c → IsTrue d.tells
    by_cases [] told left = absurd (left.sectors 0)
    by_cases (v ∷ vs) told left = told

-- now too
pub told_by : (d : World) (f : ℕ) (c : List ℕ) → IsSound d → IsOutcome (versions d f) c → IsTrue d.tells
told_by d f c sound left = told_at d d.now f c sound left

-- after a write that succeeded too
pub wrote : (place : ℕ) (bytes : List ℕ) (vs ws : List (List ℕ)) → ws ≡ after_write place bytes vs → MayWrite place bytes vs ws
wrote place bytes [] ws is = is
wrote place bytes (v ∷ vs) ws is = inr (overlay v place bytes, whole_torn place bytes v, is)

-- each crash after a sync leaves what reads give
pub now_synced : {f : ℕ} {a b : World} → IsSound a → HasSynced f a b → EachNow b f (λ c. c ≡ a.seen f)
now_synced {f} {a} {b} sound done c left = by_cases (versions a f) (sound.latest f) (subst (λ (us : List (List ℕ)). IsOutcome us c) done.versions left)
  where
    by_cases : (vs : List (List ℕ)) → IsLatest (a.seen f) vs → IsOutcome (after_sync vs) c → c ≡ a.seen f
    by_cases [] told left = absurd (left.sectors 0)
    by_cases (v ∷ vs) told left = settled v c left ∙ sym told

-- a sync, failed or not, leaves no more than what a crash left before it
pub now_kept : (a b : World) (f : ℕ) (P : List ℕ → Type 0) → IsSound a → MaySync (versions a f) (versions b f) → EachNow a f P → EachNow b f P
now_kept a b f P sound may each c left = by_cases (versions a f) (versions b f) (sound.grown a.now f) may each left
  where
    by_cases : (vs ws : List (List ℕ)) → IsGrown vs → MaySync vs ws → ((d : List ℕ) → IsOutcome vs d → P d) → IsOutcome ws c → P c
    by_cases vs ws grown (inl same) each left = each c (subst (λ (us : List (List ℕ)). IsOutcome us c) same left)
    by_cases [] ws grown (inr is) each left = absurd ((subst (λ (us : List (List ℕ)). IsOutcome us c) is left).sectors 0)
    by_cases (v ∷ vs) ws grown (inr is) each left =
        subst P (sym (settled v c (subst (λ (us : List (List ℕ)). IsOutcome us c) is left))) (each v (is_outcome v vs grown))

-- a run that spares the file
pub now_spared : {parts : Parts} {a b : World} (f : ℕ) (P : List ℕ → Type 0) → Runs parts a b → (parts.files f → ⊥) → EachNow a f P → EachNow b f P
now_spared f P run none each c left = each c (subst (λ (vs : List (List ℕ)). IsOutcome vs c) (spared f run none) left)

-- a write within a sector that lies in each of the files
pub sector_leaves : {f place : ℕ} {bytes : List ℕ} {a b : World} (P R Q : List ℕ → Type 0) (k : ℕ) → IsSound a → Writes f place bytes a b → 512 * k ≤ place → place + length bytes ≤ 512 * k + 512
    → ((c : List ℕ) → P c → R c) → ((c : List ℕ) → Q c → R c) → ((old : List ℕ) → P old → (place + length bytes ≤ length old) × Q old × Q (overlay old place bytes)) → Leaves f P R Q a b
sector_leaves {f} {place} {bytes} {a} {b} P R Q k sound call low high before after both = record {
  since = λ each. since_step a b f R call.steps (λ c left. before c (each c left)) (λ c left. after c (now_sector_write place bytes k a b f P Q sound call.may low high each both c left));
  after = λ each. now_sector_write place bytes k a b f P Q sound call.may low high each both;
}

pub sync_keeps : {f : ℕ} {a b : World} (P : List ℕ → Type 0) → IsSound a → Syncs f a b → Leaves f P P P a b
sync_keeps {f} {a} {b} P sound call = record {
  since = λ each. since_step a b f P (steps_within a b f call.steps) each (now_kept a b f P sound call.may each);
  after = λ each. now_kept a b f P sound call.may each;
}

-- ---- from a sync on

pub sync_failed : {f : ℕ} {a b : World} (P : List ℕ → Type 0) → Syncs f a b → versions b f ≡ versions a f → EachSinceSync a b f P
sync_failed {f} {a} {b} P call same = record {
  moment = b.now + 1;
  from = omega (arith, call.run.goes.later);
  to = omega arith;
  before = λ k low high to. elim (cases_lt k b.now) [
    | inl inside ↦ call.steps k low inside
    | inr last ↦ let is : k ≡ b.now = omega arith in ap (λ (m : ℕ). b.past m f) is ∙ same
  ];
  since = λ k low high c left. absurd (omega arith);
}

pub sync_done : {f : ℕ} {a b : World} (P : List ℕ → Type 0) → Syncs f a b → EachNow b f P → EachSinceSync a b f P
sync_done {f} {a} {b} P call each = record {
  moment = b.now;
  from = call.run.goes.later;
  to = omega arith;
  before = λ k low high to. call.steps k low high;
  since = since_now b f P each;
}

pub sync_on : {parts : Parts} {a b d : World} (f : ℕ) (P : List ℕ → Type 0) → Runs parts b d → EachSinceSync a b f P → EachSince d b.now f P → EachSinceSync a d f P
sync_on {parts} {a} {b} {d} f P run first second = record {
  moment = first.moment;
  from = first.from;
  to = omega (arith, first.to, run.goes.later);
  before = λ k low high to. run.goes.kept k f (omega (arith, first.to)) ∙ first.before k low high (omega (arith, first.to));
  since = λ k low high c left. elim (cases_lt b.now k) [
    | inl after ↦ second k (omega arith) high c left
    | inr before ↦ first.since k low before c (subst (λ (vs : List (List ℕ)). IsOutcome vs c) (run.goes.kept k f before) left)
  ];
}

-- at the start
pub spared_sync : {parts others : Parts} {a b d : World} (f : ℕ) (P : List ℕ → Type 0) → Runs parts a b → Runs others b d → (parts.files f → ⊥) → EachSinceSync b d f P → EachSinceSync a d f P
spared_sync {parts} {others} {a} {b} {d} f P run on none later = record {
  moment = later.moment;
  from = omega (arith, run.goes.later, later.from);
  to = later.to;
  before = λ k low high to. elim (cases_lt b.now k) [
    | inl after ↦ later.before k (omega arith) high to ∙ spared f run none
    | inr before ↦ on.goes.kept k f before ∙ (run.files f none).moments k low before
  ];
  since = later.since;
}

-- what follows from it
pub sync_more : {a b : World} {f : ℕ} (P Q : List ℕ → Type 0) → ((c : List ℕ) → P c → Q c) → EachSinceSync a b f P → EachSinceSync a b f Q
sync_more P Q more each = record {
  moment = each.moment;
  from = each.from;
  to = each.to;
  before = each.before;
  since = λ k low high c left. more c (each.since k low high c left);
}

-- each crash since the start leaves what one left then, or what one leaves from the sync on
pub since_sync : {a b : World} {f : ℕ} (P Q : List ℕ → Type 0) → EachNow a f P → EachSinceSync a b f Q → EachSince b a.now f (λ c. P c ⊎ Q c)
since_sync {a} {b} {f} P Q before each k low high c left = elim (cases_lt k each.moment) [
  | inl below ↦ inl (before c (subst (λ (vs : List (List ℕ)). IsOutcome vs c) (each.before k low below high) left))
  | inr since ↦ inr (each.since k since high c left)
]

-- ---- counts

-- a count that rose has risen later too, and from earlier on
pub rose_more : (a b c d : ℕ) → a ≤ b → Rose b c → c ≤ d → Rose a d
rose_more a b c d low rose high = omega arith

pub rose_after : (a b c : ℕ) → a ≤ b → Rose b c → Rose a c
rose_after a b c low rose = omega arith

-- so does that a call on a file failed
pub file_failed_after : {parts : Parts} {f : ℕ} {a b c : World} → Runs parts a b → FileFailed f b c → FileFailed f a c
file_failed_after {parts} {f} {a} {b} {c} run failed = record {
  shared = rose_after a.faults.shared b.faults.shared c.faults.shared run.goes.counts.shared failed.shared;
  own = ⊎_elim
      (λ (read : Rose (b.faults.reads f) (c.faults.reads f)). inl (rose_after (a.faults.reads f) (b.faults.reads f) (c.faults.reads f) (run.goes.counts.reads f) read))
      (λ (write : Rose (b.faults.writes f) (c.faults.writes f)). inr (rose_after (a.faults.writes f) (b.faults.writes f) (c.faults.writes f) (run.goes.counts.writes f) write))
      failed.own;
}
