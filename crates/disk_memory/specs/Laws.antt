-- What a host tells is sound.
use Rattle.std.specs.Prelude.{◌≡◌, ℕ, ◌<◌, Bool, true, false, List, [], ◌∷◌, length, get_or, take, Some, if◌then◌else◌, ◌==◌, refl}
use Rattle.std.proofs.Common.{sym, ◌∙◌, ap, subst, inl, inr, arith}
use Rattle.std.proofs.lemmas.Bool.{cases_lt}
use Rattle.std.proofs.lemmas.List.{take_all}
use Rattle.std.proofs.lemmas.List.Quantifiers.{position-Some}
use Rattle.std.proofs.lemmas.Slice.Eq.{bytes_eq-Decides}
use Rattle.std.specs.Str.{bytes_eq}
use Rattle.disk_model.proofs.Bytes.{overlay_no_shorter}
use Rattle.disk_model.specs.Files.{after_write, after_sync, latest, IsGrown, IsLatest, IsTold}
use Rattle.disk_model.specs.World.{IsSound}
use Rattle.disk_memory.specs.Held.{Change, FilePut, BytesWritten, UnderWay, FileSynced, step, replay, upto, Held, number_of, world_of, IsReplayed, IsKept}

-- ---- names

-- what is found has that name
pub number_found : (names : List (List ℕ)) (name : List ℕ) (f : ℕ) → number_of names name ≡ Some f → (f < length names) × (get_or names f [] ≡ name)
number_found names name f found =
    let at = position-Some (λ n. bytes_eq n name) names f [] found in
    (at.0, (bytes_eq-Decides (get_or names f []) name).0 at.1)

-- ---- versions

pub all_of : (changes : List Change) (f : ℕ) → upto changes (length changes) f ≡ replay changes f []
all_of changes f = ap (λ (l : List Change). replay l f []) (take_all (length changes) changes (omega arith))

-- where no calls are kept there are no versions
pub none_upto : (changes : List Change) (k f : ℕ) → changes ≡ [] → upto changes k f ≡ []
none_upto changes k f none = ap (λ (l : List Change). upto l k f) none ∙ ap (λ (l : List Change). replay l f []) (take_all k [] (omega arith))

grown_step : (c : Change) (f : ℕ) (vs : List (List ℕ)) → IsGrown vs → IsGrown (step c f vs)
grown_step (FilePut file bytes) f vs grown = elim (file == f) as (λ b. IsGrown (if b then bytes ∷ [] else vs)) [ true ↦ tt | false ↦ grown ]
grown_step (BytesWritten file at bytes) f vs grown = elim (file == f) as (λ b. IsGrown (if b then after_write at bytes vs else vs)) [ true ↦ by_cases vs grown | false ↦ grown ]
  where
    by_cases : (vs : List (List ℕ)) → IsGrown vs → IsGrown (after_write at bytes vs)
    by_cases [] grown = tt
    by_cases (v ∷ vs) grown = (overlay_no_shorter v at bytes, grown)
grown_step UnderWay f vs grown = grown
grown_step (FileSynced file) f vs grown = elim (file == f) as (λ b. IsGrown (if b then after_sync vs else vs)) [ true ↦ by_cases vs | false ↦ grown ]
  where
    by_cases : (vs : List (List ℕ)) → IsGrown (after_sync vs)
    by_cases [] = tt
    by_cases (v ∷ vs) = tt

pub grown_replay : (cs : List Change) (f : ℕ) (vs : List (List ℕ)) → IsGrown vs → IsGrown (replay cs f vs)
grown_replay [] f vs grown = grown
grown_replay (c ∷ cs) f vs grown = grown_replay cs f (step c f vs) (grown_step c f vs grown)

is_latest : (file : List ℕ) (vs : List (List ℕ)) → file ≡ latest vs → IsLatest file vs
is_latest file [] is = tt
is_latest file (v ∷ vs) is = is

latest_upto : (keep : Bool) (contents : List (List ℕ)) (changes : List Change) (f : ℕ) → (keep ≡ true → IsReplayed contents changes) → (keep ≡ false → changes ≡ []) → IsLatest (get_or contents f []) (upto changes (length changes) f)
latest_upto true contents changes f replayed none =
    is_latest (get_or contents f []) (upto changes (length changes) f) (((replayed refl).files f).same ∙ ap latest (sym (all_of changes f)))
latest_upto false contents changes f replayed none =
    subst (IsLatest (get_or contents f [])) (sym (none_upto changes (length changes) f (none refl))) tt

always_told : (vs : List (List ℕ)) → IsTold true vs
always_told [] = tt
always_told (v ∷ vs) = refl

-- ---- each host

pub world_sound : (h : Held) → IsKept h → IsSound (world_of h)
world_sound h kept = record {
  grown = λ k f. grown_replay (take k h.changes) f [] tt;
  latest = λ f. latest_upto h.keep h.contents h.changes f kept.replayed kept.none;
  told = λ k f. always_told (upto h.changes k f);
  there = λ name f told found.
      subst (λ (vs : List (List ℕ)). 0 < length vs) (sym (all_of h.changes f)) (((kept.replayed told).files f).there (omega (arith, kept.contents, (number_found h.names name f found).0)));
  absent = λ f told nameless. elim (cases_lt f (length h.names)) [
    | inl below ↦ absurd (nameless (get_or h.names f []) (kept.found f below))
    | inr past ↦ all_of h.changes f ∙ ((kept.replayed told).files f).absent (omega (arith, kept.contents, past))
  ];
  apart = λ a b f first second. sym (number_found h.names a f first).1 ∙ (number_found h.names b f second).1;
}
