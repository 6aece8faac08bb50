-- Directories that are allowed, and images that are ready or safe.
use Rattle.std.proofs.Common.{◌≡◌, inl, inr, ℕ, List, [], ◌∷◌, ◌++◌, length, map, refl, sym, ap, subst, ◌∙◌, ◌*◌, arith}
use Rattle.std.specs.Prelude.{Any}
use Rattle.std.proofs.lemmas.Bool.{cases_Bool}
use Rattle.std.proofs.lemmas.Grind.{common_steps}
use Rattle.std.proofs.lemmas.List.{get_or_append_left}
use Rattle.std.proofs.lemmas.List.Elements.{All-push, All-weaker}
use Rattle.qc_layout.specs.declared.header.Own.TheVariants as owns
use Rattle.qc_layout.specs.declared.header.Header.{Header}
use Rattle.qc_layout.specs.declared.header.Part.TheVariants as parts
use Rattle.qc_layout.specs.Spelling.{Spells}
use Rattle.qc_layout.specs.Extensions.{own_in, first_of_kind, own_kind}
use Rattle.qc_layout.proofs.HeaderLaws.{one_in}
use Rattle.plain_model.specs.History.{History, IsHistory, now}
use Rattle.image_model.specs.Space.{Store}
use Rattle.plain_model.specs.Step.{sector}
use Rattle.plain_model.specs.Lawful.{Kept}
use Rattle.plain_model.specs.Laws.{IsLikeDisk}
use Rattle.plain_model.proofs.Histories.{length-now}
use Rattle.plain_model.proofs.SettleLaws.{nothing_settles}
use Rattle.image_model.specs.Images.{IsSourceOf, IsBackupFile}
use Rattle.core_events.specs.Events.{Event, Guest, Monitor, Tick}
use Rattle.plain_model.specs.Requests.{is_write}
use Rattle.core_node.specs.Step.{kept_during}
use Rattle.core_node.specs.Rest.{Directory, Allows, marked, or_marked, IsReady, IsSafe, Mixes}

-- ---- directories that are allowed

pub allows_left : (xs ys : List Directory) (d : Directory) → Allows xs d → Allows (xs ++ ys) d
allows_left [] ys d is = absurd is
allows_left (x ∷ xs) ys d (inl is) = inl is
allows_left (x ∷ xs) ys d (inr is) = inr (allows_left xs ys d is)

pub allows_right : (xs ys : List Directory) (d : Directory) → Allows ys d → Allows (xs ++ ys) d
allows_right [] ys d is = is
allows_right (x ∷ xs) ys d is = inr (allows_right xs ys d is)

allows_marked : (xs : List Directory) (d : Directory) → Allows xs d → Allows (map marked xs) (marked d)
allows_marked [] d is = absurd is
allows_marked (x ∷ xs) d (inl is) = inl (ap marked is)
allows_marked (x ∷ xs) d (inr is) = inr (allows_marked xs d is)

-- one that was found, or as it was marked
pub allows_found : (xs : List Directory) (d other : Directory) → Allows xs d → Allows (d ∷ marked d ∷ []) other → Allows (or_marked xs) other
allows_found xs d other there (inl is) = allows_left xs (map marked xs) other (subst (Allows xs) (sym is) there)
allows_found xs d other there (inr (inl is)) = allows_right xs (map marked xs) other (subst (Allows (map marked xs)) (sym is) (allows_marked xs d there))
allows_found xs d other there (inr (inr is)) = absurd is

abbrev pub Sub : List Directory → List Directory → Type 0
Sub xs ys = (d : Directory) → Allows xs d → Allows ys d

module _ {xs ys : List Directory} (more : Sub xs ys) {id : List ℕ} {h : History} where
  pub ready_more : {file : List ℕ} → IsReady xs id h file → IsReady ys id h file
  ready_more r = record { opening = r.opening; finds = r.finds; entries_are = r.entries_are; allowed = more _ r.allowed }

module _ {xs ys : List Directory} (more : Sub xs ys) {id : List ℕ} {h : History} where
  pub safe_more : {disks : List (List ℕ)} {file : List ℕ} → IsSafe xs id h disks file → IsSafe ys id h disks file
  safe_more s = record { disk = s.disk; like = s.like; kept = s.kept; ready = ready_more more s.ready; trusted = s.trusted }

-- ---- disks that a crash may mix

any_more : (P : List ℕ → Type 0) (xs : List (List ℕ)) (y : List ℕ) → Any P xs → Any P (xs ++ y ∷ [])
any_more P xs y (k, x, below, is, has) = (k, x, grind (arith, common_steps), get_or_append_left xs (y ∷ []) x k below ∙ is, has)

pub kept_more : (disks : List (List ℕ)) (other disk : List ℕ) → length disk ≡ length other → Kept disks disk → Kept (disks ++ other ∷ []) disk
kept_more disks other disk long kept = record {
  long = All-push (λ d. length disk ≡ length d) disks other kept.long long;
  kept = λ k below. any_more (λ d. sector d k ≡ sector disk k) disks other (kept.kept k below);
}

-- an event may mix in one disk more
pub kept_in_event : (disks : List (List ℕ)) (event : Event) (other disk : List ℕ) → length disk ≡ length other → Kept disks disk
    → Kept (kept_during disks event other) disk
kept_in_event disks (Guest r) other disk long kept = elim (cases_Bool (is_write r.work)) [
  | inl e ↦ rw e (kept_more disks other disk long kept)
  | inr e ↦ rw e kept
]
kept_in_event disks (Monitor c) other disk long kept = kept
kept_in_event disks Tick other disk long kept = kept

-- the disk now is one that a crash may leave
pub mixes_keep : {h : History} {disks : List (List ℕ)} → IsHistory h → Mixes h disks → Kept disks (now h)
mixes_keep {h} {disks} history mixes = record {
  long = All-weaker (IsLikeDisk h) (λ d. length (now h) ≡ length d) (λ d is. length-now h history.inside ∙ sym is.long) disks mixes.alike;
  kept = λ k below. (mixes.among.0, now h, mixes.among.1, mixes.among.2, refl);
}

-- ---- one file

-- a source's header has no record
pub no_record : {file disk id bytes : List ℕ} {epoch : ℕ} {store : Store} {h : Header}
    → IsSourceOf file disk id epoch store → Spells parts.Target file h → h.own ≡ owns.Target bytes → ⊥
no_record {file} {disk} {id} {bytes} {epoch} source spelled own =
    let same = one_in file source.spelled.extensions spelled.extensions source.spelled.listed spelled.listed in
    differ id epoch source.spans_offset source.spans_length bytes
    (sym source.own ∙ source.spelled.own ∙ ap (λ es. own_in file (first_of_kind own_kind es)) same ∙ sym spelled.own ∙ own)
  where
    differ : (id : List ℕ) (a b c : ℕ) (bytes : List ℕ) → owns.Source id a b c ≡ owns.Target bytes → ⊥
    differ id a b c bytes e = absurd (cc)

-- no file is both a source and a backup
pub one_kind : {file disk id bytes : List ℕ} {epoch : ℕ} {store other : Store} → IsSourceOf file disk id epoch store → IsBackupFile file bytes other → ⊥
one_kind source target = no_record source target.spelled target.own

-- an image that is ready for the history itself is safe
pub ready_is_safe : {allows : List Directory} {id : List ℕ} {h : History} {mixed : List (List ℕ)} {file : List ℕ} → IsHistory h → (n : ℕ) × (length (now h) ≡ n * 512) → Kept mixed (now h)
    → IsReady allows id h file → IsSafe allows id h mixed file
ready_is_safe {allows} {id} {h} {mixed} {file} history whole kept ready = record {
  disk = now h;
  like = record { long = length-now h history.inside; whole = whole };
  kept = kept;
  ready = subst (λ (g : History). IsReady allows id g file) (sym (nothing_settles h)) ready;
  trusted = λ e here trusted. refl;
}
