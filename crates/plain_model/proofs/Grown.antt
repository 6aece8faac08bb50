-- Jobs that have copied more.
use Rattle.std.proofs.Common.{rules}
use Rattle.std.proofs.Common.{◌≡◌, ℕ, List, [], ◌∷◌, Bool, true, Option, Some, None, IsTrue, All, length, refl, sym, ap, ◌∙◌, arith}
use Rattle.std.proofs.lemmas.List.{length-set}
use Rattle.std.proofs.lemmas.List.Elements.{All-nil, All-cons, All-head, All-tail}
use Rattle.std.proofs.lemmas.Option.{none-some}
use Rattle.bitmap_model.specs.Granules.{is_in}
use Rattle.bitmap_model.specs.Copies.{is_missing, IsPart}
use Rattle.bitmap_model.proofs.Sets.{in_length}
use Rattle.bitmap_model.proofs.Copies.{set_has, set_has_own, set_is_part}
use Rattle.core_events.specs.declared.answers.JobFault.{JobFault}
use Rattle.plain_model.specs.History.{History}
use Rattle.image_model.specs.Space.{Store, IsShapedStore}
use Rattle.plain_model.specs.Jobs.{Job, Tried, unit_of, with_copied, copies}
use Rattle.plain_model.specs.Sound.{IsSoundJob}
use Rattle.plain_model.proofs.Stores.{written_is_shaped, written_cluster}

-- the job with these units copied, and its target's store as it is then
abbrev pub with_copies : List Bool → Store → Job → Job
with_copies copied store j = record j { copied = copied; store = store }

-- more units of the scope are copied, and nothing else of the job changed but its target's store, which stays in shape
pub record IsGrown (j new : Job) : Type 0 where
  pub same : new ≡ with_copies new.copied new.store j
  pub count : length new.copied ≡ length j.copied
  pub grows : IsPart j.copied new.copied
  pub part : IsPart new.copied j.scope
  pub unit : unit_of new ≡ unit_of j
  pub shaped : (size : ℕ) → IsShapedStore size j.store → IsShapedStore size new.store

pub grown_scope : (j new : Job) → IsGrown j new → new.scope ≡ j.scope
grown_scope j new g = ap (λ (i : Job). i.scope) g.same

grown_itself : (j : Job) → IsPart j.copied j.scope → IsGrown j j
grown_itself j part = search rules

grown_further : (j mid new : Job) → IsGrown j mid → IsGrown mid new → IsGrown j new
grown_further j mid new g more = search rules

grown_by_one : (size n : ℕ) (j : Job) → IsPart j.copied j.scope → IsTrue (is_in j.scope n) → IsGrown j (with_copied size n j)
grown_by_one size n j part here = search (rules, length-set, set_has_own, set_is_part, here, written_cluster, written_is_shaped)

-- ---- copying

-- of what was tried a part holds where it holds of a stop at this unit, and of the rest after it
tried_cases : (P : Tried → Type 0) (size : ℕ) (fails : Option ℕ) (n : ℕ) (units : List ℕ) (j : Job) → ((fault : JobFault) → P (record { job = j; stop = Some fault }))
    → P (copies size fails units (with_copied size n j)) → P (copies size fails (n ∷ units) j)
tried_cases P size fails n units j stopped goes = search rules

-- whatever units are tried, nothing else of the job changes
pub copies_same : (size : ℕ) (fails : Option ℕ) (units : List ℕ) (j : Job)
    → (copies size fails units j).job ≡ with_copies (copies size fails units j).job.copied (copies size fails units j).job.store j
copies_same size fails [] j = refl
copies_same size fails (n ∷ units) j = search (rules, copies_same size fails units (with_copied size n j))

pub copies_grow : (size : ℕ) (fails : Option ℕ) (units : List ℕ) (j : Job) → IsPart j.copied j.scope → All (λ (n : ℕ). IsTrue (is_in j.scope n)) units
    → IsGrown j (copies size fails units j).job
copies_grow size fails [] j part here = grown_itself j part
copies_grow size fails (n ∷ units) j part here =
    let InScope : ℕ → Type 0 = λ k. IsTrue (is_in j.scope k) in
    let one : IsGrown j (with_copied size n j) = grown_by_one size n j part (All-head InScope n units here) in
    tried_cases (λ (t : Tried). IsGrown j t.job) size fails n units j (λ fault. grown_itself j part)
    (grown_further j (with_copied size n j) (copies size fails units (with_copied size n j)).job one
    (copies_grow size fails units (with_copied size n j) one.part (All-tail InScope n units here)))

-- where nothing stopped it, each of the units is copied
pub copies_all : (size : ℕ) (fails : Option ℕ) (units : List ℕ) (j : Job) → IsPart j.copied j.scope → All (λ (n : ℕ). IsTrue (is_in j.scope n)) units
    → length j.copied ≡ length j.scope → (copies size fails units j).stop ≡ None
    → All (λ (n : ℕ). IsTrue (is_in (copies size fails units j).job.copied n)) units
copies_all size fails [] j part here long = λ goes. All-nil (λ (n : ℕ). IsTrue (is_in j.copied n))
copies_all size fails (n ∷ units) j part here long =
    let InScope : ℕ → Type 0 = λ k. IsTrue (is_in j.scope k) in
    let first : IsTrue (is_in j.scope n) = All-head InScope n units here in
    let one : IsGrown j (with_copied size n j) = grown_by_one size n j part first in
    let rest : Tried = copies size fails units (with_copied size n j) in
    tried_cases (λ (t : Tried). t.stop ≡ None → All (λ (k : ℕ). IsTrue (is_in t.job.copied k)) (n ∷ units)) size fails n units j
    (λ fault stops. absurd (none-some fault (sym stops)))
    (λ goes.
    All-cons (λ (k : ℕ). IsTrue (is_in rest.job.copied k)) n units
    ((copies_grow size fails units (with_copied size n j) one.part (All-tail InScope n units here)).grows n
    (set_has j.copied n (omega (arith, long, in_length j.scope n first))))
    (copies_all size fails units (with_copied size n j) one.part (All-tail InScope n units here) (one.count ∙ long) goes))

-- ---- what stays true of a job that has copied more

pub missing_before : (j new : Job) → IsGrown j new → (k : ℕ) → is_missing j.scope new.copied k ≡ true → is_missing j.scope j.copied k ≡ true
missing_before j new g k missing = search rules

pub grown_is_sound : (h : History) (j new : Job) → IsGrown j new → IsSoundJob h j → IsSoundJob h new
grown_is_sound h j new g s = search rules
