-- What a write, a write of zeros and a zero make of an image's clusters, and what they need.
use Rattle.std.proofs.Common.{◌≡◌, ℕ, ◌+◌, ◌-◌, ◌<◌, ◌≤◌, List, length, Bool, true, false, ◌&&◌, None, refl, sym, ap, subst, ◌∙◌, arith, ltb-false, ltb-true}
use Rattle.std.specs.Prelude.{◌≢◌, nat_lt, ◌||◌, replicate, Result, Ok, Err}
use Rattle.std.proofs.lemmas.Bool.{or_parts}
use Rattle.disk_model.specs.declared.depot.WriteRefusal.{WriteRefusal}
use Rattle.disk_model.specs.declared.depot.WriteRefusal.TheVariants as refusals
use Rattle.span_algebra.specs.Timelines.{Extent}
use Rattle.core_events.specs.Events.{Request}
use Rattle.core_events.specs.declared.events.Work.{Work}
use Rattle.core_events.specs.declared.events.Work.TheVariants.{Write, Zero}
use Rattle.image_model.specs.Space.{Store, Change, need, store_written, freed_by_write, store_zeroed, freed_by_zero}
use Rattle.plain_model.specs.History.{History}
use Rattle.plain_model.specs.Machine.{Machine}
use Rattle.plain_model.specs.Requests.{HasBytes, is_write, stores, range_of, longest}
use Rattle.plain_model.specs.Outcome.{bytes_of}
use Rattle.plain_model.specs.Lawful.{syncs}
use Rattle.core_node.specs.Standing.{Shown}
use Rattle.plain_model.specs.Step.{change_by}
use Rattle.drive_core.specs.Drive.{Drive, machine_of, denies, is_bad}
use Rattle.drive_core.proofs.Denials.{granted_is}
use Rattle.drive_core.proofs.Changes.{is_short}

abbrev pub written : Store → Extent → Change
written s e = record { store = store_written s e; freed = freed_by_write s e }

abbrev pub zeroed : ℕ → Store → Extent → Change
zeroed size s e = record { store = store_zeroed size s e; freed = freed_by_zero size s e }

-- one that stores its range
module _ (r : Request) (e : Extent) (range : range_of r ≡ e) (stored : stores r.work ≡ true) (s : Store) where
  short_is : is_short r s ≡ nat_lt s.room (need s e)
  short_is = ap (λ (b : Bool). b && nat_lt s.room (need s (range_of r))) stored ∙ ap (λ (x : Extent). nat_lt s.room (need s x)) range

  pub has_room : is_short r s ≡ false → need s e ≤ s.room
  has_room fits = ltb-false s.room (need s e) (sym short_is ∙ fits)

  pub lacks_room : is_short r s ≡ true → s.room < need s e
  lacks_room lacks = ltb-true s.room (need s e) (sym short_is ∙ lacks)

  pub fits : need s e ≤ s.room → is_short r s ≡ false
  fits low = short_is ∙ not_below s.room (need s e) low
    where
      not_below : (a b : ℕ) → b ≤ a → nat_lt a b ≡ false
      not_below a b low = grind (arith, low)

  pub lacks : s.room < need s e → is_short r s ≡ true
  lacks low = short_is ∙ below s.room (need s e) low
    where
      below : (a b : ℕ) → a < b → nat_lt a b ≡ true
      below a b low = grind (arith, low)

  pub takes_few : is_short r s ≡ false → need s e ≤ s.room - (store_written s e).room
  unfolding store_written
  takes_few room = let low = has_room room in omega (arith, low)

-- a zero that may leave holes never lacks room
pub never_short : (r : Request) (fua : Bool) (s : Store) → r.work ≡ Zero fua false → is_short r s ≡ false
never_short r fua s work = ap (λ (w : Work). stores w && nat_lt s.room (need s (range_of r))) work

pub makes_zeroed : (d : Drive) (r : Request) (fua : Bool) (s : Store) → r.work ≡ Zero fua false → (freed : ℕ) (h : History) → length h.start ≡ d.facts.size → change_by r r.work (machine_of d s freed h) ≡ zeroed d.facts.size s (range_of r)
makes_zeroed d r fua s work freed h start = ap (λ (w : Work). change_by r w (machine_of d s freed h)) work ∙ ap (λ (n : ℕ). zeroed n s (range_of r)) start

-- a request that stores these bytes on its range
pub record IsStored (r : Request) (fua : Bool) (bytes : List ℕ) (e : Extent) : Type 0 where
  pub writes : is_write r.work ≡ true
  pub stored : stores r.work ≡ true
  pub asks : syncs r.work ≡ fua
  pub has : HasBytes r r.work
  pub bytes_are : bytes ≡ bytes_of r r.work
  pub range : range_of r ≡ e
  pub makes : (m : Machine) → change_by r r.work m ≡ written m.store e

-- a write's bytes are as many as its range
pub write_is : (d : Shown) (r : Request) (fua : Bool) (bytes : List ℕ) → r.work ≡ Write fua → denies d r ≡ None → HasBytes r r.work → bytes ≡ r.bytes → IsStored r fua bytes (record { at = r.offset; size = length bytes })
write_is d r fua bytes work none has same =
    let good : (nat_lt d.size (r.offset + r.length) || nat_lt longest r.length) ≡ false = sym (ap (λ (w : Work). is_bad d r w) work) ∙ (granted_is d r none).good in
    let short : r.length ≤ longest = ltb-false longest r.length (or_parts (nat_lt d.size (r.offset + r.length)) (nat_lt longest r.length) good).1 in
    let long : length r.bytes ≡ r.length = (subst (HasBytes r) work has) short in
    let range : range_of r ≡ record { at = r.offset; size = length bytes } = ap (λ (n : ℕ). record { at = r.offset; size = n }) (sym (ap length same ∙ long)) in
    record {
      writes = ap is_write work;
      stored = ap stores work;
      asks = ap syncs work;
      has = has;
      bytes_are = same ∙ sym (ap (λ (w : Work). bytes_of r w) work);
      range = range;
      makes = λ m. ap (λ (w : Work). change_by r w m) work ∙ ap (λ (x : Extent). written m.store x) range;
    }

pub zeros_are : (r : Request) (fua : Bool) → r.work ≡ Zero fua true → IsStored r fua (replicate r.length 0) (range_of r)
zeros_are r fua work = record {
  writes = ap is_write work;
  stored = ap stores work;
  asks = ap syncs work;
  has = subst (HasBytes r) (sym work) tt;
  bytes_are = sym (ap (λ (w : Work). bytes_of r w) work);
  range = refl;
  makes = λ m. ap (λ (w : Work). change_by r w m) work;
}

-- what came out is one thing
pub ok_not_failed : {T : Type 0} (r : Result T WriteRefusal) (x : T) → r ≡ Ok x → r ≢ Err refusals.Failed
ok_not_failed r x ok failed = absurd (cc)

pub full_not_failed : {T : Type 0} (r : Result T WriteRefusal) (why : WriteRefusal) → r ≡ Err why → why ≡ refusals.NoRoom → r ≢ Err refusals.Failed
full_not_failed r why is full failed = absurd (cc)
