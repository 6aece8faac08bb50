-- Files are taken exactly where they are a chain.
use Rattle.std.proofs.Common.{arith}
use Rattle.std.proofs.lemmas.Grind.{common_steps}
use Rattle.std.proofs.Common.{rules}
use Rattle.std.proofs.Common.{◌≡◌, ◌≢◌, ℕ, ◌+◌, Bool, true, refl, sym, ap, subst, List, [], ◌∷◌, map}
use Rattle.std.specs.Prelude.{Option, Some, None, Ok, not, ◌==◌, bytes_eq}
use Rattle.std.specs.Bool.{then_some}
use Rattle.std.proofs.lemmas.Bool.{eqb-true}
use Rattle.span_algebra.specs.declared.points.Point.{Point}
use Rattle.span_algebra.specs.declared.spans.Base.TheVariants.{Whole, Since, Loose}
use Rattle.span_algebra.specs.Points.{same_point}
use Rattle.span_algebra.proofs.PointOrder.{same_point-true}
use Rattle.monitor_model.specs.Commands.{first_of}
use Rattle.plain_model.specs.Records.{Follow, IsChain, ChainFault, OtherDisk, OtherSize, Gap, Link, first_fault, later_fault, point_in, refused_from, refused_file}
use Rattle.image_model.specs.Backups.{Backup, BackupState, Blank, Begun, Sealed}
use Rattle.plain_model.specs.Laws.{TakenAreChains}

-- ---- tests

-- a test found no fault, so it passed, and those after it found none
passed : {A : Type 0} (test : Bool) (fault : A) (tests : List (Option A)) → first_of (then_some (not test) fault ∷ tests) ≡ None → (test ≡ true) × (first_of tests ≡ None)
passed o fault tests none = grind (arith, common_steps)

abbrev or_rest : {A B : Type 0} → (A → B) → Option B → Option A → Option B
or_rest f rest None = rest
or_rest f rest (Some a) = Some (f a)

none_of : {A B : Type 0} (f : A → B) (rest : Option B) (o : Option A) → or_rest f rest o ≡ None → (o ≡ None) × (rest ≡ None)
none_of f rest o none = grind (arith, common_steps)

-- ---- one file

first_is_full : (state : BackupState) → first_fault state ≡ None → (p : Point) × (state ≡ Sealed Whole p)
first_is_full o none = grind (arith, common_steps)

-- what a file that is taken goes on from
pub record GoesOn (link : Link) (b : Backup) (state : BackupState) : Type 0 where
  pub end : Point
  pub state_is : state ≡ Sealed (Since link.point) end
  pub disk : b.id ≡ link.id
  pub size : b.size ≡ link.size

later_goes_on : (link : Link) (b : Backup) (state : BackupState) → later_fault link b state ≡ None → GoesOn link b state
later_goes_on link b Blank none = absurd (cc)
later_goes_on link b Begun none = absurd (cc)
later_goes_on link b (Sealed Whole q) none = absurd (cc)
later_goes_on link b (Sealed Loose q) none = absurd (cc)
later_goes_on link b (Sealed (Since a) q) none =
    let disk = passed (bytes_eq b.id link.id) OtherDisk (then_some (not (b.size == link.size)) OtherSize ∷ then_some (not (same_point a link.point)) Gap ∷ []) none in
    let size = passed (b.size == link.size) OtherSize (then_some (not (same_point a link.point)) Gap ∷ []) disk.1 in
    let base = passed (same_point a link.point) Gap [] size.1 in
    search (rules, ap (λ (p : Point). Sealed (Since p) q) (same_point-true a link.point base.0), eqb-true b.size link.size size.0)

-- ---- all files

follow_taken : (k : ℕ) (link : Link) (backups : List Backup) (end : Point) → Follow link.id link.size link.point backups end → refused_from k link (map Ok backups) ≡ None
follow_taken k link [] end follow = refl
follow_taken k link (b ∷ backups) end follow = search (rules, follow_taken (k + 1) (record link { point = follow.0 }) backups end follow.4)

taken_follow : (k : ℕ) (link : Link) (backups : List Backup) → refused_from k link (map Ok backups) ≡ None → (end : Point) × Follow link.id link.size link.point backups end
taken_follow k link [] none = (link.point, refl)
taken_follow k link (b ∷ backups) none =
    let both = none_of (λ (fault : ChainFault). record { file = k; fault = fault })
    (refused_from (k + 1) (record link { point = point_in link.point b.state }) (map Ok backups)) (later_fault link b b.state) none in
    let one : GoesOn link b b.state = later_goes_on link b b.state both.0 in
    let more = taken_follow (k + 1) (record link { point = one.end }) backups
    (subst (λ (state : BackupState). refused_from (k + 1) (record link { point = point_in link.point state }) (map Ok backups) ≡ None) one.state_is both.1) in
    (more.0, (one.end, one.state_is, one.disk, one.size, more.1))

chain_taken : (backups : List Backup) (p : Point) → IsChain backups p → refused_file (map Ok backups) ≡ None
chain_taken [] p chain = absurd chain
chain_taken (b ∷ backups) p chain =
    let start : Point = record { epoch = 0; serial = 0 } in
    subst (λ (state : BackupState). or_rest (λ (fault : ChainFault). record { file = 0; fault = fault })
    (refused_from 1 (record { id = b.id; size = b.size; point = point_in start state }) (map Ok backups)) (first_fault state) ≡ None) (sym chain.1)
    (follow_taken 1 (record { id = b.id; size = b.size; point = chain.0 }) backups p chain.2)

taken_chain : (backups : List Backup) → backups ≢ [] → refused_file (map Ok backups) ≡ None → (p : Point) × IsChain backups p
taken_chain [] some none = absurd (some refl)
taken_chain (b ∷ backups) some none = search (rules, none_of, first_is_full, taken_follow)

pub taken_are_chains : (backups : List Backup) → TakenAreChains backups
taken_are_chains backups = record { taken = taken_chain backups; chains = chain_taken backups }
