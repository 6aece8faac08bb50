-- A write or a zero, from the contract of the image's call and of what a FUA adds.
use Rattle.std.proofs.Common.{◌≡◌, inl, inr, ⊎_elim, ℕ, ◌-◌, ◌≤◌, List, [], ◌∷◌, ◌++◌, length, Bool, true, false, ◌&&◌, IsTrue, Option, Some, None, sym, ap, subst, ◌∙◌}
use Rattle.std.specs.Prelude.{if◌then◌else◌}
use Rattle.std.proofs.lemmas.Bool.{cases_Bool, false≢true}
use Rattle.disk_model.specs.Files.{overlay}
use Rattle.disk_model.specs.World.{World, Runs, only_file, Rose, FileFailed}
use Rattle.disk_model.proofs.Laws.{run_on, rose_after, file_failed_after}
use Rattle.span_algebra.specs.declared.lists.Run.{Run}
use Rattle.core_events.specs.Views.{plain_reply}
use Rattle.core_events.specs.Events.{Request, Guest}
use Rattle.core_events.specs.declared.answers.Reply as reply_type
use Rattle.core_events.specs.declared.answers.Reply.TheVariants as reply
use Rattle.core_events.specs.declared.answers.Errno.TheVariants as errno
use Rattle.core_events.specs.declared.answers.Errno.TheVariants.{Io, NoSpace}
use Rattle.core_events.specs.Answers.{Reply, Done, Fault}
use Rattle.image_model.specs.Space.{Store, Change}
use Rattle.plain_model.specs.History.{History}
use Rattle.plain_model.specs.Machine.{next_number}
use Rattle.plain_model.specs.Step.{change_by}
use Rattle.plain_model.specs.Requests.{HasBytes, is_write}
use Rattle.plain_model.specs.Outcome.{bytes_of}
use Rattle.plain_model.specs.Lawful.{syncs}
use Rattle.core_layers.specs.Layers.{Facts, Spends, WritesDisk, MayBreak, KeepsHead}
use Rattle.drive_core.specs.Drive.{Drive, shown_of, machine_of, next, denies, Keeps, Answers}
use Rattle.drive_core.specs.Settling.{Settles}
use Rattle.drive_core.proofs.Laws.{Knows, IsBare}
use Rattle.drive_core.proofs.Denials.{granted_is}
use Rattle.drive_core.proofs.Going.{after}
use Rattle.drive_core.proofs.Puts.{Puts, put, settled, cluster_stays}
use Rattle.drive_core.proofs.Changes.{Knowing, after_it, never, is_short, well_answers, torn_answers, lost_answers, short_answers}

-- What a call of the image that changes the disk says, whatever it answered.
pub record Changes (f : Facts) (event : ℕ) (was is : Option ℕ) (holds holding : List ℕ → List (List ℕ) → Type 0) (clusters goal then_clusters : Store) (most at : ℕ) (wanted : List ℕ) (well : Type 0) (old new : World) : Type 0 where
  pub writes : IsTrue old.tells → (left : List ℕ) × (well → left ≡ wanted) × ((disk : List ℕ) (mixed : List (List ℕ)) → holds disk mixed → WritesDisk f.file f.id f.directory at wanted left disk mixed holding old new)
  pub space : (disk : List ℕ) (mixed : List (List ℕ)) → IsTrue old.tells → holds disk mixed → Spends clusters goal then_clusters most
  pub breaks : MayBreak f.file event was is old new
  pub head : (disk : List ℕ) (mixed : List (List ℕ)) → holds disk mixed → KeepsHead f.file clusters.cluster old new
  pub run : Runs (only_file f.file) old new

-- the same of what was known before the event's number was told
pub begun : {f : Facts} {event : ℕ} {was is : Option ℕ} {known holds holding : List ℕ → List (List ℕ) → Type 0} {clusters goal then_clusters : Store} {most at : ℕ} {wanted : List ℕ} {well : Type 0} {old new : World}
    → ((disk : List ℕ) (mixed : List (List ℕ)) → known disk mixed → holds disk mixed) → Changes f event was is holds holding clusters goal then_clusters most at wanted well old new → Changes f event was is known holding clusters goal then_clusters most at wanted well old new
begun goes c = record {
  writes = λ told. (let w = c.writes told in (w.0, w.1, λ disk mixed k. w.2 disk mixed (goes disk mixed k)));
  space = λ disk mixed told k. c.space disk mixed told (goes disk mixed k);
  breaks = c.breaks;
  head = λ disk mixed k. c.head disk mixed (goes disk mixed k);
  run = c.run;
}

-- and of the drive before it
pub from_begun : (d b : Drive) (event : ℕ) {is : Option ℕ} {holds holding : List ℕ → List (List ℕ) → Type 0} {clusters was then_clusters : Store} (goal : ℕ → Store → Store) (most : Store → ℕ) {at : ℕ} {wanted bytes : List ℕ} {well : Type 0} {old new : World}
    → b ≡ next d → event ≡ b.event → clusters ≡ was → bytes ≡ wanted
    → Changes b.facts event b.broken is holds holding clusters (goal b.facts.size clusters) then_clusters (most clusters) at bytes well old new
    → Changes d.facts (next_number d.event) d.broken is holds holding was (goal d.facts.size was) then_clusters (most was) at wanted well old new
from_begun d b event {is} {holds} {holding} {clusters} {was} {then_clusters} goal most {at} {wanted} {bytes} {well} {old} {new} begin number same wrote c =
    subst (λ (bs : List ℕ). Changes d.facts (next_number d.event) d.broken is holds holding was (goal d.facts.size was) then_clusters (most was) at bs well old new) wrote
    (subst (λ (s : Store). Changes d.facts (next_number d.event) d.broken is holds holding s (goal d.facts.size s) then_clusters (most s) at bytes well old new) same
    (subst (λ (n : ℕ). Changes d.facts n d.broken is holds holding clusters (goal d.facts.size clusters) then_clusters (most clusters) at bytes well old new) (number ∙ ap (λ (x : Drive). x.event) begin)
    (subst (λ (x : Drive). Changes x.facts event x.broken is holds holding clusters (goal x.facts.size clusters) then_clusters (most clusters) at bytes well old new) begin c)))

-- the drive as the calls left it
pub drive_is : (d : Drive) (f : Facts) (event : ℕ) (ended : Bool) (room : ℕ) (broken : Option ℕ) → f ≡ d.facts → event ≡ next_number d.event → ended ≡ d.ended
    → record { facts = f; room = room; broken = broken; event = event; ended = ended } ≡ after broken room d.ended d
drive_is d f event ended room broken a b c = λ i. record { facts = a i; room = room; broken = broken; event = b i; ended = c i }

pub same_knowing : {f g : Facts} {room : ℕ} {holds : Knows} {space : World → Store} → g ≡ f → Knowing g room holds space → Knowing f room holds space
same_knowing {room = room} {holds = holds} {space = space} same k = subst (λ (x : Facts). Knowing x room holds space) same k

some_none : (n : ℕ) → Some n ≡ None → ⊥
some_none n is = absurd (cc)

module _ (d : Drive) (r : Request) (writes : is_write r.work ≡ true) (has : HasBytes r r.work) (undenied : denies (shown_of d) r ≡ None)
    (holds : World → List ℕ → List (List ℕ) → Type 0) (space : World → Store) (old : World) (before : Knowing d.facts d.room holds space) (bare : IsBare d.facts holds)
    (goal : Change) (most : ℕ) (makes : (freed : ℕ) (h : History) → length h.start ≡ d.facts.size → change_by r r.work (machine_of d (space old) freed h) ≡ goal)
    (few : is_short r (space old) ≡ false → most ≤ (space old).room - goal.store.room) where
  abbrev pub WhereHeld : Type 0 → Type 0
  WhereHeld P = (disk : List ℕ) (mixed : List (List ℕ)) → IsTrue old.tells → holds old disk mixed → P

  abbrev pub AnswersAs : (World → List ℕ → List (List ℕ) → Type 0) → (World → Store) → ℕ → Option ℕ → World → Reply → Type 0
  AnswersAs holding spacing room is new said = Answers (shown_of d) (shown_of (after is room d.ended d)) (Keeps d holds space old) (Keeps (after is room d.ended d) holding spacing new) old new (Guest r) said

  -- ---- a call that failed or lacked room

  module _ (holding : World → List ℕ → List (List ℕ) → Type 0) (spacing : World → Store) (room : ℕ) (is : Option ℕ) (new : World) (well : Type 0) (then_laws : Knowing d.facts room holding spacing)
      (call : Changes d.facts (next_number d.event) d.broken is (holds old) (holding new) (space old) goal.store (spacing new) most r.offset (bytes_of r r.work) well old new)
      (kept : WhereHeld (is_short r (space old) ≡ true → (is ≡ d.broken) × (new.seen d.facts.file ≡ old.seen d.facts.file) × (spacing new ≡ space old))) where
    ends : IsTrue old.tells → (left : List ℕ) × ((disk : List ℕ) (mixed : List (List ℕ)) → holds old disk mixed → Puts d.facts (space old).cluster r.offset (bytes_of r r.work) left (syncs r.work && false) (holding new) disk mixed old new)
    ends told =
        let w = call.writes told in
        (w.0, λ disk mixed k. subst (λ (b : Bool). Puts d.facts (space old).cluster r.offset (bytes_of r r.work) w.0 b (holding new) disk mixed old new) (sym (never (syncs r.work))) (put (w.2 disk mixed k) (call.head disk mixed k)))

    torn : (broke : Bool) → WhereHeld (is_short r (space old) ≡ false) → FileFailed d.facts.file old new → (IsTrue broke → Rose (old.faults.writes d.facts.file) (new.faults.writes d.facts.file))
        → AnswersAs holding spacing room (after_it broke room d).broken new (Fault Io)
    torn broke fits failed tied = torn_answers d r writes has undenied holds holding space spacing room old new call.run before then_laws bare goal most broke makes ends fits call.space (λ disk mixed told k. few (fits disk mixed told k)) failed tied

    at_broken : (said : Reply) (other : Option ℕ) → is ≡ other → AnswersAs holding spacing room other new said → AnswersAs holding spacing room is new said
    at_broken said other same answers = subst (λ (x : Option ℕ). AnswersAs holding spacing room x new said) (sym same) answers

    pub failed_call : FileFailed d.facts.file old new → AnswersAs holding spacing room is new (Fault Io)
    failed_call failed = ⊎_elim
        (λ (same : is ≡ d.broken). at_broken (Fault Io) d.broken same (elim (cases_Bool (is_short r (space old))) [
          | inl lacks ↦ lost_answers d r writes has undenied holds holding space spacing room old new call.run before then_laws bare ends (λ disk mixed told k. (kept disk mixed told k lacks).1) (λ disk mixed told k. (kept disk mixed told k lacks).2) failed
          | inr fits ↦ torn false (λ disk mixed told k. fits) failed (λ broke. absurd (false≢true broke))
        ]))
        (λ (broke : (d.broken ≡ None) × (is ≡ Some (next_number d.event)) × Rose old.faults.shared new.faults.shared × Rose (old.faults.writes d.facts.file) (new.faults.writes d.facts.file)).
        at_broken (Fault Io) (Some (next_number d.event)) broke.1 (torn true (λ disk mixed told k. elim (cases_Bool (is_short r (space old))) [
          | inl lacks ↦ absurd (some_none (next_number d.event) (sym broke.1 ∙ (kept disk mixed told k lacks).0 ∙ broke.0))
          | inr fits ↦ fits
        ]) failed (λ _. broke.3)))
        call.breaks

    pub short_call : WhereHeld (is_short r (space old) ≡ true) → is ≡ d.broken → AnswersAs holding spacing room is new (Fault NoSpace)
    short_call lacks same = at_broken (Fault NoSpace) d.broken same
        (short_answers d r writes has undenied holds holding space spacing room old new call.run before then_laws bare ends (λ disk mixed told k. (kept disk mixed told k (lacks disk mixed told k)).1)
        (λ disk mixed told k. (kept disk mixed told k (lacks disk mixed told k)).2) lacks)

  -- ---- one that went well, and what a FUA adds

  module _ (between holding : World → List ℕ → List (List ℕ) → Type 0) (clusters spacing : World → Store) (other_room room : ℕ) (was is : Option ℕ) (mid new : World) (well : Type 0)
      (mid_laws : Knowing d.facts other_room between clusters) (then_laws : Knowing d.facts room holding spacing)
      (call : Changes d.facts (next_number d.event) d.broken was (holds old) (between mid) (space old) goal.store (clusters mid) most r.offset (bytes_of r r.work) well old mid)
      (went : well) (whole : was ≡ d.broken) (fits : WhereHeld (is_short r (space old) ≡ false)) (spent : WhereHeld (clusters mid ≡ goal.store))
      (asked ok : Bool) (asks : syncs r.work ≡ asked) (event : ℕ) (event_is : event ≡ next_number d.event) (settle : Settles asked ok d.facts (clusters mid).cluster event was is (between mid) (holding new) mid new)
      (run : Runs (only_file d.facts.file) mid new) (same : spacing new ≡ clusters mid) where
    both : Runs (only_file d.facts.file) old new
    both = run_on call.run run

    settled_ends : IsTrue old.tells → (left : List ℕ) × (left ≡ bytes_of r r.work) × ((disk : List ℕ) (mixed : List (List ℕ)) → holds old disk mixed → Puts d.facts (space old).cluster r.offset (bytes_of r r.work) left (syncs r.work && ok) (holding new) disk mixed old new)
    settled_ends told =
        let w = call.writes told in
        let told_mid : IsTrue mid.tells = subst IsTrue (sym call.run.goes.tells) told in (
          w.0,
          w.1 went,
          λ disk mixed k. subst (λ (b : Bool). Puts d.facts (space old).cluster r.offset (bytes_of r r.work) w.0 (b && ok) (holding new) disk mixed old new) (sym asks)
              (settled asked ok call.run run (w.2 disk mixed k) (call.head disk mixed k)
              (subst (λ (n : ℕ). Settles asked ok d.facts n event was is (between mid) (holding new) mid new)
              (cluster_stays told told_mid (before.has_space old disk mixed told k).0 (mid_laws.has_space mid (overlay disk r.offset w.0) (mixed ++ overlay disk r.offset w.0 ∷ []) told_mid (w.2 disk mixed k).after).0 (before.has_head old disk mixed told k) (call.head disk mixed k)) settle)),
        )

    pub settled_well : ok ≡ true → AnswersAs holding spacing room is new Done
    settled_well good = subst (λ (x : Option ℕ). AnswersAs holding spacing room x new Done) (sym (settle.whole good ∙ whole))
        (well_answers d r writes has undenied holds holding space spacing room old new both before then_laws bare goal makes
        (λ told. (let e = settled_ends told in (e.0, e.1, λ disk mixed k. subst (λ (b : Bool). Puts d.facts (space old).cluster r.offset (bytes_of r r.work) e.0 (syncs r.work && b) (holding new) disk mixed old new) good (e.2 disk mixed k))))
        fits (λ disk mixed told k. same ∙ spent disk mixed told k))

    pub settled_ill : ok ≡ false → AnswersAs holding spacing room is new (Fault Io)
    settled_ill ill =
        let s = settle.failed ill in
        let stood : was ≡ None = whole ∙ (granted_is (shown_of d) r undenied).whole in
        let failed : FileFailed d.facts.file old new = file_failed_after call.run s.3 in
        ⊎_elim (λ (still : is ≡ was). absurd (s.2 (still ∙ stood)))
        (λ (broke : (was ≡ None) × (is ≡ Some event) × Rose mid.faults.shared new.faults.shared × Rose (mid.faults.writes d.facts.file) (new.faults.writes d.facts.file)).
        subst (λ (x : Option ℕ). AnswersAs holding spacing room x new (Fault Io)) (sym (broke.1 ∙ ap (λ (n : ℕ). Some n) event_is))
        (torn_answers d r writes has undenied holds holding space spacing room old new both before then_laws bare goal most true makes
        (λ told. (let e = settled_ends told in (e.0, λ disk mixed k. subst (λ (b : Bool). Puts d.facts (space old).cluster r.offset (bytes_of r r.work) e.0 (syncs r.work && b) (holding new) disk mixed old new) ill (e.2 disk mixed k))))
        fits (λ disk mixed told k. subst (λ (x : Store). Spends (space old) goal.store x most) (sym same) (call.space disk mixed told k)) (λ disk mixed told k. few (fits disk mixed told k)) failed
        (λ _. rose_after (old.faults.writes d.facts.file) (mid.faults.writes d.facts.file) (new.faults.writes d.facts.file) (call.run.goes.counts.writes d.facts.file) broke.3)))
        s.1

    -- as the code answers it
    pub settled_call : (said : reply_type.Reply) (bytes : List ℕ) (runs : List Run) → said ≡ (if ok then reply.Done else reply.Fault errno.Io) → AnswersAs holding spacing room is new (plain_reply said bytes runs)
    settled_call said bytes runs says = subst (λ (x : reply_type.Reply). AnswersAs holding spacing room is new (plain_reply x bytes runs)) (sym says) (elim (cases_Bool ok) [
      | inl good ↦ subst (λ (b : Bool). AnswersAs holding spacing room is new (plain_reply (if b then reply.Done else reply.Fault errno.Io) bytes runs)) (sym good) (settled_well good)
      | inr ill ↦ subst (λ (b : Bool). AnswersAs holding spacing room is new (plain_reply (if b then reply.Done else reply.Fault errno.Io) bytes runs)) (sym ill) (settled_ill ill)
    ])
