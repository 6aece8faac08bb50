-- A job of which nothing is missing, and what a copy and the disk have together.
use Rattle.std.proofs.lemmas.Grind.{common_steps}
use Rattle.std.proofs.Common.{rules}
use Rattle.std.proofs.Common.{◌≡◌, ℕ, ◌/◌, ◌<◌, Bool, false, inl, inr, refl, sym, ◌∙◌, arith, List, ◌++◌, length}
use Rattle.std.specs.Prelude.{None, IsTrue, Contains, if◌then◌else◌, slice_index}
use Rattle.std.proofs.lemmas.List.{ext_get_or}
use Rattle.std.proofs.lemmas.List.Elements.{All-contains, Contains-append_left}
use Rattle.std.proofs.lemmas.Bool.{both_ways, cases_Bool, false_from_ne_true}
use Rattle.span_algebra.specs.declared.spans.Base.{Base}
use Rattle.bitmap_model.specs.Granules.{is_in}
use Rattle.bitmap_model.specs.Copies.{IsPart, CopyTruth}
use Rattle.bitmap_model.proofs.Copies.{none_missing}
use Rattle.plain_model.specs.History.{History}
use Rattle.plain_model.specs.Jobs.{Job, unit_of, next_unit}
use Rattle.plain_model.specs.Machine.{Machine, size_of}
use Rattle.plain_model.specs.Records.{is_present, BaseHolds}
use Rattle.image_model.specs.Backups.{Backup}
use Rattle.plain_model.specs.Sound.{ScopeHolds, IsSoundJob, IsSound}
use Rattle.plain_model.specs.Laws.{HoldsCopies, sealed_by, Completes}
use Rattle.plain_model.proofs.Points.{length-disk_at}

-- ---- a job of which nothing is missing

-- two sets of as many units, each a part of the other, are one
one_set : (a b : List Bool) → length a ≡ length b → IsPart a b → IsPart b a → a ≡ b
one_set a b long there back = ext_get_or false a b long
    (λ k _. elim (cases_Bool (is_in a k)) [
      | inl here ↦ here ∙ sym (there k here)
      | inr absent ↦ absent ∙ sym (false_from_ne_true (is_in b k) (λ other. both_ways (is_in a k) absent (back k other)))
    ])

base_done : (h : History) (j : Job) (b : Backup) (base : Base) → ((x : ℕ) → IsTrue (is_in j.scope (x / unit_of j)) → IsTrue (is_present b x))
    → ScopeHolds h j base → BaseHolds h b base j.point
base_done h j b o done holds = grind (arith, common_steps)

pub completed_is_true : (m : Machine) (j : Job) (id content : List ℕ) (present : List Bool) → IsSound m → Contains m.jobs j → next_unit j ≡ None
    → HoldsCopies m.history j present content → Completes m j id present content
completed_is_true m j id content present sound here none holds =
    let job : IsSoundJob m.history j = All-contains (IsSoundJob m.history) (m.jobs ++ m.views) j sound.state.jobs_are.each (Contains-append_left m.jobs m.views j here) in
    let done : IsPart j.scope j.copied = none_missing j.scope j.copied none in
    record {
      holds = (
        record {
          drawn = job.drawn;
          sized = refl;
          reads = λ x inside there. holds.reads x (omega (arith, length-disk_at m.history j.point sound.history_is.inside)) there;
        },
        base_done m.history j (sealed_by id (size_of m) content j) j.base (λ x there. done (x / unit_of j) there) job.scope_is,
      );
      exactly = holds.exactly ∙ one_set j.copied j.scope job.shape.copied_count job.shape.in_scope done;
    }

-- ---- a copy and the disk

pub read_as_point : (unit : ℕ) (scope copied present : List Bool) (at_point disk copy : List ℕ) (x : ℕ) → CopyTruth unit scope copied at_point disk present copy
    → x < length at_point → IsTrue (is_in scope (x / unit)) → (if is_in copied (x / unit) then slice_index copy x else slice_index disk x) ≡ slice_index at_point x
read_as_point unit scope copied present at_point disk copy x truth inside there = search rules
