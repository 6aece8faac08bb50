-- An adoption: an image of another program gets an id.
use Rattle.std.proofs.Common.{◌≡◌, ◌⊎◌, inl, inr, ℕ, ◌≤◌, List, [], ◌∷◌, length, None, IsTrue, refl, sym, ap, ◌∙◌, subst, arith}
use Rattle.disk_model.specs.Files.{overlay}
use Rattle.disk_model.specs.World.{World, EachSinceSync, Holds}
use Rattle.disk_model.proofs.Laws.{sync_more}
use Rattle.file_device.specs.File.{file_of, Gives, Is}
use Rattle.first_sector.specs.Sectors.{New, OldOrNew}
use Rattle.qc_layout.specs.declared.header.Header.{Header}
use Rattle.qc_layout.specs.declared.header.Own.{Own}
use Rattle.qc_layout.specs.declared.header.Own.TheVariants as owns
use Rattle.qc_layout.specs.declared.header.Part.TheVariants as parts
use Rattle.qc_layout.specs.Disks.{Stands}
use Rattle.qc_layout.specs.Header.{fields_of}
use Rattle.qc_layout.specs.Spelling.{IsHeaderOf}
use Rattle.image_model.specs.Clusters.{Shape, IsSafe}
use Rattle.image_model.specs.Calls.{shape_of}
use Rattle.image_model.specs.Disks.{disk_of}
use Rattle.image_steps.proofs.Disk.{covered_by, disk_stands}
use Rattle.image_steps.proofs.Good.{is_shown}
use Rattle.qc_alloc.specs.Allocator.{Allocator}
use Rattle.image_store.specs.declared.finding.Wanted.TheVariants.{Adopted}
use Rattle.image_store.specs.Finding.{IsAllFound}
use Rattle.image_store.specs.Images.{IsInOrder}
use Rattle.image_store.specs.Opening.{IsForeign, IsAdopting, RewritesHeader, HasSector, new_header}
use Rattle.image_store.specs.Refusals.{own_refusal}
use Rattle.image_store.proofs.Behind.{far_place, behind_all, behind_forms, behind_disk}
use Rattle.image_store.proofs.Drawn.{HasNew, keeps_header, draws_header, redraws_header, safe_single, own_disk, drawn, turned, inside, has_drawn, turned_shape, turned_size, drawn_behind}
use Rattle.image_store.proofs.Epochs.{found_safe, respell}
use Rattle.image_store.proofs.Orders.{long_base, base_passes}

-- reads alone leave it as it was
pub adopting_same : (id disk found : List ℕ) → IsForeign disk found → IsAdopting id disk found found
adopting_same id disk found is = record { either = inl is; header = keeps_header found found is.header is.spelled is.spelled }

-- what isn't refused has no extension of the project's own
no_own : (own : Own) → own_refusal Adopted own ≡ None → own ≡ owns.Absent
no_own owns.Absent none = refl
no_own (owns.Source id epoch offset size_of) none = cc
no_own (owns.Target bytes) none = cc

module _ (found : List ℕ) (h : Header) (a : Allocator) (all : IsAllFound a found) (head : IsHeaderOf parts.Source found h) (bare : h.bitmaps ≡ None) where
  abbrev s : Shape
  s = shape_of found

  abbrev content : List ℕ
  content = disk_of s (fields_of found).size found

  is_safe : IsSafe s (found ∷ []) found
  is_safe = found_safe found h a all head bare

  pub foreign : own_refusal Adopted h.own ≡ None → IsForeign content found
  foreign none = record {
    header = h;
    spelled = head.spells;
    own = no_own h.own none;
    bare = bare;
    passes = all.passes;
    stands = disk_stands s (found ∷ []) found parts.Source all.opened.shape (long_base s (found ∷ []) found h all.opened.shape (λ k. refl) head bare is_safe)
        (base_passes s (found ∷ []) found h all.opened.shape (λ k. refl) head bare is_safe) is_safe;
  }

  module _ (id : List ℕ) (sector : List ℕ) (has : HasSector h id 0 sector) (long : length sector ≡ 512) where
    pub same_long : length found ≤ length found
    same_long = omega arith

    abbrev base : List ℕ
    base = drawn found h a.pool.next all.opened head bare id 0 sector has long found same_long

    abbrev t : Shape
    t = turned found h a.pool.next all.opened head bare id 0 sector has long found same_long

    new : HasNew h id 0 base
    new = has_drawn found h a.pool.next all.opened head bare id 0 sector has long found same_long

    counts_far : 512 ≤ s.counts
    counts_far = far_place s s.counts all.opened.shape.some all.opened.shape.counts_place

    first_far : 512 ≤ s.l1
    first_far = far_place s s.l1 all.opened.shape.some all.opened.shape.l1_place

    pub whole : 512 ≤ length found
    whole = inside found h a.pool.next all.opened head bare id 0 sector has long found same_long

    safe_t : IsSafe t (base ∷ []) base
    safe_t =
        let behind = drawn_behind found h a.pool.next all.opened head bare id 0 sector has long found same_long in
        record {
          counted = behind_all s all.opened.shape.some counts_far first_far found base behind s.base base all.opened.counted;
          forms = behind_forms s all.opened.shape.some counts_far first_far found base behind s.base base all.opened.forms;
          fixed = λ k held i low high. refl;
          kept = is_shown t [] base;
        }

    -- with the new sector it is a source of the same disk
    pub adopted : (disk : List ℕ) → Stands parts.Source found disk → IsInOrder id 0 disk base
    adopted disk stands =
        let behind = drawn_behind found h a.pool.next all.opened head bare id 0 sector has long found same_long in
        let shape_t = turned_shape found h a.pool.next all.opened head bare id 0 sector has long found same_long in
        let size_t = turned_size found h a.pool.next all.opened head bare id 0 sector has long found same_long in
        let shows : disk_of t (fields_of base).size base ≡ disk =
        ap (λ (n : ℕ). disk_of t n base) size_t
        ∙ (behind_disk s all.opened.shape.some counts_far first_far found base behind s.base base all.opened.forms (fields_of found).size (covered_by s parts.Source all.opened.shape head.spells.numbers)
        ∙ own_disk s found h disk all.opened.shape (λ k. refl) head bare is_safe stands) in
        subst (λ (d : List ℕ). IsInOrder id 0 d base) shows (safe_single t base base (record (new_header h id 0) { own_at = new.at }) id 0 0 0 shape_t (λ k. refl) new.is bare refl safe_t)

    pub adopting : (disk : List ℕ) → IsForeign disk found → (c : List ℕ) → (c ≡ found) ⊎ (c ≡ base) → IsAdopting id disk found c
    adopting disk is c (inl same) = subst (IsAdopting id disk found) (sym same) (adopting_same id disk found is)
    adopting disk is c (inr same) = subst (IsAdopting id disk found) (sym same) (record {
      either = inr (adopted disk is.stands);
      header = draws_header found base id 0 h head.spells (respell base h id 0 new.at new.is.spells);
    })

    -- ---- by what the calls say

    module _ (f : ℕ) (x y : World) (seen : x.seen f ≡ found) where
      pub adopting_since : (disk : List ℕ) → IsForeign disk found → EachSinceSync x y f (OldOrNew sector (file_of x f)) → EachSinceSync x y f (IsAdopting id disk found)
      unfolding file_of
      adopting_since disk is = sync_more (OldOrNew sector (file_of x f)) (IsAdopting id disk found)
          (λ c either. adopting disk is c (subst (λ (file : List ℕ). (c ≡ file) ⊎ (c ≡ overlay file 0 sector)) seen either))

      pub adopting_seen : (disk : List ℕ) → IsForeign disk found → Gives (file_of y f) (OldOrNew sector (file_of x f)) → IsTrue y.tells → IsAdopting id disk found (y.seen f)
      unfolding file_of
      adopting_seen disk is gives told = adopting disk is (y.seen f) (subst (λ (file : List ℕ). (y.seen f ≡ file) ⊎ (y.seen f ≡ overlay file 0 sector)) seen (gives told))

      pub whole_gives : Gives (file_of x f) (λ c. 512 ≤ length c)
      unfolding file_of
      whole_gives told = subst (λ (c : List ℕ). 512 ≤ length c) (sym seen) whole

      pub adopted_header : Is (New sector (file_of x f)) (file_of y f) → IsTrue y.tells → RewritesHeader id 0 found (y.seen f)
      unfolding file_of
      adopted_header is told =
          subst (RewritesHeader id 0 found) (sym (is.seen told ∙ ap (λ (c : List ℕ). overlay c 0 sector) seen)) (redraws_header found base id 0 h head.spells (respell base h id 0 new.at new.is.spells))

      pub adopted_holds : (disk : List ℕ) → Stands parts.Source found disk → Is (New sector (file_of x f)) (file_of y f) → Holds f (IsInOrder id 0 disk) (IsInOrder id 0 disk) y
      unfolding file_of
      adopted_holds disk stands is =
          let source = adopted disk stands in
          let same : overlay (x.seen f) 0 sector ≡ base = ap (λ (c : List ℕ). overlay c 0 sector) seen in
          record {
            seen = λ told. subst (IsInOrder id 0 disk) (sym (is.seen told ∙ same)) source;
            each = λ c left. subst (IsInOrder id 0 disk) (sym (is.each c left ∙ same)) source;
          }
