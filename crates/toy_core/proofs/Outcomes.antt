-- What a crash leaves of the file.
use Rattle.std.proofs.Common.{◌≡◌, ℕ, ◌+◌, ◌*◌, ◌<◌, ◌≤◌, List, [], ◌∷◌, length, sym, subst, ◌∙◌, arith}
use Rattle.std.specs.Prelude.{Any, Contains}
use Rattle.std.proofs.lemmas.List.Elements.{All-nil}
use Rattle.disk_model.specs.Files.{byte, reading, IsOutcome, EachVersion}
use Rattle.disk_model.proofs.Laws.{each_more, steady_byte, each_synced, reading_of_version, some_each}
use Rattle.disk_model.proofs.Laws.{reading-reading, reading_inside}
use Rattle.disk_model.proofs.Laws.{length-reading}
use Rattle.plain_model.specs.History.{History, now}
use Rattle.plain_model.specs.Step.{sector}
use Rattle.plain_model.specs.Lawful.{Kept}
use Rattle.image_model.specs.Space.{IsShapedStore}
use Rattle.bitmap_model.specs.Bitmaps.{IsShapedEntry}
use Rattle.qc_layout.proofs.Directories.{stores_nothing}
use Rattle.core_node.specs.Rest.{Mixes}
use Rattle.core_layers.specs.Layers.{IsInOrder, IsMixed}
use Rattle.toy_image.specs.declared.numbers.Numbers.{Numbers}
use Rattle.toy_image.specs.Images.{store_of, IsSuited, IsImage, disk_in, IsLike, GuestBytesAreFree, IsVersionOf}

-- a sector of the guest's disk, as a range of the file
pub sector_read : (t : Numbers) (file : List ℕ) (k sectors : ℕ) → t.size ≡ sectors * 512 → k < sectors → sector (disk_in t file) k ≡ reading file (t.base + 512 * k) 512
sector_read t file k sectors size below =
    let long = length-reading file t.base t.size in
    let fits : 512 * k + 512 ≤ t.size = omega (arith, size, below) in
    sym (reading_inside (disk_in t file) (512 * k) 512 (omega (arith, long, fits))) ∙ reading-reading file t.base t.size (512 * k) 512 fits

-- what a crash leaves is an image, with a disk that is mixed of those of the versions
pub like_outcome : (t : Numbers) (disks : List (List ℕ)) (file : List ℕ) (vs : List (List ℕ)) (c : List ℕ) → EachVersion (IsVersionOf t disks file) vs → IsOutcome vs c → IsLike t file c
like_outcome t disks file [] c each left = absurd (left.sectors 0)
like_outcome t disks file (v ∷ vs) c each left = record {
  long = let low = left.no_shorter in let high = left.no_longer in let first = each.0.like.long in let last = (each_synced (IsVersionOf t disks file) v vs each).like.long in omega arith;
  outside = λ i out. steady_byte (v ∷ vs) c i (byte file i) left (each_more (IsVersionOf t disks file) (λ u. byte u i ≡ byte file i) (v ∷ vs) (λ u is. is.like.outside i out) each);
}

any_of : (P : List ℕ → Type 0) (disks : List (List ℕ)) (d : List ℕ) → Contains disks d → P d → Any P disks
any_of P disks d (k, below, is) has = (k, d, below, is, has)

kept_outcome : (t : Numbers) (h : History) (disks : List (List ℕ)) (file : List ℕ) (vs : List (List ℕ)) (c : List ℕ) → IsSuited t → length h.start ≡ t.size → t.base + t.size ≤ length file → Mixes h disks
    → EachVersion (IsVersionOf t disks file) vs → IsOutcome vs c → Kept disks (disk_in t c)
kept_outcome t h disks file vs c suits size inside mixes each left = record {
  long = λ k d below. length-reading c t.base t.size ∙ sym size ∙ sym (mixes.alike k d below).long;
  kept = λ k below.
      let long = length-reading c t.base t.size in
      let base = suits.base_is in let whole = suits.size_is in
      let here : k < suits.sectors = omega (arith, long, whole, below) in
      some_each (λ v. reading c (t.base + 512 * k) 512 ≡ reading v (t.base + 512 * k) 512) (IsVersionOf t disks file) (Any (λ d. sector d k ≡ sector (disk_in t c) k) disks) vs
      (λ v same is. any_of (λ d. sector d k ≡ sector (disk_in t c) k) disks (disk_in t v) is.among
      (sector_read t v k suits.sectors whole here ∙ sym same ∙ sym (sector_read t c k suits.sectors whole here)))
      (reading_of_version vs c (suits.first + k) (t.base + 512 * k) 512 left (omega (arith, base)) (omega (arith, base))
      (let same = (like_outcome t disks file vs c each left).long in omega (arith, same, inside, whole, here))) each;
}

pub image_in_order : (t : Numbers) (disk file : List ℕ) → IsSuited t → IsImage t disk file → IsInOrder t.id (record { epoch = t.epoch; entries = [] }) disk file
image_in_order t disk file suits image = record {
  store = store_of t;
  source = image.source;
  room = image.room;
  sectors = suits.sectors;
  whole = image.size_is ∙ suits.size_is;
  entries_are = (stores_nothing file image.bare).stored;
  shape = record { shapes = All-nil (IsShapedEntry (length disk)); apart = tt; few = omega arith };
  store_shape = subst (λ (n : ℕ). IsShapedStore n (store_of t)) (sym image.size_is) suits.shape;
}

pub outcome_mixed : (t : Numbers) (h : History) (disks : List (List ℕ)) (file : List ℕ) (vs : List (List ℕ)) (c : List ℕ) → GuestBytesAreFree → IsSuited t → IsImage t (now h) file → length h.start ≡ t.size → Mixes h disks
    → EachVersion (IsVersionOf t disks file) vs → IsOutcome vs c → IsMixed t.id (record { epoch = t.epoch; entries = [] }) disks c
outcome_mixed t h disks file vs c free suits image size mixes each left = record {
  disk = disk_in t c;
  kept = kept_outcome t h disks file vs c suits size image.inside mixes each left;
  in_order = image_in_order t (disk_in t c) c suits (free t (now h) file c suits image (like_outcome t disks file vs c each left));
  in_use = λ e here trusted. omega (arith, here.1);
}
