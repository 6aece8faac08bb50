-- What calls on the file leave of what is known of it.
use Rattle.std.proofs.Common.{◌≡◌, inl, inr, ⊎_elim, ℕ, ◌+◌, ◌^◌, ◌<◌, ◌≤◌, List, [], ◌∷◌, ◌++◌, length, IsTrue, Option, refl, sym, ap, subst, ◌∙◌, arith}
use Rattle.std.specs.Prelude.{Contains}
use Rattle.std.proofs.lemmas.List.Elements.{Contains-append_left, Contains-push, All-push, All-weaker, All-contains, All-cons, All-nil}
use Rattle.disk_model.specs.Files.{byte, reading, overlay, IsOutcome, EachVersion, MayWrite, IsLatest, after_sync}
use Rattle.disk_model.specs.Files as files
use Rattle.disk_model.specs.World.{World, Parts, Runs, versions, IsSound, Writes, Syncs, HasSynced, EachNow, EachSince, StepsWithin, Leads}
use Rattle.disk_model.proofs.Laws.{length-reading, reading_same}
use Rattle.disk_model.proofs.Laws.{torn_elsewhere}
use Rattle.disk_model.proofs.Laws.{each_more, torn_length}
use Rattle.disk_model.proofs.Laws.{since_step, since_more, steps_within}
use Rattle.qc_layout.specs.declared.header.Fields.{Fields}
use Rattle.qc_layout.specs.declared.header.Part.TheVariants as parts
use Rattle.qc_layout.specs.Header.{fields_of}
use Rattle.qc_layout.specs.Disks.{bits_of}
use Rattle.qc_layout.proofs.OneDisk.{one_disk}
use Rattle.plain_model.specs.History.{History, Wrote, with_entry, now}
use Rattle.plain_model.specs.Laws.{IsLikeDisk}
use Rattle.plain_model.specs.Lawful.{Kept}
use Rattle.plain_model.proofs.SettleLaws.{last_kept}
use Rattle.plain_model.specs.Step as step
use Rattle.plain_model.specs.Sound as sound
use Rattle.plain_model.proofs.Histories.{length-now}
use Rattle.plain_model.proofs.Points.{now-wrote}
use Rattle.core_node.specs.Rest.{Directory, Mixes, IsSafe}
use Rattle.core_layers.specs.Layers.{IsMixed}
use Rattle.core_layers.proofs.Exports.{mixed_is_safe, epochs-wrote}
use Rattle.core_node.specs.Step.{HasHead}
use Rattle.core_node.specs.Ends.{IsHeadKnown, KeepsHeader}
use Rattle.core_node.proofs.Rests.{mixes_keep}
use Rattle.core_node.proofs.Keeping.{write_keeps_head}
use Rattle.toy_image.specs.declared.numbers.Numbers.{Numbers}
use Rattle.toy_core.specs.declared.toy.Toy.{Toy}
use Rattle.toy_image.specs.Images.{IsSuited, IsImage, disk_in, IsLike, GuestBytesAreFree, IsVersionOf}
use Rattle.toy_core.specs.Toy.{machine_of, IsHeld, IsNamed}
use Rattle.toy_image.proofs.Free.{guest_bytes_are_free, like_fields, like_header}
use Rattle.toy_core.proofs.Outcomes.{like_outcome, outcome_mixed}
use Rattle.toy_core.proofs.Bytes.{overlay_read, torn_disk}

-- ---- another event's number

abbrev pub moved : Toy → ℕ → Option ℕ → Toy
moved t event broken = record t { event = event; broken = broken }

-- ---- the number's name

pub named_on : {parts : Parts} {a b : World} (f : ℕ) → Runs parts a b → (parts.names (a.named f) → ⊥) → IsNamed f a → IsNamed f b
named_on {parts} {a} {b} f run none is = record {
  below = (let more = run.goes.given in let below = is.below in omega arith);
  found = ap (λ (name : List ℕ). b.found name) (run.goes.named f is.below) ∙ run.found (a.named f) none ∙ is.found;
}

-- ---- the disk

like_itself : (n : Numbers) (file : List ℕ) → IsLike n file file
like_itself n file = record { long = refl; outside = λ i out. refl }

like_back : (n : Numbers) (file after version : List ℕ) → IsLike n file after → IsLike n file version → IsLike n after version
like_back n file after version a v = record { long = v.long ∙ sym a.long; outside = λ i out. v.outside i out ∙ sym (a.outside i out) }

pub disk_is : (n : Numbers) (disk file : List ℕ) → IsSuited n → IsImage n disk file → disk_in n file ≡ disk
disk_is n disk file suits image = one_disk parts.Source file (disk_in n file) disk (guest_bytes_are_free n disk file file suits image (like_itself n file)).source.stands image.source.stands

abbrev pub directory : Toy → Directory
directory t = record { epoch = t.source.image.epoch; entries = [] }

pub sized : (t : Toy) (h : History) → (n : ℕ) → length (now h) ≡ n → sound.IsSound (machine_of t h) → length h.start ≡ n
sized t h n is s = sym (length-now h s.history_is.inside) ∙ is

-- each crash now leaves a mix of the disks
pub mixed_now : (t : Toy) (h : History) (disks : List (List ℕ)) (file : List ℕ) (w : World) → GuestBytesAreFree → IsSuited t.source.image → IsImage t.source.image (now h) file → length h.start ≡ t.source.image.size → Mixes h disks
    → EachVersion (IsVersionOf t.source.image disks file) (versions w t.source.file.0) → EachNow w t.source.file.0 (IsMixed t.source.image.id (directory t) disks)
mixed_now t h disks file w free suits image size mixes each c left = outcome_mixed t.source.image h disks file (versions w t.source.file.0) c free suits image size mixes each left

pub held_now : {t : Toy} {w : World} {h : History} {disks : List (List ℕ)} → IsHeld t w h disks → EachNow w t.source.file.0 (IsMixed t.source.image.id (directory t) disks)
held_now {t} {w} {h} {disks} k = mixed_now t h disks (w.seen t.source.file.0) w guest_bytes_are_free k.suits k.image (sized t h t.source.image.size k.image.size_is k.sound) k.mixes k.each

-- ---- the first cluster, and the header in it

module _ {t : Toy} {w : World} {h : History} {disks : List (List ℕ)} (k : IsHeld t w h disks) where
  abbrev seen : List ℕ
  seen = w.seen t.source.file.0

  like_now : EachNow w t.source.file.0 (IsLike t.source.image (w.seen t.source.file.0))
  like_now c left = like_outcome t.source.image disks seen (versions w t.source.file.0) c k.each left

  pub head_known : IsHeadKnown t.source.file.0 w
  head_known c left =
      let front = k.image.front.cluster in
      ap (λ (n : ℕ). reading c 0 n) (length-reading seen 0 (2 ^ bits_of seen))
      ∙ reading_same c seen 0 (2 ^ bits_of seen) (λ i low high. (like_now c left).outside i (inl (omega (arith, high, front))))

  pub headers_now : EachNow w t.source.file.0 (KeepsHeader (w.seen t.source.file.0))
  headers_now c left = like_header t.source.image (now h) seen c k.image (like_now c left)

-- ---- one disk more

module _ {h : History} {disks : List (List ℕ)} (other : List ℕ) where
  pub mixes_more : IsLikeDisk h other → Mixes h disks → Mixes h (disks ++ other ∷ [])
  mixes_more like m = record { among = Contains-append_left disks (other ∷ []) (now h) m.among; alike = All-push (IsLikeDisk h) disks other m.alike like }

module _ {n : Numbers} {disks : List (List ℕ)} (other : List ℕ) where
  pub version_more : {file version : List ℕ} → IsVersionOf n disks file version → IsVersionOf n (disks ++ other ∷ []) file version
  version_more {version = version} v = record { like = v.like; among = Contains-append_left disks (other ∷ []) (disk_in n version) v.among }

-- ---- a write

module _ (t : Toy) (old new : World) (h : History) (disks : List (List ℕ)) (at : ℕ) (bytes : List ℕ) (k : IsHeld t old h disks) (sound_new : IsSound new)
    (call : Writes t.source.file.0 (t.source.image.base + at) bytes old new) (range : at + length bytes ≤ t.source.image.size) where
  -- what the range reads now
  abbrev pub left : List ℕ
  left = reading (new.seen t.source.file.0) (t.source.image.base + at) (length bytes)

  abbrev pub written : History
  written = with_entry h (Wrote at left)

  abbrev pub more : List (List ℕ)
  more = disks ++ now written ∷ []

  torn : files.IsTorn (t.source.image.base + at) bytes (old.seen t.source.file.0) (new.seen t.source.file.0)
  torn = call.torn k.told

  was : disk_in t.source.image (old.seen t.source.file.0) ≡ now h
  was = disk_is t.source.image (now h) (old.seen t.source.file.0) k.suits k.image

  like : IsLike t.source.image (old.seen t.source.file.0) (new.seen t.source.file.0)
  like = record {
    long = let inside = k.image.inside in torn_length (t.source.image.base + at) bytes (old.seen t.source.file.0) (new.seen t.source.file.0) torn (omega (arith, inside, range));
    outside = λ i out. torn_elsewhere (t.source.image.base + at) bytes (old.seen t.source.file.0) (new.seen t.source.file.0) i torn
        (⊎_elim (λ (low : i < t.source.image.base). inl (omega (arith, low))) (λ (high : t.source.image.base + t.source.image.size ≤ i). inr (omega (arith, high, range))) out);
  }

  is : disk_in t.source.image (new.seen t.source.file.0) ≡ now written
  is = sym (now-wrote h at left ∙ ap (λ (disk : List ℕ). overlay disk at left) (sym was) ∙ overlay_read t.source.image.base t.source.image.size at bytes (old.seen t.source.file.0) (new.seen t.source.file.0) torn range)

  pub image_after : IsImage t.source.image (now written) (new.seen t.source.file.0)
  image_after = subst (λ (disk : List ℕ). IsImage t.source.image disk (new.seen t.source.file.0)) is (guest_bytes_are_free t.source.image (now h) (old.seen t.source.file.0) (new.seen t.source.file.0) k.suits k.image like)

  long_left : length left ≡ length bytes
  long_left = length-reading (new.seen t.source.file.0) (t.source.image.base + at) (length bytes)

  size : length h.start ≡ t.source.image.size
  size = sized t h t.source.image.size k.image.size_is k.sound

  pub like_after : IsLikeDisk h (now written)
  like_after = record { long = image_after.size_is ∙ sym size; whole = (k.suits.sectors, image_after.size_is ∙ k.suits.size_is) }

  pub torn_after : step.IsTorn (now h) at bytes left
  torn_after = subst (λ (disk : List ℕ). step.IsTorn disk at bytes left) was
      (torn_disk t.source.image k.suits.first k.suits.sectors at bytes (old.seen t.source.file.0) (new.seen t.source.file.0) k.suits.base_is k.suits.size_is torn range (let inside = k.image.inside in let same = like.long in omega (arith, inside, same)))

  again : {version : List ℕ} → IsVersionOf t.source.image disks (old.seen t.source.file.0) version → IsVersionOf t.source.image more (new.seen t.source.file.0) version
  again {version} v = record { like = like_back t.source.image (old.seen t.source.file.0) (new.seen t.source.file.0) version like v.like; among = (version_more (now written) v).among }

  newest : {version : List ℕ} → new.seen t.source.file.0 ≡ version → IsVersionOf t.source.image more (new.seen t.source.file.0) version
  newest same = subst (IsVersionOf t.source.image more (new.seen t.source.file.0)) same
      (record { like = like_itself t.source.image (new.seen t.source.file.0); among = subst (Contains more) (sym is) (Contains-push disks (now written)) })

  by_cases : (vs ws : List (List ℕ)) → MayWrite (t.source.image.base + at) bytes vs ws → IsLatest (new.seen t.source.file.0) ws → EachVersion (IsVersionOf t.source.image disks (old.seen t.source.file.0)) vs → EachVersion (IsVersionOf t.source.image more (new.seen t.source.file.0)) ws
  by_cases [] ws may latest each = subst (EachVersion (IsVersionOf t.source.image more (new.seen t.source.file.0))) (sym may) tt
  by_cases (v ∷ vs) ws (inl same) latest each = subst (EachVersion (IsVersionOf t.source.image more (new.seen t.source.file.0))) (sym same)
      (each_more (IsVersionOf t.source.image disks (old.seen t.source.file.0)) (IsVersionOf t.source.image more (new.seen t.source.file.0)) (v ∷ vs) (λ u has. again has) each)
  by_cases (v ∷ vs) ws (inr done) latest each = subst (EachVersion (IsVersionOf t.source.image more (new.seen t.source.file.0))) (sym done.2)
      (newest (subst (IsLatest (new.seen t.source.file.0)) done.2 latest), each_more (IsVersionOf t.source.image disks (old.seen t.source.file.0)) (IsVersionOf t.source.image more (new.seen t.source.file.0)) (v ∷ vs) (λ u has. again has) each)

  pub each_after : EachVersion (IsVersionOf t.source.image more (new.seen t.source.file.0)) (versions new t.source.file.0)
  each_after = by_cases (versions old t.source.file.0) (versions new t.source.file.0) call.may (sound_new.latest t.source.file.0) k.each

  pub mixes_within : Mixes h more
  mixes_within = mixes_more (now written) like_after k.mixes

  -- the disks are like that of the history that goes on too
  pub mixes_after : Mixes written more
  mixes_after = record { among = Contains-push disks (now written); alike = All-weaker (IsLikeDisk h) (IsLikeDisk written) (λ d is. record { long = is.long; whole = is.whole }) more mixes_within.alike }

  before : EachNow old t.source.file.0 (IsMixed t.source.image.id (directory t) more)
  before = mixed_now t h more (old.seen t.source.file.0) old guest_bytes_are_free k.suits k.image size mixes_within
      (each_more (IsVersionOf t.source.image disks (old.seen t.source.file.0)) (IsVersionOf t.source.image more (old.seen t.source.file.0)) (versions old t.source.file.0) (λ u has. version_more (now written) has) k.each)

  after : EachNow new t.source.file.0 (IsMixed t.source.image.id (directory t) more)
  after = mixed_now t written more (new.seen t.source.file.0) new guest_bytes_are_free k.suits image_after size mixes_after each_after

  -- each crash within it is safe for the history before it
  pub write_crashes : EachSince new old.now t.source.file.0 (IsSafe (directory t ∷ []) t.source.image.id h more)
  write_crashes = since_more new old.now t.source.file.0 (IsMixed t.source.image.id (directory t) more) (IsSafe (directory t ∷ []) t.source.image.id h more)
      (λ c m. mixed_is_safe k.sound.history_is k.epochs mixes_within.among m) (since_step old new t.source.file.0 (IsMixed t.source.image.id (directory t) more) call.steps before after)

  pub write_head : (start : List ℕ) → IsSound old → length start ≤ t.source.image.cluster
      → Leads t.source.file.0 (HasHead start) (HasHead start) (HasHead start) (HasHead start) (HasHead start) old new
  write_head start sound_old short = write_keeps_head start sound_old sound_new call
      (let front = k.image.front.cluster in let cluster = k.image.source.clusters.cluster_is in omega (arith, front, cluster, short))

  pub write_holds : (event : ℕ) (broken : Option ℕ) → sound.IsSound (machine_of (moved t event broken) written) → IsHeld (moved t event broken) new written more
  write_holds event broken sound_after = record {
    told = subst IsTrue (sym call.run.goes.tells) k.told;
    named = named_on t.source.file.0 call.run (λ none. none) k.named;
    suits = k.suits;
    sound = sound_after;
    mixes = mixes_after;
    epochs = epochs-wrote t.source.image.epoch h at left k.epochs;
    image = image_after;
    clear = subst (λ (f : Fields). f.autoclear_features < 2)
        (sym (like_fields t.source.image (now h) (old.seen t.source.file.0) (new.seen t.source.file.0) k.image like)) k.clear;
    each = each_after;
  }

-- ---- calls that leave the file as it is

pub still_holds : (t : Toy) (old new : World) (h : History) (disks : List (List ℕ)) (event : ℕ) (broken : Option ℕ) → IsHeld t old h disks → sound.IsSound (machine_of (moved t event broken) h) → new.tells ≡ old.tells → IsNamed t.source.file.0 new
    → new.seen t.source.file.0 ≡ old.seen t.source.file.0 → versions new t.source.file.0 ≡ versions old t.source.file.0 → IsHeld (moved t event broken) new h disks
still_holds t old new h disks event broken k sound_after tells named seen same = record {
  told = subst IsTrue (sym tells) k.told;
  named = named;
  suits = k.suits;
  sound = sound_after;
  mixes = k.mixes;
  epochs = k.epochs;
  image = subst (IsImage t.source.image (now h)) (sym seen) (k.image);
  clear = subst (λ (file : List ℕ). (fields_of file).autoclear_features < 2) (sym seen) k.clear;
  each = subst (EachVersion (IsVersionOf t.source.image disks (new.seen t.source.file.0))) (sym same)
      (subst (λ (file : List ℕ). EachVersion (IsVersionOf t.source.image disks file) (versions old t.source.file.0)) (sym seen)
      k.each);
}

pub still_crashes : (t : Toy) (old new : World) (h : History) (disks : List (List ℕ)) → IsHeld t old h disks → StepsWithin old new t.source.file.0 → versions new t.source.file.0 ≡ versions old t.source.file.0
    → EachSince new old.now t.source.file.0 (IsSafe (directory t ∷ []) t.source.image.id h disks)
still_crashes t old new h disks k steps same =
    since_more new old.now t.source.file.0 (IsMixed t.source.image.id (directory t) disks) (IsSafe (directory t ∷ []) t.source.image.id h disks)
    (λ c m. mixed_is_safe k.sound.history_is k.epochs k.mixes.among m)
    (since_step old new t.source.file.0 (IsMixed t.source.image.id (directory t) disks) steps (held_now k) (λ c left. held_now k c (subst (λ (vs : List (List ℕ)). IsOutcome vs c) same left)))

-- ---- a sync that succeeded

module _ (t : Toy) (old new : World) (h : History) (disks : List (List ℕ)) (k : IsHeld t old h disks) (sound_old : IsSound old) (call : Syncs t.source.file.0 old new) (done : HasSynced t.source.file.0 old new) where
  only : (vs ws : List (List ℕ)) → ws ≡ after_sync vs → IsLatest (old.seen t.source.file.0) vs → EachVersion (IsVersionOf t.source.image (now h ∷ []) (old.seen t.source.file.0)) ws
  only [] ws is latest = subst (EachVersion (IsVersionOf t.source.image (now h ∷ []) (old.seen t.source.file.0))) (sym is) tt
  only (v ∷ vs) ws is latest = subst (EachVersion (IsVersionOf t.source.image (now h ∷ []) (old.seen t.source.file.0))) (sym is) (
    subst (IsVersionOf t.source.image (now h ∷ []) (old.seen t.source.file.0)) latest (record {
      like = like_itself t.source.image (old.seen t.source.file.0);
      among = (0, omega arith, sym (disk_is t.source.image (now h) (old.seen t.source.file.0) k.suits k.image));
    }),
    tt,
  )

  alone : EachVersion (IsVersionOf t.source.image (now h ∷ []) (old.seen t.source.file.0)) (versions new t.source.file.0)
  alone = only (versions old t.source.file.0) (versions new t.source.file.0) done.versions (sound_old.latest t.source.file.0)

  alike : Mixes h (now h ∷ [])
  alike = record { among = (0, omega arith, refl); alike = All-cons (IsLikeDisk h) (now h) [] (All-contains (IsLikeDisk h) disks (now h) k.mixes.alike k.mixes.among) (All-nil (IsLikeDisk h)) }

  pub synced_holds : (event : ℕ) (broken : Option ℕ) → sound.IsSound (machine_of (moved t event broken) h) → IsHeld (moved t event broken) new h (now h ∷ [])
  synced_holds event broken sound_after = record {
    told = subst IsTrue (sym call.run.goes.tells) k.told;
    named = named_on t.source.file.0 call.run (λ none. none) k.named;
    suits = k.suits;
    sound = sound_after;
    mixes = alike;
    epochs = k.epochs;
    image = subst (IsImage t.source.image (now h)) (sym call.seen) (k.image);
    clear = subst (λ (file : List ℕ). (fields_of file).autoclear_features < 2) (sym call.seen) k.clear;
    each = subst (λ (file : List ℕ). EachVersion (IsVersionOf t.source.image (now h ∷ []) file) (versions new t.source.file.0)) (sym call.seen)
        alone;
  }

  after_it : EachNow new t.source.file.0 (IsSafe (directory t ∷ []) t.source.image.id h disks)
  after_it c left = mixed_is_safe k.sound.history_is k.epochs k.mixes.among (widened (outcome_mixed t.source.image h (now h ∷ []) (old.seen t.source.file.0) (versions new t.source.file.0) c guest_bytes_are_free k.suits k.image (sized t h t.source.image.size k.image.size_is k.sound) alike alone left))
    where
      widened : IsMixed t.source.image.id (directory t) (now h ∷ []) c → IsMixed t.source.image.id (directory t) disks c
      widened m = record {
        disk = m.disk;
        kept = subst (Kept disks) (sym (last_kept k.suits.sectors (now h) m.disk (k.image.size_is ∙ k.suits.size_is) m.kept)) (mixes_keep k.sound.history_is k.mixes);
        in_order = m.in_order;
        in_use = m.in_use;
      }

  pub synced_crashes : EachSince new old.now t.source.file.0 (IsSafe (directory t ∷ []) t.source.image.id h disks)
  synced_crashes = since_step old new t.source.file.0 (IsSafe (directory t ∷ []) t.source.image.id h disks) (steps_within old new t.source.file.0 call.steps)
      (λ c left. mixed_is_safe k.sound.history_is k.epochs k.mixes.among (held_now k c left)) after_it
