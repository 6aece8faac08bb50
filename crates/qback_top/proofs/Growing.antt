-- What the device calls of a growing image leave, where files are told.
use Rattle.std.proofs.Common.{◌≡◌, ◌≢◌, inl, ℕ, ◌+◌, ◌*◌, ◌/◌, ◌%◌, ◌^◌, ◌<◌, ◌≤◌, List, ◌++◌, take, drop, IsTrue, length, length-drop, replicate, refl, sym, ap, subst, ◌∙◌, arith}
use Rattle.std.specs.Int.{w64, to_be_bytes}
use Rattle.std.proofs.lemmas.List.{length-take}
use Rattle.disk_model.specs.Files.{byte, overlay, IsTorn}
use Rattle.disk_model.specs.World.{World, Parts, Runs, reads_of, writes_of, only_file, Writes, HasWritten}
use Rattle.disk_model.proofs.Bytes.{length-overlay_inside}
use Rattle.disk_model.proofs.Moments.{run_more, reads_within_file, writes_within_file}
use Rattle.qc_layout.specs.Entries.{IsOffset}
use Rattle.qc_layout.specs.FirstForm.{l1_offset, table_offset, host_of, clusters_of, disk_of, disk_size}
use Rattle.qback_top.specs.declared.image.Image.{Image}
use Rattle.qback_top.specs.Open.{IsOpen, Spares, Between, KeepsRest}
use Rattle.qback_top.proofs.Disk.{length-disk_of, same_disk_size, pieces, overlay_two}
use Rattle.qback_top.proofs.Tables.{ChangesOnly, changes_torn, spares, spares_on, keeps_on, open_kept, same_size, same_l1}
use Rattle.qback_top.proofs.Writes.{Target, data_tables, data_keeps, data_disk, data_spares, data_length}
use Rattle.qback_top.proofs.Links.{Grown, grown_length, Tabled, tabled_length, tabled_head, tabled_form, Linked, linked_length, linked_head, linked_form}
use Rattle.qback_top.proofs.Torn.{between_more, past_goes, past_disk, torn_l1_disk, torn_l1_spares, torn_entry_disk, torn_entry_spares, torn_disk}

-- ---- runs on the image's file

pub file_read : {f : ℕ} {a b : World} → Runs (reads_of f) a b → Runs (only_file f) a b
file_read {f} run = run_more (reads_within_file f) run

pub file_write : {f : ℕ} {a b : World} → Runs (writes_of f) a b → Runs (only_file f) a b
file_write {f} run = run_more (writes_within_file f) run

-- a run that read this file alone left it as it was
pub read_same : {f : ℕ} {a b : World} (g : ℕ) → Runs (reads_of f) a b → b.seen g ≡ a.seen g
read_same g run = (run.files g (λ none. none)).seen

-- what files tell, they tell after a run
pub told_on : {parts : Parts} {a b : World} → Runs parts a b → IsTrue a.tells → IsTrue b.tells
told_on run told = subst IsTrue (sym run.goes.tells) told

-- a call by other words for the same file, place and bytes
pub moved_write : {f m place at : ℕ} {xs bytes : List ℕ} {c d : World} → m ≡ f → at ≡ place → bytes ≡ xs → Writes m at bytes c d → Writes f place xs c d
moved_write {f} {m} {place} {at} {xs} {bytes} {c} {d} same_file same_place same_bytes call =
    subst (λ (n : ℕ). Writes n place xs c d) same_file (subst (λ (k : ℕ). Writes m k xs c d) same_place (subst (λ (b : List ℕ). Writes m at b c d) same_bytes call))

-- the same of a call that succeeded
pub moved_written : {f m place at : ℕ} {xs bytes : List ℕ} {c d : World} → m ≡ f → at ≡ place → bytes ≡ xs → HasWritten m at bytes c d → HasWritten f place xs c d
moved_written {f} {m} {place} {at} {xs} {bytes} {c} {d} same_file same_place same_bytes done =
    subst (λ (n : ℕ). HasWritten n place xs c d) same_file (subst (λ (k : ℕ). HasWritten m k xs c d) same_place (subst (λ (b : List ℕ). HasWritten m at b c d) same_bytes done))

-- ---- a cluster of zeros at the end

abbrev pub zero_cluster : List ℕ
zero_cluster = replicate 4096 0

-- the image whose file got one cluster more
abbrev pub longer_image : Image → Image
longer_image image = record image { end = image.end + 4096 }

-- it got one, where files are told
pub record Longer (f : ℕ) (image after : Image) (file : List ℕ) (c : World) : Type 0 where
  pub told : IsTrue c.tells
  pub opened : IsOpen image file
  pub grown : Grown file (c.seen f)
  pub number : after.file.0 ≡ f
  pub is : after ≡ longer_image image

-- a write of zeros at the end that succeeded makes it so
pub longer : {f : ℕ} {image after : Image} {file : List ℕ} {b c : World} → IsTrue b.tells → b.seen f ≡ file → IsOpen image file → image.file.0 ≡ f → Writes image.file.0 image.end zero_cluster b c
    → HasWritten image.file.0 image.end zero_cluster b c → after ≡ longer_image image → Longer f image after file c
longer {f} {image} {after} {file} {b} {c} told same opened number call done is =
    let wrote : HasWritten f image.end zero_cluster b c = moved_written number refl refl done in
    record {
      told = told_on call.run told;
      opened = opened;
      grown = record {
        form = opened.form;
        is = wrote.seen told ∙ ap (λ (h : List ℕ). overlay h image.end zero_cluster) same ∙ ap (λ (k : ℕ). overlay file k zero_cluster) opened.end;
      };
      number = ap (λ (i : Image). i.file.0) is ∙ number;
      is = is;
    }

-- a cluster that was written in part spares the rest
pub grown_spares : {f : ℕ} {image : Image} {file : List ℕ} {b c : World} → IsTrue b.tells → b.seen f ≡ file → IsOpen image file → image.file.0 ≡ f → Writes image.file.0 image.end zero_cluster b c → Spares file (c.seen f)
grown_spares {f} {image} {file} {b} {c} told same opened number call =
    let torn = changes_torn image.end zero_cluster (b.seen f) (c.seen f) ((moved_write number refl refl call).torn told) in
    spares image.end (length zero_cluster) file (c.seen f) (subst (λ (h : List ℕ). ChangesOnly image.end (length zero_cluster) h (c.seen f)) same torn) (λ i rest. inl (let a = rest.inside in omega (arith, opened.end)))
    (past_goes file (c.seen f) opened.form (λ i lt. torn.same i (inl (omega (arith, opened.end))) ∙ ap (λ (h : List ℕ). byte h i) same))

-- and keeps the disk
pub grown_disk_kept : {f : ℕ} {image : Image} {file : List ℕ} {b c : World} → IsTrue b.tells → b.seen f ≡ file → IsOpen image file → image.file.0 ≡ f → Writes image.file.0 image.end zero_cluster b c → disk_of (c.seen f) ≡ disk_of file
grown_disk_kept {f} {image} {file} {b} {c} told same opened number call =
    let torn = changes_torn image.end zero_cluster (b.seen f) (c.seen f) ((moved_write number refl refl call).torn told) in
    past_disk file (c.seen f) opened.form (λ i lt. torn.same i (inl (omega (arith, opened.end))) ∙ ap (λ (h : List ℕ). byte h i) same)

-- ---- the word that names it

unfoldable pub word_of : ℕ → List ℕ
word_of place = to_be_bytes w64 (place + 2 ^ 63)

pub is_word : (bytes : List ℕ) (v place : ℕ) → bytes ≡ to_be_bytes w64 v → v ≡ place + 2 ^ 63 → bytes ≡ word_of place
unfolding word_of
is_word bytes v place is value = is ∙ ap (to_be_bytes w64) value

-- the same of an entry of the second level
pub is_entry : (image : Image) (file : List ℕ) (place entry : ℕ) (bytes : List ℕ) → IsOpen image file → image.end < 2 ^ 56 → place ≡ image.end → (IsOffset place → entry ≡ place + 2 ^ 63) → bytes ≡ to_be_bytes w64 entry → bytes ≡ word_of image.end
is_entry image file place entry bytes opened small is written spelled =
    let offset : IsOffset place = record { whole = (let w = opened.form.whole in let e = opened.end in omega arith); some = (let l = opened.form.long in let e = opened.end in omega arith); small = omega arith } in
    is_word bytes entry image.end spelled (written offset ∙ ap (λ (k : ℕ). k + 2 ^ 63) is)

pub word_long : (place : ℕ) → length (word_of place) ≡ 8
unfolding word_of
word_long place = refl

-- ---- an image that got one

module _ {f : ℕ} {image after : Image} {file : List ℕ} {c : World} (l : Longer f image after file c) where
  -- the word names the old end, which is small
  word_is : word_of image.end ≡ to_be_bytes w64 (length file + 2 ^ 63)
  unfolding word_of
  word_is = ap (λ (k : ℕ). to_be_bytes w64 (k + 2 ^ 63)) l.opened.end

  end_small : image.end < 2 ^ 56 → length file < 2 ^ 56
  end_small small = let end = l.opened.end in omega arith

module _ {f : ℕ} {image after : Image} {file : List ℕ} {c d : World} (l : Longer f image after file c) where
  -- the word that names the new cluster, written in part
  torn_table : {bytes : List ℕ} → bytes ≡ word_of image.end → Writes after.file.0 after.l1 bytes c d → IsTorn (l1_offset file) (word_of image.end) (c.seen f) (d.seen f)
  torn_table word call = subst (λ (k : ℕ). IsTorn k (word_of image.end) (c.seen f) (d.seen f)) l.opened.l1 ((moved_write l.number (ap (λ (i : Image). i.l1) l.is) word call).torn l.told)

  -- it spares the rest
  pub table_spares : {bytes : List ℕ} → bytes ≡ word_of image.end → table_offset file ≡ 0 → image.end < 2 ^ 56 → Writes after.file.0 after.l1 bytes c d → Spares file (d.seen f)
  table_spares word none small call = torn_l1_spares file (c.seen f) (d.seen f) (word_of image.end) l.grown (end_small l small) (word_is l) none (torn_table word call)

  -- and keeps the disk
  pub table_disk : {bytes : List ℕ} → bytes ≡ word_of image.end → table_offset file ≡ 0 → image.end < 2 ^ 56 → Writes after.file.0 after.l1 bytes c d → disk_of (d.seen f) ≡ disk_of file
  table_disk word none small call = torn_l1_disk file (c.seen f) (d.seen f) (word_of image.end) l.grown (end_small l small) (word_is l) none (torn_table word call)

  -- one that was written whole makes the table
  pub has_table : {bytes : List ℕ} → bytes ≡ word_of image.end → table_offset file ≡ 0 → image.end < 2 ^ 56 → HasWritten after.file.0 after.l1 bytes c d → Tabled file (c.seen f) (d.seen f)
  unfolding word_of
  has_table word none small done =
      let wrote : HasWritten f image.l1 (word_of image.end) c d = moved_written l.number (ap (λ (i : Image). i.l1) l.is) word done in
      let end = l.opened.end in
      record {
        grown = l.grown;
        none = none;
        small = omega arith;
        is = wrote.seen l.told ∙ ap (λ (k : ℕ). overlay (c.seen f) k (word_of image.end)) l.opened.l1 ∙ ap (λ (k : ℕ). overlay (c.seen f) (l1_offset file) (word_of k)) end;
      }

  -- an entry of the second level, written in part
  torn_entry_at : {bytes : List ℕ} (table n : ℕ) → bytes ≡ word_of image.end → table ≡ table_offset file → Writes after.file.0 (table + 8 * n) bytes c d → IsTorn (table_offset file + 8 * n) (word_of image.end) (c.seen f) (d.seen f)
  torn_entry_at table n word is call = subst (λ (k : ℕ). IsTorn (k + 8 * n) (word_of image.end) (c.seen f) (d.seen f)) is ((moved_write l.number refl word call).torn l.told)

  -- it spares the rest
  pub entry_written_spares : {bytes : List ℕ} (table n : ℕ) → bytes ≡ word_of image.end → table ≡ table_offset file → table ≢ 0 → host_of file n ≡ 0 → n < clusters_of file → image.end < 2 ^ 56 → Writes after.file.0 (table + 8 * n) bytes c d
      → Spares file (d.seen f)
  entry_written_spares table n word is some hole below small call =
      torn_entry_spares file (c.seen f) (d.seen f) (word_of image.end) l.grown (end_small l small) (word_is l) n below (λ none. some (is ∙ none)) hole (torn_entry_at table n word is call)

  -- and keeps the disk
  pub entry_disk : {bytes : List ℕ} (table n : ℕ) → bytes ≡ word_of image.end → table ≡ table_offset file → table ≢ 0 → host_of file n ≡ 0 → n < clusters_of file → image.end < 2 ^ 56 → Writes after.file.0 (table + 8 * n) bytes c d
      → disk_of (d.seen f) ≡ disk_of file
  entry_disk table n word is some hole below small call =
      torn_entry_disk file (c.seen f) (d.seen f) (word_of image.end) l.grown (end_small l small) (word_is l) n below (λ none. some (is ∙ none)) hole (torn_entry_at table n word is call)

  -- one that was written whole makes the entry
  pub has_entry : {bytes : List ℕ} (table n : ℕ) → bytes ≡ word_of image.end → table ≡ table_offset file → table ≢ 0 → host_of file n ≡ 0 → n < clusters_of file → image.end < 2 ^ 56
      → HasWritten after.file.0 (table + 8 * n) bytes c d → Linked file (c.seen f) (d.seen f) n
  unfolding word_of
  has_entry table n word is some hole below small done =
      let wrote : HasWritten f (table + 8 * n) (word_of image.end) c d = moved_written l.number refl word done in
      let end = l.opened.end in
      record {
        grown = l.grown;
        below = below;
        some = λ none. some (is ∙ none);
        hole = hole;
        small = omega arith;
        is = wrote.seen l.told ∙ ap (λ (k : ℕ). overlay (c.seen f) (k + 8 * n) (word_of image.end)) is ∙ ap (λ (k : ℕ). overlay (c.seen f) (table_offset file + 8 * n) (word_of k)) end;
      }

module _ {f : ℕ} {image after : Image} {file : List ℕ} {c : World} (l : Longer f image after file c) (new : List ℕ) where
  -- the image with the table is open
  pub tabled_open : Tabled file (c.seen f) new → IsOpen after new
  tabled_open t = subst (λ (i : Image). IsOpen i new) (sym l.is) (record {
    form = tabled_form file (c.seen f) new t;
    size = l.opened.size ∙ sym (same_size file new (tabled_head file (c.seen f) new t));
    l1 = l.opened.l1 ∙ sym (same_l1 file new (tabled_head file (c.seen f) new t));
    end = omega (arith, l.opened.end, tabled_length file (c.seen f) new t, grown_length file (c.seen f) l.grown);
  })

  -- so is the one with the entry
  pub linked_open : (n : ℕ) → Linked file (c.seen f) new n → IsOpen after new
  linked_open n t = subst (λ (i : Image). IsOpen i new) (sym l.is) (record {
    form = linked_form file (c.seen f) new n t;
    size = l.opened.size ∙ sym (same_size file new (linked_head file (c.seen f) new n t));
    l1 = l.opened.l1 ∙ sym (same_l1 file new (linked_head file (c.seen f) new n t));
    end = omega (arith, l.opened.end, linked_length file (c.seen f) new n t, grown_length file (c.seen f) l.grown);
  })

-- ---- a piece of a stored cluster

-- the cluster of these bytes of the disk is stored, where files are told, and the disk is as it was
pub record Stored (f : ℕ) (image : Image) (a b : World) (at host : ℕ) (xs : List ℕ) : Type 0 where
  pub told : IsTrue b.tells
  pub opened : IsOpen image (b.seen f)
  pub disk : disk_of (b.seen f) ≡ disk_of (a.seen f)
  pub keeps : KeepsRest (a.seen f) (b.seen f)
  pub target : Target (b.seen f) (at / 4096) host (at % 4096) xs

-- what the call that stores the cluster tells
pub stored : {f : ℕ} {image : Image} {a b : World} {at host : ℕ} {xs : List ℕ} → Runs (only_file f) a b → IsTrue a.tells → at / 4096 < clusters_of (a.seen f) → at % 4096 + length xs ≤ 4096
    → IsOpen image (b.seen f) × (disk_of (b.seen f) ≡ disk_of (a.seen f)) × KeepsRest (a.seen f) (b.seen f) × (host ≡ host_of (b.seen f) (at / 4096)) × (host ≢ 0) → Stored f image a b at host xs
stored {f} {image} {a} {b} run told below piece s =
    let size = same_disk_size (b.seen f) (a.seen f) s.1 in
    record { told = told_on run told; opened = s.0; disk = s.1; keeps = s.2; target = record { form = s.0.form; below = rw size below; host = sym s.3; some = s.4; piece = piece } }

module _ {f m : ℕ} {image : Image} {a b d : World} {at host : ℕ} {xs : List ℕ} (s : Stored f image a b at host xs) (same : m ≡ f) where
  -- a write of them, full or in part, spares the rest
  pub stored_spares : Writes m (host + at % 4096) xs b d → Spares (a.seen f) (d.seen f)
  stored_spares call = spares_on s.keeps (data_spares (b.seen f) (at / 4096) host (at % 4096) xs s.target (d.seen f) (changes_torn (host + at % 4096) xs (b.seen f) (d.seen f) ((moved_write same refl refl call).torn s.told)))

  -- and leaves each byte of the disk as it was or as written
  pub stored_between : Writes m (host + at % 4096) xs b d → at + length xs ≤ disk_size (a.seen f) → Between (disk_of (a.seen f)) (overlay (disk_of (a.seen f)) at xs) (disk_of (d.seen f))
  stored_between call inside =
      let size = same_disk_size (b.seen f) (a.seen f) s.disk in
      subst (λ (disk : List ℕ). Between disk (overlay disk at xs) (disk_of (d.seen f))) s.disk (torn_disk (b.seen f) (d.seen f) at host xs s.target (rw size inside) ((moved_write same refl refl call).torn s.told))

  -- a write of all of them changes these bytes of the disk alone
  pub stored_written : HasWritten m (host + at % 4096) xs b d → at + length xs ≤ disk_size (a.seen f) → IsOpen image (d.seen f) × (disk_of (d.seen f) ≡ overlay (disk_of (a.seen f)) at xs) × KeepsRest (a.seen f) (d.seen f)
  stored_written done inside =
      let t = s.target in
      let size = same_disk_size (b.seen f) (a.seen f) s.disk in
      let wrote : HasWritten f (host + at % 4096) xs b d = moved_written same refl refl done in
      subst (λ (file : List ℕ). IsOpen image file × (disk_of file ≡ overlay (disk_of (a.seen f)) at xs) × KeepsRest (a.seen f) file) (sym (wrote.seen s.told)) (
        open_kept image (b.seen f) _ s.opened (data_tables (b.seen f) (at / 4096) host (at % 4096) xs t) (data_length (b.seen f) (at / 4096) host (at % 4096) xs t),
        data_disk (b.seen f) at host xs t (rw size inside) ∙ ap (λ (disk : List ℕ). overlay disk at xs) s.disk,
        keeps_on s.opened.form s.keeps (data_keeps (b.seen f) (at / 4096) host (at % 4096) xs t),
      )

-- ---- piece after piece

-- what a write of a piece tells
abbrev pub Puts : World → World → Image → Image → ℕ → ℕ → List ℕ → Type 0
Puts old new before after f at xs = IsTrue old.tells → IsOpen before (old.seen f) → at + length xs ≤ disk_size (old.seen f)
    → IsOpen after (new.seen f) × (disk_of (new.seen f) ≡ overlay (disk_of (old.seen f)) at xs) × KeepsRest (old.seen f) (new.seen f)

-- that one written in part spares the rest
abbrev pub PutSpares : World → World → Image → ℕ → ℕ → List ℕ → Type 0
PutSpares old new before f at xs = IsTrue old.tells → IsOpen before (old.seen f) → at + length xs ≤ disk_size (old.seen f) → Spares (old.seen f) (new.seen f)

-- and leaves each byte of the disk as it was or as written
abbrev pub PutBetween : World → World → Image → ℕ → ℕ → List ℕ → Type 0
PutBetween old new before f at xs = IsTrue old.tells → IsOpen before (old.seen f) → at + length xs ≤ disk_size (old.seen f) → Between (disk_of (old.seen f)) (overlay (disk_of (old.seen f)) at xs) (disk_of (new.seen f))

-- the first pieces of a range were written, where files are told, and one more is at hand
pub record Pieces (a b : World) (j : Image) (f m at : ℕ) (xs piece : List ℕ) (done n : ℕ) : Type 0 where
  pub told : IsTrue b.tells
  pub number : m ≡ f
  pub fits : done + n ≤ length xs
  pub is : piece ≡ take n (drop done xs)
  pub inside : at + length xs ≤ disk_size (a.seen f)
  pub before : IsOpen j (b.seen f) × (disk_of (b.seen f) ≡ overlay (disk_of (a.seen f)) at (take done xs)) × KeepsRest (a.seen f) (b.seen f)

module _ {a b : World} {j : Image} {f m at : ℕ} {xs piece : List ℕ} {done n : ℕ} (p : Pieces a b j f m at xs piece done n) where
  piece_long : length piece ≡ n
  piece_long = let fits = p.fits in ap length p.is ∙ omega (arith, length-take n (drop done xs), length-drop done xs)

  piece_inside : at + done + length piece ≤ disk_size (b.seen f)
  piece_inside =
      let fits = p.fits in
      let inside = p.inside in
      let size : disk_size (b.seen f) ≡ disk_size (a.seen f) = sym (length-disk_of (b.seen f)) ∙ ap length p.before.1 ∙ length-overlay_inside (disk_of (a.seen f)) at (take done xs) (omega (arith, length-take done xs, length-disk_of (a.seen f))) ∙ length-disk_of (a.seen f) in
      omega (arith, size, piece_long)

  -- the disk with it is the old disk with more of the range
  piece_after : overlay (disk_of (b.seen f)) (at + done) piece ≡ overlay (disk_of (a.seen f)) at (take (done + n) xs)
  piece_after =
      let old = disk_of (a.seen f) in
      let fits = p.fits in
      let inside = p.inside in
      let front : at + done ≡ at + length (take done xs) = omega (arith, length-take done xs) in
      ap (λ (disk : List ℕ). overlay disk (at + done) piece) p.before.1 ∙ ap (λ (o : ℕ). overlay (overlay old at (take done xs)) o piece) front
      ∙ overlay_two old at (take done xs) piece (omega (arith, piece_long, length-take done xs, length-disk_of (a.seen f)))
      ∙ ap (λ (t : List ℕ). overlay old at (take done xs ++ t)) p.is ∙ ap (overlay old at) (pieces xs done n)

  -- it makes them more of the range
  pub puts_more : (d : World) (k : Image) → Puts b d j k m (at + done) piece → IsOpen k (d.seen f) × (disk_of (d.seen f) ≡ overlay (disk_of (a.seen f)) at (take (done + n) xs)) × KeepsRest (a.seen f) (d.seen f)
  puts_more d k put =
      let next = subst (λ (i : ℕ). Puts b d j k i (at + done) piece) p.number put p.told p.before.0 piece_inside in
      (next.0, next.1 ∙ piece_after, keeps_on p.before.0.form p.before.2 next.2)

  -- one that was written in part spares the rest
  pub put_spares_more : (d : World) → PutSpares b d j m (at + done) piece → Spares (a.seen f) (d.seen f)
  put_spares_more d put = spares_on p.before.2 (subst (λ (i : ℕ). PutSpares b d j i (at + done) piece) p.number put p.told p.before.0 piece_inside)

  -- and leaves each byte of the disk as it was or as the whole range has it
  pub put_between_more : (d : World) → PutBetween b d j m (at + done) piece → Between (disk_of (a.seen f)) (overlay (disk_of (a.seen f)) at xs) (disk_of (d.seen f))
  put_between_more d put =
      let inside = p.inside in
      between_more (disk_of (a.seen f)) at xs done (done + n) (disk_of (b.seen f)) (overlay (disk_of (b.seen f)) (at + done) piece) (disk_of (d.seen f)) (omega (arith, length-disk_of (a.seen f))) p.before.1 piece_after
      (subst (λ (i : ℕ). PutBetween b d j i (at + done) piece) p.number put p.told p.before.0 piece_inside)
