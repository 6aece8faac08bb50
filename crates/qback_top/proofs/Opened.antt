-- What the opening of an image reads.
use Rattle.std.proofs.Common.{◌≡◌, ◌≢◌, ℕ, zero, suc, ◌+◌, ◌*◌, ◌-◌, ◌/◌, ◌%◌, ◌^◌, ◌<◌, ◌≤◌, List, length, take, drop, refl, sym, ◌∙◌, ap, subst, arith}
use Rattle.std.specs.Int.{from_be_bytes, w32, w64}
use Rattle.disk_model.specs.Files.{reading, u32_at, u64_at}
use Rattle.qc_layout.specs.Entries.{offset_in}
use Rattle.qc_layout.specs.FirstForm.{head_of, disk_size, l1_offset, table_offset, host_of, clusters_of, IsPlainEntry, IsFirstForm, IsTaken}
use Rattle.disk_model.specs.declared.depot.FileNo.{FileNo}
use Rattle.qback_top.specs.declared.image.Image.{Image}
use Rattle.qback_top.specs.Open.{IsOpen, IsNamed, EntryFits, EntriesFit, TablesFit, HeadFits}
use Rattle.disk_model.proofs.Words.{reading_inside, number_read, number-reading}
use Rattle.qback_top.proofs.Disk.{host_none, host_some}

-- ---- numbers in a list

-- the number of a slice
pub slice_u32 : (bytes : List ℕ) (at : ℕ) → at + 4 ≤ length bytes → from_be_bytes w32 (take (at + 4 - at) (drop at bytes)) ≡ u32_at bytes at
slice_u32 bytes at inside =
    let four : at + 4 - at ≡ 4 = omega arith in
    ap (λ (n : ℕ). from_be_bytes w32 (take n (drop at bytes))) four ∙ sym (number_read w32 bytes (take 4 (drop at bytes)) at (reading_inside bytes at 4 inside))

-- the same of eight bytes
pub slice_u64 : (bytes : List ℕ) (at : ℕ) → at + 8 ≤ length bytes → from_be_bytes w64 (take (at + 8 - at) (drop at bytes)) ≡ u64_at bytes at
slice_u64 bytes at inside =
    let eight : at + 8 - at ≡ 8 = omega arith in
    ap (λ (n : ℕ). from_be_bytes w64 (take n (drop at bytes))) eight ∙ sym (number_read w64 bytes (take 8 (drop at bytes)) at (reading_inside bytes at 8 inside))

-- ---- the tables

-- a file whose first-level entry names no table
pub tables_none : (file : List ℕ) (size l1 end : ℕ) → IsNamed (u64_at file l1) → offset_in (u64_at file l1) ≡ 0 → TablesFit file size l1 end
tables_none file size l1 end named none = record {
  named = named;
  inside = λ some. absurd (some none);
  apart = λ some. absurd (some none);
  entries = λ some. absurd (some none);
}

-- one whose first-level entry names a table, before the end and apart
pub record IsAt (file : List ℕ) (l1 end table : ℕ) : Type 0 where
  pub named : IsNamed (u64_at file l1)
  pub is : table ≡ offset_in (u64_at file l1)
  pub some : table ≢ 0
  pub inside : table < end
  pub apart : table ≢ l1

-- its tables fit where the entries that were read do
pub tables_from : (file entries : List ℕ) (size l1 end table count : ℕ) → IsAt file l1 end table → entries ≡ reading file table 4096 → count ≡ (size + 4095) / 4096
    → EntriesFit entries l1 table end count → TablesFit file size l1 end
tables_from file entries size l1 end table count at read counted fit = record {
  named = at.named;
  inside = λ some. let t = at.is in let i = at.inside in omega arith;
  apart = λ some e. at.apart (at.is ∙ e);
  entries = λ some. subst (λ (t : ℕ). EntriesFit (reading file t 4096) l1 t end ((size + 4095) / 4096)) at.is
      (subst (λ (n : ℕ). EntriesFit (reading file table 4096) l1 table end n) counted (subst (λ (l : List ℕ). EntriesFit l l1 table end count) read fit));
}

-- and only there
pub tables_give : (file entries : List ℕ) (size l1 end table count : ℕ) → IsAt file l1 end table → entries ≡ reading file table 4096 → count ≡ (size + 4095) / 4096
    → TablesFit file size l1 end → EntriesFit entries l1 table end count
tables_give file entries size l1 end table count at read counted fit =
    subst (λ (l : List ℕ). EntriesFit l l1 table end count) (sym read)
    (subst (λ (n : ℕ). EntriesFit (reading file table 4096) l1 table end n) (sym counted)
    (subst (λ (t : ℕ). EntriesFit (reading file t 4096) l1 t end ((size + 4095) / 4096)) (sym at.is) (fit.entries (λ z. at.some (at.is ∙ z)))))

-- ---- the form of an image

-- an offset that is 0 is aligned too
aligned_unless : (o : ℕ) → (o ≢ 0 → o % 4096 ≡ 0) → o % 4096 ≡ 0
aligned_unless zero aligned = refl
aligned_unless (suc o) aligned = aligned (λ none. absurd cc)

-- an entry of the table that was read says where a cluster is stored
entry_host : (file : List ℕ) (n : ℕ) → n < 512 → table_offset file ≢ 0 → offset_in (u64_at (reading file (table_offset file) 4096) (8 * n)) ≡ host_of file n
entry_host file n below some =
    ap (λ (w : ℕ). offset_in w) (number-reading w64 file (table_offset file) 4096 (8 * n) (omega arith)) ∙ host_some file n some

-- a stored cluster lies in the file, apart from the tables and from each earlier one
record HostFits (file : List ℕ) (n : ℕ) : Type 0 where
  pub aligned : host_of file n % 4096 ≡ 0
  pub inside : host_of file n ≢ 0 → host_of file n < length file
  pub not_l1 : host_of file n ≢ 0 → host_of file n ≢ l1_offset file
  pub not_table : host_of file n ≢ 0 → host_of file n ≢ table_offset file
  pub new : host_of file n ≢ 0 → (m : ℕ) → m < n → host_of file m ≢ host_of file n

-- it does where its entry fits
host_fits : (file : List ℕ) (n : ℕ) → n < 512 → table_offset file ≢ 0 → EntryFits (reading file (table_offset file) 4096) (l1_offset file) (table_offset file) (length file) n → HostFits file n
host_fits file n below some fits =
    let here = entry_host file n below some in
    record {
      aligned = subst (λ (o : ℕ). o % 4096 ≡ 0) here fits.named.aligned;
      inside = subst (λ (o : ℕ). o ≢ 0 → o < length file) here fits.inside;
      not_l1 = subst (λ (o : ℕ). o ≢ 0 → o ≢ l1_offset file) here fits.not_l1;
      not_table = subst (λ (o : ℕ). o ≢ 0 → o ≢ table_offset file) here fits.not_table;
      new = λ stored m earlier same. fits.new (λ z. stored (sym here ∙ z)) m earlier (entry_host file m (omega arith) some ∙ same ∙ sym here);
    }

-- what the tests find is the form
pub form_found : (file : List ℕ) → 104 ≤ length file → length file % 4096 ≡ 0 → HeadFits (head_of file) (length file) → TablesFit file (disk_size file) (l1_offset file) (length file) → IsFirstForm file
form_found file long whole head tables = record {
  long = long;
  whole = whole;
  header = head.header;
  l1 = record { aligned = head.aligned; some = head.some; inside = head.inside };
  l1_entry = tables.named.plain;
  table = λ some. record { aligned = tables.named.aligned; some = omega arith; inside = tables.inside some };
  table_apart = λ same. let l1 = head.some in tables.apart (λ none. absurd (omega (arith, same, none, l1))) same;
  entries = λ n below some. subst IsPlainEntry (number-reading w64 file (table_offset file) 4096 (8 * n) (omega (arith, few n below))) (tables.entries some n below).named.plain;
  hosts = λ n below stored.
      let fits = each n below stored in
      record { aligned = fits.aligned; some = omega arith; inside = fits.inside stored };
  hosts_apart = λ n below stored. ((each n below stored).not_l1 stored, (each n below stored).not_table stored);
  distinct = λ m n earlier below stored same.
      let later : host_of file n ≢ 0 = (λ none. stored (same ∙ none)) in
      (each n below later).new later m earlier same;
}
  where
    few : (n : ℕ) → n < clusters_of file → n < 512
    few n below = omega (arith, head.header.size_limit)

    each : (n : ℕ) → n < clusters_of file → host_of file n ≢ 0 → HostFits file n
    each n below stored =
        let some : table_offset file ≢ 0 = (λ none. stored (sym (host_none file n none))) in
        host_fits file n (few n below) some (tables.entries some n below)

-- the form passes the header's test
pub form_head : (file : List ℕ) → IsFirstForm file → HeadFits (head_of file) (length file)
form_head file form = record { header = form.header; aligned = form.l1.aligned; some = form.l1.some; inside = form.l1.inside }

-- and that of the tables
pub form_tables : (file : List ℕ) → IsFirstForm file → TablesFit file (disk_size file) (l1_offset file) (length file)
form_tables file form = record {
  named = record { plain = form.l1_entry; aligned = aligned_unless (table_offset file) (λ some. (form.table some).aligned) };
  inside = λ some. (form.table some).inside;
  apart = λ some. form.table_apart;
  entries = λ some n below.
      let low : n < 512 = omega (arith, form.header.size_limit) in
      let here = entry_host file n low some in
      record {
        named = record {
          plain = subst IsPlainEntry (sym (number-reading w64 file (table_offset file) 4096 (8 * n) (omega arith))) (form.entries n below some);
          aligned = subst (λ (o : ℕ). o % 4096 ≡ 0) (sym here) (aligned_unless (host_of file n) (λ stored. (form.hosts n below stored).aligned));
        };
        inside = subst (λ (o : ℕ). o ≢ 0 → o < length file) (sym here) (λ stored. (form.hosts n below stored).inside);
        not_l1 = subst (λ (o : ℕ). o ≢ 0 → o ≢ l1_offset file) (sym here) (λ stored. (form.hosts_apart n below stored).0);
        not_table = subst (λ (o : ℕ). o ≢ 0 → o ≢ table_offset file) (sym here) (λ stored. (form.hosts_apart n below stored).1);
        new = λ stored m earlier same.
            let hosts : host_of file m ≡ host_of file n = sym (entry_host file m (omega arith) some) ∙ same ∙ here in
            form.distinct m n earlier below (λ none. stored (here ∙ sym hosts ∙ none)) hosts;
      };
}

-- what an opening knows of the file once its header is read
pub record IsDescribed (image : Image) (file : List ℕ) : Type 0 where
  pub size : image.size ≡ disk_size file
  pub l1 : image.l1 ≡ l1_offset file
  pub end : image.end ≡ length file

-- the header gives it
pub described : (image : Image) (file head : List ℕ) (number : FileNo) (end : ℕ) → head ≡ head_of file → end ≡ length file
    → image ≡ record { file = number; size = u64_at head 24; l1 = u64_at head 40; end = end } → IsDescribed image file
described image file head number end read long is = record {
  size = ap (λ (i : Image). i.size) is ∙ ap (λ (h : List ℕ). u64_at h 24) read;
  l1 = ap (λ (i : Image). i.l1) is ∙ ap (λ (h : List ℕ). u64_at h 40) read;
  end = ap (λ (i : Image). i.end) is ∙ long;
}

-- an image whose tests all pass
pub opened : (image : Image) (file : List ℕ) → IsDescribed image file → 104 ≤ length file → length file % 4096 ≡ 0 → length file ≤ 2 ^ 40 → HeadFits (head_of file) (length file)
    → TablesFit file image.size image.l1 image.end → IsTaken file × IsOpen image file
opened image file is long whole limit head tables =
    let form = form_found file long whole head (subst (λ (n : ℕ). TablesFit file (disk_size file) (l1_offset file) n) is.end
    (subst (λ (n : ℕ). TablesFit file (disk_size file) n image.end) is.l1 (subst (λ (n : ℕ). TablesFit file n image.l1 image.end) is.size tables))) in
    (record { form = form; limit = limit }, record { form = form; size = is.size; l1 = is.l1; end = is.end })

-- one whose tables don't fit
pub not_opened : (image : Image) (file : List ℕ) → IsDescribed image file → (TablesFit file image.size image.l1 image.end → ⊥) → IsTaken file → ⊥
not_opened image file is unfit taken =
    unfit (subst (λ (n : ℕ). TablesFit file n image.l1 image.end) (sym is.size)
    (subst (λ (n : ℕ). TablesFit file (disk_size file) n image.end) (sym is.l1) (subst (λ (n : ℕ). TablesFit file (disk_size file) (l1_offset file) n) (sym is.end) (form_tables file taken.form))))
