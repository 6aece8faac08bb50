-- `info` is due one end at most.
use Rattle.std.proofs.Common.{◌≡◌, ◌≢◌, ◌⊎◌, inl, inr, ℕ, ◌^◌, List, ◌++◌, Option, Some, None, refl, sym, ap, subst, ◌∙◌}
use Rattle.std.specs.Prelude.{codes}
use Rattle.std.specs.Fmt.{decimal}
use Rattle.disk_model.specs.World.{World}
use Rattle.qc_layout.specs.declared.header.Fields.{Fields}
use Rattle.qc_layout.specs.declared.header.Header.{Header}
use Rattle.qc_layout.specs.declared.header.HeaderFault.{HeaderFault}
use Rattle.qc_layout.specs.declared.header.Own.{Own}
use Rattle.qc_layout.specs.declared.header.Part.{Part}
use Rattle.qc_layout.specs.declared.header.Part.TheVariants as parts
use Rattle.qc_layout.specs.declared.records.RecordFault.{RecordFault}
use Rattle.qc_layout.specs.Disks.{IsReadAs}
use Rattle.qc_layout.specs.Laws.{SameHeader}
use Rattle.qc_layout.specs.Spelling.{IsHeaderOf, IsFault}
use Rattle.qc_layout.proofs.Cited.{one_fault, fault_or_header, one_header}
use Rattle.qback_top.specs.Words.{IsInfo}
use Rattle.image_model.specs.Refusals.{header_reason, record_reason}
use Rattle.qback_top.specs.Infos.{InfoDue, IsToldAs, IsRefusedAs, fault_in, info_text, kind_line, own_lines}
use Rattle.qback_top.specs.Endings.{Ending, NoForm, Missing, Exists, Refused, BadLine, Made, Told, Ran}

-- ---- what a file is

-- a file is read as one part
one_part : (file : List ℕ) (p q : Part) → IsReadAs file p → IsReadAs file q → p ≡ q
one_part file parts.Target parts.Target is other = refl
one_part file parts.Source parts.Source is other = refl
one_part file parts.Target parts.Source is other = absurd (other is)
one_part file parts.Source parts.Target is other = absurd (is other)
one_part file parts.Foreign q is other = absurd is
one_part file p parts.Foreign is other = absurd other

-- what `info` says of a header is said of three of its fields
text_by : Own → ℕ → ℕ → List ℕ
text_by own size bits = kind_line own ++ codes "size " ++ decimal size ++ codes "\ncluster " ++ decimal (2 ^ bits) ++ codes "\n" ++ own_lines own

same_text : (h k : Header) → SameHeader h k → text_by h.own h.fields.size h.fields.cluster_bits ≡ text_by k.own k.fields.size k.fields.cluster_bits
same_text h k same = ap (λ (own : Own). text_by own h.fields.size h.fields.cluster_bits) same.own ∙ ap (λ (f : Fields). text_by k.own f.size f.cluster_bits) same.fields

same_info : (h k : Header) → SameHeader h k → info_text h ≡ info_text k
unfolding text_by
same_info h k same = same_text h k same

same_fault : (h k : Header) → SameHeader h k → fault_in h.fields.cluster_bits h.own ≡ fault_in k.fields.cluster_bits k.own
same_fault h k same = ap (λ (f : Fields). fault_in f.cluster_bits h.own) same.fields ∙ ap (fault_in k.fields.cluster_bits) same.own

-- one file's header against itself
alike : (part : Part) (file : List ℕ) (h k : Header) → IsHeaderOf part file h → IsHeaderOf part file k → SameHeader h k
alike part file h k is other = one_header part file h k is other

built_or_not : (part : Part) (file : List ℕ) (h k : Header) → IsHeaderOf part file h → IsHeaderOf part file k → h.bitmaps ≢ None → k.bitmaps ≡ None → ⊥
built_or_not part file h k is other some none = some ((alike part file h k is other).bitmaps ∙ none)

two_faults : (o p : Option RecordFault) (a b : RecordFault) → o ≡ p → o ≡ Some a → p ≡ Some b → a ≡ b
two_faults o p a b same is other = cc

fault_or_none : (o p : Option RecordFault) (a : RecordFault) → o ≡ p → o ≡ Some a → p ≡ None → ⊥
fault_or_none o p a same is none = cc

-- ---- as one part

abbrev RefusedBy : Part → List ℕ → List ℕ → Type 0
RefusedBy part file reason =
    ((fault : HeaderFault) × IsFault part file fault × (reason ≡ header_reason fault))
    ⊎ ((h : Header) × IsHeaderOf part file h × (h.bitmaps ≢ None) × (reason ≡ codes "Unbuilt"))
    ⊎ ((h : Header) × (fault : RecordFault) × IsHeaderOf part file h × (h.bitmaps ≡ None) × (fault_in h.fields.cluster_bits h.own ≡ Some fault) × (reason ≡ record_reason fault))

record ToldBy (part : Part) (file text : List ℕ) : Type 0 where
  header : Header
  spells : IsHeaderOf part file header
  built : header.bitmaps ≡ None
  passes : fault_in header.fields.cluster_bits header.own ≡ None
  is : text ≡ info_text header

refused_by : (file reason : List ℕ) (part : Part) (is : IsRefusedAs file reason) → IsReadAs file part → RefusedBy part file reason
refused_by file reason part is reads = subst (λ (p : Part). RefusedBy p file reason) (one_part file is.0 part is.1 reads) is.2

told_by : (file text : List ℕ) (part : Part) (is : IsToldAs file text) → IsReadAs file part → ToldBy part file text
told_by file text part is reads =
    subst (λ (p : Part). ToldBy p file text) (one_part file is.0 part is.2 reads)
    (record { header = is.1; spells = is.3; built = is.4; passes = is.5; is = is.6 })

one_reason : (part : Part) (file r s : List ℕ) → RefusedBy part file r → RefusedBy part file s → r ≡ s
one_reason part file r s (inl x) (inl y) = x.2 ∙ ap header_reason (one_fault part file x.0 y.0 x.1 y.1) ∙ sym y.2
one_reason part file r s (inl x) (inr (inl y)) = absurd (fault_or_header part file y.0 x.0 y.1.spells x.1)
one_reason part file r s (inl x) (inr (inr y)) = absurd (fault_or_header part file y.0 x.0 y.2.spells x.1)
one_reason part file r s (inr (inl x)) (inl y) = absurd (fault_or_header part file x.0 y.0 x.1.spells y.1)
one_reason part file r s (inr (inl x)) (inr (inl y)) = x.3 ∙ sym y.3
one_reason part file r s (inr (inl x)) (inr (inr y)) = absurd (built_or_not part file x.0 y.0 x.1 y.2 x.2 y.3)
one_reason part file r s (inr (inr x)) (inl y) = absurd (fault_or_header part file x.0 y.0 x.2.spells y.1)
one_reason part file r s (inr (inr x)) (inr (inl y)) = absurd (built_or_not part file y.0 x.0 y.1 x.2 y.2 x.3)
one_reason part file r s (inr (inr x)) (inr (inr y)) =
    x.5
    ∙ ap record_reason (two_faults (fault_in x.0.fields.cluster_bits x.0.own) (fault_in y.0.fields.cluster_bits y.0.own) x.1 y.1 (same_fault x.0 y.0 (alike part file x.0 y.0 x.2 y.2)) x.4 y.4)
    ∙ sym y.5

told_or_refused : (part : Part) (file text reason : List ℕ) → ToldBy part file text → RefusedBy part file reason → ⊥
told_or_refused part file text reason told (inl x) = fault_or_header part file told.header x.0 told.spells.spells x.1
told_or_refused part file text reason told (inr (inl x)) = built_or_not part file x.0 told.header x.1 told.spells x.2 told.built
told_or_refused part file text reason told (inr (inr x)) =
    fault_or_none (fault_in x.0.fields.cluster_bits x.0.own) (fault_in told.header.fields.cluster_bits told.header.own) x.1 (same_fault x.0 told.header (alike part file x.0 told.header x.2 told.spells)) x.4 told.passes

one_text : (part : Part) (file t u : List ℕ) → ToldBy part file t → ToldBy part file u → t ≡ u
one_text part file t u told other = told.is ∙ same_info told.header other.header (alike part file told.header other.header told.spells other.spells) ∙ sym other.is

-- ---- of one file

refusals : (file r s : List ℕ) → IsRefusedAs file r → IsRefusedAs file s → r ≡ s
refusals file r s is other = one_reason is.0 file r s is.2 (refused_by file s is.0 other is.1)

texts : (file t u : List ℕ) → IsToldAs file t → IsToldAs file u → t ≡ u
texts file t u is other = one_text is.0 file t u (told_by file t is.0 is is.2) (told_by file u is.0 other is.2)

not_both : (file text reason : List ℕ) → IsToldAs file text → IsRefusedAs file reason → ⊥
not_both file text reason is other = told_or_refused is.0 file text reason (told_by file text is.0 is is.2) (refused_by file reason is.0 other is.2)

-- ---- of one name

one_name : (words : List (List ℕ)) (a b : List ℕ) → IsInfo words a → IsInfo words b → a ≡ b
one_name words a b h k = let e = sym h.spelled ∙ k.spelled in cc

one_number : (a b : List ℕ) (found : List ℕ → Option ℕ) (m n : ℕ) → a ≡ b → found a ≡ Some m → found b ≡ Some n → m ≡ n
one_number a b found m n e f g = cc

none_or_some : (a b : List ℕ) (found : List ℕ → Option ℕ) (n : ℕ) → a ≡ b → found a ≡ None → found b ≡ Some n → ⊥
none_or_some a b found n e f g = cc

-- the same file, by two names that the words say
same_file : (words : List (List ℕ)) (w : World) (a b : List ℕ) (m n : ℕ) → IsInfo words a → IsInfo words b → w.found a ≡ Some m → w.found b ≡ Some n → w.seen m ≡ w.seen n
same_file words w a b m n h k f g = ap w.seen (one_number a b w.found m n (one_name words a b h k) f g)

one_refusal : (words : List (List ℕ)) (w : World) (a b r s : List ℕ) → InfoDue words w (Refused a r) → InfoDue words w (Refused b s) → Refused a r ≡ Refused b s
one_refusal words w a b r s h k =
    let name = one_name words a b h.1 k.1 in
    let reason = refusals (w.seen k.0) r s (subst (λ (file : List ℕ). IsRefusedAs file r) (same_file words w a b h.0 k.0 h.1 k.1 h.2 k.2) h.3) k.3 in
    cc

refused_or_told : (words : List (List ℕ)) (w : World) (a r t : List ℕ) → InfoDue words w (Refused a r) → InfoDue words w (Told t) → ⊥
refused_or_told words w a r t h k = not_both (w.seen k.1) t r k.4 (subst (λ (file : List ℕ). IsRefusedAs file r) (same_file words w a k.0 h.0 k.1 h.1 k.2 h.2 k.3) h.3)

one_telling : (words : List (List ℕ)) (w : World) (t u : List ℕ) → InfoDue words w (Told t) → InfoDue words w (Told u) → Told t ≡ Told u
one_telling words w t u h k =
    ap Told (texts (w.seen k.1) t u (subst (λ (file : List ℕ). IsToldAs file t) (same_file words w h.0 k.0 h.1 k.1 h.2 k.2 h.3 k.3) h.4) k.4)

-- ---- the law

pub one_info_due : (words : List (List ℕ)) (w : World) (a b : Ending) → InfoDue words w a → InfoDue words w b → a ≡ b
one_info_due words w (Missing a) (Missing b) h k = ap Missing (one_name words a b h.0 k.0)
one_info_due words w (Missing a) (Refused b s) h k = absurd (none_or_some a b w.found k.0 (one_name words a b h.0 k.1) h.1 k.2)
one_info_due words w (Missing a) (Told u) h k = absurd (none_or_some a k.0 w.found k.1 (one_name words a k.0 h.0 k.2) h.1 k.3)
one_info_due words w (Refused a r) (Missing b) h k = absurd (none_or_some b a w.found h.0 (one_name words b a k.0 h.1) k.1 h.2)
one_info_due words w (Refused a r) (Refused b s) h k = one_refusal words w a b r s h k
one_info_due words w (Refused a r) (Told u) h k = absurd (refused_or_told words w a r u h k)
one_info_due words w (Told t) (Missing b) h k = absurd (none_or_some b h.0 w.found h.1 (one_name words b h.0 k.0 h.2) k.1 h.3)
one_info_due words w (Told t) (Refused b s) h k = absurd (refused_or_told words w b s t k h)
one_info_due words w (Told t) (Told u) h k = one_telling words w t u h k
one_info_due words w NoForm b h k = absurd h
one_info_due words w (Exists name) b h k = absurd h
one_info_due words w (BadLine n) b h k = absurd h
one_info_due words w (Made task) b h k = absurd h
one_info_due words w (Ran number orders) b h k = absurd h
one_info_due words w a NoForm h k = absurd k
one_info_due words w a (Exists name) h k = absurd k
one_info_due words w a (BadLine n) h k = absurd k
one_info_due words w a (Made task) h k = absurd k
one_info_due words w a (Ran number orders) h k = absurd k
