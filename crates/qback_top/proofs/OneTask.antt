-- The same words say one task at most.
use Rattle.std.proofs.Common.{◌≡◌, ◌∷◌, [], ℕ, List, Option, Some, None, Ok, get_or, refl, sym, ap, subst, ◌∙◌, arith}
use Rattle.std.specs.Prelude.{codes}
use Rattle.hex.specs.Hex.{decode_sized}
use Rattle.script_model.specs.Words.{IsNumber}
use Rattle.script_model.proofs.Numbers.{one_number}
use Rattle.qback_top.specs.declared.words.Task.{Task}
use Rattle.qback_top.specs.declared.words.Task.TheVariants.{CreateSource, CreateTarget, Info, Replay}
use Rattle.qback_top.specs.Words.{IsTask, IsId, IsReplay, IsInfo, IsCreateSource, IsCreateTarget, backing_words}

-- ---- the parts of two readings

-- words that are equal spell equal numbers
same_number : (a b : List ℕ) (m n : ℕ) → a ≡ b → IsNumber a m → IsNumber b n → m ≡ n
same_number a b m n e h k = one_number a m n h (subst (λ (t : List ℕ). IsNumber t n) (sym e) k)

-- and equal ids
same_id : (a b id id2 : List ℕ) → a ≡ b → IsId a id → IsId b id2 → id ≡ id2
same_id a b id id2 e h k = let f : decode_sized a 16 ≡ Ok id2 = subst (λ (t : List ℕ). decode_sized t 16 ≡ Ok id2) (sym e) k in let g = sym h ∙ f in cc

-- the words name one backing file, or none
same_backing : (a b : Option (List ℕ)) → backing_words a ≡ backing_words b → a ≡ b
same_backing None None e = refl
same_backing None (Some y) e = absurd cc
same_backing (Some x) None e = absurd cc
same_backing (Some x) (Some y) e = cc

-- ---- two readings of one command

one_source : (w : List (List ℕ)) (file : List ℕ) (size bits : ℕ) (id file2 : List ℕ) (size2 bits2 : ℕ) (id2 : List ℕ) → IsCreateSource w file size bits id → IsCreateSource w file2 size2 bits2 id2
    → CreateSource file size bits id ≡ CreateSource file2 size2 bits2 id2
one_source w file size bits id file2 size2 bits2 id2 h k =
    let e = sym h.spelled ∙ k.spelled in
    let files : file ≡ file2 = cc e in
    let sizes : size ≡ size2 = same_number h.size_word k.size_word size size2 (cc e) h.form.sizes k.form.sizes in
    let all_bits : bits ≡ bits2 = same_number h.bits_word k.bits_word bits bits2 (cc e) h.form.cluster_bits k.form.cluster_bits in
    let ids : id ≡ id2 = same_id h.id_word k.id_word id id2 (cc e) h.decodes k.decodes in
    rw (files, sizes, all_bits, ids) refl

one_target : (w : List (List ℕ)) (file : List ℕ) (size bits : ℕ) (under : Option (List ℕ)) (file2 : List ℕ) (size2 bits2 : ℕ) (under2 : Option (List ℕ)) → IsCreateTarget w file size bits under → IsCreateTarget w file2 size2 bits2 under2
    → CreateTarget file size bits under ≡ CreateTarget file2 size2 bits2 under2
one_target w file size bits under file2 size2 bits2 under2 h k =
    let e = sym h.spelled ∙ k.spelled in
    let files : file ≡ file2 = cc e in
    let sizes : size ≡ size2 = same_number h.size_word k.size_word size size2 (cc e) h.form.sizes k.form.sizes in
    let all_bits : bits ≡ bits2 = same_number h.bits_word k.bits_word bits bits2 (cc e) h.form.cluster_bits k.form.cluster_bits in
    let unders : under ≡ under2 = same_backing under under2 (cc e) in
    rw (files, sizes, all_bits, unders) refl

one_info : (w : List (List ℕ)) (file file2 : List ℕ) → IsInfo w file → IsInfo w file2 → Info file ≡ Info file2
one_info w file file2 h k = let e = sym h.spelled ∙ k.spelled in let files : file ≡ file2 = cc e in rw files refl

one_replay : (w : List (List ℕ)) (file script file2 script2 : List ℕ) → IsReplay w file script → IsReplay w file2 script2 → Replay file script ≡ Replay file2 script2
one_replay w file script file2 script2 h k =
    let e = sym h.spelled ∙ k.spelled in
    let files : file ≡ file2 = cc e in
    let scripts : script ≡ script2 = cc e in
    rw (files, scripts) refl

-- ---- readings of two commands

-- the first words of two commands differ
source_or_target : (a b : List (List ℕ)) → codes "create-source" ∷ a ≡ codes "create-target" ∷ b → ⊥
source_or_target a b e = absurd (let f : 115 ≡ 116 = ap (λ (t : List (List ℕ)). get_or (get_or t 0 []) 7 0) e in omega arith)

source_or_info : (a b : List (List ℕ)) → codes "create-source" ∷ a ≡ codes "info" ∷ b → ⊥
source_or_info a b e = absurd cc

source_or_replay : (a b : List (List ℕ)) → codes "create-source" ∷ a ≡ codes "replay" ∷ b → ⊥
source_or_replay a b e = absurd cc

target_or_info : (a b : List (List ℕ)) → codes "create-target" ∷ a ≡ codes "info" ∷ b → ⊥
target_or_info a b e = absurd cc

target_or_replay : (a b : List (List ℕ)) → codes "create-target" ∷ a ≡ codes "replay" ∷ b → ⊥
target_or_replay a b e = absurd cc

info_or_replay : (a b : List (List ℕ)) → codes "info" ∷ a ≡ codes "replay" ∷ b → ⊥
info_or_replay a b e = absurd cc

pub one_task : (words : List (List ℕ)) (a b : Task) → IsTask words a → IsTask words b → a ≡ b
one_task w (CreateSource file size bits id) (CreateSource file2 size2 bits2 id2) h k = one_source w file size bits id file2 size2 bits2 id2 h k
one_task w (CreateSource file size bits id) (CreateTarget file2 size2 bits2 under) h k = absurd (source_or_target _ _ (sym h.spelled ∙ k.spelled))
one_task w (CreateSource file size bits id) (Info file2) h k = absurd (source_or_info _ _ (sym h.spelled ∙ k.spelled))
one_task w (CreateSource file size bits id) (Replay file2 script) h k = absurd (source_or_replay _ _ (sym h.spelled ∙ k.spelled))
one_task w (CreateTarget file size bits under) (CreateSource file2 size2 bits2 id) h k = absurd (source_or_target _ _ (sym k.spelled ∙ h.spelled))
one_task w (CreateTarget file size bits under) (CreateTarget file2 size2 bits2 under2) h k = one_target w file size bits under file2 size2 bits2 under2 h k
one_task w (CreateTarget file size bits under) (Info file2) h k = absurd (target_or_info _ _ (sym h.spelled ∙ k.spelled))
one_task w (CreateTarget file size bits under) (Replay file2 script) h k = absurd (target_or_replay _ _ (sym h.spelled ∙ k.spelled))
one_task w (Info file) (CreateSource file2 size2 bits2 id) h k = absurd (source_or_info _ _ (sym k.spelled ∙ h.spelled))
one_task w (Info file) (CreateTarget file2 size2 bits2 under) h k = absurd (target_or_info _ _ (sym k.spelled ∙ h.spelled))
one_task w (Info file) (Info file2) h k = one_info w file file2 h k
one_task w (Info file) (Replay file2 script) h k = absurd (info_or_replay _ _ (sym h.spelled ∙ k.spelled))
one_task w (Replay file script) (CreateSource file2 size2 bits2 id) h k = absurd (source_or_replay _ _ (sym k.spelled ∙ h.spelled))
one_task w (Replay file script) (CreateTarget file2 size2 bits2 under) h k = absurd (target_or_replay _ _ (sym k.spelled ∙ h.spelled))
one_task w (Replay file script) (Info file2) h k = absurd (info_or_replay _ _ (sym k.spelled ∙ h.spelled))
one_task w (Replay file script) (Replay file2 script2) h k = one_replay w file script file2 script2 h k
