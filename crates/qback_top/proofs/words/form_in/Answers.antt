use Rattle.std.proofs.Common.{◌≡◌, ◌<◌, ◌≤◌, ◌∷◌, [], ℕ, List, length, get_or, map, Global, Some, None, sym, ap, subst, refl, arith, rules}
use Rattle.std.specs.Prelude.{string_bytes, Option}
use Rattle.std.specs.Option.{MatchOption}
use Rattle.std.proofs.lemmas.List.{length-map}
use Rattle.qback_top.specs.declared.words.Form.{Form}
use Rattle.qback_top.specs.declared.words.Task.{Task}
use Rattle.qback_top.specs.declared.words.Task.TheVariants.{CreateSource, CreateTarget, Info, Replay}
use Rattle.qback_top.specs.Words.{HaveNoForm, IsTask}
use Rattle.qback_top.specs.Forms.{said}
use Rattle.qback_top.proofs.words.form_in.Goals as goal
use Rattle.qback_top.proofs.words.form_in.Goals.{in_default-via-then-words-lt2, in_default-via-else-words-lt2+else-words-lt3+else-words-lt4+else-words-lt5+else-words-lt6}

-- lists of four and of five
four : {X : Type 0} (f : X → List ℕ) (xs : List X) (a b d e : X) → 4 ≤ length xs → length xs < 5 → a ≡ get_or xs 0 a → b ≡ get_or xs 1 b → d ≡ get_or xs 2 d → e ≡ get_or xs 3 e → map f xs ≡ f a ∷ f b ∷ f d ∷ f e ∷ []
four f [] a b d e low high i j k l = absurd (omega arith)
four f (x ∷ []) a b d e low high i j k l = absurd (omega arith)
four f (x ∷ y ∷ []) a b d e low high i j k l = absurd (omega arith)
four f (x ∷ y ∷ z ∷ []) a b d e low high i j k l = absurd (omega arith)
four f (x ∷ y ∷ z ∷ w ∷ []) a b d e low high i j k l = rw (i, j, k, l) refl
four f (x ∷ y ∷ z ∷ w ∷ v ∷ xs) a b d e low high i j k l = absurd (omega arith)

five : {X : Type 0} (f : X → List ℕ) (xs : List X) (a b d e g : X) → 5 ≤ length xs → length xs < 6 → a ≡ get_or xs 0 a → b ≡ get_or xs 1 b → d ≡ get_or xs 2 d → e ≡ get_or xs 3 e → g ≡ get_or xs 4 g → map f xs ≡ f a ∷ f b ∷ f d ∷ f e ∷ f g ∷ []
five f [] a b d e g low high i j k l m = absurd (omega arith)
five f (x ∷ xs) a b d e g low high i j k l m = rw i (ap (λ t. f x ∷ t) (four f xs b d e g (omega arith) (omega arith) j k l m))

-- what is said of words is said of the same words
moved : (r : Option Form) (w v : List (List ℕ)) → w ≡ v → MatchOption r (HaveNoForm v) (λ form. IsTask v (said form)) → MatchOption r (HaveNoForm w) (λ form. IsTask w (said form))
moved r w v e h = subst (λ (t : List (List ℕ)). MatchOption r (HaveNoForm t) (λ form. IsTask t (said form))) (sym e) h

-- a task is said by two to five words
counted : (w : List (List ℕ)) (task : Task) → IsTask w task → (2 ≤ length w) × (length w ≤ 5)
counted w (CreateSource file size bits id) h = rw h.spelled (omega arith, omega arith)
counted w (CreateTarget file size bits None) h = rw h.spelled (omega arith, omega arith)
counted w (CreateTarget file size bits (Some name)) h = rw h.spelled (omega arith, omega arith)
counted w (Info file) h = rw h.spelled (omega arith, omega arith)
counted w (Replay file script) h = rw h.spelled (omega arith, omega arith)

pub returns-in-len4 : goal.returns-in-len4
returns-in-len4 c =
    let words = four string_bytes c.args.words.now c.verb-item-then-words-lt5.result c.file-item-then-words-lt5.result c.size-item.result c.bits-item.result c.in-len4.len_at_least c.in-len4.len_below
    c.verb-item-then-words-lt5.is c.file-item-then-words-lt5.is c.size-item.is c.bits-item.is in
    moved c.four_form.result _ _ (rw (c.as_str-in-len4.ensures.value, c.as_str-in-len4-2.ensures.value, c.as_str-in-len4-3.ensures.value, c.as_str-in-len4-4.ensures.value) words) c.four_form.ensures

pub returns-in-len5 : goal.returns-in-len5
returns-in-len5 c =
    let words = five string_bytes c.args.words.now c.verb-item-then-words-lt6.result c.file-item-then-words-lt6.result c.size-item-then-words-lt6.result c.bits-item-then-words-lt6.result c.last-item.result c.in-len5.len_at_least c.in-len5.len_below
    c.verb-item-then-words-lt6.is c.file-item-then-words-lt6.is c.size-item-then-words-lt6.is c.bits-item-then-words-lt6.is c.last-item.is in
    moved c.five_form.result _ _ (rw (c.as_str-in-len5.ensures.value, c.as_str-in-len5-2.ensures.value, c.as_str-in-len5-3.ensures.value, c.as_str-in-len5-4.ensures.value, c.as_str-in-len5-5.ensures.value) words) c.five_form.ensures

pub returns-in_default : goal.returns-in_default
returns-in_default c = λ task h.
    let n = counted _ task h in
    let same = length-map c.args.words.now (string_bytes {Z = Global}) in
    elim c.in_default.branch [ in_default-via-then-words-lt2 w ↦ (let few : length c.args.words.now < 2 = search rules in absurd (omega (arith, n.0, same))) | in_default-via-else-words-lt2+else-words-lt3+else-words-lt4+else-words-lt5+else-words-lt6 w ↦ (let many : 5 < length c.args.words.now = search rules in absurd (omega (arith, n.1, same))) ]
