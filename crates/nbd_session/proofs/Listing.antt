-- Contexts that are listed, one after another.
use Rattle.std.proofs.Common.{◌≡◌, ℕ, ◌+◌, ◌<◌, List, [], ◌∷◌, ◌++◌, length, take, drop, get_or, Bool, true, false, refl, arith, sym, ap, ◌∙◌, map}
use Rattle.std.proofs.lemmas.Grind.{common_steps}
use Rattle.std.specs.Prelude.{filter, codes, bytes_eq}
use Rattle.std.specs.List.{list_any}
use Rattle.std.proofs.lemmas.List.Elements.{filter_more}
use Rattle.core_events.specs.declared.commands.SourceName.{SourceName}
use Rattle.nbd_model.specs.Options.{context_reply, is_listed, listed_replies, bitmap_context, once_each}
use Rattle.nbd_session.proofs.Growing.{sends_on}

abbrev listing : ℕ → List (List ℕ) → List (List ℕ) → List ℕ
listing option queries names = listed_replies option (filter (is_listed queries) names)

passed : {X : Type 0} (p : X → Bool) (x : X) (xs : List X) → p x ≡ true → filter p (x ∷ xs) ≡ x ∷ filter p xs
passed p x xs is = rw is refl

failed : {X : Type 0} (p : X → Bool) (x : X) (xs : List X) → p x ≡ false → filter p (x ∷ xs) ≡ filter p xs
failed p x xs is = rw is refl

pub told_of : (option : ℕ) (queries items : List (List ℕ)) (i : ℕ) (x out next all : List ℕ) → i < length items → x ≡ get_or items i x → is_listed queries x ≡ true
    → next ≡ out ++ context_reply option 0 x → out ++ listing option queries (drop i items) ≡ all → next ++ listing option queries (drop (i + 1) items) ≡ all
told_of option queries items i x out next all there is listed sent invariant =
    sends_on (listing option queries) (listing option queries) items i x out (context_reply option 0 x) next all there is
    (ap (listed_replies option) (passed (is_listed queries) x (drop (i + 1) items) listed)) sent invariant

pub told_none : (option : ℕ) (queries items : List (List ℕ)) (i : ℕ) (x out all : List ℕ) → i < length items → x ≡ get_or items i x → is_listed queries x ≡ false
    → out ++ listing option queries (drop i items) ≡ all → out ++ listing option queries (drop (i + 1) items) ≡ all
told_none option queries items i x out all there is listed invariant =
    sends_on (listing option queries) (listing option queries) items i x out [] out all there is
    (ap (listed_replies option) (failed (is_listed queries) x (drop (i + 1) items) listed)) (grind (arith, common_steps)) invariant

pub one_more : (f : SourceName → List ℕ) (items : List SourceName) (i : ℕ) (x : SourceName) → i < length items → x ≡ get_or items i x
    → map f (take (i + 1) items) ≡ map f (take i items) ++ f x ∷ []
one_more f items i x there is = grind (arith, common_steps)

pub contexts_on : (items : List SourceName) (i : ℕ) (x : SourceName) (name : List ℕ) (names next : List (List ℕ)) → i < length items → x ≡ get_or items i x → name ≡ bitmap_context x
    → ((before : List (List ℕ)) → names ≡ once_each before → next ≡ once_each (before ++ name ∷ []))
    → names ≡ once_each (codes "base:allocation" ∷ map bitmap_context (take i items)) → next ≡ once_each (codes "base:allocation" ∷ map bitmap_context (take (i + 1) items))
contexts_on items i x name names next there is named add are =
    add (codes "base:allocation" ∷ map bitmap_context (take i items)) are ∙ ap (λ l. once_each (codes "base:allocation" ∷ l)) (ap (λ n. map bitmap_context (take i items) ++ n ∷ []) named ∙ sym (one_more bitmap_context items i x there is))

pub selects_on : (contexts items : List (List ℕ)) (i : ℕ) (x name : List ℕ) (names next : List (List ℕ)) → i < length items → x ≡ get_or items i x → name ≡ x → list_any (bytes_eq x) contexts ≡ true
    → ((before : List (List ℕ)) → names ≡ once_each before → next ≡ once_each (before ++ name ∷ []))
    → names ≡ once_each (filter (λ query. list_any (bytes_eq query) contexts) (take i items)) → next ≡ once_each (filter (λ query. list_any (bytes_eq query) contexts) (take (i + 1) items))
selects_on contexts items i x name names next there is named has add are =
    let more = filter_more (λ query. list_any (bytes_eq query) contexts) items i x there in
    add _ are ∙ ap once_each (grind (arith, common_steps))
