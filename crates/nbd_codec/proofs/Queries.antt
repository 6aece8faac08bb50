-- What asks contexts: a name, a count, and so many queries.
use Rattle.std.proofs.Common.{◌≡◌, ◌<◌, ◌≤◌, ◌-◌, ℕ, List, length, take, drop, length-drop, Option, Some, None, true, arith, refl, ap, ◌∙◌}
use Rattle.std.proofs.lemmas.Grind.{common_steps}
use Rattle.std.proofs.lemmas.List.{take_all}
use Rattle.std.specs.Prelude.{option_map, is_some}
use Rattle.nbd_model.specs.Numbers.{u32_at}
use Rattle.nbd_model.specs.Options.{cut_text, texts_of, MetaAsk, meta_of, most_queries}
use Rattle.nbd_codec.specs.Contents.{HasTooMany, IsMeta}
use Rattle.nbd_codec.proofs.Texts.{so_many}

-- all that is behind the count
pub all_behind : (rest : List ℕ) → take (length rest - 4) (drop 4 rest) ≡ drop 4 rest
all_behind rest = take_all (length rest - 4) (drop 4 rest) (omega (arith, length-drop 4 rest))

some_texts : (o : Option (List (List ℕ))) → is_some o ≡ true → (texts : List (List ℕ)) × (o ≡ Some texts)
some_texts None is = grind arith
some_texts (Some texts) is = (texts, refl)

-- a content's name, and its queries
abbrev asked_by : List ℕ → Option (List (List ℕ)) → Option MetaAsk
asked_by name texts = option_map (λ queries. record { name = name; queries = queries }) texts

-- the content's form is that of its queries
meta_is : (content name rest : List ℕ) (n : ℕ) → cut_text content ≡ Some (record { text = name; rest = rest }) → 4 ≤ length rest → n ≡ u32_at rest 0
    → meta_of content ≡ asked_by name (texts_of n (drop 4 rest))
meta_is content name rest n cut whole is = rw (cut, is) (grind (arith, common_steps))

pub too_many : (content name rest : List ℕ) (n : ℕ) → cut_text content ≡ Some (record { text = name; rest = rest }) → 4 ≤ length rest → n ≡ u32_at rest 0
    → is_some (texts_of n (drop 4 rest)) ≡ true → most_queries < n → HasTooMany content name
too_many content name rest n cut whole is are many =
    let texts = some_texts (texts_of n (drop 4 rest)) are in
    let count : length texts.0 ≡ n = so_many n (drop 4 rest) texts.0 texts.1 in
    record {
      queries = texts.0;
      form = meta_is content name rest n cut whole is ∙ ap (asked_by name) texts.1;
      many = omega arith;
    }

pub few_enough : (content name rest : List ℕ) (n : ℕ) (queries : List (List ℕ)) → cut_text content ≡ Some (record { text = name; rest = rest }) → 4 ≤ length rest → n ≡ u32_at rest 0
    → is_some (texts_of n (drop 4 rest)) ≡ true → n ≤ most_queries
    → ((texts : List (List ℕ)) → texts_of n (drop 4 rest) ≡ Some texts → queries ≡ texts) → IsMeta content (record { name = name; queries = queries })
few_enough content name rest n queries cut whole is are few all =
    let texts = some_texts (texts_of n (drop 4 rest)) are in
    let same : queries ≡ texts.0 = all texts.0 texts.1 in
    let count : length texts.0 ≡ n = so_many n (drop 4 rest) texts.0 texts.1 in
    record {
      form = rw same (meta_is content name rest n cut whole is ∙ ap (asked_by name) texts.1);
      few = rw same (omega arith);
    }
