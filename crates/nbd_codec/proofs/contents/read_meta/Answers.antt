use Rattle.std.proofs.Common.{◌≡◌, true, sym, ◌∙◌, rules}
use Rattle.nbd_codec.proofs.Queries.{all_behind, too_many, few_enough}
use Rattle.nbd_codec.proofs.contents.read_meta.Goals as goal

pub returns-then-count-gt-MOST_QUERIES : goal.returns-then-count-gt-MOST_QUERIES
returns-then-count-gt-MOST_QUERIES c =
    let rest = c.in-Some.rest.now in
    let name : c.in_ok-to_vec.field-0.items ≡ c.in-Some.name.now = search rules in
    let tail = all_behind rest in
    let are : c.are_texts.result ≡ true = search rules in
    rw name (too_many c.args.content.now c.in-Some.name.now rest c.u32_at-count.result (search rules) c.if-rest-lt4.false c.u32_at-count.ensures (sym (rw tail at c.are_texts.ensures) ∙ are)
    c.if-count-gt-MOST_QUERIES.true)

pub returns : goal.returns
returns c =
    let rest = c.in-Some.rest.now in
    let name : c.in_ok-to_vec.field-0.items ≡ c.in-Some.name.now = search rules in
    let tail = all_behind rest in
    let are : c.are_texts.result ≡ true = search rules in
    rw name (few_enough c.args.content.now c.in-Some.name.now rest c.u32_at-count.result c.in_ok-queries.queries (search rules) c.if-rest-lt4.false c.u32_at-count.ensures
    (sym (rw tail at c.are_texts.ensures) ∙ are) c.if-count-gt-MOST_QUERIES.false (rw tail at c.in_ok-queries.ensures))
