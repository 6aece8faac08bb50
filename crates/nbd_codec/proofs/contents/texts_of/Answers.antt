use Rattle.std.proofs.Common.{◌≡◌, ◌-◌, ◌∷◌, [], ◌++◌, ap, ◌∙◌, arith, rules}
use Rattle.std.specs.Prelude.{option_map}
use Rattle.nbd_model.specs.Options as model
use Rattle.nbd_codec.proofs.Texts.{kept_more, none_kept, all_kept}
use Rattle.nbd_codec.proofs.contents.texts_of.Goals as goal

pub loop-left-preserved : goal.loop-left-preserved
loop-left-preserved c =
    let kept = c.loop-left.items.items in
    let pushed : c.push.new.self.items ≡ kept ++ c.in-Some.text.now ∷ [] = search rules in
    ap (λ items. option_map (λ texts. items ++ texts) (model.texts_of (c.loop-left.left - 1) c.in-Some.after.now)) pushed
    ∙ kept_more c.loop-left.left c.loop-left.rest.now (record { text = c.in-Some.text.now; rest = c.in-Some.after.now }) kept (search rules) (omega arith) ∙ c.loop-left.invariant

pub returns : goal.returns
returns c = λ texts is. all_kept c.loop-left.items.items texts c.loop-left.left c.loop-left.rest.now c.loop-left-test.false (c.loop-left.invariant ∙ is)

pub returns-in_default : goal.returns-in_default
returns-in_default c = λ texts is. none_kept c.loop-left.items.items texts c.loop-left.left c.loop-left.rest.now (search rules) (omega arith) (c.loop-left.invariant ∙ is)
