use Rattle.nbd_session.proofs.Dealing.{dealt_as, taken_go, taken_set}
use Rattle.nbd_session.specs.Parts.{plain_agreed}
use Rattle.nbd_model.specs.Options.{info_of, meta_of}
use Rattle.nbd_model.specs.Sessions.{info_option, meta_option, option_taken}
use Rattle.nbd_session.proofs.agreed.Agreed.answer.Goals as goal

pub returns-then-option-eq-GO-clause-dealt : goal.returns-then-option-eq-GO-clause-dealt
returns-then-option-eq-GO-clause-dealt c =
    let s = plain_agreed c.args.self.now in
    let content = c.args.content.now in
    let exports = c.args.exports.now in
    dealt_as _ (λ used. info_option used c.args.option exports (info_of content) s) (λ used. option_taken used c.args.option content exports s) _ _ _
    (λ used. taken_go used c.args.option content exports s c.if-option-eq-GO.either) c.inform.ensures.dealt

pub returns-then-option-eq-SET_META_CONTEXT-clause-dealt :
    goal.returns-then-option-eq-SET_META_CONTEXT-clause-dealt
returns-then-option-eq-SET_META_CONTEXT-clause-dealt c =
    let s = plain_agreed c.args.self.now in
    let content = c.args.content.now in
    let exports = c.args.exports.now in
    dealt_as _ (λ used. meta_option used c.args.option exports (meta_of content) s) (λ used. option_taken used c.args.option content exports s) _ _ _
    (λ used. taken_set used c.args.option content exports s c.if-option-eq-SET_META_CONTEXT.either) c.answer_meta.ensures.dealt
