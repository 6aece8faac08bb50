use Rattle.script_model.proofs.WordLaws.{word_cut}
use Rattle.script_codec.proofs.words.cut_word.Goals as goal

pub returns : goal.returns
returns c = word_cut c.args.text.now c.cut.result c.cut.ensures.found c.cut.ensures.none
