use Rattle.plain_model.proofs.AnswerLaws.{wanting_numbers}
use Rattle.plain_model.proofs.laws.out_of_memory_numbers_an_action.Goals as goal

pub returns : goal.returns
returns c = wanting_numbers
