use Rattle.std.proofs.Common.{sym, ◌∙◌, arith}
use Rattle.nbd_model.specs.Numbers.{option_magic, request_magic}
use Rattle.nbd_model.specs.Requests.{head_length}
use Rattle.nbd_session.proofs.Opening.{taken_option, taken_request, by_more, by_short, by_wrong, option_opens, request_opens}
use Rattle.nbd_session.proofs.asking.open.Goals as goal

pub returns-in-More : goal.returns-in-More
returns-in-More c = λ exports later. (
  taken_option exports c.args.agreed.now c.args.bytes.now c.in-Haggling.is ∙ by_more option_magic 16 _ c.args.bytes.now _ (sym c.in-More.ensures),
  by_short option_magic 16 _ c.args.bytes.now (sym c.in-More.ensures) (omega arith),
)

pub returns-in-WrongMagic : goal.returns-in-WrongMagic
returns-in-WrongMagic c = λ exports. taken_option exports c.args.agreed.now c.args.bytes.now c.in-Haggling.is ∙ by_wrong option_magic 16 _ c.args.bytes.now _ (sym c.in-WrongMagic.ensures)

pub returns-in-Got : goal.returns-in-Got
returns-in-Got c = λ exports. rw c.open_option.ensures (option_opens exports c.args.agreed.now c.args.bytes.now c.in-Got.head c.in-Got.field-1 c.in-Haggling.is (sym c.in-Got.ensures))

pub returns-in-More-read_request : goal.returns-in-More-read_request
returns-in-More-read_request c = λ exports later. (
  taken_request exports c.args.agreed.now c.args.bytes.now c.in-Transmitting.is ∙ by_more request_magic head_length _ c.args.bytes.now _ (sym c.in-More-read_request.ensures),
  by_short request_magic head_length _ c.args.bytes.now (sym c.in-More-read_request.ensures) (omega arith),
)

pub returns-in-WrongMagic-read_request : goal.returns-in-WrongMagic-read_request
returns-in-WrongMagic-read_request c = λ exports.
    taken_request exports c.args.agreed.now c.args.bytes.now c.in-Transmitting.is ∙ by_wrong request_magic head_length _ c.args.bytes.now _ (sym c.in-WrongMagic-read_request.ensures)

pub returns-in-Got-read_request : goal.returns-in-Got-read_request
returns-in-Got-read_request c = λ exports.
    rw c.open_request.ensures (request_opens exports c.args.agreed.now c.args.bytes.now c.in-Got-read_request.head c.in-Got-read_request.field-1 c.in-Transmitting.is (sym c.in-Got-read_request.ensures))
