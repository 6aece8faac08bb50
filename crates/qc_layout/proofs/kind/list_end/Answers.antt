use Rattle.std.proofs.Common.{sym, ap, ◌∙◌}
use Rattle.qc_layout.specs.Extensions.{list_end}
use Rattle.qc_layout.proofs.Parting.{end_min, bits_at}
use Rattle.qc_layout.proofs.kind.list_end.Goals as goal

pub returns-clause-end : goal.returns-clause-end
returns-clause-end c =
    c.list_end.ensures ∙ ap list_end c.min.ensures ∙ end_min c.number_32.result ∙ ap list_end (c.number_32.ensures ∙ sym (bits_at c.args.bytes.now))
