use Rattle.backup_file.proofs.Sizes.{form_of, short_of}
use Rattle.backup_file.proofs.laws.blocks_have_entries.Goals as goal

pub returns : goal.returns
returns c bits size form = (short_of bits size (form_of bits size form)).blocks
