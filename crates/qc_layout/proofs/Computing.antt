-- That what a directory stores computes.
use Rattle.std.specs.Str.{is_utf8, chars}
use Rattle.std.specs.Char.{encode_utf8}
use Rattle.disk_model.specs.Files.{reading, number_at}
use Rattle.bitmap_model.specs.Granules.{set_of}
use Rattle.qc_layout.specs.Header.{fields_of}
use Rattle.qc_layout.specs.Disks.{words_in, counts_in}
use Rattle.qc_layout.specs.Spelling.{word32, word64, number_bytes, own_bytes, bitmaps_bytes}
use Rattle.qc_layout.specs.Directory.{extensions_in, head_at, directory_fault, stored_in}

-- what an answer unfolds for it
unfoldable pub directory_computes : Unit {0}
unfolding is_utf8 chars encode_utf8 reading number_at set_of fields_of words_in counts_in word32 word64 number_bytes own_bytes bitmaps_bytes extensions_in head_at directory_fault stored_in
directory_computes = tt
