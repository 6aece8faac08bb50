-- That the machine computes.
use lib.Count.{ones}
use Rattle.std.specs.Str.{is_utf8, chars}
use Rattle.std.specs.Char.{encode_utf8}
use Rattle.std.specs.Fmt.{digits}
use Rattle.hex.specs.Hex.{encode_with}
use Rattle.disk_model.specs.Files.{overlay}
use Rattle.serde_json.proofs.OnLiterals.{serde_json_on_literals}
use Rattle.bitmap_model.specs.Granules.{set_of, widened, united}
use Rattle.bitmap_model.specs.Runs.{runs_of, dirty_runs}
use Rattle.bitmap_model.specs.Bitmap.{when_written}
use Rattle.bitmap_model.specs.Bitmaps.{add_fault}
use Rattle.bitmap_model.specs.Copies.{without}
use Rattle.monitor_model.specs.Commands.{order_of}
use Rattle.nbd_model.specs.Sessions.{taken_of}
use Rattle.image_model.specs.Space.{need, store_written, freed_by_write, store_zeroed, freed_by_zero}
use Rattle.plain_model.specs.Machine.{opened}
use Rattle.plain_model.specs.Requests.{denial, lacks_room}
use Rattle.plain_model.specs.Queries.{export_refusal}
use Rattle.plain_model.specs.Ending.{leave, after_break, closed}
use Rattle.plain_model.specs.Actions.{backup_refusal, act, transact}
use Rattle.plain_model.specs.Records.{overlay_of}
use Rattle.plain_model.specs.Lawful.{settle}
use Rattle.plain_model.specs.Outcome.{fate, after_copying, after_marking, guest, tick, after_cancel, command, outcome}

-- what an answer unfolds so that a run of the machine computes, with the texts of a monitor
unfoldable pub machine_computes : Unit {0}
unfolding ones overlay encode_with digits is_utf8 chars encode_utf8 serde_json_on_literals set_of widened united runs_of dirty_runs when_written add_fault without order_of taken_of need store_written freed_by_write store_zeroed freed_by_zero opened denial lacks_room export_refusal leave after_break closed backup_refusal act transact fate after_copying after_marking guest tick after_cancel command outcome overlay_of settle
machine_computes = tt
