-- The laws that the layers above cite, by file.

-- bytes of a file, and what a range reads
pub use Rattle.disk_model.proofs.Bytes.{byte-overlay_below, byte-overlay_in, byte-overlay_above, length-overlay, length-overlay_none, overlay_no_shorter, length-overlay_inside, same_file, byte_past, overlay_inside, overlay_beyond, length-reading, byte-reading, is_reading, overlay_empty}
-- what a range of a file reads, and the numbers in it
pub use Rattle.disk_model.proofs.Words.{reading_same, reading_inside, reading_past, reading_all, reading-reading, reading-overlay_other, reading-torn, reading-overlay_part, reading-overlay_same, reading-append, reading_2, reading_4, reading_8, reading_either, word_write, number_same, number_read, number_as, number-past, number-reading, number-torn, number-overlay_part, number-overlay_same, FitsIn, number_back, length-to_be_bytes, number-overlay_number, number-append, u16_bytes, u32_bytes, u64_bytes, in_sector, number_either}
-- what a crash may leave of a file
pub use Rattle.disk_model.proofs.Outcomes.{IsVersion, Chosen, choose, some_version, each_version, longest, synced_shortest, one_sector, settled, is_outcome, steady, IsMixed, Before, before_write, whole_torn, untorn, torn_outside, torn_elsewhere, byte-overlay_outside, one_sector_write}
-- what a range of a file reads in what a crash leaves
pub use Rattle.disk_model.proofs.Ranges.{some_more, each_more, some_each, reading_of_version, synced_is_version, each_synced, steady_byte, mixed_byte, mixed_range, mixed_number, torn_length, reading_written}
-- how a run of calls goes on, and what each crash leaves over it
pub use Rattle.disk_model.proofs.Moments.{stay, counts_on, go_on, same_on, run_on, Within, run_more, nothing_within, reads_within_file, writes_within_file, writes_within_making, run_both, below_on, given_on, spared, spares, since_now, now_since, since_on, since_step, steps_within, since_spared, since_over, since_more, now_more, now_write, now_mixed, now_sector_write, WasOr, sector_exact, told_by, told_at, wrote, now_synced, now_kept, now_spared, sector_leaves, sync_keeps, sync_failed, sync_done, sync_on, spared_sync, sync_more, since_sync, rose_more, rose_after, file_failed_after}
-- what calls lead to, reads and crashes alike
pub use Rattle.disk_model.proofs.Leads.{write_leads, sector_leads, sync_leads, synced_leads, synced_exact, synced_holds, spare_leads, lead_on, lead_more, lead_from}
-- all files that a crash leaves, and calls of `make`
pub use Rattle.disk_model.proofs.Left.{left_of, seen_left, is_left_now, left_back, left_there, left_lasts}
