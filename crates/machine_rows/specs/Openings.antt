-- What an opening makes of an image's bitmaps, and what a closing stores for the next.
use Rattle.std.specs.Prelude.{◌≡◌, ℕ, List, [], ◌∷◌, ◌++◌, replicate, map, take, drop, codes, true, false, Bool}
use Rattle.script_model.specs.Lines.{Line}
use Rattle.script_model.specs.Lines as script
use Rattle.span_algebra.specs.declared.points.End.TheVariants.{Now, At}
use Rattle.span_algebra.specs.declared.spans.Span.TheVariants.{Unknown, Known}
use Rattle.span_algebra.specs.declared.spans.Base.TheVariants.{Since, Loose}
use Rattle.core_events.specs.declared.events.Work.TheVariants as work
use Rattle.core_events.specs.declared.events.Way.TheVariants as way
use Rattle.bitmap_model.specs.Bitmap.{StoredBitmap}
use Rattle.plain_model.specs.History.{disk_at}
use Rattle.plain_model.specs.Machine.{Machine, opened}
use Rattle.plain_model.specs.Closing.{stored_by}
use Rattle.machine_rows.specs.Play.{empty_store, blank, write, read, status, output, state_after}
use Rattle.machine_rows.specs.Commands.{alone, together, add_b0, adding, removing, clearing, enabling, disabling, merging, full, incremental, exporting, query_nodes, bitmap, b0, nodes, printed, returned, refused, completed, Prints}
use Rattle.machine_rows.specs.Jobs.{ticks, after, at, claims}

-- an image whose one bitmap can't be trusted: it was in use when its last session stopped
abbrev pub untrusted : StoredBitmap
untrusted = record {
  name = codes "b0";
  bits = record { size = 16384; granularity = 4096; set = true ∷ false ∷ false ∷ false ∷ [] };
  span = Unknown;
  recording = true;
  trusted = false;
}

abbrev pub with_untrusted : Machine
with_untrusted = opened (record { start = replicate 16384 0; entries = [] }) (record {
  epoch = 2;
  entries = untrusted
      ∷ [];
  store = empty_store 16384 4096 1000;
  taken = 4;
  given = 2;
})

abbrev pub PrintsUntrusted : List Line → List (List ℕ) → Type 0
PrintsUntrusted lines expected = output (blank 16384 4096) lines with_untrusted ≡ printed expected

pub record UntrustedBitmapsAreInconsistent : Type 0 where
  -- a name and a granularity are left; it can be removed, and no more
  pub listed : PrintsUntrusted (query_nodes ∷ alone (clearing "b0") ∷ alone (removing "b0") ∷ query_nodes ∷ [])
      (codes "{\"return\":[{\"dirty-bitmaps\":[{\"busy\":false,\"count\":0,\"granularity\":4096,\"inconsistent\":true,\"name\":\"b0\",\"persistent\":true,\"recording\":false,\"x-span\":\"unknown\"}],\"image\":{\"virtual-size\":16384},\"node-name\":\"drive0\"}]}"
      ∷ refused "Inconsistent: b0" ∷ returned ∷ nodes [] ∷ codes "ok" ∷ [])
  pub refused_to_all : PrintsUntrusted
      (alone (adding "a" "") ∷ alone (enabling "b0") ∷ alone (disabling "b0") ∷ alone (merging "b0" "\"a\"") ∷ alone (merging "a" "\"b0\"")
      ∷ alone (incremental "j0" "none") ∷ alone add_b0
      ∷ status (codes "drive0") (codes "qemu:dirty-bitmap:b0") 0 1 ∷ write 0 (1 ∷ []) ∷ query_nodes ∷ [])
      (returned ∷ replicate 5 (refused "Inconsistent: b0") ++ refused "NameTaken: b0" ∷ codes "error EINVAL" ∷ codes "ok"
      ∷ nodes (bitmap "false" "0" "4096" "true" "b0" "true" "false" "unknown" ∷ bitmap "false" "4096" "4096" "false" "a" "false" "true" "3.1 now"
      ∷ []) ∷ codes "ok" ∷ [])
  -- an export may name it, and then its context is invalid
  pub exported : PrintsUntrusted (exporting "e" "drive0" ",\"name\":\"v\",\"bitmaps\":[\"b0\"]"
      ∷ script.Ask (record { way = way.Export (codes "v"); work = work.Status (codes "qemu:dirty-bitmap:b0") false; offset = 0; length = 1; bytes = [] }) ∷ [])
      (returned ∷ codes "error EINVAL" ∷ codes "ok" ∷ [])
  -- a closing keeps it so
  pub stored_again : stored_by with_untrusted ≡ record untrusted { bits = record { size = 16384; granularity = 4096; set = replicate 4 false }; recording = false } ∷ []
  -- a new one of its name may be added in its place
  pub replaced : PrintsUntrusted (together (removing "b0" ∷ add_b0 ∷ []) ∷ query_nodes ∷ [])
      (returned ∷ nodes (b0 "false" "0" "3.1 now" ∷ []) ∷ codes "ok" ∷ [])

-- an image whose bitmap can be trusted, but not its span
abbrev pub unknown_span : Machine
unknown_span = opened (record { start = replicate 16384 0; entries = [] })
    (record { epoch = 2; entries = record untrusted { trusted = true } ∷ []; store = empty_store 16384 4096 1000; taken = 0; given = 0 })

pub record UnknownSpansGiveNoBase : Type 0 where
  pub listed : output (blank 16384 4096) (query_nodes ∷ alone (disabling "b0") ∷ query_nodes ∷ alone (enabling "b0") ∷ query_nodes ∷ []) unknown_span
      ≡ printed (nodes (b0 "false" "4096" "unknown" ∷ []) ∷ returned ∷ nodes (bitmap "false" "4096" "4096" "false" "b0" "true" "false" "unknown" ∷ [])
      ∷ returned ∷ nodes (b0 "false" "4096" "3.2 now" ∷ []) ∷ codes "ok" ∷ [])
  -- a backup has the granules, and builds on nothing; the next builds on it
  pub claim : claims (state_after (blank 16384 4096) (alone (incremental "j0" "t0") ∷ []) unknown_span)
      ≡ record { base = Loose; point = at 3 1; scope = true ∷ false ∷ false ∷ false ∷ [] } ∷ []
  pub next_claim : claims (state_after (blank 16384 4096) (alone (incremental "j0" "t0") ∷ ticks 2 ++ alone (incremental "j0" "t1") ∷ []) unknown_span)
      ≡ record { base = Since (at 3 1); point = at 3 2; scope = replicate 4 false } ∷ []
  -- a merge into it joins the granules alone, and so does one of it
  pub merged : output (blank 16384 4096) (alone (adding "a" "") ∷ write 4096 (1 ∷ []) ∷ alone (merging "b0" "\"a\"") ∷ alone (clearing "a")
      ∷ alone (merging "a" "\"b0\"") ∷ query_nodes ∷ []) unknown_span
      ≡ printed (returned ∷ codes "ok" ∷ returned ∷ returned ∷ returned
      ∷ nodes (b0 "false" "8192" "unknown" ∷ bitmap "false" "8192" "4096" "false" "a" "false" "true" "3.3 now" ∷ []) ∷ codes "ok" ∷ [])

-- the next session on what a closing leaves
abbrev pub next_session : Machine → Machine
next_session m = opened m.history (record { epoch = m.epoch; entries = stored_by m; store = m.store; taken = 0; given = 0 })

abbrev pub first_lines : List Line
first_lines = together (add_b0 ∷ full "j0" "t0" ∷ []) ∷ ticks 5 ++ write 4096 (85 ∷ []) ∷ []

abbrev pub first : Machine
first = after first_lines

abbrev pub second : Machine
second = next_session first

abbrev pub stored_b0 : List Bool → ℕ → ℕ → StoredBitmap
stored_b0 set epoch serial = record {
  name = codes "b0";
  bits = record { size = 16384; granularity = 4096; set = set };
  span = Known (at epoch serial) Now;
  recording = true;
  trusted = true;
}

abbrev pub second_lines : List Line
second_lines = alone (incremental "j0" "t1") ∷ ticks 2

pub record SessionsFollowEachOther : Type 0 where
  pub first_prints : Prints (first_lines ++ script.Quit ∷ []) (returned ∷ replicate 5 (codes "ok") ++ completed "j0" "16384" "16384" "6" ∷ codes "ok"
      ∷ codes "ok" ∷ [])
  pub first_stores : stored_by first ≡ stored_b0 (false ∷ true ∷ false ∷ false ∷ []) 1 1 ∷ []
  -- the second session trusts it, and draws points of its own epoch
  pub second_opens : output (blank 16384 4096) (query_nodes ∷ read 4096 1 ∷ []) second
      ≡ printed (nodes (b0 "false" "4096" "1.1 now" ∷ []) ∷ codes "data 55" ∷ codes "ok" ∷ [])
  -- points of a later epoch are later
  pub ended_by_second : output (blank 16384 4096) (alone (disabling "b0") ∷ query_nodes ∷ alone (enabling "b0") ∷ query_nodes ∷ []) second
      ≡ printed (returned ∷ nodes (bitmap "false" "4096" "4096" "false" "b0" "true" "false" "1.1 2.1" ∷ []) ∷ returned
      ∷ nodes (b0 "false" "4096" "2.2 now" ∷ []) ∷ codes "ok" ∷ [])
  -- a new bitmap may take over what the old one has, and its span then
  pub taken_over : output (blank 16384 4096)
      (together (adding "c" ",\"disabled\":true" ∷ merging "c" "\"b0\"" ∷ removing "b0" ∷ enabling "c" ∷ []) ∷ query_nodes ∷ []) second
      ≡ printed (returned ∷ nodes (bitmap "false" "4096" "4096" "false" "c" "false" "true" "1.1 now" ∷ []) ∷ codes "ok" ∷ [])
  pub second_claim : claims (state_after (blank 16384 4096) (alone (incremental "j0" "t1") ∷ []) second)
      ≡ record { base = Since (at 1 1); point = at 2 1; scope = false ∷ true ∷ false ∷ false ∷ [] } ∷ []
  pub second_prints : output (blank 16384 4096) (second_lines ++ script.Quit ∷ []) second
      ≡ printed (returned ∷ codes "ok" ∷ codes "ok" ∷ completed "j0" "4096" "4096" "3" ∷ codes "ok" ∷ [])
  pub second_stores : stored_by (state_after (blank 16384 4096) second_lines second) ≡ stored_b0 (replicate 4 false) 2 1 ∷ []
  pub disk_of_the_point : take 1 (drop 4096 (disk_at (state_after (blank 16384 4096) second_lines second).history (at 2 1))) ≡ 85 ∷ []

pub record ClosingsKeepPersistentBitmaps : Type 0 where
  -- in their order; others are gone
  pub persistent : map (λ (e : StoredBitmap). e.name) (stored_by (after (alone (adding "c" ",\"persistent\":true") ∷ alone (adding "a" "")
      ∷ alone add_b0 ∷ []))) ≡ codes "c" ∷ codes "b0" ∷ []
  -- one that a job uses is given back first
  pub given_back : stored_by (after (alone add_b0 ∷ write 0 (1 ∷ []) ∷ alone (incremental "j0" "t0") ∷ write 4096 (1 ∷ []) ∷ []))
      ≡ stored_b0 (true ∷ true ∷ false ∷ false ∷ []) 1 1 ∷ []
  pub closed_span : stored_by (after (alone add_b0 ∷ alone (disabling "b0") ∷ []))
      ≡ record (stored_b0 (replicate 4 false) 1 1) { span = Known (at 1 1) (At (at 1 2)); recording = false } ∷ []
  pub none : stored_by (after (alone (adding "a" "") ∷ [])) ≡ []
