-- Merging bitmaps.
use Rattle.std.specs.Prelude.{◌≡◌, List, [], ◌∷◌, ◌++◌, codes, true, false}
use Rattle.script_model.specs.Lines.{Line}
use Rattle.span_algebra.specs.declared.spans.Base.TheVariants.{Since}
use Rattle.machine_rows.specs.Play.{write}
use Rattle.machine_rows.specs.Commands.{alone, together, adding, backup, disabling, merging, query_nodes, returned, completed, bitmap, nodes, Prints}
use Rattle.machine_rows.specs.Jobs.{ticks, after, at, claims}

-- one of small granules and one of larger ones, a write, and the first is disabled
abbrev pub two : List Line
two = alone (adding "a" ",\"granularity\":512") ∷ alone (adding "b" ",\"granularity\":4096") ∷ write 4608 (1 ∷ []) ∷ alone (disabling "a") ∷ []

pub record MergesJoinGranulesAndSpans : Type 0 where
  -- into larger granules, and back into smaller ones
  pub both_ways : Prints (two ++ alone (merging "b" "\"a\"") ∷ query_nodes ∷ alone (merging "a" "\"b\"") ∷ query_nodes ∷ [])
      (returned ∷ returned ∷ codes "ok" ∷ returned ∷ returned
      ∷ nodes (bitmap "false" "512" "512" "false" "a" "false" "false" "1.1 1.3" ∷ bitmap "false" "4096" "4096" "false" "b" "false" "true" "1.1 now" ∷ [])
      ∷ returned ∷ nodes (bitmap "false" "4096" "512" "false" "a" "false" "false" "1.1 1.5"
      ∷ bitmap "false" "4096" "4096" "false" "b" "false" "true" "1.1 now" ∷ []) ∷ codes "ok" ∷ [])
  -- a source may stand in an object with its node
  pub with_node : Prints (two ++ alone (merging "b" "{\"node\":\"drive0\",\"name\":\"a\"}") ∷ query_nodes ∷ [])
      (returned ∷ returned ∷ codes "ok" ∷ returned ∷ returned
      ∷ nodes (bitmap "false" "512" "512" "false" "a" "false" "false" "1.1 1.3" ∷ bitmap "false" "4096" "4096" "false" "b" "false" "true" "1.1 now"
      ∷ []) ∷ codes "ok" ∷ [])
  -- spans that don't meet stay apart; the granules are joined all the same
  pub apart : Prints (alone (adding "a" "") ∷ write 0 (1 ∷ []) ∷ alone (disabling "a") ∷ alone (adding "b" "") ∷ alone (merging "b" "\"a\"") ∷ query_nodes ∷ [])
      (returned ∷ codes "ok" ∷ returned ∷ returned ∷ returned
      ∷ nodes (bitmap "false" "4096" "4096" "false" "a" "false" "false" "1.1 1.2" ∷ bitmap "false" "4096" "4096" "false" "b" "false" "true" "1.3 now"
      ∷ []) ∷ codes "ok" ∷ [])
  -- a bitmap joins itself without a change
  pub itself : Prints (alone (adding "a" "") ∷ write 0 (1 ∷ []) ∷ alone (merging "a" "\"a\"") ∷ query_nodes ∷ [])
      (returned ∷ codes "ok" ∷ returned ∷ nodes (bitmap "false" "4096" "4096" "false" "a" "false" "true" "1.1 now" ∷ []) ∷ codes "ok" ∷ [])
  -- of what a source has from now on the target's span has no part
  pub disabled_target : Prints (alone (adding "a" "") ∷ alone (adding "b" "") ∷ alone (disabling "a") ∷ alone (merging "a" "\"b\"") ∷ query_nodes ∷ [])
      (returned ∷ returned ∷ returned ∷ returned
      ∷ nodes (bitmap "false" "0" "4096" "false" "a" "false" "false" "1.1 1.4" ∷ bitmap "false" "0" "4096" "false" "b" "false" "true" "1.2 now" ∷ [])
      ∷ codes "ok" ∷ [])
  -- a merge without sources draws a point
  pub nothing : Prints (alone (adding "a" "") ∷ alone (merging "a" "") ∷ alone (adding "b" "") ∷ query_nodes ∷ [])
      (returned ∷ returned ∷ returned
      ∷ nodes (bitmap "false" "0" "4096" "false" "a" "false" "true" "1.1 now" ∷ bitmap "false" "0" "4096" "false" "b" "false" "true" "1.3 now" ∷ [])
      ∷ codes "ok" ∷ [])

-- one bitmap takes over from another, and a third one has both, in the order given, for a backup of all since the first
abbrev pub relayed : List Line
relayed = alone (adding "a" "") ∷ together (disabling "a" ∷ adding "b" "" ∷ []) ∷ write 0 (1 ∷ []) ∷ []

abbrev pub a_then_b : List Line
a_then_b = relayed ++ together (adding "tmp" ",\"disabled\":true" ∷ merging "tmp" "\"a\",\"b\""
    ∷ backup "j0" "t1" "\"sync\":\"bitmap\",\"bitmap-mode\":\"never\",\"bitmap\":\"tmp\"" ∷ []) ∷ []

abbrev pub b_then_a : List Line
b_then_a = relayed ++ together (adding "tmp" ",\"disabled\":true" ∷ merging "tmp" "\"b\",\"a\""
    ∷ backup "j0" "t1" "\"sync\":\"bitmap\",\"bitmap-mode\":\"never\",\"bitmap\":\"tmp\"" ∷ []) ∷ []

pub record RelayedBitmapsMakeOneSpan : Type 0 where
  pub one_way : claims (after a_then_b) ≡ record { base = Since (at 1 1); point = at 1 3; scope = true ∷ false ∷ false ∷ false ∷ [] } ∷ []
  pub other_way : claims (after b_then_a) ≡ record { base = Since (at 1 1); point = at 1 3; scope = true ∷ false ∷ false ∷ false ∷ [] } ∷ []
  pub sealed : Prints (a_then_b ++ ticks 2) (returned ∷ returned ∷ codes "ok" ∷ returned ∷ codes "ok" ∷ codes "ok" ∷ completed "j0" "4096" "4096" "6"
      ∷ codes "ok" ∷ [])
