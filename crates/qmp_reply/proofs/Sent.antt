-- Replies that are sent: no number in them is a float, and an id counts by its text alone.
use Rattle.std.proofs.Common.{◌≡◌, ℕ, List, [], ◌∷◌, ◌++◌, false, Option, option_map, refl, arith}
use Rattle.std.proofs.lemmas.Grind.{common_steps}
use Rattle.serde_json.specs.Data.{Data}
use Rattle.serde_json.specs.Written.{has_float, items_have_float, compact_text}
use Rattle.core_events.specs.declared.infos.JobInfo.{JobInfo}
use Rattle.core_events.specs.declared.infos.BitmapInfo.{BitmapInfo}
use Rattle.core_events.specs.declared.infos.NodeInfo.{NodeInfo}
use Rattle.core_events.specs.Answers.{Reply}
use Rattle.monitor_model.specs.Commands.{id_has_float}
use Rattle.monitor_model.specs.Replies as model
use Rattle.qmp_reply.specs.Sent.{refusal_data}

job_items_whole : (jobs : List JobInfo) → items_have_float (model.job_items jobs) ≡ false
job_items_whole [] = refl
job_items_whole (j ∷ jobs) = job_items_whole jobs

bitmap_items_whole : (bitmaps : List BitmapInfo) → items_have_float (model.bitmap_items bitmaps) ≡ false
bitmap_items_whole [] = refl
bitmap_items_whole (b ∷ bitmaps) = bitmap_items_whole bitmaps

node_items_whole : (nodes : List NodeInfo) → items_have_float (model.node_items nodes) ≡ false
node_items_whole [] = refl
node_items_whole (n ∷ nodes) = grind (arith, common_steps, bitmap_items_whole, node_items_whole nodes)

reply_whole : (id : Option Data) (r : Reply) → id_has_float id ≡ false → has_float (model.reply_data id r) ≡ false
reply_whole id r whole = grind (arith, common_steps, job_items_whole, node_items_whole)

reply_alike : (a b : Option Data) (r : Reply) → option_map compact_text a ≡ option_map compact_text b → model.message_text (model.reply_data a r) ≡ model.message_text (model.reply_data b r)
reply_alike a b r same = grind (arith, common_steps)

-- what is sent of a reply, with any id of its text
pub reply_sent : (old new : List ℕ) (v : Data) (id d : Option Data) (r : Reply) → (has_float v ≡ false → new ≡ old ++ model.message_text v) → v ≡ model.reply_data id r → id_has_float id ≡ false
    → option_map compact_text id ≡ option_map compact_text d → new ≡ old ++ model.message_text (model.reply_data d r)
reply_sent old new v id d r sent is whole same = grind (arith, common_steps, reply_whole, reply_alike)

-- what is sent of a refusal, with any id of its text
pub refusal_sent : (old new : List ℕ) (v : Data) (id d : Option Data) (class : List ℕ) (action : Option ℕ) (said : List ℕ) → (has_float v ≡ false → new ≡ old ++ model.message_text v)
    → v ≡ refusal_data class action said id → id_has_float id ≡ false → option_map compact_text id ≡ option_map compact_text d → new ≡ old ++ model.message_text (refusal_data class action said d)
refusal_sent old new v id d class action said sent is whole same = grind (arith, common_steps)
