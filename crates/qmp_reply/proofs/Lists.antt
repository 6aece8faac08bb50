-- The items of a list, one after another.
use Rattle.std.proofs.Common.{◌≡◌, List, [], ◌∷◌, map, refl, ap}
use Rattle.serde_json.specs.Data.{item}
use Rattle.serde_json.specs.View.{items_of}
use Rattle.core_events.specs.declared.infos.JobInfo.{JobInfo}
use Rattle.core_events.specs.declared.infos.BitmapInfo.{BitmapInfo}
use Rattle.core_events.specs.declared.infos.NodeInfo.{NodeInfo}
use Rattle.monitor_model.specs.Replies.{job_data, job_items, bitmap_data, bitmap_items, node_data, node_items}

pub job_items-map : (jobs : List JobInfo) → job_items jobs ≡ items_of (map job_data jobs)
job_items-map [] = refl
job_items-map (j ∷ jobs) = ap (item (job_data j)) (job_items-map jobs)

pub bitmap_items-map : (bitmaps : List BitmapInfo) → bitmap_items bitmaps ≡ items_of (map bitmap_data bitmaps)
bitmap_items-map [] = refl
bitmap_items-map (b ∷ bitmaps) = ap (item (bitmap_data b)) (bitmap_items-map bitmaps)

pub node_items-map : (nodes : List NodeInfo) → node_items nodes ≡ items_of (map node_data nodes)
node_items-map [] = refl
node_items-map (n ∷ nodes) = ap (item (node_data n)) (node_items-map nodes)
