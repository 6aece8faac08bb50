-- What the content of an option is read as; `Memory` says nothing of it (NBD protocol, "Option types").
use Rattle.std.specs.Prelude.{◌≡◌, ◌<◌, ◌≤◌, ℕ, List, length, None, Some, Result, Ok, Err}
use Rattle.nbd_model.specs.Options as model
use Rattle.nbd_codec.specs.declared.contents.InfoAsk.{InfoAsk}
use Rattle.nbd_codec.specs.declared.contents.MetaAsk.{MetaAsk}
use Rattle.nbd_codec.specs.declared.contents.NbdFault.{NbdFault}
use Rattle.nbd_codec.specs.declared.contents.NbdFault.TheVariants.{BadForm, TooMany, Memory}

abbrev pub plain_info : InfoAsk → model.InfoAsk
plain_info ask = record { name = ask.name; sizes = ask.sizes }

abbrev pub plain_meta : MetaAsk → model.MetaAsk
plain_meta ask = record { name = ask.name; queries = ask.queries }

abbrev pub InfoRead : List ℕ → Result InfoAsk NbdFault → Type 0
InfoRead content (Ok ask) = model.info_of content ≡ Some (plain_info ask)
InfoRead content (Err BadForm) = model.info_of content ≡ None
InfoRead content (Err (TooMany name)) = ⊥
InfoRead content (Err Memory) = Unit {0}

-- a whole form with more queries than are taken
pub record HasTooMany (content name : List ℕ) : Type 0 where
  pub queries : List (List ℕ)
  pub form : model.meta_of content ≡ Some (record { name = name; queries = queries })
  pub many : model.most_queries < length queries

pub record IsMeta (content : List ℕ) (ask : MetaAsk) : Type 0 where
  pub form : model.meta_of content ≡ Some (plain_meta ask)
  pub few : length ask.queries ≤ model.most_queries

abbrev pub MetaRead : List ℕ → Result MetaAsk NbdFault → Type 0
MetaRead content (Ok ask) = IsMeta content ask
MetaRead content (Err BadForm) = model.meta_of content ≡ None
MetaRead content (Err (TooMany name)) = HasTooMany content name
MetaRead content (Err Memory) = Unit {0}
