-- What a FUA adds where it wasn't asked.
use Rattle.std.proofs.Common.{◌≡◌, ℕ, List, Bool, true, false, Option, refl}
use Rattle.std.proofs.lemmas.Bool.{true≢false}
use Rattle.disk_model.specs.World.{World, EachNow}
use Rattle.disk_model.proofs.Moments.{since_now}
use Rattle.core_node.specs.Step.{HasHead}
use Rattle.core_layers.specs.Layers.{Facts, IsMixed}
use Rattle.drive_core.specs.Settling.{Settles}

pub unasked : {f : Facts} {cluster event : ℕ} {was : Option ℕ} {holds : List ℕ → List (List ℕ) → Type 0} {w : World} (asked : Bool) → asked ≡ false
    → ((disk : List ℕ) (mixed : List (List ℕ)) → holds disk mixed → EachNow w f.file (IsMixed f.id f.directory mixed)) → Settles asked true f cluster event was was holds holds w w
unasked true is each = absurd (true≢false is)
unasked {f} {w = w} false is each = record {
  held = λ disk mixed k. k;
  since = λ disk mixed k. since_now w f.file (IsMixed f.id f.directory mixed) (each disk mixed k);
  head = λ disk mixed k start short. record { since = λ holds. since_now w f.file (HasHead start) holds.each; after = λ holds. holds };
  whole = λ ok. refl;
  failed = λ ill. absurd (true≢false ill);
}
