-- The order of the handlers of a code item.
use Rattle.std.specs.Prelude.{ℕ, ◌<◌, List, length, AllPairs, slice_index_or}
use Rattle.dex_bodies.specs.declared.handlers.Handler.{Handler}

-- each handler begins before those behind it, and all before the end
pub record AreRising (handlers : List Handler) (end : ℕ) : Type 0 where
  pub pairs : AllPairs (λ (h k : Handler). h.at < k.at) handlers
  pub below : (k : ℕ) (d : Handler) → k < length handlers → (slice_index_or handlers k d).at < end
