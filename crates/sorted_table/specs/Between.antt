-- What a search by halves knows.
use Rattle.std.specs.Prelude.{◌≡◌, ℕ, suc, ◌<◌, ◌≤◌, List, length}
use Rattle.std.specs.List.{HoldsAt}

-- the item before low is a yes, and the one at high a no
pub record Between {X : Type 0} (Yes No : X → Type 0) (items : List X) (low high : ℕ) : Type 0 where
  pub order : low ≤ high
  pub within : high ≤ length items
  pub below : (k : ℕ) → suc k ≡ low → HoldsAt Yes items k
  pub above : high < length items → HoldsAt No items high
