-- How many rows of a list stand before a place of the order.
use Rattle.std.specs.Prelude.{◌≡◌, ℕ, ◌<◌, ◌≤◌, Bool, true, false, List, length}
use Rattle.std.specs.List.{slice_index_or}
use Rattle.std.specs.declared.cmp.Ordering.{Ordering}
use Rattle.std.specs.declared.cmp.Ordering.TheVariants.{Less, Equal, Greater}

-- whether a row of the side is counted: those in front of a stretch, and perhaps those in it
abbrev pub counts : Bool → Ordering → Bool
counts inside Less = true
counts inside Equal = inside
counts inside Greater = false

abbrev pub counted : {K : Type 0} → (K → Ordering) → Bool → K → Bool
counted side inside row = counts inside (side row)

-- the first n rows are counted, and no others
pub record IsBound {K : Type 0} (test : K → Bool) (rows : List K) (n : ℕ) : Type 0 where
  pub within : n ≤ length rows
  pub below : (k : ℕ) (d : K) → k < n → test (slice_index_or rows k d) ≡ true
  pub above : (k : ℕ) (d : K) → n ≤ k → k < length rows → test (slice_index_or rows k d) ≡ false
