-- Rows in parts.
use Rattle.std.specs.Prelude.{◌≡◌, ℕ, zero, suc, ◌+◌, ◌<◌, ◌≤◌, ◌^◌, Bool, List, [], ◌∷◌, length, take}
use Rattle.std.specs.List.{All, HoldsAt, flat_map}
use Rattle.std.specs.declared.cmp.Ordering.{Ordering}
use Rattle.vet_base.specs.Ascending.{Ascends}
use Rattle.sorted_table.specs.declared.part.Part.{Part}
use Rattle.sorted_table.specs.declared.part.Slot.{Slot}
use Rattle.sorted_table.specs.declared.part.TheConstants.{FULL}

abbrev pub rows_of : {K : Type 0} → Part K → List K
rows_of part = part.rows.items

-- the rows of all parts, one part behind the other
abbrev pub all_rows : {K : Type 0} → List (Part K) → List K
all_rows parts = flat_map rows_of parts

-- each part has a row, and none has more than a full one
abbrev pub Filled : {K : Type 0} → List (Part K) → Type 0
Filled {K} parts = All (λ (p : Part K). (0 < length (rows_of p)) × (length (rows_of p) ≤ FULL)) parts

-- how many rows stand before a part
abbrev pub before : {K : Type 0} → List (Part K) → ℕ → ℕ
before parts at = length (all_rows (take at parts))

-- how many stand before each part, where n stand before the first
abbrev pub starts_of : {K : Type 0} → ℕ → List (Part K) → List ℕ
starts_of n [] = []
starts_of n (p ∷ ps) = n ∷ starts_of (n + length (rows_of p)) ps

-- what holds of the parts and of the numbers of rows before them
pub record IsKept {K : Type 0} (parts : List (Part K)) (starts : List ℕ) : Type 0 where
  pub filled : Filled parts
  pub numbers : starts ≡ starts_of 0 parts

-- the slot's place among all rows
abbrev pub place_of : {K : Type 0} → List (Part K) → Slot → ℕ
place_of parts slot = before parts slot.part + slot.place

-- the slot is a place in a part, or that part's end
pub record IsSlot {K : Type 0} (parts : List (Part K)) (slot : Slot) : Type 0 where
  pub there : slot.part < length parts
  pub within : HoldsAt (λ p. slot.place ≤ length (rows_of p)) parts slot.part

-- the part has room for one more
abbrev pub HasRoom : {K : Type 0} → List (Part K) → ℕ → Type 0
HasRoom parts at = (at < length parts) × HoldsAt (λ p. length (rows_of p) < FULL) parts at

-- one more from a place to just before another
abbrev pub raised : ℕ → ℕ → List ℕ → List ℕ
raised from to [] = []
raised zero zero (n ∷ ns) = n ∷ ns
raised (suc from) zero (n ∷ ns) = n ∷ ns
raised zero (suc to) (n ∷ ns) = (n + 1) ∷ raised zero to ns
raised (suc from) (suc to) (n ∷ ns) = n ∷ raised from to ns

-- a part is cut in two
pub record IsSplit {K : Type 0} (old : List (Part K)) (at cut : ℕ) (new : List (Part K)) : Type 0 where
  pub there : at + 1 < length new
  pub low : HoldsAt (λ p. length (rows_of p) ≡ cut) new at
  pub high : HoldsAt (λ p. length (rows_of p) + cut ≡ FULL) new (at + 1)
  pub before_low : before new at ≡ before old at
  pub before_high : before new (at + 1) ≡ before old at + cut

-- the place is one of the part's
pub record IsPartOf {K : Type 0} (parts : List (Part K)) (place at : ℕ) : Type 0 where
  pub there : at < length parts
  pub from : before parts at ≤ place
  pub to : HoldsAt (λ p. place < before parts at + length (rows_of p)) parts at

-- the part begins with a row that the test answers so
abbrev pub BeginsWith : {K : Type 0} → (K → Bool) → Bool → Part K → Type 0
BeginsWith test answer part = HoldsAt (λ y. test y ≡ answer) (rows_of part) 0

-- what holds of a table's fields
pub record IsWhole {K : Type 0} (R : K → K → Ordering) (parts : List (Part K)) (starts : List ℕ) (count : ℕ) : Type 0 where
  pub ascending : Ascends R (all_rows parts)
  pub kept : IsKept parts starts
  pub many : count ≡ length (all_rows parts)
  pub few : length (all_rows parts) < 2 ^ 64
