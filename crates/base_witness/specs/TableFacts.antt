-- What tables of numbers do not come to. Behind each fact stands the code that it excludes.
use Rattle.std.specs.Prelude.{◌≡◌, ℕ, List, [], ◌∷◌}
use Rattle.std.specs.Ordering.{nat_cmp}
use Rattle.sorted_table.specs.declared.part.Part.{Part}
use Rattle.sorted_table.specs.Adding.{Added}
use Rattle.sorted_table.specs.Parts.{IsWhole, rows_of}
use Rattle.sorted_table.specs.Stretches.{IsRange}

pub record KeepsRows : Type 0 where
  -- 1 does not go in behind 2, as where it is pushed
  pub at_its_place : Added nat_cmp (2 ∷ []) 1 (2 ∷ 1 ∷ []) → ⊥
  -- 1 is not new beside itself, as where the answer is so
  pub once : Added nat_cmp (1 ∷ []) 1 (1 ∷ []) → ⊥
  -- the rows that are 1 do not end in front of it, as where a range ends one early
  pub whole_range : IsRange (λ row. nat_cmp row 1) (1 ∷ []) 0 0 → ⊥
  -- no part is without a row, as the upper one is where the upper half is dropped
  pub filled : (low high : Part ℕ) (starts : List ℕ) (count : ℕ) → rows_of high ≡ [] → IsWhole nat_cmp (low ∷ high ∷ []) starts count → ⊥
  -- no row stands before the first part, as where the numbers are raised from the part on that a row went into
  pub starts : (first : Part ℕ) (count : ℕ) → IsWhole nat_cmp (first ∷ []) (1 ∷ []) count → ⊥

abbrev pub TablesKeepRows : Type 0
TablesKeepRows = KeepsRows
