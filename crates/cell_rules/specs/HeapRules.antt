-- Rule 14: which labels are reached from an object.
use Rattle.std.specs.Prelude.{ℕ, List, [], ◌∷◌}
use Rattle.vet_base.specs.declared.key_id.KeyId.{KeyId}
use Rattle.fact_rows.specs.declared.site.Site.{Site}
use Rattle.fact_rows.specs.declared.row.Row.{Row}
use Rattle.fact_rows.specs.declared.row.Row.TheVariants.{Back, CellLabel, Holds}

pub data HeapRule : ℕ → List Row → Row → Type 0 where
  -- 14. A label in a cell is reached from the object, and what is reached from an object is reached from what holds it.
  cell_holds : {k : KeyId} {l : ℕ} {s : Site} →
      HeapRule 14 (CellLabel s k l ∷ []) (Holds s l)
  lift_holds : {k : KeyId} {l : ℕ} {s t : Site} →
      HeapRule 14 (Holds t l ∷ Back t k s ∷ []) (Holds s l)
