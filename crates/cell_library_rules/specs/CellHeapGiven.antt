-- What a library call gives by rules 37 to 39 of the second set, as a list of conclusions. Any premise beside the use of the
-- row may be known already.
use Rattle.std.specs.Prelude.{ℕ, List, [], ◌∷◌, ◌++◌, Option, Some, None, cond, is_some, flat_map, slice_get}
use Rattle.app_machine.specs.Lookups.{elem_key}
use Rattle.fact_rows.specs.declared.site.Site.TheVariants.{Shared as SharedSite}
use Rattle.fact_rows.specs.declared.row.Row.{Row}
use Rattle.fact_rows.specs.declared.row.Row.TheVariants.{Points, Label, CellLabel, Uses}
use Rattle.rule_ground.specs.declared.conclusion.Conclusion.{Conclusion}
use Rattle.rule_ground.specs.declared.key.Key.{Key}
use Rattle.rule_ground.specs.declared.key.Key.TheVariants.{PointsAt, LabelsAt, CellLabelsOf}
use Rattle.rule_ground.specs.Candidates.{candidates}
use Rattle.rule_ground.specs.Given.{of_two, of_three, of_four, concludes}
use Rattle.library_ground.specs.declared.pins.Pins.{Pins}
use Rattle.library_ground.specs.CallRow.{CallRow}
use Rattle.library_ground.specs.Places.{at_places}
use Rattle.library_heap_rules.specs.HeapGiven.{pairs_from}
use Rattle.cell_library_value_rules.specs.CellValues.{may_stand}

-- 37. Each object of register o has the label of register x on its elements.
abbrev pub put_into : CallRow → ℕ → ℕ → Row → List Conclusion
put_into c x l (Points m y s) = concludes 37 (of_three (Uses c.node c.uses) (Points m y s) (Label c.node x l)) (CellLabel s elem_key l) ∷ []
put_into c x l _ = []

abbrev pub put_label : (Key → List Row) → Option Row → CallRow → ℕ → ℕ → Row → List Conclusion
put_label hits object c x o (Label m y l) = flat_map (put_into c x l) (candidates hits object (PointsAt c.node o))
put_label hits object c x o _ = []

abbrev pub put_at : (Key → List Row) → Pins → CallRow → ℕ → Option ℕ → List Conclusion
put_at hits pins c x None = []
put_at hits pins c x (Some o) =
    cond (may_stand pins.object c.node o) (flat_map (put_label hits pins.object c x o) (candidates hits pins.value (LabelsAt c.node x))) []

abbrev pub put_gives : (Key → List Row) → Pins → CallRow → ℕ → ℕ → List Conclusion
put_gives hits pins c x j = put_at hits pins c x (slice_get c.places j)

-- 38. The shared object has the label of register x on its elements.
abbrev pub store_label : CallRow → ℕ → ℕ → Row → List Conclusion
store_label c x g (Label m y l) = concludes 38 (of_two (Uses c.node c.uses) (Label c.node x l)) (CellLabel (SharedSite g) elem_key l) ∷ []
store_label c x g _ = []

abbrev pub store_gives : (Key → List Row) → Pins → CallRow → ℕ → ℕ → List Conclusion
store_gives hits pins c x g = flat_map (store_label c x g) (candidates hits pins.value (LabelsAt c.node x))

-- 39. Each object of register o has the labels that an object of register x has on its elements.
abbrev pub copy_into : CallRow → Row → Row → ℕ → Row → List Conclusion
copy_into c from cell l (Points m y v) = concludes 39 (of_four (Uses c.node c.uses) from cell (Points m y v)) (CellLabel v elem_key l) ∷ []
copy_into c from cell l _ = []

abbrev pub copy_label : (Key → List Row) → Option Row → CallRow → ℕ → Row → Row → List Conclusion
copy_label hits object c o from (CellLabel s k l) = flat_map (copy_into c from (CellLabel s k l) l) (candidates hits object (PointsAt c.node o))
copy_label hits object c o from _ = []

abbrev pub copy_object : (Key → List Row) → Pins → CallRow → ℕ → Row → List Conclusion
copy_object hits pins c o (Points m y s) = flat_map (copy_label hits pins.object c o (Points m y s)) (candidates hits pins.cell (CellLabelsOf s elem_key))
copy_object hits pins c o _ = []

abbrev pub copy_at : (Key → List Row) → Pins → CallRow → ℕ → Option ℕ → List Conclusion
copy_at hits pins c x None = []
copy_at hits pins c x (Some o) =
    cond (may_stand pins.object c.node o) (flat_map (copy_object hits pins c o) (candidates hits pins.value (PointsAt c.node x))) []

abbrev pub copy_gives : (Key → List Row) → Pins → CallRow → ℕ → ℕ → List Conclusion
copy_gives hits pins c x j = copy_at hits pins c x (slice_get c.places j)

-- what position i in register x gives
abbrev pub writes_gives : (Key → List Row) → Pins → CallRow → ℕ → ℕ → List Conclusion
writes_gives hits pins c i x =
    pairs_from i (put_gives hits pins c x) c.row.puts
    ++ cond (is_some pins.object) [] (pairs_from i (store_gives hits pins c x) c.row.stores)

abbrev pub position_gives : (Key → List Row) → Pins → CallRow → ℕ → ℕ → List Conclusion
position_gives hits pins c i x = cond (is_some pins.cell) [] (writes_gives hits pins c i x) ++ pairs_from i (copy_gives hits pins c x) c.row.copies

abbrev pub at_position : (Key → List Row) → Pins → CallRow → ℕ → ℕ → List Conclusion
at_position hits pins c i x = cond (may_stand pins.value c.node x) (position_gives hits pins c i x) []

abbrev pub heap_gives : (Key → List Row) → Pins → CallRow → List Conclusion
heap_gives hits pins c = at_places (at_position hits pins c) 0 c.places
