-- What a library call gives by rules 37 to 39, as a list of conclusions. Any premise beside the use of the row may be known
-- already.
use Rattle.std.specs.Prelude.{◌==◌, ℕ, List, [], ◌∷◌, ◌++◌, Option, Some, None, cond, is_some, map, flat_map, slice_get}
use Rattle.access_path.specs.declared.path.Path.{Path}
use Rattle.access_path.specs.Paths.{cut, rest}
use Rattle.app_machine.specs.declared.app.App.{App}
use Rattle.app_machine.specs.Lookups.{elem_key}
use Rattle.app_machine.specs.State.{shared_static}
use Rattle.fact_rows.specs.declared.site.Site.{Site}
use Rattle.fact_rows.specs.declared.site.Site.TheVariants.{Shared as SharedSite}
use Rattle.fact_rows.specs.declared.row.Row.{Row}
use Rattle.fact_rows.specs.declared.row.Row.TheVariants.{Points, Taint, Cell, StaticPoints, Effect, Uses}
use Rattle.rule_ground.specs.declared.conclusion.Conclusion.{Conclusion}
use Rattle.rule_ground.specs.declared.content.Content.{Content}
use Rattle.rule_ground.specs.declared.content.Content.TheVariants.{Object, Label}
use Rattle.rule_ground.specs.declared.key.Key.{Key}
use Rattle.rule_ground.specs.declared.key.Key.TheVariants.{PointsAt, CellsOf}
use Rattle.rule_ground.specs.Candidates.{candidates}
use Rattle.rule_ground.specs.Given.{of_one, of_two, of_three, of_four, concludes, held, stored}
use Rattle.library_ground.specs.declared.pins.Pins.{Pins}
use Rattle.library_ground.specs.CallRow.{CallRow}
use Rattle.library_ground.specs.Pinning.{are_free, may_stand, values_give}
use Rattle.library_ground.specs.Places.{at_places}

-- what is concluded of each pair of which the position is the first, from the second
abbrev pub pairs_from : ℕ → (ℕ → List Conclusion) → List (ℕ × ℕ) → List Conclusion
pairs_from i f pairs = flat_map (λ (pair : ℕ × ℕ). cond (pair.0 == i) (f pair.1) []) pairs

-- 37. Each object of register o is one that holds the value of register x.
abbrev pub put_into : CallRow → ℕ → Content → Row → List Conclusion
put_into c x v (Points m y s) = concludes 37 (of_three (Uses c.node c.uses) (Points m y s) (held v c.node x)) (stored v c.node s elem_key) ∷ []
put_into c x v _ = []

abbrev pub put_content : (Key → List Row) → Option Row → CallRow → ℕ → ℕ → Content → List Conclusion
put_content hits object c x o v = flat_map (put_into c x v) (candidates hits object (PointsAt c.node o))

abbrev pub put_row : (Key → List Row) → Option Row → CallRow → ℕ → ℕ → Row → List Conclusion
put_row hits object c x o (Points m y t) = put_content hits object c x o (Object t)
put_row hits object c x o (Taint m y p l) = put_content hits object c x o (Label p l)
put_row hits object c x o _ = []

abbrev pub put_at : (Key → List Row) → Pins → CallRow → ℕ → Option ℕ → List Conclusion
put_at hits pins c x None = []
put_at hits pins c x (Some o) = cond (may_stand pins.object c.node o) (values_give hits pins.value c.node x (put_row hits pins.object c x o)) []

abbrev pub put_gives : (Key → List Row) → Pins → CallRow → ℕ → ℕ → List Conclusion
put_gives hits pins c x j = put_at hits pins c x (slice_get c.places j)

-- 38. The shared object holds the value of register x, and its static holds the object.
abbrev pub store_content : CallRow → ℕ → ℕ → Content → List Conclusion
store_content c x g v = concludes 38 (of_two (Uses c.node c.uses) (held v c.node x)) (stored v c.node (SharedSite g) elem_key) ∷ []

abbrev pub store_row : CallRow → ℕ → ℕ → Row → List Conclusion
store_row c x g (Points m y t) = store_content c x g (Object t)
store_row c x g (Taint m y p l) = store_content c x g (Label p l)
store_row c x g _ = []

abbrev pub store_gives : (Key → List Row) → Pins → CallRow → ℕ → ℕ → List Conclusion
store_gives hits pins c x g = values_give hits pins.value c.node x (store_row c x g)

abbrev pub static_filled : App → CallRow → ℕ × ℕ → Conclusion
static_filled app c store = concludes 38 (of_one (Uses c.node c.uses)) (StaticPoints (shared_static app store.1) (SharedSite store.1))

abbrev pub statics_filled : App → CallRow → List Conclusion
statics_filled app c = map (static_filled app c) c.row.stores

-- 39. Each object of register o holds what an object of register x holds as an element.
abbrev pub copy_into : CallRow → Row → Row → Site → Row → List Conclusion
copy_into c from cell t (Points m y v) = concludes 39 (of_four (Uses c.node c.uses) from cell (Points m y v)) (Cell v elem_key t) ∷ []
copy_into c from cell t _ = []

abbrev pub copy_element : (Key → List Row) → Option Row → CallRow → ℕ → Row → Row → List Conclusion
copy_element hits object c o from (Cell s k t) = flat_map (copy_into c from (Cell s k t) t) (candidates hits object (PointsAt c.node o))
copy_element hits object c o from _ = []

abbrev pub label_into : CallRow → Row → Path → ℕ → Row → List Conclusion
label_into c label q l (Points m y v) = concludes 39 (of_three (Uses c.node c.uses) label (Points m y v)) (Effect c.node v (cut elem_key q) l) ∷ []
label_into c label q l _ = []

abbrev pub copy_rest : (Key → List Row) → Option Row → CallRow → ℕ → Row → ℕ → Option Path → List Conclusion
copy_rest hits object c o label l None = []
copy_rest hits object c o label l (Some q) = flat_map (label_into c label q l) (candidates hits object (PointsAt c.node o))

abbrev pub copy_row : (Key → List Row) → Pins → CallRow → ℕ → Row → List Conclusion
copy_row hits pins c o (Points m y s) = flat_map (copy_element hits pins.object c o (Points m y s)) (candidates hits pins.cell (CellsOf s elem_key))
copy_row hits pins c o (Taint m y p l) = cond (is_some pins.cell) [] (copy_rest hits pins.object c o (Taint m y p l) l (rest p elem_key))
copy_row hits pins c o _ = []

abbrev pub copy_at : (Key → List Row) → Pins → CallRow → ℕ → Option ℕ → List Conclusion
copy_at hits pins c x None = []
copy_at hits pins c x (Some o) = cond (may_stand pins.object c.node o) (values_give hits pins.value c.node x (copy_row hits pins c o)) []

abbrev pub copy_gives : (Key → List Row) → Pins → CallRow → ℕ → ℕ → List Conclusion
copy_gives hits pins c x j = copy_at hits pins c x (slice_get c.places j)

-- what position i in register x gives
abbrev pub writes_gives : (Key → List Row) → Pins → CallRow → ℕ → ℕ → List Conclusion
writes_gives hits pins c i x =
    pairs_from i (put_gives hits pins c x) c.row.puts
    ++ cond (is_some pins.object) [] (pairs_from i (store_gives hits pins c x) c.row.stores)

abbrev pub position_gives : (Key → List Row) → Pins → CallRow → ℕ → ℕ → List Conclusion
position_gives hits pins c i x = cond (is_some pins.cell) [] (writes_gives hits pins c i x) ++ pairs_from i (copy_gives hits pins c x) c.row.copies

abbrev pub at_position : (Key → List Row) → Pins → CallRow → ℕ → ℕ → List Conclusion
at_position hits pins c i x = cond (may_stand pins.value c.node x) (position_gives hits pins c i x) []

abbrev pub heap_gives : App → (Key → List Row) → Pins → CallRow → List Conclusion
heap_gives app hits pins c = at_places (at_position hits pins c) 0 c.places ++ cond (are_free pins) (statics_filled app c) []
