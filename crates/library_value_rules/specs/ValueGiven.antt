-- What a library call gives by rules 30 to 36, as a list of conclusions. Any premise beside the use of the row may be known
-- already.
use Rattle.std.specs.Prelude.{◌==◌, ℕ, List, [], ◌∷◌, ◌++◌, Option, Some, None, cond, is_some, flat_map}
use Rattle.access_path.specs.declared.path.Path.{Path}
use Rattle.access_path.specs.Paths.{cut, rest, empty_path}
use Rattle.app_machine.specs.declared.app.App.{App}
use Rattle.app_machine.specs.Lookups.{elem_key}
use Rattle.app_machine.specs.Names.{is_reference}
use Rattle.app_machine.specs.State.{result_register, shared_static}
use Rattle.app_parts.specs.declared.summary_view.CallResult.{CallResult}
use Rattle.app_parts.specs.declared.summary_view.CallResult.TheVariants as result
use Rattle.app_parts.specs.Views.{call_result, joined_from}
use Rattle.fact_rows.specs.declared.site.Site.TheVariants.{At, Shared as SharedSite}
use Rattle.fact_rows.specs.declared.row.Row.{Row}
use Rattle.fact_rows.specs.declared.row.Row.TheVariants.{Points, Taint, Cell, StaticPoints, StaticTaint, Handed, HandedTaint, Arrive, Uses}
use Rattle.rule_ground.specs.declared.conclusion.Premises.{Premises}
use Rattle.rule_ground.specs.declared.conclusion.Conclusion.{Conclusion}
use Rattle.rule_ground.specs.declared.content.Content.{Content}
use Rattle.rule_ground.specs.declared.content.Content.TheVariants.{Object, Label}
use Rattle.rule_ground.specs.declared.key.Key.{Key}
use Rattle.rule_ground.specs.declared.key.Key.TheVariants.{PointsAt, TaintsAt, CellsOf, StaticTaintsOf}
use Rattle.rule_ground.specs.Candidates.{candidates}
use Rattle.rule_ground.specs.Given.{of_one, of_two, of_three, concludes, held, at_each}
use Rattle.library_ground.specs.declared.pins.Pins.{Pins}
use Rattle.library_ground.specs.CallRow.{CallRow, has_result, sink_of}
use Rattle.library_ground.specs.Pinning.{are_free, may_stand, values_give}
use Rattle.library_ground.specs.Places.{at_places}

-- that the result of the call holds the content
abbrev pub results : ℕ → Premises → Content → CallRow → List Conclusion
results rule premises v c = at_each rule premises v c.node result_register c.next

-- the use of the row, beside a value of a register
abbrev pub with_value : CallRow → ℕ → Content → Premises
with_value c x v = of_two (Uses c.node c.uses) (held v c.node x)

-- 30. The object is handed, and what it leads to.
abbrev pub hands : CallRow → ℕ → Content → List Conclusion
hands c x (Object s) = concludes 30 (with_value c x (Object s)) (Handed s) ∷ []
hands c x (Label p l) = []

abbrev pub handed_with : CallRow → Row → Path → ℕ → Row → List Conclusion
handed_with c label p l (Points m y s) = concludes 30 (of_three (Uses c.node c.uses) (Points m y s) label) (HandedTaint s p l) ∷ []
handed_with c label p l _ = []

abbrev pub label_hands : (Key → List Row) → Option Row → CallRow → ℕ → Row → List Conclusion
label_hands hits object c x (Taint m y p l) = flat_map (handed_with c (Taint m y p l) p l) (candidates hits object (PointsAt c.node x))
label_hands hits object c x _ = []

abbrev pub labels_handed : (Key → List Row) → Pins → CallRow → ℕ → List Conclusion
labels_handed hits pins c x =
    cond (may_stand pins.object c.node x)
    (flat_map (label_hands hits pins.object c x) (candidates hits pins.value (TaintsAt c.node x))) []

-- 31. A label at a sink position arrives.
abbrev pub arrives : CallRow → Option ℕ → ℕ → Content → List Conclusion
arrives c (Some sink) x (Label p l) = concludes 31 (with_value c x (Label p l)) (Arrive l sink c.node) ∷ []
arrives c _ x _ = []

-- 33. The result is an element of the object, which the cell says, or the label behind the key.
abbrev pub took : CallRow → Row → Row → List Conclusion
took c from (Cell s k t) = results 33 (of_three (Uses c.node c.uses) from (Cell s k t)) (Object t) c
took c from _ = []

abbrev pub took_rest : CallRow → ℕ → Path → ℕ → Option Path → List Conclusion
took_rest c x p l None = []
took_rest c x p l (Some q) = results 33 (with_value c x (Label p l)) (Label q l) c

abbrev pub taken : (Key → List Row) → Option Row → CallRow → ℕ → Content → List Conclusion
taken hits cell c x (Object s) = flat_map (took c (Points c.node x s)) (candidates hits cell (CellsOf s elem_key))
taken hits cell c x (Label p l) = cond (is_some cell) [] (took_rest c x p l (rest p elem_key))

-- 35. The result has the label, and of a reference type holds it as an element.
abbrev pub label_held : Premises → ℕ → CallRow → List Conclusion
label_held premises l c = cond (is_reference c.ret) (results 35 premises (Label (cut elem_key empty_path) l) c) []

abbrev pub labelled : Premises → ℕ → CallRow → List Conclusion
labelled premises l c = results 35 premises (Label empty_path l) c ++ label_held premises l c

abbrev pub joined : CallRow → ℕ → Content → List Conclusion
joined c x (Object s) = []
joined c x (Label p l) = labelled (with_value c x (Label p l)) l c

-- 32, 33, 35. What the value of position i in register x gives to the result.
abbrev pub result_gives : (Key → List Row) → Option Row → CallRow → ℕ → ℕ → Content → CallResult → List Conclusion
result_gives hits cell c i x v (result.Same j) = cond (j == i) (cond (is_some cell) [] (results 32 (with_value c x v) v c)) []
result_gives hits cell c i x v (result.Taken j) = cond (j == i) (taken hits cell c x v) []
result_gives hits cell c i x v result.Joined = cond (joined_from c.row.gives i) (cond (is_some cell) [] (joined c x v)) []
result_gives hits cell c i x v _ = []

abbrev pub returned : (Key → List Row) → Option Row → CallRow → ℕ → ℕ → Content → List Conclusion
returned hits cell c i x v = cond (has_result c) (result_gives hits cell c i x v (call_result c.row.gives)) []

-- 30 to 33 and 35, of one value
abbrev pub content_gives : (Key → List Row) → Option Row → CallRow → ℕ → ℕ → Content → List Conclusion
content_gives hits cell c i x v = cond (is_some cell) [] (hands c x v ++ arrives c (sink_of c i) x v) ++ returned hits cell c i x v

abbrev pub row_gives : (Key → List Row) → Option Row → CallRow → ℕ → ℕ → Row → List Conclusion
row_gives hits cell c i x (Points m y s) = content_gives hits cell c i x (Object s)
row_gives hits cell c i x (Taint m y p l) = content_gives hits cell c i x (Label p l)
row_gives hits cell c i x _ = []

abbrev pub position_gives : (Key → List Row) → Pins → CallRow → ℕ → ℕ → List Conclusion
position_gives hits pins c i x =
    cond (is_some pins.object) [] (values_give hits pins.value c.node x (row_gives hits pins.cell c i x))
    ++ cond (is_some pins.cell) [] (labels_handed hits pins c x)

abbrev pub at_position : (Key → List Row) → Pins → CallRow → ℕ → ℕ → List Conclusion
at_position hits pins c i x = cond (may_stand pins.value c.node x) (position_gives hits pins c i x) []

-- 34. The object that is made here.
abbrev pub made : CallRow → List Conclusion
made c = cond (is_reference c.ret) (results 34 (of_one (Uses c.node c.uses)) (Object (At c.node)) c) []

-- 35. The label of the source.
abbrev pub source_gives : CallRow → Option ℕ → List Conclusion
source_gives c None = []
source_gives c (Some l) = labelled (of_one (Uses c.node c.uses)) l c

-- 36. The shared object.
abbrev pub shared_label : CallRow → Row → List Conclusion
shared_label c (StaticTaint g p l) = results 36 (of_two (Uses c.node c.uses) (StaticTaint g p l)) (Label p l) c
shared_label c _ = []

abbrev pub shared_gives : App → (Key → List Row) → CallRow → ℕ → List Conclusion
shared_gives app hits c g =
    concludes 36 (of_one (Uses c.node c.uses)) (StaticPoints (shared_static app g) (SharedSite g))
    ∷ (results 36 (of_one (Uses c.node c.uses)) (Object (SharedSite g)) c ++ flat_map (shared_label c) (hits (StaticTaintsOf (shared_static app g))))

-- what the call gives to its result whatever its positions hold
abbrev pub result_alone : App → (Key → List Row) → CallRow → CallResult → List Conclusion
result_alone app hits c result.Joined = made c ++ source_gives c c.row.source
result_alone app hits c (result.Shared g) = shared_gives app hits c g
result_alone app hits c _ = []

abbrev pub alone_gives : App → (Key → List Row) → CallRow → List Conclusion
alone_gives app hits c = cond (has_result c) (result_alone app hits c (call_result c.row.gives)) []

abbrev pub value_gives : App → (Key → List Row) → Pins → CallRow → List Conclusion
value_gives app hits pins c = at_places (at_position hits pins c) 0 c.places ++ cond (are_free pins) (alone_gives app hits c) []
