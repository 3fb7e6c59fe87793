-- What a library call gives by rules 31 to 36 of the second set, as a list of conclusions. Any premise beside the use of the
-- row may be known already.
use Rattle.std.specs.Prelude.{◌==◌, ℕ, List, [], ◌∷◌, ◌++◌, Option, Some, None, cond, is_some, flat_map}
use Rattle.app_machine.specs.declared.app.App.{App}
use Rattle.app_machine.specs.Lookups.{elem_key}
use Rattle.app_machine.specs.Names.{is_reference}
use Rattle.app_machine.specs.State.{result_register}
use Rattle.app_parts.specs.declared.summary_view.CallResult.{CallResult}
use Rattle.app_parts.specs.declared.summary_view.CallResult.TheVariants as result
use Rattle.app_parts.specs.Views.{call_result, joined_from}
use Rattle.fact_rows.specs.declared.site.Site.{Site}
use Rattle.fact_rows.specs.declared.site.Site.TheVariants.{Shared as SharedSite}
use Rattle.fact_rows.specs.declared.row.Row.{Row}
use Rattle.fact_rows.specs.declared.row.Row.TheVariants as fact
use Rattle.rule_ground.specs.declared.conclusion.Premises.{Premises}
use Rattle.rule_ground.specs.declared.conclusion.Conclusion.{Conclusion}
use Rattle.rule_ground.specs.declared.key.Key.{Key}
use Rattle.rule_ground.specs.declared.key.Key.TheVariants.{CellsOf, CellLabelsOf, HoldsOf}
use Rattle.rule_ground.specs.Candidates.{candidates}
use Rattle.rule_ground.specs.Given.{of_one, of_two, of_three, concludes}
use Rattle.library_ground.specs.declared.pins.Pins.{Pins}
use Rattle.library_ground.specs.CallRow.{CallRow, has_result, sink_of}
use Rattle.library_ground.specs.Pinning.{are_free}
use Rattle.library_ground.specs.Places.{at_places}
use Rattle.register_readers.specs.Readings.{Readings}
use Rattle.cell_rules.specs.Making.{made_at}
use Rattle.cell_ground.specs.declared.content.Content.{Content}
use Rattle.cell_ground.specs.declared.content.Content.TheVariants.{Object, Label}
use Rattle.cell_ground.specs.Coming.{held, coming}
use Rattle.cell_library_value_rules.specs.CellValues.{may_stand, values_give}

-- the use of the row, beside a value of a register, and beside an object of it and what is said of the object
abbrev pub with_value : CallRow → ℕ → Content → Premises
with_value c x v = of_two (fact.Uses c.node c.uses) (held v c.node x)

abbrev pub with_object : CallRow → ℕ → Site → Row → Premises
with_object c x s row = of_three (fact.Uses c.node c.uses) (fact.Points c.node x s) row

-- what is concluded of each label that leads from the value: its own, or one that is reached from the object
abbrev pub reached_label : (Premises → ℕ → List Conclusion) → CallRow → ℕ → Site → Row → List Conclusion
reached_label f c x s (fact.Holds t l) = f (with_object c x s (fact.Holds t l)) l
reached_label f c x s _ = []

abbrev pub leading : (Key → List Row) → Option Row → CallRow → ℕ → Content → (Premises → ℕ → List Conclusion) → List Conclusion
leading hits cell c x (Object s) f = flat_map (reached_label f c x s) (candidates hits cell (HoldsOf s))
leading hits cell c x (Label l) f = cond (is_some cell) [] (f (with_value c x (Label l)) l)

-- 31. What leads from a sink position arrives.
abbrev pub arrives : CallRow → ℕ → Premises → ℕ → List Conclusion
arrives c sink premises l = concludes 31 premises (fact.Arrive l sink c.node) ∷ []

abbrev pub arriving : (Key → List Row) → Option Row → CallRow → ℕ → Content → Option ℕ → List Conclusion
arriving hits cell c x v None = []
arriving hits cell c x v (Some sink) = leading hits cell c x v (arrives c sink)

module _ (readings : Readings) where
  -- the content comes to the result of the call
  abbrev pub results : ℕ → Premises → Content → CallRow → List Conclusion
  results rule premises v c = coming readings rule premises v c.node result_register c.next

  -- 33. The result is an element of the object.
  abbrev pub took : CallRow → ℕ → Site → Row → List Conclusion
  took c x s (fact.Cell t k v) = results 33 (with_object c x s (fact.Cell t k v)) (Object v) c
  took c x s (fact.CellLabel t k l) = results 33 (with_object c x s (fact.CellLabel t k l)) (Label l) c
  took c x s _ = []

  abbrev pub taken : (Key → List Row) → Option Row → CallRow → ℕ → Content → List Conclusion
  taken hits cell c x (Object s) =
      flat_map (took c x s) (candidates hits cell (CellsOf s elem_key)) ++ flat_map (took c x s) (candidates hits cell (CellLabelsOf s elem_key))
  taken hits cell c x (Label l) = []

module _ (app : App) (readings : Readings) where
  -- 35. The label comes to the result, and of a reference type this holds it as an element.
  abbrev pub element : CallRow → Premises → ℕ → List Conclusion
  element c premises l = concludes 35 premises (fact.CellLabel (made_at app c.node) elem_key l) ∷ []

  abbrev pub labelled : CallRow → Premises → ℕ → List Conclusion
  labelled c premises l = results readings 35 premises (Label l) c ++ cond (is_reference c.ret) (element c premises l) []

  -- 32, 33, 35. What the value of position i in register x gives to the result.
  abbrev pub result_gives : (Key → List Row) → Option Row → CallRow → ℕ → ℕ → Content → CallResult → List Conclusion
  result_gives hits cell c i x v (result.Same j) = cond (j == i) (cond (is_some cell) [] (results readings 32 (with_value c x v) v c)) []
  result_gives hits cell c i x v (result.Taken j) = cond (j == i) (taken readings hits cell c x v) []
  result_gives hits cell c i x v result.Joined = cond (joined_from c.row.gives i) (leading hits cell c x v (labelled c)) []
  result_gives hits cell c i x v _ = []

  abbrev pub returned : (Key → List Row) → Option Row → CallRow → ℕ → ℕ → Content → List Conclusion
  returned hits cell c i x v = cond (has_result c) (result_gives hits cell c i x v (call_result c.row.gives)) []

  -- 31 to 33 and 35, of one value
  abbrev pub content_gives : (Key → List Row) → Option Row → CallRow → ℕ → ℕ → Content → List Conclusion
  content_gives hits cell c i x v = arriving hits cell c x v (sink_of c i) ++ returned hits cell c i x v

  abbrev pub row_gives : (Key → List Row) → Option Row → CallRow → ℕ → ℕ → Row → List Conclusion
  row_gives hits cell c i x (fact.Points m y s) = content_gives hits cell c i x (Object s)
  row_gives hits cell c i x (fact.Label m y l) = content_gives hits cell c i x (Label l)
  row_gives hits cell c i x _ = []

  abbrev pub at_position : (Key → List Row) → Pins → CallRow → ℕ → ℕ → List Conclusion
  at_position hits pins c i x = cond (may_stand pins.value c.node x) (values_give hits pins.value c.node x (row_gives hits pins.cell c i x)) []

  -- 34. The object that is made here.
  abbrev pub made : CallRow → List Conclusion
  made c = cond (is_reference c.ret) (results readings 34 (of_one (fact.Uses c.node c.uses)) (Object (made_at app c.node)) c) []

  -- 35. The label of the source.
  abbrev pub source_gives : CallRow → Option ℕ → List Conclusion
  source_gives c None = []
  source_gives c (Some l) = labelled c (of_one (fact.Uses c.node c.uses)) l

  -- 34 to 36. What the call gives to its result whatever its positions hold.
  abbrev pub result_alone : CallRow → CallResult → List Conclusion
  result_alone c result.Joined = made c ++ source_gives c c.row.source
  result_alone c (result.Shared g) = results readings 36 (of_one (fact.Uses c.node c.uses)) (Object (SharedSite g)) c
  result_alone c _ = []

  abbrev pub alone_gives : CallRow → List Conclusion
  alone_gives c = cond (has_result c) (result_alone c (call_result c.row.gives)) []

  abbrev pub given_here : (Key → List Row) → Pins → CallRow → List Conclusion
  given_here hits pins c = at_places (at_position hits pins c) 0 c.places ++ cond (are_free pins) (alone_gives c) []

  -- none of these rules has an object that takes a value in
  abbrev pub value_gives : (Key → List Row) → Pins → CallRow → List Conclusion
  value_gives hits pins c = cond (is_some pins.object) [] (given_here hits pins c)
