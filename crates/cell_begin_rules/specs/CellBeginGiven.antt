-- What is concluded by the second set where the system calls a body, as a list of conclusions.
use Rattle.std.specs.Prelude.{◌==◌, ◌||◌, ◌+◌, ◌-◌, ℕ, Bool, List, [], ◌∷◌, ◌++◌, Option, Some, None, cond, flat_map, slice_get}
use Rattle.app_machine.specs.declared.method.Method.{Method}
use Rattle.app_machine.specs.declared.app.App.{App}
use Rattle.app_machine.specs.Names.{Name}
use Rattle.app_machine.specs.Lookups.{elem_key}
use Rattle.app_machine.specs.Events.{layout, parameter_type}
use Rattle.fact_rows.specs.declared.site.Site.TheVariants.{Param}
use Rattle.fact_rows.specs.declared.row.Row.TheVariants.{CellLabel}
use Rattle.register_readers.specs.Readings.{Readings}
use Rattle.rule_ground.specs.declared.conclusion.Conclusion.{Conclusion}
use Rattle.rule_ground.specs.Below.{for_below}
use Rattle.begin_rules.specs.declared.parameters.Start.{Start}
use Rattle.begin_rules.specs.BeginGiven.{first_of, says, is_object}
use Rattle.cell_ground.specs.declared.content.Content.{Content}
use Rattle.cell_ground.specs.declared.content.Content.TheVariants.{Object, Label}
use Rattle.cell_ground.specs.Coming.{coming}

module _ (readings : Readings) (start : Start) where
  -- the content comes to the register, from where the body begins
  abbrev pub comes : ℕ → Content → List Conclusion
  comes z v = coming readings start.rule start.premises v (first_of start) z (0 ∷ [])

  -- what a register of position i holds by one source
  abbrev pub by_source : ℕ → ℕ → ℕ × ℕ → List Conclusion
  by_source z i source = cond (source.0 == i) (comes z (Label source.1)) []

  -- what it holds in all: where it is a reference, also an object of its own site
  abbrev pub in_register : List (ℕ × ℕ) → ℕ → ℕ → Bool → List Conclusion
  in_register sources z i object = cond object (comes z (Object (Param start.ctx i))) [] ++ flat_map (by_source z i) sources

  abbrev pub at_position : List (ℕ × ℕ) → List Name → ℕ → Option ℕ → List Conclusion
  at_position sources params z None = []
  at_position sources params z (Some i) = in_register sources z i (is_object (parameter_type params i))

  abbrev pub at_index : List (ℕ × ℕ) → Method → ℕ → List Conclusion
  at_index sources m index = at_position sources m.at.proto.params ((m.registers - m.ins) + index) (slice_get (layout m.at.proto.params) index)

  -- an object of its own site also holds the label as an element, whether a register takes it or not
  abbrev pub element : List Name → ℕ × ℕ → List Conclusion
  element params source = cond (is_object (parameter_type params source.0)) (says start (CellLabel (Param start.ctx source.0) elem_key source.1) ∷ []) []

  abbrev pub with_code : List (ℕ × ℕ) → Method → List Conclusion
  with_code sources m = for_below (at_index sources m) m.ins ++ flat_map (element m.at.proto.params) sources

  abbrev pub begins_as : List (ℕ × ℕ) → Option Method → List Conclusion
  begins_as sources None = []
  begins_as sources (Some m) = cond m.is_native [] (with_code sources m)

  abbrev pub receives_as : Content → Option Method → List Conclusion
  receives_as v None = []
  receives_as v (Some m) = cond (m.is_native || m.ins == 0) [] (comes (m.registers - m.ins) v)

-- the body begins with these; its receiver holds the content; and both
abbrev pub begins : App → Readings → Start → List (ℕ × ℕ) → List Conclusion
begins app readings start sources = begins_as readings start sources (slice_get app.methods start.body)

abbrev pub receives : App → Readings → Start → Content → List Conclusion
receives app readings start v = receives_as readings start v (slice_get app.methods start.body)

abbrev pub enters : App → Readings → Start → List (ℕ × ℕ) → Content → List Conclusion
enters app readings start sources v = begins app readings start sources ++ receives app readings start v
