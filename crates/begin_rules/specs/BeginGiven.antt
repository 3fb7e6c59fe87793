-- What is concluded where the system calls a body, as a list of conclusions.
use Rattle.std.specs.Prelude.{◌==◌, ◌||◌, ◌+◌, ◌-◌, ℕ, Bool, false, List, [], ◌∷◌, ◌++◌, Option, Some, None, cond, flat_map, slice_get}
use Rattle.access_path.specs.Paths.{cut, empty_path}
use Rattle.app_machine.specs.declared.method.Method.{Method}
use Rattle.app_machine.specs.declared.app.App.{App}
use Rattle.app_machine.specs.Names.{Name, is_reference}
use Rattle.app_machine.specs.Lookups.{elem_key}
use Rattle.app_machine.specs.Events.{layout, parameter_type}
use Rattle.app_machine.specs.Safe.{native}
use Rattle.fact_rows.specs.declared.context.Node.{Node}
use Rattle.fact_rows.specs.declared.site.Site.TheVariants.{Param}
use Rattle.fact_rows.specs.declared.row.Row.{Row}
use Rattle.fact_rows.specs.declared.row.Row.TheVariants.{Reached, Points, Taint, Unknown}
use Rattle.flow_rules.specs.Nodes.{activation_in, entry}
use Rattle.rule_ground.specs.declared.conclusion.Conclusion.{Conclusion}
use Rattle.rule_ground.specs.declared.content.Content.{Content}
use Rattle.rule_ground.specs.declared.content.Content.TheVariants.{Object, Label}
use Rattle.rule_ground.specs.Below.{for_below}
use Rattle.rule_ground.specs.Given.{concludes, held}
use Rattle.begin_rules.specs.declared.parameters.Start.{Start}

-- where the body begins, and what is concluded of it
abbrev pub first_of : Start → Node
first_of start = entry (activation_in start.ctx start.body)

abbrev pub says : Start → Row → Conclusion
says start row = concludes start.rule start.premises row

abbrev pub is_object : Option Name → Bool
is_object None = false
is_object (Some type) = is_reference type

-- what a register of position i holds by one source: the label, and a reference also as an element
abbrev pub by_source : Start → ℕ → ℕ → Bool → ℕ × ℕ → List Conclusion
by_source start z i object source =
    cond (source.0 == i)
    (says start (Taint (first_of start) z empty_path source.1)
    ∷ cond (i == 0 || object) (says start (Taint (first_of start) z (cut elem_key empty_path) source.1) ∷ []) []) []

-- what it holds in all: where it is a reference, also an object of its own site
abbrev pub in_register : Start → List (ℕ × ℕ) → ℕ → ℕ → Bool → List Conclusion
in_register start sources z i object =
    cond object (says start (Points (first_of start) z (Param start.ctx i)) ∷ []) []
    ++ flat_map (by_source start z i object) sources

abbrev pub at_position : Start → List (ℕ × ℕ) → List Name → ℕ → Option ℕ → List Conclusion
at_position start sources params z None = []
at_position start sources params z (Some i) = in_register start sources z i (is_object (parameter_type params i))

abbrev pub at_index : Start → List (ℕ × ℕ) → Method → ℕ → List Conclusion
at_index start sources m index =
    at_position start sources m.at.proto.params ((m.registers - m.ins) + index) (slice_get (layout m.at.proto.params) index)

abbrev pub with_code : Start → List (ℕ × ℕ) → Method → List Conclusion
with_code start sources m = says start (Reached (first_of start)) ∷ for_below (at_index start sources m) m.ins

abbrev pub begins_as : Start → List (ℕ × ℕ) → Option Method → List Conclusion
begins_as start sources None = []
begins_as start sources (Some m) = cond m.is_native (says start (Unknown (first_of start) native) ∷ []) (with_code start sources m)

-- the body begins
abbrev pub begins : App → Start → List (ℕ × ℕ) → List Conclusion
begins app start sources = begins_as start sources (slice_get app.methods start.body)

abbrev pub receives_as : Start → Content → Option Method → List Conclusion
receives_as start v None = []
receives_as start v (Some m) =
    cond (m.is_native || m.ins == 0) [] (says start (held v (first_of start) (m.registers - m.ins)) ∷ [])

-- its receiver holds the content
abbrev pub receives : App → Start → Content → List Conclusion
receives app start v = receives_as start v (slice_get app.methods start.body)

-- it begins on an object; with a label of that object it begins already
abbrev pub enters : App → Start → List (ℕ × ℕ) → Content → List Conclusion
enters app start sources (Object s) = begins app start sources ++ receives app start (Object s)
enters app start sources (Label p l) = receives app start (Label p l)
