-- Rules 22, 23, 27 and 28 as lists: the bodies that a node enters, and the rows of the lists that it uses.
use Rattle.std.specs.Prelude.{◌==◌, ◌&&◌, ◌+◌, ◌-◌, ℕ, Bool, false, List, [], ◌∷◌, ◌++◌, Option, Some, None, cond, flat_map, slice_get, nat_lt}
use Rattle.app_machine.specs.declared.call.CallKind.{CallKind}
use Rattle.app_machine.specs.declared.call.MethodRef.{MethodRef}
use Rattle.app_machine.specs.declared.method.Act.{Act}
use Rattle.app_machine.specs.declared.method.Act.TheVariants as act
use Rattle.app_machine.specs.declared.method.Method.{Method}
use Rattle.app_machine.specs.declared.method.Step.{Step}
use Rattle.app_machine.specs.declared.summary.Summary.{Summary}
use Rattle.app_machine.specs.declared.lists.Lists.{Lists}
use Rattle.app_machine.specs.declared.lists.SummaryId.{SummaryId}
use Rattle.app_machine.specs.declared.app.App.{App}
use Rattle.app_machine.specs.Names.{Name}
use Rattle.app_machine.specs.Lookups.{Target, Body, Library, Nothing, target, step_at, initialisers, is_by_receiver, is_static_call}
use Rattle.app_machine.specs.Summaries.{library_key, summary}
use Rattle.app_machine.specs.Safe.{no_summary, native, reflective}
use Rattle.fact_rows.specs.declared.context.Activation.{Activation}
use Rattle.fact_rows.specs.declared.context.Node.{Node}
use Rattle.fact_rows.specs.declared.site.Site.{Site}
use Rattle.fact_rows.specs.declared.row.Row.TheVariants.{Reached, Points, Calls, CalledBy, Unknown, Uses}
use Rattle.flow_rules.specs.Nodes.{entry, callee}
use Rattle.flow_rules.specs.Sites.{site_class}
use Rattle.rule_ground.specs.declared.conclusion.Premises.{Premises}
use Rattle.rule_ground.specs.declared.conclusion.Conclusion.{Conclusion}
use Rattle.rule_ground.specs.declared.content.Content.{Content}
use Rattle.rule_ground.specs.declared.content.Content.TheVariants.{Object}
use Rattle.rule_ground.specs.Given.{of_one, concludes, held}

-- the step at a node
abbrev pub step_here : App → Node → Option Step
step_here app n = step_at app n.by.method n.pc

-- the node enters the body
abbrev pub with_code : ℕ → Premises → Node → ℕ → List Conclusion
with_code rule premises n body =
    concludes rule premises (Calls n (callee n body))
    ∷ concludes rule premises (CalledBy (callee n body) n)
    ∷ concludes rule premises (Reached (entry (callee n body)))
    ∷ []

abbrev pub entered : ℕ → Premises → Node → ℕ → Option Method → List Conclusion
entered rule premises n body None = []
entered rule premises n body (Some m) =
    cond m.is_native (concludes rule premises (Unknown n native) ∷ []) (with_code rule premises n body)

abbrev pub enters : App → ℕ → Premises → Node → ℕ → List Conclusion
enters app rule premises n body = entered rule premises n body (slice_get app.methods body)

-- the register that takes argument register i of a call of the body
abbrev pub argument_of : Option Method → ℕ → Option ℕ
argument_of None i = None
argument_of (Some m) i = cond m.is_native None (cond (nat_lt i m.ins) (Some ((m.registers - m.ins) + i)) None)

abbrev pub argument_register : App → ℕ → ℕ → Option ℕ
argument_register app body i = argument_of (slice_get app.methods body) i

-- the register holds the content where the activation begins
abbrev pub passed_to : ℕ → Premises → Content → Activation → Option ℕ → List Conclusion
passed_to rule premises v b None = []
passed_to rule premises v b (Some z) = concludes rule premises (held v (entry b) z) ∷ []

-- 27. What a call on a library class uses.
abbrev pub uses_row : Premises → Node → SummaryId → Option Summary → List Conclusion
uses_row premises n key None = []
uses_row premises n key (Some row) =
    cond row.reflective (concludes 27 premises (Unknown n reflective) ∷ []) (concludes 27 premises (Uses n key) ∷ [])

abbrev pub uses_key : Lists → Premises → Node → CallKind → MethodRef → Option SummaryId → List Conclusion
uses_key lists premises n kind at None = concludes 27 premises (Unknown n no_summary) ∷ []
uses_key lists premises n kind at (Some key) = uses_row premises n key (summary lists key at (is_static_call kind))

abbrev pub looks_up : App → Lists → Premises → Node → CallKind → MethodRef → Name → List Conclusion
looks_up app lists premises n kind at class =
    uses_key lists premises n kind at (library_key app lists class at.name at.proto (is_static_call kind))

-- 22, 27. To what a call comes by its name.
abbrev pub named_to : App → Lists → Node → CallKind → MethodRef → Target → List Conclusion
named_to app lists n kind at (Body body) = cond (is_by_receiver kind) [] (enters app 22 (of_one (Reached n)) n body)
named_to app lists n kind at (Library class) = looks_up app lists (of_one (Reached n)) n kind at class
named_to app lists n kind at Nothing = []

abbrev pub named : App → Lists → Node → Act → List Conclusion
named app lists n (act.Call kind at args) = named_to app lists n kind at (target app kind n.by.method at None)
named app lists n _ = []

-- 28.
abbrev pub initialises : App → Node → List ℕ → List Conclusion
initialises app n bodies = flat_map (λ body. enters app 28 (of_one (Reached n)) n body) bodies

abbrev pub reached_on : App → Lists → Node → Option Step → List Conclusion
reached_on app lists n None = []
reached_on app lists n (Some step) = named app lists n step.act ++ initialises app n (initialisers app step.act)

-- 23, 27. To what a call comes by the class of an object that its receiver may be.
abbrev pub class_to : App → Lists → Node → ℕ → Site → CallKind → MethodRef → Target → List Conclusion
class_to app lists n x s kind at (Body body) =
    enters app 23 (of_one (Points n x s)) n body
    ++ passed_to 23 (of_one (Points n x s)) (Object s) (callee n body) (argument_register app body 0)
class_to app lists n x s kind at (Library above) = looks_up app lists (of_one (Points n x s)) n kind at above
class_to app lists n x s kind at Nothing = []

abbrev pub class_on : App → Lists → Node → ℕ → Site → CallKind → MethodRef → Option Name → List Conclusion
class_on app lists n x s kind at None = []
class_on app lists n x s kind at (Some class) =
    class_to app lists n x s kind at (target app kind n.by.method at (Some class))

abbrev pub is_register : Option ℕ → ℕ → Bool
is_register None x = false
is_register (Some y) x = y == x

abbrev pub received : App → Lists → Node → ℕ → Site → Act → List Conclusion
received app lists n x s (act.Call kind at args) =
    cond (is_by_receiver kind && is_register (slice_get args 0) x) (class_on app lists n x s kind at (site_class app lists s)) []
received app lists n x s _ = []
