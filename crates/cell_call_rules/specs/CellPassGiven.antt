-- Rules 23 and 24 of the second set as lists: what a call passes by the class of its receiver, and its arguments.
use Rattle.std.specs.Prelude.{◌&&◌, ℕ, Bool, true, false, List, [], ◌∷◌, ◌++◌, Option, Some, None, cond, flat_map, length, slice_get}
use Rattle.app_machine.specs.declared.call.CallKind.{CallKind}
use Rattle.app_machine.specs.declared.call.MethodRef.{MethodRef}
use Rattle.app_machine.specs.declared.method.Act.{Act}
use Rattle.app_machine.specs.declared.method.Act.TheVariants as act
use Rattle.app_machine.specs.declared.method.Step.{Step}
use Rattle.app_machine.specs.declared.lists.Lists.{Lists}
use Rattle.app_machine.specs.declared.app.App.{App}
use Rattle.app_machine.specs.Names.{Name}
use Rattle.app_machine.specs.Lookups.{Target, Body, target, is_by_receiver}
use Rattle.app_machine.specs.State.{holds}
use Rattle.fact_rows.specs.declared.context.Activation.{Activation}
use Rattle.fact_rows.specs.declared.context.Node.{Node}
use Rattle.fact_rows.specs.declared.site.Site.{Site}
use Rattle.fact_rows.specs.declared.row.Row.{Row}
use Rattle.fact_rows.specs.declared.row.Row.TheVariants as fact
use Rattle.flow_rules.specs.Nodes.{entry, callee}
use Rattle.flow_rules.specs.Sites.{site_class}
use Rattle.register_readers.specs.Readings.{Readings}
use Rattle.rule_ground.specs.declared.conclusion.Premises.{Premises}
use Rattle.rule_ground.specs.declared.conclusion.Conclusion.{Conclusion}
use Rattle.rule_ground.specs.declared.key.Key.{Key}
use Rattle.rule_ground.specs.declared.key.Key.TheVariants.{PointsAt, LabelsAt, CallsAt}
use Rattle.rule_ground.specs.Given.{of_one, of_two}
use Rattle.rule_ground.specs.Below.{for_below}
use Rattle.call_targets.specs.EnterGiven.{argument_register, is_register}
use Rattle.call_rules.specs.PassGiven.{is_initialised, hangs_on}
use Rattle.cell_ground.specs.declared.content.Content.{Content}
use Rattle.cell_ground.specs.declared.content.Content.TheVariants.{Object, Label}
use Rattle.cell_ground.specs.Coming.{held, coming}

abbrev pub is_passed : CallKind → ℕ → Content → Bool
is_passed kind i (Object s) = cond (hangs_on kind i) false true
is_passed kind i (Label l) = true

module _ (readings : Readings) where
  -- the content comes to the register, where there is one, from the first step of the activation
  abbrev pub passed_to : ℕ → Premises → Content → Activation → Option ℕ → List Conclusion
  passed_to rule premises v b None = []
  passed_to rule premises v b (Some z) = coming readings rule premises v (entry b) z (0 ∷ [])

  -- 24. What the register x holds comes to the register z.
  abbrev pub passed : Node → Activation → ℕ → ℕ → Content → List Conclusion
  passed n b x z v = passed_to 24 (of_two (fact.Calls n b) (held v n x)) v b (Some z)

  abbrev pub argument_gets : Node → Activation → ℕ → ℕ → Row → List Conclusion
  argument_gets n b x z (fact.Points m y s) = passed n b x z (Object s)
  argument_gets n b x z (fact.Label m y l) = passed n b x z (Label l)
  argument_gets n b x z _ = []

  abbrev pub argument_passed : (Key → List Row) → Node → Activation → CallKind → ℕ → Option ℕ → Option ℕ → List Conclusion
  argument_passed hits n b kind i None z = []
  argument_passed hits n b kind i (Some x) None = []
  argument_passed hits n b kind i (Some x) (Some z) =
      cond (hangs_on kind i) [] (flat_map (argument_gets n b x z) (hits (PointsAt n x))) ++ flat_map (argument_gets n b x z) (hits (LabelsAt n x))

module _ (app : App) (readings : Readings) where
  -- 23. The receiver comes to the body for its class.
  abbrev pub class_to : Node → ℕ → Site → Target → List Conclusion
  class_to n x s (Body body) = passed_to readings 23 (of_one (fact.Points n x s)) (Object s) (callee n body) (argument_register app body 0)
  class_to n x s _ = []

  abbrev pub class_on : Node → ℕ → Site → CallKind → MethodRef → Option Name → List Conclusion
  class_on n x s kind at None = []
  class_on n x s kind at (Some class) = class_to n x s (target app kind n.by.method at (Some class))

  abbrev pub received : Lists → Node → ℕ → Site → Act → List Conclusion
  received lists n x s (act.Call kind at args) =
      cond (is_by_receiver kind && is_register (slice_get args 0) x) (class_on n x s kind at (site_class app lists s)) []
  received lists n x s _ = []

  -- 24, from the call.
  abbrev pub argument_at : (Key → List Row) → Node → Activation → CallKind → List ℕ → ℕ → List Conclusion
  argument_at hits n b kind args i = argument_passed readings hits n b kind i (slice_get args i) (argument_register app b.method i)

  abbrev pub call_passes : (Key → List Row) → Node → Activation → Act → List Conclusion
  call_passes hits n b (act.Call kind at args) =
      cond (is_initialised app n (act.Call kind at args) b) [] (for_below (argument_at hits n b kind args) (length args))
  call_passes hits n b _ = []

  abbrev pub calls_on : (Key → List Row) → Node → Activation → Option Step → List Conclusion
  calls_on hits n b None = []
  calls_on hits n b (Some step) = call_passes hits n b step.act

  -- 24, from the content.
  abbrev pub passed_at : Node → Activation → CallKind → List ℕ → ℕ → Content → ℕ → List Conclusion
  passed_at n b kind args x v i =
      cond (is_register (slice_get args i) x && is_passed kind i v)
      (passed_to readings 24 (of_two (fact.Calls n b) (held v n x)) v b (argument_register app b.method i)) []

  abbrev pub callee_gets : Node → Act → CallKind → List ℕ → ℕ → Content → Row → List Conclusion
  callee_gets n a kind args x v (fact.Calls m b) =
      cond (is_initialised app n a b) [] (for_below (passed_at n b kind args x v) (length args))
  callee_gets n a kind args x v _ = []

  abbrev pub content_passed : (Key → List Row) → Node → ℕ → Content → Act → List Conclusion
  content_passed hits n x v (act.Call kind at args) =
      cond (holds args x) (flat_map (callee_gets n (act.Call kind at args) kind args x v) (hits (CallsAt n))) []
  content_passed hits n x v _ = []
