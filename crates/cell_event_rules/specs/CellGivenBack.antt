-- Which handed objects come back to which events by the second set, as a list of conclusions.
use Rattle.std.specs.Prelude.{◌+◌, ◌-◌, ℕ, List, [], ◌∷◌, Option, Some, None, cond, flat_map, slice_get}
use Rattle.app_machine.specs.declared.method.Method.{Method}
use Rattle.app_machine.specs.declared.lists.Lists.{Lists}
use Rattle.app_machine.specs.declared.app.App.{App}
use Rattle.app_machine.specs.Names.{Name}
use Rattle.fact_rows.specs.declared.context.Activation.{Activation}
use Rattle.fact_rows.specs.declared.site.Site.{Site}
use Rattle.fact_rows.specs.declared.row.Row.{Row}
use Rattle.fact_rows.specs.declared.row.Row.TheVariants.{Reached, Handed}
use Rattle.flow_rules.specs.Nodes.{entry}
use Rattle.flow_rules.specs.Sites.{site_class}
use Rattle.rule_ground.specs.declared.conclusion.Conclusion.{Conclusion}
use Rattle.rule_ground.specs.declared.conclusion.Premises.{Premises}
use Rattle.rule_ground.specs.declared.key.Key.{Key}
use Rattle.rule_ground.specs.declared.key.Key.TheVariants.{AnyHanded, EventEntries}
use Rattle.rule_ground.specs.Below.{for_below}
use Rattle.rule_ground.specs.Given.{of_two}
use Rattle.event_rules.specs.GivenBack.{takes, type_at}
use Rattle.register_readers.specs.Readings.{Readings}
use Rattle.cell_ground.specs.declared.content.Content.TheVariants.{Object}
use Rattle.cell_ground.specs.Coming.{coming}

abbrev pub back_premises : Activation → Site → Premises
back_premises b s = of_two (Reached (entry b)) (Handed s)

-- the object comes to the register, from where the body begins
abbrev pub back_register : Readings → Site → Activation → ℕ → List Conclusion
back_register readings s b z = coming readings 45 (back_premises b s) (Object s) (entry b) z (0 ∷ [])

module _ (app : App) (readings : Readings) (lists : Lists) where
  -- where a parameter of its type may be an object of the class
  abbrev pub back_index : Site → Name → Activation → Method → ℕ → List Conclusion
  back_index s class b m index =
      cond (takes app lists class (type_at m.at.proto.params index)) (back_register readings s b ((m.registers - m.ins) + index)) []

  abbrev pub back_in : Site → Name → Activation → Option Method → List Conclusion
  back_in s class b None = []
  back_in s class b (Some m) = cond m.is_native [] (for_below (back_index s class b m) m.ins)

  -- objects of the class come back to the activation
  abbrev pub back : Site → Name → Activation → List Conclusion
  back s class b = back_in s class b (slice_get app.methods b.method)

  abbrev pub back_as : Site → Option Name → Activation → List Conclusion
  back_as s None b = []
  back_as s (Some class) b = back s class b

  -- from the event that is reached, and from the objects that are handed
  abbrev pub any_handed : Activation → Row → List Conclusion
  any_handed b (Handed s) = back_as s (site_class app lists s) b
  any_handed b _ = []

  abbrev pub entry_takes : Site → Name → Row → List Conclusion
  entry_takes s class (Reached n) = back s class n.by
  entry_takes s class _ = []

  module _ (hits : Key → List Row) where
    abbrev pub entry_gives : Activation → List Conclusion
    entry_gives b = flat_map (any_handed b) (hits AnyHanded)

    abbrev pub handed_back_as : Site → Option Name → List Conclusion
    handed_back_as s None = []
    handed_back_as s (Some class) = flat_map (entry_takes s class) (hits EventEntries)

    abbrev pub handed_back : Site → List Conclusion
    handed_back s = handed_back_as s (site_class app lists s)
