-- Which handed objects come back to which events, as a list of conclusions.
use Rattle.std.specs.Prelude.{◌≡◌, ◌<◌, ◌&&◌, ◌+◌, ◌-◌, ℕ, Bool, false, List, [], ◌∷◌, ◌++◌, Option, Some, None, cond, flat_map, slice_get}
use Rattle.app_machine.specs.declared.method.Method.{Method}
use Rattle.app_machine.specs.declared.lists.Lists.{Lists}
use Rattle.app_machine.specs.declared.app.App.{App}
use Rattle.app_machine.specs.Events.{layout, parameter_type}
use Rattle.app_machine.specs.Names.{Name, is_reference}
use Rattle.app_model.specs.Above.{is_below}
use Rattle.fact_rows.specs.declared.context.Activation.{Activation}
use Rattle.fact_rows.specs.declared.site.Site.{Site}
use Rattle.fact_rows.specs.declared.row.Row.{Row}
use Rattle.fact_rows.specs.declared.row.Row.TheVariants.{Reached, Handed, HandedTaint}
use Rattle.flow_rules.specs.Nodes.{entry}
use Rattle.flow_rules.specs.Sites.{site_class}
use Rattle.rule_ground.specs.declared.conclusion.Premises.{Premises}
use Rattle.rule_ground.specs.declared.conclusion.Conclusion.{Conclusion}
use Rattle.rule_ground.specs.declared.key.Key.{Key}
use Rattle.rule_ground.specs.declared.key.Key.TheVariants.{AnyHanded, EventEntries, HandedOf, HandedTaintsOf}
use Rattle.rule_ground.specs.Below.{for_below}
use Rattle.rule_ground.specs.Given.{of_two, of_three, concludes, held}
use Rattle.event_rules.specs.declared.known.Known.{Known}
use Rattle.event_rules.specs.declared.known.Known.TheVariants.{There, Leads}
use Rattle.event_rules.specs.declared.handed.HandedObject.{HandedObject}
use Rattle.event_rules.specs.EventGiven.{content_of}

-- the type of the position of an argument register
abbrev pub type_of_position : List Name → Option ℕ → Option Name
type_of_position params None = None
type_of_position params (Some i) = parameter_type params i

abbrev pub type_at : List Name → ℕ → Option Name
type_at params index = type_of_position params (slice_get (layout params) index)

-- a parameter of the type may be an object of the class
abbrev pub takes : App → Lists → Name → Option Name → Bool
takes app lists class None = false
takes app lists class (Some type) = is_reference type && is_below app lists class type

-- no parameter of the method may be an object of the class
pub record TakesNone (app : App) (lists : Lists) (class : Name) (method : ℕ) : Type 0 where
  pub at : (m : Method) → slice_get app.methods method ≡ Some m → (index : ℕ) → index < m.ins → takes app lists class (type_at m.at.proto.params index) ≡ false

abbrev pub premises_as : Known → Activation → Site → Premises
premises_as There b s = of_two (Reached (entry b)) (Handed s)
premises_as (Leads p l) b s = of_three (Reached (entry b)) (Handed s) (HandedTaint s p l)

abbrev pub back_premises : HandedObject → Activation → Premises
back_premises object b = premises_as object.known b object.site

abbrev pub back_register : HandedObject → Activation → ℕ → Conclusion
back_register object b z = concludes 45 (back_premises object b) (held (content_of object.known object.site) (entry b) z)

abbrev pub back_index : App → Lists → HandedObject → Name → Activation → Method → ℕ → List Conclusion
back_index app lists object class b m index =
    cond (takes app lists class (type_at m.at.proto.params index)) (back_register object b ((m.registers - m.ins) + index) ∷ []) []

abbrev pub back_in : App → Lists → HandedObject → Name → Activation → Option Method → List Conclusion
back_in app lists object class b None = []
back_in app lists object class b (Some m) = cond m.is_native [] (for_below (back_index app lists object class b m) m.ins)

-- what is known of a handed object of the class comes back to the activation
abbrev pub back : App → Lists → HandedObject → Name → Activation → List Conclusion
back app lists object class b = back_in app lists object class b (slice_get app.methods b.method)

abbrev pub object_of : Site → Known → HandedObject
object_of s known = record { site = s; known = known }

module _ (app : App) (lists : Lists) where
  -- with each label of the objects
  abbrev pub label_back : Site → Name → Activation → Row → List Conclusion
  label_back s class b (HandedTaint t p l) = back app lists (object_of s (Leads p l)) class b
  label_back s class b _ = []

  abbrev pub label_takes : HandedObject → Name → Row → List Conclusion
  label_takes object class (Reached n) = back app lists object class n.by
  label_takes object class _ = []

  module _ (hits : Key → List Row) where
    abbrev pub pair_gives : Site → Name → Activation → List Conclusion
    pair_gives s class b = back app lists (object_of s There) class b ++ flat_map (label_back s class b) (hits (HandedTaintsOf s))

    -- from the event that is reached
    abbrev pub pair_of_class : Site → Option Name → Activation → List Conclusion
    pair_of_class s None b = []
    pair_of_class s (Some class) b = pair_gives s class b

    abbrev pub any_handed : Activation → Row → List Conclusion
    any_handed b (Handed s) = pair_of_class s (site_class app lists s) b
    any_handed b _ = []

    abbrev pub entry_gives : Activation → List Conclusion
    entry_gives b = flat_map (any_handed b) (hits AnyHanded)

    -- from the object that is handed
    abbrev pub entry_takes : Site → Name → Row → List Conclusion
    entry_takes s class (Reached n) = pair_gives s class n.by
    entry_takes s class _ = []

    abbrev pub handed_back_as : Site → Option Name → List Conclusion
    handed_back_as s None = []
    handed_back_as s (Some class) = flat_map (entry_takes s class) (hits EventEntries)

    abbrev pub handed_back : Site → List Conclusion
    handed_back s = handed_back_as s (site_class app lists s)

    -- from a label to which it leads
    abbrev pub is_handed : HandedObject → Name → Row → List Conclusion
    is_handed object class (Handed t) = flat_map (label_takes object class) (hits EventEntries)
    is_handed object class _ = []

    abbrev pub label_handed_as : HandedObject → Option Name → List Conclusion
    label_handed_as object None = []
    label_handed_as object (Some class) = flat_map (is_handed object class) (hits (HandedOf object.site))

    abbrev pub label_handed : HandedObject → List Conclusion
    label_handed object = label_handed_as object (site_class app lists object.site)
