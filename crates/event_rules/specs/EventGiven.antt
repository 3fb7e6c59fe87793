-- What a row gives by the rules of events, as a list of conclusions.
use Rattle.std.specs.Prelude.{◌==◌, ◌&&◌, ℕ, Bool, List, [], ◌∷◌, ◌++◌, Option, Some, None, cond, flat_map, length, slice_get}
use Rattle.access_path.specs.declared.path.Path.{Path}
use Rattle.app_machine.specs.declared.component.Component.{Component as ComponentOf}
use Rattle.app_machine.specs.declared.lists.Lists.{Lists}
use Rattle.app_machine.specs.declared.app.App.{App}
use Rattle.app_machine.specs.LifeEvents.{LifeEvent, life_events}
use Rattle.app_machine.specs.Names.{Name}
use Rattle.app_model.specs.EventBodies.{click, component_callback, handed_callback, life_event}
use Rattle.app_model.specs.Initialisers.{component_initialisers}
use Rattle.fact_rows.specs.declared.context.Ctx.{Ctx}
use Rattle.fact_rows.specs.declared.context.Ctx.TheVariants as ctx
use Rattle.fact_rows.specs.declared.context.Activation.{Activation}
use Rattle.fact_rows.specs.declared.site.Site.{Site}
use Rattle.fact_rows.specs.declared.site.Site.TheVariants.{Component}
use Rattle.fact_rows.specs.declared.row.Row.{Row}
use Rattle.fact_rows.specs.declared.row.Row.TheVariants.{Reached, ExitPoints, ExitTaint, Live, CompTaint, Handed, HandedTaint}
use Rattle.flow_rules.specs.Nodes.{entry}
use Rattle.flow_rules.specs.Sites.{site_class}
use Rattle.rule_ground.specs.declared.conclusion.Conclusion.{Conclusion}
use Rattle.rule_ground.specs.declared.content.Content.{Content}
use Rattle.rule_ground.specs.declared.content.Content.TheVariants.{Object, Label}
use Rattle.rule_ground.specs.declared.key.Key.{Key}
use Rattle.rule_ground.specs.declared.key.Key.TheVariants.{EventEntries, ExitPointsOf, ExitTaintsOf}
use Rattle.rule_ground.specs.Asking.{asks}
use Rattle.rule_ground.specs.Below.{for_below}
use Rattle.rule_ground.specs.Given.{of_one, of_two, concludes}
use Rattle.app_rows.specs.Application.{is_application}
use Rattle.begin_rules.specs.declared.parameters.Start.{Start}
use Rattle.begin_rules.specs.BeginGiven.{begins, enters}
use Rattle.event_rules.specs.declared.known.Known.{Known}
use Rattle.event_rules.specs.declared.known.Known.TheVariants.{There, Leads}
use Rattle.event_rules.specs.declared.arrival.Arrival.{Arrival}
use Rattle.event_rules.specs.declared.life.Standing.{Standing}
use Rattle.event_rules.specs.declared.handed.HandedObject.{HandedObject}

-- what is known, as the content of a register that holds the object, of a component in a state, and of a handed object
abbrev pub content_of : Known → Site → Content
content_of There s = Object s
content_of (Leads p l) s = Label p l

abbrev pub live_as : Known → ℕ → ℕ → Row
live_as There c state = Live c state
live_as (Leads p l) c state = CompTaint c state p l

abbrev pub handed_as : Known → Site → Row
handed_as There s = Handed s
handed_as (Leads p l) s = HandedTaint s p l

-- a body that runs, where there is one, and a callback that comes, where there is one
abbrev pub start_of : Arrival → Ctx → ℕ → Start
start_of arrival k body = record { rule = arrival.rule; premises = arrival.premises; ctx = k; body = body }

abbrev pub runs : App → Arrival → Ctx → Option ℕ → List Conclusion
runs app arrival k None = []
runs app arrival k (Some body) = enters app (start_of arrival k body) [] arrival.content

abbrev pub is_called : App → Arrival → Ctx → Option (List (ℕ × ℕ) × ℕ) → List Conclusion
is_called app arrival k None = []
is_called app arrival k (Some found) = enters app (start_of arrival k found.1) found.0 arrival.content

-- 40, 41. The events in a component's life.
abbrev pub life_rule : Known → ℕ
life_rule There = 40
life_rule (Leads p l) = 41

abbrev pub life_arrival : Standing → Arrival
life_arrival standing = record {
  rule = life_rule standing.known;
  premises = of_one (live_as standing.known standing.component standing.state);
  content = content_of standing.known (Component standing.component);
}

abbrev pub leads_to : Known → Standing → ℕ → List Conclusion
leads_to There standing to =
    concludes (life_rule standing.known) (of_one (live_as standing.known standing.component standing.state)) (live_as standing.known standing.component to) ∷ []
leads_to (Leads p l) standing to =
    cond (to == 0) []
    (concludes (life_rule standing.known) (of_one (live_as standing.known standing.component standing.state)) (live_as standing.known standing.component to) ∷ [])

abbrev pub by_life : App → Standing → ℕ → Option (Name × LifeEvent × Option ℕ) → List Conclusion
by_life app standing e None = []
by_life app standing e (Some found) =
    cond (found.1.from == standing.state)
    (leads_to standing.known standing found.1.to ++ runs app (life_arrival standing) (ctx.Row standing.component e) found.2) []

abbrev pub event_gives : App → Standing → ℕ → List Conclusion
event_gives app standing e = by_life app standing e (life_event app standing.component e)

abbrev pub events_in : Option ComponentOf → ℕ
events_in None = 0
events_in (Some component) = length (life_events component.kind)

abbrev pub event_count : App → ℕ → ℕ
event_count app c = events_in (slice_get app.components c)

abbrev pub life_gives : App → Standing → List Conclusion
life_gives app standing = for_below (event_gives app standing) (event_count app standing.component)

-- 42. Callbacks and clicks.
abbrev pub present_arrival : Standing → Arrival
present_arrival standing = record {
  rule = 42;
  premises = of_one (live_as standing.known standing.component standing.state);
  content = content_of standing.known (Component standing.component);
}

abbrev pub callback_gives : App → Lists → Standing → ℕ → List Conclusion
callback_gives app lists standing q =
    is_called app (present_arrival standing) (ctx.Callback standing.component q) (component_callback app lists standing.component q)

abbrev pub callbacks_give : App → Lists → Standing → List Conclusion
callbacks_give app lists standing = for_below (callback_gives app lists standing) (length lists.callbacks)

abbrev pub click_gives : App → Standing → ℕ → List Conclusion
click_gives app standing i = runs app (present_arrival standing) (ctx.Click standing.component i) (click app standing.component i)

abbrev pub clicks_give : App → Standing → List Conclusion
clicks_give app standing = for_below (click_gives app standing) (length app.clicks)

abbrev pub present_gives : App → Lists → Standing → List Conclusion
present_gives app lists standing = callbacks_give app lists standing ++ clicks_give app standing

-- 44. The initialisers of a component that is not there.
abbrev pub initialiser_begins : App → ℕ → ℕ → List Conclusion
initialiser_begins app c body = begins app (record { rule = 44; premises = of_one (Live c 0); ctx = ctx.Init c; body = body }) []

abbrev pub absent_gives : App → ℕ → List Conclusion
absent_gives app c = flat_map (initialiser_begins app c) (component_initialisers app c)

-- 47. The other components, once the application was created.
abbrev pub other_lives : ℕ → ℕ → List Conclusion
other_lives a c = cond (c == a) [] (concludes 47 (of_one (Live a 2)) (Live c 0) ∷ [])

abbrev pub others_live : App → ℕ → List Conclusion
others_live app a = for_below (other_lives a) (length app.components)

abbrev pub created_gives : App → ℕ → List Conclusion
created_gives app a = cond (is_application (slice_get app.components a)) (others_live app a) []

-- a component in a state
abbrev pub standing_of : Known → ℕ → ℕ → Standing
standing_of known c state = record { component = c; state = state; known = known }

abbrev pub live_gives : App → Lists → ℕ → ℕ → List Conclusion
live_gives app lists c state =
    life_gives app (standing_of There c state)
    ++ (cond (state == 0) (absent_gives app c) (present_gives app lists (standing_of There c state)) ++ cond (state == 2) (created_gives app c) [])

abbrev pub comp_taint_gives : App → Lists → Standing → List Conclusion
comp_taint_gives app lists standing = cond (standing.state == 0) [] (life_gives app standing ++ present_gives app lists standing)

-- 43. Callbacks on handed objects.
abbrev pub handed_arrival : HandedObject → Arrival
handed_arrival object = record { rule = 43; premises = of_one (handed_as object.known object.site); content = content_of object.known object.site }

abbrev pub handed_callback_gives : App → Lists → HandedObject → Name → ℕ → List Conclusion
handed_callback_gives app lists object class q = is_called app (handed_arrival object) (ctx.Handed q) (handed_callback app lists q class)

abbrev pub handed_callbacks_give : App → Lists → HandedObject → Name → List Conclusion
handed_callbacks_give app lists object class = for_below (handed_callback_gives app lists object class) (length lists.callbacks)

abbrev pub handed_of_class : App → Lists → HandedObject → Option Name → List Conclusion
handed_of_class app lists object None = []
handed_of_class app lists object (Some class) = handed_callbacks_give app lists object class

abbrev pub handed_on : App → Lists → HandedObject → List Conclusion
handed_on app lists object = handed_of_class app lists object (site_class app lists object.site)

-- 46. What an event returns.
abbrev pub hands_over : Activation → ℕ → Bool
hands_over b how = how == 0 && asks EventEntries (Reached (entry b))

abbrev pub exit_leads : Activation → Site → Path → ℕ → Conclusion
exit_leads b s p l = concludes 46 (of_two (ExitPoints b 0 s) (ExitTaint b 0 p l)) (HandedTaint s p l)

abbrev pub exit_is : Activation → Site → Row → List Conclusion
exit_is b s (ExitTaint c how p l) = exit_leads b s p l ∷ []
exit_is b s _ = []

abbrev pub exit_taints : Activation → Path → ℕ → Row → List Conclusion
exit_taints b p l (ExitPoints c how s) = exit_leads b s p l ∷ []
exit_taints b p l _ = []

abbrev pub exit_points_give : (Key → List Row) → Activation → ℕ → Site → List Conclusion
exit_points_give hits b how s =
    cond (hands_over b how) (concludes 46 (of_one (ExitPoints b 0 s)) (Handed s) ∷ flat_map (exit_is b s) (hits (ExitTaintsOf b 0))) []

abbrev pub exit_taint_gives : (Key → List Row) → Activation → ℕ → Path → ℕ → List Conclusion
exit_taint_gives hits b how p l = cond (hands_over b how) (flat_map (exit_taints b p l) (hits (ExitPointsOf b 0))) []
