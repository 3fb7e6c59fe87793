-- What each row gives by the rules of events, and what the code needs of app and lists.
use Rattle.std.specs.Prelude.{List, [], ◌++◌, cond}
use Rattle.app_machine.specs.declared.lists.Lists.{Lists}
use Rattle.app_machine.specs.declared.app.App.{App}
use Rattle.app_machine.specs.Sound.{SoundApp}
use Rattle.app_machine.specs.SoundLists.{SoundLists}
use Rattle.app_model.specs.EventLaws.{EventsAreExact}
use Rattle.fact_rows.specs.declared.context.Node.{Node}
use Rattle.fact_rows.specs.declared.row.Row.{Row}
use Rattle.fact_rows.specs.declared.row.Row.TheVariants.{Reached, ExitPoints, ExitTaint, Live, CompTaint, Handed, HandedTaint}
use Rattle.rule_ground.specs.declared.conclusion.Conclusion.{Conclusion}
use Rattle.rule_ground.specs.declared.key.Key.{Key}
use Rattle.rule_ground.specs.declared.key.Key.TheVariants.{EventEntries}
use Rattle.rule_ground.specs.Asking.{asks}
use Rattle.event_rules.specs.declared.known.Known.TheVariants.{There, Leads}
use Rattle.event_rules.specs.EventGiven.{standing_of, live_gives, comp_taint_gives, handed_on, exit_points_give, exit_taint_gives}
use Rattle.event_rules.specs.GivenBack.{object_of, entry_gives, handed_back, label_handed}

abbrev pub reached_gives : App → Lists → (Key → List Row) → Node → List Conclusion
reached_gives app lists hits n = cond (asks EventEntries (Reached n)) (entry_gives app lists hits n.by) []

abbrev pub event_given : App → Lists → (Key → List Row) → Row → List Conclusion
event_given app lists hits (Live c state) = live_gives app lists c state
event_given app lists hits (CompTaint c state p l) = comp_taint_gives app lists (standing_of (Leads p l) c state)
event_given app lists hits (Handed s) = handed_on app lists (object_of s There) ++ handed_back app lists hits s
event_given app lists hits (HandedTaint s p l) = handed_on app lists (object_of s (Leads p l)) ++ label_handed app lists hits (object_of s (Leads p l))
event_given app lists hits (Reached n) = reached_gives app lists hits n
event_given app lists hits (ExitPoints b how s) = exit_points_give hits b how s
event_given app lists hits (ExitTaint b how p l) = exit_taint_gives hits b how p l
event_given app lists hits _ = []

-- 43 alone is led by the handed object and by its label, 45 by the event that is reached, 46 by the object that it returns
abbrev pub event_leads : App → Lists → (Key → List Row) → Row → List Conclusion
event_leads app lists hits (Live c state) = event_given app lists hits (Live c state)
event_leads app lists hits (CompTaint c state p l) = event_given app lists hits (CompTaint c state p l)
event_leads app lists hits (Handed s) = handed_on app lists (object_of s There)
event_leads app lists hits (HandedTaint s p l) = handed_on app lists (object_of s (Leads p l))
event_leads app lists hits (Reached n) = event_given app lists hits (Reached n)
event_leads app lists hits (ExitPoints b how s) = event_given app lists hits (ExitPoints b how s)
event_leads app lists hits _ = []

-- app and lists are sound, and their events by number are those of the machine
pub record EventsReady (app : App) (lists : Lists) : Type 0 where
  pub sound_app : SoundApp app
  pub sound_lists : SoundLists lists
  pub events : EventsAreExact app lists
