-- What the code of events lists is just what their rules of the second set give, and rows lead all that they give.
use Rattle.std.proofs.Common.{◌⊎◌, ℕ, List, [], refl, inl, inr}
use Rattle.std.specs.List.{AllByRecursion}
use Rattle.vet_base.specs.Members.{In}
use Rattle.vet_base.proofs.Members.{each_in, in_front}
use Rattle.app_machine.specs.declared.lists.Lists.{Lists}
use Rattle.app_machine.specs.declared.app.App.{App}
use Rattle.fact_rows.specs.declared.context.Ctx.TheVariants as ctx
use Rattle.fact_rows.specs.declared.site.Site.TheVariants.{Component}
use Rattle.fact_rows.specs.declared.row.Row.{Row}
use Rattle.fact_rows.specs.declared.row.Row.TheVariants.{Reached, Points, Live, Handed}
use Rattle.flow_rules.specs.Nodes.{activation_in, entry}
use Rattle.flow_rules.specs.Rules.{Each}
use Rattle.rule_ground.specs.declared.conclusion.Conclusion.{Conclusion}
use Rattle.rule_ground.specs.declared.key.Key.{Key}
use Rattle.rule_ground.specs.Exact.{IsSound, IsListed, IsJust, IsLed}
use Rattle.rule_ground.specs.Given.{of_one, of_two}
use Rattle.rule_ground.specs.Hits.{IsHits}
use Rattle.rule_ground.specs.Leading.{HasLead, HasLeader, led_by_ones}
use Rattle.rule_ground.specs.Listing.{here, only, either}
use Rattle.register_readers.specs.Readings.{Readings}
use Rattle.cell_rules.specs.EventRules.{EventRule, life_begins, life_receiver, live_begins, live_receiver, handed_begins, handed_receiver, handed_parameter}
use Rattle.cell_rules.specs.Reading.{node_in}
use Rattle.cell_ground.specs.declared.content.Content.TheVariants.{Object}
use Rattle.cell_begin_rules.specs.exact.CellBeginExact.{is_begun, is_received}
use Rattle.cell_event_rules.specs.declared.receiver.Receiver.TheVariants as receiver
use Rattle.cell_event_rules.specs.Receivers.{life_arrival, callback_arrival, start_of}
use Rattle.cell_event_rules.specs.CellEventGiven.{handed_on}
use Rattle.cell_event_rules.specs.CellGivenBack.{handed_back}
use Rattle.cell_event_rules.specs.CellRowGiven.{CellEventsReady, cell_event_given, cell_event_leads}
use Rattle.cell_event_rules.specs.exact.Sound.{live_sound, reached_sound, handed_sound}
use Rattle.cell_event_rules.specs.exact.Complete.{present_arrival, in_life, in_live, in_handed, from_event, from_object}

module _ (app : App) (readings : Readings) (lists : Lists) (all : CellEventsReady app readings lists) (has : Row → Type 0) (hits : Key → List Row)
    (law : (k : Key) → IsHits has k (hits k)) where
  abbrev given : Row → List Conclusion
  given row = cell_event_given app readings lists hits row

  abbrev led : Row → List Conclusion
  led row = cell_event_leads app readings lists hits row

  events_sound : (row : Row) → has row → AllByRecursion (IsSound (EventRule app lists) has row) (given row)
  events_sound (Live c state) h = live_sound app readings lists all.ready all.events.events has c state h
  events_sound (Handed s) h = handed_sound app readings lists all.ready all.events.events has hits law s h
  events_sound (Reached n) h = reached_sound app readings lists all.ready all.events.events has hits law n h
  events_sound _ h = tt

  events_complete : (row : Row) (rule : ℕ) (premises : List Row) (x : Row) → EventRule app lists rule premises x → Each has premises →
      In row premises → IsListed (given row) rule premises x
  events_complete row rule premises x (life_begins {c = c} {e = e} {body = body} {class = class} {life = life} {row = y} at begins) k i =
      let arrival = life_arrival c life.from e in
      only given _ _ _ i (here given (Live c life.from) 40 (of_one (Live c life.from)) y
      (in_life app readings lists all.events.events c e class life _ at _
      (is_begun app readings all.ready (start_of arrival body) [] (Object (Component c)) y begins)))
  events_complete row rule premises x (life_receiver {c = c} {e = e} {body = body} {z = z} {u = u} {class = class} {life = life} at g read) k i =
      let arrival = life_arrival c life.from e in
      only given _ _ _ i (here given (Live c life.from) 40 (of_one (Live c life.from)) (Points (node_in (activation_in (ctx.Row c e) body) u) z (Component c))
      (in_life app readings lists all.events.events c e class life _ at _
      (is_received app readings all.ready (start_of arrival body) [] (Object (Component c)) z u g read)))
  events_complete row rule premises x (live_begins {c = c} {state = state} {body = body} {sources = sources} {k = k} {row = y} comes some begins) known i =
      only given _ _ _ i (here given (Live c state) 42 (of_one (Live c state)) y
      (in_live app readings lists all.events.events c state k body sources comes some _
      (is_begun app readings all.ready (start_of (present_arrival c state k) body) sources (Object (Component c)) y begins)))
  events_complete row rule premises x (live_receiver {c = c} {state = state} {body = body} {z = z} {u = u} {sources = sources} {k = k} comes some g read) known i =
      only given _ _ _ i (here given (Live c state) 42 (of_one (Live c state)) (Points (node_in (activation_in k body) u) z (Component c))
      (in_live app readings lists all.events.events c state k body sources comes some _
      (is_received app readings all.ready (start_of (present_arrival c state k) body) sources (Object (Component c)) z u g read)))
  events_complete row rule premises x (handed_begins {q = q} {body = body} {class = class} {sources = sources} {s = s} {row = y} is at begins) k i =
      only given _ _ _ i (here given (Handed s) 43 (of_one (Handed s)) y
      (in_front _ (handed_on app readings lists s) (handed_back app readings lists hits s)
      (in_handed app readings lists all.events.events s class is q body sources at _
      (is_begun app readings all.ready (start_of (callback_arrival (receiver.Handed s) q) body) sources (Object s) y begins))))
  events_complete row rule premises x (handed_receiver {q = q} {body = body} {z = z} {u = u} {class = class} {sources = sources} {s = s} is at g read) k i =
      only given _ _ _ i (here given (Handed s) 43 (of_one (Handed s)) (Points (node_in (activation_in (ctx.Handed q) body) u) z s)
      (in_front _ (handed_on app readings lists s) (handed_back app readings lists hits s)
      (in_handed app readings lists all.events.events s class is q body sources at _
      (is_received app readings all.ready (start_of (callback_arrival (receiver.Handed s) q) body) sources (Object s) z u g read))))
  events_complete row rule premises x (handed_parameter {b = b} {i = j} {z = z} {u = u} {type = type} {class = class} {s = s} event r parameter is below read) k i =
      let y = Points (node_in b u) z s in
      let both = of_two (Reached (entry b)) (Handed s) in
      either given _ _ _ i
      (here given (Reached (entry b)) 45 both y
      (from_event app readings lists all.events.events all.ready s class b j z u type event is r parameter below read has hits law k.1.0))
      (here given (Handed s) 45 both y
      (from_object app readings lists all.events.events all.ready s class b j z u type event is r parameter below read has hits law k.0))

  pub cell_events_exact : (row : Row) → has row → IsJust (EventRule app lists) has row (cell_event_given app readings lists hits row)
  cell_events_exact row there = record {
    sound = λ c i. each_in (IsSound (EventRule app lists) has row) (given row) c (events_sound row there) i;
    complete = λ rule premises x f. events_complete row rule premises x f.by f.known f.uses;
  }

  -- what rows lead is part of what they give
  led_given : (row : Row) (c : Conclusion) → In c (led row) → In c (given row)
  led_given (Live c state) z i = i
  led_given (Handed s) z i = in_front z (handed_on app readings lists s) (handed_back app readings lists hits s) i
  led_given (Reached n) z i = i
  led_given _ z i = absurd i

  leader : (rule : ℕ) (premises : List Row) (x : Row) → EventRule app lists rule premises x → Each has premises →
      HasLeader has given led premises ⊎ HasLead has led rule premises x
  leader rule premises x (life_begins {c = c} {life = life} at begins) k = inl (Live c life.from, (k.0, (inl refl, refl)))
  leader rule premises x (life_receiver {c = c} {life = life} at g read) k = inl (Live c life.from, (k.0, (inl refl, refl)))
  leader rule premises x (live_begins {c = c} {state = state} comes some begins) k = inl (Live c state, (k.0, (inl refl, refl)))
  leader rule premises x (live_receiver {c = c} {state = state} comes some g read) k = inl (Live c state, (k.0, (inl refl, refl)))
  leader rule premises x (handed_begins {q = q} {body = body} {class = class} {sources = sources} {s = s} {row = y} is at begins) k =
      inr (
        Handed s,
        (
          k.0,
          here led (Handed s) 43 (of_one (Handed s)) y (in_handed app readings lists all.events.events s class is q body sources at _
              (is_begun app readings all.ready (start_of (callback_arrival (receiver.Handed s) q) body) sources (Object s) y begins)),
        ),
      )
  leader rule premises x (handed_receiver {q = q} {body = body} {z = z} {u = u} {class = class} {sources = sources} {s = s} is at g read) k =
      inr (
        Handed s,
        (
          k.0,
          here led (Handed s) 43 (of_one (Handed s)) (Points (node_in (activation_in (ctx.Handed q) body) u) z s)
              (in_handed app readings lists all.events.events s class is q body sources at _
              (is_received app readings all.ready (start_of (callback_arrival (receiver.Handed s) q) body) sources (Object s) z u g read)),
        ),
      )
  leader rule premises x (handed_parameter {b = b} event r parameter is below read) k = inl (Reached (entry b), (k.0, (inl refl, refl)))

  pub cell_events_led : IsLed (EventRule app lists) has (cell_event_leads app readings lists hits)
  cell_events_led = led_by_ones (EventRule app lists) has given cell_events_exact led led_given leader
