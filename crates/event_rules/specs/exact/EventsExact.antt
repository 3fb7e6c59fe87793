-- What the code of events lists is just what their rules give, and rows lead all that they give.
use Rattle.std.proofs.Common.{◌⊎◌, ℕ, List, [], ◌∷◌, refl, sym, subst, inl, inr}
use Rattle.std.specs.List.{AllByRecursion}
use Rattle.vet_base.specs.Members.{In}
use Rattle.vet_base.proofs.Members.{each_in, in_front, in_back}
use Rattle.app_machine.specs.declared.lists.Lists.{Lists}
use Rattle.app_machine.specs.declared.app.App.{App}
use Rattle.app_model.specs.EventLaws.{EventsAreExact}
use Rattle.fact_rows.specs.declared.context.Ctx.TheVariants as ctx
use Rattle.fact_rows.specs.declared.site.Site.TheVariants.{Component}
use Rattle.fact_rows.specs.declared.row.Row.{Row}
use Rattle.fact_rows.specs.declared.row.Row.TheVariants.{Reached, Points, Taint, ExitPoints, ExitTaint, Live, CompTaint, Handed, HandedTaint}
use Rattle.flow_rules.specs.Nodes.{activation_in, entry}
use Rattle.flow_rules.specs.Rules.{Each}
use Rattle.flow_rules.specs.EventRules.{EventRule, life_live, life_begins, life_receiver, life_taint, life_receiver_taint, live_begins, live_receiver, live_receiver_taint, handed_begins, handed_receiver, handed_receiver_taint, initialiser_begins, handed_parameter, handed_parameter_taint, exit_handed, exit_handed_taint, application_live}
use Rattle.rule_ground.specs.Given.{of_one, of_two, of_three}
use Rattle.rule_ground.specs.declared.conclusion.Conclusion.{Conclusion}
use Rattle.rule_ground.specs.declared.key.Key.{Key}
use Rattle.rule_ground.specs.Exact.{IsSound, IsListed, IsJust, IsLed}
use Rattle.rule_ground.specs.Leading.{HasLead, HasLeader, led_by_ones}
use Rattle.rule_ground.specs.Hits.{IsHits}
use Rattle.rule_ground.specs.Listing.{here, only, either}
use Rattle.event_rules.specs.declared.known.Known.TheVariants.{There, Leads}
use Rattle.event_rules.specs.EventGiven.{standing_of, life_gives, present_gives, handed_on}
use Rattle.event_rules.specs.GivenBack.{object_of, handed_back, label_handed}
use Rattle.event_rules.specs.RowGiven.{event_given, event_leads}
use Rattle.event_rules.specs.exact.Sound.{live_sound, comp_taint_sound}
use Rattle.event_rules.specs.exact.SoundBack.{reached_sound, handed_sound, handed_taint_sound, exit_points_sound, exit_taint_sound}
use Rattle.event_rules.specs.exact.Complete.{life_leads, life_leads_label, life_body_begins, life_body_receives, present_begins, present_receives, in_live, in_live_present, in_label, absent_begins, other_begins}
use Rattle.event_rules.specs.exact.CompleteBack.{handed_object_begins, handed_receives, object_from_event, object_from_object, label_from_event, label_from_object, label_from_label, object_returned, label_returned, returned_beside}

module _ (app : App) (lists : Lists) (events : EventsAreExact app lists) (has : Row → Type 0) (hits : Key → List Row)
    (law : (k : Key) → IsHits has k (hits k)) where
  abbrev given : Row → List Conclusion
  given = event_given app lists hits

  events_sound : (row : Row) → has row → AllByRecursion (IsSound (EventRule app lists) has row) (given row)
  events_sound (Live c state) h = live_sound app lists events has c state h
  events_sound (CompTaint c state p l) h = comp_taint_sound app lists events has c state p l h
  events_sound (Handed s) h = handed_sound app lists events has hits law s h
  events_sound (HandedTaint s p l) h = handed_taint_sound app lists events has hits law s p l h
  events_sound (Reached n) h = reached_sound app lists events has hits law n h
  events_sound (ExitPoints b how s) h = exit_points_sound app lists events has hits law b how s h
  events_sound (ExitTaint b how p l) h = exit_taint_sound app lists events has hits law b how p l h
  events_sound _ h = tt

  -- from any of three rows
  any_of : {row a b c : Row} (rule : ℕ) (premises : List Row) (x : Row) → In row (a ∷ b ∷ c ∷ []) → IsListed (given a) rule premises x →
      IsListed (given b) rule premises x → IsListed (given c) rule premises x → IsListed (given row) rule premises x
  any_of rule premises x (inl e) f g h = subst (λ z. IsListed (given z) rule premises x) (sym e) f
  any_of rule premises x (inr i) f g h = either given rule premises x i g h

  events_complete : (row : Row) (rule : ℕ) (premises : List Row) (x : Row) → EventRule app lists rule premises x → Each has premises →
      In row premises → IsListed (given row) rule premises x
  events_complete row rule premises x (life_live {c = c} {e = e} {class = class} {life = life} {body = body} at) k u =
      only given _ _ _ u (here given (Live c life.from) 40 (of_one (Live c life.from)) (Live c life.to)
      (in_live app lists events c life.from _ (life_leads app lists events c e class life body at)))
  events_complete row rule premises x (life_begins {c = c} {e = e} {body = body} {class = class} {life = life} {row = y} at begins) k u =
      only given _ _ _ u (here given (Live c life.from) 40 (of_one (Live c life.from)) y
      (in_live app lists events c life.from _ (life_body_begins app lists events c e class life body at y begins)))
  events_complete row rule premises x (life_receiver {c = c} {e = e} {body = body} {z = z} {class = class} {life = life} at r) k u =
      only given _ _ _ u (here given (Live c life.from) 40 (of_one (Live c life.from)) (Points (entry (activation_in (ctx.Row c e) body)) z (Component c))
      (in_live app lists events c life.from _ (life_body_receives app lists events There c e z class life body at r)))
  events_complete row rule premises x (life_taint {c = c} {e = e} {l = l} {class = class} {life = life} {body = body} {p = p} at some to) k u =
      let standing = standing_of (Leads p l) c life.from in
      only given _ _ _ u (here given (CompTaint c life.from p l) 41 (of_one (CompTaint c life.from p l)) (CompTaint c life.to p l)
      (in_label app lists events c life.from p l some _
      (in_front _ (life_gives app standing) (present_gives app lists standing) (life_leads_label app lists events c e p l class life body at to))))
  events_complete row rule premises x (life_receiver_taint {c = c} {e = e} {body = body} {z = z} {l = l} {class = class} {life = life} {p = p} at some r) k u =
      let standing = standing_of (Leads p l) c life.from in
      only given _ _ _ u (here given (CompTaint c life.from p l) 41 (of_one (CompTaint c life.from p l)) (Taint (entry (activation_in (ctx.Row c e) body)) z p l)
      (in_label app lists events c life.from p l some _
      (in_front _ (life_gives app standing) (present_gives app lists standing) (life_body_receives app lists events (Leads p l) c e z class life body at r))))
  events_complete row rule premises x (live_begins {c = c} {state = state} {body = body} {sources = sources} {k = k} {row = y} comes some begins) known u =
      only given _ _ _ u (here given (Live c state) 42 (of_one (Live c state)) y
      (in_live_present app lists events c state some _ (present_begins app lists events c state k body sources comes y begins)))
  events_complete row rule premises x (live_receiver {c = c} {state = state} {body = body} {z = z} {sources = sources} {k = k} comes some r) known u =
      only given _ _ _ u (here given (Live c state) 42 (of_one (Live c state)) (Points (entry (activation_in k body)) z (Component c))
      (in_live_present app lists events c state some _ (present_receives app lists events There c state z k body sources comes r)))
  events_complete row rule premises x (live_receiver_taint {c = c} {state = state} {body = body} {z = z} {l = l} {sources = sources} {k = k} {p = p} comes some r) known u =
      let standing = standing_of (Leads p l) c state in
      only given _ _ _ u (here given (CompTaint c state p l) 42 (of_one (CompTaint c state p l)) (Taint (entry (activation_in k body)) z p l)
      (in_label app lists events c state p l some _
      (in_back _ (life_gives app standing) (present_gives app lists standing) (present_receives app lists events (Leads p l) c state z k body sources comes r))))
  events_complete row rule premises x (handed_begins {q = q} {body = body} {class = class} {sources = sources} {s = s} {row = y} is at begins) k u =
      only given _ _ _ u (here given (Handed s) 43 (of_one (Handed s)) y
      (in_front _ (handed_on app lists (object_of s There)) (handed_back app lists hits s) (handed_object_begins app lists events s class is q body sources at y begins)))
  events_complete row rule premises x (handed_receiver {q = q} {body = body} {z = z} {class = class} {sources = sources} {s = s} is at r) k u =
      only given _ _ _ u (here given (Handed s) 43 (of_one (Handed s)) (Points (entry (activation_in (ctx.Handed q) body)) z s)
      (in_front _ (handed_on app lists (object_of s There)) (handed_back app lists hits s) (handed_receives app lists events There s class is q body z sources at r)))
  events_complete row rule premises x (handed_receiver_taint {q = q} {body = body} {z = z} {l = l} {class = class} {sources = sources} {s = s} {p = p} is at r) k u =
      let object = object_of s (Leads p l) in
      only given _ _ _ u (here given (HandedTaint s p l) 43 (of_one (HandedTaint s p l)) (Taint (entry (activation_in (ctx.Handed q) body)) z p l)
      (in_front _ (handed_on app lists object) (label_handed app lists hits object) (handed_receives app lists events (Leads p l) s class is q body z sources at r)))
  events_complete row rule premises x (initialiser_begins {c = c} {body = body} {row = y} at begins) k u =
      only given _ _ _ u (here given (Live c 0) 44 (of_one (Live c 0)) y (absent_begins app lists events c body ((events.initialiser c body).0 at) y begins))
  events_complete row rule premises x (handed_parameter {b = b} {i = i} {z = z} {type = type} {class = class} {s = s} event r parameter is below) k u =
      either given _ _ _ u
      (here given (Reached (entry b)) 45 (of_two (Reached (entry b)) (Handed s)) (Points (entry b) z s)
      (object_from_event app lists events has hits law s class b i z type event is r parameter below k.1.0))
      (here given (Handed s) 45 (of_two (Reached (entry b)) (Handed s)) (Points (entry b) z s)
      (object_from_object app lists events has hits law s class b i z type event is r parameter below k.0))
  events_complete row rule premises x (handed_parameter_taint {b = b} {i = i} {z = z} {l = l} {type = type} {class = class} {s = s} {p = p} event r parameter is below) k u =
      any_of _ _ _ u
      (here given (Reached (entry b)) 45 (of_three (Reached (entry b)) (Handed s) (HandedTaint s p l)) (Taint (entry b) z p l)
      (label_from_event app lists events has hits law s class b i z type event is r parameter below p l k.1.0 k.1.1.0))
      (here given (Handed s) 45 (of_three (Reached (entry b)) (Handed s) (HandedTaint s p l)) (Taint (entry b) z p l)
      (label_from_object app lists events has hits law s class b i z type event is r parameter below p l k.0 k.1.1.0))
      (here given (HandedTaint s p l) 45 (of_three (Reached (entry b)) (Handed s) (HandedTaint s p l)) (Taint (entry b) z p l)
      (label_from_label app lists events has hits law s class b i z type event is r parameter below p l k.0 k.1.0))
  events_complete row rule premises x (exit_handed {b = b} {s = s} event) k u =
      only given _ _ _ u (here given (ExitPoints b 0 s) 46 (of_one (ExitPoints b 0 s)) (Handed s)
      (object_returned app lists events has hits law b s event))
  events_complete row rule premises x (exit_handed_taint {b = b} {l = l} {s = s} {p = p} event) k u =
      either given _ _ _ u
      (here given (ExitPoints b 0 s) 46 (of_two (ExitPoints b 0 s) (ExitTaint b 0 p l)) (HandedTaint s p l)
      (label_returned app lists events has hits law b s p l event k.1.0))
      (here given (ExitTaint b 0 p l) 46 (of_two (ExitPoints b 0 s) (ExitTaint b 0 p l)) (HandedTaint s p l)
      (returned_beside app lists events has hits law b s p l event k.0))
  events_complete row rule premises x (application_live {a = a} {c = c} {component = component} is at other) k u =
      only given _ _ _ u (here given (Live a 2) 47 (of_one (Live a 2)) (Live c 0) (other_begins app lists events a c component is at.there other))

  pub events_exact : (row : Row) → has row → IsJust (EventRule app lists) has row (event_given app lists hits row)
  events_exact row there = record {
    sound = λ c i. each_in (IsSound (EventRule app lists) has row) (event_given app lists hits row) c (events_sound row there) i;
    complete = λ rule premises x f. events_complete row rule premises x f.by f.known f.uses;
  }

  -- what rows lead is part of what they give
  led_given : (row : Row) (c : Conclusion) → In c (event_leads app lists hits row) → In c (event_given app lists hits row)
  led_given (Live c state) z i = i
  led_given (CompTaint c state p l) z i = i
  led_given (Handed s) z i = in_front z (handed_on app lists (object_of s There)) (handed_back app lists hits s) i
  led_given (HandedTaint s p l) z i =
      let object = object_of s (Leads p l) in
      in_front z (handed_on app lists object) (label_handed app lists hits object) i
  led_given (Reached n) z i = i
  led_given (ExitPoints b how s) z i = i
  led_given _ z i = absurd i

  leader : (rule : ℕ) (premises : List Row) (x : Row) → EventRule app lists rule premises x → Each has premises →
      HasLeader has (event_given app lists hits) (event_leads app lists hits) premises ⊎ HasLead has (event_leads app lists hits) rule premises x
  leader rule premises x (life_live {c = c} {life = life} at) k = inl (Live c life.from, (k.0, (inl refl, refl)))
  leader rule premises x (life_begins {c = c} {life = life} at begins) k = inl (Live c life.from, (k.0, (inl refl, refl)))
  leader rule premises x (life_receiver {c = c} {life = life} at r) k = inl (Live c life.from, (k.0, (inl refl, refl)))
  leader rule premises x (life_taint {c = c} {l = l} {life = life} {p = p} at some to) k = inl (CompTaint c life.from p l, (k.0, (inl refl, refl)))
  leader rule premises x (life_receiver_taint {c = c} {l = l} {life = life} {p = p} at some r) k = inl (CompTaint c life.from p l, (k.0, (inl refl, refl)))
  leader rule premises x (live_begins {c = c} {state = state} comes some begins) k = inl (Live c state, (k.0, (inl refl, refl)))
  leader rule premises x (live_receiver {c = c} {state = state} comes some r) k = inl (Live c state, (k.0, (inl refl, refl)))
  leader rule premises x (live_receiver_taint {c = c} {state = state} {l = l} {p = p} comes some r) k = inl (CompTaint c state p l, (k.0, (inl refl, refl)))
  leader rule premises x (handed_begins {q = q} {body = body} {class = class} {sources = sources} {s = s} {row = y} is at begins) k =
      inr (Handed s, (k.0, here (event_leads app lists hits) (Handed s) 43 (of_one (Handed s)) y (handed_object_begins app lists events s class is q body sources at y begins)))
  leader rule premises x (handed_receiver {q = q} {body = body} {z = z} {class = class} {sources = sources} {s = s} is at r) k =
      inr (
        Handed s,
        (
          k.0,
          here (event_leads app lists hits) (Handed s) 43 (of_one (Handed s)) (Points (entry (activation_in (ctx.Handed q) body)) z s)
              (handed_receives app lists events There s class is q body z sources at r),
        ),
      )
  leader rule premises x (handed_receiver_taint {q = q} {body = body} {z = z} {l = l} {class = class} {sources = sources} {s = s} {p = p} is at r) k =
      inr (
        HandedTaint s p l,
        (
          k.0,
          here (event_leads app lists hits) (HandedTaint s p l) 43 (of_one (HandedTaint s p l)) (Taint (entry (activation_in (ctx.Handed q) body)) z p l)
              (handed_receives app lists events (Leads p l) s class is q body z sources at r),
        ),
      )
  leader rule premises x (initialiser_begins {c = c} at begins) k = inl (Live c 0, (k.0, (inl refl, refl)))
  leader rule premises x (handed_parameter {b = b} event r parameter is below) k = inl (Reached (entry b), (k.0, (inl refl, refl)))
  leader rule premises x (handed_parameter_taint {b = b} event r parameter is below) k = inl (Reached (entry b), (k.0, (inl refl, refl)))
  leader rule premises x (exit_handed {b = b} {s = s} event) k = inl (ExitPoints b 0 s, (k.0, (inl refl, refl)))
  leader rule premises x (exit_handed_taint {b = b} {s = s} event) k = inl (ExitPoints b 0 s, (k.0, (inl refl, refl)))
  leader rule premises x (application_live {a = a} is at other) k = inl (Live a 2, (k.0, (inl refl, refl)))

  pub events_led : IsLed (EventRule app lists) has (event_leads app lists hits)
  events_led = led_by_ones (EventRule app lists) has (event_given app lists hits) events_exact (event_leads app lists hits) led_given leader
