-- What the code of the calls lists is just what their rules give, and rows lead all that they give.
use Rattle.std.proofs.Common.{◌≡◌, ◌⊎◌, ◌++◌, ℕ, List, [], ◌∷◌, Option, Some, None, refl, sym, subst, inl, inr}
use Rattle.std.specs.List.{AllByRecursion}
use Rattle.vet_base.proofs.Every.{each_append}
use Rattle.vet_base.specs.Members.{In}
use Rattle.vet_base.proofs.Members.{each_in, in_front}
use Rattle.app_machine.specs.declared.method.Step.{Step}
use Rattle.app_machine.specs.declared.lists.Lists.{Lists}
use Rattle.app_machine.specs.declared.app.App.{App}
use Rattle.app_machine.specs.Lookups.{initialisers}
use Rattle.fact_rows.specs.declared.context.Activation.{Activation}
use Rattle.fact_rows.specs.declared.context.Node.{Node}
use Rattle.fact_rows.specs.declared.site.Site.{Site}
use Rattle.fact_rows.specs.declared.row.Row.{Row}
use Rattle.fact_rows.specs.declared.row.Row.TheVariants.{Reached, Points, Taint, Calls, CalledBy, MethodEffect, ExitPoints, ExitTaint}
use Rattle.flow_rules.specs.LocalRules.{returning, throwing}
use Rattle.flow_rules.specs.Nodes.{entry, callee}
use Rattle.flow_rules.specs.Rules.{Each}
use Rattle.flow_rules.specs.CallRules.{CallRule, enter_direct, enter_class, enter_receiver, pass_points, pass_taint, returned_points, returned_taint, caught_points, caught_taint, unwound_points, unwound_taint, use_by_name, use_by_class, enter_initialiser, initialiser_taint}
use Rattle.rule_ground.specs.declared.conclusion.Conclusion.{Conclusion}
use Rattle.rule_ground.specs.declared.content.Content.{Content}
use Rattle.rule_ground.specs.declared.content.Content.TheVariants.{Object, Label}
use Rattle.rule_ground.specs.declared.key.Key.{Key}
use Rattle.rule_ground.specs.Given.{of_one, concludes, held}
use Rattle.rule_ground.specs.Hits.{IsHits}
use Rattle.rule_ground.specs.Exact.{IsSound, IsJust, IsLed}
use Rattle.rule_ground.specs.Leading.{HasLead, HasLeader, led_by_ones}
use Rattle.rule_ground.specs.Listing.{here}
use Rattle.call_targets.specs.exact.EnterComplete.{class_complete, receiver_complete, use_complete}
use Rattle.call_targets.specs.EnterGiven.{step_here, received}
use Rattle.call_targets.specs.exact.EnterSound.{reached_sound, received_sound}
use Rattle.call_rules.specs.PassGiven.{content_passed}
use Rattle.call_rules.specs.exact.PassExact.{calls_sound, content_sound}
use Rattle.call_rules.specs.ExitGiven.{exits_taken}
use Rattle.call_rules.specs.exact.ExitExact.{exit_sound, exits_sound}
use Rattle.call_rules.specs.InitGiven.{effects_come, bodies_taint}
use Rattle.call_rules.specs.exact.InitExact.{effect_sound, effects_sound, bodies_sound}
use Rattle.call_rules.specs.CallGiven.{points_on, received_on, content_on, called_by, call_given, call_leads}
use Rattle.call_rules.specs.exact.Complete.{calls_complete}

module _ (app : App) (lists : Lists) (has : Row → Type 0) (hits : Key → List Row) (law : (k : Key) → IsHits has k (hits k)) where
  abbrev Sound : Row → Conclusion → Type 0
  Sound row = IsSound (CallRule app lists) has row

  points_sound : (n : Node) (x : ℕ) (s : Site) → has (Points n x s) → (o : Option Step) → step_here app n ≡ o →
      AllByRecursion (Sound (Points n x s)) (points_on app lists hits n x s o)
  points_sound n x s h None e = tt
  points_sound n x s h (Some step) e =
      let P = Sound (Points n x s) in
      let by_class = received app lists n x s step.act in
      let passed = content_passed app hits n x (Object s) step.act in
      let affected = bodies_taint hits n x s (initialisers app step.act) in
      each_append P by_class (passed ++ affected) (received_sound app lists has n step e x s h step.act refl)
      (each_append P passed affected (content_sound app lists has hits law n step e (Object s) x h step.act refl)
      (bodies_sound app lists has hits law n x s h step e))

  held_sound : (v : Content) (n : Node) (x : ℕ) → has (held v n x) → (o : Option Step) → step_here app n ≡ o →
      AllByRecursion (Sound (held v n x)) (content_on app hits n x v o)
  held_sound v n x h None e = tt
  held_sound v n x h (Some step) e = content_sound app lists has hits law n step e v x h step.act refl

  called_sound : (b : Activation) (n : Node) → has (CalledBy b n) → AllByRecursion (Sound (CalledBy b n)) (called_by app hits b n)
  called_sound b n h =
      let P = Sound (CalledBy b n) in
      let returned = exits_taken app hits b n returning in
      let thrown = exits_taken app hits b n throwing in
      let affected = effects_come app hits b n in
      each_append P returned (thrown ++ affected) (exits_sound app lists has hits law b n returning h)
      (each_append P thrown affected (exits_sound app lists has hits law b n throwing h) (effects_sound app lists has hits law b n h))

  call_sound : (row : Row) → has row → AllByRecursion (Sound row) (call_given app lists hits row)
  call_sound (Reached n) h = reached_sound app lists has n h (step_here app n) refl
  call_sound (Points n x s) h = points_sound n x s h (step_here app n) refl
  call_sound (Taint n x p l) h = held_sound (Label p l) n x h (step_here app n) refl
  call_sound (Calls n b) h = calls_sound app lists has hits law n b h (step_here app n) refl
  call_sound (CalledBy b n) h = called_sound b n h
  call_sound (MethodEffect b s p l) h = effect_sound app lists has hits law b s p l h
  call_sound (ExitPoints b how s) h = exit_sound app lists has hits law (Object s) b how h
  call_sound (ExitTaint b how p l) h = exit_sound app lists has hits law (Label p l) b how h
  call_sound _ h = tt

  pub calls_exact : (row : Row) → has row → IsJust (CallRule app lists) has row (call_given app lists hits row)
  calls_exact row there = record {
    sound = λ c i.
        each_in (IsSound (CallRule app lists) has row) (call_given app lists hits row) c (call_sound row there) i;
    complete = λ rule premises x f. calls_complete app lists has hits law row rule premises x f.by f.known f.uses;
  }

  -- what rows lead is part of what they give
  received_given : (n : Node) (x : ℕ) (s : Site) (o : Option Step) (c : Conclusion) → In c (received_on app lists n x s o) → In c (points_on app lists hits n x s o)
  received_given n x s None c i = absurd i
  received_given n x s (Some step) c i =
      in_front c (received app lists n x s step.act) (content_passed app hits n x (Object s) step.act ++ bodies_taint hits n x s (initialisers app step.act)) i

  led_given : (row : Row) (c : Conclusion) → In c (call_leads app lists hits row) → In c (call_given app lists hits row)
  led_given (Reached n) c i = i
  led_given (Points n x s) c i = received_given n x s (step_here app n) c i
  led_given (Calls n b) c i = i
  led_given (MethodEffect b s p l) c i = i
  led_given (ExitPoints b how s) c i = i
  led_given (ExitTaint b how p l) c i = i
  led_given _ c i = absurd i

  -- a receiver leads what its class says
  receiver_leads : (n : Node) (y : ℕ) (s : Site) (step : Step) → step_here app n ≡ Some step → has (Points n y s) → (rule : ℕ) (x : Row) →
      In (concludes rule (of_one (Points n y s)) x) (received app lists n y s step.act) → HasLead has (call_leads app lists hits) rule (Points n y s ∷ []) x
  receiver_leads n y s step there known rule x i = (
    Points n y s,
    (
      known,
      here (call_leads app lists hits) (Points n y s) rule (of_one (Points n y s)) x
          (subst (λ o. In (concludes rule (of_one (Points n y s)) x) (received_on app lists n y s o)) (sym there) i),
    ),
  )

  leader : (rule : ℕ) (premises : List Row) (x : Row) → CallRule app lists rule premises x → Each has premises →
      HasLeader has (call_given app lists hits) (call_leads app lists hits) premises ⊎ HasLead has (call_leads app lists hits) rule premises x
  leader rule premises x (enter_direct {n = n} h f to enter) k = inl (Reached n, (k.0, (inl refl, refl)))
  leader rule premises x (enter_class {n = n} {kind = kind} {at = at} {args = args} {x = y} {body = body} {s = s} {class = class} h f first is to enter) k =
      inr (receiver_leads n y s h.step h.there k.0 23 x (class_complete app lists n kind at args h y s class f first is body x to enter))
  leader rule premises x (enter_receiver {n = n} {kind = kind} {at = at} {args = args} {x = y} {z = z} {body = body} {s = s} {class = class} h f first is to takes) k =
      inr (receiver_leads n y s h.step h.there k.0 23 (Points (entry (callee n body)) z s) (receiver_complete app lists n kind at args h y s class f first is body z to takes))
  leader rule premises x (pass_points {n = n} i {b = b} h place may none takes) k = inl (Calls n b, (k.0, (inl refl, refl)))
  leader rule premises x (pass_taint {n = n} i {b = b} h place none takes) k = inl (Calls n b, (k.0, (inl refl, refl)))
  leader rule premises x (returned_points {b = b} {s = s} g) k = inl (ExitPoints b returning s, (k.0, (inl refl, refl)))
  leader rule premises x (returned_taint {l = l} {b = b} {p = p} g) k = inl (ExitTaint b returning p l, (k.0, (inl refl, refl)))
  leader rule premises x (caught_points {b = b} {s = s} g) k = inl (ExitPoints b throwing s, (k.0, (inl refl, refl)))
  leader rule premises x (caught_taint {l = l} {b = b} {p = p} g) k = inl (ExitTaint b throwing p l, (k.0, (inl refl, refl)))
  leader rule premises x (unwound_points {b = b} {s = s}) k = inl (ExitPoints b throwing s, (k.0, (inl refl, refl)))
  leader rule premises x (unwound_taint {l = l} {b = b} {p = p}) k = inl (ExitTaint b throwing p l, (k.0, (inl refl, refl)))
  leader rule premises x (use_by_name {n = n} h to look) k = inl (Reached n, (k.0, (inl refl, refl)))
  leader rule premises x (use_by_class {n = n} {kind = kind} {at = at} {args = args} {x = y} {s = s} {class = class} {above = above} h f first is to look) k =
      inr (receiver_leads n y s h.step h.there k.0 27 x (use_complete app lists n kind at args h y s class f first is above x to look))
  leader rule premises x (enter_initialiser {n = n} h enter) k = inl (Reached n, (k.0, (inl refl, refl)))
  leader rule premises x (initialiser_taint {l = l} {b = b} {s = s} {p = p} by) k = inl (MethodEffect b s p l, (k.0, (inl refl, refl)))

  pub calls_led : IsLed (CallRule app lists) has (call_leads app lists hits)
  calls_led = led_by_ones (CallRule app lists) has (call_given app lists hits) calls_exact (call_leads app lists hits) led_given leader
