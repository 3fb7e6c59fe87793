-- What follows is listed.
use Rattle.std.proofs.Common.{◌≡◌, ℕ, List, [], ◌∷◌, ◌++◌, Some, flat_map, refl, sym, subst, inl, inr}
use Rattle.vet_base.specs.Members.{In}
use Rattle.vet_base.proofs.Members.{in_front, in_back}
use Rattle.app_machine.specs.declared.method.Step.{Step}
use Rattle.app_machine.specs.declared.lists.Lists.{Lists}
use Rattle.app_machine.specs.declared.app.App.{App}
use Rattle.app_machine.specs.Lookups.{initialisers, is_by_receiver}
use Rattle.app_machine.specs.State.{result_register, exception_register}
use Rattle.fact_rows.specs.declared.context.Activation.{Activation}
use Rattle.fact_rows.specs.declared.context.Node.{Node}
use Rattle.fact_rows.specs.declared.site.Site.{Site}
use Rattle.fact_rows.specs.declared.row.Row.{Row}
use Rattle.fact_rows.specs.declared.row.Row.TheVariants.{Reached, Points, Taint, Calls, CalledBy, MethodEffect, ExitPoints, ExitTaint}
use Rattle.flow_rules.specs.LocalRules.{returning, throwing}
use Rattle.flow_rules.specs.Nodes.{at_pc, entry, callee}
use Rattle.flow_rules.specs.Rules.{Each}
use Rattle.flow_rules.specs.CallRules.{CallRule, enter_direct, enter_class, enter_receiver, pass_points, pass_taint, returned_points, returned_taint, caught_points, caught_taint, unwound_points, unwound_taint, use_by_name, use_by_class, enter_initialiser, initialiser_taint}
use Rattle.rule_ground.specs.declared.conclusion.Conclusion.{Conclusion}
use Rattle.rule_ground.specs.declared.content.Content.{Content}
use Rattle.rule_ground.specs.declared.content.Content.TheVariants.{Object, Label}
use Rattle.rule_ground.specs.declared.key.Key.{Key}
use Rattle.rule_ground.specs.declared.key.Key.TheVariants.{CallersOf}
use Rattle.rule_ground.specs.Given.{of_one, of_two, of_three, concludes, leaves}
use Rattle.rule_ground.specs.Hits.{IsHits}
use Rattle.rule_ground.specs.Exact.{IsListed}
use Rattle.rule_ground.specs.Listing.{here, only, either}
use Rattle.call_targets.specs.EnterGiven.{step_here, reached_on, received}
use Rattle.call_targets.specs.exact.EnterComplete.{direct_complete, name_complete, class_complete, receiver_complete, use_complete, initialiser_complete}
use Rattle.call_rules.specs.PassGiven.{content_passed}
use Rattle.call_rules.specs.exact.PassExact.{call_complete, content_complete}
use Rattle.call_rules.specs.ExitGiven.{left, caller_takes, exits_taken}
use Rattle.call_rules.specs.exact.ExitExact.{returned_in, caught_in, exit_complete, taken_complete}
use Rattle.call_rules.specs.InitGiven.{tainted, effects_come, bodies_taint}
use Rattle.call_rules.specs.exact.InitExact.{effect_complete, effects_complete, bodies_complete}
use Rattle.call_rules.specs.Initialised.{passes}
use Rattle.call_rules.specs.CallGiven.{points_on, content_on, call_given}

module _ (app : App) (lists : Lists) (has : Row → Type 0) (hits : Key → List Row) (law : (k : Key) → IsHits has k (hits k)) where
  abbrev given : Row → List Conclusion
  given row = call_given app lists hits row

  -- one of three rows
  any : {row a b d : Row} (rule : ℕ) (premises : List Row) (x : Row) → In row (a ∷ b ∷ d ∷ []) → IsListed (given a) rule premises x →
      IsListed (given b) rule premises x → IsListed (given d) rule premises x → IsListed (given row) rule premises x
  any rule premises x (inl e) h k l = subst (λ z. IsListed (given z) rule premises x) (sym e) h
  any rule premises x (inr (inl e)) h k l = subst (λ z. IsListed (given z) rule premises x) (sym e) k
  any rule premises x (inr (inr (inl e))) h k l = subst (λ z. IsListed (given z) rule premises x) (sym e) l
  any rule premises x (inr (inr (inr none))) h k l = absurd none

  -- the parts of what a register's object gives
  module _ (n : Node) (y : ℕ) (s : Site) (step : Step) (there : step_here app n ≡ Some step) (c : Conclusion) where
    abbrev by_class : List Conclusion
    by_class = received app lists n y s step.act

    abbrev passed_on : List Conclusion
    passed_on = content_passed app hits n y (Object s) step.act

    abbrev affected : List Conclusion
    affected = bodies_taint hits n y s (initialisers app step.act)

    at_step : In c (by_class ++ (passed_on ++ affected)) → In c (given (Points n y s))
    at_step i = subst (λ o. In c (points_on app lists hits n y s o)) (sym there) i

    part_received : In c by_class → In c (given (Points n y s))
    part_received i = at_step (in_front c by_class (passed_on ++ affected) i)

    part_passed : In c passed_on → In c (given (Points n y s))
    part_passed i = at_step (in_back c by_class (passed_on ++ affected) (in_front c passed_on affected i))

    part_tainted : In c affected → In c (given (Points n y s))
    part_tainted i = at_step (in_back c by_class (passed_on ++ affected) (in_back c passed_on affected i))

  -- the parts of what a call gives
  module _ (b : Activation) (n : Node) (c : Conclusion) where
    abbrev returned : List Conclusion
    returned = exits_taken app hits b n returning

    abbrev thrown : List Conclusion
    thrown = exits_taken app hits b n throwing

    abbrev effects : List Conclusion
    effects = effects_come app hits b n

    part_returned : In c returned → In c (given (CalledBy b n))
    part_returned i = in_front c returned (thrown ++ effects) i

    part_thrown : In c thrown → In c (given (CalledBy b n))
    part_thrown i = in_back c returned (thrown ++ effects) (in_front c thrown effects i)

    part_affected : In c effects → In c (given (CalledBy b n))
    part_affected i = in_back c returned (thrown ++ effects) (in_back c thrown effects i)

  -- what leaves the activation, by the side of either row
  module _ (v : Content) (b : Activation) (how : ℕ) (n : Node) (rule : ℕ) (x : Row) where
    abbrev says : Conclusion
    says = concludes rule (of_two (leaves v b how) (CalledBy b n)) x

    given_leaving : In says (flat_map (caller_takes app b how v) (hits (CallersOf b))) → In says (given (leaves v b how))
    given_leaving i = by_content v i
      where
        by_content : (w : Content) → In says (flat_map (caller_takes app b how w) (hits (CallersOf b))) → In says (given (leaves w b how))
        by_content (Object s) i = i
        by_content (Label p l) i = i

    leaves_listed : (row : Row) → In row (leaves v b how ∷ CalledBy b n ∷ []) → Each has (leaves v b how ∷ CalledBy b n ∷ []) →
        (In says (exits_taken app hits b n how) → In says (given (CalledBy b n))) → In says (left app b how v n) →
        IsListed (given row) rule (leaves v b how ∷ CalledBy b n ∷ []) x
    leaves_listed row u k part i =
        let premises = of_two (leaves v b how) (CalledBy b n) in
        either given _ _ _ u
        (here given (leaves v b how) rule premises x (given_leaving (exit_complete app lists has hits law v b how n says k.1.0 i)))
        (here given (CalledBy b n) rule premises x (part (taken_complete app lists has hits law v b how n says k.0 i)))

  returns : (v : Content) (b : Activation) (n : Node) (x row : Row) → In row (leaves v b returning ∷ CalledBy b n ∷ []) →
      Each has (leaves v b returning ∷ CalledBy b n ∷ []) →
      In (concludes 25 (of_two (leaves v b returning) (CalledBy b n)) x) (left app b returning v n) →
      IsListed (given row) 25 (leaves v b returning ∷ CalledBy b n ∷ []) x
  returns v b n x row u k i =
      leaves_listed v b returning n 25 x row u k (part_returned b n (concludes 25 (of_two (leaves v b returning) (CalledBy b n)) x)) i

  throws : (v : Content) (b : Activation) (n : Node) (x row : Row) → In row (leaves v b throwing ∷ CalledBy b n ∷ []) →
      Each has (leaves v b throwing ∷ CalledBy b n ∷ []) →
      In (concludes 26 (of_two (leaves v b throwing) (CalledBy b n)) x) (left app b throwing v n) →
      IsListed (given row) 26 (leaves v b throwing ∷ CalledBy b n ∷ []) x
  throws v b n x row u k i =
      leaves_listed v b throwing n 26 x row u k (part_thrown b n (concludes 26 (of_two (leaves v b throwing) (CalledBy b n)) x)) i

  -- what follows from one row: that control comes, or that a register may be a receiver
  reaches : (n : Node) (rule : ℕ) (x row : Row) → In row (Reached n ∷ []) →
      In (concludes rule (of_one (Reached n)) x) (reached_on app lists n (step_here app n)) → IsListed (given row) rule (Reached n ∷ []) x
  reaches n rule x row u i = only given _ _ _ u (here given (Reached n) rule (of_one (Reached n)) x i)

  receives : (n : Node) (y : ℕ) (s : Site) (step : Step) → step_here app n ≡ Some step → (rule : ℕ) (x row : Row) → In row (Points n y s ∷ []) →
      In (concludes rule (of_one (Points n y s)) x) (received app lists n y s step.act) → IsListed (given row) rule (Points n y s ∷ []) x
  receives n y s step there rule x row u i =
      let c = concludes rule (of_one (Points n y s)) x in
      only given _ _ _ u (here given (Points n y s) rule (of_one (Points n y s)) x (part_received n y s step there c i))

  pub calls_complete : (row : Row) (rule : ℕ) (premises : List Row) (x : Row) → CallRule app lists rule premises x → Each has premises →
      In row premises → IsListed (given row) rule premises x
  calls_complete row rule premises x (enter_direct {n = n} {kind = kind} {at = at} {args = args} {body = body} h f to enter) k u =
      reaches n 22 x row u (direct_complete app lists n kind at args h body x f to enter)
  calls_complete row rule premises x (enter_class {n = n} {kind = kind} {at = at} {args = args} {x = y} {body = body} {s = s} {class = class} h f first is to enter) k u =
      receives n y s h.step h.there 23 x row u (class_complete app lists n kind at args h y s class f first is body x to enter)
  calls_complete row rule premises x (enter_receiver {n = n} {kind = kind} {at = at} {args = args} {x = y} {z = z} {body = body} {s = s} {class = class} h f first is to takes) k u =
      let holds_it = Points (entry (callee n body)) z s in
      receives n y s h.step h.there 23 holds_it row u (receiver_complete app lists n kind at args h y s class f first is body z to takes)
  calls_complete row rule premises x (pass_points {n = n} {kind = kind} {at = at} {args = args} {x = y} {z = z} i {b = b} {s = s} h place may none takes) k u =
      let t = passes (is_by_receiver kind) i may in
      let both = of_two (Calls n b) (Points n y s) in
      let holds_it = Points (entry b) z s in
      either given _ _ _ u
      (here given (Calls n b) 24 both holds_it
      (call_complete app lists has hits law n b kind at args i y z h place none takes (Object s) t k.1.0))
      (here given (Points n y s) 24 both holds_it
      (part_passed n y s h.step h.there (concludes 24 both holds_it)
      (content_complete app lists has hits law n b kind at args i y z h place none takes (Object s) t k.0)))
  calls_complete row rule premises x (pass_taint {n = n} {kind = kind} {at = at} {args = args} {x = y} {z = z} {l = l} i {b = b} {p = p} h place none takes) k u =
      let both = of_two (Calls n b) (Taint n y p l) in
      let leads = Taint (entry b) z p l in
      either given _ _ _ u
      (here given (Calls n b) 24 both leads
      (call_complete app lists has hits law n b kind at args i y z h place none takes (Label p l) refl k.1.0))
      (here given (Taint n y p l) 24 both leads
      (subst (λ o. In (concludes 24 both leads) (content_on app hits n y (Label p l) o)) (sym h.there)
      (content_complete app lists has hits law n b kind at args i y z h place none takes (Label p l) refl k.0)))
  calls_complete row rule premises x (returned_points {n = n} {pc = pc} {b = b} {s = s} g) k u =
      returns (Object s) b n (Points (at_pc n pc) result_register s) row u k (returned_in app lists has hits law (Object s) b n pc g)
  calls_complete row rule premises x (returned_taint {n = n} {pc = pc} {l = l} {b = b} {p = p} g) k u =
      returns (Label p l) b n (Taint (at_pc n pc) result_register p l) row u k (returned_in app lists has hits law (Label p l) b n pc g)
  calls_complete row rule premises x (caught_points {n = n} {pc = pc} {b = b} {s = s} g) k u =
      throws (Object s) b n (Points (at_pc n pc) exception_register s) row u k (caught_in app lists has hits law (Object s) b n pc g)
  calls_complete row rule premises x (caught_taint {n = n} {pc = pc} {l = l} {b = b} {p = p} g) k u =
      throws (Label p l) b n (Taint (at_pc n pc) exception_register p l) row u k (caught_in app lists has hits law (Label p l) b n pc g)
  calls_complete row rule premises x (unwound_points {n = n} {b = b} {s = s}) k u =
      throws (Object s) b n (ExitPoints n.by throwing s) row u k (inl refl)
  calls_complete row rule premises x (unwound_taint {n = n} {l = l} {b = b} {p = p}) k u =
      throws (Label p l) b n (ExitTaint n.by throwing p l) row u k (inl refl)
  calls_complete row rule premises x (use_by_name {n = n} {kind = kind} {at = at} {args = args} {class = class} h to look) k u =
      reaches n 27 x row u (name_complete app lists n kind at args h class x to look)
  calls_complete row rule premises x (use_by_class {n = n} {kind = kind} {at = at} {args = args} {x = y} {s = s} {class = class} {above = above} h f first is to look) k u =
      receives n y s h.step h.there 27 x row u (use_complete app lists n kind at args h y s class f first is above x to look)
  calls_complete row rule premises x (enter_initialiser {n = n} {body = body} h enter) k u =
      reaches n 28 x row u (initialiser_complete app lists n body x h enter)
  calls_complete row rule premises x (initialiser_taint {n = n} {z = z} {l = l} {b = b} {s = s} {p = p} by) k u =
      let all = of_three (MethodEffect b s p l) (CalledBy b n) (Points n z s) in
      let leads = Taint n z p l in
      any _ _ _ u
      (here given (MethodEffect b s p l) 29 all leads (effect_complete app lists has hits law b n z s p l by k.0 k.1.0 k.1.1.0))
      (here given (CalledBy b n) 29 all leads
      (part_affected b n (tainted b n z s p l) (effects_complete app lists has hits law b n z s p l by k.0 k.1.0 k.1.1.0)))
      (here given (Points n z s) 29 all leads
      (part_tainted n z s by.is_one.at.step by.is_one.at.there (tainted b n z s p l)
      (bodies_complete app lists has hits law b n z s p l by k.0 k.1.0 k.1.1.0)))
