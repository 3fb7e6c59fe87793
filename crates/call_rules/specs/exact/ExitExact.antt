-- What leaves an activation: what is listed follows, and what follows is listed.
use Rattle.std.proofs.Common.{◌≡◌, ◌==◌, ℕ, zero, suc, List, [], ◌∷◌, Option, Some, None, cond, flat_map, eqb-true, refl, sym, subst, inr, arith}
use Rattle.std.specs.List.{AllByRecursion}
use Rattle.vet_base.specs.Members.{In}
use Rattle.vet_base.proofs.Members.{in_front, in_back}
use Rattle.vet_base.proofs.Every.{each_append, each_where}
use Rattle.app_machine.specs.declared.method.Step.{Step}
use Rattle.app_machine.specs.declared.lists.Lists.{Lists}
use Rattle.app_machine.specs.declared.app.App.{App}
use Rattle.app_machine.specs.State.{result_register, exception_register}
use Rattle.fact_rows.specs.declared.context.Activation.{Activation}
use Rattle.fact_rows.specs.declared.context.Node.{Node}
use Rattle.fact_rows.specs.declared.row.Row.{Row}
use Rattle.fact_rows.specs.declared.row.Row.TheVariants.{CalledBy, ExitPoints, ExitTaint}
use Rattle.flow_rules.specs.LocalRules.{returning, throwing}
use Rattle.flow_rules.specs.Nodes.{at_pc, GoesOn, CaughtAt}
use Rattle.flow_rules.specs.CallRules.{CallRule, returned_points, returned_taint, caught_points, caught_taint, unwound_points, unwound_taint}
use Rattle.rule_ground.specs.declared.conclusion.Conclusion.{Conclusion}
use Rattle.rule_ground.specs.declared.content.Content.{Content}
use Rattle.rule_ground.specs.declared.content.Content.TheVariants.{Object, Label}
use Rattle.rule_ground.specs.declared.key.Key.{Key}
use Rattle.rule_ground.specs.declared.key.Key.TheVariants.{CallersOf, ExitPointsOf, ExitTaintsOf}
use Rattle.rule_ground.specs.Given.{of_two, concludes, held, leaves}
use Rattle.rule_ground.specs.Hits.{IsHits}
use Rattle.rule_ground.specs.Exact.{IsSound}
use Rattle.rule_ground.specs.Listing.{first, second, each_sound, in_each, at_hit, of_hits, found}
use Rattle.call_targets.specs.EnterGiven.{step_here}
use Rattle.call_targets.specs.exact.EnterSound.{each_cond}
use Rattle.call_rules.specs.ExitGiven.{returned_on, caught_on, thrown, left, caller_takes, exit_taken, exits_taken}

-- the rules, once for both kinds of content
module _ (app : App) (lists : Lists) (n : Node) (b : Activation) where
  returned : (v : Content) (pc : ℕ) → GoesOn app n pc →
      CallRule app lists 25 (leaves v b returning ∷ CalledBy b n ∷ []) (held v (at_pc n pc) result_register)
  returned (Object s) pc g = returned_points g
  returned (Label p l) pc g = returned_taint g

  caught : (v : Content) (pc : ℕ) → CaughtAt app n pc →
      CallRule app lists 26 (leaves v b throwing ∷ CalledBy b n ∷ []) (held v (at_pc n pc) exception_register)
  caught (Object s) pc g = caught_points g
  caught (Label p l) pc g = caught_taint g

  unwound : (v : Content) → CallRule app lists 26 (leaves v b throwing ∷ CalledBy b n ∷ []) (leaves v n.by throwing)
  unwound (Object s) = unwound_points
  unwound (Label p l) = unwound_taint

-- what is listed where the content leaves the activation to the node
module _ (app : App) (lists : Lists) (P : Conclusion → Type 0) (v : Content) (b : Activation) (n : Node) where
  pub left_sound : (how : ℕ) →
      ((rule : ℕ) (x : Row) → CallRule app lists rule (leaves v b how ∷ CalledBy b n ∷ []) x →
      P (concludes rule (of_two (leaves v b how) (CalledBy b n)) x)) →
      AllByRecursion P (left app b how v n)
  left_sound zero h = on (step_here app n) refl
    where
      on : (o : Option Step) → step_here app n ≡ o → AllByRecursion P (returned_on o b v n)
      on None e = tt
      on (Some step) e = each_sound P 25 (of_two (leaves v b returning) (CalledBy b n)) v n step.next result_register (λ pc i.
          h 25 (held v (at_pc n pc) result_register) (returned app lists n b v pc (record { step = step; there = e; next = i })))
  left_sound (suc zero) h = (h 26 (leaves v n.by throwing) (unwound app lists n b v), on (step_here app n) refl)
    where
      on : (o : Option Step) → step_here app n ≡ o → AllByRecursion P (caught_on o b v n)
      on None e = tt
      on (Some step) e = each_sound P 26 (of_two (leaves v b throwing) (CalledBy b n)) v n step.catches exception_register (λ pc i.
          h 26 (held v (at_pc n pc) exception_register) (caught app lists n b v pc (record { step = step; there = e; catch = i })))
  left_sound (suc (suc k)) h =
      let how = suc (suc k) in
      each_cond P (how == returning) (returned_on (step_here app n) b v n) (cond (how == throwing) (thrown app b v n) [])
      (λ t. let e : suc (suc k) ≡ 0 = eqb-true (suc (suc k)) 0 t in absurd (omega arith))
      (λ f. each_where P (how == throwing) (thrown app b v n) (λ t.
      let e : suc (suc k) ≡ 1 = eqb-true (suc (suc k)) 1 t in
      absurd (omega arith)))

module _ (app : App) (lists : Lists) (has : Row → Type 0) (hits : Key → List Row) (law : (k : Key) → IsHits has k (hits k)) where
  abbrev R : ℕ → List Row → Row → Type 0
  R = CallRule app lists

  abbrev Sound : Row → Conclusion → Type 0
  Sound row = IsSound (CallRule app lists) has row

  -- from what leaves
  pub exit_sound : (v : Content) (b : Activation) (how : ℕ) → has (leaves v b how) →
      AllByRecursion (Sound (leaves v b how)) (flat_map (caller_takes app b how v) (hits (CallersOf b)))
  exit_sound v b how h =
      let P = Sound (leaves v b how) in
      of_hits has hits law P (CallersOf b) (caller_takes app b how v) (λ row i.
      let u = (law (CallersOf b)).under row i in
      (CalledBy b u.0, u.1, left_sound app lists P v b u.0 how (λ rule x by. first R has by h (at_hit has hits law _ row _ i u.1))))

  -- from the call
  pub exits_sound : (b : Activation) (n : Node) (how : ℕ) → has (CalledBy b n) →
      AllByRecursion (Sound (CalledBy b n)) (exits_taken app hits b n how)
  exits_sound b n how h =
      let P = Sound (CalledBy b n) in
      let takes : Row → List Conclusion = exit_taken app b n in
      each_append P (flat_map takes (hits (ExitPointsOf b how))) (flat_map takes (hits (ExitTaintsOf b how)))
      (of_hits has hits law P (ExitPointsOf b how) takes (λ row i.
      let u = (law (ExitPointsOf b how)).under row i in
      let there = at_hit has hits law _ row _ i u.1 in
      (ExitPoints b how u.0, u.1, left_sound app lists P (Object u.0) b n how (λ rule x by. second R has by there h))))
      (of_hits has hits law P (ExitTaintsOf b how) takes (λ row i.
      let u = (law (ExitTaintsOf b how)).under row i in
      let there = at_hit has hits law _ row _ i u.1.1 in
      (ExitTaint b how u.0 u.1.0, u.1.1, left_sound app lists P (Label u.0 u.1.0) b n how (λ rule x by. second R has by there h))))

  -- what follows where the content leaves
  pub returned_in : (v : Content) (b : Activation) (n : Node) (pc : ℕ) → GoesOn app n pc →
      In (concludes 25 (of_two (leaves v b returning) (CalledBy b n)) (held v (at_pc n pc) result_register)) (left app b returning v n)
  returned_in v b n pc g =
      let c = concludes 25 (of_two (leaves v b returning) (CalledBy b n)) (held v (at_pc n pc) result_register) in
      subst (λ o. In c (returned_on o b v n)) (sym g.there)
      (in_each 25 (of_two (leaves v b returning) (CalledBy b n)) v n g.step.next result_register pc g.next)

  pub caught_in : (v : Content) (b : Activation) (n : Node) (pc : ℕ) → CaughtAt app n pc →
      In (concludes 26 (of_two (leaves v b throwing) (CalledBy b n)) (held v (at_pc n pc) exception_register)) (left app b throwing v n)
  caught_in v b n pc g =
      let c = concludes 26 (of_two (leaves v b throwing) (CalledBy b n)) (held v (at_pc n pc) exception_register) in
      inr (subst (λ o. In c (caught_on o b v n)) (sym g.there)
      (in_each 26 (of_two (leaves v b throwing) (CalledBy b n)) v n g.step.catches exception_register pc g.catch))

  -- is listed from either row
  pub exit_complete : (v : Content) (b : Activation) (how : ℕ) (n : Node) (c : Conclusion) → has (CalledBy b n) →
      In c (left app b how v n) → In c (flat_map (caller_takes app b how v) (hits (CallersOf b)))
  exit_complete v b how n c k i = found has hits law (CallersOf b) (caller_takes app b how v) (CalledBy b n) c k (n, refl) i

  pub taken_complete : (v : Content) (b : Activation) (how : ℕ) (n : Node) (c : Conclusion) → has (leaves v b how) →
      In c (left app b how v n) → In c (exits_taken app hits b n how)
  taken_complete (Object s) b how n c k i =
      in_front c (flat_map (exit_taken app b n) (hits (ExitPointsOf b how))) (flat_map (exit_taken app b n) (hits (ExitTaintsOf b how)))
      (found has hits law (ExitPointsOf b how) (exit_taken app b n) (ExitPoints b how s) c k (s, refl) i)
  taken_complete (Label p l) b how n c k i =
      in_back c (flat_map (exit_taken app b n) (hits (ExitPointsOf b how))) (flat_map (exit_taken app b n) (hits (ExitTaintsOf b how)))
      (found has hits law (ExitTaintsOf b how) (exit_taken app b n) (ExitTaint b how p l) c k (p, (l, refl)) i)
