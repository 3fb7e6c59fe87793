-- What leaves an activation: what is listed follows, and what follows is listed.
use Rattle.std.proofs.Common.{◌≡◌, ◌==◌, ◌++◌, ℕ, zero, suc, List, [], ◌∷◌, Option, Some, None, cond, flat_map, eqb-true, refl, sym, subst, inl, arith}
use Rattle.std.specs.List.{AllByRecursion}
use Rattle.vet_base.specs.Members.{In}
use Rattle.vet_base.proofs.Members.{in_front, in_back}
use Rattle.vet_base.proofs.Every.{each_append, each_where}
use Rattle.app_machine.specs.declared.method.Step.{Step}
use Rattle.app_machine.specs.declared.lists.Lists.{Lists}
use Rattle.app_machine.specs.declared.app.App.{App}
use Rattle.app_machine.specs.State.{result_register, exception_register}
use Rattle.fact_rows.specs.declared.context.Activation.{Activation}
use Rattle.fact_rows.specs.declared.context.Node.{Node}
use Rattle.fact_rows.specs.declared.row.Row.{Row}
use Rattle.fact_rows.specs.declared.row.Row.TheVariants as fact
use Rattle.flow_rules.specs.LocalRules.{returning, throwing}
use Rattle.flow_rules.specs.Nodes.{at_pc, GoesOn, CaughtAt}
use Rattle.rule_ground.specs.declared.conclusion.Conclusion.{Conclusion}
use Rattle.rule_ground.specs.declared.key.Key.{Key}
use Rattle.rule_ground.specs.declared.key.Key.TheVariants.{CallersOf, ExitPointsOf, ExitLabelsOf}
use Rattle.rule_ground.specs.Given.{of_two, concludes}
use Rattle.rule_ground.specs.Hits.{IsHits}
use Rattle.rule_ground.specs.Exact.{IsSound}
use Rattle.rule_ground.specs.Listing.{first, second, at_hit, of_hits, found}
use Rattle.call_targets.specs.exact.EnterSound.{each_cond}
use Rattle.register_readers.specs.Readings.{Readings}
use Rattle.cell_rules.specs.CallRules.{CallRule, returned_points, returned_label, caught_points, caught_label, unwound_label}
use Rattle.cell_rules.specs.Reading.{ReadAt}
use Rattle.cell_ground.specs.declared.content.Content.{Content}
use Rattle.cell_ground.specs.declared.content.Content.TheVariants.{Object, Label}
use Rattle.cell_ground.specs.Coming.{held, leaves}
use Rattle.cell_ground.specs.ComingListed.{coming_sound, in_coming}
use Rattle.cell_ground.specs.Ready.{Ready, listed_result, listed_caught}
use Rattle.cell_ground.specs.Steps.{step_here}
use Rattle.cell_call_rules.specs.CellExitGiven.{unwinds, returned_on, caught_on, left, caller_takes, exit_gives, exit_taken, exits_taken}

-- the rules, once for both kinds of content
module _ (app : App) (lists : Lists) (n : Node) (b : Activation) where
  returned : (v : Content) (pc u : ℕ) → GoesOn app n pc → ReadAt app n.by.method result_register pc u →
      CallRule app lists 25 (leaves v b returning ∷ fact.CalledBy b n ∷ []) (held v (at_pc n u) result_register)
  returned (Object s) pc u g read = returned_points g read
  returned (Label l) pc u g read = returned_label g read

  caught : (v : Content) (pc u : ℕ) → CaughtAt app n pc → ReadAt app n.by.method exception_register pc u →
      CallRule app lists 26 (leaves v b throwing ∷ fact.CalledBy b n ∷ []) (held v (at_pc n u) exception_register)
  caught (Object s) pc u g read = caught_points g read
  caught (Label l) pc u g read = caught_label g read

-- what is listed where the content leaves the activation to the node
module _ (app : App) (readings : Readings) (ready : Ready app readings) (lists : Lists) (P : Conclusion → Type 0) (v : Content) (b : Activation) (n : Node) where
  unwinds_sound : ((rule : ℕ) (x : Row) → CallRule app lists rule (leaves v b throwing ∷ fact.CalledBy b n ∷ []) x →
      P (concludes rule (of_two (leaves v b throwing) (fact.CalledBy b n)) x)) → AllByRecursion P (unwinds b v n)
  unwinds_sound h = by_content v h
    where
      by_content : (w : Content) → ((rule : ℕ) (x : Row) → CallRule app lists rule (leaves w b throwing ∷ fact.CalledBy b n ∷ []) x →
          P (concludes rule (of_two (leaves w b throwing) (fact.CalledBy b n)) x)) → AllByRecursion P (unwinds b w n)
      by_content (Object s) h = tt
      by_content (Label l) h = (h 26 (fact.ExitLabel n.by throwing l) unwound_label, tt)

  pub left_sound : (how : ℕ) →
      ((rule : ℕ) (x : Row) → CallRule app lists rule (leaves v b how ∷ fact.CalledBy b n ∷ []) x →
      P (concludes rule (of_two (leaves v b how) (fact.CalledBy b n)) x)) →
      AllByRecursion P (left app readings b how v n)
  left_sound zero h = on (step_here app n) refl
    where
      on : (o : Option Step) → step_here app n ≡ o → AllByRecursion P (returned_on readings o b v n)
      on None e = tt
      on (Some step) e = coming_sound app readings ready P 25 (of_two (leaves v b returning) (fact.CalledBy b n)) v n step.next result_register (λ pc u i read.
          h 25 (held v (at_pc n u) result_register) (returned app lists n b v pc u (record { step = step; there = e; next = i }) read))
  left_sound (suc zero) h =
      each_append P (unwinds b v n) (caught_on readings (step_here app n) b v n) (unwinds_sound h) (on (step_here app n) refl)
    where
      on : (o : Option Step) → step_here app n ≡ o → AllByRecursion P (caught_on readings o b v n)
      on None e = tt
      on (Some step) e = coming_sound app readings ready P 26 (of_two (leaves v b throwing) (fact.CalledBy b n)) v n step.catches exception_register (λ pc u i read.
          h 26 (held v (at_pc n u) exception_register) (caught app lists n b v pc u (record { step = step; there = e; catch = i }) read))
  left_sound (suc (suc k)) h =
      let how = suc (suc k) in
      let thrown = unwinds b v n ++ caught_on readings (step_here app n) b v n in
      each_cond P (how == returning) (returned_on readings (step_here app n) b v n) (cond (how == throwing) thrown [])
      (λ t. let e : suc (suc k) ≡ 0 = eqb-true (suc (suc k)) 0 t in absurd (omega arith))
      (λ f. each_where P (how == throwing) thrown (λ t.
      let e : suc (suc k) ≡ 1 = eqb-true (suc (suc k)) 1 t in
      absurd (omega arith)))

module _ (app : App) (readings : Readings) (ready : Ready app readings) (lists : Lists) (has : Row → Type 0) (hits : Key → List Row) (law : (k : Key) → IsHits has k (hits k)) where
  abbrev R : ℕ → List Row → Row → Type 0
  R = CallRule app lists

  abbrev Sound : Row → Conclusion → Type 0
  Sound row = IsSound (CallRule app lists) has row

  -- from what leaves
  pub exit_sound : (v : Content) (b : Activation) (how : ℕ) → has (leaves v b how) →
      AllByRecursion (Sound (leaves v b how)) (exit_gives app readings hits b how v)
  exit_sound v b how h =
      let P = Sound (leaves v b how) in
      of_hits has hits law P (CallersOf b) (caller_takes app readings b how v) (λ row i.
      let w = (law (CallersOf b)).under row i in
      (fact.CalledBy b w.0, w.1, left_sound app readings ready lists P v b w.0 how (λ rule x by. first R has by h (at_hit has hits law _ row _ i w.1))))

  -- from the call
  pub exits_sound : (b : Activation) (n : Node) (how : ℕ) → has (fact.CalledBy b n) →
      AllByRecursion (Sound (fact.CalledBy b n)) (exits_taken app readings hits b n how)
  exits_sound b n how h =
      let P = Sound (fact.CalledBy b n) in
      let takes : Row → List Conclusion = exit_taken app readings b n in
      each_append P (flat_map takes (hits (ExitPointsOf b how))) (flat_map takes (hits (ExitLabelsOf b how)))
      (of_hits has hits law P (ExitPointsOf b how) takes (λ row i.
      let w = (law (ExitPointsOf b how)).under row i in
      let there = at_hit has hits law _ row _ i w.1 in
      (fact.ExitPoints b how w.0, w.1, left_sound app readings ready lists P (Object w.0) b n how (λ rule x by. second R has by there h))))
      (of_hits has hits law P (ExitLabelsOf b how) takes (λ row i.
      let w = (law (ExitLabelsOf b how)).under row i in
      let there = at_hit has hits law _ row _ i w.1 in
      (fact.ExitLabel b how w.0, w.1, left_sound app readings ready lists P (Label w.0) b n how (λ rule x by. second R has by there h))))

  -- what follows where the content leaves
  pub returned_in : (v : Content) (b : Activation) (n : Node) (pc u : ℕ) → GoesOn app n pc → ReadAt app n.by.method result_register pc u →
      In (concludes 25 (of_two (leaves v b returning) (fact.CalledBy b n)) (held v (at_pc n u) result_register)) (left app readings b returning v n)
  returned_in v b n pc u g read =
      let both = of_two (leaves v b returning) (fact.CalledBy b n) in
      let c = concludes 25 both (held v (at_pc n u) result_register) in
      subst (λ o. In c (returned_on readings o b v n)) (sym g.there)
      (in_coming readings 25 both v n g.step.next result_register pc u g.next (listed_result app readings ready n pc u g read))

  pub caught_in : (v : Content) (b : Activation) (n : Node) (pc u : ℕ) → CaughtAt app n pc → ReadAt app n.by.method exception_register pc u →
      In (concludes 26 (of_two (leaves v b throwing) (fact.CalledBy b n)) (held v (at_pc n u) exception_register)) (left app readings b throwing v n)
  caught_in v b n pc u g read =
      let both = of_two (leaves v b throwing) (fact.CalledBy b n) in
      let c = concludes 26 both (held v (at_pc n u) exception_register) in
      in_back c (unwinds b v n) (caught_on readings (step_here app n) b v n)
      (subst (λ o. In c (caught_on readings o b v n)) (sym g.there)
      (in_coming readings 26 both v n g.step.catches exception_register pc u g.catch (listed_caught app readings ready n pc u g read)))

  pub unwound_in : (l : ℕ) (b : Activation) (n : Node) →
      In (concludes 26 (of_two (fact.ExitLabel b throwing l) (fact.CalledBy b n)) (fact.ExitLabel n.by throwing l)) (left app readings b throwing (Label l) n)
  unwound_in l b n =
      let c = concludes 26 (of_two (fact.ExitLabel b throwing l) (fact.CalledBy b n)) (fact.ExitLabel n.by throwing l) in
      in_front c (unwinds b (Label l) n) (caught_on readings (step_here app n) b (Label l) n) (inl refl)

  -- is listed from either row
  pub exit_complete : (v : Content) (b : Activation) (how : ℕ) (n : Node) (c : Conclusion) → has (fact.CalledBy b n) →
      In c (left app readings b how v n) → In c (exit_gives app readings hits b how v)
  exit_complete v b how n c k i = found has hits law (CallersOf b) (caller_takes app readings b how v) (fact.CalledBy b n) c k (n, refl) i

  pub taken_complete : (v : Content) (b : Activation) (how : ℕ) (n : Node) (c : Conclusion) → has (leaves v b how) →
      In c (left app readings b how v n) → In c (exits_taken app readings hits b n how)
  taken_complete (Object s) b how n c k i =
      in_front c (flat_map (exit_taken app readings b n) (hits (ExitPointsOf b how))) (flat_map (exit_taken app readings b n) (hits (ExitLabelsOf b how)))
      (found has hits law (ExitPointsOf b how) (exit_taken app readings b n) (fact.ExitPoints b how s) c k (s, refl) i)
  taken_complete (Label l) b how n c k i =
      in_back c (flat_map (exit_taken app readings b n) (hits (ExitPointsOf b how))) (flat_map (exit_taken app readings b n) (hits (ExitLabelsOf b how)))
      (found has hits law (ExitLabelsOf b how) (exit_taken app readings b n) (fact.ExitLabel b how l) c k (l, refl) i)
