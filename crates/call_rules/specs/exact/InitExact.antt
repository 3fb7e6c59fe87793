-- The effects of initialisers: what is listed follows, and what follows is listed.
use Rattle.std.proofs.Common.{◌≡◌, ℕ, true, List, Option, Some, None, flat_map, refl, sym, ap, subst, ◌∙◌, inl, inr}
use Rattle.std.specs.List.{AllByRecursion}
use Rattle.vet_base.specs.Members.{In}
use Rattle.vet_base.proofs.Members.{in_flat}
use Rattle.vet_base.proofs.Every.{each_flat, each_where, in_where}
use Rattle.access_path.specs.declared.path.Path.{Path}
use Rattle.app_machine.specs.declared.method.Step.{Step}
use Rattle.app_machine.specs.declared.lists.Lists.{Lists}
use Rattle.app_machine.specs.declared.app.App.{App}
use Rattle.app_machine.specs.Lookups.{initialisers, Initialises}
use Rattle.fact_rows.specs.declared.context.Activation.{Activation}
use Rattle.fact_rows.specs.declared.context.Node.{Node}
use Rattle.fact_rows.specs.declared.site.Site.{Site}
use Rattle.fact_rows.specs.declared.row.Row.{Row}
use Rattle.fact_rows.specs.declared.row.Row.TheVariants.{Points, CalledBy, MethodEffect}
use Rattle.flow_rules.specs.Nodes.{callee, InitialisedBy}
use Rattle.flow_rules.specs.CallRules.{CallRule, initialiser_taint}
use Rattle.rule_ground.specs.declared.conclusion.Conclusion.{Conclusion}
use Rattle.rule_ground.specs.declared.key.Key.{Key}
use Rattle.rule_ground.specs.declared.key.Key.TheVariants.{PointsOn, CallersOf, CallerAt, MethodEffectsOf, MethodEffectsBy}
use Rattle.rule_ground.specs.Hits.{IsHits}
use Rattle.rule_ground.specs.Exact.{IsSound}
use Rattle.rule_ground.specs.Listing.{at_hit, of_hits, found}
use Rattle.call_targets.specs.EnterGiven.{step_here}
use Rattle.call_targets.specs.Meaning.{act_of}
use Rattle.call_rules.specs.Initialised.{initialised_by, is_one}
use Rattle.call_rules.specs.InitGiven.{is_initialised_at, tainted, register_gets, registers_get, caller_gets, effect_gives, effect_comes, effects_come, effect_taints, call_taints, body_taints, bodies_taint}

-- the test at a node
module _ (app : App) (n : Node) (b : Activation) where
  initialised_here : (o : Option Step) → step_here app n ≡ o → is_initialised_at app n b o ≡ true → InitialisedBy app n b
  initialised_here None e t = absurd cc
  initialised_here (Some step) e t = initialised_by app n step.act b (act_of app n e refl) t

  here_initialised : InitialisedBy app n b → is_initialised_at app n b (step_here app n) ≡ true
  here_initialised k =
      let at = k.is_one.at in
      ap (is_initialised_at app n b) at.there ∙ is_one app n at.step.act b (act_of app n at.there refl) k

module _ (app : App) (lists : Lists) (has : Row → Type 0) (hits : Key → List Row) (law : (k : Key) → IsHits has k (hits k)) where
  abbrev R : ℕ → List Row → Row → Type 0
  R = CallRule app lists

  abbrev Sound : Row → Conclusion → Type 0
  Sound row = IsSound (CallRule app lists) has row

  -- the conclusion follows, by the side of each of its premises
  module _ (b : Activation) (n : Node) (z : ℕ) (s : Site) (p : Path) (l : ℕ) (by : InitialisedBy app n b)
      (e : has (MethodEffect b s p l)) (c : has (CalledBy b n)) (r : has (Points n z s)) where
    by_effect : Sound (MethodEffect b s p l) (tainted b n z s p l)
    by_effect = record { by = initialiser_taint by; known = (e, (c, (r, tt))); uses = inl refl }

    by_caller : Sound (CalledBy b n) (tainted b n z s p l)
    by_caller = record { by = initialiser_taint by; known = (e, (c, (r, tt))); uses = inr (inl refl) }

    by_register : Sound (Points n z s) (tainted b n z s p l)
    by_register = record { by = initialiser_taint by; known = (e, (c, (r, tt))); uses = inr (inr (inl refl)) }

  -- the registers that hold an object of the site
  registers_sound : (P : Conclusion → Type 0) (b : Activation) (n : Node) (s : Site) (p : Path) (l : ℕ) →
      ((z : ℕ) → has (Points n z s) → P (tainted b n z s p l)) → AllByRecursion P (registers_get hits b n s p l)
  registers_sound P b n s p l h = of_hits has hits law P (PointsOn n s) (register_gets b n s p l) (λ row i.
      let u = (law (PointsOn n s)).under row i in
      (Points n u.0 s, u.1, (h u.0 (at_hit has hits law _ row _ i u.1), tt)))

  pub effect_sound : (b : Activation) (s : Site) (p : Path) (l : ℕ) → has (MethodEffect b s p l) →
      AllByRecursion (Sound (MethodEffect b s p l)) (effect_gives app hits b s p l)
  effect_sound b s p l h =
      let P = Sound (MethodEffect b s p l) in
      of_hits has hits law P (CallersOf b) (caller_gets app hits b s p l) (λ row i.
      let u = (law (CallersOf b)).under row i in (
        CalledBy b u.0,
        u.1,
        each_where P (is_initialised_at app u.0 b (step_here app u.0)) (registers_get hits b u.0 s p l) (λ t.
            let by = initialised_here app u.0 b (step_here app u.0) refl t in
            let called = at_hit has hits law _ row _ i u.1 in
            registers_sound P b u.0 s p l (λ z k. by_effect b u.0 z s p l by h called k)),
      ))

  pub effects_sound : (b : Activation) (n : Node) → has (CalledBy b n) →
      AllByRecursion (Sound (CalledBy b n)) (effects_come app hits b n)
  effects_sound b n h =
      let P = Sound (CalledBy b n) in
      let comes : Row → List Conclusion = effect_comes hits b n in
      each_where P (is_initialised_at app n b (step_here app n)) (flat_map comes (hits (MethodEffectsOf b))) (λ t.
      let by = initialised_here app n b (step_here app n) refl t in
      of_hits has hits law P (MethodEffectsOf b) comes (λ row i.
      let u = (law (MethodEffectsOf b)).under row i in
      let there = at_hit has hits law _ row _ i u.1.1.1 in (
        MethodEffect b u.0 u.1.0 u.1.1.0,
        u.1.1.1,
        registers_sound P b n u.0 u.1.0 u.1.1.0 (λ z k. by_caller b n z u.0 u.1.0 u.1.1.0 by there h k),
      )))

  pub bodies_sound : (n : Node) (z : ℕ) (s : Site) → has (Points n z s) → (step : Step) → step_here app n ≡ Some step →
      AllByRecursion (Sound (Points n z s)) (bodies_taint hits n z s (initialisers app step.act))
  bodies_sound n z s h step there =
      let P = Sound (Points n z s) in
      each_flat P (body_taints hits n z s) (initialisers app step.act) (λ body among.
      let b = callee n body in
      let is_one : Initialises app n.by.method n.pc body = record { act = step.act; at = act_of app n there refl; is_one = among } in
      let by : InitialisedBy app n b = record { body = body; is_one = is_one; same = refl } in
      of_hits has hits law P (CallerAt b n) (call_taints hits b n z s) (λ row i.
      let u = (law (CallerAt b n)).under row i in (
        CalledBy b n,
        u,
        of_hits has hits law P (MethodEffectsBy b s) (effect_taints b n z s) (λ effect j.
            let w = (law (MethodEffectsBy b s)).under effect j in (
              MethodEffect b s w.0 w.1.0,
              w.1.1,
              (by_register b n z s w.0 w.1.0 by (at_hit has hits law _ effect _ j w.1.1) (at_hit has hits law _ row _ i u) h, tt),
            )),
      )))

  -- what follows is listed by the side of each premise
  module _ (b : Activation) (n : Node) (z : ℕ) (s : Site) (p : Path) (l : ℕ) (by : InitialisedBy app n b)
      (e : has (MethodEffect b s p l)) (c : has (CalledBy b n)) (r : has (Points n z s)) where
    abbrev says : Conclusion
    says = tainted b n z s p l

    register_in : In says (registers_get hits b n s p l)
    register_in = found has hits law (PointsOn n s) (register_gets b n s p l) (Points n z s) says r (z, refl) (inl refl)

    pub effect_complete : In says (effect_gives app hits b s p l)
    effect_complete =
        let here = is_initialised_at app n b (step_here app n) in
        found has hits law (CallersOf b) (caller_gets app hits b s p l) (CalledBy b n) says c (n, refl)
        (in_where says here (registers_get hits b n s p l) (here_initialised app n b by) register_in)

    pub effects_complete : In says (effects_come app hits b n)
    effects_complete =
        let here = is_initialised_at app n b (step_here app n) in
        let comes : Row → List Conclusion = effect_comes hits b n in
        in_where says here (flat_map comes (hits (MethodEffectsOf b))) (here_initialised app n b by)
        (found has hits law (MethodEffectsOf b) comes (MethodEffect b s p l) says e (s, (p, (l, refl))) register_in)

    effect_in : In says (flat_map (effect_taints b n z s) (hits (MethodEffectsBy b s)))
    effect_in = found has hits law (MethodEffectsBy b s) (effect_taints b n z s) (MethodEffect b s p l) says e (p, (l, refl)) (inl refl)

    call_in : In says (flat_map (call_taints hits b n z s) (hits (CallerAt b n)))
    call_in = found has hits law (CallerAt b n) (call_taints hits b n z s) (CalledBy b n) says c refl effect_in

    pub bodies_complete : In says (bodies_taint hits n z s (initialisers app by.is_one.at.step.act))
    bodies_complete =
        let h = by.is_one in
        let among : In by.body (initialisers app h.at.step.act) =
        subst (λ a. In by.body (initialisers app a)) (sym h.at.same) h.is_one in
        in_flat (body_taints hits n z s) (initialisers app h.at.step.act) by.body says among
        (subst (λ d. In says (flat_map (call_taints hits d n z s) (hits (CallerAt d n)))) by.same call_in)
