-- The arguments that a call passes: what is listed follows, and what follows is listed.
use Rattle.std.proofs.Common.{◌≡◌, ◌&&◌, ℕ, Bool, true, false, List, [], ◌∷◌, Option, Some, None, cond, flat_map, length, slice_get, refl, sym, ap, subst, inl}
use Rattle.std.proofs.lemmas.Bool.{and_parts, and_from}
use Rattle.std.proofs.lemmas.Option.{slice_get_within}
use Rattle.std.specs.List.{AllByRecursion}
use Rattle.vet_base.specs.Members.{In, IsAt}
use Rattle.vet_base.proofs.Members.{in_front, in_back, in_slice_get}
use Rattle.vet_base.proofs.Every.{each_append, each_where, each_unless, in_where, in_unless}
use Rattle.app_machine.specs.declared.call.CallKind.{CallKind}
use Rattle.app_machine.specs.declared.call.MethodRef.{MethodRef}
use Rattle.app_machine.specs.declared.method.Act.{Act}
use Rattle.app_machine.specs.declared.method.Act.TheVariants as act
use Rattle.app_machine.specs.declared.method.Step.{Step}
use Rattle.app_machine.specs.declared.lists.Lists.{Lists}
use Rattle.app_machine.specs.declared.app.App.{App}
use Rattle.app_machine.specs.Lookups.{is_by_receiver}
use Rattle.app_machine.specs.State.{holds}
use Rattle.fact_rows.specs.declared.context.Activation.{Activation}
use Rattle.fact_rows.specs.declared.context.Node.{Node}
use Rattle.fact_rows.specs.declared.row.Row.{Row}
use Rattle.fact_rows.specs.declared.row.Row.TheVariants.{Points, Taint, Calls}
use Rattle.flow_rules.specs.Nodes.{entry, Acts, ArgumentRegister, InitialisedBy}
use Rattle.flow_rules.specs.CallRules.{CallRule, pass_points, pass_taint}
use Rattle.rule_ground.specs.declared.conclusion.Conclusion.{Conclusion}
use Rattle.rule_ground.specs.declared.content.Content.{Content}
use Rattle.rule_ground.specs.declared.content.Content.TheVariants.{Object, Label}
use Rattle.rule_ground.specs.declared.key.Key.{Key}
use Rattle.rule_ground.specs.declared.key.Key.TheVariants.{PointsAt, TaintsAt, CallsAt}
use Rattle.rule_ground.specs.Given.{of_two, held}
use Rattle.rule_ground.specs.Hits.{IsHits}
use Rattle.rule_ground.specs.Exact.{IsSound}
use Rattle.rule_ground.specs.Below.{for_below, each_below, in_below}
use Rattle.rule_ground.specs.Listing.{first, second, at_hit, of_hits, found, in_holds}
use Rattle.call_targets.specs.EnterGiven.{step_here, argument_register, passed_to, is_register}
use Rattle.call_targets.specs.Meaning.{act_of, is_at, at_is, takes, taken}
use Rattle.call_rules.specs.PassGiven.{is_initialised, hangs_on, is_passed, passed, argument_gets, argument_passed, argument_at, call_passes, calls_on, passed_at, callee_gets, content_passed}
use Rattle.call_rules.specs.Initialised.{may_pass, none_ran, is_none}

not_true : (b : Bool) → cond b false true ≡ true → b ≡ false
not_true true t = absurd cc
not_true false t = refl

-- the rule, once for both kinds of content
module _ (app : App) (lists : Lists) (n : Node) (b : Activation) (kind : CallKind) (at : MethodRef) (args : List ℕ) where
  pass : (v : Content) (i x z : ℕ) → Acts app n (act.Call kind at args) → IsAt args i x → is_passed kind i v ≡ true →
      (InitialisedBy app n b → ⊥) → ArgumentRegister app b.method i z →
      CallRule app lists 24 (Calls n b ∷ held v n x ∷ []) (held v (entry b) z)
  pass (Object s) i x z h place t none to = pass_points i h place (may_pass (is_by_receiver kind) i t) none to
  pass (Label p l) i x z h place t none to = pass_taint i h place none to

module _ (app : App) (lists : Lists) (has : Row → Type 0) (hits : Key → List Row) (law : (k : Key) → IsHits has k (hits k)) where
  abbrev R : ℕ → List Row → Row → Type 0
  R = CallRule app lists

  abbrev Sound : Row → Conclusion → Type 0
  Sound row = IsSound (CallRule app lists) has row

  module _ (n : Node) (step : Step) (there : step_here app n ≡ Some step) where
    -- a call that passes
    module _ (kind : CallKind) (at : MethodRef) (args : List ℕ) (e : step.act ≡ act.Call kind at args)
        (b : Activation) (none : InitialisedBy app n b → ⊥) where
      passed_by : (v : Content) (i x z : ℕ) → IsAt args i x → is_passed kind i v ≡ true → argument_register app b.method i ≡ Some z →
          CallRule app lists 24 (Calls n b ∷ held v n x ∷ []) (held v (entry b) z)
      passed_by v i x z place t to =
          pass app lists n b kind at args v i x z (act_of app n there e) place t none (takes app b.method i z to)

      -- from the call
      register_sound : has (Calls n b) → (i x z : ℕ) → IsAt args i x → argument_register app b.method i ≡ Some z →
          AllByRecursion (Sound (Calls n b)) (argument_passed hits n b kind i (Some x) (Some z))
      register_sound h i x z place to =
          let P = Sound (Calls n b) in
          let gets : Row → List Conclusion = argument_gets n b x z in
          let objects = flat_map gets (hits (PointsAt n x)) in
          each_append P (cond (hangs_on kind i) [] objects) (flat_map gets (hits (TaintsAt n x)))
          (each_unless P (hangs_on kind i) objects (λ t. of_hits has hits law P (PointsAt n x) gets (λ row j.
          let u = (law (PointsAt n x)).under row j in
          let by = passed_by (Object u.0) i x z place (ap (λ w. cond w false true) t) to in
          (Points n x u.0, u.1, (first R has by h (at_hit has hits law _ row _ j u.1), tt)))))
          (of_hits has hits law P (TaintsAt n x) gets (λ row j.
          let u = (law (TaintsAt n x)).under row j in
          let by = passed_by (Label u.0 u.1.0) i x z place refl to in
          (Taint n x u.0 u.1.0, u.1.1, (first R has by h (at_hit has hits law _ row _ j u.1.1), tt))))

      argument_sound : has (Calls n b) → (i : ℕ) → AllByRecursion (Sound (Calls n b)) (argument_at app hits n b kind args i)
      argument_sound h i = by_place (slice_get args i) refl (argument_register app b.method i) refl
        where
          by_place : (o : Option ℕ) → slice_get args i ≡ o → (q : Option ℕ) → argument_register app b.method i ≡ q →
              AllByRecursion (Sound (Calls n b)) (argument_passed hits n b kind i o q)
          by_place None f q g = tt
          by_place (Some x) f None g = tt
          by_place (Some x) f (Some z) g = register_sound h i x z (record { there = f }) g

      -- from the content
      passed_sound : has (Calls n b) → (v : Content) (x : ℕ) → has (held v n x) → (i : ℕ) →
          AllByRecursion (Sound (held v n x)) (passed_at app n b kind args x v i)
      passed_sound k v x h i =
          let given = passed_to 24 (of_two (Calls n b) (held v n x)) v b (argument_register app b.method i) in
          each_where (Sound (held v n x)) (is_register (slice_get args i) x && is_passed kind i v) given (λ w.
          let both = and_parts (is_register (slice_get args i) x) (is_passed kind i v) w in
          by_register (is_at args i x both.0) both.1 (argument_register app b.method i) refl)
        where
          by_register : IsAt args i x → is_passed kind i v ≡ true → (o : Option ℕ) → argument_register app b.method i ≡ o →
              AllByRecursion (Sound (held v n x)) (passed_to 24 (of_two (Calls n b) (held v n x)) v b o)
          by_register place t None g = tt
          by_register place t (Some z) g = (second R has (passed_by v i x z place t g) k h, tt)

    passes_sound : (b : Activation) → has (Calls n b) → (a : Act) → step.act ≡ a →
        AllByRecursion (Sound (Calls n b)) (call_passes app hits n b a)
    passes_sound b h (act.Call kind at args) e =
        let P = Sound (Calls n b) in
        let a : Act = act.Call kind at args in
        each_unless P (is_initialised app n a b) (for_below (argument_at app hits n b kind args) (length args)) (λ f.
        each_below P (argument_at app hits n b kind args) (length args)
        (λ i below. argument_sound kind at args e b (none_ran app n a b (act_of app n there e) f) h i))
    passes_sound b h _ e = tt

    pub content_sound : (v : Content) (x : ℕ) → has (held v n x) → (a : Act) → step.act ≡ a →
        AllByRecursion (Sound (held v n x)) (content_passed app hits n x v a)
    content_sound v x h (act.Call kind at args) e =
        let P = Sound (held v n x) in
        let a : Act = act.Call kind at args in
        let gets : Row → List Conclusion = callee_gets app n a kind args x v in
        each_where P (holds args x) (flat_map gets (hits (CallsAt n))) (λ t. of_hits has hits law P (CallsAt n) gets (λ row j.
        let u = (law (CallsAt n)).under row j in
        let b = u.0 in
        let called = at_hit has hits law _ row _ j u.1 in (
          Calls n b,
          u.1,
          each_unless P (is_initialised app n a b) (for_below (passed_at app n b kind args x v) (length args)) (λ f.
              each_below P (passed_at app n b kind args x v) (length args)
              (λ i below. passed_sound kind at args e b (none_ran app n a b (act_of app n there e) f) called v x h i)),
        )))
    content_sound v x h _ e = tt

  pub calls_sound : (n : Node) (b : Activation) → has (Calls n b) → (o : Option Step) → step_here app n ≡ o →
      AllByRecursion (Sound (Calls n b)) (calls_on app hits n b o)
  calls_sound n b h None e = tt
  calls_sound n b h (Some step) e = passes_sound n step e b h step.act refl

  -- what the call passes is listed by the side of the call and of the content
  module _ (n : Node) (b : Activation) (kind : CallKind) (at : MethodRef) (args : List ℕ) (i x z : ℕ)
      (h : Acts app n (act.Call kind at args)) (place : IsAt args i x) (none : InitialisedBy app n b → ⊥)
      (to : ArgumentRegister app b.method i z) (v : Content) (t : is_passed kind i v ≡ true) where
    abbrev c : Conclusion
    c = passed n b x z v

    abbrev own : Act
    own = act.Call kind at args

    gets_in : has (held v n x) → In c (argument_passed hits n b kind i (Some x) (Some z))
    gets_in k = by_content v t k
      where
        by_content : (w : Content) → is_passed kind i w ≡ true → has (held w n x) →
            In (passed n b x z w) (argument_passed hits n b kind i (Some x) (Some z))
        by_content (Object s) t k =
            let says = passed n b x z (Object s) in
            let gets : Row → List Conclusion = argument_gets n b x z in
            let objects = flat_map gets (hits (PointsAt n x)) in
            in_front says (cond (hangs_on kind i) [] objects) (flat_map gets (hits (TaintsAt n x)))
            (in_unless says (hangs_on kind i) objects (not_true (hangs_on kind i) t)
            (found has hits law (PointsAt n x) gets (Points n x s) says k (s, refl) (inl refl)))
        by_content (Label p l) t k =
            let says = passed n b x z (Label p l) in
            let gets : Row → List Conclusion = argument_gets n b x z in
            in_back says (cond (hangs_on kind i) [] (flat_map gets (hits (PointsAt n x)))) (flat_map gets (hits (TaintsAt n x)))
            (found has hits law (TaintsAt n x) gets (Taint n x p l) says k (p, (l, refl)) (inl refl))

    argument_in : has (held v n x) → In c (argument_at app hits n b kind args i)
    argument_in k =
        subst (λ o. In c (argument_passed hits n b kind i (slice_get args i) o)) (sym (taken app b.method i z to))
        (subst (λ o. In c (argument_passed hits n b kind i o (Some z))) (sym place.there) (gets_in k))

    pub call_complete : has (held v n x) → In c (calls_on app hits n b (step_here app n))
    call_complete k =
        let given = for_below (argument_at app hits n b kind args) (length args) in
        subst (λ o. In c (calls_on app hits n b o)) (sym h.there)
        (subst (λ a. In c (call_passes app hits n b a)) (sym h.same)
        (in_unless c (is_initialised app n own b) given (is_none app n own b h none)
        (in_below c (argument_at app hits n b kind args) i (length args) (slice_get_within args i x place.there) (argument_in k))))

    passed_in : In c (passed_at app n b kind args x v i)
    passed_in =
        let given = passed_to 24 (of_two (Calls n b) (held v n x)) v b (argument_register app b.method i) in
        in_where c (is_register (slice_get args i) x && is_passed kind i v) given
        (and_from (is_register (slice_get args i) x) (is_passed kind i v) (at_is args i x place) t)
        (subst (λ o. In c (passed_to 24 (of_two (Calls n b) (held v n x)) v b o)) (sym (taken app b.method i z to)) (inl refl))

    pub content_complete : has (Calls n b) → In c (content_passed app hits n x v h.step.act)
    content_complete k =
        let gets : Row → List Conclusion = callee_gets app n own kind args x v in
        let given = for_below (passed_at app n b kind args x v) (length args) in
        subst (λ a. In c (content_passed app hits n x v a)) (sym h.same)
        (in_where c (holds args x) (flat_map gets (hits (CallsAt n))) (in_holds x args (in_slice_get args i x place.there))
        (found has hits law (CallsAt n) gets (Calls n b) c k (b, refl)
        (in_unless c (is_initialised app n own b) given (is_none app n own b h none)
        (in_below c (passed_at app n b kind args x v) i (length args) (slice_get_within args i x place.there) passed_in))))
