-- What a call passes: what is listed follows, and what follows is listed.
use Rattle.std.proofs.Common.{◌≡◌, ◌&&◌, ℕ, Bool, true, false, List, [], ◌∷◌, Option, Some, None, cond, flat_map, length, slice_get, refl, sym, ap, subst, inl, inr}
use Rattle.std.specs.Prelude.{IsTrue}
use Rattle.std.proofs.lemmas.Bool.{and_parts, and_from}
use Rattle.std.proofs.lemmas.Option.{slice_get_within}
use Rattle.std.specs.List.{AllByRecursion}
use Rattle.vet_base.specs.Members.{In, IsAt}
use Rattle.vet_base.proofs.Members.{in_front, in_back, in_slice_get}
use Rattle.vet_base.proofs.Every.{each_append, each_where, each_unless, in_where, in_unless}
use Rattle.app_machine.specs.declared.call.CallKind.{CallKind}
use Rattle.app_machine.specs.declared.call.MethodRef.{MethodRef}
use Rattle.app_machine.specs.declared.method.Act.{Act}
use Rattle.app_machine.specs.declared.method.Act.TheVariants as act
use Rattle.app_machine.specs.declared.method.Step.{Step}
use Rattle.app_machine.specs.declared.lists.Lists.{Lists}
use Rattle.app_machine.specs.declared.app.App.{App}
use Rattle.app_machine.specs.Names.{Name}
use Rattle.app_machine.specs.Lookups.{Target, Body, Library, Nothing, target, is_by_receiver}
use Rattle.app_machine.specs.State.{holds}
use Rattle.fact_rows.specs.declared.context.Activation.{Activation}
use Rattle.fact_rows.specs.declared.context.Node.{Node}
use Rattle.fact_rows.specs.declared.site.Site.{Site}
use Rattle.fact_rows.specs.declared.row.Row.{Row}
use Rattle.fact_rows.specs.declared.row.Row.TheVariants as fact
use Rattle.flow_rules.specs.Nodes.{entry, callee, Acts, ArgumentRegister, InitialisedBy}
use Rattle.flow_rules.specs.Sites.{SiteClass, site_class}
use Rattle.rule_ground.specs.declared.conclusion.Premises.{Premises}
use Rattle.rule_ground.specs.declared.conclusion.Conclusion.{Conclusion}
use Rattle.rule_ground.specs.declared.key.Key.{Key}
use Rattle.rule_ground.specs.declared.key.Key.TheVariants.{PointsAt, LabelsAt, CallsAt}
use Rattle.rule_ground.specs.Given.{of_one, of_two, concludes}
use Rattle.rule_ground.specs.Hits.{IsHits}
use Rattle.rule_ground.specs.Exact.{IsSound}
use Rattle.rule_ground.specs.Below.{for_below, each_below, in_below}
use Rattle.rule_ground.specs.Listing.{one, first, second, at_hit, of_hits, found, in_holds}
use Rattle.call_targets.specs.EnterGiven.{argument_register, is_register}
use Rattle.call_targets.specs.Meaning.{is_at, at_is, takes, taken}
use Rattle.call_rules.specs.PassGiven.{is_initialised, hangs_on}
use Rattle.call_rules.specs.Initialised.{may_pass, none_ran, is_none}
use Rattle.register_readers.specs.Readings.{Readings}
use Rattle.cell_rules.specs.CallRules.{CallRule, enter_receiver, pass_points, pass_label}
use Rattle.cell_rules.specs.Reading.{ReadAt, node_in}
use Rattle.cell_ground.specs.declared.content.Content.{Content}
use Rattle.cell_ground.specs.declared.content.Content.TheVariants.{Object, Label}
use Rattle.cell_ground.specs.Coming.{held}
use Rattle.cell_ground.specs.ComingListed.{coming_sound, in_coming}
use Rattle.cell_ground.specs.Ready.{Ready, listed_argument}
use Rattle.cell_ground.specs.Steps.{step_here, act_of}
use Rattle.cell_call_rules.specs.CellPassGiven.{is_passed, passed_to, argument_gets, argument_passed, class_to, class_on, received, argument_at, call_passes, calls_on, passed_at, callee_gets, content_passed}

not_true : (b : Bool) → cond b false true ≡ true → b ≡ false
not_true true t = absurd cc
not_true false t = refl

-- what comes to a register from the first step of an activation
module _ (app : App) (readings : Readings) (ready : Ready app readings) (rule : ℕ) (premises : Premises) (v : Content) (b : Activation) (z : ℕ) where
  at_first : (pc u : ℕ) → In pc (0 ∷ []) → ReadAt app b.method z pc u → ReadAt app b.method z 0 u
  at_first pc u (inl same) read = subst (λ q. ReadAt app b.method z q u) same read
  at_first pc u (inr none) read = absurd none

  entry_sound : (P : Conclusion → Type 0) → ((u : ℕ) → ReadAt app b.method z 0 u → P (concludes rule premises (held v (node_in b u) z))) →
      AllByRecursion P (passed_to readings rule premises v b (Some z))
  entry_sound P h =
      coming_sound app readings ready P rule premises v (entry b) (0 ∷ []) z (λ pc u i read. h u (at_first pc u i read))

  in_entry : (i u : ℕ) → ArgumentRegister app b.method i z → ReadAt app b.method z 0 u →
      In (concludes rule premises (held v (node_in b u) z)) (passed_to readings rule premises v b (Some z))
  in_entry i u to read =
      in_coming readings rule premises v (entry b) (0 ∷ []) z 0 u (inl refl) (listed_argument app readings ready b.method i z u to read)

-- the rule, once for both kinds of content
module _ (app : App) (lists : Lists) (n : Node) (b : Activation) (kind : CallKind) (at : MethodRef) (args : List ℕ) where
  pass : (v : Content) (i x z u : ℕ) → Acts app n (act.Call kind at args) → IsAt args i x → is_passed kind i v ≡ true →
      (InitialisedBy app n b → ⊥) → ArgumentRegister app b.method i z → ReadAt app b.method z 0 u →
      CallRule app lists 24 (fact.Calls n b ∷ held v n x ∷ []) (held v (node_in b u) z)
  pass (Object s) i x z u h place t none to read = pass_points i h place (may_pass (is_by_receiver kind) i t) none to read
  pass (Label l) i x z u h place t none to read = pass_label i h place none to read

module _ (app : App) (readings : Readings) (ready : Ready app readings) (lists : Lists) (has : Row → Type 0) (hits : Key → List Row) (law : (k : Key) → IsHits has k (hits k)) where
  abbrev R : ℕ → List Row → Row → Type 0
  R = CallRule app lists

  abbrev Sound : Row → Conclusion → Type 0
  Sound row = IsSound (CallRule app lists) has row

  module _ (n : Node) (step : Step) (there : step_here app n ≡ Some step) where
    -- 23
    module _ (x : ℕ) (s : Site) (h : has (fact.Points n x s)) (kind : CallKind) (at : MethodRef) (args : List ℕ)
        (e : step.act ≡ act.Call kind at args) (f : IsTrue (is_by_receiver kind)) (place : IsAt args 0 x) where
      target_sound : (class : Name) → SiteClass app lists s class → (t : Target) → target app kind n.by.method at (Some class) ≡ t →
          AllByRecursion (Sound (fact.Points n x s)) (class_to app readings n x s t)
      target_sound class is (Body body) k = by_register (argument_register app body 0) refl
        where
          by_register : (o : Option ℕ) → argument_register app body 0 ≡ o →
              AllByRecursion (Sound (fact.Points n x s)) (passed_to readings 23 (of_one (fact.Points n x s)) (Object s) (callee n body) o)
          by_register None r = tt
          by_register (Some z) r =
              entry_sound app readings ready 23 (of_one (fact.Points n x s)) (Object s) (callee n body) z (Sound (fact.Points n x s))
              (λ u read. one R has (enter_receiver (act_of app n there e) f place is k (takes app body 0 z r) read) h)
      target_sound class is (Library above) k = tt
      target_sound class is Nothing k = tt

      class_sound : (o : Option Name) → site_class app lists s ≡ o → AllByRecursion (Sound (fact.Points n x s)) (class_on app readings n x s kind at o)
      class_sound None k = tt
      class_sound (Some class) k = target_sound class (record { is_class = k }) (target app kind n.by.method at (Some class)) refl

    pub received_sound : (x : ℕ) (s : Site) → has (fact.Points n x s) → (a : Act) → step.act ≡ a →
        AllByRecursion (Sound (fact.Points n x s)) (received app readings lists n x s a)
    received_sound x s h (act.Call kind at args) e =
        each_where (Sound (fact.Points n x s)) (is_by_receiver kind && is_register (slice_get args 0) x) (class_on app readings n x s kind at (site_class app lists s)) (λ t.
        let both = and_parts (is_by_receiver kind) (is_register (slice_get args 0) x) t in
        class_sound x s h kind at args e both.0 (is_at args 0 x both.1) (site_class app lists s) refl)
    received_sound x s h _ e = tt

    -- 24
    module _ (kind : CallKind) (at : MethodRef) (args : List ℕ) (e : step.act ≡ act.Call kind at args)
        (b : Activation) (none : InitialisedBy app n b → ⊥) where
      passed_by : (v : Content) (i x z u : ℕ) → IsAt args i x → is_passed kind i v ≡ true → argument_register app b.method i ≡ Some z →
          ReadAt app b.method z 0 u → CallRule app lists 24 (fact.Calls n b ∷ held v n x ∷ []) (held v (node_in b u) z)
      passed_by v i x z u place t to read =
          pass app lists n b kind at args v i x z u (act_of app n there e) place t none (takes app b.method i z to) read

      -- from the call
      register_sound : has (fact.Calls n b) → (i x z : ℕ) → IsAt args i x → argument_register app b.method i ≡ Some z →
          AllByRecursion (Sound (fact.Calls n b)) (argument_passed readings hits n b kind i (Some x) (Some z))
      register_sound h i x z place to =
          let P = Sound (fact.Calls n b) in
          let gets : Row → List Conclusion = argument_gets readings n b x z in
          let objects = flat_map gets (hits (PointsAt n x)) in
          each_append P (cond (hangs_on kind i) [] objects) (flat_map gets (hits (LabelsAt n x)))
          (each_unless P (hangs_on kind i) objects (λ t. of_hits has hits law P (PointsAt n x) gets (λ row j.
          let w = (law (PointsAt n x)).under row j in (
            fact.Points n x w.0,
            w.1,
            entry_sound app readings ready 24 (of_two (fact.Calls n b) (fact.Points n x w.0)) (Object w.0) b z P (λ u read.
                first R has (passed_by (Object w.0) i x z u place (ap (λ c. cond c false true) t) to read) h (at_hit has hits law _ row _ j w.1)),
          ))))
          (of_hits has hits law P (LabelsAt n x) gets (λ row j.
          let w = (law (LabelsAt n x)).under row j in (
            fact.Label n x w.0,
            w.1,
            entry_sound app readings ready 24 (of_two (fact.Calls n b) (fact.Label n x w.0)) (Label w.0) b z P (λ u read.
                first R has (passed_by (Label w.0) i x z u place refl to read) h (at_hit has hits law _ row _ j w.1)),
          )))

      argument_sound : has (fact.Calls n b) → (i : ℕ) → AllByRecursion (Sound (fact.Calls n b)) (argument_at app readings hits n b kind args i)
      argument_sound h i = by_place (slice_get args i) refl (argument_register app b.method i) refl
        where
          by_place : (o : Option ℕ) → slice_get args i ≡ o → (q : Option ℕ) → argument_register app b.method i ≡ q →
              AllByRecursion (Sound (fact.Calls n b)) (argument_passed readings hits n b kind i o q)
          by_place None f q g = tt
          by_place (Some x) f None g = tt
          by_place (Some x) f (Some z) g = register_sound h i x z (record { there = f }) g

      -- from the content
      passed_sound : has (fact.Calls n b) → (v : Content) (x : ℕ) → has (held v n x) → (i : ℕ) →
          AllByRecursion (Sound (held v n x)) (passed_at app readings n b kind args x v i)
      passed_sound k v x h i =
          let given = passed_to readings 24 (of_two (fact.Calls n b) (held v n x)) v b (argument_register app b.method i) in
          each_where (Sound (held v n x)) (is_register (slice_get args i) x && is_passed kind i v) given (λ w.
          let both = and_parts (is_register (slice_get args i) x) (is_passed kind i v) w in
          by_register (is_at args i x both.0) both.1 (argument_register app b.method i) refl)
        where
          by_register : IsAt args i x → is_passed kind i v ≡ true → (o : Option ℕ) → argument_register app b.method i ≡ o →
              AllByRecursion (Sound (held v n x)) (passed_to readings 24 (of_two (fact.Calls n b) (held v n x)) v b o)
          by_register place t None g = tt
          by_register place t (Some z) g =
              entry_sound app readings ready 24 (of_two (fact.Calls n b) (held v n x)) v b z (Sound (held v n x))
              (λ u read. second R has (passed_by v i x z u place t g read) k h)

    passes_sound : (b : Activation) → has (fact.Calls n b) → (a : Act) → step.act ≡ a →
        AllByRecursion (Sound (fact.Calls n b)) (call_passes app readings hits n b a)
    passes_sound b h (act.Call kind at args) e =
        let P = Sound (fact.Calls n b) in
        let a : Act = act.Call kind at args in
        each_unless P (is_initialised app n a b) (for_below (argument_at app readings hits n b kind args) (length args)) (λ f.
        each_below P (argument_at app readings hits n b kind args) (length args)
        (λ i below. argument_sound kind at args e b (none_ran app n a b (act_of app n there e) f) h i))
    passes_sound b h _ e = tt

    pub content_sound : (v : Content) (x : ℕ) → has (held v n x) → (a : Act) → step.act ≡ a →
        AllByRecursion (Sound (held v n x)) (content_passed app readings hits n x v a)
    content_sound v x h (act.Call kind at args) e =
        let P = Sound (held v n x) in
        let a : Act = act.Call kind at args in
        let gets : Row → List Conclusion = callee_gets app readings n a kind args x v in
        each_where P (holds args x) (flat_map gets (hits (CallsAt n))) (λ t. of_hits has hits law P (CallsAt n) gets (λ row j.
        let w = (law (CallsAt n)).under row j in
        let b = w.0 in
        let called = at_hit has hits law _ row _ j w.1 in (
          fact.Calls n b,
          w.1,
          each_unless P (is_initialised app n a b) (for_below (passed_at app readings n b kind args x v) (length args)) (λ f.
              each_below P (passed_at app readings n b kind args x v) (length args)
              (λ i below. passed_sound kind at args e b (none_ran app n a b (act_of app n there e) f) called v x h i)),
        )))
    content_sound v x h _ e = tt

  pub calls_sound : (n : Node) (b : Activation) → has (fact.Calls n b) → (o : Option Step) → step_here app n ≡ o →
      AllByRecursion (Sound (fact.Calls n b)) (calls_on app readings hits n b o)
  calls_sound n b h None e = tt
  calls_sound n b h (Some step) e = passes_sound n step e b h step.act refl

  -- 23 is listed
  pub receiver_complete : (n : Node) (kind : CallKind) (at : MethodRef) (args : List ℕ) (h : Acts app n (act.Call kind at args)) (x : ℕ) (s : Site)
      (class : Name) → IsTrue (is_by_receiver kind) → IsAt args 0 x → SiteClass app lists s class → (body z u : ℕ) →
      target app kind n.by.method at (Some class) ≡ Body body → ArgumentRegister app body 0 z → ReadAt app body z 0 u →
      In (concludes 23 (of_one (fact.Points n x s)) (fact.Points (node_in (callee n body) u) z s)) (received app readings lists n x s h.step.act)
  receiver_complete n kind at args h x s class f place is body z u to takes_it read =
      let c = concludes 23 (of_one (fact.Points n x s)) (fact.Points (node_in (callee n body) u) z s) in
      let premises = of_one (fact.Points n x s) in
      subst (λ a. In c (received app readings lists n x s a)) (sym h.same)
      (in_where c (is_by_receiver kind && is_register (slice_get args 0) x) (class_on app readings n x s kind at (site_class app lists s))
      (and_from (is_by_receiver kind) (is_register (slice_get args 0) x) f (at_is args 0 x place))
      (subst (λ o. In c (class_on app readings n x s kind at o)) (sym is.is_class)
      (subst (λ t. In c (class_to app readings n x s t)) (sym to)
      (subst (λ o. In c (passed_to readings 23 premises (Object s) (callee n body) o)) (sym (taken app body 0 z takes_it))
      (in_entry app readings ready 23 premises (Object s) (callee n body) z 0 u takes_it read)))))

  -- what the call passes is listed by the side of the call and of the content
  module _ (n : Node) (b : Activation) (kind : CallKind) (at : MethodRef) (args : List ℕ) (i x z u : ℕ)
      (h : Acts app n (act.Call kind at args)) (place : IsAt args i x) (none : InitialisedBy app n b → ⊥)
      (to : ArgumentRegister app b.method i z) (read : ReadAt app b.method z 0 u) (v : Content) (t : is_passed kind i v ≡ true) where
    abbrev c : Conclusion
    c = concludes 24 (of_two (fact.Calls n b) (held v n x)) (held v (node_in b u) z)

    abbrev own : Act
    own = act.Call kind at args

    gets_in : has (held v n x) → In c (argument_passed readings hits n b kind i (Some x) (Some z))
    gets_in k = by_content v t k
      where
        by_content : (w : Content) → is_passed kind i w ≡ true → has (held w n x) →
            In (concludes 24 (of_two (fact.Calls n b) (held w n x)) (held w (node_in b u) z)) (argument_passed readings hits n b kind i (Some x) (Some z))
        by_content (Object s) t k =
            let says = concludes 24 (of_two (fact.Calls n b) (fact.Points n x s)) (fact.Points (node_in b u) z s) in
            let gets : Row → List Conclusion = argument_gets readings n b x z in
            let objects = flat_map gets (hits (PointsAt n x)) in
            in_front says (cond (hangs_on kind i) [] objects) (flat_map gets (hits (LabelsAt n x)))
            (in_unless says (hangs_on kind i) objects (not_true (hangs_on kind i) t)
            (found has hits law (PointsAt n x) gets (fact.Points n x s) says k (s, refl)
            (in_entry app readings ready 24 (of_two (fact.Calls n b) (fact.Points n x s)) (Object s) b z i u to read)))
        by_content (Label l) t k =
            let says = concludes 24 (of_two (fact.Calls n b) (fact.Label n x l)) (fact.Label (node_in b u) z l) in
            let gets : Row → List Conclusion = argument_gets readings n b x z in
            in_back says (cond (hangs_on kind i) [] (flat_map gets (hits (PointsAt n x)))) (flat_map gets (hits (LabelsAt n x)))
            (found has hits law (LabelsAt n x) gets (fact.Label n x l) says k (l, refl)
            (in_entry app readings ready 24 (of_two (fact.Calls n b) (fact.Label n x l)) (Label l) b z i u to read))

    argument_in : has (held v n x) → In c (argument_at app readings hits n b kind args i)
    argument_in k =
        subst (λ o. In c (argument_passed readings hits n b kind i (slice_get args i) o)) (sym (taken app b.method i z to))
        (subst (λ o. In c (argument_passed readings hits n b kind i o (Some z))) (sym place.there) (gets_in k))

    pub call_complete : has (held v n x) → In c (calls_on app readings hits n b (step_here app n))
    call_complete k =
        let given = for_below (argument_at app readings hits n b kind args) (length args) in
        subst (λ o. In c (calls_on app readings hits n b o)) (sym h.there)
        (subst (λ a. In c (call_passes app readings hits n b a)) (sym h.same)
        (in_unless c (is_initialised app n own b) given (is_none app n own b h none)
        (in_below c (argument_at app readings hits n b kind args) i (length args) (slice_get_within args i x place.there) (argument_in k))))

    passed_in : In c (passed_at app readings n b kind args x v i)
    passed_in =
        let both = of_two (fact.Calls n b) (held v n x) in
        let given = passed_to readings 24 both v b (argument_register app b.method i) in
        in_where c (is_register (slice_get args i) x && is_passed kind i v) given
        (and_from (is_register (slice_get args i) x) (is_passed kind i v) (at_is args i x place) t)
        (subst (λ o. In c (passed_to readings 24 both v b o)) (sym (taken app b.method i z to)) (in_entry app readings ready 24 both v b z i u to read))

    pub content_complete : has (fact.Calls n b) → In c (content_passed app readings hits n x v h.step.act)
    content_complete k =
        let gets : Row → List Conclusion = callee_gets app readings n own kind args x v in
        let given = for_below (passed_at app readings n b kind args x v) (length args) in
        subst (λ a. In c (content_passed app readings hits n x v a)) (sym h.same)
        (in_where c (holds args x) (flat_map gets (hits (CallsAt n))) (in_holds x args (in_slice_get args i x place.there))
        (found has hits law (CallsAt n) gets (fact.Calls n b) c k (b, refl)
        (in_unless c (is_initialised app n own b) given (is_none app n own b h none)
        (in_below c (passed_at app readings n b kind args x v) i (length args) (slice_get_within args i x place.there) passed_in))))
