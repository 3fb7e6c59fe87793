-- What follows of the bodies that a node enters, and of the rows that it uses, is listed.
use Rattle.std.proofs.Common.{◌≡◌, ◌&&◌, ℕ, IsTrue, IsFalse, List, [], ◌∷◌, Some, None, cond, slice_get, refl, sym, subst, inl, inr}
use Rattle.std.proofs.lemmas.Bool.{and_from}
use Rattle.vet_base.specs.Members.{In, IsAt}
use Rattle.vet_base.proofs.Members.{in_front, in_back, in_flat}
use Rattle.vet_base.proofs.Every.{in_where, in_unless}
use Rattle.app_machine.specs.declared.call.CallKind.{CallKind}
use Rattle.app_machine.specs.declared.call.MethodRef.{MethodRef}
use Rattle.app_machine.specs.declared.method.Act.TheVariants as act
use Rattle.app_machine.specs.declared.method.Method.{Method}
use Rattle.app_machine.specs.declared.method.Step.{Step}
use Rattle.app_machine.specs.declared.lists.Lists.{Lists}
use Rattle.app_machine.specs.declared.app.App.{App}
use Rattle.app_machine.specs.Names.{Name}
use Rattle.app_machine.specs.Lookups.{Body, Library, target, initialisers, is_by_receiver, HasCode, Initialises}
use Rattle.app_machine.specs.Safe.{no_summary, native, reflective}
use Rattle.fact_rows.specs.declared.context.Node.{Node}
use Rattle.fact_rows.specs.declared.site.Site.{Site}
use Rattle.fact_rows.specs.declared.row.Row.{Row}
use Rattle.fact_rows.specs.declared.row.Row.TheVariants.{Reached, Points, Calls, CalledBy, Unknown, Uses}
use Rattle.flow_rules.specs.Nodes.{entry, callee, Acts, ArgumentRegister}
use Rattle.flow_rules.specs.Sites.{SiteClass, site_class}
use Rattle.flow_rules.specs.CallRules.{Enters, calls_it, is_called, reaches_it, is_native, LooksUp, finds_none, finds_reflection, finds_row}
use Rattle.rule_ground.specs.declared.conclusion.Premises.{Premises}
use Rattle.rule_ground.specs.declared.conclusion.Conclusion.{Conclusion}
use Rattle.rule_ground.specs.declared.content.Content.TheVariants.{Object}
use Rattle.rule_ground.specs.Given.{of_one, concludes}
use Rattle.call_targets.specs.EnterGiven.{step_here, with_code, entered, enters, argument_register, passed_to, uses_row, uses_key, looks_up, named_to, named, initialises, reached_on, class_to, class_on, is_register, received}
use Rattle.call_targets.specs.Meaning.{at_is, taken}

module _ (app : App) (lists : Lists) (premises : Premises) (n : Node) where
  -- what it is to enter a body
  module _ (rule body : ℕ) where
    coded : (row : Row) (m : Method) → HasCode app body m → In (concludes rule premises row) (with_code rule premises n body) →
        In (concludes rule premises row) (enters app rule premises n body)
    coded row m code i =
        let c = concludes rule premises row in
        subst (λ o. In c (entered rule premises n body o)) (sym code.there)
        (subst (λ b. In c (cond b (concludes rule premises (Unknown n native) ∷ []) (with_code rule premises n body))) (sym code.code) i)

    enters_complete : (row : Row) → Enters app n body row → In (concludes rule premises row) (enters app rule premises n body)
    enters_complete row (calls_it {m = m} code) = coded (Calls n (callee n body)) m code (inl refl)
    enters_complete row (is_called {m = m} code) = coded (CalledBy (callee n body) n) m code (inr (inl refl))
    enters_complete row (reaches_it {m = m} code) = coded (Reached (entry (callee n body))) m code (inr (inr (inl refl)))
    enters_complete row (is_native h) =
        let c = concludes rule premises (Unknown n native) in
        subst (λ o. In c (entered rule premises n body o)) (sym h.there)
        (subst (λ b. In c (cond b (c ∷ []) (with_code rule premises n body))) (sym h.native) (inl refl))

  -- what a call on a library class uses
  looks_complete : (kind : CallKind) (at : MethodRef) (class : Name) (row : Row) → LooksUp app lists n kind at class row →
      In (concludes 27 premises row) (looks_up app lists premises n kind at class)
  looks_complete kind at class row (finds_none e) =
      subst (λ o. In (concludes 27 premises (Unknown n no_summary)) (uses_key lists premises n kind at o)) (sym e) (inl refl)
  looks_complete kind at class row (finds_reflection {key = key} {row = own} e k t) =
      let c = concludes 27 premises (Unknown n reflective) in
      subst (λ o. In c (uses_key lists premises n kind at o)) (sym e)
      (subst (λ o. In c (uses_row premises n key o)) (sym k)
      (subst (λ b. In c (cond b (c ∷ []) (concludes 27 premises (Uses n key) ∷ []))) (sym t) (inl refl)))
  looks_complete kind at class row (finds_row {key = key} {row = own} e k f) =
      let c = concludes 27 premises (Uses n key) in
      subst (λ o. In c (uses_key lists premises n kind at o)) (sym e)
      (subst (λ o. In c (uses_row premises n key o)) (sym k)
      (subst (λ b. In c (cond b (concludes 27 premises (Unknown n reflective) ∷ []) (c ∷ []))) (sym f) (inl refl)))

module _ (app : App) (lists : Lists) (n : Node) (c : Conclusion) where
  -- the list of what the step gives is that of what the node gives
  at_reached : (step : Step) → step_here app n ≡ Some step → In c (reached_on app lists n (Some step)) →
      In c (reached_on app lists n (step_here app n))
  at_reached step there i = subst (λ o. In c (reached_on app lists n o)) (sym there) i

module _ (app : App) (lists : Lists) (n : Node) (kind : CallKind) (at : MethodRef) (args : List ℕ)
    (h : Acts app n (act.Call kind at args)) where
  named_in : (c : Conclusion) → In c (named app lists n (act.Call kind at args)) → In c (reached_on app lists n (step_here app n))
  named_in c i = at_reached app lists n c h.step h.there
      (in_front c (named app lists n h.step.act) (initialises app n (initialisers app h.step.act))
      (subst (λ a. In c (named app lists n a)) (sym h.same) i))

  pub direct_complete : (body : ℕ) (row : Row) → IsFalse (is_by_receiver kind) → target app kind n.by.method at None ≡ Body body →
      Enters app n body row → In (concludes 22 (of_one (Reached n)) row) (reached_on app lists n (step_here app n))
  direct_complete body row f k enter =
      let c = concludes 22 (of_one (Reached n)) row in
      named_in c (subst (λ t. In c (named_to app lists n kind at t)) (sym k)
      (in_unless c (is_by_receiver kind) (enters app 22 (of_one (Reached n)) n body) f
      (enters_complete app lists (of_one (Reached n)) n 22 body row enter)))

  pub name_complete : (class : Name) (row : Row) → target app kind n.by.method at None ≡ Library class →
      LooksUp app lists n kind at class row → In (concludes 27 (of_one (Reached n)) row) (reached_on app lists n (step_here app n))
  name_complete class row k look =
      let c = concludes 27 (of_one (Reached n)) row in
      named_in c (subst (λ t. In c (named_to app lists n kind at t)) (sym k)
      (looks_complete app lists (of_one (Reached n)) n kind at class row look))

  module _ (x : ℕ) (s : Site) (class : Name) (f : IsTrue (is_by_receiver kind)) (first : IsAt args 0 x)
      (is : SiteClass app lists s class) where
    received_in : (c : Conclusion) → In c (class_to app lists n x s kind at (target app kind n.by.method at (Some class))) →
        In c (received app lists n x s h.step.act)
    received_in c i =
        subst (λ a. In c (received app lists n x s a)) (sym h.same)
        (in_where c (is_by_receiver kind && is_register (slice_get args 0) x) (class_on app lists n x s kind at (site_class app lists s))
        (and_from (is_by_receiver kind) (is_register (slice_get args 0) x) f (at_is args 0 x first))
        (subst (λ o. In c (class_on app lists n x s kind at o)) (sym is.is_class) i))

    body_in : (body : ℕ) (c : Conclusion) → target app kind n.by.method at (Some class) ≡ Body body →
        In c (class_to app lists n x s kind at (Body body)) → In c (received app lists n x s h.step.act)
    body_in body c k i = received_in c (subst (λ t. In c (class_to app lists n x s kind at t)) (sym k) i)

    pub class_complete : (body : ℕ) (row : Row) → target app kind n.by.method at (Some class) ≡ Body body → Enters app n body row →
        In (concludes 23 (of_one (Points n x s)) row) (received app lists n x s h.step.act)
    class_complete body row k enter =
        let c = concludes 23 (of_one (Points n x s)) row in
        let as_receiver = passed_to 23 (of_one (Points n x s)) (Object s) (callee n body) (argument_register app body 0) in
        body_in body c k
        (in_front c (enters app 23 (of_one (Points n x s)) n body) as_receiver
        (enters_complete app lists (of_one (Points n x s)) n 23 body row enter))

    pub receiver_complete : (body z : ℕ) → target app kind n.by.method at (Some class) ≡ Body body → ArgumentRegister app body 0 z →
        In (concludes 23 (of_one (Points n x s)) (Points (entry (callee n body)) z s)) (received app lists n x s h.step.act)
    receiver_complete body z k a =
        let c = concludes 23 (of_one (Points n x s)) (Points (entry (callee n body)) z s) in
        let as_receiver = passed_to 23 (of_one (Points n x s)) (Object s) (callee n body) (argument_register app body 0) in
        body_in body c k
        (in_back c (enters app 23 (of_one (Points n x s)) n body) as_receiver
        (subst (λ o. In c (passed_to 23 (of_one (Points n x s)) (Object s) (callee n body) o)) (sym (taken app body 0 z a)) (inl refl)))

    pub use_complete : (above : Name) (row : Row) → target app kind n.by.method at (Some class) ≡ Library above →
        LooksUp app lists n kind at above row → In (concludes 27 (of_one (Points n x s)) row) (received app lists n x s h.step.act)
    use_complete above row k look =
        let c = concludes 27 (of_one (Points n x s)) row in
        received_in c (subst (λ t. In c (class_to app lists n x s kind at t)) (sym k)
        (looks_complete app lists (of_one (Points n x s)) n kind at above row look))

module _ (app : App) (lists : Lists) (n : Node) where
  pub initialiser_complete : (body : ℕ) (row : Row) → Initialises app n.by.method n.pc body → Enters app n body row →
      In (concludes 28 (of_one (Reached n)) row) (reached_on app lists n (step_here app n))
  initialiser_complete body row h enter =
      let c = concludes 28 (of_one (Reached n)) row in
      let step = h.at.step in
      let among : In body (initialisers app step.act) = subst (λ a. In body (initialisers app a)) (sym h.at.same) h.is_one in
      at_reached app lists n c step h.at.there
      (in_back c (named app lists n step.act) (initialises app n (initialisers app step.act))
      (in_flat (λ b. enters app 28 (of_one (Reached n)) n b) (initialisers app step.act) body c among
      (enters_complete app lists (of_one (Reached n)) n 28 body row enter)))
