-- What is listed of the bodies that a node enters, and of the rows that it uses, follows.
use Rattle.std.proofs.Common.{◌≡◌, ◌&&◌, ℕ, Bool, true, false, IsTrue, List, [], ◌∷◌, Option, Some, None, cond, slice_get, refl}
use Rattle.std.proofs.lemmas.Bool.{and_parts}
use Rattle.std.specs.List.{AllByRecursion}
use Rattle.vet_base.specs.Members.{IsAt}
use Rattle.vet_base.proofs.Every.{each_append, each_flat, each_where, each_unless}
use Rattle.app_machine.specs.declared.call.CallKind.{CallKind}
use Rattle.app_machine.specs.declared.call.MethodRef.{MethodRef}
use Rattle.app_machine.specs.declared.method.Act.{Act}
use Rattle.app_machine.specs.declared.method.Act.TheVariants as act
use Rattle.app_machine.specs.declared.method.Method.{Method}
use Rattle.app_machine.specs.declared.method.Step.{Step}
use Rattle.app_machine.specs.declared.summary.Summary.{Summary}
use Rattle.app_machine.specs.declared.lists.Lists.{Lists}
use Rattle.app_machine.specs.declared.lists.SummaryId.{SummaryId}
use Rattle.app_machine.specs.declared.app.App.{App}
use Rattle.app_machine.specs.Names.{Name}
use Rattle.app_machine.specs.Lookups.{Target, Body, Library, Nothing, target, initialisers, is_by_receiver, is_static_call, HasCode}
use Rattle.app_machine.specs.Summaries.{library_key, summary}
use Rattle.app_machine.specs.Safe.{no_summary, native, reflective}
use Rattle.fact_rows.specs.declared.context.Node.{Node}
use Rattle.fact_rows.specs.declared.site.Site.{Site}
use Rattle.fact_rows.specs.declared.row.Row.{Row}
use Rattle.fact_rows.specs.declared.row.Row.TheVariants.{Reached, Points, Calls, CalledBy, Unknown, Uses}
use Rattle.flow_rules.specs.Nodes.{entry, callee}
use Rattle.flow_rules.specs.Sites.{SiteClass, site_class}
use Rattle.flow_rules.specs.CallRules.{CallRule, Enters, calls_it, is_called, reaches_it, is_native, LooksUp, finds_none, finds_reflection, finds_row, enter_direct, enter_class, enter_receiver, use_by_name, use_by_class, enter_initialiser}
use Rattle.rule_ground.specs.declared.conclusion.Premises.{Premises}
use Rattle.rule_ground.specs.declared.conclusion.Conclusion.{Conclusion}
use Rattle.rule_ground.specs.declared.content.Content.TheVariants.{Object}
use Rattle.rule_ground.specs.Given.{of_one, concludes}
use Rattle.rule_ground.specs.Exact.{IsSound}
use Rattle.rule_ground.specs.Listing.{one}
use Rattle.call_targets.specs.EnterGiven.{step_here, with_code, entered, enters, argument_register, passed_to, uses_row, uses_key, looks_up, named_to, named, initialises, reached_on, class_to, class_on, is_register, received}
use Rattle.call_targets.specs.Meaning.{act_of, is_at, takes}

pub each_cond : {A : Type 0} (P : A → Type 0) (b : Bool) (xs ys : List A) → (b ≡ true → AllByRecursion P xs) →
    (b ≡ false → AllByRecursion P ys) → AllByRecursion P (cond b xs ys)
each_cond P true xs ys f g = f refl
each_cond P false xs ys f g = g refl

module _ (app : App) (lists : Lists) (P : Conclusion → Type 0) (premises : Premises) (n : Node) where
  -- what it is to enter a body
  enters_sound : (rule body : ℕ) → ((row : Row) → Enters app n body row → P (concludes rule premises row)) →
      AllByRecursion P (enters app rule premises n body)
  enters_sound rule body h = by_method (slice_get app.methods body) refl
    where
      by_method : (o : Option Method) → slice_get app.methods body ≡ o → AllByRecursion P (entered rule premises n body o)
      by_method None e = tt
      by_method (Some m) e =
          each_cond P m.is_native (concludes rule premises (Unknown n native) ∷ []) (with_code rule premises n body)
          (λ t. (h (Unknown n native) (is_native (record { method = m; there = e; native = t })), tt))
          (λ f.
          let code : HasCode app body m = record { there = e; code = f } in (
            h (Calls n (callee n body)) (calls_it code),
            (h (CalledBy (callee n body) n) (is_called code), (h (Reached (entry (callee n body))) (reaches_it code), tt)),
          ))

  -- what a call on a library class uses
  looks_sound : (kind : CallKind) (at : MethodRef) (class : Name) →
      ((row : Row) → LooksUp app lists n kind at class row → P (concludes 27 premises row)) →
      AllByRecursion P (looks_up app lists premises n kind at class)
  looks_sound kind at class h = by_key (library_key app lists class at.name at.proto (is_static_call kind)) refl
    where
      by_row : (key : SummaryId) → library_key app lists class at.name at.proto (is_static_call kind) ≡ Some key →
          (o : Option Summary) → summary lists key at (is_static_call kind) ≡ o → AllByRecursion P (uses_row premises n key o)
      by_row key e None k = tt
      by_row key e (Some row) k =
          each_cond P row.reflective (concludes 27 premises (Unknown n reflective) ∷ []) (concludes 27 premises (Uses n key) ∷ [])
          (λ t. (h (Unknown n reflective) (finds_reflection e k t), tt))
          (λ f. (h (Uses n key) (finds_row e k f), tt))

      by_key : (o : Option SummaryId) → library_key app lists class at.name at.proto (is_static_call kind) ≡ o →
          AllByRecursion P (uses_key lists premises n kind at o)
      by_key None e = (h (Unknown n no_summary) (finds_none e), tt)
      by_key (Some key) e = by_row key e (summary lists key at (is_static_call kind)) refl

module _ (app : App) (lists : Lists) (has : Row → Type 0) (n : Node) where
  abbrev R : ℕ → List Row → Row → Type 0
  R = CallRule app lists

  abbrev Sound : Row → Conclusion → Type 0
  Sound row = IsSound (CallRule app lists) has row

  -- from one row that is there
  module _ (from : Row) (h : has from) where
    entered_by : (rule body : ℕ) → ((row : Row) → Enters app n body row → CallRule app lists rule (from ∷ []) row) →
        AllByRecursion (Sound from) (enters app rule (of_one from) n body)
    entered_by rule body by = enters_sound app lists (Sound from) (of_one from) n rule body (λ row enter. one R has (by row enter) h)

    looked_up_by : (kind : CallKind) (at : MethodRef) (class : Name) →
        ((row : Row) → LooksUp app lists n kind at class row → CallRule app lists 27 (from ∷ []) row) →
        AllByRecursion (Sound from) (looks_up app lists (of_one from) n kind at class)
    looked_up_by kind at class by =
        looks_sound app lists (Sound from) (of_one from) n kind at class (λ row look. one R has (by row look) h)

  module _ (step : Step) (there : step_here app n ≡ Some step) where
    named_sound : has (Reached n) → (a : Act) → step.act ≡ a →
        AllByRecursion (Sound (Reached n)) (named app lists n a)
    named_sound h (act.Call kind at args) e = to (target app kind n.by.method at None) refl
      where
        to : (t : Target) → target app kind n.by.method at None ≡ t →
            AllByRecursion (Sound (Reached n)) (named_to app lists n kind at t)
        to (Body body) k =
            each_unless (Sound (Reached n)) (is_by_receiver kind) (enters app 22 (of_one (Reached n)) n body)
            (λ f. entered_by (Reached n) h 22 body (λ row enter. enter_direct (act_of app n there e) f k enter))
        to (Library class) k = looked_up_by (Reached n) h kind at class (λ row look. use_by_name (act_of app n there e) k look)
        to Nothing k = tt
    named_sound h _ e = tt

    initialises_sound : has (Reached n) → AllByRecursion (Sound (Reached n)) (initialises app n (initialisers app step.act))
    initialises_sound h =
        each_flat (Sound (Reached n)) (λ body. enters app 28 (of_one (Reached n)) n body) (initialisers app step.act) (λ body i.
        entered_by (Reached n) h 28 body (λ row enter.
        enter_initialiser (record { act = step.act; at = act_of app n there refl; is_one = i }) enter))

    -- what a virtual or interface call comes to by an object that its receiver may be
    module _ (x : ℕ) (s : Site) (h : has (Points n x s)) (kind : CallKind) (at : MethodRef) (args : List ℕ)
        (e : step.act ≡ act.Call kind at args) (f : IsTrue (is_by_receiver kind)) (first : IsAt args 0 x) where
      abbrev P : Conclusion → Type 0
      P = Sound (Points n x s)

      target_sound : (class : Name) → SiteClass app lists s class → (t : Target) →
          target app kind n.by.method at (Some class) ≡ t → AllByRecursion P (class_to app lists n x s kind at t)
      target_sound class is (Body body) k =
          each_append P (enters app 23 (of_one (Points n x s)) n body)
          (passed_to 23 (of_one (Points n x s)) (Object s) (callee n body) (argument_register app body 0))
          (entered_by (Points n x s) h 23 body (λ row enter. enter_class (act_of app n there e) f first is k enter))
          (by_register (argument_register app body 0) refl)
        where
          by_register : (o : Option ℕ) → argument_register app body 0 ≡ o →
              AllByRecursion P (passed_to 23 (of_one (Points n x s)) (Object s) (callee n body) o)
          by_register None r = tt
          by_register (Some z) r = (one R has (enter_receiver (act_of app n there e) f first is k (takes app body 0 z r)) h, tt)
      target_sound class is (Library above) k =
          looked_up_by (Points n x s) h kind at above (λ row look. use_by_class (act_of app n there e) f first is k look)
      target_sound class is Nothing k = tt

      class_sound : (o : Option Name) → site_class app lists s ≡ o → AllByRecursion P (class_on app lists n x s kind at o)
      class_sound None k = tt
      class_sound (Some class) k = target_sound class (record { is_class = k }) (target app kind n.by.method at (Some class)) refl

    pub received_sound : (x : ℕ) (s : Site) → has (Points n x s) → (a : Act) → step.act ≡ a →
        AllByRecursion (Sound (Points n x s)) (received app lists n x s a)
    received_sound x s h (act.Call kind at args) e =
        let is_receiver = is_by_receiver kind && is_register (slice_get args 0) x in
        each_where (Sound (Points n x s)) is_receiver (class_on app lists n x s kind at (site_class app lists s)) (λ t.
        let both = and_parts (is_by_receiver kind) (is_register (slice_get args 0) x) t in
        class_sound x s h kind at args e both.0 (is_at args 0 x both.1) (site_class app lists s) refl)
    received_sound x s h _ e = tt

  -- what follows where control comes to the node
  pub reached_sound : has (Reached n) → (o : Option Step) → step_here app n ≡ o →
      AllByRecursion (Sound (Reached n)) (reached_on app lists n o)
  reached_sound h None e = tt
  reached_sound h (Some step) e =
      each_append (Sound (Reached n)) (named app lists n step.act) (initialises app n (initialisers app step.act))
      (named_sound step e h step.act refl) (initialises_sound step e h)
