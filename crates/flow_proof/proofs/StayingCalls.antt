-- What the rules of calls give of rows in the app is in the app.
use Rattle.std.proofs.Common.{◌≡◌, ℕ, Bool, ◌&&◌, List, Option, Some, None, option_map, refl, subst, arith}
use Rattle.std.specs.Prelude.{is_some}
use Rattle.std.proofs.lemmas.Bool.{and_parts}
use Rattle.std.proofs.lemmas.Option.{none-some, same_Some, slice_get_within}
use Rattle.vet_base.specs.Members.{In, first_given}
use Rattle.vet_base.proofs.Firsts.{index_found, index_below, given_found}
use Rattle.vet_base.proofs.Options.{some_of}
use Rattle.app_machine.specs.declared.call.Proto.{Proto}
use Rattle.app_machine.specs.declared.call.MethodRef.{MethodRef}
use Rattle.app_machine.specs.declared.call.CallKind.{CallKind}
use Rattle.app_machine.specs.declared.call.CallKind.TheVariants.{Static}
use Rattle.app_machine.specs.declared.method.Method.{Method}
use Rattle.app_machine.specs.declared.method.Act.{Act}
use Rattle.app_machine.specs.declared.method.Act.TheVariants.{New, GetStatic, PutStatic, Call}
use Rattle.app_machine.specs.declared.summary.Summary.{Summary}
use Rattle.app_machine.specs.declared.lists.LibClass.{LibClass}
use Rattle.app_machine.specs.declared.lists.Lists.{Lists}
use Rattle.app_machine.specs.declared.lists.SummaryId.{SummaryId}
use Rattle.app_machine.specs.declared.lists.SummaryId.TheVariants.{Row as RowOf, Fallback}
use Rattle.app_machine.specs.declared.app.App.{App}
use Rattle.app_machine.specs.Names.{Name, same_name, same_proto}
use Rattle.app_machine.specs.Lookups.{ActAt, HasCode, initialisers, class_initialised, Initialises}
use Rattle.app_machine.specs.Summaries.{row_walk, row_of, default_of, library_key, same_word}
use Rattle.app_machine.specs.Sound.{SoundApp}
use Rattle.fact_rows.specs.declared.context.Ctx.{Ctx}
use Rattle.fact_rows.specs.declared.context.Ctx.TheVariants as ctx
use Rattle.fact_rows.specs.declared.context.Node.{Node}
use Rattle.fact_rows.specs.declared.row.Row.{Row}
use Rattle.fact_rows.specs.InApp.{EntersAt, at_call, at_new, at_get, at_put, CtxIn, ActivationIn, NodeIn, SummaryIn, is_result, is_exception, InApp}
use Rattle.flow_rules.specs.Nodes.{pushed, callee}
use Rattle.flow_rules.specs.CallRules as rule
use Rattle.flow_rules.specs.Rules.{Each}
use Rattle.flow_proof.proofs.Places.{entry_in, next_in, caught_in, argument_in}

-- an instruction before which an initialiser may run is one at which methods are entered
pub initialises_at : {app : App} {method pc body : ℕ} → Initialises app method pc body → EntersAt app method pc
unfolding initialisers class_initialised
initialises_at {app} {method} {pc} {body} is_one = by_act is_one.act is_one.at is_one.is_one
  where
    by_act : (act : Act) → ActAt app method pc act → In body (initialisers app act) → EntersAt app method pc
    by_act (New d class size) at h = at_new at
    by_act (GetStatic ds g) at h = at_get at
    by_act (PutStatic g x) at h = at_put at
    by_act (Call Static ref args) at h = at_call at
    by_act act at h = absurd h

-- what the lists have for a call is a row of theirs, or a default of a class
key_in : (app : App) (lists : Lists) (class name : Name) (proto : Proto) (is_static : Bool) {key : SummaryId} →
    library_key app lists class name proto is_static ≡ Some key → SummaryIn lists key
unfolding library_key row_of default_of
key_in app lists class name proto is_static {key} is_key =
    by_row (first_given (λ above. row_of lists above name proto is_static) (row_walk app lists class)) refl is_key
  where
    defaults : Option ℕ
    defaults = first_given (λ above. default_of lists above) (row_walk app lists class)

    by_default : (o : Option ℕ) → defaults ≡ o → option_map (λ i. Fallback i) o ≡ Some key → SummaryIn lists key
    by_default None is e = absurd (none-some key e)
    by_default (Some i) is e =
        let given = given_found (λ above. default_of lists above) (row_walk app lists class) i is in
        let found = index_found (λ (c : LibClass). same_name c.name given.0 && is_some c.fallback) lists.classes i given.2 in
        let word = some_of found.0.fallback (and_parts (same_name found.0.name given.0) (is_some found.0.fallback) found.2).1 in
        subst (λ k. SummaryIn lists k) (same_Some (Fallback i) key e) (found.0, record { there = found.1 }, word)

    by_row : (o : Option ℕ) → first_given (λ above. row_of lists above name proto is_static) (row_walk app lists class) ≡ o →
        (elim o [ Some i ↦ Some (RowOf i) | None ↦ option_map (λ i. Fallback i) defaults ]) ≡ Some key → SummaryIn lists key
    by_row None is e = by_default defaults refl e
    by_row (Some i) is e =
        let given = given_found (λ above. row_of lists above name proto is_static) (row_walk app lists class) i is in
        let below =
        index_below (λ (s : Summary). same_name s.class given.0 && same_name s.name name && same_proto s.proto proto && same_word s.is_static is_static) lists.methods i given.2 in
        subst (λ k. SummaryIn lists k) (same_Some (RowOf i) key e) below

module _ (app : App) (lists : Lists) (sound : SoundApp app) where
  callee_context : (c : Ctx) (method pc : ℕ) → CtxIn app lists c → EntersAt app method pc → CtxIn app lists (pushed c method pc)
  unfolding pushed
  callee_context (ctx.Call last at) method pc before enters = (enters, before)
  callee_context (ctx.Call2 last at m at_m) method pc before enters = (enters, before.0)
  callee_context event method pc before enters = enters

  pub callee_in : {n : Node} {body : ℕ} {m : Method} → NodeIn app lists n → EntersAt app n.by.method n.pc → HasCode app body m →
      ActivationIn app lists (callee n body)
  callee_in {n} {body} {m} node at code =
      record { context = callee_context n.by.ctx n.by.method n.pc node.activation.context at; method = slice_get_within app.methods body m code.there }

  pub entered_in : {n : Node} {body : ℕ} {row : Row} → NodeIn app lists n → EntersAt app n.by.method n.pc → rule.Enters app n body row →
      InApp app lists row
  entered_in node at (rule.calls_it code) = (node, (callee_in node at code, tt))
  entered_in node at (rule.is_called code) = (callee_in node at code, (node, tt))
  entered_in node at (rule.reaches_it code) = (entry_in sound (callee_in node at code) code, tt)
  entered_in node at (rule.is_native native) = (node, ((omega arith, omega arith), tt))

  pub looked_in : {n : Node} {kind : CallKind} {at : MethodRef} {class : Name} {row : Row} → NodeIn app lists n →
      rule.LooksUp app lists n kind at class row → InApp app lists row
  looked_in node (rule.finds_none none) = (node, ((omega arith, omega arith), tt))
  looked_in node (rule.finds_reflection is_key is_row reflects) = (node, ((omega arith, omega arith), tt))
  looked_in node (rule.finds_row is_key is_row plain) = (node, (key_in app lists _ _ _ _ is_key, tt))

  pub call_in : {number : ℕ} {premises : List Row} {row : Row} → rule.CallRule app lists number premises row →
      Each (InApp app lists) premises → InApp app lists row
  call_in (rule.enter_direct acts plain goes enters) h = entered_in h.0.0 (at_call acts) enters
  call_in (rule.enter_class acts virtual is_first of_class goes enters) h = entered_in h.0.0 (at_call acts) enters
  call_in (rule.enter_receiver acts virtual is_first of_class goes argument) h =
      (entry_in sound (callee_in h.0.0 (at_call acts) argument.has) argument.has, (argument_in sound argument, (h.0.1.1.0, tt)))
  call_in (rule.pass_points i acts is_argument plain other argument) h =
      (entry_in sound h.0.1.0 argument.has, (argument_in sound argument, (h.1.0.1.1.0, tt)))
  call_in (rule.pass_taint i acts is_argument other argument) h =
      (entry_in sound h.0.1.0 argument.has, (argument_in sound argument, (h.1.0.1.1.0, (h.1.0.1.1.1.0, tt))))
  call_in (rule.returned_points goes) h = (next_in sound h.1.0.1.0 goes, (is_result refl, (h.0.1.1.0, tt)))
  call_in (rule.returned_taint goes) h = (next_in sound h.1.0.1.0 goes, (is_result refl, (h.0.1.1.0, (h.0.1.1.1.0, tt))))
  call_in (rule.caught_points caught) h = (caught_in sound h.1.0.1.0 caught, (is_exception refl, (h.0.1.1.0, tt)))
  call_in (rule.caught_taint caught) h = (caught_in sound h.1.0.1.0 caught, (is_exception refl, (h.0.1.1.0, (h.0.1.1.1.0, tt))))
  call_in rule.unwound_points h = (h.1.0.1.0.activation, (omega arith, (h.0.1.1.0, tt)))
  call_in rule.unwound_taint h = (h.1.0.1.0.activation, (omega arith, (h.0.1.1.0, (h.0.1.1.1.0, tt))))
  call_in (rule.use_by_name acts goes looks) h = looked_in h.0.0 looks
  call_in (rule.use_by_class acts virtual is_first of_class goes looks) h = looked_in h.0.0 looks
  call_in (rule.enter_initialiser is_one enters) h = entered_in h.0.0 (initialises_at is_one) enters
  call_in (rule.initialiser_taint is_one) h = (h.1.1.0.0, (h.1.1.0.1.0, (h.0.1.1.0, (h.0.1.1.1.0, tt))))
